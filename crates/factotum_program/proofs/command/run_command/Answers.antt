use Rattle.std.proofs.Common.{inl, inr}
use Rattle.factotum_program.proofs.CommandLemmas.{two_left}
use Rattle.auth_program.proofs.ServeLemmas.{served_to_end}
use Rattle.world_program.proofs.EndLemmas.{played_to_end, summed_to_end}
use Rattle.factotum_program.proofs.CommandWords.{any_printable}
use Rattle.factotum_program.proofs.command.run_command.Goals as goal

pub returns-clause-printable : goal.returns-clause-printable
returns-clause-printable g c =
    any_printable c.args.words.now c.run.result _ _ _ _ _ _ _ _ _ c.run.ensures.no_command c.run.ensures.piped c.run.ensures.served c.run.ensures.played c.run.ensures.summed

pub returns-clause-pipe_complete : goal.returns-clause-pipe_complete
returns-clause-pipe_complete g c = λ content is_pipe told whole few read write draw.
    two_left c.run.result content _ _ _ _ told whole few
    (λ e. read (c.run.ensures.pipe_fault is_pipe e)) (λ e. write (c.run.ensures.write_fault e)) (λ e. draw (c.run.ensures.word_fault e)) (c.run.ensures.piped is_pipe)

pub returns-clause-authsrv_complete : goal.returns-clause-authsrv_complete
returns-clause-authsrv_complete g c = λ is_authsrv servable input keys speaks output rand.
    served_to_end _ _ _ servable c.run.result (c.run.ensures.served is_authsrv)
    (λ e. elim (c.run.ensures.read_fault e) [ inl i ↦ input i | inr (inl k) ↦ keys k | inr (inr s) ↦ speaks s ])
    (λ e. output (c.run.ensures.write_fault e)) (λ e. rand (c.run.ensures.word_fault e))

pub returns-clause-world_complete : goal.returns-clause-world_complete
returns-clause-world_complete g c = λ is_world playable read write.
    played_to_end c.run.result _ _ _ _ playable (c.run.ensures.played is_world) (λ e. read (c.run.ensures.world_fault is_world e)) (λ e. write (c.run.ensures.write_fault e))

pub returns-clause-gen_complete : goal.returns-clause-gen_complete
returns-clause-gen_complete g c = λ given is write.
    summed_to_end c.run.result given.number given.rounds _ _ (c.run.ensures.summed given is) (λ e. write (c.run.ensures.write_fault e))
