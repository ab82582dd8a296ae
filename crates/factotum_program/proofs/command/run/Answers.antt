use Rattle.factotum_program.proofs.ApartWords.{authsrv_or_gen, pipe_or_gen, world_or_gen}
use Rattle.factotum_program.proofs.CommandWords.{dom_given, only_memory, pipe_is_command, usage_alone}
use Rattle.factotum_program.proofs.PipeLemmas.{memory_first}
use Rattle.world_program.proofs.GivenLemmas.{few_rounds}
use Rattle.factotum_program.proofs.command.run.Goals as goal

pub serve-requires : goal.serve-requires
serve-requires g c =
    let t = rw c.in-Ok-Authsrv.field-0-is at c.in-Ok-Authsrv.ensures.ok in
    dom_given c.args.words.now c.in-Ok-Authsrv.given t.0 t.1

pub play_gen-requires : goal.play_gen-requires
play_gen-requires g c = few_rounds c.args.words.now c.in-Ok-Gen.given (rw c.in-Ok-Gen.field-0-is at c.in-Ok-Gen.ensures.ok)

pub returns-clause-usage : goal.returns-clause-usage
returns-clause-usage g c = λ e. usage_alone c.args.words.now c.in-Err.status c.in-Err.ensures.err e

pub returns-clause-piped : goal.returns-clause-piped
returns-clause-piped g c = λ p.
    rw (only_memory c.args.words.now c.in-Err.status c.in-Err.ensures.err (pipe_is_command c.args.words.now p)) (memory_first _ _)

pub returns-in-Ok-World-clause-summed : goal.returns-in-Ok-World-clause-summed
returns-in-Ok-World-clause-summed g c = λ given is. world_or_gen c.args.words.now given (rw c.in-Ok-World.field-0-is at c.in-Ok-World.ensures.ok) is

pub returns-in-Ok-Pipe-clause-summed : goal.returns-in-Ok-Pipe-clause-summed
returns-in-Ok-Pipe-clause-summed g c = λ given is. pipe_or_gen c.args.words.now given (rw c.in-Ok-Pipe.field-0-is at c.in-Ok-Pipe.ensures.ok).0 is

pub returns-in-Ok-Authsrv-clause-summed : goal.returns-in-Ok-Authsrv-clause-summed
returns-in-Ok-Authsrv-clause-summed g c = λ given is. authsrv_or_gen c.args.words.now given (rw c.in-Ok-Authsrv.field-0-is at c.in-Ok-Authsrv.ensures.ok).0 is
