use Rattle.std.proofs.Common.{◌≡◌, ℕ, List, sym, subst, rules}
use Rattle.world_run.specs.Runs.{RunsSo}
use Rattle.auth_program.specs.declared.status.Status.{Status}
use Rattle.world_program.specs.Playing.{WorldSo}
use Rattle.world_program.proofs.PlayLemmas.{run_ends, unread_ends, unread_wrote}
use Rattle.world_program.proofs.played.play_world.Goals as goal

pub returns-in-Ok-clause-ends : goal.returns-in-Ok-clause-ends
returns-in-Ok-clause-ends g c =
    let same : c.as_slice.result.now ≡ c.in-Ok.script.items = search rules in
    let end = c.run_world-end.result.1 in
    let recorded = c.run_world-end.result.0 in
    let so = subst (λ (s : List ℕ). RunsSo end s recorded (g.W.Sink.holds c.args.output.now) (g.W.Sink.holds c.run_world-end.new.sink)) same c.run_world-end.ensures.so in
    subst (λ (s : Status). WorldSo s (g.R.Source.left c.args.input.now) (g.R.Source.left c.read_file.new.file) (g.W.Sink.holds c.args.output.now) (g.W.Sink.holds c.run_world-end.new.sink)) (sym c.status_of.ensures)
    (run_ends end c.in-Ok.script.items recorded _ _ _ _ c.in-Ok.ensures.ok so)

pub returns-in-Err-clause-ends : goal.returns-in-Err-clause-ends
returns-in-Err-clause-ends g c = unread_ends c.in-Err.status _ _ _ c.in-Err.ensures.err

pub returns-in-Err-clause-write_fault : goal.returns-in-Err-clause-write_fault
returns-in-Err-clause-write_fault g c = λ e. absurd (unread_wrote c.in-Err.status _ _ c.in-Err.ensures.err e)
