use Rattle.world_history.specs.Acts.{Reloaded}
use Rattle.world_scripts.specs.Lines as l
use Rattle.world_run.proofs.LineLemmas.{reloaded_judged}
use Rattle.world_run.proofs.RunLemmas.{done_as, line_judged}
use Rattle.world_run.proofs.NameLemmas.{reloaded_done}
use Rattle.world_run.proofs.run.Run.reload.Goals as goal

pub returns-clause-carried : goal.returns-clause-carried
returns-clause-carried c = λ before acts is h.
    done_as c.args.left.now acts _ _ c.in_ok-steps.steps.items _ is
    (reloaded_done before c.args.left.now acts c.args.self.now c.read_again.new.self c.in_ok-steps.steps.items is
    (line_judged acts _ l.Reload Reloaded is (reloaded_judged acts)) h c.in_ok-steps.ensures c.in_ok-read_again.ensures.told)
