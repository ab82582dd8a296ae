use Rattle.std.proofs.Common.{◌∷◌, subst}
use Rattle.world_history.specs.Acts.{Act}
use Rattle.world_history.specs.Worlds.{steps}
use Rattle.world_run.specs.Standing.{StandsWith}
use Rattle.world_run.proofs.NotingLemmas.{acts_same}
use Rattle.world_run.proofs.run.Run.do_noted.Goals as goal

pub returns-clause-noted : goal.returns-clause-noted
returns-clause-noted c = λ number acts act stands fits h.
    let d = c.in_ok-steps.ensures.carried number acts stands in
    c.in_ok-note_text.ensures number acts act (steps acts) fits (subst (λ (a : Act). StandsWith c.args.left.now (a ∷ acts) (steps acts) c.do_text.new.self) (acts_same d.act act _ d.fits fits) d.stands) h
