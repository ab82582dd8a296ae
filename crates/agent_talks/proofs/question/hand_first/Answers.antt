use Rattle.std.proofs.Common.{false, refl, sym, ◌∙◌}
use Rattle.agent_talks.proofs.AskLemmas.{handed_at, handed_none}
use Rattle.agent_talks.proofs.question.hand_first.Goals as goal

pub returns-in-Some : goal.returns-in-Some
returns-in-Some c = handed_at c.args.questions.now _ (record { call = 0; conv = 0; handed = false }) c.in-Some.at (sym c.in-Some.is ∙ c.find_place.ensures) refl

pub returns-in-None : goal.returns-in-None
returns-in-None c = handed_none c.args.questions.now (sym c.in-None.is ∙ c.find_place.ensures)
