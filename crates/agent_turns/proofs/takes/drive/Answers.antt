use Rattle.std.proofs.Common.{◌∷◌}
use Rattle.agent_turns.proofs.DriveLemmas.{driven}
use Rattle.agent_turns.proofs.takes.drive.Goals as goal

pub returns : goal.returns
returns c = λ H stands.
    let t = c.in_ok-replies.ensures (c.args.event.now ∷ H) (c.in_ok-step.ensures.stands H stands) in
    driven c.args.event.now H c.take_all.new.agent c.ask_all.new.agent _ _ t (c.in_ok-questions.ensures _ t.stands)
