use Rattle.std.proofs.lemmas.Bool.{false≢true}
use Rattle.agent_turns.proofs.TakeLemmas.{takes_none, takes_one}
use Rattle.agent_turns.proofs.takes.take_next.Goals as goal

pub returns-in_default : goal.returns-in_default
returns-in_default c = record {
  takes = λ H stands. takes_none H c.in_ok-answer.answer _ _ _ c.step.new.self (c.in_ok-answer.ensures.answer H stands) c.in_default.not-Reply (c.in_ok-answer.ensures.stands H stands);
  fewer = λ e. absurd (false≢true e);
}

pub returns-clause-takes : goal.returns-clause-takes
returns-clause-takes c = λ H stands. takes_one H c.in_ok-answer.answer _ _ _ _ c.step.new.self (c.in_ok-answer.ensures.answer H stands) c.in-Reply.is c.new-frame.ensures (c.in_ok-push.ensures.ok) (c.in_ok-answer.ensures.stands H stands)
