use Rattle.agent_turns.proofs.AskLemmas.{asks_none, asks_drop, asks_one, hands_none}
use Rattle.agent_turns.proofs.takes.ask_next.Goals as goal

pub returns-in-DropCall-clause-asks : goal.returns-in-DropCall-clause-asks
returns-in-DropCall-clause-asks c = λ H stands. asks_drop H c.in-DropCall.conv _ _ _ c.step.new.self (rw c.in-DropCall.is at c.in_ok-next.ensures.answer H stands) (c.in_ok-next.ensures.stands H stands)

pub returns-in_default-next-clause-asks : goal.returns-in_default-next-clause-asks
returns-in_default-next-clause-asks c = λ H stands. asks_none H c.in_ok-next.next _ _ _ c.step.new.self (c.in_ok-next.ensures.answer H stands) (hands_none c.in_ok-next.next c.in_default.not-DropCall c.in_default-next.not-Ask) (c.in_ok-next.ensures.stands H stands)

pub returns-clause-asks : goal.returns-clause-asks
returns-clause-asks c = λ H stands. asks_one H c.in-Ask.call c.in-Ask.conv c.in-Ask.shape _ _ _ _ c.step.new.self (rw c.in-Ask.is at c.in_ok-next.ensures.answer H stands) c.new-bytes.ensures c.in_ok-push.ensures.ok (c.in_ok-next.ensures.stands H stands)
