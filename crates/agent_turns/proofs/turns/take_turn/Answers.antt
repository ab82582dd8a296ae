-- each turn is what its own function does
use Rattle.agent_turns.proofs.turns.take_turn.Goals as goal

pub returns-in-Tell : goal.returns-in-Tell
returns-in-Tell c = rw c.in-Tell.is c.tell.ensures

pub returns-in-Ask : goal.returns-in-Ask
returns-in-Ask c = rw c.in-Ask.is c.ask.ensures

pub returns-in-Hear : goal.returns-in-Hear
returns-in-Hear c = rw c.in-Hear.is c.hear.ensures

pub returns-in-Miss : goal.returns-in-Miss
returns-in-Miss c = rw c.in-Miss.is c.miss.ensures

pub returns-in-Close : goal.returns-in-Close
returns-in-Close c = rw c.in-Close.is c.close.ensures
