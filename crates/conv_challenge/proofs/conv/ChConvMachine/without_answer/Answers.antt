use Rattle.roles.specs.Talks.{unheard}
use Rattle.conv_challenge.proofs.StandLemmas.{stands_on, answers_on}
use Rattle.conv_challenge.proofs.conv.ChConvMachine.without_answer.Goals as goal

pub returns-clause-told : goal.returns-clause-told
returns-clause-told c = answers_on c.args.self.now c.take_unheard.result unheard c.take_unheard.ensures.answer

pub returns-clause-kept : goal.returns-clause-kept
returns-clause-kept c = stands_on c.args.self.now c.take_unheard.new.self unheard c.take_unheard.ensures.follows
