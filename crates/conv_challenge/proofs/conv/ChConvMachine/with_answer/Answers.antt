use Rattle.roles.specs.Talks.{heard}
use Rattle.conv_challenge.proofs.StandLemmas.{tells, keeps}
use Rattle.conv_challenge.proofs.conv.ChConvMachine.with_answer.Goals as goal

pub returns-clause-told : goal.returns-clause-told
returns-clause-told c = tells c.args.self.now c.take_heard.new.self c.take_heard.result (heard c.args.answer.now) c.take_heard.ensures

pub returns-clause-kept : goal.returns-clause-kept
returns-clause-kept c = keeps c.args.self.now c.take_heard.new.self c.take_heard.result (heard c.args.answer.now) c.take_heard.ensures

pub returns-clause-unchanged : goal.returns-clause-unchanged
returns-clause-unchanged c = c.take_heard.ensures.unchanged
