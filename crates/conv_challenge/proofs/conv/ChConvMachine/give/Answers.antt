use Rattle.roles.specs.Talks.{give}
use Rattle.conv_challenge.proofs.StandLemmas.{tells, keeps}
use Rattle.conv_challenge.proofs.conv.ChConvMachine.give.Goals as goal

pub returns-clause-told : goal.returns-clause-told
returns-clause-told c = tells c.args.self.now c.take_given.new.self c.take_given.result (give c.args.bytes.now) c.take_given.ensures

pub returns-clause-kept : goal.returns-clause-kept
returns-clause-kept c = keeps c.args.self.now c.take_given.new.self c.take_given.result (give c.args.bytes.now) c.take_given.ensures

pub returns-clause-unchanged : goal.returns-clause-unchanged
returns-clause-unchanged c = c.take_given.ensures.unchanged
