use Rattle.roles.specs.Talks.{get}
use Rattle.conv_challenge.proofs.StandLemmas.{tells, keeps, puts}
use Rattle.conv_challenge.proofs.conv.ChConvMachine.get.Goals as goal

pub returns-clause-told : goal.returns-clause-told
returns-clause-told c = tells c.args.self.now c.take_got.new.self c.take_got.result get c.take_got.ensures.follows

pub returns-clause-kept : goal.returns-clause-kept
returns-clause-kept c = keeps c.args.self.now c.take_got.new.self c.take_got.result get c.take_got.ensures.follows

pub returns-clause-unchanged : goal.returns-clause-unchanged
returns-clause-unchanged c = c.take_got.ensures.follows.unchanged

pub returns-clause-put : goal.returns-clause-put
returns-clause-put c = puts c.args.self.now c.take_got.result get c.args.out.now c.take_got.new.out c.take_got.ensures.put
