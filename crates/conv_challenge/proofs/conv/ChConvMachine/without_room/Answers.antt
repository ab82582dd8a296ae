use Rattle.roles.specs.Talks.{roomless}
use Rattle.conv_challenge.proofs.StandLemmas.{stands_on, answers_on}
use Rattle.conv_challenge.proofs.conv.ChConvMachine.without_room.Goals as goal

pub returns-clause-told : goal.returns-clause-told
returns-clause-told c = answers_on c.args.self.now c.take_roomless.result roomless c.take_roomless.ensures.answer

pub returns-clause-kept : goal.returns-clause-kept
returns-clause-kept c = stands_on c.args.self.now c.take_roomless.new.self roomless c.take_roomless.ensures.follows
