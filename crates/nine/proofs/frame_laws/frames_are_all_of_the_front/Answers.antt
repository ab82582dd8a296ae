use Rattle.nine.proofs.StreamLaws.{each_within, all_of_front}
use Rattle.nine.proofs.frame_laws.frames_are_all_of_the_front.Goals as goal

pub returns-clause-each : goal.returns-clause-each
returns-clause-each c = each_within

pub returns-clause-all : goal.returns-clause-all
returns-clause-all c = all_of_front
