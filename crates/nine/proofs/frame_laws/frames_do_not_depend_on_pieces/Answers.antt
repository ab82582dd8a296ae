use Rattle.nine.proofs.StreamLaws.{handed_then, more_frames, bad_stays}
use Rattle.nine.proofs.frame_laws.frames_do_not_depend_on_pieces.Goals as goal

pub returns-clause-rest : goal.returns-clause-rest
returns-clause-rest c = handed_then

pub returns-clause-more : goal.returns-clause-more
returns-clause-more c = more_frames

pub returns-clause-bad : goal.returns-clause-bad
returns-clause-bad c = bad_stays
