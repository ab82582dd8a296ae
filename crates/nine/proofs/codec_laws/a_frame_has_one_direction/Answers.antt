use Rattle.nine.proofs.FrameLemmas.{one_direction}
use Rattle.nine.proofs.codec_laws.a_frame_has_one_direction.Goals as goal

pub returns : goal.returns
returns c = one_direction
