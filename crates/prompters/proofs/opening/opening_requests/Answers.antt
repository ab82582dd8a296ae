use Rattle.std.proofs.Common.{refl}
use Rattle.nine.specs.Messages.{frame}
use Rattle.nine.specs.Streams.{front, frames}
use Rattle.prompters.proofs.opening.opening_requests.Goals as goal

pub returns : goal.returns
unfolding frame front frames
returns c = rw c.as_slice.ensures refl
