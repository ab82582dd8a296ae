-- Of the code alone: what stands at the front, as the code says it.
use Rattle.nine.specs.Streams.{Front, IsWhole, IsBad, IsShort}
use Rattle.nine.specs.declared.front.AtFront.{AtFront}
use Rattle.nine.specs.declared.front.AtFront.TheVariants.{Frame, Bad, Part}

abbrev pub shown : AtFront → Front
shown (Frame length) = IsWhole length
shown (Bad size) = IsBad size
shown Part = IsShort
