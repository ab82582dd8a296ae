use Rattle.std.proofs.Common.{length}
use Rattle.nine_print.proofs.value.+open_len.Given as goal

abbrev pub decreases-open_len : goal.decreases-open_len
decreases-open_len l = length l.bytes.now
