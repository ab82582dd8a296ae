use Rattle.std.proofs.Common.{sym, ◌∙◌}
use Rattle.wire_base.proofs.ReaderLaws.{ok_is}
use Rattle.nine.proofs.ReplyLaws.{reply_taken, reply_again}
use Rattle.nine.proofs.FrameLemmas.{each_byte, reply_whole}
use Rattle.nine.proofs.codec_laws.replies_are_read_as_they_are_spelled.Goals as goal

pub returns-clause-read : goal.returns-clause-read
returns-clause-read c bytes m small whole = (reply_taken bytes m (each_byte bytes small) whole, reply_again bytes m)

pub returns-clause-one : goal.returns-clause-one
returns-clause-one c bytes m n p q = ok_is m n (sym (reply_again bytes m p) ∙ reply_again bytes n q)

pub returns-clause-whole : goal.returns-clause-whole
returns-clause-whole c = reply_whole
