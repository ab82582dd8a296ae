use Rattle.std.proofs.Common.{length, refl, ap, arith}
use Rattle.std.specs.Str.{is_utf8, chars}
use lib.Utf8.{encode}
use Rattle.wire_base.specs.Texts.{is_text}
use Rattle.nine.specs.Messages.{frame}
use Rattle.door_ports.proofs.frames.agrees.Goals as goal

pub fixed-requires : goal.fixed-requires
unfolding is_text is_utf8 chars encode
fixed-requires c = refl

pub under-requires-clause-short : goal.under-requires-clause-short
unfolding frame
under-requires-clause-short c = omega (arith, ap length c.in_ok-fixed.ensures)
