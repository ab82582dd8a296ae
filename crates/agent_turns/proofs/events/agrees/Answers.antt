use Rattle.std.proofs.Common.{length, refl, ap, arith}
use Rattle.std.specs.Str.{is_utf8, chars}
use lib.Utf8.{encode}
use Rattle.wire_base.specs.Texts.{is_text}
use Rattle.nine.specs.Messages.{frame}
use Rattle.agent_turns.proofs.events.agrees.Goals as goal

pub fixed-requires : goal.fixed-requires
unfolding is_text is_utf8 chars encode
fixed-requires c = refl

pub asking-requires-clause-short : goal.asking-requires-clause-short
unfolding frame
asking-requires-clause-short c = omega (arith, ap length c.in_ok-fixed.ensures)
