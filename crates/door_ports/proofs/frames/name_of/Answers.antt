use Rattle.std.proofs.Common.{refl}
use Rattle.std.specs.Str.{is_utf8, chars}
use lib.Utf8.{encode}
use Rattle.wire_base.specs.Texts.{is_text}
use Rattle.door_ports.proofs.frames.name_of.Goals as goal

pub fixed-requires : goal.fixed-requires
unfolding is_text is_utf8 chars encode
fixed-requires c = refl

pub fixed-requires-in-Rpc : goal.fixed-requires-in-Rpc
unfolding is_text is_utf8 chars encode
fixed-requires-in-Rpc c = refl
