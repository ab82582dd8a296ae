use Rattle.std.proofs.Common.{refl, ◌∙◌}
use Rattle.std.proofs.lemmas.Result.{IfOk-weaker}
use Rattle.std.specs.Str.{is_utf8, chars}
use lib.Utf8.{encode}
use Rattle.wire_base.specs.Texts.{is_text}
use Rattle.door_ports.proofs.WalkLemmas.{attach_is, attach_short}
use Rattle.door_ports.proofs.frames.attaches.Goals as goal

pub fixed-requires : goal.fixed-requires
unfolding is_text is_utf8 chars encode
fixed-requires c = refl

pub fixed-requires-2 : goal.fixed-requires-2
unfolding is_text is_utf8 chars encode
fixed-requires-2 c = refl

pub under-requires-clause-short : goal.under-requires-clause-short
under-requires-clause-short c = attach_short _ _ c.in_ok-fixed.ensures c.in_ok-fixed-2.ensures

pub returns-clause-is : goal.returns-clause-is
returns-clause-is c = IfOk-weaker c.under.result _ _ (λ frame is. is ∙ attach_is _ _ c.in_ok-fixed.ensures c.in_ok-fixed-2.ensures) c.under.ensures.is
