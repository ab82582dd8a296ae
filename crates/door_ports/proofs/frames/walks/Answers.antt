use Rattle.std.proofs.Common.{refl, ◌∙◌}
use Rattle.std.proofs.lemmas.Result.{IfOk-weaker}
use Rattle.std.specs.Str.{is_utf8, chars}
use lib.Utf8.{encode}
use Rattle.wire_base.specs.Texts.{is_text}
use Rattle.door_ports.proofs.WalkLemmas.{both_names, walk_is, walk_short}
use Rattle.door_ports.proofs.frames.walks.Goals as goal

pub fixed-requires : goal.fixed-requires
unfolding is_text is_utf8 chars encode
fixed-requires c = refl

pub under-requires-clause-short : goal.under-requires-clause-short
under-requires-clause-short c = walk_short c.args.fid _ c.args.file (both_names _ _ _ _ _ c.args.file c.new-wname.ensures c.in_ok-push.ensures.ok c.in_ok-push-2.ensures.ok c.in_ok-fixed.ensures c.in_ok-name_of.ensures)

pub returns-clause-is : goal.returns-clause-is
returns-clause-is c =
    let way = both_names _ _ _ _ _ c.args.file c.new-wname.ensures c.in_ok-push.ensures.ok c.in_ok-push-2.ensures.ok c.in_ok-fixed.ensures c.in_ok-name_of.ensures in
    IfOk-weaker c.under.result _ _ (λ frame is. is ∙ walk_is c.args.fid _ c.args.file way) c.under.ensures.is
