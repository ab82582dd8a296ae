use Rattle.std.proofs.Common.{◌≡◌, drop}
use Rattle.side_files.specs.Replies.{tag_among}
use Rattle.side_files.proofs.reply.find_tag.Given as goal

abbrev pub invariant-loop-attr : goal.invariant-loop-attr
invariant-loop-attr l = tag_among (drop l.attr-index l.attrs) ≡ tag_among l.attrs
