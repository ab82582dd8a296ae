use Rattle.std.proofs.Common.{◌≡◌, take}
use Rattle.talks.specs.Sizes.{behind, others_text}
use Rattle.talks.proofs.size.spend_others.Given as goal

-- the attributes so far, each behind a blank
abbrev pub invariant-loop-attr : goal.invariant-loop-attr
invariant-loop-attr l = l.left ≡ behind l.fn.budget (others_text l.secrets (take l.attr-index l.attrs))
