use Rattle.std.proofs.Common.{◌≡◌, ◌++◌, take}
use Rattle.std.specs.List.{flat_map}
use Rattle.key_lists.specs.Lists.{KeyEntry}
use Rattle.key_lists.specs.Listing.{key_text}
use Rattle.key_ring.proofs.ring.append_keys.Given as goal

-- the lines so far
abbrev pub invariant-loop-key : goal.invariant-loop-key
invariant-loop-key l = l.out ≡ l.fn.out ++ flat_map (λ (key : KeyEntry). key_text key.tuple) (take l.key-index l.keys)
