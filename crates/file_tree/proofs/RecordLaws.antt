-- A file's record by its parts, and its size.
use Rattle.std.proofs.Common.{◌≡◌, ◌≤◌, ◌+◌, ◌-◌, ℕ, List, [], ◌∷◌, ◌++◌, length, take, refl, ap, ◌∙◌, append_assoc, lit≤}
use Rattle.std.specs.Prelude.{codes}
use Rattle.std.specs.Int.{w16, w32, w64, to_le_bytes}
use Rattle.wire_base.specs.Readers.{spelled}
use Rattle.file_tree.specs.declared.tree.Node.{Node}
use Rattle.file_tree.specs.declared.tree.Node.TheVariants.{Root, Factotum, Rpc, Ctl, Confirm, Needkey, Proto, Log}
use Rattle.file_tree.specs.Tree.{file}
use Rattle.file_tree.specs.Stats.{record_of, stat_text, stat_fields}
use Rattle.file_tree.specs.Directories.{size_of}

pub size_is : (node : Node) → 73 + length (file node).name ≡ size_of node
unfolding record_of stat_text stat_fields
size_is Root = refl
size_is Factotum = refl
size_is Rpc = refl
size_is Ctl = refl
size_is Confirm = refl
size_is Needkey = refl
size_is Proto = refl
size_is Log = refl

pub size_small : (node : Node) → size_of node ≤ 81
unfolding record_of stat_text stat_fields
size_small Root = lit≤ tt
size_small Factotum = lit≤ tt
size_small Rpc = lit≤ tt
size_small Ctl = lit≤ tt
size_small Confirm = lit≤ tt
size_small Needkey = lit≤ tt
size_small Proto = lit≤ tt
size_small Log = lit≤ tt

abbrev pub owners : List ℕ
owners = spelled (codes "factotum") ++ spelled (codes "factotum") ++ spelled (codes "factotum")

pub record_parts : (node : Node) → take 41 (record_of node) ++ spelled (file node).name ++ owners ≡ record_of node
unfolding record_of stat_text stat_fields
record_parts Root = refl
record_parts Factotum = refl
record_parts Rpc = refl
record_parts Ctl = refl
record_parts Confirm = refl
record_parts Needkey = refl
record_parts Proto = refl
record_parts Log = refl

-- the fields of a fixed size, as they are written
abbrev pub fixed : (size kind path mode : ℕ) → List ℕ
fixed size kind path mode =
    to_le_bytes w16 size
    ++ (0 ∷ 0 ∷ 0 ∷ 0 ∷ 0 ∷ 0 ∷ kind ∷ 0 ∷ 0 ∷ 0 ∷ 0 ∷ [])
    ++ to_le_bytes w64 path
    ++ to_le_bytes w32 mode
    ++ (0 ∷ 0 ∷ 0 ∷ 0 ∷ 0 ∷ 0 ∷ 0 ∷ 0 ∷ 0 ∷ 0 ∷ 0 ∷ 0 ∷ 0 ∷ 0 ∷ 0 ∷ 0 ∷ [])

pub front_is : (node : Node) → fixed (size_of node - 2) (file node).kind (file node).path (file node).mode ≡ take 41 (record_of node)
unfolding record_of stat_text stat_fields
front_is Root = refl
front_is Factotum = refl
front_is Rpc = refl
front_is Ctl = refl
front_is Confirm = refl
front_is Needkey = refl
front_is Proto = refl
front_is Log = refl

-- the parts, written one behind the other
pub spelled_in_parts : (old a b c : List ℕ) (node : Node) → a ≡ old ++ take 41 (record_of node) → b ≡ a ++ spelled (file node).name → c ≡ b ++ owners → c ≡ old ++ record_of node
spelled_in_parts old a b c node p q r =
    let t = take 41 (record_of node) in
    let s = spelled (file node).name in
    r ∙ ap (λ (x : List ℕ). x ++ owners) (q ∙ ap (λ (x : List ℕ). x ++ s) p ∙ append_assoc old t s)
    ∙ append_assoc old (t ++ s) owners ∙ ap (λ (x : List ℕ). old ++ x) (record_parts node)

-- the record of ctl, byte by byte
ctl_record : record_of Ctl
    ≡ 0x4a ∷ 0 ∷ 0 ∷ 0 ∷ 0 ∷ 0 ∷ 0 ∷ 0 ∷ 0 ∷ 0 ∷ 0 ∷ 0 ∷ 0 ∷ 3 ∷ 0 ∷ 0 ∷ 0 ∷ 0 ∷ 0 ∷ 0 ∷ 0 ∷ 0x80 ∷ 1 ∷ 0 ∷ 0
    ∷ 0 ∷ 0 ∷ 0 ∷ 0 ∷ 0 ∷ 0 ∷ 0 ∷ 0 ∷ 0 ∷ 0 ∷ 0 ∷ 0 ∷ 0 ∷ 0 ∷ 0 ∷ 0
    ∷ 3 ∷ 0 ∷ codes "ctl" ++ 8 ∷ 0 ∷ codes "factotum" ++ 8 ∷ 0 ∷ codes "factotum" ++ 8 ∷ 0 ∷ codes "factotum"
unfolding record_of stat_text stat_fields
ctl_record = refl
