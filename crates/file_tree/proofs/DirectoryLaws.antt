-- Reads of a directory: how far they come, and that one after the other they give its files in order.
use Rattle.std.proofs.Common.{◌≡◌, ◌≤◌, ◌<◌, ◌+◌, ◌-◌, ◌^◌, ℕ, List, [], ◌∷◌, ◌++◌, length, cond, eqb, leb, true, false, refl, sym, ap, ◌∙◌, append_assoc, append-nil, lit≤, arith, inl, inr, ◌⊎◌}
use Rattle.std.proofs.lemmas.Bool.{cases_Bool, eqb-true, ne_eqb, le-leb}
use Rattle.std.proofs.lemmas.Grind.{flat_map-append}
use Rattle.std.proofs.lemmas.List.{length-append}
use Rattle.file_tree.specs.declared.tree.Node.{Node}
use Rattle.file_tree.specs.declared.tree.Node.TheVariants.{Root, Factotum, Rpc, Ctl, Confirm, Needkey, Proto, Log}
use Rattle.file_tree.specs.Tree.{files_in}
use Rattle.file_tree.specs.Stats.{record_of, stat_text, stat_fields}
use Rattle.file_tree.specs.Directories.{size_of, behind, fitting, files_read, records, dir_bytes, dir_end, read_on}
use Rattle.file_tree.proofs.RecordLaws.{size_is}

-- ---- how far a read comes

records_of_fitting : (count : ℕ) (nodes : List Node) → length (records (fitting count nodes)) ≤ length (records nodes)
records_of_fitting count [] = lit≤ tt
records_of_fitting count (node ∷ nodes) =
    elim (leb (size_of node) count) as (λ b. length (records (cond b (node ∷ fitting (count - size_of node) nodes) [])) ≤ length (records (node ∷ nodes))) [
      | true ↦ omega (arith, records_of_fitting (count - size_of node) nodes, length-append (record_of node) (records nodes), length-append (record_of node) (records (fitting (count - size_of node) nodes)))
      | false ↦ omega arith
    ]

-- either nothing is left behind the offset, or what is left ends within the directory
abbrev Within : ℕ → List Node → List Node → Type 0
Within offset nodes left = (left ≡ []) ⊎ (offset + length (records left) ≤ length (records nodes))

later : (node : Node) (offset : ℕ) (nodes left : List Node) → Within (offset - size_of node) nodes left → Within offset (node ∷ nodes) left
later node offset nodes left (inl none) = inl none
later node offset nodes left (inr some) = inr (omega (arith, some, length-append (record_of node) (records nodes)))

behind_within : (offset : ℕ) (nodes : List Node) → Within offset nodes (behind offset nodes)
behind_within offset [] = inl refl
behind_within offset (node ∷ nodes) =
    elim (cases_Bool (eqb offset 0)) [
      | inl zero ↦ rw (zero, eqb-true offset 0 zero) (inr (omega arith))
      | inr more ↦ rw more (later node offset nodes (behind (offset - size_of node) nodes) (behind_within (offset - size_of node) nodes))
    ]

files_small : (node : Node) → length (records (files_in node)) ≤ 466
unfolding record_of stat_text stat_fields
files_small Root = lit≤ tt
files_small Factotum = lit≤ tt
files_small Rpc = lit≤ tt
files_small Ctl = lit≤ tt
files_small Confirm = lit≤ tt
files_small Needkey = lit≤ tt
files_small Proto = lit≤ tt
files_small Log = lit≤ tt

end_fits : (offset count : ℕ) (nodes left : List Node) → length (records nodes) ≤ 466 → offset < 2 ^ 64 → Within offset nodes left → offset + length (records (fitting count left)) < 2 ^ 64
end_fits offset count nodes left small fits (inl none) = rw none (omega arith)
end_fits offset count nodes left small fits (inr some) = omega (arith, some, records_of_fitting count left)

-- the offset behind a read is a number of 64 bits
pub dir_end_fits : (node : Node) (offset count : ℕ) → offset < 2 ^ 64 → dir_end node offset count < 2 ^ 64
unfolding dir_bytes
dir_end_fits node offset count fits = end_fits offset count (files_in node) (behind offset (files_in node)) (files_small node) fits (behind_within offset (files_in node))

-- ---- reads one after the other

size_pos : (node : Node) → 0 < size_of node
size_pos node = omega (arith, size_is node)

-- behind the records of the first files stand the others
pub behind_these : (these others : List Node) → behind (length (records these)) (these ++ others) ≡ others
behind_these [] [] = refl
behind_these [] (node ∷ others) = refl
behind_these (node ∷ these) others =
    let total = length (records (node ∷ these)) in
    let parts : total ≡ size_of node + length (records these) = length-append (record_of node) (records these) in
    let some : eqb total 0 ≡ false = ne_eqb total 0 (λ e. omega (arith, e, parts, size_pos node)) in
    let left : total - size_of node ≡ length (records these) = omega (arith, parts) in
    rw (some, left) (behind_these these others)

-- what fits is a front
pub fitting_front : (count : ℕ) (nodes : List Node) → (others : List Node) × (nodes ≡ fitting count nodes ++ others)
fitting_front count [] = ([], refl)
fitting_front count (node ∷ nodes) =
    elim (leb (size_of node) count) as (λ b. (others : List Node) × (node ∷ nodes ≡ cond b (node ∷ fitting (count - size_of node) nodes) [] ++ others)) [
      | true ↦ let rest = fitting_front (count - size_of node) nodes in (rest.0, ap (λ (ns : List Node). node ∷ ns) rest.1)
      | false ↦ (node ∷ nodes, refl)
    ]

-- a front of some files
abbrev IsFront : List Node → List Node → Type 0
IsFront front nodes = (others : List Node) × (front ++ others ≡ nodes)

-- reads from behind the records of the first files give a front of the others
read_on_front : (node : Node) (counts : List ℕ) (these others : List Node) → files_in node ≡ these ++ others → IsFront (read_on node (length (records these)) counts) others
unfolding dir_bytes
read_on_front node [] these others parts = (others, refl)
read_on_front node (count ∷ counts) these others parts =
    let begin = length (records these) in
    let given = fitting count others in
    let rest = fitting_front count others in
    let here : behind begin (files_in node) ≡ others = ap (λ (ns : List Node). behind begin ns) parts ∙ behind_these these others in
    let ended : begin + length (records given) ≡ length (records (these ++ given)) =
    sym (ap length (flat_map-append record_of these given) ∙ length-append (records these) (records given)) in
    let further = read_on_front node counts (these ++ given) rest.0 (parts ∙ ap (λ (ns : List Node). these ++ ns) rest.1 ∙ sym (append_assoc these given rest.0)) in
    (further.0, rw (here, ended) (append_assoc given (read_on node (length (records (these ++ given))) counts) further.0 ∙ ap (λ (ns : List Node). given ++ ns) further.1 ∙ sym rest.1))

pub reads_in_order : (node : Node) (counts : List ℕ) → (left : List Node) × (read_on node 0 counts ++ left ≡ files_in node)
reads_in_order node counts = read_on_front node counts [] (files_in node) refl

-- a count that holds the next record gives it
pub next_is_read : (node next : Node) (these others : List Node) (count : ℕ) → files_in node ≡ these ++ next ∷ others → size_of next ≤ count → (more : List Node) × (files_read node (length (records these)) count ≡ next ∷ more)
next_is_read node next these others count parts fits =
    let here : behind (length (records these)) (files_in node) ≡ next ∷ others = ap (λ (ns : List Node). behind (length (records these)) ns) parts ∙ behind_these these (next ∷ others) in
    (fitting (count - size_of next) others, rw (here, le-leb (size_of next) count fits) refl)

-- behind the last record nothing is left
pub end_is_empty : (node : Node) (count : ℕ) → dir_bytes node (length (records (files_in node))) count ≡ []
unfolding dir_bytes
end_is_empty node count =
    let here : behind (length (records (files_in node))) (files_in node) ≡ [] = ap (λ (ns : List Node). behind (length (records (files_in node))) ns) (sym (append-nil (files_in node))) ∙ behind_these (files_in node) [] in
    rw here refl
