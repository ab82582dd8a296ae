-- What the lines of a text of labels read: each atom once. So atoms of a kind are apart exactly where the bytes that the lines
-- give them differ, and keys have seven bytes exactly where each line gives them seven.
use Rattle.std.proofs.Common.{◌≡◌, ◌↔◌, ℕ, List, [], ◌∷◌, ◌++◌, All, Some, None, Option, Bool, true, false, not, ◌&&◌, ◌||◌, if◌then◌else◌, inl, inr, sym, refl, subst, ap, ◌∙◌, append_assoc, length, ◌<◌, ◌+◌, drop, get_or, map, add-one, drop-cons, Bor, option_map}
use Rattle.std.proofs.lemmas.Bool.{and_parts, and_from, cases_Bool, false_from_ne_true, true≢false, not-true, eqb-true, eq-eqb}
use Rattle.std.proofs.lemmas.List.{get_or_default}
use Rattle.std.proofs.lemmas.List.Folds.{list_any-append}
use Rattle.std.proofs.lemmas.Map.Text.{is_eq-slice_cmp}
use Rattle.std.specs.BTreeMap.{is_at}
use Rattle.std.specs.Cmp.Lexicographic.{slice_cmp}
use Rattle.std.specs.Ordering.{nat_cmp}
use Rattle.std.specs.declared.cmp.Ordering.{Ordering}
use Rattle.std.proofs.lemmas.Slice.Eq.{bytes_eq-Decides}
use Rattle.std.specs.List.{list_any}
use Rattle.std.specs.Prelude.{◌==◌}
use Rattle.std.specs.Str.{bytes_eq}
use Rattle.symbolic_runs.specs.Trees.{Tree, is_atom, same_tree}
use Rattle.symbolic_runs.specs.Spellings.{Atoms, bytes_of, with_atom}
use Rattle.symbolic_runs.proofs.EqualityLaws.{equal_trees, tree_itself}
use Rattle.symbolic_runs.proofs.ReadingLaws.{changed_atom}
use Rattle.trace_labels.specs.declared.line.LabelLine.{LabelLine}
use Rattle.trace_labels.specs.Said.{said}
use Rattle.trace_labels.specs.Lines.{Line, compromised, holder, reading, label, proof}
use Rattle.trace_labels.specs.Labels.{AreLines, AreLinesBehind, is_repeated, repeats}
use Rattle.clean_runs.specs.Clean.{AreApart, GivesBytes, GivesSevens, is_key}
use Rattle.clean_runs.specs.ExampleStatements.{AreDifferent, IsNone}
use Rattle.clean_runs.proofs.Readings.{any_two, apart, texts}
use Rattle.trace_runs.specs.Readings.{AreSame, atoms_in, are_new, give_sevens, gives_seven, is_new, text_in, with_line, with_lines, with_text, OfText}

-- ---- a text of labels

-- atoms that stand once
abbrev pub AreOnce : Atoms → Type 0
AreOnce [] = Unit {0}
AreOnce (a ∷ others) = (is_atom a.0 ≡ true) × (bytes_of others a.0 ≡ None) × AreOnce others

-- what stands among the lines before isn't repeated
read_before : (front back : List Line) (x : Tree) (b : List ℕ) (atom : Tree) (bytes : List ℕ) → is_repeated (reading atom bytes) (front ++ reading x b ∷ back) ≡ false → same_tree atom x ≡ false
read_before front back x b atom bytes h = elim (cases_Bool (same_tree atom x)) [
  | inl same ↦ absurd (
      let p : Line → Bool = repeats (reading atom bytes) in
      let here : list_any p (reading x b ∷ back) ≡ true = rw same refl in
      let all : list_any p (front ++ reading x b ∷ back) ≡ true = list_any-append p front (reading x b ∷ back) ∙ (ap (λ (y : Bool). list_any p front || y) here ∙ or_true (list_any p front)) in
      true≢false (sym all ∙ h))
  | inr other ↦ other
]
  where
    or_true : (y : Bool) → (y || true) ≡ true
    or_true true = refl
    or_true false = refl

one_more : (front back : List Line) (line other : Line) → (front ++ line ∷ back) ++ other ∷ [] ≡ front ++ line ∷ (back ++ other ∷ [])
one_more front back line other = append_assoc front (line ∷ back) (other ∷ [])

-- an atom that was read isn't read again
not_again : (front back : List Line) (x : Tree) (b : List ℕ) (all : List (List ℕ)) (lines : List Line) → AreLinesBehind (front ++ reading x b ∷ back) all lines → bytes_of (atoms_in lines) x ≡ None
not_again front back x b all [] h = refl
not_again front back x b [] (line ∷ lines) h = absurd h
not_again front back x b (text ∷ all) (reading atom bytes ∷ lines) h =
    let other = read_before front back x b atom bytes h.1 in
    let rest : AreLinesBehind (front ++ reading x b ∷ (back ++ reading atom bytes ∷ [])) all lines = subst (λ (before : List Line). AreLinesBehind before all lines) (one_more front back (reading x b) (reading atom bytes)) h.2 in
    rw other (not_again front (back ++ reading atom bytes ∷ []) x b all lines rest)
not_again front back x b (text ∷ all) (compromised name ∷ lines) h =
    not_again front (back ++ compromised name ∷ []) x b all lines (subst (λ (before : List Line). AreLinesBehind before all lines) (one_more front back (reading x b) (compromised name)) h.2)
not_again front back x b (text ∷ all) (holder conv name ∷ lines) h =
    not_again front (back ++ holder conv name ∷ []) x b all lines (subst (λ (before : List Line). AreLinesBehind before all lines) (one_more front back (reading x b) (holder conv name)) h.2)
not_again front back x b (text ∷ all) (label place t ∷ lines) h =
    not_again front (back ++ label place t ∷ []) x b all lines (subst (λ (before : List Line). AreLinesBehind before all lines) (one_more front back (reading x b) (label place t)) h.2)
not_again front back x b (text ∷ all) (proof place steps ∷ lines) h =
    not_again front (back ++ proof place steps ∷ []) x b all lines (subst (λ (before : List Line). AreLinesBehind before all lines) (one_more front back (reading x b) (proof place steps)) h.2)

once_behind : (before : List Line) (all : List (List ℕ)) (lines : List Line) → AreLinesBehind before all lines → AreOnce (atoms_in lines)
once_behind before all [] h = tt
once_behind before [] (line ∷ lines) h = absurd h
once_behind before (text ∷ all) (reading atom bytes ∷ lines) h =
    (h.0.2.4, not_again before [] atom bytes all lines h.2, once_behind (before ++ reading atom bytes ∷ []) all lines h.2)
once_behind before (text ∷ all) (compromised name ∷ lines) h = once_behind (before ++ compromised name ∷ []) all lines h.2
once_behind before (text ∷ all) (holder conv name ∷ lines) h = once_behind (before ++ holder conv name ∷ []) all lines h.2
once_behind before (text ∷ all) (label place t ∷ lines) h = once_behind (before ++ label place t ∷ []) all lines h.2
once_behind before (text ∷ all) (proof place steps ∷ lines) h = once_behind (before ++ proof place steps ∷ []) all lines h.2

-- in a text of labels each atom stands once
pub once : (all : List (List ℕ)) (lines : List Line) → AreLines all lines → AreOnce (atoms_in lines)
once all lines h = once_behind [] all lines h

-- ---- atoms that stand once

-- what a later entry gives, the whole gives
later : (a : Tree × List ℕ) (atoms : Atoms) (other : Tree) (b : List ℕ) → bytes_of atoms a.0 ≡ None → bytes_of atoms other ≡ Some b → bytes_of (a ∷ atoms) other ≡ Some b
later a atoms other b none is = elim (cases_Bool (same_tree a.0 other)) [
  | inl same ↦ absurd (
      let gone : bytes_of atoms other ≡ None = subst (λ (x : Tree). bytes_of atoms x ≡ None) (equal_trees a.0 other same) none in
      let so : Some b ≡ None = sym is ∙ gone in
      cc)
  | inr differs ↦ rw differs is
]

here : (a : Tree × List ℕ) (atoms : Atoms) → bytes_of (a ∷ atoms) a.0 ≡ Some a.1
here a atoms = rw (tree_itself a.0) refl

-- bytes that no atom of a kind has stand nowhere among theirs
none_by : (kind : Tree → Bool) (b : List ℕ) (atoms : Atoms) → AreOnce atoms → ((other : Tree) → kind other ≡ true → bytes_of atoms other ≡ Some b → ⊥) → IsNone b (texts kind atoms)
none_by kind b [] o h = tt
none_by kind b (a ∷ atoms) o h =
    let rest : IsNone b (texts kind atoms) = none_by kind b atoms o.2 (λ other k is. h other k (later a atoms other b o.1 is)) in
    elim (cases_Bool (kind a.0)) [
      | inl is ↦ rw is ((λ same. h a.0 is (here a atoms ∙ ap Some (sym same))), rest)
      | inr other ↦ rw other rest
    ]

apart_behind : (kind : Tree → Bool) (a : Tree × List ℕ) (atoms : Atoms) → bytes_of atoms a.0 ≡ None → AreApart (a ∷ atoms) kind → AreApart atoms kind
apart_behind kind a atoms none h = λ x y text kx ky rx ry. h x y text kx ky (later a atoms x text none rx) (later a atoms y text none ry)

-- atoms that are apart have different bytes
pub differ : (kind : Tree → Bool) (atoms : Atoms) → AreOnce atoms → AreApart atoms kind → AreDifferent (texts kind atoms)
differ kind [] o h = tt
differ kind (a ∷ atoms) o h =
    let rest : AreDifferent (texts kind atoms) = differ kind atoms o.2 (apart_behind kind a atoms o.1 h) in
    elim (cases_Bool (kind a.0)) [
      | inl is ↦ rw is (
        none_by kind a.1 atoms o.2 (λ other k found.
            let same : a.0 ≡ other = h a.0 other a.1 is k (here a atoms) (later a atoms other a.1 o.1 found) in
            let gone : bytes_of atoms other ≡ None = subst (λ (x : Tree). bytes_of atoms x ≡ None) same o.1 in
            let so : Some a.1 ≡ None = sym found ∙ gone in
            cc),
        rest,
      )
      | inr other ↦ rw other rest
    ]

-- ---- the texts of lines

-- none of these was seen
abbrev AreUnseen : List (List ℕ) → List (List ℕ) → Type 0
AreUnseen seen [] = Unit {0}
AreUnseen seen (text ∷ more) = (list_any (bytes_eq text) seen ≡ false) × AreUnseen seen more

or_parts : (x y : Bool) → (x || y) ≡ false → (x ≡ false) × (y ≡ false)
or_parts true y h = absurd (true≢false h)
or_parts false y h = (refl, h)

or_from : (x y : Bool) → x ≡ false → y ≡ false → (x || y) ≡ false
or_from x y f g = rw f g

apart_texts : (a b : List ℕ) → bytes_eq a b ≡ false → b ≡ a → ⊥
apart_texts a b differ same = true≢false (sym ((bytes_eq-Decides a b).1 (sym same)) ∙ differ)

not_equal : (a b : List ℕ) → (b ≡ a → ⊥) → bytes_eq a b ≡ false
not_equal a b apart = false_from_ne_true (bytes_eq a b) (λ is. apart (sym ((bytes_eq-Decides a b).0 is)))

split_unseen : (text : List ℕ) (seen more : List (List ℕ)) → AreUnseen (text ∷ seen) more → IsNone text more × AreUnseen seen more
split_unseen text seen [] h = (tt, tt)
split_unseen text seen (other ∷ more) h =
    let parts = or_parts (bytes_eq other text) (list_any (bytes_eq other) seen) h.0 in
    let rest = split_unseen text seen more h.1 in
    ((apart_texts other text parts.0, rest.0), (parts.1, rest.1))

join_unseen : (text : List ℕ) (seen more : List (List ℕ)) → IsNone text more → AreUnseen seen more → AreUnseen (text ∷ seen) more
join_unseen text seen [] h u = tt
join_unseen text seen (other ∷ more) h u = (or_from (bytes_eq other text) (list_any (bytes_eq other) seen) (not_equal other text h.0) u.0, join_unseen text seen more h.1 u.1)

new_ones : (kind : Tree → Bool) (lines : List Line) (seen : List (List ℕ)) → are_new kind seen lines ≡ true → AreUnseen seen (texts kind (atoms_in lines)) × AreDifferent (texts kind (atoms_in lines))
new_ones kind [] seen h = (tt, tt)
new_ones kind (compromised name ∷ lines) seen h = new_ones kind lines seen h
new_ones kind (holder conv name ∷ lines) seen h = new_ones kind lines seen h
new_ones kind (label place t ∷ lines) seen h = new_ones kind lines seen h
new_ones kind (proof place steps ∷ lines) seen h = new_ones kind lines seen h
new_ones kind (reading atom bytes ∷ lines) seen h = elim (cases_Bool (kind atom)) [
  | inl is ↦ (
      let both : (not (list_any (bytes_eq bytes) seen) && are_new kind (bytes ∷ seen) lines) ≡ true = rw is at h in
      let parts = and_parts (not (list_any (bytes_eq bytes) seen)) (are_new kind (bytes ∷ seen) lines) both in
      let rest = new_ones kind lines (bytes ∷ seen) parts.1 in
      let split = split_unseen bytes seen (texts kind (atoms_in lines)) rest.0 in
      rw is ((not-true (list_any (bytes_eq bytes) seen) parts.0, split.1), (split.0, rest.1)))
  | inr other ↦ (
      let rest : are_new kind seen lines ≡ true = rw other at h in
      rw other (new_ones kind lines seen rest))
]

all_new : (kind : Tree → Bool) (lines : List Line) (seen : List (List ℕ)) → AreUnseen seen (texts kind (atoms_in lines)) → AreDifferent (texts kind (atoms_in lines)) → are_new kind seen lines ≡ true
all_new kind [] seen u d = refl
all_new kind (compromised name ∷ lines) seen u d = all_new kind lines seen u d
all_new kind (holder conv name ∷ lines) seen u d = all_new kind lines seen u d
all_new kind (label place t ∷ lines) seen u d = all_new kind lines seen u d
all_new kind (proof place steps ∷ lines) seen u d = all_new kind lines seen u d
all_new kind (reading atom bytes ∷ lines) seen u d = elim (cases_Bool (kind atom)) [
  | inl is ↦ (
      let unseen : AreUnseen seen (bytes ∷ texts kind (atoms_in lines)) = rw is at u in
      let all : AreDifferent (bytes ∷ texts kind (atoms_in lines)) = rw is at d in
      let first : not (list_any (bytes_eq bytes) seen) ≡ true = rw unseen.0 refl in
      rw is (and_from (not (list_any (bytes_eq bytes) seen)) (are_new kind (bytes ∷ seen) lines) first
      (all_new kind lines (bytes ∷ seen) (join_unseen bytes seen (texts kind (atoms_in lines)) all.0 unseen.1) all.1)))
  | inr other ↦ (
      let unseen : AreUnseen seen (texts kind (atoms_in lines)) = rw other at u in
      let all : AreDifferent (texts kind (atoms_in lines)) = rw other at d in
      rw other (all_new kind lines seen unseen all))
]

unseen_by_none : (more : List (List ℕ)) → AreUnseen [] more
unseen_by_none [] = tt
unseen_by_none (text ∷ more) = (refl, unseen_by_none more)

-- the test decides
pub decides_apart : (kind : Tree → Bool) (lines : List Line) (so : Bool) → so ≡ are_new kind [] lines → OfText lines ((so ≡ true) ↔ AreApart (atoms_in lines) kind)
decides_apart kind lines so e = λ all h. (
  (λ is. apart kind (atoms_in lines) (any_two kind (atoms_in lines) (new_ones kind lines [] (sym e ∙ is)).1)),
  (λ is. e ∙ all_new kind lines [] (unseen_by_none (texts kind (atoms_in lines))) (differ kind (atoms_in lines) (once all lines h) is)),
)

-- ---- one line more

same_new : (o : Option (List ℕ)) (seen others : List (List ℕ)) → AreSame seen others → is_new o seen ≡ is_new o others
same_new None seen others h = refl
same_new (Some text) seen others h = ap not (h text)

same_with : (o : Option (List ℕ)) (seen others : List (List ℕ)) → AreSame seen others → AreSame (with_text o seen) (with_text o others)
same_with None seen others h = h
same_with (Some text) seen others h = λ other. ap (λ (y : Bool). bytes_eq other text || y) (h other)

pub same_are_new : (kind : Tree → Bool) (lines : List Line) (seen others : List (List ℕ)) → AreSame seen others → are_new kind seen lines ≡ are_new kind others lines
same_are_new kind [] seen others h = refl
same_are_new kind (line ∷ lines) seen others h =
    let o = text_in kind line in
    let first = same_new o seen others h in
    let rest = same_are_new kind lines (with_text o seen) (with_text o others) (same_with o seen others h) in
    rw first (ap (λ (y : Bool). is_new o others && y) rest)

-- a new text
pub one_new : (kind : Tree → Bool) (line : Line) (lines : List Line) (seen others : List (List ℕ)) (o : Option (List ℕ)) → o ≡ text_in kind line → true ≡ is_new o seen → AreSame others (with_text o seen) → are_new kind others lines ≡ are_new kind seen (line ∷ lines)
one_new kind line lines seen others o e new same =
    let rest = same_are_new kind lines others (with_text o seen) same in
    rw (← e) (rest ∙ sym (ap (λ (y : Bool). y && are_new kind (with_text o seen) lines) (sym new)))

-- a text that was seen
pub one_old : (kind : Tree → Bool) (line : Line) (lines : List Line) (seen : List (List ℕ)) (o : Option (List ℕ)) → o ≡ text_in kind line → false ≡ is_new o seen → false ≡ are_new kind seen (line ∷ lines)
one_old kind line lines seen o e old =
    rw (← e) (ap (λ (y : Bool). y && are_new kind (with_text o seen) lines) old)

-- ---- keys of seven bytes

sevens_read : (lines : List Line) → give_sevens lines ≡ true → GivesSevens (atoms_in lines)
sevens_read [] h = λ key b is reads. absurd (let so : None ≡ Some b = reads in cc)
sevens_read (compromised name ∷ lines) h = sevens_read lines h
sevens_read (holder conv name ∷ lines) h = sevens_read lines h
sevens_read (label place t ∷ lines) h = sevens_read lines h
sevens_read (proof place steps ∷ lines) h = sevens_read lines h
sevens_read (reading atom bytes ∷ lines) h = λ key b is reads.
    let parts = and_parts (gives_seven (reading atom bytes)) (give_sevens lines) h in
    elim (cases_Bool (same_tree atom key)) [
      | inl same ↦ (
          let of_key : is_key atom ≡ true = subst (λ (x : Tree). is_key x ≡ true) (sym (equal_trees atom key same)) is in
          let seven : (length bytes == 7) ≡ true = rw of_key at parts.0 in
          let found : Some bytes ≡ Some b = rw same at reads in
          let value : bytes ≡ b = cc in
          ap length (sym value) ∙ eqb-true (length bytes) 7 seven)
      | inr other ↦ (
          let rest : bytes_of (atoms_in lines) key ≡ Some b = rw other at reads in
          sevens_read lines parts.1 key b is rest)
    ]

sevens_behind : (a : Tree × List ℕ) (atoms : Atoms) → bytes_of atoms a.0 ≡ None → GivesSevens (a ∷ atoms) → GivesSevens atoms
sevens_behind a atoms none h = λ key b is reads. h key b is (later a atoms key b none reads)

give_each_seven : (lines : List Line) → AreOnce (atoms_in lines) → GivesSevens (atoms_in lines) → give_sevens lines ≡ true
give_each_seven [] o h = refl
give_each_seven (compromised name ∷ lines) o h = give_each_seven lines o h
give_each_seven (holder conv name ∷ lines) o h = give_each_seven lines o h
give_each_seven (label place t ∷ lines) o h = give_each_seven lines o h
give_each_seven (proof place steps ∷ lines) o h = give_each_seven lines o h
give_each_seven (reading atom bytes ∷ lines) o h =
    let rest = give_each_seven lines o.2 (sevens_behind (atom, bytes) (atoms_in lines) o.1 h) in
    elim (cases_Bool (is_key atom)) [
      | inl key ↦ (
          let seven : (length bytes == 7) ≡ true = eq-eqb (length bytes) 7 (h atom bytes key (here (atom, bytes) (atoms_in lines))) in
          and_from (gives_seven (reading atom bytes)) (give_sevens lines) (rw key seven) rest)
      | inr other ↦ and_from (gives_seven (reading atom bytes)) (give_sevens lines) (rw other refl) rest
    ]

pub decides_sevens : (lines : List Line) (so : Bool) → so ≡ give_sevens lines → OfText lines ((so ≡ true) ↔ GivesSevens (atoms_in lines))
decides_sevens lines so e = λ all h. (
  (λ is. sevens_read lines (sym e ∙ is)),
  (λ is. e ∙ give_each_seven lines (once all lines h) is),
)

-- ---- the reading of all lines

put_behind : (atoms : Atoms) (atom : Tree) (b : List ℕ) → bytes_of atoms atom ≡ None → with_atom atom b atoms ≡ atoms ++ (atom, b) ∷ []
put_behind [] atom b none = refl
put_behind (a ∷ atoms) atom b none = elim (cases_Bool (same_tree a.0 atom)) [
  | inl same ↦ absurd (let so : Some a.1 ≡ None = rw same at none in cc)
  | inr other ↦ (
      let rest : bytes_of atoms atom ≡ None = rw other at none in
      rw other (ap (λ (more : Atoms). a ∷ more) (put_behind atoms atom b rest)))
]

-- an atom that isn't read before
not_behind : (atoms : Atoms) (x : Tree) (b : List ℕ) (more : Atoms) → AreOnce (atoms ++ (x, b) ∷ more) → bytes_of atoms x ≡ None
not_behind [] x b more o = refl
not_behind (a ∷ atoms) x b more o = elim (cases_Bool (same_tree a.0 x)) [
  | inl same ↦ absurd (
      let gone : bytes_of (atoms ++ (x, b) ∷ more) x ≡ None = subst (λ (y : Tree). bytes_of (atoms ++ (x, b) ∷ more) y ≡ None) (equal_trees a.0 x same) o.1 in
      stands atoms gone)
  | inr other ↦ rw other (not_behind atoms x b more o.2)
]
  where
    stands : (front : Atoms) → bytes_of (front ++ (x, b) ∷ more) x ≡ None → ⊥
    stands [] gone = let so : Some b ≡ None = rw (tree_itself x) at gone in cc
    stands (y ∷ front) gone = elim (cases_Bool (same_tree y.0 x)) [
      | inl same ↦ (let so : Some y.1 ≡ None = rw same at gone in cc)
      | inr other ↦ (let rest : bytes_of (front ++ (x, b) ∷ more) x ≡ None = rw other at gone in stands front rest)
    ]

is_atom_there : (atoms : Atoms) (x : Tree) (b : List ℕ) (more : Atoms) → AreOnce (atoms ++ (x, b) ∷ more) → is_atom x ≡ true
is_atom_there [] x b more o = o.0
is_atom_there (a ∷ atoms) x b more o = is_atom_there atoms x b more o.2

read_behind : (lines : List Line) (atoms : Atoms) → AreOnce (atoms ++ atoms_in lines) → with_lines lines atoms ≡ atoms ++ atoms_in lines
read_behind [] atoms o = sym (append_nil atoms)
  where
    append_nil : (xs : Atoms) → xs ++ [] ≡ xs
    append_nil [] = refl
    append_nil (x ∷ xs) = ap (λ (ys : Atoms). x ∷ ys) (append_nil xs)
read_behind (compromised name ∷ lines) atoms o = read_behind lines atoms o
read_behind (holder conv name ∷ lines) atoms o = read_behind lines atoms o
read_behind (label place t ∷ lines) atoms o = read_behind lines atoms o
read_behind (proof place steps ∷ lines) atoms o = read_behind lines atoms o
read_behind (reading atom bytes ∷ lines) atoms o =
    let is = is_atom_there atoms atom bytes (atoms_in lines) o in
    let put : with_line (reading atom bytes) atoms ≡ atoms ++ (atom, bytes) ∷ [] = rw is (put_behind atoms atom bytes (not_behind atoms atom bytes (atoms_in lines) o)) in
    let split : (atoms ++ (atom, bytes) ∷ []) ++ atoms_in lines ≡ atoms ++ (atom, bytes) ∷ atoms_in lines = append_assoc atoms ((atom, bytes) ∷ []) (atoms_in lines) in
    ap (with_lines lines) put ∙ (read_behind lines (atoms ++ (atom, bytes) ∷ []) (subst AreOnce (sym split) o) ∙ split)

pub read_whole : (lines : List Line) (atoms : Atoms) → atoms ≡ with_lines lines [] → OfText lines (atoms ≡ atoms_in lines)
read_whole lines atoms e = λ all h. e ∙ read_behind lines [] (once all lines h)

-- ---- of loops

-- what is left of lines at a place
pub left_at : (xs : List LabelLine) (i : ℕ) (x : LabelLine) → i < length xs → x ≡ get_or xs i x → map said (drop i xs) ≡ said x ∷ map said (drop (i + 1) xs)
left_at xs i x p e = rw (drop-cons xs i x p, ← e, add-one) refl

pub not_seven : (xs : List LabelLine) (i : ℕ) (x : LabelLine) (all : Bool) → i < length xs → x ≡ get_or xs i x → gives_seven (said x) ≡ false → give_sevens (map said (drop i xs)) ≡ all → false ≡ all
not_seven xs i x all p e fails so = sym (ap (λ (y : Bool). y && give_sevens (map said (drop (i + 1) xs))) fails) ∙ (sym (ap give_sevens (left_at xs i x p e)) ∙ so)

-- ---- bytes

pub bytes_with : (atoms new : Atoms) (atom : Tree) (b : List ℕ) (taken : Bool) → (taken ≡ true → new ≡ with_atom atom b atoms) → (taken ≡ false → new ≡ atoms) → All (λ n. n < 256) b → GivesBytes atoms → GivesBytes new
bytes_with atoms new atom b true changed kept small h = λ other text is.
    let was : (if same_tree atom other then Some b else bytes_of atoms other) ≡ Some text = sym (changed_atom atoms atom other b) ∙ (sym (ap (λ (x : Atoms). bytes_of x other) (changed refl)) ∙ is) in
    elim (cases_Bool (same_tree atom other)) [
      | inl same ↦ (
          let here : Some b ≡ Some text = rw same at was in
          let value : b ≡ text = cc in
          subst (λ (x : List ℕ). All (λ n. n < 256) x) value small)
      | inr differs ↦ (
          let there : bytes_of atoms other ≡ Some text = rw differs at was in
          h other text there)
    ]
bytes_with atoms new atom b false changed kept small h = subst GivesBytes (sym (kept refl)) h

pub bytes_of_text : (text copy : List ℕ) → copy ≡ text → ((i : ℕ) → get_or text i 0 < 256) → All (λ n. n < 256) copy
bytes_of_text text copy e h = rw e (λ i d inside. rw (get_or_default text i d 0 inside) (h i))

-- ---- texts in a set

abbrev pub now : Bor (List ℕ) → List ℕ
now text = text.now

abbrev pub finds : List ℕ → Bor (List ℕ) → Ordering
finds text key = slice_cmp nat_cmp text key.now

-- what a set of texts has
pub has_text : (text : List ℕ) (keys : List (Bor (List ℕ))) → list_any (is_at (finds text)) keys ≡ list_any (bytes_eq text) (map now keys)
has_text text [] = refl
has_text text (key ∷ keys) =
    ap (λ (y : Bool). y || list_any (is_at (finds text)) keys) (is_eq-slice_cmp text key.now)
    ∙ ap (λ (y : Bool). bytes_eq text key.now || y) (has_text text keys)

pub new_text : (o : Option (Bor (List ℕ))) (text : Bor (List ℕ)) (keys : List (Bor (List ℕ))) (so : Bool) → o ≡ Some text → so ≡ not (list_any (is_at (finds text.now)) keys) → so ≡ is_new (option_map now o) (map now keys)
new_text o text keys so e h = rw e (h ∙ ap not (has_text text.now keys))

either_way : (a b : List ℕ) → bytes_eq a b ≡ bytes_eq b a
either_way a b = elim (cases_Bool (bytes_eq a b)) [
  | inl same ↦ same ∙ sym ((bytes_eq-Decides b a).1 (sym ((bytes_eq-Decides a b).0 same)))
  | inr other ↦ other ∙ sym (false_from_ne_true (bytes_eq b a) (λ is. true≢false (sym ((bytes_eq-Decides a b).1 (sym ((bytes_eq-Decides b a).0 is))) ∙ other)))
]

or_is : (a b : Bool) → (if a then true else b) ≡ (a || b)
or_is true b = refl
or_is false b = refl

pub seen_text : (o : Option (Bor (List ℕ))) (text : Bor (List ℕ)) (keys new : List (Bor (List ℕ))) → o ≡ Some text
    → ((other : Bor (List ℕ)) → list_any (is_at (finds other.now)) new ≡ (if is_at (finds text.now) other then true else list_any (is_at (finds other.now)) keys))
    → AreSame (map now new) (with_text (option_map now o) (map now keys))
seen_text o text keys new e h = λ bytes.
    let other : Bor (List ℕ) = record { ref_ptr = (0, 0); now = bytes } in
    let found : (if is_at (finds text.now) other then true else list_any (is_at (finds bytes)) keys) ≡ (bytes_eq bytes text.now || list_any (bytes_eq bytes) (map now keys)) =
    or_is (is_at (finds text.now) other) (list_any (is_at (finds bytes)) keys)
    ∙ (ap (λ (y : Bool). y || list_any (is_at (finds bytes)) keys) (is_eq-slice_cmp text.now bytes ∙ either_way text.now bytes)
    ∙ ap (λ (y : Bool). bytes_eq bytes text.now || y) (has_text bytes keys)) in
    rw e (sym (has_text bytes new) ∙ (h other ∙ found))
