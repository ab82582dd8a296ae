-- What a reading gives an atom stands in it beside this atom; and what holds between any two of its entries holds between any two
-- atoms that it reads.
use Rattle.std.proofs.Common.{◌≡◌, ℕ, ◌<◌, List, [], ◌∷◌, All, Some, Bool, true, false, if◌then◌else◌, inl, inr, sym, subst, ◌∙◌}
use Rattle.std.proofs.lemmas.Bool.{and_parts, cases_Bool, ltb-true}
use Rattle.std.proofs.lemmas.List.Elements.{All-cons, All-nil}
use Rattle.std.specs.List.{list_all}
use Rattle.std.specs.Prelude.{nat_lt}
use Rattle.symbolic_runs.specs.Trees.{Tree, same_tree}
use Rattle.symbolic_runs.specs.Spellings.{Atoms, bytes_of}
use Rattle.symbolic_runs.proofs.EqualityLaws.{equal_trees}
use Rattle.clean_runs.specs.Clean.{AreApart}
use Rattle.clean_runs.specs.ExampleStatements.{AreDifferent, IsNone}

-- text whose bytes are tested
pub small : (text : List ℕ) → list_all (λ b. nat_lt b 256) text ≡ true → All (λ n. n < 256) text
small [] is = All-nil (λ n. n < 256)
small (b ∷ text) is =
    let parts = and_parts (nat_lt b 256) (list_all (λ b. nat_lt b 256) text) is in
    All-cons (λ n. n < 256) b text (ltb-true b 256 parts.0) (small text parts.1)

-- of each entry
abbrev pub OfEach : (Tree → List ℕ → Type 0) → Atoms → Type 0
OfEach P [] = Unit {0}
OfEach P (a ∷ atoms) = P a.0 a.1 × OfEach P atoms

pub so_of_each : (P : Tree → List ℕ → Type 0) (atoms : Atoms) → OfEach P atoms → (t : Tree) (b : List ℕ) → bytes_of atoms t ≡ Some b → P t b
so_of_each P [] h t b is = absurd (cc)
so_of_each P (a ∷ atoms) h t b is = elim (cases_Bool (same_tree a.0 t)) [
  | inl same ↦ (
      let read : Some a.1 ≡ Some b = rw same at is in
      let value : a.1 ≡ b = cc in
      subst (λ (x : Tree). P x b) (equal_trees a.0 t same) (subst (λ (v : List ℕ). P a.0 v) value h.0))
  | inr other ↦ (let rest : bytes_of atoms t ≡ Some b = rw other at is in so_of_each P atoms h.1 t b rest)
]

-- any two entries of a kind have different bytes
abbrev pub DiffersFrom : (Tree → Bool) → Tree → List ℕ → Tree → List ℕ → Type 0
DiffersFrom kind t b other text = kind t ≡ true → kind other ≡ true → b ≡ text → ⊥

abbrev pub AnyTwo : (Tree → Bool) → Atoms → Type 0
AnyTwo kind [] = Unit {0}
AnyTwo kind (a ∷ atoms) = OfEach (DiffersFrom kind a.0 a.1) atoms × AnyTwo kind atoms

pub apart : (kind : Tree → Bool) (atoms : Atoms) → AnyTwo kind atoms → AreApart atoms kind
apart kind [] h a b text ka kb ra rb = absurd (cc)
apart kind (x ∷ atoms) h a b text ka kb ra rb = elim (cases_Bool (same_tree x.0 a)) [
  | inl first ↦ elim (cases_Bool (same_tree x.0 b)) [
    | inl second ↦ subst (λ (y : Tree). y ≡ b) (equal_trees x.0 a first) (equal_trees x.0 b second)
    | inr other ↦ (
        let here : Some x.1 ≡ Some text = rw first at ra in
        let value : x.1 ≡ text = cc in
        let rest : bytes_of atoms b ≡ Some text = rw other at rb in
        absurd (so_of_each (DiffersFrom kind x.0 x.1) atoms h.0 b text rest (subst (λ (y : Tree). kind y ≡ true) (sym (equal_trees x.0 a first)) ka) kb value))
  ]
  | inr not_first ↦ elim (cases_Bool (same_tree x.0 b)) [
    | inl second ↦ (
        let here : Some x.1 ≡ Some text = rw second at rb in
        let value : x.1 ≡ text = cc in
        let rest : bytes_of atoms a ≡ Some text = rw not_first at ra in
        absurd (so_of_each (DiffersFrom kind x.0 x.1) atoms h.0 a text rest (subst (λ (y : Tree). kind y ≡ true) (sym (equal_trees x.0 b second)) kb) ka value))
    | inr other ↦ (
        let one : bytes_of atoms a ≡ Some text = rw not_first at ra in
        let two : bytes_of atoms b ≡ Some text = rw other at rb in
        apart kind atoms h.1 a b text ka kb one two)
  ]
]

-- the texts of a kind of atoms, which differ
abbrev pub texts : (Tree → Bool) → Atoms → List (List ℕ)
texts kind [] = []
texts kind (a ∷ atoms) = if kind a.0 then a.1 ∷ texts kind atoms else texts kind atoms

differs : (kind : Tree → Bool) (t : Tree) (b : List ℕ) (atoms : Atoms) → IsNone b (texts kind atoms) → OfEach (DiffersFrom kind t b) atoms
differs kind t b [] h = tt
differs kind t b (a ∷ atoms) h = elim (cases_Bool (kind a.0)) [
  | inl is ↦ (
      let both : IsNone b (a.1 ∷ texts kind atoms) = rw is at h in
      ((λ of_t of_a same. both.0 same), differs kind t b atoms both.1))
  | inr other ↦ (
      let rest : IsNone b (texts kind atoms) = rw other at h in
      ((λ of_t of_a same. let so : true ≡ false = sym of_a ∙ other in absurd (cc)), differs kind t b atoms rest))
]

of_other_kind : (kind : Tree → Bool) (t : Tree) (b : List ℕ) (atoms : Atoms) → kind t ≡ false → OfEach (DiffersFrom kind t b) atoms
of_other_kind kind t b [] other = tt
of_other_kind kind t b (a ∷ atoms) other = ((λ of_t of_a same. let so : true ≡ false = sym of_t ∙ other in absurd (cc)), of_other_kind kind t b atoms other)

pub any_two : (kind : Tree → Bool) (atoms : Atoms) → AreDifferent (texts kind atoms) → AnyTwo kind atoms
any_two kind [] h = tt
any_two kind (a ∷ atoms) h = elim (cases_Bool (kind a.0)) [
  | inl is ↦ (
      let all : AreDifferent (a.1 ∷ texts kind atoms) = rw is at h in
      (differs kind a.0 a.1 atoms all.0, any_two kind atoms all.1))
  | inr other ↦ (
      let rest : AreDifferent (texts kind atoms) = rw other at h in
      (of_other_kind kind a.0 a.1 atoms other, any_two kind atoms rest))
]
