-- A text, cut at the first of such bytes.
use Rattle.std.proofs.Common.{◌≡◌, ℕ, suc, ◌+◌, ◌<◌, ◌≤◌, List, [], ◌∷◌, ◌++◌, Bool, true, false, not, eqb, length, take, drop, Option, Some, None, option_map, refl, ap, ◌∙◌, arith, inl, inr}
use Rattle.std.specs.List.{list_all, position, position_or_len}
use Rattle.std.proofs.lemmas.Bool.{cases_Bool, cases_lt, le-ltb, lt-ltb, and_parts, eqb-true, eq-eqb, ne_eqb, not-true}
use Rattle.std.proofs.lemmas.List.{drop-drop}
use Rattle.world_scripts.specs.Reading.{cut_at}

-- a byte in front of a cut
abbrev more : ℕ → List ℕ × List ℕ → List ℕ × List ℕ
more b cut = (b ∷ cut.0, cut.1)

abbrev place : ℕ → List ℕ → ℕ
place c text = position_or_len (λ b. eqb b c) text

found_at : (c : ℕ) (text : List ℕ) → place c text < length text → cut_at c text ≡ Some (take (place c text) text, drop (place c text + 1) text)
found_at c [] h = absurd (omega arith)
found_at c (b ∷ text) h = elim (cases_Bool (eqb b c)) [
  | inl t ↦ rw t refl
  | inr f ↦ (
      let lt : suc (1 + place c text) ≤ suc (length text) = rw f at h in
      let rest = found_at c text (omega arith) in
      let count : 1 + place c text + 1 ≡ suc (place c text + 1) = omega arith in
      let front : 1 + place c text ≡ suc (place c text) = omega arith in
      rw (f, rest, count, front) refl)
]

missing_at : (c : ℕ) (text : List ℕ) → length text ≤ place c text → cut_at c text ≡ None
missing_at c [] h = refl
missing_at c (b ∷ text) h = elim (cases_Bool (eqb b c)) [
  | inl t ↦ absurd (let le : suc (length text) ≤ 0 = rw t at h in omega arith)
  | inr f ↦ (
      let le : suc (length text) ≤ 1 + place c text = rw f at h in
      rw (f, missing_at c text (omega arith)) refl)
]

pub cut_found : (c : ℕ) (text : List ℕ) (at : ℕ) → Some at ≡ position (λ b. eqb b c) text → cut_at c text ≡ Some (take at text, drop 1 (drop at text))
cut_found c text at e =
    elim (cases_lt (place c text) (length text)) [
      | inl lt ↦ (
          let s : Some at ≡ Some (place c text) = rw lt-ltb at e in
          let same : at ≡ place c text = cc in
          found_at c text lt ∙ rw (drop-drop 1 at text, same) refl)
      | inr le ↦ absurd (let s : Some at ≡ None = rw le-ltb at e in cc)
    ]

pub cut_missing : (c : ℕ) (text : List ℕ) → None ≡ position (λ b. eqb b c) text → cut_at c text ≡ None
cut_missing c text e =
    elim (cases_lt (place c text) (length text)) [
      | inl lt ↦ absurd (let s : None ≡ Some (place c text) = rw lt-ltb at e in cc)
      | inr le ↦ missing_at c text le
    ]

-- ---- what a cut says of a text, and which text it is of

-- a text holds no such byte
abbrev pub lacks : ℕ → List ℕ → Bool
lacks c text = list_all (λ b. not (eqb b c)) text

map_cut : (c b : ℕ) (text : List ℕ) (o : Option (List ℕ × List ℕ)) (cut : List ℕ × List ℕ) → ((inner : List ℕ × List ℕ) → o ≡ Some inner → text ≡ inner.0 ++ c ∷ inner.1) → option_map (more b) o ≡ Some cut → b ∷ text ≡ cut.0 ++ c ∷ cut.1
map_cut c b text None cut so h = absurd cc
map_cut c b text (Some inner) cut so h =
    let same : more b inner ≡ cut = cc in
    ap (λ (t : List ℕ). b ∷ t) (so inner refl) ∙ ap (λ (k : List ℕ × List ℕ). k.0 ++ c ∷ k.1) same

pub cut_parts : (c : ℕ) (text : List ℕ) (cut : List ℕ × List ℕ) → cut_at c text ≡ Some cut → text ≡ cut.0 ++ c ∷ cut.1
cut_parts c [] cut h = absurd (let s : None ≡ Some cut = h in cc)
cut_parts c (b ∷ text) cut h = elim (cases_Bool (eqb b c)) [
  | inl t ↦ (
      let s : Some ([], text) ≡ Some cut = rw t at h in
      let same : ([], text) ≡ cut = cc in
      ap (λ (x : ℕ). x ∷ text) (eqb-true b c t) ∙ ap (λ (k : List ℕ × List ℕ). k.0 ++ c ∷ k.1) same)
  | inr f ↦ (
      let s : option_map (more b) (cut_at c text) ≡ Some cut = rw f at h in
      map_cut c b text (cut_at c text) cut (cut_parts c text) s)
]

pub cut_again : (c : ℕ) (front rest : List ℕ) → lacks c front ≡ true → cut_at c (front ++ c ∷ rest) ≡ Some (front, rest)
cut_again c [] rest h = let same : eqb c c ≡ true = eq-eqb c c refl in rw same refl
cut_again c (b ∷ front) rest h =
    let both = and_parts (not (eqb b c)) (lacks c front) h in
    let other : eqb b c ≡ false = not-true (eqb b c) both.0 in
    rw (other, cut_again c front rest both.1) refl

pub cut_none : (c : ℕ) (text : List ℕ) → lacks c text ≡ true → cut_at c text ≡ None
cut_none c [] h = refl
cut_none c (b ∷ text) h =
    let both = and_parts (not (eqb b c)) (lacks c text) h in
    let other : eqb b c ≡ false = not-true (eqb b c) both.0 in
    rw (other, cut_none c text both.1) refl

-- bytes that pass a test lack one that doesn't
pub lacks_by : (p : ℕ → Bool) (c : ℕ) → p c ≡ false → (text : List ℕ) → list_all p text ≡ true → lacks c text ≡ true
lacks_by p c no_c [] h = refl
lacks_by p c no_c (b ∷ text) h =
    let both = and_parts (p b) (list_all p text) h in
    let other : eqb b c ≡ false = ne_eqb b c (λ e. let f : p b ≡ false = ap p e ∙ no_c in let t : p b ≡ true = both.0 in cc) in
    rw other (lacks_by p c no_c text both.1)
