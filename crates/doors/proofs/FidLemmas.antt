-- The fids that are held, and what becomes of them.
use Rattle.std.proofs.Common.{◌≡◌, ℕ, suc, ◌+◌, ◌<◌, ◌≤◌, List, [], ◌∷◌, length, get_or, Bool, ◌==◌, Some, None, refl, ap, ◌∙◌, inl, inr, arith}
use Rattle.std.specs.Prelude.{position, slice_set}
use Rattle.std.specs.List.{position_or_len}
use Rattle.std.proofs.lemmas.Bool.{cases_Bool, cases_lt, eqb-true, le-ltb, lt-ltb}
use Rattle.doors.specs.declared.fid.Names.{Names}
use Rattle.doors.specs.declared.fid.Held.{Held}
use Rattle.doors.specs.Fids.{holds, renamed}

abbrev pub is_fid : ℕ → Held → Bool
is_fid fid h = h.fid == fid

held_so : (now : Held) (fid : ℕ) (names : Names) → now.fid ≡ fid → now.names ≡ names → now ≡ holds fid names
held_so now fid names f n = rw (← f, ← n) refl

-- a fid that is held names something else
there : (fid : ℕ) (names : Names) (now d : Held) (all : List Held) (n : ℕ) → now.names ≡ names → now.fid ≡ (get_or all n d).fid → n ≡ position_or_len (is_fid fid) all → n < length all
    → slice_set all n now ≡ renamed fid names all
there fid names now d [] n is f e lt = absurd (omega (arith, lt))
there fid names now d (h ∷ hs) n is f e lt = elim (cases_Bool (h.fid == fid)) [
  | inl eq ↦
      let z : n ≡ 0 = e ∙ rw eq refl in
      let here : now.fid ≡ h.fid = rw z at f in
      rw (z, eq) (ap (λ (x : Held). x ∷ hs) (held_so now fid names (here ∙ eqb-true h.fid fid eq) is))
  | inr ne ↦
      let s : n ≡ suc (position_or_len (is_fid fid) hs) = e ∙ rw ne (omega arith) in
      let there' : now.fid ≡ (get_or hs (position_or_len (is_fid fid) hs) d).fid = rw s at f in
      rw (s, ne) (ap (λ (xs : List Held). h ∷ xs) (there fid names now d hs (position_or_len (is_fid fid) hs) is there' refl (omega (arith, lt, s))))
]

nowhere : (fid : ℕ) (names : Names) (all : List Held) → length all ≤ position_or_len (is_fid fid) all → all ≡ renamed fid names all
nowhere fid names [] le = refl
nowhere fid names (h ∷ hs) le = elim (cases_Bool (h.fid == fid)) [
  | inl eq ↦ absurd (let z : length (h ∷ hs) ≤ 0 = rw eq at le in omega (arith, z))
  | inr ne ↦
      let s : length (h ∷ hs) ≤ 1 + position_or_len (is_fid fid) hs = rw ne at le in
      rw ne (ap (λ (xs : List Held). h ∷ xs) (nowhere fid names hs (omega (arith, s))))
]

pub renamed_at : (fid : ℕ) (names : Names) (now d : Held) (all : List Held) (at : ℕ) → now.names ≡ names → now.fid ≡ (get_or all at d).fid → Some at ≡ position (is_fid fid) all → slice_set all at now ≡ renamed fid names all
renamed_at fid names now d all at is f e =
    elim (cases_lt (position_or_len (is_fid fid) all) (length all)) [
      | inl lt ↦ (let s : Some at ≡ Some (position_or_len (is_fid fid) all) = rw lt-ltb at e in let same : at ≡ position_or_len (is_fid fid) all = cc in there fid names now d all at is f same (omega (arith, lt, same)))
      | inr le ↦ absurd (let s : Some at ≡ None = rw le-ltb at e in cc)
    ]

pub renamed_none : (fid : ℕ) (names : Names) (all : List Held) → None ≡ position (is_fid fid) all → all ≡ renamed fid names all
renamed_none fid names all e =
    elim (cases_lt (position_or_len (is_fid fid) all) (length all)) [
      | inl lt ↦ absurd (let s : None ≡ Some (position_or_len (is_fid fid) all) = rw lt-ltb at e in cc)
      | inr le ↦ nowhere fid names all le
    ]
