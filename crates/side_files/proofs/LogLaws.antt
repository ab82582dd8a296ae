-- What holds of a log after any calls.
use Rattle.std.proofs.Common.{◌≡◌, ℕ, ◌+◌, ◌-◌, ◌≤◌, List, [], ◌∷◌, ◌++◌, length, drop, refl, sym, ap, ◌∙◌, arith, append_assoc, length-append}
use Rattle.std.proofs.lemmas.List.{append-nil, length-drop, drop-append-le, drop-drop}
use Rattle.side_files.specs.Logs.{newest}
use Rattle.side_files.specs.Calls.{LogCall, held, added, adding}
use Rattle.side_files.specs.Calls.LogCall.{Pushed, Taken}

-- ---- at most 64

newest_few : (lines : List (List ℕ)) → length (newest lines) ≤ 64
newest_few lines = omega (arith, length-drop (length lines - 64) lines)

pub few_held : (calls : List LogCall) → length (held calls) ≤ 64
few_held [] = omega arith
few_held (Pushed line ∷ before) = newest_few (held before ++ line ∷ [])
few_held (Taken ∷ before) = omega (arith, length-drop 1 (held before), few_held before)

-- ---- the newest of all that were added

-- one list is what is left of another without so many of its first
record Ends (xs ys : List (List ℕ)) : Type 0 where
  without : ℕ
  few : without ≤ length ys
  is : xs ≡ drop without ys

ends_again : (xs ys : List (List ℕ)) (n : ℕ) → n ≤ length xs → Ends xs ys → Ends (drop n xs) ys
ends_again xs ys n h e = record {
  without = e.without + n;
  few = omega (arith, h, e.few, length-drop e.without ys, ap length e.is);
  is = ap (drop n) e.is ∙ drop-drop n e.without ys;
}

ends_more : (xs ys : List (List ℕ)) (line : List ℕ) → Ends xs ys → Ends (xs ++ line ∷ []) (ys ++ line ∷ [])
ends_more xs ys line e = record {
  without = e.without;
  few = omega (arith, e.few, length-append ys (line ∷ []));
  is = ap (λ (zs : List (List ℕ)). zs ++ line ∷ []) e.is ∙ sym (drop-append-le e.without ys (line ∷ []) e.few);
}

ends : (calls : List LogCall) → Ends (held calls) (added calls)
ends [] = record { without = 0; few = omega arith; is = refl }
ends (Pushed line ∷ before) =
    let xs = held before ++ line ∷ [] in
    ends_again xs (added before ++ line ∷ []) (length xs - 64) (omega arith) (ends_more (held before) (added before) line (ends before))
ends (Taken ∷ before) = taken (held before) (added before) (ends before)
  where
    taken : (xs ys : List (List ℕ)) → Ends xs ys → Ends (drop 1 xs) ys
    taken [] ys e = e
    taken (x ∷ xs) ys e = ends_again (x ∷ xs) ys 1 (omega arith) e

pub newest_held : (calls : List LogCall) → held calls ≡ drop (length (added calls) - length (held calls)) (added calls)
newest_held calls =
    let e = ends calls in
    let n : e.without ≡ length (added calls) - length (held calls) = omega (arith, e.few, ap length e.is, length-drop e.without (added calls)) in
    e.is ∙ ap (λ (n : ℕ). drop n (added calls)) n

-- ---- as long as nothing is read

newest_all : (lines : List (List ℕ)) → length lines ≤ 64 → lines ≡ newest (lines ++ [])
newest_all lines h =
    let none : length lines - 64 ≡ 0 = omega (arith, h) in
    sym (ap newest (append-nil lines) ∙ ap (λ (n : ℕ). drop n lines) none)

newest_twice : (xs ys : List (List ℕ)) → newest (newest xs ++ ys) ≡ newest (xs ++ ys)
newest_twice xs ys =
    let k : ℕ = length xs - 64 in
    let zs : List (List ℕ) = xs ++ ys in
    let one : newest xs ++ ys ≡ drop k zs = sym (drop-append-le k xs ys (omega arith)) in
    let long = length-append xs ys in
    let left = length-drop k zs in
    let many : k + (length (drop k zs) - 64) ≡ length zs - 64 = omega (arith, long, left) in
    ap newest one ∙ (drop-drop (length (drop k zs) - 64) k zs ∙ ap (λ (n : ℕ). drop n zs) many)

pub held_while_unread : (before : List LogCall) (lines : List (List ℕ)) → held (adding lines before) ≡ newest (held before ++ lines)
held_while_unread before [] = newest_all (held before) (few_held before)
held_while_unread before (line ∷ lines) =
    held_while_unread (Pushed line ∷ before) lines
    ∙ (newest_twice (held before ++ line ∷ []) lines
    ∙ ap newest (append_assoc (held before) (line ∷ []) lines))
