-- A front of what is held is handed out.
use Rattle.std.proofs.Common.{◌≡◌, ◌≤◌, ◌-◌, ◌+◌, ℕ, List, [], ◌++◌, length, take, drop, ap, sym, ◌∙◌, append_assoc, arith, Option, None, Some}
use Rattle.std.proofs.lemmas.List.{drop-take, drop-drop, take-append-drop}
use Rattle.std.proofs.lemmas.Slice.{drop-put_mid}
use Rattle.std.specs.Io.KnownBytes.{Consumes, prepend_known}
use borrow.Rule.Slice.PartMut.{put_mid}

-- what stands behind the front that was overwritten is what is held then
pub held_behind : (at n end : ℕ) (room zeros : List ℕ) → at ≤ end → n ≤ end - at → end ≤ length room → length zeros ≡ at + n - at
    → take (end - (at + n)) (drop (at + n) (put_mid at (at + n - at) room zeros)) ≡ drop n (take (end - at) (drop at room))
held_behind at n end room zeros begins fits within size =
    let left = drop-put_mid at (at + n - at) room zeros (at + n) (omega arith) (omega (arith, begins, within)) size in
    let count : end - at ≡ n + (end - (at + n)) = omega (arith, begins, fits) in
    ap (λ l. take (end - (at + n)) l) (left ∙ sym (drop-drop n at room))
    ∙ sym (drop-take n (end - (at + n)) (drop at room))
    ∙ ap (λ k. drop n (take k (drop at room))) (sym count)

-- a front, and what stands behind it
front_and_rest : (n : ℕ) (held out rest : List ℕ) → take n out ≡ take n held → held ++ rest ≡ take n out ++ (drop n held ++ rest)
front_and_rest n held out rest moved =
    ap (λ l. l ++ rest) (sym (take-append-drop n held)) ∙ append_assoc (take n held) (drop n held) rest
    ∙ ap (λ l. l ++ (drop n held ++ rest)) (sym moved)

-- of what was held
pub hand_held : (left : Option (List ℕ)) (n : ℕ) (held out : List ℕ) → take n out ≡ take n held
    → Consumes (prepend_known held left) (prepend_known (drop n held) left) (take n out)
hand_held None n held out moved = tt
hand_held (Some rest) n held out moved = front_and_rest n held out rest moved

-- of what was read just now
pub hand_read : (before left : Option (List ℕ)) (n : ℕ) (none held out : List ℕ) → none ≡ [] → Consumes before left held → take n out ≡ take n held
    → Consumes (prepend_known none before) (prepend_known (drop n held) left) (take n out)
hand_read None left n none held out nothing came moved = tt
hand_read (Some all) None n none held out nothing came moved = absurd came
hand_read (Some all) (Some rest) n none held out nothing came moved =
    ap (λ l. l ++ all) nothing ∙ came ∙ front_and_rest n held out rest moved
