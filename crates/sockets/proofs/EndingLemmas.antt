-- An answer that goes on within the length that was told has no shorter length told by more of its bytes.
use Rattle.std.proofs.Common.{◌≡◌, ℕ, ◌+◌, ◌<◌, ◌≤◌, ◌⊎◌, inl, inr, List, [], ◌∷◌, ◌++◌, Bool, true, false, length, take, if◌then◌else◌, refl, sym, ap, ◌∙◌, arith, length-append, lt-ltb, le-ltb}
use Rattle.std.proofs.lemmas.Bool.{cases_lt}
use Rattle.std.proofs.lemmas.List.{take-append-le, length-take-le}
use Rattle.std.proofs.lemmas.List.Edits.{length-paste}
use Rattle.std.proofs.lemmas.Slice.{put_mid-paste}
use Rattle.std.proofs.Math.Seq.{take-append-add}
use borrow.Rule.Slice.PartMut.{post_of, put_mid}
use Rattle.wire_base.specs.declared.shape.Shape.{Shape}
use Rattle.wire_base.specs.declared.shape.Shape.TheVariants.{Tickets, Challenge, Vouch}
use Rattle.sockets.specs.Endings.{answer_length, challenge_length, counted_length, granted_length, length_behind}

-- What a challenge's field and its number tell, by whether the field is whole.
within_field : (rest more : List ℕ) → length rest < 5 → length rest + length more ≤ 5 → length (rest ++ more) < 5 ⊎ 5 ≤ length (rest ++ more) → length (rest ++ more) ≤ counted_length Challenge (rest ++ more)
within_field rest more part fits (inl few) = rw (lt-ltb (length (rest ++ more)) 5 few) (omega (arith, few))
within_field rest more part fits (inr full) = rw (le-ltb (length (rest ++ more)) 5 full) (omega (arith, length-append rest more, fits))

behind_field : (rest more : List ℕ) → 5 ≤ length rest → length rest + length more ≤ counted_length Challenge rest → length (rest ++ more) ≤ counted_length Challenge (rest ++ more)
behind_field rest more whole fits =
    let longer : 5 ≤ length (rest ++ more) = omega (arith, length-append rest more, whole) in
    let told : counted_length Challenge rest ≡ 5 + challenge_length (take 5 rest) = rw (le-ltb (length rest) 5 whole) refl in
    rw (le-ltb (length (rest ++ more)) 5 longer, take-append-le 5 rest more whole) (omega (arith, length-append rest more, fits, told))

counted_goes_on : (rest more : List ℕ) → length rest + length more ≤ counted_length Challenge rest → length rest < 5 ⊎ 5 ≤ length rest → length (rest ++ more) ≤ counted_length Challenge (rest ++ more)
counted_goes_on rest more fits (inl part) =
    let told : counted_length Challenge rest ≡ 5 = rw (lt-ltb (length rest) 5 part) refl in
    within_field rest more part (omega (arith, fits, told)) (cases_lt (length (rest ++ more)) 5)
counted_goes_on rest more fits (inr whole) = behind_field rest more whole fits

counted_holds : (shape : Shape) (rest more : List ℕ) → length rest + length more ≤ counted_length shape rest → length (rest ++ more) ≤ counted_length shape (rest ++ more)
counted_holds Tickets rest more fits = omega (arith, length-append rest more, fits)
counted_holds Challenge rest more fits = counted_goes_on rest more fits (cases_lt (length rest) 5)
counted_holds Vouch rest more fits = omega (arith, length-append rest more, fits)

-- by the tests of the kind
by_kind : (error ok counted : Bool) (shape : Shape) (rest more : List ℕ)
    → length rest + length more ≤ (if error then 64 else (if ok then granted_length shape else (if counted then counted_length shape rest else 0)))
    → length (rest ++ more) ≤ (if error then 64 else (if ok then granted_length shape else (if counted then counted_length shape (rest ++ more) else 0)))
by_kind true ok counted shape rest more fits = omega (arith, length-append rest more, fits)
by_kind false true counted shape rest more fits = omega (arith, length-append rest more, fits)
by_kind false false true shape rest more fits = counted_holds shape rest more fits
by_kind false false false shape rest more fits = omega (arith, length-append rest more, fits)

pub goes_on : (shape : Shape) (heard more : List ℕ) → length heard + length more ≤ answer_length shape heard → length (heard ++ more) ≤ answer_length shape (heard ++ more)
goes_on shape [] [] fits = omega arith
goes_on shape [] (b ∷ []) fits = omega arith
goes_on shape [] (b ∷ c ∷ more) fits = absurd (omega (arith, fits))
goes_on shape (kind ∷ rest) more fits =
    let behind : length (rest ++ more) ≤ length_behind shape kind (rest ++ more) = by_kind _ _ _ shape rest more (omega (arith, fits)) in
    omega (arith, behind)

-- A read into a part of a buffer leaves its length, and makes the front longer that was filled.
pub part-length : (xs ys : List ℕ) (at size : ℕ) → at + size ≤ length xs → length ys ≡ size → length (put_mid at size xs ys) ≡ length xs
part-length xs ys at size h long =
    ap length (put_mid-paste at size xs ys ys size refl refl (sym long))
    ∙ length-paste xs at ys size (omega arith) (omega (arith, long))

pub part-more : (xs ys : List ℕ) (at size n : ℕ) → at ≤ length xs → n ≤ length ys → take (at + n) (put_mid at size xs ys) ≡ take at xs ++ take n ys
part-more xs ys at size n h fits =
    let behind = ys ++ post_of at size xs in
    ap (λ m. take (m + n) (take at xs ++ behind)) (sym (length-take-le at xs h))
    ∙ take-append-add (take at xs) behind n
    ∙ ap (λ l. take at xs ++ l) (take-append-le n ys _ fits)

-- So it is of the front of a buffer.
pub goes_on_in : (shape : Shape) (xs ys filled : List ℕ) (at n : ℕ) → at ≤ length xs → n ≤ length ys → take (at + n) filled ≡ take at xs ++ take n ys → at + n ≤ answer_length shape (take at xs) → at + n ≤ answer_length shape (take (at + n) filled)
goes_on_in shape xs ys filled at n h fits more within =
    let front = length-take-le at xs h in
    let behind = length-take-le n ys fits in
    let on = goes_on shape (take at xs) (take n ys) (omega (arith, front, behind, within)) in
    rw more (omega (arith, on, front, behind, length-append (take at xs) (take n ys)))
