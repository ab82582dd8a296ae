-- A read into the rest of a buffer makes the front longer that was filled.
use Rattle.std.proofs.Common.{◌≡◌, ℕ, ◌+◌, ◌≤◌, List, ◌++◌, length, take, sym, ap, ◌∙◌}
use Rattle.std.proofs.Math.Seq.{take-append-add}
use Rattle.std.proofs.lemmas.List.{length-take-le, take-append-le}
use borrow.Rule.Slice.PartMut.{post_of, put_mid}

pub filled : (xs ys : List ℕ) (at room n : ℕ) → at ≤ length xs → n ≤ length ys → take (at + n) (put_mid at room xs ys) ≡ take at xs ++ take n ys
filled xs ys at room n h fits =
    let behind = ys ++ post_of at room xs in
    ap (λ m. take (m + n) (take at xs ++ behind)) (sym (length-take-le at xs h))
    ∙ (take-append-add (take at xs) behind n
    ∙ ap (λ l. take at xs ++ l) (take-append-le n ys _ fits))
