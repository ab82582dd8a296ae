-- What stands in a buffer behind the front that was there.
use Rattle.std.proofs.Common.{◌≡◌, ◌∙◌, ℕ, ◌+◌, ◌-◌, ◌≤◌, List, [], ◌++◌, length, take, drop, length-drop, ap, arith}
use Rattle.std.proofs.Math.ListN.{drop_of_length-le}
use Rattle.std.proofs.lemmas.List.{drop-append-le, length-take-le, take_all}
use Rattle.wire_streams.proofs.StreamLemmas.{filled-more}
use borrow.Rule.Slice.PartMut.{put_mid}

pub none_behind : (from : ℕ) (xs : List ℕ) → from ≤ length xs → drop from (take from xs) ≡ []
none_behind from xs h = drop_of_length-le (take from xs) (omega (arith, length-take-le from xs h))

pub length_behind : (from have : ℕ) (xs : List ℕ) → from ≤ have → have ≤ length xs → have ≡ from + length (drop from (take have xs))
length_behind from have xs h k = omega (arith, h, length-drop from (take have xs), length-take-le have xs k)

pub more_behind : (xs ys : List ℕ) (from have n : ℕ) → from ≤ have → have ≤ length xs → n ≤ length ys
    → drop from (take (have + n) (put_mid have (length xs - have) xs ys)) ≡ drop from (take have xs) ++ take n ys
more_behind xs ys from have n h k fits =
    ap (drop from) (filled-more xs ys have n k fits) ∙ drop-append-le from (take have xs) (take n ys) (omega (arith, h, length-take-le have xs k))

pub all_filled : (from have : ℕ) (xs : List ℕ) → length xs ≤ have → drop from (take have xs) ≡ drop from xs
all_filled from have xs h = ap (drop from) (take_all have xs h)
