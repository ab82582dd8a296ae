-- A block of bytes of which a front is filled.
use Rattle.std.proofs.Common.{◌≡◌, ℕ, ◌+◌, ◌-◌, ◌≤◌, List, [], ◌++◌, Option, length, take, drop, length-drop, sym, ap, subst, ◌∙◌, append-nil, arith}
use Rattle.std.proofs.Math.Seq.{take-append-add}
use Rattle.std.proofs.lemmas.List.{length-take-le, take-append-le}
use borrow.Rule.Slice.PartMut.{post_of, put_mid}
use Rattle.wire_streams.specs.Streams.{Reads}
use Rattle.wire_streams.specs.declared.source.Got.{Got}
use Rattle.wire_streams.specs.declared.source.Got.TheVariants.{Bytes, End, Failed}
use Rattle.nine.specs.Blocks.{ReadsInto}

-- a read between two places makes the front longer that is filled
read_behind : (bytes out : List ℕ) (from to n : ℕ) → from ≤ length bytes → n ≤ length out → take (from + n) (put_mid from (to - from) bytes out) ≡ take from bytes ++ take n out
read_behind bytes out from to n there fits =
    let behind = out ++ post_of from (to - from) bytes in
    ap (λ (m : ℕ). take (m + n) (take from bytes ++ behind)) (sym (length-take-le from bytes there))
    ∙ take-append-add (take from bytes) behind n
    ∙ ap (λ (l : List ℕ). take from bytes ++ l) (take-append-le n out _ fits)

as_before : (bytes out : List ℕ) (from to : ℕ) → from ≤ length bytes → take from (put_mid from (to - from) bytes out) ≡ take from bytes
as_before bytes out from to there = let none : from + 0 ≡ from = omega arith in
    subst (λ (k : ℕ). take k (put_mid from (to - from) bytes out) ≡ take from bytes ++ []) none (read_behind bytes out from to 0 there (omega arith)) ∙ append-nil (take from bytes)

-- what is held between two places
pub length_held : (bytes : List ℕ) (front end : ℕ) → end ≤ length bytes → length (drop front (take end bytes)) ≡ end - front
length_held bytes front end inside = omega (arith, length-drop front (take end bytes), length-take-le end bytes inside)

pub read_so : (from to : ℕ) (old new : Option (List ℕ)) (got : Got) (bytes out : List ℕ) → from ≤ length bytes → length out ≡ to - from → Reads old new got out → ReadsInto from (to - from) old new got bytes (put_mid from (to - from) bytes out)
read_so from to old new (Bytes n) bytes out there long r =
    (take n out, r.0, omega (arith, r.1, long), length-take-le n out r.1, r.2, read_behind bytes out from to n there r.1)
read_so from to old new End bytes out there long r = (r.0, r.1, as_before bytes out from to there)
read_so from to old new Failed bytes out there long r = (r, as_before bytes out from to there)
