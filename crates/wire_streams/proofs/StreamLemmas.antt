-- How what a sink gains, and what a source gives, in several calls adds up.
use Rattle.std.proofs.Common.{◌≡◌, ◌≢◌, ℕ, ◌+◌, ◌-◌, ◌<◌, ◌≤◌, List, [], ◌++◌, None, Some, length, take, drop, refl, sym, ap, ◌∙◌, subst, append_assoc, append-nil, take-append-drop, length-append, length-drop, arith}
use Rattle.std.proofs.KnownBytes.{Consumes-trans}
use Rattle.std.proofs.Math.Seq.{take-append-add}
use Rattle.std.proofs.lemmas.List.{drop-take, length-take-le, take-append-le, take-take, take_rest}
use Rattle.std.proofs.lemmas.List.Edits.{length-paste}
use Rattle.std.proofs.lemmas.Slice.{put_mid-paste}
use Rattle.std.specs.Io.KnownBytes.{Consumes}
use Rattle.std.specs.Prelude.{Option}
use Rattle.wire_streams.specs.Streams.{Gains}
use Rattle.wire_streams.specs.Whole.{GainsFront, TakesBefore}
use borrow.Rule.Slice.PartMut.{post_of, put_mid}
use Rattle.wire_streams.specs.declared.whole.TheConstants.{CHUNK}
use Rattle.wire_streams.specs.declared.whole.WholeFault.{WholeFault}
use Rattle.wire_streams.specs.declared.whole.WholeFault.TheVariants.{Flood}

-- Nothing was written.
pub Gains-nil : (a : Option (List ℕ)) → Gains a a []
Gains-nil None = tt
Gains-nil (Some x) = sym (append-nil x)

-- One piece was written, and then another.
pub Gains-trans : (a b c : Option (List ℕ)) (xs ys : List ℕ) → Gains a b xs → Gains b c ys → Gains a c (xs ++ ys)
Gains-trans a b None xs ys p q = tt
Gains-trans a None (Some z) xs ys p q = absurd q
Gains-trans None (Some y) (Some z) xs ys p q = absurd p
Gains-trans (Some x) (Some y) (Some z) xs ys p q = q ∙ ap (λ l. l ++ ys) p ∙ append_assoc x xs ys

-- The front of a piece, and what a write took of the rest, are a longer front.
pub take-more : (xs : List ℕ) (at n : ℕ) → take at xs ++ take n (take (length xs - at) (drop at xs)) ≡ take (at + n) xs
take-more xs at n =
    let le : at ≤ at + n = omega arith in
    let rest : take n (take (length xs - at) (drop at xs)) ≡ drop at (take (at + n) xs) = ap (take n) (take_rest xs at) ∙ sym (drop-take at n xs) in
    let front : take at xs ≡ take at (take (at + n) xs) = sym (take-take at (at + n) xs le) in
    rw (rest, front) (take-append-drop at (take (at + n) xs))

-- A write of the rest of a piece makes the front longer that was written.
pub Gains-more : (a b c : Option (List ℕ)) (xs : List ℕ) (at n : ℕ) → Gains a b (take at xs) → Gains b c (take n (take (length xs - at) (drop at xs))) → Gains a c (take (at + n) xs)
Gains-more a b c xs at n p q = subst (Gains a c) (take-more xs at n) (Gains-trans a b c _ _ p q)

-- A write that failed leaves the front as it is, and the rest unwritten.
pub Gains-front : (a b c : Option (List ℕ)) (xs : List ℕ) (at : ℕ) → at < length xs → Gains a b (take at xs) → Gains b c [] → GainsFront a c xs
Gains-front a b c xs at h p q = record {
  front = take at xs;
  rest = drop at xs;
  parts = sym (take-append-drop at xs);
  gained = subst (Gains a c) (append-nil (take at xs)) (Gains-trans a b c _ _ p q);
  missing = omega (arith, length-drop at xs);
}

-- What a read gave past the limit is a flood.
pub floods : (a b c : Option (List ℕ)) (xs out : List ℕ) (n limit : ℕ) → n ≤ length out → length out ≤ CHUNK → length xs ≤ limit → limit - length xs < n → Consumes a b xs → Consumes b c (take n out) → TakesBefore a c limit Flood
floods a b c xs out n limit fits one within past p q = record {
  taken = xs ++ take n out;
  consumed = Consumes-trans a b c xs (take n out) p q;
  flood = (λ _. omega (arith, length-append xs (take n out), length-take-le n out fits), λ _. refl);
  bounded = omega (arith, length-append xs (take n out), length-take-le n out fits, fits, one);
}

-- What was read within the limit is no flood.
pub no_flood : (a c : Option (List ℕ)) (xs : List ℕ) (limit : ℕ) (fault : WholeFault) → fault ≢ Flood → length xs ≤ limit → Consumes a c xs → TakesBefore a c limit fault
no_flood a c xs limit fault other within p = record {
  taken = xs;
  consumed = p;
  flood = (λ is. absurd (other is), λ more. absurd (omega arith));
  bounded = omega arith;
}

-- A source that tells its bytes, and has no more than the limit, gives no flood.
pub TakesBefore-told : (xs : List ℕ) (new : Option (List ℕ)) (limit : ℕ) (fault : WholeFault) → length xs ≤ limit → TakesBefore (Some xs) new limit fault → fault ≢ Flood
TakesBefore-told xs None limit fault within took is = absurd took.consumed
TakesBefore-told xs (Some ys) limit fault within took is =
    let past : limit < length took.taken = took.flood.0 is in
    omega (arith, length-append took.taken ys, ap length took.consumed)

-- A read into the rest of a buffer leaves its length, and makes the front longer that was filled.
pub filled-length : (xs ys : List ℕ) (at : ℕ) → at ≤ length xs → length ys ≡ length xs - at → length (put_mid at (length xs - at) xs ys) ≡ length xs
filled-length xs ys at h long =
    ap length (put_mid-paste at (length xs - at) xs ys ys (length xs - at) refl refl (sym long))
    ∙ length-paste xs at ys (length xs - at) (omega arith) (omega (arith, long))

pub filled-more : (xs ys : List ℕ) (at n : ℕ) → at ≤ length xs → n ≤ length ys → take (at + n) (put_mid at (length xs - at) xs ys) ≡ take at xs ++ take n ys
filled-more xs ys at n h fits =
    let behind = ys ++ post_of at (length xs - at) xs in
    ap (λ m. take (m + n) (take at xs ++ behind)) (sym (length-take-le at xs h))
    ∙ take-append-add (take at xs) behind n
    ∙ ap (λ l. take at xs ++ l) (take-append-le n ys _ fits)
