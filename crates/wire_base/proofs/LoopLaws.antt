-- A loop that reads values one behind the other.
use Rattle.std.proofs.Common.{◌≡◌, ℕ, suc, ◌-◌, ◌+◌, ◌≤◌, ◌<◌, List, [], ◌∷◌, ◌++◌, Result, Ok, Err, refl, sym, ap, ◌∙◌, append_assoc, arith}
use Rattle.std.proofs.lemmas.List.{append-nil}
use Rattle.wire_base.specs.declared.reader.CodecFault.{CodecFault}
use Rattle.wire_base.specs.declared.reader.CodecFault.TheVariants as faults
use Rattle.wire_base.specs.Readers.{Reader, ◌>>=◌, times, Fails}

-- what was read before, and what is still read
abbrev pub with_front : {A : Type 0} → List A → Result (List A × ℕ) ℕ → Result (List A × ℕ) ℕ
with_front front read = read >>= λ x. Ok (front ++ x.0, x.1)

regroup : {A : Type 0} (front : List A) (x : A) (read : Result (List A × ℕ) ℕ) → with_front front (read >>= λ r. Ok (x ∷ r.0, r.1)) ≡ with_front (front ++ x ∷ []) read
regroup {A} front x (Ok r) = ap (λ (xs : List A). Ok (xs, r.1)) (simp append_assoc)
regroup front x (Err f) = refl

pub goes_on : {A : Type 0} (read : Reader A) (front : List A) (count i : ℕ) (bytes : List ℕ) (at : ℕ) (x : A) (next : ℕ) (total : Result (List A × ℕ) ℕ) → i < count → read bytes at ≡ Ok (x, next)
    → with_front front (times read (count - i) bytes at) ≡ total → with_front (front ++ x ∷ []) (times read (count - (i + 1)) bytes next) ≡ total
goes_on read front count i bytes at x next total lt h so_far =
    let k : count - i ≡ suc (count - (i + 1)) = omega arith in
    let one : with_front front (times read (count - i) bytes at) ≡ with_front (front ++ x ∷ []) (times read (count - (i + 1)) bytes next) = rw (k, h) (regroup front x (times read (count - (i + 1)) bytes next)) in
    sym one ∙ so_far

pub ends : {A : Type 0} (read : Reader A) (e : CodecFault) (front : List A) (count i : ℕ) (bytes : List ℕ) (at : ℕ) (total : Result (List A × ℕ) ℕ) → i < count → Fails e (read bytes at)
    → with_front front (times read (count - i) bytes at) ≡ total → Fails e total
ends read faults.NoMemory front count i bytes at total lt h so_far = tt
ends read (faults.Bad bad) front count i bytes at total lt h so_far =
    let k : count - i ≡ suc (count - (i + 1)) = omega arith in
    let one : with_front front (times read (count - i) bytes at) ≡ Err bad.at = rw (k, h) refl in
    sym so_far ∙ one

pub is_done : {A : Type 0} (read : Reader A) (front : List A) (count i : ℕ) (bytes : List ℕ) (at : ℕ) (total : Result (List A × ℕ) ℕ) → count ≤ i → with_front front (times read (count - i) bytes at) ≡ total → total ≡ Ok (front, at)
is_done {A} read front count i bytes at total le so_far =
    let k : count - i ≡ 0 = omega arith in
    let one : with_front front (times read (count - i) bytes at) ≡ Ok (front, at) = rw k (ap (λ (xs : List A). Ok (xs, at)) (append-nil front)) in
    sym so_far ∙ one
