-- A reader that begins within the bytes ends, or finds its fault, within them.
use Rattle.std.proofs.Common.{◌≡◌, ℕ, zero, suc, ◌+◌, ◌≤◌, List, ◌∷◌, length, take, drop, Bool, true, false, cond, ltb, Result, Ok, Err, refl, arith}
use Rattle.std.specs.Int.{Width, w16, byte_len, from_le_bytes}
use Rattle.std.proofs.lemmas.Bool.{ltb-false}
use Rattle.std.proofs.lemmas.List.{length-drop}
use Rattle.wire_base.specs.Texts.{is_text}
use Rattle.wire_base.specs.Readers.{Reader, ◌>>=◌, number, block, string, times, listed, both, converted}

abbrev pub Inside : {A : Type 0} → List ℕ → Result (A × ℕ) ℕ → Type 0
Inside bytes (Ok x) = x.1 ≤ length bytes
Inside bytes (Err fault) = fault ≤ length bytes

abbrev pub Within : {A : Type 0} → Reader A → Type 0
Within read = (bytes : List ℕ) (at : ℕ) → at ≤ length bytes → Inside bytes (read bytes at)

pub bind_inside : {A B : Type 0} (bytes : List ℕ) (r : Result (A × ℕ) ℕ) (f : A × ℕ → Result (B × ℕ) ℕ) → Inside bytes r → ((x : A × ℕ) → x.1 ≤ length bytes → Inside bytes (f x)) → Inside bytes (r >>= f)
bind_inside bytes (Ok x) f h k = k x h
bind_inside bytes (Err fault) f h k = h

pub cond_inside : {A : Type 0} (bytes : List ℕ) (b : Bool) (r s : Result (A × ℕ) ℕ) → (b ≡ true → Inside bytes r) → (b ≡ false → Inside bytes s) → Inside bytes (cond b r s)
cond_inside bytes true r s p q = p refl
cond_inside bytes false r s p q = q refl

pub number_within : (w : Width) → Within (number w)
number_within w bytes at le = cond_inside bytes (ltb (length (drop at bytes)) (byte_len w)) (Err at) (Ok (from_le_bytes w (take (byte_len w) (drop at bytes)), at + byte_len w))
    (λ e. le) (λ e. omega (arith, ltb-false _ _ e, length-drop at bytes))

pub block_within : (w : Width) → Within (block w)
unfolding block
block_within w bytes at le = bind_inside bytes (number w bytes at) (λ n. cond (ltb (length (drop n.1 bytes)) n.0) (Err at) (Ok (take n.0 (drop n.1 bytes), n.1 + n.0)))
    (number_within w bytes at le)
    (λ n h. cond_inside bytes (ltb (length (drop n.1 bytes)) n.0) (Err at) (Ok (take n.0 (drop n.1 bytes), n.1 + n.0)) (λ e. le) (λ e. omega (arith, ltb-false _ _ e, length-drop n.1 bytes)))

pub string_within : Within string
unfolding string
string_within bytes at le = bind_inside bytes (block w16 bytes at) (λ s. cond (is_text s.0) (Ok s) (Err at))
    (block_within w16 bytes at le) (λ s h. cond_inside bytes (is_text s.0) (Ok s) (Err at) (λ e. h) (λ e. le))

pub times_within : {A : Type 0} (read : Reader A) → Within read → (n : ℕ) → Within (times read n)
times_within read w zero bytes at le = le
times_within read w (suc n) bytes at le = bind_inside bytes (read bytes at) (λ first. times read n bytes first.1 >>= λ others. Ok (first.0 ∷ others.0, others.1))
    (w bytes at le) (λ first h. bind_inside bytes (times read n bytes first.1) (λ others. Ok (first.0 ∷ others.0, others.1)) (times_within read w n bytes first.1 h) (λ others k. k))

pub listed_within : {A : Type 0} (w : Width) (most : ℕ) (read : Reader A) → Within read → Within (listed w most read)
unfolding listed
listed_within w most read p bytes at le = bind_inside bytes (number w bytes at) (λ n. cond (ltb most n.0) (Err at) (times read n.0 bytes n.1))
    (number_within w bytes at le) (λ n h. cond_inside bytes (ltb most n.0) (Err at) (times read n.0 bytes n.1) (λ e. le) (λ e. times_within read p n.0 bytes n.1 h))

pub both_within : {A B : Type 0} (first : Reader A) (second : Reader B) → Within first → Within second → Within (both first second)
both_within first second p q bytes at le = bind_inside bytes (first bytes at) (λ x. second bytes x.1 >>= λ y. Ok ((x.0, y.0), y.1))
    (p bytes at le) (λ x h. bind_inside bytes (second bytes x.1) (λ y. Ok ((x.0, y.0), y.1)) (q bytes x.1 h) (λ y k. k))

pub converted_within : {A B : Type 0} (f : A → B) (read : Reader A) → Within read → Within (converted f read)
converted_within f read p bytes at le = bind_inside bytes (read bytes at) (λ x. Ok (f x.0, x.1)) (p bytes at le) (λ x h. h)
