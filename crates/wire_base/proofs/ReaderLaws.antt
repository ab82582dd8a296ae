-- Two laws hold of every reader of a record: what was taken is its spelling, and what is spelled is read again,
-- whatever follows. A record's reader has them from its fields.
use Rattle.std.proofs.Common.{◌≡◌, ℕ, zero, suc, ◌+◌, ◌<◌, ◌≤◌, ◌^◌, List, [], ◌∷◌, ◌++◌, length, take, drop, Bool, true, false, cond, ltb, Result, Ok, Err, refl, sym, ap, subst, ◌∙◌, append_assoc, add_assoc, arith, get_or, inl, inr}
use Rattle.std.specs.List.{flat_map, AllByRecursion}
use Rattle.std.specs.Int.{Width, w8, w16, w32, w64, byte_len, to_le_bytes, from_le_bytes}
use Rattle.std.proofs.lemmas.Bool.{cases_lt, ltb-false, le-ltb}
use Rattle.std.proofs.lemmas.List.{take_at, drop_at, take-append-drop, length-append, length-take, drop-drop, drop_all, get_or-drop, get_or-take, get_or_past}
use Rattle.std.proofs.lemmas.Nat.{le_bytes_2, le_bytes_4, le_bytes_8, from_le_bytes-to_le_bytes_2, from_le_bytes-to_le_bytes_4, from_le_bytes-to_le_bytes_8}
use Rattle.wire_base.specs.Texts.{is_text}
use Rattle.wire_base.specs.Readers.{Reader, ◌>>=◌, number, block, string, times, listed, both, converted, nothing, no_more, counted, spelled, listing, FitsList, IsString}

-- each is a byte
abbrev pub AreBytes : List ℕ → Type 0
AreBytes bytes = (i : ℕ) → get_or bytes i 0 < 256

pub AreBytes-drop : (n : ℕ) (bytes : List ℕ) → AreBytes bytes → AreBytes (drop n bytes)
AreBytes-drop n bytes h i = rw get_or-drop (h (n + i))

pub AreBytes-take : (n : ℕ) (bytes : List ℕ) → AreBytes bytes → AreBytes (take n bytes)
AreBytes-take n bytes h i =
    elim (cases_lt i n) [
      | inl lt ↦ rw (get_or-take n bytes i 0 lt) (h i)
      | inr le ↦ rw (get_or_past (take n bytes) i 0 (omega (arith, length-take n bytes))) (omega arith)
    ]

-- the value of a step that did not fail
pub bind_ok : {A B : Type 0} (r : Result A ℕ) (f : A → Result B ℕ) (y : B) → (r >>= f) ≡ Ok y → (x : A) × (r ≡ Ok x) × (f x ≡ Ok y)
bind_ok (Ok x) f y e = (x, refl, e)
bind_ok (Err d) f y e = absurd cc

-- a test that did not fail
pub guard_ok : {A : Type 0} (b : Bool) (d : ℕ) (r : Result A ℕ) (y : A) → cond b (Err d) r ≡ Ok y → (b ≡ false) × (r ≡ Ok y)
guard_ok true d r y e = absurd cc
guard_ok false d r y e = (refl, e)

abbrev pub done : {A : Type 0} → A → Result A ℕ
done x = Ok x

pub ok_is : {A : Type 0} (x y : A) → done x ≡ done y → x ≡ y
ok_is x y e = cc

-- what a reader took from a place on
pub record Taken (bytes : List ℕ) (at next : ℕ) (text : List ℕ) : Type 0 where
  pub parts : drop at bytes ≡ text ++ drop next bytes
  pub place : next ≡ at + length text

pub Taken-then : (bytes : List ℕ) (a b c : ℕ) (x y : List ℕ) → Taken bytes a b x → Taken bytes b c y → Taken bytes a c (x ++ y)
Taken-then bytes a b c x y p q = record {
  parts = p.parts ∙ ap (λ (t : List ℕ). x ++ t) q.parts ∙ sym (append_assoc x y (drop c bytes));
  place = omega (arith, p.place, q.place, length-append x y);
}

-- what stands behind a piece
pub drop_behind : (bytes piece rest : List ℕ) (at : ℕ) → drop at bytes ≡ piece ++ rest → drop (at + length piece) bytes ≡ rest
drop_behind bytes piece rest at e = sym (drop-drop (length piece) at bytes) ∙ ap (drop (length piece)) e ∙ drop_at piece rest (length piece) refl

-- the two laws of a reader
pub record Spells {A : Type 0} (read : Reader A) (spelling : A → List ℕ) (Fits : A → Type 0) : Type 0 where
  -- what was taken is its spelling
  pub taken : (bytes : List ℕ) (at next : ℕ) (x : A) → AreBytes bytes → read bytes at ≡ Ok (x, next) → Taken bytes at next (spelling x) × Fits x
  -- what is spelled is read again, whatever follows
  pub again : (bytes rest : List ℕ) (at : ℕ) (x : A) → Fits x → drop at bytes ≡ spelling x ++ rest → read bytes at ≡ Ok (x, at + length (spelling x))

-- ---- numbers

pub record IsWide (w : Width) (limit : ℕ) : Type 0 where
  pub len : (n : ℕ) → length (to_le_bytes w n) ≡ byte_len w
  pub back : (bytes : List ℕ) → length bytes ≡ byte_len w → AreBytes bytes → to_le_bytes w (from_le_bytes w bytes) ≡ bytes
  pub again : (n : ℕ) → n < limit → from_le_bytes w (to_le_bytes w n) ≡ n
  pub below : (bytes : List ℕ) → AreBytes bytes → from_le_bytes w bytes < limit

pub wide8 : IsWide w8 (2 ^ 8)
wide8 = record {
  len = λ n. refl;
  back = λ bytes len fits. back8 bytes len fits;
  again = λ n lt. again8 n lt;
  below = λ bytes fits. omega (arith, fits 0);
}
  where
    back8 : (bytes : List ℕ) → length bytes ≡ 1 → AreBytes bytes → to_le_bytes w8 (from_le_bytes w8 bytes) ≡ bytes
    back8 [] len fits = absurd (omega arith)
    back8 (b ∷ []) len fits = let lt : b < 256 = fits 0 in ap (λ (x : ℕ). x ∷ []) (omega arith)
    back8 (b ∷ c ∷ bs) len fits = absurd (omega arith)

    again8 : (n : ℕ) → n < 2 ^ 8 → from_le_bytes w8 (to_le_bytes w8 n) ≡ n
    again8 n lt = omega arith

pub wide16 : IsWide w16 (2 ^ 16)
wide16 = record {
  len = λ n. refl;
  back = λ bytes len fits. le_bytes_2 bytes _ len fits refl;
  again = λ n lt. from_le_bytes-to_le_bytes_2 n lt;
  below = λ bytes fits. omega (arith, fits 0, fits 1);
}

pub wide32 : IsWide w32 (2 ^ 32)
wide32 = record {
  len = λ n. refl;
  back = λ bytes len fits. le_bytes_4 bytes _ len fits refl;
  again = λ n lt. from_le_bytes-to_le_bytes_4 n lt;
  below = λ bytes fits. omega (arith, fits 0, fits 1, fits 2, fits 3);
}

pub wide64 : IsWide w64 (2 ^ 64)
wide64 = record {
  len = λ n. refl;
  back = λ bytes len fits. le_bytes_8 bytes _ len fits refl;
  again = λ n lt. from_le_bytes-to_le_bytes_8 n lt;
  below = λ bytes fits. omega (arith, fits 0, fits 1, fits 2, fits 3, fits 4, fits 5, fits 6, fits 7);
}

number_taken : (w : Width) (limit : ℕ) (wide : IsWide w limit) (bytes : List ℕ) (at next n : ℕ) → AreBytes bytes → number w bytes at ≡ Ok (n, next) → Taken bytes at next (to_le_bytes w n) × (n < limit)
number_taken w limit wide bytes at next n fits e =
    let rest = drop at bytes in
    let front = take (byte_len w) rest in
    let g = guard_ok (ltb (length rest) (byte_len w)) at (Ok (from_le_bytes w front, at + byte_len w)) (n, next) e in
    let long : byte_len w ≤ length rest = ltb-false _ _ g.0 in
    let same = ok_is (from_le_bytes w front, at + byte_len w) (n, next) g.1 in
    let n-is : from_le_bytes w front ≡ n = ap (λ (p : ℕ × ℕ). p.0) same in
    let next-is : at + byte_len w ≡ next = ap (λ (p : ℕ × ℕ). p.1) same in
    let fits-front : AreBytes front = AreBytes-take (byte_len w) rest (AreBytes-drop at bytes fits) in
    let spelled-is : to_le_bytes w n ≡ front = rw (← n-is) (wide.back front (omega (arith, length-take (byte_len w) rest)) fits-front) in (
      record {
        parts = rw (spelled-is, ← next-is, ← drop-drop (byte_len w) at bytes) (sym (take-append-drop (byte_len w) rest));
        place = omega (arith, wide.len n);
      },
      rw (← n-is) (wide.below front fits-front),
    )

number_again : (w : Width) (limit : ℕ) (wide : IsWide w limit) (bytes rest : List ℕ) (at n : ℕ) → n < limit → drop at bytes ≡ to_le_bytes w n ++ rest → number w bytes at ≡ Ok (n, at + length (to_le_bytes w n))
number_again w limit wide bytes rest at n lt e =
    let len = wide.len n in
    let long : ltb (length (to_le_bytes w n ++ rest)) (byte_len w) ≡ false = le-ltb _ _ (omega (arith, length-append (to_le_bytes w n) rest)) in
    rw (e, long, take_at (to_le_bytes w n) rest (byte_len w) len, wide.again n lt, len) refl

pub number_spells : (w : Width) (limit : ℕ) → IsWide w limit → Spells (number w) (to_le_bytes w) (λ n. n < limit)
number_spells w limit wide = record { taken = number_taken w limit wide; again = number_again w limit wide }

-- ---- fields from fields

pub both_spells : {A B : Type 0} (first : Reader A) (second : Reader B) (text : A → List ℕ) (tail : B → List ℕ) (P : A → Type 0) (Q : B → Type 0) → Spells first text P → Spells second tail Q → Spells (both first second) (λ (p : A × B). text p.0 ++ tail p.1) (λ (p : A × B). P p.0 × Q p.1)
both_spells {A} {B} first second text tail P Q s t = record { taken = taken; again = again }
  where
    taken : (bytes : List ℕ) (at next : ℕ) (p : A × B) → AreBytes bytes → both first second bytes at ≡ Ok (p, next) → Taken bytes at next (text p.0 ++ tail p.1) × (P p.0 × Q p.1)
    taken bytes at next p fits e =
        let b = bind_ok (first bytes at) (λ x. second bytes x.1 >>= λ y. Ok ((x.0, y.0), y.1)) (p, next) e in
        let c = bind_ok (second bytes b.0.1) (λ y. Ok ((b.0.0, y.0), y.1)) (p, next) b.2 in
        let same = ok_is ((b.0.0, c.0.0), c.0.1) (p, next) c.2 in
        let one = s.taken bytes at b.0.1 b.0.0 fits b.1 in
        let two = t.taken bytes b.0.1 c.0.1 c.0.0 fits c.1 in
        subst (λ (q : (A × B) × ℕ). Taken bytes at q.1 (text q.0.0 ++ tail q.0.1) × (P q.0.0 × Q q.0.1)) same
        (Taken-then bytes at b.0.1 c.0.1 (text b.0.0) (tail c.0.0) one.0 two.0, (one.1, two.1))

    again : (bytes rest : List ℕ) (at : ℕ) (p : A × B) → P p.0 × Q p.1 → drop at bytes ≡ (text p.0 ++ tail p.1) ++ rest → both first second bytes at ≡ Ok (p, at + length (text p.0 ++ tail p.1))
    again bytes rest at p fits e =
        let here : drop at bytes ≡ text p.0 ++ (tail p.1 ++ rest) = e ∙ append_assoc (text p.0) (tail p.1) rest in
        let behind = drop_behind bytes (text p.0) (tail p.1 ++ rest) at here in
        rw (s.again bytes (tail p.1 ++ rest) at p.0 fits.0 here, t.again bytes rest (at + length (text p.0)) p.1 fits.1 behind, length-append (text p.0) (tail p.1))
        (ap (λ (n : ℕ). Ok (p, n)) (add_assoc at (length (text p.0)) (length (tail p.1))))

-- the same under another form of the value
pub converted_spells : {A B : Type 0} (f : A → B) (back : B → A) (read : Reader A) (text : A → List ℕ) (P : A → Type 0) → ((x : A) → back (f x) ≡ x) → ((y : B) → P (back y) → f (back y) ≡ y) → Spells read text P → Spells (converted f read) (λ (y : B). text (back y)) (λ (y : B). P (back y))
converted_spells {A} {B} f back read text P undone same s = record { taken = taken; again = again }
  where
    taken : (bytes : List ℕ) (at next : ℕ) (y : B) → AreBytes bytes → converted f read bytes at ≡ Ok (y, next) → Taken bytes at next (text (back y)) × P (back y)
    taken bytes at next y fits e =
        let b = bind_ok (read bytes at) (λ x. Ok (f x.0, x.1)) (y, next) e in
        let is = ok_is (f b.0.0, b.0.1) (y, next) b.2 in
        let one = s.taken bytes at b.0.1 b.0.0 fits b.1 in
        subst (λ (q : B × ℕ). Taken bytes at q.1 (text (back q.0)) × P (back q.0)) is (rw (undone b.0.0) one)

    again : (bytes rest : List ℕ) (at : ℕ) (y : B) → P (back y) → drop at bytes ≡ text (back y) ++ rest → converted f read bytes at ≡ Ok (y, at + length (text (back y)))
    again bytes rest at y fits e = rw (s.again bytes rest at (back y) fits e, same y fits) refl

pub nothing_spells : Spells nothing (λ (u : Unit {0}). []) (λ (u : Unit {0}). Unit {0})
nothing_spells = record { taken = taken; again = again }
  where
    taken : (bytes : List ℕ) (at next : ℕ) (u : Unit {0}) → AreBytes bytes → nothing bytes at ≡ Ok (u, next) → Taken bytes at next [] × Unit {0}
    taken bytes at next u fits e =
        let same = ok_is (u, at) (u, next) e in
        let is : at ≡ next = ap (λ (p : Unit {0} × ℕ). p.1) same in
        (record { parts = ap (λ (n : ℕ). drop n bytes) is; place = omega arith }, tt)

    again : (bytes rest : List ℕ) (at : ℕ) (u : Unit {0}) → Unit {0} → drop at bytes ≡ [] ++ rest → nothing bytes at ≡ Ok (u, at + length {A = ℕ} [])
    again bytes rest at u fits e = ap (λ (n : ℕ). Ok (u, n)) (omega arith)

-- ---- a length, and then that many bytes

pub block_spells : (w : Width) (limit : ℕ) → IsWide w limit → Spells (block w) (counted w) (λ bytes. length bytes < limit)
unfolding block
block_spells w limit wide = record { taken = taken; again = again }
  where
    taken : (bytes : List ℕ) (at next : ℕ) (x : List ℕ) → AreBytes bytes → block w bytes at ≡ Ok (x, next) → Taken bytes at next (counted w x) × (length x < limit)
    taken bytes at next x fits e =
        let b = bind_ok (number w bytes at) (λ n. cond (ltb (length (drop n.1 bytes)) n.0) (Err at) (Ok (take n.0 (drop n.1 bytes), n.1 + n.0))) (x, next) e in
        let n = b.0 in
        let g = guard_ok (ltb (length (drop n.1 bytes)) n.0) at (Ok (take n.0 (drop n.1 bytes), n.1 + n.0)) (x, next) b.2 in
        let one = number_taken w limit wide bytes at n.1 n.0 fits b.1 in
        let body = take n.0 (drop n.1 bytes) in
        let len : length body ≡ n.0 = omega (arith, length-take n.0 (drop n.1 bytes), ltb-false _ _ g.0) in
        let two : Taken bytes n.1 (n.1 + n.0) body = record {
          parts = rw (← drop-drop n.0 n.1 bytes) (sym (take-append-drop n.0 (drop n.1 bytes)));
          place = omega (arith, len);
        } in
        let whole = Taken-then bytes at n.1 (n.1 + n.0) (to_le_bytes w n.0) body one.0 two in
        let spelled_so : Taken bytes at (n.1 + n.0) (counted w body) = subst (λ (k : ℕ). Taken bytes at (n.1 + n.0) (to_le_bytes w k ++ body)) (sym len) whole in
        subst (λ (p : List ℕ × ℕ). Taken bytes at p.1 (counted w p.0) × (length p.0 < limit)) (ok_is (body, n.1 + n.0) (x, next) g.1)
        (spelled_so, rw len one.1)

    again : (bytes rest : List ℕ) (at : ℕ) (x : List ℕ) → length x < limit → drop at bytes ≡ counted w x ++ rest → block w bytes at ≡ Ok (x, at + length (counted w x))
    again bytes rest at x lt e =
        let front = to_le_bytes w (length x) in
        let here : drop at bytes ≡ front ++ (x ++ rest) = e ∙ append_assoc front x rest in
        let behind = drop_behind bytes front (x ++ rest) at here in
        let long : ltb (length (x ++ rest)) (length x) ≡ false = le-ltb _ _ (omega (arith, length-append x rest)) in
        rw (number_again w limit wide bytes (x ++ rest) at (length x) lt here, behind, long, take_at x rest (length x) refl, length-append front x)
        (ap (λ (n : ℕ). Ok (x, n)) (add_assoc at (length front) (length x)))

pub string_spells : Spells string spelled IsString
unfolding string
string_spells = record { taken = taken; again = again }
  where
    laws : Spells (block w16) (counted w16) (λ bytes. length bytes < 2 ^ 16)
    laws = block_spells w16 (2 ^ 16) wide16

    chosen_ok : (b : Bool) (at : ℕ) (s y : List ℕ × ℕ) → cond b (Ok s) (Err at) ≡ Ok y → (b ≡ true) × (s ≡ y)
    chosen_ok true at s y e = (refl, ok_is s y e)
    chosen_ok false at s y e = absurd cc

    taken : (bytes : List ℕ) (at next : ℕ) (x : List ℕ) → AreBytes bytes → string bytes at ≡ Ok (x, next) → Taken bytes at next (spelled x) × IsString x
    taken bytes at next x fits e =
        let b = bind_ok (block w16 bytes at) (λ s. cond (is_text s.0) (Ok s) (Err at)) (x, next) e in
        let g = chosen_ok (is_text b.0.0) at b.0 (x, next) b.2 in
        let one = laws.taken bytes at b.0.1 b.0.0 fits b.1 in
        subst (λ (p : List ℕ × ℕ). Taken bytes at p.1 (spelled p.0) × IsString p.0) g.1 (one.0, record { short = one.1; text = g.0 })

    again : (bytes rest : List ℕ) (at : ℕ) (x : List ℕ) → IsString x → drop at bytes ≡ spelled x ++ rest → string bytes at ≡ Ok (x, at + length (spelled x))
    again bytes rest at x fits e = rw (laws.again bytes rest at x fits.short e, fits.text) refl

-- ---- lists

pub times_taken : {A : Type 0} (read : Reader A) (text : A → List ℕ) (P : A → Type 0) → Spells read text P → (n : ℕ) (bytes : List ℕ) (at next : ℕ) (xs : List A) → AreBytes bytes → times read n bytes at ≡ Ok (xs, next) → Taken bytes at next (flat_map text xs) × ((length xs ≡ n) × AllByRecursion P xs)
times_taken {A} read text P s zero bytes at next xs fits e =
    subst (λ (p : List A × ℕ). Taken bytes at p.1 (flat_map text p.0) × ((length p.0 ≡ 0) × AllByRecursion P p.0)) (ok_is ([], at) (xs, next) e)
    (record { parts = refl; place = omega arith }, (refl, tt))
times_taken {A} read text P s (suc n) bytes at next xs fits e =
    let b = bind_ok (read bytes at) (λ first. times read n bytes first.1 >>= λ others. Ok (first.0 ∷ others.0, others.1)) (xs, next) e in
    let c = bind_ok (times read n bytes b.0.1) (λ others. Ok (b.0.0 ∷ others.0, others.1)) (xs, next) b.2 in
    let one = s.taken bytes at b.0.1 b.0.0 fits b.1 in
    let more = times_taken read text P s n bytes b.0.1 c.0.1 c.0.0 fits c.1 in
    subst (λ (p : List A × ℕ). Taken bytes at p.1 (flat_map text p.0) × ((length p.0 ≡ suc n) × AllByRecursion P p.0)) (ok_is (b.0.0 ∷ c.0.0, c.0.1) (xs, next) c.2)
    (Taken-then bytes at b.0.1 c.0.1 (text b.0.0) (flat_map text c.0.0) one.0 more.0, (ap suc more.1.0, (one.1, more.1.1)))

pub times_again : {A : Type 0} (read : Reader A) (text : A → List ℕ) (P : A → Type 0) → Spells read text P → (xs : List A) (bytes rest : List ℕ) (at : ℕ) → AllByRecursion P xs → drop at bytes ≡ flat_map text xs ++ rest → times read (length xs) bytes at ≡ Ok (xs, at + length (flat_map text xs))
times_again {A} read text P s [] bytes rest at fits e = ap (λ (n : ℕ). Ok ([], n)) (omega arith)
times_again {A} read text P s (x ∷ xs) bytes rest at fits e =
    let here : drop at bytes ≡ text x ++ (flat_map text xs ++ rest) = e ∙ append_assoc (text x) (flat_map text xs) rest in
    let behind = drop_behind bytes (text x) (flat_map text xs ++ rest) at here in
    rw (s.again bytes (flat_map text xs ++ rest) at x fits.0 here, times_again read text P s xs bytes rest (at + length (text x)) fits.1 behind, length-append (text x) (flat_map text xs))
    (ap (λ (n : ℕ). Ok (x ∷ xs, n)) (add_assoc at (length (text x)) (length (flat_map text xs))))

pub listed_spells : {A : Type 0} (w : Width) (limit most : ℕ) (wide : IsWide w limit) (read : Reader A) (text : A → List ℕ) (P : A → Type 0) → most < limit → Spells read text P → Spells (listed w most read) (listing w text) (FitsList most P)
unfolding listed
listed_spells {A} w limit most wide read text P small s = record { taken = taken; again = again }
  where
    taken : (bytes : List ℕ) (at next : ℕ) (xs : List A) → AreBytes bytes → listed w most read bytes at ≡ Ok (xs, next) → Taken bytes at next (listing w text xs) × FitsList most P xs
    taken bytes at next xs fits e =
        let b = bind_ok (number w bytes at) (λ n. cond (ltb most n.0) (Err at) (times read n.0 bytes n.1)) (xs, next) e in
        let n = b.0 in
        let g = guard_ok (ltb most n.0) at (times read n.0 bytes n.1) (xs, next) b.2 in
        let one = number_taken w limit wide bytes at n.1 n.0 fits b.1 in
        let more = times_taken read text P s n.0 bytes n.1 next xs fits g.1 in
        let whole = Taken-then bytes at n.1 next (to_le_bytes w n.0) (flat_map text xs) one.0 more.0 in (
          subst (λ (k : ℕ). Taken bytes at next (to_le_bytes w k ++ flat_map text xs)) (sym more.1.0) whole,
          record { few = omega (arith, more.1.0, ltb-false _ _ g.0); each = more.1.1 },
        )

    again : (bytes rest : List ℕ) (at : ℕ) (xs : List A) → FitsList most P xs → drop at bytes ≡ listing w text xs ++ rest → listed w most read bytes at ≡ Ok (xs, at + length (listing w text xs))
    again bytes rest at xs fits e =
        let front = to_le_bytes w (length xs) in
        let here : drop at bytes ≡ front ++ (flat_map text xs ++ rest) = e ∙ append_assoc front (flat_map text xs) rest in
        let behind = drop_behind bytes front (flat_map text xs ++ rest) at here in
        let few : ltb most (length xs) ≡ false = le-ltb _ _ fits.few in
        rw (number_again w limit wide bytes (flat_map text xs ++ rest) at (length xs) (omega (arith, fits.few)) here, few, times_again read text P s xs bytes rest (at + length front) fits.each behind, length-append front (flat_map text xs))
        (ap (λ (n : ℕ). Ok (xs, n)) (add_assoc at (length front) (length (flat_map text xs))))

-- ---- the end

-- nothing stands behind a place that no_more takes
pub no_more_taken : {A : Type 0} (x y : A) (bytes : List ℕ) (at : ℕ) → no_more x bytes at ≡ Ok y → (x ≡ y) × (drop at bytes ≡ [])
no_more_taken x y bytes at e =
    let g = guard_ok (ltb at (length bytes)) at (Ok x) y e in
    (ok_is x y g.1, drop_all at bytes (ltb-false _ _ g.0))

pub no_more_again : {A : Type 0} (x : A) (bytes : List ℕ) (at : ℕ) → length bytes ≤ at → no_more x bytes at ≡ Ok x
no_more_again x bytes at le = rw (le-ltb at (length bytes) le) refl
