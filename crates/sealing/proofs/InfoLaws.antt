-- The bytes that are read as an authinfo are its spelling, and the spelling is read.
use Rattle.std.proofs.Common.{◌≡◌, ℕ, ◌+◌, ◌<◌, ◌≤◌, ◌^◌, Bool, true, false, cond, ltb, eqb, List, [], ◌++◌, length, take, drop, Result, Ok, Err, Some, None, refl, sym, ap, subst, ◌∙◌, arith, append_assoc, append-nil, inl, inr}
use Rattle.std.specs.Prelude.{Option, ◌↔◌, ◌&&◌}
use Rattle.std.specs.Int.{w16, to_le_bytes}
use Rattle.std.proofs.lemmas.Bool.{cases_Bool, lt-ltb, le-ltb, ltb-true, ltb-false, eqb-true, eq-eqb}
use Rattle.std.proofs.lemmas.List.{length-append, length-take-le, take-append-drop, drop-drop, take_at}
use Rattle.wire_base.specs.Texts.{is_text}
use Rattle.wire_base.specs.Names.{IsName}
use Rattle.wire_base.specs.Readers.{number, string, no_more, counted}
use Rattle.wire_base.specs.declared.name.AuthInfo.{AuthInfo}
use Rattle.wire_base.proofs.ReaderLaws.{AreBytes, Taken, Spells, bind_ok, guard_ok, done, ok_is, wide16, number_spells, string_spells, both_spells, no_more_taken, no_more_again}
use Rattle.sealing.specs.Info.{IsInfo, info_text}
use Rattle.sealing.specs.InfoReading.{name_at, given, eight_at, info_fields, info_reading}

-- the test of a name says what it is to say
pub is_name : (name : List ℕ) → (ltb (length name) 28 && is_text name ≡ true) ↔ IsName 28 name
is_name name = (holds, tells)
  where
    holds : ltb (length name) 28 && is_text name ≡ true → IsName 28 name
    holds e = elim (cases_Bool (ltb (length name) 28)) [
      | inl is ↦ record { text = rw is at e; short = ltb-true _ _ is }
      | inr not_so ↦ absurd (let f = rw not_so at e in (cc))
    ]

    tells : IsName 28 name → ltb (length name) 28 && is_text name ≡ true
    tells is = rw (lt-ltb _ _ is.short, is.text) refl

chosen_ok : {A : Type 0} (b : Bool) (at : ℕ) (s y : A) → cond b (Ok s) (Err at) ≡ Ok y → (b ≡ true) × (s ≡ y)
chosen_ok true at s y e = (refl, ok_is s y e)
chosen_ok false at s y e = absurd cc

name_spells : Spells name_at (counted w16) (IsName 28)
unfolding name_at
name_spells = record { taken = taken; again = again }
  where
    taken : (bytes : List ℕ) (at next : ℕ) (x : List ℕ) → AreBytes bytes → name_at bytes at ≡ Ok (x, next) → Taken bytes at next (counted w16 x) × IsName 28 x
    taken bytes at next x fits e =
        let b = bind_ok (string bytes at) (λ s. cond (ltb (length s.0) 28 && is_text s.0) (Ok s) (Err at)) (x, next) e in
        let g = chosen_ok (ltb (length b.0.0) 28 && is_text b.0.0) at b.0 (x, next) b.2 in
        let one = string_spells.taken bytes at b.0.1 b.0.0 fits b.1 in
        let named : IsName 28 b.0.0 = (is_name b.0.0).0 g.0 in
        subst (λ (p : List ℕ × ℕ). Taken bytes at p.1 (counted w16 p.0) × IsName 28 p.0) g.1 (one.0, named)

    again : (bytes rest : List ℕ) (at : ℕ) (x : List ℕ) → IsName 28 x → drop at bytes ≡ counted w16 x ++ rest → name_at bytes at ≡ Ok (x, at + length (counted w16 x))
    again bytes rest at x fits e =
        rw (string_spells.again bytes rest at x (record { short = omega (arith, fits.short); text = fits.text }) e, (is_name x).1 fits) refl

given_spells : (wanted : ℕ) → wanted < 2 ^ 16 → Spells (given wanted) (λ (u : Unit {0}). to_le_bytes w16 wanted) (λ (u : Unit {0}). Unit {0})
unfolding given
given_spells wanted small = record { taken = taken; again = again }
  where
    laws : Spells (number w16) (to_le_bytes w16) (λ n. n < 2 ^ 16)
    laws = number_spells w16 (2 ^ 16) wide16

    taken : (bytes : List ℕ) (at next : ℕ) (u : Unit {0}) → AreBytes bytes → given wanted bytes at ≡ Ok (u, next) → Taken bytes at next (to_le_bytes w16 wanted) × Unit {0}
    taken bytes at next u fits e =
        let b = bind_ok (number w16 bytes at) (λ n. cond (eqb n.0 wanted) (Ok (tt, n.1)) (Err at)) (u, next) e in
        let g = chosen_ok (eqb b.0.0 wanted) at (tt, b.0.1) (u, next) b.2 in
        let one = laws.taken bytes at b.0.1 b.0.0 fits b.1 in
        let n : b.0.0 ≡ wanted = eqb-true _ _ g.0 in
        let place : b.0.1 ≡ next = ap (λ (p : Unit {0} × ℕ). p.1) g.1 in
        (subst (λ (k : ℕ). Taken bytes at k (to_le_bytes w16 wanted)) place (subst (λ (k : ℕ). Taken bytes at b.0.1 (to_le_bytes w16 k)) n one.0), tt)

    again : (bytes rest : List ℕ) (at : ℕ) (u : Unit {0}) → Unit {0} → drop at bytes ≡ to_le_bytes w16 wanted ++ rest → given wanted bytes at ≡ Ok (u, at + length (to_le_bytes w16 wanted))
    again bytes rest at u fits e =
        rw (laws.again bytes rest at wanted small e, eq-eqb wanted wanted refl) refl

eight_spells : Spells eight_at (λ (x : List ℕ). x) (λ (x : List ℕ). length x ≡ 8)
unfolding eight_at
eight_spells = record { taken = taken; again = again }
  where
    taken : (bytes : List ℕ) (at next : ℕ) (x : List ℕ) → AreBytes bytes → eight_at bytes at ≡ Ok (x, next) → Taken bytes at next x × (length x ≡ 8)
    taken bytes at next x fits e =
        let g = guard_ok (ltb (length (drop at bytes)) 8) at (Ok (take 8 (drop at bytes), at + 8)) (x, next) e in
        let room : 8 ≤ length (drop at bytes) = ltb-false _ _ g.0 in
        let len : length (take 8 (drop at bytes)) ≡ 8 = length-take-le 8 (drop at bytes) room in
        subst (λ (p : List ℕ × ℕ). Taken bytes at p.1 p.0 × (length p.0 ≡ 8)) (ok_is (take 8 (drop at bytes), at + 8) (x, next) g.1) (
          record { parts = rw (← drop-drop 8 at bytes) (sym (take-append-drop 8 (drop at bytes))); place = omega (arith, len) },
          len,
        )

    again : (bytes rest : List ℕ) (at : ℕ) (x : List ℕ) → length x ≡ 8 → drop at bytes ≡ x ++ rest → eight_at bytes at ≡ Ok (x, at + length x)
    again bytes rest at x fits e =
        let room : ltb (length (x ++ rest)) 8 ≡ false = le-ltb _ _ (omega (arith, length-append x rest)) in
        rw (e, room, take_at x rest 8 fits, fits) refl

abbrev Fields : Type 0
Fields = (((List ℕ × List ℕ) × Unit {0}) × Unit {0}) × List ℕ

abbrev fields_text : Fields → List ℕ
fields_text p = counted w16 p.0.0.0.0 ++ counted w16 p.0.0.0.1 ++ to_le_bytes w16 0 ++ to_le_bytes w16 8 ++ p.1

abbrev FieldsFit : Fields → Type 0
FieldsFit p = (((IsName 28 p.0.0.0.0 × IsName 28 p.0.0.0.1) × Unit {0}) × Unit {0}) × (length p.1 ≡ 8)

fields_spell : Spells info_fields fields_text FieldsFit
fields_spell = both_spells _ _ _ _ _ _ (both_spells _ _ _ _ _ _ (both_spells _ _ _ _ _ _ (both_spells _ _ _ _ _ _ name_spells name_spells) (given_spells 0 (omega arith))) (given_spells 8 (omega arith))) eight_spells

abbrev info : Fields → AuthInfo
info p = record { cuid = p.0.0.0.0; suid = p.0.0.0.1; secret = p.1 }

regrouped : (a b c d e : List ℕ) → a ++ b ++ c ++ d ++ e ≡ a ++ b ++ (c ++ []) ++ (d ++ e)
regrouped a b c d e = simp (append_assoc, append-nil)

-- the fields as they are written are the spelling
same_text : (p : Fields) → length p.1 ≡ 8 → fields_text p ≡ info_text (info p)
unfolding info_text
same_text p eight =
    let front = counted w16 p.0.0.0.0 ++ counted w16 p.0.0.0.1 ++ counted w16 [] in
    regrouped (counted w16 p.0.0.0.0) (counted w16 p.0.0.0.1) (to_le_bytes w16 0) (to_le_bytes w16 8) p.1
    ∙ ap (λ (n : ℕ). front ++ (to_le_bytes w16 n ++ p.1)) (sym eight)

pub info_taken : (bytes : List ℕ) (i : AuthInfo) → AreBytes bytes → info_reading bytes ≡ Ok i → IsInfo bytes i
unfolding info_reading
info_taken bytes i fits e =
    let b = bind_ok (info_fields bytes 0) (λ p. no_more (info p.0) bytes p.1) i e in
    let end = no_more_taken (info b.0.0) i bytes b.0.1 b.2 in
    let one = fields_spell.taken bytes 0 b.0.1 b.0.0 fits b.1 in
    let all : bytes ≡ fields_text b.0.0 = one.0.parts ∙ ap (λ (rest : List ℕ). fields_text b.0.0 ++ rest) end.1 ∙ append-nil (fields_text b.0.0) in
    let P : AuthInfo → Type 0 = λ i. IsInfo bytes i in
    subst P end.0 (record { spelling = all ∙ same_text b.0.0 one.1.1; cuid = one.1.0.0.0.0; suid = one.1.0.0.0.1; secret = one.1.1 })

pub info_again : (bytes : List ℕ) (i : AuthInfo) → IsInfo bytes i → info_reading bytes ≡ Ok i
unfolding info_reading
info_again bytes i is =
    let p : Fields = ((((i.cuid, i.suid), tt), tt), i.secret) in
    let text : bytes ≡ fields_text p = is.spelling ∙ sym (same_text p is.secret) in
    let here : drop 0 bytes ≡ fields_text p ++ [] = text ∙ sym (append-nil (fields_text p)) in
    let long : length bytes ≤ 0 + length (fields_text p) = omega (arith, ap length text) in
    rw (fields_spell.again bytes [] 0 p ((((is.cuid, is.suid), tt), tt), is.secret) here, no_more_again i bytes (0 + length (fields_text p)) long) refl

abbrev none : Option AuthInfo
none = None

abbrev failed : ℕ → Result AuthInfo ℕ
failed at = Err at

-- so a reading that gave a value, or none, answers which authinfo the bytes are
pub info_found : (bytes : List ℕ) (x : AuthInfo) → AreBytes bytes → info_reading bytes ≡ Ok x → (i : AuthInfo) → (Some x ≡ Some i) ↔ IsInfo bytes i
info_found bytes x fits e i = (λ same. let is : x ≡ i = cc in info_taken bytes i fits (e ∙ ap (λ (y : AuthInfo). Ok y) is), again)
  where
    again : IsInfo bytes i → Some x ≡ Some i
    again is = let read : done x ≡ done i = sym e ∙ info_again bytes i is in ap (λ (y : AuthInfo). Some y) (ok_is x i read)

pub info_not_found : (bytes : List ℕ) (at : ℕ) → info_reading bytes ≡ Err at → (i : AuthInfo) → (none ≡ Some i) ↔ IsInfo bytes i
info_not_found bytes at e i = (λ same. absurd cc, λ is. absurd (let read : failed at ≡ Ok i = sym e ∙ info_again bytes i is in (cc)))
