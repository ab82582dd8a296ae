-- A name is read of a field exactly where the field holds it; and the field as it is written holds its name.
use Rattle.std.proofs.Common.{◌≡◌, ℕ, suc, ◌+◌, ◌-◌, ◌<◌, Bool, true, false, cond, not, ltb, List, [], ◌∷◌, ◌++◌, length, take, drop, replicate, Some, None, Ok, Err, refl, sym, ap, subst, ◌∙◌, get_or, arith, inl, inr}
use Rattle.std.specs.Prelude.{◌==◌, Option, Result, option_map}
use Rattle.std.specs.List.{position, position_or_len, list_any}
use Rattle.std.proofs.lemmas.Bool.{cases_Bool, lt-ltb, eqb-true}
use Rattle.std.proofs.lemmas.List.{take_at, take-append-drop, length-append, length-replicate}
use Rattle.std.proofs.lemmas.List.Quantifiers.{position-Some}
use Rattle.std.proofs.Math.Seq.{drop-cons}
use Rattle.wire_base.specs.Texts.{is_text}
use Rattle.wire_base.proofs.ReaderLaws.{drop_behind}
use Rattle.wire_base.specs.Names.{IsName, name_field}
use Rattle.sealing.specs.Fields.{field, HoldsName, before_nul, named, name_in, ◌>>=◌}
use Rattle.sealing.specs.declared.fault.FieldFault.{FieldFault}
use Rattle.sealing.specs.declared.fault.FieldFault.TheVariants.{Short, NoNul, NotText}

abbrev pub is_nul : ℕ → Bool
is_nul b = b == 0

-- a text holds no NUL
no_nul : (name : List ℕ) → is_text name ≡ true → list_any is_nul name ≡ false
unfolding is_text
no_nul name e = elim (cases_Bool (list_any is_nul name)) [ inl is ↦ absurd (let f : false ≡ true = rw is at e in (cc)) | inr not ↦ not ]

-- the first NUL behind bytes that are none
pub first_nul : (name behind : List ℕ) → list_any is_nul name ≡ false → position_or_len is_nul (name ++ 0 ∷ behind) ≡ length name
first_nul [] behind e = refl
first_nul (b ∷ name) behind e =
    elim (cases_Bool (is_nul b)) [
      | inl is ↦ absurd (let f : true ≡ false = rw is at e in (cc))
      | inr not_so ↦ let rest : list_any is_nul name ≡ false = rw not_so at e in rw not_so (omega (arith, first_nul name behind rest))
    ]

pub before : (name behind : List ℕ) → list_any is_nul name ≡ false → before_nul (name ++ 0 ∷ behind) ≡ Some name
unfolding before_nul
before name behind clean =
    let at : position_or_len is_nul (name ++ 0 ∷ behind) ≡ length name = first_nul name behind clean in
    let inside : ltb (length name) (length (name ++ 0 ∷ behind)) ≡ true = lt-ltb _ _ (omega (arith, length-append name (0 ∷ behind))) in
    rw (at, inside) (ap (λ (xs : List ℕ). Some xs) (take_at name (0 ∷ behind) (length name) refl))

found : (bytes : List ℕ) (i : ℕ) → position is_nul bytes ≡ Some i → bytes ≡ take i bytes ++ 0 ∷ drop (suc i) bytes
found bytes i e =
    let at = position-Some is_nul bytes i 0 e in
    let inside : i < length bytes = at.0 in
    let zero_there : get_or bytes i 0 ≡ 0 = eqb-true _ _ at.1 in
    let rest : drop i bytes ≡ 0 ∷ drop (suc i) bytes = drop-cons bytes i 0 inside ∙ ap (λ (b : ℕ). b ∷ drop (suc i) bytes) zero_there in
    sym (take-append-drop i bytes) ∙ ap (λ (xs : List ℕ). take i bytes ++ xs) rest

-- what stands before the first NUL
pub before_is : (bytes name : List ℕ) → before_nul bytes ≡ Some name → (behind : List ℕ) × (bytes ≡ name ++ 0 ∷ behind)
unfolding before_nul
before_is bytes name e = taken (position is_nul bytes) refl e
  where
    taken : (o : Option ℕ) → position is_nul bytes ≡ o → option_map (λ end. take end bytes) o ≡ Some name → (behind : List ℕ) × (bytes ≡ name ++ 0 ∷ behind)
    taken (Some i) p q =
        let same : take i bytes ≡ name = cc in
        (drop (suc i) bytes, found bytes i p ∙ ap (λ (xs : List ℕ). xs ++ 0 ∷ drop (suc i) bytes) same)
    taken None p q = absurd cc

named_ok : (at : ℕ) (o : Option (List ℕ)) (name : List ℕ) → named at o ≡ Ok name → (o ≡ Some name) × (is_text name ≡ true)
named_ok at (Some x) name e =
    elim (cases_Bool (is_text x)) [
      | inl is ↦ let same : x ≡ name = (let f = rw is at e in (cc)) in (ap (λ (xs : List ℕ). Some xs) same, rw (← same) is)
      | inr not_so ↦ absurd (let f = rw not_so at e in (cc))
    ]
named_ok at None name e = absurd cc

-- a name is read exactly where the field holds it
pub name_holds : (at size : ℕ) (bytes name : List ℕ) → name_in at size bytes ≡ Ok name → HoldsName (field at size bytes) name
unfolding name_in
name_holds at size bytes name e =
    let n = named_ok at (before_nul (field at size bytes)) name e in
    let b = before_is (field at size bytes) name n.0 in
    record { text = n.1; behind = b.0; parts = b.1 }

pub name_read : (at size : ℕ) (bytes name : List ℕ) → HoldsName (field at size bytes) name → name_in at size bytes ≡ Ok name
unfolding name_in
name_read at size bytes name holds = rw (holds.parts, before name holds.behind (no_nul name holds.text), holds.text) refl

-- a field as it is written has its size and holds the name
pub length-name_field : (size : ℕ) (name : List ℕ) → length name < size → length (name_field size name) ≡ size
length-name_field size name short =
    omega (arith, length-append name (0 ∷ replicate (size - (length name + 1)) 0), length-replicate {A = ℕ} (size - (length name + 1)) 0)

pub field_holds : (size : ℕ) (name : List ℕ) → IsName size name → HoldsName (name_field size name) name
field_holds size name is = record { text = is.text; behind = replicate (size - (length name + 1)) 0; parts = refl }

-- a field that stands at an offset, and what stands behind it
pub field_here : (bytes piece rest : List ℕ) (at size : ℕ) → length piece ≡ size → drop at bytes ≡ piece ++ rest → field at size bytes ≡ piece
field_here bytes piece rest at size len e = ap (λ (xs : List ℕ). take size xs) e ∙ take_at piece rest size len

pub behind_field : (bytes piece rest : List ℕ) (at size : ℕ) → length piece ≡ size → drop at bytes ≡ piece ++ rest → drop (at + size) bytes ≡ rest
behind_field bytes piece rest at size len e = ap (λ (n : ℕ). drop (at + n) bytes) (sym len) ∙ drop_behind bytes piece rest at e

-- a name's field that stands at an offset holds the name
pub name_here : (bytes name rest : List ℕ) (at size : ℕ) → IsName size name → drop at bytes ≡ name_field size name ++ rest → HoldsName (field at size bytes) name
name_here bytes name rest at size is e = let P : List ℕ → Type 0 = λ xs. HoldsName xs name in
    subst P (sym (field_here bytes (name_field size name) rest at size (length-name_field size name is.short) e)) (field_holds size name is)

pub behind_name : (bytes name rest : List ℕ) (at size : ℕ) → IsName size name → drop at bytes ≡ name_field size name ++ rest → drop (at + size) bytes ≡ rest
behind_name bytes name rest at size is e = behind_field bytes (name_field size name) rest at size (length-name_field size name is.short) e

-- a step that gave a value
pub bind_ok : {A B : Type 0} (r : Result A FieldFault) (f : A → Result B FieldFault) (y : B) → (r >>= f) ≡ Ok y → (x : A) × (r ≡ Ok x) × (f x ≡ Ok y)
bind_ok (Ok x) f y e = (x, refl, e)
bind_ok (Err d) f y e = absurd cc

-- a reading never wants more bytes
abbrev pub NeverShort : {A : Type 0} → Result A FieldFault → Type 0
NeverShort (Ok x) = Unit {0}
NeverShort (Err (Short need)) = ⊥
NeverShort (Err (NoNul at)) = Unit {0}
NeverShort (Err (NotText at)) = Unit {0}

pub never_short : {A : Type 0} (r : Result A FieldFault) (need : ℕ) → NeverShort r → r ≡ Err (Short need) → ⊥
never_short {A} r need n e = let P : Result A FieldFault → Type 0 = λ r. NeverShort r in subst P e n

pub bind_never_short : {A B : Type 0} (r : Result A FieldFault) (f : A → Result B FieldFault) → NeverShort r → ((x : A) → NeverShort (f x)) → NeverShort (r >>= f)
bind_never_short (Ok x) f n k = k x
bind_never_short (Err (Short need)) f n k = n
bind_never_short (Err (NoNul at)) f n k = n
bind_never_short (Err (NotText at)) f n k = n

pub name_never_short : (at size : ℕ) (bytes : List ℕ) → NeverShort (name_in at size bytes)
unfolding name_in
name_never_short at size bytes = go (before_nul (field at size bytes))
  where
    chosen : (b : Bool) (name : List ℕ) → NeverShort (cond b (Ok name) (Err (NotText at)))
    chosen true name = tt
    chosen false name = tt

    go : (o : Option (List ℕ)) → NeverShort (named at o)
    go (Some name) = chosen (is_text name) name
    go None = tt
