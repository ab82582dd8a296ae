-- Which fault is told: that of the first field that holds no name.
use Rattle.std.proofs.Common.{◌≡◌, ℕ, suc, ◌+◌, ◌≤◌, true, false, ltb, List, [], ◌∷◌, length, take, Some, None, Ok, Err, refl, sym, ap, subst, ◌∙◌, arith, inl, inr}
use Rattle.std.specs.Prelude.{◌↔◌, Option, Result}
use Rattle.std.specs.List.{position_or_len, list_any}
use Rattle.std.proofs.lemmas.Bool.{cases_Bool, le-ltb, ltb-false}
use Rattle.wire_base.specs.Texts.{is_text}
use Rattle.wire_base.proofs.TextLemmas.{is_text-without_nul}
use Rattle.sealing.specs.Fields.{field, IsBad, FirstBad, before_nul, named, name_in, ◌>>=◌}
use Rattle.sealing.specs.declared.fault.FieldFault.{FieldFault}
use Rattle.sealing.specs.declared.fault.FieldFault.TheVariants.{Short, NoNul, NotText}
use Rattle.sealing.proofs.FieldLaws.{is_nul, before, before_is, name_holds, name_read}

-- bytes among which the first NUL is sought in vain hold none
none_there : (bytes : List ℕ) → length bytes ≤ position_or_len is_nul bytes → list_any is_nul bytes ≡ false
none_there [] le = refl
none_there (b ∷ bytes) le =
    elim (cases_Bool (is_nul b)) [
      | inl is ↦ absurd (let f : suc (length bytes) ≤ 0 = rw is at le in omega arith)
      | inr not_so ↦ let more : suc (length bytes) ≤ 1 + position_or_len is_nul bytes = rw not_so at le in rw not_so (none_there bytes (omega arith))
    ]

all_before : (bytes : List ℕ) → list_any is_nul bytes ≡ false → position_or_len is_nul bytes ≡ length bytes
all_before [] e = refl
all_before (b ∷ bytes) e =
    elim (cases_Bool (is_nul b)) [
      | inl is ↦ absurd (let f : true ≡ false = rw is at e in (cc))
      | inr not_so ↦ let rest : list_any is_nul bytes ≡ false = rw not_so at e in rw not_so (omega (arith, all_before bytes rest))
    ]

-- what stands before the first NUL holds none
front_clean : (bytes : List ℕ) → list_any is_nul (take (position_or_len is_nul bytes) bytes) ≡ false
front_clean [] = refl
front_clean (b ∷ bytes) =
    elim (cases_Bool (is_nul b)) [
      | inl is ↦ rw is refl
      | inr not_so ↦ let e : 1 + position_or_len is_nul bytes ≡ suc (position_or_len is_nul bytes) = omega arith in rw (not_so, e, not_so) (front_clean bytes)
    ]

before_none : (bytes : List ℕ) → before_nul bytes ≡ None → list_any is_nul bytes ≡ false
unfolding before_nul
before_none bytes e =
    elim (cases_Bool (ltb (position_or_len is_nul bytes) (length bytes))) [
      | inl is ↦ absurd (let f = rw is at e in (cc))
      | inr not_so ↦ none_there bytes (ltb-false _ _ not_so)
    ]

none_before : (bytes : List ℕ) → list_any is_nul bytes ≡ false → before_nul bytes ≡ None
unfolding before_nul
none_before bytes e =
    let at : position_or_len is_nul bytes ≡ length bytes = all_before bytes e in
    rw (at, le-ltb (length bytes) (length bytes) (omega arith)) refl

before_clean : (bytes name : List ℕ) → before_nul bytes ≡ Some name → list_any is_nul name ≡ false
unfolding before_nul
before_clean bytes name e =
    elim (cases_Bool (ltb (position_or_len is_nul bytes) (length bytes))) [
      | inl is ↦ let same : take (position_or_len is_nul bytes) bytes ≡ name = (let f = rw is at e in (cc)) in rw (← same) (front_clean bytes)
      | inr not_so ↦ absurd (let f = rw not_so at e in (cc))
    ]

abbrev failed : FieldFault → Result (List ℕ) FieldFault
failed fault = Err fault

-- a field is refused exactly where it holds no name
bad_told : (at size : ℕ) (bytes : List ℕ) (fault : FieldFault) → name_in at size bytes ≡ Err fault → IsBad at (field at size bytes) fault
unfolding name_in
bad_told at size bytes fault e = told (before_nul (field at size bytes)) refl e
  where
    told : (o : Option (List ℕ)) → before_nul (field at size bytes) ≡ o → named at o ≡ Err fault → IsBad at (field at size bytes) fault
    told None p q =
        let same : NoNul at ≡ fault = cc in
        subst (λ (fault : FieldFault). IsBad at (field at size bytes) fault) same (refl, before_none (field at size bytes) p)
    told (Some name) p q =
        elim (cases_Bool (is_text name)) [
          | inl is ↦ absurd (let f = rw is at q in (cc))
          | inr not_so ↦
              let same : NotText at ≡ fault = (let f = rw not_so at q in (cc)) in
              let behind = before_is (field at size bytes) name p in
              let clean = before_clean (field at size bytes) name p in
              subst (λ (fault : FieldFault). IsBad at (field at size bytes) fault) same
              (refl, record { front = name; behind = behind.0; parts = behind.1; clean = clean; bad = sym (is_text-without_nul name clean) ∙ not_so })
        ]

bad_refused : (at size : ℕ) (bytes : List ℕ) (fault : FieldFault) → IsBad at (field at size bytes) fault → name_in at size bytes ≡ Err fault
unfolding name_in
bad_refused at size bytes (Short need) bad = absurd bad
bad_refused at size bytes (NoNul f) bad = rw (none_before (field at size bytes) bad.1) (ap (λ (n : ℕ). failed (NoNul n)) (sym bad.0))
bad_refused at size bytes (NotText f) bad =
    let b = bad.1 in
    let no_text : is_text b.front ≡ false = is_text-without_nul b.front b.clean ∙ b.bad in
    rw (b.parts, before b.front b.behind b.clean, no_text) (ap (λ (n : ℕ). failed (NotText n)) (sym bad.0))

-- one name and then the rest: the first fault of all is the name's, or where there is a name the first of the rest
pub first_bad : {B : Type 0} (at size : ℕ) (bytes : List ℕ) (fault : FieldFault) (rest : List (ℕ × ℕ)) (f : List ℕ → Result B FieldFault)
    → ((name : List ℕ) → (f name ≡ Err fault) ↔ FirstBad rest bytes fault)
    → ((name_in at size bytes >>= f) ≡ Err fault) ↔ FirstBad ((at, size) ∷ rest) bytes fault
first_bad {B} at size bytes fault rest f k = (told (name_in at size bytes) refl, refused)
  where
    told : (r : Result (List ℕ) FieldFault) → name_in at size bytes ≡ r → (r >>= f) ≡ Err fault → FirstBad ((at, size) ∷ rest) bytes fault
    told (Ok name) p q = inr ((name, name_holds at size bytes name p), (k name).0 q)
    told (Err d) p q =
        let same : failed d ≡ failed fault = cc in
        inl (bad_told at size bytes fault (p ∙ same))

    refused : FirstBad ((at, size) ∷ rest) bytes fault → (name_in at size bytes >>= f) ≡ Err fault
    refused (inl bad) = rw (bad_refused at size bytes fault bad) refl
    refused (inr more) = rw (name_read at size bytes more.0.0 more.0.1) ((k more.0.0).1 more.1)

-- where no name is left nothing is refused
abbrev good : {B : Type 0} → B → Result B FieldFault
good x = Ok x

pub none_bad : {B : Type 0} (bytes : List ℕ) (fault : FieldFault) (x : B) → (good x ≡ Err fault) ↔ FirstBad [] bytes fault
none_bad bytes fault x = (λ e. absurd cc, λ bad. absurd bad)
