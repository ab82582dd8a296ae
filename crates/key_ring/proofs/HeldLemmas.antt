-- What a tuple holds of a name that it names once at most, and what a template that it matches gives to it.
use Rattle.std.proofs.Common.{◌≡◌, ℕ, ◌≤◌, List, [], ◌∷◌, Bool, true, false, cond, not, ◌&&◌, ◌||◌, length, Option, Some, None, refl, sym, ap, ◌∙◌, inl, inr, arith, is_eq, nat_cmp}
use Rattle.std.specs.List.{cons_option, filter, list_all, list_any, slice_get}
use Rattle.std.specs.Str.{bytes_eq}
use Rattle.std.specs.Cmp.Lexicographic.{slice_cmp, texts_ties}
use Rattle.std.specs.Option.{option_cmp}
use Rattle.std.proofs.lemmas.Bool.{cases_Bool, and_parts}
use Rattle.std.proofs.lemmas.List.Sums.{length-filter}
use Rattle.std.proofs.lemmas.Slice.Eq.{bytes_eq-Decides}
use Rattle.attr_tuples.specs.declared.attr.Attr.{Attr}
use Rattle.attr_tuples.specs.declared.attr.Value.{Value}
use Rattle.attr_tuples.specs.declared.attr.Value.TheVariants.{Is, Ask, Bare}
use Rattle.attr_tuples.specs.Attributes.{is_given, is_named, is_public, is_secret}
use Rattle.attr_tuples.specs.Equality.{public_equal, public_part, same_attr}
use Rattle.attr_tuples.specs.Giving.{gives}
use Rattle.attr_tuples.specs.Matching.{given_text, holds, matches, meets, texts_of, value_of}
use Rattle.attr_tuples.proofs.EqualityLemmas.{counts_from_equal, public_equal_swap}
use Rattle.attr_tuples.proofs.FormLaws.{given_is_held}
use Rattle.key_ring.proofs.KeyLemmas.{none_given}

-- ---- names that are named once at most

-- a text, if there is one, passes
abbrev pub text_passes : (List ℕ → Bool) → Option (List ℕ) → Bool
text_passes test None = false
text_passes test (Some text) = test text

abbrev pub Few : List ℕ → List Attr → Type 0
Few name attrs = length (filter (is_named name) attrs) ≤ 1

none_step : (named : Bool) (v : Value) (a : Attr) (rest : List Attr) (texts : List (List ℕ)) → length (cond named (a ∷ rest) rest) ≡ 0 → (length rest ≡ 0 → slice_get texts 0 ≡ None) → slice_get (cons_option (cond named (given_text v) None) texts) 0 ≡ None
none_step true v a rest texts h more = absurd (omega arith)
none_step false v a rest texts h more = more h

none_valued : (name : List ℕ) (attrs : List Attr) → length (filter (is_named name) attrs) ≡ 0 → slice_get (texts_of name attrs) 0 ≡ None
none_valued name [] h = refl
none_valued name (a ∷ attrs) h = none_step (is_named name a) a.value a (filter (is_named name) attrs) (texts_of name attrs) h (none_valued name attrs)

or_no : (b c : Bool) → c ≡ false → (b || c) ≡ b
or_no true c e = refl
or_no false c e = e

given_step : (named : Bool) (v : Value) (a : Attr) (rest : List Attr) (texts : List (List ℕ)) (test : List ℕ → Bool) (later : Bool)
    → length (cond named (a ∷ rest) rest) ≤ 1 → (length rest ≡ 0 → later ≡ false) → (length rest ≡ 0 → slice_get texts 0 ≡ None) → (length rest ≤ 1 → later ≡ text_passes test (slice_get texts 0))
    → (named && is_given test v || later) ≡ text_passes test (slice_get (cons_option (cond named (given_text v) None) texts) 0)
given_step true (Is text) a rest texts test later few none absent more = or_no (test text) later (none (omega arith))
given_step true Ask a rest texts test later few none absent more = none (omega arith) ∙ ap (text_passes test) (sym (absent (omega arith)))
given_step true Bare a rest texts test later few none absent more = none (omega arith) ∙ ap (text_passes test) (sym (absent (omega arith)))
given_step false v a rest texts test later few none absent more = more few

given_is_value : (name : List ℕ) (test : List ℕ → Bool) (attrs : List Attr) → Few name attrs → gives name test attrs ≡ text_passes test (value_of name attrs)
unfolding value_of
given_is_value name test [] few = refl
given_is_value name test (a ∷ attrs) few = given_step (is_named name a) a.value a (filter (is_named name) attrs) (texts_of name attrs) test (gives name test attrs) few (none_given name test attrs) (none_valued name attrs) (given_is_value name test attrs)

-- an attribute with a name and a text
abbrev pub said : List ℕ → List ℕ → Attr
said name text = record { name = name; value = Is text }

-- what is held of a name is its value
pub held_is_value : (name text : List ℕ) (attrs : List Attr) → Few name attrs → holds attrs (said name text) ≡ text_passes (λ other. bytes_eq other text) (value_of name attrs)
held_is_value name text attrs few = sym (given_is_held name text attrs) ∙ given_is_value name (λ other. bytes_eq other text) attrs few

-- the same as a comparison of texts tells it
pub compared_is_same : (value : Option (List ℕ)) (text : List ℕ) → is_eq (option_cmp (slice_cmp nat_cmp) value (Some text)) ≡ text_passes (λ other. bytes_eq other text) value
compared_is_same None text = refl
compared_is_same (Some other) text = sym (texts_ties other text)

-- ---- values are held

valued_step : (named : Bool) (v : Value) (texts : List (List ℕ)) (text : List ℕ) (later : Bool) → slice_get (cons_option (cond named (given_text v) None) texts) 0 ≡ Some text → (slice_get texts 0 ≡ Some text → later ≡ true) → (named && is_given (λ other. bytes_eq other text) v || later) ≡ true
valued_step true (Is other) texts text later e more = let same : other ≡ text = cc in rw ((bytes_eq-Decides other text).1 same) refl
valued_step true Ask texts text later e more = more e
valued_step true Bare texts text later e more = more e
valued_step false v texts text later e more = more e

valued : (name text : List ℕ) (attrs : List Attr) → value_of name attrs ≡ Some text → gives name (λ other. bytes_eq other text) attrs ≡ true
unfolding value_of
valued name text [] e = absurd cc
valued name text (a ∷ attrs) e = valued_step (is_named name a) a.value (texts_of name attrs) text (gives name (λ other. bytes_eq other text) attrs) e (valued name text attrs)

pub value_is_held : (name text : List ℕ) (attrs : List Attr) → value_of name attrs ≡ Some text → holds attrs (said name text) ≡ true
value_is_held name text attrs e = sym (given_is_held name text attrs) ∙ valued name text attrs e

-- ---- what a template gives

met_step : (t : List Attr) (own name : List ℕ) (named : Bool) (v : Value) (texts : List (List ℕ)) (text : List ℕ) → bytes_eq own name ≡ named → meets t own v ≡ true → slice_get (cons_option (cond named (given_text v) None) texts) 0 ≡ Some text → (slice_get texts 0 ≡ Some text → holds t (said name text) ≡ true) → holds t (said name text) ≡ true
met_step t own name true (Is other) texts text same met e more =
    let as_name : own ≡ name = (bytes_eq-Decides own name).0 same in
    let as_text : other ≡ text = cc in
    ap (λ (n : List ℕ). holds t (said n text)) (sym as_name) ∙ ap (λ (x : List ℕ). holds t (said own x)) (sym as_text) ∙ met
met_step t own name true Ask texts text same met e more = more e
met_step t own name true Bare texts text same met e more = more e
met_step t own name false v texts text same met e more = more e

met_held : (template t : List Attr) (name text : List ℕ) → list_all (λ a. meets t a.name a.value) template ≡ true → value_of name template ≡ Some text → holds t (said name text) ≡ true
unfolding value_of
met_held [] t name text h e = absurd cc
met_held (a ∷ template) t name text h e =
    let parts = and_parts (meets t a.name a.value) (list_all (λ (a : Attr). meets t a.name a.value) template) h in
    met_step t a.name name (is_named name a) a.value (texts_of name template) text refl parts.0 e (met_held template t name text parts.1)

pub matched_holds : (template t : List Attr) (name text : List ℕ) → matches template t ≡ true → value_of name template ≡ Some text → holds t (said name text) ≡ true
unfolding matches
matched_holds template t name text h e = met_held template t name text h e

-- ---- what is the same in public

counted_any : {X : Type 0} (p : X → Bool) (xs : List X) → list_any p xs ≡ true → length (filter p xs) ≡ 0 → ⊥
counted_any p [] h e = cc
counted_any p (x ∷ xs) h e = elim (cases_Bool (p x)) [
  | inl t ↦ (let some : length (x ∷ filter p xs) ≡ 0 = rw t at e in omega (arith, some))
  | inr f ↦ counted_any p xs (rw f at h) (rw f at e)
]

any_counted : {X : Type 0} (p : X → Bool) (xs : List X) → list_any p xs ≡ false → length (filter p xs) ≡ 0
any_counted p [] h = refl
any_counted p (x ∷ xs) h = elim (cases_Bool (p x)) [
  | inl t ↦ absurd (let never : true ≡ false = rw t at h in cc)
  | inr f ↦ rw f (any_counted p xs (rw f at h))
]

kept_step : (own same public later kept_later : Bool) → (same || later) ≡ true → (same ≡ true → public ≡ true) → (later ≡ true → kept_later ≡ true) → own ≡ same → (cond public (own || kept_later) kept_later) ≡ true
kept_step own true public later kept_later h p more e = rw (p refl, e) refl
kept_step own false true later kept_later h p more e = rw e (more h)
kept_step own false false later kept_later h p more e = more h

public_step : (p : Attr → Bool) (public : Bool) (a : Attr) (rest : List Attr) → list_any p (cond public (a ∷ rest) rest) ≡ cond public (p a || list_any p rest) (list_any p rest)
public_step p true a rest = refl
public_step p false a rest = refl

-- an attribute that is held and isn't secret is held in public
held_in_public : (name text : List ℕ) (attrs : List Attr) → is_secret name ≡ false → holds attrs (said name text) ≡ true → list_any (same_attr (said name text)) (public_part attrs) ≡ true
held_in_public name text [] open_name h = absurd cc
held_in_public name text (a ∷ attrs) open_name h =
    let p = same_attr (said name text) in
    public_step p (is_public a) a (public_part attrs)
    ∙ kept_step (p a) (p a) (is_public a) (list_any p attrs) (list_any p (public_part attrs)) h
    (λ same. let own = (bytes_eq-Decides name a.name).0 (and_parts (bytes_eq name a.name) _ same).0 in ap (λ (n : List ℕ). not (is_secret n)) (sym own) ∙ ap not open_name)
    (held_in_public name text attrs open_name) refl

public_is_held : (name text : List ℕ) (attrs : List Attr) → list_any (same_attr (said name text)) (public_part attrs) ≡ true → holds attrs (said name text) ≡ true
public_is_held name text [] h = absurd cc
public_is_held name text (a ∷ attrs) h =
    let p = same_attr (said name text) in
    some_step (p a) (is_public a) (list_any p (public_part attrs)) (list_any p attrs) (sym (public_step p (is_public a) a (public_part attrs)) ∙ h) (public_is_held name text attrs)
  where
    some_step : (own public kept_later later : Bool) → cond public (own || kept_later) kept_later ≡ true → (kept_later ≡ true → later ≡ true) → (own || later) ≡ true
    some_step true public kept_later later h more = refl
    some_step false true kept_later later h more = more h
    some_step false false kept_later later h more = more h

pub held_by_equal : (name text : List ℕ) (a b : List Attr) → is_secret name ≡ false → public_equal a b ≡ true → holds a (said name text) ≡ true → holds b (said name text) ≡ true
held_by_equal name text a b open_name same h =
    let p = same_attr (said name text) in
    let counts : length (filter p (public_part a)) ≡ length (filter p (public_part b)) = length-filter p (public_part a) ∙ counts_from_equal a b same (said name text) ∙ sym (length-filter p (public_part b)) in
    elim (cases_Bool (list_any p (public_part b))) [
      | inl t ↦ public_is_held name text b t
      | inr f ↦ absurd (counted_any p (public_part a) (held_in_public name text a open_name h) (counts ∙ any_counted p (public_part b) f))
    ]

-- a value that is held by both is the value of both
same_value : (name : List ℕ) (a b : List Attr) (x y : Option (List ℕ)) → Few name b → value_of name b ≡ y → ((text : List ℕ) → x ≡ Some text → holds b (said name text) ≡ true) → ((text : List ℕ) → y ≡ Some text → x ≡ None → ⊥) → x ≡ y
same_value name a b None None few e held other = refl
same_value name a b None (Some text) few e held other = absurd (other text refl refl)
same_value name a b (Some text) None few e held other = absurd (let t : false ≡ true = ap (text_passes (λ o. bytes_eq o text)) (sym e) ∙ sym (held_is_value name text b few) ∙ held text refl in cc)
same_value name a b (Some text) (Some own) few e held other =
    let t : bytes_eq own text ≡ true = ap (text_passes (λ o. bytes_eq o text)) (sym e) ∙ sym (held_is_value name text b few) ∙ held text refl in
    ap Some (sym ((bytes_eq-Decides own text).0 t))

pub same_by_equal : (name : List ℕ) (a b : List Attr) → is_secret name ≡ false → Few name a → Few name b → public_equal a b ≡ true → value_of name a ≡ value_of name b
same_by_equal name a b open_name few_a few_b same =
    same_value name a b (value_of name a) (value_of name b) few_b refl (λ text e. held_by_equal name text a b open_name same (value_is_held name text a e))
    (λ text e none.
    let held : holds a (said name text) ≡ true = held_by_equal name text b a open_name (sym (public_equal_swap a b) ∙ same) (value_is_held name text b e) in
    let never : false ≡ true = ap (text_passes (λ o. bytes_eq o text)) (sym none) ∙ sym (held_is_value name text a few_a) ∙ held in
    cc)
