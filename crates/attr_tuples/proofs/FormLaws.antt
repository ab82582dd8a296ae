-- Users and domains fit their fields and are values; and a tuple gives a name a value exactly where it holds them.
use Rattle.std.proofs.Common.{◌≡◌, ℕ, ◌==◌, List, [], ◌∷◌, Bool, true, not, ◌&&◌, length, refl, sym, ◌∙◌, inl, inr, arith}
use Rattle.std.specs.Prelude.{nat_le}
use Rattle.std.specs.List.{list_all}
use Rattle.std.specs.Str.{bytes_eq}
use Rattle.std.proofs.lemmas.Bool.{and_parts, cases_Bool, leb-true, le-leb}
use Rattle.std.proofs.lemmas.Slice.Eq.{bytes_eq-Decides}
use Rattle.wire_base.specs.Names.{IsName}
use Rattle.wire_base.specs.Texts.{is_text}
use Rattle.attr_tuples.specs.Lines.{is_line_byte}
use Rattle.attr_tuples.specs.Attributes.{is_given, is_value}
use Rattle.attr_tuples.specs.Equality.{same_value}
use Rattle.attr_tuples.specs.Forms.{is_above_blank, is_dom, is_dom_byte, is_user}
use Rattle.attr_tuples.specs.Giving.{gives}
use Rattle.attr_tuples.specs.Matching.{holds}
use Rattle.attr_tuples.specs.declared.attr.Attr.{Attr}
use Rattle.attr_tuples.specs.declared.attr.Value.{Value}
use Rattle.attr_tuples.specs.declared.attr.Value.TheVariants.{Is, Ask, Bare}

-- ---- users and domains

-- a byte above the blank is one of a line
line_byte : (b : ℕ) → nat_le 33 b ≡ true → is_line_byte b ≡ true
line_byte b above = rw (le-leb 32 b (omega (arith, leb-true 33 b above))) refl

all_lines : (p : ℕ → Bool) (text : List ℕ) → ((b : ℕ) → p b ≡ true → nat_le 33 b ≡ true) → list_all p text ≡ true → list_all is_line_byte text ≡ true
all_lines p [] above each = refl
all_lines p (b ∷ text) above each =
    let parts = and_parts (p b) (list_all p text) each in
    rw (line_byte b (above b parts.0), all_lines p text above parts.1) refl

dom_above : (b : ℕ) → is_dom_byte b ≡ true → nat_le 33 b ≡ true
dom_above b is = (and_parts (nat_le 33 b) (not (b == 64)) is).0

pub user_named : (text : List ℕ) → is_text text ≡ true → is_user text ≡ true → IsName 28 text
user_named text plain is =
    let short = and_parts (nat_le 1 (length text)) (nat_le (length text) 27 && list_all is_above_blank text) is in
    let bytes = and_parts (nat_le (length text) 27) (list_all is_above_blank text) short.1 in
    record { text = plain; short = omega (arith, leb-true (length text) 27 bytes.0) }

pub user_valued : (text : List ℕ) → is_text text ≡ true → is_user text ≡ true → is_value (Is text) ≡ true
user_valued text plain is =
    let short = and_parts (nat_le 1 (length text)) (nat_le (length text) 27 && list_all is_above_blank text) is in
    let bytes = and_parts (nat_le (length text) 27) (list_all is_above_blank text) short.1 in
    rw (all_lines is_above_blank text (λ b above. above) bytes.1, plain) refl

pub dom_named : (text : List ℕ) → is_text text ≡ true → is_dom text ≡ true → IsName 48 text
dom_named text plain is =
    let short = and_parts (nat_le 1 (length text)) (nat_le (length text) 47 && list_all is_dom_byte text) is in
    let bytes = and_parts (nat_le (length text) 47) (list_all is_dom_byte text) short.1 in
    record { text = plain; short = omega (arith, leb-true (length text) 47 bytes.0) }

pub dom_valued : (text : List ℕ) → is_text text ≡ true → is_dom text ≡ true → is_value (Is text) ≡ true
dom_valued text plain is =
    let short = and_parts (nat_le 1 (length text)) (nat_le (length text) 47 && list_all is_dom_byte text) is in
    let bytes = and_parts (nat_le (length text) 47) (list_all is_dom_byte text) short.1 in
    rw (all_lines is_dom_byte text dom_above bytes.1, plain) refl

-- ---- what a tuple gives

bytes_swapped : (x y : List ℕ) → bytes_eq x y ≡ bytes_eq y x
bytes_swapped x y =
    elim (cases_Bool (bytes_eq x y)) [
      | inl is ↦ is ∙ sym ((bytes_eq-Decides y x).1 (sym ((bytes_eq-Decides x y).0 is)))
      | inr not_so ↦ elim (cases_Bool (bytes_eq y x)) [
        | inl back ↦ (bytes_eq-Decides x y).1 (sym ((bytes_eq-Decides y x).0 back)) ∙ sym back
        | inr neither ↦ not_so ∙ sym neither
      ]
    ]

valued : (text : List ℕ) (value : Value) → is_given (λ other. bytes_eq other text) value ≡ same_value (Is text) value
valued text (Is other) = bytes_swapped other text
valued text Ask = refl
valued text Bare = refl

pub given_is_held : (name text : List ℕ) (attrs : List Attr) → gives name (λ other. bytes_eq other text) attrs ≡ holds attrs (record { name = name; value = Is text })
given_is_held name text [] = refl
given_is_held name text (a ∷ attrs) = rw (bytes_swapped a.name name, valued text a.value, given_is_held name text attrs) refl
