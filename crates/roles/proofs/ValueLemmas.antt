-- What may stand in a template asked: the name of a protocol, a domain, what a template gives to a name.
use Rattle.std.proofs.Common.{◌≡◌, ℕ, List, [], ◌∷◌, Bool, true, false, cond, not, eqb, leb, length, codes, Some, None, refl, sym, ap, ◌∙◌, arith}
use Rattle.std.specs.List.{list_all, slice_get, cons_option}
use Rattle.std.specs.Str.{is_utf8, chars}
use lib.Utf8.{encode}
use Rattle.std.proofs.lemmas.Bool.{and_parts, and_from, leb-true, le-leb}
use Rattle.wire_base.specs.Texts.{is_text}
use Rattle.attr_tuples.specs.Lines.{is_line_byte}
use Rattle.attr_tuples.specs.declared.attr.Attr.{Attr}
use Rattle.attr_tuples.specs.declared.attr.Value.{Value}
use Rattle.attr_tuples.specs.declared.attr.Value.TheVariants.{Is, Ask, Bare}
use Rattle.attr_tuples.specs.Attributes.{is_attr, is_name, is_named, is_value}
use Rattle.attr_tuples.specs.Forms.{is_dom, is_dom_byte}
use Rattle.attr_tuples.specs.Matching.{value_of, texts_of, given_text}

dom_bytes : (bytes : List ℕ) → list_all is_dom_byte bytes ≡ true → list_all is_line_byte bytes ≡ true
dom_bytes [] h = refl
dom_bytes (b ∷ bytes) h =
    let both = and_parts (is_dom_byte b) (list_all is_dom_byte bytes) h in
    let high = and_parts (leb 33 b) (not (eqb b 64)) both.0 in
    let line : leb 32 b ≡ true = le-leb 32 b (omega (arith, leb-true 33 b high.0)) in
    rw line (dom_bytes bytes both.1)

pub protocol_is_value : is_value (Is (codes "p9sk1")) ≡ true
unfolding is_text is_utf8 chars encode
protocol_is_value = refl

pub x_is_value : is_value (Is (codes "x")) ≡ true
unfolding is_text is_utf8 chars encode
x_is_value = refl

pub dom_is_value : (dom : List ℕ) → is_text dom ≡ true → is_dom dom ≡ true → is_value (Is dom) ≡ true
dom_is_value dom valid h =
    let parts = and_parts (leb 1 (length dom)) _ h in
    let most = and_parts (leb (length dom) 47) (list_all is_dom_byte dom) parts.1 in
    and_from (list_all is_line_byte dom) (is_text dom) (dom_bytes dom most.1) valid

value_step : (named : Bool) (v : Value) (texts : List (List ℕ)) (text : List ℕ) → is_value v ≡ true → slice_get (cons_option (cond named (given_text v) None) texts) 0 ≡ Some text → (slice_get texts 0 ≡ Some text → is_value (Is text) ≡ true) → is_value (Is text) ≡ true
value_step true (Is given) texts text h e rest = let same : given ≡ text = cc in ap (λ t. is_value (Is t)) (sym same) ∙ h
value_step true Ask texts text h e rest = rest e
value_step true Bare texts text h e rest = rest e
value_step false v texts text h e rest = rest e

-- what a tuple gives to a name is a value
pub given_is_value : (name : List ℕ) (attrs : List Attr) (text : List ℕ) → list_all is_attr attrs ≡ true → value_of name attrs ≡ Some text → is_value (Is text) ≡ true
unfolding value_of
given_is_value name [] text h e = absurd cc
given_is_value name (a ∷ attrs) text h e =
    let both = and_parts (is_attr a) (list_all is_attr attrs) h in
    let parts = and_parts (is_name a.name) (is_value a.value) both.0 in
    value_step (is_named name a) a.value (texts_of name attrs) text parts.1 e (given_is_value name attrs text both.1)
