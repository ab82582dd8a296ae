-- A key that breaks no rule is such as a conversation may be told: its DES key is seven bytes, and its user and its domain fit
-- their fields.
use Rattle.std.proofs.Common.{◌≡◌, ℕ, ◌+◌, ◌-◌, ◌*◌, ◌/◌, ◌%◌, ◌^◌, ◌<◌, List, [], ◌∷◌, ◌&&◌, Bool, true, false, cond, eqb, leb, ltb, length, drop, codes, Option, Some, None, Result, All, refl, sym, ap, subst, ◌∙◌, arith, inl, inr, slice_index}
use Rattle.std.specs.List.{AllPass, list_all, range_with_len}
use Rattle.std.specs.Result.{result_unwrap_or}
use Rattle.std.specs.Str.{is_utf8, chars}
use lib.Utf8.{encode, encodes, scalar, scalars, scalar_cases}
use Rattle.std.proofs.lemmas.Bool.{and_parts, eqb-true, leb-true, ltb-true}
use Rattle.std.proofs.lemmas.Nat.{mod_below}
use Rattle.std.proofs.lemmas.List.Elements.{All-append, All-cons, All-from_get_or, All-map, All-nil}
use Rattle.std.proofs.lemmas.List.Sums.{AllPass-from_list_all}
use Rattle.std.proofs.lemmas.Str.{IsUtf8-from_is_utf8}
use Rattle.hex.specs.Hex.{is_hex_digit as is_digit}
use Rattle.hex.specs.declared.error.FromHexError.{FromHexError}
use Rattle.hex.proofs.HexLemmas.{decode_of-digits, decode_of-ok}
use Rattle.wire_base.specs.Texts.{is_text}
use Rattle.attr_tuples.specs.declared.attr.Attr.{Attr}
use Rattle.attr_tuples.specs.declared.attr.Value.TheVariants.{Is}
use Rattle.attr_tuples.specs.Attributes.{is_attr, is_tuple, is_value}
use Rattle.attr_tuples.specs.Forms.{is_above_blank, is_dom, is_dom_byte, is_hex_digit, is_hex_key, is_user}
use Rattle.attr_tuples.specs.Matching.{value_of}
use Rattle.sealing.specs.Passwords.{key_after, password_key, window_key}
use Rattle.sealing.specs.Sealing.{changed_at, sealed}
use Rattle.key_lists.specs.Digits.{digits_or_password, spelled}
use Rattle.key_lists.proofs.HexLemmas.{same_digit}
use Rattle.key_lists.specs.KeyFaults.{key_fault}
use Rattle.key_lists.specs.Lists.{KeyEntry}
use Rattle.key_ring.specs.DesKeys.{des_key, hex_of}
use Rattle.key_ring.proofs.KeyLemmas.{good_digits, good_dom, good_user}
use Rattle.sealing.specs.Fitting.{FitsName, IsBlock}
use Rattle.roles.proofs.ValueLemmas.{given_is_value}
use Rattle.talks.specs.Answers.{text_or_none, told_key}
use Rattle.wire_histories.specs.Legal.{IsRingKey}
use Rattle.driven_agents.specs.Keys.{IsKey}

abbrev AreBytes : List ℕ → Type 0
AreBytes bytes = All (λ b. b < 256) bytes

-- ---- text is bytes

chosen : (p : Bool) (x y : List ℕ) → (p ≡ true → AreBytes x) → (p ≡ false → AreBytes y) → AreBytes (cond p x y)
chosen true x y one other = one refl
chosen false x y one other = other refl

more : (b : ℕ) (bytes : List ℕ) → b < 256 → AreBytes bytes → AreBytes (b ∷ bytes)
more b bytes small all = All-cons (λ b. b < 256) b bytes small all

none : AreBytes []
none = All-nil (λ b. b < 256)

below_all : (c : ℕ) → scalar c ≡ true → c < 1114112
below_all c is = elim (scalar_cases c is) [ inl low ↦ omega (arith, low) | inr high ↦ high.1 ]

-- the cells of a character
abbrev low : ℕ → ℕ
low bits = 128 + bits % 64

abbrev lead2 : ℕ → ℕ
lead2 c = 192 + c / 64

abbrev lead3 : ℕ → ℕ
lead3 c = 224 + c / 4096

abbrev lead4 : ℕ → ℕ
lead4 c = 240 + c / 262144

cell : (bits : ℕ) → low bits < 256
cell bits = omega arith

two : (c : ℕ) → c < 2048 → lead2 c < 256
two c l = omega (arith, l)

three : (c : ℕ) → c < 65536 → lead3 c < 256
three c l = omega (arith, l)

four : (c : ℕ) → c < 1114112 → lead4 c < 256
four c l = omega (arith, l)

char_bytes : (c : ℕ) → c < 1114112 → AreBytes (encode c)
unfolding encode
char_bytes c small =
    let one = more (low c) [] (cell c) none in
    let both = more (low (c / 64)) (low c ∷ []) (cell (c / 64)) one in
    let all = more (low (c / 4096)) (low (c / 64) ∷ low c ∷ []) (cell (c / 4096)) both in
    chosen (ltb c 128) (c ∷ []) _ (λ t. more c [] (omega (arith, ltb-true c 128 t)) none)
    (λ _. chosen (ltb c 2048) (lead2 c ∷ low c ∷ []) _ (λ t. more (lead2 c) (low c ∷ []) (two c (ltb-true c 2048 t)) one)
    (λ _. chosen (ltb c 65536) (lead3 c ∷ low (c / 64) ∷ low c ∷ []) (lead4 c ∷ low (c / 4096) ∷ low (c / 64) ∷ low c ∷ [])
    (λ t. more (lead3 c) (low (c / 64) ∷ low c ∷ []) (three c (ltb-true c 65536 t)) both)
    (λ _. more (lead4 c) (low (c / 4096) ∷ low (c / 64) ∷ low c ∷ []) (four c small) all)))

chars_bytes : (cs : List ℕ) → scalars cs ≡ true → AreBytes (encodes cs)
chars_bytes [] is = none
chars_bytes (c ∷ cs) is =
    let parts = and_parts (scalar c) (scalars cs) is in
    All-append (λ b. b < 256) (encode c) (encodes cs) (char_bytes c (below_all c parts.0)) (chars_bytes cs parts.1)

pub text_bytes : (bytes : List ℕ) → is_text bytes ≡ true → AreBytes bytes
unfolding is_text
text_bytes bytes is =
    let u = IsUtf8-from_is_utf8 bytes (and_parts _ (is_utf8 bytes) is).1 in
    subst AreBytes u.1.1 (chars_bytes u.0 u.1.0)

-- ---- DES keys

window_block : (t : List ℕ) → IsBlock 7 (window_key t)
unfolding window_key
window_block t = record {
  whole = refl;
  bytes = All-map (λ b. b < 256) (λ i. (slice_index t i / 2 ^ i + slice_index t (i + 1) * 2 ^ (7 - i)) % 256) (range_with_len 0 7) (λ k d l. mod_below _ 256 (omega arith));
}

windows_block : (starts buffer key : List ℕ) → IsBlock 7 key → IsBlock 7 (key_after starts buffer key)
unfolding key_after
windows_block [] buffer key is = is
windows_block (at ∷ starts) buffer key is =
    let next = changed_at (sealed key) buffer at in
    windows_block starts next (window_key (drop at next)) (window_block (drop at next))

password_block : (password : List ℕ) → IsBlock 7 (password_key password)
unfolding password_key
password_block password = windows_block _ _ _ (window_block _)

all_digits : (text : List ℕ) → list_all is_hex_digit text ≡ list_all is_digit text
all_digits [] = refl
all_digits (b ∷ text) = ap (λ (v : Bool). v && list_all is_hex_digit text) (same_digit b) ∙ ap (λ (v : Bool). is_digit b && v) (all_digits text)

spelled_block : (text : List ℕ) → is_hex_key text ≡ true → IsBlock 7 (spelled text)
spelled_block text is =
    let parts = and_parts (eqb (length text) 14) (list_all is_hex_digit text) is in
    let long = eqb-true (length text) 14 parts.0 in
    let all : AllPass is_digit text = AllPass-from_list_all is_digit text (sym (all_digits text) ∙ parts.1) in
    let read = decode_of-digits text (omega (arith, long)) all in
    let facts = decode_of-ok text read.0 read.1 in
    let same : spelled text ≡ read.0 = ap (λ (r : Result (List ℕ) FromHexError). result_unwrap_or r []) read.1 in
    subst (IsBlock 7) (sym same) (record { whole = omega (arith, facts.2, long); bytes = All-from_get_or (λ b. b < 256) read.0 0 (λ i _. facts.3 i) })

by_digits : (key : List Attr) (digits password : Option (List ℕ)) → ((text : List ℕ) → digits ≡ Some text → is_hex_key text ≡ true) → IsBlock 7 (digits_or_password digits password)
by_digits key None password good = password_block _
by_digits key (Some text) password good = spelled_block text (good text refl)

des_block : (key : List Attr) → key_fault key ≡ None → IsBlock 7 (des_key key)
unfolding des_key
des_block key kept = by_digits key (hex_of key) (value_of (codes "!password") key) (λ text is. good_digits key text kept is)

-- ---- names

-- what a tuple gives to a name is text
value_text : (name : List ℕ) (key : List Attr) (text : List ℕ) → is_tuple key ≡ true → value_of name key ≡ Some text → is_text text ≡ true
value_text name key text is found =
    let attrs = (and_parts (leb (length key) 36) (list_all is_attr key) is).1 in
    let value : is_value (Is text) ≡ true = given_is_value name key text attrs found in
    (and_parts _ (is_text text) value).1

user_short : (text : List ℕ) → is_user text ≡ true → length text < 28
user_short text is =
    let parts = and_parts (leb 1 (length text)) _ is in
    let short = leb-true (length text) 27 (and_parts (leb (length text) 27) (list_all is_above_blank text) parts.1).0 in
    omega (arith, short)

dom_short : (text : List ℕ) → is_dom text ≡ true → length text < 48
dom_short text is =
    let parts = and_parts (leb 1 (length text)) _ is in
    let short = leb-true (length text) 47 (and_parts (leb (length text) 47) (list_all is_dom_byte text) parts.1).0 in
    omega (arith, short)

fits : (size : ℕ) (text : List ℕ) → is_text text ≡ true → length text < size → FitsName size text
fits size text is short = record { short = record { text = is; short = short }; bytes = text_bytes text is }

no_text : is_text [] ≡ true
unfolding is_text is_utf8 chars encode
no_text = refl

by_value : (size : ℕ) (o : Option (List ℕ)) → 0 < size → ((text : List ℕ) → o ≡ Some text → FitsName size text) → FitsName size (text_or_none o)
by_value size None some good = fits size [] no_text some
by_value size (Some text) some good = good text refl

pub ring_key : (key : KeyEntry) → IsKey key.tuple → IsRingKey (told_key key)
ring_key key is = record {
  des = des_block key.tuple is.rules;
  user = by_value 28 (value_of (codes "user") key.tuple) (omega arith) (λ text found. fits 28 text (value_text (codes "user") key.tuple text is.tuple found) (user_short text (good_user key.tuple text is.rules found)));
  dom = by_value 48 (value_of (codes "dom") key.tuple) (omega arith) (λ text found. fits 48 text (value_text (codes "dom") key.tuple text is.tuple found) (dom_short text (good_dom key.tuple text is.rules found)));
}
