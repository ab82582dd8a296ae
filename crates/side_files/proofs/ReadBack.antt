-- A question's line about a tuple that is printed is read back.
use Rattle.std.proofs.Common.{◌≡◌, ℕ, ◌-◌, ◌<◌, ◌≤◌, ◌^◌, List, [], ◌∷◌, ◌++◌, Bool, true, false, eqb, leb, ltb, cond, length, map, take, get_or, Some, Ok, codes, option_map, refl, sym, ap, ◌∙◌, arith, rules, append_assoc, length-append}
use Rattle.std.specs.Fmt.{decimal}
use Rattle.std.specs.List.{list_all, list_any, join_with_byte}
use Rattle.std.specs.Str.{is_utf8, chars}
use Rattle.std.proofs.lemmas.Bool.{and_parts, and_from, lt-ltb, leb-true, le-leb, ne_eqb, or_left}
use Rattle.std.proofs.lemmas.Str.{is_utf8-from_IsUtf8, IsUtf8-from_ascii}
use Rattle.std.proofs.lemmas.Str.Parse.{IsNumeralModel, numerals_by_fold}
use Rattle.std.proofs.lemmas.Fmt.{digits_decimal, digits_value-decimal, decimal_nonempty, IsAscii-decimal}
use lib.Utf8.{encode}
use Rattle.std.proofs.lemmas.List.{get_or_at, take_at}
use Rattle.wire_base.specs.Texts.{is_text}
use Rattle.wire_base.proofs.TextLemmas.{is_text-without_nul}
use Rattle.attr_tuples.specs.Lines.{is_line_byte}
use Rattle.attr_tuples.specs.Words.{ends_unquoted, value_text}
use Rattle.attr_tuples.specs.declared.attr.Attr.{Attr}
use Rattle.attr_tuples.specs.declared.attr.Value.TheVariants.{Is}
use Rattle.attr_tuples.specs.Attributes.{is_name, is_value, is_attr, is_tuple}
use Rattle.attr_tuples.specs.Printing.{attr_text, printed_text}
use Rattle.attr_tuples.specs.Grammar.{tuple_of}
use Rattle.attr_tuples.proofs.PrintedLemmas.{printed_read}
use Rattle.side_files.specs.declared.line.PromptKind.{PromptKind}
use Rattle.side_files.specs.declared.line.PromptKind.TheVariants.{Confirm, Needkey}
use Rattle.side_files.specs.Decimals.{is_digit, behind, number_of}
use Rattle.side_files.specs.Lines.{verb, question_line}
use Rattle.side_files.specs.Reading.{asks, is_confirm, question, question_at, question_of, tag_in, without_newline}

-- ---- a number in decimal

digits_are : IsNumeralModel (λ ds. list_all is_digit ds ≡ true) (behind 0)
digits_are = numerals_by_fold _ (search rules) behind (search rules)

pub number_again : (n : ℕ) → n < 2 ^ 64 → number_of (decimal n) ≡ Some n
unfolding number_of
number_again n h =
    let digits : list_all is_digit (decimal n) ≡ true = digits_decimal digits_are n h in
    let value : behind 0 (decimal n) ≡ n = digits_value-decimal digits_are n h in
    let some : ltb 0 (length (decimal n)) ≡ true = lt-ltb 0 (length (decimal n)) (decimal_nonempty n h) in
    let fits : ltb n (2 ^ 64) ≡ true = lt-ltb n (2 ^ 64) h in
    rw (some, digits, value, fits) refl

-- ---- the attribute that gives a tag

abbrev tag_attr : ℕ → Attr
tag_attr n = record { name = codes "tag"; value = Is (decimal n) }

digit_parts : (b : ℕ) → is_digit b ≡ true → 48 ≤ b
digit_parts b h = leb-true 48 b (and_parts (leb 48 b) (leb b 57) h).0

digits_plain : (ds : List ℕ) → list_all is_digit ds ≡ true → list_any ends_unquoted ds ≡ false
digits_plain [] h = refl
digits_plain (b ∷ ds) h =
    let both = and_parts (is_digit b) (list_all is_digit ds) h in
    let low = digit_parts b both.0 in
    let blank : eqb b 32 ≡ false = ne_eqb b 32 (λ e. omega (arith, low, e)) in
    let tab : eqb b 9 ≡ false = ne_eqb b 9 (λ e. omega (arith, low, e)) in
    let quote : eqb b 39 ≡ false = ne_eqb b 39 (λ e. omega (arith, low, e)) in
    rw (blank, tab, quote) (digits_plain ds both.1)

digits_line : (ds : List ℕ) → list_all is_digit ds ≡ true → list_all is_line_byte ds ≡ true
digits_line [] h = refl
digits_line (b ∷ ds) h =
    let both = and_parts (is_digit b) (list_all is_digit ds) h in
    let low = digit_parts b both.0 in
    and_from (is_line_byte b) (list_all is_line_byte ds) (or_left (leb 32 b) (eqb b 9) (le-leb 32 b (omega (arith, low)))) (digits_line ds both.1)

digits_nul : (ds : List ℕ) → list_all is_digit ds ≡ true → list_any (λ b. eqb b 0) ds ≡ false
digits_nul [] h = refl
digits_nul (b ∷ ds) h =
    let both = and_parts (is_digit b) (list_all is_digit ds) h in
    let low = digit_parts b both.0 in
    let nul : eqb b 0 ≡ false = ne_eqb b 0 (λ e. omega (arith, low, e)) in
    rw nul (digits_nul ds both.1)

decimal_digits : (n : ℕ) → n < 2 ^ 64 → list_all is_digit (decimal n) ≡ true
decimal_digits n h = digits_decimal digits_are n h

decimal_bare : (n : ℕ) → n < 2 ^ 64 → value_text (decimal n) ≡ decimal n
decimal_bare n h =
    let some : eqb (length (decimal n)) 0 ≡ false = ne_eqb (length (decimal n)) 0 (λ e. omega (arith, decimal_nonempty n h, e)) in
    let plain = digits_plain (decimal n) (decimal_digits n h) in
    rw (some, plain) refl

decimal_text : (n : ℕ) → n < 2 ^ 64 → is_text (decimal n) ≡ true
decimal_text n h = is_text-without_nul (decimal n) (digits_nul (decimal n) (decimal_digits n h)) ∙ is_utf8-from_IsUtf8 (decimal n) (IsUtf8-from_ascii (decimal n) (IsAscii-decimal n h))

tag_name : is_name (codes "tag") ≡ true
unfolding is_text is_utf8 chars encode
tag_name = refl

tag_is_attr : (n : ℕ) → n < 2 ^ 64 → is_attr (tag_attr n) ≡ true
tag_is_attr n h = and_from (is_name (codes "tag")) (is_value (Is (decimal n))) tag_name (and_from (list_all is_line_byte (decimal n)) (is_text (decimal n)) (digits_line (decimal n) (decimal_digits n h)) (decimal_text n h))

tagged_tuple : (n : ℕ) (attrs : List Attr) → n < 2 ^ 64 → is_tuple attrs ≡ true → length attrs < 36 → is_tuple (tag_attr n ∷ attrs) ≡ true
tagged_tuple n attrs h t few =
    let both = and_parts (leb (length attrs) 36) (list_all is_attr attrs) t in
    and_from (leb (length (tag_attr n ∷ attrs)) 36) (list_all is_attr (tag_attr n ∷ attrs)) (le-leb (length (tag_attr n ∷ attrs)) 36 (omega (arith, few)))
    (and_from (is_attr (tag_attr n)) (list_all is_attr attrs) (tag_is_attr n h) both.1)

tagged_text : (n : ℕ) (a : Attr) (attrs : List Attr) → n < 2 ^ 64 → printed_text (tag_attr n ∷ a ∷ attrs) ≡ codes "tag=" ++ (decimal n ++ 32 ∷ printed_text (a ∷ attrs))
unfolding printed_text
tagged_text n a attrs h = ap (λ (v : List ℕ). codes "tag=" ++ (v ++ 32 ∷ join_with_byte 32 (map attr_text (a ∷ attrs)))) (decimal_bare n h)

-- ---- the line

newline_gone : (xs : List ℕ) → without_newline (xs ++ 10 ∷ []) ≡ xs
newline_gone xs =
    let last : length (xs ++ 10 ∷ []) - 1 ≡ length xs = omega (arith, length-append xs (10 ∷ [])) in
    let is : get_or (xs ++ 10 ∷ []) (length (xs ++ 10 ∷ []) - 1) 0 ≡ 10 = ap (λ (n : ℕ). get_or (xs ++ 10 ∷ []) n 0) last ∙ get_or_at xs 10 [] 0 (length xs) refl in
    let test : eqb (get_or (xs ++ 10 ∷ []) (length (xs ++ 10 ∷ []) - 1) 0) 10 ≡ true = ap (λ (b : ℕ). eqb b 10) is in
    ap (λ (t : Bool). cond t (take (length (xs ++ 10 ∷ []) - 1) (xs ++ 10 ∷ [])) (xs ++ 10 ∷ [])) test
    ∙ (ap (λ (n : ℕ). take n (xs ++ 10 ∷ [])) last ∙ take_at xs (10 ∷ []) (length xs) refl)

abbrev front : PromptKind → List ℕ → List ℕ
front kind text = verb kind ++ 32 ∷ text

line_cut : (kind : PromptKind) (n : ℕ) (about : List ℕ) → question_line kind n about ≡ front kind (codes "tag=" ++ (decimal n ++ 32 ∷ about)) ++ 10 ∷ []
unfolding question_line
line_cut Confirm n about = ap (λ (x : List ℕ). codes "confirm tag=" ++ x) (sym (append_assoc (decimal n) (32 ∷ about) (10 ∷ [])))
line_cut Needkey n about = ap (λ (x : List ℕ). codes "needkey tag=" ++ x) (sym (append_assoc (decimal n) (32 ∷ about) (10 ∷ [])))

asked_at : (kind : PromptKind) (text : List ℕ) → question_at (front kind text) ≡ asks (is_confirm kind) (tuple_of text)
asked_at Confirm text = refl
asked_at Needkey text = refl

tag_again : (n : ℕ) → n < 2 ^ 64 → tag_in (tag_attr n) ≡ Some n
tag_again n h = number_again n h

pub read_back : (kind : PromptKind) (n : ℕ) (attrs : List Attr) → n < 2 ^ 64 → is_tuple attrs ≡ true → 0 < length attrs → length attrs < 36 → question_of (question_line kind n (printed_text attrs)) ≡ Some (question (is_confirm kind) attrs n)
unfolding question_of
read_back kind n [] h t some few = absurd (omega arith)
read_back kind n (a ∷ attrs) h t some few =
    let text : List ℕ = codes "tag=" ++ (decimal n ++ 32 ∷ printed_text (a ∷ attrs)) in
    let says : tuple_of text ≡ Ok (tag_attr n ∷ a ∷ attrs) = ap tuple_of (sym (tagged_text n a attrs h)) ∙ printed_read (tag_attr n ∷ a ∷ attrs) (tagged_tuple n (a ∷ attrs) h t few) in
    ap (λ (line : List ℕ). question_at (without_newline line)) (line_cut kind n (printed_text (a ∷ attrs)))
    ∙ (ap question_at (newline_gone (front kind text))
    ∙ (asked_at kind text
    ∙ (ap (asks (is_confirm kind)) says
    ∙ ap (option_map (question (is_confirm kind) (a ∷ attrs))) (tag_again n h))))

printed_more : (attrs : List Attr) (more : Attr) → 0 < length attrs → join_with_byte 32 (map attr_text (attrs ++ more ∷ [])) ≡ join_with_byte 32 (map attr_text attrs) ++ 32 ∷ attr_text more
printed_more [] more some = absurd (omega arith)
printed_more (a ∷ []) more some = refl
printed_more (a ∷ b ∷ attrs) more some =
    ap (λ (x : List ℕ). attr_text a ++ 32 ∷ x) (printed_more (b ∷ attrs) more (omega arith))
    ∙ sym (append_assoc (attr_text a) (32 ∷ join_with_byte 32 (map attr_text (b ∷ attrs))) (32 ∷ attr_text more))

pub longer_back : (kind : PromptKind) (n : ℕ) (attrs : List Attr) (more : Attr) → n < 2 ^ 64 → is_tuple (attrs ++ more ∷ []) ≡ true → 0 < length attrs → length attrs < 35 → question_of (question_line kind n (printed_text attrs ++ 32 ∷ attr_text more)) ≡ Some (question (is_confirm kind) (attrs ++ more ∷ []) n)
unfolding printed_text
longer_back kind n attrs more h t some few =
    ap (λ (about : List ℕ). question_of (question_line kind n about)) (sym (printed_more attrs more some))
    ∙ read_back kind n (attrs ++ more ∷ []) h t (omega (arith, length-append attrs (more ∷ []))) (omega (arith, few, length-append attrs (more ∷ [])))
