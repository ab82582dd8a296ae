-- A table that is written is read as it is.
use Rattle.std.proofs.Common.{◌≡◌, ◌≢◌, ℕ, suc, ◌<◌, ◌≤◌, ◌/◌, ◌%◌, List, [], ◌∷◌, ◌++◌, Bool, true, false, cond, not, ◌&&◌, ◌||◌, ◌==◌, ltb, get_or, nat_le, length, map, ◌*◌, codes, Option, Some, None, Result, Ok, Err, refl, sym, ap, subst, ◌∙◌, inl, inr, arith}
use Rattle.std.specs.Prelude.{All, AllPairs, IfSome, is_none}
use Rattle.std.specs.List.{AllByRecursion, cons_option, list_all, list_any, slice_index}
use Rattle.std.specs.Result.{result_unwrap_or}
use Rattle.std.specs.Cmp.Lexicographic.{bytes_decides}
use Rattle.std.specs.Str.{IsAscii, bytes_eq, is_utf8, chars}
use lib.Utf8.{encode}
use Rattle.std.proofs.lemmas.Bool.{cases_Bool, and_from, and_parts, cond-false, cond-true, eqb-true, leb-true, ltb-true}
use Rattle.std.proofs.lemmas.List.{append_assoc, length-append, length-map}
use Rattle.std.proofs.Math.ListN.{get_or-append}
use Rattle.std.proofs.Math.Seq.{get_or-append_seam}
use Rattle.std.proofs.lemmas.List.Sums.{AllPass-from_list_all}
use Rattle.std.proofs.lemmas.List.Splits.{slice_split_at}
use Rattle.std.proofs.lemmas.List.Elements.{recursion_from_All}
use Rattle.std.proofs.lemmas.Str.{IsUtf8-from_ascii, is_utf8-from_IsUtf8}
use Rattle.std.proofs.lemmas.Str.Ascii.{IsAscii-from_all}
use Rattle.hex.specs.declared.error.FromHexError.{FromHexError}
use Rattle.hex.specs.Hex.{IsBytes, encode_lower, encode_with, lower_digits}
use Rattle.hex.proofs.HexLemmas.{IsAscii-encode_with, decode_of-encode_lower, length-encode_with}
use Rattle.wire_base.specs.Texts.{is_text}
use Rattle.sealing.specs.Passwords.{password_key}
use Rattle.attr_tuples.specs.declared.attr.Attr.{Attr}
use Rattle.attr_tuples.specs.declared.attr.Value.TheVariants.{Is}
use Rattle.attr_tuples.specs.declared.fault.TupleFault.{TupleFault}
use Rattle.attr_tuples.specs.declared.fault.TupleFault.TheVariants.{NotText}
use Rattle.attr_tuples.specs.Attributes.{is_tuple, is_value}
use Rattle.attr_tuples.specs.Cutting.{text_lines}
use Rattle.attr_tuples.specs.Forms.{is_hex_digit, is_hex_key, is_user}
use Rattle.attr_tuples.specs.Grammar.{tuple_of}
use Rattle.attr_tuples.specs.Lines.{is_line, is_line_byte, line_len}
use Rattle.attr_tuples.specs.Matching.{value_of}
use Rattle.attr_tuples.specs.Printing.{printed_text}
use Rattle.attr_tuples.proofs.FormLaws.{user_valued}
use Rattle.attr_tuples.proofs.LineLemmas.{line_from_len}
use Rattle.attr_tuples.proofs.PrintedLemmas.{printed_read}
use Rattle.auth_tables.specs.Lines.{counted, counts, first_bad, first_bad_behind, is_bad, most_lines, tuple_in}
use Rattle.auth_tables.specs.Keys.{KeyLine, bad_key_line, fits_keys, gives_new, is_user_key, key_given, key_in, key_of, key_said, keys_in, table_keys}
use Rattle.auth_tables.specs.Printing.{IsKeyLine, IsTable, given, is_of_password, key_attrs, key_line, password_given, table_text}

-- ---- digits

digit_at : (p : ℕ → Bool) → list_all p lower_digits ≡ true → (n : ℕ) → n < 16 → p (slice_index lower_digits n) ≡ true
digit_at p h n lt = AllPass-from_list_all p lower_digits h n 0 lt

digits_pass : (p : ℕ → Bool) → list_all p lower_digits ≡ true → (xs : List ℕ) → IsBytes xs → list_all p (encode_lower xs) ≡ true
unfolding encode_with
digits_pass p h [] bytes = refl
digits_pass p h (b ∷ xs) bytes =
    let small : b < 256 = bytes 0 in
    and_from (p (slice_index lower_digits (b / 16))) _ (digit_at p h (b / 16) (omega (arith, small)))
    (and_from (p (slice_index lower_digits (b % 16))) _ (digit_at p h (b % 16) (omega arith)) (digits_pass p h xs (λ k. bytes (suc k))))

-- seven bytes in digits
key_digits : (des : List ℕ) → length des ≡ 7 → IsBytes des → is_hex_key (encode_lower des) ≡ true
key_digits des seven bytes =
    and_from (length (encode_lower des) == 14) _ (ap (λ (n : ℕ). n == 14) (length-encode_with lower_digits des ∙ ap (λ (n : ℕ). 2 * n) seven)) (digits_pass is_hex_digit refl des bytes)

none_any : (p : ℕ → Bool) (xs : List ℕ) → list_all (λ b. not (p b)) xs ≡ true → not (list_any p xs) ≡ true
none_any p [] h = refl
none_any p (x ∷ xs) h = let parts = and_parts (not (p x)) (list_all (λ b. not (p b)) xs) h in none_step (p x) (list_any p xs) parts.0 (none_any p xs parts.1)
  where
    none_step : (a b : Bool) → not a ≡ true → not b ≡ true → not (a || b) ≡ true
    none_step true b h g = h
    none_step false b h g = g

lower_ascii : IsAscii lower_digits
lower_ascii = IsAscii-from_all lower_digits (λ k d lt. ltb-true (get_or lower_digits k d) 128 (AllPass-from_list_all (λ b. ltb b 128) lower_digits refl k d lt))

digits_valued : (des : List ℕ) → IsBytes des → is_value (Is (encode_lower des)) ≡ true
unfolding is_text
digits_valued des bytes =
    and_from (list_all is_line_byte (encode_lower des)) _ (digits_pass is_line_byte refl des bytes)
    (and_from (not (list_any (λ b. b == 0) (encode_lower des))) _ (none_any (λ b. b == 0) (encode_lower des) (digits_pass (λ b. not (b == 0)) refl des bytes))
    (is_utf8-from_IsUtf8 (encode_lower des) (IsUtf8-from_ascii (encode_lower des) (IsAscii-encode_with lower_digits des lower_ascii))))

-- ---- a line

module _ (user des : List ℕ) (named : is_user user ≡ true) (valued : is_value (Is user) ≡ true) (digits : is_value (Is (encode_lower des)) ≡ true) where
  -- it is a tuple
  tuple_by : (password : Option (List ℕ)) (b : Bool) → IfSome password (λ password. is_value (Is password) ≡ true)
      → is_tuple (given (codes "user") user ∷ (cond b [] (given (codes "!hex") (encode_lower des) ∷ []) ++ password_given password)) ≡ true
  unfolding is_text is_utf8 chars encode
  tuple_by None true p = rw valued refl
  tuple_by None false p = rw valued (rw digits refl)
  tuple_by (Some password) true p = rw valued (rw p refl)
  tuple_by (Some password) false p = rw valued (rw digits (rw p refl))

  -- it is a user's key
  key_by : (password : Option (List ℕ)) (b : Bool) → is_of_password des password ≡ b → is_hex_key (encode_lower des) ≡ true
      → is_user_key (given (codes "user") user ∷ (cond b [] (given (codes "!hex") (encode_lower des) ∷ []) ++ password_given password)) ≡ true
  key_by None true e h = absurd cc
  key_by None false e h = rw named (rw h refl)
  key_by (Some password) true e h = rw named refl
  key_by (Some password) false e h = rw named (rw h refl)

  -- which gives the user and the key
  given_by : (password : Option (List ℕ)) (b : Bool) → is_of_password des password ≡ b → IsBytes des
      → key_given (given (codes "user") user ∷ (cond b [] (given (codes "!hex") (encode_lower des) ∷ []) ++ password_given password)) ≡ (user, record { des = des; password = password })
  unfolding value_of
  given_by None true e bytes = absurd cc
  given_by None false e bytes = ap (λ (r : Result (List ℕ) FromHexError). let line : KeyLine = (user, record { des = result_unwrap_or r []; password = None }) in line) (decode_of-encode_lower des bytes)
  given_by (Some password) true e bytes = ap (λ (des : List ℕ). let line : KeyLine = (user, record { des = des; password = Some password }) in line) (sym ((bytes_decides des (password_key password)).0 e))
  given_by (Some password) false e bytes = ap (λ (r : Result (List ℕ) FromHexError). let line : KeyLine = (user, record { des = result_unwrap_or r []; password = Some password }) in line) (decode_of-encode_lower des bytes)

  -- and it begins with no mark of a comment
  counts_by : (password : Option (List ℕ)) (b : Bool) → counts (printed_text (given (codes "user") user ∷ (cond b [] (given (codes "!hex") (encode_lower des) ∷ []) ++ password_given password))) ≡ true
  unfolding printed_text
  counts_by None true = refl
  counts_by None false = refl
  counts_by (Some password) true = refl
  counts_by (Some password) false = refl

-- what stands in a line before its end
abbrev line_body : KeyLine → List ℕ
line_body line = printed_text (key_attrs line)

body_said : (line : KeyLine) → IsKeyLine line → tuple_of (line_body line) ≡ Ok (key_attrs line)
body_said line h = printed_read (key_attrs line) (tuple_by line.0 line.1.des h.user (user_valued line.0 h.user_text h.user) (digits_valued line.1.des h.bytes) line.1.password (is_of_password line.1.des line.1.password) h.password)

body_read : (line : KeyLine) → IsKeyLine line → key_in (line_body line) ≡ Some line
unfolding key_in tuple_in
body_read line h =
    ap (λ (r : Result (List Attr) TupleFault). key_said (elim r [ Ok t ↦ Some t | Err fault ↦ None ])) (body_said line h)
    ∙ (cond-true (is_user_key (key_attrs line)) (Some (key_given (key_attrs line))) None (key_by line.0 line.1.des h.user (user_valued line.0 h.user_text h.user) (digits_valued line.1.des h.bytes) line.1.password (is_of_password line.1.des line.1.password) refl (key_digits line.1.des h.seven h.bytes))
    ∙ ap Some (given_by line.0 line.1.des h.user (user_valued line.0 h.user_text h.user) (digits_valued line.1.des h.bytes) line.1.password (is_of_password line.1.des line.1.password) refl h.bytes))

body_counts : (line : KeyLine) → IsKeyLine line → counts (line_body line) ≡ true
body_counts line h = counts_by line.0 line.1.des h.user (user_valued line.0 h.user_text h.user) (digits_valued line.1.des h.bytes) line.1.password (is_of_password line.1.des line.1.password)

said_line : (text : List ℕ) (attrs : List Attr) → tuple_of text ≡ Ok attrs → is_line text ≡ true
unfolding tuple_of
said_line text attrs h = elim (cases_Bool (line_len text == length text)) [
  | inl y ↦ line_from_len text (eqb-true (line_len text) (length text) y)
  | inr n ↦ absurd (let s : Ok attrs ≡ Err (NotText (line_len text)) = sym h ∙ cond-false (line_len text == length text) _ _ n in cc)
]

no_end : (b : ℕ) → is_line_byte b ≡ true → (b == 10) ≡ false
no_end b h = elim (cases_Bool (b == 10)) [
  | inl y ↦ absurd (let s : false ≡ true = subst (λ (b : ℕ). is_line_byte b ≡ true) (eqb-true b 10 y) h in cc)
  | inr n ↦ n
]

body_whole : (line : KeyLine) → IsKeyLine line → All (λ (b : ℕ). (b == 10) ≡ false) (line_body line)
body_whole line h k d lt =
    let parts = and_parts (list_all is_line_byte (line_body line)) (is_utf8 (line_body line)) (said_line (line_body line) (key_attrs line) (body_said line h)) in
    no_end (get_or (line_body line) k d) (AllPass-from_list_all is_line_byte (line_body line) parts.0 k d lt)

-- ---- a table

-- the lines of a table that is written, and nothing behind the last
text_is : (keys : List KeyLine) → AllByRecursion IsKeyLine keys → text_lines (table_text keys) ≡ map line_body keys ++ [] ∷ []
unfolding key_line
text_is [] h = refl
text_is (line ∷ keys) h =
    ap text_lines (append_assoc (line_body line) (10 ∷ []) (table_text keys))
    ∙ (slice_split_at (λ (b : ℕ). b == 10) (line_body line) 10 (table_text keys) (body_whole line h.0) refl
    ∙ ap (λ (lines : List (List ℕ)). line_body line ∷ lines) (text_is keys h.1))

all_count : (keys : List KeyLine) → AllByRecursion IsKeyLine keys → counted (map line_body keys ++ [] ∷ []) ≡ map line_body keys
all_count [] h = refl
all_count (line ∷ keys) h =
    cond-true (counts (line_body line)) (line_body line ∷ counted (map line_body keys ++ [] ∷ [])) (counted (map line_body keys ++ [] ∷ [])) (body_counts line h.0)
    ∙ ap (λ (lines : List (List ℕ)). line_body line ∷ lines) (all_count keys h.1)

all_read : (keys : List KeyLine) → AllByRecursion IsKeyLine keys → keys_in (map line_body keys) ≡ keys
all_read [] h = refl
all_read (line ∷ keys) h = ap (λ (o : Option KeyLine). cons_option o (keys_in (map line_body keys))) (body_read line h.0) ∙ ap (λ (keys : List KeyLine). line ∷ keys) (all_read keys h.1)

pub written_read : (keys : List KeyLine) → IsTable keys → table_keys (table_text keys) ≡ keys
written_read keys h =
    let lines = recursion_from_All IsKeyLine keys h.lines in
    ap (λ (lines : List (List ℕ)). keys_in (counted lines)) (text_is keys lines) ∙ (ap keys_in (all_count keys lines) ∙ all_read keys lines)

-- ---- none of its lines is bad

none_found : (name : List ℕ) (entries : List KeyLine) → AllByRecursion (λ (entry : KeyLine). name ≢ entry.0) entries → key_of name entries ≡ None
none_found name [] h = refl
none_found name (entry ∷ entries) h = elim (cases_Bool (bytes_eq name entry.0)) [
  | inl y ↦ absurd (h.0 ((bytes_decides name entry.0).0 y))
  | inr n ↦ cond-false (bytes_eq name entry.0) (Some entry.1) (key_of name entries) n ∙ none_found name entries h.1
]

abbrev Differ : KeyLine → KeyLine → Type 0
Differ line other = line.0 ≢ other.0

-- no entry of a front is of the user behind it
front_apart : (done todo : List KeyLine) (line : KeyLine) → AllPairs Differ (done ++ line ∷ todo) → key_of line.0 done ≡ None
front_apart done todo line h =
    none_found line.0 done (recursion_from_All (λ (entry : KeyLine). line.0 ≢ entry.0) done (λ k d lt same.
    h k (length done) d lt (omega (arith, length-append done (line ∷ todo)))
    (ap (λ (entry : KeyLine). entry.0) (get_or-append done (line ∷ todo) d k lt) ∙ (sym same ∙ sym (ap (λ (entry : KeyLine). entry.0) (get_or-append_seam done line todo d))))))

bodies_count : (keys : List KeyLine) → AllByRecursion IsKeyLine keys → counted (map line_body keys) ≡ map line_body keys
bodies_count [] h = refl
bodies_count (line ∷ keys) h =
    cond-true (counts (line_body line)) (line_body line ∷ counted (map line_body keys)) (counted (map line_body keys)) (body_counts line h.0)
    ∙ ap (λ (lines : List (List ℕ)). line_body line ∷ lines) (bodies_count keys h.1)

not_bad : (c a b : Bool) → a ≡ false → b ≡ true → (c && (a || not b)) ≡ false
not_bad true true b h g = absurd cc
not_bad true false true h g = refl
not_bad true false false h g = absurd cc
not_bad false a b h g = refl

few_lines : (n : ℕ) → n < most_lines → nat_le most_lines n ≡ false
few_lines n h = elim (cases_Bool (nat_le most_lines n)) [
  | inl y ↦ absurd (let le : 4096 ≤ n = leb-true 4096 n y in omega (arith, le, h))
  | inr other ↦ other
]

-- the line behind a front that is written isn't bad
body_fits : (done : List KeyLine) (line : KeyLine) → AllByRecursion IsKeyLine done → IsKeyLine line → key_of line.0 done ≡ None → length done < most_lines → is_bad fits_keys (map line_body done) (line_body line) ≡ false
body_fits done line lines h none few =
    not_bad (counts (line_body line)) (nat_le most_lines (length (counted (map line_body done)))) (fits_keys (counted (map line_body done)) (line_body line))
    (ap (λ (lines : List (List ℕ)). nat_le most_lines (length lines)) (bodies_count done lines) ∙ (ap (nat_le most_lines) (length-map done line_body) ∙ few_lines (length done) few))
    (ap (λ (lines : List (List ℕ)). gives_new (key_in (line_body line)) (keys_in lines)) (bodies_count done lines)
    ∙ (ap (gives_new (key_in (line_body line))) (all_read done lines)
    ∙ (ap (λ (o : Option KeyLine). gives_new o done) (body_read line h)
    ∙ ap is_none none)))

one_more : (done : List KeyLine) (line : KeyLine) → AllByRecursion IsKeyLine done → IsKeyLine line → AllByRecursion IsKeyLine (done ++ line ∷ [])
one_more [] line lines h = (h, tt)
one_more (entry ∷ done) line lines h = (lines.0, one_more done line lines.1 h)

bodies_more : (done : List KeyLine) (line : KeyLine) → map line_body done ++ line_body line ∷ [] ≡ map line_body (done ++ line ∷ [])
bodies_more [] line = refl
bodies_more (entry ∷ done) line = ap (λ (lines : List (List ℕ)). line_body entry ∷ lines) (bodies_more done line)

rest_good : (done todo : List KeyLine) → AllByRecursion IsKeyLine done → AllByRecursion IsKeyLine todo → AllPairs Differ (done ++ todo) → length (done ++ todo) ≤ most_lines
    → first_bad_behind fits_keys (map line_body done) (map line_body todo ++ [] ∷ []) ≡ None
rest_good done [] lines others apart few = refl
rest_good done (line ∷ todo) lines others apart few =
    let fewer : length done < most_lines = omega (arith, few, length-append done (line ∷ todo)) in
    cond-false (is_bad fits_keys (map line_body done) (line_body line)) _ (first_bad_behind fits_keys (map line_body done ++ line_body line ∷ []) (map line_body todo ++ [] ∷ []))
    (body_fits done line lines others.0 (front_apart done todo line apart) fewer)
    ∙ (ap (λ (lines : List (List ℕ)). first_bad_behind fits_keys lines (map line_body todo ++ [] ∷ [])) (bodies_more done line)
    ∙ rest_good (done ++ line ∷ []) todo (one_more done line lines others.0) others.1
    (subst (AllPairs Differ) (sym (append_assoc done (line ∷ []) todo)) apart)
    (subst (λ (keys : List KeyLine). length keys ≤ most_lines) (sym (append_assoc done (line ∷ []) todo)) few))

pub written_good : (keys : List KeyLine) → IsTable keys → bad_key_line (table_text keys) ≡ None
unfolding first_bad
written_good keys h =
    let lines = recursion_from_All IsKeyLine keys h.lines in
    ap (first_bad_behind fits_keys []) (text_is keys lines) ∙ rest_good [] keys tt lines h.apart h.few
