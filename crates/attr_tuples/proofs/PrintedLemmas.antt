-- A tuple that is printed is read back: its text is made of the pieces that say it.
use Rattle.std.proofs.Common.{◌≡◌, ℕ, zero, suc, ◌+◌, ◌-◌, ◌<◌, ◌≤◌, List, [], ◌∷◌, ◌++◌, Bool, true, false, not, ◌&&◌, eqb, leb, ltb, cond, length, map, take, drop, get_or, Some, None, Ok, refl, sym, ap, subst, ◌∙◌, inl, inr, arith, append_assoc, length-append, codes}
use Rattle.std.specs.List.{list_all, list_any, join_with_byte, position}
use Rattle.std.specs.Str.{IsUtf8, is_utf8, bytes_eq}
use Rattle.std.proofs.lemmas.Bool.{cases_Bool, and_parts, and_from, or_left, leb-true, le-leb, lt-ltb, le-ltb, ltb-true, ne_eqb, eqb-true, not-true, not_from_false, or_parts}
use Rattle.std.proofs.lemmas.Grind.{flat_map-append}
use Rattle.std.proofs.lemmas.List.{append-nil, take_at, drop_at, get_or_at}
use Rattle.std.proofs.lemmas.List.Folds.{list_all-append}
use Rattle.std.proofs.lemmas.Str.{IsUtf8-from_is_utf8, is_utf8-from_IsUtf8, IsUtf8-nil}
use Rattle.wire_base.specs.Texts.{is_text}
use Rattle.attr_tuples.specs.Lines.{is_line_byte, is_line}
use Rattle.attr_tuples.specs.Words.{Part, is_gap, ends_unquoted, quoted_byte, quoted_bytes, quoted, needs_quotes, value_text, part_text, part_bytes, word_text, word_bytes, begins_quote, are_parts, ends_word}
use Rattle.attr_tuples.specs.Words.Part.{Plain, Quoted}
use Rattle.attr_tuples.proofs.LineLemmas.{before_ascii, behind_ascii, with_ascii}
use Rattle.attr_tuples.specs.declared.attr.Attr.{Attr}
use Rattle.attr_tuples.specs.declared.attr.Value.{Value}
use Rattle.attr_tuples.specs.declared.attr.Value.TheVariants.{Is, Ask, Bare}
use Rattle.attr_tuples.specs.Attributes.{is_name_byte, is_name, is_value, is_attr, is_tuple}
use Rattle.attr_tuples.specs.Printing.{ending_text, attr_text, printed_text}
use Rattle.attr_tuples.specs.Grammar.{attr_of, cut_at, asking, Piece, pieces_text, is_word, are_pieces, attrs_of, tuple_of}
use Rattle.attr_tuples.specs.Grammar.Piece.{Gap, Word}
use Rattle.attr_tuples.proofs.CutLemmas.{Lacks, lacks, position_or_len-Lacks, position_or_len-at}
use Rattle.attr_tuples.proofs.AttrLemmas.{asking_is}
use Rattle.attr_tuples.proofs.GrammarLemmas.{reads_written}

-- ---- bytes that stand for themselves

plain_text : (bytes : List ℕ) → word_text (map Plain bytes) ≡ bytes
plain_text [] = refl
plain_text (b ∷ bytes) = ap (λ (x : List ℕ). b ∷ x) (plain_text bytes)

plain_bytes : (bytes : List ℕ) → word_bytes (map Plain bytes) ≡ bytes
plain_bytes [] = refl
plain_bytes (b ∷ bytes) = ap (λ (x : List ℕ). b ∷ x) (plain_bytes bytes)

plain_parts_fit : (bytes : List ℕ) (parts : List Part) (rest : List ℕ) → list_any ends_unquoted bytes ≡ false → are_parts parts rest ≡ true → are_parts (map Plain bytes ++ parts) rest ≡ true
plain_parts_fit [] parts rest h fit = fit
plain_parts_fit (b ∷ bytes) parts rest h fit =
    let both = or_parts (ends_unquoted b) (list_any ends_unquoted bytes) h in
    and_from (not (ends_unquoted b)) (are_parts (map Plain bytes ++ parts) rest) (not_from_false (ends_unquoted b) both.0) (plain_parts_fit bytes parts rest both.1 fit)

name_parts : (b : ℕ) → is_name_byte b ≡ true → (33 ≤ b) × (eqb b 39 ≡ false) × (not (eqb b 61) ≡ true) × (eqb b 63 ≡ false)
name_parts b h =
    let low = and_parts (leb 33 b) (not (eqb b 39) && (not (eqb b 61) && not (eqb b 63))) h in
    let quote = and_parts (not (eqb b 39)) (not (eqb b 61) && not (eqb b 63)) low.1 in
    let more = and_parts (not (eqb b 61)) (not (eqb b 63)) quote.1 in
    (leb-true 33 b low.0, not-true (eqb b 39) quote.0, more.0, not-true (eqb b 63) more.1)

name_ends : (name : List ℕ) → list_all is_name_byte name ≡ true → list_any ends_unquoted name ≡ false
name_ends [] h = refl
name_ends (b ∷ name) h =
    let both = and_parts (is_name_byte b) (list_all is_name_byte name) h in
    let is = name_parts b both.0 in
    let blank : eqb b 32 ≡ false = ne_eqb b 32 (λ e. omega (arith, is.0, e)) in
    let tab : eqb b 9 ≡ false = ne_eqb b 9 (λ e. omega (arith, is.0, e)) in
    rw (blank, tab, is.1) (name_ends name both.1)

name_equals : (name : List ℕ) → list_all is_name_byte name ≡ true → list_all (λ b. not (eqb b 61)) name ≡ true
name_equals [] h = refl
name_equals (b ∷ name) h =
    let both = and_parts (is_name_byte b) (list_all is_name_byte name) h in
    and_from (not (eqb b 61)) (list_all (λ x. not (eqb x 61)) name) (name_parts b both.0).2 (name_equals name both.1)

name_line_bytes : (name : List ℕ) → list_all is_name_byte name ≡ true → list_all is_line_byte name ≡ true
name_line_bytes [] h = refl
name_line_bytes (b ∷ name) h =
    let both = and_parts (is_name_byte b) (list_all is_name_byte name) h in
    and_from (is_line_byte b) (list_all is_line_byte name) (or_left (leb 32 b) (eqb b 9) (le-leb 32 b (omega (arith, (name_parts b both.0).0)))) (name_line_bytes name both.1)

record IsNameOf (name : List ℕ) : Type 0 where
  some : 1 ≤ length name
  bytes : list_all is_name_byte name ≡ true
  text : is_text name ≡ true

name_is : (name : List ℕ) → is_name name ≡ true → IsNameOf name
name_is name h =
    let long = and_parts (ltb 0 (length name)) (not (bytes_eq name (codes "!")) && (list_all is_name_byte name && is_text name)) h in
    let mark = and_parts (not (bytes_eq name (codes "!"))) (list_all is_name_byte name && is_text name) long.1 in
    let both = and_parts (list_all is_name_byte name) (is_text name) mark.1 in
    record { some = ltb-true 0 (length name) long.0; bytes = both.0; text = both.1 }

-- ---- the parts of an attribute

abbrev value_parts : List ℕ → List Part
value_parts text = cond (needs_quotes text) (Quoted text ∷ []) (map Plain text)

abbrev ending_parts : Value → List Part
ending_parts (Is text) = Plain 61 ∷ value_parts text
ending_parts Ask = Plain 63 ∷ []
ending_parts Bare = []

abbrev ending_bytes : Value → List ℕ
ending_bytes (Is text) = 61 ∷ text
ending_bytes Ask = 63 ∷ []
ending_bytes Bare = []

abbrev attr_parts : Attr → List Part
attr_parts a = map Plain a.name ++ ending_parts a.value

value_written : (text : List ℕ) (t : Bool) → word_text (cond t (Quoted text ∷ []) (map Plain text)) ≡ cond t (quoted text) text
value_written text true = append-nil (quoted text)
value_written text false = plain_text text

value_meant : (text : List ℕ) (t : Bool) → word_bytes (cond t (Quoted text ∷ []) (map Plain text)) ≡ text
value_meant text true = append-nil text
value_meant text false = plain_bytes text

ending_written : (value : Value) → word_text (ending_parts value) ≡ ending_text value
ending_written (Is text) = ap (λ (x : List ℕ). 61 ∷ x) (value_written text (needs_quotes text))
ending_written Ask = refl
ending_written Bare = refl

ending_meant : (value : Value) → word_bytes (ending_parts value) ≡ ending_bytes value
ending_meant (Is text) = ap (λ (x : List ℕ). 61 ∷ x) (value_meant text (needs_quotes text))
ending_meant Ask = refl
ending_meant Bare = refl

attr_written : (a : Attr) → word_text (attr_parts a) ≡ attr_text a
attr_written a =
    flat_map-append part_text (map Plain a.name) (ending_parts a.value)
    ∙ ap (λ (x : List ℕ). x ++ word_text (ending_parts a.value)) (plain_text a.name) ∙ ap (λ (x : List ℕ). a.name ++ x) (ending_written a.value)

attr_meant : (a : Attr) → word_bytes (attr_parts a) ≡ a.name ++ ending_bytes a.value
attr_meant a =
    flat_map-append part_bytes (map Plain a.name) (ending_parts a.value)
    ∙ ap (λ (x : List ℕ). x ++ word_bytes (ending_parts a.value)) (plain_bytes a.name) ∙ ap (λ (x : List ℕ). a.name ++ x) (ending_meant a.value)

no_quote : (rest : List ℕ) → ends_word rest ≡ true → begins_quote rest ≡ false
no_quote [] h = refl
no_quote (b ∷ rest) h = ne_eqb b 39 (λ e. absurd (let f : is_gap 39 ≡ true = subst (λ (x : ℕ). is_gap x ≡ true) e h in (cc)))

value_fits : (text rest : List ℕ) (t : Bool) → needs_quotes text ≡ t → ends_word rest ≡ true → are_parts (cond t (Quoted text ∷ []) (map Plain text)) rest ≡ true
value_fits text rest true e ends = and_from (not (begins_quote rest)) true (not_from_false (begins_quote rest) (no_quote rest ends)) refl
value_fits text rest false e ends =
    let parts = or_parts (eqb (length text) 0) (list_any ends_unquoted text) e in
    ap (λ (x : List Part). are_parts x rest) (sym (append-nil (map Plain text))) ∙ plain_parts_fit text [] rest parts.1 refl

ending_fits : (value : Value) (rest : List ℕ) → ends_word rest ≡ true → are_parts (ending_parts value) rest ≡ true
ending_fits (Is text) rest ends = value_fits text rest (needs_quotes text) refl ends
ending_fits Ask rest ends = refl
ending_fits Bare rest ends = refl

some_part : (name : List ℕ) (parts : List Part) → 1 ≤ length name → ltb 0 (length (map Plain name ++ parts)) ≡ true
some_part [] parts h = absurd (omega arith)
some_part (b ∷ name) parts h = lt-ltb 0 (length (map Plain (b ∷ name) ++ parts)) (omega arith)

attr_fits : (a : Attr) (rest : List ℕ) → is_attr a ≡ true → ends_word rest ≡ true → is_word (attr_parts a) rest ≡ true
attr_fits a rest h ends =
    let name = name_is a.name (and_parts (is_name a.name) (is_value a.value) h).0 in
    and_from (ltb 0 (length (attr_parts a))) (are_parts (attr_parts a) rest && ends_word rest) (some_part a.name (ending_parts a.value) name.some)
    (and_from (are_parts (attr_parts a) rest) (ends_word rest) (plain_parts_fit a.name (ending_parts a.value) rest (name_ends a.name name.bytes) (ending_fits a.value rest ends)) ends)

-- ---- what an attribute's word says

cut_found : (name text : List ℕ) → Lacks 61 name → position (λ b. eqb b 61) (name ++ 61 ∷ text) ≡ Some (length name)
cut_found name text h =
    let at = position_or_len-at 61 name text h in
    let test : ltb (length name) (length (name ++ 61 ∷ text)) ≡ true = lt-ltb (length name) (length (name ++ 61 ∷ text)) (omega (arith, length-append name (61 ∷ text))) in
    ap (λ (n : ℕ). cond (ltb n (length (name ++ 61 ∷ text))) (Some n) None) at ∙ ap (λ (t : Bool). cond t (Some (length name)) None) test

cut_missing : (word : List ℕ) → Lacks 61 word → position (λ b. eqb b 61) word ≡ None
cut_missing word h =
    let at = position_or_len-Lacks 61 word h in
    let test : ltb (length word) (length word) ≡ false = le-ltb (length word) (length word) (omega arith) in
    ap (λ (n : ℕ). cond (ltb n (length word)) (Some n) None) at ∙ ap (λ (t : Bool). cond t (Some (length word)) None) test

last_name : (name : List ℕ) (i : ℕ) → list_all is_name_byte name ≡ true → eqb (get_or name i 0) 63 ≡ false
last_name [] i h = refl
last_name (b ∷ name) zero h = (name_parts b (and_parts (is_name_byte b) (list_all is_name_byte name) h).0).3
last_name (b ∷ name) (suc i) h = last_name name i (and_parts (is_name_byte b) (list_all is_name_byte name) h).1

asked_equals : (name : List ℕ) → list_all (λ b. not (eqb b 61)) name ≡ true → list_all (λ b. not (eqb b 61)) (name ++ 63 ∷ []) ≡ true
asked_equals name h = list_all-append (λ b. not (eqb b 61)) name (63 ∷ []) ∙ and_from (list_all (λ b. not (eqb b 61)) name) true h refl

says_again : (name : List ℕ) (value : Value) → list_all is_name_byte name ≡ true → attr_of (name ++ ending_bytes value) ≡ record { name = name; value = value }
unfolding attr_of
says_again name (Is text) h =
    let make : List ℕ → List ℕ → Attr = λ n v. record { name = n; value = Is v } in
    let word = name ++ 61 ∷ text in
    let back : drop (length name + 1) word ≡ text = ap (drop (length name + 1)) (sym (append_assoc name (61 ∷ []) text)) ∙ drop_at (name ++ 61 ∷ []) text (length name + 1) (omega (arith, length-append name (61 ∷ []))) in
    ap (cut_at word) (cut_found name text (lacks 61 name (name_equals name h)))
    ∙ ap (λ (n : List ℕ). make n (drop (length name + 1) word)) (take_at name (61 ∷ text) (length name) refl)
    ∙ ap (make name) back
says_again name Ask h =
    let make : List ℕ → Attr = λ n. record { name = n; value = Ask } in
    let word = name ++ 63 ∷ [] in
    let long : length word - 1 ≡ length name = omega (arith, length-append name (63 ∷ [])) in
    let mark : get_or word (length word - 1) 0 ≡ 63 = ap (λ (n : ℕ). get_or word n 0) long ∙ get_or_at name 63 [] 0 (length name) refl in
    let test : eqb (get_or word (length word - 1) 0) 63 ≡ true = ap (λ (n : ℕ). eqb n 63) mark in
    let asked : asking word ≡ make (take (length word - 1) word) = asking_is word true test in
    ap (cut_at word) (cut_missing word (lacks 61 word (asked_equals name (name_equals name h))))
    ∙ asked ∙ ap make (ap (λ (n : ℕ). take n word) long ∙ take_at name (63 ∷ []) (length name) refl)
says_again name Bare h =
    let make : List ℕ → Attr = λ n. record { name = n; value = Bare } in
    let same = append-nil name in
    let alone : asking name ≡ make name = asking_is name false (last_name name (length name - 1) h) in
    ap (λ (w : List ℕ). cut_at w (position (λ b. eqb b 61) w)) same ∙ ap (cut_at name) (cut_missing name (lacks 61 name (name_equals name h))) ∙ alone

attr_again : (a : Attr) → is_attr a ≡ true → attr_of (word_bytes (attr_parts a)) ≡ a
attr_again a h =
    let name = name_is a.name (and_parts (is_name a.name) (is_value a.value) h).0 in
    ap attr_of (attr_meant a) ∙ says_again a.name a.value name.bytes

-- ---- the pieces of a tuple

abbrev tuple_pieces : List Attr → List Piece
tuple_pieces [] = []
tuple_pieces (a ∷ []) = Word (attr_parts a) ∷ []
tuple_pieces (a ∷ b ∷ attrs) = Word (attr_parts a) ∷ Gap 32 ∷ tuple_pieces (b ∷ attrs)

pieces_written : (attrs : List Attr) → pieces_text (tuple_pieces attrs) ≡ join_with_byte 32 (map attr_text attrs)
pieces_written [] = refl
pieces_written (a ∷ []) = append-nil (word_text (attr_parts a)) ∙ attr_written a
pieces_written (a ∷ b ∷ attrs) =
    ap (λ (x : List ℕ). x ++ 32 ∷ pieces_text (tuple_pieces (b ∷ attrs))) (attr_written a)
    ∙ ap (λ (x : List ℕ). attr_text a ++ 32 ∷ x) (pieces_written (b ∷ attrs))

pieces_fit : (attrs : List Attr) → list_all is_attr attrs ≡ true → are_pieces (tuple_pieces attrs) [] ≡ true
pieces_fit [] h = refl
pieces_fit (a ∷ []) h = and_from (is_word (attr_parts a) []) true (attr_fits a [] (and_parts (is_attr a) true h).0 refl) refl
pieces_fit (a ∷ b ∷ attrs) h =
    let both = and_parts (is_attr a) (list_all is_attr (b ∷ attrs)) h in
    let rest = 32 ∷ pieces_text (tuple_pieces (b ∷ attrs)) ++ [] in
    and_from (is_word (attr_parts a) rest) (are_pieces (Gap 32 ∷ tuple_pieces (b ∷ attrs)) []) (attr_fits a rest both.0 refl) (pieces_fit (b ∷ attrs) both.1)

pieces_mean : (attrs : List Attr) → list_all is_attr attrs ≡ true → attrs_of (tuple_pieces attrs) ≡ attrs
pieces_mean [] h = refl
pieces_mean (a ∷ []) h = ap (λ (x : Attr). x ∷ []) (attr_again a (and_parts (is_attr a) true h).0)
pieces_mean (a ∷ b ∷ attrs) h =
    let both = and_parts (is_attr a) (list_all is_attr (b ∷ attrs)) h in
    ap (λ (x : Attr). x ∷ attrs_of (tuple_pieces (b ∷ attrs))) (attr_again a both.0) ∙ ap (λ (xs : List Attr). a ∷ xs) (pieces_mean (b ∷ attrs) both.1)

-- ---- the text of a tuple is a line

join_line : (xs : List ℕ) (b : ℕ) (ys : List ℕ) → b < 128 → is_line_byte b ≡ true → is_line xs ≡ true → is_line ys ≡ true → is_line (xs ++ b ∷ ys) ≡ true
join_line xs b ys low byte front back =
    let x = and_parts (list_all is_line_byte xs) (is_utf8 xs) front in
    let y = and_parts (list_all is_line_byte ys) (is_utf8 ys) back in
    and_from (list_all is_line_byte (xs ++ b ∷ ys)) (is_utf8 (xs ++ b ∷ ys))
    (list_all-append is_line_byte xs (b ∷ ys) ∙ and_from (list_all is_line_byte xs) (list_all is_line_byte (b ∷ ys)) x.0 (and_from (is_line_byte b) (list_all is_line_byte ys) byte y.0))
    (is_utf8-from_IsUtf8 (xs ++ b ∷ ys) (with_ascii xs b ys low (IsUtf8-from_is_utf8 xs x.1) (IsUtf8-from_is_utf8 ys y.1)))

text_line : (bytes : List ℕ) → list_all is_line_byte bytes ≡ true → is_text bytes ≡ true → is_line bytes ≡ true
unfolding is_text
text_line bytes plain text = and_from (list_all is_line_byte bytes) (is_utf8 bytes) plain (and_parts (not (list_any (λ b. eqb b 0) bytes)) (is_utf8 bytes) text).1

doubled_text : (p bytes : List ℕ) → IsUtf8 (p ++ bytes) → IsUtf8 (p ++ quoted_bytes bytes)
doubled_text p [] u = u
doubled_text p (b ∷ bytes) u =
    elim (cases_Bool (eqb b 39)) [
      | inl quote ↦
          (let is = eqb-true b 39 quote in
          let v : IsUtf8 (p ++ 39 ∷ bytes) = subst (λ (x : ℕ). IsUtf8 (p ++ x ∷ bytes)) is u in
          let more : IsUtf8 (p ++ 39 ∷ 39 ∷ bytes) = subst IsUtf8 (append_assoc p (39 ∷ []) (39 ∷ bytes)) (with_ascii (p ++ 39 ∷ []) 39 bytes (omega arith) (with_ascii p 39 [] (omega arith) (before_ascii p 39 bytes (omega arith) v) IsUtf8-nil) (behind_ascii p 39 bytes (omega arith) v)) in
          let rest = doubled_text (p ++ 39 ∷ 39 ∷ []) bytes (subst IsUtf8 (sym (append_assoc p (39 ∷ 39 ∷ []) bytes)) more) in
          let done : IsUtf8 (p ++ quoted_bytes (39 ∷ bytes)) = subst IsUtf8 (append_assoc p (39 ∷ 39 ∷ []) (quoted_bytes bytes)) rest in
          subst (λ (x : ℕ). IsUtf8 (p ++ quoted_bytes (x ∷ bytes))) (sym is) done)
      | inr plain ↦
          (let is : quoted_byte b ≡ b ∷ [] = rw plain refl in
          let rest = doubled_text (p ++ b ∷ []) bytes (subst IsUtf8 (sym (append_assoc p (b ∷ []) bytes)) u) in
          subst (λ (x : List ℕ). IsUtf8 (p ++ (x ++ quoted_bytes bytes))) (sym is) (subst IsUtf8 (append_assoc p (b ∷ []) (quoted_bytes bytes)) rest))
    ]

doubled_bytes : (bytes : List ℕ) → list_all is_line_byte bytes ≡ true → list_all is_line_byte (quoted_bytes bytes) ≡ true
doubled_bytes [] h = refl
doubled_bytes (b ∷ bytes) h =
    let both = and_parts (is_line_byte b) (list_all is_line_byte bytes) h in
    let rest = doubled_bytes bytes both.1 in
    elim (cases_Bool (eqb b 39)) [
      | inl quote ↦ (let is : quoted_byte b ≡ 39 ∷ b ∷ [] = rw quote (ap (λ (x : ℕ). 39 ∷ x ∷ []) (sym (eqb-true b 39 quote))) in subst (λ (x : List ℕ). list_all is_line_byte (x ++ quoted_bytes bytes) ≡ true) (sym is) (and_from (is_line_byte b) (list_all is_line_byte (quoted_bytes bytes)) both.0 rest))
      | inr plain ↦ (let is : quoted_byte b ≡ b ∷ [] = rw plain refl in subst (λ (x : List ℕ). list_all is_line_byte (x ++ quoted_bytes bytes) ≡ true) (sym is) (and_from (is_line_byte b) (list_all is_line_byte (quoted_bytes bytes)) both.0 rest))
    ]

doubled_line : (bytes : List ℕ) → is_line bytes ≡ true → is_line (quoted_bytes bytes) ≡ true
doubled_line bytes h =
    let both = and_parts (list_all is_line_byte bytes) (is_utf8 bytes) h in
    and_from (list_all is_line_byte (quoted_bytes bytes)) (is_utf8 (quoted_bytes bytes)) (doubled_bytes bytes both.0)
    (is_utf8-from_IsUtf8 (quoted_bytes bytes) (doubled_text [] bytes (IsUtf8-from_is_utf8 bytes both.1)))

nil_line : is_line [] ≡ true
nil_line = is_utf8-from_IsUtf8 [] IsUtf8-nil

quoted_line : (bytes : List ℕ) → is_line bytes ≡ true → is_line (quoted bytes) ≡ true
quoted_line bytes h = join_line [] 39 (quoted_bytes bytes ++ 39 ∷ []) (omega arith) refl nil_line (join_line (quoted_bytes bytes) 39 [] (omega arith) refl (doubled_line bytes h) nil_line)

value_line : (text : List ℕ) (t : Bool) → is_line text ≡ true → is_line (cond t (quoted text) text) ≡ true
value_line text true h = quoted_line text h
value_line text false h = h

attr_line_of : (name : List ℕ) (value : Value) → is_line name ≡ true → is_value value ≡ true → is_line (name ++ ending_text value) ≡ true
attr_line_of name (Is text) n v =
    let both = and_parts (list_all is_line_byte text) (is_text text) v in
    join_line name 61 (value_text text) (omega arith) refl n (value_line text (needs_quotes text) (text_line text both.0 both.1))
attr_line_of name Ask n v = join_line name 63 [] (omega arith) refl n nil_line
attr_line_of name Bare n v = ap is_line (append-nil name) ∙ n

attr_line_is : (a : Attr) → is_attr a ≡ true → is_line (attr_text a) ≡ true
attr_line_is a h =
    let both = and_parts (is_name a.name) (is_value a.value) h in
    let name = name_is a.name both.0 in
    attr_line_of a.name a.value (text_line a.name (name_line_bytes a.name name.bytes) name.text) both.1

tuple_line : (attrs : List Attr) → list_all is_attr attrs ≡ true → is_line (join_with_byte 32 (map attr_text attrs)) ≡ true
tuple_line [] h = nil_line
tuple_line (a ∷ []) h = attr_line_is a (and_parts (is_attr a) true h).0
tuple_line (a ∷ b ∷ attrs) h =
    let both = and_parts (is_attr a) (list_all is_attr (b ∷ attrs)) h in
    join_line (attr_text a) 32 (join_with_byte 32 (map attr_text (b ∷ attrs))) (omega arith) refl (attr_line_is a both.0) (tuple_line (b ∷ attrs) both.1)

pub printed_read : (attrs : List Attr) → is_tuple attrs ≡ true → tuple_of (printed_text attrs) ≡ Ok attrs
unfolding printed_text
printed_read attrs h =
    let all = (and_parts (leb (length attrs) 36) (list_all is_attr attrs) h).1 in
    let text = join_with_byte 32 (map attr_text attrs) in
    reads_written text attrs (record {
      pieces = tuple_pieces attrs;
      line = tuple_line attrs all;
      whole = sym (pieces_written attrs);
      apart = pieces_fit attrs all;
      means = sym (pieces_mean attrs all);
      valid = h;
    })
