-- A text that is made of pieces is read as what they say, and refused where what stands behind them is no word.
use Rattle.std.proofs.Common.{◌≡◌, ℕ, zero, suc, ◌+◌, ◌-◌, ◌<◌, List, [], ◌∷◌, ◌++◌, Bool, true, false, not, ◌&&◌, eqb, leb, ltb, cond, length, drop, Result, Ok, Err, refl, sym, ap, ◌∙◌, arith, append_assoc, length-append}
use Rattle.std.specs.List.{list_all}
use Rattle.std.proofs.lemmas.Bool.{and_parts, not-true, leb-true, eq-eqb, ne_eqb}
use Rattle.std.proofs.lemmas.List.{append-nil, drop-drop}
use Rattle.attr_tuples.specs.Lines.{is_line, line_len}
use Rattle.attr_tuples.specs.Words.{Part, Cut, IsWord, is_gap, ends_unquoted, word_text, word_bytes, are_parts, ends_word, first_word, gap_len}
use Rattle.attr_tuples.specs.Words.Part.{Plain, Quoted}
use Rattle.attr_tuples.proofs.PartLemmas.{plain_parts, word_written, open_written}
use Rattle.attr_tuples.proofs.LineLemmas.{len_from_line}
use Rattle.attr_tuples.specs.declared.attr.Attr.{Attr}
use Rattle.attr_tuples.specs.declared.fault.TupleFault.{TupleFault}
use Rattle.attr_tuples.specs.declared.fault.TupleFault.TheVariants.{NotText, Quote, Name, TooMany, NoMemory}
use Rattle.attr_tuples.specs.Attributes.{is_name, is_value, is_attr, is_tuple}
use Rattle.attr_tuples.specs.Grammar.{attr_of, Piece, pieces_text, is_word, are_pieces, attrs_of, Reads, Reaches, Refuses, put_first, taken, words_at, words_from, tuple_of}
use Rattle.attr_tuples.specs.Grammar.Piece.{Gap, Word}
use Rattle.attr_tuples.specs.Steps.{put_all}
use Rattle.attr_tuples.proofs.ParseLemmas.{put_none, words_over}

pub put_first_all : (a : Attr) (attrs : List Attr) (r : Result (List Attr) TupleFault) → put_first a (put_all attrs r) ≡ put_all (a ∷ attrs) r
put_first_all a attrs (Ok others) = refl
put_first_all a attrs (Err fault) = refl

-- ---- one piece

pub gap_step : (n at b : ℕ) (text : List ℕ) → is_gap b ≡ true → words_from n at (b ∷ text) ≡ words_from n (at + 1) text
unfolding words_from gap_len
gap_step n at b text gap =
    let e : gap_len (b ∷ text) ≡ 1 + gap_len text = rw gap refl in
    let cut : drop (1 + gap_len text) (b ∷ text) ≡ drop (gap_len text) text = sym (drop-drop (gap_len text) 1 (b ∷ text)) in
    let place : at + (1 + gap_len text) ≡ at + 1 + gap_len text = omega arith in
    ap (λ (g : ℕ). words_at n (at + g) (drop g (b ∷ text))) e
    ∙ ap (λ (rest : List ℕ). words_at n (at + (1 + gap_len text)) rest) cut
    ∙ ap (λ (m : ℕ). words_at n m (drop (gap_len text) text)) place

pub word_start : (n at : ℕ) (text : List ℕ) → ends_word text ≡ false → words_from n at text ≡ words_at n at text
unfolding words_from gap_len
word_start n at [] h = absurd cc
word_start n at (b ∷ text) h =
    let e : gap_len (b ∷ text) ≡ 0 = rw h refl in
    let place : at + 0 ≡ at = omega arith in
    ap (λ (g : ℕ). words_at n (at + g) (drop g (b ∷ text))) e ∙ ap (λ (m : ℕ). words_at n m (b ∷ text)) place

pub end_start : (n at : ℕ) → words_from n at [] ≡ Ok []
unfolding words_from gap_len
end_start n at = words_over n (at + 0)

pub word_step : (n at : ℕ) (text : List ℕ) (cut : Cut) → ends_word text ≡ false → first_word at text ≡ Ok cut → is_name (attr_of cut.bytes).name ≡ true → words_from (suc n) at text ≡ put_first (attr_of cut.bytes) (words_from n cut.end cut.behind)
unfolding words_from
word_step n at [] cut h e good = absurd cc
word_step n at (b ∷ text) cut h e good =
    let others : Cut → Result (List Attr) TupleFault = λ c. words_at n (c.end + gap_len c.behind) (drop (gap_len c.behind) c.behind) in
    word_start (suc n) at (b ∷ text) h ∙ ap (λ (r : Result Cut ℕ). taken at r others) e
    ∙ ap (λ (t : Bool). cond t (put_first (attr_of cut.bytes) (others cut)) (Err (Name at))) good

pub open_step : (n at : ℕ) (text : List ℕ) (opened : ℕ) → ends_word text ≡ false → first_word at text ≡ Err opened → words_from (suc n) at text ≡ Err (Quote opened)
open_step n at [] opened h e = absurd cc
open_step n at (b ∷ text) opened h e =
    let others : Cut → Result (List Attr) TupleFault = λ c. words_at n (c.end + gap_len c.behind) (drop (gap_len c.behind) c.behind) in
    word_start (suc n) at (b ∷ text) h ∙ ap (λ (r : Result Cut ℕ). taken at r others) e

pub bad_step : (n at : ℕ) (text : List ℕ) (cut : Cut) → ends_word text ≡ false → first_word at text ≡ Ok cut → is_name (attr_of cut.bytes).name ≡ false → words_from (suc n) at text ≡ Err (Name at)
bad_step n at [] cut h e bad = absurd cc
bad_step n at (b ∷ text) cut h e bad =
    let others : Cut → Result (List Attr) TupleFault = λ c. words_at n (c.end + gap_len c.behind) (drop (gap_len c.behind) c.behind) in
    word_start (suc n) at (b ∷ text) h ∙ ap (λ (r : Result Cut ℕ). taken at r others) e
    ∙ ap (λ (t : Bool). cond t (put_first (attr_of cut.bytes) (others cut)) (Err (Name at))) bad

pub full_step : (at : ℕ) (text : List ℕ) → ends_word text ≡ false → words_from 0 at text ≡ Err TooMany
full_step at [] h = absurd cc
full_step at (b ∷ text) h = word_start 0 at (b ∷ text) h

-- ---- pieces

pub word_begins : (parts : List Part) (rest : List ℕ) → is_word parts rest ≡ true → ends_word (word_text parts ++ rest) ≡ false
word_begins [] rest h = absurd cc
word_begins (Plain b ∷ parts) rest h =
    let more = and_parts (ltb 0 (length (Plain b ∷ parts))) (are_parts (Plain b ∷ parts) rest && ends_word rest) h in
    let apart = and_parts (are_parts (Plain b ∷ parts) rest) (ends_word rest) more.1 in
    let plain = and_parts (not (ends_unquoted b)) (are_parts parts rest) apart.0 in
    (plain_parts b (not-true (ends_unquoted b) plain.0)).0
word_begins (Quoted bytes ∷ parts) rest h = refl

pub word_is : (at : ℕ) (parts : List Part) (rest : List ℕ) → is_word parts rest ≡ true → IsWord at (word_text parts ++ rest) (record { bytes = word_bytes parts; end = at + length (word_text parts); behind = rest })
word_is at parts rest h =
    let more = and_parts (ltb 0 (length parts)) (are_parts parts rest && ends_word rest) h in
    let apart = and_parts (are_parts parts rest) (ends_word rest) more.1 in
    record { parts = parts; whole = refl; apart = apart.0; ends = apart.1; means = refl; reach = refl }

pub front : (pieces : List Piece) (rest : List ℕ) (n left at : ℕ) → are_pieces pieces rest ≡ true → list_all is_attr (attrs_of pieces) ≡ true → n ≡ length (attrs_of pieces) + left →
    words_from n at (pieces_text pieces ++ rest) ≡ put_all (attrs_of pieces) (words_from left (at + length (pieces_text pieces)) rest)
front [] rest n left at h good count =
    let e : n ≡ left = omega (arith, count) in
    let place : at ≡ at + 0 = omega arith in
    ap (λ (m : ℕ). words_from m at rest) e ∙ ap (λ (m : ℕ). words_from left m rest) place ∙ sym (put_none (words_from left (at + 0) rest))
front (Gap b ∷ pieces) rest n left at h good count =
    let both = and_parts (is_gap b) (are_pieces pieces rest) h in
    let place : at + 1 + length (pieces_text pieces) ≡ at + length (b ∷ pieces_text pieces) = omega arith in
    gap_step n at b (pieces_text pieces ++ rest) both.0 ∙ front pieces rest n left (at + 1) both.1 good count
    ∙ ap (λ (m : ℕ). put_all (attrs_of pieces) (words_from left m rest)) place
front (Word parts ∷ pieces) rest zero left at h good count = absurd (omega (arith, count))
front (Word parts ∷ pieces) rest (suc n) left at h good count =
    let behind = pieces_text pieces ++ rest in
    let both = and_parts (is_word parts behind) (are_pieces pieces rest) h in
    let a = attr_of (word_bytes parts) in
    let all = and_parts (is_attr a) (list_all is_attr (attrs_of pieces)) good in
    let name = and_parts (is_name a.name) (is_value a.value) all.0 in
    let end = at + length (word_text parts) in
    let cut : Cut = record { bytes = word_bytes parts; end = end; behind = behind } in
    let fewer : n ≡ length (attrs_of pieces) + left = omega (arith, count) in
    let place : end + length (pieces_text pieces) ≡ at + length (word_text parts ++ pieces_text pieces) = omega (arith, length-append (word_text parts) (pieces_text pieces)) in
    ap (words_from (suc n) at) (append_assoc (word_text parts) (pieces_text pieces) rest)
    ∙ word_step n at (word_text parts ++ behind) cut (word_begins parts behind both.0) (word_written at (word_text parts ++ behind) cut (word_is at parts behind both.0)) name.0
    ∙ ap (put_first a) (front pieces rest n left end both.1 all.1 fewer)
    ∙ put_first_all a (attrs_of pieces) (words_from left (end + length (pieces_text pieces)) rest)
    ∙ ap (λ (m : ℕ). put_all (a ∷ attrs_of pieces) (words_from left m rest)) place

-- ---- whole texts

line_read : (text : List ℕ) → is_line text ≡ true → tuple_of text ≡ words_from 36 0 text
unfolding tuple_of
line_read text h =
    let test : eqb (line_len text) (length text) ≡ true = eq-eqb (line_len text) (length text) (len_from_line text h) in
    ap (λ (t : Bool). cond t (words_from 36 0 text) (Err (NotText (line_len text)))) test

pub reads_written : (text : List ℕ) (attrs : List Attr) → Reads text attrs → tuple_of text ≡ Ok attrs
reads_written text attrs r =
    let valid : is_tuple (attrs_of r.pieces) ≡ true = ap is_tuple (sym r.means) ∙ r.valid in
    let parts = and_parts (leb (length (attrs_of r.pieces)) 36) (list_all is_attr (attrs_of r.pieces)) valid in
    let few = leb-true (length (attrs_of r.pieces)) 36 parts.0 in
    let left = 36 - length (attrs_of r.pieces) in
    let count : 36 ≡ length (attrs_of r.pieces) + left = omega arith in
    line_read text r.line ∙ ap (words_from 36 0) (r.whole ∙ sym (append-nil (pieces_text r.pieces)))
    ∙ front r.pieces [] 36 left 0 r.apart parts.1 count
    ∙ ap (put_all (attrs_of r.pieces)) (end_start left (0 + length (pieces_text r.pieces)))
    ∙ ap Ok (append-nil (attrs_of r.pieces) ∙ sym r.means)

reached : (text : List ℕ) (at : ℕ) (rest : List ℕ) (attrs : List Attr) (left : ℕ) → Reaches text at rest attrs → 36 ≡ length attrs + left → tuple_of text ≡ put_all attrs (words_from left at rest)
reached text at rest attrs left r count =
    let valid : is_tuple (attrs_of r.pieces) ≡ true = ap is_tuple (sym r.means) ∙ r.valid in
    let parts = and_parts (leb (length (attrs_of r.pieces)) 36) (list_all is_attr (attrs_of r.pieces)) valid in
    let place : 0 + length (pieces_text r.pieces) ≡ at = omega (arith, r.reach) in
    line_read text r.line ∙ ap (words_from 36 0) r.whole
    ∙ front r.pieces rest 36 left 0 r.apart parts.1 (count ∙ ap (λ (xs : List Attr). length xs + left) r.means)
    ∙ ap (λ (m : ℕ). put_all (attrs_of r.pieces) (words_from left m rest)) place
    ∙ ap (λ (xs : List Attr). put_all xs (words_from left at rest)) (sym r.means)

one_left : (k : ℕ) → k < 36 → (m : ℕ) × (36 ≡ k + suc m)
one_left k few = (36 - k - 1, omega arith)

pub refuses_written : (text : List ℕ) (fault : TupleFault) → Refuses text fault → tuple_of text ≡ Err fault
unfolding tuple_of
refuses_written text (NotText at) h =
    let test : eqb (line_len text) (length text) ≡ false = ne_eqb (line_len text) (length text) (λ e. omega (arith, h.0, h.1, e)) in
    ap (λ (t : Bool). cond t (words_from 36 0 text) (Err (NotText (line_len text)))) test ∙ ap (λ (n : ℕ). Err (NotText n)) (sym h.0)
refuses_written text (Quote at) h =
    let one = one_left (length h.attrs) h.few in
    reached text h.begin h.rest h.attrs (suc one.0) h.reaches one.1
    ∙ ap (put_all h.attrs) (open_step one.0 h.begin h.rest at h.reaches.begins (open_written h.begin h.rest at h.word))
refuses_written text (Name at) h =
    let one = one_left (length h.attrs) h.few in
    reached text at h.rest h.attrs (suc one.0) h.reaches one.1
    ∙ ap (put_all h.attrs) (bad_step one.0 at h.rest h.cut h.reaches.begins (word_written at h.rest h.cut h.word) h.bad)
refuses_written text TooMany h =
    let count : 36 ≡ length h.attrs + 0 = omega (arith, h.many) in
    reached text h.begin h.rest h.attrs 0 h.reaches count ∙ ap (put_all h.attrs) (full_step h.begin h.rest h.reaches.begins)
refuses_written text NoMemory h = absurd h
