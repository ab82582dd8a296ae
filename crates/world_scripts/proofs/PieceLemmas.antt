-- Pieces are read back as they are written, and nothing else is read as them.
use Rattle.std.proofs.Common.{◌≡◌, ℕ, suc, ◌%◌, ◌<◌, List, [], ◌∷◌, ◌++◌, true, false, not, ◌&&◌, eqb, ltb, length, map, Option, Some, None, refl, sym, ap, subst, ◌∙◌, arith, inl, inr}
use Rattle.std.specs.List.{list_all, slice_split, join_with_byte, onto_first}
use Rattle.std.proofs.lemmas.Bool.{cases_Bool, and_parts, and_from, eqb-true, eq-eqb, ltb-true, lt-ltb, not-true}
use Rattle.std.proofs.lemmas.List.Splits.{slice_split-cons_yes, slice_split-cons_no, length-slice_split, join_with_byte-slice_split}
use Rattle.std.proofs.lemmas.List.Folds.{list_all-append}
use Rattle.world_scripts.specs.Pieces.{Piece, Spelled, Whole, Part, are_pairs, are_pieces, field, is_decimal_digit, is_digit, is_number, is_piece, piece_text, pieces_text}
use Rattle.world_scripts.specs.Reading.{cut_at, each_piece, message_in, message_of, number_of, pairs_of, part_of, piece_of, pieces_of}
use Rattle.world_scripts.proofs.CutLemmas.{lacks, lacks_by, cut_again, cut_none, cut_parts}
use Rattle.world_scripts.proofs.ReadLemmas.{bind_parts, if_parts, map_parts, some_parts}

-- ---- a piece that was read

-- what a text in front of a piece's own is
abbrev Reads : List ℕ → Piece → Type 0
Reads text piece = (text ≡ piece_text piece) × (is_piece piece ≡ true)

number_parts : (text digits : List ℕ) → number_of text ≡ Some digits → (text ≡ digits) × (is_number digits ≡ true)
number_parts text digits h =
    let found = if_parts (is_number text) text digits h in
    (found.1, ap is_number (sym found.1) ∙ found.0)

part_written : (front rest a b message start len : List ℕ) → front ≡ message → rest ≡ a ++ 58 ∷ b → a ≡ start → b ≡ len → 109 ∷ (front ++ 58 ∷ rest) ≡ piece_text (Part message start len)
part_written front rest a b message start len one whole two three = rw (one, whole, two, three) refl

part_parts : (front rest : List ℕ) (piece : Piece) → part_of front rest ≡ Some piece → Reads (109 ∷ (front ++ 58 ∷ rest)) piece
part_parts front rest piece h =
    let first = bind_parts (number_of front) _ piece h in
    let behind = bind_parts (cut_at 58 rest) _ piece first.2 in
    let second = bind_parts (number_of behind.0.0) _ piece behind.2 in
    let third = bind_parts (number_of behind.0.1) _ piece second.2 in
    let same : Part first.0 second.0 third.0 ≡ piece = some_parts _ _ third.2 in
    let message = number_parts front first.0 first.1 in
    let whole = cut_parts 58 rest behind.0 behind.1 in
    let start = number_parts behind.0.0 second.0 second.1 in
    let len = number_parts behind.0.1 third.0 third.1 in
    let text : 109 ∷ (front ++ 58 ∷ rest) ≡ piece_text (Part first.0 second.0 third.0) =
    part_written front rest behind.0.0 behind.0.1 first.0 second.0 third.0 message.0 whole start.0 len.0 in
    let formed : is_piece (Part first.0 second.0 third.0) ≡ true =
    and_from (is_number first.0) _ message.1 (and_from (is_number second.0) (is_number third.0) start.1 len.1) in
    subst (Reads (109 ∷ (front ++ 58 ∷ rest))) same (text, formed)

message_in_parts : (text : List ℕ) (cut : Option (List ℕ × List ℕ)) (piece : Piece) → cut_at 58 text ≡ cut → message_in text cut ≡ Some piece → Reads (109 ∷ text) piece
message_in_parts text None piece e h =
    let found = map_parts Whole (number_of text) piece h in
    let message = number_parts text found.0 found.1 in
    subst (Reads (109 ∷ text)) found.2 (ap (λ (t : List ℕ). 109 ∷ t) message.0, message.1)
message_in_parts text (Some cut) piece e h =
    let whole = cut_parts 58 text cut e in
    rw whole (part_parts cut.0 cut.1 piece h)

piece_parts : (text : List ℕ) (piece : Piece) → piece_of text ≡ Some piece → Reads text piece
piece_parts [] piece h = absurd (let s : None ≡ Some piece = h in cc)
piece_parts (b ∷ text) piece h = elim (cases_Bool (eqb b 120)) [
  | inl t ↦ (
      let read : pairs_of text ≡ Some piece = rw t at h in
      let found = if_parts (are_pairs text) (Spelled text) piece read in
      subst (Reads (b ∷ text)) found.1 (ap (λ (x : ℕ). x ∷ text) (eqb-true b 120 t), found.0))
  | inr f ↦ elim (cases_Bool (eqb b 109)) [
    | inl t ↦ (
        let read : message_of text ≡ Some piece = rw (f, t) at h in
        let m : b ≡ 109 = eqb-true b 109 t in
        rw m (message_in_parts text (cut_at 58 text) piece refl read))
    | inr g ↦ absurd (let s : None ≡ Some piece = rw (f, g) at h in cc)
  ]
]

record EachReads (texts : List (List ℕ)) (pieces : List Piece) : Type 0 where
  written : texts ≡ map piece_text pieces
  formed : list_all is_piece pieces ≡ true
  many : length texts ≡ length pieces

more_written : (text : List ℕ) (texts : List (List ℕ)) (piece : Piece) (pieces : List Piece) → text ≡ piece_text piece → texts ≡ map piece_text pieces → text ∷ texts ≡ map piece_text (piece ∷ pieces)
more_written text texts piece pieces one more = rw (one, more) refl

each_parts : (texts : List (List ℕ)) (pieces : List Piece) → each_piece texts ≡ Some pieces → EachReads texts pieces
each_parts [] pieces h = subst (EachReads []) (some_parts [] pieces h) (record { written = refl; formed = refl; many = refl })
each_parts (text ∷ texts) pieces h =
    let first = bind_parts (piece_of text) _ pieces h in
    let others = bind_parts (each_piece texts) _ pieces first.2 in
    let same : first.0 ∷ others.0 ≡ pieces = some_parts _ _ others.2 in
    let one = piece_parts text first.0 first.1 in
    let more = each_parts texts others.0 others.1 in
    let many = more.many in
    subst (EachReads (text ∷ texts)) same (record {
      written = more_written text texts first.0 others.0 one.0 more.written;
      formed = and_from (is_piece first.0) (list_all is_piece others.0) one.1 more.formed;
      many = ap (λ (n : ℕ). suc n) many;
    })

pub pieces_parts : (text : List ℕ) (pieces : List Piece) → pieces_of text ≡ Some pieces → (text ≡ pieces_text pieces) × (are_pieces pieces ≡ true)
pieces_parts text pieces h =
    let all = each_parts (slice_split (λ b. eqb b 43) text) pieces h in
    let many = all.many in
    let count = length-slice_split (λ b. eqb b 43) text in
    let some : ltb 0 (length pieces) ≡ true = lt-ltb 0 (length pieces) (omega (arith, many, count)) in
    (sym (join_with_byte-slice_split 43 text) ∙ ap (join_with_byte 43) all.written, and_from (ltb 0 (length pieces)) (list_all is_piece pieces) some all.formed)

-- ---- a piece that is written

-- a byte that no piece holds
record IsApart (c : ℕ) : Type 0 where
  digit : is_digit c ≡ false
  decimal : is_decimal_digit c ≡ false
  spelled : eqb 120 c ≡ false
  message : eqb 109 c ≡ false
  field : eqb 58 c ≡ false

plus_apart : IsApart 43
plus_apart = record { digit = refl; decimal = refl; spelled = refl; message = refl; field = refl }

blank_apart : IsApart 32
blank_apart = record { digit = refl; decimal = refl; spelled = refl; message = refl; field = refl }

pub number_lacks : (c : ℕ) (digits : List ℕ) → is_decimal_digit c ≡ false → is_number digits ≡ true → lacks c digits ≡ true
number_lacks c digits no_c h = lacks_by is_decimal_digit c no_c digits (and_parts (ltb 0 (length digits)) (list_all is_decimal_digit digits) h).1

pub lacks_both : (c : ℕ) (xs ys : List ℕ) → lacks c xs ≡ true → lacks c ys ≡ true → lacks c (xs ++ ys) ≡ true
lacks_both c xs ys one other = list_all-append (λ b. not (eqb b c)) xs ys ∙ and_from (lacks c xs) (lacks c ys) one other

pub lacks_more : (c b : ℕ) (text : List ℕ) → eqb b c ≡ false → lacks c text ≡ true → lacks c (b ∷ text) ≡ true
lacks_more c b text other rest = rw other rest

piece_lacks : (c : ℕ) → IsApart c → (piece : Piece) → is_piece piece ≡ true → lacks c (piece_text piece) ≡ true
piece_lacks c apart (Spelled digits) h =
    let both = and_parts (eqb (length digits % 2) 0) (list_all is_digit digits) h in
    lacks_more c 120 digits apart.spelled (lacks_by is_digit c apart.digit digits both.1)
piece_lacks c apart (Whole message) h = lacks_more c 109 message apart.message (number_lacks c message apart.decimal h)
piece_lacks c apart (Part message start len) h =
    let first = and_parts (is_number message) (is_number start && is_number len) h in
    let second = and_parts (is_number start) (is_number len) first.1 in
    let part = λ (n : List ℕ) (s : is_number n ≡ true). lacks_more c 58 n apart.field (number_lacks c n apart.decimal s) in
    lacks_more c 109 _ apart.message (lacks_both c message (field start ++ field len) (number_lacks c message apart.decimal first.0) (lacks_both c (field start) (field len) (part start second.0) (part len second.1)))

piece_again : (piece : Piece) → is_piece piece ≡ true → piece_of (piece_text piece) ≡ Some piece
piece_again (Spelled digits) h = rw h refl
piece_again (Whole message) h =
    let none : cut_at 58 message ≡ None = cut_none 58 message (number_lacks 58 message refl h) in
    rw (none, h) refl
piece_again (Part message start len) h =
    let first = and_parts (is_number message) (is_number start && is_number len) h in
    let second = and_parts (is_number start) (is_number len) first.1 in
    let cut = cut_again 58 message (start ++ 58 ∷ len) (number_lacks 58 message refl first.0) in
    let behind = cut_again 58 start len (number_lacks 58 start refl second.0) in
    rw (cut, first.0, behind, second.0, second.1) refl

each_again : (pieces : List Piece) → list_all is_piece pieces ≡ true → each_piece (map piece_text pieces) ≡ Some pieces
each_again [] h = refl
each_again (piece ∷ pieces) h =
    let both = and_parts (is_piece piece) (list_all is_piece pieces) h in
    rw (piece_again piece both.0, each_again pieces both.1) refl

texts_lack : (c : ℕ) → IsApart c → (pieces : List Piece) → list_all is_piece pieces ≡ true → list_all (lacks c) (map piece_text pieces) ≡ true
texts_lack c apart [] h = refl
texts_lack c apart (piece ∷ pieces) h =
    let both = and_parts (is_piece piece) (list_all is_piece pieces) h in
    and_from (lacks c (piece_text piece)) _ (piece_lacks c apart piece both.0) (texts_lack c apart pieces both.1)

split_plain : (c : ℕ) (text : List ℕ) → lacks c text ≡ true → slice_split (λ b. eqb b c) text ≡ text ∷ []
split_plain c [] h = refl
split_plain c (b ∷ text) h =
    let both = and_parts (not (eqb b c)) (lacks c text) h in
    slice_split-cons_no (λ x. eqb x c) b text (not-true (eqb b c) both.0) ∙ ap (onto_first b) (split_plain c text both.1)

pub split_front : (c : ℕ) (text rest : List ℕ) → lacks c text ≡ true → slice_split (λ b. eqb b c) (text ++ c ∷ rest) ≡ text ∷ slice_split (λ b. eqb b c) rest
split_front c [] rest h = slice_split-cons_yes (λ x. eqb x c) c rest (eq-eqb c c refl)
split_front c (b ∷ text) rest h =
    let both = and_parts (not (eqb b c)) (lacks c text) h in
    slice_split-cons_no (λ x. eqb x c) b (text ++ c ∷ rest) (not-true (eqb b c) both.0) ∙ ap (onto_first b) (split_front c text rest both.1)

split_joined : (c : ℕ) (texts : List (List ℕ)) → 0 < length texts → list_all (lacks c) texts ≡ true → slice_split (λ b. eqb b c) (join_with_byte c texts) ≡ texts
split_joined c [] some h = absurd (omega (arith, some))
split_joined c (text ∷ []) some h = split_plain c text (and_parts (lacks c text) true h).0
split_joined c (text ∷ next ∷ texts) some h =
    let both = and_parts (lacks c text) (list_all (lacks c) (next ∷ texts)) h in
    split_front c text (join_with_byte c (next ∷ texts)) both.0 ∙ ap (λ (ts : List (List ℕ)). text ∷ ts) (split_joined c (next ∷ texts) (omega arith) both.1)

length_texts : (pieces : List Piece) → length (map piece_text pieces) ≡ length pieces
length_texts [] = refl
length_texts (piece ∷ pieces) = ap (λ (n : ℕ). suc n) (length_texts pieces)

pub pieces_again : (pieces : List Piece) → are_pieces pieces ≡ true → pieces_of (pieces_text pieces) ≡ Some pieces
pieces_again pieces h =
    let both = and_parts (ltb 0 (length pieces)) (list_all is_piece pieces) h in
    let some = ltb-true 0 (length pieces) both.0 in
    let many = length_texts pieces in
    ap each_piece (split_joined 43 (map piece_text pieces) (omega (arith, some, many)) (texts_lack 43 plus_apart pieces both.1)) ∙ each_again pieces both.1

joined_lack : (c : ℕ) → eqb 43 c ≡ false → (texts : List (List ℕ)) → list_all (lacks c) texts ≡ true → lacks c (join_with_byte 43 texts) ≡ true
joined_lack c other [] h = refl
joined_lack c other (text ∷ []) h = (and_parts (lacks c text) true h).0
joined_lack c other (text ∷ next ∷ texts) h =
    let both = and_parts (lacks c text) (list_all (lacks c) (next ∷ texts)) h in
    lacks_both c text (43 ∷ join_with_byte 43 (next ∷ texts)) both.0 (lacks_more c 43 (join_with_byte 43 (next ∷ texts)) other (joined_lack c other (next ∷ texts) both.1))

pub pieces_unbroken : (pieces : List Piece) → are_pieces pieces ≡ true → lacks 32 (pieces_text pieces) ≡ true
pieces_unbroken pieces h =
    let both = and_parts (ltb 0 (length pieces)) (list_all is_piece pieces) h in
    joined_lack 32 refl (map piece_text pieces) (texts_lack 32 blank_apart pieces both.1)
