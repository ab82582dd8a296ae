-- What is read of a text is written in pieces: they are read off the text word by word.
use Rattle.std.proofs.Common.{◌≡◌, ◌⊎◌, ℕ, zero, suc, ◌+◌, ◌<◌, ◌≤◌, List, [], ◌∷◌, ◌++◌, Bool, true, false, ◌&&◌, eqb, leb, ltb, cond, length, drop, Result, Ok, Err, refl, sym, ap, subst, ◌∙◌, inl, inr, arith, append_assoc, length-append}
use Rattle.std.specs.List.{list_all}
use Rattle.std.proofs.lemmas.Bool.{cases_Bool, and_parts, and_from, le-leb, lt-ltb, eqb-true, eqb-false}
use Rattle.std.proofs.lemmas.List.{append-nil, drop-drop}
use Rattle.attr_tuples.specs.Lines.{is_line, line_len}
use Rattle.attr_tuples.specs.Words.{Part, Cut, is_gap, word_text, word_bytes, are_parts, ends_word, first_word, gap_len}
use Rattle.attr_tuples.proofs.PartLemmas.{word_written}
use Rattle.attr_tuples.proofs.SayLemmas.{word_read, open_read}
use Rattle.attr_tuples.proofs.LineLemmas.{line_from_len, line_len_le, word_line}
use Rattle.attr_tuples.specs.declared.attr.Attr.{Attr}
use Rattle.attr_tuples.specs.declared.fault.TupleFault.{TupleFault}
use Rattle.attr_tuples.specs.declared.fault.TupleFault.TheVariants.{NotText, Quote, Name, TooMany}
use Rattle.attr_tuples.specs.Attributes.{is_name, is_value, is_attr, is_tuple}
use Rattle.attr_tuples.specs.Grammar.{attr_of, Piece, pieces_text, is_word, are_pieces, attrs_of, Reads, Reaches, HasOpenQuote, HasBadName, HasTooMany, Refuses, put_first, taken, words_at, words_from, tuple_of}
use Rattle.attr_tuples.specs.Grammar.Piece.{Gap, Word}
use Rattle.attr_tuples.specs.Steps.{put_all}
use Rattle.attr_tuples.proofs.AttrLemmas.{split_line, gap_low, value_text_is}
use Rattle.attr_tuples.proofs.ParseLemmas.{put_none}
use Rattle.attr_tuples.proofs.GrammarLemmas.{put_first_all, word_is}

-- how reading stops: at the end, at a 37th word, at a quote that isn't closed, at a name that is none
abbrev pub Ended : List ℕ → Result (List Attr) TupleFault → Type 0
Ended rest stop = (rest ≡ []) × (stop ≡ Ok [])

abbrev pub IsFull : ℕ → List ℕ → Result (List Attr) TupleFault → Type 0
IsFull left rest stop = (ends_word rest ≡ false) × (left ≡ 0) × (stop ≡ Err TooMany)

abbrev pub IsOpenAt : ℕ → ℕ → List ℕ → Result (List Attr) TupleFault → Type 0
IsOpenAt left place rest stop = (opened : ℕ) × (ends_word rest ≡ false) × (1 ≤ left) × (first_word place rest ≡ Err opened) × (stop ≡ Err (Quote opened))

abbrev pub IsBadAt : ℕ → ℕ → List ℕ → Result (List Attr) TupleFault → Type 0
IsBadAt left place rest stop = (cut : Cut) × (ends_word rest ≡ false) × (1 ≤ left) × (first_word place rest ≡ Ok cut) × (is_name (attr_of cut.bytes).name ≡ false) × (stop ≡ Err (Name place))

abbrev pub Stops : ℕ → ℕ → List ℕ → Result (List Attr) TupleFault → Type 0
Stops left place rest stop = Ended rest stop ⊎ (IsFull left rest stop ⊎ (IsOpenAt left place rest stop ⊎ IsBadAt left place rest stop))

abbrev pub is_named_well : Attr → Bool
is_named_well a = is_name a.name

pub record Told (n at : ℕ) (text : List ℕ) (r : Result (List Attr) TupleFault) : Type 0 where
  pub pieces : List Piece
  pub rest : List ℕ
  pub place : ℕ
  pub left : ℕ
  pub stop : Result (List Attr) TupleFault
  pub whole : text ≡ pieces_text pieces ++ rest
  pub apart : are_pieces pieces rest ≡ true
  pub named : list_all is_named_well (attrs_of pieces) ≡ true
  pub reach : place ≡ at + length (pieces_text pieces)
  pub count : n ≡ length (attrs_of pieces) + left
  pub gives : r ≡ put_all (attrs_of pieces) stop
  pub stops : Stops left place rest stop

told_here : (n at : ℕ) (text : List ℕ) (r : Result (List Attr) TupleFault) → Stops n at text r → Told n at text r
told_here n at text r h =
    record { pieces = []; rest = text; place = at; left = n; stop = r; whole = refl; apart = refl; named = refl; reach = omega arith; count = omega arith; gives = sym (put_none r); stops = h }

told_gap : (n at b : ℕ) (text : List ℕ) (r : Result (List Attr) TupleFault) → is_gap b ≡ true → Told n (at + 1) text r → Told n at (b ∷ text) r
told_gap n at b text r gap t =
    record {
      pieces = Gap b ∷ t.pieces;
      rest = t.rest;
      place = t.place;
      left = t.left;
      stop = t.stop;
      whole = ap (λ (x : List ℕ). b ∷ x) t.whole;
      apart = and_from (is_gap b) (are_pieces t.pieces t.rest) gap t.apart;
      named = t.named;
      reach = omega (arith, t.reach);
      count = t.count;
      gives = t.gives;
      stops = t.stops;
    }

some_parts : (parts : List Part) (text behind : List ℕ) → text ≡ word_text parts ++ behind → ends_word behind ≡ true → ends_word text ≡ false → ltb 0 (length parts) ≡ true
some_parts [] text behind e ends begins = absurd (let f : ends_word text ≡ true = ap ends_word e ∙ ends in (cc))
some_parts (part ∷ parts) text behind e ends begins = lt-ltb 0 (length (part ∷ parts)) (omega arith)

told_word : (n at : ℕ) (text : List ℕ) (cut : Cut) (r : Result (List Attr) TupleFault) → ends_word text ≡ false → first_word at text ≡ Ok cut → is_name (attr_of cut.bytes).name ≡ true →
    Told n cut.end cut.behind r → Told (suc n) at text (put_first (attr_of cut.bytes) r)
told_word n at text cut r begins e good t =
    let w = word_read at text cut e in
    let rest = pieces_text t.pieces ++ t.rest in
    let some = some_parts w.parts text cut.behind w.whole w.ends begins in
    let parts_fit : are_parts w.parts rest ≡ true = ap (are_parts w.parts) (sym t.whole) ∙ w.apart in
    let ends : ends_word rest ≡ true = ap ends_word (sym t.whole) ∙ w.ends in
    let a_is : attr_of cut.bytes ≡ attr_of (word_bytes w.parts) = ap attr_of w.means in
    record {
      pieces = Word w.parts ∷ t.pieces;
      rest = t.rest;
      place = t.place;
      left = t.left;
      stop = t.stop;
      whole = w.whole ∙ ap (λ (x : List ℕ). word_text w.parts ++ x) t.whole ∙ sym (append_assoc (word_text w.parts) (pieces_text t.pieces) t.rest);
      apart = and_from (is_word w.parts rest) (are_pieces t.pieces t.rest) (and_from (ltb 0 (length w.parts)) (are_parts w.parts rest && ends_word rest) some (and_from (are_parts w.parts rest) (ends_word rest) parts_fit ends)) t.apart;
      named = and_from (is_named_well (attr_of (word_bytes w.parts))) (list_all is_named_well (attrs_of t.pieces)) (ap is_named_well (sym a_is) ∙ good) t.named;
      reach = omega (arith, t.reach, w.reach, length-append (word_text w.parts) (pieces_text t.pieces));
      count = omega (arith, t.count);
      gives = ap (put_first (attr_of cut.bytes)) t.gives ∙ put_first_all (attr_of cut.bytes) (attrs_of t.pieces) t.stop ∙ ap (λ (a : Attr). put_all (a ∷ attrs_of t.pieces) t.stop) a_is;
      stops = t.stops;
    }

told_gaps : (n at : ℕ) (text : List ℕ) (r : Result (List Attr) TupleFault) → Told n (at + gap_len text) (drop (gap_len text) text) r → Told n at text r
unfolding gap_len
told_gaps n at [] r t = let e : at + 0 ≡ at = omega arith in subst (λ (m : ℕ). Told n m [] r) e t
told_gaps n at (b ∷ text) r t =
    elim (cases_Bool (is_gap b)) [
      | inl gap ↦
          (let e : gap_len (b ∷ text) ≡ 1 + gap_len text = rw gap refl in
          let place : at + (1 + gap_len text) ≡ at + 1 + gap_len text = omega arith in
          let cut : drop (1 + gap_len text) (b ∷ text) ≡ drop (gap_len text) text = sym (drop-drop (gap_len text) 1 (b ∷ text)) in
          let moved : Told n (at + (1 + gap_len text)) (drop (1 + gap_len text) (b ∷ text)) r = subst (λ (g : ℕ). Told n (at + g) (drop g (b ∷ text)) r) e t in
          let placed : Told n (at + 1 + gap_len text) (drop (1 + gap_len text) (b ∷ text)) r = subst (λ (m : ℕ). Told n m (drop (1 + gap_len text) (b ∷ text)) r) place moved in
          told_gap n at b text r gap (told_gaps n (at + 1) text r (subst (λ (x : List ℕ). Told n (at + 1 + gap_len text) x r) cut placed)))
      | inr word ↦
          (let e : gap_len (b ∷ text) ≡ 0 = rw word refl in
          let place : at + 0 ≡ at = omega arith in
          let moved : Told n (at + 0) (b ∷ text) r = subst (λ (g : ℕ). Told n (at + g) (drop g (b ∷ text)) r) e t in
          subst (λ (m : ℕ). Told n m (b ∷ text) r) place moved)
    ]

gaps_done : (text : List ℕ) → (drop (gap_len text) text ≡ []) ⊎ (ends_word (drop (gap_len text) text) ≡ false)
unfolding gap_len
gaps_done [] = inl refl
gaps_done (b ∷ text) =
    elim (cases_Bool (is_gap b)) [
      | inl gap ↦
          (let e : gap_len (b ∷ text) ≡ 1 + gap_len text = rw gap refl in
          let cut : drop (gap_len (b ∷ text)) (b ∷ text) ≡ drop (gap_len text) text = ap (λ (g : ℕ). drop g (b ∷ text)) e ∙ sym (drop-drop (gap_len text) 1 (b ∷ text)) in
          elim (gaps_done text) [ inl none ↦ inl (cut ∙ none) | inr begins ↦ inr (ap ends_word cut ∙ begins) ])
      | inr word ↦ inr (let e : gap_len (b ∷ text) ≡ 0 = rw word refl in ap (λ (g : ℕ). ends_word (drop g (b ∷ text))) e ∙ word)
    ]

told_taken : (n at : ℕ) (text : List ℕ) (others : Cut → Result (List Attr) TupleFault) (r : Result Cut ℕ) → ends_word text ≡ false → first_word at text ≡ r →
    ((cut : Cut) → Told n cut.end cut.behind (others cut)) → Told (suc n) at text (taken at r others)
told_taken n at text others (Err opened) begins e t = told_here (suc n) at text (Err (Quote opened)) (inr (inr (inl (opened, begins, omega arith, e, refl))))
told_taken n at text others (Ok cut) begins e t =
    let family : Bool → Result (List Attr) TupleFault = λ b. cond b (put_first (attr_of cut.bytes) (others cut)) (Err (Name at)) in
    elim (cases_Bool (is_name (attr_of cut.bytes).name)) [
      | inl good ↦ subst (λ (b : Bool). Told (suc n) at text (family b)) (sym good) (told_word n at text cut (others cut) begins e good (t cut))
      | inr bad ↦ subst (λ (b : Bool). Told (suc n) at text (family b)) (sym bad) (told_here (suc n) at text (Err (Name at)) (inr (inr (inr (cut, begins, omega arith, e, bad, refl)))))
    ]

told_next : (n at : ℕ) (text : List ℕ) → (text ≡ []) ⊎ (ends_word text ≡ false) → Told n at text (words_at n at text)
told_next zero at [] h = told_here 0 at [] (Ok []) (inl (refl, refl))
told_next (suc n) at [] h = told_here (suc n) at [] (Ok []) (inl (refl, refl))
told_next zero at (b ∷ text) (inl e) = absurd cc
told_next zero at (b ∷ text) (inr begins) = told_here 0 at (b ∷ text) (Err TooMany) (inr (inl (begins, refl, refl)))
told_next (suc n) at (b ∷ text) (inl e) = absurd cc
told_next (suc n) at (b ∷ text) (inr begins) =
    let others : Cut → Result (List Attr) TupleFault = λ cut. words_at n (cut.end + gap_len cut.behind) (drop (gap_len cut.behind) cut.behind) in
    told_taken n at (b ∷ text) others (first_word at (b ∷ text)) begins refl
    (λ cut. told_gaps n cut.end cut.behind (others cut) (told_next n (cut.end + gap_len cut.behind) (drop (gap_len cut.behind) cut.behind) (gaps_done cut.behind)))

told_all : (text : List ℕ) → Told 36 0 text (words_from 36 0 text)
unfolding words_from
told_all text = told_gaps 36 0 text (words_from 36 0 text) (told_next 36 (0 + gap_len text) (drop (gap_len text) text) (gaps_done text))

-- ---- whole texts

pieces_valid : (pieces : List Piece) (rest : List ℕ) → are_pieces pieces rest ≡ true → is_line (pieces_text pieces ++ rest) ≡ true → list_all is_named_well (attrs_of pieces) ≡ true → list_all is_attr (attrs_of pieces) ≡ true
pieces_valid [] rest apart line named = refl
pieces_valid (Gap b ∷ pieces) rest apart line named =
    let both = and_parts (is_gap b) (are_pieces pieces rest) apart in
    pieces_valid pieces rest both.1 (split_line [] b (pieces_text pieces ++ rest) (gap_low b both.0) line).1 named
pieces_valid (Word parts ∷ pieces) rest apart line named =
    let behind = pieces_text pieces ++ rest in
    let both = and_parts (is_word parts behind) (are_pieces pieces rest) apart in
    let all = and_parts (is_named_well (attr_of (word_bytes parts))) (list_all is_named_well (attrs_of pieces)) named in
    let cut : Cut = record { bytes = word_bytes parts; end = 0 + length (word_text parts); behind = behind } in
    let lines = word_line 0 (word_text parts ++ behind) cut (word_written 0 (word_text parts ++ behind) cut (word_is 0 parts behind both.0)) (ap is_line (sym (append_assoc (word_text parts) (pieces_text pieces) rest)) ∙ line) in
    let a = attr_of (word_bytes parts) in
    and_from (is_attr a) (list_all is_attr (attrs_of pieces)) (and_from (is_name a.name) (is_value a.value) all.0 (value_text_is (word_bytes parts) lines.0)) (pieces_valid pieces rest both.1 lines.1 all.1)

told_valid : (text : List ℕ) (r : Result (List Attr) TupleFault) → is_line text ≡ true → (t : Told 36 0 text r) → is_tuple (attrs_of t.pieces) ≡ true
told_valid text r line t =
    let few : length (attrs_of t.pieces) ≤ 36 = omega (arith, t.count) in
    and_from (leb (length (attrs_of t.pieces)) 36) (list_all is_attr (attrs_of t.pieces)) (le-leb (length (attrs_of t.pieces)) 36 few)
    (pieces_valid t.pieces t.rest t.apart (ap is_line (sym t.whole) ∙ line) t.named)

told_reaches : (text : List ℕ) (r : Result (List Attr) TupleFault) → is_line text ≡ true → (t : Told 36 0 text r) → ends_word t.rest ≡ false → Reaches text t.place t.rest (attrs_of t.pieces)
told_reaches text r line t begins =
    record { pieces = t.pieces; line = line; whole = t.whole; apart = t.apart; begins = begins; reach = omega (arith, t.reach); means = refl; valid = told_valid text r line t }

ok_read : (text : List ℕ) (attrs : List Attr) (r : Result (List Attr) TupleFault) → is_line text ≡ true → r ≡ Ok attrs → Told 36 0 text r → Reads text attrs
ok_read text attrs r line e t =
    let given : (stop : Result (List Attr) TupleFault) → t.stop ≡ stop → put_all (attrs_of t.pieces) stop ≡ Ok attrs = λ stop is. ap (put_all (attrs_of t.pieces)) (sym is) ∙ sym t.gives ∙ e in
    elim t.stops [
      | inl ended ↦
          (let all : Ok (attrs_of t.pieces ++ []) ≡ Ok attrs = given (Ok []) ended.1 in
          let same : attrs_of t.pieces ++ [] ≡ attrs = cc in
          let means : attrs ≡ attrs_of t.pieces = sym same ∙ append-nil (attrs_of t.pieces) in
          record {
            pieces = t.pieces;
            line = line;
            whole = t.whole ∙ ap (λ (x : List ℕ). pieces_text t.pieces ++ x) ended.0 ∙ append-nil (pieces_text t.pieces);
            apart = ap (are_pieces t.pieces) (sym ended.0) ∙ t.apart;
            means = means;
            valid = ap is_tuple means ∙ told_valid text r line t;
          })
      | inr other ↦ elim other [
        | inl full ↦ absurd (let f : Err TooMany ≡ Ok attrs = given (Err TooMany) full.2 in (cc))
        | inr word ↦ elim word [
          | inl open_at ↦ absurd (let f : Err (Quote open_at.0) ≡ Ok attrs = given (Err (Quote open_at.0)) open_at.4 in (cc))
          | inr bad ↦ absurd (let f : Err (Name t.place) ≡ Ok attrs = given (Err (Name t.place)) bad.5 in (cc))
        ]
      ]
    ]

err_is : (f g : TupleFault) (r : Result (List Attr) TupleFault) → r ≡ Err f → r ≡ Err g → f ≡ g
err_is f g r e h = cc

err_read : (text : List ℕ) (fault : TupleFault) (r : Result (List Attr) TupleFault) → is_line text ≡ true → r ≡ Err fault → Told 36 0 text r → Refuses text fault
err_read text fault r line e t =
    let given : (stop : Result (List Attr) TupleFault) → t.stop ≡ stop → put_all (attrs_of t.pieces) stop ≡ Err fault = λ stop is. ap (put_all (attrs_of t.pieces)) (sym is) ∙ sym t.gives ∙ e in
    elim t.stops [
      | inl ended ↦ absurd (let f : Ok (attrs_of t.pieces ++ []) ≡ Err fault = given (Ok []) ended.1 in (cc))
      | inr other ↦ elim other [
        | inl full ↦
            (let many : HasTooMany text = record { begin = t.place; rest = t.rest; attrs = attrs_of t.pieces; reaches = told_reaches text r line t full.0; many = omega (arith, t.count, full.1) } in
            subst (Refuses text) (err_is TooMany fault (Err TooMany) refl (given (Err TooMany) full.2)) many)
        | inr word ↦ elim word [
          | inl open_at ↦
              (let quote : HasOpenQuote text open_at.0 =
              record { begin = t.place; rest = t.rest; attrs = attrs_of t.pieces; reaches = told_reaches text r line t open_at.1; few = omega (arith, t.count, open_at.2); word = open_read t.place t.rest open_at.0 open_at.3 } in
              subst (Refuses text) (err_is (Quote open_at.0) fault (Err (Quote open_at.0)) refl (given (Err (Quote open_at.0)) open_at.4)) quote)
          | inr bad ↦
              (let name : HasBadName text t.place =
              record { rest = t.rest; attrs = attrs_of t.pieces; cut = bad.0; reaches = told_reaches text r line t bad.1; few = omega (arith, t.count, bad.2); word = word_read t.place t.rest bad.0 bad.3; bad = bad.4 } in
              subst (Refuses text) (err_is (Name t.place) fault (Err (Name t.place)) refl (given (Err (Name t.place)) bad.5)) name)
        ]
      ]
    ]

pub reads_read : (text : List ℕ) (attrs : List Attr) → tuple_of text ≡ Ok attrs → Reads text attrs
unfolding tuple_of
reads_read text attrs e =
    let family : Bool → Result (List Attr) TupleFault = λ b. cond b (words_from 36 0 text) (Err (NotText (line_len text))) in
    elim (cases_Bool (eqb (line_len text) (length text))) [
      | inl whole ↦ ok_read text attrs (words_from 36 0 text) (line_from_len text (eqb-true (line_len text) (length text) whole)) (ap family (sym whole) ∙ e) (told_all text)
      | inr part ↦ absurd (let f : Err (NotText (line_len text)) ≡ Ok attrs = ap family (sym part) ∙ e in (cc))
    ]

pub refuses_read : (text : List ℕ) (fault : TupleFault) → tuple_of text ≡ Err fault → Refuses text fault
unfolding tuple_of
refuses_read text fault e =
    let family : Bool → Result (List Attr) TupleFault = λ b. cond b (words_from 36 0 text) (Err (NotText (line_len text))) in
    elim (cases_Bool (eqb (line_len text) (length text))) [
      | inl whole ↦ err_read text fault (words_from 36 0 text) (line_from_len text (eqb-true (line_len text) (length text) whole)) (ap family (sym whole) ∙ e) (told_all text)
      | inr part ↦
          (let ne = eqb-false (line_len text) (length text) part in
          let f = err_is (NotText (line_len text)) fault (Err (NotText (line_len text))) refl (ap family (sym part) ∙ e) in
          let short : line_len text < length text = omega (arith, line_len_le text, ne) in
          subst (Refuses text) f (refl, short))
    ]
