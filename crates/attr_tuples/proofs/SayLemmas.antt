-- A word that is taken is written in parts: the parts are read off the text byte by byte.
use Rattle.std.proofs.Common.{◌≡◌, ◌⊎◌, ℕ, ◌+◌, List, [], ◌∷◌, ◌++◌, true, false, not, eqb, length, Result, Ok, Err, refl, sym, ap, subst, ◌∙◌, inl, inr, arith, append_assoc, length-append}
use Rattle.std.proofs.lemmas.Bool.{cases_Bool, and_from, not_from_false, eqb-true}
use Rattle.std.proofs.lemmas.List.{append-nil}
use Rattle.attr_tuples.specs.declared.word.Place.{Place}
use Rattle.attr_tuples.specs.declared.word.Place.TheVariants.{Outside, Inside, Behind}
use Rattle.attr_tuples.specs.Words.{Cut, Part, IsWord, IsOpen, is_gap, ends_unquoted, quoted_byte, quoted_bytes, quoted, word_text, word_bytes, begins_quote, are_parts, ends_word, prefixed, unquote, first_word}
use Rattle.attr_tuples.specs.Words.Part.{Plain, Quoted}
use Rattle.attr_tuples.proofs.WordLemmas.{prefixed_none, prefixed_twice, unquote_stop}
use Rattle.attr_tuples.proofs.PartLemmas.{outside_plain, outside_opens, inside_plain, inside_closes, behind_outside}

-- how reading stops: at the end of a word, or at a quote that isn't closed
abbrev Stops : ℕ → List ℕ → Result Cut ℕ → Type 0
Stops place rest r = ((ends_word rest ≡ true) × (r ≡ Ok (record { bytes = []; end = place; behind = rest }))) ⊎ ((inside : List ℕ) × (rest ≡ 39 ∷ quoted_bytes inside) × (r ≡ Err place))

record SaysOutside (at : ℕ) (text : List ℕ) (r : Result Cut ℕ) : Type 0 where
  parts : List Part
  rest : List ℕ
  place : ℕ
  stop : Result Cut ℕ
  whole : text ≡ word_text parts ++ rest
  apart : are_parts parts rest ≡ true
  stops : Stops place rest stop
  reach : place ≡ at + length (word_text parts)
  gives : r ≡ prefixed (word_bytes parts) stop

record Closed (at : ℕ) (text : List ℕ) (r : Result Cut ℕ) : Type 0 where
  inside : List ℕ
  tail : List ℕ
  then_given : Result Cut ℕ
  whole : text ≡ quoted_bytes inside ++ 39 ∷ tail
  alone : begins_quote tail ≡ false
  outside : SaysOutside (at + length (quoted_bytes inside) + 1) tail then_given
  gives : r ≡ prefixed inside then_given

abbrev SaysInside : ℕ → ℕ → List ℕ → Result Cut ℕ → Type 0
SaysInside q at text r = ((inside : List ℕ) × (text ≡ quoted_bytes inside) × (r ≡ Err q)) ⊎ Closed at text r

abbrev SaysBehind : ℕ → ℕ → List ℕ → Result Cut ℕ → Type 0
SaysBehind q at text r =
    ((tail : List ℕ) × (then_given : Result Cut ℕ) × (text ≡ 39 ∷ tail) × SaysInside q (at + 1) tail then_given × (r ≡ prefixed (39 ∷ []) then_given))
    ⊎ ((begins_quote text ≡ false) × SaysOutside at text r)

abbrev Says : Place → ℕ → List ℕ → Result Cut ℕ → Type 0
Says Outside at text r = SaysOutside at text r
Says (Inside q) at text r = SaysInside q at text r
Says (Behind q) at text r = SaysBehind q at text r

stops_here : (at : ℕ) (text : List ℕ) (r : Result Cut ℕ) → Stops at text r → SaysOutside at text r
stops_here at text r h = record { parts = []; rest = text; place = at; stop = r; whole = refl; apart = refl; stops = h; reach = omega arith; gives = sym (prefixed_none r) }

ends_plain : (b : ℕ) → is_gap b ≡ false → eqb b 39 ≡ false → ends_unquoted b ≡ false
ends_plain b gap quote =
    elim (cases_Bool (eqb b 32)) [
      | inl e ↦ absurd (let f : is_gap b ≡ true = rw e refl in (cc))
      | inr e ↦ elim (cases_Bool (eqb b 9)) [
        | inl t ↦ absurd (let f : is_gap b ≡ true = rw (e, t) refl in (cc))
        | inr t ↦ rw (e, t) quote
      ]
    ]

one_plain : (at b : ℕ) (text : List ℕ) (r : Result Cut ℕ) → is_gap b ≡ false → eqb b 39 ≡ false → SaysOutside (at + 1) text r → SaysOutside at (b ∷ text) (prefixed (b ∷ []) r)
one_plain at b text r gap quote s =
    record {
      parts = Plain b ∷ s.parts;
      rest = s.rest;
      place = s.place;
      stop = s.stop;
      whole = ap (λ (x : List ℕ). b ∷ x) s.whole;
      apart = and_from (not (ends_unquoted b)) (are_parts s.parts s.rest) (not_from_false (ends_unquoted b) (ends_plain b gap quote)) s.apart;
      stops = s.stops;
      reach = omega (arith, s.reach);
      gives = ap (prefixed (b ∷ [])) s.gives ∙ prefixed_twice (b ∷ []) (word_bytes s.parts) s.stop;
    }

one_quoted : (at : ℕ) (text : List ℕ) (r : Result Cut ℕ) → Closed (at + 1) text r → SaysOutside at (39 ∷ text) r
one_quoted at text r c =
    let s = c.outside in
    record {
      parts = Quoted c.inside ∷ s.parts;
      rest = s.rest;
      place = s.place;
      stop = s.stop;
      whole =
          ap (λ (x : List ℕ). 39 ∷ x) (c.whole ∙ ap (λ (x : List ℕ). quoted_bytes c.inside ++ 39 ∷ x) s.whole)
          ∙ sym (append_assoc (quoted c.inside) (word_text s.parts) s.rest ∙ ap (λ (x : List ℕ). 39 ∷ x) (append_assoc (quoted_bytes c.inside) (39 ∷ []) (word_text s.parts ++ s.rest)));
      apart = and_from (not (begins_quote (word_text s.parts ++ s.rest))) (are_parts s.parts s.rest) (not_from_false (begins_quote (word_text s.parts ++ s.rest)) (ap begins_quote (sym s.whole) ∙ c.alone)) s.apart;
      stops = s.stops;
      reach = omega (arith, s.reach, length-append (quoted c.inside) (word_text s.parts), length-append (quoted_bytes c.inside) (39 ∷ []));
      gives = c.gives ∙ ap (prefixed c.inside) s.gives ∙ prefixed_twice c.inside (word_bytes s.parts) s.stop;
    }

says_out : (at b : ℕ) (text : List ℕ) → SaysOutside (at + 1) text (unquote Outside (at + 1) text) → SaysInside at (at + 1) text (unquote (Inside at) (at + 1) text) → SaysOutside at (b ∷ text) (unquote Outside at (b ∷ text))
says_out at b text on inner =
    elim (cases_Bool (is_gap b)) [
      | inl gap ↦ stops_here at (b ∷ text) (unquote Outside at (b ∷ text)) (inl (gap, unquote_stop Outside at b text gap))
      | inr word ↦ elim (cases_Bool (eqb b 39)) [
        | inr plain ↦ subst (SaysOutside at (b ∷ text)) (sym (outside_plain at b text word plain)) (one_plain at b text (unquote Outside (at + 1) text) word plain on)
        | inl quote ↦
            (let is = eqb-true b 39 quote in
            let e = outside_opens at b text word quote in
            let says : SaysOutside at (39 ∷ text) (unquote (Inside at) (at + 1) text) =
            elim inner [
              | inl left ↦ stops_here at (39 ∷ text) (unquote (Inside at) (at + 1) text) (inr (left.0, ap (λ (x : List ℕ). 39 ∷ x) left.1, left.2))
              | inr closed ↦ one_quoted at text (unquote (Inside at) (at + 1) text) closed
            ] in
            subst (λ (x : ℕ). SaysOutside at (x ∷ text) (unquote Outside at (b ∷ text))) (sym is) (subst (SaysOutside at (39 ∷ text)) (sym e) says))
      ]
    ]

inside_more : (q at b : ℕ) (text : List ℕ) (r : Result Cut ℕ) → eqb b 39 ≡ false → SaysInside q (at + 1) text r → SaysInside q at (b ∷ text) (prefixed (b ∷ []) r)
inside_more q at b text r plain (inl left) =
    let is : quoted_byte b ≡ b ∷ [] = rw plain refl in
    inl (b ∷ left.0, ap (λ (x : List ℕ). b ∷ x) left.1 ∙ ap (λ (x : List ℕ). x ++ quoted_bytes left.0) (sym is), ap (prefixed (b ∷ [])) left.2)
inside_more q at b text r plain (inr c) =
    let is : quoted_byte b ≡ b ∷ [] = rw plain refl in
    let e : at + 1 + length (quoted_bytes c.inside) + 1 ≡ at + length (quoted_bytes (b ∷ c.inside)) + 1 = subst (λ (x : List ℕ). at + 1 + length (quoted_bytes c.inside) + 1 ≡ at + length (x ++ quoted_bytes c.inside) + 1) (sym is) (omega arith) in
    inr (record {
      inside = b ∷ c.inside;
      tail = c.tail;
      then_given = c.then_given;
      whole = ap (λ (x : List ℕ). b ∷ x) c.whole ∙ ap (λ (x : List ℕ). (x ++ quoted_bytes c.inside) ++ 39 ∷ c.tail) (sym is);
      alone = c.alone;
      outside = subst (λ (n : ℕ). SaysOutside n c.tail c.then_given) e c.outside;
      gives = ap (prefixed (b ∷ [])) c.gives ∙ prefixed_twice (b ∷ []) c.inside c.then_given;
    })

inside_doubled : (q at : ℕ) (text : List ℕ) (r : Result Cut ℕ) → SaysInside q (at + 1 + 1) text r → SaysInside q at (39 ∷ 39 ∷ text) (prefixed (39 ∷ []) r)
inside_doubled q at text r (inl left) = inl (39 ∷ left.0, ap (λ (x : List ℕ). 39 ∷ 39 ∷ x) left.1, ap (prefixed (39 ∷ [])) left.2)
inside_doubled q at text r (inr c) =
    let e : at + 1 + 1 + length (quoted_bytes c.inside) + 1 ≡ at + length (quoted_bytes (39 ∷ c.inside)) + 1 = omega arith in
    inr (record {
      inside = 39 ∷ c.inside;
      tail = c.tail;
      then_given = c.then_given;
      whole = ap (λ (x : List ℕ). 39 ∷ 39 ∷ x) c.whole;
      alone = c.alone;
      outside = subst (λ (n : ℕ). SaysOutside n c.tail c.then_given) e c.outside;
      gives = ap (prefixed (39 ∷ [])) c.gives ∙ prefixed_twice (39 ∷ []) c.inside c.then_given;
    })

inside_closed : (q at : ℕ) (text : List ℕ) (r : Result Cut ℕ) → SaysBehind q (at + 1) text r → SaysInside q at (39 ∷ text) r
inside_closed q at text r (inl b) =
    subst (λ (x : List ℕ). SaysInside q at (39 ∷ x) r) (sym b.2) (subst (SaysInside q at (39 ∷ 39 ∷ b.0)) (sym b.4) (inside_doubled q at b.0 b.1 b.3))
inside_closed q at text r (inr b) =
    let e : at + 1 ≡ at + 0 + 1 = omega arith in
    inr (record {
      inside = [];
      tail = text;
      then_given = r;
      whole = refl;
      alone = b.0;
      outside = subst (λ (n : ℕ). SaysOutside n text r) e b.1;
      gives = sym (prefixed_none r);
    })

says_in : (q at b : ℕ) (text : List ℕ) → SaysInside q (at + 1) text (unquote (Inside q) (at + 1) text) → SaysBehind q (at + 1) text (unquote (Behind q) (at + 1) text) → SaysInside q at (b ∷ text) (unquote (Inside q) at (b ∷ text))
says_in q at b text on behind =
    elim (cases_Bool (eqb b 39)) [
      | inr plain ↦ subst (SaysInside q at (b ∷ text)) (sym (inside_plain q at b text plain)) (inside_more q at b text (unquote (Inside q) (at + 1) text) plain on)
      | inl quote ↦
          (let is = eqb-true b 39 quote in
          subst (λ (x : ℕ). SaysInside q at (x ∷ text) (unquote (Inside q) at (b ∷ text))) (sym is)
          (subst (SaysInside q at (39 ∷ text)) (sym (inside_closes q at b text quote)) (inside_closed q at text (unquote (Behind q) (at + 1) text) behind)))
    ]

says_behind : (q at b : ℕ) (text : List ℕ) → SaysOutside at (b ∷ text) (unquote Outside at (b ∷ text)) → SaysInside q (at + 1) text (unquote (Inside q) (at + 1) text) → SaysBehind q at (b ∷ text) (unquote (Behind q) at (b ∷ text))
says_behind q at b text out inner =
    elim (cases_Bool (eqb b 39)) [
      | inl quote ↦
          (let is = eqb-true b 39 quote in
          let done : SaysBehind q at (39 ∷ text) (unquote (Behind q) at (39 ∷ text)) = inl (text, unquote (Inside q) (at + 1) text, refl, inner, refl) in
          subst (λ (x : ℕ). SaysBehind q at (x ∷ text) (unquote (Behind q) at (x ∷ text))) (sym is) done)
      | inr plain ↦ inr (plain, subst (SaysOutside at (b ∷ text)) (sym (behind_outside q at (b ∷ text) plain)) out)
    ]

says : (place : Place) (at : ℕ) (text : List ℕ) → Says place at text (unquote place at text)
says Outside at [] = stops_here at [] (unquote Outside at []) (inl (refl, refl))
says (Inside q) at [] = inl ([], refl, refl)
says (Behind q) at [] = inr (refl, stops_here at [] (unquote (Behind q) at []) (inl (refl, refl)))
says Outside at (b ∷ text) = says_out at b text (says Outside (at + 1) text) (says (Inside at) (at + 1) text)
says (Inside q) at (b ∷ text) = says_in q at b text (says (Inside q) (at + 1) text) (says (Behind q) (at + 1) text)
says (Behind q) at (b ∷ text) = says_behind q at b text (says_out at b text (says Outside (at + 1) text) (says (Inside at) (at + 1) text)) (says (Inside q) (at + 1) text)

-- ---- what is taken, in parts

cut_is : (bytes : List ℕ) (place : ℕ) (rest : List ℕ) (cut : Cut) → prefixed bytes (Ok (record { bytes = []; end = place; behind = rest })) ≡ Ok cut → (cut.bytes ≡ bytes) × (cut.end ≡ place) × (cut.behind ≡ rest)
cut_is bytes place rest cut e =
    let same : record { bytes = bytes ++ []; end = place; behind = rest } ≡ cut = cc in
    (sym (ap (λ (c : Cut). c.bytes) same) ∙ append-nil bytes, sym (ap (λ (c : Cut). c.end) same), sym (ap (λ (c : Cut). c.behind) same))

word_from : (at : ℕ) (text : List ℕ) (cut : Cut) (r : Result Cut ℕ) → r ≡ Ok cut → SaysOutside at text r → IsWord at text cut
word_from at text cut r e s =
    elim s.stops [
      | inl stop ↦
          (let is = cut_is (word_bytes s.parts) s.place s.rest cut (ap (prefixed (word_bytes s.parts)) (sym stop.1) ∙ sym s.gives ∙ e) in
          record {
            parts = s.parts;
            whole = s.whole ∙ ap (λ (x : List ℕ). word_text s.parts ++ x) (sym is.2);
            apart = ap (are_parts s.parts) is.2 ∙ s.apart;
            ends = ap ends_word is.2 ∙ stop.0;
            means = is.0;
            reach = is.1 ∙ s.reach;
          })
      | inr stop ↦ absurd (let f : Err s.place ≡ Ok cut = ap (prefixed (word_bytes s.parts)) (sym stop.2) ∙ sym s.gives ∙ e in (cc))
    ]

open_from : (at : ℕ) (text : List ℕ) (opened : ℕ) (r : Result Cut ℕ) → r ≡ Err opened → SaysOutside at text r → IsOpen at text opened
open_from at text opened r e s =
    elim s.stops [
      | inl stop ↦ absurd (let f : Ok (record { bytes = word_bytes s.parts ++ []; end = s.place; behind = s.rest }) ≡ Err opened = ap (prefixed (word_bytes s.parts)) (sym stop.1) ∙ sym s.gives ∙ e in (cc))
      | inr stop ↦
          (let f : Err s.place ≡ Err opened = ap (prefixed (word_bytes s.parts)) (sym stop.2) ∙ sym s.gives ∙ e in
          let same : s.place ≡ opened = cc in
          record {
            parts = s.parts;
            inside = stop.0;
            whole = s.whole ∙ ap (λ (x : List ℕ). word_text s.parts ++ x) stop.1;
            apart = ap (are_parts s.parts) (sym stop.1) ∙ s.apart;
            reach = sym same ∙ s.reach;
          })
    ]

pub word_read : (at : ℕ) (text : List ℕ) (cut : Cut) → first_word at text ≡ Ok cut → IsWord at text cut
unfolding first_word
word_read at text cut e = word_from at text cut (unquote Outside at text) e (says Outside at text)

pub open_read : (at : ℕ) (text : List ℕ) (opened : ℕ) → first_word at text ≡ Err opened → IsOpen at text opened
unfolding first_word
open_read at text opened e = open_from at text opened (unquote Outside at text) e (says Outside at text)
