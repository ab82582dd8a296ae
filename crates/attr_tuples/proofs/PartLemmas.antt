-- A text that is written in parts is read as what they mean.
use Rattle.std.proofs.Common.{◌≡◌, ℕ, ◌+◌, List, [], ◌∷◌, ◌++◌, true, false, not, ◌||◌, eqb, length, Ok, Err, refl, sym, ap, subst, ◌∙◌, inl, inr, arith, append_assoc, length-append}
use Rattle.std.proofs.lemmas.Bool.{cases_Bool, and_parts, or_parts, not-true, eqb-true}
use Rattle.std.proofs.lemmas.List.{append-nil}
use Rattle.attr_tuples.specs.declared.word.Place.TheVariants.{Outside, Inside, Behind}
use Rattle.attr_tuples.specs.Words.{Cut, Part, IsWord, IsOpen, is_gap, ends_unquoted, quoted_byte, quoted_bytes, quoted, word_text, word_bytes, begins_quote, are_parts, ends_word, prefixed, unquote, first_word}
use Rattle.attr_tuples.specs.Words.Part.{Plain, Quoted}
use Rattle.attr_tuples.proofs.WordLemmas.{prefixed_none, prefixed_twice}

-- behind a closing quote, where none follows, is outside
pub behind_outside : (q at : ℕ) (text : List ℕ) → begins_quote text ≡ false → unquote (Behind q) at text ≡ unquote Outside at text
behind_outside q at [] h = refl
behind_outside q at (b ∷ text) h = rw h refl

-- a byte that stands for itself
pub plain_parts : (b : ℕ) → ends_unquoted b ≡ false → (is_gap b ≡ false) × (eqb b 39 ≡ false)
plain_parts b h =
    let parts = or_parts (eqb b 32) (eqb b 9 || eqb b 39) h in
    let more = or_parts (eqb b 9) (eqb b 39) parts.1 in
    let gap : is_gap b ≡ false = rw (parts.0, more.0) refl in
    (gap, more.1)

pub outside_plain : (at b : ℕ) (text : List ℕ) → is_gap b ≡ false → eqb b 39 ≡ false → unquote Outside at (b ∷ text) ≡ prefixed (b ∷ []) (unquote Outside (at + 1) text)
outside_plain at b text gap quote = rw (gap, quote) refl

pub outside_opens : (at b : ℕ) (text : List ℕ) → is_gap b ≡ false → eqb b 39 ≡ true → unquote Outside at (b ∷ text) ≡ unquote (Inside at) (at + 1) text
outside_opens at b text gap quote = rw (gap, quote) (prefixed_none (unquote (Inside at) (at + 1) text))

pub inside_plain : (q at b : ℕ) (text : List ℕ) → eqb b 39 ≡ false → unquote (Inside q) at (b ∷ text) ≡ prefixed (b ∷ []) (unquote (Inside q) (at + 1) text)
inside_plain q at b text quote = rw quote refl

pub inside_closes : (q at b : ℕ) (text : List ℕ) → eqb b 39 ≡ true → unquote (Inside q) at (b ∷ text) ≡ unquote (Behind q) (at + 1) text
inside_closes q at b text quote = rw quote (prefixed_none (unquote (Behind q) (at + 1) text))

pub behind_doubles : (q at : ℕ) (text : List ℕ) → unquote (Behind q) at (39 ∷ text) ≡ prefixed (39 ∷ []) (unquote (Inside q) (at + 1) text)
behind_doubles q at text = refl

-- bytes inside quotes
pub inside_text : (q at : ℕ) (bytes text : List ℕ) → unquote (Inside q) at (quoted_bytes bytes ++ text) ≡ prefixed bytes (unquote (Inside q) (at + length (quoted_bytes bytes)) text)
inside_text q at [] text =
    let e : at ≡ at + 0 = omega arith in
    ap (λ (n : ℕ). unquote (Inside q) n text) e ∙ sym (prefixed_none (unquote (Inside q) (at + 0) text))
inside_text q at (b ∷ bytes) text =
    elim (cases_Bool (eqb b 39)) [
      | inl quote ↦
          (let is = eqb-true b 39 quote in
          let rest = quoted_bytes bytes ++ text in
          let e : at + 1 + 1 + length (quoted_bytes bytes) ≡ at + length (39 ∷ 39 ∷ quoted_bytes bytes) = omega arith in
          let done : unquote (Inside q) at (quoted_bytes (39 ∷ bytes) ++ text) ≡ prefixed (39 ∷ bytes) (unquote (Inside q) (at + length (quoted_bytes (39 ∷ bytes))) text) =
          inside_closes q at 39 (39 ∷ rest) refl ∙ behind_doubles q (at + 1) rest ∙ ap (prefixed (39 ∷ [])) (inside_text q (at + 1 + 1) bytes text)
          ∙ prefixed_twice (39 ∷ []) bytes (unquote (Inside q) (at + 1 + 1 + length (quoted_bytes bytes)) text)
          ∙ ap (λ (n : ℕ). prefixed (39 ∷ bytes) (unquote (Inside q) n text)) e in
          subst (λ (x : ℕ). unquote (Inside q) at (quoted_bytes (x ∷ bytes) ++ text) ≡ prefixed (x ∷ bytes) (unquote (Inside q) (at + length (quoted_bytes (x ∷ bytes))) text)) (sym is) done)
      | inr plain ↦
          (let e : at + 1 + length (quoted_bytes bytes) ≡ at + length (b ∷ quoted_bytes bytes) = omega arith in
          let is : quoted_byte b ≡ b ∷ [] = rw plain refl in
          subst (λ (x : List ℕ). unquote (Inside q) at ((x ++ quoted_bytes bytes) ++ text) ≡ prefixed (b ∷ bytes) (unquote (Inside q) (at + length (x ++ quoted_bytes bytes)) text)) (sym is)
          (inside_plain q at b (quoted_bytes bytes ++ text) plain ∙ ap (prefixed (b ∷ [])) (inside_text q (at + 1) bytes text)
          ∙ prefixed_twice (b ∷ []) bytes (unquote (Inside q) (at + 1 + length (quoted_bytes bytes)) text)
          ∙ ap (λ (n : ℕ). prefixed (b ∷ bytes) (unquote (Inside q) n text)) e))
    ]

-- bytes in quotes, where none follows
quoted_text : (at : ℕ) (bytes text : List ℕ) → begins_quote text ≡ false → unquote Outside at (quoted bytes ++ text) ≡ prefixed bytes (unquote Outside (at + length (quoted bytes)) text)
quoted_text at bytes text h =
    let long = at + 1 + length (quoted_bytes bytes) in
    let e : long + 1 ≡ at + length (quoted bytes) = omega (arith, length-append (quoted_bytes bytes) (39 ∷ [])) in
    let shape : quoted bytes ++ text ≡ 39 ∷ (quoted_bytes bytes ++ 39 ∷ text) = ap (λ (x : List ℕ). 39 ∷ x) (append_assoc (quoted_bytes bytes) (39 ∷ []) text) in
    ap (unquote Outside at) shape ∙ outside_opens at 39 (quoted_bytes bytes ++ 39 ∷ text) refl refl ∙ inside_text at (at + 1) bytes (39 ∷ text)
    ∙ ap (prefixed bytes) (inside_closes at long 39 text refl ∙ behind_outside at (long + 1) text h ∙ ap (λ (n : ℕ). unquote Outside n text) e)

-- parts, in front of the rest of a text
pub parts_text : (at : ℕ) (parts : List Part) (rest : List ℕ) → are_parts parts rest ≡ true → unquote Outside at (word_text parts ++ rest) ≡ prefixed (word_bytes parts) (unquote Outside (at + length (word_text parts)) rest)
parts_text at [] rest h =
    let e : at ≡ at + 0 = omega arith in
    ap (λ (n : ℕ). unquote Outside n rest) e ∙ sym (prefixed_none (unquote Outside (at + 0) rest))
parts_text at (Plain b ∷ parts) rest h =
    let both = and_parts (not (ends_unquoted b)) (are_parts parts rest) h in
    let plain = plain_parts b (not-true (ends_unquoted b) both.0) in
    let e : at + 1 + length (word_text parts) ≡ at + length (b ∷ word_text parts) = omega arith in
    outside_plain at b (word_text parts ++ rest) plain.0 plain.1 ∙ ap (prefixed (b ∷ [])) (parts_text (at + 1) parts rest both.1)
    ∙ prefixed_twice (b ∷ []) (word_bytes parts) (unquote Outside (at + 1 + length (word_text parts)) rest)
    ∙ ap (λ (n : ℕ). prefixed (b ∷ word_bytes parts) (unquote Outside n rest)) e
parts_text at (Quoted bytes ∷ parts) rest h =
    let both = and_parts (not (begins_quote (word_text parts ++ rest))) (are_parts parts rest) h in
    let long = at + length (quoted bytes) in
    let e : long + length (word_text parts) ≡ at + length (quoted bytes ++ word_text parts) = omega (arith, length-append (quoted bytes) (word_text parts)) in
    ap (unquote Outside at) (append_assoc (quoted bytes) (word_text parts) rest)
    ∙ quoted_text at bytes (word_text parts ++ rest) (not-true (begins_quote (word_text parts ++ rest)) both.0)
    ∙ ap (prefixed bytes) (parts_text long parts rest both.1)
    ∙ prefixed_twice bytes (word_bytes parts) (unquote Outside (long + length (word_text parts)) rest)
    ∙ ap (λ (n : ℕ). prefixed (bytes ++ word_bytes parts) (unquote Outside n rest)) e

-- the end of a word
pub word_ends : (at : ℕ) (rest : List ℕ) → ends_word rest ≡ true → unquote Outside at rest ≡ Ok (record { bytes = []; end = at; behind = rest })
word_ends at [] h = refl
word_ends at (b ∷ rest) h = rw h refl

pub word_written : (at : ℕ) (text : List ℕ) (cut : Cut) → IsWord at text cut → first_word at text ≡ Ok cut
unfolding first_word
word_written at text cut w =
    let long = at + length (word_text w.parts) in
    ap (unquote Outside at) w.whole ∙ parts_text at w.parts cut.behind w.apart ∙ ap (prefixed (word_bytes w.parts)) (word_ends long cut.behind w.ends)
    ∙ ap (λ (bytes : List ℕ). Ok (record { bytes = bytes; end = long; behind = cut.behind })) (append-nil (word_bytes w.parts) ∙ sym w.means)
    ∙ ap (λ (n : ℕ). Ok (record { bytes = cut.bytes; end = n; behind = cut.behind })) (sym w.reach)

pub open_written : (at : ℕ) (text : List ℕ) (opened : ℕ) → IsOpen at text opened → first_word at text ≡ Err opened
unfolding first_word
open_written at text opened w =
    let long = at + length (word_text w.parts) in
    let inside : unquote (Inside long) (long + 1) (quoted_bytes w.inside) ≡ Err long =
    ap (unquote (Inside long) (long + 1)) (sym (append-nil (quoted_bytes w.inside))) ∙ inside_text long (long + 1) w.inside [] in
    ap (unquote Outside at) w.whole ∙ parts_text at w.parts (39 ∷ quoted_bytes w.inside) w.apart
    ∙ ap (prefixed (word_bytes w.parts)) (outside_opens long 39 (quoted_bytes w.inside) refl refl ∙ inside)
    ∙ ap Err (sym w.reach)
