-- Lines: they may be cut at plain bytes, and their words are lines.
use Rattle.std.proofs.Common.{◌≡◌, ◌≤◌, ◌⊎◌, ℕ, zero, suc, ◌+◌, ◌<◌, List, [], ◌∷◌, ◌++◌, true, not, eqb, length, take, drop, get_or, min, Result, Ok, Err, refl, sym, ap, subst, ◌∙◌, inl, inr, arith, append_assoc, length-append}
use Rattle.std.specs.List.{list_all, position_or_len}
use Rattle.std.specs.Str.{IsUtf8, IsAscii, IsCharBoundary, is_utf8}
use Rattle.std.specs.Str.Lossy.{utf8_valid_len, valid_len_up_to}
use Rattle.std.proofs.lemmas.Bool.{cases_Bool, and_parts, and_from, eqb-true}
use Rattle.std.proofs.lemmas.List.{append-nil, get_or_at, take_at, drop_at, take_all}
use Rattle.std.proofs.lemmas.Str.{IsUtf8-from_is_utf8, is_utf8-from_IsUtf8, IsUtf8-append, IsUtf8-take, IsUtf8-drop, IsUtf8-nil, IsCharBoundary-after_ascii, IsUtf8-from_ascii, utf8_valid_len-IsUtf8, utf8_valid_len_le}
use Rattle.std.proofs.lemmas.List.Sums.{prefix_len-le-length}
use Rattle.std.proofs.Math.Nat.{min-le_left, min-le_right, le-min}
use Rattle.attr_tuples.specs.declared.word.Place.{Place}
use Rattle.attr_tuples.specs.declared.word.Place.TheVariants.{Outside, Inside, Behind}
use Rattle.attr_tuples.specs.Lines.{is_line_byte, is_line, line_len}
use Rattle.attr_tuples.specs.Words.{Cut, is_gap, prefixed, stops, kept, place_after, unquote, first_word}
use Rattle.attr_tuples.proofs.WordLemmas.{unquote_on, unquote_stop}

-- what stands behind a plain byte, and what stands before one
pub behind_ascii : (p : List ℕ) (b : ℕ) (xs : List ℕ) → b < 128 → IsUtf8 (p ++ b ∷ xs) → IsUtf8 xs
behind_ascii p b xs low u =
    let is : get_or (p ++ b ∷ xs) (length p) 0 ≡ b = get_or_at p b xs 0 (length p) refl in
    let long : length p < length (p ++ b ∷ xs) = omega (arith, length-append p (b ∷ xs)) in
    let edge = IsCharBoundary-after_ascii (p ++ b ∷ xs) (length p) u long (omega arith) in
    let cut : drop (length p + 1) (p ++ b ∷ xs) ≡ xs = ap (drop (length p + 1)) (sym (append_assoc p (b ∷ []) xs)) ∙ drop_at (p ++ b ∷ []) xs (length p + 1) (omega (arith, length-append p (b ∷ []))) in
    subst IsUtf8 cut (IsUtf8-drop (p ++ b ∷ xs) (length p + 1) u edge)

pub before_ascii : (p : List ℕ) (b : ℕ) (xs : List ℕ) → b < 128 → IsUtf8 (p ++ b ∷ xs) → IsUtf8 p
before_ascii p b xs low u =
    let is : get_or (p ++ b ∷ xs) (length p) 0 ≡ b = get_or_at p b xs 0 (length p) refl in
    let edge : IsCharBoundary (p ++ b ∷ xs) (length p) = (omega (arith, length-append p (b ∷ xs)), λ lt high. absurd (omega arith)) in
    subst IsUtf8 (take_at p (b ∷ xs) (length p) refl) (IsUtf8-take (p ++ b ∷ xs) (length p) u edge)

one_ascii : (b : ℕ) → b < 128 → IsUtf8 (b ∷ [])
one_ascii b low = IsUtf8-from_ascii (b ∷ []) (ascii b low)
  where
    ascii : (b : ℕ) → b < 128 → IsAscii (b ∷ [])
    ascii b low zero = low
    ascii b low (suc i) = omega arith

-- without a plain byte text stays text
pub without_ascii : (p : List ℕ) (b : ℕ) (xs : List ℕ) → b < 128 → IsUtf8 (p ++ b ∷ xs) → IsUtf8 (p ++ xs)
without_ascii p b xs low u = IsUtf8-append p xs (before_ascii p b xs low u) (behind_ascii p b xs low u)

-- with one more it does too
pub with_ascii : (p : List ℕ) (b : ℕ) (xs : List ℕ) → b < 128 → IsUtf8 p → IsUtf8 xs → IsUtf8 (p ++ b ∷ xs)
with_ascii p b xs low front back = IsUtf8-append p (b ∷ xs) front (IsUtf8-append (b ∷ []) xs (one_ascii b low) back)

gap_low : (b : ℕ) → is_gap b ≡ true → b < 128
gap_low b h =
    elim (cases_Bool (eqb b 32)) [
      | inl e ↦ (let is = eqb-true b 32 e in omega arith)
      | inr e ↦ (let tab : eqb b 9 ≡ true = rw e at h in let is = eqb-true b 9 tab in omega arith)
    ]

stops_low : (place : Place) (b : ℕ) → stops place b ≡ true → b < 128
stops_low Outside b h = gap_low b h
stops_low (Inside q) b h = absurd cc
stops_low (Behind q) b h = gap_low b h

-- what is kept of a byte is that byte, or nothing of a `'`
kept_is : (place : Place) (b : ℕ) → (kept place b ≡ b ∷ []) ⊎ ((kept place b ≡ []) × (b ≡ 39))
kept_is Outside b = elim (cases_Bool (eqb b 39)) [ inl e ↦ inr (rw e refl, eqb-true b 39 e) | inr e ↦ inl (rw e refl) ]
kept_is (Inside q) b = elim (cases_Bool (eqb b 39)) [ inl e ↦ inr (rw e refl, eqb-true b 39 e) | inr e ↦ inl (rw e refl) ]
kept_is (Behind q) b = inl refl

-- the bytes of a cut behind others are text, and so is what stands behind it
abbrev IsCutText : List ℕ → Result Cut ℕ → Type 0
IsCutText p (Ok cut) = IsUtf8 (p ++ cut.bytes) × IsUtf8 cut.behind
IsCutText p (Err at) = Unit {0}

text_more : (p : List ℕ) (b : ℕ) (r : Result Cut ℕ) → IsCutText (p ++ b ∷ []) r → IsCutText p (prefixed (b ∷ []) r)
text_more p b (Ok cut) h = (subst IsUtf8 (append_assoc p (b ∷ []) cut.bytes) h.0, h.1)
text_more p b (Err at) h = tt

text_less : (p : List ℕ) (r : Result Cut ℕ) → IsCutText p r → IsCutText p (prefixed [] r)
text_less p (Ok cut) h = h
text_less p (Err at) h = tt

cut_text : (p : List ℕ) (place : Place) (at : ℕ) (text : List ℕ) → IsUtf8 (p ++ text) → IsCutText p (unquote place at text)
cut_text p Outside at [] u = (u, IsUtf8-nil)
cut_text p (Inside q) at [] u = tt
cut_text p (Behind q) at [] u = (u, IsUtf8-nil)
cut_text p place at (b ∷ text) u =
    elim (cases_Bool (stops place b)) [
      | inl stop ↦
          (let low = stops_low place b stop in
          let front = before_ascii p b text low u in
          let back = behind_ascii p b text low u in
          subst (IsCutText p) (sym (unquote_stop place at b text stop)) (subst IsUtf8 (sym (append-nil p)) front, with_ascii [] b text low IsUtf8-nil back))
      | inr on ↦
          (let next = unquote (place_after place at b) (at + 1) text in
          let done : IsCutText p (prefixed (kept place b) next) =
          elim (kept_is place b) [
            | inl keeps ↦ subst (λ (x : List ℕ). IsCutText p (prefixed x next)) (sym keeps) (text_more p b next (cut_text (p ++ b ∷ []) (place_after place at b) (at + 1) text (subst IsUtf8 (sym (append_assoc p (b ∷ []) text)) u)))
            | inr drops ↦ subst (λ (x : List ℕ). IsCutText p (prefixed x next)) (sym drops.0) (text_less p next (cut_text p (place_after place at b) (at + 1) text (without_ascii p b text (omega (arith, drops.1)) u)))
          ] in
          subst (IsCutText p) (sym (unquote_on place at b text on)) done)
    ]

-- the same of the bytes of a line
abbrev IsCutPlain : Result Cut ℕ → Type 0
IsCutPlain (Ok cut) = (list_all is_line_byte cut.bytes ≡ true) × (list_all is_line_byte cut.behind ≡ true)
IsCutPlain (Err at) = Unit {0}

plain_more : (b : ℕ) (r : Result Cut ℕ) → is_line_byte b ≡ true → IsCutPlain r → IsCutPlain (prefixed (b ∷ []) r)
plain_more b (Ok cut) here h = (and_from (is_line_byte b) (list_all is_line_byte cut.bytes) here h.0, h.1)
plain_more b (Err at) here h = tt

plain_less : (r : Result Cut ℕ) → IsCutPlain r → IsCutPlain (prefixed [] r)
plain_less (Ok cut) h = h
plain_less (Err at) h = tt

cut_plain : (place : Place) (at : ℕ) (text : List ℕ) → list_all is_line_byte text ≡ true → IsCutPlain (unquote place at text)
cut_plain Outside at [] h = (refl, refl)
cut_plain (Inside q) at [] h = tt
cut_plain (Behind q) at [] h = (refl, refl)
cut_plain place at (b ∷ text) h =
    elim (cases_Bool (stops place b)) [
      | inl stop ↦ subst IsCutPlain (sym (unquote_stop place at b text stop)) (refl, h)
      | inr on ↦
          (let parts = and_parts (is_line_byte b) (list_all is_line_byte text) h in
          let next = unquote (place_after place at b) (at + 1) text in
          let rest = cut_plain (place_after place at b) (at + 1) text parts.1 in
          let done : IsCutPlain (prefixed (kept place b) next) =
          elim (kept_is place b) [
            | inl keeps ↦ subst (λ (x : List ℕ). IsCutPlain (prefixed x next)) (sym keeps) (plain_more b next parts.0 rest)
            | inr drops ↦ subst (λ (x : List ℕ). IsCutPlain (prefixed x next)) (sym drops.0) (plain_less next rest)
          ] in
          subst IsCutPlain (sym (unquote_on place at b text on)) done)
    ]

pub word_line : (at : ℕ) (text : List ℕ) (cut : Cut) → first_word at text ≡ Ok cut → is_line text ≡ true → (is_line cut.bytes ≡ true) × (is_line cut.behind ≡ true)
unfolding first_word
word_line at text cut e h =
    let parts = and_parts (list_all is_line_byte text) (is_utf8 text) h in
    let plain = subst IsCutPlain e (cut_plain Outside at text parts.0) in
    let utf8 = subst (IsCutText []) e (cut_text [] Outside at text (IsUtf8-from_is_utf8 text parts.1)) in
    (and_from (list_all is_line_byte cut.bytes) (is_utf8 cut.bytes) plain.0 (is_utf8-from_IsUtf8 cut.bytes utf8.0), and_from (list_all is_line_byte cut.behind) (is_utf8 cut.behind) plain.1 (is_utf8-from_IsUtf8 cut.behind utf8.1))

-- ---- a line is as long as its bytes

all_plain : (bytes : List ℕ) → position_or_len (λ b. not (is_line_byte b)) bytes ≡ length bytes → list_all is_line_byte bytes ≡ true
all_plain [] h = refl
all_plain (b ∷ bytes) h =
    elim (cases_Bool (is_line_byte b)) [
      | inl here ↦ and_from (is_line_byte b) (list_all is_line_byte bytes) here (all_plain bytes (let long : 1 + position_or_len (λ x. not (is_line_byte x)) bytes ≡ length (b ∷ bytes) = rw here at h in omega arith))
      | inr other ↦ absurd (let short : 0 ≡ length (b ∷ bytes) = rw other at h in omega arith)
    ]

plain_all : (bytes : List ℕ) → list_all is_line_byte bytes ≡ true → position_or_len (λ b. not (is_line_byte b)) bytes ≡ length bytes
plain_all [] h = refl
plain_all (b ∷ bytes) h =
    let parts = and_parts (is_line_byte b) (list_all is_line_byte bytes) h in
    let rest = plain_all bytes parts.1 in
    rw parts.0 (omega arith)

up_to_text : (bytes : List ℕ) (n : ℕ) → is_utf8 (take (valid_len_up_to bytes n) bytes) ≡ true
up_to_text bytes zero = is_utf8-from_IsUtf8 [] IsUtf8-nil
up_to_text bytes (suc n) = elim (cases_Bool (is_utf8 (take (suc n) bytes))) [ inl e ↦ rw e e | inr e ↦ rw e (up_to_text bytes n) ]

all_text : (bytes : List ℕ) → utf8_valid_len bytes ≡ length bytes → is_utf8 bytes ≡ true
unfolding utf8_valid_len
all_text bytes h = ap is_utf8 (sym (ap (λ (n : ℕ). take n bytes) h ∙ take_all (length bytes) bytes (omega arith))) ∙ up_to_text bytes (length bytes)

pub line_len_le : (bytes : List ℕ) → line_len bytes ≤ length bytes
unfolding line_len
line_len_le bytes = omega (arith, min-le_left (utf8_valid_len bytes) (position_or_len (λ b. not (is_line_byte b)) bytes), utf8_valid_len_le bytes)

pub line_from_len : (bytes : List ℕ) → line_len bytes ≡ length bytes → is_line bytes ≡ true
unfolding line_len
line_from_len bytes h =
    let foreign = position_or_len (λ b. not (is_line_byte b)) bytes in
    let plain : foreign ≡ length bytes = omega (arith, h, min-le_right (utf8_valid_len bytes) foreign, prefix_len-le-length (λ b. not (not (is_line_byte b))) bytes) in
    let text : utf8_valid_len bytes ≡ length bytes = omega (arith, h, min-le_left (utf8_valid_len bytes) foreign, utf8_valid_len_le bytes) in
    and_from (list_all is_line_byte bytes) (is_utf8 bytes) (all_plain bytes plain) (all_text bytes text)

pub len_from_line : (bytes : List ℕ) → is_line bytes ≡ true → line_len bytes ≡ length bytes
unfolding line_len
len_from_line bytes h =
    let parts = and_parts (list_all is_line_byte bytes) (is_utf8 bytes) h in
    let text = utf8_valid_len-IsUtf8 bytes (IsUtf8-from_is_utf8 bytes parts.1) in
    let plain = plain_all bytes parts.0 in
    let n = length bytes in
    let both : min n n ≡ n = omega (arith, min-le_left n n, le-min {k = n} {a = n} {b = n} (omega arith) (omega arith)) in
    ap (λ (m : ℕ). min m (position_or_len (λ b. not (is_line_byte b)) bytes)) text ∙ ap (min n) plain ∙ both
