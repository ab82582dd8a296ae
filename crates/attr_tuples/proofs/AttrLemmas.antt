-- A word of a line gives a name and a value that are text.
use Rattle.std.proofs.Common.{◌≡◌, ℕ, ◌+◌, ◌-◌, ◌<◌, ◌≤◌, List, [], ◌∷◌, ◌++◌, Bool, true, false, not, eqb, leb, cond, length, take, drop, get_or, Option, Some, None, refl, sym, ap, subst, ◌∙◌, inl, inr, arith}
use Rattle.std.specs.List.{list_all, list_any, position}
use Rattle.std.specs.Str.{is_utf8}
use Rattle.std.proofs.lemmas.Bool.{cases_Bool, and_parts, and_from, not_from_false, ne_eqb, leb-true, le-leb, eqb-true, or_cases}
use Rattle.std.proofs.lemmas.List.{take-append-drop, drop_more, length_push, drop-drop}
use Rattle.std.proofs.lemmas.List.Folds.{list_all-append}
use Rattle.std.proofs.lemmas.List.Quantifiers.{position-Some}
use Rattle.std.proofs.lemmas.Str.{IsUtf8-from_is_utf8, is_utf8-from_IsUtf8}
use Rattle.wire_base.specs.Texts.{is_text}
use Rattle.attr_tuples.specs.Lines.{is_line_byte, is_line}
use Rattle.attr_tuples.specs.Words.{is_gap, gap_len}
use Rattle.attr_tuples.proofs.LineLemmas.{before_ascii, behind_ascii}
use Rattle.attr_tuples.specs.declared.attr.Attr.{Attr}
use Rattle.attr_tuples.specs.declared.attr.Value.TheVariants.{Ask, Bare}
use Rattle.attr_tuples.specs.Attributes.{is_name, is_value, is_attr, is_tuple}
use Rattle.attr_tuples.specs.Steps.{ReadsName}
use Rattle.attr_tuples.specs.Grammar.{attr_of, cut_at, asking}

-- ---- lines

without_nul : (bytes : List ℕ) → list_all is_line_byte bytes ≡ true → list_any (λ b. eqb b 0) bytes ≡ false
without_nul [] h = refl
without_nul (b ∷ bytes) h =
    let parts = and_parts (is_line_byte b) (list_all is_line_byte bytes) h in
    let some : eqb b 0 ≡ false =
    elim (or_cases (leb 32 b) (eqb b 9) parts.0) [
      | inl high ↦ ne_eqb b 0 (λ e. omega (arith, leb-true 32 b high))
      | inr tab ↦ ne_eqb b 0 (λ e. omega (arith, eqb-true b 9 tab))
    ] in
    rw some (without_nul bytes parts.1)

-- a line is text
pub line_text : (bytes : List ℕ) → is_line bytes ≡ true → is_text bytes ≡ true
unfolding is_text
line_text bytes h =
    let parts = and_parts (list_all is_line_byte bytes) (is_utf8 bytes) h in
    and_from (not (list_any (λ b. eqb b 0) bytes)) (is_utf8 bytes) (not_from_false _ (without_nul bytes parts.0)) parts.1

-- a line, cut at a plain byte
pub split_line : (p : List ℕ) (b : ℕ) (xs : List ℕ) → b < 128 → is_line (p ++ b ∷ xs) ≡ true → (is_line p ≡ true) × (is_line xs ≡ true)
split_line p b xs low h =
    let parts = and_parts (list_all is_line_byte (p ++ b ∷ xs)) (is_utf8 (p ++ b ∷ xs)) h in
    let plain = and_parts (list_all is_line_byte p) (list_all is_line_byte (b ∷ xs)) (sym (list_all-append is_line_byte p (b ∷ xs)) ∙ parts.0) in
    let text = IsUtf8-from_is_utf8 (p ++ b ∷ xs) parts.1 in (
      and_from (list_all is_line_byte p) (is_utf8 p) plain.0 (is_utf8-from_IsUtf8 p (before_ascii p b xs low text)),
      and_from (list_all is_line_byte xs) (is_utf8 xs) (and_parts (is_line_byte b) (list_all is_line_byte xs) plain.1).1 (is_utf8-from_IsUtf8 xs (behind_ascii p b xs low text)),
    )

pub gap_low : (b : ℕ) → is_gap b ≡ true → b < 128
gap_low b h = elim (or_cases (eqb b 32) (eqb b 9) h) [ inl e ↦ omega (arith, eqb-true b 32 e) | inr e ↦ omega (arith, eqb-true b 9 e) ]

-- behind the blanks and tabs at its head a line goes on as one
pub gap_line : (text : List ℕ) → is_line text ≡ true → is_line (drop (gap_len text) text) ≡ true
unfolding gap_len
gap_line [] h = h
gap_line (b ∷ text) h =
    elim (cases_Bool (is_gap b)) [
      | inr word ↦ rw word h
      | inl gap ↦
          (let rest = gap_line text (split_line [] b text (gap_low b gap) h).1 in
          let e : 1 + gap_len text ≡ gap_len (b ∷ text) = rw gap refl in
          let cut : drop (1 + gap_len text) (b ∷ text) ≡ drop (gap_len text) text = sym (drop-drop (gap_len text) 1 (b ∷ text)) in
          subst (λ (n : ℕ). is_line (drop n (b ∷ text)) ≡ true) e (ap is_line cut ∙ rest))
    ]

pub begin_line : (text : List ℕ) (next : ℕ) → is_line text ≡ true → next ≡ 0 + gap_len (drop 0 text) → is_line (drop next text) ≡ true
begin_line text next h e = ap (λ (n : ℕ). is_line (drop n text)) (omega (arith, e)) ∙ gap_line text h

pub next_line : (text : List ℕ) (end next : ℕ) → is_line (drop end text) ≡ true → next ≡ end + gap_len (drop end text) → is_line (drop next text) ≡ true
next_line text end next h e = ap (λ (n : ℕ). is_line (drop n text)) e ∙ ap is_line (sym (drop-drop (gap_len (drop end text)) end text)) ∙ gap_line (drop end text) h

-- ---- a word, cut

cut_is : (word : List ℕ) (at b : ℕ) → at < length word → get_or word at 0 ≡ b → word ≡ take at word ++ b ∷ drop (at + 1) word
cut_is word at b lt e = sym (take-append-drop at word) ∙ ap (λ (rest : List ℕ). take at word ++ rest) (drop_more word at 0 lt ∙ ap (λ (x : ℕ). x ∷ drop (at + 1) word) e)

abbrev pub IsLineAttr : Attr → Type 0
IsLineAttr a = (is_line a.name ≡ true) × (is_value a.value ≡ true)

some_last : (word : List ℕ) → get_or word (length word - 1) 0 ≡ 63 → 1 ≤ length word
some_last [] e = absurd (omega (arith, e))
some_last (b ∷ word) e = omega arith

pub asking_is : (word : List ℕ) (t : Bool) → eqb (get_or word (length word - 1) 0) 63 ≡ t →
    asking word ≡ cond t (record { name = take (length word - 1) word; value = Ask }) (record { name = word; value = Bare })
asking_is word t e = ap (λ (b : Bool). cond b (record { name = take (length word - 1) word; value = Ask }) (record { name = word; value = Bare })) e

asking_line : (word : List ℕ) → is_line word ≡ true → IsLineAttr (asking word)
asking_line word h =
    let asked : Attr = record { name = take (length word - 1) word; value = Ask } in
    let alone : Attr = record { name = word; value = Bare } in
    elim (cases_Bool (eqb (get_or word (length word - 1) 0) 63)) [
      | inr bare ↦ (let is : asking word ≡ alone = asking_is word false bare in subst IsLineAttr (sym is) (h, refl))
      | inl asks ↦
          (let is : asking word ≡ asked = asking_is word true asks in
          let mark = eqb-true (get_or word (length word - 1) 0) 63 asks in
          let long = some_last word mark in
          let whole = cut_is word (length word - 1) 63 (omega arith) mark in
          let front = (split_line (take (length word - 1) word) 63 (drop (length word - 1 + 1) word) (omega arith) (ap is_line (sym whole) ∙ h)).0 in
          subst IsLineAttr (sym is) (front, refl))
    ]

cut_line : (word : List ℕ) (at : Option ℕ) → position (λ b. eqb b 61) word ≡ at → is_line word ≡ true → IsLineAttr (cut_at word at)
cut_line word None e h = asking_line word h
cut_line word (Some at) e h =
    let found = position-Some (λ b. eqb b 61) word at 0 e in
    let whole = cut_is word at 61 found.0 (eqb-true (get_or word at 0) 61 found.1) in
    let lines = split_line (take at word) 61 (drop (at + 1) word) (omega arith) (ap is_line (sym whole) ∙ h) in
    let value = drop (at + 1) word in
    (lines.0, and_from (list_all is_line_byte value) (is_text value) (and_parts (list_all is_line_byte value) (is_utf8 value) lines.1).0 (line_text value lines.1))

pub attr_line : (word : List ℕ) → is_line word ≡ true → IsLineAttr (attr_of word)
unfolding attr_of
attr_line word h = cut_line word (position (λ b. eqb b 61) word) refl h

pub name_text : (word : List ℕ) → is_line word ≡ true → is_text (attr_of word).name ≡ true
name_text word h = line_text (attr_of word).name (attr_line word h).0

pub value_text_is : (word : List ℕ) → is_line word ≡ true → is_value (attr_of word).value ≡ true
value_text_is word h = (attr_line word h).1

-- one more attribute of a tuple that isn't full
pub tuple_more : (done more : List Attr) (a : Attr) → is_tuple done ≡ true → length done < 36 → more ≡ done ++ a ∷ [] → is_name a.name ≡ true → is_value a.value ≡ true → is_tuple more ≡ true
tuple_more done more a h few e name value =
    let parts = and_parts (leb (length done) 36) (list_all is_attr done) h in
    let count : length (done ++ a ∷ []) ≤ 36 = omega (arith, length_push done a) in
    ap is_tuple e ∙ and_from (leb (length (done ++ a ∷ [])) 36) (list_all is_attr (done ++ a ∷ [])) (le-leb (length (done ++ a ∷ [])) 36 count)
    (list_all-append is_attr done (a ∷ []) ∙ and_from (list_all is_attr done) (list_all is_attr (a ∷ [])) parts.1 (and_from (is_attr a) true (and_from (is_name a.name) (is_value a.value) name value) refl))

-- what is answered of a word's attribute
pub reads_some : (r : Option Attr) (attr a : Attr) → r ≡ Some attr → ReadsName r a → (attr ≡ a) × (is_name a.name ≡ true)
reads_some r attr a e h = subst (λ (x : Option Attr). ReadsName x a) e h

pub reads_none : (r : Option Attr) (a : Attr) → r ≡ None → ReadsName r a → is_name a.name ≡ false
reads_none r a e h = subst (λ (x : Option Attr). ReadsName x a) e h
