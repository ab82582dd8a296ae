-- A text of labels is read line by line.
use Rattle.std.proofs.Common.{◌≡◌, ℕ, eqb, inl, inr, ◌+◌, ◌<◌, ◌≤◌, List, [], ◌∷◌, ◌++◌, true, false, length, length-append, map, refl, sym, ap, ◌∙◌, append_assoc, append-nil, arith, subst}
use Rattle.std.specs.List.{join_with_byte}
use Rattle.std.proofs.lemmas.List.{map-append}
use Rattle.std.proofs.lemmas.List.Splits.{join_with_byte-slice_split}
use Rattle.attr_tuples.specs.Cutting.{text_lines}
use Rattle.trace_labels.specs.declared.line.LabelLine.{LabelLine}
use Rattle.trace_labels.specs.Left.{is_over}
use Rattle.trace_labels.specs.Lines.{Line, IsLine}
use Rattle.trace_labels.specs.Labels.{AreLines, AreLinesBehind, IsBad, IsFirstBad, is_repeated, label_lines, unless_empty, whole_lines}
use Rattle.trace_labels.specs.Said.{said}
use Rattle.trace_labels.proofs.Splits.{never_over}

-- ---- the first line

whole_on : (line : List ℕ) (lines : List (List ℕ)) → is_over lines ≡ false → whole_lines (line ∷ lines) ≡ line ∷ whole_lines lines
whole_on line [] h = absurd cc
whole_on line (next ∷ lines) h = refl

pub first_on : (text line rest : List ℕ) → text_lines text ≡ line ∷ text_lines rest → label_lines text ≡ line ∷ label_lines rest
first_on text line rest h = ap whole_lines h ∙ whole_on line (text_lines rest) (never_over (λ b. eqb b 10) rest)

some_kept : (line : List ℕ) → 0 < length line → unless_empty line ≡ line ∷ []
some_kept [] h = absurd (omega (arith, h))
some_kept (b ∷ line) h = refl

pub first_end : (text line : List ℕ) → text_lines text ≡ line ∷ [] → 0 < length text → label_lines text ≡ line ∷ label_lines []
first_end text line h some =
    let same : line ≡ text = ap (join_with_byte 10) (sym h) ∙ join_with_byte-slice_split 10 text in
    let longer = ap length same in
    ap whole_lines h ∙ some_kept line (omega (arith, some, longer))

-- ---- lines behind lines

pub lines_last : (earlier : List Line) (texts : List (List ℕ)) (lines : List Line) (text : List ℕ) (line : Line) → AreLinesBehind earlier texts lines → IsLine line text → is_repeated line (earlier ++ lines) ≡ false → AreLinesBehind earlier (texts ++ text ∷ []) (lines ++ line ∷ [])
lines_last earlier [] [] text line are is new = (is, ap (is_repeated line) (sym (append-nil earlier)) ∙ new, tt)
lines_last earlier [] (other ∷ lines) text line are is new = absurd are
lines_last earlier (first ∷ texts) [] text line are is new = absurd are
lines_last earlier (first ∷ texts) (other ∷ lines) text line (one, apart, more) is new =
    (one, apart, lines_last (earlier ++ other ∷ []) texts lines text line more is (ap (is_repeated line) (append_assoc earlier (other ∷ []) lines) ∙ new))

-- so far these lines were read of the front
pub record HasLines (all left : List ℕ) (number : ℕ) (lines : List LabelLine) : Type 0 where
  pub before : List (List ℕ)
  pub whole : label_lines all ≡ before ++ label_lines left
  pub counted : number ≡ length before
  pub are : AreLines before (map said lines)
  pub room : number + length left ≤ length all

pub none_yet : (all : List ℕ) (lines : List LabelLine) → lines ≡ [] → HasLines all all 0 lines
none_yet all lines e = record { before = []; whole = refl; counted = refl; are = rw e tt; room = omega arith }

pub line_more : (all left rest text : List ℕ) (number : ℕ) (lines new : List LabelLine) (line : Line) → HasLines all left number lines → label_lines left ≡ text ∷ label_lines rest → length rest < length left → IsLine line text → is_repeated line (map said lines) ≡ false → map said new ≡ map said lines ++ line ∷ [] → HasLines all rest (number + 1) new
line_more all left rest text number lines new line has first less is fresh put =
    let counted = has.counted in
    let room = has.room in
    let longer = length-append has.before (text ∷ []) in
    record {
      before = has.before ++ text ∷ [];
      whole = has.whole ∙ ap (λ ls. has.before ++ ls) first ∙ sym (append_assoc has.before (text ∷ []) (label_lines rest));
      counted = omega (arith, counted, longer);
      are = subst (AreLinesBehind [] (has.before ++ text ∷ [])) (sym put) (lines_last [] has.before (map said lines) text line has.are is fresh);
      room = omega (arith, room, less);
    }

pub first_bad : (all left rest text : List ℕ) (number : ℕ) (lines : List LabelLine) → HasLines all left number lines → label_lines left ≡ text ∷ label_lines rest → IsBad (map said lines) text → IsFirstBad (label_lines all) (map said lines) (number + 1)
first_bad all left rest text number lines has first bad =
    let counted = has.counted in
    record {
      before = has.before;
      bad = text;
      behind = label_lines rest;
      whole = has.whole ∙ ap (λ ls. has.before ++ ls) first;
      counted = omega (arith, counted);
      good = has.are;
      is_bad = bad;
    }

pub all_lines : (all left : List ℕ) (number : ℕ) (lines : List LabelLine) → HasLines all left number lines → left ≡ [] → AreLines (label_lines all) (map said lines)
all_lines all left number lines has e =
    let whole : label_lines all ≡ has.before = has.whole ∙ ap (λ l. has.before ++ label_lines l) e ∙ append-nil has.before in
    subst (λ texts. AreLines texts (map said lines)) (sym whole) has.are

pub line_put : (lines new : List LabelLine) (line : LabelLine) → new ≡ lines ++ line ∷ [] → map said new ≡ map said lines ++ said line ∷ []
line_put lines new line e = ap (map said) e ∙ map-append said lines (line ∷ [])

pub no_line : (before : List Line) (text : List ℕ) → ((line : Line) → IsLine line text → ⊥) → IsBad before text
no_line before text never = inl never

pub repeated_line : (before : List Line) (text : List ℕ) (line : Line) → IsLine line text → is_repeated line before ≡ true → IsBad before text
repeated_line before text line is again = inr (line, is, again)
