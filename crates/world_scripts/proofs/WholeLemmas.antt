-- No line of a text has a newline in it.
use Rattle.std.proofs.Common.{◌≡◌, ℕ, ◌+◌, List, [], ◌∷◌, Bool, true, not, ◌&&◌, eqb, Option, Some, None, refl, ap, ◌∙◌, inl, inr}
use Rattle.std.specs.Borrow.{Bor}
use Rattle.std.specs.List.{list_all, onto_first}
use Rattle.std.proofs.lemmas.Bool.{cases_Bool, and_parts, and_from, not_from_false}
use Rattle.std.proofs.lemmas.List.Splits.{slice_split-cons_yes, slice_split-cons_no}
use Rattle.attr_tuples.specs.Cutting.{lines_left, text_lines}
use Rattle.world_scripts.specs.Scripts.{are_whole, is_skipped, is_whole, numbered}

onto_whole : (b : ℕ) (parts : List (List ℕ)) → not (eqb b 10) ≡ true → list_all is_whole parts ≡ true → list_all is_whole (onto_first b parts) ≡ true
onto_whole b [] first h = and_from (not (eqb b 10) && true) true (and_from (not (eqb b 10)) true first refl) refl
onto_whole b (part ∷ parts) first h =
    let both = and_parts (is_whole part) (list_all is_whole parts) h in
    and_from (not (eqb b 10) && is_whole part) (list_all is_whole parts) (and_from (not (eqb b 10)) (is_whole part) first both.0) both.1

lines_whole : (text : List ℕ) → list_all is_whole (text_lines text) ≡ true
lines_whole [] = refl
lines_whole (b ∷ text) = elim (cases_Bool (eqb b 10)) [
  | inl is ↦ ap (list_all is_whole) (slice_split-cons_yes (λ x. eqb x 10) b text is) ∙ lines_whole text
  | inr other ↦ ap (list_all is_whole) (slice_split-cons_no (λ x. eqb x 10) b text other) ∙ onto_whole b (text_lines text) (not_from_false (eqb b 10) other) (lines_whole text)
]

numbered_whole : (n : ℕ) (lines : List (List ℕ)) → list_all is_whole lines ≡ true → are_whole (numbered n lines) ≡ true
numbered_whole n [] h = refl
numbered_whole n (line ∷ lines) h =
    let both = and_parts (is_whole line) (list_all is_whole lines) h in
    let rest = numbered_whole (n + 1) lines both.1 in
    elim (cases_Bool (is_skipped line)) [
      | inl skipped ↦ rw skipped rest
      | inr taken ↦ rw taken (and_from (is_whole line) (are_whole (numbered (n + 1) lines)) both.0 rest)
    ]

pub left_whole : (n : ℕ) (left : Option (Bor (List ℕ))) → are_whole (numbered n (lines_left left)) ≡ true
left_whole n None = refl
left_whole n (Some text) = numbered_whole n (text_lines text.now) (lines_whole text.now)
