-- A table read line by line: what one line more leaves.
use Rattle.std.proofs.Common.{◌≡◌, ℕ, ◌+◌, ◌<◌, ◌≤◌, List, [], ◌∷◌, ◌++◌, Bool, true, false, length, Option, Some, None, sym, ap, ◌∙◌, arith}
use Rattle.std.specs.Prelude.{IfSome}
use Rattle.std.specs.Borrow.{Bor}
use Rattle.std.proofs.lemmas.List.{append_assoc}
use Rattle.std.proofs.lemmas.Bool.{cond-true, cond-false}
use Rattle.attr_tuples.specs.Cutting.{text_lines, lines_left, turns_left}
use Rattle.auth_tables.specs.Lines.{first_bad, first_bad_behind, is_bad}
use Rattle.auth_tables.specs.Steps.{IsBehind, HasRead}

module _ (fits : List (List ℕ) → List ℕ → Bool) (lines before : List (List ℕ)) (left : Option (Bor (List ℕ))) (number count : ℕ) (h : HasRead fits lines left number count before) where
  -- the lines that are left, by the first of them
  cut_at : (text : Bor (List ℕ)) (rest : Option (Bor (List ℕ))) (line : List ℕ) → left ≡ Some text → text_lines text.now ≡ line ∷ lines_left rest → lines_left left ≡ line ∷ lines_left rest
  cut_at text rest line e cut = ap lines_left e ∙ cut

  -- a line that isn't bad
  pub next_read : (text : Bor (List ℕ)) (rest : Option (Bor (List ℕ))) (line : List ℕ) (new_number new_count : ℕ)
      → left ≡ Some text → text_lines text.now ≡ line ∷ lines_left rest → is_bad fits before line ≡ false → IsBehind (before ++ line ∷ []) new_number new_count
      → HasRead fits lines rest new_number new_count (before ++ line ∷ [])
  next_read text rest line new_number new_count e cut good behind = record {
    whole = h.whole ∙ (ap (λ (ls : List (List ℕ)). before ++ ls) (cut_at text rest line e cut) ∙ sym (append_assoc before (line ∷ []) (lines_left rest)));
    behind = behind;
    bad = sym (ap (first_bad_behind fits before) (cut_at text rest line e cut) ∙ cond-false (is_bad fits before line) _ _ good) ∙ h.bad;
  }

  -- a line that is bad
  pub bad_read : (text : Bor (List ℕ)) (rest : Option (Bor (List ℕ))) (line : List ℕ) (n : ℕ)
      → left ≡ Some text → text_lines text.now ≡ line ∷ lines_left rest → is_bad fits before line ≡ true → n ≡ length before + 1
      → first_bad fits lines ≡ Some n
  unfolding first_bad
  bad_read text rest line n e cut bad is =
      sym h.bad ∙ (ap (first_bad_behind fits before) (cut_at text rest line e cut) ∙ (cond-true (is_bad fits before line) _ _ bad ∙ ap Some (sym is)))

  -- no line is left
  pub all_read : left ≡ None → first_bad fits lines ≡ None
  unfolding first_bad
  all_read e = sym h.bad ∙ ap (λ (rest : Option (Bor (List ℕ))). first_bad_behind fits before (lines_left rest)) e

-- a line more, and fewer turns left
turn_on : (text : Bor (List ℕ)) (rest : Option (Bor (List ℕ))) (n room : ℕ) → IfSome rest (λ r. length r.now < length text.now) → n + (length text.now + 1) ≤ room → (n + 1) + turns_left rest ≤ room
turn_on text None n room h le = omega (arith, le)
turn_on text (Some r) n room h le = omega (arith, h, le)

pub turns_fall : (left : Option (Bor (List ℕ))) (text : Bor (List ℕ)) (rest : Option (Bor (List ℕ))) (n m room : ℕ) → left ≡ Some text → IfSome rest (λ r. length r.now < length text.now) → m ≡ n + 1 → n + turns_left left ≤ room → m + turns_left rest ≤ room
turns_fall left text rest n m room e h one le =
    let before : turns_left left ≡ length text.now + 1 = ap turns_left e in
    let on : (n + 1) + turns_left rest ≤ room = turn_on text rest n room h (omega (arith, le, before)) in
    omega (arith, on, one)
