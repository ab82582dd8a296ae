-- The first bad line of a table.
use Rattle.std.proofs.Common.{◌≡◌, ◌↔◌, ℕ, ◌+◌, ◌<◌, ◌≤◌, not, ◌&&◌, ◌||◌, arith, subst, List, [], ◌∷◌, ◌++◌, Bool, true, false, cond, length, Option, Some, None, refl, sym, ap, ◌∙◌, inl, inr, append-nil}
use Rattle.std.proofs.lemmas.Bool.{cases_Bool, cond-true, cond-false, leb-false}
use Rattle.std.proofs.lemmas.List.{append_assoc}
use Rattle.std.specs.Prelude.{nat_le}
use Rattle.auth_tables.specs.Lines.{counted, counts, most_lines, IsFirstBad, NoneIsBad, first_bad, first_bad_behind, is_bad}

module _ (fits : List (List ℕ) → List ℕ → Bool) where
  bad_first : (before lines : List (List ℕ)) (line : List ℕ) → is_bad fits before line ≡ true → first_bad_behind fits before (line ∷ lines) ≡ Some (length before + 1)
  bad_first before lines line h = cond-true (is_bad fits before line) (Some (length before + 1)) (first_bad_behind fits (before ++ line ∷ []) lines) h

  good_first : (before lines : List (List ℕ)) (line : List ℕ) → is_bad fits before line ≡ false → first_bad_behind fits before (line ∷ lines) ≡ first_bad_behind fits (before ++ line ∷ []) lines
  good_first before lines line h = cond-false (is_bad fits before line) (Some (length before + 1)) (first_bad_behind fits (before ++ line ∷ []) lines) h

  -- where no line is bad, the search goes on behind them
  behind_good : (before lines later : List (List ℕ)) → first_bad_behind fits before lines ≡ None → first_bad_behind fits before (lines ++ later) ≡ first_bad_behind fits (before ++ lines) later
  behind_good before [] later h = ap (λ (ls : List (List ℕ)). first_bad_behind fits ls later) (sym (append-nil before))
  behind_good before (line ∷ lines) later h = elim (cases_Bool (is_bad fits before line)) [
    | inl bad ↦ absurd (let s : Some (length before + 1) ≡ None = sym (bad_first before lines line bad) ∙ h in cc)
    | inr good ↦
        good_first before (lines ++ later) line good
        ∙ (behind_good (before ++ line ∷ []) lines later (sym (good_first before lines line good) ∙ h)
        ∙ ap (λ (ls : List (List ℕ)). first_bad_behind fits ls later) (append_assoc before (line ∷ []) lines))
  ]

  -- a list that goes on is good as far as it goes
  good_front : (before lines later : List (List ℕ)) → first_bad_behind fits before (lines ++ later) ≡ None → first_bad_behind fits before lines ≡ None
  good_front before [] later h = refl
  good_front before (line ∷ lines) later h = elim (cases_Bool (is_bad fits before line)) [
    | inl bad ↦ absurd (let s : Some (length before + 1) ≡ None = sym (bad_first before (lines ++ later) line bad) ∙ h in cc)
    | inr good ↦ good_first before lines line good ∙ good_front (before ++ line ∷ []) lines later (sym (good_first before (lines ++ later) line good) ∙ h)
  ]

  told_first : (before : List (List ℕ)) (line : List ℕ) (behind : List (List ℕ)) → first_bad fits before ≡ None → is_bad fits before line ≡ true → first_bad fits (before ++ line ∷ behind) ≡ Some (length before + 1)
  unfolding first_bad
  told_first before line behind good bad = behind_good [] before (line ∷ behind) good ∙ bad_first before behind line bad

  none_bad : (before : List (List ℕ)) (line : List ℕ) (behind : List (List ℕ)) → first_bad fits (before ++ line ∷ behind) ≡ None → is_bad fits before line ≡ false
  unfolding first_bad
  none_bad before line behind h = elim (cases_Bool (is_bad fits before line)) [
    | inl bad ↦ absurd (
        let s : Some (length before + 1) ≡ None = sym (behind_good [] before (line ∷ behind) (good_front [] before (line ∷ behind) h) ∙ bad_first before behind line bad) ∙ h in cc)
    | inr good ↦ good
  ]

  -- the lines before a bad one, that line, and those behind it
  record Told (read lines : List (List ℕ)) (n : ℕ) : Type 0 where
    before : List (List ℕ)
    line : List ℕ
    behind : List (List ℕ)
    whole : lines ≡ before ++ line ∷ behind
    number : n ≡ length (read ++ before) + 1
    bad : is_bad fits (read ++ before) line ≡ true
    good : first_bad_behind fits read before ≡ None

  told_here : (read lines : List (List ℕ)) (line : List ℕ) (n : ℕ) → is_bad fits read line ≡ true → n ≡ length read + 1 → Told read (line ∷ lines) n
  told_here read lines line n h e = record {
    before = [];
    line = line;
    behind = lines;
    whole = refl;
    number = e ∙ ap (λ (ls : List (List ℕ)). length ls + 1) (sym (append-nil read));
    bad = ap (λ (ls : List (List ℕ)). is_bad fits ls line) (append-nil read) ∙ h;
    good = refl;
  }

  told_later : (read lines : List (List ℕ)) (line : List ℕ) (n : ℕ) → is_bad fits read line ≡ false → Told (read ++ line ∷ []) lines n → Told read (line ∷ lines) n
  told_later read lines line n h t = record {
    before = line ∷ t.before;
    line = t.line;
    behind = t.behind;
    whole = ap (λ (ls : List (List ℕ)). line ∷ ls) t.whole;
    number = t.number ∙ ap (λ (ls : List (List ℕ)). length ls + 1) (append_assoc read (line ∷ []) t.before);
    bad = ap (λ (ls : List (List ℕ)). is_bad fits ls t.line) (sym (append_assoc read (line ∷ []) t.before)) ∙ t.bad;
    good = good_first read t.before line h ∙ t.good;
  }

  told_at : (read lines : List (List ℕ)) (n : ℕ) → first_bad_behind fits read lines ≡ Some n → Told read lines n
  told_at read [] n h = absurd cc
  told_at read (line ∷ lines) n h = elim (cases_Bool (is_bad fits read line)) [
    | inl bad ↦ told_here read lines line n bad (let s : Some n ≡ Some (length read + 1) = sym h ∙ bad_first read lines line bad in cc)
    | inr good ↦ told_later read lines line n good (told_at (read ++ line ∷ []) lines n (sym (good_first read lines line good) ∙ h))
  ]

  told_then : (lines : List (List ℕ)) (n : ℕ) → first_bad fits lines ≡ Some n → IsFirstBad fits lines n
  unfolding first_bad
  told_then lines n h = let t = told_at [] lines n h in record { before = t.before; line = t.line; behind = t.behind; whole = t.whole; number = t.number; bad = t.bad; good = t.good }

  then_told : (lines : List (List ℕ)) (n : ℕ) → IsFirstBad fits lines n → first_bad fits lines ≡ Some n
  then_told lines n h = ap (first_bad fits) h.whole ∙ (told_first h.before h.line h.behind h.good h.bad ∙ ap Some (sym h.number))

  pub told_iff : (lines : List (List ℕ)) (n : ℕ) → first_bad fits lines ≡ Some n ↔ IsFirstBad fits lines n
  told_iff lines n = (told_then lines n, then_told lines n)

  none_then : (lines : List (List ℕ)) → first_bad fits lines ≡ None → NoneIsBad fits lines
  none_then lines h before line behind whole = none_bad before line behind (sym (ap (first_bad fits) whole) ∙ h)

  then_none : (lines : List (List ℕ)) → NoneIsBad fits lines → first_bad fits lines ≡ None
  then_none lines h = by_told (first_bad fits lines) refl
    where
      by_told : (o : Option ℕ) → first_bad fits lines ≡ o → first_bad fits lines ≡ None
      by_told None e = e
      by_told (Some n) e = absurd (let t = told_then lines n e in let bad : true ≡ false = sym t.bad ∙ h t.before t.line t.behind t.whole in cc)

  pub none_iff : (lines : List (List ℕ)) → first_bad fits lines ≡ None ↔ NoneIsBad fits lines
  none_iff lines = (none_then lines, then_none lines)

-- ---- how many lines count

counted_more : (before : List (List ℕ)) (line : List ℕ) → length (counted (before ++ line ∷ [])) ≡ length (counted before) + cond (counts line) 1 0
counted_more [] line = by_test (counts line)
  where
    by_test : (b : Bool) → length (cond b (line ∷ []) []) ≡ 0 + cond b 1 0
    by_test true = refl
    by_test false = refl
counted_more (other ∷ before) line = by_test (counts other) (counted_more before line)
  where
    by_test : (b : Bool) → length (counted (before ++ line ∷ [])) ≡ length (counted before) + cond (counts line) 1 0 → length (cond b (other ∷ counted (before ++ line ∷ [])) (counted (before ++ line ∷ []))) ≡ length (cond b (other ∷ counted before) (counted before)) + cond (counts line) 1 0
    by_test true h = omega (arith, h)
    by_test false h = h

room_for : (n : ℕ) (c fit : Bool) → n ≤ most_lines → (c && (nat_le most_lines n || not fit)) ≡ false → n + cond c 1 0 ≤ most_lines
room_for n true fit h good = elim (cases_Bool (nat_le most_lines n)) [
  | inl y ↦ absurd (let s : true ≡ false = ap (λ (b : Bool). b || not fit) (sym y) ∙ good in cc)
  | inr few ↦ let lt : n < 4096 = leb-false 4096 n few in omega (arith, lt)
]
room_for n false fit h good = omega (arith, h)

rest_counted : (fits : List (List ℕ) → List ℕ → Bool) (before lines : List (List ℕ)) → length (counted before) ≤ most_lines → first_bad_behind fits before lines ≡ None → length (counted (before ++ lines)) ≤ most_lines
rest_counted fits before [] h good = subst (λ (lines : List (List ℕ)). length (counted lines) ≤ most_lines) (sym (append-nil before)) h
rest_counted fits before (line ∷ lines) h good = elim (cases_Bool (is_bad fits before line)) [
  | inl bad ↦ absurd (let s : Some (length before + 1) ≡ None = sym (bad_first fits before lines line bad) ∙ good in cc)
  | inr fine ↦
      subst (λ (lines : List (List ℕ)). length (counted lines) ≤ most_lines) (append_assoc before (line ∷ []) lines)
      (rest_counted fits (before ++ line ∷ []) lines (subst (λ (n : ℕ). n ≤ most_lines) (sym (counted_more before line)) (room_for (length (counted before)) (counts line) (fits (counted before) line) h fine))
      (sym (good_first fits before lines line fine) ∙ good))
]

-- where no line is bad, no more count than may
pub few_count : (fits : List (List ℕ) → List ℕ → Bool) (lines : List (List ℕ)) → first_bad fits lines ≡ None → length (counted lines) ≤ most_lines
unfolding first_bad
few_count fits lines good = rest_counted fits [] lines (omega arith) good
