-- How often a number stands among others, and how often conversations wait for replies.
use Rattle.std.proofs.Common.{◌≡◌, ◌≤◌, ◌+◌, ◌++◌, ◌==◌, ℕ, List, [], ◌∷◌, Bool, true, false, map, filter, not, cond, eqb, Some, refl, sym, ap, ◌∙◌, arith, drop, ◌||◌, append-nil, append_assoc}
use Rattle.std.specs.List.{list_any}
use Rattle.std.proofs.lemmas.Bool.{eq-eqb, eqb-true, false≢true}
use Rattle.side_files.specs.declared.prompt.Prompt.{Prompt}
use Rattle.side_files.specs.declared.prompt.Asker.{Asker}
use Rattle.side_files.specs.Askers.{asker_in, without_asked, without_conv, without_tag}
use Rattle.side_files.specs.Questions.{Questions, asked_by, asker, asker_of, opens, prompt, read, replied, standing as waiting, withdrawn}
use Rattle.agent_talks.specs.Asking.{times}

-- some number is this one
abbrev pub has : ℕ → List ℕ → Bool
has n ns = list_any (λ m. m == n) ns

-- those who wait
abbrev pub convs : Questions → List ℕ
convs q = map (λ a. a.conv) (waiting q)

-- ---- numbers

times_both : (xs ys : List ℕ) (n : ℕ) → times n (xs ++ ys) ≡ times n xs + times n ys
times_both [] ys n = omega arith
times_both (x ∷ xs) ys n = step (eqb x n) (times n (xs ++ ys)) (times n xs) (times n ys) (times_both xs ys n)
  where
    step : (b : Bool) (a s t : ℕ) → a ≡ s + t → cond b (a + 1) a ≡ cond b (s + 1) s + t
    step true a s t e = omega (arith, e)
    step false a s t e = e

pub none_times : (xs : List ℕ) (n : ℕ) → has n xs ≡ false → times n xs ≡ 0
none_times [] n e = refl
none_times (x ∷ xs) n e = step (eqb x n) (has n xs) (times n xs) e (none_times xs n)
  where
    step : (b more : Bool) (t : ℕ) → (b || more) ≡ false → (more ≡ false → t ≡ 0) → cond b (t + 1) t ≡ 0
    step true more t e f = absurd (false≢true (sym e))
    step false more t e f = f e

pub times_none : (xs : List ℕ) (n : ℕ) → times n xs ≡ 0 → has n xs ≡ false
times_none [] n e = refl
times_none (x ∷ xs) n e = step (eqb x n) (has n xs) (times n xs) e (times_none xs n)
  where
    step : (b more : Bool) (t : ℕ) → cond b (t + 1) t ≡ 0 → (t ≡ 0 → more ≡ false) → (b || more) ≡ false
    step true more t e f = absurd (omega (arith, e))
    step false more t e f = f e

pub some_times : (xs : List ℕ) (n : ℕ) → has n xs ≡ true → 1 ≤ times n xs
some_times [] n e = absurd (false≢true e)
some_times (x ∷ xs) n e = step (eqb x n) (has n xs) (times n xs) e (some_times xs n)
  where
    step : (b more : Bool) (t : ℕ) → (b || more) ≡ true → (more ≡ true → 1 ≤ t) → 1 ≤ cond b (t + 1) t
    step true more t e f = omega arith
    step false more t e f = f e

pub times_some : (xs : List ℕ) (n : ℕ) → 1 ≤ times n xs → has n xs ≡ true
times_some [] n e = absurd (omega (arith, e))
times_some (x ∷ xs) n e = step (eqb x n) (has n xs) (times n xs) e (times_some xs n)
  where
    step : (b more : Bool) (t : ℕ) → 1 ≤ cond b (t + 1) t → (1 ≤ t → more ≡ true) → (b || more) ≡ true
    step true more t e f = refl
    step false more t e f = f e

-- one that stands there no oftener than elsewhere stands elsewhere
pub more_has : (xs ys : List ℕ) (n : ℕ) → times n xs ≤ times n ys → has n xs ≡ true → has n ys ≡ true
more_has xs ys n le e = let some = some_times xs n e in times_some ys n (omega (arith, some, le))

-- ---- what is left of those who wait

grows : (b : Bool) (s t : ℕ) → s ≤ t → cond b (s + 1) s ≤ cond b (t + 1) t
grows true s t e = omega (arith, e)
grows false s t e = e

widens : (b : Bool) (s t : ℕ) → s ≤ t → s ≤ cond b (t + 1) t
widens true s t e = omega (arith, e)
widens false s t e = e

left_askers : (keep : Asker → Bool) (xs : List Asker) (n : ℕ) → times n (map (λ a. a.conv) (filter keep xs)) ≤ times n (map (λ a. a.conv) xs)
left_askers keep [] n = omega arith
left_askers keep (x ∷ xs) n = step (keep x) (left_askers keep xs n)
  where
    step : (k : Bool) → times n (map (λ a. a.conv) (filter keep xs)) ≤ times n (map (λ a. a.conv) xs) → times n (map (λ a. a.conv) (cond k (x ∷ filter keep xs) (filter keep xs))) ≤ times n (map (λ a. a.conv) (x ∷ xs))
    step true le = grows (eqb x.conv n) (times n (map (λ a. a.conv) (filter keep xs))) (times n (map (λ a. a.conv) xs)) le
    step false le = widens (eqb x.conv n) (times n (map (λ a. a.conv) (filter keep xs))) (times n (map (λ a. a.conv) xs)) le

left_prompts : (keep : Prompt → Bool) (xs : List Prompt) (n : ℕ) → times n (map (λ a. a.conv) (map asker (filter keep xs))) ≤ times n (map (λ a. a.conv) (map asker xs))
left_prompts keep [] n = omega arith
left_prompts keep (x ∷ xs) n = step (keep x) (left_prompts keep xs n)
  where
    step : (k : Bool) → times n (map (λ a. a.conv) (map asker (filter keep xs))) ≤ times n (map (λ a. a.conv) (map asker xs)) → times n (map (λ a. a.conv) (map asker (cond k (x ∷ filter keep xs) (filter keep xs)))) ≤ times n (map (λ a. a.conv) (map asker (x ∷ xs)))
    step true le = grows (eqb x.conv n) (times n (map (λ a. a.conv) (map asker (filter keep xs)))) (times n (map (λ a. a.conv) (map asker xs))) le
    step false le = widens (eqb x.conv n) (times n (map (λ a. a.conv) (map asker (filter keep xs)))) (times n (map (λ a. a.conv) (map asker xs))) le

-- of those that were read and of those that weren't
pub parts_times : (os ps : List Asker) (n : ℕ) → times n (map (λ a. a.conv) (os ++ ps)) ≡ times n (map (λ a. a.conv) os) + times n (map (λ a. a.conv) ps)
parts_times [] ps n = omega arith
parts_times (o ∷ os) ps n = step (eqb o.conv n) (times n (map (λ a. a.conv) (os ++ ps))) (times n (map (λ a. a.conv) os)) (times n (map (λ a. a.conv) ps)) (parts_times os ps n)
  where
    step : (b : Bool) (a s t : ℕ) → a ≡ s + t → cond b (a + 1) a ≡ cond b (s + 1) s + t
    step true a s t e = omega (arith, e)
    step false a s t e = e

pub withdrawn_fewer : (q : Questions) (conv n : ℕ) → times n (convs (withdrawn conv q)) ≤ times n (convs q)
withdrawn_fewer q conv n =
    let now = parts_times (without_conv conv q.opened) (map asker (without_asked conv q.unread)) n in
    let was = parts_times q.opened (map asker q.unread) n in
    let opened = left_askers (λ (a : Asker). not (a.conv == conv)) q.opened n in
    let unread = left_prompts (λ (p : Prompt). not (p.conv == conv)) q.unread n in
    omega (arith, now, was, opened, unread)

pub replied_fewer : (q : Questions) (tag n : ℕ) → times n (convs (replied tag q)) ≤ times n (convs q)
replied_fewer q tag n =
    let now = parts_times (without_tag tag q.opened) (map asker q.unread) n in
    let was = parts_times q.opened (map asker q.unread) n in
    let opened = left_askers (λ (a : Asker). not (a.tag == tag)) q.opened n in
    omega (arith, now, was, opened)

-- ---- the question of a tag is replied to

one_less : (tag conv : ℕ) (xs : List Asker) → asker_in tag xs ≡ Some conv → times conv (map (λ a. a.conv) (without_tag tag xs)) + 1 ≤ times conv (map (λ a. a.conv) xs)
one_less tag conv [] e = absurd cc
one_less tag conv (x ∷ xs) e = step (eqb x.tag tag) e (one_less tag conv xs) (left_askers (λ (a : Asker). not (a.tag == tag)) xs conv)
  where
    here : (b : Bool) (s t : ℕ) → b ≡ true → s ≤ t → s + 1 ≤ cond b (t + 1) t
    here true s t is le = omega (arith, le)
    here false s t is le = absurd (false≢true is)

    there : (b : Bool) (s t : ℕ) → s + 1 ≤ t → cond b (s + 1) s + 1 ≤ cond b (t + 1) t
    there true s t le = omega (arith, le)
    there false s t le = le

    step : (b : Bool) → cond b (Some x.conv) (asker_in tag xs) ≡ Some conv → (asker_in tag xs ≡ Some conv → times conv (map (λ a. a.conv) (without_tag tag xs)) + 1 ≤ times conv (map (λ a. a.conv) xs))
        → times conv (map (λ a. a.conv) (without_tag tag xs)) ≤ times conv (map (λ a. a.conv) xs)
        → times conv (map (λ a. a.conv) (cond (not b) (x ∷ without_tag tag xs) (without_tag tag xs))) + 1 ≤ times conv (map (λ a. a.conv) (x ∷ xs))
    step true is more le = let same : x.conv ≡ conv = cc in here (eqb x.conv conv) (times conv (map (λ a. a.conv) (without_tag tag xs))) (times conv (map (λ a. a.conv) xs)) (eq-eqb x.conv conv same) le
    step false is more le = there (eqb x.conv conv) (times conv (map (λ a. a.conv) (without_tag tag xs))) (times conv (map (λ a. a.conv) xs)) (more is)

pub replied_less : (q : Questions) (tag conv : ℕ) → asker_of tag q ≡ Some conv → times conv (convs (replied tag q)) + 1 ≤ times conv (convs q)
replied_less q tag conv e =
    let now = parts_times (without_tag tag q.opened) (map asker q.unread) conv in
    let was = parts_times q.opened (map asker q.unread) conv in
    let opened = one_less tag conv q.opened e in
    omega (arith, now, was, opened)

-- who asked it waits
pub asker_waits : (q : Questions) (tag conv : ℕ) → asker_of tag q ≡ Some conv → has conv (convs q) ≡ true
asker_waits q tag conv e = let less = replied_less q tag conv e in times_some (convs q) conv (omega (arith, less))

-- ---- one more asks

unread_last : (xs : List Prompt) (p : Prompt) → map (λ (a : Asker). a.conv) (map asker (xs ++ p ∷ [])) ≡ map (λ (a : Asker). a.conv) (map asker xs) ++ p.conv ∷ []
unread_last [] p = refl
unread_last (x ∷ xs) p = ap (λ (ns : List ℕ). x.conv ∷ ns) (unread_last xs p)

opened_last : (os : List Asker) (xs : List Prompt) (p : Prompt) → map (λ (a : Asker). a.conv) (os ++ map asker (xs ++ p ∷ [])) ≡ map (λ (a : Asker). a.conv) (os ++ map asker xs) ++ p.conv ∷ []
opened_last [] xs p = unread_last xs p
opened_last (o ∷ os) xs p = ap (λ (ns : List ℕ). o.conv ∷ ns) (opened_last os xs p)

pub asked_last : (q : Questions) (conv : ℕ) (line : List ℕ) → convs (asked_by conv line q) ≡ convs q ++ conv ∷ []
asked_last q conv line = opened_last q.opened q.unread (prompt (q.asked + 1) conv line)

-- each waits once, where who asks now didn't wait
pub asked_once : (q : Questions) (conv : ℕ) (line : List ℕ) (n : ℕ) → has conv (convs q) ≡ false → times n (convs q) ≤ 1 → times n (convs (asked_by conv line q)) ≤ 1
asked_once q conv line n none le =
    let now : times n (convs (asked_by conv line q)) ≡ times n (convs q) + times n (conv ∷ []) = ap (times n) (asked_last q conv line) ∙ times_both (convs q) (conv ∷ []) n in
    by_place (eqb conv n) refl now
  where
    by_place : (b : Bool) → eqb conv n ≡ b → times n (convs (asked_by conv line q)) ≡ times n (convs q) + cond b (0 + 1) 0 → times n (convs (asked_by conv line q)) ≤ 1
    by_place true is now = let zero_times : times n (convs q) ≡ 0 = none_times (convs q) n (ap (λ (m : ℕ). has m (convs q)) (sym (eqb-true conv n is)) ∙ none) in omega (arith, zero_times, now)
    by_place false is now = omega (arith, le, now)

-- ---- the first question is read

pub read_waits : (q : Questions) → convs (read q) ≡ convs q
read_waits q = ap (map (λ (a : Asker). a.conv)) (same q.unread)
  where
    same : (ps : List Prompt) → (q.opened ++ opens ps) ++ map asker (drop 1 ps) ≡ q.opened ++ map asker ps
    same [] = append-nil (q.opened ++ []) ∙ refl
    same (p ∷ ps) = append_assoc q.opened (asker p ∷ []) (map asker ps)
