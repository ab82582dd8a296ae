-- Lists of conversations that stand and of questions: whom they have, and what stays when some are left out.
use Rattle.std.proofs.Common.{◌≡◌, ℕ, ◌+◌, ◌<◌, List, [], ◌∷◌, ◌++◌, map, filter, Bool, true, false, cond, eqb, not, ◌&&◌, ◌||◌, ◌==◌, Some, None, refl, sym, ap, ◌∙◌, inl, inr, arith}
use Rattle.std.specs.Prelude.{find, option_map}
use Rattle.std.specs.List.{list_any}
use Rattle.std.proofs.lemmas.Bool.{cases_Bool, eq-eqb, eqb-true, false≢true}
use Rattle.agent_history.specs.Deeds.{Deed, OfFids, OfKeys, OfReplies, OfConnection, OfTalk, OfPrompts, OfLog, Raised, HandedOut, DropTaken, Swept, Halted, Versioned, Attached, Walked, Opened, Listed, Browsed, Clunked, Entered, Hung, fid_of, names}
use Rattle.file_tree.specs.declared.tree.Node.TheVariants.{Rpc}
use Rattle.agent_history.specs.Conversations.{Question, Speaker, hand_first, opened_talks, speakers}
use Rattle.agent_talks.specs.Speaks.{asks_for, is_among}

-- ---- small steps

pub same : (n : ℕ) → eqb n n ≡ true
same n = eq-eqb n n refl

or_true : (b : Bool) → (b || true) ≡ true
or_true true = refl
or_true false = refl

or_false : (b : Bool) → (b || false) ≡ b
or_false true = refl
or_false false = refl

pub or_cases : {A : Type 0} (b c : Bool) → (b || c) ≡ true → (b ≡ true → A) → (c ≡ true → A) → A
or_cases true c e first second = first refl
or_cases false c e first second = second e

-- ---- one over another's elements

pub find_map : {X Y : Type 0} (f : X → Y) (p : Y → Bool) (xs : List X) → find p (map f xs) ≡ option_map f (find (λ x. p (f x)) xs)
find_map f p [] = refl
find_map f p (x ∷ xs) = elim (cases_Bool (p (f x))) [
  | inl e ↦ rw e refl
  | inr e ↦ rw e (find_map f p xs)
]

pub filter_map_same : {X Y : Type 0} (f : X → Y) (p : Y → Bool) (q : X → Bool) → ((x : X) → p (f x) ≡ q x) → (xs : List X) → map f (filter q xs) ≡ filter p (map f xs)
filter_map_same f p q h [] = refl
filter_map_same f p q h (x ∷ xs) = elim (cases_Bool (q x)) [
  | inl e ↦ rw (h x, e) (ap (λ ys. f x ∷ ys) (filter_map_same f p q h xs))
  | inr e ↦ rw (h x, e) (filter_map_same f p q h xs)
]

-- ---- conversations that stand

pub among_last : (xs : List Speaker) (s : Speaker) (q : ℕ) → is_among (xs ++ s ∷ []) q ≡ (is_among xs q || eqb s.conv q)
among_last [] s q = or_false (eqb s.conv q)
among_last (x ∷ xs) s q = ap (λ (b : Bool). eqb x.conv q || b) (among_last xs s q) ∙ swap (eqb x.conv q) (is_among xs q) (eqb s.conv q)
  where
    swap : (a b c : Bool) → (a || (b || c)) ≡ ((a || b) || c)
    swap true b c = refl
    swap false b c = refl

-- those that are left were there
pub left_among : (keep : Speaker → Bool) (xs : List Speaker) (q : ℕ) → is_among xs q ≡ false → is_among (filter keep xs) q ≡ false
left_among keep [] q e = refl
left_among keep (s ∷ xs) q e = step (eqb s.conv q) (keep s) e refl (left_among keep xs q)
  where
    step : (b k : Bool) → (b || is_among xs q) ≡ false → eqb s.conv q ≡ b → (is_among xs q ≡ false → is_among (filter keep xs) q ≡ false) → is_among (cond k (s ∷ filter keep xs) (filter keep xs)) q ≡ false
    step true k e is more = absurd (false≢true (sym e))
    step false true e is more = rw is (more e)
    step false false e is more = more e

-- each number stands once
abbrev pub Apart : List Speaker → Type 0
Apart [] = Unit {0}
Apart (s ∷ xs) = (is_among xs s.conv ≡ false) × Apart xs

abbrev pub leaving : (Speaker → Bool) → ℕ → Speaker → Bool
leaving keep q s = not (keep s) && eqb s.conv q

here_once : (s : Speaker) (xs : List Speaker) (q : ℕ) → is_among xs s.conv ≡ false → is_among xs q ≡ true → eqb s.conv q ≡ false
here_once s xs q apart among = elim (cases_Bool (eqb s.conv q)) [
  | inl e ↦ absurd (false≢true (sym apart ∙ (ap (is_among xs) (eqb-true s.conv q e) ∙ among)))
  | inr e ↦ e
]

leaving_among : (keep : Speaker → Bool) (xs : List Speaker) (q : ℕ) → list_any (leaving keep q) xs ≡ true → is_among xs q ≡ true
leaving_among keep [] q e = absurd (false≢true e)
leaving_among keep (s ∷ xs) q e = step (keep s) (eqb s.conv q) e (leaving_among keep xs q)
  where
    step : (k b : Bool) → ((not k && b) || list_any (leaving keep q) xs) ≡ true → (list_any (leaving keep q) xs ≡ true → is_among xs q ≡ true) → (b || is_among xs q) ≡ true
    step k true e more = refl
    step true false e more = more e
    step false false e more = more e

-- one that leaves isn't among those that are left
pub left_gone : (keep : Speaker → Bool) (xs : List Speaker) (q : ℕ) → Apart xs → list_any (leaving keep q) xs ≡ true → is_among (filter keep xs) q ≡ false
left_gone keep [] q apart e = refl
left_gone keep (s ∷ xs) q apart e = step (keep s) (eqb s.conv q) refl e (left_gone keep xs q apart.1)
  where
    step : (k b : Bool) → eqb s.conv q ≡ b → ((not k && b) || list_any (leaving keep q) xs) ≡ true → (list_any (leaving keep q) xs ≡ true → is_among (filter keep xs) q ≡ false) → is_among (cond k (s ∷ filter keep xs) (filter keep xs)) q ≡ false
    step true true is e more = absurd (false≢true (sym (here_once s xs q apart.0 (leaving_among keep xs q e)) ∙ is))
    step true false is e more = rw is (more e)
    step false true is e more = left_among keep xs q (ap (is_among xs) (sym (eqb-true s.conv q is)) ∙ apart.0)
    step false false is e more = more e

-- and all others are
pub left_stays : (keep : Speaker → Bool) (xs : List Speaker) (q : ℕ) → list_any (leaving keep q) xs ≡ false → is_among (filter keep xs) q ≡ is_among xs q
left_stays keep [] q e = refl
left_stays keep (s ∷ xs) q e = step (keep s) (eqb s.conv q) refl e (left_stays keep xs q)
  where
    step : (k b : Bool) → eqb s.conv q ≡ b → ((not k && b) || list_any (leaving keep q) xs) ≡ false → (list_any (leaving keep q) xs ≡ false → is_among (filter keep xs) q ≡ is_among xs q) → is_among (cond k (s ∷ filter keep xs) (filter keep xs)) q ≡ (b || is_among xs q)
    step true true is e more = rw is refl
    step true false is e more = rw is (more e)
    step false true is e more = absurd (false≢true (sym e))
    step false false is e more = more e

apart_left : (keep : Speaker → Bool) (xs : List Speaker) → Apart xs → Apart (filter keep xs)
apart_left keep [] h = tt
apart_left keep (s ∷ xs) h = step (keep s) (apart_left keep xs h.1)
  where
    step : (k : Bool) → Apart (filter keep xs) → Apart (cond k (s ∷ filter keep xs) (filter keep xs))
    step true more = (left_among keep xs s.conv h.0, more)
    step false more = more

pub other_way : (a b : ℕ) → eqb a b ≡ false → eqb b a ≡ false
other_way a b e = elim (cases_Bool (eqb b a)) [
  | inl is ↦ absurd (false≢true (sym e ∙ eq-eqb a b (sym (eqb-true b a is))))
  | inr is ↦ is
]

apart_last : (xs : List Speaker) (s : Speaker) → Apart xs → is_among xs s.conv ≡ false → Apart (xs ++ s ∷ [])
apart_last [] s h none = (refl, tt)
apart_last (x ∷ xs) s h none = step (eqb x.conv s.conv) refl none (apart_last xs s h.1)
  where
    step : (b : Bool) → eqb x.conv s.conv ≡ b → (b || is_among xs s.conv) ≡ false → (is_among xs s.conv ≡ false → Apart (xs ++ s ∷ [])) → Apart (x ∷ (xs ++ s ∷ []))
    step true is none more = absurd (false≢true (sym none))
    step false is none more = (among_last xs s x.conv ∙ rw (h.0, other_way x.conv s.conv is) refl, more none)

-- numbers that stand are below a number
abbrev pub Below : ℕ → List Speaker → Type 0
Below top xs = (q : ℕ) → is_among xs q ≡ true → q < top

below_left : (top : ℕ) (keep : Speaker → Bool) (xs : List Speaker) → Below top xs → Below top (filter keep xs)
below_left top keep xs h = λ q e. elim (cases_Bool (is_among xs q)) [
  | inl is ↦ h q is
  | inr is ↦ absurd (false≢true (sym (left_among keep xs q is) ∙ e))
]

below_last : (top : ℕ) (xs : List Speaker) (s : Speaker) → s.conv ≡ top → Below top xs → Below (top + 1) (xs ++ s ∷ [])
below_last top xs s e h = λ q is. or_cases (is_among xs q) (eqb s.conv q) (sym (among_last xs s q) ∙ is) (λ among. omega (arith, h q among)) (λ here. omega (arith, e, eqb-true s.conv q here))

above_none : (top : ℕ) (xs : List Speaker) → Below top xs → is_among xs top ≡ false
above_none top xs h = elim (cases_Bool (is_among xs top)) [
  | inl is ↦ absurd (omega (arith, h top is))
  | inr is ↦ is
]

pub record Numbered (top : ℕ) (xs : List Speaker) : Type 0 where
  pub apart : Apart xs
  pub below : Below top xs

numbered_left : (top : ℕ) (keep : Speaker → Bool) (xs : List Speaker) → Numbered top xs → Numbered top (filter keep xs)
numbered_left top keep xs h = record { apart = apart_left keep xs h.apart; below = below_left top keep xs h.below }

numbered_last : (top : ℕ) (xs : List Speaker) (conn fid : ℕ) → Numbered top xs → Numbered (top + 1) (xs ++ record { conv = top; conn = conn; fid = fid } ∷ [])
numbered_last top xs conn fid h = record {
  apart = apart_last xs (record { conv = top; conn = conn; fid = fid }) h.apart (above_none top xs h.below);
  below = below_last top xs (record { conv = top; conn = conn; fid = fid }) refl h.below;
}

numbered_if : (b : Bool) (top : ℕ) (xs : List Speaker) (conn fid : ℕ) → Numbered top xs → Numbered (cond b (top + 1) top) (cond b (xs ++ record { conv = top; conn = conn; fid = fid } ∷ []) xs)
numbered_if true top xs conn fid h = numbered_last top xs conn fid h
numbered_if false top xs conn fid h = h

pub are_numbered : (done : List Deed) → Numbered (opened_talks done) (speakers done)
are_numbered [] = record { apart = tt; below = λ q e. absurd (false≢true e) }
are_numbered (OfFids at (Versioned msize) ∷ done) = numbered_left (opened_talks done) (λ s. not (s.conn == at)) (speakers done) (are_numbered done)
are_numbered (OfFids at (Attached f) ∷ done) = are_numbered done
are_numbered (OfFids at (Walked f node) ∷ done) = are_numbered done
are_numbered (OfFids at (Opened f mode) ∷ done) = numbered_if (names Rpc (fid_of done at f)) (opened_talks done) (speakers done) at f (are_numbered done)
are_numbered (OfFids at (Listed f) ∷ done) = are_numbered done
are_numbered (OfFids at (Browsed f next) ∷ done) = are_numbered done
are_numbered (OfFids at (Clunked f) ∷ done) = numbered_left (opened_talks done) (λ s. not (s.conn == at && s.fid == f)) (speakers done) (are_numbered done)
are_numbered (OfKeys at deed ∷ done) = are_numbered done
are_numbered (OfReplies at deed ∷ done) = are_numbered done
are_numbered (OfConnection at Entered ∷ done) = are_numbered done
are_numbered (OfConnection at Hung ∷ done) = numbered_left (opened_talks done) (λ s. not (s.conn == at)) (speakers done) (are_numbered done)
are_numbered (OfTalk conv call ∷ done) = are_numbered done
are_numbered (OfPrompts kind call ∷ done) = are_numbered done
are_numbered (OfLog call ∷ done) = are_numbered done
are_numbered (Raised conv ∷ done) = are_numbered done
are_numbered (HandedOut ∷ done) = are_numbered done
are_numbered (DropTaken ∷ done) = are_numbered done
are_numbered (Swept ∷ done) = are_numbered done
are_numbered (Halted ∷ done) = record { apart = tt; below = λ q e. absurd (false≢true e) }

-- ---- questions

pub asks_last : (qs : List Question) (a : Question) (n : ℕ) → asks_for (qs ++ a ∷ []) n ≡ (asks_for qs n || eqb a.conv n)
asks_last [] a n = or_false (eqb a.conv n)
asks_last (q ∷ qs) a n = ap (λ (b : Bool). eqb q.conv n || b) (asks_last qs a n) ∙ swap (eqb q.conv n) (asks_for qs n) (eqb a.conv n)
  where
    swap : (a b c : Bool) → (a || (b || c)) ≡ ((a || b) || c)
    swap true b c = refl
    swap false b c = refl

-- those that are left pass the test, and were there
pub left_asks : (test : ℕ → Bool) (qs : List Question) (n : ℕ) → asks_for (filter (λ q. test q.conv) qs) n ≡ true → (test n ≡ true) × (asks_for qs n ≡ true)
left_asks test [] n e = absurd (false≢true e)
left_asks test (q ∷ qs) n e = step (test q.conv) (eqb q.conv n) refl refl e (left_asks test qs n)
  where
    step : (k b : Bool) → test q.conv ≡ k → eqb q.conv n ≡ b → asks_for (cond k (q ∷ filter (λ a. test a.conv) qs) (filter (λ a. test a.conv) qs)) n ≡ true
        → (asks_for (filter (λ a. test a.conv) qs) n ≡ true → (test n ≡ true) × (asks_for qs n ≡ true)) → (test n ≡ true) × ((b || asks_for qs n) ≡ true)
    step true true t is e more = (ap test (sym (eqb-true q.conv n is)) ∙ t, refl)
    step true false t is e more = more (rw is at e)
    step false true t is e more = ((more e).0, refl)
    step false false t is e more = more e

-- where all pass it none is left out
pub all_stay : (test : ℕ → Bool) (qs : List Question) → ((n : ℕ) → asks_for qs n ≡ true → test n ≡ true) → filter (λ q. test q.conv) qs ≡ qs
all_stay test [] h = refl
all_stay test (q ∷ qs) h =
    rw (h q.conv (rw (same q.conv) refl)) (ap (λ (more : List Question). q ∷ more) (all_stay test qs (λ n e. h n (rw e (or_true (eqb q.conv n))))))

-- whose number is found asks
asker_step : (q : Question) (qs : List Question) (p : Question → Bool) (conv : ℕ) (b : Bool) → option_map (λ x. x.conv) (cond b (Some q) (find p qs)) ≡ Some conv → (option_map (λ x. x.conv) (find p qs) ≡ Some conv → asks_for qs conv ≡ true) → asks_for (q ∷ qs) conv ≡ true
asker_step q qs p conv true e more = let is : q.conv ≡ conv = cc in rw (eq-eqb q.conv conv is) refl
asker_step q qs p conv false e more = rw (more e) (or_true (eqb q.conv conv))

pub asker_asks : (qs : List Question) (p : Question → Bool) (conv : ℕ) → option_map (λ x. x.conv) (find p qs) ≡ Some conv → asks_for qs conv ≡ true
asker_asks [] p conv e = absurd cc
asker_asks (q ∷ qs) p conv e = asker_step q qs p conv (p q) e (asker_asks qs p conv)

-- and so does whose fid is found stand
opener_step : (s : Speaker) (xs : List Speaker) (p : Speaker → Bool) (conv : ℕ) (b : Bool) → option_map (λ x. x.conv) (cond b (Some s) (find p xs)) ≡ Some conv → (option_map (λ x. x.conv) (find p xs) ≡ Some conv → is_among xs conv ≡ true) → is_among (s ∷ xs) conv ≡ true
opener_step s xs p conv true e more = let is : s.conv ≡ conv = cc in rw (eq-eqb s.conv conv is) refl
opener_step s xs p conv false e more = rw (more e) (or_true (eqb s.conv conv))

pub opener_stands : (xs : List Speaker) (p : Speaker → Bool) (conv : ℕ) → option_map (λ x. x.conv) (find p xs) ≡ Some conv → is_among xs conv ≡ true
opener_stands [] p conv e = absurd cc
opener_stands (s ∷ xs) p conv e = opener_step s xs p conv (p s) e (opener_stands xs p conv)

pub speaker_is_among : (xs : List Speaker) (conv : ℕ) (s : Speaker) → find (λ (x : Speaker). x.conv == conv) xs ≡ Some s → is_among xs conv ≡ true
speaker_is_among [] conv s e = absurd cc
speaker_is_among (x ∷ xs) conv s e = step (eqb x.conv conv) e (speaker_is_among xs conv s)
  where
    step : (b : Bool) → cond b (Some x) (find (λ (y : Speaker). y.conv == conv) xs) ≡ Some s → (find (λ (y : Speaker). y.conv == conv) xs ≡ Some s → is_among xs conv ≡ true) → (b || is_among xs conv) ≡ true
    step true e more = refl
    step false e more = more e

-- where all were handed out, handing one out changes nothing
pub hands_none : (qs : List Question) → find (λ q. not q.handed) qs ≡ None → hand_first qs ≡ qs
hands_none [] e = refl
hands_none (q ∷ qs) e = step q.handed e (hands_none qs)
  where
    step : (b : Bool) → cond (not b) (Some q) (find (λ x. not x.handed) qs) ≡ None → (find (λ x. not x.handed) qs ≡ None → hand_first qs ≡ qs) → cond b (q ∷ hand_first qs) (record { call = q.call; conv = q.conv; handed = true } ∷ qs) ≡ q ∷ qs
    step true e more = ap (λ (xs : List Question). q ∷ xs) (more e)
    step false e more = absurd cc

-- handing one out changes no conversation of a question
pub handed_asks : (qs : List Question) (n : ℕ) → asks_for (hand_first qs) n ≡ asks_for qs n
handed_asks [] n = refl
handed_asks (q ∷ qs) n = step q.handed (handed_asks qs n)
  where
    step : (b : Bool) → asks_for (hand_first qs) n ≡ asks_for qs n → asks_for (cond b (q ∷ hand_first qs) (record { call = q.call; conv = q.conv; handed = true } ∷ qs)) n ≡ asks_for (q ∷ qs) n
    step true more = ap (λ (b : Bool). eqb q.conv n || b) more
    step false more = refl
