-- A file of questions is closed: who waits for its replies.
use Rattle.std.proofs.Common.{◌≡◌, ◌≤◌, ◌==◌, ◌++◌, ℕ, List, [], ◌∷◌, Bool, true, false, map, not, cond, eqb, Some, None, refl, sym, ap, subst, ◌∙◌, inl, inr, arith, ◌||◌}
use Rattle.std.specs.List.{list_any}
use Rattle.std.proofs.lemmas.Bool.{cases_Bool, eq-eqb, eqb-true, false≢true}
use Rattle.side_files.specs.declared.line.PromptKind.{PromptKind}
use Rattle.side_files.specs.declared.line.PromptKind.TheVariants as k
use Rattle.side_files.specs.declared.prompt.Prompt.{Prompt}
use Rattle.side_files.specs.declared.prompt.Asker.{Asker}
use Rattle.side_files.specs.Calls as side
use Rattle.side_files.specs.Askers.{without_asked, without_conv}
use Rattle.side_files.specs.Questions.{Questions, asker, first_conv, standing as waiting, withdrawn}
use Rattle.talks.specs.Calls.{Call, Shut}
use Rattle.talks.specs.Standings.{standing}
use Rattle.conversations.specs.Asking.{asked_kind}
use Rattle.agent_history.specs.Deeds.{Deed, OfPrompts, OfTalk}
use Rattle.agent_history.specs.Conversations.{standing_of, talk}
use Rattle.agent_history.specs.SideFiles.{askers, prompts_of}
use Rattle.agent_talks.proofs.StandLemmas.{other_way}
use Rattle.agent_talks.specs.Keeps.{Converses}
use Rattle.agent_talks.specs.Keeps.{KeepingTalks}
use Rattle.agent_talks.specs.declared.files.LineFiles.{LineFiles}
use Rattle.agent_talks.specs.Files.{Files}
use Rattle.agent_talks.specs.Asking.{AskingTalks}
use Rattle.agent_talks.specs.Asking.{AllWait, Tells, Waits, is_asker, times}
use Rattle.agent_talks.proofs.AskingLemmas.{or_cases}
use Rattle.agent_talks.proofs.TimesLemmas.{convs, has, withdrawn_fewer}

or_left : (b c : Bool) → b ≡ true → (b || c) ≡ true
or_left true c e = refl
or_left false c e = absurd (false≢true e)

or_right : (b c : Bool) → c ≡ true → (b || c) ≡ true
or_right true c e = refl
or_right false c e = e

split : (os ps : List Asker) (n : ℕ) → has n (map (λ a. a.conv) (os ++ ps)) ≡ (has n (map (λ a. a.conv) os) || has n (map (λ a. a.conv) ps))
split [] ps n = refl
split (o ∷ os) ps n = ap (λ (b : Bool). (o.conv == n) || b) (split os ps n) ∙ swap (o.conv == n) (has n (map (λ a. a.conv) os)) (has n (map (λ a. a.conv) ps))
  where
    swap : (a b c : Bool) → (a || (b || c)) ≡ ((a || b) || c)
    swap true b c = refl
    swap false b c = refl

-- one that is left was there, and is another
abbrev pub Left : ℕ → ℕ → Bool → Type 0
Left conv n was = (was ≡ true) × (eqb conv n ≡ false)

left_more : (conv n : ℕ) (b was : Bool) → Left conv n was → Left conv n (b || was)
left_more conv n b was l = (or_right b was l.0, l.1)

here_left : (conv n at : ℕ) (was : Bool) → eqb at conv ≡ false → eqb at n ≡ true → Left conv n (eqb at n || was)
here_left conv n at was apart is = (or_left (eqb at n) was is, subst (λ (m : ℕ). eqb conv m ≡ false) (eqb-true at n is) (other_way at conv apart))

left_step : (conv n at : ℕ) (more was : Bool) (same : Bool) → eqb at conv ≡ same → (more ≡ true → Left conv n was) → cond (not same) (eqb at n || more) more ≡ true → Left conv n (eqb at n || was)
left_step conv n at more was true is rest e = left_more conv n (eqb at n) was (rest e)
left_step conv n at more was false is rest e = or_cases (eqb at n) more e (λ here. here_left conv n at was is here) (λ there. left_more conv n (eqb at n) was (rest there))

kept_cond : (b : Bool) (at n : ℕ) (x : Asker) (xs : List Asker) → x.conv ≡ at → has n (map (λ a. a.conv) (cond b (x ∷ xs) xs)) ≡ cond b (eqb at n || has n (map (λ a. a.conv) xs)) (has n (map (λ a. a.conv) xs))
kept_cond true at n x xs e = ap (λ (m : ℕ). eqb m n || has n (map (λ a. a.conv) xs)) e
kept_cond false at n x xs e = refl

opened_left : (xs : List Asker) (conv n : ℕ) → has n (map (λ a. a.conv) (without_conv conv xs)) ≡ true → Left conv n (has n (map (λ a. a.conv) xs))
opened_left [] conv n e = absurd (false≢true e)
opened_left (x ∷ xs) conv n e =
    left_step conv n x.conv (has n (map (λ a. a.conv) (without_conv conv xs))) (has n (map (λ a. a.conv) xs)) (eqb x.conv conv) refl (opened_left xs conv n)
    (sym (kept_cond (not (eqb x.conv conv)) x.conv n x (without_conv conv xs) refl) ∙ e)

asked_cond : (b : Bool) (n : ℕ) (x : Prompt) (xs : List Prompt) → has n (map (λ a. a.conv) (map asker (cond b (x ∷ xs) xs))) ≡ cond b (eqb x.conv n || has n (map (λ a. a.conv) (map asker xs))) (has n (map (λ a. a.conv) (map asker xs)))
asked_cond true n x xs = refl
asked_cond false n x xs = refl

unread_left : (xs : List Prompt) (conv n : ℕ) → has n (map (λ a. a.conv) (map asker (without_asked conv xs))) ≡ true → Left conv n (has n (map (λ a. a.conv) (map asker xs)))
unread_left [] conv n e = absurd (false≢true e)
unread_left (x ∷ xs) conv n e =
    left_step conv n x.conv (has n (map (λ a. a.conv) (map asker (without_asked conv xs)))) (has n (map (λ a. a.conv) (map asker xs))) (eqb x.conv conv) refl (unread_left xs conv n)
    (sym (asked_cond (not (eqb x.conv conv)) n x (without_asked conv xs)) ∙ e)

pub withdrawn_left : (q : Questions) (conv n : ℕ) → has n (convs (withdrawn conv q)) ≡ true → Left conv n (has n (convs q))
withdrawn_left q conv n e =
    or_cases (has n (map (λ a. a.conv) (without_conv conv q.opened))) (has n (map (λ a. a.conv) (map asker (without_asked conv q.unread)))) (sym (split (without_conv conv q.opened) (map asker (without_asked conv q.unread)) n) ∙ e)
    (λ o. let l = opened_left q.opened conv n o in (split q.opened (map asker q.unread) n ∙ or_left _ _ l.0, l.1))
    (λ u. let l = unread_left q.unread conv n u in (split q.opened (map asker q.unread) n ∙ or_right _ _ l.0, l.1))

-- ---- behind a file that is closed

abbrev pub shut_deeds : PromptKind → ℕ → List Deed → List Deed
shut_deeds kind conv done = OfTalk conv Shut ∷ OfPrompts kind (side.Withdrawn conv) ∷ done

-- of all others nothing changes
others_wait : (done : List Deed) (kind at : PromptKind) (conv n : ℕ) → eqb conv n ≡ false → Waits done at n → Waits (shut_deeds kind conv done) at n
others_wait done kind at conv n apart w = record {
  stands = w.stands;
  asks = ap (λ (xs : List Call). asked_kind (standing xs).phase) (apart_talk done kind conv n apart) ∙ w.asks;
}
  where
    apart_talk : (done : List Deed) (kind : PromptKind) (conv n : ℕ) → eqb conv n ≡ false → talk (shut_deeds kind conv done) n ≡ talk done n
    apart_talk done kind conv n e = rw e refl

kinds_differ : k.Confirm ≡ k.Needkey → ⊥
kinds_differ e = cc

no_other : (done : List Deed) (conv n : ℕ) → Waits done k.Confirm conv → Waits done k.Needkey n → eqb conv n ≡ false
no_other done conv n w v = elim (cases_Bool (eqb conv n)) [
  | inl is ↦ absurd (two (sym w.asks ∙ (ap (λ (m : ℕ). asked_kind (standing_of done m).phase) (eqb-true conv n is) ∙ v.asks)))
  | inr apart ↦ apart
]
  where
    two : Some k.Confirm ≡ Some k.Needkey → ⊥
    two e = cc

who_still_waits : (done : List Deed) (kind at : PromptKind) (conv n : ℕ) → Waits done kind conv → (is_asker done at n ≡ true → Waits done at n) → is_asker (shut_deeds kind conv done) at n ≡ true → Waits (shut_deeds kind conv done) at n
who_still_waits done k.Confirm k.Confirm conv n w waits is = let l = withdrawn_left (prompts_of done k.Confirm) conv n is in others_wait done k.Confirm k.Confirm conv n l.1 (waits l.0)
who_still_waits done k.Needkey k.Needkey conv n w waits is = let l = withdrawn_left (prompts_of done k.Needkey) conv n is in others_wait done k.Needkey k.Needkey conv n l.1 (waits l.0)
who_still_waits done k.Confirm k.Needkey conv n w waits is = others_wait done k.Confirm k.Needkey conv n (no_other done conv n w (waits is)) (waits is)
who_still_waits done k.Needkey k.Confirm conv n w waits is = others_wait done k.Needkey k.Confirm conv n (other_way n conv (no_other done n conv (waits is) w)) (waits is)

who_waits_once : (done : List Deed) (kind at : PromptKind) (conv n : ℕ) → times n (askers done at) ≤ 1 → times n (askers (shut_deeds kind conv done) at) ≤ 1
who_waits_once done k.Confirm k.Confirm conv n once = let fewer = withdrawn_fewer (prompts_of done k.Confirm) conv n in omega (arith, fewer, once)
who_waits_once done k.Needkey k.Needkey conv n once = let fewer = withdrawn_fewer (prompts_of done k.Needkey) conv n in omega (arith, fewer, once)
who_waits_once done k.Confirm k.Needkey conv n once = once
who_waits_once done k.Needkey k.Confirm conv n once = once

shut_wait : (done : List Deed) (kind : PromptKind) (conv : ℕ) → is_asker done kind conv ≡ true → AllWait done → AllWait (shut_deeds kind conv done)
shut_wait done kind conv is h = record {
  asked = λ at n asks. who_still_waits done kind at conv n (h.asked kind conv is) (h.asked at n) asks;
  once = λ at n. who_waits_once done kind at conv n (h.once at n);
}

pub shut_tells : (done : List Deed) (old : AskingTalks) (talks : KeepingTalks) (files : LineFiles) (kind : PromptKind) (conv : ℕ) → is_asker done kind conv ≡ true → Converses (shut_deeds kind conv done) talks → Files (OfPrompts kind (side.Withdrawn conv) ∷ done) files → Tells done old → Tells (shut_deeds kind conv done) (record { talks = talks; files = files })
shut_tells done old talks files kind conv is converses lines h = record {
  talks = converses;
  files = record { confirm = lines.confirm; needkey = lines.needkey; log = lines.log; debug = lines.debug };
  users = shut_wait done kind conv is h.users;
}

-- ---- the oldest of those who wait

pub first_asks : (q : Questions) (conv : ℕ) → Some conv ≡ first_conv (waiting q) → list_any (λ n. n == conv) (convs q) ≡ true
first_asks q conv e = here (waiting q) e
  where
    here : (xs : List Asker) → Some conv ≡ first_conv xs → list_any (λ n. n == conv) (map (λ a. a.conv) xs) ≡ true
    here [] e = absurd cc
    here (x ∷ xs) e = or_left (x.conv == conv) (list_any (λ n. n == conv) (map (λ a. a.conv) xs)) (eq-eqb x.conv conv cc)

pub none_asks : (q : Questions) → None ≡ first_conv (waiting q) → convs q ≡ []
none_asks q e = here (waiting q) e
  where
    here : (xs : List Asker) → None ≡ first_conv xs → map (λ a. a.conv) xs ≡ []
    here [] e = refl
    here (x ∷ xs) e = absurd cc
