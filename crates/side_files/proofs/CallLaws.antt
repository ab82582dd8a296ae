-- What holds after any calls of the questions of a file.
use Rattle.std.proofs.Common.{◌≡◌, ℕ, ◌+◌, ◌<◌, List, [], ◌∷◌, ◌++◌, Bool, true, false, not, eqb, cond, map, filter, drop, Some, None, refl, sym, ap, subst, ◌∙◌, inl, inr, arith}
use Rattle.std.specs.List.{list_all}
use Rattle.std.proofs.lemmas.Bool.{cases_Bool, and_from, eqb-true, eq-eqb, ne_eqb}
use Rattle.std.proofs.lemmas.List.Folds.{list_all-append}
use Rattle.side_files.specs.declared.line.PromptKind.{PromptKind}
use Rattle.side_files.specs.declared.prompt.Prompt.{Prompt}
use Rattle.side_files.specs.declared.prompt.Asker.{Asker}
use Rattle.side_files.specs.Askers.{asker_in, without_tag, without_conv, without_asked}
use Rattle.side_files.specs.Questions.{Questions, asker, next_line, opens, asker_of, replied, standing, withdrawn}
use Rattle.side_files.specs.Calls.{Call, after, next_tag, asked_under}
use Rattle.side_files.specs.Calls.Call.{Asked, Read, Replied, Withdrawn}

-- ---- tags

pub tag_is : (kind : PromptKind) (calls : List Call) → (after kind calls).asked + 1 ≡ next_tag calls
tag_is kind [] = refl
tag_is kind (Asked conv about ∷ before) = ap (λ (n : ℕ). n + 1) (tag_is kind before)
tag_is kind (Read ∷ before) = tag_is kind before
tag_is kind (Replied tag ∷ before) = tag_is kind before
tag_is kind (Withdrawn conv ∷ before) = tag_is kind before

pub tags_grow : (conv : ℕ) (about : List ℕ) (before later : List Call) → next_tag before < next_tag (later ++ Asked conv about ∷ before)
tags_grow conv about before [] = omega arith
tags_grow conv about before (Asked c a ∷ later) = omega (arith, tags_grow conv about before later)
tags_grow conv about before (Read ∷ later) = tags_grow conv about before later
tags_grow conv about before (Replied tag ∷ later) = tags_grow conv about before later
tags_grow conv about before (Withdrawn c ∷ later) = tags_grow conv about before later

-- ---- who asked

-- each of these was asked so
AllAsked : List Call → List Asker → Type 0
AllAsked calls [] = Unit {0}
AllAsked calls (a ∷ more) = (asked_under a.tag calls ≡ Some a.conv) × AllAsked calls more

-- a tag that was given is below the next one
given_below : (tag conv : ℕ) (calls : List Call) → asked_under tag calls ≡ Some conv → tag < next_tag calls
given_below tag conv [] h = absurd (cc)
given_below tag conv (Asked c about ∷ before) h = elim (cases_Bool (eqb (next_tag before) tag)) [
  | inl is ↦ omega (arith, eqb-true (next_tag before) tag is)
  | inr is ↦ omega (arith, given_below tag conv before (sym (ap (λ (t : Bool). cond t (Some c) (asked_under tag before)) is) ∙ h))
]
given_below tag conv (Read ∷ before) h = given_below tag conv before h
given_below tag conv (Replied t ∷ before) h = given_below tag conv before h
given_below tag conv (Withdrawn c ∷ before) h = given_below tag conv before h

asked_still : (calls : List Call) (conv : ℕ) (about : List ℕ) (askers : List Asker) → AllAsked calls askers → AllAsked (Asked conv about ∷ calls) askers
unfolding AllAsked
asked_still calls conv about [] h = tt
asked_still calls conv about (a ∷ more) h =
    let below : a.tag < next_tag calls = given_below a.tag a.conv calls h.0 in
    let test : eqb (next_tag calls) a.tag ≡ false = ne_eqb (next_tag calls) a.tag (λ e. omega (arith, below, e)) in
    (ap (λ (t : Bool). cond t (Some conv) (asked_under a.tag calls)) test ∙ h.0, asked_still calls conv about more h.1)

asked_both : (calls : List Call) (xs ys : List Asker) → AllAsked calls xs → AllAsked calls ys → AllAsked calls (xs ++ ys)
unfolding AllAsked
asked_both calls [] ys h k = k
asked_both calls (a ∷ xs) ys h k = (h.0, asked_both calls xs ys h.1 k)

asked_kept : (calls : List Call) (test : Asker → Bool) (xs : List Asker) → AllAsked calls xs → AllAsked calls (filter test xs)
unfolding AllAsked
asked_kept calls test [] h = tt
asked_kept calls test (a ∷ xs) h = elim (cases_Bool (test a)) [
  | inl is ↦ rw is (h.0, asked_kept calls test xs h.1)
  | inr is ↦ rw is (asked_kept calls test xs h.1)
]

unread_kept : (conv : ℕ) (prompts : List Prompt) → map asker (without_asked conv prompts) ≡ without_conv conv (map asker prompts)
unread_kept conv [] = refl
unread_kept conv (p ∷ prompts) = elim (cases_Bool (eqb p.conv conv)) [
  | inl is ↦ rw (is, unread_kept conv prompts) refl
  | inr is ↦ rw (is, unread_kept conv prompts) refl
]

asked_first : (calls : List Call) (prompts : List Prompt) → AllAsked calls (map asker prompts) → AllAsked calls (opens prompts)
unfolding AllAsked
asked_first calls [] h = tt
asked_first calls (p ∷ prompts) h = (h.0, tt)

asked_rest : (calls : List Call) (prompts : List Prompt) → AllAsked calls (map asker prompts) → AllAsked calls (map asker (drop 1 prompts))
unfolding AllAsked
asked_rest calls [] h = tt
asked_rest calls (p ∷ prompts) h = h.1

-- all questions that stand were asked under their tags by their conversations
record Standing (calls : List Call) (q : Questions) : Type 0 where
  unread : AllAsked calls (map asker q.unread)
  opened : AllAsked calls q.opened

just_asked : (conv : ℕ) (about : List ℕ) (calls : List Call) (tag : ℕ) → tag ≡ next_tag calls → AllAsked (Asked conv about ∷ calls) (record { tag = tag; conv = conv } ∷ [])
unfolding AllAsked
just_asked conv about calls tag e =
    let test : eqb (next_tag calls) tag ≡ true = eq-eqb (next_tag calls) tag (sym e) in
    (ap (λ (t : Bool). cond t (Some conv) (asked_under tag calls)) test, tt)

map_more : (xs : List Prompt) (p : Prompt) → map asker (xs ++ p ∷ []) ≡ map asker xs ++ asker p ∷ []
map_more [] p = refl
map_more (x ∷ xs) p = ap (λ (ys : List Asker). asker x ∷ ys) (map_more xs p)

none_asked : AllAsked [] []
unfolding AllAsked
none_asked = tt

unread_asked : (kind : PromptKind) (conv : ℕ) (about : List ℕ) (before : List Call) → map asker (after kind (Asked conv about ∷ before)).unread ≡ map asker (after kind before).unread ++ record { tag = (after kind before).asked + 1; conv = conv } ∷ []
unread_asked kind conv about before = map_more (after kind before).unread (record { tag = (after kind before).asked + 1; conv = conv; line = next_line (after kind before) about })

stands : (kind : PromptKind) (calls : List Call) → Standing calls (after kind calls)
unfolding AllAsked
stands kind [] = record { unread = none_asked; opened = none_asked }
stands kind (Asked conv about ∷ before) =
    let s = stands kind before in
    let q = after kind before in
    let calls = Asked conv about ∷ before in
    record {
      unread = subst (AllAsked calls) (sym (unread_asked kind conv about before))
          (asked_both calls (map asker q.unread) _ (asked_still before conv about (map asker q.unread) s.unread) (just_asked conv about before (q.asked + 1) (tag_is kind before)));
      opened = asked_still before conv about q.opened s.opened;
    }
stands kind (Read ∷ before) =
    let s = stands kind before in
    let q = after kind before in
    record {
      unread = asked_rest before q.unread s.unread;
      opened = asked_both before q.opened (opens q.unread) s.opened (asked_first before q.unread s.unread);
    }
stands kind (Replied tag ∷ before) =
    let s = stands kind before in
    record { unread = s.unread; opened = asked_kept before (λ (a : Asker). not (eqb a.tag tag)) (after kind before).opened s.opened }
stands kind (Withdrawn conv ∷ before) =
    let s = stands kind before in
    let q = after kind before in
    let test : Asker → Bool = λ (a : Asker). not (eqb a.conv conv) in
    record {
      unread = subst (AllAsked before) (sym (unread_kept conv q.unread)) (asked_kept before test (map asker q.unread) s.unread);
      opened = asked_kept before test q.opened s.opened;
    }

found_asked : (calls : List Call) (tag conv : ℕ) (askers : List Asker) → AllAsked calls askers → asker_in tag askers ≡ Some conv → asked_under tag calls ≡ Some conv
unfolding AllAsked
found_asked calls tag conv [] h e = absurd (cc)
found_asked calls tag conv (a ∷ more) h e = elim (cases_Bool (eqb a.tag tag)) [
  | inl is ↦
      (let found : Some a.conv ≡ Some conv = sym (ap (λ (t : Bool). cond t (Some a.conv) (asker_in tag more)) is) ∙ e in
      ap (λ (t : ℕ). asked_under t calls) (sym (eqb-true a.tag tag is)) ∙ (h.0 ∙ found))
  | inr is ↦ found_asked calls tag conv more h.1 (sym (ap (λ (t : Bool). cond t (Some a.conv) (asker_in tag more)) is) ∙ e)
]

pub who_asked : (kind : PromptKind) (calls : List Call) (tag conv : ℕ) → asker_of tag (after kind calls) ≡ Some conv → asked_under tag calls ≡ Some conv
who_asked kind calls tag conv e = found_asked calls tag conv (after kind calls).opened (stands kind calls).opened e

-- ---- questions that are gone

none_tagged : (tag : ℕ) (askers : List Asker) → asker_in tag (without_tag tag askers) ≡ None
none_tagged tag [] = refl
none_tagged tag (a ∷ askers) = elim (cases_Bool (eqb a.tag tag)) [
  | inl is ↦ rw is (none_tagged tag askers)
  | inr is ↦ rw (is, is) (none_tagged tag askers)
]

pub replied_once : (tag : ℕ) (q : Questions) → asker_of tag (replied tag q) ≡ None
replied_once tag q = none_tagged tag q.opened

none_of_conv : (conv : ℕ) (askers : List Asker) → list_all (λ (a : Asker). not (eqb a.conv conv)) (without_conv conv askers) ≡ true
none_of_conv conv [] = refl
none_of_conv conv (a ∷ askers) = elim (cases_Bool (eqb a.conv conv)) [
  | inl is ↦ rw is (none_of_conv conv askers)
  | inr is ↦ rw (is, is) (none_of_conv conv askers)
]

pub none_left : (conv : ℕ) (q : Questions) → list_all (λ (a : Asker). not (eqb a.conv conv)) (standing (withdrawn conv q)) ≡ true
none_left conv q =
    let test : Asker → Bool = λ (a : Asker). not (eqb a.conv conv) in
    let opened = without_conv conv q.opened in
    let unread = without_conv conv (map asker q.unread) in
    ap (λ (xs : List Asker). list_all test (opened ++ xs)) (unread_kept conv q.unread)
    ∙ (list_all-append test opened unread ∙ and_from (list_all test opened) (list_all test unread) (none_of_conv conv q.opened) (none_of_conv conv (map asker q.unread)))
