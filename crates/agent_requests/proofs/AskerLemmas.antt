-- Who waits for a reply: at most as many as there are conversations, and one less behind each that is shut.
use Rattle.std.proofs.Common.{◌≡◌, ℕ, ◌≤◌, ◌+◌, List, [], ◌∷◌, ◌++◌, length, map, filter, Bool, true, false, eqb, not, ◌==◌, ◌||◌, Some, refl, sym, ap, subst, ◌∙◌, inl, inr, arith}
use Rattle.std.specs.List.{list_any}
use Rattle.std.proofs.lemmas.Bool.{cases_Bool, eq-eqb, eqb-true, ne_eqb, false≢true}
use Rattle.std.proofs.lemmas.List.{map-append}
use Rattle.side_files.specs.declared.line.PromptKind.{PromptKind}
use Rattle.side_files.specs.declared.line.PromptKind.TheVariants as k
use Rattle.side_files.specs.declared.prompt.Prompt.{Prompt}
use Rattle.side_files.specs.declared.prompt.Asker.{Asker}
use Rattle.side_files.specs.Calls as side
use Rattle.side_files.specs.Askers.{without_asked, without_conv}
use Rattle.side_files.specs.Questions.{Questions, asker, first_conv, standing as waiting, withdrawn}
use Rattle.talks.specs.Calls as calls
use Rattle.agent_history.specs.Deeds.{Deed, OfPrompts, OfTalk}
use Rattle.agent_history.specs.SideFiles.{askers, prompts_of}
use Rattle.agent_history.specs.Conversations.{Speaker, shut, speakers}
use Rattle.agent_talks.specs.Speaks.{is_among}
use Rattle.agent_talks.specs.Asking.{times}
use Rattle.agent_talks.specs.declared.standing.Conversations.{Conversations}
use Rattle.agent_talks.specs.Logging.{Logs}
use Rattle.agent_requests.proofs.OwnDeeds.{delivered_answers}

-- ---- numbers that stand apart

-- no number stands twice
abbrev pub AreApart : List ℕ → Type 0
AreApart [] = Unit {0}
AreApart (n ∷ ns) = (list_any (λ m. m == n) ns ≡ false) × AreApart ns

abbrev has : ℕ → List ℕ → Bool
has n ns = list_any (λ m. m == n) ns

abbrev others : ℕ → List ℕ → List ℕ
others n ns = filter (λ m. not (m == n)) ns

not_same : (a b : ℕ) → eqb a b ≡ false → eqb b a ≡ false
not_same a b e = ne_eqb b a (λ is. false≢true (sym e ∙ eq-eqb a b (sym is)))

-- which is so where each stands at most once
none_times : (n : ℕ) (ns : List ℕ) → times n ns ≤ 0 → has n ns ≡ false
none_times n [] le = refl
none_times n (m ∷ ns) le = elim (cases_Bool (eqb m n)) [
  | inl is ↦ absurd (omega (arith, rw is at le))
  | inr is ↦ rw is (none_times n ns (rw is at le))
]

more_times : (n m : ℕ) (ns : List ℕ) → times n ns ≤ times n (m ∷ ns)
more_times n m ns = elim (cases_Bool (eqb m n)) [
  | inl is ↦ rw is (omega arith)
  | inr is ↦ rw is (omega arith)
]

pub once_apart : (ns : List ℕ) → ((n : ℕ) → times n ns ≤ 1) → AreApart ns
once_apart [] once = tt
once_apart (m ∷ ns) once =
    let here : times m (m ∷ ns) ≡ times m ns + 1 = rw (eq-eqb m m refl) refl in
    (none_times m ns (omega (arith, once m, here)), once_apart ns (λ n. omega (arith, more_times n m ns, once n)))

-- where a number isn't, all others are all
all_others : (n : ℕ) (ns : List ℕ) → has n ns ≡ false → others n ns ≡ ns
all_others n [] e = refl
all_others n (m ∷ ns) e = elim (cases_Bool (eqb m n)) [
  | inl is ↦ absurd (false≢true (sym e ∙ rw is refl))
  | inr is ↦ rw is (ap (λ (xs : List ℕ). m ∷ xs) (all_others n ns (rw is at e)))
]

first_gone : (n : ℕ) (ns : List ℕ) → AreApart (n ∷ ns) → others n (n ∷ ns) ≡ ns
first_gone n ns apart = rw (eq-eqb n n refl) (all_others n ns apart.0)

-- what others have, all have
other_had : (n m : ℕ) (ns : List ℕ) → has m ns ≡ false → has m (others n ns) ≡ false
other_had n m [] e = refl
other_had n m (x ∷ ns) e = elim (cases_Bool (eqb x m)) [
  | inl is ↦ absurd (false≢true (sym e ∙ rw is refl))
  | inr is ↦ elim (cases_Bool (eqb x n)) [
    | inl gone ↦ rw gone (other_had n m ns (rw is at e))
    | inr kept ↦ rw (kept, is) (other_had n m ns (rw is at e))
  ]
]

others_apart : (n : ℕ) (ns : List ℕ) → AreApart ns → AreApart (others n ns)
others_apart n [] a = tt
others_apart n (x ∷ ns) a = elim (cases_Bool (eqb x n)) [
  | inl gone ↦ rw gone (others_apart n ns a.1)
  | inr kept ↦ rw kept ((other_had n x ns a.0, others_apart n ns a.1))
]

-- at most one is gone
one_gone : (n : ℕ) (ns : List ℕ) → AreApart ns → length ns ≤ length (others n ns) + 1
one_gone n [] a = omega arith
one_gone n (x ∷ ns) a = elim (cases_Bool (eqb x n)) [
  | inl gone ↦
      let same : n ≡ x = sym (eqb-true x n gone) in
      rw (gone, all_others n ns (rw same a.0)) (omega arith)
  | inr kept ↦ rw kept (omega (arith, one_gone n ns a.1))
]

-- numbers that stand apart, each of a conversation that stands, are at most as many as these
pub apart_few : (xs : List Speaker) (ns : List ℕ) → AreApart ns → ((n : ℕ) → has n ns ≡ true → is_among xs n ≡ true) → length ns ≤ length xs
apart_few [] [] a among = omega arith
apart_few [] (n ∷ ns) a among = absurd (false≢true (among n (rw (eq-eqb n n refl) refl)))
apart_few (x ∷ xs) ns a among =
    let few : length (others x.conv ns) ≤ length xs = apart_few xs (others x.conv ns) (others_apart x.conv ns a) (λ n e. still n (left x.conv n ns e)) in
    omega (arith, few, one_gone x.conv ns a)
  where
    -- of the others, one is another, and was there
    left : (at n : ℕ) (ms : List ℕ) → has n (others at ms) ≡ true → (eqb at n ≡ false) × (has n ms ≡ true)
    left at n [] e = absurd (false≢true e)
    left at n (m ∷ ms) e = elim (cases_Bool (eqb m at)) [
      | inl gone ↦ let l = left at n ms (rw gone at e) in (l.0, or_right (eqb m n) (has n ms) l.1)
      | inr kept ↦ elim (cases_Bool (eqb m n)) [
        | inl is ↦ (not_same n at (subst (λ (y : ℕ). eqb y at ≡ false) (eqb-true m n is) kept), rw is refl)
        | inr no_one ↦ let l = left at n ms (rw (kept, no_one) at e) in (l.0, rw no_one l.1)
      ]
    ]
      where
        or_right : (b c : Bool) → c ≡ true → (b || c) ≡ true
        or_right true c e = refl
        or_right false c e = e

    still : (n : ℕ) → (eqb x.conv n ≡ false) × (has n ns ≡ true) → is_among xs n ≡ true
    still n l = rw l.0 at (among n l.1)

-- ---- those who wait

pub askers_apart : (done : List Deed) (t : Conversations) (kind : PromptKind) → Logs done t → AreApart (askers done kind)
askers_apart done t kind h = once_apart (askers done kind) (λ n. h.tells.users.once kind n)

pub few_askers : (done : List Deed) (t : Conversations) (kind : PromptKind) → Logs done t → length (askers done kind) ≤ length (speakers done)
few_askers done t kind h = apart_few (speakers done) (askers done kind) (askers_apart done t kind h) (λ n e. (h.tells.users.asked kind n e).stands)

-- the first of them
pub first_waits : (done : List Deed) (kind : PromptKind) (conv : ℕ) → Some conv ≡ first_conv (waiting (prompts_of done kind)) → (more : List ℕ) × (askers done kind ≡ conv ∷ more)
first_waits done kind conv e = here (waiting (prompts_of done kind)) e
  where
    here : (xs : List Asker) → Some conv ≡ first_conv xs → (more : List ℕ) × (map (λ a. a.conv) xs ≡ conv ∷ more)
    here [] e = absurd cc
    here (x ∷ xs) e = let is : conv ≡ x.conv = cc in (map (λ a. a.conv) xs, ap (λ (n : ℕ). n ∷ map (λ a. a.conv) xs) (sym is))

-- ---- behind one that is shut the others wait

opened_others : (conv : ℕ) (xs : List Asker) → map (λ a. a.conv) (without_conv conv xs) ≡ others conv (map (λ a. a.conv) xs)
opened_others conv [] = refl
opened_others conv (x ∷ xs) = elim (cases_Bool (eqb x.conv conv)) [
  | inl is ↦ rw is (opened_others conv xs)
  | inr is ↦ rw is (ap (λ (ns : List ℕ). x.conv ∷ ns) (opened_others conv xs))
]

unread_others : (conv : ℕ) (xs : List Prompt) → map (λ a. a.conv) (map asker (without_asked conv xs)) ≡ others conv (map (λ a. a.conv) (map asker xs))
unread_others conv [] = refl
unread_others conv (x ∷ xs) = elim (cases_Bool (eqb x.conv conv)) [
  | inl is ↦ rw is (unread_others conv xs)
  | inr is ↦ rw is (ap (λ (ns : List ℕ). x.conv ∷ ns) (unread_others conv xs))
]

others_both : (conv : ℕ) (ns ms : List ℕ) → others conv (ns ++ ms) ≡ others conv ns ++ others conv ms
others_both conv [] ms = refl
others_both conv (n ∷ ns) ms = elim (cases_Bool (eqb n conv)) [
  | inl is ↦ rw is (others_both conv ns ms)
  | inr is ↦ rw is (ap (λ (xs : List ℕ). n ∷ xs) (others_both conv ns ms))
]

abbrev conv_of : Asker → ℕ
conv_of a = a.conv

withdrawn_others : (conv : ℕ) (q : Questions) → map conv_of (waiting (withdrawn conv q)) ≡ others conv (map conv_of (waiting q))
withdrawn_others conv q =
    map-append conv_of (without_conv conv q.opened) (map asker (without_asked conv q.unread))
    ∙ (ap (λ (ns : List ℕ). ns ++ map conv_of (map asker (without_asked conv q.unread))) (opened_others conv q.opened)
    ∙ (ap (λ (ns : List ℕ). others conv (map conv_of q.opened) ++ ns) (unread_others conv q.unread)
    ∙ (sym (others_both conv (map conv_of q.opened) (map conv_of (map asker q.unread)))
    ∙ ap (others conv) (sym (map-append conv_of q.opened (map asker q.unread))))))

withdrawn_askers : (done : List Deed) (kind : PromptKind) (conv : ℕ) → askers (OfPrompts kind (side.Withdrawn conv) ∷ done) kind ≡ others conv (askers done kind)
withdrawn_askers done k.Confirm conv = withdrawn_others conv (prompts_of done k.Confirm)
withdrawn_askers done k.Needkey conv = withdrawn_others conv (prompts_of done k.Needkey)

-- which answers and replies leave as they are
pub shut_askers : (done : List Deed) (kind : PromptKind) (conv : ℕ) (more : List ℕ) → askers done kind ≡ conv ∷ more → AreApart (askers done kind) → askers (shut kind conv done) kind ≡ more
shut_askers done kind conv more is apart =
    delivered_answers (λ now. askers now kind ≡ more) (record { talk = λ c call now e. e; replies = λ at deed now e. e }) conv (OfTalk conv calls.Shut ∷ OfPrompts kind (side.Withdrawn conv) ∷ done)
    (withdrawn_askers done kind conv ∙ (ap (others conv) is ∙ first_gone conv more (subst AreApart is apart)))
