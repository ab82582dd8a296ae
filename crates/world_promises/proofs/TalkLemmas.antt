-- The conversations that are open: each is found by its name, and which of them are open behind an act.
use Rattle.std.proofs.Common.{◌≡◌, ℕ, List, [], ◌∷◌, ◌++◌, Bool, true, false, cond, eqb, ◌||◌, not, map, Option, Some, None, refl, sym, ap, subst, ◌∙◌, ◌⊎◌, inl, inr}
use Rattle.std.specs.Prelude.{filter, find}
use Rattle.std.specs.Str.{bytes_eq}
use Rattle.std.proofs.lemmas.Bool.{cases_Bool, eqb-true, eq-eqb, or_parts}
use Rattle.world_history.specs.Acts.{Act, Talk, Domain, KeyLine, SpeakLine, Reloaded, Made, Restarted, Told, Opened, Started, Got, Given, Answered, Unanswered, Asked, Closed, fids_on, has_name, is_held, least_fid, opened_names, talk_of, talks}
use Rattle.world_history.specs.Scripts.{is_unfit}
use Rattle.world_promises.specs.Conditions.{AreDone}
use Rattle.world_promises.proofs.PlaceLemmas.{AllOf, all_filter, all_more, all_push, placed, was_opened}
use Rattle.driven_agents.proofs.FoundLemmas.{found_kept, found_last, found_stays}
use Rattle.world_promises.proofs.RunLemmas.{itself, same_name}

-- ---- each is found by its name

abbrev pub IsFound : List Act → Talk → Type 0
IsFound acts t = talk_of acts t.conv ≡ Some t

found_front : (p : Talk → Bool) (ts more : List Talk) (t : Talk) → find p ts ≡ Some t → find p (ts ++ more) ≡ Some t
found_front p [] more t is = absurd cc
found_front p (x ∷ ts) more t is = by_first (p x) is (found_front p ts more t)
  where
    by_first : (b : Bool) → cond b (Some x) (find p ts) ≡ Some t → (find p ts ≡ Some t → find p (ts ++ more) ≡ Some t) → cond b (Some x) (find p (ts ++ more)) ≡ Some t
    by_first true is so = is
    by_first false is so = so is

pub new_name : (acts : List Act) (node conv : List ℕ) → is_unfit acts (Opened node conv) ≡ false → has_name conv (opened_names acts) ≡ false
unfolding is_unfit
new_name acts node conv fits = (or_parts (has_name conv (opened_names acts)) _ fits).0

pub none_named : (acts : List Act) → AreDone acts → (conv : List ℕ) (o : Option Talk) → talk_of acts conv ≡ o → has_name conv (opened_names acts) ≡ false → o ≡ None
none_named acts done conv None is off = refl
none_named acts done conv (Some t) is off =
    let p = placed acts done conv t is in
    absurd (let no_way : false ≡ true = sym off ∙ was_opened acts conv p.place p.is in cc)

pub all_found : (acts : List Act) → AreDone acts → AllOf (IsFound acts) (talks acts)
all_found [] done = tt
all_found (Opened node conv ∷ before) done =
    let new : Talk = record { conv = conv; node = node; fid = least_fid (fids_on node (talks before)) } in
    all_push (IsFound (Opened node conv ∷ before)) (talks before) new
    (all_more (IsFound before) (IsFound (Opened node conv ∷ before)) (talks before) (λ t is. found_front (λ x. bytes_eq x.conv t.conv) (talks before) (new ∷ []) t is) (all_found before done.1))
    (found_last (λ x. bytes_eq x.conv conv) (talks before) new (none_named before done.1 conv (talk_of before conv) refl (new_name before node conv done.0.fits)) (itself conv))
all_found (Closed conv ∷ before) done =
    all_filter (IsFound before) (IsFound (Closed conv ∷ before)) (λ t. not (bytes_eq t.conv conv)) (talks before) (λ t kept is. found_stays (λ x. bytes_eq x.conv t.conv) (λ t. not (bytes_eq t.conv conv)) (talks before) t is kept) (all_found before done.1)
all_found (Restarted node ∷ before) done =
    all_filter (IsFound before) (IsFound (Restarted node ∷ before)) (λ t. not (bytes_eq t.node node)) (talks before) (λ t kept is. found_stays (λ x. bytes_eq x.conv t.conv) (λ t. not (bytes_eq t.node node)) (talks before) t is kept) (all_found before done.1)
all_found (Reloaded ∷ before) done = all_found before done.1
all_found (Domain dom ∷ before) done = all_found before done.1
all_found (KeyLine tuple ∷ before) done = all_found before done.1
all_found (SpeakLine tuple ∷ before) done = all_found before done.1
all_found (Made node ∷ before) done = all_found before done.1
all_found (Told node line ∷ before) done = all_found before done.1
all_found (Started conv word tuple ∷ before) done = all_found before done.1
all_found (Got conv ∷ before) done = all_found before done.1
all_found (Given conv bytes ∷ before) done = all_found before done.1
all_found (Answered conv bytes call ∷ before) done = all_found before done.1
all_found (Unanswered conv call ∷ before) done = all_found before done.1
all_found (Asked session request words ∷ before) done = all_found before done.1

-- ---- fids

-- the fid of one that is open is held
pub is_held_by : (node : List ℕ) (p : Talk → Bool) (ts : List Talk) (t : Talk) → find p ts ≡ Some t → bytes_eq t.node node ≡ true → is_held t.fid (fids_on node ts) ≡ true
is_held_by node p [] t is on = absurd cc
is_held_by node p (x ∷ ts) t is on = by_first (p x) is (is_held_by node p ts t)
  where
    mine : x ≡ t → is_held t.fid (fids_on node (x ∷ ts)) ≡ true
    mine same = subst (λ y. is_held t.fid (fids_on node (y ∷ ts)) ≡ true) (sym same) (ap (λ b. is_held t.fid (map (λ t. t.fid) (cond b (t ∷ filter (λ t. bytes_eq t.node node) ts) (filter (λ t. bytes_eq t.node node) ts)))) on ∙ ap (λ b. b || is_held t.fid (fids_on node ts)) (eq-eqb t.fid t.fid refl))

    theirs : (b : Bool) → is_held t.fid (fids_on node ts) ≡ true → is_held t.fid (map (λ t. t.fid) (cond b (x ∷ filter (λ t. bytes_eq t.node node) ts) (filter (λ t. bytes_eq t.node node) ts))) ≡ true
    theirs false more = more
    theirs true more = or_more (eqb x.fid t.fid) more
      where
        or_more : (b : Bool) → is_held t.fid (fids_on node ts) ≡ true → (b || is_held t.fid (fids_on node ts)) ≡ true
        or_more true more = refl
        or_more false more = more

    by_first : (b : Bool) → cond b (Some x) (find p ts) ≡ Some t → (find p ts ≡ Some t → bytes_eq t.node node ≡ true → is_held t.fid (fids_on node ts) ≡ true) → is_held t.fid (fids_on node (x ∷ ts)) ≡ true
    by_first true is so = mine cc
    by_first false is so = theirs (bytes_eq x.node node) (so is on)

-- who holds one
pub held_by_talk : (node : List ℕ) (P : Talk → Type 0) (k : ℕ) (ts : List Talk) → AllOf P ts → is_held k (fids_on node ts) ≡ true → (t : Talk) × P t × (bytes_eq t.node node ≡ true) × (t.fid ≡ k)
held_by_talk node P k [] all is = absurd cc
held_by_talk node P k (x ∷ ts) all is = by_node (bytes_eq x.node node) refl is (held_by_talk node P k ts all.1)
  where
    by_node : (b : Bool) → bytes_eq x.node node ≡ b → is_held k (map (λ t. t.fid) (cond b (x ∷ filter (λ t. bytes_eq t.node node) ts) (filter (λ t. bytes_eq t.node node) ts))) ≡ true
        → (is_held k (fids_on node ts) ≡ true → (t : Talk) × P t × (bytes_eq t.node node ≡ true) × (t.fid ≡ k)) → (t : Talk) × P t × (bytes_eq t.node node ≡ true) × (t.fid ≡ k)
    by_node false on is more = more is
    by_node true on is more = by_fid (eqb x.fid k) refl is more
      where
        by_fid : (c : Bool) → eqb x.fid k ≡ c → (c || is_held k (fids_on node ts)) ≡ true → (is_held k (fids_on node ts) ≡ true → (t : Talk) × P t × (bytes_eq t.node node ≡ true) × (t.fid ≡ k)) → (t : Talk) × P t × (bytes_eq t.node node ≡ true) × (t.fid ≡ k)
        by_fid true same is more = (x, all.0, on, eqb-true x.fid k same)
        by_fid false other is more = more is

-- ---- behind an act

-- the one that is opened, or one of before
opened_step : (p : Talk → Bool) (ts : List Talk) (new t : Talk) → find p (ts ++ new ∷ []) ≡ Some t → (find p ts ≡ Some t) ⊎ ((p new ≡ true) × (new ≡ t))
opened_step p [] new t is = last (p new) refl is
  where
    last : (b : Bool) → p new ≡ b → cond b (Some new) None ≡ Some t → (◌≡◌ {A = Option Talk} None (Some t)) ⊎ ((p new ≡ true) × (new ≡ t))
    last true on is = let same : new ≡ t = cc in inr (on, same)
    last false on is = inl is
opened_step p (x ∷ ts) new t is = by_first (p x) is (opened_step p ts new t)
  where
    by_first : (b : Bool) → cond b (Some x) (find p (ts ++ new ∷ [])) ≡ Some t → (find p (ts ++ new ∷ []) ≡ Some t → (find p ts ≡ Some t) ⊎ ((p new ≡ true) × (new ≡ t))) → (cond b (Some x) (find p ts) ≡ Some t) ⊎ ((p new ≡ true) × (new ≡ t))
    by_first true is so = inl is
    by_first false is so = so is

abbrev pub new_talk : List Act → List ℕ → List ℕ → Talk
new_talk before node conv = record { conv = conv; node = node; fid = least_fid (fids_on node (talks before)) }

pub opened_talk : (before : List Act) (node conv name : List ℕ) (t : Talk) → talk_of (Opened node conv ∷ before) name ≡ Some t → (talk_of before name ≡ Some t) ⊎ ((bytes_eq conv name ≡ true) × (new_talk before node conv ≡ t))
opened_talk before node conv name t is = opened_step (λ x. bytes_eq x.conv name) (talks before) (record { conv = conv; node = node; fid = least_fid (fids_on node (talks before)) }) t is

-- one that is closed isn't open, and any other one is as it was
none_step : (p keep : Talk → Bool) (x : Talk) (ts : List Talk) (a b : Bool) → p x ≡ a → keep x ≡ b → (a ≡ true → b ≡ false) → find p (filter keep ts) ≡ None → find p (cond b (x ∷ filter keep ts) (filter keep ts)) ≡ None
none_step p keep x ts a false is kept all none = none
none_step p keep x ts false true is kept all none = ap (λ b. cond b (Some x) (find p (filter keep ts))) is ∙ none
none_step p keep x ts true true is kept all none = absurd (let no_way : true ≡ false = all refl in cc)

found_none : (p keep : Talk → Bool) (ts : List Talk) → ((t : Talk) → p t ≡ true → keep t ≡ false) → find p (filter keep ts) ≡ None
found_none p keep [] all = refl
found_none p keep (x ∷ ts) all = none_step p keep x ts (p x) (keep x) refl refl (all x) (found_none p keep ts all)

pub closed_talk : (before : List Act) (conv name : List ℕ) (t : Talk) → talk_of (Closed conv ∷ before) name ≡ Some t → (talk_of before name ≡ Some t) × (bytes_eq conv name ≡ false)
closed_talk before conv name t is = elim (cases_Bool (bytes_eq conv name)) [
  | inl same ↦ absurd (
      let none = found_none (λ x. bytes_eq x.conv name) (λ x. not (bytes_eq x.conv conv)) (talks before) (λ x at. ap not (ap (λ n. bytes_eq n conv) (same_name x.conv name at ∙ sym (same_name conv name same)) ∙ itself conv)) in
      let no_way : None ≡ Some t = sym none ∙ is in cc)
  | inr other ↦ (sym (found_kept (λ x. bytes_eq x.conv name) (λ x. not (bytes_eq x.conv conv)) (talks before) (λ x at. ap not (apart x (same_name x.conv name at) (bytes_eq x.conv conv) refl other))) ∙ is, other)
]
  where
    apart : (x : Talk) → x.conv ≡ name → (b : Bool) → bytes_eq x.conv conv ≡ b → bytes_eq conv name ≡ false → b ≡ false
    apart x named false is off = refl
    apart x named true is off = absurd (let on : bytes_eq conv name ≡ true = ap (bytes_eq conv) (sym named ∙ same_name x.conv conv is) ∙ itself conv in let no_way : true ≡ false = sym on ∙ off in cc)

-- one that is open behind a restart was open before, on another node
found_kept_of : (P : Talk → Type 0) (p keep : Talk → Bool) (ts : List Talk) (t : Talk) → AllOf P ts → find p (filter keep ts) ≡ Some t → P t × (p t ≡ true) × (keep t ≡ true)
found_kept_of P p keep [] t all is = absurd cc
found_kept_of P p keep (x ∷ ts) t all is = by_kept (keep x) refl is (found_kept_of P p keep ts t all.1)
  where
    by_first : (b : Bool) → p x ≡ b → keep x ≡ true → cond b (Some x) (find p (filter keep ts)) ≡ Some t → (find p (filter keep ts) ≡ Some t → P t × (p t ≡ true) × (keep t ≡ true)) → P t × (p t ≡ true) × (keep t ≡ true)
    by_first true found kept is so = let same : x ≡ t = cc in subst (λ y. P y × (p y ≡ true) × (keep y ≡ true)) same (all.0, found, kept)
    by_first false found kept is so = so is

    by_kept : (b : Bool) → keep x ≡ b → find p (cond b (x ∷ filter keep ts) (filter keep ts)) ≡ Some t → (find p (filter keep ts) ≡ Some t → P t × (p t ≡ true) × (keep t ≡ true)) → P t × (p t ≡ true) × (keep t ≡ true)
    by_kept true kept is so = by_first (p x) refl kept is so
    by_kept false kept is so = so is

pub restarted_talk : (before : List Act) (node name : List ℕ) (t : Talk) → AreDone before → talk_of (Restarted node ∷ before) name ≡ Some t → (talk_of before name ≡ Some t) × (not (bytes_eq t.node node) ≡ true)
restarted_talk before node name t done is =
    let f = found_kept_of (IsFound before) (λ x. bytes_eq x.conv name) (λ x. not (bytes_eq x.node node)) (talks before) t (all_found before done) is in
    (subst (λ n. talk_of before n ≡ Some t) (same_name t.conv name f.1) f.0, f.2)
