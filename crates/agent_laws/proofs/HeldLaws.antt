-- The fids that a connection holds, as a list of numbers without an equal two, after every history.
use Rattle.std.proofs.Common.{◌≡◌, ℕ, ◌+◌, ◌-◌, List, [], ◌∷◌, length, Bool, true, false, cond, eqb, ◌&&◌, ◌||◌, not, Option, Some, None, refl, sym, ap, subst, ◌∙◌, inl, inr, arith}
use Rattle.std.specs.Prelude.{is_some}
use Rattle.std.specs.List.{list_any, filter, IsDistinct, AllByRecursion}
use Rattle.std.proofs.lemmas.Bool.{cases_Bool, eqb-true, or_parts}
use Rattle.std.proofs.lemmas.Map.Keys.{IsDistinct-head, IsDistinct-tail, IsDistinct-cons}
use Rattle.attr_tuples.proofs.EqualityLemmas.{eqb_swap}
use Rattle.file_tree.specs.declared.tree.FidState.{FidState}
use Rattle.file_tree.specs.declared.tree.Node.TheVariants.{Root}
use Rattle.file_tree.specs.Calls.{at_rest, opened}
use Rattle.agent_history.specs.Deeds.{Deed, FidDeed, OfFids, OfKeys, OfReplies, OfConnection, OfTalk, Raised, HandedOut, OfPrompts, OfLog, DropTaken, Swept, Halted, Versioned, Attached, Walked, Opened, Listed, Browsed, Clunked, Edited, Switched, Entered, Hung, fid_of, held_by, one_less, one_more}
use Rattle.agent_history.specs.Histories.{History, deeds}
use Rattle.agent_laws.specs.Laws.{AreHeld}
use Rattle.agent_laws.proofs.DeedLaws.{SameFor, fids_same_for}
use Rattle.agent_laws.proofs.KindLaws.{Fits, KeepsOf, is_done}
use Rattle.agent_laws.proofs.GrowLaws.{history_grows}

-- ---- numbers without an equal two

-- the others
others : ℕ → List ℕ → List ℕ
others fid fids = filter (λ f. not (eqb fid f)) fids

apart_any : (fid : ℕ) (fids : List ℕ) → list_any (eqb fid) fids ≡ false → AllByRecursion (λ f. eqb fid f ≡ false) fids
apart_any fid [] e = tt
apart_any fid (f ∷ fids) e = let parts = or_parts (eqb fid f) (list_any (eqb fid) fids) e in (parts.0, apart_any fid fids parts.1)

apart_others : (f fid : ℕ) (fids : List ℕ) → AllByRecursion (λ x. eqb f x ≡ false) fids → AllByRecursion (λ x. eqb f x ≡ false) (others fid fids)
unfolding others
apart_others f fid [] h = tt
apart_others f fid (x ∷ fids) h = elim (cases_Bool (eqb fid x)) [
  | inl e ↦ rw e (apart_others f fid fids h.1)
  | inr e ↦ rw e (h.0, apart_others f fid fids h.1)
]

distinct_others : (fid : ℕ) (fids : List ℕ) → IsDistinct eqb fids → IsDistinct eqb (others fid fids)
unfolding others
distinct_others fid [] h = h
distinct_others fid (x ∷ fids) h = elim (cases_Bool (eqb fid x)) [
  | inl e ↦ rw e (distinct_others fid fids (IsDistinct-tail eqb x fids h))
  | inr e ↦ rw e (IsDistinct-cons eqb x (others fid fids) (apart_others x fid fids (IsDistinct-head eqb x fids h)) (distinct_others fid fids (IsDistinct-tail eqb x fids h)))
]

-- where it isn't among them, all are others
all_others : (fid : ℕ) (fids : List ℕ) → AllByRecursion (λ f. eqb fid f ≡ false) fids → others fid fids ≡ fids
unfolding others
all_others fid [] h = refl
all_others fid (x ∷ fids) h = rw h.0 (ap (λ (fs : List ℕ). x ∷ fs) (all_others fid fids h.1))

-- where it is, they are one fewer
count_others : (fid : ℕ) (fids : List ℕ) → IsDistinct eqb fids → list_any (eqb fid) fids ≡ true → length (others fid fids) + 1 ≡ length fids
unfolding others
count_others fid [] h e = absurd (cc)
count_others fid (x ∷ fids) h e = elim (cases_Bool (eqb fid x)) [
  | inl same ↦
      (let is : fid ≡ x = eqb-true fid x same in
      let apart : AllByRecursion (λ f. eqb fid f ≡ false) fids = subst (λ (y : ℕ). AllByRecursion (λ f. eqb y f ≡ false) fids) (sym is) (IsDistinct-head eqb x fids h) in
      rw same (omega (arith, ap length (all_others fid fids apart))))
  | inr other ↦
      (let behind : list_any (eqb fid) fids ≡ true = rw other at e in
      rw other (omega (arith, count_others fid fids (IsDistinct-tail eqb x fids h) behind)))
]

-- which they are
any_others : (fid f : ℕ) (fids : List ℕ) → list_any (eqb f) (others fid fids) ≡ cond (eqb fid f) false (list_any (eqb f) fids)
unfolding others
any_others fid f [] = elim (cases_Bool (eqb fid f)) [
  | inl e ↦ rw e refl
  | inr e ↦ rw e refl
]
any_others fid f (x ∷ fids) = elim (cases_Bool (eqb fid x)) [
  | inl e ↦ rw e (any_others fid f fids ∙ gone (eqb-true fid x e))
  | inr e ↦ rw e (ap (λ (b : Bool). eqb f x || b) (any_others fid f fids) ∙ stays e)
]
  where
    gone : fid ≡ x → cond (eqb fid f) false (list_any (eqb f) fids) ≡ cond (eqb fid f) false (eqb f x || list_any (eqb f) fids)
    gone is = elim (cases_Bool (eqb fid f)) [
      | inl e ↦ rw e refl
      | inr e ↦ (let off : eqb f x ≡ false = eqb_swap f x ∙ ap (λ (y : ℕ). eqb y f) (sym is) ∙ e in rw (e, off) refl)
    ]

    stays : eqb fid x ≡ false → (eqb f x || cond (eqb fid f) false (list_any (eqb f) fids)) ≡ cond (eqb fid f) false (eqb f x || list_any (eqb f) fids)
    stays off = elim (cases_Bool (eqb fid f)) [
      | inl e ↦ (let apart : eqb f x ≡ false = ap (λ (y : ℕ). eqb y x) (sym (eqb-true fid f e)) ∙ off in rw (e, apart) refl)
      | inr e ↦ rw e refl
    ]

-- ---- one deed more

-- a connection holds some fids
abbrev pub Holds : ℕ → List Deed → Type 0
Holds conn done = (fids : List ℕ) × AreHeld done conn fids

holds_same : (conn : ℕ) (before after : List Deed) → held_by after conn ≡ held_by before conn → ((fid : ℕ) → is_some (fid_of after conn fid) ≡ is_some (fid_of before conn fid)) → Holds conn before → Holds conn after
holds_same conn before after held fids h = (
  h.0,
  record {
    distinct = h.1.distinct;
    count = h.1.count ∙ sym held;
    held = λ fid. fids fid ∙ h.1.held fid;
  },
)

-- all fids are given up
holds_none : (conn : ℕ) (done : List Deed) → held_by done conn ≡ 0 → ((fid : ℕ) → fid_of done conn fid ≡ None) → Holds conn done
unfolding IsDistinct
holds_none conn done none empty = ([], record { distinct = tt; count = sym none; held = λ fid. ap is_some (empty fid) })

-- a fid more
holds_more : (conn : ℕ) (before after : List Deed) (fid : ℕ) (state : FidState) → is_some (fid_of before conn fid) ≡ false → held_by after conn ≡ held_by before conn + 1
    → ((f : ℕ) → fid_of after conn f ≡ cond (eqb fid f) (Some state) (fid_of before conn f)) → Holds conn before → Holds conn after
holds_more conn before after fid state free more fids h = (
  fid ∷ h.0,
  record {
    distinct = IsDistinct-cons eqb fid h.0 (apart_any fid h.0 (sym (h.1.held fid) ∙ free)) h.1.distinct;
    count = omega (arith, h.1.count, more);
    held = λ f. ap is_some (fids f) ∙ with_it f (eqb fid f) (eqb_swap f fid);
  },
)
  where
    with_it : (f : ℕ) (b : Bool) → eqb f fid ≡ b → is_some (cond b (Some state) (fid_of before conn f)) ≡ (eqb f fid || list_any (eqb f) h.0)
    with_it f true e = rw e refl
    with_it f false e = rw e (h.1.held f)

-- a fid that comes to a file is one more where it wasn't held
holds_set : (conn : ℕ) (before after : List Deed) (fid : ℕ) (state : FidState) (o : Option FidState) → fid_of before conn fid ≡ o → held_by after conn ≡ one_more o (held_by before conn)
    → ((f : ℕ) → fid_of after conn f ≡ cond (eqb fid f) (Some state) (fid_of before conn f)) → Holds conn before → Holds conn after
holds_set conn before after fid state None is held fids h = holds_more conn before after fid state (ap is_some is) held fids h
holds_set conn before after fid state (Some old) is held fids h = holds_same conn before after held (λ f. ap is_some (fids f) ∙ set_again f (eqb fid f) refl) h
  where
    set_again : (f : ℕ) (b : Bool) → eqb fid f ≡ b → is_some (cond b (Some state) (fid_of before conn f)) ≡ is_some (fid_of before conn f)
    set_again f true e = sym (ap (λ (n : ℕ). is_some (fid_of before conn n)) (sym (eqb-true fid f e)) ∙ ap is_some is)
    set_again f false e = refl

-- a fid fewer
holds_fewer : (conn : ℕ) (before after : List Deed) (fid : ℕ) → is_some (fid_of before conn fid) ≡ true → held_by after conn ≡ held_by before conn - 1
    → ((f : ℕ) → fid_of after conn f ≡ cond (eqb fid f) None (fid_of before conn f)) → Holds conn before → Holds conn after
holds_fewer conn before after fid held fewer fids h = (
  others fid h.0,
  record {
    distinct = distinct_others fid h.0 h.1.distinct;
    count = omega (arith, h.1.count, fewer, count_others fid h.0 h.1.distinct (sym (h.1.held fid) ∙ held));
    held = λ f. ap is_some (fids f) ∙ one_fewer f (eqb fid f) ∙ sym (any_others fid f h.0);
  },
)
  where
    one_fewer : (f : ℕ) (b : Bool) → is_some (cond b None (fid_of before conn f)) ≡ cond b false (list_any (eqb f) h.0)
    one_fewer f true = refl
    one_fewer f false = h.1.held f

-- a fid that is opened names something or nothing as before
opened_same : (b : Bool) (mode : ℕ) (o : Option FidState) → is_some (cond b (opened mode o) o) ≡ is_some o
opened_same true mode None = refl
opened_same true mode (Some state) = refl
opened_same false mode o = refl

-- ---- every deed

one_less_held : (o : Option FidState) (held : ℕ) → is_some o ≡ true → one_less o held ≡ held - 1
one_less_held None held e = absurd cc
one_less_held (Some state) held e = refl

holds_own : (conn at : ℕ) (done : List Deed) (deed : FidDeed) → eqb at conn ≡ true → Fits done (OfFids at deed) → Holds conn done → Holds conn (OfFids at deed ∷ done)
holds_own conn at done (Versioned msize) own fits h = holds_none conn (OfFids at (Versioned msize) ∷ done) (rw own refl) (λ fid. rw own refl)
holds_own conn at done (Attached fid) own fits h = holds_set conn done (OfFids at (Attached fid) ∷ done) fid (at_rest Root) (fid_of done conn fid) refl (rw own refl) (λ f. rw own refl) h
holds_own conn at done (Walked fid node) own fits h = holds_set conn done (OfFids at (Walked fid node) ∷ done) fid (at_rest node) (fid_of done conn fid) refl (rw own refl) (λ f. rw own refl) h
holds_own conn at done (Opened fid mode) own fits h = holds_same conn done (OfFids at (Opened fid mode) ∷ done) refl (λ f. opened_same (eqb at conn && eqb fid f) mode (fid_of done conn f)) h
holds_own conn at done (Clunked fid) own fits h =
    let held : is_some (fid_of done conn fid) ≡ true = ap (λ (n : ℕ). is_some (fid_of done n fid)) (sym (eqb-true at conn own)) ∙ fits.0 in
    holds_fewer conn done (OfFids at (Clunked fid) ∷ done) fid held (rw own (one_less_held (fid_of done conn fid) (held_by done conn) held)) (λ f. rw own refl) h
holds_own conn at done (Listed fid) own fits h = holds_same conn done (OfFids at (Listed fid) ∷ done) refl (λ f. refl) h
holds_own conn at done (Browsed fid next) own fits h = holds_same conn done (OfFids at (Browsed fid next) ∷ done) refl (λ f. refl) h

holds_elsewhere : (conn : ℕ) (done : List Deed) (deed : Deed) → SameFor done conn (deed ∷ done) → Holds conn done → Holds conn (deed ∷ done)
holds_elsewhere conn done deed s h = holds_same conn done (deed ∷ done) s.held (λ f. ap is_some (s.fids f)) h

holds_hung : (conn at : ℕ) (done : List Deed) (b : Bool) → eqb at conn ≡ b → Holds conn done → Holds conn (OfConnection at Hung ∷ done)
holds_hung conn at done true on h = holds_none conn (OfConnection at Hung ∷ done) (rw on refl) (λ fid. rw on refl)
holds_hung conn at done false on h = holds_same conn done (OfConnection at Hung ∷ done) (rw on refl) (λ fid. rw on refl) h

holds_fids : (conn at : ℕ) (done : List Deed) (deed : FidDeed) (b : Bool) → eqb at conn ≡ b → Fits done (OfFids at deed) → Holds conn done → Holds conn (OfFids at deed ∷ done)
holds_fids conn at done deed true on fits h = holds_own conn at done deed on fits h
holds_fids conn at done deed false on fits h = holds_elsewhere conn done (OfFids at deed) (fids_same_for at deed done conn on) h

holds_deed : (conn at : ℕ) → KeepsOf (is_done at) (Holds conn)
holds_deed conn at done (OfFids c deed) kind fits h = holds_fids conn c done deed (eqb c conn) refl fits h
holds_deed conn at done (OfKeys c (Edited edit)) kind fits h = holds_same conn done (OfKeys c (Edited edit) ∷ done) refl (λ f. refl) h
holds_deed conn at done (OfKeys c Switched) kind fits h = holds_same conn done (OfKeys c Switched ∷ done) refl (λ f. refl) h
holds_deed conn at done (OfReplies c deed) kind fits h = holds_same conn done (OfReplies c deed ∷ done) refl (λ f. refl) h
holds_deed conn at done (OfConnection c Entered) kind fits h = holds_same conn done (OfConnection c Entered ∷ done) refl (λ f. refl) h
holds_deed conn at done (OfConnection c Hung) kind fits h = holds_hung conn c done (eqb c conn) refl h
holds_deed conn at done (OfTalk conv call) kind fits h = holds_same conn done (OfTalk conv call ∷ done) refl (λ f. refl) h
holds_deed conn at done (Raised conv) kind fits h = holds_same conn done (Raised conv ∷ done) refl (λ f. refl) h
holds_deed conn at done HandedOut kind fits h = holds_same conn done (HandedOut ∷ done) refl (λ f. refl) h
holds_deed conn at done DropTaken kind fits h = holds_same conn done (DropTaken ∷ done) refl (λ f. refl) h
holds_deed conn at done (OfPrompts about doing) kind fits h = holds_same conn done ((OfPrompts about doing) ∷ done) refl (λ f. refl) h
holds_deed conn at done (OfLog doing) kind fits h = holds_same conn done ((OfLog doing) ∷ done) refl (λ f. refl) h
holds_deed conn at done Swept kind fits h = holds_same conn done (Swept ∷ done) refl (λ f. refl) h
holds_deed conn at done Halted kind fits h = holds_none conn (Halted ∷ done) refl (λ fid. refl)

pub fids_held : (H : History) (conn : ℕ) → Holds conn (deeds H)
fids_held H conn = history_grows (Holds conn) (holds_deed conn) (holds_none conn [] refl (λ fid. refl)) H
