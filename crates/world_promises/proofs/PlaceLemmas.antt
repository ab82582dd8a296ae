-- Where a conversation is: a name that is open has the place where it was opened, on a node that was made.
use Rattle.std.proofs.Common.{◌≡◌, ℕ, List, [], ◌∷◌, ◌++◌, filter, find, Option, Some, None, Bool, true, false, not, ◌||◌, ◌⊎◌, inl, inr, if◌then◌else◌, refl, sym, ap, subst, ◌∙◌}
use Rattle.std.specs.List.{list_any}
use Rattle.std.specs.Str.{bytes_eq}
use Rattle.std.proofs.lemmas.Bool.{cases_Bool, or_parts}
use Rattle.std.proofs.lemmas.Slice.Eq.{bytes_eq-Decides}
use Rattle.agent_history.specs.Conversations.{opened_talks}
use Rattle.agent_history.specs.Histories.{deeds}
use Rattle.world_history.specs.Acts.{Act, Talk, Made, Restarted, Opened, Closed, agent_of, fids_on, has_name, is_node, least_fid, opened_names, talk_of, talks}
use Rattle.world_history.specs.Driving.{refuses_open}
use Rattle.world_history.specs.Scripts.{is_unfit}
use Rattle.world_history.specs.Worlds.{fid_for, history}
use Rattle.world_promises.specs.Conditions.{AreDone}
use Rattle.world_promises.specs.Settings.{Place, next_place, place_of}
use Rattle.world_promises.proofs.AgentNames.{is_agent, new_made, new_restarted, other_agent, present}

same_name : (a b : List ℕ) → bytes_eq a b ≡ true → a ≡ b
same_name a b is = (bytes_eq-Decides a b).0 is

-- ---- names that were opened

opened_by : (b : Bool) (new old : Option Place) (rest : Bool) (place : Place) → (if b then new else old) ≡ Some place → (old ≡ Some place → rest ≡ true) → (b || rest) ≡ true
opened_by true new old rest place is so = refl
opened_by false new old rest place is so = so is

pub was_opened : (acts : List Act) (conv : List ℕ) (place : Place) → place_of acts conv ≡ Some place → has_name conv (opened_names acts) ≡ true
was_opened [] conv place is = cc is
was_opened (Opened node name ∷ before) conv place is = opened_by (bytes_eq name conv) _ (place_of before conv) (has_name conv (opened_names before)) place is (was_opened before conv place)
was_opened (act ∷ before) conv place is = was_opened before conv place is

new_name : (acts : List Act) (node conv : List ℕ) → is_unfit acts (Opened node conv) ≡ false → has_name conv (opened_names acts) ≡ false
unfolding is_unfit
new_name acts node conv fits = (or_parts (has_name conv (opened_names acts)) (refuses_open (fid_for acts node) (history acts (agent_of acts node))) fits).0

-- a name that is opened now has no place before
pub unplaced : (acts : List Act) (node conv name : List ℕ) → is_unfit acts (Opened node conv) ≡ false → bytes_eq conv name ≡ true → place_of acts name ≡ None
unplaced acts node conv name fits is = by_place (place_of acts name) refl
  where
    by_place : (o : Option Place) → place_of acts name ≡ o → o ≡ None
    by_place None so = refl
    by_place (Some place) so = absurd (cc (sym (new_name acts node conv fits) ∙ (ap (λ n. has_name n (opened_names acts)) (same_name conv name is) ∙ was_opened acts name place so)))

-- ---- the place of a conversation that is open

-- it is on the node, and at the agent that this has still
pub record IsPlaced (acts : List Act) (conv : List ℕ) (t : Talk) : Type 0 where
  pub place : Place
  pub is : place_of acts conv ≡ Some place
  pub node : place.node ≡ t.node
  pub agent : place.agent ≡ agent_of acts t.node

-- all of a list
abbrev pub AllOf : (Talk → Type 0) → List Talk → Type 0
AllOf P [] = Unit {0}
AllOf P (t ∷ ts) = P t × AllOf P ts

pub all_more : (P Q : Talk → Type 0) (ts : List Talk) → ((t : Talk) → P t → Q t) → AllOf P ts → AllOf Q ts
all_more P Q [] so all = tt
all_more P Q (t ∷ ts) so all = (so t all.0, all_more P Q ts so all.1)

pub all_push : (P : Talk → Type 0) (ts : List Talk) (t : Talk) → AllOf P ts → P t → AllOf P (ts ++ t ∷ [])
all_push P [] t all is = (is, tt)
all_push P (x ∷ ts) t all is = (all.0, all_push P ts t all.1 is)

pub all_filter : (P Q : Talk → Type 0) (keep : Talk → Bool) (ts : List Talk) → ((t : Talk) → keep t ≡ true → P t → Q t) → AllOf P ts → AllOf Q (filter keep ts)
all_filter P Q keep [] so all = tt
all_filter P Q keep (t ∷ ts) so all = by_kept (keep t) refl (all_filter P Q keep ts so all.1)
  where
    by_kept : (b : Bool) → keep t ≡ b → AllOf Q (filter keep ts) → AllOf Q (if b then t ∷ filter keep ts else filter keep ts)
    by_kept true is more = (so t is all.0, more)
    by_kept false is more = more

-- what is found is one of them
found_of : (P : Talk → Type 0) (p : Talk → Bool) (ts : List Talk) (t : Talk) → AllOf P ts → find p ts ≡ Some t → P t × (p t ≡ true)
found_of P p [] t all is = cc is
found_of P p (x ∷ ts) t all is = by_first (p x) refl is (found_of P p ts t all.1)
  where
    by_first : (b : Bool) → p x ≡ b → (if b then Some x else find p ts) ≡ Some t → (find p ts ≡ Some t → P t × (p t ≡ true)) → P t × (p t ≡ true)
    by_first true found is so = let same : x ≡ t = cc is in subst (λ y. P y × (p y ≡ true)) same (all.0, found)
    by_first false found is so = so is

-- each is placed by its own name
abbrev IsIn : List Act → Talk → Type 0
IsIn acts t = IsPlaced acts t.conv t

placed_later : (acts : List Act) (node name : List ℕ) (t : Talk) → is_unfit acts (Opened node name) ≡ false → IsIn acts t → IsIn (Opened node name ∷ acts) t
placed_later acts node name t fits old = elim (cases_Bool (bytes_eq name t.conv)) [
  | inl same ↦ absurd (cc (sym (unplaced acts node name t.conv fits same) ∙ old.is))
  | inr other ↦ record { place = old.place; is = ap (λ b. if b then Some (next_place acts node) else place_of acts t.conv) other ∙ old.is; node = old.node; agent = old.agent }
]

same_conv : (a : List ℕ) → bytes_eq a a ≡ true
same_conv a = (bytes_eq-Decides a a).1 refl

placed_now : (acts : List Act) (node name : List ℕ) (fid : ℕ) → IsIn (Opened node name ∷ acts) (record { conv = name; node = node; fid = fid })
placed_now acts node name fid = record {
  place = next_place acts node;
  is = ap (λ b. if b then Some (next_place acts node) else place_of acts name) (same_conv name);
  node = refl;
  agent = refl;
}

-- on a node that isn't restarted
placed_off : (acts : List Act) (name : List ℕ) (t : Talk) → not (bytes_eq t.node name) ≡ true → IsIn acts t → IsIn (Restarted name ∷ acts) t
placed_off acts name t kept old = record { place = old.place; is = old.is; node = old.node; agent = old.agent ∙ sym (other_agent acts name t.node (swapped (cases_Bool (bytes_eq name t.node)))) }
  where
    off : (b : Bool) → not b ≡ true → b ≡ false
    off true h = cc h
    off false h = refl

    swapped : (bytes_eq name t.node ≡ true) ⊎ (bytes_eq name t.node ≡ false) → bytes_eq name t.node ≡ false
    swapped (inl same) = absurd (cc (sym (off (bytes_eq t.node name) kept) ∙ (ap (bytes_eq t.node) (same_name name t.node same) ∙ same_conv t.node)))
    swapped (inr other) = other

all_placed : (acts : List Act) → AreDone acts → AllOf (IsIn acts) (talks acts)
all_placed [] done = tt
all_placed (Opened node name ∷ before) done =
    let fid = least_fid (fids_on node (talks before)) in
    all_push (IsIn (Opened node name ∷ before)) (talks before) (record { conv = name; node = node; fid = fid })
    (all_more (IsIn before) (IsIn (Opened node name ∷ before)) (talks before) (λ t old. placed_later before node name t done.0.fits old) (all_placed before done.1))
    (placed_now before node name fid)
all_placed (Closed name ∷ before) done = all_filter (IsIn before) (IsIn (Closed name ∷ before)) (λ t. not (bytes_eq t.conv name)) (talks before) (λ t kept old. moved t old) (all_placed before done.1)
  where
    moved : (t : Talk) → IsIn before t → IsIn (Closed name ∷ before) t
    moved t old = record { place = old.place; is = old.is; node = old.node; agent = old.agent }
all_placed (Restarted name ∷ before) done = all_filter (IsIn before) (IsIn (Restarted name ∷ before)) (λ t. not (bytes_eq t.node name)) (talks before) (λ t kept old. placed_off before name t kept old) (all_placed before done.1)
all_placed (act ∷ before) done = all_more (IsIn before) (IsIn (act ∷ before)) (talks before) (λ t old. moved t old) (all_placed before done.1)
  where
    moved : (t : Talk) → IsIn before t → IsIn (act ∷ before) t
    moved t old = record { place = old.place; is = old.is; node = old.node; agent = old.agent }

pub placed : (acts : List Act) → AreDone acts → (conv : List ℕ) (t : Talk) → talk_of acts conv ≡ Some t → IsPlaced acts conv t
placed acts done conv t is =
    let f = found_of (IsIn acts) (λ x. bytes_eq x.conv conv) (talks acts) t (all_placed acts done) is in
    subst (λ n. IsPlaced acts n t) (same_name t.conv conv f.1) f.0

-- ---- a place is at an agent that was there

later_agent : (acts : List Act) (other agent : List ℕ) → is_agent acts agent ≡ true → (bytes_eq other agent || is_agent acts agent) ≡ true
later_agent acts other agent is = by_first (bytes_eq other agent)
  where
    by_first : (b : Bool) → (b || is_agent acts agent) ≡ true
    by_first true = refl
    by_first false = is

opened_on : (acts : List Act) (b : Bool) (new place : Place) (old : Option Place) → (if b then Some new else old) ≡ Some place → is_agent acts new.agent ≡ true → (old ≡ Some place → is_agent acts place.agent ≡ true) → is_agent acts place.agent ≡ true
opened_on acts true new place old is here so = let same : new ≡ place = cc is in subst (λ p. is_agent acts p.agent ≡ true) same here
opened_on acts false new place old is here so = so is

pub on_agent : (acts : List Act) → AreDone acts → (conv : List ℕ) (place : Place) → place_of acts conv ≡ Some place → is_agent acts place.agent ≡ true
on_agent [] done conv place is = cc is
on_agent (Made other ∷ before) done conv place is = later_agent before (agent_of before other) place.agent (on_agent before done.1 conv place is)
on_agent (Restarted other ∷ before) done conv place is = later_agent before (agent_of (Restarted other ∷ before) other) place.agent (on_agent before done.1 conv place is)
on_agent (Opened node name ∷ before) done conv place is =
    opened_on before (bytes_eq name conv) (next_place before node) place (place_of before conv) is (present before done.1 node done.0.named) (on_agent before done.1 conv place)
on_agent (act ∷ before) done conv place is = on_agent before done.1 conv place is

-- so that an agent which is made now has none
pub no_place : (acts : List Act) → AreDone acts → (agent conv : List ℕ) (place : Place) → is_agent acts agent ≡ false → place_of acts conv ≡ Some place → bytes_eq agent place.agent ≡ false
no_place acts done agent conv place new is = elim (cases_Bool (bytes_eq agent place.agent)) [
  | inl same ↦ absurd (cc (sym new ∙ (ap (is_agent acts) (same_name agent place.agent same) ∙ on_agent acts done conv place is)))
  | inr other ↦ other
]

pub not_node : (acts : List Act) (node : List ℕ) → is_unfit acts (Made node) ≡ false → is_node acts node ≡ false
unfolding is_unfit
not_node acts node fits = (or_parts (is_node acts node) _ fits).0

pub not_made : (acts : List Act) → AreDone acts → (node conv : List ℕ) (place : Place) → is_unfit acts (Made node) ≡ false → place_of acts conv ≡ Some place → bytes_eq (agent_of acts node) place.agent ≡ false
not_made acts done node conv place fits is = no_place acts done (agent_of acts node) conv place (new_made acts done node (not_node acts node fits)) is

pub not_restarted : (acts : List Act) → AreDone acts → (node conv : List ℕ) (place : Place) → place_of acts conv ≡ Some place → bytes_eq (agent_of (Restarted node ∷ acts) node) place.agent ≡ false
not_restarted acts done node conv place is = no_place acts done (agent_of (Restarted node ∷ acts) node) conv place (new_restarted acts done node) is
