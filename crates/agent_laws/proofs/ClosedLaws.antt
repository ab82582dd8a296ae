-- A file that nobody has open asks nobody: no search comes to a question there, and who asked is refused when it is closed. And
-- what is asked of users and written into the log follows what conversations met.
use Rattle.std.proofs.Common.{◌≡◌, ℕ, List, [], ◌∷◌, Bool, true, false, cond, eqb, ◌&&◌, ◌||◌, not, Option, Some, None, refl, sym, ap, ◌∙◌, subst, eqb-true}
use Rattle.std.specs.Prelude.{find, is_some}
use Rattle.std.specs.List.{list_any}
use Rattle.file_tree.specs.declared.tree.Node.{Node}
use Rattle.file_tree.specs.declared.tree.Node.TheVariants.{Confirm, Needkey}
use Rattle.key_lists.specs.Lists.{KeyEntry, KeyList}
use Rattle.roles.specs.declared.need.Need.{Need}
use Rattle.roles.specs.declared.need.Need.TheVariants.{Nothing, Key, Offers, Pick, Exchange}
use Rattle.talks.specs.declared.said.Said.{Said}
use Rattle.talks.specs.declared.said.Asking.{Asking}
use Rattle.talks.specs.Calls.{Found, Chosen, AsksConsent, AsksKey, Denied, NoneServes, Offered, Picked}
use Rattle.talks.specs.Calls as calls
use Rattle.talks.specs.Searches.{first_left, found_at, found_by, is_among, is_denied, is_passed_over, none_left, serving, wants_consent}
use Rattle.talks.specs.Standings.{finds, found_for, need_in, role_name}
use Rattle.side_files.specs.declared.line.PromptKind.{PromptKind}
use Rattle.side_files.specs.declared.line.PromptKind.TheVariants as k
use Rattle.side_files.specs.Calls as side
use Rattle.agent_history.specs.Deeds.{Deed, OfFids, OfKeys, OfReplies, OfConnection, OfTalk, OfPrompts, OfLog, Raised, HandedOut, DropTaken, Swept, Halted, holder_of, keys_of}
use Rattle.agent_history.specs.SideFiles.{askers, file_of, prompt_calls, prompts_of}
use Rattle.agent_history.specs.Conversations.{all_shut, all_withdrawn, asking, closed, ended_by, given_up_by, shut, speaker_of, standing_of}
use Rattle.agent_history.specs.Histories.{History, deeds}
use Rattle.agent_laws.specs.Laws.{AllFollow, AllLogged}
use Rattle.agent_laws.proofs.KindLaws.{KeepsOf, is_done, is_handed, same_number}
use Rattle.agent_laws.proofs.PromptLaws.{askers_in, withdrawn_none, withdrawn_within, within_any}
use Rattle.agent_laws.proofs.MetLaws.{closed_grows, delivered_askers, other_kind, shut_askers, this_askers}
use Rattle.agent_laws.proofs.GrowLaws.{KeepsAny, history_grows, nothing_known, without_tests}

-- ---- searches

holds_step : (p : KeyEntry → Bool) (x key : KeyEntry) (rest : Option KeyEntry) (b : Bool) → p x ≡ b → cond b (Some x) rest ≡ Some key → (rest ≡ Some key → p key ≡ true) → p key ≡ true
holds_step p x key rest true f g more = let it : x ≡ key = cc in ap p (sym it) ∙ f
holds_step p x key rest false f g more = more g

find_holds : (p : KeyEntry → Bool) (keys : List KeyEntry) (key : KeyEntry) → find p keys ≡ Some key → p key ≡ true
find_holds p [] key e = absurd cc
find_holds p (x ∷ keys) key e = holds_step p x key (find p keys) (p x) refl e (λ f. find_holds p keys key f)

consent_step : (wants agreed denied : Bool) (key other : KeyEntry) → not (wants && (denied || (not agreed && true))) ≡ true → cond (wants && not agreed) (AsksConsent key) (Chosen key) ≡ AsksConsent other → ⊥
consent_step true false true key other p e = absurd cc
consent_step true false false key other p e = absurd cc
consent_step true true denied key other p e = absurd cc
consent_step false agreed denied key other p e = absurd cc

none_step : (said : Said) (asks : Asking) (keys : List KeyEntry) (key : KeyEntry) → none_left said asks keys ≡ AsksConsent key → ⊥
none_step said asks keys key e = by_it (is_denied said asks keys) (asks.needkey && not said.asked) e
  where
    by_it : (x y : Bool) → cond x Denied (cond y AsksKey NoneServes) ≡ AsksConsent key → ⊥
    by_it true y f = absurd cc
    by_it false true f = absurd cc
    by_it false false f = absurd cc

consent_at : (said : Said) (asks : Asking) (keys : List KeyEntry) (o : Option KeyEntry) → first_left said asks keys ≡ o → asks.confirm ≡ false → (key : KeyEntry) → found_at said asks keys o ≡ AsksConsent key → ⊥
consent_at said asks keys None e off key f = none_step said asks keys key f
consent_at said asks keys (Some there) e off key f =
    let left = find_holds (λ x. not (is_passed_over said asks x)) keys there e in
    consent_step (wants_consent there) (is_among said.agreed there) (is_among said.denied there) there key
    (ap (λ (open_ : Bool). not (wants_consent there && (is_among said.denied there || (not (is_among said.agreed there) && not open_)))) (sym off) ∙ left) f

key_at : (said : Said) (asks : Asking) (keys : List KeyEntry) (o : Option KeyEntry) → asks.needkey ≡ false → found_at said asks keys o ≡ AsksKey → ⊥
key_at said asks keys None off f = by_it (is_denied said asks keys) (ap (λ (open_ : Bool). cond (is_denied said asks keys) Denied (cond (open_ && not said.asked) AsksKey NoneServes)) (sym off) ∙ f)
  where
    by_it : (x : Bool) → cond x Denied NoneServes ≡ AsksKey → ⊥
    by_it true g = absurd cc
    by_it false g = absurd cc
key_at said asks keys (Some there) off f = by_it (wants_consent there && not (is_among said.agreed there)) f
  where
    by_it : (x : Bool) → cond x (AsksConsent there) (Chosen there) ≡ AsksKey → ⊥
    by_it true g = absurd cc
    by_it false g = absurd cc

need_consent : (need : Need) (role : List ℕ) (said : Said) (asks : Asking) (list : KeyList) → asks.confirm ≡ false → (key : KeyEntry) → found_for need role said asks list ≡ AsksConsent key → ⊥
unfolding found_by
need_consent (Key template) role said asks list off key e = consent_at said asks (serving template role list) (first_left said asks (serving template role list)) refl off key e
need_consent (Offers template) role said asks list off key e = absurd cc
need_consent (Pick templates) role said asks list off key e = absurd cc
need_consent (Exchange request shape) role said asks list off key e = absurd cc
need_consent Nothing role said asks list off key e = absurd cc

need_key : (need : Need) (role : List ℕ) (said : Said) (asks : Asking) (list : KeyList) → asks.needkey ≡ false → found_for need role said asks list ≡ AsksKey → ⊥
unfolding found_by
need_key (Key template) role said asks list off e = key_at said asks (serving template role list) (first_left said asks (serving template role list)) off e
need_key (Offers template) role said asks list off e = absurd cc
need_key (Pick templates) role said asks list off e = absurd cc
need_key (Exchange request shape) role said asks list off e = absurd cc
need_key Nothing role said asks list off e = absurd cc

pub none_asks_consent : (done : List Deed) (conv : ℕ) (key : KeyEntry) → holder_of done Confirm ≡ None → finds (standing_of done conv) (asking done) (keys_of done) ≡ AsksConsent key → ⊥
unfolding finds
none_asks_consent done conv key off e = need_consent (need_in (standing_of done conv).begun) (role_name (standing_of done conv).begun) (standing_of done conv).said (asking done) (keys_of done) (ap is_some off) key e

pub none_asks_key : (done : List Deed) (conv : ℕ) → holder_of done Needkey ≡ None → finds (standing_of done conv) (asking done) (keys_of done) ≡ AsksKey → ⊥
unfolding finds
none_asks_key done conv off e = need_key (need_in (standing_of done conv).begun) (role_name (standing_of done conv).begun) (standing_of done conv).said (asking done) (keys_of done) (ap is_some off) e

-- ---- who asked when a file is closed

this_shut : (kind : PromptKind) (conv : ℕ) (done : List Deed) → askers (shut kind conv done) kind ≡ askers (OfPrompts kind (side.Withdrawn conv) ∷ done) kind
this_shut kind conv done =
    let two = OfTalk conv calls.Shut ∷ OfPrompts kind (side.Withdrawn conv) ∷ done in
    delivered_askers conv (standing_of two conv).phase (speaker_of two conv) two kind

none_after : (kind : PromptKind) (n : ℕ) (convs : List ℕ) (done : List Deed) → list_any (eqb n) (askers done kind) ≡ false → list_any (eqb n) (askers (all_shut kind convs done) kind) ≡ false
none_after kind n [] done e = e
none_after kind n (conv ∷ convs) done e =
    none_after kind n convs (shut kind conv done)
    (ap (list_any (eqb n)) (this_shut kind conv done ∙ this_askers kind (side.Withdrawn conv) done) ∙ within_any (eqb n) (withdrawn_within conv (prompts_of done kind)) e)

gone_step : (kind : PromptKind) (n conv : ℕ) (convs : List ℕ) (done : List Deed) (b : Bool) → eqb n conv ≡ b → (b || list_any (eqb n) convs) ≡ true → (list_any (eqb n) convs ≡ true → list_any (eqb n) (askers (all_shut kind convs (shut kind conv done)) kind) ≡ false)
    → list_any (eqb n) (askers (all_shut kind convs (shut kind conv done)) kind) ≡ false
gone_step kind n conv convs done true e f more =
    none_after kind n convs (shut kind conv done)
    (ap (list_any (eqb n)) (this_shut kind conv done ∙ this_askers kind (side.Withdrawn conv) done)
    ∙ subst (λ (m : ℕ). list_any (eqb m) (askers_in (side.after kind (side.Withdrawn conv ∷ prompt_calls done kind))) ≡ false) (sym (eqb-true n conv e)) (withdrawn_none conv (prompts_of done kind)))
gone_step kind n conv convs done false e f more = more f

gone_after : (kind : PromptKind) (n : ℕ) (convs : List ℕ) (done : List Deed) → list_any (eqb n) convs ≡ true → list_any (eqb n) (askers (all_shut kind convs done) kind) ≡ false
gone_after kind n [] done e = absurd cc
gone_after kind n (conv ∷ convs) done e = gone_step kind n conv convs done (eqb n conv) refl e (λ f. gone_after kind n convs (shut kind conv done) f)

nobody : (xs : List ℕ) → ((n : ℕ) → list_any (eqb n) xs ≡ false) → xs ≡ []
nobody [] h = refl
nobody (x ∷ xs) h = absurd (let no_way : true ≡ false = sym (ap (λ (b : Bool). b || list_any (eqb x) xs) (same_number x)) ∙ h x in cc)

all_gone : (kind : PromptKind) (done : List Deed) → askers (all_shut kind (askers done kind) done) kind ≡ []
all_gone kind done = nobody (askers (all_shut kind (askers done kind) done) kind) (λ n. by_it n (list_any (eqb n) (askers done kind)) refl)
  where
    by_it : (n : ℕ) (b : Bool) → list_any (eqb n) (askers done kind) ≡ b → list_any (eqb n) (askers (all_shut kind (askers done kind) done) kind) ≡ false
    by_it n true e = gone_after kind n (askers done kind) done e
    by_it n false e = none_after kind n (askers done kind) done e

-- what follows opens and closes no file
held_so : (node : Node) (before : Option (ℕ × ℕ)) → KeepsAny is_handed (λ done. holder_of done node ≡ before)
held_so node before done (OfTalk conv call) is p = p
held_so node before done (OfPrompts of call) is p = p
held_so node before done (OfLog call) is p = p
held_so node before done (OfReplies at deed) is p = p
held_so node before done (OfKeys at deed) is p = p
held_so node before done (OfFids at deed) is p = absurd cc
held_so node before done (OfConnection at deed) is p = absurd cc
held_so node before done (Raised conv) is p = p
held_so node before done HandedOut is p = p
held_so node before done DropTaken is p = p
held_so node before done Swept is p = p
held_so node before done Halted is p = absurd cc

closed_holder : (kind : PromptKind) (done : List Deed) (node : Node) → holder_of (closed kind done) node ≡ holder_of done node
closed_holder kind done node =
    closed_grows ⊥ (λ d. holder_of d node ≡ holder_of done node) (nothing_known (λ d. holder_of d node ≡ holder_of done node)) (without_tests is_handed (λ d. holder_of d node ≡ holder_of done node) (held_so node (holder_of done node))) kind done refl

closed_ends : (kind : PromptKind) (done : List Deed) → holder_of (closed kind done) (file_of kind) ≡ None → askers (closed kind done) kind ≡ []
closed_ends kind done off =
    ap (λ (o : Option (ℕ × ℕ)). askers (cond (is_some o) done (all_shut kind (askers done kind) done)) kind) (sym (closed_holder kind done (file_of kind)) ∙ off)
    ∙ all_gone kind done

others_ask : (kind : PromptKind) (convs : List ℕ) (done : List Deed) → askers (all_shut kind convs done) (other_kind kind) ≡ askers done (other_kind kind)
others_ask kind [] done = refl
others_ask kind (conv ∷ convs) done = others_ask kind convs (shut kind conv done) ∙ shut_askers kind conv done

closed_others : (kind : PromptKind) (done : List Deed) → askers (closed kind done) (other_kind kind) ≡ askers done (other_kind kind)
closed_others kind done = by_it (is_some (holder_of done (file_of kind)))
  where
    by_it : (b : Bool) → askers (cond b done (all_shut kind (askers done kind) done)) (other_kind kind) ≡ askers done (other_kind kind)
    by_it true = refl
    by_it false = others_ask kind (askers done kind) done

pub closed_asks_nobody : (deed : Deed) (done : List Deed) (kind : PromptKind) → holder_of (given_up_by deed done) (file_of kind) ≡ None → askers (given_up_by deed done) kind ≡ []
closed_asks_nobody deed done k.Confirm off =
    let left = deed ∷ all_withdrawn (ended_by deed done) done in
    closed_others k.Needkey (closed k.Confirm left) ∙ closed_ends k.Confirm left (sym (closed_holder k.Needkey (closed k.Confirm left) Confirm) ∙ off)
closed_asks_nobody deed done k.Needkey off =
    let left = deed ∷ all_withdrawn (ended_by deed done) done in
    closed_ends k.Needkey (closed k.Confirm left) off

-- ---- each question follows a search

follow_more : (conn : ℕ) → KeepsOf (is_done conn) AllFollow
follow_more c done (OfPrompts of (side.Asked conv text)) kind fits h = (fits.follows, h)
follow_more c done (OfPrompts of side.Read) kind fits h = h
follow_more c done (OfPrompts of (side.Replied tag)) kind fits h = h
follow_more c done (OfPrompts of (side.Withdrawn conv)) kind fits h = h
follow_more c done (OfTalk conv call) kind fits h = h
follow_more c done (OfFids at deed) kind fits h = h
follow_more c done (OfKeys at deed) kind fits h = h
follow_more c done (OfReplies at deed) kind fits h = h
follow_more c done (OfConnection at deed) kind fits h = h
follow_more c done (Raised conv) kind fits h = h
follow_more c done HandedOut kind fits h = h
follow_more c done DropTaken kind fits h = h
follow_more c done (OfLog doing) kind fits h = h
follow_more c done Swept kind fits h = h
follow_more c done Halted kind fits h = h

pub all_follow : (H : History) → AllFollow (deeds H)
all_follow H = history_grows AllFollow follow_more tt H

-- ---- each line of the log tells of a conversation

logged_more : (conn : ℕ) → KeepsOf (is_done conn) AllLogged
logged_more c done (OfLog (side.Pushed line)) kind fits h = (fits, h)
logged_more c done (OfLog side.Taken) kind fits h = h
logged_more c done (OfPrompts of call) kind fits h = h
logged_more c done (OfTalk conv call) kind fits h = h
logged_more c done (OfFids at deed) kind fits h = h
logged_more c done (OfKeys at deed) kind fits h = h
logged_more c done (OfReplies at deed) kind fits h = h
logged_more c done (OfConnection at deed) kind fits h = h
logged_more c done (Raised conv) kind fits h = h
logged_more c done HandedOut kind fits h = h
logged_more c done DropTaken kind fits h = h
logged_more c done Swept kind fits h = h
logged_more c done Halted kind fits h = h

pub all_logged : (H : History) → AllLogged (deeds H)
all_logged H = history_grows AllLogged logged_more tt H
