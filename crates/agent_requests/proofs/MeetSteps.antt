-- What a conversation meets, and what follows.
use Rattle.std.specs.Prelude.{IsOk, OnOk}
use Rattle.std.proofs.Common.{◌≡◌, ℕ, List, [], ◌∷◌, ◌++◌, map, Bool, true, false, eqb, ◌==◌, ◌||◌, Option, Some, None, refl, sym, subst, ◌∙◌, inl, inr, Result, Ok, Err}
use Rattle.std.specs.List.{list_any}
use Rattle.std.proofs.lemmas.Bool.{cases_Bool, eq-eqb, false≢true}
use Rattle.talks.specs.Calls as calls
use Rattle.talks.specs.Standings.{Phase, Resting, Waiting, Seeking, OnConfirm, OnNeedkey, OnServer, Kept}
use Rattle.conversations.specs.Shown.{has_request}
use Rattle.side_files.specs.Askers.{asker_in}
use Rattle.side_files.specs.Questions.{Questions, asker, asker_of}
use Rattle.side_files.specs.declared.line.PromptKind.{PromptKind}
use Rattle.side_files.specs.declared.prompt.Asker.{Asker}
use Rattle.key_lists.specs.Lists.{KeyList}
use Rattle.side_files.specs.Calls as side
use Rattle.talks.specs.declared.said.Asking.{Asking}
use Rattle.agent_history.specs.Deeds.{Deed, OfPrompts}
use Rattle.agent_history.specs.Replies.{swept}
use Rattle.agent_history.specs.SideFiles.{all_served, prompts_of}
use Rattle.agent_history.specs.Conversations.{asking, resumed, standing_of}
use Rattle.agent_history.specs.Requests.{carried, carrying_out, said_by}
use Rattle.agent_talks.specs.Speaks.{IsReady, stands}
use Rattle.agent_talks.specs.Asking.{is_asker}
use Rattle.agent_talks.specs.declared.standing.Conversations.{Conversations}
use Rattle.agent_talks.specs.Logging.{Logs, carried_logged, carried_logged_in, logged_by, logged_talk}
use Rattle.agent_requests.specs.declared.shared.Shared.{Shared}
use Rattle.agent_requests.specs.Sharing.{Shares}
use Rattle.agent_requests.specs.Serving.{followed}
use Rattle.agent_requests.proofs.OwnDeeds.{logged_by_talks, logged_talks}
use Rattle.agent_requests.proofs.ShareLemmas.{Rest, rest_of, rest_talks, shares_with, with_talks}

-- ---- a request is carried out

-- where one is there, it is, and the reads that wait for a line are served
pub some_carried : (done : List Deed) (conv : ℕ) (word : List ℕ) (s : Shared) (has : Bool) → has ≡ has_request (standing_of done conv).phase → has ≡ true → Shares (all_served (carried_logged conv word done)) s → Shares (carried conv word done) s
some_carried done conv word s has is some h = here (standing_of done conv).phase (sym is ∙ some) h
  where
    here : (p : Phase) → has_request p ≡ true → Shares (all_served (carried_logged_in conv word p done)) s → Shares (carrying_out conv word p done) s
    here (Waiting request) e h = h
    here Resting e h = absurd (false≢true e)
    here Seeking e h = absurd (false≢true e)
    here (OnConfirm serial) e h = absurd (false≢true e)
    here OnNeedkey e h = absurd (false≢true e)
    here OnServer e h = absurd (false≢true e)
    here (Kept answer) e h = absurd (false≢true e)

pub carried_rest : (done : List Deed) (conv : ℕ) (word : List ℕ) (s : Shared) → Rest done s → Rest (carried_logged conv word done) s
carried_rest done conv word s h = here (standing_of done conv).phase
  where
    here : (p : Phase) → Rest (carried_logged_in conv word p done) s
    here (Waiting request) = logged_talks (λ now. Rest now s) (rest_talks s) conv (calls.CarriedOut word) done h
    here Resting = h
    here Seeking = h
    here (OnConfirm serial) = h
    here OnNeedkey = h
    here OnServer = h
    here (Kept answer) = h

pub carried_shares : (done : List Deed) (conv : ℕ) (word : List ℕ) (s : Shared) (t : Conversations) → Shares done s → Logs (carried_logged conv word done) t → Shares (carried_logged conv word done) (with_talks s t)
carried_shares done conv word s t h logs = shares_with (carried_logged conv word done) s t (carried_rest done conv word s (rest_of done s h)) logs

-- ---- the authentication server is done with a question

pub met_shares : (done : List Deed) (o : Option ℕ) (call : calls.Call) (s : Shared) (t : Conversations) → Shares done s → Logs (logged_by o call done) t → Shares (logged_by o call done) (with_talks s t)
met_shares done o call s t h logs = shares_with (logged_by o call done) s t (logged_by_talks (λ now. Rest now s) (rest_talks s) o call done (rest_of done s h)) logs

-- what a conversation meets, and what follows
resumes : (o : Option ℕ) (call : calls.Call) (done : List Deed) → followed o (logged_by o call done) ≡ resumed o call done
resumes None call done = refl
resumes (Some conv) call done = refl

-- it was this one's question
pub heard_shares : (done : List Deed) (o p : Option ℕ) (call : calls.Call) (s : Shared) (t : Conversations) (v : Shared) → o ≡ p → Shares done s → Logs (logged_by p call done) t → ((now : List Deed) → Shares now (with_talks s t) → Shares (swept (followed o now)) v) → Shares (swept (resumed p call done)) v
heard_shares done o p call s t v is h logs f =
    subst (λ (now : List Deed). Shares (swept now) v) (resumes p call done)
    (subst (λ (q : Option ℕ). Shares (swept (followed q (logged_by p call done))) v) is (f (logged_by p call done) (met_shares done p call s t h logs)))

-- what takes no memory was done
pub was_done : {T E P : Type 0} (r : Result T E) → IsOk r → OnOk r P → P
was_done (Ok x) ok is = is
was_done (Err e) ok is = absurd (false≢true ok)

-- ---- who waits for a reply

-- the one who asked under a tag does
pub asker_waits : (done : List Deed) (kind : PromptKind) (tag conv : ℕ) → asker_of tag (prompts_of done kind) ≡ Some conv → is_asker done kind conv ≡ true
asker_waits done kind tag conv e = here (prompts_of done kind).opened e
  where
    q : Questions
    q = prompts_of done kind

    is_conv : (a : ℕ) → Some a ≡ Some conv → a ≡ conv
    is_conv a e = cc

    or_right : (b c : Bool) → c ≡ true → (b || c) ≡ true
    or_right true c e = refl
    or_right false c e = e

    here : (xs : List Asker) → asker_in tag xs ≡ Some conv → list_any (λ n. n == conv) (map (λ a. a.conv) (xs ++ map asker q.unread)) ≡ true
    here [] e = absurd cc
    here (x ∷ xs) e = elim (cases_Bool (eqb x.tag tag)) [
      | inl is ↦ rw (eq-eqb x.conv conv (is_conv x.conv (rw is at e))) refl
      | inr is ↦ or_right (eqb x.conv conv) _ (here xs (rw is at e))
    ]

pub replier_stands : (done : List Deed) (kind : PromptKind) (tag conv : ℕ) (s : Shared) → asker_of tag (prompts_of done kind) ≡ Some conv → Shares done s → stands done conv ≡ true
replier_stands done kind tag conv s is h = (h.talks.tells.users.asked kind conv (asker_waits done kind tag conv is)).stands

-- what it meets by a reply
abbrev pub replied_deeds : PromptKind → ℕ → ℕ → Bool → List Deed → List Deed
replied_deeds kind tag conv agrees done = logged_talk conv (said_by kind agrees) (OfPrompts kind (side.Replied tag) ∷ done)

pub replied_shares : (done : List Deed) (kind : PromptKind) (tag conv : ℕ) (agrees : Bool) (s : Shared) (t : Conversations) → Shares done s → Logs (replied_deeds kind tag conv agrees done) t → Shares (replied_deeds kind tag conv agrees done) (with_talks s t)
replied_shares done kind tag conv agrees s t h logs =
    let replied : List Deed = OfPrompts kind (side.Replied tag) ∷ done in
    let rest : Rest replied s = (rest_talks s).asked kind (side.Replied tag) done (rest_of done s h) in
    shares_with (replied_deeds kind tag conv agrees done) s t (logged_talks (λ now. Rest now s) (rest_talks s) conv (said_by kind agrees) replied rest) logs

-- ---- what a conversation is to meet

pub is_ready : (done : List Deed) (conv : ℕ) (s : Shared) (keys : KeyList) (files : Asking) → stands done conv ≡ true → keys ≡ s.ring → files ≡ asking done → Shares done s → IsReady done conv keys files
is_ready done conv s keys files there same asks h = record { stands = there; keys = sym (same ∙ h.ring); files = sym asks }
