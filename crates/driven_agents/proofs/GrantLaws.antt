-- A request that a calm agent doesn't refuse was granted; and what one that settles no read leaves behind its takes.
use Rattle.std.proofs.Common.{◌≡◌, ℕ, ◌<◌, ◌^◌, List, ◌∷◌, ◌++◌, false, None, refl, sym, ap, subst, ◌∙◌}
use Rattle.std.specs.Prelude.{Result, Ok, Err}
use Rattle.nine.specs.declared.message.TMsg.{TMsg}
use Rattle.nine.specs.declared.message.TBody.{TBody}
use Rattle.nine.specs.declared.message.RMsg.{RMsg}
use Rattle.nine.specs.declared.message.RBody.{RBody}
use Rattle.nine.specs.Messages.{t_fits, t_frame}
use Rattle.agent_history.specs.declared.event.Event.TheVariants.{Request}
use Rattle.agent_history.specs.Deeds.{Answered, Deed, OfReplies, Swept, fid_of}
use Rattle.agent_history.specs.Conversations.{asker, opened_talks, speakers, talk}
use Rattle.agent_history.specs.Requests.{Call, after, after_frame, after_granted, answered, body_for, body_to, call_of, granted, refusal}
use Rattle.agent_history.specs.Histories.{History, deeds}
use Rattle.agent_laws.proofs.GrowLaws.{none_refuses}
use Rattle.world_history.specs.Driving.{drive, is_refused, replies_to}
use Rattle.driven_agents.specs.Idle.{IsCalm, IsIdle, Runs}
use Rattle.driven_agents.proofs.AlikeLaws.{answered_same, calm_answered}
use Rattle.driven_agents.proofs.ExactLaws.{granted_only}
use Rattle.driven_agents.proofs.IdleLaws.{asker_behind, seats_behind}
use Rattle.driven_agents.proofs.KeptLaws.{behind_takes}
use Rattle.driven_agents.proofs.LeftLaws.{own_reply, request_deeds, request_left, swept_replies}
use Rattle.driven_agents.proofs.RunLaws.{event_runs}
use Rattle.driven_agents.proofs.TakenLaws.{replies_so}

-- ---- granted

was_granted : (done : List Deed) (call : Call) (g : Result TBody (List ℕ)) (rest : List RMsg) → is_refused (own_reply call (body_for done call g) ++ rest) ≡ false → (body : TBody) × (g ≡ Ok body)
was_granted done call (Err text) rest none = absurd cc
was_granted done call (Ok body) rest none = (body, refl)

pub ok_is : (P : TBody → Type 0) (g : Result TBody (List ℕ)) (body : TBody) → g ≡ Ok body → (elim g as (λ x. Type 0) [ Err text ↦ Unit {0} | Ok b ↦ P b ]) → P body
ok_is P (Err text) body is p = absurd cc
ok_is P (Ok other) body is p = let same : other ≡ body = cc in subst P same p

-- a request is granted as it was asked
pub record Granted (asked : TMsg) (word : List ℕ) (h : History) : Type 0 where
  pub is : granted (deeds h) (call_of 0 (t_frame asked) word) (t_frame asked) ≡ Ok asked.body
  pub none : refusal (deeds h) (call_of 0 (t_frame asked) word) asked.body ≡ None

-- that isn't refused
pub granted_so : (asked : TMsg) (word : List ℕ) (h : History) → asked.tag < 2 ^ 16 → t_fits asked.body → IsIdle h → Runs (drive (Request 0 (t_frame asked) word) h) → IsCalm (deeds (Request 0 (t_frame asked) word ∷ h))
    → is_refused (replies_to (Request 0 (t_frame asked) word) h) ≡ false → Granted asked word h
unfolding body_to
granted_so asked word h tag fits idle runs now none =
    let done = deeds h in
    let frame = t_frame asked in
    let call = call_of 0 frame word in
    let event = Request 0 frame word in
    let g = granted done call frame in
    let replies = replies_so event h now.there runs ∙ request_left frame word h (event_runs event h runs) idle.calm.entered idle.calm.there idle.taken in
    let ok = was_granted done call g (swept_replies (answered done call frame)) (ap is_refused (sym replies) ∙ none) in
    let same : ok.0 ≡ asked.body = ok_is (λ body. body ≡ asked.body) g ok.0 ok.1 (granted_only (λ body. body ≡ asked.body) done call asked tag fits refl) in
    let is : g ≡ Ok asked.body = ok.1 ∙ ap (λ b. Ok b) same in
    record { is = is; none = (none_refuses done call frame asked.body is).none }

-- what it does then
pub granted_after : (asked : TMsg) (word : List ℕ) (h : History) → Granted asked word h → after_frame (deeds h) (call_of 0 (t_frame asked) word) (t_frame asked) ≡ after (deeds h) (call_of 0 (t_frame asked) word) asked.body
unfolding after_frame
granted_after asked word h g = let call = call_of 0 (t_frame asked) word in ap (after_granted (deeds h) call) g.is

-- ---- what is behind it

-- a request that leaves a calm agent calm
pub calm_event : (frame word : List ℕ) (h : History) → IsCalm (deeds h) → Runs (Request 0 frame word ∷ h) → IsCalm (after_frame (deeds h) (call_of 0 frame word) frame) → IsCalm (deeds (Request 0 frame word ∷ h))
calm_event frame word h c runs now =
    let done = deeds h in
    let call = call_of 0 frame word in
    subst IsCalm (sym (request_deeds frame word h runs c.entered c.there)) (calm_answered call (body_to done call frame) (after_frame done call frame) now)

-- what replies, sweeps and takes leave is as behind what it does
pub record Untold {X : Type 0} (f : List Deed → X) : Type 0 where
  pub answered : (at tag : ℕ) (body : RBody) (done : List Deed) → f (OfReplies at (Answered tag body) ∷ done) ≡ f done
  pub sweeps : (done : List Deed) → f (Swept ∷ done) ≡ f done

pub event_same : {X : Type 0} (f : List Deed → X) → Untold f → (frame word : List ℕ) (h : History) → IsCalm (deeds h) → Runs (Request 0 frame word ∷ h) → f (deeds (Request 0 frame word ∷ h)) ≡ f (after_frame (deeds h) (call_of 0 frame word) frame)
event_same f u frame word h c runs =
    let done = deeds h in
    let call = call_of 0 frame word in
    ap f (request_deeds frame word h runs c.entered c.there) ∙ answered_same f u.answered u.sweeps call (body_to done call frame) (after_frame done call frame)

module _ (frame word : List ℕ) (h : History) (c : IsCalm (deeds h)) (runs : Runs (drive (Request 0 frame word) h)) (now : IsCalm (deeds (Request 0 frame word ∷ h))) where
  pub asker_then : (call : ℕ) → asker (deeds (drive (Request 0 frame word) h)) call ≡ asker (after_frame (deeds h) (call_of 0 frame word) frame) call
  asker_then call =
      asker_behind (Request 0 frame word) h call runs now.entered
      ∙ event_same (λ d. asker d call) (record { answered = λ at tag body d. refl; sweeps = λ d. refl }) frame word h c (event_runs (Request 0 frame word) h runs)

  pub speakers_then : speakers (deeds (drive (Request 0 frame word) h)) ≡ speakers (after_frame (deeds h) (call_of 0 frame word) frame)
  speakers_then =
      (seats_behind (Request 0 frame word) h runs now.entered).speakers
      ∙ event_same speakers (record { answered = λ at tag body d. refl; sweeps = λ d. refl }) frame word h c (event_runs (Request 0 frame word) h runs)

  pub opened_then : opened_talks (deeds (drive (Request 0 frame word) h)) ≡ opened_talks (after_frame (deeds h) (call_of 0 frame word) frame)
  opened_then =
      (seats_behind (Request 0 frame word) h runs now.entered).opened
      ∙ event_same opened_talks (record { answered = λ at tag body d. refl; sweeps = λ d. refl }) frame word h c (event_runs (Request 0 frame word) h runs)

  pub talk_then : (conv : ℕ) → talk (deeds (drive (Request 0 frame word) h)) conv ≡ talk (after_frame (deeds h) (call_of 0 frame word) frame) conv
  talk_then conv =
      let t = talk (deeds (Request 0 frame word ∷ h)) conv in
      behind_takes (λ d. talk d conv ≡ t) (record { takes = record { takes = λ d p. p }; asks = record { hands = λ d p. p; drops = λ d p. p } }) (Request 0 frame word) h runs now.entered refl
      ∙ event_same (λ d. talk d conv) (record { answered = λ at tag body d. refl; sweeps = λ d. refl }) frame word h c (event_runs (Request 0 frame word) h runs)

  pub fid_then : (fid : ℕ) → fid_of (deeds (drive (Request 0 frame word) h)) 0 fid ≡ fid_of (after_frame (deeds h) (call_of 0 frame word) frame) 0 fid
  fid_then fid =
      let o = fid_of (deeds (Request 0 frame word ∷ h)) 0 fid in
      behind_takes (λ d. fid_of d 0 fid ≡ o) (record { takes = record { takes = λ d p. p }; asks = record { hands = λ d p. p; drops = λ d p. p } }) (Request 0 frame word) h runs now.entered refl
      ∙ event_same (λ d. fid_of d 0 fid) (record { answered = λ at tag body d. refl; sweeps = λ d. refl }) frame word h c (event_runs (Request 0 frame word) h runs)
