-- All that a conversation meets, and what is got for it then, adds deeds of three kinds alone: what these keep stays. And who
-- is found stands.
use Rattle.std.proofs.Common.{◌≡◌, ℕ, List, ◌∷◌, Bool, true, false, cond, ◌==◌, ◌&&◌, Option, Some, None, sym}
use Rattle.talks.specs.declared.answer.RpcAnswer.{RpcAnswer}
use Rattle.talks.specs.Calls as calls
use Rattle.talks.specs.Calls.{Call}
use Rattle.talks.specs.Standings.{Phase, Resting, Waiting, Seeking, OnConfirm, OnNeedkey, OnServer, Kept}
use Rattle.agent_history.specs.Deeds.{Deed, OfTalk, OfPrompts, Raised}
use Rattle.agent_history.specs.Conversations.{Speaker, asker, conv_of, fits, prompting, raising, seeking, seeking_all, sought_once, speaker_of, speakers, standing_of, then_sought, then_took}
use Rattle.side_files.specs.Calls as side
use Rattle.side_files.specs.declared.line.PromptKind.{PromptKind}
use Rattle.agent_talks.specs.declared.held.Talks.{Talks}
use Rattle.agent_talks.specs.Speaks.{Speak, carried_in, carried_talk, stands, talked, talked_by}
use Rattle.agent_talks.proofs.StandLemmas.{opener_stands, speaker_is_among}
use Rattle.agent_talks.proofs.AskLemmas.{is_asked}

-- ---- what stays

-- what deeds of these kinds keep
pub record TalksKeep (P : List Deed → Type 0) : Type 0 where
  pub met : (done : List Deed) (conv : ℕ) (call : Call) → P done → P (OfTalk conv call ∷ done)
  pub asked : (done : List Deed) (kind : PromptKind) (call : side.Call) → P done → P (OfPrompts kind call ∷ done)
  pub raised : (done : List Deed) (conv : ℕ) → P done → P (Raised conv ∷ done)

raising_keeps : (P : List Deed → Type 0) → TalksKeep P → (done : List Deed) (conv : ℕ) (p : Phase) → P done → P (raising conv p done)
raising_keeps P k done conv OnServer h = k.raised done conv h
raising_keeps P k done conv Resting h = h
raising_keeps P k done conv (Waiting request) h = h
raising_keeps P k done conv Seeking h = h
raising_keeps P k done conv (OnConfirm serial) h = h
raising_keeps P k done conv OnNeedkey h = h
raising_keeps P k done conv (Kept answer) h = h

prompting_keeps : (P : List Deed → Type 0) → TalksKeep P → (done : List Deed) (conv : ℕ) (came : calls.Found) → P done → P (prompting conv came done)
prompting_keeps P k done conv (calls.AsksConsent key) h = k.asked done _ _ h
prompting_keeps P k done conv calls.AsksKey h = k.asked done _ _ h
prompting_keeps P k done conv (calls.Chosen key) h = h
prompting_keeps P k done conv calls.Denied h = h
prompting_keeps P k done conv calls.NoneServes h = h
prompting_keeps P k done conv (calls.Offered list) h = h
prompting_keeps P k done conv (calls.Picked place) h = h

seeking_keeps : (P : List Deed → Type 0) → TalksKeep P → (done : List Deed) (conv : ℕ) (p : Phase) → P done → P (seeking conv p done)
seeking_keeps P k done conv Seeking h = prompting_keeps P k (OfTalk conv (calls.Sought _) ∷ done) conv _ (k.met done conv _ h)
seeking_keeps P k done conv OnServer h = h
seeking_keeps P k done conv Resting h = h
seeking_keeps P k done conv (Waiting request) h = h
seeking_keeps P k done conv (OnConfirm serial) h = h
seeking_keeps P k done conv OnNeedkey h = h
seeking_keeps P k done conv (Kept answer) h = h

once_keeps : (P : List Deed → Type 0) → TalksKeep P → (done : List Deed) (conv : ℕ) → P done → P (sought_once conv done)
once_keeps P k done conv h = seeking_keeps P k done conv (standing_of done conv).phase h

all_keeps : (P : List Deed → Type 0) → TalksKeep P → (done : List Deed) (conv : ℕ) (starting : Bool) → P done → P (seeking_all starting conv done)
all_keeps P k done conv false h = once_keeps P k done conv h
all_keeps P k done conv true h =
    let one : List Deed = sought_once conv done in
    let two : List Deed = sought_once conv one in
    once_keeps P k two conv (once_keeps P k one conv (once_keeps P k done conv h))

pub met_keeps : (P : List Deed → Type 0) → TalksKeep P → (done : List Deed) (conv : ℕ) (call : Call) → P done → P (talked conv call done)
met_keeps P k done conv call h =
    let one : List Deed = OfTalk conv call ∷ done in
    raising_keeps P k (then_sought conv one) conv (standing_of (then_sought conv one) conv).phase
    (all_keeps P k one conv (standing_of one conv).starting (k.met done conv call h))

pub met_by_keeps : (P : List Deed → Type 0) → TalksKeep P → (done : List Deed) (conv : Option ℕ) (call : Call) → P done → P (talked_by conv call done)
met_by_keeps P k done None call h = h
met_by_keeps P k done (Some conv) call h = met_keeps P k done conv call h

carrying_keeps : (P : List Deed → Type 0) → TalksKeep P → (done : List Deed) (conv : ℕ) (word : List ℕ) (p : Phase) → P done → P (carried_in conv word p done)
carrying_keeps P k done conv word (Waiting request) h = met_keeps P k done conv (calls.CarriedOut word) h
carrying_keeps P k done conv word Seeking h = h
carrying_keeps P k done conv word OnServer h = h
carrying_keeps P k done conv word Resting h = h
carrying_keeps P k done conv word (OnConfirm serial) h = h
carrying_keeps P k done conv word OnNeedkey h = h
carrying_keeps P k done conv word (Kept answer) h = h

pub carried_keeps : (P : List Deed → Type 0) → TalksKeep P → (done : List Deed) (conv : ℕ) (word : List ℕ) → P done → P (carried_talk conv word done)
carried_keeps P k done conv word h = carrying_keeps P k done conv word (standing_of done conv).phase h

pub took_keeps : (P : List Deed → Type 0) → TalksKeep P → (done : List Deed) (conv count : ℕ) (answer : RpcAnswer) → P done → P (then_took conv count answer done)
took_keeps P k done conv count answer h = by_size (fits count answer)
  where
    by_size : (b : Bool) → P (cond b (OfTalk conv calls.Took ∷ done) done)
    by_size true = k.met done conv calls.Took h
    by_size false = h

-- who has a conversation open stays
pub speakers_stay : (xs : List Speaker) → TalksKeep (λ d. speakers d ≡ xs)
speakers_stay xs = record { met = λ done conv call h. h; asked = λ done kind call h. h; raised = λ done conv h. h }

pub stands_stay : (q : ℕ) → TalksKeep (λ d. stands d q ≡ true)
stands_stay q = record { met = λ done conv call h. h; asked = λ done kind call h. h; raised = λ done conv h. h }

-- ---- who is found stands

pub fid_stands : (done : List Deed) (conn fid conv : ℕ) → conv_of done conn fid ≡ Some conv → stands done conv ≡ true
fid_stands done conn fid conv e = opener_stands (speakers done) (λ s. s.conn == conn && s.fid == fid) conv e

pub speaker_stands : (done : List Deed) (conv : ℕ) (s : Speaker) → speaker_of done conv ≡ Some s → stands done conv ≡ true
speaker_stands done conv s e = speaker_is_among (speakers done) conv s e

pub asker_stands : (done : List Deed) (t : Talks) (call conv : ℕ) → asker done call ≡ Some conv → Speak done t → stands done conv ≡ true
asker_stands done t call conv e h = (is_asked done t call conv (sym e) h).stands
