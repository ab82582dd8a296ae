-- What is shown of the conversation that a fid has open.
use Rattle.std.proofs.Common.{◌≡◌, ℕ, List, Bool, true, false, ◌==◌, ◌&&◌, Option, Some, None, refl, sym, subst, ◌∙◌}
use Rattle.std.proofs.lemmas.Bool.{false≢true}
use Rattle.key_lists.specs.Lists.{KeyEntry}
use Rattle.roles.specs.declared.need.Outcome.{Outcome}
use Rattle.talks.specs.Standings.{Phase, Resting, Waiting, Seeking, OnConfirm, OnNeedkey, OnServer, Kept, key_of, outcome_of}
use Rattle.conversations.specs.declared.conversation.Conversation.{Conversation}
use Rattle.conversations.specs.Fits.{Shows}
use Rattle.conversations.specs.Shown as shown
use Rattle.agent_history.specs.Deeds.{Deed}
use Rattle.agent_history.specs.Conversations.{chosen_in, conv_of, outcome_in, speakers, standing_of, talk}
use Rattle.agent_history.specs.Requests.{has_answer, is_resting, phase_in}
use Rattle.agent_talks.specs.declared.held.Talks.{Talks}
use Rattle.agent_talks.specs.Kept.{kept_at}
use Rattle.agent_talks.specs.Speaks.{IsKept, IsOpenAt, Speak, stands}
use Rattle.agent_talks.proofs.StandLemmas.{opener_stands}

-- ---- it is kept

open_kept : (done : List Deed) (conv : ℕ) (b : Bool) (o : Option Conversation) → b ≡ true → IsKept b (talk done conv) o → IsOpenAt done (Some conv) o
open_kept done conv true (Some c) e h = h
open_kept done conv true None e h = h
open_kept done conv false o e h = absurd (false≢true e)

pub open_at : (done : List Deed) (t : Talks) (conn fid conv : ℕ) → Some conv ≡ conv_of done conn fid → Speak done t → IsOpenAt done (conv_of done conn fid) (kept_at t conv)
open_at done t conn fid conv e h =
    subst (λ (o : Option ℕ). IsOpenAt done o (kept_at t conv)) e
    (open_kept done conv (stands done conv) (kept_at t conv) (opener_stands (speakers done) (λ s. s.conn == conn && s.fid == fid) conv (sym e)) (h.table conv))

-- ---- its phase

rests_alike : (p : Phase) → shown.is_resting p ≡ is_resting p
rests_alike Resting = refl
rests_alike (Waiting request) = refl
rests_alike Seeking = refl
rests_alike (OnConfirm serial) = refl
rests_alike OnNeedkey = refl
rests_alike OnServer = refl
rests_alike (Kept answer) = refl

answers_alike : (p : Phase) → shown.has_answer p ≡ has_answer p
answers_alike Resting = refl
answers_alike (Waiting request) = refl
answers_alike Seeking = refl
answers_alike (OnConfirm serial) = refl
answers_alike OnNeedkey = refl
answers_alike OnServer = refl
answers_alike (Kept answer) = refl

pub resting_in : (done : List Deed) (o : Option ℕ) (c : Conversation) (b : Bool) → Shows c (λ s. shown.is_resting s.phase) b → IsOpenAt done o (Some c) → b ≡ is_resting (phase_in done o)
resting_in done (Some conv) c b shows h = shows (talk done conv) h ∙ rests_alike (standing_of done conv).phase
resting_in done None c b shows h = absurd h

pub resting_none : (done : List Deed) (o : Option ℕ) → IsOpenAt done o None → true ≡ is_resting (phase_in done o)
resting_none done None h = refl
resting_none done (Some conv) h = absurd h

pub answer_in : (done : List Deed) (o : Option ℕ) (c : Conversation) (b : Bool) → Shows c (λ s. shown.has_answer s.phase) b → IsOpenAt done o (Some c) → b ≡ has_answer (phase_in done o)
answer_in done (Some conv) c b shows h = shows (talk done conv) h ∙ answers_alike (standing_of done conv).phase
answer_in done None c b shows h = absurd h

pub answer_none : (done : List Deed) (o : Option ℕ) → IsOpenAt done o None → false ≡ has_answer (phase_in done o)
answer_none done None h = refl
answer_none done (Some conv) h = absurd h

-- ---- its end and its key

pub ends_in : (done : List Deed) (o : Option ℕ) (c : Conversation) (ends : Option Outcome) → Shows c outcome_of ends → IsOpenAt done o (Some c) → ends ≡ outcome_in done o
ends_in done (Some conv) c ends shows h = shows (talk done conv) h
ends_in done None c ends shows h = absurd h

pub ends_none : (done : List Deed) (o : Option ℕ) → IsOpenAt done o None → None ≡ outcome_in done o
ends_none done None h = refl
ends_none done (Some conv) h = absurd h

pub key_in : (done : List Deed) (o : Option ℕ) (c : Conversation) (key : Option KeyEntry) → Shows c key_of key → IsOpenAt done o (Some c) → key ≡ chosen_in done o
key_in done (Some conv) c key shows h = shows (talk done conv) h
key_in done None c key shows h = absurd h

pub key_none : (done : List Deed) (o : Option ℕ) → IsOpenAt done o None → None ≡ chosen_in done o
key_none done None h = refl
key_none done (Some conv) h = absurd h
