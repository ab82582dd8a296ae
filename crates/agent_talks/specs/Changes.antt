-- Of the code alone: what a method does to what is kept. No public contract cites these words.
use Rattle.std.specs.Prelude.{◌≡◌, ℕ, ◌+◌, List, [], ◌∷◌, ◌++◌, filter, Bool, true, false, not, ◌&&◌, ◌==◌, ◌⊎◌, Option, Some, None, is_some, if◌then◌else◌}
use Rattle.std.specs.List.{list_any}
use Rattle.key_lists.specs.Lists.{KeyList}
use Rattle.talks.specs.Calls.{Call, Consented, KeyTold}
use Rattle.talks.specs.declared.said.Asking.{Asking}
use Rattle.talks.specs.Standings.{Phase, standing}
use Rattle.conversations.specs.declared.conversation.Conversation.{Conversation}
use Rattle.conversations.specs.Fits.{Holds, Keeps, Shows, Stays, with_answer, with_request}
use Rattle.conversations.specs.declared.asks.Asks.{Asks}
use Rattle.conversations.specs.Asking as C
use Rattle.conversations.specs.Asking.{asks_that}
use Rattle.conversations.specs.Shown.{has_request, waits_for_server}
use Rattle.agent_talks.specs.declared.carry.Step.{Step}
use Rattle.agent_talks.specs.declared.carry.Step.TheVariants as p
use Rattle.agent_history.specs.Conversations.{Question, hand_first}
use Rattle.agent_talks.specs.declared.speaker.Speaker.{Speaker as HeldSpeaker}
use Rattle.agent_talks.specs.declared.speaker.Leaving.{Leaving}
use Rattle.agent_talks.specs.declared.held.Talks.{Talks}
use Rattle.agent_talks.specs.Kept.{kept_at, leaves, questions_in, speakers_in}

-- what was kept for a number met something, where something was
abbrev pub BothMet : Option Conversation → Option Conversation → Call → Type 0
BothMet None None call = Unit {0}
BothMet None (Some new) call = ⊥
BothMet (Some old) None call = ⊥
BothMet (Some old) (Some new) call = Keeps old new call

-- a conversation met something, and all others, who has them open and the numbers are as before
pub record Meets (old new : Talks) (conv : ℕ) (call : Call) : Type 0 where
  pub opened : new.opened ≡ old.opened
  pub speakers : speakers_in new ≡ speakers_in old
  pub this : BothMet (kept_at old conv) (kept_at new conv) call
  pub others : (other : ℕ) → (conv ≡ other → ⊥) → kept_at new other ≡ kept_at old other
  pub raised : new.raised ≡ old.raised

-- a conversation that met nothing is kept
abbrev pub IsNew : Option Conversation → Type 0
IsNew None = ⊥
IsNew (Some c) = Holds c []

-- a fid of a connection has a conversation open from now on
pub record Opens (old new : Talks) (conn fid : ℕ) : Type 0 where
  pub opened : new.opened ≡ old.opened + 1
  pub speakers : speakers_in new ≡ speakers_in old ++ record { conv = old.opened; conn = conn; fid = fid } ∷ []
  pub this : IsNew (kept_at new old.opened)
  pub others : (other : ℕ) → (old.opened ≡ other → ⊥) → kept_at new other ≡ kept_at old other
  pub raised : new.raised ≡ old.raised
  pub questions : questions_in new ≡ questions_in old

-- the conversation of a number is one of those that end
abbrev pub leaving_at : Leaving → List HeldSpeaker → ℕ → Bool
leaving_at leaving speakers conv = list_any (λ s. leaves leaving s && s.conv == conv) speakers

-- what is still kept for a number, if this was
abbrev pub left_one : {X : Type 0} → Leaving → HeldSpeaker → ℕ → Option X → Option X
left_one leaving s conv o = if leaves leaving s && s.conv == conv then None else o

abbrev pub left_at : {X : Type 0} → Leaving → List HeldSpeaker → ℕ → Option X → Option X
left_at leaving speakers conv o = if leaving_at leaving speakers conv then None else o

-- nobody leaves, and the questions are as before, or those of conversations that are kept are left
abbrev pub QuestionsLeft : Talks → Talks → Leaving → Type 0
QuestionsLeft old new leaving = ((filter (λ s. leaves leaving s) old.speakers ≡ [])
    × (new.questions.items ≡ old.questions.items))
    ⊎ (new.questions.items ≡ filter (λ q. is_some (kept_at new q.conv)) old.questions.items)

-- the conversations of those who leave are kept no more, nor are their questions
pub record Leaves (old new : Talks) (leaving : Leaving) : Type 0 where
  pub opened : new.opened ≡ old.opened
  pub speakers : new.speakers ≡ filter (λ s. not (leaves leaving s)) old.speakers
  pub table : (conv : ℕ) → kept_at new conv ≡ left_at leaving old.speakers conv (kept_at old conv)
  pub raised : new.raised ≡ old.raised
  pub questions : QuestionsLeft old new leaving

-- the first question that wasn't handed out is handed out, all else is as before
pub record Hands (old new : Talks) : Type 0 where
  pub opened : new.opened ≡ old.opened
  pub speakers : speakers_in new ≡ speakers_in old
  pub table : (other : ℕ) → kept_at new other ≡ kept_at old other
  pub raised : new.raised ≡ old.raised
  pub questions : questions_in new ≡ hand_first (questions_in old)

-- the questions of a conversation are dropped, all else is as before
pub record Drops (old new : Talks) (conv : ℕ) : Type 0 where
  pub opened : new.opened ≡ old.opened
  pub speakers : speakers_in new ≡ speakers_in old
  pub table : (other : ℕ) → kept_at new other ≡ kept_at old other
  pub raised : new.raised ≡ old.raised
  pub questions : questions_in new ≡ filter (λ q. not (q.conv == conv)) (questions_in old)

-- what was kept for a number met something, and its questions are dropped
pub record Ended (old new : Talks) (conv : ℕ) (call : Call) : Type 0 where
  pub meets : Meets old new conv call
  pub questions : questions_in new ≡ filter (λ q. not (q.conv == conv)) (questions_in old)

-- ---- it goes on

-- what was kept for a number holds for what its talk becomes, where something was
abbrev pub BothGo : Option Conversation → Option Conversation → (List Call → List Call) → Type 0
BothGo None None next = Unit {0}
BothGo None (Some new) next = ⊥
BothGo (Some old) None next = ⊥
BothGo (Some old) (Some new) next = (talk : List Call) → Holds old talk → Holds new (next talk)

-- the talk behind a step
abbrev pub next_by : Step → Asking → KeyList → List Call → List Call
next_by (p.CarryOut word) asking list talk = with_request word asking list talk
next_by (p.Consent agrees) asking list talk = with_answer (Consented agrees) asking list talk
next_by p.KeyTold asking list talk = with_answer KeyTold asking list talk

-- a step can be taken
abbrev pub may_take : Step → Phase → Bool
may_take (p.CarryOut word) phase = has_request phase
may_take (p.Consent agrees) phase = asks_that (Consented agrees) phase
may_take p.KeyTold phase = asks_that KeyTold phase

-- behind it a question to the user is made, if he is asked
abbrev pub StepReady : Conversation → Step → Asking → KeyList → Asks → Type 0
StepReady old step asking list asks = (talk : List Call) → Holds old talk → may_take step (standing talk).phase ≡ true
    → C.IsReady asking list (standing (next_by step asking list talk)) asks

abbrev pub BothReady : Option Conversation → Step → Asking → KeyList → Asks → Type 0
BothReady None step asking list asks = Unit {0}
BothReady (Some old) step asking list asks = StepReady old step asking list asks

-- it holds for all that it held for
abbrev pub BothStay : Option Conversation → Option Conversation → Type 0
BothStay None None = Unit {0}
BothStay None (Some new) = ⊥
BothStay (Some old) None = ⊥
BothStay (Some old) (Some new) = Stays old new

-- whether the authentication server is asked for it
abbrev pub IsAsking : Option Conversation → Bool → Type 0
IsAsking None asks = asks ≡ false
IsAsking (Some c) asks = Shows c (λ s. waits_for_server s.phase) asks

-- a question is raised, if one is
abbrev pub more_raised : Bool → ℕ → ℕ
more_raised asks raised = if asks then raised + 1 else raised

abbrev pub more_asked : Bool → ℕ → ℕ → List Question → List Question
more_asked asks raised conv questions =
    if asks then questions ++ record { call = raised + 1; conv = conv; handed = false } ∷ []
    else questions

-- a conversation met something, a question is raised where this asks the authentication server, and all else is as
-- before
pub record Goes (old new : Talks) (conv : ℕ) (asks : Bool) : Type 0 where
  pub opened : new.opened ≡ old.opened
  pub speakers : speakers_in new ≡ speakers_in old
  pub asked : IsAsking (kept_at new conv) asks
  pub others : (other : ℕ) → (conv ≡ other → ⊥) → kept_at new other ≡ kept_at old other
  pub raised : new.raised ≡ more_raised asks old.raised
  pub questions : questions_in new ≡ more_asked asks old.raised conv (questions_in old)

-- a conversation holds for all that it held for, all else is as before
pub record Back (old new : Talks) (conv : ℕ) : Type 0 where
  pub opened : new.opened ≡ old.opened
  pub speakers : speakers_in new ≡ speakers_in old
  pub this : BothStay (kept_at old conv) (kept_at new conv)
  pub others : (other : ℕ) → (conv ≡ other → ⊥) → kept_at new other ≡ kept_at old other
  pub raised : new.raised ≡ old.raised
  pub questions : questions_in new ≡ questions_in old
