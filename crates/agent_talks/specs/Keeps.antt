-- When the connections that are kept, and those that are to be given up, are those that a list of deeds tells of.
use Rattle.std.specs.Prelude.{◌≡◌, ◌<◌, ℕ, List, [], length, Bool, true, false, Option, Some, None}
use Rattle.talks.specs.Standings.{outcome_of}
use Rattle.agent_history.specs.Deeds.{Deed}
use Rattle.agent_history.specs.Conversations.{Due, NoneDue, DropDue, QuestionDue, drops, keeps, stands, standing_of}
use Rattle.talks.specs.Lines.{is_end}
use Rattle.agent_talks.specs.Kept.{question_of, unasked}
use Rattle.agent_talks.specs.Speaks.{Speak}
use Rattle.agent_talks.specs.Calls.{Calls, drop_of, ended_if, is_kept}
use Rattle.agent_talks.specs.declared.due.Due.{Due as HeldDue}
use Rattle.agent_talks.specs.declared.due.Due.TheVariants as d
use Rattle.agent_talks.specs.declared.held.Talks.{Talks}

-- the conversations with the connections that they keep
pub record KeepingTalks : Type 0 where
  pub talks : Talks
  pub calls : Calls

-- a conversation has come to its end
abbrev pub is_over_at : List Deed → ℕ → Bool
is_over_at done conv = is_end (outcome_of (standing_of done conv))

-- a conversation stands, and hasn't come to its end
pub record IsAlive (done : List Deed) (conv : ℕ) : Type 0 where
  pub stands : stands done conv ≡ true
  pub runs : is_over_at done conv ≡ false

pub record Keeps (done : List Deed) (c : Calls) : Type 0 where
  pub kept : (conv : ℕ) → is_kept c.kept conv ≡ keeps done conv
  pub drops : c.drops ≡ drops done
  pub alive : (conv : ℕ) → keeps done conv ≡ true → IsAlive done conv

-- the conversations, their questions and their connections are those that the deeds tell of
pub record Converses (done : List Deed) (k : KeepingTalks) : Type 0 where
  pub speak : Speak done k.talks
  pub calls : Keeps done k.calls

-- whatever the deeds were, they are still those that they tell of
abbrev pub SameConverses : KeepingTalks → KeepingTalks → Type 0
SameConverses old new = (done : List Deed) → Converses done old → Converses done new

-- of the code alone: a conversation gives up the connection that it keeps, if it has come to its end; where one is
-- meant
abbrev pub EndsOver : ℕ → ℕ → Talks → Calls → Calls → Type 0
EndsOver conv behind talks old new = (done : List Deed) → stands done conv ≡ true → Speak done talks
    → new ≡ ended_if (is_over_at done conv) conv behind old

abbrev pub EndsAsker : Option ℕ → ℕ → Talks → Calls → Calls → Type 0
EndsAsker None behind talks old new = new ≡ old
EndsAsker (Some conv) behind talks old new = EndsOver conv behind talks old new

-- ---- what is due

abbrev pub due_of : HeldDue → Due
due_of d.Nothing = NoneDue
due_of (d.Call given) = DropDue (drop_of given)
due_of (d.Question question) = QuestionDue (question_of question)

-- it is left
abbrev pub IsLeft : HeldDue → KeepingTalks → Type 0
IsLeft d.Nothing k = (k.calls.drops ≡ []) × (unasked k.talks ≡ 0)
IsLeft (d.Call given) k = 0 < length k.calls.drops
IsLeft (d.Question question) k = 0 < unasked k.talks
