-- What the conversations of a labelled record are, by their names, behind the steps that are past.
use Rattle.std.specs.Prelude.{◌≡◌, ℕ, List, [], ◌∷◌, length, map, Bool, true, false, Option, Some, None}
use Rattle.std.specs.Map.{lookup}
use Rattle.std.specs.Str.{bytes_eq}
use Rattle.symbolic_runs.specs.Moves.{Own}
use Rattle.symbolic_runs.specs.Runs.{Setting, own_of}
use Rattle.symbolic_runs.specs.Trees.{long_key, nonce, password}
use Rattle.wire_histories.specs.declared.step.Protocol.{Protocol}
use Rattle.wire_histories.specs.declared.step.Role.{Role as Part}
use Rattle.wire_histories.specs.declared.step.Step.{Step}
use Rattle.wire_histories.specs.declared.step.Step.TheVariants.{Start, Out, In, Ask, Heard, Unheard, Accept, Fail}
use Rattle.wire_histories.specs.Histories.{History, Act, gave, took, asked, answered, unanswered, accepted, failed, act_in}
use Rattle.clean_runs.specs.Agreement.{own_in, plays}
use Rattle.clean_runs.specs.Labels.{Labelled, Labelling, labelled, started_as, starts_in}
use Rattle.clean_runs.specs.Runs.{number_of}
use Rattle.trace_runs.specs.declared.conversation.Conversation.{Conversation}
use Rattle.trace_runs.specs.declared.network.Conversations.{Conversations}
use Rattle.trace_runs.specs.Stages.{StandsFor}
use Rattle.trace_runs.specs.Views.{role_of}

-- ---- the conversations

abbrev pub talk_at : Conversations → List ℕ → Option Conversation
talk_at talks name = lookup (bytes_eq name) (map (λ entry. (entry.0.items, entry.1)) talks.table.entries)

-- one that started stands for all that was done under its name, with the role and the word of its start and the key of
-- its holder
pub record IsTalk (l : Labelling) (name : List ℕ) (past : History) (c : Conversation) : Type 0 where
  pub plays : plays name past ≡ Some (role_of c.role)
  pub stands : StandsFor (own_in l name past) (role_of c.role) (labelled l name past) c

abbrev pub TalkIs : Labelling → List ℕ → History → Option Conversation → Type 0
TalkIs l name past None = labelled l name past ≡ []
TalkIs l name past (Some c) = IsTalk l name past c

-- they stand for a past in which a conversation starts once, and does nothing before: each that did something is there
pub record Stand (l : Labelling) (past : History) (talks : Conversations) : Type 0 where
  pub starts : talks.starts ≡ starts_in past
  pub each : (name : List ℕ) → TalkIs l name past (talk_at talks name)

-- ---- what happens

abbrev pub HasStarted : List ℕ → History → Type 0
HasStarted name past = (number : ℕ) × (started_as name past ≡ Some number)

-- a conversation begins, unless one of its name did before
abbrev pub Begins : Bool → Labelling → History → List ℕ → Protocol → Part → List ℕ → Conversations → Type 0
Begins true l past name protocol part word talks = Stand l (Start name protocol part word ∷ past) talks
Begins false l past name protocol part word talks = HasStarted name past × Stand l past talks

-- by a step the conversation of a name does this, behind its start
abbrev pub IsActOf : List ℕ → Act → Step → Type 0
IsActOf name act (Out number conv b) = (conv ≡ name) × (act ≡ gave b)
IsActOf name act (In conv b) = (conv ≡ name) × (act ≡ took b)
IsActOf name act (Ask number conv b) = (conv ≡ name) × (act ≡ asked b)
IsActOf name act (Heard conv b) = (conv ≡ name) × (act ≡ answered b)
IsActOf name act (Unheard conv) = (conv ≡ name) × (act ≡ unanswered)
IsActOf name act (Accept conv cuid suid) = (conv ≡ name) × (act ≡ accepted cuid suid)
IsActOf name act (Fail conv cause) = (conv ≡ name) × (act ≡ failed cause)
IsActOf name act step = ⊥

-- a step of no conversation
abbrev pub IsBeside : Step → Type 0
IsBeside step = (name : List ℕ) → act_in name step ≡ []

-- an act with the label of its place
abbrev pub labelled_act : Labelling → History → Act → Labelled
labelled_act l past act = record { act = act; label = l.label (length past) }

-- ---- in a run

-- what a run's setting says of a conversation is what is said of it at its start
pub record IsSettingAt (s : Setting) (l : Labelling) (name : List ℕ) (past : History) : Type 0 where
  pub own_is : own_of s (number_of name past) ≡ own_in l name past
  pub role_is : plays name past ≡ Some (s.role (number_of name past))

-- ---- of the code alone

abbrev pub own_for : ℕ → List ℕ → Own
own_for number holder = record { word = nonce number; key = long_key holder; password = password holder }
