-- The record of a network as a history: the steps of several agents' conversations and of an authentication server's
-- sessions, the newest first. (The record itself is kept in the order in which it was made.) What a step says of one
-- conversation or one session stands here without its name and without the number of a message. Answers to requests
-- that were refused carry no message, and say nothing here.
use Rattle.std.specs.Prelude.{◌≡◌, ℕ, ◌+◌, List, [], ◌∷◌, ◌++◌, Bool, false, ◌||◌, Option, Some, None, if◌then◌else◌}
use Rattle.std.specs.Str.{bytes_eq}
use Rattle.wire_histories.specs.declared.step.Protocol.{Protocol}
use Rattle.wire_histories.specs.declared.step.Role.{Role}
use Rattle.wire_histories.specs.declared.step.Step.{Step}
use Rattle.wire_histories.specs.declared.step.Step.TheVariants.{Start, Out, In, Ask, Heard, Unheard, Accept, Fail, Reply, AsGot, AsGave, AsEnd, Reload}

abbrev pub History : Type 0
History = List Step

-- what a conversation did
pub data Act : Type 0 where
  -- it started
  started : (protocol : Protocol) (role : Role) (word : List ℕ) → Act
  -- it gave a message, and took one
  gave : (bytes : List ℕ) → Act
  took : (bytes : List ℕ) → Act
  -- it asked the authentication server, whose answer came, or didn't
  asked : (bytes : List ℕ) → Act
  answered : (bytes : List ℕ) → Act
  unanswered : Act
  -- it accepted these users, or broke for this cause
  accepted : (cuid suid : List ℕ) → Act
  failed : (cause : List ℕ) → Act

-- what a session of the authentication server did
pub data Deal : Type 0 where
  -- a request came, for which these words were drawn, while the tables of this number were in force
  requested : (tables : ℕ) (bytes : List ℕ) (words : List (List ℕ)) → Deal
  -- it was answered
  replied : (bytes : List ℕ) → Deal
  -- the session ended
  ended : Deal

-- where a name is this one
abbrev pub if_named : {A : Type 0} → List ℕ → List ℕ → A → List A
if_named name wanted a = if bytes_eq name wanted then a ∷ [] else []

-- what a step says of the conversation of a name
abbrev pub act_in : List ℕ → Step → List Act
act_in wanted (Start conv protocol role random) = if_named conv wanted (started protocol role random)
act_in wanted (Out number conv bytes) = if_named conv wanted (gave bytes)
act_in wanted (In conv bytes) = if_named conv wanted (took bytes)
act_in wanted (Ask number conv bytes) = if_named conv wanted (asked bytes)
act_in wanted (Heard conv bytes) = if_named conv wanted (answered bytes)
act_in wanted (Unheard conv) = if_named conv wanted unanswered
act_in wanted (Accept conv cuid suid) = if_named conv wanted (accepted cuid suid)
act_in wanted (Fail conv cause) = if_named conv wanted (failed cause)
act_in wanted step = []

-- how often the authentication server's tables were read again: the number of those that are in force
abbrev pub reloads_in : History → ℕ
reloads_in [] = 0
reloads_in (Reload ∷ past) = reloads_in past + 1
reloads_in (step ∷ past) = reloads_in past

-- what a step says of the session of a name, while the tables of a number are in force
abbrev pub deal_in : ℕ → List ℕ → Step → List Deal
deal_in tables wanted (AsGot session bytes words) = if_named session wanted (requested tables bytes words)
deal_in tables wanted (AsGave number session bytes) = if_named session wanted (replied bytes)
deal_in tables wanted (AsEnd session) = if_named session wanted ended
deal_in tables wanted step = []

-- all that a conversation did, and a session, the newest first
abbrev pub acts_of : List ℕ → History → List Act
acts_of name [] = []
acts_of name (step ∷ past) = act_in name step ++ acts_of name past

abbrev pub deals_of : List ℕ → History → List Deal
deals_of name [] = []
deals_of name (step ∷ past) = deal_in (reloads_in past) name step ++ deals_of name past

-- a conversation started
abbrev pub has_started : List ℕ → History → Bool
has_started name [] = false
has_started name (Start conv protocol role word ∷ past) = bytes_eq conv name || has_started name past
has_started name (step ∷ past) = has_started name past

-- whether a step is of a conversation: also an answer that carries no message
abbrev pub is_of : List ℕ → Step → Bool
is_of name (Start conv protocol role word) = bytes_eq conv name
is_of name (Out number conv bytes) = bytes_eq conv name
is_of name (In conv bytes) = bytes_eq conv name
is_of name (Ask number conv bytes) = bytes_eq conv name
is_of name (Heard conv bytes) = bytes_eq conv name
is_of name (Unheard conv) = bytes_eq conv name
is_of name (Accept conv cuid suid) = bytes_eq conv name
is_of name (Fail conv cause) = bytes_eq conv name
is_of name (Reply conv answer) = bytes_eq conv name
is_of name step = false

-- the number of the message that a step records
abbrev pub message_number : Step → Option ℕ
message_number (Out number conv bytes) = Some number
message_number (Ask number conv bytes) = Some number
message_number (AsGave number session bytes) = Some number
message_number step = None

abbrev pub counted : Option ℕ → ℕ
counted None = 0
counted (Some number) = 1

-- how many messages were recorded
abbrev pub messages : History → ℕ
messages [] = 0
messages (step ∷ past) = messages past + counted (message_number step)

-- messages are numbered from 0 in the order in which they were recorded
abbrev pub IsNext : Option ℕ → ℕ → Type 0
IsNext None next = Unit {0}
IsNext (Some number) next = number ≡ next

abbrev pub IsNumbered : History → Type 0
IsNumbered [] = Unit {0}
IsNumbered (step ∷ past) = IsNext (message_number step) (messages past) × IsNumbered past
