-- Which histories a network can have. A setting says how each conversation started, what met its needs for keys,
-- offers and picks and which key it keeps, and what the authentication server's domain is and its tables are. Each
-- conversation does what a talk of its own leaves, and nothing more once its node was restarted. Each session does what
-- requests of its own leave, each by the tables in force when it came. Nothing ties what is taken to what was given:
-- what comes may be lost, repeated, turned round, changed or made up. A history may end between the steps of one event.
use Rattle.std.specs.Prelude.{◌≡◌, ℕ, ◌+◌, List, [], ◌∷◌, ◌++◌, All, length, None, Some, Option, true, false}
use Rattle.std.specs.List.{list_any, slice_index_or}
use Rattle.wire_base.specs.Names.{IsName}
use Rattle.attr_tuples.specs.Attributes.{is_tuple}
use Rattle.sealing.specs.Fitting.{FitsName, IsBlock}
use Rattle.auth_tables.specs.Keys.{KeyLine}
use Rattle.auth_tables.specs.Speaks.{SpeakLine}
use Rattle.auth_server.specs.Answers.{Knowledge}
use Rattle.auth_server.specs.Standing.{Server, knowledge}
use Rattle.roles.specs.declared.key.SkKey.{SkKey}
use Rattle.roles.specs.Starts.{Start, fits_start}
use Rattle.roles.specs.Talks.{Call, found}
use Rattle.talks.specs.Protocols.{refuses}
use Rattle.wire_histories.specs.declared.step.Step.TheVariants.{Restart}
use Rattle.wire_histories.specs.Histories.{History, Act, Deal, acts_of, deals_of, has_started, is_of, reloads_in, IsNumbered}
use Rattle.wire_histories.specs.Conversations.{kept_in, met_in, talk_acts}
use Rattle.wire_histories.specs.Sessions.{Came, IsSession, session_deals}

-- a conversation's node, its start, what met its needs, the newest first, and the key that it keeps, with its secret
pub record Spoken : Type 0 where
  pub node : List ℕ
  pub start : Start
  pub met : List Call
  pub key : Option (SkKey × Option (List ℕ))

-- the two tables of an authentication server: the keys of its users, and the names that it gives to hosts
pub record Tables : Type 0 where
  pub keys : List KeyLine
  pub speaks : List SpeakLine

-- the conversations by their names, and the authentication server's domain with all the tables that it had, the first
-- of them first
pub record Setting : Type 0 where
  pub spoken : List ℕ → Option Spoken
  pub dom : List ℕ
  pub tables : List Tables

-- the tables of a number, from 0 on
abbrev pub tables_at : List Tables → ℕ → Tables
tables_at tables number = slice_index_or tables number (record { keys = []; speaks = [] })

-- the authentication server while the tables of a number are in force, and what it knows then
abbrev pub server_at : Setting → ℕ → Server
server_at z number = record {
  dom = z.dom;
  keys = (tables_at z.tables number).keys;
  speaks = (tables_at z.tables number).speaks;
}

abbrev pub known_at : Setting → ℕ → Knowledge
known_at z number = knowledge (server_at z number)

-- a key such as a ring has
pub record IsRingKey (key : SkKey) : Type 0 where
  pub des : IsBlock 7 key.des.0
  pub user : FitsName 28 key.user
  pub dom : FitsName 48 key.dom

abbrev pub IsMet : Call → Type 0
IsMet (found key password) = IsRingKey key
IsMet call = Unit {0}

-- a conversation may be so: its template is a tuple that starts one, it has a word of eight bytes, and it is told
-- keys such as a ring has
pub record MayBe (spoken : Spoken) : Type 0 where
  pub tuple : is_tuple spoken.start.template ≡ true
  pub fits : fits_start spoken.start.template ≡ true
  pub starts : refuses spoken.start.template ≡ None
  pub word : IsBlock 8 spoken.start.word
  pub keys : All IsMet spoken.met

-- these acts are the first that a talk leaves whose needs were met so, and which keeps this key
pub record IsTalk (spoken : Spoken) (acts : List Act) : Type 0 where
  pub may : MayBe spoken
  pub talk : List Call
  pub met : met_in spoken.start talk ≡ spoken.met
  pub kept : kept_in spoken.start talk ≡ spoken.key
  pub later : List Act
  pub left : talk_acts spoken.start talk ≡ later ++ acts

abbrev pub IsConversation : Option Spoken → List Act → Type 0
IsConversation None acts = acts ≡ []
IsConversation (Some spoken) acts = IsTalk spoken acts

-- no step of a conversation stands behind a restart of its node that follows its start
abbrev pub EndsByRestarts : Option Spoken → List ℕ → History → Type 0
EndsByRestarts None name history = Unit {0}
EndsByRestarts (Some spoken) name history = (later past : History) → history ≡ later ++ Restart spoken.node ∷ past
    → has_started name past ≡ true → list_any (is_of name) later ≡ false

-- these are the first that requests leave, where the tables of each number tell what is known
pub record IsServed (known : ℕ → Knowledge) (deals : List Deal) : Type 0 where
  pub requests : List Came
  pub session : IsSession known requests
  pub later : List Deal
  pub left : session_deals known requests ≡ later ++ deals

-- the server's domain is such as a server is made of: so short that five digits tell how long a challenge is. It had
-- one pair of tables at first, and one more each time that they were read again
pub record IsLegal (history : History) (z : Setting) : Type 0 where
  pub domain : IsName 48 z.dom
  pub tables : length z.tables ≡ reloads_in history + 1
  pub conversations : (name : List ℕ) → IsConversation (z.spoken name) (acts_of name history)
  pub restarts : (name : List ℕ) → EndsByRestarts (z.spoken name) name history
  pub sessions : (name : List ℕ) → IsServed (known_at z) (deals_of name history)
  pub numbered : IsNumbered history
