-- Symbolic runs: what conversations and an authentication server do while the whole network is an attacker's. What
-- comes to them is whatever derives from the keys and passwords that were betrayed and from all that was given before.
use Rattle.std.specs.Prelude.{◌≡◌, ℕ, ◌+◌, ◌^◌, ◌<◌, List, [], ◌∷◌, ◌++◌, length, map, ◌==◌, if◌then◌else◌}
use Rattle.symbolic_runs.specs.Trees.{Tree, plain, nonce, long_key, password}
use Rattle.symbolic_runs.specs.Derivations.{Derives}
use Rattle.symbolic_runs.specs.Moves.{Role, Move, takes, hears, gives, asks, Own, Row}
use Rattle.symbolic_runs.specs.Sessions.{Grant, Deed, got, deed_labels, SessionRow}

-- the setting of a run: the names whose keys and passwords are betrayed, the authentication server's domain, the role
-- and the holder of each conversation by the number of its start, and what was used and granted at each request by
-- its number
pub record Setting : Type 0 where
  pub compromised : List (List ℕ)
  pub domain : List ℕ
  pub role : ℕ → Role
  pub holder : ℕ → List ℕ
  pub grants : ℕ → Grant

pub data Event : Type 0 where
  -- the conversation with the next number starts
  starts : Event
  -- a conversation takes or gives these bytes before its protocol is chosen (p9any)
  talks : ℕ → List ℕ → Event
  moves : ℕ → Move → Event
  -- a session of the authentication server does this
  serves : ℕ → Deed → Event

-- a run, the newest event first
abbrev pub Run : Type 0
Run = List Event

-- what a conversation has of its own
abbrev pub own_of : Setting → ℕ → Own
own_of s conv = record { word = nonce conv; key = long_key (s.holder conv); password = password (s.holder conv) }

-- how many conversations started
abbrev pub started : Run → ℕ
started [] = 0
started (starts ∷ past) = started past + 1
started (event ∷ past) = started past

-- what a conversation did
abbrev pub moves_of : ℕ → Run → List Move
moves_of conv [] = []
moves_of conv (moves other move ∷ past) = if other == conv then move ∷ moves_of conv past else moves_of conv past
moves_of conv (event ∷ past) = moves_of conv past

-- what a session did
abbrev pub deeds_of : ℕ → Run → List Deed
deeds_of session [] = []
deeds_of session (serves other deed ∷ past) =
    if other == session then deed ∷ deeds_of session past
    else deeds_of session past
deeds_of session (event ∷ past) = deeds_of session past

-- how many requests came
abbrev pub requests : Run → ℕ
requests [] = 0
requests (serves session (got number t) ∷ past) = requests past + 1
requests (event ∷ past) = requests past

-- what a move gives to the network
abbrev pub move_labels : Move → List Tree
move_labels (gives t) = t ∷ []
move_labels (asks t) = t ∷ []
move_labels move = []

-- all that was given, the newest first
abbrev pub given : Setting → Run → List Tree
given s [] = []
given s (starts ∷ past) = given s past
given s (talks conv bytes ∷ past) = plain bytes ∷ given s past
given s (moves conv move ∷ past) = move_labels move ++ given s past
given s (serves session deed ∷ past) = deed_labels s.domain s.grants deed ++ given s past

-- what an attacker knows after a run: the keys and passwords that were betrayed, and all that was given
abbrev pub known : Setting → Run → List Tree
known s past = map long_key s.compromised ++ (map password s.compromised ++ given s past)

-- what comes derives from what is known
abbrev pub Comes : Setting → Run → Move → Type 0
Comes s past (takes t) = Derives (known s past) t
Comes s past (hears t) = Derives (known s past) t
Comes s past move = Unit

-- a request derives too, and has the next number
abbrev pub Arrives : Setting → Run → Deed → Type 0
Arrives s past (got number t) = (number ≡ requests past) × Derives (known s past) t
Arrives s past deed = Unit

-- the events follow each other by the tables
pub data IsRun (s : Setting) : Run → Type 0 where
  begins : IsRun s []
  then_starts : {past : Run} → IsRun s past → IsRun s (starts ∷ past)
  then_talks : {past : Run} {conv : ℕ} {bytes : List ℕ} → IsRun s past → conv < started past → moves_of conv past ≡ []
      → IsRun s (talks conv bytes ∷ past)
  then_moves : {past : Run} {conv : ℕ} {move : Move} → IsRun s past → conv < started past
      → Row (own_of s conv) (s.role conv) (moves_of conv past) move → Comes s past move
      → IsRun s (moves conv move ∷ past)
  then_serves : {past : Run} {session : ℕ} {deed : Deed} → IsRun s past
      → SessionRow s.domain s.grants (deeds_of session past) deed → Arrives s past deed
      → IsRun s (serves session deed ∷ past)

pub record IsSymbolicRun (s : Setting) (run : Run) : Type 0 where
  pub short : length run < 2 ^ 31
  pub by_the_tables : IsRun s run
