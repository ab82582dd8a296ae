-- What a request to a conversation came to, as it is kept, against what the definitions hear in it.
use Rattle.std.specs.Prelude.{◌≡◌, ℕ, List, [], ◌∷◌, ◌++◌, Bool, Option, Some, None}
use Rattle.doors.specs.declared.port.PortSaid.{PortSaid}
use Rattle.doors.specs.declared.port.PortOpen.TheVariants.{Open}
use Rattle.doors.specs.declared.port.PortSaid.TheVariants.{Said, Gone}
use Rattle.doors.specs.Calls.{PortCall, Asked, Opened, Heard, Well, Ended, Else, Lost, given}
use Rattle.doors.specs.Requests.{FirstAsks, IsLogin, begun_by, begun_in, heard_in, to_read}
use Rattle.doors.specs.declared.asking.Answer.{Answer}
use Rattle.doors.specs.declared.asking.Answer.TheVariants as a
use Rattle.doors.specs.declared.reading.Found.{Found}
use Rattle.doors.specs.declared.reading.Found.TheVariants as f

-- a request was answered, or the agent is gone
abbrev pub said_of : Option Answer → PortSaid
said_of None = Gone
said_of (Some answer) = Said

-- what it came to, by the bytes of its answer
abbrev pub heard_of : Option Answer → List ℕ → Heard
heard_of None bytes = Lost
heard_of (Some a.Well) bytes = Well (given bytes)
heard_of (Some a.Ended) bytes = Ended
heard_of (Some a.Else) bytes = Else bytes

-- the one call that was made
abbrev pub asked : ℕ → List ℕ → Option Answer → List ℕ → List PortCall
asked conv request answer bytes = Asked conv request (said_of answer) bytes ∷ []

-- a conversation that was opened was started, or was closed again
pub record Starts {P : Type 0} (stands : List PortCall → P → Type 0) (past : List PortCall) (port : P) (conv : ℕ)
    (well : Bool) : Type 0 where
  pub calls : List PortCall
  pub login : IsLogin (calls ++ Opened (Open conv) ∷ [])
  pub number : begun_in (calls ++ Opened (Open conv) ∷ []) ≡ begun_by well conv
  pub told : stands (calls ++ past) port

-- a conversation was begun under this number, or none was
pub record Begins {P : Type 0} (stands : List PortCall → P → Type 0) (past : List PortCall) (port : P)
    (begun : Option ℕ) : Type 0 where
  pub calls : List PortCall
  pub login : IsLogin calls
  pub number : begun_in calls ≡ begun
  pub told : stands (calls ++ past) port

-- what a read finds: the bytes that it may give, or why it gives none
abbrev pub bytes_of : Found → Option (List ℕ)
bytes_of (f.Given bytes) = Some bytes
bytes_of found = None

abbrev pub refused_by : Found → Heard
refused_by (f.Given bytes) = Ended
refused_by (f.Refused answer) = Else answer
refused_by f.Lost = Lost

-- it is found so of what is kept, and of what was asked where nothing is
pub record IsFound (found : Found) (kept : List ℕ) (calls : List PortCall) : Type 0 where
  pub bytes : to_read kept calls ≡ bytes_of found
  pub why : bytes_of found ≡ None → heard_in calls ≡ refused_by found

pub record Finds {P : Type 0} (stands : List PortCall → P → Type 0) (past : List PortCall) (port : P) (conv : ℕ)
    (kept : List ℕ) (found : Found) : Type 0 where
  pub calls : List PortCall
  pub asks : FirstAsks kept conv calls
  pub told : stands (calls ++ past) port
  pub is : IsFound found kept calls
