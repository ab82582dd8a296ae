-- What is asked of an agent through a port, and what its answers say, by factotum(4): the requests of its rpc file,
-- and the words with which their answers begin. That a server of p9any is asked alone is this project's.
use Rattle.std.specs.Prelude.{◌≡◌, ℕ, List, [], ◌∷◌, ◌++◌, length, take, drop, nat_le, Bool, true, false, not, ◌&&◌, ◌||◌, ◌==◌, Option, Some, None, codes, if◌then◌else◌}
use Rattle.std.specs.Str.{bytes_eq}
use Rattle.doors.specs.declared.port.PortOpen.{PortOpen}
use Rattle.doors.specs.declared.port.PortSaid.{PortSaid}
use Rattle.doors.specs.declared.port.PortSaid.TheVariants.{Said, Gone}

-- a call of a port, and what came of it
pub data PortCall : Type 0 where
  Opened : (answer : PortOpen) → PortCall
  Asked : (conv : ℕ) (request : List ℕ) (said : PortSaid) (answer : List ℕ) → PortCall
  Closed : (conv : ℕ) → PortCall

-- ---- requests

-- a user is to be authenticated to the server, by any protocol of p9any
abbrev pub start_text : List ℕ
start_text = codes "start proto=p9any role=server"

abbrev pub read_text : List ℕ
read_text = codes "read"

abbrev pub write_text : List ℕ → List ℕ
write_text content = codes "write " ++ content

abbrev pub info_request : List ℕ
info_request = codes "authinfo"

-- how many bytes a request of rpc may have
abbrev pub most_request : ℕ
most_request = 4096

abbrev pub is_start : List ℕ → Bool
is_start request = bytes_eq (take 5 request) (codes "start")

-- a request that a port may be asked
abbrev pub is_fit : List ℕ → Bool
is_fit request = nat_le (length request) most_request && (not (is_start request) || bytes_eq request start_text)

-- ---- answers

-- an answer is `ok`, alone or with bytes behind a blank
abbrev pub is_ok : List ℕ → Bool
is_ok answer = bytes_eq answer (codes "ok") || bytes_eq (take 3 answer) (codes "ok ")

-- the bytes
abbrev pub given : List ℕ → List ℕ
given answer = drop 3 answer

-- the conversation is past its last move
abbrev pub is_done : List ℕ → Bool
is_done answer = bytes_eq (take 4 answer) (codes "done")

-- what a request came to: it was carried out, and gave these bytes; the conversation had ended well; it was answered
-- something else; or the agent is gone
pub data Heard : Type 0 where
  Well : (bytes : List ℕ) → Heard
  Ended : Heard
  Else : (answer : List ℕ) → Heard
  Lost : Heard

abbrev pub heard_in : List ℕ → Heard
heard_in answer = if is_ok answer then Well (given answer) else if is_done answer then Ended else Else answer

unfoldable pub heard : PortSaid → List ℕ → Heard
heard Said answer = heard_in answer
heard outcome answer = Lost

abbrev pub is_well : Heard → Bool
is_well (Well bytes) = true
is_well other = false
