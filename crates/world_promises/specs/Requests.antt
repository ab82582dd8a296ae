-- What a request that a network makes of a conversation does to an agent of which all was taken. It serves proofs
-- alone.
use Rattle.std.specs.Prelude.{◌≡◌, ℕ, List, length, ◌==◌, true, false, Some}
use Rattle.roles.specs.Starts.{Start}
use Rattle.agent_history.specs.Conversations.{conv_of}
use Rattle.agent_history.specs.Histories.{History, deeds}
use Rattle.world_history.specs.Talking.{Asks, request_questions, requested}
use Rattle.world_history.specs.Turns.{asks}
use Rattle.world_promises.specs.Begun.{BegunWith}
use Rattle.world_promises.specs.Agents.{EventsLeave, RequestDoes, begun_in}
use Rattle.driven_agents.specs.Idle.{AreOf, IsIdle, KeepsAskers, Runs, SameSeats}

pub record Requested (number fid : ℕ) (what : Asks) (h : History) : Type 0 where
  pub does : RequestDoes number fid what h
  pub idle : IsIdle (requested fid what h)
  pub seats : SameSeats h (requested fid what h)
  pub keeps : KeepsAskers (λ n. true) h (requested fid what h)
  pub raises : AreOf number (request_questions fid what h) (requested fid what h)

-- a start whose random word is of eight bytes, as each one is that a network draws, so that an answer has room for it
abbrev pub IsWorded : Start → Type 0
IsWorded start = length start.word ≡ 8

-- the conversation that a fid has open does what is asked of it
abbrev pub RequestsDo : Type 0
RequestsDo = (number fid : ℕ) (what : Asks) (h : History) → BegunWith IsWorded (begun_in h number) → IsIdle h
    → conv_of (deeds h) 0 fid ≡ Some number → Runs (requested fid what h) → Requested number fid what h

-- and any other one stays as it is
abbrev pub RequestsLeave : Type 0
RequestsLeave = (other number fid : ℕ) (conv : List ℕ) (what : Asks) (h : History) → IsIdle h
    → conv_of (deeds h) 0 fid ≡ Some number → (other == number) ≡ false → Runs (requested fid what h)
    → EventsLeave other (asks conv fid what) h
