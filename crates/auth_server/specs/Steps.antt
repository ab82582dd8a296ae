-- Words for the steps of the code. No public contract cites them.
use Rattle.std.specs.Prelude.{◌≡◌, ◌+◌, ◌<◌, ◌≤◌, ℕ, List, [], ◌++◌, false, length, Option, Some, Result}
use Rattle.std.specs.Io.KnownBytes.{Consumes, IsAtEnd, Keeps}
use Rattle.wire_streams.specs.declared.source.Got.{Got}
use Rattle.wire_streams.specs.declared.source.Got.TheVariants.{Bytes, End, Failed}
use Rattle.sealing.specs.declared.fault.FieldFault.{FieldFault}
use Rattle.sealing.specs.declared.request.TicketReq.{TicketReq}
use Rattle.auth_server.specs.declared.serve.AuthEnd.{AuthEnd}
use Rattle.auth_server.specs.declared.serve.AuthEnd.TheVariants as e
use Rattle.auth_server.specs.declared.serve.Progress.{Progress}
use Rattle.auth_server.specs.declared.serve.Progress.TheVariants.{Whole, Part, Ended}
use Rattle.auth_server.specs.Requests.{Asked, kind_of, needed}
use Rattle.auth_server.specs.Answers.{Knowledge, Posed, held_after, held_mail, is_over_in, judged, wrong_by, wrong_mail}
use Rattle.auth_server.specs.Standing.{Standing, Stands}
use Rattle.auth_server.specs.Sessions.{IsUnfinished, bytes_of}
use Rattle.auth_server.specs.Serving.{Moment, Answers, EndsUnder}
use Rattle.auth_server.specs.Notices.{judged_by, notices_of}
use Rattle.auth_server.specs.declared.log.Notice.{Notice}
use Rattle.wire_streams.specs.Spawning.{Gains}

-- what a request makes of a session, by what is read of it: what is held after it, and its wrong answers more
pub record Moves (known : Knowledge) (asked : Asked) (old new : Standing)
    (read : Result TicketReq FieldFault) : Type 0 where
  pub held : new.held ≡ held_after known asked old.held read
  pub wrong : new.wrong ≡ old.wrong + wrong_by known asked old.held read

-- the same of a mail request
pub record MailMoves (known : Knowledge) (asked : Asked) (r : TicketReq) (old new : Standing) : Type 0 where
  pub held : new.held ≡ held_mail known asked r old.held (judged known asked r old.held)
  pub wrong : new.wrong ≡ old.wrong + wrong_mail (judged known asked r old.held)

-- ---- the request that is being read

-- where it begins in the stream, and those of its bytes that were read
pub record Incoming : Type 0 where
  pub at : ℕ
  pub bytes : List ℕ

-- what one read makes of the bytes: so many more of the source, at least one; or they stay, at its end or at a fault
abbrev pub Fills : Option (List ℕ) → Option (List ℕ) → List ℕ → List ℕ → ℕ → Got → Type 0
Fills left later old new most (Bytes n) = (piece : List ℕ) × (new ≡ old ++ piece) × (n ≡ length piece)
    × (0 < length piece) × (length piece ≤ most) × Consumes left later piece
Fills left later old new most End = (new ≡ old) × IsAtEnd later × Keeps left later
Fills left later old new most Failed = (new ≡ old) × Keeps left later

-- between two reads: the requests before the one that is being read were answered
pub record Received (InForce : ℕ → Knowledge → Type 0) (before now : Moment) (requests : List Posed)
    (session : Standing) (incoming : Incoming) : Type 0 where
  pub answers : Answers InForce before now requests incoming.bytes []
  pub goes_on : is_over_in requests ≡ false
  pub stands : Stands requests session
  pub place : incoming.at ≡ length (bytes_of requests)

-- what one read came to: the request is whole, or a part of it was read, or the input ended before its first byte
abbrev pub Progressed : Progress → Standing → Incoming → Option (List ℕ) → Type 0
Progressed Whole session incoming left = needed session.held (kind_of incoming.bytes) ≡ Some (length incoming.bytes)
Progressed Part session incoming left = IsUnfinished session.held incoming.bytes
Progressed Ended session incoming left = (incoming.bytes ≡ []) × IsAtEnd left

-- the ends that reading a request may come to
abbrev pub IsReadEnd : AuthEnd → Type 0
IsReadEnd end = (end ≡ e.WriteFault → ⊥) × (end ≡ e.WordFault → ⊥) × (end ≡ e.NoMemory → ⊥) × (end ≡ e.End → ⊥)

-- the ends that answering a request may come to
abbrev pub IsAnswerEnd : AuthEnd → Type 0
IsAnswerEnd end = (end ≡ e.ReadFault → ⊥) × (end ≡ e.End → ⊥)

-- a server ended so, and these are the requests that it judged
pub record EndsBehind (InForce : ℕ → Knowledge → Type 0) (end : AuthEnd) (before now : Moment)
    (requests : List Posed) : Type 0 where
  pub ends : EndsUnder InForce end before now
  pub judged : judged_by InForce end before now ends ≡ requests

-- what may be in force behind so many requests is what may be so from the first one on
abbrev pub IsSince : (ℕ → Knowledge → Type 0) → (ℕ → Knowledge → Type 0) → ℕ → Type 0
IsSince InForce Later count =
    (number : ℕ) (known : Knowledge) → Later number known → InForce (number + count) known

-- some requests were answered, what came of each was noted, the next begins at a place, and the tables were read again
-- as often
pub record HasAnswered (InForce Later : ℕ → Knowledge → Type 0) (before now : Moment) (log later : Option (List Notice))
    (at : ℕ) (session : Standing) : Type 0 where
  pub requests : List Posed
  pub since : IsSince InForce Later (length requests)
  pub received : Received InForce before now requests session (record { at = at; bytes = [] })
  pub noted : Gains log later (notices_of requests)
