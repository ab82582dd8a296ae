-- What fits the fields of the records of authsrv(6), in words that need no code: names that leave room for a NUL,
-- blocks of so many bytes, and numbers in the range of their fields.
use Rattle.std.specs.Prelude.{◌≡◌, ℕ, ◌<◌, ◌^◌, List, All, length}
use Rattle.wire_base.specs.Names.{IsName}
use Rattle.sealing.specs.declared.authenticator.Authenticator.{Authenticator}
use Rattle.sealing.specs.declared.request.TicketReq.{TicketReq}
use Rattle.sealing.specs.declared.ticket.Ticket.{Ticket}

-- bytes, so many
pub record IsBlock (size : ℕ) (block : List ℕ) : Type 0 where
  pub whole : length block ≡ size
  pub bytes : All (λ b. b < 256) block

-- a name of a field of so many bytes
pub record FitsName (size : ℕ) (name : List ℕ) : Type 0 where
  pub short : IsName size name
  pub bytes : All (λ b. b < 256) name

pub record FitsTicket (t : Ticket) : Type 0 where
  pub num : t.num < 256
  pub chal : IsBlock 8 t.chal
  pub cuid : FitsName 28 t.cuid
  pub suid : FitsName 28 t.suid
  pub key : IsBlock 7 t.key.0

pub record FitsAuthenticator (a : Authenticator) : Type 0 where
  pub num : a.num < 256
  pub chal : IsBlock 8 a.chal
  pub id : a.id < 2 ^ 32

-- a request isn't sealed, so that it matters only where its fields end
pub record FitsRequest (r : TicketReq) : Type 0 where
  pub authid : IsName 28 r.authid
  pub authdom : IsName 48 r.authdom
  pub chal : length r.chal ≡ 8
  pub hostid : IsName 28 r.hostid
  pub uid : IsName 28 r.uid
