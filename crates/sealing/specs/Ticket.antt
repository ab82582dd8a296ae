-- The ticket of 72 bytes (authsrv(6) of the Plan 9 manual): num[1] chal[8] cuid[28] suid[28] key[7].
use Rattle.std.specs.Prelude.{◌≡◌, ℕ, List, [], ◌∷◌, ◌++◌, slice_index, Result, Ok}
use Rattle.wire_base.specs.Names.{name_field}
use Rattle.sealing.specs.Fields.{field, HoldsName, name_in, ◌>>=◌}
use Rattle.sealing.specs.declared.ticket.Ticket.{Ticket}
use Rattle.sealing.specs.declared.fault.FieldFault.{FieldFault}

-- the fields of a ticket as they are written, in order
unfoldable pub ticket_text : Ticket → List ℕ
ticket_text t =
    t.num ∷ []
    ++ t.chal
    ++ name_field 28 t.cuid
    ++ name_field 28 t.suid
    ++ t.key.0

-- 72 bytes hold the fields of this ticket, whatever stands behind the NUL of a name
pub record IsTicket (bytes : List ℕ) (t : Ticket) : Type 0 where
  pub num : slice_index bytes 0 ≡ t.num
  pub chal : field 1 8 bytes ≡ t.chal
  pub cuid : HoldsName (field 9 28 bytes) t.cuid
  pub suid : HoldsName (field 37 28 bytes) t.suid
  pub key : field 65 7 bytes ≡ t.key.0

-- the names of a ticket, by offset and size
abbrev pub ticket_names : List (ℕ × ℕ)
ticket_names = (9, 28) ∷ (37, 28) ∷ []

-- the ticket that 72 bytes are, or the first fault from the left
unfoldable pub ticket_of : List ℕ → Result Ticket FieldFault
ticket_of bytes = do
  cuid ← name_in 9 28 bytes
  suid ← name_in 37 28 bytes
  Ok (record {
    num = slice_index bytes 0;
    chal = field 1 8 bytes;
    cuid = cuid;
    suid = suid;
    key = record { 0 = field 65 7 bytes };
  })
