-- The ticket request of 141 bytes (authsrv(6) of the Plan 9 manual):
-- kind[1] authid[28] authdom[48] chal[8] hostid[28] uid[28].
use Rattle.std.specs.Prelude.{◌≡◌, ℕ, ◌≤◌, List, [], ◌∷◌, ◌++◌, length, nat_lt, slice_index, Result, Ok, Err, if◌then◌else◌}
use Rattle.wire_base.specs.Names.{name_field}
use Rattle.sealing.specs.Fields.{field, HoldsName, name_in, ◌>>=◌}
use Rattle.sealing.specs.declared.request.TicketReq.{TicketReq}
use Rattle.sealing.specs.declared.fault.FieldFault.{FieldFault}
use Rattle.sealing.specs.declared.fault.FieldFault.TheVariants.{Short}

-- the fields of a request as they are written, in order
unfoldable pub request_text : TicketReq → List ℕ
request_text r =
    r.kind ∷ []
    ++ name_field 28 r.authid
    ++ name_field 48 r.authdom
    ++ r.chal
    ++ name_field 28 r.hostid
    ++ name_field 28 r.uid

-- the first 141 bytes hold the fields of this request, whatever stands behind the NUL of a name
pub record IsRequest (bytes : List ℕ) (r : TicketReq) : Type 0 where
  pub whole : 141 ≤ length bytes
  pub kind : slice_index bytes 0 ≡ r.kind
  pub authid : HoldsName (field 1 28 bytes) r.authid
  pub authdom : HoldsName (field 29 48 bytes) r.authdom
  pub chal : field 77 8 bytes ≡ r.chal
  pub hostid : HoldsName (field 85 28 bytes) r.hostid
  pub uid : HoldsName (field 113 28 bytes) r.uid

-- the names of a request, by offset and size
abbrev pub request_names : List (ℕ × ℕ)
request_names = (1, 28) ∷ (29, 48) ∷ (85, 28) ∷ (113, 28) ∷ []

-- the request whose fields stand at their offsets, or the first fault from the left
unfoldable pub request_fields : List ℕ → Result TicketReq FieldFault
request_fields bytes = do
  authid ← name_in 1 28 bytes
  authdom ← name_in 29 48 bytes
  hostid ← name_in 85 28 bytes
  uid ← name_in 113 28 bytes
  Ok (record {
    kind = slice_index bytes 0;
    authid = authid;
    authdom = authdom;
    chal = field 77 8 bytes;
    hostid = hostid;
    uid = uid;
  })

-- the request that the first 141 bytes are, or what is wrong with them
unfoldable pub request_of : List ℕ → Result TicketReq FieldFault
request_of bytes = if nat_lt (length bytes) 141 then Err (Short 141) else request_fields bytes
