-- Messages as they are read, field by field from the left, with the place of the first fault. What is read here
-- is what Messages says is spelled: the laws stand in the crate of the codec.
use Rattle.std.specs.Prelude.{◌≡◌, ℕ, ◌==◌, ◌≤◌, List, Option, Some, None, Result, Ok, Err, length, if◌then◌else◌}
use Rattle.std.specs.Int.{w8, w16, w32, w64}
use Rattle.wire_base.specs.Readers.{Reader, ◌>>=◌, number, block, string, listed, both, converted, nothing, no_more}
use Rattle.nine.specs.declared.qid.Qid.{Qid}
use Rattle.nine.specs.declared.message.TMsg.{TMsg}
use Rattle.nine.specs.declared.message.TBody.{TBody}
use Rattle.nine.specs.declared.message.TBody.TheVariants as t
use Rattle.nine.specs.declared.message.RMsg.{RMsg}
use Rattle.nine.specs.declared.message.RBody.{RBody}
use Rattle.nine.specs.declared.message.RBody.TheVariants as r

-- the type byte stands at 4; one that no message of this direction has is the fault
abbrev pub no_message : {B : Type 0} → Reader B
no_message bytes at = Err 4

-- ---- requests

unfoldable pub version_at : Reader TBody
version_at = converted (λ p. t.Version p.0 p.1) (both (number w32) string)

unfoldable pub auth_at : Reader TBody
auth_at = converted (λ p. t.Auth p.0.0 p.0.1 p.1) (both (both (number w32) string) string)

unfoldable pub attach_at : Reader TBody
attach_at = converted (λ p. t.Attach p.0.0.0 p.0.0.1 p.0.1 p.1)
    (both (both (both (number w32) (number w32)) string) string)

unfoldable pub flush_at : Reader TBody
flush_at = converted (λ p. t.Flush p) (number w16)

unfoldable pub walk_at : Reader TBody
walk_at = converted (λ p. t.Walk p.0.0 p.0.1 p.1) (both (both (number w32) (number w32)) (listed w16 16 string))

unfoldable pub open_at : Reader TBody
open_at = converted (λ p. t.Open p.0 p.1) (both (number w32) (number w8))

unfoldable pub create_at : Reader TBody
create_at = converted (λ p. t.Create p.0.0.0 p.0.0.1 p.0.1 p.1)
    (both (both (both (number w32) string) (number w32)) (number w8))

unfoldable pub read_at : Reader TBody
read_at = converted (λ p. t.Read p.0.0 p.0.1 p.1) (both (both (number w32) (number w64)) (number w32))

unfoldable pub write_at : Reader TBody
write_at = converted (λ p. t.Write p.0.0 p.0.1 p.1) (both (both (number w32) (number w64)) (block w32))

unfoldable pub clunk_at : Reader TBody
clunk_at = converted (λ p. t.Clunk p) (number w32)

unfoldable pub remove_at : Reader TBody
remove_at = converted (λ p. t.Remove p) (number w32)

unfoldable pub stat_at : Reader TBody
stat_at = converted (λ p. t.Stat p) (number w32)

unfoldable pub wstat_at : Reader TBody
wstat_at = converted (λ p. t.Wstat p.0 p.1) (both (number w32) (block w16))

-- the fields of a request of this type
unfoldable pub t_body_at : ℕ → Reader TBody
t_body_at kind =
    if kind == 100 then version_at else if kind == 102 then auth_at else if kind == 104 then attach_at
    else if kind == 108 then flush_at else if kind == 110 then walk_at else if kind == 112 then open_at
    else if kind == 114 then create_at else if kind == 116 then read_at else if kind == 118 then write_at
    else if kind == 120 then clunk_at else if kind == 122 then remove_at else if kind == 124 then stat_at
    else if kind == 126 then wstat_at else no_message

-- the request that a whole frame of at least 7 bytes is, or the place of its first fault
unfoldable pub t_reading : List ℕ → Result TMsg ℕ
t_reading bytes = do
  kind ← number w8 bytes 4
  tag ← number w16 bytes 5
  body ← t_body_at kind.0 bytes 7
  no_more (record { tag = tag.0; body = body.0 }) bytes body.1

-- the request that a frame is, where it is one
unfoldable pub request_of : List ℕ → Option TMsg
request_of bytes = elim (t_reading bytes) [ Ok m ↦ Some m | Err at ↦ None ]

-- ---- replies

-- a field of several parts, whose fault is told at its first byte
abbrev pub as_one : {A : Type 0} → Reader A → Reader A
as_one read bytes at = elim (read bytes at) [ Ok x ↦ Ok x | Err fault ↦ Err at ]

abbrev pub qid_parts_at : Reader Qid
qid_parts_at = converted (λ p. record { kind = p.0.0; vers = p.0.1; path = p.1 })
    (both (both (number w8) (number w32)) (number w64))

unfoldable pub qid_at : Reader Qid
qid_at = as_one qid_parts_at

unfoldable pub version_reply_at : Reader RBody
version_reply_at = converted (λ p. r.Version p.0 p.1) (both (number w32) string)

unfoldable pub auth_reply_at : Reader RBody
auth_reply_at = converted (λ p. r.Auth p) qid_at

unfoldable pub attach_reply_at : Reader RBody
attach_reply_at = converted (λ p. r.Attach p) qid_at

unfoldable pub error_reply_at : Reader RBody
error_reply_at = converted (λ p. r.Error p) string

unfoldable pub walk_reply_at : Reader RBody
walk_reply_at = converted (λ p. r.Walk p) (listed w16 16 qid_at)

unfoldable pub open_reply_at : Reader RBody
open_reply_at = converted (λ p. r.Open p.0 p.1) (both qid_at (number w32))

unfoldable pub create_reply_at : Reader RBody
create_reply_at = converted (λ p. r.Create p.0 p.1) (both qid_at (number w32))

unfoldable pub read_reply_at : Reader RBody
read_reply_at = converted (λ p. r.Read p) (block w32)

unfoldable pub write_reply_at : Reader RBody
write_reply_at = converted (λ p. r.Write p) (number w32)

unfoldable pub stat_reply_at : Reader RBody
stat_reply_at = converted (λ p. r.Stat p) (block w16)

-- a reply without fields
unfoldable pub bare_reply_at : RBody → Reader RBody
bare_reply_at body = converted (λ p. body) nothing

-- the fields of a reply of this type
unfoldable pub r_body_at : ℕ → Reader RBody
r_body_at kind =
    if kind == 101 then version_reply_at else if kind == 103 then auth_reply_at else if kind == 105 then attach_reply_at
    else if kind == 107 then error_reply_at else if kind == 109 then bare_reply_at r.Flush else if kind == 111
    then walk_reply_at
    else if kind == 113 then open_reply_at else if kind == 115 then create_reply_at else if kind == 117
    then read_reply_at
    else if kind == 119 then write_reply_at else if kind == 121 then bare_reply_at r.Clunk else if kind == 123
    then bare_reply_at r.Remove
    else if kind == 125 then stat_reply_at else if kind == 127 then bare_reply_at r.Wstat else no_message

-- the reply that a whole frame of at least 7 bytes is, or the place of its first fault
unfoldable pub r_reading : List ℕ → Result RMsg ℕ
r_reading bytes = do
  kind ← number w8 bytes 4
  tag ← number w16 bytes 5
  body ← r_body_at kind.0 bytes 7
  no_more (record { tag = tag.0; body = body.0 }) bytes body.1

-- ---- frames

-- at least 7 bytes, and the size field is their number
pub record IsFrame (bytes : List ℕ) : Type 0 where
  pub header : 7 ≤ length bytes
  pub size : number w32 bytes 0 ≡ Ok (length bytes, 4)
