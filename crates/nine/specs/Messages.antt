-- The bytes of the messages of 9P2000, after section 5 of the Plan 9 manual (intro(5), version(5), attach(5),
-- flush(5), walk(5), open(5), read(5), clunk(5), remove(5), stat(5), error(5)). Each message has one spelling: size,
-- type, tag, and its fields in order. Numbers are little-endian.
use Rattle.std.specs.Prelude.{◌≡◌, ℕ, ◌+◌, ◌-◌, ◌<◌, ◌≤◌, ◌^◌, List, [], ◌++◌, length}
use Rattle.std.specs.Int.{w8, w16, w32, w64, to_le_bytes}
use Rattle.wire_base.specs.Readers.{counted, spelled, listing, FitsList, IsString}
use Rattle.nine.specs.declared.qid.Qid.{Qid}
use Rattle.nine.specs.declared.message.TMsg.{TMsg}
use Rattle.nine.specs.declared.message.TBody.{TBody}
use Rattle.nine.specs.declared.message.TBody.TheVariants as t
use Rattle.nine.specs.declared.message.RMsg.{RMsg}
use Rattle.nine.specs.declared.message.RBody.{RBody}
use Rattle.nine.specs.declared.message.RBody.TheVariants as r

-- size[4] type[1] tag[2] and the fields; the size counts itself
unfoldable pub frame : ℕ → ℕ → List ℕ → List ℕ
frame kind tag fields = to_le_bytes w32 (7 + length fields) ++ to_le_bytes w8 kind ++ to_le_bytes w16 tag ++ fields

-- a qid is type[1] vers[4] path[8]
abbrev pub qid_text : Qid → List ℕ
qid_text q = to_le_bytes w8 q.kind ++ to_le_bytes w32 q.vers ++ to_le_bytes w64 q.path

-- a qid whose numbers are in the range of their fields
abbrev pub IsQid : Qid → Type 0
IsQid q = ((q.kind < 2 ^ 8) × (q.vers < 2 ^ 32)) × (q.path < 2 ^ 64)

-- ---- requests

-- the type byte
abbrev pub t_kind : TBody → ℕ
t_kind (t.Version msize version) = 100
t_kind (t.Auth afid uname aname) = 102
t_kind (t.Attach fid afid uname aname) = 104
t_kind (t.Flush oldtag) = 108
t_kind (t.Walk fid newfid wname) = 110
t_kind (t.Open fid mode) = 112
t_kind (t.Create fid name perm mode) = 114
t_kind (t.Read fid offset count) = 116
t_kind (t.Write fid offset content) = 118
t_kind (t.Clunk fid) = 120
t_kind (t.Remove fid) = 122
t_kind (t.Stat fid) = 124
t_kind (t.Wstat fid stat) = 126

-- the fields, in order
abbrev pub t_fields : TBody → List ℕ
t_fields (t.Version msize version) = to_le_bytes w32 msize ++ spelled version
t_fields (t.Auth afid uname aname) = to_le_bytes w32 afid ++ spelled uname ++ spelled aname
t_fields (t.Attach fid afid uname aname) = to_le_bytes w32 fid ++ to_le_bytes w32 afid ++ spelled uname ++ spelled aname
t_fields (t.Flush oldtag) = to_le_bytes w16 oldtag
t_fields (t.Walk fid newfid wname) = to_le_bytes w32 fid ++ to_le_bytes w32 newfid ++ listing w16 spelled wname
t_fields (t.Open fid mode) = to_le_bytes w32 fid ++ to_le_bytes w8 mode
t_fields (t.Create fid name perm mode) =
    to_le_bytes w32 fid ++ spelled name ++ to_le_bytes w32 perm ++ to_le_bytes w8 mode
t_fields (t.Read fid offset count) = to_le_bytes w32 fid ++ to_le_bytes w64 offset ++ to_le_bytes w32 count
t_fields (t.Write fid offset content) = to_le_bytes w32 fid ++ to_le_bytes w64 offset ++ counted w32 content
t_fields (t.Clunk fid) = to_le_bytes w32 fid
t_fields (t.Remove fid) = to_le_bytes w32 fid
t_fields (t.Stat fid) = to_le_bytes w32 fid
t_fields (t.Wstat fid stat) = to_le_bytes w32 fid ++ counted w16 stat

-- what has a spelling: numbers in the range of their field, strings of 9P, at most 16 names
abbrev pub t_fits : TBody → Type 0
t_fits (t.Version msize version) = (msize < 2 ^ 32) × IsString version
t_fits (t.Auth afid uname aname) = ((afid < 2 ^ 32) × IsString uname) × IsString aname
t_fits (t.Attach fid afid uname aname) = (((fid < 2 ^ 32) × (afid < 2 ^ 32)) × IsString uname) × IsString aname
t_fits (t.Flush oldtag) = oldtag < 2 ^ 16
t_fits (t.Walk fid newfid wname) = ((fid < 2 ^ 32) × (newfid < 2 ^ 32)) × FitsList 16 IsString wname
t_fits (t.Open fid mode) = (fid < 2 ^ 32) × (mode < 2 ^ 8)
t_fits (t.Create fid name perm mode) = (((fid < 2 ^ 32) × IsString name) × (perm < 2 ^ 32)) × (mode < 2 ^ 8)
t_fits (t.Read fid offset count) = ((fid < 2 ^ 32) × (offset < 2 ^ 64)) × (count < 2 ^ 32)
t_fits (t.Write fid offset content) = ((fid < 2 ^ 32) × (offset < 2 ^ 64)) × (length content < 2 ^ 32)
t_fits (t.Clunk fid) = fid < 2 ^ 32
t_fits (t.Remove fid) = fid < 2 ^ 32
t_fits (t.Stat fid) = fid < 2 ^ 32
t_fits (t.Wstat fid stat) = (fid < 2 ^ 32) × (length stat < 2 ^ 16)

-- what an encoder is given, beside numbers that are in range by their types: strings of 9P, at most 16 names, a stat of
-- at most 65,535 bytes, a frame shorter than 2^32 bytes
abbrev pub t_given : TBody → Type 0
t_given (t.Version msize version) = IsString version
t_given (t.Auth afid uname aname) = IsString uname × IsString aname
t_given (t.Attach fid afid uname aname) = IsString uname × IsString aname
t_given (t.Walk fid newfid wname) = FitsList 16 IsString wname
t_given (t.Create fid name perm mode) = IsString name
t_given (t.Write fid offset content) = length content < 2 ^ 32 - 23
t_given (t.Wstat fid stat) = length stat < 2 ^ 16
t_given body = Unit {0}

-- the bytes of a request
abbrev pub t_frame : TMsg → List ℕ
t_frame m = frame (t_kind m.body) m.tag (t_fields m.body)

-- the bytes are this request and nothing behind it
pub record IsRequest (bytes : List ℕ) (m : TMsg) : Type 0 where
  pub spelling : bytes ≡ t_frame m
  pub tag : m.tag < 2 ^ 16
  pub fields : t_fits m.body

-- ---- replies

-- the type byte
abbrev pub r_kind : RBody → ℕ
r_kind (r.Version msize version) = 101
r_kind (r.Auth aqid) = 103
r_kind (r.Attach qid) = 105
r_kind (r.Error ename) = 107
r_kind r.Flush = 109
r_kind (r.Walk wqid) = 111
r_kind (r.Open qid iounit) = 113
r_kind (r.Create qid iounit) = 115
r_kind (r.Read content) = 117
r_kind (r.Write count) = 119
r_kind r.Clunk = 121
r_kind r.Remove = 123
r_kind (r.Stat stat) = 125
r_kind r.Wstat = 127

-- the fields, in order
abbrev pub r_fields : RBody → List ℕ
r_fields (r.Version msize version) = to_le_bytes w32 msize ++ spelled version
r_fields (r.Auth aqid) = qid_text aqid
r_fields (r.Attach qid) = qid_text qid
r_fields (r.Error ename) = spelled ename
r_fields r.Flush = []
r_fields (r.Walk wqid) = listing w16 qid_text wqid
r_fields (r.Open qid iounit) = qid_text qid ++ to_le_bytes w32 iounit
r_fields (r.Create qid iounit) = qid_text qid ++ to_le_bytes w32 iounit
r_fields (r.Read content) = counted w32 content
r_fields (r.Write count) = to_le_bytes w32 count
r_fields r.Clunk = []
r_fields r.Remove = []
r_fields (r.Stat stat) = counted w16 stat
r_fields r.Wstat = []

-- what has a spelling: numbers in the range of their field, strings of 9P, at most 16 qids
abbrev pub r_fits : RBody → Type 0
r_fits (r.Version msize version) = (msize < 2 ^ 32) × IsString version
r_fits (r.Auth aqid) = IsQid aqid
r_fits (r.Attach qid) = IsQid qid
r_fits (r.Error ename) = IsString ename
r_fits r.Flush = Unit {0}
r_fits (r.Walk wqid) = FitsList 16 IsQid wqid
r_fits (r.Open qid iounit) = IsQid qid × (iounit < 2 ^ 32)
r_fits (r.Create qid iounit) = IsQid qid × (iounit < 2 ^ 32)
r_fits (r.Read content) = length content < 2 ^ 32
r_fits (r.Write count) = count < 2 ^ 32
r_fits r.Clunk = Unit {0}
r_fits r.Remove = Unit {0}
r_fits (r.Stat stat) = length stat < 2 ^ 16
r_fits r.Wstat = Unit {0}

-- what an encoder is given, beside numbers that are in range by their types: strings of 9P, at most 16 qids, a stat of
-- at most 65,535 bytes, a frame shorter than 2^32 bytes
abbrev pub r_given : RBody → Type 0
r_given (r.Version msize version) = IsString version
r_given (r.Error ename) = IsString ename
r_given (r.Walk wqid) = length wqid ≤ 16
r_given (r.Read content) = length content < 2 ^ 32 - 11
r_given (r.Stat stat) = length stat < 2 ^ 16
r_given body = Unit {0}

-- the bytes of a reply
abbrev pub r_frame : RMsg → List ℕ
r_frame m = frame (r_kind m.body) m.tag (r_fields m.body)

-- the bytes are this reply and nothing behind it
pub record IsReply (bytes : List ℕ) (m : RMsg) : Type 0 where
  pub spelling : bytes ≡ r_frame m
  pub tag : m.tag < 2 ^ 16
  pub fields : r_fits m.body
