-- The line of a message: its type, its tag, and each field by its name, in the order of the wire; with secrets, or
-- without.
use Rattle.std.specs.Prelude.{ℕ, List, [], ◌∷◌, ◌++◌, length, Bool, codes, ◌==◌, bit_and, unwrap_or, Result, Ok, Err, if◌then◌else◌}
use Rattle.std.specs.List.{flat_map}
use Rattle.std.specs.Int.{w8, w16}
use Rattle.wire_base.specs.Readers.{number, value_of}
use Rattle.nine.specs.declared.qid.Qid.{Qid}
use Rattle.nine.specs.declared.message.TMsg.{TMsg}
use Rattle.nine.specs.declared.message.TBody.{TBody}
use Rattle.nine.specs.declared.message.TBody.TheVariants as t
use Rattle.nine.specs.declared.message.RMsg.{RMsg}
use Rattle.nine.specs.declared.message.RBody.{RBody}
use Rattle.nine.specs.declared.message.RBody.TheVariants as r
use Rattle.nine.specs.Decoding.{t_reading, r_reading}
use Rattle.nine_print.specs.Values.{number_text, fid_text, tag_text, perm_text, string_text, qid_shown, content_text}

-- names and qids, each behind a blank, behind their number
unfoldable pub names_text : List (List ℕ) → List ℕ
names_text names = number_text (codes " nwname ") (length names) ++ flat_map (string_text (codes " ")) names

unfoldable pub qids_text : List Qid → List ℕ
qids_text qids = number_text (codes " nwqid ") (length qids) ++ flat_map (qid_shown (codes " ")) qids

-- ---- requests

abbrev pub t_word : TBody → List ℕ
t_word (t.Version msize version) = codes "Tversion"
t_word (t.Auth afid uname aname) = codes "Tauth"
t_word (t.Attach fid afid uname aname) = codes "Tattach"
t_word (t.Flush oldtag) = codes "Tflush"
t_word (t.Walk fid newfid wname) = codes "Twalk"
t_word (t.Open fid mode) = codes "Topen"
t_word (t.Create fid name perm mode) = codes "Tcreate"
t_word (t.Read fid offset count) = codes "Tread"
t_word (t.Write fid offset content) = codes "Twrite"
t_word (t.Clunk fid) = codes "Tclunk"
t_word (t.Remove fid) = codes "Tremove"
t_word (t.Stat fid) = codes "Tstat"
t_word (t.Wstat fid stat) = codes "Twstat"

abbrev pub t_shown : Bool → TBody → List ℕ
t_shown secrets (t.Version msize version) =
    number_text (codes " msize ") msize ++ string_text (codes " version ") version
t_shown secrets (t.Auth afid uname aname) =
    fid_text (codes " afid ") afid ++ string_text (codes " uname ") uname ++ string_text (codes " aname ") aname
t_shown secrets (t.Attach fid afid uname aname) = fid_text (codes " fid ") fid ++ fid_text (codes " afid ") afid
    ++ string_text (codes " uname ") uname ++ string_text (codes " aname ") aname
t_shown secrets (t.Flush oldtag) = number_text (codes " oldtag ") oldtag
t_shown secrets (t.Walk fid newfid wname) =
    fid_text (codes " fid ") fid ++ fid_text (codes " newfid ") newfid ++ names_text wname
t_shown secrets (t.Open fid mode) = fid_text (codes " fid ") fid ++ number_text (codes " mode ") mode
t_shown secrets (t.Create fid name perm mode) = fid_text (codes " fid ") fid ++ string_text (codes " name ") name
    ++ perm_text (codes " perm ") perm ++ number_text (codes " mode ") mode
t_shown secrets (t.Read fid offset count) =
    fid_text (codes " fid ") fid ++ number_text (codes " offset ") offset ++ number_text (codes " count ") count
t_shown secrets (t.Write fid offset content) = fid_text (codes " fid ") fid ++ number_text (codes " offset ") offset
    ++ content_text secrets (codes " count ") content
t_shown secrets (t.Clunk fid) = fid_text (codes " fid ") fid
t_shown secrets (t.Remove fid) = fid_text (codes " fid ") fid
t_shown secrets (t.Stat fid) = fid_text (codes " fid ") fid
t_shown secrets (t.Wstat fid stat) = fid_text (codes " fid ") fid ++ content_text secrets (codes " stat ") stat

unfoldable pub t_line : Bool → TMsg → List ℕ
t_line secrets m = t_word m.body ++ tag_text m.tag ++ t_shown secrets m.body ++ 10 ∷ []

-- ---- replies

abbrev pub r_word : RBody → List ℕ
r_word (r.Version msize version) = codes "Rversion"
r_word (r.Auth aqid) = codes "Rauth"
r_word (r.Attach qid) = codes "Rattach"
r_word (r.Error ename) = codes "Rerror"
r_word r.Flush = codes "Rflush"
r_word (r.Walk wqid) = codes "Rwalk"
r_word (r.Open qid iounit) = codes "Ropen"
r_word (r.Create qid iounit) = codes "Rcreate"
r_word (r.Read content) = codes "Rread"
r_word (r.Write count) = codes "Rwrite"
r_word r.Clunk = codes "Rclunk"
r_word r.Remove = codes "Rremove"
r_word (r.Stat stat) = codes "Rstat"
r_word r.Wstat = codes "Rwstat"

abbrev pub r_shown : Bool → RBody → List ℕ
r_shown secrets (r.Version msize version) =
    number_text (codes " msize ") msize ++ string_text (codes " version ") version
r_shown secrets (r.Auth aqid) = qid_shown (codes " aqid ") aqid
r_shown secrets (r.Attach qid) = qid_shown (codes " qid ") qid
r_shown secrets (r.Error ename) = string_text (codes " ename ") ename
r_shown secrets r.Flush = []
r_shown secrets (r.Walk wqid) = qids_text wqid
r_shown secrets (r.Open qid iounit) = qid_shown (codes " qid ") qid ++ number_text (codes " iounit ") iounit
r_shown secrets (r.Create qid iounit) = qid_shown (codes " qid ") qid ++ number_text (codes " iounit ") iounit
r_shown secrets (r.Read content) = content_text secrets (codes " count ") content
r_shown secrets (r.Write count) = number_text (codes " count ") count
r_shown secrets r.Clunk = []
r_shown secrets r.Remove = []
r_shown secrets (r.Stat stat) = content_text secrets (codes " stat ") stat
r_shown secrets r.Wstat = []

unfoldable pub r_line : Bool → RMsg → List ℕ
r_line secrets m = r_word m.body ++ tag_text m.tag ++ r_shown secrets m.body ++ 10 ∷ []

-- ---- frames

-- the type byte of a frame, and its tag
abbrev pub type_of : List ℕ → ℕ
type_of frame = unwrap_or (value_of (number w8 frame 4)) 0

abbrev pub tag_of : List ℕ → ℕ
tag_of frame = unwrap_or (value_of (number w16 frame 5)) 0

-- a frame of this type and tag that is no message of its direction: where the fault is in it, and where it begins
unfoldable pub bad_text : ℕ → ℕ → ℕ → ℕ → List ℕ
bad_text at kind tag fault =
    number_text (codes "bad message: type ") kind ++ tag_text tag ++ number_text (codes " fault at ") fault
    ++ number_text (codes " of the frame at ") at ++ 10 ∷ []

abbrev pub bad_line : ℕ → List ℕ → ℕ → List ℕ
bad_line at frame fault = bad_text at (type_of frame) (tag_of frame) fault

abbrev pub t_line_of : Bool → ℕ → List ℕ → Result TMsg ℕ → List ℕ
t_line_of secrets at frame (Ok m) = t_line secrets m
t_line_of secrets at frame (Err fault) = bad_line at frame fault

abbrev pub r_line_of : Bool → ℕ → List ℕ → Result RMsg ℕ → List ℕ
r_line_of secrets at frame (Ok m) = r_line secrets m
r_line_of secrets at frame (Err fault) = bad_line at frame fault

-- the line of a frame that begins at this place of a stream: an even type byte is a request's, an odd one a reply's
unfoldable pub line_of : Bool → ℕ → List ℕ → List ℕ
line_of secrets at frame =
    if bit_and (type_of frame) 1 == 0 then t_line_of secrets at frame (t_reading frame)
    else r_line_of secrets at frame (r_reading frame)

-- ---- what ends a stream

-- a size that no frame has, and where it stands
unfoldable pub bad_size_line : ℕ → ℕ → List ℕ
bad_size_line at size = number_text (codes "bad size ") size ++ number_text (codes " at ") at ++ 10 ∷ []

-- bytes that begin a frame and are no whole one, at the end
unfoldable pub torn_line : ℕ → ℕ → List ℕ
torn_line at held = number_text (codes "torn frame of ") held ++ number_text (codes " bytes at ") at ++ 10 ∷ []
