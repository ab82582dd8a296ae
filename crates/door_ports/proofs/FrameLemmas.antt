-- Frames of requests are whole, and frames of replies tell their kind and their text.
use Rattle.std.proofs.lemmas.Bool.{le-ltb}
use Rattle.std.proofs.Common.{◌≡◌, ℕ, ◌+◌, ◌%◌, ◌/◌, ◌<◌, ◌≤◌, ◌^◌, List, ◌++◌, length, drop, Option, Some, None, Bool, true, false, cond, ◌||◌, ◌==◌, nat_lt, slice_index, refl, sym, ap, ◌∙◌, arith}
use Rattle.std.specs.Int.{w8, w16, w32, to_le_bytes}
use Rattle.nine.specs.declared.message.TMsg.{TMsg}
use Rattle.nine.specs.declared.message.TBody.{TBody}
use Rattle.nine.specs.Messages.{frame, t_frame, t_kind, t_fields, r_frame}
use Rattle.nine.specs.Decoding.{IsFrame}
use Rattle.wire_base.proofs.ReaderLaws.{number_spells, wide32}
use Rattle.nine.specs.declared.message.RMsg.{RMsg}
use Rattle.nine.specs.declared.message.RBody.TheVariants as r
use Rattle.nine.specs.declared.message.RBody.{RBody}
use Rattle.door_ports.specs.Exchanges.{under}
use Rattle.door_ports.specs.Replies.{text_at, told_at, told_in}
use Rattle.door_ports.specs.Exchanges.{told_by}

-- what is spelled as a request is a whole frame
pub request_whole : (m : TMsg) → length (t_frame m) < 2 ^ 32 → IsFrame (t_frame m)
unfolding frame
request_whole m small =
    let fields = t_fields m.body in
    let rest = to_le_bytes w8 (t_kind m.body) ++ to_le_bytes w16 m.tag ++ fields in
    let len : length (t_frame m) ≡ 7 + length fields = omega arith in
    let here : drop 0 (t_frame m) ≡ to_le_bytes w32 (length (t_frame m)) ++ rest = ap (λ (n : ℕ). to_le_bytes w32 n ++ rest) (sym len) in
    record { header = omega (arith, len); size = (number_spells w32 (2 ^ 32) wide32).again (t_frame m) rest 0 (length (t_frame m)) small here }

-- a tag has the two low bytes of a number
low_bytes : (n : ℕ) → to_le_bytes w16 (n % 65536) ≡ to_le_bytes w16 n
low_bytes n =
    let low : n % 65536 % 256 ≡ n % 256 = omega arith in
    let high : n % 65536 / 256 % 256 ≡ n / 256 % 256 = omega arith in
    rw (low, high) refl

pub low_tag : (tag : ℕ) (body : TBody) → under (tag % 65536) body ≡ under tag body
unfolding frame
low_tag tag body = ap (λ (bytes : List ℕ). to_le_bytes w32 (7 + length (t_fields body)) ++ to_le_bytes w8 (t_kind body) ++ bytes ++ t_fields body) (low_bytes tag)

-- ---- replies

abbrev error_of : RBody → Option (List ℕ)
error_of (r.Error text) = Some text
error_of body = None

abbrev content_of : RBody → Option (List ℕ)
content_of (r.Read content) = Some content
content_of body = None

never : (short : Bool) (text : List ℕ) → cond (short || true) None (Some text) ≡ None
never true text = refl
never false text = refl

always : (size least : ℕ) (text : List ℕ) → least ≤ size → cond (nat_lt size least || false) None (Some text) ≡ Some text
always size least text enough = rw (le-ltb size least enough) refl

other : (kind skip : ℕ) (m : RMsg) → (slice_index (r_frame m) 4 == kind) ≡ false → text_at kind skip (r_frame m) ≡ None
unfolding text_at
other kind skip m e = rw e (never (nat_lt (length (r_frame m)) skip) (drop skip (r_frame m)))

same : (kind skip : ℕ) (m : RMsg) (text : List ℕ) → (slice_index (r_frame m) 4 == kind) ≡ true → skip ≤ length (r_frame m) → drop skip (r_frame m) ≡ text → text_at kind skip (r_frame m) ≡ Some text
unfolding text_at
same kind skip m text e enough is = rw e (always (length (r_frame m)) skip (drop skip (r_frame m)) enough ∙ ap (λ (t : List ℕ). Some t) is)

error_body : (tag : ℕ) (body : RBody) → text_at 107 9 (r_frame (record { tag = tag; body = body })) ≡ error_of body
unfolding frame
error_body tag (r.Version msize version) = other 107 9 (record { tag = tag; body = r.Version msize version }) refl
error_body tag (r.Auth aqid) = other 107 9 (record { tag = tag; body = r.Auth aqid }) refl
error_body tag (r.Attach qid) = other 107 9 (record { tag = tag; body = r.Attach qid }) refl
error_body tag (r.Error ename) = same 107 9 (record { tag = tag; body = r.Error ename }) ename refl (omega arith) refl
error_body tag r.Flush = other 107 9 (record { tag = tag; body = r.Flush }) refl
error_body tag (r.Walk wqid) = other 107 9 (record { tag = tag; body = r.Walk wqid }) refl
error_body tag (r.Open qid iounit) = other 107 9 (record { tag = tag; body = r.Open qid iounit }) refl
error_body tag (r.Create qid iounit) = other 107 9 (record { tag = tag; body = r.Create qid iounit }) refl
error_body tag (r.Read content) = other 107 9 (record { tag = tag; body = r.Read content }) refl
error_body tag (r.Write count) = other 107 9 (record { tag = tag; body = r.Write count }) refl
error_body tag r.Clunk = other 107 9 (record { tag = tag; body = r.Clunk }) refl
error_body tag r.Remove = other 107 9 (record { tag = tag; body = r.Remove }) refl
error_body tag (r.Stat stat) = other 107 9 (record { tag = tag; body = r.Stat stat }) refl
error_body tag r.Wstat = other 107 9 (record { tag = tag; body = r.Wstat }) refl

content_body : (tag : ℕ) (body : RBody) → text_at 117 11 (r_frame (record { tag = tag; body = body })) ≡ content_of body
unfolding frame
content_body tag (r.Version msize version) = other 117 11 (record { tag = tag; body = r.Version msize version }) refl
content_body tag (r.Auth aqid) = other 117 11 (record { tag = tag; body = r.Auth aqid }) refl
content_body tag (r.Attach qid) = other 117 11 (record { tag = tag; body = r.Attach qid }) refl
content_body tag (r.Error ename) = other 117 11 (record { tag = tag; body = r.Error ename }) refl
content_body tag r.Flush = other 117 11 (record { tag = tag; body = r.Flush }) refl
content_body tag (r.Walk wqid) = other 117 11 (record { tag = tag; body = r.Walk wqid }) refl
content_body tag (r.Open qid iounit) = other 117 11 (record { tag = tag; body = r.Open qid iounit }) refl
content_body tag (r.Create qid iounit) = other 117 11 (record { tag = tag; body = r.Create qid iounit }) refl
content_body tag (r.Read content) = same 117 11 (record { tag = tag; body = r.Read content }) content refl (omega arith) refl
content_body tag (r.Write count) = other 117 11 (record { tag = tag; body = r.Write count }) refl
content_body tag r.Clunk = other 117 11 (record { tag = tag; body = r.Clunk }) refl
content_body tag r.Remove = other 117 11 (record { tag = tag; body = r.Remove }) refl
content_body tag (r.Stat stat) = other 117 11 (record { tag = tag; body = r.Stat stat }) refl
content_body tag r.Wstat = other 117 11 (record { tag = tag; body = r.Wstat }) refl

error_told : (m : RMsg) (frame : List ℕ) → frame ≡ r_frame m → text_at 107 9 frame ≡ error_of m.body
error_told m frame is = ap (text_at 107 9) is ∙ error_body m.tag m.body

content_told : (m : RMsg) (frame : List ℕ) → frame ≡ r_frame m → text_at 117 11 frame ≡ content_of m.body
content_told m frame is = ap (text_at 117 11) is ∙ content_body m.tag m.body

told_so : (body : RBody) → told_at (error_of body) (content_of body) ≡ told_by body
told_so (r.Version msize version) = refl
told_so (r.Auth aqid) = refl
told_so (r.Attach qid) = refl
told_so (r.Error ename) = refl
told_so r.Flush = refl
told_so (r.Walk wqid) = refl
told_so (r.Open qid iounit) = refl
told_so (r.Create qid iounit) = refl
told_so (r.Read content) = refl
told_so (r.Write count) = refl
told_so r.Clunk = refl
told_so r.Remove = refl
told_so (r.Stat stat) = refl
told_so r.Wstat = refl

pub told_frame : (m : RMsg) (frame : List ℕ) → frame ≡ r_frame m → told_in frame ≡ told_by m.body
told_frame m frame is = ap (λ (o : Option (List ℕ)). told_at o (text_at 117 11 frame)) (error_told m frame is) ∙ ap (told_at (error_of m.body)) (content_told m frame is) ∙ told_so m.body
