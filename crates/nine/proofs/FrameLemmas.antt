-- A frame is its head and its fields, and what spells a request is a whole frame.
use Rattle.std.proofs.Common.{◌≡◌, ℕ, zero, suc, take, length-append, ◌≤◌, List, ◌++◌, length, drop, get_or, sym, ap, ◌∙◌, append_assoc, append-nil, refl, [], ◌∷◌, ◌+◌, ◌*◌, ◌<◌, ◌^◌, arith, inl, inr}
use Rattle.std.specs.Prelude.{All}
use Rattle.std.specs.List.{flat_map, AllByRecursion}
use Rattle.std.specs.Int.{w8, w16, w32, to_le_bytes}
use Rattle.std.proofs.lemmas.Bool.{cases_lt}
use Rattle.std.proofs.lemmas.List.{get_or_past}
use Rattle.std.proofs.lemmas.List.Elements.{All-get_or}
use Rattle.wire_base.specs.Readers.{spelled, IsString}
use Rattle.wire_base.proofs.ReaderLaws.{number_spells, wide32}
use Rattle.nine.proofs.RequestLaws.{t_kind_small}
use Rattle.nine.proofs.ReplyLaws.{r_kind_small}
use Rattle.nine.specs.declared.qid.Qid.{Qid}
use Rattle.nine.specs.declared.message.TMsg.{TMsg}
use Rattle.nine.specs.declared.message.TBody.{TBody}
use Rattle.nine.specs.declared.message.TBody.TheVariants as t
use Rattle.nine.specs.declared.message.RMsg.{RMsg}
use Rattle.nine.specs.declared.message.RBody.{RBody}
use Rattle.nine.specs.declared.message.RBody.TheVariants as r
use Rattle.nine.specs.Messages.{frame, qid_text, t_kind, t_fields, t_fits, t_given, r_kind, r_fields, r_fits, r_given, IsRequest, IsReply}
use Rattle.nine.specs.Decoding.{IsFrame}
use Rattle.nine.specs.Encoded.{head}

pub framed : (old : List ℕ) (n kind tag : ℕ) (fields : List ℕ) → n ≡ length fields → (old ++ head n kind tag) ++ fields ≡ old ++ frame kind tag fields
unfolding frame head
framed old n kind tag fields e = append_assoc old (head n kind tag) fields ∙ ap (λ (n : ℕ). old ++ (head n kind tag ++ fields)) e

pub framed_one : (old a b : List ℕ) (n kind tag : ℕ) (x : List ℕ) → a ≡ old ++ head n kind tag → b ≡ a ++ x → n ≡ length x → b ≡ old ++ frame kind tag x
framed_one old a b n kind tag x p q e = q ∙ ap (λ (t : List ℕ). t ++ x) p ∙ framed old n kind tag x e

pub framed_two : (old a b c : List ℕ) (n kind tag : ℕ) (x y : List ℕ) → a ≡ old ++ head n kind tag → b ≡ a ++ x → c ≡ b ++ y → n ≡ length (x ++ y) → c ≡ old ++ frame kind tag (x ++ y)
framed_two old a b c n kind tag x y p q r e =
    r ∙ ap (λ (t : List ℕ). t ++ y) q ∙ append_assoc a x y ∙ ap (λ (t : List ℕ). t ++ (x ++ y)) p ∙ framed old n kind tag (x ++ y) e

pub framed_none : (old a : List ℕ) (kind tag : ℕ) → a ≡ old ++ head 0 kind tag → a ≡ old ++ frame kind tag []
framed_none old a kind tag p = p ∙ sym (append-nil (old ++ head 0 kind tag)) ∙ framed old 0 kind tag [] refl

-- one piece behind a base, and then another
behind : (base b c x y : List ℕ) → b ≡ base ++ x → c ≡ b ++ y → c ≡ base ++ (x ++ y)
behind base b c x y p q = q ∙ ap (λ (t : List ℕ). t ++ y) p ∙ append_assoc base x y

pub framed_three : (old a b c d : List ℕ) (n kind tag : ℕ) (x y z : List ℕ) → a ≡ old ++ head n kind tag → b ≡ a ++ x → c ≡ b ++ y → d ≡ c ++ z → n ≡ length (x ++ y ++ z) → d ≡ old ++ frame kind tag (x ++ y ++ z)
framed_three old a b c d n kind tag x y z p q r s e = framed_one old a d n kind tag (x ++ y ++ z) p (behind a c d (x ++ y) z (behind a b c x y q r) s) e

pub framed_four : (old a b c d f : List ℕ) (n kind tag : ℕ) (x y z w : List ℕ) → a ≡ old ++ head n kind tag → b ≡ a ++ x → c ≡ b ++ y → d ≡ c ++ z → f ≡ d ++ w → n ≡ length (x ++ y ++ z ++ w) → f ≡ old ++ frame kind tag (x ++ y ++ z ++ w)
framed_four old a b c d f n kind tag x y z w p q r s t e =
    framed_one old a f n kind tag (x ++ y ++ z ++ w) p (behind a d f (x ++ y ++ z) w (behind a c d (x ++ y) z (behind a b c x y q r) s) t) e

-- a qid has 13 bytes
pub qids_len : (qids : List Qid) → length (flat_map qid_text qids) ≡ 13 * length qids
qids_len [] = refl
qids_len (q ∷ qids) = omega (arith, qids_len qids)

-- each place of a list of bytes holds one
pub each_byte : (bytes : List ℕ) → All (λ (b : ℕ). b < 256) bytes → (i : ℕ) → get_or bytes i 0 < 256
each_byte bytes small i = elim (cases_lt i (length bytes)) [
  | inl lt ↦ All-get_or (λ (b : ℕ). b < 256) bytes i 0 lt small
  | inr le ↦ rw (get_or_past bytes i 0 le) (omega arith)
]

-- what is spelled as a frame is a whole one
frame_whole : (bytes : List ℕ) (kind tag : ℕ) (fields : List ℕ) → bytes ≡ frame kind tag fields → length bytes < 2 ^ 32 → IsFrame bytes
unfolding frame
frame_whole bytes kind tag fields spelling small =
    let rest = to_le_bytes w8 kind ++ to_le_bytes w16 tag ++ fields in
    let len : length bytes ≡ 7 + length fields = omega (arith, ap length spelling) in
    let here : drop 0 bytes ≡ to_le_bytes w32 (length bytes) ++ rest = spelling ∙ ap (λ (n : ℕ). to_le_bytes w32 n ++ rest) (sym len) in
    record { header = omega (arith, len); size = (number_spells w32 (2 ^ 32) wide32).again bytes rest 0 (length bytes) small here }

pub request_whole : (bytes : List ℕ) (m : TMsg) → IsRequest bytes m → length bytes < 2 ^ 32 → IsFrame bytes
request_whole bytes m is small = frame_whole bytes (t_kind m.body) m.tag (t_fields m.body) is.spelling small

pub reply_whole : (bytes : List ℕ) (m : RMsg) → IsReply bytes m → length bytes < 2 ^ 32 → IsFrame bytes
reply_whole bytes m is small = frame_whole bytes (r_kind m.body) m.tag (r_fields m.body) is.spelling small

-- ---- the directions

-- the type byte of a request is even, that of a reply odd
even_kind : (b : TBody) → (n : ℕ) × (t_kind b ≡ 2 * n)
even_kind (t.Version msize version) = (50, refl)
even_kind (t.Auth afid uname aname) = (51, refl)
even_kind (t.Attach fid afid uname aname) = (52, refl)
even_kind (t.Flush oldtag) = (54, refl)
even_kind (t.Walk fid newfid wname) = (55, refl)
even_kind (t.Open fid mode) = (56, refl)
even_kind (t.Create fid name perm mode) = (57, refl)
even_kind (t.Read fid offset count) = (58, refl)
even_kind (t.Write fid offset content) = (59, refl)
even_kind (t.Clunk fid) = (60, refl)
even_kind (t.Remove fid) = (61, refl)
even_kind (t.Stat fid) = (62, refl)
even_kind (t.Wstat fid stat) = (63, refl)

odd_kind : (b : RBody) → (n : ℕ) × (r_kind b ≡ 2 * n + 1)
odd_kind (r.Version msize version) = (50, refl)
odd_kind (r.Auth aqid) = (51, refl)
odd_kind (r.Attach qid) = (52, refl)
odd_kind (r.Error ename) = (53, refl)
odd_kind r.Flush = (54, refl)
odd_kind (r.Walk wqid) = (55, refl)
odd_kind (r.Open qid iounit) = (56, refl)
odd_kind (r.Create qid iounit) = (57, refl)
odd_kind (r.Read content) = (58, refl)
odd_kind (r.Write count) = (59, refl)
odd_kind r.Clunk = (60, refl)
odd_kind r.Remove = (61, refl)
odd_kind (r.Stat stat) = (62, refl)
odd_kind r.Wstat = (63, refl)

-- the type byte of a frame
kind_there : (kind tag : ℕ) (fields : List ℕ) → kind < 2 ^ 8 → get_or (frame kind tag fields) 4 0 ≡ kind
unfolding frame
kind_there kind tag fields small = omega (arith, small)

-- it tells the direction
pub one_direction : (bytes : List ℕ) (m : TMsg) (n : RMsg) → IsRequest bytes m → IsReply bytes n → ⊥
one_direction bytes m n p q =
    let as-request = ap (λ (bs : List ℕ). get_or bs 4 0) p.spelling ∙ kind_there (t_kind m.body) m.tag (t_fields m.body) (t_kind_small m.body) in
    let as-reply = ap (λ (bs : List ℕ). get_or bs 4 0) q.spelling ∙ kind_there (r_kind n.body) n.tag (r_fields n.body) (r_kind_small n.body) in
    let even = even_kind m.body in
    let odd = odd_kind n.body in
    omega (arith, as-request, as-reply, even.1, odd.1)

-- ---- names

-- the names before one of a list, and that one, are no longer than all
pub part_len : {A : Type 0} (text : A → List ℕ) (xs : List A) (i : ℕ) (d : A) → i < length xs → length (flat_map text (take i xs)) + length (text (get_or xs i d)) ≤ length (flat_map text xs)
part_len text [] i d lt = absurd (omega arith)
part_len text (x ∷ xs) zero d lt = omega (arith, length-append (text x) (flat_map text xs))
part_len text (x ∷ xs) (suc i) d lt = omega (arith, length-append (text x) (flat_map text xs), length-append (text x) (flat_map text (take i xs)), part_len text xs i d (omega arith))

-- names that fit are short
pub names_small : (names : List (List ℕ)) → AllByRecursion IsString names → length (flat_map spelled names) ≤ 65537 * length names
names_small [] each = omega arith
names_small (name ∷ names) each = omega (arith, length-append (spelled name) (flat_map spelled names), each.0.short, names_small names each.1)

-- ---- what was read of a frame can be written

t_given_of : (b : TBody) → t_fits b → 7 + length (t_fields b) < 2 ^ 32 → t_given b
t_given_of (t.Version msize version) fits small = fits.1
t_given_of (t.Auth afid uname aname) fits small = (fits.0.1, fits.1)
t_given_of (t.Attach fid afid uname aname) fits small = (fits.0.1, fits.1)
t_given_of (t.Flush oldtag) fits small = tt
t_given_of (t.Walk fid newfid wname) fits small = fits.1
t_given_of (t.Open fid mode) fits small = tt
t_given_of (t.Create fid name perm mode) fits small = fits.0.0.1
t_given_of (t.Read fid offset count) fits small = tt
t_given_of (t.Write fid offset content) fits small = omega (arith, small)
t_given_of (t.Clunk fid) fits small = tt
t_given_of (t.Remove fid) fits small = tt
t_given_of (t.Stat fid) fits small = tt
t_given_of (t.Wstat fid stat) fits small = fits.1

pub request_given : (bytes : List ℕ) (m : TMsg) → IsRequest bytes m → length bytes < 2 ^ 32 → t_given m.body
unfolding frame
request_given bytes m is small = t_given_of m.body is.fields (omega (arith, ap length is.spelling, small))

r_given_of : (b : RBody) → r_fits b → 7 + length (r_fields b) < 2 ^ 32 → r_given b
r_given_of (r.Version msize version) fits small = fits.1
r_given_of (r.Auth aqid) fits small = tt
r_given_of (r.Attach qid) fits small = tt
r_given_of (r.Error ename) fits small = fits
r_given_of r.Flush fits small = tt
r_given_of (r.Walk wqid) fits small = fits.few
r_given_of (r.Open qid iounit) fits small = tt
r_given_of (r.Create qid iounit) fits small = tt
r_given_of (r.Read content) fits small = omega (arith, small)
r_given_of (r.Write count) fits small = tt
r_given_of r.Clunk fits small = tt
r_given_of r.Remove fits small = tt
r_given_of (r.Stat stat) fits small = fits
r_given_of r.Wstat fits small = tt

pub reply_given : (bytes : List ℕ) (m : RMsg) → IsReply bytes m → length bytes < 2 ^ 32 → r_given m.body
unfolding frame
reply_given bytes m is small = r_given_of m.body is.fields (omega (arith, ap length is.spelling, small))
