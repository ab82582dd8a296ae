-- What is read as a reply is spelled so, and what is spelled so is read.
use Rattle.std.proofs.Common.{◌≡◌, ℕ, ◌+◌, ◌<◌, ◌≤◌, ◌^◌, List, [], ◌++◌, length, drop, cond, eqb, Ok, refl, sym, ap, subst, ◌∙◌, append-nil, arith}
use Rattle.std.specs.Int.{w8, w16, w32, w64, to_le_bytes}
use Rattle.wire_base.specs.Readers.{Reader, ◌>>=◌, number, block, listed, both, converted, no_more, counted, listing, FitsList}
use Rattle.wire_base.proofs.ReaderLaws.{AreBytes, Taken, Spells, bind_ok, wide16, wide32, block_spells, string_spells, listed_spells, both_spells, converted_spells, nothing_spells, no_more_taken, no_more_again}
use Rattle.nine.specs.declared.qid.Qid.{Qid}
use Rattle.nine.specs.declared.message.RMsg.{RMsg}
use Rattle.nine.specs.declared.message.RBody.{RBody}
use Rattle.nine.specs.declared.message.RBody.TheVariants as r
use Rattle.nine.specs.Messages.{frame, qid_text, IsQid, r_kind, r_fields, r_fits, IsReply}
use Rattle.nine.specs.Decoding.{qid_parts_at, qid_at, version_reply_at, auth_reply_at, attach_reply_at, error_reply_at, walk_reply_at, open_reply_at, create_reply_at, read_reply_at, write_reply_at, stat_reply_at, bare_reply_at, r_body_at, r_reading, IsFrame}
use Rattle.nine.proofs.FieldLaws.{Reads, reads, chosen_reads, no_message_reads, as_one_spells, n8, n16, n32, n64, frame_taken}
use Rattle.nine.proofs.RequestLaws.{version_laws}

-- ---- the fields

abbrev parts_of : Qid → (ℕ × ℕ) × ℕ
parts_of q = ((q.kind, q.vers), q.path)

numbers_laws : Spells (both (both (number w8) (number w32)) (number w64)) (λ (p : (ℕ × ℕ) × ℕ). to_le_bytes w8 p.0.0 ++ to_le_bytes w32 p.0.1 ++ to_le_bytes w64 p.1) (λ (p : (ℕ × ℕ) × ℕ). ((p.0.0 < 2 ^ 8) × (p.0.1 < 2 ^ 32)) × (p.1 < 2 ^ 64))
numbers_laws = both_spells _ _ _ _ _ _ (both_spells _ _ _ _ _ _ n8 n32) n64

qid_parts_laws : Spells qid_parts_at qid_text IsQid
qid_parts_laws = converted_spells (λ p. record { kind = p.0.0; vers = p.0.1; path = p.1 }) parts_of _ _ _ (λ p. refl) (λ q fits. refl) numbers_laws

qid_laws : Spells qid_at qid_text IsQid
unfolding qid_at
qid_laws = as_one_spells qid_parts_at qid_text IsQid qid_parts_laws

qids_laws : Spells (listed w16 16 qid_at) (listing w16 qid_text) (FitsList 16 IsQid)
qids_laws = listed_spells w16 (2 ^ 16) 16 wide16 qid_at qid_text IsQid (omega arith) qid_laws

opened_laws : Spells (both qid_at (number w32)) (λ (p : Qid × ℕ). qid_text p.0 ++ to_le_bytes w32 p.1) (λ (p : Qid × ℕ). IsQid p.0 × (p.1 < 2 ^ 32))
opened_laws = both_spells _ _ _ _ _ _ qid_laws n32

content_laws : Spells (block w32) (counted w32) (λ content. length content < 2 ^ 32)
content_laws = block_spells w32 (2 ^ 32) wide32

stat_laws : Spells (block w16) (counted w16) (λ stat. length stat < 2 ^ 16)
stat_laws = block_spells w16 (2 ^ 16) wide16

-- ---- each kind of reply

abbrev pub RReads : ℕ → Reader RBody → Type 0
RReads = Reads r_kind r_fields r_fits

r_reads : {A : Type 0} (kind : ℕ) (f : A → RBody) (read : Reader A) (text : A → List ℕ) (P : A → Type 0) → Spells read text P → ((x : A) → r_kind (f x) ≡ kind) → ((x : A) → text x ≡ r_fields (f x)) → ((x : A) → P x → r_fits (f x)) → RReads kind (converted f read)
r_reads = reads r_kind r_fields r_fits

r_chosen : (kind k : ℕ) (one other : Reader RBody) → RReads k one → RReads kind other → RReads kind (cond (eqb kind k) one other)
r_chosen = chosen_reads r_kind r_fields r_fits

version_reads : RReads 101 version_reply_at
unfolding version_reply_at
version_reads = r_reads 101 (λ p. r.Version p.0 p.1) _ _ _ version_laws (λ x. refl) (λ x. refl) (λ x q. q)

auth_reads : RReads 103 auth_reply_at
unfolding auth_reply_at
auth_reads = r_reads 103 (λ p. r.Auth p) _ _ _ qid_laws (λ x. refl) (λ x. refl) (λ x q. q)

attach_reads : RReads 105 attach_reply_at
unfolding attach_reply_at
attach_reads = r_reads 105 (λ p. r.Attach p) _ _ _ qid_laws (λ x. refl) (λ x. refl) (λ x q. q)

error_reads : RReads 107 error_reply_at
unfolding error_reply_at
error_reads = r_reads 107 (λ p. r.Error p) _ _ _ string_spells (λ x. refl) (λ x. refl) (λ x q. q)

flush_reads : RReads 109 (bare_reply_at r.Flush)
unfolding bare_reply_at
flush_reads = r_reads 109 (λ p. r.Flush) _ _ _ nothing_spells (λ x. refl) (λ x. refl) (λ x q. q)

walk_reads : RReads 111 walk_reply_at
unfolding walk_reply_at
walk_reads = r_reads 111 (λ p. r.Walk p) _ _ _ qids_laws (λ x. refl) (λ x. refl) (λ x q. q)

open_reads : RReads 113 open_reply_at
unfolding open_reply_at
open_reads = r_reads 113 (λ p. r.Open p.0 p.1) _ _ _ opened_laws (λ x. refl) (λ x. refl) (λ x q. q)

create_reads : RReads 115 create_reply_at
unfolding create_reply_at
create_reads = r_reads 115 (λ p. r.Create p.0 p.1) _ _ _ opened_laws (λ x. refl) (λ x. refl) (λ x q. q)

read_reads : RReads 117 read_reply_at
unfolding read_reply_at
read_reads = r_reads 117 (λ p. r.Read p) _ _ _ content_laws (λ x. refl) (λ x. refl) (λ x q. q)

write_reads : RReads 119 write_reply_at
unfolding write_reply_at
write_reads = r_reads 119 (λ p. r.Write p) _ _ _ n32 (λ x. refl) (λ x. refl) (λ x q. q)

clunk_reads : RReads 121 (bare_reply_at r.Clunk)
unfolding bare_reply_at
clunk_reads = r_reads 121 (λ p. r.Clunk) _ _ _ nothing_spells (λ x. refl) (λ x. refl) (λ x q. q)

remove_reads : RReads 123 (bare_reply_at r.Remove)
unfolding bare_reply_at
remove_reads = r_reads 123 (λ p. r.Remove) _ _ _ nothing_spells (λ x. refl) (λ x. refl) (λ x q. q)

stat_reads : RReads 125 stat_reply_at
unfolding stat_reply_at
stat_reads = r_reads 125 (λ p. r.Stat p) _ _ _ stat_laws (λ x. refl) (λ x. refl) (λ x q. q)

wstat_reads : RReads 127 (bare_reply_at r.Wstat)
unfolding bare_reply_at
wstat_reads = r_reads 127 (λ p. r.Wstat) _ _ _ nothing_spells (λ x. refl) (λ x. refl) (λ x q. q)

pub r_body_reads : (kind : ℕ) → RReads kind (r_body_at kind)
unfolding r_body_at
r_body_reads kind =
    r_chosen kind 101 _ _ version_reads
    (r_chosen kind 103 _ _ auth_reads
    (r_chosen kind 105 _ _ attach_reads
    (r_chosen kind 107 _ _ error_reads
    (r_chosen kind 109 _ _ flush_reads
    (r_chosen kind 111 _ _ walk_reads
    (r_chosen kind 113 _ _ open_reads
    (r_chosen kind 115 _ _ create_reads
    (r_chosen kind 117 _ _ read_reads
    (r_chosen kind 119 _ _ write_reads
    (r_chosen kind 121 _ _ clunk_reads
    (r_chosen kind 123 _ _ remove_reads
    (r_chosen kind 125 _ _ stat_reads
    (r_chosen kind 127 _ _ wstat_reads
    (no_message_reads r_kind r_fields r_fits kind))))))))))))))

-- what is spelled is read again
pub r_body_again : (b : RBody) (bytes rest : List ℕ) (at : ℕ) → r_fits b → drop at bytes ≡ r_fields b ++ rest → r_body_at (r_kind b) bytes at ≡ Ok (b, at + length (r_fields b))
unfolding r_body_at version_reply_at auth_reply_at attach_reply_at error_reply_at walk_reply_at open_reply_at create_reply_at read_reply_at write_reply_at stat_reply_at bare_reply_at
r_body_again (r.Version msize version) bytes rest at fits e = rw (version_laws.again bytes rest at (msize, version) fits e) refl
r_body_again (r.Auth aqid) bytes rest at fits e = rw (qid_laws.again bytes rest at aqid fits e) refl
r_body_again (r.Attach qid) bytes rest at fits e = rw (qid_laws.again bytes rest at qid fits e) refl
r_body_again (r.Error ename) bytes rest at fits e = rw (string_spells.again bytes rest at ename fits e) refl
r_body_again r.Flush bytes rest at fits e = ap (λ (n : ℕ). Ok (r.Flush, n)) (omega arith)
r_body_again (r.Walk wqid) bytes rest at fits e = rw (qids_laws.again bytes rest at wqid fits e) refl
r_body_again (r.Open qid iounit) bytes rest at fits e = rw (opened_laws.again bytes rest at (qid, iounit) fits e) refl
r_body_again (r.Create qid iounit) bytes rest at fits e = rw (opened_laws.again bytes rest at (qid, iounit) fits e) refl
r_body_again (r.Read content) bytes rest at fits e = rw (content_laws.again bytes rest at content fits e) refl
r_body_again (r.Write count) bytes rest at fits e = rw (n32.again bytes rest at count fits e) refl
r_body_again r.Clunk bytes rest at fits e = ap (λ (n : ℕ). Ok (r.Clunk, n)) (omega arith)
r_body_again r.Remove bytes rest at fits e = ap (λ (n : ℕ). Ok (r.Remove, n)) (omega arith)
r_body_again (r.Stat stat) bytes rest at fits e = rw (stat_laws.again bytes rest at stat fits e) refl
r_body_again r.Wstat bytes rest at fits e = ap (λ (n : ℕ). Ok (r.Wstat, n)) (omega arith)

pub r_kind_small : (b : RBody) → r_kind b < 2 ^ 8
r_kind_small (r.Version msize version) = omega arith
r_kind_small (r.Auth aqid) = omega arith
r_kind_small (r.Attach qid) = omega arith
r_kind_small (r.Error ename) = omega arith
r_kind_small r.Flush = omega arith
r_kind_small (r.Walk wqid) = omega arith
r_kind_small (r.Open qid iounit) = omega arith
r_kind_small (r.Create qid iounit) = omega arith
r_kind_small (r.Read content) = omega arith
r_kind_small (r.Write count) = omega arith
r_kind_small r.Clunk = omega arith
r_kind_small r.Remove = omega arith
r_kind_small (r.Stat stat) = omega arith
r_kind_small r.Wstat = omega arith

-- the parts of a reply, one behind the other to its end
reply_made : (bytes : List ℕ) (m : RMsg) (b : RBody) (kind tag five seven last : ℕ) → Taken bytes 0 4 (to_le_bytes w32 (length bytes)) → Taken bytes 4 five (to_le_bytes w8 kind) → Taken bytes 5 seven (to_le_bytes w16 tag) → Taken bytes 7 last (r_fields b) → r_kind b ≡ kind → tag < 2 ^ 16 → r_fits b → (record { tag = tag; body = b } ≡ m) × (drop last bytes ≡ []) → IsReply bytes m
reply_made bytes m b kind tag five seven last size-is kind-is tag-is fields-is same small fits end = subst (λ (m : RMsg). IsReply bytes m) end.0 (record {
  spelling = rw same (frame_taken bytes (r_fields b) kind tag five seven last size-is kind-is tag-is fields-is end.1);
  tag = small;
  fields = fits;
})

-- what is read of a whole frame is spelled by its bytes
pub reply_taken : (bytes : List ℕ) (m : RMsg) → AreBytes bytes → IsFrame bytes → r_reading bytes ≡ Ok m → IsReply bytes m
unfolding r_reading
reply_taken bytes m fits whole e =
    let k = bind_ok (number w8 bytes 4) (λ kind. number w16 bytes 5 >>= λ tag. r_body_at kind.0 bytes 7 >>= λ body. no_more (record { tag = tag.0; body = body.0 }) bytes body.1) m e in
    let t = bind_ok (number w16 bytes 5) (λ tag. r_body_at k.0.0 bytes 7 >>= λ body. no_more (record { tag = tag.0; body = body.0 }) bytes body.1) m k.2 in
    let b = bind_ok (r_body_at k.0.0 bytes 7) (λ body. no_more (record { tag = t.0.0; body = body.0 }) bytes body.1) m t.2 in
    let end = no_more_taken (record { tag = t.0.0; body = b.0.0 }) m bytes b.0.1 b.2 in
    let size-is = n32.taken bytes 0 4 (length bytes) fits whole.size in
    let kind-is = n8.taken bytes 4 k.0.1 k.0.0 fits k.1 in
    let tag-is = n16.taken bytes 5 t.0.1 t.0.0 fits t.1 in
    let body-is = r_body_reads k.0.0 bytes 7 b.0.1 b.0.0 fits b.1 in
    reply_made bytes m b.0.0 k.0.0 t.0.0 k.0.1 t.0.1 b.0.1 size-is.0 kind-is.0 tag-is.0 body-is.1 body-is.0 tag-is.1 body-is.2 end

-- and what is spelled is read
pub reply_again : (bytes : List ℕ) (m : RMsg) → IsReply bytes m → r_reading bytes ≡ Ok m
unfolding r_reading frame
reply_again bytes m is =
    let fields = r_fields m.body in
    let kind-here : drop 4 bytes ≡ to_le_bytes w8 (r_kind m.body) ++ (to_le_bytes w16 m.tag ++ fields) = ap (drop 4) is.spelling in
    let tag-here : drop 5 bytes ≡ to_le_bytes w16 m.tag ++ fields = ap (drop 5) is.spelling in
    let fields-here : drop 7 bytes ≡ fields ++ [] = ap (drop 7) is.spelling ∙ sym (append-nil fields) in
    let long : length bytes ≤ 7 + length fields = omega (arith, ap length is.spelling) in
    rw (
      n8.again bytes (to_le_bytes w16 m.tag ++ fields) 4 (r_kind m.body) (r_kind_small m.body) kind-here,
      n16.again bytes fields 5 m.tag is.tag tag-here,
      r_body_again m.body bytes [] 7 is.fields fields-here,
      no_more_again m bytes (7 + length fields) long,
    ) refl
