-- What is read as a request is spelled so, and what is spelled so is read.
use Rattle.std.proofs.Common.{◌≡◌, ℕ, ◌+◌, ◌<◌, ◌≤◌, ◌^◌, List, [], ◌++◌, length, drop, cond, eqb, Ok, refl, sym, ap, subst, ◌∙◌, append-nil, arith}
use Rattle.std.specs.Int.{w8, w16, w32, w64, to_le_bytes}
use Rattle.wire_base.specs.Readers.{Reader, ◌>>=◌, number, block, string, listed, both, converted, no_more, counted, spelled, listing, FitsList, IsString}
use Rattle.wire_base.proofs.ReaderLaws.{AreBytes, Taken, Spells, bind_ok, wide16, wide32, block_spells, string_spells, listed_spells, both_spells, no_more_taken, no_more_again}
use Rattle.nine.specs.declared.message.TMsg.{TMsg}
use Rattle.nine.specs.declared.message.TBody.{TBody}
use Rattle.nine.specs.declared.message.TBody.TheVariants as t
use Rattle.nine.specs.Messages.{frame, t_kind, t_fields, t_fits, IsRequest}
use Rattle.nine.specs.Decoding.{version_at, auth_at, attach_at, flush_at, walk_at, open_at, create_at, read_at, write_at, clunk_at, remove_at, stat_at, wstat_at, t_body_at, t_reading, IsFrame}
use Rattle.nine.proofs.FieldLaws.{Reads, reads, chosen_reads, no_message_reads, n8, n16, n32, n64, frame_taken}

-- ---- the fields

pub version_laws : Spells (both (number w32) string) (λ (p : ℕ × List ℕ). to_le_bytes w32 p.0 ++ spelled p.1) (λ (p : ℕ × List ℕ). (p.0 < 2 ^ 32) × IsString p.1)
version_laws = both_spells _ _ _ _ _ _ n32 string_spells

auth_laws : Spells (both (both (number w32) string) string) (λ (p : (ℕ × List ℕ) × List ℕ). to_le_bytes w32 p.0.0 ++ spelled p.0.1 ++ spelled p.1) (λ (p : (ℕ × List ℕ) × List ℕ). ((p.0.0 < 2 ^ 32) × IsString p.0.1) × IsString p.1)
auth_laws = both_spells _ _ _ _ _ _ version_laws string_spells

pairs_laws : Spells (both (number w32) (number w32)) (λ (p : ℕ × ℕ). to_le_bytes w32 p.0 ++ to_le_bytes w32 p.1) (λ (p : ℕ × ℕ). (p.0 < 2 ^ 32) × (p.1 < 2 ^ 32))
pairs_laws = both_spells _ _ _ _ _ _ n32 n32

offset_laws : Spells (both (number w32) (number w64)) (λ (p : ℕ × ℕ). to_le_bytes w32 p.0 ++ to_le_bytes w64 p.1) (λ (p : ℕ × ℕ). (p.0 < 2 ^ 32) × (p.1 < 2 ^ 64))
offset_laws = both_spells _ _ _ _ _ _ n32 n64

attach_laws : Spells (both (both (both (number w32) (number w32)) string) string) (λ (p : ((ℕ × ℕ) × List ℕ) × List ℕ). to_le_bytes w32 p.0.0.0 ++ to_le_bytes w32 p.0.0.1 ++ spelled p.0.1 ++ spelled p.1) (λ (p : ((ℕ × ℕ) × List ℕ) × List ℕ). (((p.0.0.0 < 2 ^ 32) × (p.0.0.1 < 2 ^ 32)) × IsString p.0.1) × IsString p.1)
attach_laws = both_spells _ _ _ _ _ _ (both_spells _ _ _ _ _ _ pairs_laws string_spells) string_spells

names_laws : Spells (listed w16 16 string) (listing w16 spelled) (FitsList 16 IsString)
names_laws = listed_spells w16 (2 ^ 16) 16 wide16 string spelled IsString (omega arith) string_spells

walk_laws : Spells (both (both (number w32) (number w32)) (listed w16 16 string)) (λ (p : (ℕ × ℕ) × List (List ℕ)). to_le_bytes w32 p.0.0 ++ to_le_bytes w32 p.0.1 ++ listing w16 spelled p.1) (λ (p : (ℕ × ℕ) × List (List ℕ)). ((p.0.0 < 2 ^ 32) × (p.0.1 < 2 ^ 32)) × FitsList 16 IsString p.1)
walk_laws = both_spells _ _ _ _ _ _ pairs_laws names_laws

open_laws : Spells (both (number w32) (number w8)) (λ (p : ℕ × ℕ). to_le_bytes w32 p.0 ++ to_le_bytes w8 p.1) (λ (p : ℕ × ℕ). (p.0 < 2 ^ 32) × (p.1 < 2 ^ 8))
open_laws = both_spells _ _ _ _ _ _ n32 n8

create_laws : Spells (both (both (both (number w32) string) (number w32)) (number w8)) (λ (p : ((ℕ × List ℕ) × ℕ) × ℕ). to_le_bytes w32 p.0.0.0 ++ spelled p.0.0.1 ++ to_le_bytes w32 p.0.1 ++ to_le_bytes w8 p.1) (λ (p : ((ℕ × List ℕ) × ℕ) × ℕ). (((p.0.0.0 < 2 ^ 32) × IsString p.0.0.1) × (p.0.1 < 2 ^ 32)) × (p.1 < 2 ^ 8))
create_laws = both_spells _ _ _ _ _ _ (both_spells _ _ _ _ _ _ version_laws n32) n8

read_laws : Spells (both (both (number w32) (number w64)) (number w32)) (λ (p : (ℕ × ℕ) × ℕ). to_le_bytes w32 p.0.0 ++ to_le_bytes w64 p.0.1 ++ to_le_bytes w32 p.1) (λ (p : (ℕ × ℕ) × ℕ). ((p.0.0 < 2 ^ 32) × (p.0.1 < 2 ^ 64)) × (p.1 < 2 ^ 32))
read_laws = both_spells _ _ _ _ _ _ offset_laws n32

write_laws : Spells (both (both (number w32) (number w64)) (block w32)) (λ (p : (ℕ × ℕ) × List ℕ). to_le_bytes w32 p.0.0 ++ to_le_bytes w64 p.0.1 ++ counted w32 p.1) (λ (p : (ℕ × ℕ) × List ℕ). ((p.0.0 < 2 ^ 32) × (p.0.1 < 2 ^ 64)) × (length p.1 < 2 ^ 32))
write_laws = both_spells _ _ _ _ _ _ offset_laws (block_spells w32 (2 ^ 32) wide32)

wstat_laws : Spells (both (number w32) (block w16)) (λ (p : ℕ × List ℕ). to_le_bytes w32 p.0 ++ counted w16 p.1) (λ (p : ℕ × List ℕ). (p.0 < 2 ^ 32) × (length p.1 < 2 ^ 16))
wstat_laws = both_spells _ _ _ _ _ _ n32 (block_spells w16 (2 ^ 16) wide16)

-- ---- each kind of request

abbrev pub TReads : ℕ → Reader TBody → Type 0
TReads = Reads t_kind t_fields t_fits

t_reads : {A : Type 0} (kind : ℕ) (f : A → TBody) (read : Reader A) (text : A → List ℕ) (P : A → Type 0) → Spells read text P → ((x : A) → t_kind (f x) ≡ kind) → ((x : A) → text x ≡ t_fields (f x)) → ((x : A) → P x → t_fits (f x)) → TReads kind (converted f read)
t_reads = reads t_kind t_fields t_fits

t_chosen : (kind k : ℕ) (one other : Reader TBody) → TReads k one → TReads kind other → TReads kind (cond (eqb kind k) one other)
t_chosen = chosen_reads t_kind t_fields t_fits

version_reads : TReads 100 version_at
unfolding version_at
version_reads = t_reads 100 (λ p. t.Version p.0 p.1) _ _ _ version_laws (λ x. refl) (λ x. refl) (λ x q. q)

auth_reads : TReads 102 auth_at
unfolding auth_at
auth_reads = t_reads 102 (λ p. t.Auth p.0.0 p.0.1 p.1) _ _ _ auth_laws (λ x. refl) (λ x. refl) (λ x q. q)

attach_reads : TReads 104 attach_at
unfolding attach_at
attach_reads = t_reads 104 (λ p. t.Attach p.0.0.0 p.0.0.1 p.0.1 p.1) _ _ _ attach_laws (λ x. refl) (λ x. refl) (λ x q. q)

flush_reads : TReads 108 flush_at
unfolding flush_at
flush_reads = t_reads 108 (λ p. t.Flush p) _ _ _ n16 (λ x. refl) (λ x. refl) (λ x q. q)

walk_reads : TReads 110 walk_at
unfolding walk_at
walk_reads = t_reads 110 (λ p. t.Walk p.0.0 p.0.1 p.1) _ _ _ walk_laws (λ x. refl) (λ x. refl) (λ x q. q)

open_reads : TReads 112 open_at
unfolding open_at
open_reads = t_reads 112 (λ p. t.Open p.0 p.1) _ _ _ open_laws (λ x. refl) (λ x. refl) (λ x q. q)

create_reads : TReads 114 create_at
unfolding create_at
create_reads = t_reads 114 (λ p. t.Create p.0.0.0 p.0.0.1 p.0.1 p.1) _ _ _ create_laws (λ x. refl) (λ x. refl) (λ x q. q)

read_reads : TReads 116 read_at
unfolding read_at
read_reads = t_reads 116 (λ p. t.Read p.0.0 p.0.1 p.1) _ _ _ read_laws (λ x. refl) (λ x. refl) (λ x q. q)

write_reads : TReads 118 write_at
unfolding write_at
write_reads = t_reads 118 (λ p. t.Write p.0.0 p.0.1 p.1) _ _ _ write_laws (λ x. refl) (λ x. refl) (λ x q. q)

clunk_reads : TReads 120 clunk_at
unfolding clunk_at
clunk_reads = t_reads 120 (λ p. t.Clunk p) _ _ _ n32 (λ x. refl) (λ x. refl) (λ x q. q)

remove_reads : TReads 122 remove_at
unfolding remove_at
remove_reads = t_reads 122 (λ p. t.Remove p) _ _ _ n32 (λ x. refl) (λ x. refl) (λ x q. q)

stat_reads : TReads 124 stat_at
unfolding stat_at
stat_reads = t_reads 124 (λ p. t.Stat p) _ _ _ n32 (λ x. refl) (λ x. refl) (λ x q. q)

wstat_reads : TReads 126 wstat_at
unfolding wstat_at
wstat_reads = t_reads 126 (λ p. t.Wstat p.0 p.1) _ _ _ wstat_laws (λ x. refl) (λ x. refl) (λ x q. q)

pub t_body_reads : (kind : ℕ) → TReads kind (t_body_at kind)
unfolding t_body_at
t_body_reads kind =
    t_chosen kind 100 _ _ version_reads
    (t_chosen kind 102 _ _ auth_reads
    (t_chosen kind 104 _ _ attach_reads
    (t_chosen kind 108 _ _ flush_reads
    (t_chosen kind 110 _ _ walk_reads
    (t_chosen kind 112 _ _ open_reads
    (t_chosen kind 114 _ _ create_reads
    (t_chosen kind 116 _ _ read_reads
    (t_chosen kind 118 _ _ write_reads
    (t_chosen kind 120 _ _ clunk_reads
    (t_chosen kind 122 _ _ remove_reads
    (t_chosen kind 124 _ _ stat_reads
    (t_chosen kind 126 _ _ wstat_reads
    (no_message_reads t_kind t_fields t_fits kind)))))))))))))

-- what is spelled is read again
pub t_body_again : (b : TBody) (bytes rest : List ℕ) (at : ℕ) → t_fits b → drop at bytes ≡ t_fields b ++ rest → t_body_at (t_kind b) bytes at ≡ Ok (b, at + length (t_fields b))
unfolding t_body_at version_at auth_at attach_at flush_at walk_at open_at create_at read_at write_at clunk_at remove_at stat_at wstat_at
t_body_again (t.Version msize version) bytes rest at fits e = rw (version_laws.again bytes rest at (msize, version) fits e) refl
t_body_again (t.Auth afid uname aname) bytes rest at fits e = rw (auth_laws.again bytes rest at ((afid, uname), aname) fits e) refl
t_body_again (t.Attach fid afid uname aname) bytes rest at fits e = rw (attach_laws.again bytes rest at (((fid, afid), uname), aname) fits e) refl
t_body_again (t.Flush oldtag) bytes rest at fits e = rw (n16.again bytes rest at oldtag fits e) refl
t_body_again (t.Walk fid newfid wname) bytes rest at fits e = rw (walk_laws.again bytes rest at ((fid, newfid), wname) fits e) refl
t_body_again (t.Open fid mode) bytes rest at fits e = rw (open_laws.again bytes rest at (fid, mode) fits e) refl
t_body_again (t.Create fid name perm mode) bytes rest at fits e = rw (create_laws.again bytes rest at (((fid, name), perm), mode) fits e) refl
t_body_again (t.Read fid offset count) bytes rest at fits e = rw (read_laws.again bytes rest at ((fid, offset), count) fits e) refl
t_body_again (t.Write fid offset content) bytes rest at fits e = rw (write_laws.again bytes rest at ((fid, offset), content) fits e) refl
t_body_again (t.Clunk fid) bytes rest at fits e = rw (n32.again bytes rest at fid fits e) refl
t_body_again (t.Remove fid) bytes rest at fits e = rw (n32.again bytes rest at fid fits e) refl
t_body_again (t.Stat fid) bytes rest at fits e = rw (n32.again bytes rest at fid fits e) refl
t_body_again (t.Wstat fid stat) bytes rest at fits e = rw (wstat_laws.again bytes rest at (fid, stat) fits e) refl

pub t_kind_small : (b : TBody) → t_kind b < 2 ^ 8
t_kind_small (t.Version msize version) = omega arith
t_kind_small (t.Auth afid uname aname) = omega arith
t_kind_small (t.Attach fid afid uname aname) = omega arith
t_kind_small (t.Flush oldtag) = omega arith
t_kind_small (t.Walk fid newfid wname) = omega arith
t_kind_small (t.Open fid mode) = omega arith
t_kind_small (t.Create fid name perm mode) = omega arith
t_kind_small (t.Read fid offset count) = omega arith
t_kind_small (t.Write fid offset content) = omega arith
t_kind_small (t.Clunk fid) = omega arith
t_kind_small (t.Remove fid) = omega arith
t_kind_small (t.Stat fid) = omega arith
t_kind_small (t.Wstat fid stat) = omega arith

-- the parts of a request, one behind the other to its end
request_made : (bytes : List ℕ) (m : TMsg) (b : TBody) (kind tag five seven last : ℕ) → Taken bytes 0 4 (to_le_bytes w32 (length bytes)) → Taken bytes 4 five (to_le_bytes w8 kind) → Taken bytes 5 seven (to_le_bytes w16 tag) → Taken bytes 7 last (t_fields b) → t_kind b ≡ kind → tag < 2 ^ 16 → t_fits b → (record { tag = tag; body = b } ≡ m) × (drop last bytes ≡ []) → IsRequest bytes m
request_made bytes m b kind tag five seven last size-is kind-is tag-is fields-is same small fits end = subst (λ (m : TMsg). IsRequest bytes m) end.0 (record {
  spelling = rw same (frame_taken bytes (t_fields b) kind tag five seven last size-is kind-is tag-is fields-is end.1);
  tag = small;
  fields = fits;
})

-- what is read of a whole frame is spelled by its bytes
pub request_taken : (bytes : List ℕ) (m : TMsg) → AreBytes bytes → IsFrame bytes → t_reading bytes ≡ Ok m → IsRequest bytes m
unfolding t_reading
request_taken bytes m fits whole e =
    let k = bind_ok (number w8 bytes 4) (λ kind. number w16 bytes 5 >>= λ tag. t_body_at kind.0 bytes 7 >>= λ body. no_more (record { tag = tag.0; body = body.0 }) bytes body.1) m e in
    let t = bind_ok (number w16 bytes 5) (λ tag. t_body_at k.0.0 bytes 7 >>= λ body. no_more (record { tag = tag.0; body = body.0 }) bytes body.1) m k.2 in
    let b = bind_ok (t_body_at k.0.0 bytes 7) (λ body. no_more (record { tag = t.0.0; body = body.0 }) bytes body.1) m t.2 in
    let end = no_more_taken (record { tag = t.0.0; body = b.0.0 }) m bytes b.0.1 b.2 in
    let size-is = n32.taken bytes 0 4 (length bytes) fits whole.size in
    let kind-is = n8.taken bytes 4 k.0.1 k.0.0 fits k.1 in
    let tag-is = n16.taken bytes 5 t.0.1 t.0.0 fits t.1 in
    let body-is = t_body_reads k.0.0 bytes 7 b.0.1 b.0.0 fits b.1 in
    request_made bytes m b.0.0 k.0.0 t.0.0 k.0.1 t.0.1 b.0.1 size-is.0 kind-is.0 tag-is.0 body-is.1 body-is.0 tag-is.1 body-is.2 end

-- and what is spelled is read
pub request_again : (bytes : List ℕ) (m : TMsg) → IsRequest bytes m → t_reading bytes ≡ Ok m
unfolding t_reading frame
request_again bytes m is =
    let fields = t_fields m.body in
    let kind-here : drop 4 bytes ≡ to_le_bytes w8 (t_kind m.body) ++ (to_le_bytes w16 m.tag ++ fields) = ap (drop 4) is.spelling in
    let tag-here : drop 5 bytes ≡ to_le_bytes w16 m.tag ++ fields = ap (drop 5) is.spelling in
    let fields-here : drop 7 bytes ≡ fields ++ [] = ap (drop 7) is.spelling ∙ sym (append-nil fields) in
    let long : length bytes ≤ 7 + length fields = omega (arith, ap length is.spelling) in
    rw (
      n8.again bytes (to_le_bytes w16 m.tag ++ fields) 4 (t_kind m.body) (t_kind_small m.body) kind-here,
      n16.again bytes fields 5 m.tag is.tag tag-here,
      t_body_again m.body bytes [] 7 is.fields fields-here,
      no_more_again m bytes (7 + length fields) long,
    ) refl
