-- A frame of a request is read, if it is, as a request of its type.
use Rattle.std.proofs.Common.{◌≡◌, ℕ, ◌+◌, ◌<◌, ◌^◌, List, [], ◌++◌, drop, Option, Some, None, Result, Ok, Err, refl, sym, ap, subst, ◌∙◌, arith, ◌%◌, ◌∷◌, length, append-nil}
use Rattle.std.proofs.lemmas.Nat.{mod_below}
use Rattle.std.specs.Int.{w8, w16, w32, w64, to_le_bytes}
use Rattle.wire_base.specs.Readers.{FitsList, IsString, Reader, ◌>>=◌, block, both, converted, listed, listing, spelled, no_more, number, string}
use Rattle.wire_base.proofs.ReaderLaws.{bind_ok, no_more_taken}
use Rattle.nine.specs.declared.message.TMsg.{TMsg}
use Rattle.nine.specs.declared.message.TBody.{TBody}
use Rattle.nine.specs.declared.message.TBody.TheVariants as t
use Rattle.nine.specs.Messages.{frame, t_fields, t_frame, t_kind}
use Rattle.nine.specs.Decoding.{attach_at, clunk_at, open_at, read_at, request_of, t_body_at, t_reading, version_at, walk_at, write_at}
use Rattle.nine.proofs.FieldLaws.{n8}
use Rattle.nine.proofs.RequestLaws.{t_body_again, t_kind_small}

-- its fields are those that stand behind its tag
pub record BodyRead (kind : ℕ) (bytes : List ℕ) (body : TBody) : Type 0 where
  pub next : ℕ
  pub read : t_body_at kind bytes 7 ≡ Ok (body, next)

was_read : (r : Result TMsg ℕ) (m : TMsg) → (elim r as (λ x. Option TMsg) [ Ok m ↦ Some m | Err at ↦ None ]) ≡ Some m → r ≡ Ok m
was_read (Ok other) m e = let same : other ≡ m = cc in ap (λ x. Ok x) same
was_read (Err at) m e = absurd cc

kind_first : (kind tag : ℕ) (fields : List ℕ) → kind < 2 ^ 8 → number w8 (frame kind tag fields) 4 ≡ Ok (kind, 5)
unfolding frame
kind_first kind tag fields small = n8.again (frame kind tag fields) (to_le_bytes w16 tag ++ fields) 4 kind small refl

body_read : (kind : ℕ) (bytes : List ℕ) (m : TMsg) → number w8 bytes 4 ≡ Ok (kind, 5) → t_reading bytes ≡ Ok m → BodyRead kind bytes m.body
unfolding t_reading
body_read kind bytes m first e =
    let k = bind_ok (number w8 bytes 4) (λ kind. number w16 bytes 5 >>= λ tag. t_body_at kind.0 bytes 7 >>= λ body. no_more (record { tag = tag.0; body = body.0 }) bytes body.1) m e in
    let t = bind_ok (number w16 bytes 5) (λ tag. t_body_at k.0.0 bytes 7 >>= λ body. no_more (record { tag = tag.0; body = body.0 }) bytes body.1) m k.2 in
    let b = bind_ok (t_body_at k.0.0 bytes 7) (λ body. no_more (record { tag = t.0.0; body = body.0 }) bytes body.1) m t.2 in
    let end = no_more_taken (record { tag = t.0.0; body = b.0.0 }) m bytes b.0.1 b.2 in
    let same : k.0.0 ≡ kind = first_of k.0 (kind, 5) (sym k.1 ∙ first) in
    record { next = b.0.1; read = ap (λ n. t_body_at n bytes 7) (sym same) ∙ b.1 ∙ ap (λ x. Ok (x, b.0.1)) (ap (λ x. x.body) end.0) }
  where
    first_of : (one other : ℕ × ℕ) → ◌≡◌ {A = Result (ℕ × ℕ) ℕ} (Ok one) (Ok other) → one.0 ≡ other.0
    first_of one other e = let same : one ≡ other = cc in ap (λ p. p.0) same

pub frame_read : (asked m : TMsg) → request_of (t_frame asked) ≡ Some m → BodyRead (t_kind asked.body) (t_frame asked) m.body
unfolding request_of
frame_read asked m e =
    body_read (t_kind asked.body) (t_frame asked) m (kind_first (t_kind asked.body) asked.tag (t_fields asked.body) (t_kind_small asked.body)) (was_read (t_reading (t_frame asked)) m e)

-- ---- types

-- what holds of all that is read so
converted_so : {A : Type 0} (P : TBody → Type 0) (f : A → TBody) (read : Reader A) (bytes : List ℕ) (at next : ℕ) (body : TBody) → ((x : A) → P (f x)) → converted f read bytes at ≡ Ok (body, next) → P body
converted_so P f read bytes at next body each e =
    let k = bind_ok (read bytes at) (λ x. Ok (f x.0, x.1)) (body, next) e in
    subst P (first_of (f k.0.0, k.0.1) (body, next) k.2) (each k.0.0)
  where
    first_of : (one other : TBody × ℕ) → ◌≡◌ {A = Result (TBody × ℕ) ℕ} (Ok one) (Ok other) → one.0 ≡ other.0
    first_of one other e = let same : one ≡ other = cc in ap (λ p. p.0) same

pub walk_so : (P : TBody → Type 0) → ((fid newfid : ℕ) (names : List (List ℕ)) → P (t.Walk fid newfid names)) → (bytes : List ℕ) (body : TBody) → BodyRead 110 bytes body → P body
unfolding t_body_at walk_at
walk_so P each bytes body is = converted_so {A = (ℕ × ℕ) × List (List ℕ)} P (λ p. t.Walk p.0.0 p.0.1 p.1) (both (both (number w32) (number w32)) (listed w16 16 string)) bytes 7 is.next body (λ p. each p.0.0 p.0.1 p.1) is.read

pub open_so : (P : TBody → Type 0) → ((fid mode : ℕ) → P (t.Open fid mode)) → (bytes : List ℕ) (body : TBody) → BodyRead 112 bytes body → P body
unfolding t_body_at open_at
open_so P each bytes body is = converted_so {A = ℕ × ℕ} P (λ p. t.Open p.0 p.1) (both (number w32) (number w8)) bytes 7 is.next body (λ p. each p.0 p.1) is.read

pub write_so : (P : TBody → Type 0) → ((fid offset : ℕ) (content : List ℕ) → P (t.Write fid offset content)) → (bytes : List ℕ) (body : TBody) → BodyRead 118 bytes body → P body
unfolding t_body_at write_at
write_so P each bytes body is = converted_so {A = (ℕ × ℕ) × List ℕ} P (λ p. t.Write p.0.0 p.0.1 p.1) (both (both (number w32) (number w64)) (block w32)) bytes 7 is.next body (λ p. each p.0.0 p.0.1 p.1) is.read

pub clunk_so : (P : TBody → Type 0) → ((fid : ℕ) → P (t.Clunk fid)) → (bytes : List ℕ) (body : TBody) → BodyRead 120 bytes body → P body
unfolding t_body_at clunk_at
clunk_so P each bytes body is = converted_so {A = ℕ} P (λ p. t.Clunk p) (number w32) bytes 7 is.next body each is.read

pub read_so : (P : TBody → Type 0) → ((fid offset count : ℕ) → P (t.Read fid offset count)) → (bytes : List ℕ) (body : TBody) → BodyRead 116 bytes body → P body
unfolding t_body_at read_at
read_so P each bytes body is = converted_so {A = (ℕ × ℕ) × ℕ} P (λ p. t.Read p.0.0 p.0.1 p.1) (both (both (number w32) (number w64)) (number w32)) bytes 7 is.next body (λ p. each p.0.0 p.0.1 p.1) is.read

pub version_so : (P : TBody → Type 0) → ((msize : ℕ) (version : List ℕ) → P (t.Version msize version)) → (bytes : List ℕ) (body : TBody) → BodyRead 100 bytes body → P body
unfolding t_body_at version_at
version_so P each bytes body is = converted_so {A = ℕ × List ℕ} P (λ p. t.Version p.0 p.1) (both (number w32) string) bytes 7 is.next body (λ p. each p.0 p.1) is.read

pub attach_so : (P : TBody → Type 0) → ((fid afid : ℕ) (uname aname : List ℕ) → P (t.Attach fid afid uname aname)) → (bytes : List ℕ) (body : TBody) → BodyRead 104 bytes body → P body
unfolding t_body_at attach_at
attach_so P each bytes body is = converted_so {A = ((ℕ × ℕ) × List ℕ) × List ℕ} P (λ p. t.Attach p.0.0.0 p.0.0.1 p.0.1 p.1) (both (both (both (number w32) (number w32)) string) string) bytes 7 is.next body (λ p. each p.0.0.0 p.0.0.1 p.0.1 p.1) is.read

-- ---- walks

cells : (a b c d x y z w : ℕ) → a ≡ x → b ≡ y → c ≡ z → d ≡ w → (a ∷ b ∷ c ∷ d ∷ []) ≡ (x ∷ y ∷ z ∷ w ∷ [])
cells a b c d x y z w p q r s = rw (p, q, r, s) refl

-- four bytes spell what a number leaves of 2 ^ 32
four_bytes : (n : ℕ) → to_le_bytes w32 n ≡ to_le_bytes w32 (n % 2 ^ 32)
four_bytes n = cells _ _ _ _ _ _ _ _ (omega arith) (omega arith) (omega arith) (omega arith)

fields_behind : (kind tag : ℕ) (fields : List ℕ) → drop 7 (frame kind tag fields) ≡ fields ++ []
unfolding frame
fields_behind kind tag fields = sym (append-nil fields)

ok_body : (one other : TBody × ℕ) → ◌≡◌ {A = Result (TBody × ℕ) ℕ} (Ok one) (Ok other) → one.0 ≡ other.0
ok_body one other e = let same : one ≡ other = cc in ap (λ p. p.0) same

fitting_walk : (fid : ℕ) (names : List (List ℕ)) (m : TMsg) → fid < 2 ^ 32 → FitsList 16 IsString names → request_of (t_frame (record { tag = 0; body = t.Walk 0 fid names })) ≡ Some m → m.body ≡ t.Walk 0 fid names
fitting_walk fid names m small fits e =
    let walk = t.Walk 0 fid names in
    let asked : TMsg = record { tag = 0; body = walk } in
    let r = frame_read asked m e in
    let again = t_body_again walk (t_frame asked) [] 7 ((omega arith, small), fits) (fields_behind 110 0 (t_fields walk)) in
    ok_body (m.body, r.next) (walk, 7 + length (t_fields walk)) (sym r.read ∙ again)

pub walk_read : (fid : ℕ) (names : List (List ℕ)) (m : TMsg) → FitsList 16 IsString names → request_of (t_frame (record { tag = 0; body = t.Walk 0 fid names })) ≡ Some m → m.body ≡ t.Walk 0 (fid % 2 ^ 32) names
walk_read fid names m fits e =
    let same = ap (λ b. frame 110 0 (to_le_bytes w32 0 ++ (b ++ listing w16 spelled names))) (four_bytes fid) in
    fitting_walk (fid % 2 ^ 32) names m (mod_below fid (2 ^ 32) (omega arith)) fits (subst (λ f. request_of f ≡ Some m) same e)
