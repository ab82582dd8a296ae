-- From what a request does to what a frame does.
use Rattle.std.proofs.Common.{◌≡◌, ℕ, ◌≤◌, List, ◌∷◌, true, false, length, Option, Some, None, Result, Ok, Err, refl, sym, ap, subst, ◌⊎◌, inl, inr, arith}
use Rattle.std.specs.Prelude.{codes}
use Rattle.nine.specs.declared.message.TMsg.{TMsg}
use Rattle.nine.specs.declared.message.TBody.{TBody}
use Rattle.nine.specs.declared.message.TBody.TheVariants as t
use Rattle.nine.specs.declared.message.RBody.{RBody}
use Rattle.nine.specs.Messages.{frame, r_frame, t_kind, t_fields, IsRequest}
use Rattle.nine.specs.Decoding.{request_of}
use Rattle.agent_history.specs.Deeds.{Deed, OfReplies, Answered, msize_of}
use Rattle.agent_history.specs.Requests.{Call, refusal, granted, after_frame, answered, body_to, replied, is_over, comes_first, lacks_version, repeats_tag}
use Rattle.agent_requests.specs.declared.connection.Connection.{Connection}
use Rattle.agent_requests.specs.declared.shared.Shared.{Shared}
use Rattle.agent_requests.specs.Sharing.{Shares}
use Rattle.agent_requests.proofs.ShareLemmas as share
use Rattle.mailboxes.specs.declared.reply.Reply.{Reply}
use Rattle.mailboxes.specs.declared.mailboxes.Mailboxes.{Mailboxes}
use Rattle.mailboxes.specs.Kept.{reply_bytes, error_frame}
use Rattle.mailboxes.specs.Deliveries.{Delivers, under}
use Rattle.agent_requests.specs.declared.refused.Refusal.{Refusal}
use Rattle.agent_requests.specs.declared.refused.Refusal.TheVariants as f
use Rattle.agent_requests.specs.declared.refused.Refused.{Refused}
use Rattle.agent_requests.specs.declared.refused.Refused.TheVariants as e
use Rattle.agent_requests.specs.Connections.{Keeps, Says, Told, Served, FrameServed, WritesAtMost, refusal_of, refusal_text}
use Rattle.agent_requests.proofs.KeepLemmas.{keeps_all}

-- ---- what refuses a frame

pub frame_over : (done : List Deed) (call : Call) (bytes : List ℕ) → is_over (msize_of done call.conn) bytes ≡ true → granted done call bytes ≡ Err (codes "message over msize")
unfolding granted
frame_over done call bytes over = rw over refl

pub frame_none : (done : List Deed) (call : Call) (bytes : List ℕ) → is_over (msize_of done call.conn) bytes ≡ false → request_of bytes ≡ None → granted done call bytes ≡ Err (codes "bad message")
unfolding granted
frame_none done call bytes over none = rw (over, none) refl

pub frame_unversioned : (done : List Deed) (call : Call) (bytes : List ℕ) (m : TMsg) → is_over (msize_of done call.conn) bytes ≡ false → request_of bytes ≡ Some m → lacks_version done call m.body ≡ true
    → granted done call bytes ≡ Err (codes "no version")
unfolding granted
frame_unversioned done call bytes m over is lacks = rw (over, is, lacks) refl

abbrev unless_refused : TBody → Option (List ℕ) → Result TBody (List ℕ)
unless_refused body o = elim o [ Some text ↦ Err text | None ↦ Ok body ]

pub frame_repeats : (done : List Deed) (call : Call) (bytes : List ℕ) (m : TMsg) → is_over (msize_of done call.conn) bytes ≡ false → request_of bytes ≡ Some m → lacks_version done call m.body ≡ false → repeats_tag done call m.body ≡ true
    → granted done call bytes ≡ Err (codes "duplicate tag")
unfolding granted
frame_repeats done call bytes m over is lacks repeats = rw (over, is, lacks, repeats) refl

frame_through : (done : List Deed) (call : Call) (bytes : List ℕ) (m : TMsg) → is_over (msize_of done call.conn) bytes ≡ false → request_of bytes ≡ Some m → lacks_version done call m.body ≡ false → repeats_tag done call m.body ≡ false
    → granted done call bytes ≡ unless_refused m.body (refusal done call m.body)
unfolding granted
frame_through done call bytes m over is lacks repeats = rw (over, is, lacks, repeats) refl

-- a refusal that is told
pub refused_told : (g : Result TBody (List ℕ)) (S : Option Reply → Type 0) (why : Refusal) → g ≡ Err (refusal_text why) → Told (refusal_of g) S (Err (e.For why))
refused_told g S why is = subst (λ (r : Result TBody (List ℕ)). Told (refusal_of r) S (Err (e.For why))) (sym is) refl

served_frame : (done : List Deed) (call : Call) (bytes : List ℕ) (body : TBody) (c : Connection) (s : Shared) (reply : Option Reply) → granted done call bytes ≡ Ok body → Served done call body c s reply → FrameServed done call bytes c s reply
unfolding after_frame body_to
served_frame done call bytes body c s reply is h = record { keeps = rw is h.keeps; shares = rw is h.shares; said = rw is h.said }

-- want of memory is told whatever refuses
told_memory : (o : Option (List ℕ)) (S : Option Reply → Type 0) → Told o S (Err e.NoMemory)
told_memory None S = tt
told_memory (Some text) S = tt

-- a frame that isn't read
pub unread_told : (g : Result TBody (List ℕ)) (S : Option Reply → Type 0) (why : Refused) (Unread : Type 0) → ((why ≡ e.NoMemory) ⊎ ((why ≡ e.For f.BadMessage) × Unread)) → (Unread → g ≡ Err (codes "bad message")) → Told (refusal_of g) S (Err why)
unread_told g S why Unread (inl memory) is = subst (λ (w : Refused). Told (refusal_of g) S (Err w)) (sym memory) (told_memory (refusal_of g) S)
unread_told g S why Unread (inr bad) is = subst (λ (w : Refused). Told (refusal_of g) S (Err w)) (sym bad.0) (refused_told g S f.BadMessage (is bad.1))

told_frame : (done : List Deed) (call : Call) (bytes : List ℕ) (body : TBody) (c : Connection) (s : Shared) (result : Result (Option Reply) Refused) (o : Option (List ℕ)) → granted done call bytes ≡ unless_refused body o
    → Told o (Served done call body c s) result → Told (refusal_of (granted done call bytes)) (FrameServed done call bytes c s) result
told_frame done call bytes body c s (Ok reply) None is h = subst (λ (r : Result TBody (List ℕ)). Told (refusal_of r) (FrameServed done call bytes c s) (Ok reply)) (sym is) (served_frame done call bytes body c s reply is h)
told_frame done call bytes body c s (Ok reply) (Some text) is h = absurd h
told_frame done call bytes body c s (Err (e.For why)) None is h = absurd h
told_frame done call bytes body c s (Err (e.For why)) (Some text) is h = subst (λ (r : Result TBody (List ℕ)). Told (refusal_of r) (FrameServed done call bytes c s) (Err (e.For why))) (sym is) h
told_frame done call bytes body c s (Err e.NoMemory) o is h = told_memory (refusal_of (granted done call bytes)) (FrameServed done call bytes c s)

pub frame_told : (done : List Deed) (call : Call) (bytes : List ℕ) (m : TMsg) (c : Connection) (s : Shared) (result : Result (Option Reply) Refused) → is_over (msize_of done call.conn) bytes ≡ false → request_of bytes ≡ Some m
    → lacks_version done call m.body ≡ false → repeats_tag done call m.body ≡ false → Told (refusal done call m.body) (Served done call m.body c s) result → Told (refusal_of (granted done call bytes)) (FrameServed done call bytes c s) result
frame_told done call bytes m c s result over is lacks repeats h = told_frame done call bytes m.body c s result (refusal done call m.body) (frame_through done call bytes m over is lacks repeats) h

refused_is : (g : Result TBody (List ℕ)) (S : Option Reply → Type 0) (why : Refusal) → Told (refusal_of g) S (Err (e.For why)) → g ≡ Err (refusal_text why)
refused_is (Ok body) S why h = absurd h
refused_is (Err text) S why h = ap Err (sym h)

-- the reply to a frame that is refused, which changes nothing
refused_frame : (done : List Deed) (call : Call) (bytes : List ℕ) (c : Connection) (s : Shared) (why : Refusal) → Keeps done call.conn c → Shares done s → granted done call bytes ≡ Err (refusal_text why)
    → (reply : Reply) → reply_bytes reply ≡ error_frame (refusal_text why) call.tag → FrameServed done call bytes c s (Some reply)
unfolding after_frame body_to
refused_frame done call bytes c s why k h is reply said = record { keeps = rw is k; shares = rw is h; said = rw is said }

pub answered_frame : (done : List Deed) (call : Call) (bytes : List ℕ) (c : Connection) (s : Shared) (S : Option Reply → Type 0) (why : Refusal) → Keeps done call.conn c → Shares done s → Told (refusal_of (granted done call bytes)) S (Err (e.For why))
    → (reply : Reply) → reply_bytes reply ≡ error_frame (refusal_text why) call.tag → FrameServed done call bytes c s (Some reply)
answered_frame done call bytes c s S why k h told reply said = refused_frame done call bytes c s why k h (refused_is (granted done call bytes) S why told) reply said

-- ---- a write is no longer than its frame

fields_hold : (body : TBody) → WritesAtMost (length (t_fields body)) body
fields_hold (t.Write fid offset content) = omega arith
fields_hold (t.Version msize version) = tt
fields_hold (t.Auth afid uname aname) = tt
fields_hold (t.Attach fid afid uname aname) = tt
fields_hold (t.Flush oldtag) = tt
fields_hold (t.Walk fid newfid wname) = tt
fields_hold (t.Open fid mode) = tt
fields_hold (t.Create fid name perm mode) = tt
fields_hold (t.Read fid offset count) = tt
fields_hold (t.Clunk fid) = tt
fields_hold (t.Remove fid) = tt
fields_hold (t.Stat fid) = tt
fields_hold (t.Wstat fid stat) = tt

at_most : (n most : ℕ) (body : TBody) → WritesAtMost n body → (comes_first body ≡ false → n ≤ most) → WritesAtMost most body
at_most n most (t.Write fid offset content) h le = omega (arith, h, le refl)
at_most n most (t.Version msize version) h le = tt
at_most n most (t.Auth afid uname aname) h le = tt
at_most n most (t.Attach fid afid uname aname) h le = tt
at_most n most (t.Flush oldtag) h le = tt
at_most n most (t.Walk fid newfid wname) h le = tt
at_most n most (t.Open fid mode) h le = tt
at_most n most (t.Create fid name perm mode) h le = tt
at_most n most (t.Read fid offset count) h le = tt
at_most n most (t.Clunk fid) h le = tt
at_most n most (t.Remove fid) h le = tt
at_most n most (t.Stat fid) h le = tt
at_most n most (t.Wstat fid stat) h le = tt

fields_in : (kind tag : ℕ) (fields : List ℕ) → length fields ≤ length (frame kind tag fields)
unfolding frame
fields_in kind tag fields = omega arith

pub writes_few : (bytes : List ℕ) (m : TMsg) (most : ℕ) → IsRequest bytes m → (comes_first m.body ≡ false → length bytes ≤ most) → WritesAtMost most m.body
writes_few bytes m most is le =
    let inside : length (t_fields m.body) ≤ length bytes = rw is.spelling (fields_in (t_kind m.body) m.tag (t_fields m.body)) in
    at_most (length (t_fields m.body)) most m.body (fields_hold m.body) (λ first. omega (arith, inside, le first))

-- ---- the reply to a frame

says_none : (tag : ℕ) (o : Option RBody) → Says tag o None → o ≡ None
says_none tag None said = refl
says_none tag (Some body) said = absurd said

says_some : (tag : ℕ) (o : Option RBody) (reply : Reply) → Says tag o (Some reply) → (body : RBody) × (o ≡ Some body) × (reply_bytes reply ≡ r_frame (under tag body))
says_some tag None reply said = absurd said
says_some tag (Some body) reply said = (body, refl, said)

-- it waits for its reply
pub waits_shares : (done : List Deed) (call : Call) (bytes : List ℕ) (s : Shared) → Shares (after_frame done call bytes) s → Says call.tag (body_to done call bytes) None → Shares (answered done call bytes) s
waits_shares done call bytes s h said = subst (λ (o : Option RBody). Shares (replied call o (after_frame done call bytes)) s) (sym (says_none call.tag (body_to done call bytes) said)) h

-- or has it
pub replied_shares : (done : List Deed) (call : Call) (bytes : List ℕ) (s : Shared) (m : Mailboxes) (reply : Reply) → Shares (after_frame done call bytes) s → Says call.tag (body_to done call bytes) (Some reply)
    → ((body : RBody) → reply_bytes reply ≡ r_frame (under call.tag body) → Delivers (OfReplies call.conn (Answered call.tag body) ∷ after_frame done call bytes) m) → Shares (answered done call bytes) (record { ring = s.ring; holders = s.holders; mailboxes = m; talks = s.talks })
replied_shares done call bytes s m reply h said delivers =
    let now : List Deed = after_frame done call bytes in
    let told = says_some call.tag (body_to done call bytes) reply said in
    subst (λ (o : Option RBody). Shares (replied call o now) (share.with_mail s m)) (sym told.1) (share.replied_shares now s m call.conn (Answered call.tag told.0) (delivers told.0 told.2) h)

-- what is kept of the connection stays, whether it has its reply or waits for it
pub answered_keeps : (done : List Deed) (call : Call) (bytes : List ℕ) (c : Connection) → Keeps (after_frame done call bytes) call.conn c → Keeps (answered done call bytes) call.conn c
answered_keeps done call bytes c k = here (body_to done call bytes)
  where
    here : (o : Option RBody) → Keeps (replied call o (after_frame done call bytes)) call.conn c
    here None = k
    here (Some body) = (keeps_all call.conn c).replies call.conn (Answered call.tag body) (after_frame done call bytes) k
