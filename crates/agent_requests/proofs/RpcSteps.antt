-- From what the calls on conversations and on mailboxes do to what the history says of a read or a write of rpc.
use Rattle.std.proofs.Common.{◌≡◌, ◌⊎◌, ℕ, List, ◌∷◌, true, false, not, ◌&&◌, Option, Some, None, Ok, Err, refl, sym, ap, subst, ◌∙◌, inl, inr}
use Rattle.std.specs.Prelude.{length}
use Rattle.nine.specs.declared.message.RBody.{RBody}
use Rattle.nine.specs.declared.message.RBody.TheVariants as r
use Rattle.nine.specs.Messages.{r_frame}
use Rattle.talks.specs.Requests.{RpcRequest}
use Rattle.talks.specs.Requests as rpc
use Rattle.talks.specs.declared.request.RpcFault.TheVariants.{TooLong, UnknownVerb}
use Rattle.talks.specs.Standings.{Phase, Resting, Waiting, Seeking, OnConfirm, OnNeedkey, OnServer, Kept}
use Rattle.agent_history.specs.Deeds.{Deed, OfReplies, Awaited}
use Rattle.agent_history.specs.Replies.{waits_for}
use Rattle.agent_history.specs.Conversations.{conv_of, told}
use Rattle.agent_history.specs.Requests.{Call, answer_read, has_answer, is_resting, phase_of, reading_answer, stored, waits_enough}
use Rattle.agent_talks.specs.declared.tell.Told.{Told as Telling}
use Rattle.agent_talks.specs.Tells.{TellsBy, told_body}
use Rattle.mailboxes.specs.declared.mailboxes.Mailboxes.{Mailboxes}
use Rattle.mailboxes.specs.declared.reply.Reply.{Reply}
use Rattle.mailboxes.specs.Kept.{reply_bytes}
use Rattle.mailboxes.specs.Deliveries.{Delivers, under}
use Rattle.agent_requests.specs.declared.shared.Shared.{Shared}
use Rattle.agent_requests.specs.Sharing.{Shares}
use Rattle.agent_requests.proofs.ShareLemmas.{replied_shares, with_mail}
use Rattle.agent_requests.specs.declared.refused.Refused.{Refused}
use Rattle.agent_requests.specs.declared.refused.Refused.TheVariants as e
use Rattle.agent_requests.specs.declared.refused.Refusal.{Refusal}
use Rattle.agent_requests.specs.declared.refused.Refusal.TheVariants as f
use Rattle.agent_requests.specs.Connections.{Says, Told, refusal_text}
use Rattle.agent_requests.specs.RpcRequests.{Answered, ReadServed, ReadTold, WriteServed, WriteTold, read_refusal, write_refusal}
use Rattle.agent_requests.proofs.RequestSteps.{told_served}

-- ---- a read is told an answer, or waits for it

some_body : (t : Telling) (body : RBody) → Some (told_body t) ≡ Some body → told_body t ≡ body
some_body t body e = cc

some_not : (t : Telling) → Some t ≡ None → ⊥
some_not t e = absurd cc

told_reply : (tag : ℕ) (told : Telling) (body : RBody) (reply : Reply) → told_body told ≡ body → reply_bytes reply ≡ r_frame (under tag (told_body told)) → reply_bytes reply ≡ r_frame (under tag body)
told_reply tag told body reply e said = said ∙ ap (λ (b : RBody). r_frame (under tag b)) e

pub told_some : (done : List Deed) (call : Call) (fid count conv : ℕ) (phase : Phase) (u : Shared) (t : Telling) (reply : Reply) → TellsBy (λ d. Shares d u) phase done conv count (Some t) → reply_bytes reply ≡ r_frame (under call.tag (told_body t))
    → Shares (reading_answer call conv fid count phase done) u × Says call.tag (answer_read count phase) (Some reply)
told_some done call fid count conv (Kept answer) u t reply tells said = (tells.1, told_reply call.tag t (told count answer) reply (some_body t (told count answer) tells.0) said)
told_some done call fid count conv Resting u t reply tells said = absurd (some_not t tells.0)
told_some done call fid count conv (Waiting request) u t reply tells said = absurd (some_not t tells.0)
told_some done call fid count conv Seeking u t reply tells said = absurd (some_not t tells.0)
told_some done call fid count conv (OnConfirm serial) u t reply tells said = absurd (some_not t tells.0)
told_some done call fid count conv OnNeedkey u t reply tells said = absurd (some_not t tells.0)
told_some done call fid count conv OnServer u t reply tells said = absurd (some_not t tells.0)

-- a read waits for its reply
abbrev pub Awaits : List Deed → Call → ℕ → ℕ → Shared → Mailboxes → Type 0
Awaits done call fid count s m = Delivers done s.mailboxes → Delivers (OfReplies call.conn (Awaited call.tag fid count) ∷ done) m

pub waits_on : (done : List Deed) (call : Call) (fid count : ℕ) (s : Shared) (m : Mailboxes) → Shares done s → Awaits done call fid count s m → Shares (OfReplies call.conn (Awaited call.tag fid count) ∷ done) (with_mail s m)
waits_on done call fid count s m h awaits = replied_shares done s m call.conn (Awaited call.tag fid count) (awaits h.mail) h

pub told_none : (done : List Deed) (call : Call) (fid count conv : ℕ) (phase : Phase) (s : Shared) (m : Mailboxes) → TellsBy (λ d. Shares d s) phase done conv count None → Awaits done call fid count s m
    → Shares (reading_answer call conv fid count phase done) (with_mail s m) × Says call.tag (answer_read count phase) None
told_none done call fid count conv (Kept answer) s m tells awaits = absurd cc
told_none done call fid count conv Resting s m tells awaits = (waits_on done call fid count s m tells.1 awaits, tt)
told_none done call fid count conv (Waiting request) s m tells awaits = (waits_on done call fid count s m tells.1 awaits, tt)
told_none done call fid count conv Seeking s m tells awaits = (waits_on done call fid count s m tells.1 awaits, tt)
told_none done call fid count conv (OnConfirm serial) s m tells awaits = (waits_on done call fid count s m tells.1 awaits, tt)
told_none done call fid count conv OnNeedkey s m tells awaits = (waits_on done call fid count s m tells.1 awaits, tt)
told_none done call fid count conv OnServer s m tells awaits = (waits_on done call fid count s m tells.1 awaits, tt)

-- ---- a read

pub refused : (o : Option (List ℕ)) (S : Option Reply → Type 0) (why : Refusal) → o ≡ Some (refusal_text why) → Told o S (Err (e.For why))
refused o S why is = subst (λ (p : Option (List ℕ)). Told p S (Err (e.For why))) (sym is) refl

pub read_busy : (done : List Deed) (call : Call) (fid count : ℕ) (s : Shared) → waits_for done call.conn fid ≡ true → ReadTold done call fid count s (Err (e.For f.RpcBusy))
read_busy done call fid count s busy = refused _ _ f.RpcBusy (rw busy refl)

pub read_resting : (done : List Deed) (call : Call) (fid count : ℕ) (s : Shared) → waits_for done call.conn fid ≡ false → is_resting (phase_of done call.conn fid) ≡ true → ReadTold done call fid count s (Err (e.For f.NoRpcPending))
read_resting done call fid count s busy resting = refused _ _ f.NoRpcPending (rw (busy, resting) refl)

pub read_crowded : (done : List Deed) (call : Call) (fid count : ℕ) (s : Shared) → waits_for done call.conn fid ≡ false → is_resting (phase_of done call.conn fid) ≡ false → has_answer (phase_of done call.conn fid) ≡ false → waits_enough done call.conn ≡ true
    → ReadTold done call fid count s (Err (e.For f.TooManyWaiting))
read_crowded done call fid count s busy resting answer enough = refused _ _ f.TooManyWaiting (rw (busy, resting, answer, enough) refl)

-- a fid without a conversation rests
pub resting_none : (done : List Deed) (conn fid : ℕ) → conv_of done conn fid ≡ None → is_resting (phase_of done conn fid) ≡ true
resting_none done conn fid none = rw none refl

pub read_through : (done : List Deed) (call : Call) (fid count conv : ℕ) (s : Shared) (reply : Option Reply) → waits_for done call.conn fid ≡ false → is_resting (phase_of done call.conn fid) ≡ false → (not (has_answer (phase_of done call.conn fid)) && waits_enough done call.conn) ≡ false
    → conv_of done call.conn fid ≡ Some conv → Answered done call fid count conv s reply → ReadTold done call fid count s (Ok reply)
read_through done call fid count conv s reply busy resting crowded found answered =
    told_served (read_refusal done call.conn fid) (ReadServed done call fid count s) reply (rw (busy, resting, crowded) refl)
    (record { shares = rw found answered.shares; said = rw found answered.said })

-- ---- a write

pub write_busy : (done : List Deed) (call : Call) (fid : ℕ) (content : List ℕ) (s : Shared) → is_resting (phase_of done call.conn fid) ≡ false → WriteTold done call fid content s (Err (e.For f.RpcBusy))
write_busy done call fid content s busy = refused _ _ f.RpcBusy (rw busy refl)

pub write_refused : (done : List Deed) (call : Call) (fid : ℕ) (content : List ℕ) (s : Shared) (why : Refused) → is_resting (phase_of done call.conn fid) ≡ true
    → ((why ≡ e.For f.RpcTooLong) × (rpc.request_of content ≡ Err TooLong)) ⊎ ((why ≡ e.For f.UnknownRpcVerb) × (rpc.request_of content ≡ Err UnknownVerb)) → WriteTold done call fid content s (Err why)
write_refused done call fid content s why resting (inl long) = subst (λ (w : Refused). WriteTold done call fid content s (Err w)) (sym long.0) (refused (write_refusal done call.conn fid content) (WriteServed done call fid content s) f.RpcTooLong (rw (resting, long.1) refl))
write_refused done call fid content s why resting (inr unknown) = subst (λ (w : Refused). WriteTold done call fid content s (Err w)) (sym unknown.0) (refused (write_refusal done call.conn fid content) (WriteServed done call fid content s) f.UnknownRpcVerb (rw (resting, unknown.1) refl))

pub write_through : (done : List Deed) (call : Call) (fid : ℕ) (content : List ℕ) (request : RpcRequest) (s : Shared) (reply : Reply) → is_resting (phase_of done call.conn fid) ≡ true → rpc.request_of content ≡ Ok request
    → Shares (stored (conv_of done call.conn fid) (Ok request) done) s → reply_bytes reply ≡ r_frame (under call.tag (r.Write (length content))) → WriteTold done call fid content s (Ok (Some reply))
write_through done call fid content request s reply resting is shares said =
    told_served (write_refusal done call.conn fid content) (WriteServed done call fid content s) (Some reply) (rw (resting, is) refl) (record { shares = rw is shares; said = said })
