-- From what the calls on the files of lines and on mailboxes do to what the history says of a read or a write of such a file.
use Rattle.std.proofs.Common.{◌≡◌, ℕ, List, ◌∷◌, true, false, Option, Some, None, Result, Ok, Err, refl, sym, subst}
use Rattle.std.specs.Prelude.{length}
use Rattle.nine.specs.declared.message.RBody.TheVariants as r
use Rattle.nine.specs.Messages.{r_frame}
use Rattle.file_tree.specs.declared.tree.Node.{Node}
use Rattle.side_files.specs.Calls as side
use Rattle.side_files.specs.declared.line.PromptKind.{PromptKind}
use Rattle.side_files.specs.declared.reply.Reply.{Reply as Answer}
use Rattle.side_files.specs.declared.fault.TooSmall.{TooSmall}
use Rattle.side_files.specs.Lines.{Found, Nothing, TooLong, First, Hands, found, if_handed}
use Rattle.side_files.specs.Questions.{asker_of}
use Rattle.side_files.specs.Replies as prompt
use Rattle.agent_history.specs.Deeds.{Deed, OfPrompts}
use Rattle.agent_history.specs.Conversations.{resumed}
use Rattle.agent_history.specs.SideFiles.{line_read, lines_in, prompts_of}
use Rattle.agent_history.specs.Requests.{Call, said_by, waits_enough}
use Rattle.mailboxes.specs.declared.mailboxes.Mailboxes.{Mailboxes}
use Rattle.mailboxes.specs.declared.reply.Reply.{Reply}
use Rattle.mailboxes.specs.Kept.{reply_bytes}
use Rattle.mailboxes.specs.Deliveries.{under}
use Rattle.agent_requests.specs.declared.shared.Shared.{Shared}
use Rattle.agent_requests.specs.Sharing.{Shares}
use Rattle.agent_requests.proofs.ShareLemmas.{with_mail}
use Rattle.agent_requests.specs.declared.refused.Refused.{Refused}
use Rattle.agent_requests.specs.declared.refused.Refused.TheVariants as e
use Rattle.agent_requests.specs.declared.refused.Refusal.TheVariants as f
use Rattle.agent_requests.specs.LineRequests.{LineServed, LineTold, ReplyServed, ReplyTold, line_refusal, reply_refusal}
use Rattle.agent_requests.proofs.RequestSteps.{told_served}
use Rattle.agent_requests.proofs.RpcSteps.{Awaits, refused, waits_on}

-- ---- a read of a file of lines

pub line_first : (done : List Deed) (call : Call) (fid count : ℕ) (node : Node) (what : Found) (line : List ℕ) (s : Shared) (reply : Reply) → what ≡ First line → Shares (line_read node done) s → reply_bytes reply ≡ r_frame (under call.tag (r.Read line))
    → LineTold done call fid count node what s (Ok (Some reply))
line_first done call fid count node what line s reply is shares said = subst (λ (now : Found). LineTold done call fid count node now s (Ok (Some reply))) (sym is) (record { shares = shares; said = said })

pub line_too_long : (done : List Deed) (call : Call) (fid count : ℕ) (node : Node) (what : Found) (s : Shared) → what ≡ TooLong → LineTold done call fid count node what s (Err (e.For f.ReadTooSmall))
line_too_long done call fid count node what s is = subst (λ (now : Found). LineTold done call fid count node now s (Err (e.For f.ReadTooSmall))) (sym is) refl

-- no line is there
pub line_crowded : (done : List Deed) (call : Call) (fid count : ℕ) (node : Node) (s : Shared) → waits_enough done call.conn ≡ true → LineTold done call fid count node Nothing s (Err (e.For f.TooManyWaiting))
line_crowded done call fid count node s enough = refused _ _ f.TooManyWaiting (rw enough refl)

pub line_waits : (done : List Deed) (call : Call) (fid count : ℕ) (node : Node) (s : Shared) (m : Mailboxes) → waits_enough done call.conn ≡ false → Shares done s → Awaits done call fid count s m → LineTold done call fid count node Nothing (with_mail s m) (Ok None)
line_waits done call fid count node s m enough h awaits = told_served (line_refusal done call.conn Nothing) (LineServed done call fid count node Nothing (with_mail s m)) None (rw enough refl) (record { shares = waits_on done call fid count s m h awaits; said = tt })

-- nothing is handed out where no line is there, and nothing is different
pub line_none : (done : List Deed) (call : Call) (fid count : ℕ) (node : Node) (handed : Result (Option (List ℕ)) TooSmall) (s u : Shared) (result : Result (Option Reply) Refused) → handed ≡ Ok None → Hands (found count (lines_in done node)) handed → Shares (if_handed handed (line_read node done) done) s
    → (Shares done s → LineTold done call fid count node Nothing u result) → LineTold done call fid count node (found count (lines_in done node)) u result
line_none done call fid count node handed s u result is hands shares told =
    let what : found count (lines_in done node) ≡ Nothing = subst (λ (h : Result (Option (List ℕ)) TooSmall). Hands (found count (lines_in done node)) h) is hands in
    let same : Shares done s = subst (λ (h : Result (Option (List ℕ)) TooSmall). Shares (if_handed h (line_read node done) done) s) is shares in
    subst (λ (now : Found). LineTold done call fid count node now u result) (sym what) (told same)

-- ---- a reply to a question

pub reply_bad : (done : List Deed) (call : Call) (kind : PromptKind) (content : List ℕ) (s : Shared) → prompt.reply_of content ≡ None → ReplyTold done call kind content s (Err (e.For f.BadReply))
reply_bad done call kind content s none = refused _ _ f.BadReply (rw none refl)

pub reply_unknown : (done : List Deed) (call : Call) (kind : PromptKind) (content : List ℕ) (answer : Answer) (s : Shared) → prompt.reply_of content ≡ Some answer → asker_of answer.tag (prompts_of done kind) ≡ None → ReplyTold done call kind content s (Err (e.For f.UnknownTag))
reply_unknown done call kind content answer s is none = refused _ _ f.UnknownTag (rw (is, none) refl)

pub reply_through : (done : List Deed) (call : Call) (kind : PromptKind) (content : List ℕ) (answer : Answer) (conv : ℕ) (s : Shared) (reply : Reply) → prompt.reply_of content ≡ Some answer → asker_of answer.tag (prompts_of done kind) ≡ Some conv
    → Shares (resumed (Some conv) (said_by kind answer.agrees) (OfPrompts kind (side.Replied answer.tag) ∷ done)) s → reply_bytes reply ≡ r_frame (under call.tag (r.Write (length content))) → ReplyTold done call kind content s (Ok (Some reply))
reply_through done call kind content answer conv s reply is asked shares said = told_served (reply_refusal done kind (prompt.reply_of content)) (ReplyServed done call kind content s) (Some reply) (rw (is, asked) refl) (record { shares = rw (is, asked) shares; said = said })
