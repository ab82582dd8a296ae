-- From what the calls on conversations and on mailboxes do to what the history says of an answer that is delivered.
use Rattle.std.proofs.Common.{◌≡◌, ℕ, List, false, Option, Some, None, sym, ap, subst, ◌∙◌}
use Rattle.std.specs.Prelude.{option_map}
use Rattle.nine.specs.declared.message.RBody.{RBody}
use Rattle.nine.specs.Messages.{r_frame}
use Rattle.talks.specs.Standings.{Phase, Resting, Waiting, Seeking, OnConfirm, OnNeedkey, OnServer, Kept}
use Rattle.agent_history.specs.Deeds.{Deed, was_hung}
use Rattle.agent_history.specs.Replies.{Wait}
use Rattle.agent_history.specs.Conversations.{Speaker, deliver_to, delivered, reader_of, speaker_of, standing_of, then_took, told}
use Rattle.agent_talks.specs.declared.tell.Told.{Told as Telling}
use Rattle.agent_talks.specs.Tells.{TellsBy, told_body}
use Rattle.mailboxes.specs.declared.reply.Reply.{Reply}
use Rattle.mailboxes.specs.declared.mailboxes.Mailboxes.{Mailboxes}
use Rattle.mailboxes.specs.Kept.{reply_bytes}
use Rattle.mailboxes.specs.declared.wait.Read.{Read}
use Rattle.mailboxes.specs.Deliveries.{read_of, under}
use Rattle.agent_requests.specs.declared.shared.Shared.{Shared}
use Rattle.agent_requests.specs.Sharing.{Shares}
use Rattle.agent_requests.proofs.OwnDeeds.{took_talks}
use Rattle.agent_requests.proofs.ShareLemmas.{hung_all, with_mail}
use Rattle.agent_requests.proofs.ServeSteps.{Settles, found_wait, no_wait, settled_shares}

some_body : (t : Telling) (body : RBody) → Some (told_body t) ≡ Some body → told_body t ≡ body
some_body t body e = cc

some_not : (t : Telling) → Some t ≡ None → ⊥
some_not t e = absurd cc

-- the reply tells it
pub told_reply : (tag : ℕ) (told : Telling) (body : RBody) (reply : Reply) → Some (told_body told) ≡ Some body → reply_bytes reply ≡ r_frame (under tag (told_body told)) → reply_bytes reply ≡ r_frame (under tag body)
told_reply tag told body reply e said = said ∙ ap (λ (b : RBody). r_frame (under tag b)) (some_body told body e)

-- what is known of what a conversation told a read
abbrev pub TellsShared : Phase → List Deed → Shared → ℕ → ℕ → Option Telling → Type 0
TellsShared phase done s conv count o = TellsBy (λ d. Shares d s) phase done conv count o

-- ---- nobody waits for the answer, or none is there

given_nobody : (done : List Deed) (conv : ℕ) (phase : Phase) (s : Speaker) (u : Shared) → reader_of done s ≡ None → Shares done u → Shares (deliver_to conv phase (Some s) done) u
given_nobody done conv (Kept answer) s u none h = rw none h
given_nobody done conv Resting s u none h = h
given_nobody done conv (Waiting request) s u none h = h
given_nobody done conv Seeking s u none h = h
given_nobody done conv (OnConfirm serial) s u none h = h
given_nobody done conv OnNeedkey s u none h = h
given_nobody done conv OnServer s u none h = h

given_nothing : (done : List Deed) (conv : ℕ) (phase : Phase) (s : Speaker) (count : ℕ) (u : Shared) → TellsShared phase done u conv count None → Shares (deliver_to conv phase (Some s) done) u
given_nothing done conv (Kept answer) s count u tells = absurd cc
given_nothing done conv Resting s count u tells = tells.1
given_nothing done conv (Waiting request) s count u tells = tells.1
given_nothing done conv Seeking s count u tells = tells.1
given_nothing done conv (OnConfirm serial) s count u tells = tells.1
given_nothing done conv OnNeedkey s count u tells = tells.1
given_nothing done conv OnServer s count u tells = tells.1

-- ---- one does

given_some : (done : List Deed) (conv : ℕ) (phase : Phase) (s : Speaker) (wait : Wait) (u : Shared) (m : Mailboxes) (t : Telling) (reply : Reply) → was_hung done s.conn ≡ false → reader_of done s ≡ Some wait → TellsShared phase done u conv wait.count (Some t)
    → Settles u.mailboxes m s.conn wait.tag reply → reply_bytes reply ≡ r_frame (under wait.tag (told_body t)) → Shares (deliver_to conv phase (Some s) done) (with_mail u m)
given_some done conv (Kept answer) s wait u m t reply live some tells settles said =
    let body : RBody = told wait.count answer in
    rw some (settled_shares (then_took conv wait.count answer done) u m s.conn wait.tag body reply
    (took_talks (λ now. was_hung now s.conn ≡ false) (hung_all s.conn).talks conv wait.count answer done live)
    (told_reply wait.tag t body reply tells.0 said) settles tells.1)
given_some done conv Resting s wait u m t reply live some tells settles said = absurd (some_not t tells.0)
given_some done conv (Waiting request) s wait u m t reply live some tells settles said = absurd (some_not t tells.0)
given_some done conv Seeking s wait u m t reply live some tells settles said = absurd (some_not t tells.0)
given_some done conv (OnConfirm serial) s wait u m t reply live some tells settles said = absurd (some_not t tells.0)
given_some done conv OnNeedkey s wait u m t reply live some tells settles said = absurd (some_not t tells.0)
given_some done conv OnServer s wait u m t reply live some tells settles said = absurd (some_not t tells.0)

-- ---- the same, by what is known of the speaker and of the read

pub given_read : (done : List Deed) (conv : ℕ) (s : Speaker) (read : Read) (u : Shared) (m : Mailboxes) (t : Telling) (reply : Reply) → was_hung done s.conn ≡ false → speaker_of done conv ≡ Some s → option_map read_of (reader_of done s) ≡ Some read
    → TellsShared (standing_of done conv).phase done u conv read.count (Some t) → Settles u.mailboxes m s.conn read.tag reply → reply_bytes reply ≡ r_frame (under read.tag (told_body t)) → Shares (delivered conv done) (with_mail u m)
given_read done conv s read u m t reply live is reads tells settles said =
    let found = found_wait (reader_of done s) read reads in
    let wait : Wait = found.0 in
    let same : read_of wait ≡ read = found.2 in
    rw is (given_some done conv (standing_of done conv).phase s wait u m t reply live found.1
    (subst (λ (r : Read). TellsShared (standing_of done conv).phase done u conv r.count (Some t)) (sym same) tells)
    (subst (λ (r : Read). Settles u.mailboxes m s.conn r.tag reply) (sym same) settles) (subst (λ (r : Read). reply_bytes reply ≡ r_frame (under r.tag (told_body t))) (sym same) said))

pub given_unread : (done : List Deed) (conv : ℕ) (s : Speaker) (u : Shared) → speaker_of done conv ≡ Some s → option_map read_of (reader_of done s) ≡ None → Shares done u → Shares (delivered conv done) u
given_unread done conv s u is none h = rw is (given_nobody done conv (standing_of done conv).phase s u (no_wait (reader_of done s) none) h)

pub given_untold : (done : List Deed) (conv : ℕ) (s : Speaker) (count : ℕ) (u : Shared) → speaker_of done conv ≡ Some s → TellsShared (standing_of done conv).phase done u conv count None → Shares (delivered conv done) u
given_untold done conv s count u is tells = rw is (given_nothing done conv (standing_of done conv).phase s count u tells)
