-- What holds before conversations meet something, reads are served and files are closed, and after each deed that this may
-- come to, holds after it.
use Rattle.std.proofs.Common.{ℕ, zero, suc, List, [], ◌∷◌, Bool, true, false, cond, Option, Some, None, length}
use Rattle.std.specs.Prelude.{is_some}
use Rattle.file_tree.specs.declared.tree.Node.{Node}
use Rattle.file_tree.specs.declared.tree.Node.TheVariants as n
use Rattle.talks.specs.declared.answer.RpcAnswer.{RpcAnswer}
use Rattle.side_files.specs.declared.line.PromptKind.{PromptKind}
use Rattle.side_files.specs.declared.line.PromptKind.TheVariants as k
use Rattle.side_files.specs.Calls as side
use Rattle.side_files.specs.Lines.{Found, Nothing, TooLong, First, found}
use Rattle.talks.specs.Calls as calls
use Rattle.talks.specs.Lines.{log_lines}
use Rattle.talks.specs.Standings.{Phase, Resting, Waiting, Seeking, OnConfirm, OnNeedkey, OnServer, Kept}
use Rattle.agent_history.specs.Deeds.{Deed, ReplyDeed, OfReplies, OfTalk, OfPrompts, OfLog, Raised, Swept, Settled, holder_of, is_debug}
use Rattle.agent_history.specs.Replies.{Wait, has_settled, reader, swept, waits}
use Rattle.agent_history.specs.SideFiles.{all_served, askers, file_of, line_read, lines_in, serve_first, serve_read, serve_reads, served, served_to}
use Rattle.agent_history.specs.Conversations.{Speaker, all_shut, all_withdrawn, closed, deliver_to, delivered, ended_by, fits, give_to, given_up_by, logged, met, reader_of, resumed, shut, speaker_of, standing_of, then_took, told}
use Rattle.agent_history.specs.Requests.{carried, carrying_out}
use Rattle.agent_talks.specs.Speaks.{talked}
use Rattle.agent_talks.proofs.GrowLemmas.{TalksKeep, met_keeps}
use Rattle.agent_talks.specs.Logging.{logged_by, logged_talk}

-- ---- deeds of conversations, of their questions and the log, and of replies

pub record OfTalks (P : List Deed → Type 0) : Type 0 where
  pub talk : (conv : ℕ) (call : calls.Call) (done : List Deed) → P done → P (OfTalk conv call ∷ done)
  pub asked : (kind : PromptKind) (call : side.Call) (done : List Deed) → P done → P (OfPrompts kind call ∷ done)
  pub logged : (call : side.LogCall) (done : List Deed) → P done → P (OfLog call ∷ done)
  pub raised : (conv : ℕ) (done : List Deed) → P done → P (Raised conv ∷ done)

pub record OfAll (P : List Deed → Type 0) : Type 0 where
  pub talks : OfTalks P
  pub replies : (at : ℕ) (deed : ReplyDeed) (done : List Deed) → P done → P (OfReplies at deed ∷ done)
  pub swept : (done : List Deed) → P done → P (Swept ∷ done)

-- ---- what a conversation meets

keeps_of : (P : List Deed → Type 0) → OfTalks P → TalksKeep P
keeps_of P talks = record { met = λ done conv call h. talks.talk conv call done h; asked = λ done kind call h. talks.asked kind call done h; raised = λ done conv h. talks.raised conv done h }

lines_talks : (P : List Deed → Type 0) → OfTalks P → (lines : List (List ℕ)) (done : List Deed) → P done → P (logged lines done)
lines_talks P talks [] done h = h
lines_talks P talks (line ∷ more) done h = lines_talks P talks more (OfLog (side.Pushed line) ∷ done) (talks.logged (side.Pushed line) done h)

pub logged_talks : (P : List Deed → Type 0) → OfTalks P → (conv : ℕ) (call : calls.Call) (done : List Deed) → P done → P (logged_talk conv call done)
logged_talks P talks conv call done h =
    let now : List Deed = talked conv call done in
    lines_talks P talks (log_lines (is_debug now) conv (standing_of done conv) (standing_of now conv)) now (met_keeps P (keeps_of P talks) done conv call h)

pub logged_by_talks : (P : List Deed → Type 0) → OfTalks P → (conv : Option ℕ) (call : calls.Call) (done : List Deed) → P done → P (logged_by conv call done)
logged_by_talks P talks None call done h = h
logged_by_talks P talks (Some conv) call done h = logged_talks P talks conv call done h

pub took_talks : (P : List Deed → Type 0) → OfTalks P → (conv count : ℕ) (answer : RpcAnswer) (done : List Deed) → P done → P (then_took conv count answer done)
took_talks P talks conv count answer done h = here (fits count answer)
  where
    here : (b : Bool) → P (cond b (OfTalk conv calls.Took ∷ done) done)
    here true = talks.talk conv calls.Took done h
    here false = h

pub withdrawn_talks : (P : List Deed → Type 0) → OfTalks P → (convs : List ℕ) (done : List Deed) → P done → P (all_withdrawn convs done)
withdrawn_talks P talks [] done h = h
withdrawn_talks P talks (conv ∷ more) done h =
    let once : List Deed = OfPrompts k.Confirm (side.Withdrawn conv) ∷ done in
    withdrawn_talks P talks more (OfPrompts k.Needkey (side.Withdrawn conv) ∷ once) (talks.asked k.Needkey (side.Withdrawn conv) once (talks.asked k.Confirm (side.Withdrawn conv) done h))

-- ---- reads that wait for a line

pub read_talks : (P : List Deed → Type 0) → OfTalks P → (node : Node) (done : List Deed) → P done → P (line_read node done)
read_talks P talks n.Confirm done h = talks.asked k.Confirm side.Read done h
read_talks P talks n.Needkey done h = talks.asked k.Needkey side.Read done h
read_talks P talks n.Log done h = talks.logged side.Taken done h
read_talks P talks n.Root done h = h
read_talks P talks n.Factotum done h = h
read_talks P talks n.Rpc done h = h
read_talks P talks n.Ctl done h = h
read_talks P talks n.Proto done h = h

told_all : (P : List Deed → Type 0) → OfAll P → (node : Node) (conn tag : ℕ) (f : Found) (done : List Deed) → P done → P (serve_read node conn tag f done)
told_all P all node conn tag Nothing done h = h
told_all P all node conn tag TooLong done h = all.replies conn _ done h
told_all P all node conn tag (First line) done h = all.replies conn _ (line_read node done) (read_talks P all.talks node done h)

first_all : (P : List Deed → Type 0) → OfAll P → (node : Node) (conn : ℕ) (o : Option Wait) (done : List Deed) → P done → P (serve_first node conn o done)
first_all P all node conn None done h = h
first_all P all node conn (Some wait) done h = told_all P all node conn wait.tag (found wait.count (lines_in done node)) done h

pub served_first_all : (P : List Deed → Type 0) → OfAll P → (node : Node) (conn fid : ℕ) (done : List Deed) → P done → P (serve_first node conn (reader done conn fid) done)
served_first_all P all node conn fid done h = first_all P all node conn (reader done conn fid) done h

reads_all : (P : List Deed → Type 0) → OfAll P → (most : ℕ) (node : Node) (conn fid : ℕ) (done : List Deed) → P done → P (serve_reads most node conn fid done)
reads_all P all zero node conn fid done h = h
reads_all P all (suc most) node conn fid done h = reads_all P all most node conn fid (serve_first node conn (reader done conn fid) done) (served_first_all P all node conn fid done h)

served_to_all : (P : List Deed → Type 0) → OfAll P → (node : Node) (holder : Option (ℕ × ℕ)) (done : List Deed) → P done → P (served_to node holder done)
served_to_all P all node None done h = h
served_to_all P all node (Some holder) done h = reads_all P all (length (waits done holder.0)) node holder.0 holder.1 done h

served_all : (P : List Deed → Type 0) → OfAll P → (node : Node) (done : List Deed) → P done → P (served node done)
served_all P all node done h = served_to_all P all node (holder_of done node) done h

pub all_served_all : (P : List Deed → Type 0) → OfAll P → (done : List Deed) → P done → P (all_served done)
all_served_all P all done h =
    let one : List Deed = served n.Confirm done in
    let two : List Deed = served n.Needkey one in
    served_all P all n.Log two (served_all P all n.Needkey one (served_all P all n.Confirm done h))

pub met_all : (P : List Deed → Type 0) → OfAll P → (conv : ℕ) (call : calls.Call) (done : List Deed) → P done → P (met conv call done)
met_all P all conv call done h = all_served_all P all (logged_talk conv call done) (logged_talks P all.talks conv call done h)

carrying_all : (P : List Deed → Type 0) → OfAll P → (conv : ℕ) (word : List ℕ) (phase : Phase) (done : List Deed) → P done → P (carrying_out conv word phase done)
carrying_all P all conv word (Waiting request) done h = met_all P all conv (calls.CarriedOut word) done h
carrying_all P all conv word Resting done h = h
carrying_all P all conv word Seeking done h = h
carrying_all P all conv word (OnConfirm serial) done h = h
carrying_all P all conv word OnNeedkey done h = h
carrying_all P all conv word OnServer done h = h
carrying_all P all conv word (Kept answer) done h = h

pub carried_all : (P : List Deed → Type 0) → OfAll P → (conv : ℕ) (word : List ℕ) (done : List Deed) → P done → P (carried conv word done)
carried_all P all conv word done h = carrying_all P all conv word (standing_of done conv).phase done h

-- ---- answers

-- deeds by which answers are delivered
pub record OfAnswers (P : List Deed → Type 0) : Type 0 where
  pub talk : (conv : ℕ) (call : calls.Call) (done : List Deed) → P done → P (OfTalk conv call ∷ done)
  pub replies : (at : ℕ) (deed : ReplyDeed) (done : List Deed) → P done → P (OfReplies at deed ∷ done)

took_answers : (P : List Deed → Type 0) → OfAnswers P → (conv count : ℕ) (answer : RpcAnswer) (done : List Deed) → P done → P (then_took conv count answer done)
took_answers P own conv count answer done h = here (fits count answer)
  where
    here : (b : Bool) → P (cond b (OfTalk conv calls.Took ∷ done) done)
    here true = own.talk conv calls.Took done h
    here false = h

given_answers : (P : List Deed → Type 0) → OfAnswers P → (conv conn : ℕ) (answer : RpcAnswer) (wait : Option Wait) (done : List Deed) → P done → P (give_to conv conn answer wait done)
given_answers P own conv conn answer None done h = h
given_answers P own conv conn answer (Some wait) done h = own.replies conn (Settled wait.tag (told wait.count answer)) (then_took conv wait.count answer done) (took_answers P own conv wait.count answer done h)

deliver_answers : (P : List Deed → Type 0) → OfAnswers P → (conv : ℕ) (phase : Phase) (s : Option Speaker) (done : List Deed) → P done → P (deliver_to conv phase s done)
deliver_answers P own conv (Kept answer) (Some s) done h = given_answers P own conv s.conn answer (reader_of done s) done h
deliver_answers P own conv (Kept answer) None done h = h
deliver_answers P own conv Resting s done h = h
deliver_answers P own conv (Waiting request) s done h = h
deliver_answers P own conv Seeking s done h = h
deliver_answers P own conv (OnConfirm serial) s done h = h
deliver_answers P own conv OnNeedkey s done h = h
deliver_answers P own conv OnServer s done h = h

pub delivered_answers : (P : List Deed → Type 0) → OfAnswers P → (conv : ℕ) (done : List Deed) → P done → P (delivered conv done)
delivered_answers P own conv done h = deliver_answers P own conv (standing_of done conv).phase (speaker_of done conv) done h

pub delivered_all : (P : List Deed → Type 0) → OfAll P → (conv : ℕ) (done : List Deed) → P done → P (delivered conv done)
delivered_all P all conv done h = delivered_answers P (record { talk = all.talks.talk; replies = all.replies }) conv done h

pub resumed_all : (P : List Deed → Type 0) → OfAll P → (conv : Option ℕ) (call : calls.Call) (done : List Deed) → P done → P (resumed conv call done)
resumed_all P all None call done h = h
resumed_all P all (Some conv) call done h = delivered_all P all conv (met conv call done) (met_all P all conv call done h)

-- ---- ends

pub shut_all : (P : List Deed → Type 0) → OfAll P → (kind : PromptKind) (conv : ℕ) (done : List Deed) → P done → P (shut kind conv done)
shut_all P all kind conv done h =
    let withdrawn : List Deed = OfPrompts kind (side.Withdrawn conv) ∷ done in
    delivered_all P all conv (OfTalk conv calls.Shut ∷ withdrawn) (all.talks.talk conv calls.Shut withdrawn (all.talks.asked kind (side.Withdrawn conv) done h))

all_shut_all : (P : List Deed → Type 0) → OfAll P → (kind : PromptKind) (convs : List ℕ) (done : List Deed) → P done → P (all_shut kind convs done)
all_shut_all P all kind [] done h = h
all_shut_all P all kind (conv ∷ more) done h = all_shut_all P all kind more (shut kind conv done) (shut_all P all kind conv done h)

pub closed_all : (P : List Deed → Type 0) → OfAll P → (kind : PromptKind) (done : List Deed) → P done → P (closed kind done)
closed_all P all kind done h = here (is_some (holder_of done (file_of kind)))
  where
    here : (b : Bool) → P (cond b done (all_shut kind (askers done kind) done))
    here true = h
    here false = all_shut_all P all kind (askers done kind) done h

-- fids are given up by a deed that keeps it
pub ended_all : (P : List Deed → Type 0) → OfAll P → (deed : Deed) (done : List Deed) → ((before : List Deed) → P before → P (deed ∷ before)) → P done → P (given_up_by deed done)
ended_all P all deed done ends h =
    let withdrawn : List Deed = all_withdrawn (ended_by deed done) done in
    let one : List Deed = deed ∷ withdrawn in
    closed_all P all k.Needkey (closed k.Confirm one) (closed_all P all k.Confirm one (ends withdrawn (withdrawn_talks P all.talks (ended_by deed done) done h)))

-- ---- a sweep

pub swept_by : (P : List Deed → Type 0) → ((done : List Deed) → P done → P (Swept ∷ done)) → (done : List Deed) → P done → P (swept done)
swept_by P sweeps done h = here (has_settled done)
  where
    here : (b : Bool) → P (cond b (Swept ∷ done) done)
    here true = sweeps done h
    here false = h
