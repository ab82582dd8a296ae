use Rattle.std.proofs.Common.{refl}
use Rattle.agent_history.specs.Conversations.{standing_of}
use Rattle.agent_history.specs.Requests.{said_by}
use Rattle.agent_talks.specs.declared.files.LineFiles.{LineFiles}
use Rattle.agent_talks.specs.declared.standing.Conversations.{Conversations}
use Rattle.agent_talks.specs.Asking.{AskingTalks}
use Rattle.agent_talks.specs.Keeps.{KeepingTalks}
use Rattle.agent_talks.specs.Logging.{asking_of, keeping_of}
use Rattle.agent_talks.proofs.AskingLemmas.{same_files}
use Rattle.agent_talks.proofs.MeetLemmas.{answered_converses}
use Rattle.agent_talks.proofs.MeetingLemmas.{replied_logs}
use Rattle.agent_talks.proofs.ReplyLemmas.{replied_tells, said_begun, waits_asks}
use Rattle.agent_talks.proofs.standing.Conversations.reply.Goals as goal

pub returns-clause-kept : goal.returns-clause-kept
returns-clause-kept c = λ done is ready h.
    let a = c.args in
    let was = a.self.now in
    let files : LineFiles = record { asks = c.resume.new.asks; log = was.files.log; debug = was.files.debug } in
    let talks : KeepingTalks = record { talks = c.resume.new.talks; calls = c.end_if_over.new.calls } in
    let between : AskingTalks = record { talks = talks; files = files } in
    let mid : Conversations = record { talks = talks.talks; calls = talks.calls; files = c.reply.new.self; ends = was.ends } in
    let tells = replied_tells done (asking_of was) between c.ask.new.files c.reply.new.self a.kind a.tag a.conv a.agrees a.asking a.ring.now is ready
    (λ d now k asks. answered_converses d (keeping_of was) talks talks.talks a.conv c.raised-behind.result (said_by a.kind a.agrees) (said_begun a.kind a.agrees) (waits_asks (standing_of d a.conv).phase a.kind asks) now.stands (c.raised-behind.ensures d k.speak)
    (c.in_ok-resume.ensures.kept d now k.speak asks) c.end_if_over.ensures.calls refl k)
    (λ d now k asks. c.in_ok-resume.ensures.ready d now k.speak asks) (same_files done was.files c.resume.new.asks c.in_ok-resume.ensures.asks h.tells.files)
    (λ d there k. c.ask.ensures d there k.speak) c.reply.ensures.replied h.tells in
    replied_logs done was mid c.log_talk.new.self a.kind a.tag a.conv a.agrees c.is_over_at-over.result c.in_ok-start.start ready.stands (c.is_over_at-over.ensures done ready.stands h.tells.talks.speak)
    (c.in_ok-start.ensures done ready.stands h.tells) (λ q. refl) tells c.log_talk.ensures.told h
