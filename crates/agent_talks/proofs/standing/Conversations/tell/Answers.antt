use Rattle.agent_history.specs.Conversations.{standing_of}
use Rattle.agent_talks.specs.Keeps.{KeepingTalks}
use Rattle.agent_talks.specs.Asking.{AskingTalks}
use Rattle.agent_talks.specs.Logging.{asking_of}
use Rattle.agent_talks.proofs.AskMeetLemmas.{told_tells}
use Rattle.agent_talks.proofs.MeetLemmas.{told_converses}
use Rattle.agent_talks.proofs.OtherDeedLemmas.{told_logs}
use Rattle.agent_talks.proofs.standing.Conversations.tell.Goals as goal

pub returns-clause-tells : goal.returns-clause-tells
returns-clause-tells c = λ done there h.
    let a = c.args in
    let p = (standing_of done a.conv).phase in
    let talks : KeepingTalks = record { talks = c.tell.new.self; calls = a.self.now.calls } in
    let asking : AskingTalks = record { talks = talks; files = a.self.now.files } in
    told_logs p done a.self.now asking a.conv a.count c.tell.result h
    (told_tells p done (asking_of a.self.now) talks a.conv a.count c.tell.result h.tells
    (told_converses p done talks a.conv a.count c.tell.result h.tells.talks.calls (c.tell.ensures.tells done there h.tells.talks.speak)))
