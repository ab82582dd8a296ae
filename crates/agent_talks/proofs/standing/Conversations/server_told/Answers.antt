use Rattle.agent_talks.specs.Logging.{asking_of, keeping_of}
use Rattle.agent_talks.specs.Asking.{AskingTalks}
use Rattle.agent_talks.specs.Server.{call_of}
use Rattle.agent_talks.proofs.AskMeetLemmas.{over_tells}
use Rattle.agent_talks.proofs.MeetLemmas.{met_converses}
use Rattle.agent_talks.proofs.MeetingLemmas.{asker_logs}
use Rattle.agent_talks.proofs.ServerLemmas.{told_begins, told_leaves, told_rests}
use Rattle.std.proofs.Common.{refl}
use Rattle.agent_talks.proofs.standing.Conversations.server_told.Goals as goal

pub returns-clause-told : goal.returns-clause-told
returns-clause-told c = λ done h.
    let a = c.args in
    let call = call_of a.said in
    let asking : AskingTalks = record { talks = record { talks = c.tell_talks.new.talks; calls = c.end_asker.new.calls }; files = a.self.now.files } in
    let converses = met_converses done (keeping_of a.self.now) asking.talks c.tell_talks.new.talks c.asker-asker.result c.raised-behind.result a.call call (told_rests done a.said)
    (c.asker-asker.ensures.told done h.tells.talks.speak) (c.raised-behind.ensures done h.tells.talks.speak) (c.in_ok-tell_talks.ensures.told done h.tells.talks.speak) c.end_asker.ensures.calls refl h.tells.talks in
    let tells = over_tells done (asking_of a.self.now) asking.talks a.call call (told_rests done a.said) (told_leaves a.said) converses h.tells in
    asker_logs done a.self.now asking c.log_asker.new.self c.asker-asker.result a.call call c.is_asker_over-over.result (told_begins a.said) (c.asker-asker.ensures.told done h.tells.talks.speak) c.is_asker_over-over.ensures
    tells c.log_asker.ensures.told h
