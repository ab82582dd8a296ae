use Rattle.std.proofs.Common.{refl, sym, ◌∙◌}
use Rattle.agent_talks.specs.declared.standing.Conversations.{Conversations}
use Rattle.agent_talks.specs.Asking.{AskingTalks}
use Rattle.agent_talks.specs.Keeps.{KeepingTalks}
use Rattle.agent_talks.specs.Logging.{Logs, asking_of, keeping_of}
use Rattle.agent_talks.proofs.AskingLemmas.{carried_tells}
use Rattle.agent_talks.proofs.MeetLemmas.{carried_converses}
use Rattle.agent_talks.proofs.MeetingLemmas.{carried_logs}
use Rattle.agent_talks.proofs.standing.Conversations.carry_out.Goals as goal

pub returns-clause-kept : goal.returns-clause-kept
returns-clause-kept c = λ done ready h.
    let a = c.args in
    let was = c.prepare.new.self in
    let has = sym (c.has_request.ensures done ready.stands h.tells.talks.speak) ∙ c.if-not-has_request.false in
    let ahead : Logs done was = c.prepare.ensures.same done h in
    let speak = ahead.tells.talks.speak in
    let talks : KeepingTalks = record { talks = c.carry_out.new.self; calls = c.end_if_over.new.calls } in
    let mid : Conversations = record { talks = talks.talks; calls = talks.calls; files = c.ask.new.files; ends = was.ends } in
    let converses = carried_converses done (keeping_of was) talks talks.talks a.conv c.raised-behind.result a.word ready.stands (c.raised-behind.ensures done speak)
    (c.in_ok-carry_out.ensures.kept done ready speak) c.end_if_over.ensures.calls refl ahead.tells.talks in
    let tells = carried_tells done (asking_of was) talks c.carry_out.new.asks c.ask.new.files a.conv a.word a.asking a.ring.now ready has
    (c.in_ok-carry_out.ensures.ready done ready speak has) c.in_ok-carry_out.ensures.asks converses (λ d k there. c.ask.ensures d there k.speak) ahead.tells in
    carried_logs done a.self.now mid c.log_talk.new.self a.conv a.word c.is_over_at-over.result c.in_ok-start.start ready.stands has (c.is_over_at-over.ensures done ready.stands speak)
    (c.in_ok-start.ensures.start done ready.stands h.tells) (c.in_ok-start.ensures.can done ready.stands h) c.prepare.ensures.others tells c.log_talk.ensures.told h
