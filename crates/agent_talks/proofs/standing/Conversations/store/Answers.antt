use Rattle.std.proofs.Common.{refl}
use Rattle.std.proofs.lemmas.Result.{on_err_weaker, on_ok_weaker}
use Rattle.talks.specs.Requests.{meant}
use Rattle.talks.specs.Calls.{Stored}
use Rattle.agent_talks.specs.Keeps.{KeepingTalks}
use Rattle.agent_talks.proofs.AskMeetLemmas.{met_tells}
use Rattle.agent_talks.proofs.DeedLemmas.{same_logs}
use Rattle.agent_talks.proofs.OtherDeedLemmas.{met_have}
use Rattle.agent_talks.proofs.SpeakLemmas.{same_speak}
use Rattle.agent_talks.proofs.TalkLemmas.{stored_keeps}
use Rattle.agent_talks.proofs.WaitLemmas.{stored_leaves}
use Rattle.agent_talks.proofs.standing.Conversations.store.Goals as goal

pub returns-clause-kept : goal.returns-clause-kept
returns-clause-kept c =
    let a = c.args in
    let talks : KeepingTalks = record { talks = c.store.new.self; calls = a.self.now.calls } in
    on_ok_weaker c.store.result (λ kept done there h. record {
      tells = met_tells done talks a.self.now.files a.conv (Stored (meant a.request)) (stored_leaves (meant a.request)) (record { speak = kept done there h.tells.talks.speak; calls = stored_keeps done a.self.now.calls a.conv (meant a.request) h.tells.talks.calls }) h.tells.files h.tells.users;
      ends = met_have done a.self.now a.conv (Stored (meant a.request)) refl h.ends;
    }) c.store.ensures.kept

pub returns-clause-same : goal.returns-clause-same
returns-clause-same c = on_err_weaker c.store.result (λ same. same_logs c.args.self.now c.store.new.self (λ done h. same_speak done c.args.self.now.talks c.store.new.self same h)) c.store.ensures.same
