use Rattle.std.proofs.lemmas.Result.{on_err_weaker, on_ok_weaker}
use Rattle.agent_talks.specs.Logging.{asking_of}
use Rattle.agent_talks.proofs.AskOtherLemmas.{opened_tells}
use Rattle.agent_talks.proofs.DeedLemmas.{same_logs}
use Rattle.agent_talks.proofs.OtherCalls.{opened_keeps}
use Rattle.agent_talks.proofs.OtherDeedLemmas.{opened_have}
use Rattle.agent_talks.proofs.SpeakLemmas.{same_speak}
use Rattle.agent_talks.proofs.standing.Conversations.open.Goals as goal

pub returns-clause-opened : goal.returns-clause-opened
returns-clause-opened c =
    let a = c.args in
    on_ok_weaker c.open.result (λ opened done mode named h. record {
      tells = opened_tells done (asking_of a.self.now) (record { talks = c.open.new.self; calls = a.self.now.calls }) a.conn a.fid mode
          (record { speak = opened done mode named h.tells.talks.speak; calls = opened_keeps done a.self.now.calls a.conn a.fid mode h.tells.talks.calls }) h.tells;
      ends = opened_have done a.self.now a.conn a.fid mode h.tells.talks.speak named h.ends;
    }) c.open.ensures.opened

pub returns-clause-same : goal.returns-clause-same
returns-clause-same c = on_err_weaker c.open.result (λ same. same_logs c.args.self.now c.open.new.self (λ done h. same_speak done c.args.self.now.talks c.open.new.self same h)) c.open.ensures.same
