use Rattle.agent_talks.specs.declared.standing.Conversations.{Conversations}
use Rattle.agent_talks.proofs.EndingLemmas.{ended_logs}
use Rattle.agent_talks.proofs.standing.Conversations.end.Goals as goal

pub returns : goal.returns
returns c = λ done deed is h.
    let new : Conversations = record { talks = c.end.new.self; calls = c.leave.new.self; files = c.withdraw_all.new.files; ends = c.drop_lines.new.ends } in
    ended_logs done c.args.self.now new c.raised-behind.result c.leavers-leavers.result.now deed c.args.leaving is
    (λ d speak. c.raised-behind.ensures d speak) c.leavers-leavers.ensures (λ d speak. c.end.ensures d deed is speak) c.leave.ensures c.withdraw_all.ensures c.drop_lines.ensures h
