use Rattle.std.proofs.Common.{sym, ◌∙◌}
use Rattle.agent_talks.proofs.CarryLemmas.{carried_ready, carried_speak}
use Rattle.agent_talks.proofs.BackLemmas.{back_speak}
use Rattle.agent_talks.proofs.held.Talks.carry_out.Goals as goal

pub returns-in-Ok-clause-kept : goal.returns-in-Ok-clause-kept
returns-in-Ok-clause-kept c = λ done ready h.
    carried_speak done c.args.self.now c.go_on.new.self c.args.conv c.args.word c.args.asking c.args.ring.now c.in-Ok.field-0
    (sym (c.has_request.ensures done ready.stands h) ∙ c.if-not-has_request.false) ready c.in-Ok.ensures.kept c.in-Ok.ensures.goes h

pub returns-in-Ok-clause-ready : goal.returns-in-Ok-clause-ready
returns-in-Ok-clause-ready c = λ done ready h has.
    carried_ready done c.args.self.now c.args.conv c.args.word c.args.asking c.args.ring.now c.go_on.new.asks ready.stands has c.in-Ok.ensures.ready h

pub returns-in-Err-clause-back : goal.returns-in-Err-clause-back
returns-in-Err-clause-back c = λ done h. back_speak done c.args.self.now c.go_on.new.self c.args.conv c.in-Err.ensures.back h
