use Rattle.std.proofs.Common.{refl}
use Rattle.talks.specs.Calls as calls
use Rattle.agent_talks.proofs.CarryLemmas.{told_ready, resumed_speak}
use Rattle.agent_talks.proofs.BackLemmas.{back_speak}
use Rattle.agent_talks.proofs.held.Talks.key_told.Goals as goal

pub returns-in-Ok-clause-kept : goal.returns-in-Ok-clause-kept
returns-in-Ok-clause-kept c = λ done ready h asks.
    resumed_speak done c.args.self.now c.go_on.new.self c.args.conv calls.KeyTold c.args.asking c.args.ring.now c.in-Ok.field-0 refl asks ready c.in-Ok.ensures.kept c.in-Ok.ensures.goes h

pub returns-in-Ok-clause-ready : goal.returns-in-Ok-clause-ready
returns-in-Ok-clause-ready c = λ done ready h may.
    told_ready done c.args.self.now c.args.conv c.args.asking c.args.ring.now c.go_on.new.asks ready.stands may c.in-Ok.ensures.ready h

pub returns-in-Err-clause-back : goal.returns-in-Err-clause-back
returns-in-Err-clause-back c = λ done h. back_speak done c.args.self.now c.go_on.new.self c.args.conv c.in-Err.ensures.back h
