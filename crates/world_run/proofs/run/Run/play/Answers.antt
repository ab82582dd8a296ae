use Rattle.std.proofs.Common.{◌∷◌}
use Rattle.world_run.proofs.PlayingLemmas.{ends_bad, ends_cut, ends_part}
use Rattle.world_run.proofs.run.Run.play.Goals as goal

pub returns-in-Err-WriteFault-clause-played : goal.returns-in-Err-WriteFault-clause-played
returns-in-Err-WriteFault-clause-played g c = λ acts h.
    ends_cut (record { number = c.args.line.number; text = c.args.line.text.now }) c.args.left.now acts _ c.args.self.now c.do_noted.new.self c.in-Ok.steps.items c.put_all.new.self (g.W.Sink.holds c.args.sink.now) (g.W.Sink.holds c.put_all.new.sink) h
    (c.in-Ok.ensures.carried c.args.line.number acts h) (rw c.in-Err-WriteFault.field-0-is at c.in-Err-WriteFault.ensures.err)

pub returns-in-Err-NoMemory-put_all-clause-played : goal.returns-in-Err-NoMemory-put_all-clause-played
returns-in-Err-NoMemory-put_all-clause-played g c = λ acts h.
    ends_cut (record { number = c.args.line.number; text = c.args.line.text.now }) c.args.left.now acts _ c.args.self.now c.do_noted.new.self c.in-Ok.steps.items c.put_all.new.self (g.W.Sink.holds c.args.sink.now) (g.W.Sink.holds c.put_all.new.sink) h
    (c.in-Ok.ensures.carried c.args.line.number acts h) (rw c.in-Err-NoMemory-put_all.field-0-is at c.in-Err-NoMemory-put_all.ensures.err)

pub returns-in-Ok-try_from-clause-played : goal.returns-in-Ok-try_from-clause-played
returns-in-Ok-try_from-clause-played g c = λ acts h.
    rw c.in-Ok-try_from.ensures.1 (ends_bad (record { number = c.args.line.number; text = c.args.line.text.now }) c.args.left.now acts c.in-Err-Refused.cause c.args.self.now c.do_noted.new.self (g.W.Sink.holds c.args.sink.now) h
    ((rw c.in-Err-Refused.field-0-is at c.in-Err-Refused.ensures.carried) c.args.line.number acts h) c.do_noted.ensures.recorded)

pub returns-in-Err-clause-played : goal.returns-in-Err-clause-played
returns-in-Err-clause-played g c = λ acts h.
    ends_part ((record { number = c.args.line.number; text = c.args.line.text.now }) ∷ c.args.left.now) acts c.args.self.now c.do_noted.new.self (g.W.Sink.holds c.args.sink.now) h.recorded c.do_noted.ensures.recorded

pub returns-in-Err-NoMemory-clause-played : goal.returns-in-Err-NoMemory-clause-played
returns-in-Err-NoMemory-clause-played g c = λ acts h.
    ends_part ((record { number = c.args.line.number; text = c.args.line.text.now }) ∷ c.args.left.now) acts c.args.self.now c.do_noted.new.self (g.W.Sink.holds c.args.sink.now) h.recorded c.do_noted.ensures.recorded

pub returns-in-Ok-put_all-clause-noted : goal.returns-in-Ok-put_all-clause-noted
returns-in-Ok-put_all-clause-noted g c = c.in-Ok.ensures.noted c.args.line.number
