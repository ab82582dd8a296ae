use Rattle.trace_runs.proofs.ApartLaws.{new_text, seen_text}
use Rattle.trace_runs.proofs.readings.take_text.Goals as goal

pub returns-in_ok-insert-in-Some-clause-new : goal.returns-in_ok-insert-in-Some-clause-new
returns-in_ok-insert-in-Some-clause-new c = new_text c.args.text c.in-Some.text c.args.seen.now.keys c.in_ok-insert-in-Some.field-0 c.in-Some.is c.in_ok-insert-in-Some.ensures.added

pub returns-in_ok-insert-in-Some-clause-seen : goal.returns-in_ok-insert-in-Some-clause-seen
returns-in_ok-insert-in-Some-clause-seen c = seen_text c.args.text c.in-Some.text c.args.seen.now.keys c.insert.new.self.keys c.in-Some.is c.in_ok-insert-in-Some.ensures.updates.0
