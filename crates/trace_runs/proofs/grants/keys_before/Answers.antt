use Rattle.std.proofs.Common.{refl, add-one}
use Rattle.trace_runs.proofs.GrantLaws.{one_more}
use Rattle.trace_runs.proofs.grants.keys_before.Goals as goal

pub loop-number-preserved : goal.loop-number-preserved
loop-number-preserved c =
    rw add-one (one_more c.args.setting.now.tables c.loop-number.number (record { keys = c.in-Some.keys.now; speaks = c.in-Some.field-0-1.now }) c.in-Some.keys c.loop-number.before.items c.push.new.self.items c.in-Some.ensures refl c.loop-number.invariant c.in_ok-push.ensures.items)
