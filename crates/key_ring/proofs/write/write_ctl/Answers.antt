use Rattle.std.proofs.Common.{refl}
use Rattle.key_lists.specs.CtlLines.{lines_of}
use Rattle.key_ring.proofs.WriteLemmas.{write_keys, write_switches, write_told}
use Rattle.key_ring.proofs.write.write_ctl.Goals as goal

pub returns-clause-keys : goal.returns-clause-keys
returns-clause-keys c = write_keys (lines_of c.args.content.now) c.args.ring.now c.edit_all.new.self _ c.read_lines.new.lines c.in_ok-last.ensures.said (record { edits = c.new.ensures; odd = c.new-2.ensures.items; is_odd = refl }) c.in_ok-batch.ensures.edited

pub returns-clause-told : goal.returns-clause-told
returns-clause-told c = write_told (lines_of c.args.content.now) c.args.ring.now _ c.read_lines.new.lines _ _ _ c.in_ok-last.ensures.said (record { edits = c.new.ensures; odd = c.new-2.ensures.items; is_odd = refl }) c.in_ok-last.ensures.fault c.in_ok-batch.ensures.fault c.first_fault.ensures

pub returns-clause-switches : goal.returns-clause-switches
returns-clause-switches c = write_switches (lines_of c.args.content.now) c.args.ring.now _ c.read_lines.new.lines _ _ c.in_ok-last.ensures.said (record { edits = c.new.ensures; odd = c.new-2.ensures.items; is_odd = refl }) c.in_ok-batch.ensures.count (rw (← c.deref.ensures.value) c.is_odd_before.ensures)
