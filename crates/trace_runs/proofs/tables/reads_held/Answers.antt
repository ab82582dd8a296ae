use Rattle.std.proofs.Common.{None, Some, option_map, refl}
use Rattle.symbolic_runs.specs.Answers.{atoms_of}
use Rattle.clean_runs.specs.Runs.{role_by}
use Rattle.trace_runs.proofs.TableLaws.{decides_held}
use Rattle.trace_runs.proofs.tables.reads_held.Goals as goal

pub returns-in-Some : goal.returns-in-Some
returns-in-Some c = λ spoken found.
    decides_held (atoms_of c.args.reading.now) (role_by c.args.protocol c.args.role) c.args.holder spoken (Some (c.in-Some.key.0, option_map (λ t. t.now) c.args.password)) c.reads_found.result c.reads_found.ensures (rw c.in-Some.is at found)

pub returns-in-None : goal.returns-in-None
returns-in-None c = λ spoken found.
    decides_held (atoms_of c.args.reading.now) (role_by c.args.protocol c.args.role) c.args.holder spoken None _ refl (rw c.in-None.is at found)
