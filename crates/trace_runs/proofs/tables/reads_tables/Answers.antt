use Rattle.std.proofs.Common.{◌≡◌, ◌∙◌, ◌<◌, length, map, sym, true, false, arith}
use Rattle.symbolic_runs.specs.Answers.{atoms_of}
use Rattle.trace_runs.proofs.TableLaws.{all_read, decides_keys, some_not_read}
use Rattle.trace_runs.proofs.tables.reads_tables.Goals as goal

pub returns-then-not-branch : goal.returns-then-not-branch
returns-then-not-branch c = λ z keys.
    let tables = c.args.tables.now in
    let less : c.loop-number.number < length tables = omega arith in
    decides_keys (atoms_of c.args.reading.now) (map (λ t. t.now) tables) false z
    (some_not_read (atoms_of c.args.reading.now) tables c.loop-number.number less (sym c.in_ok-reads_users.ensures ∙ c.if-not-branch.true)) keys

pub returns : goal.returns
returns c = λ z keys.
    let tables = c.args.tables.now in
    let all : c.loop-number.number ≡ length tables = omega arith in
    decides_keys (atoms_of c.args.reading.now) (map (λ t. t.now) tables) true z
    (all_read (atoms_of c.args.reading.now) tables c.loop-number.number all c.loop-number.invariant) keys
