use Rattle.std.proofs.Common.{map, arith}
use Rattle.std.proofs.lemmas.Result.{IfOk-weaker}
use Rattle.symbolic_runs.specs.Answers.{atoms_of}
use Rattle.trace_runs.specs.Tables.{tables_of}
use Rattle.trace_runs.proofs.TableLaws.{first_in, keys_at, user_with, user_without}
use Rattle.trace_runs.proofs.tables.reads_user.Goals as goal

pub returns-in_default : goal.returns-in_default
returns-in_default c =
    let tables = c.args.tables.now in
    user_without (atoms_of c.args.reading.now) (tables_of (map (λ t. t.now) tables)) c.args.number c.args.user.now c.index-tables-number.result.now
    (keys_at tables c.args.number c.index-tables-number.result c.requires c.index-tables-number.is)
    (rw c.as_slice.ensures.same at c.in_default.ensures)

pub returns : goal.returns
returns c =
    let tables = c.args.tables.now in
    let at = keys_at tables c.args.number c.index-tables-number.result c.requires c.index-tables-number.is in
    let found = rw c.as_slice.ensures.same at c.in-Some.ensures in
    let counted = rw c.as_slice-2.ensures.same at c.count_before-first.ensures in
    let first = first_in tables _ c.args.number c.args.user.now c.in-Some.key.now c.count_before-first.result counted (grind arith) in
    IfOk-weaker c.reads_key.result _ _ (λ so is.
    user_with (atoms_of c.args.reading.now) (tables_of (map (λ t. t.now) tables)) c.args.number c.args.user.now c.index-tables-number.result.now c.in-Some.key.now c.count_before-first.result c.in_ok-name.name so
    at found first c.in_ok-name.ensures is) c.reads_key.ensures
