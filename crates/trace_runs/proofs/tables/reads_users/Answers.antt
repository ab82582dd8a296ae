use Rattle.std.proofs.Common.{◌∙◌, map, sym, ap, add-one, List, ℕ, Bool}
use Rattle.std.specs.List.{list_all}
use Rattle.auth_tables.specs.Keys.{KeyLine}
use Rattle.symbolic_runs.specs.Answers.{atoms_of}
use Rattle.trace_runs.specs.Tables.{reads_user, tables_of}
use Rattle.trace_runs.proofs.TableLaws.{keys_at, no_user_more, one_fails, one_user_more}
use Rattle.trace_runs.proofs.tables.reads_users.Goals as goal

pub returns-in_default : goal.returns-in_default
returns-in_default c =
    let tables = c.args.tables.now in
    let passes : List ℕ → Bool = reads_user (atoms_of c.args.reading.now) (tables_of (map (λ t. t.now) tables)) c.args.number in
    let table = c.index-tables-number.result in
    let at = keys_at tables c.args.number table c.requires c.index-tables-number.is in
    sym (ap (λ (lines : List KeyLine). list_all (λ line. passes line.0) lines) at ∙ no_user_more passes table.now c.loop-place.place c.in_default.ensures c.loop-place.invariant)

pub returns-then-not-branch : goal.returns-then-not-branch
returns-then-not-branch c =
    let tables = c.args.tables.now in
    let passes : List ℕ → Bool = reads_user (atoms_of c.args.reading.now) (tables_of (map (λ t. t.now) tables)) c.args.number in
    let table = c.index-tables-number.result in
    let at = keys_at tables c.args.number table c.requires c.index-tables-number.is in
    sym (ap (λ (lines : List KeyLine). list_all (λ line. passes line.0) lines) at ∙ one_fails passes table.now c.loop-place.place c.in-Some.user.now c.in-Some.ensures (sym c.in_ok-reads_user.ensures ∙ c.if-not-branch.true))

pub loop-place-preserved : goal.loop-place-preserved
loop-place-preserved c =
    let tables = c.args.tables.now in
    let passes : List ℕ → Bool = reads_user (atoms_of c.args.reading.now) (tables_of (map (λ t. t.now) tables)) c.args.number in
    let table = c.index-tables-number.result in
    rw add-one (one_user_more passes table.now c.loop-place.place c.in-Some.user.now c.in-Some.ensures c.loop-place.invariant (sym c.in_ok-reads_user.ensures ∙ c.if-not-branch.false))
