use Rattle.std.proofs.Common.{◌++◌, ◌∷◌, []}
use Rattle.std.proofs.lemmas.Result.{err_from_is_err_and}
use Rattle.auth_tables.proofs.LineLemmas.{next_read, bad_read, all_read, turns_fall}
use Rattle.auth_tables.proofs.lines.read_table.Goals as goal

pub returns-in_err-take_line-clause-bad : goal.returns-in_err-take_line-clause-bad
returns-in_err-take_line-clause-bad g c =
    let p = err_from_is_err_and c.from_residual.result c.from_residual.ensures.1 in
    let read = c.loop-left.invariant.read in
    rw (p.1, p.2) (λ n e.
    let found = c.in_err-take_line.ensures.bad n e read.0 read.1.behind read.2 in
    bad_read _ _ read.0 _ _ _ read.1 c.in-Some.text c.cut_line.result.1 c.cut_line.result.0.now n c.in-Some.is c.cut_line.ensures.lines found.0 found.1)

pub loop-left-preserved : goal.loop-left-preserved
loop-left-preserved g c =
    let read = c.loop-left.invariant.read in
    let line = c.cut_line.result.0.now in
    record {
      read = (
        read.0 ++ line ∷ [],
        next_read _ _ read.0 _ _ _ read.1 c.in-Some.text c.cut_line.result.1 line _ _ c.in-Some.is c.cut_line.ensures.lines
            (c.in_ok-take_line.ensures.good read.0 read.1.behind read.2) (c.in_ok-take_line.ensures.behind read.0 read.1.behind),
        c.in_ok-take_line.ensures.told read.0 read.1.behind read.2,
      );
      room = turns_fall _ c.in-Some.text c.cut_line.result.1 _ _ _ c.in-Some.is c.cut_line.ensures.ends c.in_ok-take_line.ensures.number c.loop-left.invariant.room;
    }

pub returns-clause-good : goal.returns-clause-good
returns-clause-good g c = let read = c.loop-left.invariant.read in all_read _ _ read.0 _ _ _ read.1 c.in_default.is
