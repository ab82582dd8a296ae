use Rattle.std.proofs.lemmas.Result.{err_from_is_err_and}
use Rattle.world_scripts.specs.Reading.{line_of}
use Rattle.world_run.proofs.RunLemmas.{find_gives, find_stops, open_found}
use Rattle.world_run.proofs.run.Run.ask.Goals as goal

pub returns-in_err-found-clause-carried : goal.returns-in_err-found-clause-carried
returns-in_err-found-clause-carried c = λ before left acts by h.
    let p = err_from_is_err_and c.from_residual.result c.from_residual.ensures.1 in
    rw (p.1, p.2) (find_stops c.args.conv.now c.args.self.now.talks c.in_err-found.field-0.0 left acts (line_of before.text) c.args.self.now c.in_err-found.ensures h.talks by.closed)

pub returns-clause-carried : goal.returns-clause-carried
returns-clause-carried c = λ before left acts by h.
    let o = find_gives c.args.conv.now c.args.self.now.talks c.in_ok-found.found acts c.in_ok-found.ensures h.talks in
    c.ask_it.ensures.carried before left acts o (by.opened (open_found acts c.args.conv.now c.in_ok-found.found.node c.in_ok-found.found.fid c.in_ok-found.found.call o)) h
