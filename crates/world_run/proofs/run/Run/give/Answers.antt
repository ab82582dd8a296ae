use Rattle.std.proofs.Common.{length, Some, Ok, refl, sym, ap, subst, ◌∙◌, arith}
use Rattle.std.proofs.lemmas.Result.{err_from_is_err_and}
use Rattle.world_history.specs.Acts as a
use Rattle.world_scripts.specs.Lines as l
use Rattle.world_run.specs.Standing.{Comes}
use Rattle.world_history.specs.Scripts.{judged}
use Rattle.world_run.proofs.LineLemmas.{conv_unknown, fits, given_fits, given_unfit, unfit, write_judged, write_unspelled}
use Rattle.world_run.proofs.RunLemmas.{find_gives, find_stops, given_long, given_short, open_found, spell_stops, spelled_now}
use Rattle.world_run.proofs.run.Run.give.Goals as goal

pub returns-in_err-found-clause-carried : goal.returns-in_err-found-clause-carried
returns-in_err-found-clause-carried c = λ left before acts is h.
    let p = err_from_is_err_and c.from_residual.result c.from_residual.ensures.1 in
    rw (p.1, p.2) (find_stops c.args.conv.now c.args.self.now.talks c.in_err-found.field-0.0 left acts (Some (l.Write c.args.conv.now c.args.pieces)) c.args.self.now c.in_err-found.ensures h.talks (conv_unknown acts (l.Write c.args.conv.now c.args.pieces) c.args.conv.now refl))

pub returns-in_err-given-clause-carried : goal.returns-in_err-given-clause-carried
returns-in_err-given-clause-carried c = λ left before acts is h.
    let p = err_from_is_err_and c.from_residual-in_err-given.result c.from_residual-in_err-given.ensures.1 in
    let o = find_gives c.args.conv.now c.args.self.now.talks c.in_ok-found.found acts c.in_ok-found.ensures h.talks in
    let there = open_found acts c.args.conv.now c.in_ok-found.found.node c.in_ok-found.found.fid c.in_ok-found.found.call o in
    rw (p.1, p.2) (spell_stops c.args.self.now.recorded c.args.pieces c.in_err-given.field-0.0 left acts (Some (l.Write c.args.conv.now c.args.pieces)) c.args.self.now c.in_err-given.ensures h.recorded (write_unspelled acts c.args.conv.now c.args.pieces there))

pub returns-then-len-gt-MOST_GIVEN-clause-carried : goal.returns-then-len-gt-MOST_GIVEN-clause-carried
returns-then-len-gt-MOST_GIVEN-clause-carried c = λ left before acts is h.
    let o = find_gives c.args.conv.now c.args.self.now.talks c.in_ok-found.found acts c.in_ok-found.ensures h.talks in
    let there = open_found acts c.args.conv.now c.in_ok-found.found.node c.in_ok-found.found.fid c.in_ok-found.found.call o in
    write_judged acts c.args.conv.now c.in_ok-given.given c.args.pieces there (spelled_now c.args.self.now.recorded c.args.pieces _ acts h.recorded c.in_ok-given.ensures)
    ∙ unfit acts (a.Given c.args.conv.now c.in_ok-given.given) (given_unfit acts c.args.conv.now c.in_ok-given.given (given_long c.in_ok-given.given (rw c.len.ensures at c.if-len-gt-MOST_GIVEN.true)))

pub ask_it-requires : goal.ask_it-requires
ask_it-requires c = omega (arith, ap length c.as_slice-bytes.ensures, c.if-len-gt-MOST_GIVEN.false, c.len.ensures)

pub returns-clause-carried : goal.returns-clause-carried
returns-clause-carried c = λ left before acts is h.
    let o = find_gives c.args.conv.now c.args.self.now.talks c.in_ok-found.found acts c.in_ok-found.ensures h.talks in
    let there = open_found acts c.args.conv.now c.in_ok-found.found.node c.in_ok-found.found.fid c.in_ok-found.found.call o in
    let fit = write_judged acts c.args.conv.now c.in_ok-given.given c.args.pieces there (spelled_now c.args.self.now.recorded c.args.pieces _ acts h.recorded c.in_ok-given.ensures)
    ∙ fits acts (a.Given c.args.conv.now c.in_ok-given.given) (given_fits acts c.args.conv.now c.in_ok-given.given (given_short c.in_ok-given.given (rw c.len.ensures at c.if-len-gt-MOST_GIVEN.false))) in
    subst (λ line. Comes left acts line c.ask_it.result c.ask_it.new.self) is
    (c.ask_it.ensures.carried before left acts o (ap (judged acts) is ∙ (fit ∙ ap (λ bytes. Ok (a.Given c.args.conv.now bytes)) (sym c.as_slice-bytes.ensures))) h)
