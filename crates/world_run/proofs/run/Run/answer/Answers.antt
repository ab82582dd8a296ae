use Rattle.std.proofs.Common.{length, Some, Ok, refl, sym, ap, ◌∙◌, rules}
use Rattle.std.proofs.lemmas.Result.{err_from_is_err_and}
use Rattle.world_history.specs.Acts as a
use Rattle.world_history.specs.Turns as does
use Rattle.world_scripts.specs.Lines as l
use Rattle.world_run.specs.Standing.{nodes_by}
use Rattle.world_history.specs.Scripts.{call_now, call_or, judged}
use Rattle.world_run.proofs.LineLemmas.{answer_fits, answer_judged, answer_unfit, answer_unspelled, conv_unknown, fits, unasked_unfit, unfit}
use Rattle.world_run.proofs.RunLemmas.{answer_done, answer_long, answer_short, done_as, find_gives, find_stops, open_found, spell_stops, spelled_now, take_stops, with_both}
use Rattle.world_run.proofs.run.Run.answer.Goals as goal

pub returns-in_err-found-clause-carried : goal.returns-in_err-found-clause-carried
returns-in_err-found-clause-carried c = λ left before acts is h.
    let p = err_from_is_err_and c.from_residual.result c.from_residual.ensures.1 in
    rw (p.1, p.2) (find_stops c.args.conv.now c.args.self.now.talks c.in_err-found.field-0.0 left acts (Some (l.Answer c.args.conv.now c.args.pieces)) c.args.self.now c.in_err-found.ensures h.talks (conv_unknown acts (l.Answer c.args.conv.now c.args.pieces) c.args.conv.now refl))

pub returns-in_err-given-clause-carried : goal.returns-in_err-given-clause-carried
returns-in_err-given-clause-carried c = λ left before acts is h.
    let p = err_from_is_err_and c.from_residual-in_err-given.result c.from_residual-in_err-given.ensures.1 in
    let o = find_gives c.args.conv.now c.args.self.now.talks c.in_ok-found.found acts c.in_ok-found.ensures h.talks in
    let there = open_found acts c.args.conv.now c.in_ok-found.found.node c.in_ok-found.found.fid c.in_ok-found.found.call o in
    rw (p.1, p.2) (spell_stops c.args.self.now.recorded c.args.pieces c.in_err-given.field-0.0 left acts (Some (l.Answer c.args.conv.now c.args.pieces)) c.args.self.now c.in_err-given.ensures h.recorded (answer_unspelled acts c.args.conv.now c.args.pieces there))

pub returns-in_default-clause-carried : goal.returns-in_default-clause-carried
returns-in_default-clause-carried c = λ left before acts is h.
    let o = find_gives c.args.conv.now c.args.self.now.talks c.in_ok-found.found acts c.in_ok-found.ensures h.talks in
    let there = open_found acts c.args.conv.now c.in_ok-found.found.node c.in_ok-found.found.fid c.in_ok-found.found.call o in
    answer_judged acts c.args.conv.now c.in_ok-given.given c.args.pieces there (spelled_now c.args.self.now.recorded c.args.pieces _ acts h.recorded c.in_ok-given.ensures)
    ∙ unfit acts _ (unasked_unfit acts c.args.conv.now c.in_ok-given.given (call_now acts c.args.conv.now) (o.asks ∙ search (rules, c.in_default)))

pub returns-then-len-gt-MOST_ANSWER-clause-carried : goal.returns-then-len-gt-MOST_ANSWER-clause-carried
returns-then-len-gt-MOST_ANSWER-clause-carried c = λ left before acts is h.
    let o = find_gives c.args.conv.now c.args.self.now.talks c.in_ok-found.found acts c.in_ok-found.ensures h.talks in
    let there = open_found acts c.args.conv.now c.in_ok-found.found.node c.in_ok-found.found.fid c.in_ok-found.found.call o in
    answer_judged acts c.args.conv.now c.in_ok-given.given c.args.pieces there (spelled_now c.args.self.now.recorded c.args.pieces _ acts h.recorded c.in_ok-given.ensures)
    ∙ unfit acts _ (answer_unfit acts c.args.conv.now c.in_ok-given.given (call_now acts c.args.conv.now) (answer_long (length c.in_ok-given.given) (rw c.len.ensures at c.if-len-gt-MOST_ANSWER.true)))

pub returns-in_err-turned-clause-carried : goal.returns-in_err-turned-clause-carried
returns-in_err-turned-clause-carried c = λ left before acts is h.
    let p = err_from_is_err_and c.from_residual-in_err-turned.result c.from_residual-in_err-turned.ensures.1 in
    let o = find_gives c.args.conv.now c.args.self.now.talks c.in_ok-found.found acts c.in_ok-found.ensures h.talks in
    rw (p.1, p.2) (take_stops c.as_slice-node.result.now (does.hears c.args.conv.now c.in_ok-found.found.fid c.in-Some.call c.as_slice-bytes.result.now) c.args.self.now.nodes c.args.self.now.recorded c.in_err-turned.field-0.0 c.take.new.nodes (nodes_by acts) left acts (Some (l.Answer c.args.conv.now c.args.pieces)) (with_both c.args.self.now c.take.new.nodes c.args.self.now.talks) c.in_err-turned.ensures h.nodes (ap (a.is_node acts) c.as_slice-node.ensures ∙ o.made))

pub returns-clause-carried : goal.returns-clause-carried
returns-clause-carried c = λ left before acts is h.
    let o = find_gives c.args.conv.now c.args.self.now.talks c.in_ok-found.found acts c.in_ok-found.ensures h.talks in
    let there = open_found acts c.args.conv.now c.in_ok-found.found.node c.in_ok-found.found.fid c.in_ok-found.found.call o in
    let call = o.asks ∙ c.in-Some.is in
    let bytes = sym c.as_slice-bytes.ensures in
    let fit = answer_judged acts c.args.conv.now c.in_ok-given.given c.args.pieces there (spelled_now c.args.self.now.recorded c.args.pieces _ acts h.recorded c.in_ok-given.ensures)
    ∙ (fits acts (a.Answered c.args.conv.now c.in_ok-given.given (call_now acts c.args.conv.now)) (answer_fits acts c.args.conv.now c.in_ok-given.given (call_now acts c.args.conv.now) c.in-Some.call call (answer_short (length c.in_ok-given.given) (rw c.len.ensures at c.if-len-gt-MOST_ANSWER.false)))
    ∙ (ap (λ number. Ok (a.Answered c.args.conv.now c.in_ok-given.given number)) (ap call_or call) ∙ ap (λ given. Ok (a.Answered c.args.conv.now given c.in-Some.call)) bytes)) in
    done_as left acts _ _ c.in_ok-turned.turned.steps.items _ is
    (answer_done before left acts c.args.conv.now c.in_ok-found.found.node c.as_slice-bytes.result.now c.in_ok-found.found.fid c.in-Some.call c.in_ok-found.found.call c.args.self.now c.in_ok-turned.turned c.take.new.nodes c.set_call.new.self
    (ap (judged acts) is ∙ fit) o h ((rw c.as_slice-node.ensures at c.in_ok-turned.ensures) (nodes_by acts) h.nodes o.made) c.set_call.ensures)
