use Rattle.std.proofs.Common.{Some, sym}
use Rattle.std.proofs.lemmas.Result.{err_from_is_err_and}
use Rattle.world_history.specs.Acts.{Told}
use Rattle.world_history.specs.Turns.{tells}
use Rattle.world_scripts.specs.Lines as l
use Rattle.world_run.proofs.LineLemmas.{node_unknown, told_judged}
use Rattle.world_run.specs.Standing.{nodes_by}
use Rattle.world_run.proofs.RunLemmas.{done_as, line_judged, take_stops, told_done, with_both}
use Rattle.world_run.proofs.run.Run.tell.Goals as goal

pub returns-then-not-has-clause-carried : goal.returns-then-not-has-clause-carried
returns-then-not-has-clause-carried c = λ left before acts is h. node_unknown acts c.args.node.now c.args.line.now (sym (c.if-not-has.ensures (nodes_by acts) h.nodes))

pub returns-in_err-turned-clause-carried : goal.returns-in_err-turned-clause-carried
returns-in_err-turned-clause-carried c = λ left before acts is h.
    let p = err_from_is_err_and c.from_residual.result c.from_residual.ensures.1 in
    rw (p.1, p.2) (take_stops c.args.node.now (tells c.args.node.now c.args.line.now) c.args.self.now.nodes c.args.self.now.recorded c.in_err-turned.field-0.0 c.take.new.nodes (nodes_by acts) left acts (Some (l.Ctl c.args.node.now c.args.line.now)) (with_both c.args.self.now c.take.new.nodes c.args.self.now.talks) c.in_err-turned.ensures h.nodes (sym (c.if-not-has.ensures (nodes_by acts) h.nodes)))

pub returns-clause-carried : goal.returns-clause-carried
returns-clause-carried c = λ left before acts is h.
    let made = sym (c.if-not-has.ensures (nodes_by acts) h.nodes) in
    done_as left acts _ _ c.in_ok-turned.turned.steps.items _ is
    (told_done before left acts c.args.node.now c.args.line.now c.args.self.now c.in_ok-turned.turned c.take.new.nodes
    (line_judged acts _ (l.Ctl c.args.node.now c.args.line.now) (Told c.args.node.now c.args.line.now) is (told_judged acts c.args.node.now c.args.line.now made)) h
    (c.in_ok-turned.ensures (nodes_by acts) h.nodes made))
