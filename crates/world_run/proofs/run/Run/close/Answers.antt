use Rattle.std.proofs.Common.{Some, refl, ap, ◌∙◌}
use Rattle.std.proofs.lemmas.Result.{err_from_is_err_and}
use Rattle.world_history.specs.Acts as a
use Rattle.world_history.specs.Turns as does
use Rattle.world_scripts.specs.Lines as l
use Rattle.world_run.specs.Standing.{nodes_by}
use Rattle.world_history.specs.Scripts.{judged}
use Rattle.world_run.specs.Nodes.{done_on}
use Rattle.world_run.proofs.LineLemmas.{close_judged, conv_unknown}
use Rattle.world_run.proofs.RunLemmas.{done_as, find_gives, find_stops, open_found, take_stops, with_both}
use Rattle.world_run.proofs.NameLemmas.{closed_done}
use Rattle.world_run.proofs.run.Run.close.Goals as goal

pub returns-in_err-found-clause-carried : goal.returns-in_err-found-clause-carried
returns-in_err-found-clause-carried c = λ left before acts is h.
    let p = err_from_is_err_and c.from_residual.result c.from_residual.ensures.1 in
    rw (p.1, p.2) (find_stops c.args.conv.now c.args.self.now.talks c.in_err-found.field-0.0 left acts (Some (l.Close c.args.conv.now)) c.args.self.now c.in_err-found.ensures h.talks (conv_unknown acts (l.Close c.args.conv.now) c.args.conv.now refl))

pub returns-in_err-turned-clause-carried : goal.returns-in_err-turned-clause-carried
returns-in_err-turned-clause-carried c = λ left before acts is h.
    let p = err_from_is_err_and c.from_residual-in_err-turned.result c.from_residual-in_err-turned.ensures.1 in
    let o = find_gives c.args.conv.now c.args.self.now.talks c.in_ok-found.found acts c.in_ok-found.ensures h.talks in
    rw (p.1, p.2) (take_stops c.as_slice-node.result.now (does.closes c.args.conv.now c.in_ok-found.found.fid) c.args.self.now.nodes c.args.self.now.recorded c.in_err-turned.field-0.0 c.take.new.nodes (nodes_by acts) left acts (Some (l.Close c.args.conv.now)) (with_both c.args.self.now c.take.new.nodes c.args.self.now.talks) c.in_err-turned.ensures h.nodes (ap (a.is_node acts) c.as_slice-node.ensures ∙ o.made))

pub returns-clause-carried : goal.returns-clause-carried
returns-clause-carried c = λ left before acts is h.
    let o = find_gives c.args.conv.now c.args.self.now.talks c.in_ok-found.found acts c.in_ok-found.ensures h.talks in
    let there = open_found acts c.args.conv.now c.in_ok-found.found.node c.in_ok-found.found.fid c.in_ok-found.found.call o in
    let t = (rw c.as_slice-node.ensures at c.in_ok-turned.ensures) (nodes_by acts) h.nodes o.made in
    done_as left acts _ _ c.in_ok-turned.turned.steps.items _ is
    (closed_done before left acts c.args.conv.now c.in_ok-found.found.node c.in_ok-found.found.fid c.in_ok-found.found.call c.args.self.now c.in_ok-turned.turned c.close.new.self c.close-2.new.self
    (ap (judged acts) is ∙ close_judged acts c.args.conv.now there) o h t.steps
    ((rw c.as_slice-node.ensures at c.close.ensures) (done_on c.in_ok-found.found.node (does.closes c.args.conv.now c.in_ok-found.found.fid) (nodes_by acts)) t.nodes) c.close-2.ensures)
