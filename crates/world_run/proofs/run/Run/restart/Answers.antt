use Rattle.std.proofs.Common.{◌∷◌, [], ℕ, List, sym, ap, ◌∙◌}
use Rattle.wire_histories.specs.declared.step.Step.TheVariants as s
use Rattle.world_history.specs.Acts.{Restarted}
use Rattle.world_scripts.specs.Lines as l
use Rattle.world_run.proofs.LineLemmas.{restarted_judged, restarted_unknown}
use Rattle.world_run.specs.Standing.{nodes_by}
use Rattle.world_run.proofs.RunLemmas.{done_as, line_judged}
use Rattle.world_run.proofs.NameLemmas.{restarted_done}
use Rattle.world_run.proofs.run.Run.restart.Goals as goal

pub returns-then-not-has-clause-carried : goal.returns-then-not-has-clause-carried
returns-then-not-has-clause-carried c = λ left before acts is h. restarted_unknown acts c.args.node.now (sym (c.if-not-has.ensures (nodes_by acts) h.nodes))

pub returns-clause-carried : goal.returns-clause-carried
returns-clause-carried c = λ left before acts is h.
    let made = sym (c.if-not-has.ensures (nodes_by acts) h.nodes) in
    done_as left acts _ _ c.in_ok-steps.steps.items _ is
    (restarted_done before left acts c.args.node.now c.args.self.now c.restart.new.self c.leave.new.self c.in_ok-steps.steps.items
    (line_judged acts _ (l.Restart c.args.node.now) (Restarted c.args.node.now) is (restarted_judged acts c.args.node.now made)) h
    (c.in_ok-steps.ensures ∙ ap (λ (name : List ℕ). s.Restart name ∷ []) c.in_ok-from_slice.ensures)
    (c.restart.ensures (nodes_by acts) h.nodes made c.in_ok-new_node.ensures) c.leave.ensures)
