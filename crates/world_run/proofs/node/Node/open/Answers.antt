use Rattle.std.proofs.Common.{ℕ, refl, sym, ap, subst, ◌∙◌}
use Rattle.agent_turns.specs.Agents.{StandsFor}
use Rattle.world_history.specs.Acts.{least_fid}
use Rattle.world_history.specs.Driving as driving
use Rattle.world_run.specs.Fids.{fids, named}
use Rattle.world_run.proofs.FidLemmas.{named_more, not_false, not_true}
use Rattle.world_run.proofs.node.Node.open.Goals as goal

pub returns-then-not-branch : goal.returns-then-not-branch
returns-then-not-branch c = λ H h.
    let same = c.in_ok-fid.ensures ∙ ap (λ held. least_fid (fids held)) c.as_slice.ensures.value in
    ap (λ (f : ℕ). driving.refuses_open f H) (sym same) ∙ not_false _ (sym c.if-not-branch.true ∙ c.in_ok-open_rpc.ensures.opens H h)

pub returns : goal.returns
returns c = λ H h.
    let same = c.in_ok-fid.ensures ∙ ap (λ held. least_fid (fids held)) c.as_slice.ensures.value in
    record {
      least = same;
      lets = ap (λ (f : ℕ). driving.refuses_open f H) (sym same) ∙ not_true _ (sym c.if-not-branch.false ∙ c.in_ok-open_rpc.ensures.opens H h);
      stands = subst (λ (f : ℕ). StandsFor (driving.opened f H) c.open_rpc.new.agent) same (c.in_ok-open_rpc.ensures.stands c.if-not-branch.false H h);
      held = ap named c.in_ok-push.ensures.items ∙ (named_more c.args.self.now.held.items _ ∙ rw (c.in_ok-conv.ensures, same) refl);
    }
