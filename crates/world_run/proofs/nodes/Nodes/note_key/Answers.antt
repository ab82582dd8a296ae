use Rattle.std.proofs.Common.{subst, sym}
use Rattle.world_run.specs.Nodes.{NodeIs}
use Rattle.world_run.proofs.nodes.Nodes.note_key.Goals as goal

pub returns : goal.returns
returns c = λ v h made.
    let there = subst (λ o. NodeIs (v.is c.args.name.now) (v.history c.args.name.now) (v.held c.args.name.now) o) (sym c.in-Some.ensures) (h c.args.name.now) in
    c.in_ok-note_key.ensures (v.history c.args.name.now) there.stands
