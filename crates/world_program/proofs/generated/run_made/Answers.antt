use Rattle.std.proofs.Common.{◌≡◌, ◌≤◌, ◌∙◌, length, ℕ, List, sym, subst, rules}
use Rattle.world_scripts.proofs.LengthLemmas.{script_short}
use Rattle.world_program.proofs.generated.run_made.Goals as goal

pub run_unseen-requires : goal.run_unseen-requires
run_unseen-requires c =
    let same : c.as_slice.result.now ≡ c.in-Ok.script = search rules in
    subst (λ (s : List ℕ). length s ≤ 4194304) (sym (same ∙ c.in-Ok.ensures)) (script_short c.args.given.number c.args.given.rounds c.requires)
