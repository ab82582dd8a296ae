use Rattle.std.proofs.Common.{◌≡◌, ◌∷◌, ◌+◌, [], sym, ap, ◌∙◌, subst, map, drop, Some, option_map}
use Rattle.std.proofs.lemmas.List.{map-append}
use Rattle.symbolic_runs.specs.Derivations.{pieces_at}
use Rattle.symbolic_runs.specs.Trees.{joined}
use Rattle.symbolic_runs.specs.Views.{tree}
use Rattle.symbolic_runs.proofs.TreeLemmas.{tree-joined}
use Rattle.symbolic_runs.proofs.ConcludeLemmas.{pieces_behind, join_step, join_end}
use Rattle.symbolic_runs.proofs.derivation.join.Goals as goal

pub loop-place-preserved : goal.loop-place-preserved
loop-place-preserved c =
    let done = map tree c.args.done.now in
    let one_more = ap (map tree) c.in_ok-push-in-Some.ensures.items ∙ map-append tree c.loop-place.pieces.items (c.in-Some.term ∷ []) in
    subst (λ xs. pieces_at done c.args.places.now ≡ option_map (pieces_behind xs) (pieces_at done (drop (c.loop-place.place-index + 1) c.args.places.now))) (sym one_more)
    (join_step done c.args.places.now c.loop-place.place-index 0 (map tree c.loop-place.pieces.items) (tree c.in-Some.term) c.loop-place-test.true (ap (option_map tree) (sym c.in-Some.is) ∙ c.in_ok-term.ensures) c.loop-place.invariant)

pub returns : goal.returns
returns c =
    let done = map tree c.args.done.now in
    ap Some (tree-joined c.from_vec.result) ∙ ap (λ ts. Some (joined ts)) c.from_vec.ensures ∙ sym (ap (option_map joined) (join_end done c.args.places.now c.loop-place.place-index (map tree c.loop-place.pieces.items) c.loop-place-test.false c.loop-place.invariant))
