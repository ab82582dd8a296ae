use Rattle.std.proofs.Common.{◌≡◌, sym, map, ◌∙◌, arith, refl}
use Rattle.std.proofs.lemmas.Bool.{false_from_ne_true}
use Rattle.symbolic_runs.specs.declared.term.Terms.{Terms, out-Terms}
use Rattle.symbolic_runs.specs.Trees.{same_trees}
use Rattle.symbolic_runs.specs.Views.{tree, trees, trees_of}
use Rattle.symbolic_runs.proofs.TreeLemmas.{trees-opened, same_length_terms, differ_from, same_at_end}
use Rattle.symbolic_runs.proofs.term.+same.Goals as goal

-- the comparison of two lists is that of their items
opened_both : (a b : Terms) → same_trees (trees a) (trees b) ≡ same_trees (trees_of (map tree (out-Terms a).list.items)) (trees_of (map tree (out-Terms b).list.items))
opened_both a b = rw (trees-opened a) (rw (trees-opened b) refl)

pub Terms::same-returns-then-len : goal.Terms::same-returns-then-len
Terms::same-returns-then-len t c =
    let a = c.args.self.now in
    let b = c.args.other.now in
    sym (opened_both a b ∙ false_from_ne_true _ (λ e. c.if-len.true (omega (arith, same_length_terms a.list.items b.list.items e, a.list.ok, b.list.ok, c.len.ensures, c.len-2.ensures))))

pub Terms::same-returns-then-not-same : goal.Terms::same-returns-then-not-same
Terms::same-returns-then-not-same t c =
    let xs = c.args.self.now.list.items in
    let ys = c.args.other.now.list.items in
    sym (opened_both c.args.self.now c.args.other.now
    ∙ c.loop-index.invariant
    ∙ differ_from xs ys c.loop-index.index c.index.result.now c.index-in-loop-index.result.now
    (omega (arith, c.loop-index-test.true, c.len-index-end.ensures, c.args.self.now.list.ok))
    (omega (arith, c.loop-index-test.true, c.len-index-end.ensures, c.args.self.now.list.ok, c.args.other.now.list.ok, c.if-len.false, c.len.ensures, c.len-2.ensures)) c.index.ensures c.index-in-loop-index.ensures c.if-not-same.ensures)

pub Terms::same-returns : goal.Terms::same-returns
Terms::same-returns t c =
    let xs = c.args.self.now.list.items in
    let ys = c.args.other.now.list.items in
    sym (opened_both c.args.self.now c.args.other.now
    ∙ c.loop-index.invariant
    ∙ same_at_end xs ys c.loop-index.index
    (omega (arith, c.loop-index-test.false, c.len-index-end.ensures, c.args.self.now.list.ok))
    (omega (arith, c.loop-index-test.false, c.len-index-end.ensures, c.args.other.now.list.ok, c.if-len.false, c.len.ensures, c.len-2.ensures)))
