use Rattle.std.proofs.Common.{ap, sym, ◌∙◌, map}
use Rattle.symbolic_runs.specs.Views.{tree, and_last, trees_of}
use Rattle.symbolic_runs.proofs.TreeLemmas.{trees-made, trees-opened, last_term}
use Rattle.symbolic_runs.proofs.term.Terms.push.Goals as goal

pub returns-clause-ok : goal.returns-clause-ok
returns-clause-ok c =
    trees-made _
    ∙ ap (λ xs. trees_of (map tree xs)) c.in_ok-push.ensures.items
    ∙ last_term c.args.self.now.list.items c.args.term
    ∙ ap (λ ts. and_last ts (tree c.args.term)) (sym (trees-opened c.args.self.now))
