use Rattle.std.proofs.Common.{sym, ap, ◌∙◌, refl, map}
use Rattle.symbolic_runs.specs.Views.{tree}
use Rattle.symbolic_runs.proofs.ReadingLemmas.{pair_of, changed_where_found, put_where_none_found}
use Rattle.symbolic_runs.proofs.reading.Reading.set.Goals as goal

pub returns-in-Some-clause-changed : goal.returns-in-Some-clause-changed
returns-in-Some-clause-changed c = λ _.
    changed_where_found (tree c.args.atom) c.args.spelled _ c.index_mut.result.now c.args.self.now.list.items c.in-Some.place (sym c.place_of.ensures ∙ c.in-Some.is) c.index_mut.ensures.value refl

pub returns-in_ok-push-in-None-clause-changed : goal.returns-in_ok-push-in-None-clause-changed
returns-in_ok-push-in-None-clause-changed c = λ _.
    ap (map pair_of) c.in_ok-push-in-None.ensures.items ∙ put_where_none_found (tree c.args.atom) c.args.spelled _ c.args.self.now.list.items (sym c.place_of.ensures ∙ c.in-None.is) refl
