use Rattle.std.proofs.Common.{arith, refl, sym, ap, ◌∙◌}
use Rattle.std.specs.Prelude.{is_some}
use Rattle.std.specs.Str.{bytes_eq}
use Rattle.auth_tables.proofs.PrintLemmas.{set_nothing}
use Rattle.auth_tables.proofs.PlaceLemmas.{is_there, key_of_none, key_set, set_places, was_there}
use Rattle.auth_tables.proofs.keys.KeyTable.replace.Goals as goal

pub returns-in_default-clause-found : goal.returns-in_default-clause-found
returns-in_default-clause-found c = ap is_some (key_of_none c.args.user.now c.args.self.now c.place_of.result c.place_of.ensures c.in_default.is)

pub returns-in_default-clause-set : goal.returns-in_default-clause-set
returns-in_default-clause-set c = sym (set_nothing (bytes_eq c.args.user.now) c.args.self.now c.args.key (sym (key_of_none c.args.user.now c.args.self.now c.place_of.result c.place_of.ensures c.in_default.is)))

pub index_mut-requires : goal.index_mut-requires
index_mut-requires c = let lt = is_there _ c.args.user.now c.self.inside.lines.items c.args.self.now c.in-Some.place c.self.view_is (sym c.in-Some.is ∙ c.place_of.ensures) in let same = c.self.inside.lines.ok in omega (arith, lt, same)

pub invariant_of-self : goal.invariant_of-self
invariant_of-self c = set_places _ c.args.user.now c.self.inside.lines.items c.args.self.now c.in-Some.place c.self.view_is (sym c.in-Some.is ∙ c.place_of.ensures) c.index_mut.result.now _ c.args.key c.index_mut.ensures.value refl refl _ c.self.invariant

pub returns-clause-found : goal.returns-clause-found
returns-clause-found c = was_there _ c.args.user.now c.self.inside.lines.items c.args.self.now c.in-Some.place c.self.view_is (sym c.in-Some.is ∙ c.place_of.ensures) c.index_mut.result.now c.index_mut.result.now c.index_mut.result.now.key c.index_mut.ensures.value refl refl

pub returns-clause-set : goal.returns-clause-set
returns-clause-set c = key_set _ c.args.user.now c.self.inside.lines.items c.args.self.now c.in-Some.place c.self.view_is (sym c.in-Some.is ∙ c.place_of.ensures) c.index_mut.result.now _ c.args.key c.index_mut.ensures.value refl refl
