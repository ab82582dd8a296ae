use Rattle.std.proofs.Common.{arith, sym, ◌∙◌}
use Rattle.auth_tables.proofs.PlaceLemmas.{is_there, key_of_none, line_key}
use Rattle.auth_tables.proofs.keys.KeyTable.find.Goals as goal

pub returns : goal.returns
returns c = line_key _ c.args.user.now c.self.inside.lines.items c.args.self.now c.in-Some.place c.self.view_is (sym c.in-Some.is ∙ c.place_of.ensures) c.index.result.now c.index.ensures

pub returns-in_default : goal.returns-in_default
returns-in_default c = key_of_none c.args.user.now c.args.self.now c.place_of.result c.place_of.ensures c.in_default.is

pub index-requires : goal.index-requires
index-requires c = let lt = is_there _ c.args.user.now c.self.inside.lines.items c.args.self.now c.in-Some.place c.self.view_is (sym c.in-Some.is ∙ c.place_of.ensures) in let same = c.self.inside.lines.ok in omega (arith, lt, same)
