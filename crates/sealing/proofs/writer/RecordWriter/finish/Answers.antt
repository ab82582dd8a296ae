use Rattle.std.proofs.Common.{◌≡◌, ℕ, List, length, take, sym, ◌∙◌, ap, arith}
use Rattle.std.proofs.lemmas.List.{length-take, take_all}
use Rattle.sealing.proofs.writer.RecordWriter.finish.Goals as goal

whole : (bytes all : List ℕ) (at n : ℕ) → take at bytes ≡ all → length all ≡ n → length bytes ≡ n → bytes ≡ all
whole bytes all at n e p q = sym (take_all at bytes (omega (arith, ap length e, length-take at bytes))) ∙ e

pub returns : goal.returns
returns g c = whole c.self.inside.bytes c.args.self c.self.inside.at g.row.N c.self.view_is c.requires c.self.invariant.1
