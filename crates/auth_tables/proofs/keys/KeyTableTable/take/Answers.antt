use Rattle.std.proofs.Common.{◌≡◌, false, ap, sym, subst, ◌∙◌}
use Rattle.std.specs.Prelude.{is_some, option_map, IfSome}
use Rattle.auth_tables.specs.Printing.{IsKeyLine}
use Rattle.auth_tables.specs.Keys.{key_of}
use Rattle.auth_tables.proofs.FoundLemmas.{put_user}
use Rattle.auth_tables.proofs.keys.KeyTableTable.take.Goals as goal

pub returns-clause-told : goal.returns-clause-told
returns-clause-told c = λ _ before keeps.
    let none : is_some (key_of c.in-Some.line.user c.args.self.now) ≡ false = ap (λ name. is_some (key_of name c.args.self.now)) (sym c.as_slice.ensures.same) ∙ (sym c.has_user.ensures ∙ c.if-has_user.false) in
    let good : IsKeyLine (c.in-Some.line.user, c.in-Some.line.key) = subst (λ found. IfSome found (λ line. IsKeyLine (line.user, line.key))) c.in-Some.is c.in_ok-line.ensures.good in
    put_user before c.args.line.now c.in-Some.line.user c.in-Some.line.key c.args.self.now c.put.new.self
    (ap (option_map (λ line. (line.user, line.key))) (sym c.in-Some.is) ∙ c.in_ok-line.ensures.said) none c.in_ok-put.ensures.ok good keeps
