use Rattle.std.proofs.lemmas.Result.{on_ok_weaker}
use Rattle.auth_tables.proofs.PrintLemmas.{password_put}
use Rattle.auth_tables.proofs.keys.AsKey.append_password.Goals as goal

pub returns-clause-ok : goal.returns-clause-ok
returns-clause-ok c = on_ok_weaker c.put_value.result (λ put. password_put c.args.out.now _ _ c.as_slice.result.now c.in-Some.password.now c.args.self.now.password c.in-Some.ensures c.as_slice.ensures.same c.in_ok-append.ensures.ok put) c.put_value.ensures.ok
