use Rattle.auth_tables.proofs.PrintLemmas.{set_table}
use Rattle.auth_tables.proofs.keys.KeyTable.set_password.Goals as goal

pub returns-clause-table : goal.returns-clause-table
returns-clause-table c = λ table. set_table c.args.user.now c.args.password.now c.in_ok-key.key c.args.self.now c.replace.new.self c.requires c.in_ok-key.ensures.value c.in_ok-key.ensures.sized.0 c.in_ok-key.ensures.sized.1 c.replace.ensures.set table
