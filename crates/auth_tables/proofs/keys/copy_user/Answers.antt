use Rattle.auth_tables.proofs.KeyLemmas.{user_named}
use Rattle.auth_tables.proofs.keys.copy_user.Goals as goal

pub unreachable-requires : goal.unreachable-requires
unreachable-requires c = user_named c.args.line.now c.as_slice.result.now c.requires c.as_slice.ensures (c.in_default.ensures)
