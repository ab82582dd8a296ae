use Rattle.auth_tables.proofs.FoundLemmas.{read_is_table}
use Rattle.auth_tables.proofs.keys.parse_keys.Goals as goal

pub returns-clause-table : goal.returns-clause-table
returns-clause-table c = read_is_table c.args.file.now c.read_table.result c.read_table.ensures.told c.read_table.ensures.good
