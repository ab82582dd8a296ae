use Rattle.auth_tables.proofs.ReadLaws.{written_read, written_good}
use Rattle.auth_tables.proofs.laws.a_written_table_is_read.Goals as goal

pub returns-clause-keys : goal.returns-clause-keys
returns-clause-keys c = written_read

pub returns-clause-good : goal.returns-clause-good
returns-clause-good c = written_good
