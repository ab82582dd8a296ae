use Rattle.nine_print.proofs.SecretLaws.{hidden_write, hidden_read}
use Rattle.nine_print.proofs.laws.no_bytes_are_shown.Goals as goal

pub returns-clause-writes : goal.returns-clause-writes
returns-clause-writes c = hidden_write

pub returns-clause-reads : goal.returns-clause-reads
returns-clause-reads c = hidden_read
