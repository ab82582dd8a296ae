use Rattle.nine_print.proofs.SecretLaws.{same_write, same_read}
use Rattle.nine_print.proofs.laws.no_secret_is_shown.Goals as goal

pub returns-clause-writes : goal.returns-clause-writes
returns-clause-writes c = same_write

pub returns-clause-reads : goal.returns-clause-reads
returns-clause-reads c = same_read
