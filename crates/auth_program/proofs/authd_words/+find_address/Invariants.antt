use Rattle.std.proofs.Common.{length}
use Rattle.auth_program.proofs.authd_words.+find_address.Given as goal

abbrev pub decreases-find_address : goal.decreases-find_address
decreases-find_address l = length l.words.now
