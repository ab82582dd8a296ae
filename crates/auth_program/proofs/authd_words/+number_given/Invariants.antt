use Rattle.std.proofs.Common.{length}
use Rattle.auth_program.proofs.authd_words.+number_given.Given as goal

abbrev pub decreases-number_given : goal.decreases-number_given
decreases-number_given l = length l.words.now
