use Rattle.std.proofs.Common.{length}
use Rattle.auth_program.proofs.authd_words.+append_others.Given as goal

abbrev pub decreases-append_others : goal.decreases-append_others
decreases-append_others l = length l.words.now
