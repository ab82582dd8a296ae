use Rattle.std.proofs.Common.{◌≡◌, ◌≤◌, drop}
use Rattle.auth_program.specs.AuthdWords.{number_up_to}
use Rattle.auth_program.proofs.authd_words.number_up_to.Given as goal

abbrev pub invariant-loop-byte : goal.invariant-loop-byte
invariant-loop-byte l = (number_up_to l.most l.number (drop l.byte-index l.digits) ≡ number_up_to l.most 0 l.digits) × (l.number ≤ l.most)
