use Rattle.std.proofs.Common.{◌≡◌, ◌/◌}
use Rattle.sealing.specs.Passwords.{key_after, password_key}
use Rattle.sealing.proofs.PasswordLemmas.{last_window, windows_from}
use Rattle.sealing.proofs.passwords.pass_to_key.Given as goal

abbrev pub invariant-loop-k : goal.invariant-loop-k
invariant-loop-k l = key_after (windows_from l.k (l.count / 8) (last_window l.count)) l.buffer l.key.0 ≡ password_key l.fn.password
