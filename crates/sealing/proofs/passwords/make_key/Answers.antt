use Rattle.std.proofs.Common.{◌+◌, ◌-◌, ◌*◌, ◌/◌, ◌%◌, ◌^◌, get_or, arith}
use Rattle.std.proofs.lemmas.List.FromFn.{fill_by_all}
use Rattle.sealing.specs.Passwords.{window_key}
use Rattle.sealing.proofs.passwords.make_key.Goals as goal

pub returns : goal.returns
unfolding window_key
returns c =
    fill_by_all (λ k. (get_or c.args.window.now k 0 / 2 ^ k + get_or c.args.window.now (k + 1) 0 * 2 ^ (7 - k)) % 256) c.loop-i.key 7 0
    c.loop-i.invariant.0 (λ k l. c.loop-i.invariant.1 k (omega arith))
