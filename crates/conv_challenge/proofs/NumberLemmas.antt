-- How large the number of a few digits may get.
use Rattle.std.proofs.Common.{ℕ, zero, suc, ◌≤◌, ◌<◌, ◌^◌, arith}

pub few_are_small : (i : ℕ) → i < 5 → 1000 ^ i ≤ 1000000000000
few_are_small zero few = omega arith
few_are_small (suc zero) few = omega arith
few_are_small (suc (suc zero)) few = omega arith
few_are_small (suc (suc (suc zero))) few = omega arith
few_are_small (suc (suc (suc (suc zero)))) few = omega arith
few_are_small (suc (suc (suc (suc (suc i))))) few = absurd (omega (arith, few))
