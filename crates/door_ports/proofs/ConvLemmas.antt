-- The least number that no conversation has.
use Rattle.std.proofs.Common.{◌≡◌, ℕ, zero, suc, ◌+◌, ◌-◌, ◌<◌, List, true, false, refl, ap, arith}
use Rattle.door_ports.specs.Settings.{holds, least_from}

pub least_here : (n at : ℕ) (convs : List ℕ) → holds at convs ≡ false → least_from n at convs ≡ at
least_here zero at convs free = refl
least_here (suc n) at convs free = rw free refl

pub least_later : (n at : ℕ) (convs : List ℕ) → 0 < n → holds at convs ≡ true → least_from n at convs ≡ least_from (n - 1) (at + 1) convs
least_later zero at convs some taken = absurd (omega arith)
least_later (suc n) at convs some taken = rw taken (ap (λ (k : ℕ). least_from k (at + 1) convs) (omega arith))
