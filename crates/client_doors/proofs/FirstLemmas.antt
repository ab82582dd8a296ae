-- The first of an address, found by its place.
use Rattle.std.proofs.Common.{◌≡◌, ◌≤◌, ℕ, suc, List, [], ◌∷◌, length, Bool, true, false, Option, refl, ap, arith, if◌then◌else◌}
use Rattle.std.specs.List.{remove}
use Rattle.client_doors.specs.declared.address.Address.{Address}
use Rattle.client_doors.specs.Inside.{first_at, is_same, without}

found_or_behind : (same : Bool) (b : Option Address) (bs others : List (Option Address)) (at : ℕ) → remove bs at ≡ others
    → remove (b ∷ bs) (if same then 0 else suc at) ≡ (if same then bs else b ∷ others)
found_or_behind true b bs others at e = refl
found_or_behind false b bs others at e = ap (λ (zs : List (Option Address)). b ∷ zs) e

-- without the one at its place
pub remove_first : (a : Option Address) (inside : List (Option Address)) → remove inside (first_at a inside) ≡ without a inside
remove_first a [] = refl
remove_first a (b ∷ inside) = found_or_behind (is_same a b) b inside (without a inside) (first_at a inside) (remove_first a inside)

none_of : (same : Bool) (b : Option Address) (bs others : List (Option Address)) (at : ℕ) → (length bs ≤ at → bs ≡ others)
    → length (b ∷ bs) ≤ (if same then 0 else suc at) → b ∷ bs ≡ (if same then bs else b ∷ others)
none_of true b bs others at e few = absurd (omega arith)
none_of false b bs others at e few = ap (λ (zs : List (Option Address)). b ∷ zs) (e (omega arith))

-- where its place is behind all
pub without_none : (a : Option Address) (inside : List (Option Address)) → length inside ≤ first_at a inside → inside ≡ without a inside
without_none a [] few = refl
without_none a (b ∷ inside) few = none_of (is_same a b) b inside (without a inside) (first_at a inside) (without_none a inside) few
