-- Who is inside, by addresses, which a client may have none of. The definitions are the project's own.
use Rattle.std.specs.Prelude.{ℕ, suc, List, [], ◌∷◌, Bool, true, false, ◌&&◌, ◌==◌, nat_lt, length, Option, None, Some, if◌then◌else◌}
use Rattle.client_doors.specs.declared.address.Address.{Address}
use Rattle.client_doors.specs.declared.limits.Limits.{Limits}

-- whether two clients have the same address, or neither has one
abbrev pub is_same : Option Address → Option Address → Bool
is_same None None = true
is_same None (Some b) = false
is_same (Some a) None = false
is_same (Some a) (Some b) = a.bits == b.bits

-- how many of those inside have an address
abbrev pub count_of : Option Address → List (Option Address) → ℕ
count_of a [] = 0
count_of a (b ∷ inside) = if is_same a b then suc (count_of a inside) else count_of a inside

-- whether there is room for one client more of an address; who has none is counted among all alone
abbrev pub has_own_room : Limits → List (Option Address) → Option Address → Bool
has_own_room limits inside None = true
has_own_room limits inside (Some a) = nat_lt (count_of (Some a) inside) limits.per_address

-- whether there is room for one client more
abbrev pub has_room : Limits → List (Option Address) → Option Address → Bool
has_room limits inside a = nat_lt (length inside) limits.clients && has_own_room limits inside a

-- all but the first of an address
abbrev pub without : Option Address → List (Option Address) → List (Option Address)
without a [] = []
without a (b ∷ inside) = if is_same a b then inside else b ∷ without a inside

-- Of the code alone: where the first of an address stands; behind all where none does.
abbrev pub first_at : Option Address → List (Option Address) → ℕ
first_at a [] = 0
first_at a (b ∷ inside) = if is_same a b then 0 else suc (first_at a inside)
