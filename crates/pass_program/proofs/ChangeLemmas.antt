-- What a name is as a password.
use Rattle.std.proofs.Common.{◌≡◌, ◌&&◌, ℕ, List, true, length, refl, arith}
use Rattle.std.specs.Prelude.{nat_le}
use Rattle.std.specs.List.{list_all}
use Rattle.std.proofs.Math.Bool.{and-true}
use Rattle.std.proofs.lemmas.Bool.{le-leb}
use Rattle.wire_base.specs.Names.{IsName}
use Rattle.auth_tables.specs.Printing.{is_new_password}

-- a name of 28 bytes is text of at most 27 bytes, so that the other two tests are left
pub of_name : (name : List ℕ) → IsName 28 name → (nat_le 8 (length name) && list_all (nat_le 32) name) ≡ is_new_password name
of_name name is =
    let short : nat_le (length name) 27 ≡ true = le-leb (length name) 27 (omega (arith, is.short)) in
    rw (short, is.text, and-true (list_all (nat_le 32) name)) refl
