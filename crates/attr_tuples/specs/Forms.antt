-- The forms of values that keys and tables of users have. The lengths of names are those of authsrv(6)'s fields of the
-- Plan 9 manual without their NUL; which bytes they hold is this project's.
use Rattle.std.specs.Prelude.{ℕ, List, Bool, not, ◌&&◌, ◌||◌, ◌==◌, nat_le, length}
use Rattle.std.specs.List.{list_all}

-- a byte of a name: above the blank
abbrev pub is_above_blank : ℕ → Bool
is_above_blank b = nat_le 33 b

-- a byte of a domain is no `@` either
abbrev pub is_dom_byte : ℕ → Bool
is_dom_byte b = nat_le 33 b && not (b == 64)

-- a user: 1 to 27 such bytes
abbrev pub is_user : List ℕ → Bool
is_user text = nat_le 1 (length text) && (nat_le (length text) 27 && list_all is_above_blank text)

-- a domain: 1 to 47 such bytes
abbrev pub is_dom : List ℕ → Bool
is_dom text = nat_le 1 (length text) && (nat_le (length text) 47 && list_all is_dom_byte text)

-- a hexadecimal digit, in either case
abbrev pub is_hex_digit : ℕ → Bool
is_hex_digit b = nat_le 48 b && nat_le b 57 || (nat_le 65 b && nat_le b 70 || nat_le 97 b && nat_le b 102)

-- seven bytes in hexadecimal digits
abbrev pub is_hex_key : List ℕ → Bool
is_hex_key text = (length text == 14) && list_all is_hex_digit text
