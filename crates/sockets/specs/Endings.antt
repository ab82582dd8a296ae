-- Where an answer of the authentication server ends, after authsrv(6) of the Plan 9 manual: the length of an answer is
-- told by its kind, by what was asked, and where it is a challenge by a number in front of it. The most bytes that a
-- challenge may have are this project's.
use Rattle.std.specs.Prelude.{ℕ, ◌+◌, ◌-◌, ◌*◌, List, [], ◌∷◌, Bool, ◌&&◌, ◌==◌, nat_le, nat_lt, length, take, if◌then◌else◌}
use Rattle.wire_base.specs.Kinds.{answer_ok, answer_error, answer_counted}
use Rattle.wire_base.specs.declared.shape.Shape.{Shape}
use Rattle.wire_base.specs.declared.shape.Shape.TheVariants.{Tickets, Challenge, Vouch}
use Rattle.sockets.specs.declared.ending.Counted.{Counted}
use Rattle.sockets.specs.declared.ending.Counted.TheVariants.{Before, Number, Behind, Faulty}
use Rattle.sockets.specs.declared.ending.TheConstants.{MOST_CHALLENGE}

-- ---- the number in front of a challenge

abbrev pub is_digit : ℕ → Bool
is_digit b = nat_le 48 b && nat_le b 57

-- a number with one more digit behind it, as long as a challenge may have so many bytes
abbrev pub with_digit : ℕ → ℕ → Counted
with_digit n b = if nat_le (10 * n + (b - 48)) MOST_CHALLENGE then Number (10 * n + (b - 48)) else Faulty

-- How far a number is read with one byte more: blanks, digits, blanks again.
abbrev pub after_byte : Counted → ℕ → Counted
after_byte Before b = if b == 32 then Before else (if is_digit b then with_digit 0 b else Faulty)
after_byte (Number n) b = if b == 32 then Behind n else (if is_digit b then with_digit n b else Faulty)
after_byte (Behind n) b = if b == 32 then Behind n else Faulty
after_byte Faulty b = Faulty

abbrev pub after_bytes : Counted → List ℕ → Counted
after_bytes counted [] = counted
after_bytes counted (b ∷ field) = after_bytes (after_byte counted b) field

-- the number that was read, and 0 where there is none
abbrev pub number_read : Counted → ℕ
number_read Before = 0
number_read (Number n) = n
number_read (Behind n) = n
number_read Faulty = 0

-- how many bytes the challenge has behind a field: the number that its decimal digits spell, with blanks before or
-- behind them, and none where they spell none from 1 to the most
unfoldable pub challenge_length : List ℕ → ℕ
challenge_length field = number_read (after_bytes Before field)

-- ---- an answer

-- what stands behind a grant: two tickets of 72 bytes, or a ticket and an authenticator of 13
abbrev pub granted_length : Shape → ℕ
granted_length Tickets = 144
granted_length Challenge = 0
granted_length Vouch = 85

-- what stands behind the byte that says that a challenge follows: its field of five bytes, and the challenge
abbrev pub counted_length : Shape → List ℕ → ℕ
counted_length Tickets rest = 0
counted_length Challenge rest = if nat_lt (length rest) 5 then 5 else 5 + challenge_length (take 5 rest)
counted_length Vouch rest = 0

-- what stands behind a kind
abbrev pub length_behind : Shape → ℕ → List ℕ → ℕ
length_behind shape kind rest =
    if kind == answer_error then 64
    else (if kind == answer_ok then granted_length shape
    else (if kind == answer_counted then counted_length shape rest else 0))

-- how many bytes an answer has, as far as those that came of it tell
abbrev pub answer_length : Shape → List ℕ → ℕ
answer_length shape [] = 1
answer_length shape (kind ∷ rest) = 1 + length_behind shape kind rest
