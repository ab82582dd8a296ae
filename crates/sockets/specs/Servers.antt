-- The text that names the authentication servers: addresses with commas between them, each the path of a Unix socket
-- or a host, a colon and a port. The definitions are the project's own; the most bytes of a path are those of a
-- socket's address.
use Rattle.std.specs.Prelude.{ℕ, ◌+◌, ◌-◌, ◌*◌, List, [], ◌∷◌, Bool, false, ◌&&◌, ◌==◌, nat_le, nat_lt, length, drop, reverse, Option, Some, None, Result, Ok, Err, if◌then◌else◌}
use Rattle.sockets.specs.Endings.{is_digit}
use Rattle.sockets.specs.declared.servers.AddressFault.{AddressFault}
use Rattle.sockets.specs.declared.servers.AddressFault.TheVariants.{Empty, TooMany, LongPath, NoPort}
use Rattle.sockets.specs.declared.servers.TheConstants.{MOST_PATH, MOST_PORT, MOST_SERVERS}

-- ---- the addresses of a text

-- a byte more in front of the first address
abbrev pub onto : ℕ → List (List ℕ) → List (List ℕ)
onto b [] = (b ∷ []) ∷ []
onto b (item ∷ items) = (b ∷ item) ∷ items

-- what stands between the commas
abbrev pub items_of : List ℕ → List (List ℕ)
items_of [] = [] ∷ []
items_of (b ∷ text) = if b == 44 then [] ∷ items_of text else onto b (items_of text)

-- the addresses in what stands behind a comma, if there is one
abbrev pub items_behind : Option (List ℕ) → List (List ℕ)
items_behind None = []
items_behind (Some text) = items_of text

-- ---- a host, a colon and a port

-- the number up to the last port that digits behind a number make
abbrev pub port_behind : ℕ → List ℕ → Option ℕ
port_behind n [] = Some n
port_behind n (b ∷ digits) =
    if is_digit b && nat_le (10 * n + (b - 48)) MOST_PORT then port_behind (10 * n + (b - 48)) digits else None

abbrev pub is_some_port : Option ℕ → Bool
is_some_port None = false
is_some_port (Some n) = nat_lt 0 n

-- decimal digits of a number from 1 to 65535
abbrev pub is_port : List ℕ → Bool
is_port digits = is_some_port (port_behind 0 digits)

-- what stands behind the digits in front
abbrev pub behind_digits : List ℕ → List ℕ
behind_digits [] = []
behind_digits (b ∷ rest) = if is_digit b then behind_digits rest else b ∷ rest

-- what stands in front of the digits at the end
abbrev pub without_digits : List ℕ → List ℕ
without_digits item = reverse (behind_digits (reverse item))

-- a host, and a colon behind it, read from the back
abbrev pub is_colon_and_host : List ℕ → Bool
is_colon_and_host [] = false
is_colon_and_host (b ∷ host) = b == 58 && nat_lt 0 (length host)

abbrev pub is_host_and_port : List ℕ → Bool
is_host_and_port item =
    is_colon_and_host (behind_digits (reverse item)) && is_port (drop (length (without_digits item)) item)

-- ---- what is wrong with a text

abbrev pub path_fault : List ℕ → Option AddressFault
path_fault path = if nat_le (length path) MOST_PATH then None else Some LongPath

abbrev pub host_fault : List ℕ → Option AddressFault
host_fault item = if is_host_and_port item then None else Some NoPort

-- of one address: a path begins with '/'
abbrev pub item_fault : List ℕ → Option AddressFault
item_fault [] = Some Empty
item_fault (b ∷ rest) = if b == 47 then path_fault (b ∷ rest) else host_fault (b ∷ rest)

abbrev pub or_else : Option AddressFault → Option AddressFault → Option AddressFault
or_else None later = later
or_else (Some fault) later = Some fault

-- of the addresses behind so many others: the first fault among them, and too many where a seventeenth comes before one
abbrev pub first_fault : ℕ → List (List ℕ) → Option AddressFault
first_fault before [] = None
first_fault before (item ∷ items) =
    if nat_lt before MOST_SERVERS then or_else (item_fault item) (first_fault (before + 1) items) else Some TooMany

-- what is wrong with a text, where something is
unfoldable pub fault_of : List ℕ → Option AddressFault
fault_of text = first_fault 0 (items_of text)

-- the fault that a result tells
abbrev pub fault_told : {X : Type 0} → Result X AddressFault → Option AddressFault
fault_told (Ok x) = None
fault_told (Err fault) = Some fault
