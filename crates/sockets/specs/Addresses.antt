-- The two forms of an address. The definitions are the project's own.
use Rattle.std.specs.Prelude.{ℕ, List, [], ◌∷◌, Bool, true, false, ◌==◌}
use Rattle.sockets.specs.declared.accepting.Opened.{Opened}
use Rattle.sockets.specs.declared.accepting.Opened.TheVariants.{Tcp, Unix}

-- a path begins with '/'
abbrev pub is_path : List ℕ → Bool
is_path [] = false
is_path (b ∷ rest) = b == 47

-- whether connections are accepted at a path
abbrev pub is_unix : {L : Type 0} → Opened L → Bool
is_unix (Tcp listener) = false
is_unix (Unix listener) = true
