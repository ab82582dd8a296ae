-- What is secret in a run, and what may be known of it.
use Rattle.std.specs.Prelude.{◌≡◌, ℕ, List, Bool, true, false, not, ◌||◌, Option, Some, None}
use Rattle.std.specs.List.{list_any}
use Rattle.std.specs.Str.{bytes_eq}
use Rattle.symbolic_runs.specs.Trees.{Tree, long_key, ticket_key, junk_key, password, joined, seal, Trees, none, piece}
use Rattle.symbolic_runs.specs.Sessions.{Used, keys, key_and_password}
use Rattle.symbolic_runs.specs.Runs.{Setting}

-- whether a name's key and password were betrayed
abbrev pub is_compromised : Setting → List ℕ → Bool
is_compromised s name = list_any (λ other. bytes_eq other name) s.compromised

abbrev pub is_betrayed : Setting → Option (List ℕ) → Bool
is_betrayed s (Some name) = is_compromised s name
is_betrayed s None = false

-- whether a grant is exposed: a name under whose key one of its tickets was sealed is compromised
abbrev pub exposes : Setting → Used → Bool
exposes s (keys server client) = is_betrayed s server || is_betrayed s client
exposes s (key_and_password server name) = is_betrayed s server

abbrev pub is_exposed : Setting → ℕ → Bool
is_exposed s number = exposes s (s.grants number).used

-- the uncompromised secrets: keys and passwords of names that aren't compromised, ticket keys of grants that aren't
-- exposed, and every key that was made up
abbrev pub is_secret : Setting → Tree → Bool
is_secret s (long_key name) = not (is_compromised s name)
is_secret s (password name) = not (is_compromised s name)
is_secret s (ticket_key number) = not (is_exposed s number)
is_secret s (junk_key number) = true
is_secret s t = false

-- what may be known: a secret stands in it only as a key or in a seal whose key may not be known. Of a seal: if its key
-- may be known, then its body may be; a digest may always be known
abbrev mutual
  pub Guarded : Setting → Tree → Type 0
  Guarded s (long_key name) = is_compromised s name ≡ true
  Guarded s (password name) = is_compromised s name ≡ true
  Guarded s (ticket_key number) = is_exposed s number ≡ true
  Guarded s (junk_key number) = ⊥
  Guarded s (joined ts) = GuardedAll s ts
  Guarded s (seal k t) = Guarded s k → Guarded s t
  Guarded s t = Unit

  pub GuardedAll : Setting → Trees → Type 0
  GuardedAll s none = Unit
  GuardedAll s (piece t ts) = Guarded s t × GuardedAll s ts
