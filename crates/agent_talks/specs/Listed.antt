-- Of the code alone: who has conversations open, in the order of their numbers, and the number that a fid of a
-- connection finds.
use Rattle.std.specs.Prelude.{◌≡◌, ◌<◌, ℕ, List, [], ◌∷◌, ◌++◌, Bool, false, not, ◌==◌, ◌&&◌, filter, find, Option, option_map}
use Rattle.std.specs.List.{list_any}
use Rattle.std.specs.declared.cmp.Ordering.{Ordering}
use Rattle.std.specs.Ordering.{nat_cmp, ordering_then}
use Rattle.std.specs.BTreeMap.{BTreeMap, get}
use Rattle.agent_talks.specs.declared.speaker.Speaker.{Speaker}

-- a conversation is open by a fid of a connection
abbrev pub is_of : ℕ → ℕ → Speaker → Bool
is_of conn fid s = s.conn == conn && s.fid == fid

-- the number of the first that is
abbrev pub conv_in : ℕ → ℕ → List Speaker → Option ℕ
conv_in conn fid xs = option_map (λ s. s.conv) (find (is_of conn fid) xs)

abbrev pub is_among : ℕ → List Speaker → Bool
is_among conv xs = list_any (λ s. s.conv == conv) xs

-- a number is above all of them
abbrev pub IsAbove : ℕ → List Speaker → Type 0
IsAbove conv [] = Unit {0}
IsAbove conv (s ∷ xs) = (s.conv < conv) × IsAbove conv xs

-- and below
abbrev pub IsUnder : ℕ → List Speaker → Type 0
IsUnder conv [] = Unit {0}
IsUnder conv (s ∷ xs) = (conv < s.conv) × IsUnder conv xs

-- the numbers rise
abbrev pub Rises : List Speaker → Type 0
Rises [] = Unit {0}
Rises (s ∷ xs) = IsUnder s.conv xs × Rises xs

-- a fid has one open at most
abbrev pub AreAlone : List Speaker → Type 0
AreAlone [] = Unit {0}
AreAlone (s ∷ xs) = (list_any (is_of s.conn s.fid) xs ≡ false) × AreAlone xs

-- how fids of connections are compared
abbrev pub fid_cmp : ℕ × ℕ → ℕ × ℕ → Ordering
fid_cmp x y = ordering_then (nat_cmp x.0 y.0) (nat_cmp x.1 y.1)

-- a look-up by the fid finds what going over the list finds
pub record IsListed (by_fid : BTreeMap (ℕ × ℕ) ℕ) (xs : List Speaker) : Type 0 where
  pub rises : Rises xs
  pub alone : AreAlone xs
  pub found : (conn fid : ℕ) → get fid_cmp by_fid (conn, fid) ≡ conv_in conn fid xs

-- one more stands last, whose fid had none open
pub record Joins (old new : List Speaker) (s : Speaker) : Type 0 where
  pub list : new ≡ old ++ s ∷ []
  pub alone : filter (λ t. not (is_of s.conn s.fid t)) old ≡ old
