-- Numbers as ranges that stand apart.
use Rattle.std.specs.Prelude.{ℕ, zero, suc, ◌+◌, ◌<◌, ◌≤◌, List, [], ◌∷◌, Bool, cond, false, ◌&&◌, ◌||◌, leb, ltb, min, max, Option, Some, None}
use Rattle.wire_base.specs.declared.range.Range.{Range}

-- ---- numbers

abbrev pub is_within : ℕ → Range → Bool
is_within q r = leb r.first q && leb q r.last

-- a number is in one of the ranges
abbrev pub has_number : List Range → ℕ → Bool
has_number [] q = false
has_number (r ∷ rs) q = is_within q r || has_number rs q

-- between the number and the first of the ranges another one is missing
abbrev pub BeginPast : ℕ → List Range → Type 0
BeginPast n [] = Unit {0}
BeginPast n (r ∷ rs) = n + 1 < r.first

-- no range is empty, they are in order, and no two touch
abbrev pub AreApart : List Range → Type 0
AreApart [] = Unit {0}
AreApart (r ∷ rs) = (r.first ≤ r.last) × BeginPast r.last rs × AreApart rs

-- a set of numbers, and for how many ranges more there is room
pub record Numbers : Type 0 where
  pub ranges : List Range
  pub room : ℕ

-- ---- of the code alone: places

-- how many ranges end before the number
abbrev pub ends_before : ℕ → List Range → ℕ
ends_before n [] = zero
ends_before n (r ∷ rs) = cond (ltb r.last n) (suc (ends_before n rs)) zero

-- the first of the ranges begins at the number or before
abbrev pub begun : ℕ → List Range → Bool
begun n [] = false
begun n (r ∷ rs) = leb r.first n

-- the first of the ranges, if it begins right behind the number at the latest
abbrev pub beside : ℕ → List Range → Option Range
beside n [] = None
beside n (r ∷ rs) = cond (leb r.first (n + 1)) (Some r) None

abbrev pub widened : ℕ → Range → Range
widened n r = record { first = min r.first n; last = max r.last n }
