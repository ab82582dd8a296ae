-- The frames of a stream, after intro(5) of the Plan 9 manual: each message begins with a size of four bytes, the
-- lowest first, which counts itself. A size under 7, which is that of a message without fields, and one over a limit
-- are bad, and nothing is read behind them.
use Rattle.std.specs.Prelude.{◌≡◌, ℕ, zero, suc, List, [], ◌∷◌, length, take, drop, Option, Some, None, Bool, ◌||◌, nat_lt, nat_le, if◌then◌else◌}
use Rattle.std.specs.List.{concat}
use Rattle.std.specs.Int.{w32}
use Rattle.wire_base.specs.Readers.{number, value_of}

-- the size that begins a stream, where its four bytes are there
abbrev pub size_of : List ℕ → Option ℕ
size_of stream = value_of (number w32 stream 0)

-- a size that no frame has
abbrev pub is_bad : ℕ → ℕ → Bool
is_bad limit size = nat_lt size 7 || nat_lt limit size

-- what stands at the front of a stream: a whole frame of this size, a bad size, or neither
pub data Front : Type 0 where
  IsWhole : (size : ℕ) → Front
  IsBad : (size : ℕ) → Front
  IsShort : Front

-- of a stream that begins with this size
abbrev pub front_with : ℕ → List ℕ → Option ℕ → Front
front_with limit stream None = IsShort
front_with limit stream (Some size) =
    if is_bad limit size then IsBad size
    else if nat_le size (length stream) then IsWhole size
    else IsShort

unfoldable pub front : ℕ → List ℕ → Front
front limit stream = front_with limit stream (size_of stream)

-- the whole frames at the front of a stream, at most so many, up to what is no whole frame
abbrev pub frames_up_to : ℕ → ℕ → List ℕ → List (List ℕ)
frames_up_to zero limit stream = []
frames_up_to (suc most) limit stream = elim (front limit stream) [
  | IsWhole size ↦ take size stream ∷ frames_up_to most limit (drop size stream)
  | IsBad size ↦ []
  | IsShort ↦ []
]

-- the whole frames at the front of a stream, up to the first bad size: there are no more of them than bytes
unfoldable pub frames : ℕ → List ℕ → List (List ℕ)
frames limit stream = frames_up_to (length stream) limit stream

-- so far they reach
abbrev pub end_of : ℕ → List ℕ → ℕ
end_of limit stream = length (concat (frames limit stream))

-- this bad size stands behind them
abbrev pub HasBadSize : ℕ → List ℕ → ℕ → Type 0
HasBadSize limit stream size = front limit (drop (end_of limit stream) stream) ≡ IsBad size

-- what stands behind them may yet become a frame: it has no bad size
abbrev pub HasNoBadSize : ℕ → List ℕ → Type 0
HasNoBadSize limit stream = front limit (drop (end_of limit stream) stream) ≡ IsShort

-- the stream is whole frames, one behind the other, and nothing else
abbrev pub IsFrames : ℕ → List ℕ → Type 0
IsFrames limit stream = stream ≡ concat (frames limit stream)
