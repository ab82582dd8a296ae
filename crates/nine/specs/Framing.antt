-- What a framer is to its callers, what it answers, and what that has to do with the stream that it was fed.
use Rattle.std.specs.Prelude.{◌≡◌, ◌≤◌, ◌<◌, ℕ, ◌+◌, List, [], ◌∷◌, ◌++◌, length, take, drop, Option, Bool, true, false}
use Rattle.std.specs.List.{AllByRecursion, concat}
use Rattle.std.specs.Io.KnownBytes.{Consumes, IsAtEnd, Keeps}
use Rattle.wire_streams.specs.declared.source.Got.{Got}
use Rattle.wire_streams.specs.declared.source.Got.TheVariants.{Bytes, End, Failed}
use Rattle.nine.specs.Decoding.{IsFrame}
use Rattle.nine.specs.Streams.{Front, front, IsWhole, IsBad, IsShort, frames}
use Rattle.nine.specs.Framed.{Framing, with_more}
use Rattle.nine.specs.declared.framer.Next.{Next}
use Rattle.nine.specs.declared.framer.Next.TheVariants.{Whole, NotYet, BadSize}
use Rattle.nine.specs.declared.block_framer.Peek.{Peek}
use Rattle.nine.specs.declared.block_framer.Peek.TheVariants as shown

-- a whole frame, no longer than the limit
pub record IsWithin (limit : ℕ) (frame : List ℕ) : Type 0 where
  pub frame_is : IsFrame frame
  pub size : length frame ≤ limit

-- The framer was fed this stream in all, in whatever pieces, and handed out these frames: what it holds is the rest.
pub record HasHandedOut (f : Framing) (stream : List ℕ) (handed : List (List ℕ)) : Type 0 where
  pub parts : stream ≡ concat handed ++ f.held
  pub place : f.before ≡ length (concat handed)
  pub each : AllByRecursion (IsWithin f.limit) handed

-- what was handed out stands no longer at the front of what is held
pub record HandsOut (old new : Framing) (frame : List ℕ) : Type 0 where
  pub parts : old.held ≡ frame ++ new.held
  pub place : new.before ≡ old.before + length frame
  pub limit : new.limit ≡ old.limit

-- The answer by what stands at the front of what is held: a whole frame, which is handed out, neither that nor a bad
-- size, or a bad size, with its place in the stream. Only a frame that is handed out changes the framer.
abbrev pub Answers : Framing → Framing → Next → Type 0
Answers old new (Whole frame) =
    (front old.limit old.held ≡ IsWhole (length frame)) × IsWithin old.limit frame × HandsOut old new frame
Answers old new NotYet = (front old.limit old.held ≡ IsShort) × (new ≡ old)
Answers old new (BadSize at size) = (front old.limit old.held ≡ IsBad size) × (at ≡ old.before) × (new ≡ old)

-- The answer by the frames of the whole stream: the first that wasn't handed out before, or that there is none. A bad
-- size stands behind those that were handed out.
abbrev pub Continues : Framing → Framing → Next → List ℕ → List (List ℕ) → Type 0
Continues old new (Whole frame) stream handed = (frames old.limit stream ≡ handed ++ frame ∷ frames old.limit new.held)
    × HasHandedOut new stream (handed ++ frame ∷ [])
Continues old new NotYet stream handed = frames old.limit stream ≡ handed
Continues old new (BadSize at size) stream handed = (frames old.limit stream ≡ handed) × (at ≡ length (concat handed))

-- whether that is a whole frame
abbrev pub is_whole : Front → Bool
is_whole (IsWhole size) = true
is_whole (IsBad size) = false
is_whole IsShort = false

-- a whole frame stands at the front
abbrev pub HasWhole : Framing → Type 0
HasWhole f = is_whole (front f.limit f.held) ≡ true

-- What is shown, by what stands at the front of what is held: a whole frame, neither that nor a bad size, or a bad
-- size, with its place in the stream.
abbrev pub Shows : Framing → Peek → Type 0
Shows f (shown.Whole frame) = (front f.limit f.held ≡ IsWhole (length frame.now))
    × (frame.now ≡ take (length frame.now) f.held) × IsWithin f.limit frame.now
Shows f shown.NotYet = front f.limit f.held ≡ IsShort
Shows f (shown.BadSize at size) = (front f.limit f.held ≡ IsBad size) × (at ≡ f.before)

-- What is shown, by the frames of the whole stream: the first that wasn't handed out before, or that there is none.
abbrev pub ShowsNext : Framing → Peek → List ℕ → List (List ℕ) → Type 0
ShowsNext f (shown.Whole frame) stream handed =
    frames f.limit stream ≡ handed ++ frame.now ∷ frames f.limit (drop (length frame.now) f.held)
ShowsNext f shown.NotYet stream handed = frames f.limit stream ≡ handed
ShowsNext f (shown.BadSize at size) stream handed = (frames f.limit stream ≡ handed) × (at ≡ length (concat handed))

-- What a read came to: the bytes that it took off the source are held behind the others; or the source is at its end,
-- or failed, and nothing has changed.
abbrev pub FillsSo : Option (List ℕ) → Option (List ℕ) → Got → Framing → Framing → Type 0
FillsSo left left_now (Bytes n) old new =
    (piece : List ℕ) × (0 < n) × (length piece ≡ n) × Consumes left left_now piece × (new ≡ with_more old piece)
FillsSo left left_now End old new = IsAtEnd left_now × Keeps left left_now × (new ≡ old)
FillsSo left left_now Failed old new = Keeps left left_now × (new ≡ old)

-- a read of at most so many bytes
abbrev pub FillsAtMost : ℕ → Option (List ℕ) → Option (List ℕ) → Got → Framing → Framing → Type 0
FillsAtMost most left left_now (Bytes n) old new = (n ≤ most) × FillsSo left left_now (Bytes n) old new
FillsAtMost most left left_now End old new = FillsSo left left_now End old new
FillsAtMost most left left_now Failed old new = FillsSo left left_now Failed old new
