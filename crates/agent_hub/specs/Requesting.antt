-- What is entered of the bytes that a connection's peer sends: a request for each whole frame, in order, each with
-- the word that was drawn for it.
use Rattle.std.specs.Prelude.{ℕ, List, [], ◌∷◌, ◌++◌, map}
use Rattle.nine.specs.Streams.{frames}
use Rattle.agent_history.specs.declared.event.Event.{Event}
use Rattle.agent_history.specs.declared.event.Event.TheVariants.{Request}

-- the greatest size of a frame
abbrev pub most_frame : ℕ
most_frame = 8216

-- the whole frames of an input, up to the first bad size
abbrev pub frames_in : List ℕ → List (List ℕ)
frames_in input = frames most_frame input

-- a frame, and the word that was drawn for it; lists of them have the newest first
pub record Drawn : Type 0 where
  pub frame : List ℕ
  pub word : List ℕ

-- such a frame by its parts
abbrev pub drawn_for : List ℕ → List ℕ → Drawn
drawn_for frame word = record { frame = frame; word = word }

-- the frames in order, and the words
abbrev pub frames_of : List Drawn → List (List ℕ)
frames_of [] = []
frames_of (d ∷ older) = frames_of older ++ d.frame ∷ []

abbrev pub words_of : List Drawn → List (List ℕ)
words_of [] = []
words_of (d ∷ older) = words_of older ++ d.word ∷ []

-- the requests that they are, the newest first
abbrev pub requests : ℕ → List Drawn → List Event
requests conn drawn = map (λ (d : Drawn). Request conn d.frame d.word) drawn
