-- What was done with the fids of a connection, as a list of deeds, the newest first; what stands is read off it.
-- After section 5 of the Plan 9 manual (version, attach, walk, open, read, clunk).
use Rattle.std.specs.Prelude.{ℕ, List, [], ◌∷◌, ◌++◌, Option, None}
use Rattle.doors.specs.declared.fid.Names.{Names}
use Rattle.doors.specs.declared.fid.Held.{Held}
use Rattle.doors.specs.Fids.{holds, renamed, without}

pub data Deed : Type 0 where
  -- a version was answered, and all fids were given up: this largest message was agreed, or none
  Versioned : (msize : Option ℕ) → Deed
  -- a fid that wasn't held names this from then on
  Came : (fid : ℕ) (names : Names) → Deed
  -- a fid that was held names this from then on
  Became : (fid : ℕ) (names : Names) → Deed
  -- a fid was given up
  Clunked : (fid : ℕ) → Deed

-- the largest message that was agreed last; none where no version is agreed
abbrev pub msize_of : List Deed → Option ℕ
msize_of [] = None
msize_of (Versioned msize ∷ before) = msize
msize_of (deed ∷ before) = msize_of before

-- the fids that are held, in the order in which they came
abbrev pub held_in : List Deed → List Held
held_in [] = []
held_in (Versioned msize ∷ before) = []
held_in (Came fid names ∷ before) = held_in before ++ holds fid names ∷ []
held_in (Became fid names ∷ before) = renamed fid names (held_in before)
held_in (Clunked fid ∷ before) = without fid (held_in before)
