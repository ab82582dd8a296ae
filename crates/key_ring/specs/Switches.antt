-- How lines `debug` among those that are carried out switch the further lines of the log.
use Rattle.std.specs.Prelude.{ℕ, List, [], ◌∷◌, Bool, false, not}
use Rattle.key_lists.specs.Lists.{KeyList}
use Rattle.key_lists.specs.CtlLines.{CtlLine, OnKeys, Debug, carried_out}

-- whether they are wanted behind lines that are carried out, by whether they are wanted before
abbrev pub switched : List CtlLine → Bool → Bool
switched [] wanted = wanted
switched (OnKeys edit ∷ more) wanted = switched more wanted
switched (Debug ∷ more) wanted = switched more (not wanted)

-- the lines of a write that are carried out over some keys switch them an odd number of times
abbrev pub switches : KeyList → List (List ℕ) → Bool
switches keys lines = switched (carried_out keys lines) false
