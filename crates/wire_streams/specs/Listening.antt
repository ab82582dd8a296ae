-- What one call of a listener takes of the connections to come, which are optional, since a listener need not tell
-- them. The definitions are the project's own.
use Rattle.std.specs.Prelude.{◌≡◌, List, ◌∷◌, ◌++◌, Option, None, Some, Result, Ok, Err, ⊤}
use Rattle.wire_streams.specs.declared.listener.ListenFault.{ListenFault}

-- The connection accepted is the first of those to come, and is among them no more; accepting that failed leaves them.
abbrev pub Accepts : {P : Type 0} → Option (List P) → Option (List P) → Result P ListenFault → Type 0
Accepts None new accepted = ⊤
Accepts (Some pairs) None accepted = ⊥
Accepts (Some pairs) (Some later) (Ok pair) = pairs ≡ pair ∷ later
Accepts (Some pairs) (Some later) (Err fault) = later ≡ pairs

-- Between what a listener told at two moments these connections came, in this order.
abbrev pub Came : {P : Type 0} → Option (List P) → Option (List P) → List P → Type 0
Came None now pairs = ⊤
Came (Some before) None pairs = ⊥
Came (Some before) (Some now) pairs = before ≡ pairs ++ now
