-- Which of the connections that come are handed on: those that are let in by who is inside when they come. Who is
-- inside, and which connections come, is optional, since it need not be told. The definitions are the project's own.
use Rattle.std.specs.Prelude.{◌≡◌, List, [], ◌∷◌, Bool, Option, None, Some, Result, Ok, Err, ⊤, if◌then◌else◌}
use Rattle.wire_streams.specs.declared.listener.ListenFault.{ListenFault}
use Rattle.client_doors.specs.declared.address.Address.{Address}
use Rattle.client_doors.specs.Histories.{Seen, came, is_let_in}

-- A client came: whether it is inside is as who was inside before says, and so is who is inside now.
abbrev pub Admits : Option Seen → Option Seen → Option Address → Bool → Type 0
Admits None now a is_in = ⊤
Admits (Some before) None a is_in = ⊥
Admits (Some before) (Some now) a is_in = (is_in ≡ is_let_in a before) × (now ≡ came a before)

-- the connections that are let in, in order, where nobody goes meanwhile; each comes after those before it
abbrev pub handed_on : {I O : Type 0} → (I → Option Address) → Seen → List (I × O) → List (I × O)
handed_on address_of seen [] = []
handed_on address_of seen (p ∷ pairs) = if is_let_in (address_of p.0) seen
    then p ∷ handed_on address_of (came (address_of p.0) seen) pairs
    else handed_on address_of (came (address_of p.0) seen) pairs

-- those, where both are told
abbrev pub told : {I O : Type 0} → (I → Option Address) → Option Seen → Option (List (I × O)) → Option (List (I × O))
told address_of None pairs = None
told address_of (Some seen) None = None
told address_of (Some seen) (Some pairs) = Some (handed_on address_of seen pairs)

-- Of the code alone: one connection was accepted and is the first of these, or it is none of them, or accepting failed.
abbrev pub AcceptsOne : {P : Type 0} → Option (List P) → Option (List P) → Result (Option P) ListenFault → Type 0
AcceptsOne None new accepted = ⊤
AcceptsOne (Some pairs) None accepted = ⊥
AcceptsOne (Some pairs) (Some later) (Ok (Some pair)) = pairs ≡ pair ∷ later
AcceptsOne (Some pairs) (Some later) (Ok None) = later ≡ pairs
AcceptsOne (Some pairs) (Some later) (Err fault) = later ≡ pairs

-- Of the code alone: the connections that are told now are those that were told.
abbrev pub Stays : {P : Type 0} → Option (List P) → Option (List P) → Type 0
Stays None now = ⊤
Stays (Some pairs) None = ⊥
Stays (Some pairs) (Some later) = later ≡ pairs
