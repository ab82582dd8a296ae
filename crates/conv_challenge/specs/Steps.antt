-- Words for the steps of the machine. No public contract cites them.
use Rattle.std.specs.Prelude.{◌≡◌, ℕ, ◌≤◌, true, false, List, [], nat_lt, length, Option, Some, None, Result, Ok, Err, if◌then◌else◌}
use Rattle.wire_base.specs.Rules.{first_told}
use Rattle.attr_tuples.specs.declared.attr.Attr.{Attr}
use Rattle.roles.specs.declared.answer.Cause.TheVariants.{WrongUser}
use Rattle.roles.specs.declared.answer.Gave.{Gave}
use Rattle.roles.specs.declared.answer.Gave.TheVariants as g
use Rattle.roles.specs.declared.answer.StartFault.{StartFault}
use Rattle.roles.specs.declared.need.Need.TheVariants.{Nothing}
use Rattle.roles.specs.Starts.{Start}
use Rattle.roles.specs.Talks.{Verdict, goes, stays, breaks}
use Rattle.conv_challenge.specs.declared.own.Own.{Own}
use Rattle.conv_challenge.specs.declared.stage.Proto.{Proto}
use Rattle.conv_challenge.specs.declared.stage.Side.{Side}
use Rattle.conv_challenge.specs.declared.stage.Stage.{Stage}
use Rattle.conv_challenge.specs.declared.step.Step.{Step}
use Rattle.conv_challenge.specs.declared.step.Step.TheVariants.{Goes, Waits, Stays, Breaks}
use Rattle.conv_challenge.specs.Courses.{need_of}
use Rattle.conv_challenge.specs.Servers.{user_tests}
use Rattle.conv_challenge.specs.Starts.{names_proto, names_side, proto_of, side_of, start_fault}

-- ---- starts

-- the start that a machine keeps
abbrev pub start_of : Own → Start
start_of own = record { template = own.template; word = own.word }

-- a start that is one, its protocol and its side, or why it is none
abbrev pub Starts : Result (Proto × Side) StartFault → List Attr → Type 0
Starts (Ok named) template =
    (start_fault template ≡ None) × ((named.0 ≡ proto_of template) × (named.1 ≡ side_of template))
Starts (Err fault) template = start_fault template ≡ Some fault

-- the protocol that a template names, if it names one, and the side
abbrev pub Speaks : Option Proto → List Attr → Type 0
Speaks (Some proto) template = (names_proto template ≡ true) × (proto ≡ proto_of template)
Speaks None template = names_proto template ≡ false

abbrev pub Sides : Option Side → List Attr → Type 0
Sides (Some side) template = (names_side template ≡ true) × (side ≡ side_of template)
Sides None template = names_side template ≡ false

-- ---- steps

-- a step as a verdict, with the bytes that are got
abbrev pub with_bytes : Step → List ℕ → Verdict Stage
with_bytes (Goes next) bytes = goes next g.Ok bytes
with_bytes (Waits next) bytes = goes next g.Wait bytes
with_bytes (Stays answer) bytes = stays answer
with_bytes (Breaks cause) bytes = breaks cause

abbrev pub verdict_of : Step → Verdict Stage
verdict_of step = with_bytes step []

-- a step whose next stage needs nothing
abbrev pub NeedsNothing : Step → Type 0
NeedsNothing (Goes next) = (start : Start) → need_of start next ≡ Nothing
NeedsNothing (Waits next) = ⊥
NeedsNothing (Stays answer) = Unit {0}
NeedsNothing (Breaks cause) = Unit {0}

-- ---- messages

-- a message of so many bytes: fewer are too few, and more are too many
abbrev pub within : ℕ → ℕ → List ℕ → Verdict Stage → Verdict Stage
within least most bytes whole =
    if nat_lt (length bytes) least then stays (g.TooSmall least)
    else if nat_lt most (length bytes) then stays g.TooLong
    else whole

-- what such a message comes to that has too few bytes or too many, or that it has neither
abbrev pub Fits : ℕ → ℕ → Option Gave → List ℕ → Type 0
Fits least most (Some answer) bytes = (whole : Verdict Stage) → within least most bytes whole ≡ stays answer
Fits least most None bytes =
    ((whole : Verdict Stage) → within least most bytes whole ≡ whole) × ((least ≤ length bytes) × (length bytes ≤ most))

-- the user whom a name of 1 to 27 bytes names, or that it names none
abbrev pub ReadsUser : Option (List ℕ) → List ℕ → Type 0
ReadsUser (Some user) bytes = (first_told (user_tests bytes) ≡ None) × (user ≡ bytes)
ReadsUser None bytes = first_told (user_tests bytes) ≡ Some WrongUser
