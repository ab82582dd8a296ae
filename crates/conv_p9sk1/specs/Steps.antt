-- Words for the steps of the machine. No public contract cites them.
use Rattle.std.specs.Prelude.{◌≡◌, true, ℕ, List, [], length, Result, Ok, Err}
use Rattle.attr_tuples.specs.Forms.{is_dom}
use Rattle.sealing.specs.Request.{request_of}
use Rattle.sealing.specs.declared.fault.FieldFault.{FieldFault}
use Rattle.sealing.specs.declared.request.TicketReq.{TicketReq}
use Rattle.roles.specs.declared.answer.Gave.TheVariants as g
use Rattle.roles.specs.declared.stage.Stage.{Stage}
use Rattle.roles.specs.declared.stage.Stage.TheVariants.{ClientKey}
use Rattle.roles.specs.declared.need.Need.TheVariants.{Nothing}
use Rattle.roles.specs.Courses.{need_of}
use Rattle.roles.specs.Starts.{Start}
use Rattle.roles.specs.Talks.{Verdict, goes, stays, breaks, sized}
use Rattle.conv_p9sk1.specs.declared.own.Own.{Own}
use Rattle.conv_p9sk1.specs.declared.step.Step.{Step}
use Rattle.conv_p9sk1.specs.declared.step.Step.TheVariants.{Goes, Waits, Stays, Breaks}

-- the start that a machine keeps
abbrev pub start_of : Own → Start
start_of own = record { template = own.template; word = own.word }

-- a step as a verdict, with the bytes that are got
abbrev pub with_bytes : Step → List ℕ → Verdict Stage
with_bytes (Goes next) bytes = goes next g.Ok bytes
with_bytes (Waits next) bytes = goes next g.Wait bytes
with_bytes (Stays answer) bytes = stays answer
with_bytes (Breaks cause) bytes = breaks cause

abbrev pub verdict_of : Step → Verdict Stage
verdict_of step = with_bytes step []

-- the domain of a request that passed its tests
abbrev pub HasDom : Result TicketReq FieldFault → Type 0
HasDom (Ok request) = is_dom request.authdom ≡ true
HasDom (Err fault) = Unit {0}

-- a stage whose needs can be told
abbrev pub IsReady : Stage → Type 0
IsReady (ClientKey request) = HasDom (request_of request)
IsReady _ = Unit {0}

abbrev pub LeadsOn : Step → Type 0
LeadsOn (Goes next) = IsReady next
LeadsOn (Waits next) = IsReady next
LeadsOn (Stays answer) = Unit {0}
LeadsOn (Breaks cause) = Unit {0}

-- a step whose next stage needs nothing
abbrev pub NeedsNothing : Step → Type 0
NeedsNothing (Goes next) = (start : Start) → need_of start next ≡ Nothing
NeedsNothing (Waits next) = ⊥
NeedsNothing (Stays answer) = Unit {0}
NeedsNothing (Breaks cause) = Unit {0}

-- a message of fixed length, or the step of one that isn't
abbrev pub Sizes : ℕ → Result (List ℕ) Step → List ℕ → Type 0
Sizes size (Ok whole) bytes = (whole ≡ bytes) × (length bytes ≡ size)
Sizes size (Err step) bytes = ((whole : Verdict Stage) → verdict_of step ≡ sized size bytes whole) × LeadsOn step
