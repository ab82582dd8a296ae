-- What is looked up for a line, and what becomes of a node. This serves proofs alone.
use Rattle.std.specs.Prelude.{◌≡◌, ℕ, List, length, Option, Some, None, true, Result, Ok, Err}
use Rattle.std.specs.Map.{lookup}
use Rattle.std.specs.Str.{bytes_eq}
use Rattle.wire_histories.specs.declared.step.Step.{Step}
use Rattle.agent_turns.specs.declared.turns.Turned.{Turned}
use Rattle.auth_program.specs.declared.cause.ScriptCause.TheVariants.{NoSuchMessage, UnknownConv}
use Rattle.world_history.specs.Scripts.{spelled}
use Rattle.world_history.specs.Turns.{Turn}
use Rattle.world_history.specs.Worlds.{messages_in}
use Rattle.world_scripts.specs.Pieces.{Piece}
use Rattle.world_run.specs.declared.nodes.Nodes.{Nodes}
use Rattle.world_run.specs.declared.named_talks.Talk.{Talk}
use Rattle.world_run.specs.Names.{still_open}
use Rattle.world_run.specs.Nodes.{NodesAre, TurnsTo, View}
use Rattle.world_run.specs.declared.found.Found.{Found}
use Rattle.world_run.specs.declared.stops.Stop.{Stop}
use Rattle.world_run.specs.declared.stops.Stop.TheVariants as stop

-- a conversation, as it was looked up
abbrev pub looked_up : Found → Talk
looked_up found = record { node = found.node; fid = found.fid; call = found.call }

abbrev pub FindsSo : List (List ℕ × Option Talk) → List ℕ → Result Found Stop → Type 0
FindsSo talks conv (Ok found) = still_open (lookup (bytes_eq conv) talks) ≡ Some (looked_up found)
FindsSo talks conv (Err (stop.Refused cause)) =
    (cause ≡ UnknownConv) × (still_open (lookup (bytes_eq conv) talks) ≡ None)
FindsSo talks conv (Err stop.NoMemory) = Unit {0}

abbrev pub SpellsSo : List Step → List Piece → Result (List ℕ) Stop → Type 0
SpellsSo recorded pieces (Ok bytes) = spelled (messages_in recorded) pieces ≡ Some bytes
SpellsSo recorded pieces (Err (stop.Refused cause)) =
    (cause ≡ NoSuchMessage) × (spelled (messages_in recorded) pieces ≡ None)
SpellsSo recorded pieces (Err stop.NoMemory) = Unit {0}

-- a node that was made is never refused
abbrev pub TakesSo : List ℕ → Turn → Nodes → List Step → Result Turned Stop → Nodes → Type 0
TakesSo node turn old recorded (Ok turned) new =
    (v : View) → NodesAre v old → v.is node ≡ true → TurnsTo (length (messages_in recorded)) node turn v turned new
TakesSo node turn old recorded (Err (stop.Refused cause)) new = (v : View) → NodesAre v old → v.is node ≡ true → ⊥
TakesSo node turn old recorded (Err stop.NoMemory) new = Unit {0}
