-- What may still refuse a line of a script that is made of a number, whose form is right: no name that nobody made,
-- none that is taken, and no place. Its nodes and its conversations are made before they are used, each once, and the
-- tables of the authentication server are told before it is asked.
use Rattle.std.specs.Prelude.{◌≡◌, ◌≤◌, ℕ, List, Bool, true, false, not, Some}
use Rattle.auth_program.specs.declared.cause.ScriptCause.{ScriptCause}
use Rattle.auth_program.specs.declared.cause.ScriptCause.TheVariants.{BadLine, UnknownNode, UnknownConv, NoSuchMessage}
use Rattle.world_scripts.specs.Generated.{gen_text}
use Rattle.world_scripts.specs.MadeScripts.{most_rounds}
use Rattle.world_history.specs.Acts.{Act, Opened, Given, Answered, Unanswered, Asked, has_name, opened_names}
use Rattle.world_history.specs.Scripts.{is_unfit, play}

-- whether an act can be done hangs on the agent that it concerns, or on what is recorded: one that opens a conversation
-- by a new name, gives or answers something, or asks the authentication server
abbrev pub hangs_on_others : List Act → Act → Bool
hangs_on_others acts (Opened node conv) = not (has_name conv (opened_names acts))
hangs_on_others acts (Given conv bytes) = true
hangs_on_others acts (Answered conv bytes call) = true
hangs_on_others acts (Unanswered conv call) = true
hangs_on_others acts (Asked session request words) = true
hangs_on_others acts act = false

-- these causes may refuse a line behind acts: a message that it cites isn't recorded, or it is such an act that can't
-- be done
abbrev pub MayRefuse : List Act → ScriptCause → Type 0
MayRefuse acts UnknownNode = ⊥
MayRefuse acts UnknownConv = ⊥
MayRefuse acts NoSuchMessage = Unit {0}
MayRefuse acts BadLine = (act : Act) × ((hangs_on_others acts act ≡ true) × (is_unfit acts act ≡ true))

abbrev pub MadeIsNamed : Type 0
MadeIsNamed = (number rounds line : ℕ) (cause : ScriptCause) → rounds ≤ most_rounds
    → (play (gen_text number rounds)).refused ≡ Some (line, cause)
    → MayRefuse (play (gen_text number rounds)).acts cause
