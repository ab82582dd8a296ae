-- What is noted of the setting while a script is run. This serves proofs alone.
use Rattle.std.specs.Prelude.{◌≡◌, ℕ, List, ◌∷◌, Bool, true, false, Option, Some, None, Result, Ok, Err}
use Rattle.std.specs.Global.{Vec}
use Rattle.wire_histories.specs.declared.step.Step.{Step}
use Rattle.wire_histories.specs.Noted.{Noted}
use Rattle.world_scripts.specs.Lines.{ScriptLine}
use Rattle.world_scripts.specs.Lines as l
use Rattle.world_scripts.specs.Reading.{line_of}
use Rattle.world_scripts.specs.Scripts.{Numbered}
use Rattle.world_history.specs.Acts.{Act}
use Rattle.world_history.specs.Noting.{NotesSo, chosen_now}
use Rattle.world_history.specs.NotingFronts.{NotesFront, NotesKey}
use Rattle.world_history.specs.Scripts.{judged, play, plays}
use Rattle.world_run.specs.declared.play.WorldEnd.{WorldEnd}
use Rattle.world_run.specs.declared.play.WorldEnd.TheVariants.{Done, Bad, WriteFault, NoMemory}
use Rattle.world_run.specs.declared.run.Run.{Run}
use Rattle.world_run.specs.declared.stops.Stop.{Stop}
use Rattle.world_run.specs.Standing.{Stands, StandsWith}

-- the conversation that a line asks something, answers, or leaves without an answer
abbrev pub line_asks : ScriptLine → Option (List ℕ)
line_asks (l.Start conv word tuple) = Some conv
line_asks (l.Read conv) = Some conv
line_asks (l.Write conv bytes) = Some conv
line_asks (l.Answer conv bytes) = Some conv
line_asks (l.NoAnswer conv) = Some conv
line_asks line = None

abbrev pub is_reload : ScriptLine → Bool
is_reload l.Reload = true
is_reload line = false

-- the key of a conversation was noted as it stands in a run
abbrev pub NotesTalk : List ℕ → Run → Noted → Noted → Type 0
NotesTalk conv run old new = (left : List Numbered) (acts : List Act) (kept : List Step)
    → StandsWith left acts kept run → NotesKey conv (chosen_now acts conv) old new

-- it was noted what a line that was carried out changes
abbrev pub NotesText : List ℕ → List Numbered → Run → Noted → Noted → Type 0
NotesText text left run old new = (number : ℕ) (acts : List Act) (act : Act) (kept : List Step)
    → judged acts (line_of text) ≡ Ok act → StandsWith left (act ∷ acts) kept run
    → NotesFront (record { number = number; text = text } ∷ left) acts old → NotesFront left (act ∷ acts) new

abbrev pub NotesLine : List Numbered → ScriptLine → Run → Noted → Noted → Type 0
NotesLine left line run old new = (before : Numbered) (acts : List Act) (act : Act) (kept : List Step)
    → line_of before.text ≡ Some line → judged acts (Some line) ≡ Ok act → StandsWith left (act ∷ acts) kept run
    → NotesFront (before ∷ left) acts old → NotesFront left (act ∷ acts) new

-- a line that is carried out is noted too, from a run before it on
abbrev pub NotesOn : Numbered → List Numbered → Run → Noted → Noted → Type 0
NotesOn line left run old new = (acts : List Act) (act : Act) → Stands (line ∷ left) acts run
    → judged acts (line_of line.text) ≡ Ok act → NotesFront (line ∷ left) acts old → NotesFront left (act ∷ acts) new

abbrev pub NotesDone : List ℕ → List Numbered → Run → Result (Vec Step) Stop → Noted → Noted → Type 0
NotesDone text left run (Ok steps) old new =
    (number : ℕ) → NotesOn (record { number = number; text = text }) left run old new
NotesDone text left run (Err stop) old new = Unit {0}

-- a run ends behind one for a cause alone
abbrev pub NotesOne : Numbered → List Numbered → Run → Option WorldEnd → Noted → Noted → Type 0
NotesOne line left run None old new = NotesOn line left run old new
NotesOne line left run (Some Done) old new = ⊥
NotesOne line left run (Some (Bad number cause)) old new = Unit {0}
NotesOne line left run (Some WriteFault) old new = Unit {0}
NotesOne line left run (Some NoMemory) old new = Unit {0}

-- where all lines were carried out, it was noted what is so by their acts
abbrev pub NotesAll : List Numbered → Run → WorldEnd → Noted → Noted → Type 0
NotesAll lines run Done old new = (acts : List Act) → Stands lines acts run → NotesFront lines acts old
    → NotesSo (plays acts lines).acts new
NotesAll lines run (Bad line cause) old new = Unit {0}
NotesAll lines run WriteFault old new = Unit {0}
NotesAll lines run NoMemory old new = Unit {0}

-- of a script, whose setting is there
abbrev pub IsNoted : List ℕ → Option Noted → Type 0
IsNoted script None = ⊥
IsNoted script (Some noted) = NotesSo (play script).acts noted

abbrev pub NotesScript : List ℕ → WorldEnd → Option Noted → Type 0
NotesScript script Done noted = IsNoted script noted
NotesScript script (Bad line cause) noted = Unit {0}
NotesScript script WriteFault noted = Unit {0}
NotesScript script NoMemory noted = Unit {0}
