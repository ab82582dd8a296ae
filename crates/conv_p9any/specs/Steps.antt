-- Words for the steps of the machine. No public contract cites them.
use Rattle.std.specs.Prelude.{◌≡◌, ℕ, List, [], true, Result, Ok, Err}
use Rattle.std.specs.Borrow.{Bor}
use Rattle.attr_tuples.specs.Attributes.{is_value}
use Rattle.attr_tuples.specs.declared.attr.Value.TheVariants.{Is}
use Rattle.roles.specs.declared.answer.Gave.{Gave}
use Rattle.roles.specs.declared.answer.Gave.TheVariants as g
use Rattle.roles.specs.Starts.{Start}
use Rattle.roles.specs.Talks.{Verdict, goes, stays, breaks, tested}
use Rattle.conv_p9any.specs.declared.own.Own.{Own}
use Rattle.conv_p9any.specs.declared.stage.Stage.{Stage}
use Rattle.conv_p9any.specs.declared.stage.Stage.TheVariants.{ClientPick}
use Rattle.conv_p9any.specs.declared.step.Judged.{Judged}
use Rattle.conv_p9any.specs.declared.step.Judged.TheVariants.{Moves, Chooses}
use Rattle.conv_p9any.specs.declared.step.Step.{Step}
use Rattle.conv_p9any.specs.declared.step.Step.TheVariants.{Waits, Stays, Breaks}
use Rattle.conv_p9any.specs.Courses.{Entry, choice_need, list_tests}
use Rattle.conv_p9any.specs.Offers.{dom_in}
use Rattle.conv_p9any.specs.Talks.{Standing, choosing}
use Rattle.conv_p9any.specs.Texts.{text_in}

-- the start that a machine keeps
abbrev pub start_of : Own → Start
start_of own = record { template = own.template; word = own.word }

-- a text was read, or what is told where there is none
abbrev pub Reads : Result (Bor (List ℕ)) Gave → List ℕ → Type 0
Reads (Ok text) b = text_in b ≡ Ok text.now
Reads (Err answer) b = text_in b ≡ Err answer

-- a step as a verdict
abbrev pub verdict_of : Step → Verdict Standing
verdict_of (Waits next need) = goes (choosing next) g.Wait []
verdict_of (Stays answer) = stays answer
verdict_of (Breaks cause) = breaks cause

-- the need of a step is that of its next stage
abbrev pub IsNeeded : List ℕ → Start → Step → Type 0
IsNeeded name start (Waits next need) = need ≡ choice_need name start next
IsNeeded name start (Stays answer) = Unit {0}
IsNeeded name start (Breaks cause) = Unit {0}

-- the text of a choice gives a domain that may stand in a template
abbrev pub GivesDom : List ℕ → List ℕ → Type 0
GivesDom name text = is_value (Is (dom_in name text)) ≡ true

-- what a message comes to at a stage, whatever follows a choice
abbrev pub Judges : List ℕ → Start → Stage → Judged → (Entry → Verdict Standing) → Type 0
Judges name start stage (Moves step) v = ((enter : Entry) → verdict_of step ≡ v enter) × IsNeeded name start step
Judges name start stage (Chooses text) v = ((enter : Entry) → enter stage text [] ≡ v enter) × GivesDom name text

-- a step of a client that was given this list
abbrev pub Picks : List ℕ → Start → List ℕ → Step → Type 0
Picks name start list step =
    (verdict_of step ≡ tested (list_tests name start list) (goes (choosing (ClientPick list)) g.Wait []))
    × IsNeeded name start step
