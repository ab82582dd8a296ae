-- The lines of the log that are made ahead: the line of a start before what may start a conversation, and the line of
-- an end from the start on, so that an end is told without memory.
use Rattle.std.specs.Prelude.{◌≡◌, ℕ, List, [], ◌++◌, Bool, true, false, not, ◌&&◌, Option, Some, None, is_some, option_map, if◌then◌else◌}
use Rattle.std.specs.Option.{option_to_list}
use Rattle.std.specs.Ordering.{nat_cmp}
use Rattle.std.specs.BTreeMap.{BTreeMap, get}
use Rattle.attr_tuples.specs.declared.attr.Attr.{Attr}
use Rattle.key_lists.specs.CtlLines.{few_of}
use Rattle.roles.specs.declared.need.Outcome.{Outcome}
use Rattle.talks.specs.Lines.{end_line, is_end, start_line}
use Rattle.talks.specs.Standings.{Begun, Phase, Standing, outcome_of}
use Rattle.conversations.specs.Asking.{start_text}
use Rattle.agent_history.specs.Deeds.{Deed}
use Rattle.agent_history.specs.Conversations.{standing_of}
use Rattle.agent_talks.specs.declared.held.Talks.{Talks}
use Rattle.agent_talks.specs.Speaks.{Speak, stands}
use Rattle.agent_talks.specs.Ends.{EndsFor}
use Rattle.agent_talks.specs.declared.ready.ReadyLine.{ReadyLine}

-- ---- by what it starts

-- the template that a text is, where there is a text
abbrev pub template_named : Option (List ℕ) → Option (List Attr)
template_named None = None
template_named (Some text) = few_of text

-- the template of a start that isn't carried out yet, of a conversation that wasn't started
abbrev pub new_by : Option Begun → Phase → Option (List Attr)
new_by None phase = template_named (start_text phase)
new_by (Some b) phase = None

abbrev pub new_template : Standing → Option (List Attr)
new_template s = new_by s.begun s.phase

-- the template by which it was started, or is to be
abbrev pub coming_by : Option Begun → Phase → Option (List Attr)
coming_by None phase = template_named (start_text phase)
coming_by (Some b) phase = Some b.start.template

abbrev pub template_coming : Standing → Option (List Attr)
template_coming s = coming_by s.begun s.phase

-- ---- the line of a start

-- where it hasn't started yet, and further lines are wanted
abbrev pub start_by : Bool → ℕ → Option Outcome → Option (List Attr) → Option (List ℕ)
start_by debug conv before template =
    if debug && not (is_some before) then option_map (start_line conv) template
    else None

-- ---- the line of an end

-- the lines that are made, by the numbers of the conversations
abbrev pub EndLines : Type 0
EndLines = BTreeMap ℕ ReadyLine

abbrev pub line_in : EndLines → ℕ → Option ReadyLine
line_in ends conv = get nat_cmp ends conv

-- for each conversation the same line is made, if one is
abbrev pub SameLines : EndLines → EndLines → Type 0
SameLines old new = (conv : ℕ) → line_in new conv ≡ line_in old conv

-- where the line of an end is wanted, it is made for this template
abbrev pub IsMadeFor : Bool → ℕ → List Attr → Option ReadyLine → Type 0
IsMadeFor false conv template line = Unit {0}
IsMadeFor true conv template None = ⊥
IsMadeFor true conv template (Some ready) = EndsFor conv template ready.line

-- it was begun, and hasn't come to its end
abbrev pub goes_on : Standing → Bool
goes_on s = is_some s.begun && not (is_end (outcome_of s))

-- ---- what is told

-- the lines of a conversation that has this outcome now: of its start, where that was made, and of its end, where it
-- wasn't over
abbrev pub told_of : Bool → Option (List ℕ) → ℕ → List Attr → Option Outcome → List (List ℕ)
told_of over start conv template None = []
told_of over start conv template (Some outcome) =
    option_to_list start ++ (if over then [] else end_line conv template (Some outcome))

-- ---- of the code alone

-- whatever deeds the conversations are those of, this is shown of one that stands
abbrev pub ShowsOf : {A : Type 0} → Talks → ℕ → (Standing → A) → A → Type 0
ShowsOf t conv made shown =
    (done : List Deed) → stands done conv ≡ true → Speak done t → shown ≡ made (standing_of done conv)
