-- What becomes of conversations is written into the log: that they start, that they come to their end, and why they
-- broke. When the conversations, the questions to their users and the log are those that a list of deeds tells of.
-- After factotum(4) of the Plan 9 manual (log).
use Rattle.std.specs.Prelude.{◌≡◌, ℕ, List, Bool, true, false, not, ◌&&◌, Option, Some, None}
use Rattle.attr_tuples.specs.declared.attr.Attr.{Attr}
use Rattle.roles.specs.declared.need.Outcome.{Outcome}
use Rattle.talks.specs.Protocols.{is_over}
use Rattle.talks.specs.Calls.{Call, CarriedOut}
use Rattle.talks.specs.Lines.{end_line, is_end, start_template}
use Rattle.talks.specs.Standings.{Phase, Waiting, outcome_of}
use Rattle.agent_history.specs.Deeds.{Deed}
use Rattle.agent_history.specs.Conversations.{logged, standing_of, then_logged}
use Rattle.agent_talks.specs.declared.held.Talks.{Talks}
use Rattle.agent_talks.specs.Speaks.{stands, talked}
use Rattle.agent_talks.specs.Calls.{Calls}
use Rattle.agent_talks.specs.Keeps.{KeepingTalks}
use Rattle.agent_talks.specs.Asking.{AskingTalks, Tells}
use Rattle.agent_talks.specs.declared.ready.ReadyLine.{ReadyLine}
use Rattle.agent_talks.specs.declared.standing.Conversations.{Conversations}
use Rattle.agent_talks.specs.Ahead.{EndLines, IsMadeFor, goes_on, line_in, template_coming, told_of}

-- ---- deeds

-- a conversation met something, what it needs then is got for it or asked for, and its end or start is written into
-- the log
abbrev pub logged_talk : ℕ → Call → List Deed → List Deed
logged_talk conv call done = then_logged conv (standing_of done conv) (talked conv call done)

-- the conversation of a number, where one is meant
abbrev pub logged_by : Option ℕ → Call → List Deed → List Deed
logged_by None call done = done
logged_by (Some conv) call done = logged_talk conv call done

-- a conversation carried its request out, where it has one
abbrev pub carried_logged_in : ℕ → List ℕ → Phase → List Deed → List Deed
carried_logged_in conv word (Waiting request) done = logged_talk conv (CarriedOut word) done
carried_logged_in conv word phase done = done

abbrev pub carried_logged : ℕ → List ℕ → List Deed → List Deed
carried_logged conv word done = carried_logged_in conv word (standing_of done conv).phase done

-- ---- what is kept

abbrev pub talks_in : Conversations → Talks
talks_in t = t.talks

abbrev pub calls_in : Conversations → Calls
calls_in t = t.calls

abbrev pub keeping_of : Conversations → KeepingTalks
keeping_of t = record { talks = t.talks; calls = t.calls }

abbrev pub asking_of : Conversations → AskingTalks
asking_of t = record { talks = keeping_of t; files = t.files }

-- they with the lines of their ends
abbrev pub with_ends : AskingTalks → EndLines → Conversations
with_ends a ends = record { talks = a.talks.talks; calls = a.talks.calls; files = a.files; ends = ends }

-- the line that was made ahead for the end of a conversation
abbrev pub line_at : Conversations → ℕ → Option ReadyLine
line_at t conv = line_in t.ends conv

-- a conversation that stands has the line of its end, from its start on until it ends
abbrev pub HasItsLine : List Deed → Conversations → ℕ → Type 0
HasItsLine done t conv =
    IsMadeFor (goes_on (standing_of done conv)) conv (start_template (standing_of done conv).begun) (line_at t conv)

pub record Logs (done : List Deed) (t : Conversations) : Type 0 where
  pub tells : Tells done (asking_of t)
  pub ends : (conv : ℕ) → stands done conv ≡ true → HasItsLine done t conv

-- whatever the deeds were, they are still those that they tell of
abbrev pub SameLogs : Conversations → Conversations → Type 0
SameLogs old new = (done : List Deed) → Logs done old → Logs done new

-- ---- of the code alone

-- the line of the end of a conversation is made, if it may come to its end by what it meets next
abbrev pub CanEnd : List Deed → Conversations → ℕ → Type 0
CanEnd done t conv = (template : List Attr) → template_coming (standing_of done conv) ≡ Some template
    → is_end (outcome_of (standing_of done conv)) ≡ false → IsMadeFor true conv template (line_at t conv)

-- the lines of all others are as before
abbrev pub SameOthers : ℕ → Conversations → Conversations → Type 0
SameOthers conv old new = (other : ℕ) → (conv ≡ other → ⊥) → line_at new other ≡ line_at old other

-- the end of a conversation that has this outcome is written into the log
pub record EndTold (conv : ℕ) (outcome : Outcome) (old new : Conversations) : Type 0 where
  pub told : (done : List Deed) (template : List Attr) → IsMadeFor (is_over outcome) conv template (line_at old conv)
      → Tells done (asking_of old) → Tells (logged (end_line conv template (Some outcome)) done) (asking_of new)
  pub others : SameOthers conv old new
  pub kept : is_over outcome ≡ false → line_at new conv ≡ line_at old conv

-- the lines of a conversation that stands are written into it
pub record IsTold (conv : ℕ) (over : Bool) (start : Option (List ℕ)) (old new : Conversations) : Type 0 where
  pub told : (done : List Deed) (template : List Attr) → stands done conv ≡ true
      → IsMadeFor (not over && is_end (outcome_of (standing_of done conv))) conv template (line_at old conv)
      → Tells done (asking_of old)
      → Tells (logged (told_of over start conv template (outcome_of (standing_of done conv))) done) (asking_of new)
  pub others : SameOthers conv old new
  pub kept : (done : List Deed) → stands done conv ≡ true → Tells done (asking_of old)
      → is_end (outcome_of (standing_of done conv)) ≡ false → line_at new conv ≡ line_at old conv

-- the same of the conversation that asks, where one is meant
abbrev pub AskerTold : Option ℕ → Bool → Conversations → Conversations → Type 0
AskerTold None over old new = new ≡ old
AskerTold (Some conv) over old new = IsTold conv over None old new
