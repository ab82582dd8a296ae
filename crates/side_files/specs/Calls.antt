-- What was done with the questions of one file, and with the lines of a log: lists of calls, the newest first, so
-- that 'the calls before' one are the rest of the list.
use Rattle.std.specs.Prelude.{ℕ, ◌+◌, List, [], ◌∷◌, ◌++◌, drop, ◌==◌, Option, Some, None, if◌then◌else◌}
use Rattle.side_files.specs.declared.line.PromptKind.{PromptKind}
use Rattle.side_files.specs.Questions.{Questions, no_questions, next_line, asked_by, read, replied, withdrawn}
use Rattle.side_files.specs.Logs.{pushed}

-- ---- questions

pub data Call : Type 0 where
  -- a conversation asked about something
  Asked : (conv : ℕ) (about : List ℕ) → Call
  -- a line was handed out
  Read : Call
  -- a tag was replied to
  Replied : (tag : ℕ) → Call
  -- a conversation's questions were withdrawn
  Withdrawn : (conv : ℕ) → Call

-- the questions after calls
abbrev pub after : PromptKind → List Call → Questions
after kind [] = no_questions kind
after kind (Asked conv about ∷ before) = asked_by conv (next_line (after kind before) about) (after kind before)
after kind (Read ∷ before) = read (after kind before)
after kind (Replied tag ∷ before) = replied tag (after kind before)
after kind (Withdrawn conv ∷ before) = withdrawn conv (after kind before)

-- the tag that the next question has: one more than questions were asked
abbrev pub next_tag : List Call → ℕ
next_tag [] = 1
next_tag (Asked conv about ∷ before) = next_tag before + 1
next_tag (Read ∷ before) = next_tag before
next_tag (Replied tag ∷ before) = next_tag before
next_tag (Withdrawn conv ∷ before) = next_tag before

-- the conversation that asked under a tag
abbrev pub asked_under : ℕ → List Call → Option ℕ
asked_under tag [] = None
asked_under tag (Asked conv about ∷ before) = if next_tag before == tag then Some conv else asked_under tag before
asked_under tag (Read ∷ before) = asked_under tag before
asked_under tag (Replied other ∷ before) = asked_under tag before
asked_under tag (Withdrawn conv ∷ before) = asked_under tag before

-- ---- the log

pub data LogCall : Type 0 where
  -- a line was added
  Pushed : (line : List ℕ) → LogCall
  -- the oldest line was handed out
  Taken : LogCall

-- the lines after calls
abbrev pub held : List LogCall → List (List ℕ)
held [] = []
held (Pushed line ∷ before) = pushed line (held before)
held (Taken ∷ before) = drop 1 (held before)

-- all lines that were ever added, the oldest first
abbrev pub added : List LogCall → List (List ℕ)
added [] = []
added (Pushed line ∷ before) = added before ++ line ∷ []
added (Taken ∷ before) = added before

-- the calls that add lines, the first of which is the oldest, to a log after other calls
abbrev pub adding : List (List ℕ) → List LogCall → List LogCall
adding [] before = before
adding (line ∷ lines) before = adding lines (Pushed line ∷ before)
