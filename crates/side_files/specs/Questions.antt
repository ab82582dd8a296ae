-- The questions that an agent asks people by one file: each is asked under a tag, read once, and replied to once. After
-- factotum(4) of the Plan 9 manual (confirm and needkey). Tags count from 1.
use Rattle.std.specs.Prelude.{ℕ, ◌+◌, List, [], ◌∷◌, ◌++◌, map, drop, Option, Some, None}
use Rattle.side_files.specs.declared.line.PromptKind.{PromptKind}
use Rattle.side_files.specs.declared.prompt.Prompt.{Prompt}
use Rattle.side_files.specs.declared.prompt.Asker.{Asker}
use Rattle.side_files.specs.Lines.{question_line}
use Rattle.side_files.specs.Askers.{asker_in, without_tag, without_conv, without_asked}

-- what is asked for; how many questions were asked; those that nobody has read, and those that were read and not
-- replied to, in the order in which they were asked; and the line of the next question, where it was made before it
-- is asked
pub record Questions : Type 0 where
  pub kind : PromptKind
  pub asked : ℕ
  pub unread : List Prompt
  pub opened : List Asker
  pub reserved : Option (List ℕ)

-- nothing was asked
abbrev pub no_questions : PromptKind → Questions
no_questions kind = record { kind = kind; asked = 0; unread = []; opened = []; reserved = None }

-- a question of a conversation with this line
abbrev pub prompt : ℕ → ℕ → List ℕ → Prompt
prompt tag conv line = record { tag = tag; conv = conv; line = line }

-- what is kept of a question once it was read
abbrev pub asker : Prompt → Asker
asker question = record { tag = question.tag; conv = question.conv }

-- the lines that nobody has read
abbrev pub unread_lines : Questions → List (List ℕ)
unread_lines q = map (λ question. question.line) q.unread

-- the line of the next question, where it is about this
abbrev pub next_line : Questions → List ℕ → List ℕ
next_line q about = question_line q.kind (q.asked + 1) about

-- the line that was made, if one was
abbrev pub reserved_line : Option (List ℕ) → List ℕ
reserved_line None = []
reserved_line (Some line) = line

-- ---- changes

-- the line of the next question is made
abbrev pub with_line : List ℕ → Questions → Questions
with_line about q = record q { reserved = Some (next_line q about) }

-- a conversation asks by a line, under the next tag
abbrev pub asked_by : ℕ → List ℕ → Questions → Questions
asked_by conv line q = record q {
  asked = q.asked + 1;
  unread = q.unread
      ++ prompt (q.asked + 1) conv line ∷ [];
  reserved = None;
}

-- what waits for a reply once the first question is read, if there is one
abbrev pub opens : List Prompt → List Asker
opens [] = []
opens (question ∷ more) = asker question ∷ []

-- the first question is read
abbrev pub read : Questions → Questions
read q = record q { unread = drop 1 q.unread; opened = q.opened ++ opens q.unread }

-- the conversation that waits for the reply of a tag
abbrev pub asker_of : ℕ → Questions → Option ℕ
asker_of tag q = asker_in tag q.opened

-- the question of a tag is forgotten
abbrev pub replied : ℕ → Questions → Questions
replied tag q = record q { opened = without_tag tag q.opened }

-- the questions of a conversation are forgotten
abbrev pub withdrawn : ℕ → Questions → Questions
withdrawn conv q = record q { unread = without_asked conv q.unread; opened = without_conv conv q.opened }

-- ---- who waits

-- all that were neither replied to nor withdrawn, in the order in which they were asked
abbrev pub standing : Questions → List Asker
standing q = q.opened ++ map asker q.unread

-- the conversation of the first of them
abbrev pub first_conv : List Asker → Option ℕ
first_conv [] = None
first_conv (a ∷ more) = Some a.conv
