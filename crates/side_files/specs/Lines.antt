-- The lines of questions, after factotum(4) of the Plan 9 manual, and what a read of a file of lines finds. Their
-- exact form is this project's.
use Rattle.std.specs.Prelude.{◌≡◌, ℕ, List, [], ◌∷◌, ◌++◌, Bool, true, false, nat_lt, length, codes, Option, Some, None, Result, Ok, Err, if◌then◌else◌}
use Rattle.std.specs.Fmt.{decimal}
use Rattle.side_files.specs.declared.line.PromptKind.{PromptKind}
use Rattle.side_files.specs.declared.line.PromptKind.TheVariants.{Confirm, Needkey}
use Rattle.side_files.specs.declared.fault.TooSmall.{TooSmall}
use Rattle.side_files.specs.declared.fault.PromptFault.{PromptFault}
use Rattle.side_files.specs.declared.fault.PromptFault.TheVariants as f

-- how the line of a question begins
abbrev pub verb : PromptKind → List ℕ
verb Confirm = codes "confirm"
verb Needkey = codes "needkey"

-- the line of a question: its verb, its tag, what it is about, and a newline
unfoldable pub question_line : PromptKind → ℕ → List ℕ → List ℕ
question_line kind tag about = verb kind ++ (codes " tag=" ++ (decimal tag ++ (codes " " ++ (about ++ codes "\n"))))

-- ---- what a read finds

pub data Found : Type 0 where
  -- there is no line
  Nothing : Found
  -- the first line has more bytes than may be read
  TooLong : Found
  -- the first line
  First : (line : List ℕ) → Found

-- what a read of at most so many bytes finds in lines, the first of which is next
abbrev pub found : ℕ → List (List ℕ) → Found
found count [] = Nothing
found count (line ∷ lines) = if nat_lt count (length line) then TooLong else First line

-- the bytes of a line that is found
abbrev pub bytes_of : Found → List ℕ
bytes_of Nothing = []
bytes_of TooLong = []
bytes_of (First line) = line

-- how a read that finds this is answered: that it hands out a line, that there is none, or that the line is too long;
-- memory may run out only where there is a line to hand out
abbrev pub Tells : Found → Result Bool PromptFault → Type 0
Tells what (Ok true) = what ≡ First (bytes_of what)
Tells what (Ok false) = what ≡ Nothing
Tells what (Err f.TooSmall) = what ≡ TooLong
Tells what (Err f.NoMemory) = what ≡ First (bytes_of what)

-- a read that hands out a line has changed something, any other has not
abbrev pub if_read : {A : Type 0} → Result Bool PromptFault → A → A → A
if_read (Ok true) new old = new
if_read (Ok false) new old = old
if_read (Err fault) new old = old

-- the same of a read that hands out the line itself, for which memory can't run out
abbrev pub Hands : Found → Result (Option (List ℕ)) TooSmall → Type 0
Hands what (Ok (Some line)) = what ≡ First line
Hands what (Ok None) = what ≡ Nothing
Hands what (Err small) = what ≡ TooLong

-- and has changed something only where it hands out a line
abbrev pub if_handed : {A : Type 0} → Result (Option (List ℕ)) TooSmall → A → A → A
if_handed (Ok (Some line)) new old = new
if_handed (Ok None) new old = old
if_handed (Err small) new old = old
