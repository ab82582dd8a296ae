-- The requests of a client that answers questions for a user: it opens confirm and needkey (factotum(4) of the Plan 9
-- manual), reads both, and writes what is answered to each line. Fids, tags and sizes are the project's own.
use Rattle.std.specs.Prelude.{ℕ, List, [], ◌∷◌, ◌++◌, codes, if◌then◌else◌}
use Rattle.std.specs.Fmt.{decimal}
use Rattle.nine.specs.declared.message.TMsg.{TMsg}
use Rattle.nine.specs.declared.message.TBody.{TBody}
use Rattle.nine.specs.declared.message.TBody.TheVariants as t
use Rattle.side_files.specs.declared.line.PromptKind.{PromptKind}
use Rattle.side_files.specs.declared.line.PromptKind.TheVariants.{Confirm, Needkey}
use Rattle.side_files.specs.declared.question.Question.{Question}
use Rattle.prompters.specs.declared.prompter.Say.{Say}
use Rattle.prompters.specs.declared.prompter.Say.TheVariants.{Yes, No, Pass}

abbrev pub request : ℕ → TBody → TMsg
request tag body = record { tag = tag; body = body }

-- The requests by which both files are opened, in their order. The first gives up all that the connection had open; by
-- that a question is refused that was asked there.
abbrev pub opening : List TMsg
opening =
    request 65535 (t.Version 8216 (codes "9P2000"))
    ∷ request 1 (t.Attach 0 4294967295 (codes "factotum") [])
    ∷ request 3 (t.Walk 0 1 (codes "factotum" ∷ codes "confirm" ∷ []))
    ∷ request 3 (t.Walk 0 2 (codes "factotum" ∷ codes "needkey" ∷ []))
    ∷ request 3 (t.Open 1 2)
    ∷ request 3 (t.Open 2 2)
    ∷ []

-- the fid of each file
abbrev pub fid_of : PromptKind → ℕ
fid_of Confirm = 1
fid_of Needkey = 2

-- a read of a file
abbrev pub read_of : PromptKind → TMsg
read_of file = request (fid_of file) (t.Read (fid_of file) 0 8192)

-- a write of a file
abbrev pub write_of : PromptKind → List ℕ → TMsg
write_of file text = request 3 (t.Write (fid_of file) 0 text)

-- how consent, or its refusal, is written: nothing but Yes is consent
abbrev pub consent : Say → List ℕ
consent Yes = codes " answer=yes"
consent No = codes " answer=no"
consent Pass = codes " answer=no"

-- what is written to a question: its tag, and to one that wants consent the word
abbrev pub answer_text : Question → Say → List ℕ
answer_text q say = codes "tag=" ++ (decimal q.tag ++ (if q.confirm then consent say else []))
