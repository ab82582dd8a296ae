-- What the replies say that a client takes which answers questions for a user (section 5 of the Plan 9 manual): to
-- which request each belongs, by its tag, what refuses a request, and the question that is read; and what came of an
-- opening of both files. Their qids are those of the tree.
use Rattle.std.specs.Prelude.{ℕ, ◌-◌, ◌==◌, ◌&&◌, ◌||◌, List, ◌++◌, length, drop, Bool, true, false, codes, Option, Some, None, if◌then◌else◌}
use Rattle.std.specs.Int.{w8, w16}
use Rattle.std.specs.Str.{bytes_eq}
use Rattle.nine.specs.declared.qid.Qid.{Qid}
use Rattle.nine.specs.declared.message.RBody.TheVariants as r
use Rattle.nine.specs.Messages.{r_frame}
use Rattle.wire_base.specs.Readers.{number, string, value_of}
use Rattle.side_files.specs.declared.line.PromptKind.{PromptKind}
use Rattle.side_files.specs.declared.line.PromptKind.TheVariants.{Confirm, Needkey}
use Rattle.side_files.specs.declared.question.Question.{Question}
use Rattle.side_files.specs.Reading.{question_of}

-- a field is this number, or this text
abbrev pub is_number : ℕ → Option ℕ → Bool
is_number n None = false
is_number n (Some found) = found == n

abbrev pub is_this : List ℕ → Option (List ℕ) → Bool
is_this text None = false
is_this text (Some found) = bytes_eq found text

-- the tag of a reply, and its type
abbrev pub has_tag : ℕ → List ℕ → Bool
has_tag tag reply = is_number tag (value_of (number w16 reply 5))

abbrev pub is_kind : ℕ → List ℕ → Bool
is_kind kind reply = is_number kind (value_of (number w8 reply 4))

-- a reply that refuses its request, and one that does so by this text
abbrev pub is_refusal : List ℕ → Bool
is_refusal reply = is_kind 107 reply

abbrev pub refuses_by : List ℕ → List ℕ → Bool
refuses_by text reply = is_refusal reply && is_this text (value_of (string reply 7))

abbrev pub too_small_text : List ℕ
too_small_text = codes "read too small"

-- the file whose read it is the reply to, if it is one: each read has its file's fid for a tag
abbrev pub file_read : List ℕ → Option PromptKind
file_read reply = if has_tag 1 reply then Some Confirm else if has_tag 2 reply then Some Needkey else None

-- the question that was read, if the reply holds one
abbrev pub question_read : List ℕ → Option Question
question_read reply = if is_kind 117 reply then question_of (drop 11 reply) else None

-- ---- what an opening is answered

-- how the open of a file is granted, and how one is refused because another has the file open
abbrev pub qid_of : PromptKind → Qid
qid_of Confirm = record { kind = 0x20; vers = 0; path = 4 }
qid_of Needkey = record { kind = 0x20; vers = 0; path = 5 }

abbrev pub granted : PromptKind → List ℕ
granted file = r_frame (record { tag = 3; body = r.Open (qid_of file) 0 })

abbrev pub used : List ℕ
used = r_frame (record { tag = 3; body = r.Error (codes "exclusive use file already open") })

-- a text ends by this one
abbrev pub ends_by : List ℕ → List ℕ → Bool
ends_by last text = bytes_eq (drop (length text - length last) text) last

-- Of the replies that were taken in the turn of an opening, one behind the other, the last two are those to its opens.
-- Both opens were granted
unfoldable pub are_open : List ℕ → Bool
are_open heard = ends_by (granted Confirm ++ granted Needkey) heard

-- one of them was refused because another has the file open
unfoldable pub meets_use : List ℕ → Bool
meets_use heard = ends_by used heard || ends_by (used ++ granted Needkey) heard
