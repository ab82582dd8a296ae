-- Which requests a client makes that answers questions for a user, once it has both files open, by the replies that it
-- took. All lists have the newest first. The definitions are the project's own.
use Rattle.std.specs.Prelude.{◌≡◌, ℕ, ◌+◌, ◌==◌, ◌&&◌, ◌||◌, List, [], ◌∷◌, ◌++◌, Bool, true, false, Option, Some, None, is_some, is_none, if◌then◌else◌}
use Rattle.nine.specs.declared.message.TMsg.{TMsg}
use Rattle.side_files.specs.declared.line.PromptKind.{PromptKind}
use Rattle.side_files.specs.declared.line.PromptKind.TheVariants.{Confirm, Needkey}
use Rattle.side_files.specs.declared.question.Question.{Question}
use Rattle.prompters.specs.Manners.{Manner}
use Rattle.prompters.specs.Chains.{after_answer, word_of}
use Rattle.prompters.specs.Requests.{answer_text, fid_of, read_of, write_of}
use Rattle.prompters.specs.Replies.{file_read, question_read, refuses_by, too_small_text}

-- ---- the end

-- the reply to one of the reads was that a line is too long for it
abbrev pub meets_long_line : List (List ℕ) → Bool
meets_long_line [] = false
meets_long_line (reply ∷ older) =
    meets_long_line older || (is_some (file_read reply) && refuses_by too_small_text reply)

-- a read brings no question: nothing is asked for behind that
abbrev pub is_over : List (List ℕ) → Bool
is_over [] = false
is_over (reply ∷ older) = is_over older || (is_some (file_read reply) && is_none (question_read reply))

-- ---- what is asked for

-- to a line that was read: what the chain's word comes to, and then the next read of that file
abbrev pub answers_to : Option PromptKind → Option Question → List Manner → List TMsg
answers_to None question chain = []
answers_to (Some file) None chain = []
answers_to (Some file) (Some q) chain = read_of file ∷ write_of file (answer_text q (word_of q chain)) ∷ []

-- how many requests have a file's own tag, which is its fid, and to how many reads of it there is a reply
abbrev pub reads_of : PromptKind → List TMsg → ℕ
reads_of file [] = 0
reads_of file (m ∷ older) = (if m.tag == fid_of file then 1 else 0) + reads_of file older

abbrev pub is_read_of : PromptKind → Option PromptKind → Bool
is_read_of file None = false
is_read_of Confirm (Some Confirm) = true
is_read_of Confirm (Some Needkey) = false
is_read_of Needkey (Some Confirm) = false
is_read_of Needkey (Some Needkey) = true

abbrev pub replies_to : PromptKind → List (List ℕ) → ℕ
replies_to file [] = 0
replies_to file (reply ∷ older) = (if is_read_of file (file_read reply) then 1 else 0) + replies_to file older

-- the chain after it was asked what was read, if something was
abbrev pub asked_of : Option PromptKind → Option Question → List Manner → List Manner
asked_of None question chain = chain
asked_of (Some file) None chain = chain
asked_of (Some file) (Some q) chain = after_answer q chain

-- the chain behind these replies: it was asked once for each line
abbrev pub chain_behind : List Manner → List (List ℕ) → List Manner
chain_behind chain [] = chain
chain_behind chain (reply ∷ older) =
    if is_over (reply ∷ older) then chain_behind chain older
    else asked_of (file_read reply) (question_read reply) (chain_behind chain older)

-- all requests once these replies were taken: both reads, that of confirm first, and what each line that was read wants
abbrev pub wanted : List Manner → List (List ℕ) → List TMsg
wanted chain [] = read_of Needkey ∷ read_of Confirm ∷ []
wanted chain (reply ∷ older) = (if is_over (reply ∷ older) then []
    else answers_to (file_read reply) (question_read reply) (chain_behind chain older)) ++ wanted chain older

-- as long as each read brought a question, one read of each file is asked for that has no reply yet, and no other
-- request has its tag
abbrev pub OneReadUnderWay : Type 0
OneReadUnderWay = (chain : List Manner) (replies : List (List ℕ)) (file : PromptKind) → is_over replies ≡ false
    → reads_of file (wanted chain replies) ≡ replies_to file replies + 1
