-- The three files of lines: the questions of confirm and needkey, which a person replies to, and the log. What was
-- done with each is read off a list of deeds, and so are its lines. A read of such a file is given its first line,
-- and waits where there is none. After factotum(4) of the Plan 9 manual.
use Rattle.std.specs.Prelude.{ℕ, zero, suc, List, [], ◌∷◌, length, map, Bool, true, false, Option, Some, None, if◌then◌else◌}
use Rattle.nine.specs.declared.message.RBody.TheVariants as r
use Rattle.file_tree.specs.declared.tree.Node.{Node}
use Rattle.file_tree.specs.declared.tree.Node.TheVariants.{Confirm, Needkey, Log}
use Rattle.side_files.specs.declared.line.PromptKind.{PromptKind}
use Rattle.side_files.specs.declared.line.PromptKind.TheVariants as k
use Rattle.side_files.specs.Calls as side
use Rattle.side_files.specs.Lines.{Found, Nothing, TooLong, First, found}
use Rattle.side_files.specs.Questions.{Questions, unread_lines}
use Rattle.side_files.specs.Questions as asked
use Rattle.agent_history.specs.Deeds.{Deed, OfReplies, OfPrompts, OfLog, Halted, Settled, holder_of}
use Rattle.agent_history.specs.Replies.{Wait, reader, too_small, waits}

-- ---- questions

abbrev pub is_of : PromptKind → PromptKind → Bool
is_of k.Confirm k.Confirm = true
is_of k.Confirm k.Needkey = false
is_of k.Needkey k.Confirm = false
is_of k.Needkey k.Needkey = true

-- the file of a kind, and the kind of a file
abbrev pub file_of : PromptKind → Node
file_of k.Confirm = Confirm
file_of k.Needkey = Needkey

abbrev pub kind_at : Node → Option PromptKind
kind_at Confirm = Some k.Confirm
kind_at Needkey = Some k.Needkey
kind_at node = None

-- what was done with the questions of a kind, the newest first; after a stop there are none
abbrev pub prompt_calls : List Deed → PromptKind → List side.Call
prompt_calls [] kind = []
prompt_calls (OfPrompts of call ∷ before) kind =
    if is_of of kind then call ∷ prompt_calls before kind
    else prompt_calls before kind
prompt_calls (Halted ∷ before) kind = []
prompt_calls (deed ∷ before) kind = prompt_calls before kind

-- the questions
abbrev pub prompts_of : List Deed → PromptKind → Questions
prompts_of done kind = side.after kind (prompt_calls done kind)

-- the conversations that wait for a reply, in the order in which they asked
abbrev pub askers : List Deed → PromptKind → List ℕ
askers done kind = map (λ a. a.conv) (asked.standing (prompts_of done kind))

-- ---- the log

-- what was done with it, the newest first; after a stop it is empty
abbrev pub log_calls : List Deed → List side.LogCall
log_calls [] = []
log_calls (OfLog call ∷ before) = call ∷ log_calls before
log_calls (Halted ∷ before) = []
log_calls (deed ∷ before) = log_calls before

-- the lines that nobody has read
abbrev pub log_of : List Deed → List (List ℕ)
log_of done = side.held (log_calls done)

-- ---- files of lines

abbrev pub is_line_file : Node → Bool
is_line_file Confirm = true
is_line_file Needkey = true
is_line_file Log = true
is_line_file node = false

-- the lines of a file that nobody has read
abbrev pub lines_in : List Deed → Node → List (List ℕ)
lines_in done Confirm = unread_lines (prompts_of done k.Confirm)
lines_in done Needkey = unread_lines (prompts_of done k.Needkey)
lines_in done Log = log_of done
lines_in done node = []

-- its first line is read
abbrev pub line_read : Node → List Deed → List Deed
line_read Confirm done = OfPrompts k.Confirm side.Read ∷ done
line_read Needkey done = OfPrompts k.Needkey side.Read ∷ done
line_read Log done = OfLog side.Taken ∷ done
line_read node done = done

-- ---- reads that wait for a line

-- a read that waits is told what it finds: the first line, or that it holds too little, and then the line stays
abbrev pub serve_read : Node → ℕ → ℕ → Found → List Deed → List Deed
serve_read node conn tag Nothing done = done
serve_read node conn tag TooLong done = OfReplies conn (Settled tag too_small) ∷ done
serve_read node conn tag (First line) done = OfReplies conn (Settled tag (r.Read line)) ∷ line_read node done

abbrev pub serve_first : Node → ℕ → Option Wait → List Deed → List Deed
serve_first node conn None done = done
serve_first node conn (Some wait) done = serve_read node conn wait.tag (found wait.count (lines_in done node)) done

-- so many times the first read of a fid that waits is told
abbrev pub serve_reads : ℕ → Node → ℕ → ℕ → List Deed → List Deed
serve_reads zero node conn fid done = done
serve_reads (suc n) node conn fid done = serve_reads n node conn fid (serve_first node conn (reader done conn fid) done)

-- the reads of who has the file open are told, in the order in which they came
abbrev pub served_to : Node → Option (ℕ × ℕ) → List Deed → List Deed
served_to node None done = done
served_to node (Some holder) done = serve_reads (length (waits done holder.0)) node holder.0 holder.1 done

abbrev pub served : Node → List Deed → List Deed
served node done = served_to node (holder_of done node) done

abbrev pub all_served : List Deed → List Deed
all_served done = served Log (served Needkey (served Confirm done))
