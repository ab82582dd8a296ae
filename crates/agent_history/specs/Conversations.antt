-- The conversations of an agent, their questions for the authentication server and what they ask their users, read
-- off a list of deeds. After factotum(4) of the Plan 9 manual: each opening of rpc is a conversation, which ends with
-- its fid.
use Rattle.std.specs.Prelude.{ℕ, ◌+◌, List, [], ◌∷◌, ◌++◌, length, drop, map, filter, find, Bool, true, false, not, ◌&&◌, ◌==◌, nat_le, nat_lt, Option, Some, None, is_some, option_map, if◌then◌else◌}
use Rattle.std.specs.List.{list_any}
use Rattle.wire_base.specs.declared.shape.Shape.{Shape}
use Rattle.wire_base.specs.declared.shape.Shape.TheVariants.{Challenge, Vouch, Tickets}
use Rattle.nine.specs.declared.message.RBody.{RBody}
use Rattle.nine.specs.declared.message.RBody.TheVariants as r
use Rattle.file_tree.specs.declared.tree.Node.TheVariants.{Rpc, Confirm, Needkey}
use Rattle.attr_tuples.specs.Printing.{public_text}
use Rattle.key_lists.specs.Lists.{KeyEntry}
use Rattle.roles.specs.declared.need.Need.{Need}
use Rattle.roles.specs.declared.need.Need.TheVariants.{Nothing, Key, Offers, Pick, Exchange}
use Rattle.roles.specs.declared.need.Outcome.{Outcome}
use Rattle.roles.specs.Templates.{shown_text}
use Rattle.talks.specs.RpcAnswers.{answer_text}
use Rattle.talks.specs.declared.answer.RpcAnswer.{RpcAnswer}
use Rattle.side_files.specs.declared.line.PromptKind.{PromptKind}
use Rattle.side_files.specs.declared.line.PromptKind.TheVariants as k
use Rattle.side_files.specs.Calls as side
use Rattle.talks.specs.Calls as calls
use Rattle.talks.specs.Calls.{Call}
use Rattle.talks.specs.declared.said.Asking.{Asking}
use Rattle.talks.specs.Lines.{is_end, log_lines}
use Rattle.talks.specs.Standings.{Phase, Standing, Kept, OnServer, Seeking, finds, key_of, outcome_of, question_of, standing, template_of}
use Rattle.agent_history.specs.Deeds.{Deed, OfFids, OfReplies, OfConnection, OfTalk, OfPrompts, OfLog, Raised, HandedOut, DropTaken, Halted, Versioned, Opened, Clunked, Settled, Hung, fid_of, holder_of, is_debug, keys_of, names}
use Rattle.agent_history.specs.Replies.{Wait, reader, too_small}
use Rattle.agent_history.specs.SideFiles.{all_served, askers, file_of}

-- ---- conversations

-- how many were ever opened: they are numbered from 0
abbrev pub opened_talks : List Deed → ℕ
opened_talks [] = 0
opened_talks (OfFids at (Opened f mode) ∷ before) =
    if names Rpc (fid_of before at f) then opened_talks before + 1
    else opened_talks before
opened_talks (deed ∷ before) = opened_talks before

-- a conversation that stands, and the fid of a connection that has it open
pub record Speaker : Type 0 where
  pub conv : ℕ
  pub conn : ℕ
  pub fid : ℕ

-- the conversations that stand, the oldest first
abbrev pub speakers : List Deed → List Speaker
speakers [] = []
speakers (OfFids at (Opened f mode) ∷ before) =
    if names Rpc (fid_of before at f)
    then speakers before ++ record { conv = opened_talks before; conn = at; fid = f } ∷ []
    else speakers before
speakers (OfFids at (Versioned msize) ∷ before) = filter (λ s. not (s.conn == at)) (speakers before)
speakers (OfFids at (Clunked f) ∷ before) = filter (λ s. not (s.conn == at && s.fid == f)) (speakers before)
speakers (OfConnection at Hung ∷ before) = filter (λ s. not (s.conn == at)) (speakers before)
speakers (Halted ∷ before) = []
speakers (deed ∷ before) = speakers before

-- the conversation that a fid has open
abbrev pub conv_of : List Deed → ℕ → ℕ → Option ℕ
conv_of done conn fid = option_map (λ s. s.conv) (find (λ s. s.conn == conn && s.fid == fid) (speakers done))

-- who has the conversation of a number open
abbrev pub speaker_of : List Deed → ℕ → Option Speaker
speaker_of done conv = find (λ s. s.conv == conv) (speakers done)

-- what a conversation met
abbrev pub talk : List Deed → ℕ → List Call
talk [] conv = []
talk (OfTalk at call ∷ before) conv = if at == conv then call ∷ talk before conv else talk before conv
talk (deed ∷ before) conv = talk before conv

-- how it stands
abbrev pub standing_of : List Deed → ℕ → Standing
standing_of done conv = standing (talk done conv)

-- how the conversation that a fid has open stands as to its end, once it has started, and the key that it has chosen
abbrev pub outcome_in : List Deed → Option ℕ → Option Outcome
outcome_in done None = None
outcome_in done (Some conv) = outcome_of (standing_of done conv)

abbrev pub outcome_at : List Deed → ℕ → ℕ → Option Outcome
outcome_at done conn fid = outcome_in done (conv_of done conn fid)

abbrev pub chosen_in : List Deed → Option ℕ → Option KeyEntry
chosen_in done None = None
chosen_in done (Some conv) = key_of (standing_of done conv)

abbrev pub chosen_at : List Deed → ℕ → ℕ → Option KeyEntry
chosen_at done conn fid = chosen_in done (conv_of done conn fid)

-- the files by which a user is asked that are open
abbrev pub asking : List Deed → Asking
asking done = record { confirm = is_some (holder_of done Confirm); needkey = is_some (holder_of done Needkey) }

-- ---- questions for the authentication server

-- how many were ever raised: they are numbered from 1
abbrev pub raised : List Deed → ℕ
raised [] = 0
raised (Raised conv ∷ before) = raised before + 1
raised (deed ∷ before) = raised before

-- a question that stands: its number, its conversation, and whether it was handed out
pub record Question : Type 0 where
  pub call : ℕ
  pub conv : ℕ
  pub handed : Bool

-- the oldest that wasn't handed out is
abbrev pub hand_first : List Question → List Question
hand_first [] = []
hand_first (q ∷ more) =
    if q.handed then q ∷ hand_first more
    else record { call = q.call; conv = q.conv; handed = true } ∷ more

-- those of the conversations that stand
abbrev pub of_speakers : List Speaker → List Question → List Question
of_speakers standing questions = filter (λ q. list_any (λ s. s.conv == q.conv) standing) questions

-- the questions that stand, the oldest first: each until it is answered, or is known to stay unanswered, or until its
-- conversation ends
abbrev pub questions : List Deed → List Question
questions [] = []
questions (Raised conv ∷ before) =
    questions before ++ record { call = raised before + 1; conv = conv; handed = false } ∷ []
questions (HandedOut ∷ before) = hand_first (questions before)
questions (OfTalk conv (calls.Heard bytes) ∷ before) = filter (λ q. not (q.conv == conv)) (questions before)
questions (OfTalk conv calls.Unheard ∷ before) = filter (λ q. not (q.conv == conv)) (questions before)
questions (OfTalk conv calls.Roomless ∷ before) = filter (λ q. not (q.conv == conv)) (questions before)
questions (OfFids at deed ∷ before) = of_speakers (speakers (OfFids at deed ∷ before)) (questions before)
questions (OfConnection at deed ∷ before) = of_speakers (speakers (OfConnection at deed ∷ before)) (questions before)
questions (Halted ∷ before) = []
questions (deed ∷ before) = questions before

-- the conversation whose question has this number
abbrev pub asker : List Deed → ℕ → Option ℕ
asker done call = option_map (λ q. q.conv) (find (λ q. q.call == call) (questions done))

-- the oldest question that wasn't handed out
abbrev pub next_question : List Deed → Option Question
next_question done = find (λ q. not q.handed) (questions done)

-- ---- connections to the authentication server that are kept

-- a conversation that was given a challenge answers it over the same connection: it keeps the connection over which it
-- asks for one until it has its next question sent, or has come to its end

-- the conversation of a number stands
abbrev pub stands : List Deed → ℕ → Bool
stands done conv = list_any (λ s. s.conv == conv) (speakers done)

-- it is asked for a challenge
abbrev pub is_for_challenge : Shape → Bool
is_for_challenge Challenge = true
is_for_challenge Vouch = false
is_for_challenge Tickets = false

abbrev pub asks_challenge : Need → Bool
asks_challenge (Exchange request shape) = is_for_challenge shape
asks_challenge (Key template) = false
asks_challenge (Offers template) = false
asks_challenge (Pick templates) = false
asks_challenge Nothing = false

-- behind a question that is handed out: its own conversation keeps the connection over which it asks for a challenge,
-- and uses up the one that it kept by any other question
abbrev pub kept_by : List Deed → Option Question → ℕ → Bool → Bool
kept_by done None conv kept = kept
kept_by done (Some q) conv kept = if q.conv == conv then asks_challenge (question_of (standing_of done conv)) else kept

-- a conversation keeps a connection
abbrev pub keeps : List Deed → ℕ → Bool
keeps [] conv = false
keeps (HandedOut ∷ before) conv = kept_by before (next_question before) conv (keeps before conv)
keeps (OfTalk at call ∷ before) conv =
    if at == conv then keeps before conv && not (is_end (outcome_of (standing_of (OfTalk at call ∷ before) conv)))
    else keeps before conv
keeps (OfFids at deed ∷ before) conv = keeps before conv && stands (OfFids at deed ∷ before) conv
keeps (OfConnection at deed ∷ before) conv = keeps before conv && stands (OfConnection at deed ∷ before) conv
keeps (Halted ∷ before) conv = false
keeps (deed ∷ before) conv = keeps before conv

-- a connection that is to be given up: its conversation, and how many questions had been raised by then
pub record Drop : Type 0 where
  pub conv : ℕ
  pub behind : ℕ

-- a conversation kept a connection before a deed, and keeps none behind it
abbrev pub gives_up : Deed → List Deed → ℕ → Bool
gives_up deed before conv = keeps before conv && not (keeps (deed ∷ before) conv)

abbrev pub drop_of : List Deed → ℕ → Drop
drop_of before conv = record { conv = conv; behind = raised before }

-- the connections that the conversations of some speakers give up by a deed
abbrev pub given_up : Deed → List Deed → List Speaker → List Drop
given_up deed before standing = map (λ s. drop_of before s.conv) (filter (λ s. gives_up deed before s.conv) standing)

-- the connections that are to be given up, the oldest first; after a stop none is
abbrev pub drops : List Deed → List Drop
drops [] = []
drops (OfTalk conv call ∷ before) =
    if gives_up (OfTalk conv call) before conv then drops before ++ drop_of before conv ∷ []
    else drops before
drops (OfFids at deed ∷ before) = drops before ++ given_up (OfFids at deed) before (speakers before)
drops (OfConnection at deed ∷ before) = drops before ++ given_up (OfConnection at deed) before (speakers before)
drops (DropTaken ∷ before) = drop 1 (drops before)
drops (Halted ∷ before) = []
drops (deed ∷ before) = drops before

-- what is due to be handed out next: a connection that is to be given up, or a question
pub data Due : Type 0 where
  NoneDue : Due
  DropDue : (drop : Drop) → Due
  QuestionDue : (question : Question) → Due

-- of a connection and a question the one that came first
abbrev pub first_due : Drop → Option Question → Due
first_due drop None = DropDue drop
first_due drop (Some question) = if nat_lt drop.behind question.call then DropDue drop else QuestionDue question

abbrev pub due_of : List Drop → Option Question → Due
due_of [] None = NoneDue
due_of [] (Some question) = QuestionDue question
due_of (drop ∷ more) question = first_due drop question

abbrev pub due : List Deed → Due
due done = due_of (drops done) (next_question done)

-- ---- what follows on what a conversation met

-- a question is raised where it is for the authentication server
abbrev pub raising : ℕ → Phase → List Deed → List Deed
raising conv OnServer done = Raised conv ∷ done
raising conv phase done = done

abbrev pub then_raised : ℕ → List Deed → List Deed
then_raised conv done = raising conv (standing_of done conv).phase done

-- the user is asked where a search comes to that: whether a key may be used, which is shown without its secrets, or
-- for a key, by the template that was searched for
abbrev pub prompting : ℕ → calls.Found → List Deed → List Deed
prompting conv (calls.AsksConsent key) done = OfPrompts k.Confirm (side.Asked conv (public_text key.tuple)) ∷ done
prompting conv calls.AsksKey done =
    OfPrompts k.Needkey (side.Asked conv (shown_text (template_of (standing_of done conv).begun))) ∷ done
prompting conv came done = done

-- a conversation came to this by a search
abbrev pub sought : ℕ → calls.Found → List Deed → List Deed
sought conv came done = prompting conv came (OfTalk conv (calls.Sought came) ∷ done)

-- what is needed of the keys is searched for, where something is, among the keys of this moment
abbrev pub seeking : ℕ → Phase → List Deed → List Deed
seeking conv Seeking done = sought conv (finds (standing_of done conv) (asking done) (keys_of done)) done
seeking conv phase done = done

abbrev pub sought_once : ℕ → List Deed → List Deed
sought_once conv done = seeking conv (standing_of done conv).phase done

-- a start may need one thing after the other: offers, a key where there are none, and the offers again. Any other
-- request needs one thing
abbrev pub seeking_all : Bool → ℕ → List Deed → List Deed
seeking_all true conv done = sought_once conv (sought_once conv (sought_once conv done))
seeking_all false conv done = sought_once conv done

abbrev pub then_sought : ℕ → List Deed → List Deed
then_sought conv done = seeking_all (standing_of done conv).starting conv done

-- lines are written into the log
abbrev pub logged : List (List ℕ) → List Deed → List Deed
logged [] done = done
logged (line ∷ more) done = logged more (OfLog (side.Pushed line) ∷ done)

-- what became of a conversation that stood so is written into the log
abbrev pub then_logged : ℕ → Standing → List Deed → List Deed
then_logged conv before done = logged (log_lines (is_debug done) conv before (standing_of done conv)) done

-- a conversation met something, and what it needs then is got for it or asked for; the reads of the three files that
-- wait are given the lines that came
abbrev pub met : ℕ → Call → List Deed → List Deed
met conv call done = all_served (then_logged conv (standing_of done conv)
    (then_raised conv (then_sought conv (OfTalk conv call ∷ done))))

-- ---- answers

-- an answer fits a read that may hold so many bytes
abbrev pub fits : ℕ → RpcAnswer → Bool
fits count answer = nat_le (length (answer_text answer)) count

-- what the read is told: the answer's text, or that it holds too little
abbrev pub told : ℕ → RpcAnswer → RBody
told count answer = if fits count answer then r.Read (answer_text answer) else too_small

-- an answer that was read is gone, and one that doesn't fit is kept
abbrev pub then_took : ℕ → ℕ → RpcAnswer → List Deed → List Deed
then_took conv count answer done = if fits count answer then OfTalk conv calls.Took ∷ done else done

-- the read that waits for the answers of a fid
abbrev pub reader_of : List Deed → Speaker → Option Wait
reader_of done s = reader done s.conn s.fid

-- an answer goes to the read that waits for it, if one does
abbrev pub give_to : ℕ → ℕ → RpcAnswer → Option Wait → List Deed → List Deed
give_to conv conn answer None done = done
give_to conv conn answer (Some wait) done =
    OfReplies conn (Settled wait.tag (told wait.count answer)) ∷ then_took conv wait.count answer done

abbrev pub deliver_to : ℕ → Phase → Option Speaker → List Deed → List Deed
deliver_to conv (Kept answer) (Some s) done = give_to conv s.conn answer (reader_of done s) done
deliver_to conv phase speaker done = done

abbrev pub delivered : ℕ → List Deed → List Deed
delivered conv done = deliver_to conv (standing_of done conv).phase (speaker_of done conv) done

-- a conversation meets what it waited for: the authentication server is done with its question, or its user replied
abbrev pub resumed : Option ℕ → Call → List Deed → List Deed
resumed None call done = done
resumed (Some conv) call done = delivered conv (met conv call done)

-- ---- ends

-- the questions of a conversation to its user are withdrawn
abbrev pub all_withdrawn : List ℕ → List Deed → List Deed
all_withdrawn [] done = done
all_withdrawn (conv ∷ more) done =
    all_withdrawn more (OfPrompts k.Needkey (side.Withdrawn conv) ∷ OfPrompts k.Confirm (side.Withdrawn conv) ∷ done)

-- the conversations that end by a deed
abbrev pub ended_by : Deed → List Deed → List ℕ
ended_by deed before = map (λ s. s.conv) (filter (λ s. not (stands (deed ∷ before) s.conv)) (speakers before))

-- the file of its question was closed: the question is withdrawn, and the request that waits for its reply is refused
abbrev pub shut : PromptKind → ℕ → List Deed → List Deed
shut kind conv done = delivered conv (OfTalk conv calls.Shut ∷ OfPrompts kind (side.Withdrawn conv) ∷ done)

abbrev pub all_shut : PromptKind → List ℕ → List Deed → List Deed
all_shut kind [] done = done
all_shut kind (conv ∷ more) done = all_shut kind more (shut kind conv done)

-- whoever waits for a reply in a file that nobody has open
abbrev pub closed : PromptKind → List Deed → List Deed
closed kind done = if is_some (holder_of done (file_of kind)) then done else all_shut kind (askers done kind) done

-- fids are given up by a deed, and with them conversations, whose questions are withdrawn first, and open files
abbrev pub given_up_by : Deed → List Deed → List Deed
given_up_by deed before = closed k.Needkey (closed k.Confirm (deed ∷ all_withdrawn (ended_by deed before) before))
