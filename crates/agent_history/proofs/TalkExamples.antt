-- Worked rows of conversations and of the reads that wait, computed on the definitions alone. They show what the
-- definitions say, and are no part of what is claimed of the product.
use Rattle.std.proofs.Common.{◌≡◌, ◌+◌, ℕ, suc, zero, List, [], ◌∷◌, ◌++◌, Ok, Err, Some, None, false, refl}
use Rattle.std.specs.Prelude.{Result, codes, replicate}
use Rattle.std.specs.Str.{is_utf8, chars}
use Rattle.std.specs.Str.Lossy.{utf8_valid_len}
use lib.Utf8.{encode}
use Rattle.wire_base.specs.Texts.{is_text}
use Rattle.wire_base.specs.declared.shape.Shape.TheVariants.{Tickets}
use Rattle.nine.specs.declared.message.TBody.{TBody}
use Rattle.nine.specs.declared.message.TBody.TheVariants as t
use Rattle.nine.specs.declared.message.RBody.{RBody}
use Rattle.nine.specs.declared.message.RBody.TheVariants as r
use Rattle.nine.specs.declared.message.RMsg.{RMsg}
use Rattle.file_tree.specs.declared.tree.Node.TheVariants.{Rpc}
use Rattle.file_tree.specs.Tree.{qid_of}
use Rattle.file_tree.specs.Calls.{fid_fault, open_fault}
use Rattle.attr_tuples.specs.Lines.{line_len}
use Rattle.attr_tuples.specs.Words.{first_word, gap_len}
use Rattle.attr_tuples.specs.declared.attr.Attr.{Attr}
use Rattle.attr_tuples.specs.Grammar.{attr_of, words_from, tuple_of}
use Rattle.attr_tuples.specs.Matching.{matches, value_of}
use Rattle.attr_tuples.specs.Equality.{public_equal}
use Rattle.attr_tuples.specs.Printing.{printed_text}
use Rattle.key_lists.specs.Lists.{KeyEntry}
use Rattle.key_lists.specs.Edits.{Add, Delete}
use Rattle.sealing.specs.Fields.{name_in, before_nul}
use Rattle.sealing.specs.Request as tickets
use Rattle.sealing.specs.Request.{request_text, request_fields}
use Rattle.roles.specs.declared.answer.Cause.{Cause}
use Rattle.roles.specs.declared.answer.Cause.TheVariants.{NoServer, NoRoom, ServerSaidNo}
use Rattle.roles.specs.declared.need.Outcome.TheVariants.{Broken, Running}
use Rattle.roles.specs.Starts.{role_of, start_fault}
use Rattle.roles.specs.Templates.{asked, given_as, shown_text}
use Rattle.talks.specs.RpcAnswers.{answer_text}
use Rattle.talks.specs.Requests as rpc
use Rattle.talks.specs.Requests.{starts, reads, writes}
use Rattle.talks.specs.Protocols.{protocol_of}
use Rattle.talks.specs.Calls.{Stored, CarriedOut, Sought, Chosen, NoneServes, Heard, Unheard, Roomless, Took}
use Rattle.side_files.specs.declared.line.PromptKind.TheVariants as k
use Rattle.side_files.specs.Calls.{Pushed, Withdrawn}
use Rattle.talks.specs.Lines.{error_line}
use Rattle.talks.specs.Searches.{found_by}
use Rattle.talks.specs.Standings.{finds}
use Rattle.agent_history.specs.declared.event.Event.TheVariants.{Answer, NoAnswer, TakeAsk}
use Rattle.agent_history.specs.declared.event.Event.TheVariants as events
use Rattle.agent_history.specs.declared.event.StepAnswer.TheVariants.{Ask, NoAsk, Stopped}
use Rattle.agent_history.specs.Deeds.{Deed, OfFids, OfKeys, OfReplies, OfConnection, OfTalk, OfPrompts, OfLog, Raised, HandedOut, Swept, Halted, Versioned, Walked, Opened, Clunked, Edited, Answered, Awaited, Settled, Flushed, Entered, Hung}
use Rattle.agent_history.specs.Replies.{swept, untaken, waits}
use Rattle.agent_history.specs.Conversations.{chosen_at, outcome_at, questions, speakers}
use Rattle.agent_history.specs.Requests.{Call, after, after_granted, body_for, granted_body, refusal, replied, reply_of}
use Rattle.agent_history.specs.Histories.{answer_after, does}

-- ---- words of the rows

-- a request of a connection under a tag, and the word that was drawn for it
abbrev pub word : List ℕ
word = 1 ∷ 35 ∷ 69 ∷ 103 ∷ 137 ∷ 171 ∷ 205 ∷ 239 ∷ []

abbrev pub call : ℕ → ℕ → Call
call conn tag = record { conn = conn; tag = tag; word = word }

-- the deeds after a request that was read, with all of its tests
abbrev pub by_test : List Deed → Call → TBody → Result TBody (List ℕ) → List Deed
by_test done at body came = swept (replied at (body_for done at came) (after_granted done at came))

abbrev pub step : List Deed → Call → TBody → List Deed
step done at body = by_test done at body (granted_body done at body)

abbrev pub under : ℕ → RBody → RMsg
under tag body = record { tag = tag; body = body }

-- a reply to a request of connection 1
abbrev pub reply : ℕ → RBody → Deed
reply tag body = OfReplies 1 (Answered tag body)

-- the fid 3 of connection 1 opens rpc to read and write, so that conversation 0 stands
abbrev pub rests : List Deed
rests = OfFids 1 (Walked 3 Rpc) ∷ OfFids 1 (Versioned (Some 8216)) ∷ OfConnection 1 Entered ∷ []

abbrev pub began : List Deed
began = reply 2 (r.Open (qid_of Rpc) 0) ∷ OfFids 1 (Opened 3 2) ∷ rests

pub rpc_is_opened : step rests (call 1 2) (t.Open 3 2) ≡ began
unfolding refusal after reply_of open_fault
rpc_is_opened = refl

pub a_conversation_stands : speakers began ≡ record { conv = 0; conn = 1; fid = 3 } ∷ []
a_conversation_stands = refl

-- ---- a client of p9sk1 starts, and reads its challenge

abbrev client_start : List ℕ
client_start = codes "start proto=p9sk1 role=client"

abbrev pub wrote : List Deed
wrote = reply 5 (r.Write 29) ∷ OfTalk 0 (Stored (starts (codes "proto=p9sk1 role=client"))) ∷ began

pub a_start_is_written : step began (call 1 5) (t.Write 3 0 client_start) ≡ wrote
unfolding refusal after reply_of fid_fault rpc.request_of
a_start_is_written = refl

abbrev started : List Deed
started = reply 6 (r.Read (codes "ok")) ∷ OfTalk 0 Took ∷ OfTalk 0 (CarriedOut word) ∷ wrote

pub a_start_is_read : step wrote (call 1 6) (t.Read 3 0 8192) ≡ started
unfolding refusal after reply_of fid_fault tuple_of words_from first_word gap_len line_len utf8_valid_len attr_of is_text is_utf8 chars encode protocol_of start_fault role_of value_of answer_text
a_start_is_read = refl

-- the answer that is kept isn't read twice
pub nothing_is_pending : granted_body started (call 1 7) (t.Read 3 0 8192) ≡ Err (codes "no rpc pending")
unfolding refusal fid_fault tuple_of words_from first_word gap_len line_len utf8_valid_len attr_of is_text is_utf8 chars encode protocol_of start_fault role_of value_of
nothing_is_pending = refl

abbrev asked_word : List Deed
asked_word = reply 7 (r.Write 4) ∷ OfTalk 0 (Stored reads) ∷ started

pub a_read_is_written : step started (call 1 7) (t.Write 3 0 (codes "read")) ≡ asked_word
unfolding refusal after reply_of fid_fault rpc.request_of tuple_of words_from first_word gap_len line_len utf8_valid_len attr_of is_text is_utf8 chars encode protocol_of start_fault role_of value_of answer_text
a_read_is_written = refl

-- a second request comes while the first isn't carried out
pub a_request_is_there : granted_body asked_word (call 1 8) (t.Write 3 0 (codes "read")) ≡ Err (codes "rpc busy")
unfolding refusal fid_fault tuple_of words_from first_word gap_len line_len utf8_valid_len attr_of is_text is_utf8 chars encode protocol_of start_fault role_of value_of
a_request_is_there = refl

abbrev has_word : List Deed
has_word = reply 8 (r.Read (codes "ok " ++ word)) ∷ OfTalk 0 Took ∷ OfTalk 0 (CarriedOut word) ∷ asked_word

pub the_word_is_read : step asked_word (call 1 8) (t.Read 3 0 8192) ≡ has_word
unfolding refusal after reply_of fid_fault tuple_of words_from first_word gap_len line_len utf8_valid_len attr_of is_text is_utf8 chars encode protocol_of start_fault role_of value_of answer_text
the_word_is_read = refl

-- a read that holds ten bytes has carried the request out, and leaves the answer to a later one
abbrev kept_word : List Deed
kept_word = reply 8 (r.Error (codes "read too small")) ∷ OfTalk 0 (CarriedOut word) ∷ asked_word

pub a_read_is_too_small : step asked_word (call 1 8) (t.Read 3 0 10) ≡ kept_word
unfolding refusal after reply_of fid_fault tuple_of words_from first_word gap_len line_len utf8_valid_len attr_of is_text is_utf8 chars encode protocol_of start_fault role_of value_of answer_text
a_read_is_too_small = refl

pub an_answer_is_there : granted_body kept_word (call 1 9) (t.Write 3 0 (codes "read")) ≡ Err (codes "rpc busy")
unfolding refusal fid_fault tuple_of words_from first_word gap_len line_len utf8_valid_len attr_of is_text is_utf8 chars encode protocol_of start_fault role_of value_of
an_answer_is_there = refl

pub a_later_read_has_it : step kept_word (call 1 9) (t.Read 3 0 11) ≡ reply 9 (r.Read (codes "ok " ++ word)) ∷ OfTalk 0 Took ∷ kept_word
unfolding refusal after reply_of fid_fault tuple_of words_from first_word gap_len line_len utf8_valid_len attr_of is_text is_utf8 chars encode protocol_of start_fault role_of value_of answer_text
a_later_read_has_it = refl

-- ---- a server's request finds no key

abbrev pub chal : List ℕ
chal = 16 ∷ 17 ∷ 18 ∷ 19 ∷ 20 ∷ 21 ∷ 22 ∷ 23 ∷ []

-- the request of the server srv in the domain x
abbrev server_request : List ℕ
server_request = request_text (record { kind = 1; authid = codes "srv"; authdom = codes "x"; chal = chal; hostid = []; uid = [] })

abbrev pub gave_request : List Deed
gave_request = reply 9 (r.Write 147) ∷ OfTalk 0 (Stored (writes server_request)) ∷ has_word

pub the_request_is_written : step has_word (call 1 9) (t.Write 3 0 (codes "write " ++ server_request)) ≡ gave_request
unfolding request_text refusal after reply_of fid_fault rpc.request_of tuple_of words_from first_word gap_len line_len utf8_valid_len attr_of is_text is_utf8 chars encode protocol_of start_fault role_of value_of answer_text
the_request_is_written = refl

abbrev wants_key : List Deed
wants_key = reply 10 (r.Read (codes "needkey proto=p9sk1 dom=x user? !password?")) ∷ OfTalk 0 Took ∷ OfTalk 0 (Sought NoneServes) ∷ OfTalk 0 (CarriedOut word) ∷ gave_request

pub a_key_is_wanted : step gave_request (call 1 10) (t.Read 3 0 8192) ≡ wants_key
unfolding request_text refusal after reply_of fid_fault finds found_by tuple_of words_from first_word gap_len line_len utf8_valid_len attr_of tickets.request_of request_fields name_in before_nul is_text is_utf8 chars encode protocol_of start_fault role_of value_of asked answer_text shown_text printed_text
a_key_is_wanted = refl

-- ---- a server's start on no keys is none

abbrev pub server_wrote : List Deed
server_wrote = reply 5 (r.Write 29) ∷ OfTalk 0 (Stored (starts (codes "proto=p9sk1 role=server"))) ∷ began

pub a_servers_start_is_written : step began (call 1 5) (t.Write 3 0 (codes "start proto=p9sk1 role=server")) ≡ server_wrote
unfolding refusal after reply_of fid_fault rpc.request_of
a_servers_start_is_written = refl

abbrev not_started : List Deed
not_started = reply 6 (r.Read (codes "needkey proto=p9sk1 user? dom? !password?")) ∷ OfTalk 0 Took ∷ OfTalk 0 (Sought NoneServes) ∷ OfTalk 0 (CarriedOut word) ∷ server_wrote

pub a_start_wants_a_key : step server_wrote (call 1 6) (t.Read 3 0 8192) ≡ not_started
unfolding refusal after reply_of fid_fault finds found_by tuple_of words_from first_word gap_len line_len utf8_valid_len attr_of is_text is_utf8 chars encode protocol_of start_fault role_of value_of asked answer_text shown_text printed_text
a_start_wants_a_key = refl

abbrev reads_early : List Deed
reads_early = reply 7 (r.Write 4) ∷ OfTalk 0 (Stored reads) ∷ not_started

pub it_was_not_started : step reads_early (call 1 8) (t.Read 3 0 8192) ≡ reply 8 (r.Read (codes "protocol not started")) ∷ OfTalk 0 Took ∷ OfTalk 0 (CarriedOut word) ∷ reads_early
unfolding refusal after reply_of fid_fault finds found_by tuple_of words_from first_word gap_len line_len utf8_valid_len attr_of is_text is_utf8 chars encode protocol_of start_fault role_of value_of asked answer_text
it_was_not_started = refl

-- ---- a key of ann, and the question for the authentication server

abbrev pub anns : List Attr
anns = given_as (codes "proto") (codes "p9sk1") ∷ given_as (codes "dom") (codes "x") ∷ given_as (codes "user") (codes "ann") ∷ given_as (codes "!password") (codes "a") ∷ []

-- connection 2 added her key before the request was carried out
abbrev pub with_key : List Deed
with_key = OfReplies 2 (Answered 1 (r.Write 44)) ∷ OfKeys 2 (Edited (Add anns)) ∷ gave_request

abbrev pub ann : KeyEntry
ann = record { tuple = anns; serial = 1 }

abbrev pub asks : List Deed
asks = OfReplies 1 (Awaited 10 3 8192) ∷ Raised 0 ∷ OfTalk 0 (Sought (Chosen ann)) ∷ OfTalk 0 (CarriedOut word) ∷ with_key

pub the_server_is_asked : step with_key (call 1 10) (t.Read 3 0 9000) ≡ asks
unfolding request_text refusal after reply_of fid_fault finds found_by matches public_equal tuple_of words_from first_word gap_len line_len utf8_valid_len attr_of tickets.request_of request_fields name_in before_nul is_text is_utf8 chars encode protocol_of start_fault role_of value_of asked answer_text
the_server_is_asked = refl

-- the question is hers, for herself
abbrev question : List ℕ
question = request_text (record { kind = 1; authid = codes "srv"; authdom = codes "x"; chal = chal; hostid = codes "ann"; uid = codes "ann" })

pub her_question_is_put : answer_after asks TakeAsk ≡ (Ask 1 0 Tickets, question)
unfolding request_text tuple_of words_from first_word gap_len line_len utf8_valid_len attr_of tickets.request_of request_fields name_in before_nul is_text is_utf8 chars encode protocol_of start_fault role_of value_of asked
her_question_is_put = refl

pub it_is_handed_out : does asks TakeAsk ≡ HandedOut ∷ asks
it_is_handed_out = refl

pub it_is_put_once : answer_after (HandedOut ∷ asks) TakeAsk ≡ (NoAsk, [])
it_is_put_once = refl

pub nothing_is_handed_out : does (HandedOut ∷ asks) TakeAsk ≡ HandedOut ∷ asks
nothing_is_handed_out = refl

-- ---- what comes of the question, each told the read that waits

abbrev told_of : RBody → List Deed → List Deed
told_of body done = Swept ∷ OfReplies 1 (Settled 10 body) ∷ OfTalk 0 Took ∷ done

-- that it broke is written into the log
abbrev pub breaks : Cause → List Deed → List Deed
breaks cause done = OfLog (Pushed (error_line 0 cause)) ∷ done

-- its questions to its user are withdrawn, where it has any
abbrev pub withdrawn : List Deed → List Deed
withdrawn done = OfPrompts k.Needkey (Withdrawn 0) ∷ OfPrompts k.Confirm (Withdrawn 0) ∷ done

abbrev pub unheard : List Deed
unheard = told_of (r.Read (codes "error no server")) (breaks NoServer (OfTalk 0 Unheard ∷ HandedOut ∷ asks))

pub no_server_is_told : does (HandedOut ∷ asks) (NoAnswer 1) ≡ unheard
unfolding request_text tuple_of words_from first_word gap_len line_len utf8_valid_len attr_of tickets.request_of request_fields name_in before_nul is_text is_utf8 chars encode protocol_of start_fault role_of value_of asked answer_text
no_server_is_told = refl

pub it_is_told_there : untaken unheard 1 ≡ untaken asks 1 ++ under 10 (r.Read (codes "error no server")) ∷ []
it_is_told_there = refl

pub none_is_told_elsewhere : untaken unheard 2 ≡ untaken asks 2
none_is_told_elsewhere = refl

-- also where the question wasn't handed out; it isn't then
pub no_room_is_told : does asks (events.NoRoom 1) ≡ told_of (r.Read (codes "error out of memory")) (breaks NoRoom (OfTalk 0 Roomless ∷ asks))
unfolding request_text tuple_of words_from first_word gap_len line_len utf8_valid_len attr_of tickets.request_of request_fields name_in before_nul is_text is_utf8 chars encode protocol_of start_fault role_of value_of asked answer_text
no_room_is_told = refl

pub it_leaves_the_queue : questions (told_of (r.Read (codes "error out of memory")) (breaks NoRoom (OfTalk 0 Roomless ∷ asks))) ≡ []
it_leaves_the_queue = refl

-- an unknown number changes nothing
pub an_unknown_call : does (HandedOut ∷ asks) (NoAnswer 2) ≡ HandedOut ∷ asks
an_unknown_call = refl

pub a_call_that_is_done : does unheard (NoAnswer 1) ≡ unheard
a_call_that_is_done = refl

-- ---- a read that is flushed, an answer, and a later read that takes what came

abbrev flushed : List Deed
flushed = reply 11 r.Flush ∷ OfReplies 1 (Flushed 10) ∷ asks

pub it_is_flushed : step asks (call 1 11) (t.Flush 10) ≡ flushed
unfolding refusal after reply_of
it_is_flushed = refl

pub the_conversation_waits_on : questions flushed ≡ record { call = 1; conv = 0; handed = false } ∷ []
the_conversation_waits_on = refl

-- the server's refusal, with its text of 64 bytes
abbrev pub refusal_text : List ℕ
refusal_text = 5 ∷ replicate 64 0

abbrev heard : List Deed
heard = breaks ServerSaidNo (OfTalk 0 (Heard refusal_text) ∷ flushed)

pub none_is_told_yet : does flushed (Answer 1 refusal_text) ≡ heard
unfolding request_text tuple_of words_from first_word gap_len line_len utf8_valid_len attr_of tickets.request_of request_fields name_in before_nul is_text is_utf8 chars encode protocol_of start_fault role_of value_of asked answer_text
none_is_told_yet = refl

pub it_has_come : step heard (call 1 10) (t.Read 3 0 8192) ≡ reply 10 (r.Read (codes "error server said no")) ∷ OfTalk 0 Took ∷ heard
unfolding refusal after reply_of fid_fault request_text tuple_of words_from first_word gap_len line_len utf8_valid_len attr_of tickets.request_of request_fields name_in before_nul is_text is_utf8 chars encode protocol_of start_fault role_of value_of asked answer_text
it_has_come = refl

-- or the later read waits again, and is told
abbrev waits_again : List Deed
waits_again = OfReplies 1 (Awaited 12 3 20) ∷ flushed

pub it_waits_again : step flushed (call 1 12) (t.Read 3 0 20) ≡ waits_again
unfolding refusal after reply_of fid_fault request_text tuple_of words_from first_word gap_len line_len utf8_valid_len attr_of tickets.request_of request_fields name_in before_nul is_text is_utf8 chars encode protocol_of start_fault role_of value_of asked answer_text
it_waits_again = refl

pub the_later_is_told : does waits_again (Answer 1 refusal_text) ≡ Swept ∷ OfReplies 1 (Settled 12 (r.Read (codes "error server said no"))) ∷ OfTalk 0 Took ∷ breaks ServerSaidNo (OfTalk 0 (Heard refusal_text) ∷ waits_again)
unfolding request_text tuple_of words_from first_word gap_len line_len utf8_valid_len attr_of tickets.request_of request_fields name_in before_nul is_text is_utf8 chars encode protocol_of start_fault role_of value_of asked answer_text
the_later_is_told = refl

-- a read that waits and holds too little is told so, and the answer stays
abbrev waits_short : List Deed
waits_short = OfReplies 1 (Awaited 12 3 19) ∷ flushed

abbrev stays : List Deed
stays = Swept ∷ OfReplies 1 (Settled 12 (r.Error (codes "read too small"))) ∷ breaks ServerSaidNo (OfTalk 0 (Heard refusal_text) ∷ waits_short)

pub a_wait_is_too_small : does waits_short (Answer 1 refusal_text) ≡ stays
unfolding request_text tuple_of words_from first_word gap_len line_len utf8_valid_len attr_of tickets.request_of request_fields name_in before_nul is_text is_utf8 chars encode protocol_of start_fault role_of value_of asked answer_text
a_wait_is_too_small = refl

pub it_stays : step stays (call 1 13) (t.Read 3 0 20) ≡ reply 13 (r.Read (codes "error server said no")) ∷ OfTalk 0 Took ∷ stays
unfolding refusal after reply_of fid_fault request_text tuple_of words_from first_word gap_len line_len utf8_valid_len attr_of tickets.request_of request_fields name_in before_nul is_text is_utf8 chars encode protocol_of start_fault role_of value_of asked answer_text
it_stays = refl

-- ---- while a read waits

pub one_read_waits : granted_body asks (call 1 12) (t.Read 3 0 20) ≡ Err (codes "rpc busy")
unfolding refusal fid_fault
one_read_waits = refl

pub its_tag_is_taken : granted_body asks (call 1 10) (t.Read 3 0 20) ≡ Err (codes "duplicate tag")
its_tag_is_taken = refl

pub no_request_meanwhile : granted_body asks (call 1 12) (t.Write 3 0 (codes "read")) ≡ Err (codes "rpc busy")
unfolding refusal fid_fault request_text tuple_of words_from first_word gap_len line_len utf8_valid_len attr_of tickets.request_of request_fields name_in before_nul is_text is_utf8 chars encode protocol_of start_fault role_of value_of asked finds found_by matches public_equal
no_request_meanwhile = refl

-- ---- the conversation ends while a read waits

abbrev clunked : List Deed
clunked = Swept ∷ reply 12 r.Clunk ∷ OfFids 1 (Clunked 3) ∷ withdrawn asks

pub its_fid_is_given_up : step asks (call 1 12) (t.Clunk 3) ≡ clunked
unfolding refusal after reply_of fid_fault
its_fid_is_given_up = refl

pub an_unknown_fid_is_told : untaken clunked 1 ≡ untaken asks 1 ++ under 12 r.Clunk ∷ under 10 (r.Error (codes "unknown fid")) ∷ []
an_unknown_fid_is_told = refl

pub nobody_asks_any_more : answer_after clunked TakeAsk ≡ (NoAsk, [])
nobody_asks_any_more = refl

pub its_answer_changes_nothing : does clunked (Answer 1 refusal_text) ≡ clunked
its_answer_changes_nothing = refl

pub none_stands : speakers clunked ≡ []
none_stands = refl

-- a remove ends it too, and is refused
pub a_remove_ends_it : step asks (call 1 12) (t.Remove 3) ≡ Swept ∷ reply 12 (r.Error (codes "permission denied")) ∷ OfFids 1 (Clunked 3) ∷ withdrawn asks
unfolding refusal after reply_of fid_fault
a_remove_ends_it = refl

-- the next conversation has another number
pub the_next_is_another : speakers (OfFids 1 (Opened 3 2) ∷ OfFids 1 (Walked 3 Rpc) ∷ clunked) ≡ record { conv = 1; conn = 1; fid = 3 } ∷ []
the_next_is_another = refl

-- by a hang and by a version no read is told
pub a_hang_tells_none : (waits (OfConnection 1 Hung ∷ asks) 1 ≡ []) × (questions (OfConnection 1 Hung ∷ asks) ≡ [])
a_hang_tells_none = (refl, refl)

abbrev renewed : List Deed
renewed = reply 12 (r.Version 256 (codes "9P2000")) ∷ OfFids 1 (Versioned (Some 256)) ∷ withdrawn asks

pub a_version_tells_none : step asks (call 1 12) (t.Version 256 (codes "9P2000")) ≡ renewed
unfolding refusal after reply_of
a_version_tells_none = refl

pub no_question_after_a_version : questions renewed ≡ []
no_question_after_a_version = refl

pub a_stop_ends_all : (speakers (Halted ∷ asks) ≡ []) × (questions (Halted ∷ asks) ≡ []) × (answer_after (Halted ∷ asks) TakeAsk ≡ (Stopped, []))
a_stop_ends_all = (refl, refl, refl)

-- ---- as many reads of a connection wait as may

-- reads of other fids, under tags from 100
abbrev many : ℕ → List Deed → List Deed
many zero done = done
many (suc n) done = OfReplies 1 (Awaited (100 + n) (100 + n) 8192) ∷ many n done

-- whether or not the request would wait, and it isn't carried out
pub too_many_wait : granted_body (many 64 asked_word) (call 1 8) (t.Read 3 0 8192) ≡ Err (codes "too many waiting")
unfolding refusal fid_fault request_text tuple_of words_from first_word gap_len line_len utf8_valid_len attr_of tickets.request_of request_fields name_in before_nul is_text is_utf8 chars encode protocol_of start_fault role_of value_of asked
too_many_wait = refl

pub one_more_may_wait : granted_body (many 63 asked_word) (call 1 8) (t.Read 3 0 8192) ≡ Ok (t.Read 3 0 8192)
unfolding refusal fid_fault request_text tuple_of words_from first_word gap_len line_len utf8_valid_len attr_of tickets.request_of request_fields name_in before_nul is_text is_utf8 chars encode protocol_of start_fault role_of value_of asked
one_more_may_wait = refl

-- an answer that is there is read all the same
pub an_answer_is_read : granted_body (many 64 kept_word) (call 1 8) (t.Read 3 0 8192) ≡ Ok (t.Read 3 0 8192)
unfolding refusal fid_fault request_text tuple_of words_from first_word gap_len line_len utf8_valid_len attr_of tickets.request_of request_fields name_in before_nul is_text is_utf8 chars encode protocol_of start_fault role_of value_of asked
an_answer_is_read = refl

-- ---- how the conversation of a fid stands as to its end, and its key

pub it_runs : outcome_at asks 1 3 ≡ Some Running
unfolding request_text tuple_of words_from first_word gap_len line_len utf8_valid_len attr_of tickets.request_of request_fields name_in before_nul is_text is_utf8 chars encode protocol_of start_fault role_of value_of asked
it_runs = refl

pub it_is_broken : outcome_at unheard 1 3 ≡ Some (Broken NoServer)
unfolding request_text tuple_of words_from first_word gap_len line_len utf8_valid_len attr_of tickets.request_of request_fields name_in before_nul is_text is_utf8 chars encode protocol_of start_fault role_of value_of asked
it_is_broken = refl

pub it_never_started : outcome_at not_started 1 3 ≡ None
unfolding request_text tuple_of words_from first_word gap_len line_len utf8_valid_len attr_of tickets.request_of request_fields name_in before_nul is_text is_utf8 chars encode protocol_of start_fault role_of value_of asked
it_never_started = refl

pub her_key_is_chosen : chosen_at asks 1 3 ≡ Some ann
unfolding request_text tuple_of words_from first_word gap_len line_len utf8_valid_len attr_of tickets.request_of request_fields name_in before_nul is_text is_utf8 chars encode protocol_of start_fault role_of value_of asked
her_key_is_chosen = refl

-- the key stays although the keys are deleted that match any template
pub her_key_stays : chosen_at (OfKeys 2 (Edited (Delete [])) ∷ asks) 1 3 ≡ Some ann
unfolding request_text tuple_of words_from first_word gap_len line_len utf8_valid_len attr_of tickets.request_of request_fields name_in before_nul is_text is_utf8 chars encode protocol_of start_fault role_of value_of asked
her_key_stays = refl

pub nothing_is_told_of_it : (outcome_at clunked 1 3 ≡ None) × (chosen_at clunked 1 3 ≡ None) × (outcome_at (Halted ∷ asks) 1 3 ≡ None)
nothing_is_told_of_it = (refl, refl, refl)
