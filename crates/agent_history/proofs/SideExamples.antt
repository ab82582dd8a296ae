-- Worked rows of confirm, needkey and log, computed on the definitions alone, each request with all of its tests. They show
-- what the definitions say, and are no part of what is claimed of the product.
use Rattle.std.proofs.Common.{◌≡◌, ℕ, List, [], ◌∷◌, ◌++◌, Err, Some, true, refl}
use Rattle.std.specs.Prelude.{codes}
use Rattle.std.specs.Fmt.{digits}
use Rattle.std.specs.Str.{is_utf8, chars}
use Rattle.std.specs.Str.Lossy.{utf8_valid_len}
use lib.Utf8.{encode}
use Rattle.wire_base.specs.Texts.{is_text}
use Rattle.wire_base.specs.declared.shape.Shape.TheVariants.{Tickets}
use Rattle.nine.specs.declared.message.TBody.TheVariants as t
use Rattle.nine.specs.declared.message.RBody.{RBody}
use Rattle.nine.specs.declared.message.RBody.TheVariants as r
use Rattle.file_tree.specs.declared.tree.Node.{Node}
use Rattle.file_tree.specs.declared.tree.Node.TheVariants.{Confirm, Needkey, Log}
use Rattle.file_tree.specs.Calls.{fid_fault}
use Rattle.attr_tuples.specs.Lines.{line_len}
use Rattle.attr_tuples.specs.Words.{first_word, gap_len}
use Rattle.attr_tuples.specs.declared.attr.Attr.{Attr}
use Rattle.attr_tuples.specs.declared.attr.Value.TheVariants.{Bare}
use Rattle.attr_tuples.specs.Grammar.{attr_of, words_from, tuple_of}
use Rattle.attr_tuples.specs.Matching.{matches, value_of}
use Rattle.attr_tuples.specs.Equality.{public_equal}
use Rattle.attr_tuples.specs.Printing.{printed_text, public_text}
use Rattle.key_lists.specs.Lists.{KeyEntry}
use Rattle.key_lists.specs.Edits.{Add, Delete}
use Rattle.sealing.specs.Fields.{name_in, before_nul}
use Rattle.sealing.specs.Request as tickets
use Rattle.sealing.specs.Request.{request_text, request_fields}
use Rattle.roles.specs.Starts.{role_of, start_fault}
use Rattle.roles.specs.Templates.{asked, given_as, shown_text}
use Rattle.talks.specs.RpcAnswers.{answer_text}
use Rattle.talks.specs.Protocols.{protocol_of}
use Rattle.side_files.specs.declared.line.PromptKind.TheVariants as k
use Rattle.side_files.specs.Calls.{Asked, Read, Replied, Withdrawn, Pushed}
use Rattle.side_files.specs.Calls as side
use Rattle.side_files.specs.Decimals.{number_of}
use Rattle.side_files.specs.Lines.{question_line}
use Rattle.side_files.specs.Replies as prompt
use Rattle.talks.specs.Calls.{CarriedOut, Sought, Chosen, AsksConsent, AsksKey, Denied, Consented, KeyTold, Shut, Took}
use Rattle.talks.specs.Searches.{found_by}
use Rattle.talks.specs.Standings.{finds}
use Rattle.agent_history.specs.declared.event.Event.TheVariants.{Hang, NoAnswer, TakeAsk}
use Rattle.agent_history.specs.declared.event.StepAnswer.TheVariants.{Ask}
use Rattle.agent_history.specs.Deeds.{Deed, OfFids, OfKeys, OfReplies, OfConnection, OfTalk, OfPrompts, OfLog, Raised, Swept, Versioned, Walked, Opened, Clunked, Edited, Switched, Answered, Awaited, Settled, Flushed, Entered, Hung}
use Rattle.agent_history.specs.Replies.{untaken}
use Rattle.agent_history.specs.Requests.{after, granted_body, refusal, reply_of}
use Rattle.agent_history.specs.Histories.{answer_after, does}
use Rattle.agent_history.proofs.TalkExamples.{word, call, step, reply, under, ann, anns, chal, gave_request, server_wrote, asks}
use Rattle.agent_history.proofs.ProtocolExamples.{client_answers}

-- ---- words of the rows

-- connection 2 has fid 4 open on a file
abbrev with_file : Node → List Deed → List Deed
with_file node done = OfFids 2 (Opened 4 2) ∷ OfFids 2 (Walked 4 node) ∷ OfFids 2 (Versioned (Some 8216)) ∷ OfConnection 2 Entered ∷ done

-- a reply to a request of connection 2
abbrev says : ℕ → RBody → Deed
says tag body = OfReplies 2 (Answered tag body)

-- ---- a user is asked for a key, and those that come meanwhile are searched

-- a read of needkey waits
abbrev nobody_asks : List Deed
nobody_asks = OfReplies 2 (Awaited 1 4 100) ∷ with_file Needkey gave_request

pub it_waits_for_a_question : step (with_file Needkey gave_request) (call 2 1) (t.Read 4 0 100) ≡ nobody_asks
unfolding refusal after reply_of fid_fault
it_waits_for_a_question = refl

abbrev needs_key : List ℕ
needs_key = codes "needkey tag=1 proto=p9sk1 dom=x user? !password?\n"

-- the question goes to the read that waits for it, and the request waits for the reply
abbrev wants_key : List Deed
wants_key =
    Swept ∷ OfReplies 1 (Awaited 10 3 8192) ∷ OfReplies 2 (Settled 1 (r.Read needs_key)) ∷ OfPrompts k.Needkey Read
    ∷ OfPrompts k.Needkey (Asked 0 (codes "proto=p9sk1 dom=x user? !password?")) ∷ OfTalk 0 (Sought AsksKey) ∷ OfTalk 0 (CarriedOut word) ∷ nobody_asks

pub a_key_is_asked_for : step nobody_asks (call 1 10) (t.Read 3 0 8192) ≡ wants_key
unfolding request_text refusal after reply_of fid_fault finds found_by matches public_equal question_line digits tuple_of words_from first_word gap_len line_len utf8_valid_len attr_of tickets.request_of request_fields name_in before_nul is_text is_utf8 chars encode protocol_of start_fault role_of value_of asked answer_text shown_text printed_text
a_key_is_asked_for = refl

pub it_is_asked_there : untaken wants_key 2 ≡ under 1 (r.Read needs_key) ∷ []
it_is_asked_there = refl

abbrev bobs : List Attr
bobs = given_as (codes "proto") (codes "p9sk1") ∷ given_as (codes "dom") (codes "x") ∷ given_as (codes "user") (codes "bob") ∷ given_as (codes "!password") (codes "b") ∷ []

abbrev bob : KeyEntry
bob = record { tuple = bobs; serial = 2 }

-- the key of ann is added and deleted again, and one of bob added
abbrev edited : List Deed
edited = OfKeys 3 (Edited (Add bobs)) ∷ OfKeys 3 (Edited (Delete (given_as (codes "user") (codes "ann") ∷ []))) ∷ OfKeys 2 (Edited (Add anns)) ∷ wants_key

abbrev replied : List Deed
replied = says 2 (r.Write 5) ∷ Raised 0 ∷ OfTalk 0 (Sought (Chosen bob)) ∷ OfTalk 0 KeyTold ∷ OfPrompts k.Needkey (Replied 1) ∷ edited

pub the_search_begins_again : step edited (call 2 2) (t.Write 4 0 (codes "tag=1")) ≡ replied
unfolding request_text refusal after reply_of fid_fault prompt.reply_of number_of finds found_by matches public_equal question_line digits tuple_of words_from first_word gap_len line_len utf8_valid_len attr_of tickets.request_of request_fields name_in before_nul is_text is_utf8 chars encode protocol_of start_fault role_of value_of asked answer_text
the_search_begins_again = refl

-- the question for the authentication server is bob's
abbrev question : List ℕ
question = request_text (record { kind = 1; authid = codes "srv"; authdom = codes "x"; chal = chal; hostid = codes "bob"; uid = codes "bob" })

pub his_question_is_put : answer_after replied TakeAsk ≡ (Ask 1 0 Tickets, question)
unfolding request_text tuple_of words_from first_word gap_len line_len utf8_valid_len attr_of tickets.request_of request_fields name_in before_nul is_text is_utf8 chars encode protocol_of start_fault role_of value_of asked
his_question_is_put = refl

-- ---- a user is asked whether a key may be used

abbrev asks_first : List Attr
asks_first = given_as (codes "proto") (codes "p9sk1") ∷ given_as (codes "dom") (codes "x") ∷ given_as (codes "user") (codes "ann") ∷ record { name = codes "confirm"; value = Bare } ∷ given_as (codes "!password") (codes "a") ∷ []

abbrev entry : ℕ → KeyEntry
entry serial = record { tuple = asks_first; serial = serial }

abbrev with_confirm : List Deed
with_confirm = OfKeys 2 (Edited (Add asks_first)) ∷ with_file Confirm gave_request

abbrev about : List ℕ
about = codes "proto=p9sk1 dom=x user=ann confirm !password?"

abbrev is_asked : List Deed
is_asked = OfReplies 1 (Awaited 10 3 8192) ∷ OfPrompts k.Confirm (Asked 0 about) ∷ OfTalk 0 (Sought (AsksConsent (entry 1))) ∷ OfTalk 0 (CarriedOut word) ∷ with_confirm

pub his_consent_is_asked : step with_confirm (call 1 10) (t.Read 3 0 8192) ≡ is_asked
unfolding request_text refusal after reply_of fid_fault finds found_by matches public_equal tuple_of words_from first_word gap_len line_len utf8_valid_len attr_of tickets.request_of request_fields name_in before_nul is_text is_utf8 chars encode protocol_of start_fault role_of value_of asked answer_text public_text printed_text
his_consent_is_asked = refl

-- a reply that comes before the question was read
pub it_was_not_read : granted_body is_asked (call 2 1) (t.Write 4 0 (codes "tag=1 answer=yes")) ≡ Err (codes "unknown tag")
unfolding refusal fid_fault prompt.reply_of number_of tuple_of words_from first_word gap_len line_len utf8_valid_len attr_of is_text is_utf8 chars encode value_of
it_was_not_read = refl

-- a read that holds too little leaves it
pub it_stays : granted_body is_asked (call 2 1) (t.Read 4 0 10) ≡ Err (codes "read too small")
unfolding refusal fid_fault question_line digits
it_stays = refl

abbrev is_read : List Deed
is_read = says 1 (r.Read (codes "confirm tag=1 " ++ (about ++ codes "\n"))) ∷ OfPrompts k.Confirm Read ∷ is_asked

pub it_is_read : step is_asked (call 2 1) (t.Read 4 0 8192) ≡ is_read
unfolding refusal after reply_of fid_fault question_line digits
it_is_read = refl

-- the key is replaced by one that is the same in public
abbrev is_replaced : List Deed
is_replaced = OfKeys 2 (Edited (Add asks_first)) ∷ is_read

abbrev asked_again : List Deed
asked_again = says 2 (r.Write 16) ∷ OfPrompts k.Confirm (Asked 0 about) ∷ OfTalk 0 (Sought (AsksConsent (entry 2))) ∷ OfTalk 0 (Consented true) ∷ OfPrompts k.Confirm (Replied 1) ∷ is_replaced

pub he_is_asked_again : step is_replaced (call 2 2) (t.Write 4 0 (codes "tag=1 answer=yes")) ≡ asked_again
unfolding request_text refusal after reply_of fid_fault prompt.reply_of number_of question_line digits finds found_by matches public_equal tuple_of words_from first_word gap_len line_len utf8_valid_len attr_of tickets.request_of request_fields name_in before_nul is_text is_utf8 chars encode protocol_of start_fault role_of value_of asked answer_text public_text printed_text
he_is_asked_again = refl

abbrev read_again : List Deed
read_again = says 3 (r.Read (codes "confirm tag=2 " ++ (about ++ codes "\n"))) ∷ OfPrompts k.Confirm Read ∷ asked_again

pub it_has_another_tag : step asked_again (call 2 3) (t.Read 4 0 8192) ≡ read_again
unfolding refusal after reply_of fid_fault question_line digits
it_has_another_tag = refl

abbrev agreed : List Deed
agreed = says 4 (r.Write 16) ∷ Raised 0 ∷ OfTalk 0 (Sought (Chosen (entry 2))) ∷ OfTalk 0 (Consented true) ∷ OfPrompts k.Confirm (Replied 2) ∷ read_again

pub the_new_key_is_used : step read_again (call 2 4) (t.Write 4 0 (codes "tag=2 answer=yes")) ≡ agreed
unfolding request_text refusal after reply_of fid_fault prompt.reply_of number_of question_line digits finds found_by matches public_equal tuple_of words_from first_word gap_len line_len utf8_valid_len attr_of tickets.request_of request_fields name_in before_nul is_text is_utf8 chars encode protocol_of start_fault role_of value_of asked answer_text public_text printed_text
the_new_key_is_used = refl

pub it_is_replied_to_once : granted_body agreed (call 2 5) (t.Write 4 0 (codes "tag=2 answer=yes")) ≡ Err (codes "unknown tag")
unfolding refusal fid_fault prompt.reply_of number_of question_line digits tuple_of words_from first_word gap_len line_len utf8_valid_len attr_of is_text is_utf8 chars encode value_of
it_is_replied_to_once = refl

pub it_says_no_tag : granted_body agreed (call 2 5) (t.Write 4 0 (codes "answer=yes")) ≡ Err (codes "bad reply")
unfolding refusal fid_fault prompt.reply_of number_of tuple_of words_from first_word gap_len line_len utf8_valid_len attr_of is_text is_utf8 chars encode value_of
it_says_no_tag = refl

-- ---- the file is closed while a request waits

abbrev refused : List Deed → List Deed
refused done = Swept ∷ OfReplies 1 (Settled 10 (r.Read (codes "error confirmation denied"))) ∷ OfTalk 0 Took ∷ OfTalk 0 Shut ∷ OfPrompts k.Confirm (Withdrawn 0) ∷ done

pub a_closed_file_denies : step is_read (call 2 5) (t.Clunk 4) ≡ Swept ∷ says 5 r.Clunk ∷ OfReplies 1 (Settled 10 (r.Read (codes "error confirmation denied"))) ∷ OfTalk 0 Took ∷ OfTalk 0 Shut ∷ OfPrompts k.Confirm (Withdrawn 0) ∷ OfFids 2 (Clunked 4) ∷ is_read
unfolding request_text refusal after reply_of fid_fault question_line digits finds found_by matches public_equal tuple_of words_from first_word gap_len line_len utf8_valid_len attr_of tickets.request_of request_fields name_in before_nul is_text is_utf8 chars encode protocol_of start_fault role_of value_of asked answer_text
a_closed_file_denies = refl

pub a_hang_closes_it : does is_read (Hang 2) ≡ refused (OfConnection 2 Hung ∷ is_read)
unfolding request_text question_line digits finds found_by matches public_equal tuple_of words_from first_word gap_len line_len utf8_valid_len attr_of tickets.request_of request_fields name_in before_nul is_text is_utf8 chars encode protocol_of start_fault role_of value_of asked answer_text
a_hang_closes_it = refl

-- where the file isn't open, nobody agrees
abbrev must_ask : List Deed
must_ask = OfKeys 2 (Edited (Add asks_first)) ∷ server_wrote

pub nobody_agrees : step must_ask (call 1 6) (t.Read 3 0 8192) ≡ reply 6 (r.Read (codes "error confirmation denied")) ∷ OfTalk 0 Took ∷ OfTalk 0 (Sought Denied) ∷ OfTalk 0 (CarriedOut word) ∷ must_ask
unfolding refusal after reply_of fid_fault finds found_by matches public_equal tuple_of words_from first_word gap_len line_len utf8_valid_len attr_of is_text is_utf8 chars encode protocol_of start_fault role_of value_of asked answer_text
nobody_agrees = refl

-- ---- a read that waits is flushed, and the next is given the question

abbrev two_wait : List Deed
two_wait = OfReplies 2 (Awaited 6 4 100) ∷ OfReplies 2 (Awaited 5 4 100) ∷ with_file Needkey gave_request

abbrev one_waits : List Deed
one_waits = says 7 r.Flush ∷ OfReplies 2 (Flushed 5) ∷ two_wait

pub a_flush_is_all : step two_wait (call 2 7) (t.Flush 5) ≡ one_waits
unfolding refusal after reply_of
a_flush_is_all = refl

pub the_other_is_told : untaken (step one_waits (call 1 10) (t.Read 3 0 8192)) 2 ≡ under 7 r.Flush ∷ under 6 (r.Read needs_key) ∷ []
unfolding request_text refusal after reply_of fid_fault finds found_by matches public_equal question_line digits tuple_of words_from first_word gap_len line_len utf8_valid_len attr_of tickets.request_of request_fields name_in before_nul is_text is_utf8 chars encode protocol_of start_fault role_of value_of asked answer_text shown_text printed_text
the_other_is_told = refl

-- ---- the log

abbrev with_log : List Deed → List Deed
with_log done = OfFids 2 (Opened 4 0) ∷ OfFids 2 (Walked 4 Log) ∷ OfFids 2 (Versioned (Some 8216)) ∷ done

pub its_digits_are_logged : step (with_log client_answers) (call 2 1) (t.Read 4 0 100) ≡ says 1 (r.Read (codes "0 done proto=apop role=client\n")) ∷ OfLog side.Taken ∷ with_log client_answers
unfolding refusal after reply_of fid_fault digits
its_digits_are_logged = refl

-- two reads of the log wait, the first of which holds too little; a line goes to the other
abbrev short_waits : List Deed
short_waits = OfReplies 2 (Awaited 6 4 100) ∷ OfReplies 2 (Awaited 5 4 8) ∷ with_log asks

abbrev no_server : List ℕ
no_server = codes "0 error no server\n"

pub a_line_goes_to_the_next : untaken (does short_waits (NoAnswer 1)) 2 ≡ untaken short_waits 2 ++ under 5 (r.Error (codes "read too small")) ∷ under 6 (r.Read no_server) ∷ []
unfolding request_text tuple_of words_from first_word gap_len line_len utf8_valid_len attr_of tickets.request_of request_fields name_in before_nul is_text is_utf8 chars encode protocol_of start_fault role_of value_of asked answer_text digits
a_line_goes_to_the_next = refl

-- a line of ctl asks for the further lines, and the start of a conversation is told
abbrev debugged : List Deed
debugged = OfKeys 2 Switched ∷ server_wrote

abbrev with_ann : List Deed
with_ann = OfKeys 2 (Edited (Add anns)) ∷ debugged

pub its_start_is_logged : step with_ann (call 1 6) (t.Read 3 0 8192) ≡ reply 6 (r.Read (codes "ok")) ∷ OfTalk 0 Took ∷ OfLog (Pushed (codes "0 start proto=p9sk1 role=server\n")) ∷ OfTalk 0 (Sought (Chosen ann)) ∷ OfTalk 0 (CarriedOut word) ∷ with_ann
unfolding refusal after reply_of fid_fault finds found_by matches public_equal tuple_of words_from first_word gap_len line_len utf8_valid_len attr_of is_text is_utf8 chars encode protocol_of start_fault role_of value_of asked answer_text digits
its_start_is_logged = refl
