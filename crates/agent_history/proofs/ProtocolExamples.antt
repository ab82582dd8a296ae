-- Worked rows of p9any, APOP and CRAM through rpc, computed on the definitions alone, each request with all of its tests.
-- They show what the definitions say, and are no part of what is claimed of the product.
use Rattle.std.proofs.Common.{◌≡◌, ℕ, List, [], ◌∷◌, ◌++◌, true, refl}
use Rattle.std.specs.Prelude.{codes}
use Rattle.std.specs.Fmt.{decimal, digits}
use Rattle.std.specs.Str.{is_utf8, chars}
use Rattle.std.specs.Str.Lossy.{utf8_valid_len}
use lib.Utf8.{encode}
use Rattle.wire_base.specs.Texts.{is_text}
use Rattle.wire_base.specs.declared.shape.Shape.TheVariants.{Challenge}
use Rattle.nine.specs.declared.message.TBody.TheVariants as t
use Rattle.nine.specs.declared.message.RBody.TheVariants as r
use Rattle.file_tree.specs.declared.tree.Node.TheVariants.{Needkey}
use Rattle.file_tree.specs.Calls.{fid_fault}
use Rattle.attr_tuples.specs.Lines.{line_len}
use Rattle.attr_tuples.specs.Words.{first_word, gap_len}
use Rattle.attr_tuples.specs.declared.attr.Attr.{Attr}
use Rattle.attr_tuples.specs.Grammar.{attr_of, words_from, tuple_of}
use Rattle.attr_tuples.specs.Matching.{matches, value_of}
use Rattle.attr_tuples.specs.Equality.{public_equal}
use Rattle.attr_tuples.specs.Printing.{printed_text}
use Rattle.key_lists.specs.Lists.{KeyEntry}
use Rattle.key_lists.specs.Edits.{Add}
use Rattle.key_lists.specs.Listing.{offers, offers_text}
use Rattle.hex.specs.Hex.{encode_with}
use Rattle.md5.specs.Md5.{block_words, compress, digest_bytes, hash_after, md5, rounds}
use Rattle.sealing.specs.Answer.{apop_digits}
use Rattle.sealing.specs.Fields.{before_nul}
use Rattle.sealing.specs.Request.{request_text}
use Rattle.roles.specs.Starts.{fault_of, role_of}
use Rattle.roles.specs.Templates.{asked, given_as, shown_text}
use Rattle.talks.specs.Offers.{is_offered, offers_dom}
use Rattle.talks.specs.Texts.{text_in}
use Rattle.talks.specs.Numbers.{told_length}
use Rattle.talks.specs.Starts as mail
use Rattle.talks.specs.Starts.{proto_of, side_of}
use Rattle.talks.specs.Protocols.{protocol_of}
use Rattle.talks.specs.RpcAnswers.{answer_text}
use Rattle.talks.specs.declared.answer.RpcAnswer.TheVariants as a
use Rattle.talks.specs.Requests as rpc
use Rattle.talks.specs.Requests.{starts, reads, writes}
use Rattle.roles.specs.declared.answer.Cause.TheVariants.{NotOffered}
use Rattle.side_files.specs.declared.line.PromptKind.TheVariants as k
use Rattle.side_files.specs.Calls.{Asked, Pushed}
use Rattle.talks.specs.Calls.{Stored, CarriedOut, Sought, Chosen, AsksKey, NoneServes, Offered, KeyTold, Heard, Unheard, Took}
use Rattle.talks.specs.Searches.{found_by}
use Rattle.talks.specs.Standings.{Kept, finds}
use Rattle.agent_history.specs.declared.event.Event.TheVariants.{Answer, TakeAsk}
use Rattle.agent_history.specs.declared.event.StepAnswer.TheVariants.{Ask, DropCall, NoAsk}
use Rattle.agent_history.specs.Deeds.{Deed, OfFids, OfKeys, OfReplies, OfTalk, OfPrompts, OfLog, OfConnection, Raised, HandedOut, DropTaken, Swept, Walked, Opened, Clunked, Edited, Awaited, Settled, Hung}
use Rattle.agent_history.specs.Conversations.{drops, keeps, met, standing_of}
use Rattle.agent_history.specs.Requests.{after, refusal, reply_of}
use Rattle.agent_history.specs.Histories.{answer_after, does}
use Rattle.agent_history.proofs.TalkExamples.{word, call, step, reply, began, breaks, withdrawn}

-- ---- words of the rows

-- a request is written under this tag, and a read under the next one carries it out and reads its answer
abbrev asks : ℕ → ℕ → rpc.RpcRequest → List Deed → List Deed
asks tag size request done = reply tag (r.Write size) ∷ OfTalk 0 (Stored request) ∷ done

abbrev tells : ℕ → List ℕ → List Deed → List Deed
tells tag text done = reply tag (r.Read text) ∷ OfTalk 0 Took ∷ done

abbrev does_it : List Deed → List Deed
does_it done = OfTalk 0 (CarriedOut word) ∷ done

abbrev finds_it : KeyEntry → List Deed → List Deed
finds_it key done = OfTalk 0 (Sought (Chosen key)) ∷ done

-- the server's key, and one of ann for APOP
abbrev srvs : List Attr
srvs = given_as (codes "proto") (codes "p9sk1") ∷ given_as (codes "dom") (codes "x") ∷ given_as (codes "user") (codes "srv") ∷ given_as (codes "!password") (codes "s") ∷ []

abbrev srv : KeyEntry
srv = record { tuple = srvs; serial = 1 }

abbrev anns : List Attr
anns = given_as (codes "proto") (codes "apop") ∷ given_as (codes "user") (codes "ann") ∷ given_as (codes "!password") (codes "tanstaaf") ∷ []

abbrev ann : KeyEntry
ann = record { tuple = anns; serial = 1 }

-- the key was added before
abbrev with_key : List Attr → List Deed
with_key key = OfKeys 2 (Edited (Add key)) ∷ began

-- ---- a server of p9any that has a key

abbrev any_start : List ℕ
any_start = codes "start proto=p9any role=server"

abbrev any_asked : List Deed → List Deed
any_asked done = asks 5 29 (starts (codes "proto=p9any role=server")) done

pub a_start_is_written : step (with_key srvs) (call 1 5) (t.Write 3 0 any_start) ≡ any_asked (with_key srvs)
unfolding refusal after reply_of fid_fault rpc.request_of
a_start_is_written = refl

abbrev offers_x : List Deed
offers_x = tells 6 (codes "ok") (OfTalk 0 (Sought (Offered (codes "p9sk1@x"))) ∷ does_it (any_asked (with_key srvs)))

pub it_has_offers : step (any_asked (with_key srvs)) (call 1 6) (t.Read 3 0 8192) ≡ offers_x
unfolding refusal after reply_of fid_fault finds offers offers_text matches public_equal tuple_of words_from first_word gap_len line_len utf8_valid_len attr_of is_text is_utf8 chars encode protocol_of fault_of role_of value_of asked answer_text
it_has_offers = refl

abbrev shows_x : List Deed
shows_x = tells 8 (codes "ok p9sk1@x" ++ 0 ∷ []) (does_it (asks 7 4 reads offers_x))

pub its_list_is_read : step (asks 7 4 reads offers_x) (call 1 8) (t.Read 3 0 8192) ≡ shows_x
unfolding refusal after reply_of fid_fault tuple_of words_from first_word gap_len line_len utf8_valid_len attr_of is_text is_utf8 chars encode protocol_of fault_of role_of value_of answer_text
its_list_is_read = refl

-- it is given a domain that it didn't offer
abbrev not_offered : List ℕ
not_offered = codes "p9sk1 y" ++ 0 ∷ []

abbrev given_y : List Deed
given_y = asks 9 14 (writes not_offered) shows_x

pub a_choice_is_written : step shows_x (call 1 9) (t.Write 3 0 (codes "write " ++ not_offered)) ≡ given_y
unfolding refusal after reply_of fid_fault rpc.request_of tuple_of words_from first_word gap_len line_len utf8_valid_len attr_of is_text is_utf8 chars encode protocol_of fault_of role_of value_of answer_text
a_choice_is_written = refl

pub it_is_not_offered : step given_y (call 1 10) (t.Read 3 0 8192) ≡ tells 10 (codes "error not offered") (breaks NotOffered (does_it given_y))
unfolding refusal after reply_of fid_fault is_offered offers_dom text_in before_nul tuple_of words_from first_word gap_len line_len utf8_valid_len attr_of is_text is_utf8 chars encode protocol_of fault_of role_of value_of answer_text
it_is_not_offered = refl

-- or its own domain, without the byte behind it
abbrev given_short : List Deed
given_short = asks 9 13 (writes (codes "p9sk1 x")) shows_x

pub a_byte_is_wanting : (standing_of (does_it given_short) 0).phase ≡ Kept (a.TooSmall 8)
unfolding text_in before_nul tuple_of words_from first_word gap_len line_len utf8_valid_len attr_of is_text is_utf8 chars encode protocol_of fault_of role_of value_of
a_byte_is_wanting = refl

pub it_is_told_how_many : answer_text (a.TooSmall 8) ≡ codes "toosmall " ++ decimal 8
unfolding answer_text
it_is_told_how_many = refl

-- ---- one that has no key

abbrev without_offers : List Deed → List Deed
without_offers done = OfTalk 0 (Sought (Offered [])) ∷ does_it (any_asked done)

pub it_wants_a_key : step (any_asked began) (call 1 6) (t.Read 3 0 8192) ≡ tells 6 (codes "needkey proto=p9sk1 user? dom? !password?") (OfTalk 0 (Sought NoneServes) ∷ without_offers began)
unfolding refusal after reply_of fid_fault finds found_by offers offers_text matches public_equal tuple_of words_from first_word gap_len line_len utf8_valid_len attr_of is_text is_utf8 chars encode protocol_of fault_of role_of value_of asked answer_text shown_text printed_text
it_wants_a_key = refl

-- its user may be asked for one, and adds it: a key serves then, and is offered
abbrev with_needkey : List Deed
with_needkey = OfFids 2 (Opened 4 2) ∷ OfFids 2 (Walked 4 Needkey) ∷ began

abbrev asks_user : List Deed
asks_user = OfReplies 1 (Awaited 6 3 8192) ∷ OfPrompts k.Needkey (Asked 0 (codes "proto=p9sk1 user? dom? !password?")) ∷ OfTalk 0 (Sought AsksKey) ∷ without_offers with_needkey

pub its_user_is_asked : step (any_asked with_needkey) (call 1 6) (t.Read 3 0 8192) ≡ asks_user
unfolding refusal after reply_of fid_fault finds found_by offers offers_text matches public_equal tuple_of words_from first_word gap_len line_len utf8_valid_len attr_of is_text is_utf8 chars encode protocol_of fault_of role_of value_of asked answer_text shown_text printed_text
its_user_is_asked = refl

abbrev key_added : List Deed
key_added = OfKeys 2 (Edited (Add srvs)) ∷ asks_user

pub then_it_has_offers : met 0 KeyTold key_added ≡ OfTalk 0 (Sought (Offered (codes "p9sk1@x"))) ∷ finds_it srv (OfTalk 0 KeyTold ∷ key_added)
unfolding finds found_by offers offers_text matches public_equal tuple_of words_from first_word gap_len line_len utf8_valid_len attr_of is_text is_utf8 chars encode protocol_of fault_of role_of value_of asked
then_it_has_offers = refl

-- ---- a client of APOP, from its start to its end, with the challenge and the password of RFC 1939

abbrev client_asked : List Deed
client_asked = asks 5 28 (starts (codes "proto=apop role=client")) (with_key anns)

abbrev client_started : List Deed
client_started = tells 6 (codes "ok") (does_it client_asked)

pub a_client_starts : step client_asked (call 1 6) (t.Read 3 0 8192) ≡ client_started
unfolding refusal after reply_of fid_fault tuple_of words_from first_word gap_len line_len utf8_valid_len attr_of is_text is_utf8 chars encode protocol_of mail.start_fault side_of value_of answer_text
a_client_starts = refl

abbrev challenge : List ℕ
challenge = codes "<1896.697170952@dbc.mtview.ca.us>"

abbrev client_given : List Deed
client_given = asks 7 39 (writes challenge) client_started

abbrev client_keyed : List Deed
client_keyed = tells 8 (codes "ok") (finds_it ann (does_it client_given))

pub its_challenge_is_taken : step client_given (call 1 8) (t.Read 3 0 8192) ≡ client_keyed
unfolding refusal after reply_of fid_fault finds found_by matches public_equal tuple_of words_from first_word gap_len line_len utf8_valid_len attr_of is_text is_utf8 chars encode protocol_of mail.start_fault proto_of side_of role_of value_of asked answer_text
its_challenge_is_taken = refl

abbrev pub client_answers : List Deed
client_answers = tells 10 (codes "ok c4c9334bac560ecc979e58001b3e22fb") (OfLog (Pushed (codes "0 done proto=apop role=client\n")) ∷ does_it (asks 9 4 reads client_keyed))

pub its_digits_are_read : step (asks 9 4 reads client_keyed) (call 1 10) (t.Read 3 0 8192) ≡ client_answers
unfolding apop_digits md5 rounds block_words compress digest_bytes hash_after encode_with refusal after reply_of fid_fault tuple_of words_from first_word gap_len line_len utf8_valid_len attr_of is_text is_utf8 chars encode protocol_of mail.start_fault proto_of side_of value_of answer_text digits
its_digits_are_read = refl

pub it_is_done : step (asks 11 4 reads client_answers) (call 1 12) (t.Read 3 0 8192) ≡ tells 12 (codes "done") (does_it (asks 11 4 reads client_answers))
unfolding refusal after reply_of fid_fault tuple_of words_from first_word gap_len line_len utf8_valid_len attr_of is_text is_utf8 chars encode protocol_of mail.start_fault proto_of side_of value_of answer_text
it_is_done = refl

-- ---- a server of APOP that has its challenge, and comes to its end without its last question

abbrev server_asked : List Deed
server_asked = asks 5 28 (starts (codes "proto=apop role=server")) (with_key srvs)

abbrev server_asks : List Deed
server_asks = OfReplies 1 (Awaited 6 3 8192) ∷ Raised 0 ∷ finds_it srv (does_it server_asked)

pub it_wants_a_challenge : step server_asked (call 1 6) (t.Read 3 0 8192) ≡ server_asks
unfolding refusal after reply_of fid_fault finds found_by matches public_equal tuple_of words_from first_word gap_len line_len utf8_valid_len attr_of is_text is_utf8 chars encode protocol_of mail.start_fault proto_of side_of role_of value_of asked answer_text
it_wants_a_challenge = refl

abbrev request : List ℕ
request = request_text (record { kind = 7; authid = codes "srv"; authdom = codes "x"; chal = word; hostid = codes "srv"; uid = [] })

pub its_question_is_put : (answer_after server_asks TakeAsk ≡ (Ask 1 0 Challenge, request)) × (does server_asks TakeAsk ≡ HandedOut ∷ server_asks)
unfolding request_text tuple_of words_from first_word gap_len line_len utf8_valid_len attr_of is_text is_utf8 chars encode protocol_of mail.start_fault proto_of side_of value_of
its_question_is_put = (refl, refl)

pub it_keeps_its_connection : keeps (HandedOut ∷ server_asks) 0 ≡ true
unfolding tuple_of words_from first_word gap_len line_len utf8_valid_len attr_of is_text is_utf8 chars encode protocol_of mail.start_fault proto_of side_of value_of
it_keeps_its_connection = refl

-- a question that wasn't handed out has opened none
pub none_is_kept_yet : drops (OfFids 1 (Clunked 3) ∷ server_asks) ≡ []
none_is_kept_yet = refl

-- the answer has one byte, the length in five more, and the challenge
abbrev challenge_answer : List ℕ
challenge_answer = 9 ∷ codes "   33" ++ challenge

abbrev server_has : List Deed
server_has = Swept ∷ OfReplies 1 (Settled 6 (r.Read (codes "ok"))) ∷ OfTalk 0 Took ∷ OfTalk 0 (Heard challenge_answer) ∷ HandedOut ∷ server_asks

pub its_challenge_comes : does (HandedOut ∷ server_asks) (Answer 1 challenge_answer) ≡ server_has
unfolding told_length request_text tuple_of words_from first_word gap_len line_len utf8_valid_len attr_of is_text is_utf8 chars encode protocol_of mail.start_fault proto_of side_of value_of answer_text
its_challenge_comes = refl

abbrev clunked : List Deed
clunked = reply 7 r.Clunk ∷ OfFids 1 (Clunked 3) ∷ withdrawn server_has

pub its_fid_is_given_up : step server_has (call 1 7) (t.Clunk 3) ≡ clunked
unfolding refusal after reply_of fid_fault
its_fid_is_given_up = refl

pub its_connection_is_given_up : (answer_after clunked TakeAsk ≡ (DropCall 0, [])) × (does clunked TakeAsk ≡ DropTaken ∷ clunked)
unfolding told_length tuple_of words_from first_word gap_len line_len utf8_valid_len attr_of is_text is_utf8 chars encode protocol_of mail.start_fault proto_of side_of value_of
its_connection_is_given_up = (refl, refl)

pub it_is_given_up_once : answer_after (DropTaken ∷ clunked) TakeAsk ≡ (NoAsk, [])
unfolding told_length tuple_of words_from first_word gap_len line_len utf8_valid_len attr_of is_text is_utf8 chars encode protocol_of mail.start_fault proto_of side_of value_of
it_is_given_up_once = refl

-- a hang gives it up too
pub a_hang_gives_it_up : answer_after (OfConnection 1 Hung ∷ server_has) TakeAsk ≡ (DropCall 0, [])
unfolding told_length tuple_of words_from first_word gap_len line_len utf8_valid_len attr_of is_text is_utf8 chars encode protocol_of mail.start_fault proto_of side_of value_of
a_hang_gives_it_up = refl

-- and where no answer came, that event does
pub no_answer_gives_it_up : drops (OfTalk 0 Unheard ∷ HandedOut ∷ server_asks) ≡ record { conv = 0; behind = 1 } ∷ []
unfolding tuple_of words_from first_word gap_len line_len utf8_valid_len attr_of is_text is_utf8 chars encode protocol_of mail.start_fault proto_of side_of value_of
no_answer_gives_it_up = refl
