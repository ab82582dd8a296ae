-- Worked rows, computed on the definitions alone. They show what the definitions say, and are no part of what is proved
-- of the code: no contract cites this file.
use Rattle.std.specs.Prelude.{◌≡◌, ℕ, false, List, [], ◌∷◌, ◌++◌, codes, replicate, take, Option, Some, None, refl}
use Rattle.std.specs.Str.{is_utf8, chars}
use lib.Utf8.{encode}
use Rattle.wire_base.specs.Texts.{is_text}
use Rattle.wire_base.specs.declared.shape.Shape.TheVariants.{Challenge, Vouch}
use Rattle.attr_tuples.specs.Matching.{value_of}
use Rattle.wire_base.specs.Rules.{first_told}
use Rattle.hex.specs.Hex.{encode_with}
use Rattle.md5.specs.Md5.{block_words, compress, digest_bytes, hash_after, md5, rounds}
use Rattle.sealing.specs.Answer.{apop_digits, cram_digits}
use Rattle.sealing.specs.Hmac.{block_key, hmac}
use Rattle.sealing.specs.Request.{request_text}
use Rattle.sealing.specs.declared.authenticator.Authenticator.{Authenticator}
use Rattle.sealing.specs.declared.ticket.Ticket.{Ticket}
use Rattle.roles.specs.declared.answer.Cause.{Cause}
use Rattle.roles.specs.declared.answer.Cause.TheVariants.{WrongKind, WrongChallenge, WrongUser, BadKey, ServerSaidNo, NoServer, NoRoom}
use Rattle.roles.specs.declared.answer.Gave.{Gave}
use Rattle.roles.specs.declared.answer.Gave.TheVariants as g
use Rattle.roles.specs.declared.answer.PhaseWord.TheVariants.{AwaitsRead, AwaitsWrite, Broken}
use Rattle.roles.specs.declared.answer.StartFault.TheVariants.{SecretValue, UnknownProto, UnknownRole}
use Rattle.roles.specs.declared.key.SkKey.{SkKey}
use Rattle.roles.specs.declared.need.Need.TheVariants.{Nothing, Key, Exchange}
use Rattle.roles.specs.declared.need.Outcome.TheVariants.{Finished}
use Rattle.roles.specs.Starts.{Start, start_with}
use Rattle.roles.specs.Templates.{asked, given_as, asked_as}
use Rattle.roles.specs.Talks.{Call, give, get, found, heard, unheard, roomless, undone}
use Rattle.conv_challenge.specs.Starts.{proto_of, side_of, start_fault}
use Rattle.conv_challenge.specs.Numbers.{told_length}
use Rattle.conv_challenge.specs.Servers.{vouch_tests}
use Rattle.conv_challenge.specs.Courses.{answer_after, need_after, outcome_after, puts_after}

-- the word of all rows
abbrev word : List ℕ
word = 1 ∷ 35 ∷ 69 ∷ 103 ∷ 137 ∷ 171 ∷ 205 ∷ 239 ∷ []

abbrev started : List ℕ → List ℕ → Start
started proto role = start_with (given_as (codes "proto") proto ∷ given_as (codes "role") role ∷ []) word

abbrev apop_client : Start
apop_client = started (codes "apop") (codes "client")

abbrev cram_client : Start
cram_client = started (codes "cram") (codes "client")

abbrev apop_server : Start
apop_server = started (codes "apop") (codes "server")

abbrev cram_server : Start
cram_server = started (codes "cram") (codes "server")

-- the server's key
abbrev srv : SkKey
srv = record { des = record { 0 = 1 ∷ 2 ∷ 3 ∷ 4 ∷ 5 ∷ 6 ∷ 7 ∷ [] }; user = codes "srv"; dom = codes "x" }

-- ---- starts

a_secret_is_refused : start_fault (given_as (codes "!password") (codes "a") ∷ []) ≡ Some SecretValue
unfolding start_fault value_of
a_secret_is_refused = refl

p9sk1_is_another : start_fault (started (codes "p9sk1") (codes "client")).template ≡ Some UnknownProto
unfolding start_fault value_of
p9sk1_is_another = refl

nobody_is_spoken_for : start_fault (started (codes "apop") (codes "speakfor")).template ≡ Some UnknownRole
unfolding start_fault value_of
nobody_is_spoken_for = refl

a_client_is_started : start_fault apop_client.template ≡ None
unfolding start_fault value_of
a_client_is_started = refl

a_server_is_started : start_fault cram_server.template ≡ None
unfolding start_fault value_of
a_server_is_started = refl

-- ---- a client

abbrev challenge : List ℕ
challenge = codes "<1896.697170952@dbc.mtview.ca.us>"

abbrev keyed : List Call
keyed = found srv (Some (codes "tanstaaf")) ∷ give challenge ∷ []

a_read_comes_later : answer_after apop_client [] get ≡ g.Phase AwaitsWrite
unfolding side_of value_of
a_read_comes_later = refl

a_challenge_has_a_byte : answer_after apop_client [] (give []) ≡ g.TooSmall 1
unfolding side_of value_of
a_challenge_has_a_byte = refl

and_128_at_most : answer_after apop_client [] (give (replicate 128 60)) ≡ g.Wait
unfolding side_of value_of
and_128_at_most = refl

a_longer_one_is_too_long : answer_after apop_client [] (give (replicate 129 60)) ≡ g.TooLong
unfolding side_of value_of
a_longer_one_is_too_long = refl

its_template : need_after apop_client (give challenge ∷ []) ≡ Key (given_as (codes "proto") (codes "apop") ∷ asked_as (codes "user") ∷ [])
unfolding side_of proto_of value_of asked
its_template = refl

that_of_cram : need_after cram_client (give challenge ∷ []) ≡ Key (given_as (codes "proto") (codes "cram") ∷ asked_as (codes "user") ∷ [])
unfolding side_of proto_of value_of asked
that_of_cram = refl

undoing_awaits_it_again : answer_after apop_client (undone ∷ give challenge ∷ []) get ≡ g.Phase AwaitsWrite
unfolding side_of value_of
undoing_awaits_it_again = refl

a_key_of_no_password_has_the_empty_one : puts_after apop_client (found srv None ∷ give challenge ∷ []) get ≡ apop_digits challenge []
unfolding side_of proto_of value_of
a_key_of_no_password_has_the_empty_one = refl

nothing_is_sought_any_more : need_after apop_client (found srv None ∷ give challenge ∷ []) ≡ Nothing
unfolding side_of value_of
nothing_is_sought_any_more = refl

a_key_is_found : answer_after apop_client (give challenge ∷ []) (found srv (Some (codes "tanstaaf"))) ≡ g.Ok
unfolding side_of value_of
a_key_is_found = refl

a_write_comes_later : answer_after apop_client keyed (give challenge) ≡ g.Phase AwaitsRead
unfolding side_of value_of
a_write_comes_later = refl

apop_is_answered : puts_after apop_client keyed get ≡ apop_digits challenge (codes "tanstaaf")
unfolding side_of proto_of value_of
apop_is_answered = refl

cram_is_answered : puts_after cram_client keyed get ≡ cram_digits challenge (codes "tanstaaf")
unfolding side_of proto_of value_of
cram_is_answered = refl

-- the example of RFC 1939, and that of RFC 2195
as_rfc_1939_says : puts_after apop_client keyed get ≡ codes "c4c9334bac560ecc979e58001b3e22fb"
unfolding side_of proto_of value_of apop_digits encode_with block_words rounds compress hash_after digest_bytes md5
as_rfc_1939_says = refl

abbrev keyed_by_cram : List Call
keyed_by_cram = found srv (Some (codes "tanstaaftanstaaf")) ∷ give (codes "<1896.697170952@postoffice.reston.mci.net>") ∷ []

as_rfc_2195_says : puts_after cram_client keyed_by_cram get ≡ codes "b913a602c7eda7a495b4e6e7334d3890"
unfolding side_of proto_of value_of cram_digits hmac block_key encode_with block_words rounds compress hash_after digest_bytes md5
as_rfc_2195_says = refl

it_is_done : answer_after apop_client (get ∷ keyed) get ≡ g.Done false
unfolding side_of value_of
it_is_done = refl

it_knows_nobody : outcome_after apop_client (get ∷ keyed) ≡ Finished
unfolding side_of value_of
it_knows_nobody = refl

-- ---- a server, and its challenge

a_server_wants_a_key_of_p9sk1 : need_after apop_server [] ≡ Key (given_as (codes "proto") (codes "p9sk1") ∷ asked_as (codes "user") ∷ asked_as (codes "dom") ∷ [])
unfolding side_of value_of asked
a_server_wants_a_key_of_p9sk1 = refl

it_asks_for_a_challenge : need_after apop_server (found srv None ∷ []) ≡ Exchange (request_text (record { kind = 7; authid = codes "srv"; authdom = codes "x"; chal = word; hostid = codes "srv"; uid = [] })) Challenge
unfolding side_of proto_of value_of
it_asks_for_a_challenge = refl

by_cram_too : need_after cram_server (found srv None ∷ []) ≡ Exchange (request_text (record { kind = 12; authid = codes "srv"; authdom = codes "x"; chal = word; hostid = codes "srv"; uid = [] })) Challenge
unfolding side_of proto_of value_of
by_cram_too = refl

-- the authentication server's answers to that
abbrev offered : List ℕ
offered = 9 ∷ codes "20   <0123456789abcdef@x>"

abbrev answers : List ℕ → List Call
answers answer = heard answer ∷ found srv None ∷ []

abbrev told_of : List ℕ → List ℕ
told_of answer = puts_after apop_server (answers answer) get

its_challenge_is_got : told_of offered ≡ codes "<0123456789abcdef@x>"
unfolding side_of value_of told_length
its_challenge_is_got = refl

blanks_may_be_in_front : told_of (9 ∷ codes "   20<0123456789abcdef@x>") ≡ codes "<0123456789abcdef@x>"
unfolding side_of value_of told_length
blanks_may_be_in_front = refl

zeros_too : told_of (9 ∷ codes "00020<0123456789abcdef@x>") ≡ codes "<0123456789abcdef@x>"
unfolding side_of value_of told_length
zeros_too = refl

-- what is told of an answer to it
abbrev hearing : List ℕ → Gave
hearing answer = answer_after apop_server (found srv None ∷ []) (heard answer)

a_challenge_is_heard : hearing offered ≡ g.Ok
unfolding side_of value_of told_length
a_challenge_is_heard = refl

a_refusal_is_told : hearing (5 ∷ replicate 64 0) ≡ g.Refused ServerSaidNo
unfolding side_of value_of
a_refusal_is_told = refl

a_short_refusal_is_none : hearing (5 ∷ replicate 63 0) ≡ g.Refused WrongKind
unfolding side_of value_of
a_short_refusal_is_none = refl

no_answer_is_none : hearing [] ≡ g.Refused WrongKind
unfolding side_of value_of
no_answer_is_none = refl

a_byte_is_missing : hearing (take 25 offered) ≡ g.Refused WrongKind
unfolding side_of value_of told_length
a_byte_is_missing = refl

a_byte_is_left_over : hearing (offered ++ 0 ∷ []) ≡ g.Refused WrongKind
unfolding side_of value_of told_length
a_byte_is_left_over = refl

no_length_is_told : hearing (9 ∷ codes "     ") ≡ g.Refused WrongKind
unfolding side_of value_of told_length
no_length_is_told = refl

blanks_part_no_number : hearing (9 ∷ codes "2 0  <0123456789abcdef@x>") ≡ g.Refused WrongKind
unfolding side_of value_of told_length
blanks_part_no_number = refl

no_challenge_is_empty : hearing (9 ∷ codes "0    ") ≡ g.Refused WrongKind
unfolding side_of value_of told_length
no_challenge_is_empty = refl

one_may_have_128_bytes : hearing (9 ∷ (codes "128  " ++ replicate 128 60)) ≡ g.Ok
unfolding side_of value_of told_length
one_may_have_128_bytes = refl

and_no_more : hearing (9 ∷ (codes "129  " ++ replicate 129 60)) ≡ g.Refused WrongKind
unfolding side_of value_of told_length
and_no_more = refl

nobody_answers : answer_after apop_server (found srv None ∷ []) unheard ≡ g.Refused NoServer
unfolding side_of value_of
nobody_answers = refl

there_is_no_room : answer_after apop_server (found srv None ∷ []) roomless ≡ g.Refused NoRoom
unfolding side_of value_of
there_is_no_room = refl

-- ---- the user and his digits

abbrev challenged : List Call
challenged = get ∷ answers offered

-- before its challenge is got it takes no name, and behind that it has no more to give
a_name_comes_later : answer_after apop_server (answers offered) (give (codes "ann")) ≡ g.Phase AwaitsRead
unfolding side_of value_of told_length
a_name_comes_later = refl

a_challenge_is_got_once : answer_after apop_server challenged get ≡ g.Phase AwaitsWrite
unfolding side_of value_of told_length
a_challenge_is_got_once = refl

abbrev naming : List ℕ → Gave
naming user = answer_after apop_server challenged (give user)

a_user_has_a_byte : naming [] ≡ g.TooSmall 1
unfolding side_of value_of told_length
a_user_has_a_byte = refl

and_27_at_most : naming (replicate 27 97) ≡ g.Ok
unfolding side_of value_of told_length is_text is_utf8 chars encode
and_27_at_most = refl

a_longer_one_too_long : naming (replicate 28 97) ≡ g.TooLong
unfolding side_of value_of told_length
a_longer_one_too_long = refl

a_blank_is_in_no_name : naming (codes "an n") ≡ g.Refused WrongUser
unfolding side_of value_of told_length
a_blank_is_in_no_name = refl

nor_is_what_is_no_text : naming (97 ∷ 255 ∷ []) ≡ g.Refused WrongUser
unfolding side_of value_of told_length is_text is_utf8 chars encode
nor_is_what_is_no_text = refl

abbrev named : List Call
named = give (codes "ann") ∷ challenged

digits_are_missing : answer_after apop_server named (give (replicate 31 48)) ≡ g.TooSmall 32
unfolding side_of value_of told_length is_text is_utf8 chars encode
digits_are_missing = refl

digits_are_left_over : answer_after apop_server named (give (replicate 33 48)) ≡ g.TooLong
unfolding side_of value_of told_length is_text is_utf8 chars encode
digits_are_left_over = refl

abbrev digits_given : List Call
digits_given = give (replicate 32 48) ∷ named

it_asks_to_vouch : need_after apop_server digits_given ≡ Exchange (request_text (record { kind = 7; authid = codes "srv"; authdom = codes "x"; chal = word; hostid = codes "srv"; uid = codes "ann" }) ++ replicate 32 48) Vouch
unfolding side_of proto_of value_of told_length is_text is_utf8 chars encode
it_asks_to_vouch = refl

abbrev vouching : List ℕ → Gave
vouching answer = answer_after apop_server digits_given (heard answer)

his_refusal_is_told : vouching (5 ∷ replicate 64 0) ≡ g.Refused ServerSaidNo
unfolding side_of value_of told_length is_text is_utf8 chars encode
his_refusal_is_told = refl

two_tickets_are_no_vouch : vouching (4 ∷ replicate 144 0) ≡ g.Refused WrongKind
unfolding side_of value_of told_length is_text is_utf8 chars encode
two_tickets_are_no_vouch = refl

a_vouch_is_whole : vouching (4 ∷ replicate 84 0) ≡ g.Refused WrongKind
unfolding side_of value_of told_length is_text is_utf8 chars encode
a_vouch_is_whole = refl

nor_is_one_with_more : vouching (4 ∷ replicate 86 0) ≡ g.Refused WrongKind
unfolding side_of value_of told_length is_text is_utf8 chars encode
nor_is_one_with_more = refl

nor_is_a_challenge : vouching offered ≡ g.Refused WrongKind
unfolding side_of value_of told_length is_text is_utf8 chars encode
nor_is_a_challenge = refl

nobody_vouches : answer_after apop_server digits_given unheard ≡ g.Refused NoServer
unfolding side_of value_of told_length is_text is_utf8 chars encode
nobody_vouches = refl

no_room_for_a_vouch : answer_after apop_server digits_given roomless ≡ g.Refused NoRoom
unfolding side_of value_of told_length is_text is_utf8 chars encode
no_room_for_a_vouch = refl

a_broken_one_is_broken : answer_after apop_server (heard (4 ∷ []) ∷ digits_given) get ≡ g.Phase Broken
unfolding side_of value_of told_length is_text is_utf8 chars encode
a_broken_one_is_broken = refl

-- ---- what vouches for ann: the tests of a ticket that opened, and of its authenticator

abbrev a_ticket : ℕ → List ℕ → List ℕ → List ℕ → Ticket
a_ticket num chal cuid suid = record { num = num; chal = chal; cuid = cuid; suid = suid; key = record { 0 = 7 ∷ 6 ∷ 5 ∷ 4 ∷ 3 ∷ 2 ∷ 1 ∷ [] } }

abbrev a_proof : ℕ → List ℕ → ℕ → Authenticator
a_proof num chal id = record { num = num; chal = chal; id = id }

abbrev another_word : List ℕ
another_word = 2 ∷ 35 ∷ 69 ∷ 103 ∷ 137 ∷ 171 ∷ 205 ∷ 239 ∷ []

abbrev anns : Ticket
anns = a_ticket 64 word (codes "ann") (codes "ann")

abbrev told : Ticket → Authenticator → Option Cause
told ticket proof = first_told (vouch_tests apop_server (codes "ann") ticket proof)

she_is_accepted : told anns (a_proof 67 word 0) ≡ None
she_is_accepted = refl

a_clients_ticket_is_another : told (a_ticket 65 word (codes "ann") (codes "ann")) (a_proof 67 word 0) ≡ Some BadKey
a_clients_ticket_is_another = refl

an_old_ticket_is_refused : told (a_ticket 64 another_word (codes "ann") (codes "ann")) (a_proof 67 word 0) ≡ Some WrongChallenge
an_old_ticket_is_refused = refl

one_of_bob_is_refused : told (a_ticket 64 word (codes "bob") (codes "ann")) (a_proof 67 word 0) ≡ Some WrongUser
one_of_bob_is_refused = refl

one_for_bob_is_refused : told (a_ticket 64 word (codes "ann") (codes "bob")) (a_proof 67 word 0) ≡ Some WrongUser
one_for_bob_is_refused = refl

a_servers_proof_is_another : told anns (a_proof 66 word 0) ≡ Some WrongKind
a_servers_proof_is_another = refl

a_proof_is_the_first : told anns (a_proof 67 word 1) ≡ Some WrongKind
a_proof_is_the_first = refl

an_old_proof_is_refused : told anns (a_proof 67 another_word 0) ≡ Some WrongChallenge
an_old_proof_is_refused = refl

the_number_comes_first : told (a_ticket 65 another_word (codes "bob") (codes "bob")) (a_proof 66 another_word 1) ≡ Some BadKey
the_number_comes_first = refl

the_challenge_comes_before_the_user : told (a_ticket 64 another_word (codes "bob") (codes "bob")) (a_proof 67 word 0) ≡ Some WrongChallenge
the_challenge_comes_before_the_user = refl
