-- Worked rows, computed on the definitions alone. They show what the definitions say, and are no part of what is proved
-- of the code: no contract cites this file.
use Rattle.std.specs.Prelude.{◌≡◌, ℕ, List, [], ◌∷◌, ◌++◌, codes, replicate, take, Some, None, refl}
use Rattle.std.specs.Str.{is_utf8, chars}
use lib.Utf8.{encode}
use Rattle.wire_base.specs.Texts.{is_text}
use Rattle.wire_base.specs.declared.shape.Shape.TheVariants.{Tickets}
use Rattle.attr_tuples.specs.declared.attr.Attr.{Attr}
use Rattle.attr_tuples.specs.Matching.{value_of}
use Rattle.attr_tuples.specs.Printing.{printed_text}
use Rattle.sealing.specs.Fields.{name_in, before_nul}
use Rattle.sealing.specs.Request.{request_of, request_fields, request_text}
use Rattle.roles.specs.declared.answer.Cause.TheVariants.{WrongKind, NotOffered, ServerSaidNo, NoServer, NoRoom}
use Rattle.roles.specs.declared.answer.Gave.TheVariants as g
use Rattle.roles.specs.declared.answer.PhaseWord.TheVariants.{AwaitsRead, AwaitsWrite, Broken}
use Rattle.roles.specs.declared.answer.StartFault.TheVariants.{SecretValue, UnknownProto, UnknownRole, BadUser}
use Rattle.roles.specs.declared.key.SkKey.{SkKey}
use Rattle.roles.specs.declared.need.Need.TheVariants.{Key, Exchange}
use Rattle.roles.specs.Starts.{Start, role_of, start_fault}
use Rattle.roles.specs.Templates.{asked, asked_in, given_as, asked_as, shown_text}
use Rattle.roles.specs.Talks.{Call, give, get, found, heard, unheard, roomless, undone}
use Rattle.roles.specs.Courses.{answer_after, puts_after, need_after}

-- the word of all rows, and the challenge of a server
abbrev word : List ℕ
word = 1 ∷ 35 ∷ 69 ∷ 103 ∷ 137 ∷ 171 ∷ 205 ∷ 239 ∷ []

abbrev chal : List ℕ
chal = 16 ∷ 17 ∷ 18 ∷ 19 ∷ 20 ∷ 21 ∷ 22 ∷ 23 ∷ []

abbrev started : List Attr → Start
started others = record { template = given_as (codes "proto") (codes "p9sk1") ∷ others; word = word }

abbrev as_client : List Attr → Start
as_client others = started (given_as (codes "role") (codes "client") ∷ others)

abbrev as_server : List Attr → Start
as_server others = started (given_as (codes "role") (codes "server") ∷ others)

abbrev speaking_for_bob : List Attr → Start
speaking_for_bob others = started (given_as (codes "role") (codes "speakfor") ∷ given_as (codes "user") (codes "bob") ∷ others)

-- a server's request of authid srv, authdom x
abbrev server_request : List ℕ
server_request = request_text (record { kind = 1; authid = codes "srv"; authdom = codes "x"; chal = chal; hostid = []; uid = [] })

-- ---- starts

a_secret_is_refused : start_fault (as_client (given_as (codes "!password") (codes "a") ∷ [])).template ≡ Some SecretValue
unfolding start_fault value_of
a_secret_is_refused = refl

an_unknown_protocol_is_refused : start_fault (given_as (codes "proto") (codes "p9any") ∷ given_as (codes "role") (codes "client") ∷ []) ≡ Some UnknownProto
unfolding start_fault value_of
an_unknown_protocol_is_refused = refl

a_role_is_wanted : start_fault (started []).template ≡ Some UnknownRole
unfolding start_fault value_of
a_role_is_wanted = refl

the_first_user_counts : start_fault (started (given_as (codes "role") (codes "speakfor") ∷ given_as (codes "user") [] ∷ given_as (codes "user") (codes "bob") ∷ [])).template ≡ Some BadUser
unfolding start_fault value_of
the_first_user_counts = refl

a_client_is_started : start_fault (as_client []).template ≡ None
unfolding start_fault value_of
a_client_is_started = refl

-- ---- a client

its_challenge_is_got : puts_after (as_client []) [] get ≡ word
unfolding role_of value_of
its_challenge_is_got = refl

a_write_comes_later : answer_after (as_client []) [] (give server_request) ≡ g.Phase AwaitsRead
unfolding role_of value_of
a_write_comes_later = refl

a_byte_is_missing : answer_after (as_client []) (get ∷ []) (give (take 140 server_request)) ≡ g.TooSmall 141
unfolding role_of value_of request_text
a_byte_is_missing = refl

a_byte_is_left_over : answer_after (as_client []) (get ∷ []) (give (server_request ++ 0 ∷ [])) ≡ g.TooLong
unfolding role_of value_of request_text
a_byte_is_left_over = refl

a_key_is_wanted : answer_after (as_client []) (get ∷ []) (give server_request) ≡ g.Wait
unfolding role_of value_of request_text request_of request_fields name_in before_nul is_text is_utf8 chars encode
a_key_is_wanted = refl

its_template : need_after (as_client []) (give server_request ∷ get ∷ []) ≡ Key (given_as (codes "proto") (codes "p9sk1") ∷ given_as (codes "dom") (codes "x") ∷ asked_as (codes "user") ∷ [])
unfolding role_of value_of request_text request_of request_fields name_in before_nul is_text is_utf8 chars encode asked
its_template = refl

its_template_is_shown : shown_text (asked_in (as_client []) (codes "x")) ≡ codes "proto=p9sk1 dom=x user? !password?"
unfolding role_of value_of asked shown_text printed_text
its_template_is_shown = refl

another_domain_is_refused : answer_after (as_client (given_as (codes "dom") (codes "y") ∷ [])) (get ∷ []) (give server_request) ≡ g.Refused NotOffered
unfolding role_of value_of request_text request_of request_fields name_in before_nul is_text is_utf8 chars encode
another_domain_is_refused = refl

-- the same of another kind, of nobody, and of a domain that is none
abbrev request_as : ℕ → List ℕ → List ℕ → List ℕ
request_as kind user dom = request_text (record { kind = kind; authid = user; authdom = dom; chal = chal; hostid = []; uid = [] })

another_kind_is_refused : answer_after (as_client []) (get ∷ []) (give (request_as 2 (codes "srv") (codes "x"))) ≡ g.Refused WrongKind
unfolding role_of value_of request_text request_of request_fields name_in before_nul is_text is_utf8 chars encode
another_kind_is_refused = refl

a_server_of_nobody_is_refused : answer_after (as_client []) (get ∷ []) (give (request_as 1 [] (codes "x"))) ≡ g.Refused WrongKind
unfolding role_of value_of request_text request_of request_fields name_in before_nul is_text is_utf8 chars encode
a_server_of_nobody_is_refused = refl

what_is_no_domain_is_refused : answer_after (as_client []) (get ∷ []) (give (request_as 1 (codes "srv") (codes "x@y"))) ≡ g.Refused WrongKind
unfolding role_of value_of request_text request_of request_fields name_in before_nul is_text is_utf8 chars encode
what_is_no_domain_is_refused = refl

a_broken_one_is_broken : answer_after (as_client []) (give (request_as 2 (codes "srv") (codes "x")) ∷ get ∷ []) get ≡ g.Phase Broken
unfolding role_of value_of request_text request_of request_fields name_in before_nul is_text is_utf8 chars encode
a_broken_one_is_broken = refl

undoing_awaits_it_again : answer_after (as_client []) (undone ∷ give server_request ∷ get ∷ []) get ≡ g.Phase AwaitsWrite
unfolding role_of value_of request_text request_of request_fields name_in before_nul is_text is_utf8 chars encode
undoing_awaits_it_again = refl

-- ---- a server, and one that speaks for another

a_server_wants_a_key : need_after (as_server []) [] ≡ Key (given_as (codes "proto") (codes "p9sk1") ∷ asked_as (codes "user") ∷ asked_as (codes "dom") ∷ [])
unfolding role_of value_of asked
a_server_wants_a_key = refl

with_a_domain_it_asks_for_none : need_after (as_server (given_as (codes "service") (codes "imap") ∷ given_as (codes "dom") (codes "x") ∷ [])) [] ≡ Key (given_as (codes "proto") (codes "p9sk1") ∷ given_as (codes "dom") (codes "x") ∷ given_as (codes "service") (codes "imap") ∷ asked_as (codes "user") ∷ [])
unfolding role_of value_of asked
with_a_domain_it_asks_for_none = refl

the_user_spoken_for_has_no_key : need_after (speaking_for_bob []) (give server_request ∷ get ∷ []) ≡ Key (given_as (codes "proto") (codes "p9sk1") ∷ given_as (codes "dom") (codes "x") ∷ asked_as (codes "user") ∷ [])
unfolding role_of value_of request_text request_of request_fields name_in before_nul is_text is_utf8 chars encode asked
the_user_spoken_for_has_no_key = refl

-- the key of ann, who speaks for bob: the question is hers, and asks to be bob
abbrev ann : SkKey
ann = record { des = record { 0 = 1 ∷ 2 ∷ 3 ∷ 4 ∷ 5 ∷ 6 ∷ 7 ∷ [] }; user = codes "ann"; dom = codes "x" }

she_asks_to_be_him : need_after (speaking_for_bob []) (found ann None ∷ give server_request ∷ get ∷ []) ≡ Exchange (request_text (record { kind = 1; authid = codes "srv"; authdom = codes "x"; chal = chal; hostid = codes "ann"; uid = codes "bob" })) Tickets
unfolding role_of value_of request_text request_of request_fields name_in before_nul is_text is_utf8 chars encode
she_asks_to_be_him = refl

its_request_is_got : puts_after (as_server []) (give chal ∷ found ann None ∷ []) get ≡ request_text (record { kind = 1; authid = codes "ann"; authdom = codes "x"; chal = word; hostid = []; uid = [] })
unfolding role_of value_of request_text
its_request_is_got = refl

-- ---- the authentication server

-- ann's conversation, which asked
abbrev asking : List Call
asking = found ann None ∷ give server_request ∷ get ∷ []

a_refusal_is_told : answer_after (as_client []) asking (heard (5 ∷ replicate 64 0)) ≡ g.Refused ServerSaidNo
unfolding role_of value_of request_text request_of request_fields name_in before_nul is_text is_utf8 chars encode
a_refusal_is_told = refl

a_short_refusal_is_none : answer_after (as_client []) asking (heard (5 ∷ replicate 63 0)) ≡ g.Refused WrongKind
unfolding role_of value_of request_text request_of request_fields name_in before_nul is_text is_utf8 chars encode
a_short_refusal_is_none = refl

nobody_answers : answer_after (as_client []) asking unheard ≡ g.Refused NoServer
unfolding role_of value_of request_text request_of request_fields name_in before_nul is_text is_utf8 chars encode
nobody_answers = refl

there_is_no_room : answer_after (as_client []) asking roomless ≡ g.Refused NoRoom
unfolding role_of value_of request_text request_of request_fields name_in before_nul is_text is_utf8 chars encode
there_is_no_room = refl
