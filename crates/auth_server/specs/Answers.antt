-- What the authentication server answers, after authsrv(6) of the Plan 9 manual, APOP (RFC 1939) and CRAM (RFC 2195).
-- The form of a challenge, what stands in for keys that aren't known, the end with the fifth wrong answer and the
-- texts of errors are this project's. An answer depends on what the server knows when the request comes and on the
-- requests before it in the session, each with what was known then, and on nothing else that was kept: a session is the
-- list of its requests, the newest first.
use Rattle.std.specs.Prelude.{◌≡◌, ℕ, ◌+◌, ◌-◌, ◌<◌, List, [], ◌∷◌, ◌++◌, Bool, false, ◌==◌, nat_le, length, take, drop, replicate, codes, Option, Some, None, Result, Ok, Err, if◌then◌else◌}
use Rattle.std.specs.List.{slice_index_or}
use Rattle.std.specs.Str.{bytes_eq}
use Rattle.std.specs.Fmt.{decimal}
use Rattle.hex.specs.Hex.{encode_lower}
use Rattle.sealing.specs.Sealing.{sealed}
use Rattle.sealing.specs.Answer.{apop_digits, cram_digits}
use Rattle.sealing.specs.declared.fault.FieldFault.{FieldFault}
use Rattle.sealing.specs.declared.request.TicketReq.{TicketReq}
use Rattle.sealing.specs.Request.{request_of}
use Rattle.sealing.specs.Ticket.{ticket_text}
use Rattle.sealing.specs.Authenticator.{authenticator_text}
use Rattle.auth_tables.specs.Keys.{UserKey}
use Rattle.wire_base.specs.Kinds.{ticket_request, apop_request, answer_ok, answer_error, answer_counted, server_ticket, client_ticket, client_authenticator}
use Rattle.auth_server.specs.Requests.{Asked, Challenge}
use Rattle.auth_server.specs.declared.session.Verdict.{Verdict}
use Rattle.auth_server.specs.declared.session.Verdict.TheVariants.{First, Right, Wrong}

-- What the server knows: its domain, the key of each user that has one, and which host may speak for which user.
pub record Knowledge : Type 0 where
  pub dom : List ℕ
  pub key : List ℕ → Option UserKey
  pub speaks : List ℕ → List ℕ → Bool

-- ---- keys

-- the words that were drawn for a request, from 0 on
abbrev pub word : ℕ → List (List ℕ) → List ℕ
word n words = slice_index_or words n []

-- the key that a word stands for: its first seven bytes
abbrev pub word_key : List ℕ → List ℕ
word_key word = take 7 word

-- a user's key, and where there is none one that is made up from a word
abbrev pub key_or : Option UserKey → List ℕ → List ℕ
key_or (Some key) word = key.des
key_or None word = word_key word

-- the key of the server for which a vouch is made, for which the second word stands in
abbrev pub server_key : Knowledge → List (List ℕ) → List ℕ → List ℕ
server_key known words authid = key_or (known.key authid) (word 1 words)

-- the key of a name for a grant, for which a word stands in, also where the host may not speak for the user
abbrev pub granted_key : Bool → Option UserKey → List ℕ → List ℕ
granted_key may key word = if may then key_or key word else word_key word

-- the key that both are given: the first word's
abbrev pub shared_key : List (List ℕ) → List ℕ
shared_key words = word_key (word 0 words)

-- ---- records

-- a ticket, sealed under a key; its number says for whom it is
abbrev pub ticket : ℕ → List ℕ → List ℕ → List ℕ → List ℕ → List ℕ → List ℕ
ticket num chal cuid suid shared key =
    sealed key (ticket_text (record { num = num; chal = chal; cuid = cuid; suid = suid; key = record { 0 = shared } }))

-- the two tickets of a grant, under their byte
unfoldable pub tickets : TicketReq → List ℕ → List ℕ → List ℕ → List ℕ
tickets r shared hosts servers = answer_ok ∷ [] ++ ticket client_ticket r.chal r.hostid r.uid shared hosts
    ++ ticket server_ticket r.chal r.hostid r.uid shared servers

-- an error and its text, with NULs to 64 bytes
unfoldable pub refusal : List ℕ → List ℕ
refusal text = answer_error ∷ [] ++ text ++ replicate (64 - length text) 0

-- ---- a ticket request

-- the grant: tickets for the host and for the server named, each under its own key; where the host may not speak for
-- the user, both keys are made up
abbrev pub grant : Knowledge → List (List ℕ) → TicketReq → List ℕ
grant known words r =
    let may = known.speaks r.hostid r.uid in
    let hosts = granted_key may (known.key r.hostid) (word 2 words) in
    let servers = granted_key may (known.key r.authid) (word 1 words) in
    tickets r (shared_key words) hosts servers

-- ---- challenges

-- the text of a challenge: a word in digits, at a domain
unfoldable pub challenge_at : List ℕ → List ℕ → List ℕ
challenge_at word dom = codes "<" ++ encode_lower word ++ codes "@" ++ dom ++ codes ">"

-- the challenge that a request for one is given: the first word, at the server's domain
abbrev pub challenge_text : Knowledge → List (List ℕ) → List ℕ
challenge_text known words = challenge_at (word 0 words) known.dom

-- a challenge under its byte, behind its length in decimal with blanks to five bytes
unfoldable pub challenge_answer : List ℕ → List ℕ
challenge_answer text =
    answer_counted ∷ [] ++ decimal (length text) ++ replicate (5 - length (decimal (length text))) 32 ++ text

-- the digits that answer a challenge of a kind under a password
abbrev pub digits_for : ℕ → List ℕ → List ℕ → List ℕ
digits_for kind challenge password =
    if kind == apop_request then apop_digits challenge password
    else cram_digits challenge password

-- whether digits answer a challenge under a password, if there is one
abbrev pub are_digits : ℕ → List ℕ → List ℕ → Option (List ℕ) → Bool
are_digits kind challenge digits None = false
are_digits kind challenge digits (Some password) = bytes_eq digits (digits_for kind challenge password)

-- the password of a user's key, if there is one
abbrev pub password_of : Option UserKey → Option (List ℕ)
password_of None = None
password_of (Some key) = key.password

-- whether a request to check an answer is right: its last 32 bytes are the digits of the user that it names
abbrev pub is_right : Knowledge → List ℕ → TicketReq → List ℕ → Bool
is_right known request r challenge = are_digits r.kind challenge (drop 141 request) (password_of (known.key r.uid))

-- a vouch for a user: a ticket for the server named, which names the user as both, and an authenticator under the key
-- in it
unfoldable pub vouch_text : TicketReq → List ℕ → List ℕ → List ℕ
vouch_text r shared servers =
    answer_ok ∷ [] ++ ticket server_ticket r.chal r.uid r.uid shared servers
    ++ sealed shared (authenticator_text (record { num = client_authenticator; chal = r.chal; id = 0 }))

-- the vouch for a right answer
abbrev pub vouch : Knowledge → List (List ℕ) → TicketReq → List ℕ
vouch known words r = vouch_text r (shared_key words) (server_key known words r.authid)

-- ---- what a session holds, by its requests

-- what a mail request is to the challenge that is held: a first one where none is held for its kind, and else one that
-- answers it, rightly or wrongly
abbrev pub judged : Knowledge → Asked → TicketReq → Option Challenge → Verdict
judged known asked r None = First
judged known asked r (Some challenge) =
    if challenge.kind == r.kind then (if is_right known asked.request r challenge.text then Right else Wrong)
    else First

-- the challenge that is held after it: a first request has one given out, in place of one of the other kind; a right
-- answer uses it up, and a wrong one leaves it
abbrev pub held_mail : Knowledge → Asked → TicketReq → Option Challenge → Verdict → Option Challenge
held_mail known asked r held First = Some (record { kind = r.kind; text = challenge_text known asked.words })
held_mail known asked r held Right = None
held_mail known asked r held Wrong = held

-- the same after any request: one with a bad field, and a ticket request, change nothing
abbrev pub held_after : Knowledge → Asked → Option Challenge → Result TicketReq FieldFault → Option Challenge
held_after known asked held (Err fault) = held
held_after known asked held (Ok r) =
    if r.kind == ticket_request then held
    else held_mail known asked r held (judged known asked r held)

-- how many wrong answers a mail request is, and any request
abbrev pub wrong_mail : Verdict → ℕ
wrong_mail First = 0
wrong_mail Right = 0
wrong_mail Wrong = 1

abbrev pub wrong_by : Knowledge → Asked → Option Challenge → Result TicketReq FieldFault → ℕ
wrong_by known asked held (Err fault) = 0
wrong_by known asked held (Ok r) = if r.kind == ticket_request then 0 else wrong_mail (judged known asked r held)

-- how many wrong answers end a session
abbrev pub most_wrong : ℕ
most_wrong = 5

-- ---- the answer

-- the answer to a mail request: a challenge, a vouch, or a refusal
abbrev pub mail_answer : Knowledge → Asked → TicketReq → Verdict → List ℕ
mail_answer known asked r First = challenge_answer (challenge_text known asked.words)
mail_answer known asked r Right = vouch known asked.words r
mail_answer known asked r Wrong = refusal (codes "bad response")

-- the answer to any request, by the challenge that is held
abbrev pub answer_to : Knowledge → Asked → Option Challenge → Result TicketReq FieldFault → List ℕ
answer_to known asked held (Err fault) = refusal (codes "bad request")
answer_to known asked held (Ok r) =
    if r.kind == ticket_request then grant known asked.words r
    else mail_answer known asked r (judged known asked r held)

-- ---- a session

-- A request that was put to the server, and what the server knew when it came: between two requests its tables may
-- have been read again.
pub record Posed : Type 0 where
  pub known : Knowledge
  pub asked : Asked

abbrev pub posed : Knowledge → Asked → Posed
posed known asked = record { known = known; asked = asked }

-- the challenge that a session holds: what each request made of it by what was known then
abbrev pub held_in : List Posed → Option Challenge
held_in [] = None
held_in (p ∷ before) = held_after p.known p.asked (held_in before) (request_of p.asked.request)

-- how many wrong answers it has
abbrev pub wrong_in : List Posed → ℕ
wrong_in [] = 0
wrong_in (p ∷ before) = wrong_in before + wrong_by p.known p.asked (held_in before) (request_of p.asked.request)

-- whether it has come to its end by them
abbrev pub is_over_in : List Posed → Bool
is_over_in session = nat_le most_wrong (wrong_in session)

-- the answer to a request, by what is known when it comes, and by the requests before it
unfoldable pub answer_in : List Posed → Posed → List ℕ
answer_in before p = answer_to p.known p.asked (held_in before) (request_of p.asked.request)

-- ---- a session whose tables stay as they are

-- the requests of a session, all of them put to a server that knows the same
abbrev pub under : Knowledge → List Asked → List Posed
under known [] = []
under known (asked ∷ before) = posed known asked ∷ under known before

abbrev pub held : Knowledge → List Asked → Option Challenge
held known session = held_in (under known session)

abbrev pub wrong : Knowledge → List Asked → ℕ
wrong known session = wrong_in (under known session)

abbrev pub is_over : Knowledge → List Asked → Bool
is_over known session = is_over_in (under known session)

abbrev pub answer : Knowledge → List Asked → Asked → List ℕ
answer known before asked = answer_in (under known before) (posed known asked)

-- ---- what a grant shows

-- every key that is known has seven bytes
abbrev pub HasKeys : Knowledge → Type 0
HasKeys known = (user : List ℕ) (key : UserKey) → known.key user ≡ Some key → length key.des ≡ 7

-- three words of eight bytes
pub record HasWords (words : List (List ℕ)) : Type 0 where
  pub three : length words ≡ 3
  pub eight : (n : ℕ) → n < 3 → length (word n words) ≡ 8

-- a text is two tickets of a request under two keys of seven bytes, and so has 145 bytes
pub record IsGrant (r : TicketReq) (words : List (List ℕ)) (text : List ℕ) : Type 0 where
  pub hosts : List ℕ
  pub servers : List ℕ
  pub host_seven : length hosts ≡ 7
  pub server_seven : length servers ≡ 7
  pub is : text ≡ tickets r (shared_key words) hosts servers
  pub whole : length text ≡ 145
