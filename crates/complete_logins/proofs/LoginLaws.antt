-- A login by p9sk1 goes move by move: what each side is given is what the other gave, in a form that is written out, and each
-- test of the next move is met by it.
use Rattle.std.proofs.Common.{◌≡◌, ℕ, ◌<◌, List, [], ◌∷◌, ◌++◌, length, Bool, true, false, not, ◌&&◌, ◌||◌, ◌==◌, Option, Some, Ok, if◌then◌else◌, refl, sym, ap, ◌∙◌, arith, length-append}
use Rattle.std.proofs.lemmas.Bool.{ne_eqb}
use Rattle.std.specs.Str.{bytes_eq}
use Rattle.sealing.specs.Sealing.{opened, sealed}
use Rattle.sealing.specs.Authenticator.{authenticator_text}
use Rattle.sealing.specs.Fitting.{FitsAuthenticator, FitsRequest, FitsTicket, IsBlock}
use Rattle.sealing.specs.Request.{request_text}
use Rattle.sealing.specs.Ticket.{ticket_of, ticket_text}
use Rattle.sealing.specs.declared.authenticator.Authenticator.{Authenticator}
use Rattle.sealing.specs.declared.kind.TheConstants.{AUTH_TREQ, AUTH_AC, AUTH_AS}
use Rattle.sealing.specs.declared.request.TicketReq.{TicketReq}
use Rattle.sealing.specs.declared.ticket.Ticket.{Ticket}
use Rattle.sealing.proofs.RequestLaws.{request_written}
use Rattle.sealing.proofs.SealedLaws.{authenticator_opened}
use Rattle.auth_tables.specs.Keys.{UserKey}
use Rattle.auth_server.specs.Requests.{asked_so}
use Rattle.auth_server.specs.Answers.{answer, answer_in, answer_to, granted_key, held, shared_key, tickets, word}
use Rattle.roles.specs.declared.answer.Cause.TheVariants.{WrongKind, ServerSaidNo, BadKey}
use Rattle.roles.specs.declared.answer.Gave.{Gave}
use Rattle.roles.specs.declared.answer.Gave.TheVariants as g
use Rattle.roles.specs.declared.stage.Role.{Role}
use Rattle.roles.specs.declared.stage.Role.TheVariants.{Client, Server, Speakfor}
use Rattle.roles.specs.declared.stage.Stage.{Stage}
use Rattle.roles.specs.declared.stage.Stage.TheVariants.{ClientFirst, ClientSecond, ClientKey, ClientAsk, ClientThird, ClientFourth, ClientDone, ServerKey, ServerFirst, ServerSecond, ServerThird, ServerFourth, ServerDone}
use Rattle.roles.specs.Clients.{answer_came, handed_on, proof_came, proof_tests, request_came, request_tests, ticket_tests, tickets_came, wanted_user}
use Rattle.roles.specs.Courses.{accepted, answer_need, course, first_stage, is_last, answer_after, move, need_after, need_at, outcome_at, puts_after}
use Rattle.roles.specs.Servers.{shown_came, shown_tests}
use Rattle.roles.specs.Starts.{Start, role_of}
use Rattle.roles.specs.Talks.{Call, Verdict, give, get, found, heard, goes, breaks, tested}
use Rattle.roles.specs.Tickets.{challenge_in, proof_for, proof_under, rest_part, ticket_part, with_request, with_ticket}
use Rattle.roles.proofs.StartLemmas.{nobody_is_name}
use Rattle.complete_logins.specs.Logins.{Login, LogsIn, MayLogIn, alone, client_asked, client_heard, grant_of, question_in, server_greeted, server_shown}
use Rattle.complete_logins.proofs.PassLemmas.{NoneFails, Passed, at, passes, same, same_as, sized_whole, tested_well, well_of}
use Rattle.complete_logins.proofs.MessageLemmas.{length_request, length_sealed_authenticator, length_sealed_ticket, request_read, rest_behind, seven, ticket_in_front}

-- ---- what is sent

-- the server's request, and the client's question
abbrev pub request_in : Login → TicketReq
request_in l = record { kind = AUTH_TREQ; authid = l.server_key.user; authdom = l.server_key.dom; chal = l.server.word; hostid = []; uid = [] }

abbrev pub wanted : Login → List ℕ
wanted l = wanted_user (role_of l.client.template) l.client_key

abbrev pub question : Login → TicketReq
question l = record { kind = AUTH_TREQ; authid = l.server_key.user; authdom = l.server_key.dom; chal = l.server.word; hostid = l.client_key.user; uid = wanted l }

-- the two tickets, the client's and the server's
abbrev pub ticket_num : ℕ → Login → Ticket
ticket_num num l = record { num = num; chal = l.server.word; cuid = l.client_key.user; suid = wanted l; key = record { 0 = shared_key l.words } }

abbrev pub clients : Login → Ticket
clients l = ticket_num 65 l

abbrev pub servers : Login → Ticket
servers l = ticket_num 64 l

abbrev pub sealed_clients : Login → List ℕ
sealed_clients l = sealed l.client_key.des.0 (ticket_text (clients l))

abbrev pub sealed_servers : Login → List ℕ
sealed_servers l = sealed l.server_key.des.0 (ticket_text (servers l))

abbrev pub both : Login → List ℕ
both l = sealed_clients l ++ sealed_servers l

-- the authenticators of the client and of the server
abbrev pub proof : ℕ → List ℕ → Authenticator
proof kind challenge = record { num = kind; chal = challenge; id = 0 }

abbrev pub sealed_proof : ℕ → List ℕ → Login → List ℕ
sealed_proof kind challenge l = sealed (shared_key l.words) (authenticator_text (proof kind challenge))

abbrev pub shown : Login → List ℕ
shown l = sealed_servers l ++ sealed_proof AUTH_AC l.server.word l

abbrev pub proved : Login → List ℕ
proved l = sealed_proof AUTH_AS l.client.word l

-- ---- that it fits

pub fits_request : (l : Login) → MayLogIn l → FitsRequest (request_in l)
fits_request l may = record { authid = may.server_user.fits.short; authdom = may.dom_name; chal = may.server_word.whole; hostid = nobody_is_name; uid = nobody_is_name }

pub fits_question : (l : Login) → MayLogIn l → FitsRequest (question l)
fits_question l may = record { authid = may.server_user.fits.short; authdom = may.dom_name; chal = may.server_word.whole; hostid = may.client_user.fits.short; uid = may.wanted.fits.short }

fits_ticket : (num : ℕ) (l : Login) → num < 256 → MayLogIn l → FitsTicket (ticket_num num l)
fits_ticket num l small may = record { num = small; chal = may.server_word; cuid = may.client_user.fits; suid = may.wanted.fits; key = seven (word 0 l.words) may.drawn }

fits_proof : (kind : ℕ) (challenge : List ℕ) → kind < 256 → IsBlock 8 challenge → FitsAuthenticator (proof kind challenge)
fits_proof kind challenge small block = record { num = small; chal = block; id = omega arith }

-- ---- the first two moves

abbrev pub Passes : Start → List Call → Call → Stage → Gave → List ℕ → Type 0
Passes start before call next given bytes = Passed (course start (call ∷ before)) (answer_after start before call) (puts_after start before call) next given bytes

pub passes_by : (start : Start) (before : List Call) (call : Call) (stage next : Stage) (given : Gave) (bytes : List ℕ) → course start before ≡ at stage → move start stage call ≡ goes next given bytes → Passes start before call next given bytes
passes_by start before call stage next given bytes here moves = passes (λ s. move start s call) (course start before) stage next given bytes here moves

first_is : (role : Role) → (role ≡ Server → ⊥) → first_stage role ≡ ClientFirst
first_is Client other = refl
first_is (Speakfor user) other = refl
first_is Server other = absurd (other refl)

pub client_0 : (l : Login) → MayLogIn l → course l.client [] ≡ at ClientFirst
client_0 l may = ap at (first_is (role_of l.client.template) may.client_role)

pub server_0 : (l : Login) → MayLogIn l → course l.server [] ≡ at ServerKey
server_0 l may = ap (λ role. at (first_stage role)) may.server_role

client_1 : (l : Login) → MayLogIn l → Passes l.client [] get ClientSecond g.Ok l.client.word
client_1 l may = passes_by l.client [] get ClientFirst ClientSecond g.Ok l.client.word (client_0 l may) refl

server_1 : (l : Login) → MayLogIn l → Passes l.server [] (found l.server_key l.server_password) (ServerFirst l.server_key) g.Ok []
server_1 l may = passes_by l.server [] (found l.server_key l.server_password) ServerKey (ServerFirst l.server_key) g.Ok [] (server_0 l may) refl

pub greets : (l : Login) (b : List ℕ) → b ≡ l.client.word → length l.client.word ≡ 8 → move l.server (ServerFirst l.server_key) (give b) ≡ goes (ServerSecond l.server_key l.client.word) g.Ok []
greets l b is long = ap (λ b. move l.server (ServerFirst l.server_key) (give b)) is ∙ sized_whole 8 l.client.word (goes (ServerSecond l.server_key l.client.word) g.Ok []) long

server_2 : (l : Login) → MayLogIn l → Passes l.server (found l.server_key l.server_password ∷ []) (give (puts_after l.client [] get)) (ServerSecond l.server_key l.client.word) g.Ok []
server_2 l may = passes_by l.server (found l.server_key l.server_password ∷ []) (give (puts_after l.client [] get)) (ServerFirst l.server_key) (ServerSecond l.server_key l.client.word) g.Ok [] (server_1 l may).course (greets l _ (client_1 l may).puts may.client_word.whole)

server_3 : (l : Login) → MayLogIn l → Passes l.server (server_greeted (alone l) l) get (ServerThird l.server_key l.client.word) g.Ok (request_text (request_in l))
server_3 l may = passes_by l.server (server_greeted (alone l) l) get (ServerSecond l.server_key l.client.word) (ServerThird l.server_key l.client.word) g.Ok (request_text (request_in l)) (server_2 l may).course refl

-- ---- the client is given the request, and asks

abbrev pub sent : Login → List ℕ
sent l = request_text (request_in l)

not_empty : (text : List ℕ) → 0 < length text → (length text == 0) ≡ false
not_empty text some = ne_eqb (length text) 0 (λ none. omega (arith, some, none))

request_fits : (l : Login) → MayLogIn l → NoneFails (request_tests l.client (request_in l))
request_fits l may = (refl, (not_empty l.server_key.user may.server_user.some, (ap not may.dom_form, (may.same_dom, tt))))

pub asks : (l : Login) → MayLogIn l → (b : List ℕ) → b ≡ sent l → move l.client ClientSecond (give b) ≡ goes (ClientKey (sent l)) g.Wait []
asks l may b is =
    ap (λ b. move l.client ClientSecond (give b)) is
    ∙ sized_whole 141 (sent l) (request_came l.client (sent l)) (length_request (request_in l) (fits_request l may))
    ∙ ap (λ r. with_request WrongKind r (λ request. tested (request_tests l.client request) (goes (ClientKey (sent l)) g.Wait []))) (request_read (request_in l) (fits_request l may))
    ∙ tested_well (request_tests l.client (request_in l)) (goes (ClientKey (sent l)) g.Wait []) (request_fits l may)

client_2 : (l : Login) → MayLogIn l → Passes l.client (get ∷ []) (give (puts_after l.server (server_greeted (alone l) l) get)) (ClientKey (sent l)) g.Wait []
client_2 l may = passes_by l.client (get ∷ []) (give (puts_after l.server (server_greeted (alone l) l) get)) ClientSecond (ClientKey (sent l)) g.Wait [] (client_1 l may).course (asks l may _ (server_3 l may).puts)

pub finds : (l : Login) → MayLogIn l → move l.client (ClientKey (sent l)) (found l.client_key l.client_password) ≡ goes (ClientAsk (sent l) l.client_key) g.Wait []
finds l may = ap (λ r. with_request WrongKind r (λ _. goes (ClientAsk (sent l) l.client_key) g.Wait [])) (request_read (request_in l) (fits_request l may))

client_3 : (l : Login) → MayLogIn l → Passes l.client (give (puts_after l.server (server_greeted (alone l) l) get) ∷ get ∷ []) (found l.client_key l.client_password) (ClientAsk (sent l) l.client_key) g.Wait []
client_3 l may = passes_by l.client (give (puts_after l.server (server_greeted (alone l) l) get) ∷ get ∷ []) (found l.client_key l.client_password) (ClientKey (sent l)) (ClientAsk (sent l) l.client_key) g.Wait [] (client_2 l may).course (finds l may)

-- ---- the authentication server answers

asked_is : (l : Login) → MayLogIn l → question_in (need_after l.client (client_asked (alone l) l)) ≡ request_text (question l)
asked_is l may =
    ap (λ p. question_in (need_at l.client p)) (client_3 l may).course
    ∙ ap (λ r. question_in (answer_need l.client l.client_key r)) (request_read (request_in l) (fits_request l may))

granted_as : (key : Option UserKey) (line : UserKey) (may : Bool) (w des : List ℕ) → may ≡ true → key ≡ Some line → line.des ≡ des → granted_key may key w ≡ des
granted_as key line may w des speaks knows same = ap (λ (may : Bool). granted_key may key w) speaks ∙ ap (λ key. granted_key true key w) knows ∙ same

pub grant_is : (l : Login) → MayLogIn l → answer l.known l.before (asked_so (request_text (question l)) l.words) ≡ tickets (question l) (shared_key l.words) l.client_key.des.0 l.server_key.des.0
unfolding answer_in
grant_is l may =
    ap (answer_to l.known (asked_so (request_text (question l)) l.words) (held l.known l.before)) (request_read (question l) (fits_question l may))
    ∙ ap (λ key. tickets (question l) (shared_key l.words) key (granted_key (l.known.speaks l.client_key.user (wanted l)) (l.known.key l.server_key.user) (word 1 l.words))) (granted_as (l.known.key l.client_key.user) may.client_known.line (l.known.speaks l.client_key.user (wanted l)) (word 2 l.words) l.client_key.des.0 may.speaks may.client_known.knows may.client_known.same)
    ∙ ap (tickets (question l) (shared_key l.words) l.client_key.des.0) (granted_as (l.known.key l.server_key.user) may.server_known.line (l.known.speaks l.client_key.user (wanted l)) (word 1 l.words) l.server_key.des.0 may.speaks may.server_known.knows may.server_known.same)

pub tickets_are : (l : Login) → tickets (question l) (shared_key l.words) l.client_key.des.0 l.server_key.des.0 ≡ 4 ∷ both l
unfolding tickets
tickets_are l = refl

heard_is : (l : Login) → MayLogIn l → grant_of (alone l) l ≡ 4 ∷ both l
heard_is l may = ap (λ request. answer l.known l.before (asked_so request l.words)) (asked_is l may) ∙ grant_is l may ∙ tickets_are l

length_both : (l : Login) → MayLogIn l → length (4 ∷ both l) ≡ 145
length_both l may =
    omega (arith, length-append (sealed_clients l) (sealed_servers l), length_sealed_ticket l.client_key.des.0 (clients l) (fits_ticket 65 l (omega arith) may), length_sealed_ticket l.server_key.des.0 (servers l) (fits_ticket 64 l (omega arith) may))

-- ---- the client's ticket

challenge_is : (l : Login) → MayLogIn l → challenge_in (sent l) ≡ l.server.word
challenge_is l may = (request_written (request_in l) (fits_request l may)).chal

ticket_fits : (l : Login) → MayLogIn l → NoneFails (ticket_tests l.client (sent l) l.client_key (clients l))
ticket_fits l may =
    (refl, (ap not (same_as l.server.word (challenge_in (sent l)) (sym (challenge_is l may))), (ap (λ (cuid : Bool). not cuid || not (bytes_eq (wanted l) (wanted l))) (same l.client_key.user) ∙ ap not (same (wanted l)), tt)))

pub opens : (l : Login) → MayLogIn l → ticket_of (opened l.client_key.des.0 (ticket_part (both l))) ≡ Ok (clients l)
opens l may = ticket_in_front l.client_key.des.0 (sealed_servers l) (clients l) (fits_ticket 65 l (omega arith) may)

-- of 145 bytes the first of which grants
answered : (long : ℕ) → long ≡ 145 → (came : Verdict Stage) → (if (long == 65) && false then breaks ServerSaidNo else if (long == 145) && true then came else breaks WrongKind) ≡ came
answered long is came = ap (λ (long : ℕ). if (long == 65) && false then breaks ServerSaidNo else if (long == 145) && true then came else breaks WrongKind) is

pub hears : (l : Login) → MayLogIn l → (b : List ℕ) → b ≡ 4 ∷ both l → move l.client (ClientAsk (sent l) l.client_key) (heard b) ≡ goes (ClientThird (sent l) l.client_key (both l)) g.Ok []
hears l may b is =
    ap (answer_came l.client (sent l) l.client_key) is
    ∙ answered (length (4 ∷ both l)) (length_both l may) (tickets_came l.client (sent l) l.client_key (both l))
    ∙ ap (λ t. with_ticket BadKey t (λ ticket. tested (ticket_tests l.client (sent l) l.client_key ticket) (goes (ClientThird (sent l) l.client_key (both l)) g.Ok []))) (opens l may)
    ∙ tested_well (ticket_tests l.client (sent l) l.client_key (clients l)) (goes (ClientThird (sent l) l.client_key (both l)) g.Ok []) (ticket_fits l may)

client_4 : (l : Login) → MayLogIn l → Passes l.client (client_asked (alone l) l) (heard (grant_of (alone l) l)) (ClientThird (sent l) l.client_key (both l)) g.Ok []
client_4 l may = passes_by l.client (client_asked (alone l) l) (heard (grant_of (alone l) l)) (ClientAsk (sent l) l.client_key) (ClientThird (sent l) l.client_key (both l)) g.Ok [] (client_3 l may).course (hears l may _ (heard_is l may))

-- ---- the client hands the server's ticket on

pub hands_on : (l : Login) → MayLogIn l → move l.client (ClientThird (sent l) l.client_key (both l)) get ≡ goes (ClientFourth (sent l) l.client_key (both l)) g.Ok (shown l)
hands_on l may =
    ap (λ t. with_ticket BadKey t (λ ticket. goes (ClientFourth (sent l) l.client_key (both l)) g.Ok (handed_on (sent l) (both l) ticket))) (opens l may)
    ∙ ap (λ rest. goes (ClientFourth (sent l) l.client_key (both l)) g.Ok (rest ++ proof_for AUTH_AC (challenge_in (sent l)) (clients l))) (rest_behind l.client_key.des.0 (sealed_servers l) (clients l) (fits_ticket 65 l (omega arith) may))
    ∙ ap (λ challenge. goes (ClientFourth (sent l) l.client_key (both l)) g.Ok (sealed_servers l ++ proof_for AUTH_AC challenge (clients l))) (challenge_is l may)

client_5 : (l : Login) → MayLogIn l → Passes l.client (client_heard (alone l) l) get (ClientFourth (sent l) l.client_key (both l)) g.Ok (shown l)
client_5 l may = passes_by l.client (client_heard (alone l) l) get (ClientThird (sent l) l.client_key (both l)) (ClientFourth (sent l) l.client_key (both l)) g.Ok (shown l) (client_4 l may).course (hands_on l may)

-- ---- the server opens it

length_shown : (l : Login) → MayLogIn l → length (shown l) ≡ 85
length_shown l may =
    omega (arith, length-append (sealed_servers l) (sealed_proof AUTH_AC l.server.word l), length_sealed_ticket l.server_key.des.0 (servers l) (fits_ticket 64 l (omega arith) may), length_sealed_authenticator (shared_key l.words) (proof AUTH_AC l.server.word) may.server_word.whole)

pub opens_there : (l : Login) → MayLogIn l → ticket_of (opened l.server_key.des.0 (ticket_part (shown l))) ≡ Ok (servers l)
opens_there l may = ticket_in_front l.server_key.des.0 (sealed_proof AUTH_AC l.server.word l) (servers l) (fits_ticket 64 l (omega arith) may)

proof_there : (l : Login) → MayLogIn l → proof_under (servers l) (rest_part (shown l)) ≡ proof AUTH_AC l.server.word
proof_there l may =
    ap (proof_under (servers l)) (rest_behind l.server_key.des.0 (sealed_proof AUTH_AC l.server.word l) (servers l) (fits_ticket 64 l (omega arith) may))
    ∙ authenticator_opened (shared_key l.words) (proof AUTH_AC l.server.word) (fits_proof AUTH_AC l.server.word (omega arith) may.server_word)

shown_fits : (l : Login) → MayLogIn l → NoneFails (shown_tests l.server (servers l) (proof AUTH_AC l.server.word))
shown_fits l may = (refl, (ap not (same l.server.word), (not_empty (wanted l) may.wanted.some, (refl, (ap not (same l.server.word), tt)))))

pub accepts : (l : Login) → MayLogIn l → (b : List ℕ) → b ≡ shown l → move l.server (ServerThird l.server_key l.client.word) (give b) ≡ goes (ServerFourth l.server_key l.client.word (shown l)) g.Ok []
accepts l may b is =
    ap (λ b. move l.server (ServerThird l.server_key l.client.word) (give b)) is
    ∙ sized_whole 85 (shown l) (shown_came l.server l.server_key l.client.word (shown l)) (length_shown l may)
    ∙ ap (λ t. with_ticket WrongKind t (λ ticket. tested (shown_tests l.server ticket (proof_under ticket (rest_part (shown l)))) (goes (ServerFourth l.server_key l.client.word (shown l)) g.Ok []))) (opens_there l may)
    ∙ ap (λ a. tested (shown_tests l.server (servers l) a) (goes (ServerFourth l.server_key l.client.word (shown l)) g.Ok [])) (proof_there l may)
    ∙ tested_well (shown_tests l.server (servers l) (proof AUTH_AC l.server.word)) (goes (ServerFourth l.server_key l.client.word (shown l)) g.Ok []) (shown_fits l may)

server_4 : (l : Login) → MayLogIn l → Passes l.server (get ∷ server_greeted (alone l) l) (give (puts_after l.client (client_heard (alone l) l) get)) (ServerFourth l.server_key l.client.word (shown l)) g.Ok []
server_4 l may = passes_by l.server (get ∷ server_greeted (alone l) l) (give (puts_after l.client (client_heard (alone l) l) get)) (ServerThird l.server_key l.client.word) (ServerFourth l.server_key l.client.word (shown l)) g.Ok [] (server_3 l may).course (accepts l may _ (client_5 l may).puts)

pub proves : (l : Login) → MayLogIn l → move l.server (ServerFourth l.server_key l.client.word (shown l)) get ≡ goes (ServerDone l.server_key l.client.word (shown l)) g.Ok (proved l)
proves l may = ap (λ t. with_ticket WrongKind t (λ ticket. goes (ServerDone l.server_key l.client.word (shown l)) g.Ok (proof_for AUTH_AS l.client.word ticket))) (opens_there l may)

server_5 : (l : Login) → MayLogIn l → Passes l.server (server_shown (alone l) l) get (ServerDone l.server_key l.client.word (shown l)) g.Ok (proved l)
server_5 l may = passes_by l.server (server_shown (alone l) l) get (ServerFourth l.server_key l.client.word (shown l)) (ServerDone l.server_key l.client.word (shown l)) g.Ok (proved l) (server_4 l may).course (proves l may)

-- ---- the client learns that the server opened it

proof_here : (l : Login) → MayLogIn l → proof_under (clients l) (proved l) ≡ proof AUTH_AS l.client.word
proof_here l may = authenticator_opened (shared_key l.words) (proof AUTH_AS l.client.word) (fits_proof AUTH_AS l.client.word (omega arith) may.client_word)

proved_fits : (l : Login) → NoneFails (proof_tests AUTH_AS l.client.word (proof AUTH_AS l.client.word))
proved_fits l = (refl, (ap not (same l.client.word), tt))

pub ends : (l : Login) → MayLogIn l → (b : List ℕ) → b ≡ proved l → move l.client (ClientFourth (sent l) l.client_key (both l)) (give b) ≡ goes (ClientDone (sent l) l.client_key (both l) (proved l)) g.Ok []
ends l may b is =
    ap (λ b. move l.client (ClientFourth (sent l) l.client_key (both l)) (give b)) is
    ∙ sized_whole 13 (proved l) (proof_came l.client (sent l) l.client_key (both l) (proved l)) (length_sealed_authenticator (shared_key l.words) (proof AUTH_AS l.client.word) may.client_word.whole)
    ∙ ap (λ t. with_ticket BadKey t (λ ticket. tested (proof_tests AUTH_AS l.client.word (proof_under ticket (proved l))) (goes (ClientDone (sent l) l.client_key (both l) (proved l)) g.Ok []))) (opens l may)
    ∙ ap (λ a. tested (proof_tests AUTH_AS l.client.word a) (goes (ClientDone (sent l) l.client_key (both l) (proved l)) g.Ok [])) (proof_here l may)
    ∙ tested_well (proof_tests AUTH_AS l.client.word (proof AUTH_AS l.client.word)) (goes (ClientDone (sent l) l.client_key (both l) (proved l)) g.Ok []) (proved_fits l)

client_6 : (l : Login) → MayLogIn l → Passes l.client (get ∷ client_heard (alone l) l) (give (puts_after l.server (server_shown (alone l) l) get)) (ClientDone (sent l) l.client_key (both l) (proved l)) g.Ok []
client_6 l may = passes_by l.client (get ∷ client_heard (alone l) l) (give (puts_after l.server (server_shown (alone l) l) get)) (ClientFourth (sent l) l.client_key (both l)) (ClientDone (sent l) l.client_key (both l) (proved l)) g.Ok [] (client_5 l may).course (ends l may _ (server_5 l may).puts)

-- ---- the whole

pub login_ends : (l : Login) → MayLogIn l → LogsIn (alone l) l
login_ends l may = record {
  client_well = (well_of (client_6 l may) tt, (well_of (client_5 l may) tt, (well_of (client_4 l may) tt, (well_of (client_3 l may) tt, (well_of (client_2 l may) tt, (well_of (client_1 l may) tt, tt))))));
  server_well = (well_of (server_5 l may) tt, (well_of (server_4 l may) tt, (well_of (server_3 l may) tt, (well_of (server_2 l may) tt, (well_of (server_1 l may) tt, tt)))));
  client_accepts = ap outcome_at (client_6 l may).course ∙ ap (accepted BadKey) (opens l may);
  server_accepts = ap outcome_at (server_5 l may).course ∙ ap (accepted WrongKind) (opens_there l may);
  client_ends = ap (λ p. is_last p.stage) (client_6 l may).course;
  server_ends = ap (λ p. is_last p.stage) (server_5 l may).course;
}
