-- What each move of p9sk1 answers and gives: no key is called bad but where the authentication server answers, and no more is got
-- than an answer has room for.
use Rattle.std.proofs.Common.{◌≡◌, ℕ, List, [], eqb, Option, Some, None, Result, Ok, Err, length, drop, refl, sym, subst, arith, length-append, length-drop}
use Rattle.std.proofs.lemmas.Bool.{and_parts, eqb-true}
use Rattle.std.proofs.lemmas.List.{length-take-le}
use Rattle.std.specs.Str.{is_utf8, chars}
use lib.Utf8.{encode}
use Rattle.wire_base.specs.Names.{IsName}
use Rattle.wire_base.specs.Texts.{is_text}
use Rattle.sealing.specs.Request.{request_of}
use Rattle.sealing.specs.declared.fault.FieldFault.{FieldFault}
use Rattle.sealing.specs.declared.kind.TheConstants.{AUTH_AC, AUTH_AS}
use Rattle.sealing.specs.declared.request.TicketReq.{TicketReq}
use Rattle.sealing.specs.declared.ticket.Ticket.{Ticket}
use Rattle.complete_logins.proofs.MessageLemmas.{length_request, length_sealed_authenticator}
use Rattle.roles.specs.declared.answer.Cause.{Cause}
use Rattle.roles.specs.declared.answer.Cause.TheVariants.{BadKey, WrongKind}
use Rattle.roles.specs.declared.answer.Gave.TheVariants as g
use Rattle.roles.specs.declared.key.SkKey.{SkKey}
use Rattle.roles.specs.declared.stage.Stage.{Stage}
use Rattle.roles.specs.declared.stage.Stage.TheVariants.{ClientFirst, ClientSecond, ClientKey, ClientAsk, ClientThird, ClientFourth, ClientDone, ServerKey, ServerFirst, ServerSecond, ServerThird, ServerFourth, ServerDone}
use Rattle.roles.specs.Clients.{answer_came, grants_tickets, handed_on, is_refusal, proof_came, proof_tests, request_came, request_tests, ticket_tests, tickets_came, tickets_got}
use Rattle.roles.specs.Servers.{proof_got, server_request, shown_came, shown_tests}
use Rattle.roles.specs.Courses.{move, unless_broken}
use Rattle.roles.specs.Starts.{Start}
use Rattle.roles.specs.Talks.{Call, Verdict, found, get, give, goes, heard, offered, picked, roomless, sized, undone, unheard}
use Rattle.roles.specs.Tickets.{challenge_in, proof_for, proof_under, rest_part, ticket_part, ticket_under, with_request, with_ticket}
use Rattle.world_promises.proofs.VerdictForms.{FitsMove, Good, NamesFit, either_so, request_so, sized_so, tested_heard, tested_so, ticket_so}

-- the client's ticket opens
abbrev pub Opens : SkKey → List ℕ → Type 0
Opens key tickets = (t : Ticket) × (ticket_under key (ticket_part tickets) ≡ Ok t)

-- what stands of each stage
abbrev pub Stood : Type 0 → Stage → Type 0
Stood F (ClientKey request) = length request ≡ 141
Stood F (ClientAsk request key) = length request ≡ 141
Stood F (ClientThird request key tickets) = (length request ≡ 141) × ((length tickets ≡ 144) × Opens key tickets)
Stood F (ClientFourth request key tickets) = Opens key tickets
Stood F (ServerFirst key) = F → NamesFit key
Stood F (ServerSecond key theirs) = (F → NamesFit key) × (length theirs ≡ 8)
Stood F (ServerThird key theirs) = length theirs ≡ 8
Stood F (ServerFourth key theirs shown) = length theirs ≡ 8
Stood F stage = Unit {0}

abbrev pub Moves : Type 0 → Call → Verdict Stage → Type 0
Moves F call v = Good (Stood F) F call v

-- ---- sizes

no_name : IsName 28 []
unfolding is_text is_utf8 chars encode
no_name = record { text = refl; short = omega arith }

request_size : (start : Start) (key : SkKey) → length start.word ≡ 8 → NamesFit key → length (server_request start key) ≡ 141
request_size start key word fits = length_request _ (record { authid = fits.0; authdom = fits.1; chal = word; hostid = no_name; uid = no_name })

proof_size : (kind : ℕ) (challenge : List ℕ) (ticket : Ticket) → length challenge ≡ 8 → length (proof_for kind challenge ticket) ≡ 13
proof_size kind challenge ticket long = length_sealed_authenticator ticket.key.0 (record { num = kind; chal = challenge; id = 0 }) long

challenge_size : (request : List ℕ) → length request ≡ 141 → length (challenge_in request) ≡ 8
challenge_size request long = length-take-le 8 (drop 77 request) (omega (arith, length-drop 77 request, long))

-- ---- the client

given_request : (F : Type 0) (start : Start) (b : List ℕ) → Moves F (give b) (sized 141 b (request_came start b))
given_request F start b =
    sized_so (Moves F (give b)) 141 b (request_came start b) (λ e. cc e) (λ e. cc e)
    (λ long. request_so (Moves F (give b)) WrongKind (request_of b) _ (λ off e. cc e)
    (λ r. tested_so (Stood F) F (give b) (request_tests start r) (goes (ClientKey b) g.Wait []) ((λ e. cc e), ((λ e. cc e), ((λ e. cc e), ((λ e. cc e), tt)))) (long, (λ off e. cc e), (λ f. omega arith))))

found_request : (F : Type 0) (start : Start) (request : List ℕ) (key : SkKey) (password : Option (List ℕ)) (r : Result TicketReq FieldFault) → length request ≡ 141 → Moves F (found key password) (with_request WrongKind r (λ _. goes (ClientAsk request key) g.Wait []))
found_request F start request key password (Ok r) long = (long, (λ off e. cc e), (λ f. omega arith))
found_request F start request key password (Err fault) long = λ off e. cc e

tickets_so : (F : Type 0) (start : Start) (request : List ℕ) (key : SkKey) (tickets b : List ℕ) → length request ≡ 141 → length tickets ≡ 144 → Moves F (heard b) (tickets_came start request key tickets)
tickets_so F start request key tickets b long size =
    ticket_so (Moves F (heard b)) BadKey (ticket_under key (ticket_part tickets)) _ (λ off e. cc off)
    (λ t opens. tested_heard (Stood F) F b (ticket_tests start request key t) (goes (ClientThird request key tickets) g.Ok []) ((long, (size, (t, opens))), (λ off e. cc off), (λ f. omega arith)))

heard_tickets : (F : Type 0) (start : Start) (request : List ℕ) (key : SkKey) (b : List ℕ) → length request ≡ 141 → Moves F (heard b) (answer_came start request key b)
heard_tickets F start request key b long =
    either_so (Moves F (heard b)) (is_refusal b) _ _ (λ _ off e. cc off)
    (either_so (Moves F (heard b)) (grants_tickets b) _ _
    (λ is. tickets_so F start request key (drop 1 b) b long (omega (arith, length-drop 1 b, eqb-true (length b) 145 (and_parts (eqb (length b) 145) _ is).0)))
    (λ off e. cc off))

opened_by : (F : Type 0) (call : Call) (cause : Cause) (r : Result Ticket FieldFault) (next : Ticket → Verdict Stage) (o : (t : Ticket) × (r ≡ Ok t)) → Moves F call (next o.0) → Moves F call (with_ticket cause r next)
opened_by F call cause r next o so = subst (λ x. Moves F call (with_ticket cause x next)) (sym o.1) so

got_tickets : (F : Type 0) (request : List ℕ) (key : SkKey) (tickets : List ℕ) → length request ≡ 141 → length tickets ≡ 144 → Opens key tickets → Moves F get (tickets_got request key tickets)
got_tickets F request key tickets long size o =
    opened_by F get BadKey (ticket_under key (ticket_part tickets)) (λ ticket. goes (ClientFourth request key tickets) g.Ok (handed_on request tickets ticket)) o
    (o, (λ off e. cc e), (λ f. omega (arith, length-append (rest_part tickets) (proof_for AUTH_AC (challenge_in request) o.0), length-drop 72 tickets, size, proof_size AUTH_AC (challenge_in request) o.0 (challenge_size request long))))

given_proof : (F : Type 0) (start : Start) (request : List ℕ) (key : SkKey) (tickets b : List ℕ) → Opens key tickets → Moves F (give b) (sized 13 b (proof_came start request key tickets b))
given_proof F start request key tickets b o =
    sized_so (Moves F (give b)) 13 b (proof_came start request key tickets b) (λ e. cc e) (λ e. cc e)
    (λ long. opened_by F (give b) BadKey (ticket_under key (ticket_part tickets)) _ o
    (tested_so (Stood F) F (give b) (proof_tests AUTH_AS start.word (proof_under o.0 b)) (goes (ClientDone request key tickets b) g.Ok []) ((λ e. cc e), ((λ e. cc e), tt)) (tt, (λ off e. cc e), (λ f. omega arith))))

-- ---- the server

given_shown : (F : Type 0) (start : Start) (key : SkKey) (theirs b : List ℕ) → length theirs ≡ 8 → Moves F (give b) (sized 85 b (shown_came start key theirs b))
given_shown F start key theirs b long =
    sized_so (Moves F (give b)) 85 b (shown_came start key theirs b) (λ e. cc e) (λ e. cc e)
    (λ _. ticket_so (Moves F (give b)) WrongKind (ticket_under key (ticket_part b)) _ (λ off e. cc e)
    (λ t opens. tested_so (Stood F) F (give b) (shown_tests start t (proof_under t (rest_part b))) (goes (ServerFourth key theirs b) g.Ok []) ((λ e. cc e), ((λ e. cc e), ((λ e. cc e), ((λ e. cc e), ((λ e. cc e), tt))))) (long, (λ off e. cc e), (λ f. omega arith))))

got_proof : (F : Type 0) (key : SkKey) (theirs shown : List ℕ) → length theirs ≡ 8 → Moves F get (proof_got key theirs shown)
got_proof F key theirs shown long =
    ticket_so (Moves F get) WrongKind (ticket_under key (ticket_part shown)) _ (λ off e. cc e)
    (λ t opens. (tt, (λ off e. cc e), (λ f. omega (arith, proof_size AUTH_AS theirs t long))))

-- ---- moves

move_good : (F : Type 0) (start : Start) (stage : Stage) (call : Call) → (F → length start.word ≡ 8) → (F → FitsMove call) → Stood F stage → Moves F call (move start stage call)
move_good F start ClientFirst (give b) word fits so = λ e. cc e
move_good F start ClientFirst get word fits so = (tt, (λ off e. cc e), (λ f. omega (arith, word f)))
move_good F start ClientFirst (found key' password') word fits so = λ e. cc e
move_good F start ClientFirst (heard b) word fits so = λ e. cc e
move_good F start ClientFirst unheard word fits so = λ e. cc e
move_good F start ClientFirst roomless word fits so = λ e. cc e
move_good F start ClientFirst undone word fits so = λ e. cc e
move_good F start ClientFirst (offered list') word fits so = λ e. cc e
move_good F start ClientFirst (picked place') word fits so = λ e. cc e
move_good F start ClientSecond (give b) word fits so = given_request F start b
move_good F start ClientSecond get word fits so = λ e. cc e
move_good F start ClientSecond (found key' password') word fits so = λ e. cc e
move_good F start ClientSecond (heard b) word fits so = λ e. cc e
move_good F start ClientSecond unheard word fits so = λ e. cc e
move_good F start ClientSecond roomless word fits so = λ e. cc e
move_good F start ClientSecond undone word fits so = λ e. cc e
move_good F start ClientSecond (offered list') word fits so = λ e. cc e
move_good F start ClientSecond (picked place') word fits so = λ e. cc e
move_good F start (ClientKey request) (give b) word fits so = λ e. cc e
move_good F start (ClientKey request) get word fits so = λ e. cc e
move_good F start (ClientKey request) (found key' password') word fits so = found_request F start request key' password' (request_of request) so
move_good F start (ClientKey request) (heard b) word fits so = λ e. cc e
move_good F start (ClientKey request) unheard word fits so = λ e. cc e
move_good F start (ClientKey request) roomless word fits so = λ e. cc e
move_good F start (ClientKey request) undone word fits so = (tt, (λ off e. cc e), (λ f. omega arith))
move_good F start (ClientKey request) (offered list') word fits so = λ e. cc e
move_good F start (ClientKey request) (picked place') word fits so = λ e. cc e
move_good F start (ClientAsk request key) (give b) word fits so = λ e. cc e
move_good F start (ClientAsk request key) get word fits so = λ e. cc e
move_good F start (ClientAsk request key) (found key' password') word fits so = λ e. cc e
move_good F start (ClientAsk request key) (heard b) word fits so = heard_tickets F start request key b so
move_good F start (ClientAsk request key) unheard word fits so = λ off e. cc e
move_good F start (ClientAsk request key) roomless word fits so = λ off e. cc e
move_good F start (ClientAsk request key) undone word fits so = λ e. cc e
move_good F start (ClientAsk request key) (offered list') word fits so = λ e. cc e
move_good F start (ClientAsk request key) (picked place') word fits so = λ e. cc e
move_good F start (ClientThird request key tickets) (give b) word fits so = λ e. cc e
move_good F start (ClientThird request key tickets) get word fits so = got_tickets F request key tickets so.0 so.1.0 so.1.1
move_good F start (ClientThird request key tickets) (found key' password') word fits so = λ e. cc e
move_good F start (ClientThird request key tickets) (heard b) word fits so = λ e. cc e
move_good F start (ClientThird request key tickets) unheard word fits so = λ e. cc e
move_good F start (ClientThird request key tickets) roomless word fits so = λ e. cc e
move_good F start (ClientThird request key tickets) undone word fits so = λ e. cc e
move_good F start (ClientThird request key tickets) (offered list') word fits so = λ e. cc e
move_good F start (ClientThird request key tickets) (picked place') word fits so = λ e. cc e
move_good F start (ClientFourth request key tickets) (give b) word fits so = given_proof F start request key tickets b so
move_good F start (ClientFourth request key tickets) get word fits so = λ e. cc e
move_good F start (ClientFourth request key tickets) (found key' password') word fits so = λ e. cc e
move_good F start (ClientFourth request key tickets) (heard b) word fits so = λ e. cc e
move_good F start (ClientFourth request key tickets) unheard word fits so = λ e. cc e
move_good F start (ClientFourth request key tickets) roomless word fits so = λ e. cc e
move_good F start (ClientFourth request key tickets) undone word fits so = λ e. cc e
move_good F start (ClientFourth request key tickets) (offered list') word fits so = λ e. cc e
move_good F start (ClientFourth request key tickets) (picked place') word fits so = λ e. cc e
move_good F start (ClientDone request key tickets proof) (give b) word fits so = λ e. cc e
move_good F start (ClientDone request key tickets proof) get word fits so = λ e. cc e
move_good F start (ClientDone request key tickets proof) (found key' password') word fits so = λ e. cc e
move_good F start (ClientDone request key tickets proof) (heard b) word fits so = λ e. cc e
move_good F start (ClientDone request key tickets proof) unheard word fits so = λ e. cc e
move_good F start (ClientDone request key tickets proof) roomless word fits so = λ e. cc e
move_good F start (ClientDone request key tickets proof) undone word fits so = λ e. cc e
move_good F start (ClientDone request key tickets proof) (offered list') word fits so = λ e. cc e
move_good F start (ClientDone request key tickets proof) (picked place') word fits so = λ e. cc e
move_good F start ServerKey (give b) word fits so = λ e. cc e
move_good F start ServerKey get word fits so = λ e. cc e
move_good F start ServerKey (found key' password') word fits so = ((λ f. fits f), (λ off e. cc e), (λ f. omega arith))
move_good F start ServerKey (heard b) word fits so = λ e. cc e
move_good F start ServerKey unheard word fits so = λ e. cc e
move_good F start ServerKey roomless word fits so = λ e. cc e
move_good F start ServerKey undone word fits so = λ e. cc e
move_good F start ServerKey (offered list') word fits so = λ e. cc e
move_good F start ServerKey (picked place') word fits so = λ e. cc e
move_good F start (ServerFirst key) (give b) word fits so = sized_so (Good (Stood F) F (give b)) 8 b (goes (ServerSecond key b) g.Ok []) (λ e. cc e) (λ e. cc e) (λ long. ((so, long), (λ off e. cc e), (λ f. omega arith)))
move_good F start (ServerFirst key) get word fits so = λ e. cc e
move_good F start (ServerFirst key) (found key' password') word fits so = λ e. cc e
move_good F start (ServerFirst key) (heard b) word fits so = λ e. cc e
move_good F start (ServerFirst key) unheard word fits so = λ e. cc e
move_good F start (ServerFirst key) roomless word fits so = λ e. cc e
move_good F start (ServerFirst key) undone word fits so = λ e. cc e
move_good F start (ServerFirst key) (offered list') word fits so = λ e. cc e
move_good F start (ServerFirst key) (picked place') word fits so = λ e. cc e
move_good F start (ServerSecond key theirs) (give b) word fits so = λ e. cc e
move_good F start (ServerSecond key theirs) get word fits so = (so.1, (λ off e. cc e), (λ f. omega (arith, request_size start key (word f) (so.0 f))))
move_good F start (ServerSecond key theirs) (found key' password') word fits so = λ e. cc e
move_good F start (ServerSecond key theirs) (heard b) word fits so = λ e. cc e
move_good F start (ServerSecond key theirs) unheard word fits so = λ e. cc e
move_good F start (ServerSecond key theirs) roomless word fits so = λ e. cc e
move_good F start (ServerSecond key theirs) undone word fits so = λ e. cc e
move_good F start (ServerSecond key theirs) (offered list') word fits so = λ e. cc e
move_good F start (ServerSecond key theirs) (picked place') word fits so = λ e. cc e
move_good F start (ServerThird key theirs) (give b) word fits so = given_shown F start key theirs b so
move_good F start (ServerThird key theirs) get word fits so = λ e. cc e
move_good F start (ServerThird key theirs) (found key' password') word fits so = λ e. cc e
move_good F start (ServerThird key theirs) (heard b) word fits so = λ e. cc e
move_good F start (ServerThird key theirs) unheard word fits so = λ e. cc e
move_good F start (ServerThird key theirs) roomless word fits so = λ e. cc e
move_good F start (ServerThird key theirs) undone word fits so = λ e. cc e
move_good F start (ServerThird key theirs) (offered list') word fits so = λ e. cc e
move_good F start (ServerThird key theirs) (picked place') word fits so = λ e. cc e
move_good F start (ServerFourth key theirs shown) (give b) word fits so = λ e. cc e
move_good F start (ServerFourth key theirs shown) get word fits so = got_proof F key theirs shown so
move_good F start (ServerFourth key theirs shown) (found key' password') word fits so = λ e. cc e
move_good F start (ServerFourth key theirs shown) (heard b) word fits so = λ e. cc e
move_good F start (ServerFourth key theirs shown) unheard word fits so = λ e. cc e
move_good F start (ServerFourth key theirs shown) roomless word fits so = λ e. cc e
move_good F start (ServerFourth key theirs shown) undone word fits so = λ e. cc e
move_good F start (ServerFourth key theirs shown) (offered list') word fits so = λ e. cc e
move_good F start (ServerFourth key theirs shown) (picked place') word fits so = λ e. cc e
move_good F start (ServerDone key theirs shown) (give b) word fits so = λ e. cc e
move_good F start (ServerDone key theirs shown) get word fits so = λ e. cc e
move_good F start (ServerDone key theirs shown) (found key' password') word fits so = λ e. cc e
move_good F start (ServerDone key theirs shown) (heard b) word fits so = λ e. cc e
move_good F start (ServerDone key theirs shown) unheard word fits so = λ e. cc e
move_good F start (ServerDone key theirs shown) roomless word fits so = λ e. cc e
move_good F start (ServerDone key theirs shown) undone word fits so = λ e. cc e
move_good F start (ServerDone key theirs shown) (offered list') word fits so = λ e. cc e
move_good F start (ServerDone key theirs shown) (picked place') word fits so = λ e. cc e

pub by_broken : (F : Type 0) (start : Start) (stage : Stage) (broken : Option Cause) (call : Call) → (F → length start.word ≡ 8) → (F → FitsMove call) → Stood F stage → Moves F call (unless_broken broken (move start stage call))
by_broken F start stage None call word fits so = move_good F start stage call word fits so
by_broken F start stage (Some cause) call word fits so = λ e. cc e
