-- A login by APOP or CRAM goes move by move: what each side is given is what the other gave, in a form that is written out,
-- and each test of the next move is met by it.
use Rattle.std.proofs.Common.{◌≡◌, ℕ, ◌+◌, ◌<◌, ◌≤◌, List, [], ◌∷◌, ◌++◌, length, take, drop, nat_lt, nat_le, Bool, true, false, not, ◌&&◌, ◌||◌, ◌==◌, slice_index, Option, Some, None, Ok, if◌then◌else◌, refl, sym, ap, ◌∙◌, arith, length-append, subst}
use Rattle.std.proofs.lemmas.Bool.{and_parts, eq-eqb, le-leb, le-ltb, leb-true}
use Rattle.std.proofs.lemmas.List.{drop-append-le, drop_at, length-drop, take-append-le, take_at}
use Rattle.std.specs.Str.{bytes_eq}
use Rattle.wire_base.specs.Texts.{is_text}
use Rattle.attr_tuples.specs.Forms.{is_dom}
use Rattle.sealing.specs.Sealing.{opened, sealed}
use Rattle.sealing.specs.Authenticator.{authenticator_text}
use Rattle.sealing.specs.Fields.{HoldsName, field}
use Rattle.sealing.specs.Fitting.{FitsAuthenticator, FitsRequest, FitsTicket}
use Rattle.sealing.specs.Request.{request_of, request_text}
use Rattle.sealing.specs.Ticket.{ticket_of, ticket_text}
use Rattle.sealing.specs.declared.authenticator.Authenticator.{Authenticator}
use Rattle.sealing.specs.declared.request.TicketReq.{TicketReq}
use Rattle.sealing.specs.declared.ticket.Ticket.{Ticket}
use Rattle.sealing.proofs.RequestLaws.{request_again, request_written}
use Rattle.sealing.proofs.SealedLaws.{authenticator_opened}
use Rattle.auth_server.specs.Requests.{Asked, Challenge, asked_so, is_for}
use Rattle.auth_server.specs.Answers.{Knowledge, answer, answer_in, answer_to, are_digits, challenge_answer, challenge_text, digits_for, grant, held, held_after, held_mail, is_right, judged, key_or, mail_answer, password_of, shared_key, vouch, vouch_text, word}
use Rattle.roles.specs.declared.answer.Cause.TheVariants.{WrongKind, ServerSaidNo, BadKey}
use Rattle.roles.specs.declared.answer.Gave.{Gave}
use Rattle.roles.specs.declared.answer.Gave.TheVariants as g
use Rattle.roles.specs.Courses.{accepted}
use Rattle.roles.specs.Starts.{Start}
use Rattle.roles.specs.Talks.{Call, Verdict, give, get, found, heard, goes, stays, breaks, tested}
use Rattle.roles.specs.Tickets.{proof_under, rest_part, ticket_part, with_ticket}
use Rattle.roles.proofs.StartLemmas.{nobody_is_name}
use Rattle.conv_challenge.specs.declared.stage.Proto.{Proto}
use Rattle.conv_challenge.specs.declared.stage.Proto.TheVariants.{Apop, Cram}
use Rattle.conv_challenge.specs.declared.stage.Stage.{Stage}
use Rattle.conv_challenge.specs.declared.stage.Stage.TheVariants.{ClientFirst, ClientKey, ClientSecond, ClientDone, ServerKey, ServerAsk, ServerFirst, ServerSecond, ServerThird, ServerVouch, ServerDone}
use Rattle.conv_challenge.specs.declared.stage.TheConstants.{MOST_CHALLENGE}
use Rattle.conv_challenge.specs.Clients.{bounded, challenge_given, digits_by}
use Rattle.conv_challenge.specs.Courses.{answer_after, course, first_stage, is_last, move, need_at, outcome_at, puts_after}
use Rattle.conv_challenge.specs.Numbers.{told_length}
use Rattle.conv_challenge.specs.Servers.{challenge_came, digits_came, length_in, request_kind, user_tests, vouch_came, vouch_opened, vouch_tests}
use Rattle.conv_challenge.specs.Starts.{proto_of}
use Rattle.complete_logins.specs.Logins.{question_in}
use Rattle.complete_logins.specs.MailLogins.{MailLogin, MailsIn, MayMail, asked_first, asked_then, client_challenged, server_answered, server_heard, server_started}
use Rattle.complete_logins.proofs.PassLemmas.{NoneFails, Passed, at, passes, same, same_as, sized_whole, tested_well, well_of}
use Rattle.complete_logins.proofs.MessageLemmas.{length_request, length_sealed_authenticator, length_sealed_ticket, request_read, rest_behind, seven, ticket_in_front}
use Rattle.complete_logins.proofs.DigitLemmas.{counted_by, counted_is_told, length_challenge, length_counted, length_digits}

-- ---- what is sent

abbrev pub proto : MailLogin → Proto
proto l = proto_of l.server.template

-- both requests, about nobody and about the user
abbrev pub request_about : List ℕ → MailLogin → TicketReq
request_about user l = record { kind = request_kind (proto l); authid = l.server_key.user; authdom = l.server_key.dom; chal = l.server.word; hostid = l.server_key.user; uid = user }

abbrev pub first_request : MailLogin → List ℕ
first_request l = request_text (request_about [] l)

abbrev pub challenge : MailLogin → List ℕ
challenge l = challenge_text l.known l.words

abbrev pub digits : MailLogin → List ℕ
digits l = digits_by (proto l) (challenge l) l.password

abbrev pub then_request : MailLogin → List ℕ
then_request l = request_text (request_about l.user l) ++ digits l

abbrev pub ticket : MailLogin → Ticket
ticket l = record { num = 64; chal = l.server.word; cuid = l.user; suid = l.user; key = record { 0 = shared_key l.later_words } }

abbrev pub proof : MailLogin → Authenticator
proof l = record { num = 67; chal = l.server.word; id = 0 }

abbrev pub sealed_ticket : MailLogin → List ℕ
sealed_ticket l = sealed l.server_key.des.0 (ticket_text (ticket l))

abbrev pub sealed_proof : MailLogin → List ℕ
sealed_proof l = sealed (shared_key l.later_words) (authenticator_text (proof l))

abbrev pub both : MailLogin → List ℕ
both l = sealed_ticket l ++ sealed_proof l

-- ---- that it fits

pub fits_first : (l : MailLogin) → MayMail l → FitsRequest (request_about [] l)
fits_first l may = record { authid = may.server_user.fits.short; authdom = may.dom_name; chal = may.server_word.whole; hostid = may.server_user.fits.short; uid = nobody_is_name }

pub fits_then : (l : MailLogin) → MayMail l → FitsRequest (request_about l.user l)
fits_then l may = record { authid = may.server_user.fits.short; authdom = may.dom_name; chal = may.server_word.whole; hostid = may.server_user.fits.short; uid = may.user.fits.short }

fits_ticket : (l : MailLogin) → MayMail l → FitsTicket (ticket l)
fits_ticket l may = record { num = omega arith; chal = may.server_word; cuid = may.user.fits; suid = may.user.fits; key = seven (word 0 l.later_words) may.then_drawn }

fits_proof : (l : MailLogin) → MayMail l → FitsAuthenticator (proof l)
fits_proof l may = record { num = omega arith; chal = may.server_word; id = omega arith }

-- a domain has at most 47 bytes
short_dom : (dom : List ℕ) → is_dom dom ≡ true → length dom ≤ 47
short_dom dom is =
    let parts = and_parts (nat_le 1 (length dom)) _ is in
    leb-true (length dom) 47 (and_parts (nat_le (length dom) 47) _ parts.1).0

challenge_long : (l : MailLogin) → MayMail l → length (challenge l) ≡ length l.known.dom + 19
challenge_long l may = length_challenge (word 0 l.words) l.known.dom may.first_drawn.whole

few_bytes : (l : MailLogin) → MayMail l → length (challenge l) < 128
few_bytes l may = omega (arith, challenge_long l may, short_dom l.known.dom may.known_dom)

-- ---- the course of a side

abbrev pub Passes : Start → List Call → Call → Stage → Gave → List ℕ → Type 0
Passes start before call next given bytes = Passed (course start (call ∷ before)) (answer_after start before call) (puts_after start before call) next given bytes

pub passes_by : (start : Start) (before : List Call) (call : Call) (stage next : Stage) (given : Gave) (bytes : List ℕ) → course start before ≡ at stage → move start stage call ≡ goes next given bytes → Passes start before call next given bytes
passes_by start before call stage next given bytes here moves = passes (λ s. move start s call) (course start before) stage next given bytes here moves

-- a message of one byte to so many
bounded_whole : (most : ℕ) (b : List ℕ) (whole : Verdict Stage) → 0 < length b → length b ≤ most → bounded most b whole ≡ whole
bounded_whole most b whole some few =
    ap (λ (none : Bool). if none then stays (g.TooSmall 1) else if nat_lt most (length b) then stays g.TooLong else whole) (le-ltb (length b) 1 (omega (arith, some)))
    ∙ ap (λ (many : Bool). if many then stays g.TooLong else whole) (le-ltb most (length b) few)

-- ---- the server asks for a challenge

pub server_0 : (l : MailLogin) → MayMail l → course l.server [] ≡ at ServerKey
server_0 l may = ap (λ side. at (first_stage side)) may.server_side

server_1 : (l : MailLogin) → MayMail l → Passes l.server [] (found l.server_key l.server_password) (ServerAsk l.server_key) g.Wait []
server_1 l may = passes_by l.server [] (found l.server_key l.server_password) ServerKey (ServerAsk l.server_key) g.Wait [] (server_0 l may) refl

first_is : (l : MailLogin) → MayMail l → asked_first l ≡ asked_so (first_request l) l.words
first_is l may = ap (λ p. asked_so (question_in (need_at l.server p)) l.words) (server_1 l may).course

-- a request of mail is no ticket request
is_mail : (p : Proto) → (request_kind p == 1) ≡ false
is_mail Apop = refl
is_mail Cram = refl

-- a request is the first where no challenge of its kind is held
comes_first : (known : Knowledge) (asked : Asked) (r : TicketReq) (o : Option Challenge) → is_for r.kind o ≡ false → judged known asked r o ≡ judged known asked r None
comes_first known asked r None none = refl
comes_first known asked r (Some c) none =
    let other : (c.kind == r.kind) ≡ false = none in
    rw other refl

pub first_answer : (l : MailLogin) → MayMail l → answer l.known l.before (asked_so (first_request l) l.words) ≡ challenge_answer (challenge l)
unfolding answer_in
first_answer l may =
    let asked = asked_so (first_request l) l.words in
    let r = request_about [] l in
    let before = held l.known l.before in
    ap (answer_to l.known asked before) (request_read r (fits_first l may))
    ∙ ap (λ (tickets : Bool). if tickets then grant l.known l.words r else mail_answer l.known asked r (judged l.known asked r before)) (is_mail (proto l))
    ∙ ap (mail_answer l.known asked r) (comes_first l.known asked r before may.unheld)

challenge_comes : (l : MailLogin) → MayMail l → answer l.known l.before (asked_first l) ≡ challenge_answer (challenge l)
challenge_comes l may = ap (answer l.known l.before) (first_is l may) ∙ first_answer l may

pub spelled : (text : List ℕ) → challenge_answer text ≡ 9 ∷ (counted_by (length text) ++ text)
unfolding challenge_answer
spelled text = refl

-- an answer whose length is told
granted : (long told size : ℕ) (passed : Verdict Stage) → long ≡ 6 + size → told ≡ size → 0 < size → size < 128 → (if (long == 65) && false then breaks ServerSaidNo else if nat_le 6 long && (true && (nat_le 1 told && (nat_le told 128 && (long == 6 + told)))) then passed else breaks WrongKind) ≡ passed
granted long told size passed long_is told_is some few =
    ap (λ (long : ℕ). if (long == 65) && false then breaks ServerSaidNo else if nat_le 6 long && (true && (nat_le 1 told && (nat_le told 128 && (long == 6 + told)))) then passed else breaks WrongKind) long_is
    ∙ ap (λ (told : ℕ). if ((6 + size) == 65) && false then breaks ServerSaidNo else if nat_le 6 (6 + size) && (true && (nat_le 1 told && (nat_le told 128 && ((6 + size) == 6 + told)))) then passed else breaks WrongKind) told_is
    ∙ no_refusal ((6 + size) == 65)
    ∙ ap (λ (b : Bool). if b && (true && (nat_le 1 size && (nat_le size 128 && ((6 + size) == 6 + size)))) then passed else breaks WrongKind) (le-leb 6 (6 + size) (omega arith))
    ∙ ap (λ (b : Bool). if b && (nat_le size 128 && ((6 + size) == 6 + size)) then passed else breaks WrongKind) (le-leb 1 size (omega (arith, some)))
    ∙ ap (λ (b : Bool). if b && ((6 + size) == 6 + size) then passed else breaks WrongKind) (le-leb size 128 (omega (arith, few)))
    ∙ ap (λ (b : Bool). if b then passed else breaks WrongKind) (eq-eqb (6 + size) (6 + size) refl)
  where
    no_refusal : (b : Bool) → (if b && false then breaks ServerSaidNo else if nat_le 6 (6 + size) && (true && (nat_le 1 size && (nat_le size 128 && ((6 + size) == 6 + size)))) then passed else breaks WrongKind) ≡ (if nat_le 6 (6 + size) && (true && (nat_le 1 size && (nat_le size 128 && ((6 + size) == 6 + size)))) then passed else breaks WrongKind)
    no_refusal true = refl
    no_refusal false = refl

pub hears_challenge : (l : MailLogin) → MayMail l → (b : List ℕ) → b ≡ 9 ∷ (counted_by (length (challenge l)) ++ challenge l) → move l.server (ServerAsk l.server_key) (heard b) ≡ goes (ServerFirst l.server_key (challenge l)) g.Ok []
hears_challenge l may b is =
    let front = counted_by (length (challenge l)) in
    let five = length_counted (length (challenge l)) (few_bytes l may) in
    let tells : length_in (9 ∷ (front ++ challenge l)) ≡ length (challenge l) = ap told_length (take_at front (challenge l) 5 five) ∙ counted_is_told (length (challenge l)) (few_bytes l may) in
    let long : length (9 ∷ (front ++ challenge l)) ≡ 6 + length (challenge l) = omega (arith, length-append front (challenge l), five) in
    ap (challenge_came l.server_key) is
    ∙ granted (length (9 ∷ (front ++ challenge l))) (length_in (9 ∷ (front ++ challenge l))) (length (challenge l)) (goes (ServerFirst l.server_key (drop 5 (front ++ challenge l))) g.Ok []) long tells
    (omega (arith, challenge_long l may)) (omega (arith, few_bytes l may))
    ∙ ap (λ text. goes (ServerFirst l.server_key text) g.Ok []) (drop_at front (challenge l) 5 five)

server_2 : (l : MailLogin) → MayMail l → Passes l.server (server_started l) (heard (answer l.known l.before (asked_first l))) (ServerFirst l.server_key (challenge l)) g.Ok []
server_2 l may = passes_by l.server (server_started l) (heard (answer l.known l.before (asked_first l))) (ServerAsk l.server_key) (ServerFirst l.server_key (challenge l)) g.Ok [] (server_1 l may).course (hears_challenge l may _ (challenge_comes l may ∙ spelled (challenge l)))

server_3 : (l : MailLogin) → MayMail l → Passes l.server (server_heard l) get (ServerSecond l.server_key (challenge l)) g.Ok (challenge l)
server_3 l may = passes_by l.server (server_heard l) get (ServerFirst l.server_key (challenge l)) (ServerSecond l.server_key (challenge l)) g.Ok (challenge l) (server_2 l may).course refl

-- ---- the client answers it

pub client_0 : (l : MailLogin) → MayMail l → course l.client [] ≡ at ClientFirst
client_0 l may = ap (λ side. at (first_stage side)) may.client_side

pub is_challenged : (l : MailLogin) → MayMail l → (b : List ℕ) → b ≡ challenge l → move l.client ClientFirst (give b) ≡ goes (ClientKey (challenge l)) g.Wait []
is_challenged l may b is = ap challenge_given is ∙ bounded_whole MOST_CHALLENGE (challenge l) (goes (ClientKey (challenge l)) g.Wait []) (omega (arith, challenge_long l may)) (omega (arith, few_bytes l may))

client_1 : (l : MailLogin) → MayMail l → Passes l.client [] (give (puts_after l.server (server_heard l) get)) (ClientKey (challenge l)) g.Wait []
client_1 l may = passes_by l.client [] (give (puts_after l.server (server_heard l) get)) ClientFirst (ClientKey (challenge l)) g.Wait [] (client_0 l may) (is_challenged l may _ (server_3 l may).puts)

client_2 : (l : MailLogin) → MayMail l → Passes l.client (give (puts_after l.server (server_heard l) get) ∷ []) (found l.client_key (Some l.password)) (ClientSecond (challenge l) l.password) g.Ok []
client_2 l may = passes_by l.client (give (puts_after l.server (server_heard l) get) ∷ []) (found l.client_key (Some l.password)) (ClientKey (challenge l)) (ClientSecond (challenge l) l.password) g.Ok [] (client_1 l may).course refl

client_3 : (l : MailLogin) → MayMail l → Passes l.client (client_challenged l) get (ClientDone (challenge l) l.password) g.Ok (digits_by (proto_of l.client.template) (challenge l) l.password)
client_3 l may = passes_by l.client (client_challenged l) get (ClientSecond (challenge l) l.password) (ClientDone (challenge l) l.password) g.Ok (digits_by (proto_of l.client.template) (challenge l) l.password) (client_2 l may).course refl

-- ---- the server is given the user and his digits

user_fits : (l : MailLogin) → MayMail l → NoneFails (user_tests l.user)
user_fits l may = (ap (λ (user : Bool). not user || not (is_text l.user)) may.user_form ∙ ap not may.user.fits.short.text, tt)

pub names_user : (l : MailLogin) → MayMail l → move l.server (ServerSecond l.server_key (challenge l)) (give l.user) ≡ goes (ServerThird l.server_key (challenge l) l.user) g.Ok []
names_user l may =
    bounded_whole 27 l.user (tested (user_tests l.user) (goes (ServerThird l.server_key (challenge l) l.user) g.Ok [])) may.user.some (omega (arith, may.user.fits.short.short))
    ∙ tested_well (user_tests l.user) (goes (ServerThird l.server_key (challenge l) l.user) g.Ok []) (user_fits l may)

server_4 : (l : MailLogin) → MayMail l → Passes l.server (get ∷ server_heard l) (give l.user) (ServerThird l.server_key (challenge l) l.user) g.Ok []
server_4 l may = passes_by l.server (get ∷ server_heard l) (give l.user) (ServerSecond l.server_key (challenge l)) (ServerThird l.server_key (challenge l) l.user) g.Ok [] (server_3 l may).course (names_user l may)

pub answers_it : (l : MailLogin) → MayMail l → (b : List ℕ) → b ≡ digits_by (proto_of l.client.template) (challenge l) l.password → move l.server (ServerThird l.server_key (challenge l) l.user) (give b) ≡ goes (ServerVouch l.server_key (challenge l) l.user (digits l)) g.Wait []
answers_it l may b is =
    ap (digits_came l.server_key (challenge l) l.user) (is ∙ ap (λ p. digits_by p (challenge l) l.password) may.same_proto)
    ∙ sized_whole 32 (digits l) (goes (ServerVouch l.server_key (challenge l) l.user (digits l)) g.Wait []) (length_digits (proto l) (challenge l) l.password)

server_5 : (l : MailLogin) → MayMail l → Passes l.server (give l.user ∷ get ∷ server_heard l) (give (puts_after l.client (client_challenged l) get)) (ServerVouch l.server_key (challenge l) l.user (digits l)) g.Wait []
server_5 l may = passes_by l.server (give l.user ∷ get ∷ server_heard l) (give (puts_after l.client (client_challenged l) get)) (ServerThird l.server_key (challenge l) l.user) (ServerVouch l.server_key (challenge l) l.user (digits l)) g.Wait [] (server_4 l may).course (answers_it l may _ (client_3 l may).puts)

-- ---- the authentication server vouches

then_is : (l : MailLogin) → MayMail l → asked_then l ≡ asked_so (then_request l) l.later_words
then_is l may = ap (λ p. asked_so (question_in (need_at l.server p)) l.later_words) (server_5 l may).course

-- what stands in the front of some bytes stands in them
in_front : (at size : ℕ) (front rest : List ℕ) → at + size ≤ length front → field at size (front ++ rest) ≡ field at size front
in_front at size front rest within =
    ap (take size) (drop-append-le at front rest (omega (arith, within)))
    ∙ take-append-le size (drop at front) rest (omega (arith, within, length-drop at front))

pub then_read : (l : MailLogin) → MayMail l → request_of (then_request l) ≡ Ok (request_about l.user l)
then_read l may =
    let front = request_text (request_about l.user l) in
    let is = request_written (request_about l.user l) (fits_then l may) in
    let long = length_request (request_about l.user l) (fits_then l may) in
    request_again (then_request l) (request_about l.user l) (record {
      whole = omega (arith, long, length-append front (digits l));
      kind = is_first front (digits l) long ∙ is.kind;
      authid = subst (λ b. HoldsName b l.server_key.user) (sym (in_front 1 28 front (digits l) (omega (arith, long)))) is.authid;
      authdom = subst (λ b. HoldsName b l.server_key.dom) (sym (in_front 29 48 front (digits l) (omega (arith, long)))) is.authdom;
      chal = in_front 77 8 front (digits l) (omega (arith, long)) ∙ is.chal;
      hostid = subst (λ b. HoldsName b l.server_key.user) (sym (in_front 85 28 front (digits l) (omega (arith, long)))) is.hostid;
      uid = subst (λ b. HoldsName b l.user) (sym (in_front 113 28 front (digits l) (omega (arith, long)))) is.uid;
    })
  where
    is_first : (front rest : List ℕ) → length front ≡ 141 → slice_index (front ++ rest) 0 ≡ slice_index front 0
    is_first [] rest long = absurd (omega (arith, long))
    is_first (b ∷ front) rest long = refl

-- the challenge that is held behind the first request
abbrev pub given_out : MailLogin → Challenge
given_out l = record { kind = request_kind (proto l); text = challenge l }

pub held_is : (l : MailLogin) → MayMail l → held l.known (asked_so (first_request l) l.words ∷ l.before) ≡ Some (given_out l)
held_is l may =
    let asked = asked_so (first_request l) l.words in
    let r = request_about [] l in
    let before = held l.known l.before in
    ap (held_after l.known asked before) (request_read r (fits_first l may))
    ∙ ap (λ (tickets : Bool). if tickets then before else held_mail l.known asked r before (judged l.known asked r before)) (is_mail (proto l))
    ∙ ap (held_mail l.known asked r before) (comes_first l.known asked r before may.unheld)

same_digits : (p : Proto) (challenge password : List ℕ) → digits_for (request_kind p) challenge password ≡ digits_by p challenge password
same_digits Apop challenge password = refl
same_digits Cram challenge password = refl

pub right : (l : MailLogin) → MayMail l → is_right l.known (then_request l) (request_about l.user l) (challenge l) ≡ true
right l may =
    ap (λ d. are_digits (request_kind (proto l)) (challenge l) d (password_of (l.known.key l.user))) (drop_at (request_text (request_about l.user l)) (digits l) 141 (length_request (request_about l.user l) (fits_then l may)))
    ∙ ap (λ key. are_digits (request_kind (proto l)) (challenge l) (digits l) (password_of key)) may.right.knows
    ∙ ap (are_digits (request_kind (proto l)) (challenge l) (digits l)) may.right.same
    ∙ same_as (digits l) (digits_for (request_kind (proto l)) (challenge l) l.password) (sym (same_digits (proto l) (challenge l) l.password))

answered_right : (l : MailLogin) → MayMail l → mail_answer l.known (asked_so (then_request l) l.later_words) (request_about l.user l) (judged l.known (asked_so (then_request l) l.later_words) (request_about l.user l) (Some (given_out l))) ≡ vouch l.known l.later_words (request_about l.user l)
answered_right l may =
    let kinds : (request_kind (proto l) == request_kind (proto l)) ≡ true = eq-eqb (request_kind (proto l)) (request_kind (proto l)) refl in
    rw (kinds, right l may) refl

pub vouch_is : (l : MailLogin) → MayMail l → answer l.known (asked_so (first_request l) l.words ∷ l.before) (asked_so (then_request l) l.later_words) ≡ vouch l.known l.later_words (request_about l.user l)
unfolding answer_in
vouch_is l may =
    let asked = asked_so (then_request l) l.later_words in
    let r = request_about l.user l in
    ap (answer_to l.known asked (held l.known (asked_so (first_request l) l.words ∷ l.before))) (then_read l may)
    ∙ ap (λ held. answer_to l.known asked held (Ok r)) (held_is l may)
    ∙ ap (λ (tickets : Bool). if tickets then grant l.known l.later_words r else mail_answer l.known asked r (judged l.known asked r (Some (given_out l)))) (is_mail (proto l))
    ∙ answered_right l may

pub vouch_spelled : (l : MailLogin) → MayMail l → vouch l.known l.later_words (request_about l.user l) ≡ 4 ∷ both l
unfolding vouch_text
vouch_spelled l may =
    ap (λ key. vouch_text (request_about l.user l) (shared_key l.later_words) (key_or key (word 1 l.later_words))) may.server_known.knows
    ∙ ap (vouch_text (request_about l.user l) (shared_key l.later_words)) may.server_known.same

vouch_comes : (l : MailLogin) → MayMail l → answer l.known (asked_first l ∷ l.before) (asked_then l) ≡ 4 ∷ both l
vouch_comes l may =
    ap (λ asked. answer l.known (asked ∷ l.before) (asked_then l)) (first_is l may)
    ∙ ap (answer l.known (asked_so (first_request l) l.words ∷ l.before)) (then_is l may)
    ∙ vouch_is l may ∙ vouch_spelled l may

length_both : (l : MailLogin) → MayMail l → length (4 ∷ both l) ≡ 86
length_both l may = omega (arith, length-append (sealed_ticket l) (sealed_proof l), length_sealed_ticket l.server_key.des.0 (ticket l) (fits_ticket l may), length_sealed_authenticator (shared_key l.later_words) (proof l) may.server_word.whole)

pub opens : (l : MailLogin) → MayMail l → ticket_of (opened l.server_key.des.0 (ticket_part (both l))) ≡ Ok (ticket l)
opens l may = ticket_in_front l.server_key.des.0 (sealed_proof l) (ticket l) (fits_ticket l may)

proof_there : (l : MailLogin) → MayMail l → proof_under (ticket l) (rest_part (both l)) ≡ proof l
proof_there l may = ap (proof_under (ticket l)) (rest_behind l.server_key.des.0 (sealed_proof l) (ticket l) (fits_ticket l may)) ∙ authenticator_opened (shared_key l.later_words) (proof l) (fits_proof l may)

vouch_fits : (l : MailLogin) → NoneFails (vouch_tests l.server l.user (ticket l) (proof l))
vouch_fits l = (refl, (ap not (same l.server.word), (ap (λ (cuid : Bool). not cuid || not (bytes_eq l.user l.user)) (same l.user) ∙ ap not (same l.user), (refl, (ap not (same l.server.word), tt)))))

of_86 : (long : ℕ) (passed : Verdict Stage) → long ≡ 86 → (if (long == 65) && false then breaks ServerSaidNo else if (long == 86) && true then passed else breaks WrongKind) ≡ passed
of_86 long passed is = ap (λ (long : ℕ). if (long == 65) && false then breaks ServerSaidNo else if (long == 86) && true then passed else breaks WrongKind) is

pub hears_vouch : (l : MailLogin) → MayMail l → (b : List ℕ) → b ≡ 4 ∷ both l → move l.server (ServerVouch l.server_key (challenge l) l.user (digits l)) (heard b) ≡ goes (ServerDone l.server_key (challenge l) l.user (digits l) (both l)) g.Ok []
hears_vouch l may b is =
    let done : Verdict Stage = goes (ServerDone l.server_key (challenge l) l.user (digits l) (both l)) g.Ok [] in
    ap (vouch_came l.server l.server_key (challenge l) l.user (digits l)) is
    ∙ of_86 (length (4 ∷ both l)) (vouch_opened l.server l.server_key (challenge l) l.user (digits l) (both l)) (length_both l may)
    ∙ ap (λ t. with_ticket BadKey t (λ ticket. tested (vouch_tests l.server l.user ticket (proof_under ticket (rest_part (both l)))) done)) (opens l may)
    ∙ ap (λ a. tested (vouch_tests l.server l.user (ticket l) a) done) (proof_there l may)
    ∙ tested_well (vouch_tests l.server l.user (ticket l) (proof l)) done (vouch_fits l)

server_6 : (l : MailLogin) → MayMail l → Passes l.server (server_answered l) (heard (answer l.known (asked_first l ∷ l.before) (asked_then l))) (ServerDone l.server_key (challenge l) l.user (digits l) (both l)) g.Ok []
server_6 l may = passes_by l.server (server_answered l) (heard (answer l.known (asked_first l ∷ l.before) (asked_then l))) (ServerVouch l.server_key (challenge l) l.user (digits l)) (ServerDone l.server_key (challenge l) l.user (digits l) (both l)) g.Ok [] (server_5 l may).course (hears_vouch l may _ (vouch_comes l may))

-- ---- the whole

pub mail_login_ends : (l : MailLogin) → MayMail l → MailsIn l
mail_login_ends l may = record {
  client_well = (well_of (client_3 l may) tt, (well_of (client_2 l may) tt, (well_of (client_1 l may) tt, tt)));
  server_well = (well_of (server_6 l may) tt, (well_of (server_5 l may) tt, (well_of (server_4 l may) tt, (well_of (server_3 l may) tt, (well_of (server_2 l may) tt, (well_of (server_1 l may) tt, tt))))));
  client_finishes = ap outcome_at (client_3 l may).course;
  server_accepts = ap outcome_at (server_6 l may).course ∙ ap (accepted BadKey) (opens l may);
  client_ends = ap (λ p. is_last p.stage) (client_3 l may).course;
  server_ends = ap (λ p. is_last p.stage) (server_6 l may).course;
}
