-- The roles of p9sk1 are as roles should be.
use Rattle.std.proofs.Common.{◌≡◌, ℕ, List, [], ◌∷◌, true, false, Option, Some, None, Result, Ok, Err, drop, refl, sym, ap, ◌∙◌}
use Rattle.sealing.specs.Request.{request_of}
use Rattle.sealing.specs.declared.fault.FieldFault.{FieldFault}
use Rattle.sealing.specs.declared.kind.TheConstants.{AUTH_AS}
use Rattle.sealing.specs.declared.request.TicketReq.{TicketReq}
use Rattle.sealing.specs.declared.ticket.Ticket.{Ticket}
use Rattle.roles.specs.declared.answer.Cause.{Cause}
use Rattle.roles.specs.declared.answer.Cause.TheVariants.{BadKey, WrongKind}
use Rattle.roles.specs.declared.answer.Gave.TheVariants as g
use Rattle.roles.specs.declared.key.SkKey.{SkKey}
use Rattle.roles.specs.declared.need.Need.TheVariants.{Nothing, Key}
use Rattle.roles.specs.declared.need.Outcome.TheVariants.{Running}
use Rattle.roles.specs.declared.stage.Role.{Role}
use Rattle.roles.specs.declared.stage.Role.TheVariants.{Client, Server, Speakfor}
use Rattle.roles.specs.declared.stage.Stage.{Stage}
use Rattle.roles.specs.declared.stage.Stage.TheVariants.{ClientFirst, ClientSecond, ClientKey, ClientAsk, ClientThird, ClientFourth, ClientDone, ServerKey, ServerFirst, ServerSecond, ServerThird, ServerFourth, ServerDone}
use Rattle.roles.specs.Answers.{is_sought}
use Rattle.roles.specs.Clients.{grants_tickets, is_refusal, proof_tests, request_tests, ticket_tests, tickets_came}
use Rattle.roles.specs.Servers.{shown_tests}
use Rattle.roles.specs.Courses.{accepted, answer_need, answer_of, course, first_stage, key_need, move, need_after, need_at, need_of, outcome_at, outcome_of, then_course, verdict}
use Rattle.roles.specs.Starts.{Start, role_of}
use Rattle.roles.specs.Templates.{asked_first, asked_in}
use Rattle.roles.specs.Talks.{Call, Progress, Verdict, found, get, give, goes, heard, offered, picked, roomless, undone, unheard}
use Rattle.roles.specs.Tickets.{proof_for, proof_under, rest_part, ticket_part, ticket_under, with_ticket}
use Rattle.conv_p9any.specs.Talks.{needs_any}
use Rattle.talks.specs.Protocols.{P9sk1, is_over}
use Rattle.wire_histories.specs.Conversations.{end_by, is_asked, is_given, is_taken, meets, speaks}
use Rattle.world_promises.specs.Roles.{IsRole}
use Rattle.world_promises.proofs.RoleForms.{either, meets_key, none_any, none_met, none_sought, refusal_room, request_by, same_end, sized_by, tested_by, ticket_by}

abbrev at : Stage → Option Cause → Progress Stage
at stage broken = record { stage = stage; broken = broken }

-- how far a call leads
abbrev next : Start → Progress Stage → Call → Progress Stage
next start p call = then_course p (verdict start p call)

-- ---- no answer is want of memory

abbrev HasRoom : Verdict Stage → Type 0
HasRoom v = answer_of v ≡ g.NoMemory → ⊥

tickets_room : (start : Start) (request : List ℕ) (key : SkKey) (tickets : List ℕ) → HasRoom (tickets_came start request key tickets)
tickets_room start request key tickets = ticket_by (HasRoom) BadKey (ticket_under key (ticket_part tickets)) _ (λ e. cc e) (λ ticket. tested_by (HasRoom) (ticket_tests start request key ticket) _ (refusal_room) (λ e. cc e))

move_room : (start : Start) (stage : Stage) (call : Call) → HasRoom (move start stage call)
move_room start ClientFirst (give b) = λ e. cc e
move_room start ClientFirst get = λ e. cc e
move_room start ClientFirst (found k pw) = λ e. cc e
move_room start ClientFirst (heard b) = λ e. cc e
move_room start ClientFirst unheard = λ e. cc e
move_room start ClientFirst roomless = λ e. cc e
move_room start ClientFirst undone = λ e. cc e
move_room start ClientFirst (offered list) = λ e. cc e
move_room start ClientFirst (picked place) = λ e. cc e
move_room start ClientSecond (give b) = sized_by (HasRoom) 141 b _ (λ e. cc e) (λ e. cc e) (request_by (HasRoom) WrongKind (request_of b) _ (λ e. cc e) (λ r is. tested_by (HasRoom) (request_tests start r) _ (refusal_room) (λ e. cc e)))
move_room start ClientSecond get = λ e. cc e
move_room start ClientSecond (found k pw) = λ e. cc e
move_room start ClientSecond (heard b) = λ e. cc e
move_room start ClientSecond unheard = λ e. cc e
move_room start ClientSecond roomless = λ e. cc e
move_room start ClientSecond undone = λ e. cc e
move_room start ClientSecond (offered list) = λ e. cc e
move_room start ClientSecond (picked place) = λ e. cc e
move_room start (ClientKey request) (give b) = λ e. cc e
move_room start (ClientKey request) get = λ e. cc e
move_room start (ClientKey request) (found k pw) = request_by HasRoom WrongKind (request_of request) _ (λ e. cc e) (λ r is. λ e. cc e)
move_room start (ClientKey request) (heard b) = λ e. cc e
move_room start (ClientKey request) unheard = λ e. cc e
move_room start (ClientKey request) roomless = λ e. cc e
move_room start (ClientKey request) undone = λ e. cc e
move_room start (ClientKey request) (offered list) = λ e. cc e
move_room start (ClientKey request) (picked place) = λ e. cc e
move_room start (ClientAsk request key) (give b) = λ e. cc e
move_room start (ClientAsk request key) get = λ e. cc e
move_room start (ClientAsk request key) (found k pw) = λ e. cc e
move_room start (ClientAsk request key) (heard b) = either (HasRoom) (is_refusal b) _ _ (λ e. cc e) (either (HasRoom) (grants_tickets b) _ _ (tickets_room start request key (drop 1 b)) (λ e. cc e))
move_room start (ClientAsk request key) unheard = λ e. cc e
move_room start (ClientAsk request key) roomless = λ e. cc e
move_room start (ClientAsk request key) undone = λ e. cc e
move_room start (ClientAsk request key) (offered list) = λ e. cc e
move_room start (ClientAsk request key) (picked place) = λ e. cc e
move_room start (ClientThird request key tickets) (give b) = λ e. cc e
move_room start (ClientThird request key tickets) get = ticket_by HasRoom BadKey (ticket_under key (ticket_part tickets)) _ (λ e. cc e) (λ t. λ e. cc e)
move_room start (ClientThird request key tickets) (found k pw) = λ e. cc e
move_room start (ClientThird request key tickets) (heard b) = λ e. cc e
move_room start (ClientThird request key tickets) unheard = λ e. cc e
move_room start (ClientThird request key tickets) roomless = λ e. cc e
move_room start (ClientThird request key tickets) undone = λ e. cc e
move_room start (ClientThird request key tickets) (offered list) = λ e. cc e
move_room start (ClientThird request key tickets) (picked place) = λ e. cc e
move_room start (ClientFourth request key tickets) (give b) = sized_by (HasRoom) 13 b _ (λ e. cc e) (λ e. cc e) (ticket_by (HasRoom) BadKey (ticket_under key (ticket_part tickets)) _ (λ e. cc e) (λ ticket. tested_by (HasRoom) (proof_tests AUTH_AS start.word (proof_under ticket b)) _ (refusal_room) (λ e. cc e)))
move_room start (ClientFourth request key tickets) get = λ e. cc e
move_room start (ClientFourth request key tickets) (found k pw) = λ e. cc e
move_room start (ClientFourth request key tickets) (heard b) = λ e. cc e
move_room start (ClientFourth request key tickets) unheard = λ e. cc e
move_room start (ClientFourth request key tickets) roomless = λ e. cc e
move_room start (ClientFourth request key tickets) undone = λ e. cc e
move_room start (ClientFourth request key tickets) (offered list) = λ e. cc e
move_room start (ClientFourth request key tickets) (picked place) = λ e. cc e
move_room start (ClientDone request key tickets proof) call = λ e. cc e
move_room start ServerKey (give b) = λ e. cc e
move_room start ServerKey get = λ e. cc e
move_room start ServerKey (found k pw) = λ e. cc e
move_room start ServerKey (heard b) = λ e. cc e
move_room start ServerKey unheard = λ e. cc e
move_room start ServerKey roomless = λ e. cc e
move_room start ServerKey undone = λ e. cc e
move_room start ServerKey (offered list) = λ e. cc e
move_room start ServerKey (picked place) = λ e. cc e
move_room start (ServerFirst key) (give b) = sized_by (HasRoom) 8 b _ (λ e. cc e) (λ e. cc e) (λ e. cc e)
move_room start (ServerFirst key) get = λ e. cc e
move_room start (ServerFirst key) (found k pw) = λ e. cc e
move_room start (ServerFirst key) (heard b) = λ e. cc e
move_room start (ServerFirst key) unheard = λ e. cc e
move_room start (ServerFirst key) roomless = λ e. cc e
move_room start (ServerFirst key) undone = λ e. cc e
move_room start (ServerFirst key) (offered list) = λ e. cc e
move_room start (ServerFirst key) (picked place) = λ e. cc e
move_room start (ServerSecond key theirs) (give b) = λ e. cc e
move_room start (ServerSecond key theirs) get = λ e. cc e
move_room start (ServerSecond key theirs) (found k pw) = λ e. cc e
move_room start (ServerSecond key theirs) (heard b) = λ e. cc e
move_room start (ServerSecond key theirs) unheard = λ e. cc e
move_room start (ServerSecond key theirs) roomless = λ e. cc e
move_room start (ServerSecond key theirs) undone = λ e. cc e
move_room start (ServerSecond key theirs) (offered list) = λ e. cc e
move_room start (ServerSecond key theirs) (picked place) = λ e. cc e
move_room start (ServerThird key theirs) (give b) = sized_by (HasRoom) 85 b _ (λ e. cc e) (λ e. cc e) (ticket_by (HasRoom) WrongKind (ticket_under key (ticket_part b)) _ (λ e. cc e) (λ ticket. tested_by (HasRoom) (shown_tests start ticket (proof_under ticket (rest_part b))) _ (refusal_room) (λ e. cc e)))
move_room start (ServerThird key theirs) get = λ e. cc e
move_room start (ServerThird key theirs) (found k pw) = λ e. cc e
move_room start (ServerThird key theirs) (heard b) = λ e. cc e
move_room start (ServerThird key theirs) unheard = λ e. cc e
move_room start (ServerThird key theirs) roomless = λ e. cc e
move_room start (ServerThird key theirs) undone = λ e. cc e
move_room start (ServerThird key theirs) (offered list) = λ e. cc e
move_room start (ServerThird key theirs) (picked place) = λ e. cc e
move_room start (ServerFourth key theirs shown) (give b) = λ e. cc e
move_room start (ServerFourth key theirs shown) get = ticket_by HasRoom WrongKind (ticket_under key (ticket_part shown)) _ (λ e. cc e) (λ t. λ e. cc e)
move_room start (ServerFourth key theirs shown) (found k pw) = λ e. cc e
move_room start (ServerFourth key theirs shown) (heard b) = λ e. cc e
move_room start (ServerFourth key theirs shown) unheard = λ e. cc e
move_room start (ServerFourth key theirs shown) roomless = λ e. cc e
move_room start (ServerFourth key theirs shown) undone = λ e. cc e
move_room start (ServerFourth key theirs shown) (offered list) = λ e. cc e
move_room start (ServerFourth key theirs shown) (picked place) = λ e. cc e
move_room start (ServerDone key theirs shown) call = λ e. cc e

room : (start : Start) (stage : Stage) (broken : Option Cause) (call : Call) → HasRoom (verdict start (at stage broken) call)
room start stage None call = move_room start stage call
room start stage (Some cause) call = λ e. cc e

-- ---- requests that were taken can be read

abbrev Parses : List ℕ → Type 0
Parses request = (r : TicketReq) × (request_of request ≡ Ok r)

abbrev pub IsSound : Stage → Type 0
IsSound (ClientKey request) = Parses request
IsSound (ClientAsk request key) = Parses request
IsSound stage = Unit {0}

-- where a verdict leads
abbrev LeadsTo : Progress Stage → Verdict Stage → Type 0
LeadsTo p v = IsSound (then_course p v).stage

tickets_sound : (start : Start) (request : List ℕ) (key : SkKey) (tickets : List ℕ) → Parses request → LeadsTo (at (ClientAsk request key) None) (tickets_came start request key tickets)
tickets_sound start request key tickets so = ticket_by (LeadsTo (at (ClientAsk request key) None)) BadKey (ticket_under key (ticket_part tickets)) _ so (λ ticket. tested_by (LeadsTo (at (ClientAsk request key) None)) (ticket_tests start request key ticket) _ (λ cause. so) tt)

move_sound : (start : Start) (stage : Stage) (call : Call) → IsSound stage → LeadsTo (at stage None) (move start stage call)
move_sound start ClientFirst (give b) so = tt
move_sound start ClientFirst get so = tt
move_sound start ClientFirst (found k pw) so = tt
move_sound start ClientFirst (heard b) so = tt
move_sound start ClientFirst unheard so = tt
move_sound start ClientFirst roomless so = tt
move_sound start ClientFirst undone so = tt
move_sound start ClientFirst (offered list) so = tt
move_sound start ClientFirst (picked place) so = tt
move_sound start ClientSecond (give b) so = sized_by (LeadsTo (at ClientSecond None)) 141 b _ (tt) (tt) (request_by (LeadsTo (at ClientSecond None)) WrongKind (request_of b) _ (tt) (λ r is. tested_by (LeadsTo (at ClientSecond None)) (request_tests start r) _ (λ cause. tt) (r, is)))
move_sound start ClientSecond get so = tt
move_sound start ClientSecond (found k pw) so = tt
move_sound start ClientSecond (heard b) so = tt
move_sound start ClientSecond unheard so = tt
move_sound start ClientSecond roomless so = tt
move_sound start ClientSecond undone so = tt
move_sound start ClientSecond (offered list) so = tt
move_sound start ClientSecond (picked place) so = tt
move_sound start (ClientKey request) (give b) so = so
move_sound start (ClientKey request) get so = so
move_sound start (ClientKey request) (found k pw) so = request_by (LeadsTo (at (ClientKey request) None)) WrongKind (request_of request) _ so (λ r is. so)
move_sound start (ClientKey request) (heard b) so = so
move_sound start (ClientKey request) unheard so = so
move_sound start (ClientKey request) roomless so = so
move_sound start (ClientKey request) undone so = tt
move_sound start (ClientKey request) (offered list) so = so
move_sound start (ClientKey request) (picked place) so = so
move_sound start (ClientAsk request key) (give b) so = so
move_sound start (ClientAsk request key) get so = so
move_sound start (ClientAsk request key) (found k pw) so = so
move_sound start (ClientAsk request key) (heard b) so = either (LeadsTo (at (ClientAsk request key) None)) (is_refusal b) _ _ (so) (either (LeadsTo (at (ClientAsk request key) None)) (grants_tickets b) _ _ (tickets_sound start request key (drop 1 b) so) (so))
move_sound start (ClientAsk request key) unheard so = so
move_sound start (ClientAsk request key) roomless so = so
move_sound start (ClientAsk request key) undone so = so
move_sound start (ClientAsk request key) (offered list) so = so
move_sound start (ClientAsk request key) (picked place) so = so
move_sound start (ClientThird request key tickets) (give b) so = tt
move_sound start (ClientThird request key tickets) get so = ticket_by (LeadsTo (at (ClientThird request key tickets) None)) BadKey (ticket_under key (ticket_part tickets)) _ tt (λ t. tt)
move_sound start (ClientThird request key tickets) (found k pw) so = tt
move_sound start (ClientThird request key tickets) (heard b) so = tt
move_sound start (ClientThird request key tickets) unheard so = tt
move_sound start (ClientThird request key tickets) roomless so = tt
move_sound start (ClientThird request key tickets) undone so = tt
move_sound start (ClientThird request key tickets) (offered list) so = tt
move_sound start (ClientThird request key tickets) (picked place) so = tt
move_sound start (ClientFourth request key tickets) (give b) so = sized_by (LeadsTo (at (ClientFourth request key tickets) None)) 13 b _ (tt) (tt) (ticket_by (LeadsTo (at (ClientFourth request key tickets) None)) BadKey (ticket_under key (ticket_part tickets)) _ (tt) (λ ticket. tested_by (LeadsTo (at (ClientFourth request key tickets) None)) (proof_tests AUTH_AS start.word (proof_under ticket b)) _ (λ cause. tt) (tt)))
move_sound start (ClientFourth request key tickets) get so = tt
move_sound start (ClientFourth request key tickets) (found k pw) so = tt
move_sound start (ClientFourth request key tickets) (heard b) so = tt
move_sound start (ClientFourth request key tickets) unheard so = tt
move_sound start (ClientFourth request key tickets) roomless so = tt
move_sound start (ClientFourth request key tickets) undone so = tt
move_sound start (ClientFourth request key tickets) (offered list) so = tt
move_sound start (ClientFourth request key tickets) (picked place) so = tt
move_sound start (ClientDone request key tickets proof) call so = tt
move_sound start ServerKey (give b) so = tt
move_sound start ServerKey get so = tt
move_sound start ServerKey (found k pw) so = tt
move_sound start ServerKey (heard b) so = tt
move_sound start ServerKey unheard so = tt
move_sound start ServerKey roomless so = tt
move_sound start ServerKey undone so = tt
move_sound start ServerKey (offered list) so = tt
move_sound start ServerKey (picked place) so = tt
move_sound start (ServerFirst key) (give b) so = sized_by (LeadsTo (at (ServerFirst key) None)) 8 b _ (tt) (tt) (tt)
move_sound start (ServerFirst key) get so = tt
move_sound start (ServerFirst key) (found k pw) so = tt
move_sound start (ServerFirst key) (heard b) so = tt
move_sound start (ServerFirst key) unheard so = tt
move_sound start (ServerFirst key) roomless so = tt
move_sound start (ServerFirst key) undone so = tt
move_sound start (ServerFirst key) (offered list) so = tt
move_sound start (ServerFirst key) (picked place) so = tt
move_sound start (ServerSecond key theirs) (give b) so = tt
move_sound start (ServerSecond key theirs) get so = tt
move_sound start (ServerSecond key theirs) (found k pw) so = tt
move_sound start (ServerSecond key theirs) (heard b) so = tt
move_sound start (ServerSecond key theirs) unheard so = tt
move_sound start (ServerSecond key theirs) roomless so = tt
move_sound start (ServerSecond key theirs) undone so = tt
move_sound start (ServerSecond key theirs) (offered list) so = tt
move_sound start (ServerSecond key theirs) (picked place) so = tt
move_sound start (ServerThird key theirs) (give b) so = sized_by (LeadsTo (at (ServerThird key theirs) None)) 85 b _ (tt) (tt) (ticket_by (LeadsTo (at (ServerThird key theirs) None)) WrongKind (ticket_under key (ticket_part b)) _ (tt) (λ ticket. tested_by (LeadsTo (at (ServerThird key theirs) None)) (shown_tests start ticket (proof_under ticket (rest_part b))) _ (λ cause. tt) (tt)))
move_sound start (ServerThird key theirs) get so = tt
move_sound start (ServerThird key theirs) (found k pw) so = tt
move_sound start (ServerThird key theirs) (heard b) so = tt
move_sound start (ServerThird key theirs) unheard so = tt
move_sound start (ServerThird key theirs) roomless so = tt
move_sound start (ServerThird key theirs) undone so = tt
move_sound start (ServerThird key theirs) (offered list) so = tt
move_sound start (ServerThird key theirs) (picked place) so = tt
move_sound start (ServerFourth key theirs shown) (give b) so = tt
move_sound start (ServerFourth key theirs shown) get so = ticket_by (LeadsTo (at (ServerFourth key theirs shown) None)) WrongKind (ticket_under key (ticket_part shown)) _ tt (λ t. tt)
move_sound start (ServerFourth key theirs shown) (found k pw) so = tt
move_sound start (ServerFourth key theirs shown) (heard b) so = tt
move_sound start (ServerFourth key theirs shown) unheard so = tt
move_sound start (ServerFourth key theirs shown) roomless so = tt
move_sound start (ServerFourth key theirs shown) undone so = tt
move_sound start (ServerFourth key theirs shown) (offered list) so = tt
move_sound start (ServerFourth key theirs shown) (picked place) so = tt
move_sound start (ServerDone key theirs shown) call so = tt

next_sound : (start : Start) (stage : Stage) (broken : Option Cause) (call : Call) → IsSound stage → IsSound (next start (at stage broken) call).stage
next_sound start stage None call so = move_sound start stage call so
next_sound start stage (Some cause) call so = so

first_sound : (role : Role) → IsSound (first_stage role)
first_sound Client = tt
first_sound (Speakfor user) = tt
first_sound Server = tt

sound : (start : Start) (talk : List Call) → IsSound (course start talk).stage
sound start [] = first_sound (role_of start.template)
sound start (call ∷ talk) = next_sound start (course start talk).stage (course start talk).broken call (sound start talk)

-- ---- ends

-- the last move tells what the one before it did
fourth : (start : Start) (key : SkKey) (theirs shown : List ℕ) (ticket : Result Ticket FieldFault) → ticket_under key (ticket_part shown) ≡ ticket → outcome_at (then_course (at (ServerFourth key theirs shown) None) (with_ticket WrongKind ticket (λ t. goes (ServerDone key theirs shown) g.Ok (proof_for AUTH_AS theirs t)))) ≡ accepted WrongKind (ticket_under key (ticket_part shown))
fourth start key theirs shown (Ok ticket) is = refl
fourth start key theirs shown (Err fault) is = sym (ap (accepted WrongKind) is)

stays_at : (start : Start) (stage : Stage) (broken : Option Cause) (call : Call) → is_over (outcome_at (at stage broken)) ≡ true → outcome_at (next start (at stage broken) call) ≡ outcome_at (at stage broken)
stays_at start stage (Some cause) call over = refl
stays_at start ClientFirst None call over = cc over
stays_at start ClientSecond None call over = cc over
stays_at start (ClientKey request) None call over = cc over
stays_at start (ClientAsk request key) None call over = cc over
stays_at start (ClientThird request key tickets) None call over = cc over
stays_at start (ClientFourth request key tickets) None call over = cc over
stays_at start (ClientDone request key tickets proof) None call over = refl
stays_at start ServerKey None call over = cc over
stays_at start (ServerFirst key) None call over = cc over
stays_at start (ServerSecond key theirs) None call over = cc over
stays_at start (ServerThird key theirs) None call over = cc over
stays_at start (ServerFourth key theirs shown) None (give b) over = refl
stays_at start (ServerFourth key theirs shown) None get over = fourth start key theirs shown (ticket_under key (ticket_part shown)) refl
stays_at start (ServerFourth key theirs shown) None (found k pw) over = refl
stays_at start (ServerFourth key theirs shown) None (heard b) over = refl
stays_at start (ServerFourth key theirs shown) None unheard over = refl
stays_at start (ServerFourth key theirs shown) None roomless over = refl
stays_at start (ServerFourth key theirs shown) None undone over = refl
stays_at start (ServerFourth key theirs shown) None (offered list) over = refl
stays_at start (ServerFourth key theirs shown) None (picked place) over = refl
stays_at start (ServerDone key theirs shown) None call over = refl

goes_on : (start : Start) (stage : Stage) (broken : Option Cause) → is_sought (need_at start (at stage broken)) ≡ true → outcome_at (at stage broken) ≡ Running
goes_on start stage (Some cause) sought = cc sought
goes_on start ClientFirst None sought = refl
goes_on start ClientSecond None sought = refl
goes_on start (ClientKey request) None sought = refl
goes_on start (ClientAsk request key) None sought = refl
goes_on start (ClientThird request key tickets) None sought = refl
goes_on start (ClientFourth request key tickets) None sought = refl
goes_on start (ClientDone request key tickets proof) None sought = cc sought
goes_on start ServerKey None sought = refl
goes_on start (ServerFirst key) None sought = refl
goes_on start (ServerSecond key theirs) None sought = refl
goes_on start (ServerThird key theirs) None sought = refl
goes_on start (ServerFourth key theirs shown) None sought = cc sought
goes_on start (ServerDone key theirs shown) None sought = cc sought

-- ---- a message is got

abbrev Rests : Start → Progress Stage → Verdict Stage → Type 0
Rests start p v = need_at start (then_course p v) ≡ Nothing

got_at : (start : Start) (stage : Stage) (broken : Option Cause) → need_at start (at stage broken) ≡ Nothing → Rests start (at stage broken) (verdict start (at stage broken) get)
got_at start stage (Some cause) none = refl
got_at start ClientFirst None none = refl
got_at start ClientSecond None none = refl
got_at start (ClientKey request) None none = none
got_at start (ClientAsk request key) None none = none
got_at start (ClientThird request key tickets) None none = ticket_by (Rests start (at (ClientThird request key tickets) None)) BadKey (ticket_under key (ticket_part tickets)) _ refl (λ t. refl)
got_at start (ClientFourth request key tickets) None none = refl
got_at start (ClientDone request key tickets proof) None none = refl
got_at start ServerKey None none = none
got_at start (ServerFirst key) None none = refl
got_at start (ServerSecond key theirs) None none = refl
got_at start (ServerThird key theirs) None none = refl
got_at start (ServerFourth key theirs shown) None none = ticket_by (Rests start (at (ServerFourth key theirs shown) None)) WrongKind (ticket_under key (ticket_part shown)) _ refl (λ t. refl)
got_at start (ServerDone key theirs shown) None none = refl

abbrev Gives : Progress Stage → Verdict Stage → Type 0
Gives p v = is_given (answer_of v) ≡ true → end_by (outcome_at p) (outcome_at (then_course p v)) ≡ []

given_at : (start : Start) (stage : Stage) (broken : Option Cause) → Gives (at stage broken) (verdict start (at stage broken) get)
given_at start stage (Some cause) = λ given. cc
given_at start ClientFirst None = λ given. refl
given_at start ClientSecond None = λ given. cc
given_at start (ClientKey request) None = λ given. cc
given_at start (ClientAsk request key) None = λ given. cc
given_at start (ClientThird request key tickets) None = ticket_by (Gives (at (ClientThird request key tickets) None)) BadKey (ticket_under key (ticket_part tickets)) _ (λ given. cc given) (λ t given. refl)
given_at start (ClientFourth request key tickets) None = λ given. cc
given_at start (ClientDone request key tickets proof) None = λ given. cc given
given_at start ServerKey None = λ given. cc
given_at start (ServerFirst key) None = λ given. cc
given_at start (ServerSecond key theirs) None = λ given. refl
given_at start (ServerThird key theirs) None = λ given. cc
given_at start (ServerFourth key theirs shown) None = λ given. ap (end_by (accepted WrongKind (ticket_under key (ticket_part shown)))) (fourth start key theirs shown (ticket_under key (ticket_part shown)) refl) ∙ same_end (accepted WrongKind (ticket_under key (ticket_part shown)))
given_at start (ServerDone key theirs shown) None = λ given. cc given

abbrev Waits : Verdict Stage → Type 0
Waits v = answer_of v ≡ g.Wait → ⊥

at_once : (start : Start) (stage : Stage) (broken : Option Cause) → IsSound stage → need_at start (at stage broken) ≡ Nothing → Waits (verdict start (at stage broken) get)
at_once start stage (Some cause) so none = λ e. cc e
at_once start ClientFirst None so none = λ e. cc e
at_once start ClientSecond None so none = λ e. cc e
at_once start (ClientKey request) None so none = λ e. cc (sym (ap (key_need start) so.1) ∙ none)
at_once start (ClientAsk request key) None so none = λ e. cc (sym (ap (answer_need start key) so.1) ∙ none)
at_once start (ClientThird request key tickets) None so none = ticket_by Waits BadKey (ticket_under key (ticket_part tickets)) _ (λ e. cc e) (λ t. λ e. cc e)
at_once start (ClientFourth request key tickets) None so none = λ e. cc e
at_once start (ClientDone request key tickets proof) None so none = λ e. cc e
at_once start ServerKey None so none = λ e. cc none
at_once start (ServerFirst key) None so none = λ e. cc e
at_once start (ServerSecond key theirs) None so none = λ e. cc e
at_once start (ServerThird key theirs) None so none = λ e. cc e
at_once start (ServerFourth key theirs shown) None so none = ticket_by Waits WrongKind (ticket_under key (ticket_part shown)) _ (λ e. cc e) (λ t. λ e. cc e)
at_once start (ServerDone key theirs shown) None so none = λ e. cc e

-- ---- bytes are given

-- a verdict by which something is needed takes what was given
abbrev Takes : Start → Progress Stage → Verdict Stage → Type 0
Takes start p v = needs_any (need_at start (then_course p v)) ≡ true → is_taken (answer_of v) ≡ true

taken_at : (start : Start) (stage : Stage) (broken : Option Cause) (b : List ℕ) → need_at start (at stage broken) ≡ Nothing → Takes start (at stage broken) (verdict start (at stage broken) (give b))
taken_at start stage (Some cause) b none = λ e. cc e
taken_at start ClientFirst None b none = λ e. cc e
taken_at start ClientSecond None b none = sized_by (Takes start (at ClientSecond None)) 141 b _ (λ e. cc e) (λ e. cc e) (request_by (Takes start (at ClientSecond None)) WrongKind (request_of b) _ (λ e. cc) (λ r is. tested_by (Takes start (at ClientSecond None)) (request_tests start r) _ (λ cause e. cc e) (λ e. refl)))
taken_at start (ClientKey request) None b none = none_any (need_of start (ClientKey request)) none
taken_at start (ClientAsk request key) None b none = none_any (need_of start (ClientAsk request key)) none
taken_at start (ClientThird request key tickets) None b none = λ e. cc e
taken_at start (ClientFourth request key tickets) None b none = sized_by (Takes start (at (ClientFourth request key tickets) None)) 13 b _ (λ e. cc e) (λ e. cc e) (ticket_by (Takes start (at (ClientFourth request key tickets) None)) BadKey (ticket_under key (ticket_part tickets)) _ (λ e. cc) (λ ticket. tested_by (Takes start (at (ClientFourth request key tickets) None)) (proof_tests AUTH_AS start.word (proof_under ticket b)) _ (λ cause e. cc e) (λ e. cc)))
taken_at start (ClientDone request key tickets proof) None b none = λ e. cc
taken_at start ServerKey None b none = none_any (need_of start ServerKey) none
taken_at start (ServerFirst key) None b none = sized_by (Takes start (at (ServerFirst key) None)) 8 b _ (λ e. cc e) (λ e. cc e) (λ e. cc)
taken_at start (ServerSecond key theirs) None b none = λ e. cc e
taken_at start (ServerThird key theirs) None b none = sized_by (Takes start (at (ServerThird key theirs) None)) 85 b _ (λ e. cc e) (λ e. cc e) (ticket_by (Takes start (at (ServerThird key theirs) None)) WrongKind (ticket_under key (ticket_part b)) _ (λ e. cc) (λ ticket. tested_by (Takes start (at (ServerThird key theirs) None)) (shown_tests start ticket (proof_under ticket (rest_part b))) _ (λ cause e. cc e) (λ e. cc)))
taken_at start (ServerFourth key theirs shown) None b none = λ e. cc e
taken_at start (ServerDone key theirs shown) None b none = λ e. cc

-- what meets the need for a key is a key
key_met : (start : Start) (P : Call → Type 0) (r : Result TicketReq FieldFault) (call : Call) → ((key : SkKey) (password : Option (List ℕ)) → P (found key password)) → meets (key_need start r) call ≡ true → P call
key_met start P (Ok request) call so is = meets_key P (asked_in start request.authdom) call so is
key_met start P (Err fault) call so is = cc is

ask_unsought : (start : Start) (key : SkKey) (r : Result TicketReq FieldFault) → is_sought (answer_need start key r) ≡ false
ask_unsought start key (Ok request) = refl
ask_unsought start key (Err fault) = refl

ask_unmet : {A : Type 0} (start : Start) (key : SkKey) (r : Result TicketReq FieldFault) (call : Call) → meets (answer_need start key r) call ≡ true → A
ask_unmet start key (Ok request) call is = absurd (cc is)
ask_unmet start key (Err fault) call is = absurd (cc is)

key_unasked : {A : Type 0} (start : Start) (r : Result TicketReq FieldFault) → is_asked (key_need start r) ≡ true → A
key_unasked start (Ok request) asked = absurd (cc asked)
key_unasked start (Err fault) asked = absurd (cc asked)

-- a call that meets the need of a verdict leaves nothing to be searched for
abbrev Unsought : Start → Progress Stage → Verdict Stage → Type 0
Unsought start p v = is_sought (need_at start (then_course p v)) ≡ false

abbrev Meets : Start → Progress Stage → Call → Verdict Stage → Type 0
Meets start p call v = meets (need_at start (then_course p v)) call ≡ true → Unsought start (then_course p v) (verdict start (then_course p v) call)

key_one : (start : Start) (request : List ℕ) (call : Call) → meets (key_need start (request_of request)) call ≡ true → Unsought start (at (ClientKey request) None) (move start (ClientKey request) call)
key_one start request call = key_met start (λ c. Unsought start (at (ClientKey request) None) (move start (ClientKey request) c)) (request_of request) call (λ key password.
    request_by (Unsought start (at (ClientKey request) None)) WrongKind (request_of request) _ refl (λ r is. ask_unsought start key (request_of request)))

one_at : (start : Start) (stage : Stage) (broken : Option Cause) (b : List ℕ) (call : Call) → need_at start (at stage broken) ≡ Nothing → Meets start (at stage broken) call (verdict start (at stage broken) (give b))
one_at start stage (Some cause) b call none = λ e. cc
one_at start ClientFirst None b call none = λ e. cc e
one_at start ClientSecond None b call none = sized_by (Meets start (at ClientSecond None) call) 141 b _ (λ e. cc e) (λ e. cc e) (request_by (Meets start (at ClientSecond None) call) WrongKind (request_of b) _ (λ e. cc) (λ r is. tested_by (Meets start (at ClientSecond None) call) (request_tests start r) _ (λ cause e. cc) (key_one start b call)))
one_at start (ClientKey request) None b call none = none_met (need_of start (ClientKey request)) call none
one_at start (ClientAsk request key) None b call none = none_met (need_of start (ClientAsk request key)) call none
one_at start (ClientThird request key tickets) None b call none = λ e. cc e
one_at start (ClientFourth request key tickets) None b call none = sized_by (Meets start (at (ClientFourth request key tickets) None) call) 13 b _ (λ e. cc e) (λ e. cc e) (ticket_by (Meets start (at (ClientFourth request key tickets) None) call) BadKey (ticket_under key (ticket_part tickets)) _ (λ e. cc) (λ ticket. tested_by (Meets start (at (ClientFourth request key tickets) None) call) (proof_tests AUTH_AS start.word (proof_under ticket b)) _ (λ cause e. cc) (λ e. cc)))
one_at start (ClientDone request key tickets proof) None b call none = λ e. cc
one_at start ServerKey None b call none = none_met (need_of start ServerKey) call none
one_at start (ServerFirst key) None b call none = sized_by (Meets start (at (ServerFirst key) None) call) 8 b _ (λ e. cc e) (λ e. cc e) (λ e. cc e)
one_at start (ServerSecond key theirs) None b call none = λ e. cc e
one_at start (ServerThird key theirs) None b call none = sized_by (Meets start (at (ServerThird key theirs) None) call) 85 b _ (λ e. cc e) (λ e. cc e) (ticket_by (Meets start (at (ServerThird key theirs) None) call) WrongKind (ticket_under key (ticket_part b)) _ (λ e. cc) (λ ticket. tested_by (Meets start (at (ServerThird key theirs) None) call) (shown_tests start ticket (proof_under ticket (rest_part b))) _ (λ cause e. cc) (λ e. cc e)))
one_at start (ServerFourth key theirs shown) None b call none = λ e. cc e
one_at start (ServerDone key theirs shown) None b call none = λ e. cc

-- where something is searched for, it is undone
abbrev Undoes : Start → Progress Stage → Verdict Stage → Type 0
Undoes start p v = is_sought (need_at start (then_course p v)) ≡ true → (need_at start (next start (then_course p v) undone) ≡ Nothing) × (outcome_at (next start (then_course p v) undone) ≡ outcome_at p)

undone_at : (start : Start) (stage : Stage) (broken : Option Cause) (b : List ℕ) → need_at start (at stage broken) ≡ Nothing → Undoes start (at stage broken) (verdict start (at stage broken) (give b))
undone_at start stage (Some cause) b none = λ e. cc e
undone_at start ClientFirst None b none = λ e. cc e
undone_at start ClientSecond None b none = sized_by (Undoes start (at ClientSecond None)) 141 b _ (λ e. cc e) (λ e. cc e) (request_by (Undoes start (at ClientSecond None)) WrongKind (request_of b) _ (λ e. cc e) (λ r is. tested_by (Undoes start (at ClientSecond None)) (request_tests start r) _ (λ cause e. cc e) (λ e. (refl, refl))))
undone_at start (ClientKey request) None b none = none_sought (need_of start (ClientKey request)) none
undone_at start (ClientAsk request key) None b none = none_sought (need_of start (ClientAsk request key)) none
undone_at start (ClientThird request key tickets) None b none = λ e. cc e
undone_at start (ClientFourth request key tickets) None b none = sized_by (Undoes start (at (ClientFourth request key tickets) None)) 13 b _ (λ e. cc e) (λ e. cc e) (ticket_by (Undoes start (at (ClientFourth request key tickets) None)) BadKey (ticket_under key (ticket_part tickets)) _ (λ e. cc e) (λ ticket. tested_by (Undoes start (at (ClientFourth request key tickets) None)) (proof_tests AUTH_AS start.word (proof_under ticket b)) _ (λ cause e. cc e) (λ e. cc e)))
undone_at start (ClientDone request key tickets proof) None b none = λ e. cc e
undone_at start ServerKey None b none = none_sought (need_of start ServerKey) none
undone_at start (ServerFirst key) None b none = sized_by (Undoes start (at (ServerFirst key) None)) 8 b _ (λ e. cc e) (λ e. cc e) (λ e. cc e)
undone_at start (ServerSecond key theirs) None b none = λ e. cc e
undone_at start (ServerThird key theirs) None b none = sized_by (Undoes start (at (ServerThird key theirs) None)) 85 b _ (λ e. cc e) (λ e. cc e) (ticket_by (Undoes start (at (ServerThird key theirs) None)) WrongKind (ticket_under key (ticket_part b)) _ (λ e. cc e) (λ ticket. tested_by (Undoes start (at (ServerThird key theirs) None)) (shown_tests start ticket (proof_under ticket (rest_part b))) _ (λ cause e. cc e) (λ e. cc e)))
undone_at start (ServerFourth key theirs shown) None b none = λ e. cc e
undone_at start (ServerDone key theirs shown) None b none = λ e. cc e

-- ---- what is needed comes

abbrev IsTakenBy : Verdict Stage → Type 0
IsTakenBy v = is_taken (answer_of v) ≡ true

met_at : (start : Start) (stage : Stage) (broken : Option Cause) (call : Call) → meets (need_at start (at stage broken)) call ≡ true → IsTakenBy (verdict start (at stage broken) call)
met_at start stage (Some cause) call is = cc is
met_at start ClientFirst None call is = cc is
met_at start ClientSecond None call is = cc is
met_at start (ClientKey request) None call is = key_met start (λ c. IsTakenBy (move start (ClientKey request) c)) (request_of request) call (λ key password. request_by IsTakenBy WrongKind (request_of request) _ refl (λ r so. refl)) is
met_at start (ClientAsk request key) None call is = ask_unmet start key (request_of request) call is
met_at start (ClientThird request key tickets) None call is = cc is
met_at start (ClientFourth request key tickets) None call is = cc is
met_at start (ClientDone request key tickets proof) None call is = cc
met_at start ServerKey None call is = meets_key (λ c. IsTakenBy (move start ServerKey c)) (asked_first start) call (λ key password. refl) is
met_at start (ServerFirst key) None call is = cc is
met_at start (ServerSecond key theirs) None call is = cc is
met_at start (ServerThird key theirs) None call is = cc is
met_at start (ServerFourth key theirs shown) None call is = cc is
met_at start (ServerDone key theirs shown) None call is = cc

tickets_rest : (start : Start) (request : List ℕ) (key : SkKey) (tickets : List ℕ) → Rests start (at (ClientAsk request key) None) (tickets_came start request key tickets)
tickets_rest start request key tickets = ticket_by (Rests start (at (ClientAsk request key) None)) BadKey (ticket_under key (ticket_part tickets)) _ refl (λ ticket. tested_by (Rests start (at (ClientAsk request key) None)) (ticket_tests start request key ticket) _ (λ cause. refl) refl)

answered_at : (start : Start) (stage : Stage) (broken : Option Cause) (b : List ℕ) → is_asked (need_at start (at stage broken)) ≡ true → Rests start (at stage broken) (verdict start (at stage broken) (heard b))
answered_at start stage (Some cause) b asked = cc
answered_at start ClientFirst None b asked = cc
answered_at start ClientSecond None b asked = cc
answered_at start (ClientKey request) None b asked = key_unasked start (request_of request) asked
answered_at start (ClientAsk request key) None b asked = either (Rests start (at (ClientAsk request key) None)) (is_refusal b) _ _ (refl) (either (Rests start (at (ClientAsk request key) None)) (grants_tickets b) _ _ (tickets_rest start request key (drop 1 b)) (refl))
answered_at start (ClientThird request key tickets) None b asked = cc
answered_at start (ClientFourth request key tickets) None b asked = cc
answered_at start (ClientDone request key tickets proof) None b asked = cc
answered_at start ServerKey None b asked = cc asked
answered_at start (ServerFirst key) None b asked = cc
answered_at start (ServerSecond key theirs) None b asked = cc
answered_at start (ServerThird key theirs) None b asked = cc
answered_at start (ServerFourth key theirs shown) None b asked = cc
answered_at start (ServerDone key theirs shown) None b asked = cc

unanswered_at : (start : Start) (stage : Stage) (broken : Option Cause) → is_asked (need_at start (at stage broken)) ≡ true → Rests start (at stage broken) (verdict start (at stage broken) unheard)
unanswered_at start stage (Some cause) asked = cc
unanswered_at start ClientFirst None asked = cc
unanswered_at start ClientSecond None asked = cc
unanswered_at start (ClientKey request) None asked = key_unasked start (request_of request) asked
unanswered_at start (ClientAsk request key) None asked = refl
unanswered_at start (ClientThird request key tickets) None asked = cc
unanswered_at start (ClientFourth request key tickets) None asked = cc
unanswered_at start (ClientDone request key tickets proof) None asked = cc
unanswered_at start ServerKey None asked = cc asked
unanswered_at start (ServerFirst key) None asked = cc
unanswered_at start (ServerSecond key theirs) None asked = cc
unanswered_at start (ServerThird key theirs) None asked = cc
unanswered_at start (ServerFourth key theirs shown) None asked = cc
unanswered_at start (ServerDone key theirs shown) None asked = cc

-- a key alone meets what is needed
met_found : (start : Start) (stage : Stage) (broken : Option Cause) (P : Call → Type 0) (call : Call) → ((key : SkKey) (password : Option (List ℕ)) → meets (need_at start (at stage broken)) (found key password) ≡ true → P (found key password)) → meets (need_at start (at stage broken)) call ≡ true → P call
met_found start stage (Some cause) P call so is = absurd (cc is)
met_found start ClientFirst None P call so is = absurd (cc is)
met_found start ClientSecond None P call so is = absurd (cc is)
met_found start (ClientKey request) None P call so is = key_met start (λ c. meets (key_need start (request_of request)) c ≡ true → P c) (request_of request) call so is is
met_found start (ClientAsk request key) None P call so is = ask_unmet start key (request_of request) call is
met_found start (ClientThird request key tickets) None P call so is = absurd (cc is)
met_found start (ClientFourth request key tickets) None P call so is = absurd (cc is)
met_found start (ClientDone request key tickets proof) None P call so is = absurd (cc is)
met_found start ServerKey None P call so is = meets_key (λ c. meets (Key (asked_first start)) c ≡ true → P c) (asked_first start) call so is is
met_found start (ServerFirst key) None P call so is = absurd (cc is)
met_found start (ServerSecond key theirs) None P call so is = absurd (cc is)
met_found start (ServerThird key theirs) None P call so is = absurd (cc is)
met_found start (ServerFourth key theirs shown) None P call so is = absurd (cc is)
met_found start (ServerDone key theirs shown) None P call so is = absurd (cc is)

pub found_meets : (start : Start) (talk : List Call) (P : Call → Type 0) (call : Call) → ((key : SkKey) (password : Option (List ℕ)) → meets (need_after start talk) (found key password) ≡ true → P (found key password)) → meets (need_after start talk) call ≡ true → P call
found_meets start talk P call so is = met_found start (course start talk).stage (course start talk).broken P call so is

-- one thing is needed at first
first_one_by : (start : Start) (role : Role) (call : Call) → meets (need_of start (first_stage role)) call ≡ true → Unsought start (at (first_stage role) None) (move start (first_stage role) call)
first_one_by start Client call is = absurd (cc is)
first_one_by start (Speakfor user) call is = absurd (cc is)
first_one_by start Server call is = meets_key (λ c. Unsought start (at ServerKey None) (move start ServerKey c)) (asked_first start) call (λ key password. refl) is

pub first_one : (start : Start) (call : Call) → meets (need_after start []) call ≡ true → is_sought (need_after start (call ∷ [])) ≡ false
first_one start call is = first_one_by start (role_of start.template) call is

-- ---- all of it

first_runs : (role : Role) → outcome_of (first_stage role) ≡ Running
first_runs Client = refl
first_runs (Speakfor user) = refl
first_runs Server = refl

first_asks : (start : Start) (role : Role) → is_asked (need_of start (first_stage role)) ≡ false
first_asks start Client = refl
first_asks start (Speakfor user) = refl
first_asks start Server = refl

pub sk_role : (start : Start) → IsRole (speaks P9sk1 start)
sk_role start = record {
  begins = first_runs (role_of start.template);
  asks_nobody = first_asks start (role_of start.template);
  has_room = λ talk call. room start (course start talk).stage (course start talk).broken call;
  stays = λ talk call. stays_at start (course start talk).stage (course start talk).broken call;
  goes_on = λ talk. goes_on start (course start talk).stage (course start talk).broken;
  got = λ talk. got_at start (course start talk).stage (course start talk).broken;
  given = λ talk none. given_at start (course start talk).stage (course start talk).broken;
  at_once = λ talk. at_once start (course start talk).stage (course start talk).broken (sound start talk);
  taken = λ talk. taken_at start (course start talk).stage (course start talk).broken;
  one = λ talk. one_at start (course start talk).stage (course start talk).broken;
  undoes = λ talk b none sought. (undone_at start (course start talk).stage (course start talk).broken b none sought).0;
  unended = λ talk b none sought. (undone_at start (course start talk).stage (course start talk).broken b none sought).1;
  met = λ talk. met_at start (course start talk).stage (course start talk).broken;
  answered = λ talk. answered_at start (course start talk).stage (course start talk).broken;
  unanswered = λ talk. unanswered_at start (course start talk).stage (course start talk).broken;
}
