-- A call that wants a key where none was wanted is taken back whole: how far a talk has come behind it and `undone` is how
-- far it had come before it.
use Rattle.std.proofs.Common.{◌≡◌, ℕ, List, [], ◌∷◌, Bool, true, false, Option, Some, None, Result, Ok, Err, nat_lt, length, drop, if◌then◌else◌, refl, ap, subst, ◌∙◌, ◌⊎◌, inl, inr}
use Rattle.wire_base.specs.Rules.{Rule, first_told}
use Rattle.sealing.specs.Request.{request_of}
use Rattle.sealing.specs.declared.fault.FieldFault.{FieldFault}
use Rattle.sealing.specs.declared.kind.TheConstants.{AUTH_AS}
use Rattle.sealing.specs.declared.request.TicketReq.{TicketReq}
use Rattle.sealing.specs.declared.ticket.Ticket.{Ticket}
use Rattle.roles.specs.declared.answer.Cause.{Cause}
use Rattle.roles.specs.declared.answer.Cause.TheVariants.{WrongKind, ServerSaidNo, BadKey}
use Rattle.roles.specs.declared.answer.Gave.TheVariants as g
use Rattle.roles.specs.declared.key.SkKey.{SkKey}
use Rattle.roles.specs.declared.need.Need.{Need}
use Rattle.roles.specs.declared.need.Need.TheVariants.{Nothing}
use Rattle.roles.specs.declared.stage.Stage.{Stage}
use Rattle.roles.specs.declared.stage.Stage.TheVariants.{ClientFirst, ClientSecond, ClientKey, ClientAsk, ClientThird, ClientFourth, ClientDone, ServerKey, ServerFirst, ServerSecond, ServerThird, ServerFourth, ServerDone}
use Rattle.roles.specs.Answers.{IsKey}
use Rattle.roles.specs.Starts.{Start}
use Rattle.roles.specs.Talks.{Call, Progress, Verdict, give, get, found, heard, unheard, roomless, undone, offered, picked, goes, stays, breaks, sized, tested, unless_told}
use Rattle.roles.specs.Tickets.{proof_for, proof_under, rest_part, ticket_part, ticket_under, with_request, with_ticket}
use Rattle.roles.specs.Clients.{grants_tickets, handed_on, is_refusal, proof_came, proof_tests, request_came, request_tests, ticket_tests, tickets_came}
use Rattle.roles.specs.Servers.{shown_came, shown_tests}
use Rattle.roles.specs.Courses.{answer_need, course, move, need_after, need_at, then_course, verdict}

-- how far a conversation is that isn't broken
abbrev at : Stage → Progress Stage
at stage = record { stage = stage; broken = None }

-- where a verdict leads to a stage that wants a key, it changes nothing, or it is taken back by `undone`, and nothing was
-- wanted before it
abbrev Leads : Start → Progress Stage → Verdict Stage → Type 0
Leads start p v = IsKey (need_at start (then_course p v)) → (then_course p v ≡ p) ⊎ ((need_at start p ≡ Nothing) × (then_course (then_course p v) (verdict start (then_course p v) undone) ≡ p))

-- ---- of each form of a verdict

either_leads : (start : Start) (p : Progress Stage) (test : Bool) (v w : Verdict Stage) → Leads start p v → Leads start p w → Leads start p (if test then v else w)
either_leads start p true v w first second = first
either_leads start p false v w first second = second

sized_leads : (start : Start) (p : Progress Stage) (size : ℕ) (b : List ℕ) (whole : Verdict Stage) → Leads start p whole → Leads start p (sized size b whole)
sized_leads start p size b whole leads = either_leads start p (nat_lt (length b) size) (stays (g.TooSmall size)) (if nat_lt size (length b) then stays g.TooLong else whole) (λ key. inl refl) (either_leads start p (nat_lt size (length b)) (stays g.TooLong) whole (λ key. inl refl) leads)

unless_leads : (start : Start) (p : Progress Stage) (told : Option Cause) (passed : Verdict Stage) → Leads start p passed → Leads start p (unless_told told passed)
unless_leads start p None passed leads = leads
unless_leads start p (Some cause) passed leads = λ key. absurd key

tested_leads : (start : Start) (p : Progress Stage) (tests : List (Rule Cause)) (passed : Verdict Stage) → Leads start p passed → Leads start p (tested tests passed)
tested_leads start p tests passed leads = unless_leads start p (first_told tests) passed leads

ticket_leads : (start : Start) (p : Progress Stage) (cause : Cause) (ticket : Result Ticket FieldFault) (next : Ticket → Verdict Stage) → ((t : Ticket) → Leads start p (next t)) → Leads start p (with_ticket cause ticket next)
ticket_leads start p cause (Ok ticket) next leads = leads ticket
ticket_leads start p cause (Err fault) next leads = λ key. absurd key

request_leads : (start : Start) (p : Progress Stage) (cause : Cause) (request : Result TicketReq FieldFault) (next : TicketReq → Verdict Stage) → ((r : TicketReq) → Leads start p (next r)) → Leads start p (with_request cause request next)
request_leads start p cause (Ok request) next leads = leads request
request_leads start p cause (Err fault) next leads = λ key. absurd key

-- the authentication server's answer is no key
no_key_asked : (start : Start) (key : SkKey) (request : Result TicketReq FieldFault) → IsKey (answer_need start key request) → ⊥
no_key_asked start key (Ok request) wants = wants
no_key_asked start key (Err fault) wants = wants

-- ---- of each move

move_leads : (start : Start) (stage : Stage) (call : Call) → Leads start (at stage) (move start stage call)
move_leads start ClientFirst (give b) = λ key. inl refl
move_leads start ClientFirst get = λ key. absurd key
move_leads start ClientFirst (found k password) = λ key. inl refl
move_leads start ClientFirst (heard answer) = λ key. inl refl
move_leads start ClientFirst unheard = λ key. inl refl
move_leads start ClientFirst roomless = λ key. inl refl
move_leads start ClientFirst undone = λ key. inl refl
move_leads start ClientFirst (offered list) = λ key. inl refl
move_leads start ClientFirst (picked place) = λ key. inl refl
move_leads start ClientSecond (give b) = sized_leads start (at ClientSecond) 141 b (request_came start b) (request_leads start (at ClientSecond) WrongKind (request_of b) (λ request. tested (request_tests start request) (goes (ClientKey b) g.Wait [])) (λ request. tested_leads start (at ClientSecond) (request_tests start request) (goes (ClientKey b) g.Wait []) (λ key. inr (refl, refl))))
move_leads start ClientSecond get = λ key. inl refl
move_leads start ClientSecond (found k password) = λ key. inl refl
move_leads start ClientSecond (heard answer) = λ key. inl refl
move_leads start ClientSecond unheard = λ key. inl refl
move_leads start ClientSecond roomless = λ key. inl refl
move_leads start ClientSecond undone = λ key. inl refl
move_leads start ClientSecond (offered list) = λ key. inl refl
move_leads start ClientSecond (picked place) = λ key. inl refl
move_leads start (ClientKey request) (give b) = λ key. inl refl
move_leads start (ClientKey request) get = λ key. inl refl
move_leads start (ClientKey request) (found k password) = request_leads start (at (ClientKey request)) WrongKind (request_of request) (λ _. goes (ClientAsk request k) g.Wait []) (λ _ key. absurd (no_key_asked start k (request_of request) key))
move_leads start (ClientKey request) (heard answer) = λ key. inl refl
move_leads start (ClientKey request) unheard = λ key. inl refl
move_leads start (ClientKey request) roomless = λ key. inl refl
move_leads start (ClientKey request) undone = λ key. absurd key
move_leads start (ClientKey request) (offered list) = λ key. inl refl
move_leads start (ClientKey request) (picked place) = λ key. inl refl
move_leads start (ClientAsk request key) (give b) = λ k. inl refl
move_leads start (ClientAsk request key) get = λ k. inl refl
move_leads start (ClientAsk request key) (found k password) = λ k. inl refl
move_leads start (ClientAsk request key) (heard answer) = either_leads start (at (ClientAsk request key)) (is_refusal answer) (breaks ServerSaidNo) (if grants_tickets answer then tickets_came start request key (drop 1 answer) else breaks WrongKind) (λ k. absurd k) (either_leads start (at (ClientAsk request key)) (grants_tickets answer) (tickets_came start request key (drop 1 answer)) (breaks WrongKind) (ticket_leads start (at (ClientAsk request key)) BadKey (ticket_under key (ticket_part (drop 1 answer))) (λ ticket. tested (ticket_tests start request key ticket) (goes (ClientThird request key (drop 1 answer)) g.Ok [])) (λ ticket. tested_leads start (at (ClientAsk request key)) (ticket_tests start request key ticket) (goes (ClientThird request key (drop 1 answer)) g.Ok []) (λ k. absurd k))) (λ k. absurd k))
move_leads start (ClientAsk request key) unheard = λ k. absurd k
move_leads start (ClientAsk request key) roomless = λ k. absurd k
move_leads start (ClientAsk request key) undone = λ k. inl refl
move_leads start (ClientAsk request key) (offered list) = λ k. inl refl
move_leads start (ClientAsk request key) (picked place) = λ k. inl refl
move_leads start (ClientThird request key tickets) (give b) = λ k. inl refl
move_leads start (ClientThird request key tickets) get = ticket_leads start (at (ClientThird request key tickets)) BadKey (ticket_under key (ticket_part tickets)) (λ ticket. goes (ClientFourth request key tickets) g.Ok (handed_on request tickets ticket)) (λ ticket k. absurd k)
move_leads start (ClientThird request key tickets) (found k password) = λ k. inl refl
move_leads start (ClientThird request key tickets) (heard answer) = λ k. inl refl
move_leads start (ClientThird request key tickets) unheard = λ k. inl refl
move_leads start (ClientThird request key tickets) roomless = λ k. inl refl
move_leads start (ClientThird request key tickets) undone = λ k. inl refl
move_leads start (ClientThird request key tickets) (offered list) = λ k. inl refl
move_leads start (ClientThird request key tickets) (picked place) = λ k. inl refl
move_leads start (ClientFourth request key tickets) (give b) = sized_leads start (at (ClientFourth request key tickets)) 13 b (proof_came start request key tickets b) (ticket_leads start (at (ClientFourth request key tickets)) BadKey (ticket_under key (ticket_part tickets)) (λ ticket. tested (proof_tests AUTH_AS start.word (proof_under ticket b)) (goes (ClientDone request key tickets b) g.Ok [])) (λ ticket. tested_leads start (at (ClientFourth request key tickets)) (proof_tests AUTH_AS start.word (proof_under ticket b)) (goes (ClientDone request key tickets b) g.Ok []) (λ k. absurd k)))
move_leads start (ClientFourth request key tickets) get = λ k. inl refl
move_leads start (ClientFourth request key tickets) (found k password) = λ k. inl refl
move_leads start (ClientFourth request key tickets) (heard answer) = λ k. inl refl
move_leads start (ClientFourth request key tickets) unheard = λ k. inl refl
move_leads start (ClientFourth request key tickets) roomless = λ k. inl refl
move_leads start (ClientFourth request key tickets) undone = λ k. inl refl
move_leads start (ClientFourth request key tickets) (offered list) = λ k. inl refl
move_leads start (ClientFourth request key tickets) (picked place) = λ k. inl refl
move_leads start (ClientDone request key tickets proof) (give b) = λ k. inl refl
move_leads start (ClientDone request key tickets proof) get = λ k. inl refl
move_leads start (ClientDone request key tickets proof) (found k password) = λ k. inl refl
move_leads start (ClientDone request key tickets proof) (heard answer) = λ k. inl refl
move_leads start (ClientDone request key tickets proof) unheard = λ k. inl refl
move_leads start (ClientDone request key tickets proof) roomless = λ k. inl refl
move_leads start (ClientDone request key tickets proof) undone = λ k. inl refl
move_leads start (ClientDone request key tickets proof) (offered list) = λ k. inl refl
move_leads start (ClientDone request key tickets proof) (picked place) = λ k. inl refl
move_leads start ServerKey (give b) = λ key. inl refl
move_leads start ServerKey get = λ key. inl refl
move_leads start ServerKey (found k password) = λ key. absurd key
move_leads start ServerKey (heard answer) = λ key. inl refl
move_leads start ServerKey unheard = λ key. inl refl
move_leads start ServerKey roomless = λ key. inl refl
move_leads start ServerKey undone = λ key. inl refl
move_leads start ServerKey (offered list) = λ key. inl refl
move_leads start ServerKey (picked place) = λ key. inl refl
move_leads start (ServerFirst key) (give b) = sized_leads start (at (ServerFirst key)) 8 b (goes (ServerSecond key b) g.Ok []) (λ k. absurd k)
move_leads start (ServerFirst key) get = λ k. inl refl
move_leads start (ServerFirst key) (found k password) = λ k. inl refl
move_leads start (ServerFirst key) (heard answer) = λ k. inl refl
move_leads start (ServerFirst key) unheard = λ k. inl refl
move_leads start (ServerFirst key) roomless = λ k. inl refl
move_leads start (ServerFirst key) undone = λ k. inl refl
move_leads start (ServerFirst key) (offered list) = λ k. inl refl
move_leads start (ServerFirst key) (picked place) = λ k. inl refl
move_leads start (ServerSecond key theirs) (give b) = λ k. inl refl
move_leads start (ServerSecond key theirs) get = λ k. absurd k
move_leads start (ServerSecond key theirs) (found k password) = λ k. inl refl
move_leads start (ServerSecond key theirs) (heard answer) = λ k. inl refl
move_leads start (ServerSecond key theirs) unheard = λ k. inl refl
move_leads start (ServerSecond key theirs) roomless = λ k. inl refl
move_leads start (ServerSecond key theirs) undone = λ k. inl refl
move_leads start (ServerSecond key theirs) (offered list) = λ k. inl refl
move_leads start (ServerSecond key theirs) (picked place) = λ k. inl refl
move_leads start (ServerThird key theirs) (give b) = sized_leads start (at (ServerThird key theirs)) 85 b (shown_came start key theirs b) (ticket_leads start (at (ServerThird key theirs)) WrongKind (ticket_under key (ticket_part b)) (λ ticket. tested (shown_tests start ticket (proof_under ticket (rest_part b))) (goes (ServerFourth key theirs b) g.Ok [])) (λ ticket. tested_leads start (at (ServerThird key theirs)) (shown_tests start ticket (proof_under ticket (rest_part b))) (goes (ServerFourth key theirs b) g.Ok []) (λ k. absurd k)))
move_leads start (ServerThird key theirs) get = λ k. inl refl
move_leads start (ServerThird key theirs) (found k password) = λ k. inl refl
move_leads start (ServerThird key theirs) (heard answer) = λ k. inl refl
move_leads start (ServerThird key theirs) unheard = λ k. inl refl
move_leads start (ServerThird key theirs) roomless = λ k. inl refl
move_leads start (ServerThird key theirs) undone = λ k. inl refl
move_leads start (ServerThird key theirs) (offered list) = λ k. inl refl
move_leads start (ServerThird key theirs) (picked place) = λ k. inl refl
move_leads start (ServerFourth key theirs shown) (give b) = λ k. inl refl
move_leads start (ServerFourth key theirs shown) get = ticket_leads start (at (ServerFourth key theirs shown)) WrongKind (ticket_under key (ticket_part shown)) (λ ticket. goes (ServerDone key theirs shown) g.Ok (proof_for AUTH_AS theirs ticket)) (λ ticket k. absurd k)
move_leads start (ServerFourth key theirs shown) (found k password) = λ k. inl refl
move_leads start (ServerFourth key theirs shown) (heard answer) = λ k. inl refl
move_leads start (ServerFourth key theirs shown) unheard = λ k. inl refl
move_leads start (ServerFourth key theirs shown) roomless = λ k. inl refl
move_leads start (ServerFourth key theirs shown) undone = λ k. inl refl
move_leads start (ServerFourth key theirs shown) (offered list) = λ k. inl refl
move_leads start (ServerFourth key theirs shown) (picked place) = λ k. inl refl
move_leads start (ServerDone key theirs shown) (give b) = λ k. inl refl
move_leads start (ServerDone key theirs shown) get = λ k. inl refl
move_leads start (ServerDone key theirs shown) (found k password) = λ k. inl refl
move_leads start (ServerDone key theirs shown) (heard answer) = λ k. inl refl
move_leads start (ServerDone key theirs shown) unheard = λ k. inl refl
move_leads start (ServerDone key theirs shown) roomless = λ k. inl refl
move_leads start (ServerDone key theirs shown) undone = λ k. inl refl
move_leads start (ServerDone key theirs shown) (offered list) = λ k. inl refl
move_leads start (ServerDone key theirs shown) (picked place) = λ k. inl refl

-- ---- of a talk

verdict_leads : (start : Start) (stage : Stage) (broken : Option Cause) (call : Call) → Leads start (record { stage = stage; broken = broken }) (verdict start (record { stage = stage; broken = broken }) call)
verdict_leads start stage None call = move_leads start stage call
verdict_leads start stage (Some cause) call = λ key. inl refl

-- where a key is needed behind a call, the talk is as far as before it, or will be with the call taken back; and then
-- nothing was needed before it
pub wanted_by : (start : Start) (talk : List Call) (call : Call) → IsKey (need_after start (call ∷ talk)) → (course start (call ∷ talk) ≡ course start talk) ⊎ ((need_after start talk ≡ Nothing) × (course start (undone ∷ call ∷ talk) ≡ course start talk))
wanted_by start talk call key = verdict_leads start (course start talk).stage (course start talk).broken call key

-- where nothing was needed before it, it is taken back
taken : (start : Start) (talk : List Call) (call : Call) → need_after start talk ≡ Nothing → IsKey (need_after start (call ∷ talk)) → (course start (call ∷ talk) ≡ course start talk) ⊎ ((need_after start talk ≡ Nothing) × (course start (undone ∷ call ∷ talk) ≡ course start talk)) → course start (undone ∷ call ∷ talk) ≡ course start talk
taken start talk call none key (inl same) = absurd (subst (λ (need : Need). IsKey need) (ap (λ (p : Progress Stage). need_at start p) same ∙ none) key)
taken start talk call none key (inr back) = back.1

pub undone_call : (start : Start) (talk : List Call) (call : Call) → need_after start talk ≡ Nothing → IsKey (need_after start (call ∷ talk)) → course start (undone ∷ call ∷ talk) ≡ course start talk
undone_call start talk call none key = taken start talk call none key (wanted_by start talk call key)
