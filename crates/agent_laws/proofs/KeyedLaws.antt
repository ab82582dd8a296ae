-- A role that was told of the key that is kept needs no other key any more, whatever it meets.
use Rattle.std.proofs.Common.{◌≡◌, ℕ, List, [], ◌∷◌, Bool, true, false, cond, ltb, length, drop, ◌||◌, Option, Some, None, Result, Ok, Err, refl, sym, ◌∙◌}
use Rattle.std.specs.Prelude.{is_some}
use Rattle.wire_base.specs.Rules.{Rule, first_told}
use Rattle.sealing.specs.Request.{request_of}
use Rattle.sealing.specs.declared.fault.FieldFault.{FieldFault}
use Rattle.sealing.specs.declared.request.TicketReq.{TicketReq}
use Rattle.sealing.specs.declared.ticket.Ticket.{Ticket}
use Rattle.roles.specs.declared.answer.Cause.{Cause}
use Rattle.roles.specs.declared.answer.Cause.TheVariants.{WrongKind, BadKey}
use Rattle.roles.specs.declared.answer.Gave.TheVariants as g
use Rattle.roles.specs.declared.key.SkKey.{SkKey}
use Rattle.roles.specs.declared.need.Need.{Need}
use Rattle.roles.specs.declared.need.Need.TheVariants.{Offers}
use Rattle.roles.specs.declared.stage.Role.{Role}
use Rattle.roles.specs.declared.stage.Role.TheVariants.{Client, Server, Speakfor}
use Rattle.roles.specs.declared.stage.Stage.{Stage}
use Rattle.roles.specs.declared.stage.Stage.TheVariants.{ClientFirst, ClientSecond, ClientKey, ClientAsk, ClientThird, ClientFourth, ClientDone, ServerKey, ServerFirst, ServerSecond, ServerThird, ServerFourth, ServerDone}
use Rattle.roles.specs.Answers.{IsKey, is_sought}
use Rattle.roles.specs.Starts.{Start, role_of}
use Rattle.roles.specs.Talks.{Call, Progress, Verdict, give, get, found, heard, unheard, roomless, undone, offered, picked, goes, stays, sized, tested, unless_told}
use Rattle.roles.specs.Tickets.{ticket_part, ticket_under, with_request, with_ticket, proof_under, rest_part}
use Rattle.roles.specs.Clients.{answer_came, grants_tickets, is_refusal, proof_tests, ticket_tests}
use Rattle.sealing.specs.declared.kind.TheConstants.{AUTH_AS}
use Rattle.roles.specs.Courses as sk
use Rattle.roles.specs.Courses.{need_unless, then_course, unless_broken}
use Rattle.conv_p9any.specs.declared.stage.Stage.{Stage as ChoiceStage}
use Rattle.conv_p9any.specs.declared.stage.Stage.TheVariants as c
use Rattle.conv_p9any.specs.Talks.{Standing, choosing, within}
use Rattle.conv_p9any.specs.Courses as choice
use Rattle.conv_challenge.specs.declared.stage.Stage.{Stage as MailStage}
use Rattle.conv_challenge.specs.declared.stage.Stage.TheVariants as m
use Rattle.conv_challenge.specs.Clients.{bounded}
use Rattle.conv_challenge.specs.Servers.{grants_challenge, grants_vouch, user_tests, vouch_tests}
use Rattle.conv_challenge.specs.Courses as mail
use Rattle.talks.specs.Protocols.{Protocol, P9sk1, P9any, Mail, needs, needs_by, p9sk1, protocol_of}
use Rattle.roles.specs.Servers.{shown_tests}

-- ---- any role

-- it is broken, or at a stage that is so
abbrev pub Holds : {S : Type 0} → (S → Bool) → Progress S → Bool
Holds good p = is_some p.broken || good p.stage

abbrev pub at : {S : Type 0} → S → Progress S
at stage = record { stage = stage; broken = None }

abbrev pub Leads : {S : Type 0} → (S → Bool) → S → Verdict S → Type 0
Leads good stage v = Holds good (then_course (at stage) v) ≡ true

pub either_leads : {S : Type 0} (good : S → Bool) (stage : S) (test : Bool) (v w : Verdict S) → Leads good stage v → Leads good stage w → Leads good stage (cond test v w)
either_leads good stage true v w p q = p
either_leads good stage false v w p q = q

pub unless_leads : {S : Type 0} (good : S → Bool) (stage : S) (told : Option Cause) (v : Verdict S) → Leads good stage v → Leads good stage (unless_told told v)
unless_leads good stage None v p = p
unless_leads good stage (Some cause) v p = refl

pub sized_leads : {S : Type 0} (good : S → Bool) (stage : S) (size : ℕ) (b : List ℕ) (v : Verdict S) → good stage ≡ true → Leads good stage v → Leads good stage (sized size b v)
sized_leads good stage size b v h p = either_leads good stage (ltb (length b) size) (stays (g.TooSmall size)) _ h (either_leads good stage (ltb size (length b)) (stays g.TooLong) v h p)

pub ticket_leads : {S : Type 0} (good : S → Bool) (stage : S) (cause : Cause) (ticket : Result Ticket FieldFault) (next : Ticket → Verdict S) → ((t : Ticket) → Leads good stage (next t)) → Leads good stage (with_ticket cause ticket next)
ticket_leads good stage cause (Ok ticket) next p = p ticket
ticket_leads good stage cause (Err fault) next p = refl

pub tested_leads : {S : Type 0} (good : S → Bool) (stage : S) (cause : Cause) (ticket : Result Ticket FieldFault) (tests : Ticket → List (Rule Cause)) (v : Verdict S) → Leads good stage v → Leads good stage (with_ticket cause ticket (λ t. tested (tests t) v))
tested_leads good stage cause ticket tests v p = ticket_leads good stage cause ticket (λ t. tested (tests t) v) (λ t. unless_leads good stage (first_told (tests t)) v p)

pub request_leads : {S : Type 0} (good : S → Bool) (stage : S) (cause : Cause) (request : Result TicketReq FieldFault) (next : TicketReq → Verdict S) → ((t : TicketReq) → Leads good stage (next t)) → Leads good stage (with_request cause request next)
request_leads good stage cause (Ok request) next p = p request
request_leads good stage cause (Err fault) next p = refl

pub course_leads : {S : Type 0} (good : S → Bool) (move : S → Call → Verdict S) → ((stage : S) (call : Call) → good stage ≡ true → Leads good stage (move stage call)) → (stage : S) (broken : Option Cause) (call : Call) → Holds good (record { stage = stage; broken = broken }) ≡ true
    → Holds good (then_course (record { stage = stage; broken = broken }) (unless_broken broken (move stage call))) ≡ true
course_leads good move more stage (Some cause) call h = refl
course_leads good move more stage None call h = more stage call h

-- ---- p9sk1

-- it has its key
abbrev sk_keyed : Stage → Bool
sk_keyed (ClientAsk request key) = true
sk_keyed (ClientThird request key tickets) = true
sk_keyed (ClientFourth request key tickets) = true
sk_keyed (ClientDone request key tickets proof) = true
sk_keyed (ServerFirst key) = true
sk_keyed (ServerSecond key theirs) = true
sk_keyed (ServerThird key theirs) = true
sk_keyed (ServerFourth key theirs shown) = true
sk_keyed (ServerDone key theirs shown) = true
sk_keyed ClientFirst = false
sk_keyed ClientSecond = false
sk_keyed (ClientKey request) = false
sk_keyed ServerKey = false

sk_answered : (start : Start) (request : List ℕ) (key : SkKey) (answer : List ℕ) → Leads sk_keyed (ClientAsk request key) (answer_came start request key answer)
sk_answered start request key answer =
    either_leads sk_keyed (ClientAsk request key) (is_refusal answer) _ _ refl
    (either_leads sk_keyed (ClientAsk request key) (grants_tickets answer) _ _ (tested_leads sk_keyed (ClientAsk request key) BadKey (ticket_under key (ticket_part (drop 1 answer))) (ticket_tests start request key) (goes (ClientThird request key (drop 1 answer)) g.Ok []) refl) refl)

sk_leads : (start : Start) (stage : Stage) (call : Call) → sk_keyed stage ≡ true → Leads sk_keyed stage (sk.move start stage call)
sk_leads start ClientFirst call h = absurd cc
sk_leads start ClientSecond call h = absurd cc
sk_leads start (ClientKey request) call h = absurd cc
sk_leads start ServerKey call h = absurd cc
sk_leads start (ClientAsk request key) (give b) h = refl
sk_leads start (ClientAsk request key) get h = refl
sk_leads start (ClientAsk request key) (found k password) h = refl
sk_leads start (ClientAsk request key) (heard b) h = sk_answered start request key b
sk_leads start (ClientAsk request key) unheard h = refl
sk_leads start (ClientAsk request key) roomless h = refl
sk_leads start (ClientAsk request key) undone h = refl
sk_leads start (ClientAsk request key) (offered list) h = refl
sk_leads start (ClientAsk request key) (picked place) h = refl
sk_leads start (ClientThird request key tickets) (give b) h = refl
sk_leads start (ClientThird request key tickets) get h = ticket_leads sk_keyed (ClientThird request key tickets) BadKey (ticket_under key (ticket_part tickets)) _ (λ t. refl)
sk_leads start (ClientThird request key tickets) (found k password) h = refl
sk_leads start (ClientThird request key tickets) (heard b) h = refl
sk_leads start (ClientThird request key tickets) unheard h = refl
sk_leads start (ClientThird request key tickets) roomless h = refl
sk_leads start (ClientThird request key tickets) undone h = refl
sk_leads start (ClientThird request key tickets) (offered list) h = refl
sk_leads start (ClientThird request key tickets) (picked place) h = refl
sk_leads start (ClientFourth request key tickets) (give b) h = sized_leads sk_keyed (ClientFourth request key tickets) 13 b _ refl (tested_leads sk_keyed (ClientFourth request key tickets) BadKey (ticket_under key (ticket_part tickets)) (λ t. proof_tests AUTH_AS start.word (proof_under t b)) (goes (ClientDone request key tickets b) g.Ok []) refl)
sk_leads start (ClientFourth request key tickets) get h = refl
sk_leads start (ClientFourth request key tickets) (found k password) h = refl
sk_leads start (ClientFourth request key tickets) (heard b) h = refl
sk_leads start (ClientFourth request key tickets) unheard h = refl
sk_leads start (ClientFourth request key tickets) roomless h = refl
sk_leads start (ClientFourth request key tickets) undone h = refl
sk_leads start (ClientFourth request key tickets) (offered list) h = refl
sk_leads start (ClientFourth request key tickets) (picked place) h = refl
sk_leads start (ClientDone request key tickets proof) (give b) h = refl
sk_leads start (ClientDone request key tickets proof) get h = refl
sk_leads start (ClientDone request key tickets proof) (found k password) h = refl
sk_leads start (ClientDone request key tickets proof) (heard b) h = refl
sk_leads start (ClientDone request key tickets proof) unheard h = refl
sk_leads start (ClientDone request key tickets proof) roomless h = refl
sk_leads start (ClientDone request key tickets proof) undone h = refl
sk_leads start (ClientDone request key tickets proof) (offered list) h = refl
sk_leads start (ClientDone request key tickets proof) (picked place) h = refl
sk_leads start (ServerFirst key) (give b) h = sized_leads sk_keyed (ServerFirst key) 8 b _ refl refl
sk_leads start (ServerFirst key) get h = refl
sk_leads start (ServerFirst key) (found k password) h = refl
sk_leads start (ServerFirst key) (heard b) h = refl
sk_leads start (ServerFirst key) unheard h = refl
sk_leads start (ServerFirst key) roomless h = refl
sk_leads start (ServerFirst key) undone h = refl
sk_leads start (ServerFirst key) (offered list) h = refl
sk_leads start (ServerFirst key) (picked place) h = refl
sk_leads start (ServerSecond key theirs) (give b) h = refl
sk_leads start (ServerSecond key theirs) get h = refl
sk_leads start (ServerSecond key theirs) (found k password) h = refl
sk_leads start (ServerSecond key theirs) (heard b) h = refl
sk_leads start (ServerSecond key theirs) unheard h = refl
sk_leads start (ServerSecond key theirs) roomless h = refl
sk_leads start (ServerSecond key theirs) undone h = refl
sk_leads start (ServerSecond key theirs) (offered list) h = refl
sk_leads start (ServerSecond key theirs) (picked place) h = refl
sk_leads start (ServerThird key theirs) (give b) h = sized_leads sk_keyed (ServerThird key theirs) 85 b _ refl (tested_leads sk_keyed (ServerThird key theirs) WrongKind (ticket_under key (ticket_part b)) (λ t. shown_tests start t (proof_under t (rest_part b))) (goes (ServerFourth key theirs b) g.Ok []) refl)
sk_leads start (ServerThird key theirs) get h = refl
sk_leads start (ServerThird key theirs) (found k password) h = refl
sk_leads start (ServerThird key theirs) (heard b) h = refl
sk_leads start (ServerThird key theirs) unheard h = refl
sk_leads start (ServerThird key theirs) roomless h = refl
sk_leads start (ServerThird key theirs) undone h = refl
sk_leads start (ServerThird key theirs) (offered list) h = refl
sk_leads start (ServerThird key theirs) (picked place) h = refl
sk_leads start (ServerFourth key theirs shown) (give b) h = refl
sk_leads start (ServerFourth key theirs shown) get h = ticket_leads sk_keyed (ServerFourth key theirs shown) WrongKind (ticket_under key (ticket_part shown)) _ (λ t. refl)
sk_leads start (ServerFourth key theirs shown) (found k password) h = refl
sk_leads start (ServerFourth key theirs shown) (heard b) h = refl
sk_leads start (ServerFourth key theirs shown) unheard h = refl
sk_leads start (ServerFourth key theirs shown) roomless h = refl
sk_leads start (ServerFourth key theirs shown) undone h = refl
sk_leads start (ServerFourth key theirs shown) (offered list) h = refl
sk_leads start (ServerFourth key theirs shown) (picked place) h = refl
sk_leads start (ServerDone key theirs shown) (give b) h = refl
sk_leads start (ServerDone key theirs shown) get h = refl
sk_leads start (ServerDone key theirs shown) (found k password) h = refl
sk_leads start (ServerDone key theirs shown) (heard b) h = refl
sk_leads start (ServerDone key theirs shown) unheard h = refl
sk_leads start (ServerDone key theirs shown) roomless h = refl
sk_leads start (ServerDone key theirs shown) undone h = refl
sk_leads start (ServerDone key theirs shown) (offered list) h = refl
sk_leads start (ServerDone key theirs shown) (picked place) h = refl

abbrev SkHolds : Start → List Call → Bool
SkHolds start talk = Holds sk_keyed (sk.course start talk)

sk_more : (start : Start) (talk : List Call) (call : Call) → SkHolds start talk ≡ true → SkHolds start (call ∷ talk) ≡ true
sk_more start talk call h = course_leads sk_keyed (sk.move start) (sk_leads start) (sk.course start talk).stage (sk.course start talk).broken call h

no_search : (start : Start) (key : SkKey) (request : Result TicketReq FieldFault) → is_sought (sk.answer_need start key request) ≡ false
no_search start key (Ok request) = refl
no_search start key (Err fault) = refl

sk_rests : (start : Start) (stage : Stage) (broken : Option Cause) → Holds sk_keyed (record { stage = stage; broken = broken }) ≡ true → is_sought (need_unless broken (sk.need_of start stage)) ≡ false
sk_rests start stage (Some cause) h = refl
sk_rests start ClientFirst None h = absurd cc
sk_rests start ClientSecond None h = absurd cc
sk_rests start (ClientKey request) None h = absurd cc
sk_rests start ServerKey None h = absurd cc
sk_rests start (ClientAsk request key) None h = no_search start key (request_of request)
sk_rests start (ClientThird request key tickets) None h = refl
sk_rests start (ClientFourth request key tickets) None h = refl
sk_rests start (ClientDone request key tickets proof) None h = refl
sk_rests start (ServerFirst key) None h = refl
sk_rests start (ServerSecond key theirs) None h = refl
sk_rests start (ServerThird key theirs) None h = refl
sk_rests start (ServerFourth key theirs shown) None h = refl
sk_rests start (ServerDone key theirs shown) None h = refl

no_key : (start : Start) (key : SkKey) (request : Result TicketReq FieldFault) → IsKey (sk.answer_need start key request) → ⊥
no_key start key (Ok request) wanted = wanted
no_key start key (Err fault) wanted = wanted

sk_found : (start : Start) (stage : Stage) (broken : Option Cause) (key : SkKey) (password : Option (List ℕ)) → IsKey (need_unless broken (sk.need_of start stage)) → Holds sk_keyed (then_course (record { stage = stage; broken = broken }) (unless_broken broken (sk.move start stage (found key password)))) ≡ true
sk_found start stage (Some cause) key password wanted = absurd wanted
sk_found start (ClientKey request) None key password wanted = request_leads sk_keyed (ClientKey request) WrongKind (request_of request) _ (λ t. refl)
sk_found start ServerKey None key password wanted = refl
sk_found start ClientFirst None key password wanted = absurd wanted
sk_found start ClientSecond None key password wanted = absurd wanted
sk_found start (ClientAsk request other) None key password wanted = absurd (no_key start other (request_of request) wanted)
sk_found start (ClientThird request key tickets) None k password wanted = absurd wanted
sk_found start (ClientFourth request key tickets) None k password wanted = absurd wanted
sk_found start (ClientDone request key tickets proof) None k password wanted = absurd wanted
sk_found start (ServerFirst key) None k password wanted = absurd wanted
sk_found start (ServerSecond key theirs) None k password wanted = absurd wanted
sk_found start (ServerThird key theirs) None k password wanted = absurd wanted
sk_found start (ServerFourth key theirs shown) None k password wanted = absurd wanted
sk_found start (ServerDone key theirs shown) None k password wanted = absurd wanted

-- ---- APOP and CRAM

abbrev mail_keyed : MailStage → Bool
mail_keyed (m.ClientSecond challenge password) = true
mail_keyed (m.ClientDone challenge password) = true
mail_keyed (m.ServerAsk key) = true
mail_keyed (m.ServerFirst key challenge) = true
mail_keyed (m.ServerSecond key challenge) = true
mail_keyed (m.ServerThird key challenge user) = true
mail_keyed (m.ServerVouch key challenge user digits) = true
mail_keyed (m.ServerDone key challenge user digits vouch) = true
mail_keyed m.ClientFirst = false
mail_keyed (m.ClientKey challenge) = false
mail_keyed m.ServerKey = false

bounded_leads : (stage : MailStage) (most : ℕ) (b : List ℕ) (v : Verdict MailStage) → mail_keyed stage ≡ true → Leads mail_keyed stage v → Leads mail_keyed stage (bounded most b v)
bounded_leads stage most b v h p = either_leads mail_keyed stage (ltb (length b) 1) (stays (g.TooSmall 1)) _ h (either_leads mail_keyed stage (ltb most (length b)) (stays g.TooLong) v h p)

mail_leads : (start : Start) (stage : MailStage) (call : Call) → mail_keyed stage ≡ true → Leads mail_keyed stage (mail.move start stage call)
mail_leads start m.ClientFirst call h = absurd cc
mail_leads start (m.ClientKey challenge) call h = absurd cc
mail_leads start m.ServerKey call h = absurd cc
mail_leads start (m.ClientSecond challenge password) (give b) h = refl
mail_leads start (m.ClientSecond challenge password) get h = refl
mail_leads start (m.ClientSecond challenge password) (found k secret) h = refl
mail_leads start (m.ClientSecond challenge password) (heard b) h = refl
mail_leads start (m.ClientSecond challenge password) unheard h = refl
mail_leads start (m.ClientSecond challenge password) roomless h = refl
mail_leads start (m.ClientSecond challenge password) undone h = refl
mail_leads start (m.ClientSecond challenge password) (offered list) h = refl
mail_leads start (m.ClientSecond challenge password) (picked place) h = refl
mail_leads start (m.ClientDone challenge password) (give b) h = refl
mail_leads start (m.ClientDone challenge password) get h = refl
mail_leads start (m.ClientDone challenge password) (found k secret) h = refl
mail_leads start (m.ClientDone challenge password) (heard b) h = refl
mail_leads start (m.ClientDone challenge password) unheard h = refl
mail_leads start (m.ClientDone challenge password) roomless h = refl
mail_leads start (m.ClientDone challenge password) undone h = refl
mail_leads start (m.ClientDone challenge password) (offered list) h = refl
mail_leads start (m.ClientDone challenge password) (picked place) h = refl
mail_leads start (m.ServerAsk key) (give b) h = refl
mail_leads start (m.ServerAsk key) get h = refl
mail_leads start (m.ServerAsk key) (found k password) h = refl
mail_leads start (m.ServerAsk key) (heard b) h = either_leads mail_keyed (m.ServerAsk key) (is_refusal b) _ _ refl (either_leads mail_keyed (m.ServerAsk key) (grants_challenge b) _ _ refl refl)
mail_leads start (m.ServerAsk key) unheard h = refl
mail_leads start (m.ServerAsk key) roomless h = refl
mail_leads start (m.ServerAsk key) undone h = refl
mail_leads start (m.ServerAsk key) (offered list) h = refl
mail_leads start (m.ServerAsk key) (picked place) h = refl
mail_leads start (m.ServerFirst key challenge) (give b) h = refl
mail_leads start (m.ServerFirst key challenge) get h = refl
mail_leads start (m.ServerFirst key challenge) (found k password) h = refl
mail_leads start (m.ServerFirst key challenge) (heard b) h = refl
mail_leads start (m.ServerFirst key challenge) unheard h = refl
mail_leads start (m.ServerFirst key challenge) roomless h = refl
mail_leads start (m.ServerFirst key challenge) undone h = refl
mail_leads start (m.ServerFirst key challenge) (offered list) h = refl
mail_leads start (m.ServerFirst key challenge) (picked place) h = refl
mail_leads start (m.ServerSecond key challenge) (give b) h = bounded_leads (m.ServerSecond key challenge) 27 b _ refl (unless_leads mail_keyed (m.ServerSecond key challenge) (first_told (user_tests b)) (goes (m.ServerThird key challenge b) g.Ok []) refl)
mail_leads start (m.ServerSecond key challenge) get h = refl
mail_leads start (m.ServerSecond key challenge) (found k password) h = refl
mail_leads start (m.ServerSecond key challenge) (heard b) h = refl
mail_leads start (m.ServerSecond key challenge) unheard h = refl
mail_leads start (m.ServerSecond key challenge) roomless h = refl
mail_leads start (m.ServerSecond key challenge) undone h = refl
mail_leads start (m.ServerSecond key challenge) (offered list) h = refl
mail_leads start (m.ServerSecond key challenge) (picked place) h = refl
mail_leads start (m.ServerThird key challenge user) (give b) h = sized_leads mail_keyed (m.ServerThird key challenge user) 32 b _ refl refl
mail_leads start (m.ServerThird key challenge user) get h = refl
mail_leads start (m.ServerThird key challenge user) (found k password) h = refl
mail_leads start (m.ServerThird key challenge user) (heard b) h = refl
mail_leads start (m.ServerThird key challenge user) unheard h = refl
mail_leads start (m.ServerThird key challenge user) roomless h = refl
mail_leads start (m.ServerThird key challenge user) undone h = refl
mail_leads start (m.ServerThird key challenge user) (offered list) h = refl
mail_leads start (m.ServerThird key challenge user) (picked place) h = refl
mail_leads start (m.ServerVouch key challenge user digits) (give b) h = refl
mail_leads start (m.ServerVouch key challenge user digits) get h = refl
mail_leads start (m.ServerVouch key challenge user digits) (found k password) h = refl
mail_leads start (m.ServerVouch key challenge user digits) (heard b) h = either_leads mail_keyed (m.ServerVouch key challenge user digits) (is_refusal b) _ _ refl (either_leads mail_keyed (m.ServerVouch key challenge user digits) (grants_vouch b) _ _ (tested_leads mail_keyed (m.ServerVouch key challenge user digits) BadKey (ticket_under key (ticket_part (drop 1 b))) (λ t. vouch_tests start user t (proof_under t (rest_part (drop 1 b)))) (goes (m.ServerDone key challenge user digits (drop 1 b)) g.Ok []) refl) refl)
mail_leads start (m.ServerVouch key challenge user digits) unheard h = refl
mail_leads start (m.ServerVouch key challenge user digits) roomless h = refl
mail_leads start (m.ServerVouch key challenge user digits) undone h = refl
mail_leads start (m.ServerVouch key challenge user digits) (offered list) h = refl
mail_leads start (m.ServerVouch key challenge user digits) (picked place) h = refl
mail_leads start (m.ServerDone key challenge user digits vouch) (give b) h = refl
mail_leads start (m.ServerDone key challenge user digits vouch) get h = refl
mail_leads start (m.ServerDone key challenge user digits vouch) (found k password) h = refl
mail_leads start (m.ServerDone key challenge user digits vouch) (heard b) h = refl
mail_leads start (m.ServerDone key challenge user digits vouch) unheard h = refl
mail_leads start (m.ServerDone key challenge user digits vouch) roomless h = refl
mail_leads start (m.ServerDone key challenge user digits vouch) undone h = refl
mail_leads start (m.ServerDone key challenge user digits vouch) (offered list) h = refl
mail_leads start (m.ServerDone key challenge user digits vouch) (picked place) h = refl

abbrev MailHolds : Start → List Call → Bool
MailHolds start talk = Holds mail_keyed (mail.course start talk)

mail_more : (start : Start) (talk : List Call) (call : Call) → MailHolds start talk ≡ true → MailHolds start (call ∷ talk) ≡ true
mail_more start talk call h = course_leads mail_keyed (mail.move start) (mail_leads start) (mail.course start talk).stage (mail.course start talk).broken call h

mail_rests : (start : Start) (stage : MailStage) (broken : Option Cause) → Holds mail_keyed (record { stage = stage; broken = broken }) ≡ true → is_sought (need_unless broken (mail.need_of start stage)) ≡ false
mail_rests start stage (Some cause) h = refl
mail_rests start m.ClientFirst None h = absurd cc
mail_rests start (m.ClientKey challenge) None h = absurd cc
mail_rests start m.ServerKey None h = absurd cc
mail_rests start (m.ClientSecond challenge password) None h = refl
mail_rests start (m.ClientDone challenge password) None h = refl
mail_rests start (m.ServerAsk key) None h = refl
mail_rests start (m.ServerFirst key challenge) None h = refl
mail_rests start (m.ServerSecond key challenge) None h = refl
mail_rests start (m.ServerThird key challenge user) None h = refl
mail_rests start (m.ServerVouch key challenge user digits) None h = refl
mail_rests start (m.ServerDone key challenge user digits vouch) None h = refl

mail_found : (start : Start) (stage : MailStage) (broken : Option Cause) (key : SkKey) (password : Option (List ℕ)) → IsKey (need_unless broken (mail.need_of start stage)) → Holds mail_keyed (then_course (record { stage = stage; broken = broken }) (unless_broken broken (mail.move start stage (found key password)))) ≡ true
mail_found start stage (Some cause) key password wanted = absurd wanted
mail_found start m.ClientFirst None key password wanted = absurd wanted
mail_found start (m.ClientKey challenge) None key password wanted = refl
mail_found start m.ServerKey None key password wanted = refl
mail_found start (m.ClientSecond challenge secret) None k password wanted = absurd wanted
mail_found start (m.ClientDone challenge secret) None k password wanted = absurd wanted
mail_found start (m.ServerAsk key) None k password wanted = absurd wanted
mail_found start (m.ServerFirst key challenge) None k password wanted = absurd wanted
mail_found start (m.ServerSecond key challenge) None k password wanted = absurd wanted
mail_found start (m.ServerThird key challenge user) None k password wanted = absurd wanted
mail_found start (m.ServerVouch key challenge user digits) None k password wanted = absurd wanted
mail_found start (m.ServerDone key challenge user digits vouch) None k password wanted = absurd wanted

-- ---- p9any

abbrev any_keyed : Start → Standing → Bool
any_keyed start (choosing stage) = false
any_keyed start (within before text talk) = SkHolds (choice.chosen_start p9sk1 start text) talk

first_not : (role : Role) → sk_keyed (sk.first_stage role) ≡ false
first_not Client = refl
first_not Server = refl
first_not (Speakfor user) = refl

-- what is taken back was no talk with a key
back_leads : (start : Start) (before : ChoiceStage) (text : List ℕ) (talk : List Call) → SkHolds (choice.chosen_start p9sk1 start text) talk ≡ true
    → Leads (any_keyed start) (within before text talk) (choice.taken_back p9sk1 start before text talk)
back_leads start before text [] h = absurd (let no_way : true ≡ false = sym h ∙ first_not (role_of (choice.chosen_start p9sk1 start text).template) in cc)
back_leads start before text (call ∷ talk) h = sk_more (choice.chosen_start p9sk1 start text) (call ∷ talk) undone h

any_leads : (start : Start) (stage : Standing) (call : Call) → any_keyed start stage ≡ true → Leads (any_keyed start) stage (choice.move p9sk1 start stage call)
any_leads start (choosing stage) call h = absurd cc
any_leads start (within before text talk) undone h = back_leads start before text talk h
any_leads start (within before text talk) (offered list) h = h
any_leads start (within before text talk) (picked place) h = h
any_leads start (within before text talk) (give b) h = sk_more (choice.chosen_start p9sk1 start text) talk (give b) h
any_leads start (within before text talk) get h = sk_more (choice.chosen_start p9sk1 start text) talk get h
any_leads start (within before text talk) (found k password) h = sk_more (choice.chosen_start p9sk1 start text) talk (found k password) h
any_leads start (within before text talk) (heard b) h = sk_more (choice.chosen_start p9sk1 start text) talk (heard b) h
any_leads start (within before text talk) unheard h = sk_more (choice.chosen_start p9sk1 start text) talk unheard h
any_leads start (within before text talk) roomless h = sk_more (choice.chosen_start p9sk1 start text) talk roomless h

abbrev AnyHolds : Start → List Call → Bool
AnyHolds start talk = Holds (any_keyed start) (choice.course p9sk1 start talk)

any_more : (start : Start) (talk : List Call) (call : Call) → AnyHolds start talk ≡ true → AnyHolds start (call ∷ talk) ≡ true
any_more start talk call h = course_leads (any_keyed start) (choice.move p9sk1 start) (any_leads start) (choice.course p9sk1 start talk).stage (choice.course p9sk1 start talk).broken call h

any_rests : (start : Start) (stage : Standing) (broken : Option Cause) → Holds (any_keyed start) (record { stage = stage; broken = broken }) ≡ true → is_sought (need_unless broken (choice.need_of p9sk1 start stage)) ≡ false
any_rests start stage (Some cause) h = refl
any_rests start (choosing stage) None h = absurd cc
any_rests start (within before text talk) None h =
    let s = choice.chosen_start p9sk1 start text in
    sk_rests s (sk.course s talk).stage (sk.course s talk).broken h

-- offers are needed
abbrev pub wants_offers : Need → Bool
wants_offers (Offers template) = true
wants_offers need = false

any_found : (start : Start) (stage : Standing) (broken : Option Cause) (key : SkKey) (password : Option (List ℕ)) → IsKey (need_unless broken (choice.need_of p9sk1 start stage))
    → wants_offers (need_unless (then_course (record { stage = stage; broken = broken }) (unless_broken broken (choice.move p9sk1 start stage (found key password)))).broken (choice.need_of p9sk1 start (then_course (record { stage = stage; broken = broken }) (unless_broken broken (choice.move p9sk1 start stage (found key password)))).stage)) ≡ false
    → Holds (any_keyed start) (then_course (record { stage = stage; broken = broken }) (unless_broken broken (choice.move p9sk1 start stage (found key password)))) ≡ true
any_found start stage (Some cause) key password wanted none = absurd wanted
any_found start (choosing c.ServerOffers) None key password wanted none = absurd wanted
any_found start (choosing c.ServerKey) None key password wanted none = absurd cc
any_found start (choosing (c.ServerFirst l)) None key password wanted none = absurd wanted
any_found start (choosing (c.ServerSecond l)) None key password wanted none = absurd wanted
any_found start (choosing c.ClientFirst) None key password wanted none = absurd wanted
any_found start (choosing (c.ClientPick l)) None key password wanted none = absurd wanted
any_found start (choosing (c.ClientSecond l place)) None key password wanted none = absurd wanted
any_found start (choosing (c.ClientThird l place)) None key password wanted none = absurd wanted
any_found start (within before text talk) None key password wanted none =
    let s = choice.chosen_start p9sk1 start text in
    sk_found s (sk.course s talk).stage (sk.course s talk).broken key password wanted

-- ---- whatever the protocol is

abbrev keyed_by : Protocol → Start → List Call → Bool
keyed_by P9sk1 start talk = SkHolds start talk
keyed_by P9any start talk = AnyHolds start talk
keyed_by Mail start talk = MailHolds start talk

-- its role was told of the key that is kept
abbrev pub keyed : Start → List Call → Bool
keyed start talk = keyed_by (protocol_of start.template) start talk

more_by : (p : Protocol) (start : Start) (talk : List Call) (call : Call) → keyed_by p start talk ≡ true → keyed_by p start (call ∷ talk) ≡ true
more_by P9sk1 start talk call h = sk_more start talk call h
more_by P9any start talk call h = any_more start talk call h
more_by Mail start talk call h = mail_more start talk call h

pub keyed_more : (start : Start) (talk : List Call) (call : Call) → keyed start talk ≡ true → keyed start (call ∷ talk) ≡ true
keyed_more start talk call h = more_by (protocol_of start.template) start talk call h

rests_by : (p : Protocol) (start : Start) (talk : List Call) → keyed_by p start talk ≡ true → is_sought (needs_by p start talk) ≡ false
rests_by P9sk1 start talk h = sk_rests start (sk.course start talk).stage (sk.course start talk).broken h
rests_by P9any start talk h = any_rests start (choice.course p9sk1 start talk).stage (choice.course p9sk1 start talk).broken h
rests_by Mail start talk h = mail_rests start (mail.course start talk).stage (mail.course start talk).broken h

pub keyed_rests : (start : Start) (talk : List Call) → keyed start talk ≡ true → is_sought (needs start talk) ≡ false
keyed_rests start talk h = rests_by (protocol_of start.template) start talk h

found_by : (p : Protocol) (start : Start) (talk : List Call) (key : SkKey) (password : Option (List ℕ)) → IsKey (needs_by p start talk) → wants_offers (needs_by p start (found key password ∷ talk)) ≡ false → keyed_by p start (found key password ∷ talk) ≡ true
found_by P9sk1 start talk key password wanted none = sk_found start (sk.course start talk).stage (sk.course start talk).broken key password wanted
found_by P9any start talk key password wanted none = any_found start (choice.course p9sk1 start talk).stage (choice.course p9sk1 start talk).broken key password wanted none
found_by Mail start talk key password wanted none = mail_found start (mail.course start talk).stage (mail.course start talk).broken key password wanted

pub found_keyed : (start : Start) (talk : List Call) (key : SkKey) (password : Option (List ℕ)) → IsKey (needs start talk) → wants_offers (needs start (found key password ∷ talk)) ≡ false → keyed start (found key password ∷ talk) ≡ true
found_keyed start talk key password wanted none = found_by (protocol_of start.template) start talk key password wanted none
