-- A conversation keeps its side: a client's stages are a client's, and a server's a server's. So what a key leads to that a
-- request wants is told by the protocol and the role of its start.
use Rattle.std.proofs.Common.{◌≡◌, ℕ, List, [], ◌∷◌, Bool, true, false, cond, ltb, length, drop, ◌||◌, not, Option, Some, None, Result, Ok, Err, refl, sym, ap, ◌∙◌, subst, codes, inl, inr}
use Rattle.std.specs.Prelude.{unwrap_or}
use Rattle.std.specs.Str.{bytes_eq}
use Rattle.std.proofs.lemmas.Bool.{cases_Bool}
use Rattle.std.proofs.lemmas.Slice.Eq.{bytes_eq-Decides}
use Rattle.wire_base.specs.Rules.{first_told}
use Rattle.attr_tuples.specs.declared.attr.Attr.{Attr}
use Rattle.attr_tuples.specs.Attributes.{is_named}
use Rattle.attr_tuples.specs.Matching.{texts_of, value_of}
use Rattle.sealing.specs.Request.{request_of}
use Rattle.sealing.specs.declared.fault.FieldFault.{FieldFault}
use Rattle.sealing.specs.declared.kind.TheConstants.{AUTH_AS}
use Rattle.sealing.specs.declared.request.TicketReq.{TicketReq}
use Rattle.roles.specs.declared.answer.Cause.{Cause}
use Rattle.roles.specs.declared.answer.Cause.TheVariants.{WrongKind, BadKey}
use Rattle.roles.specs.declared.answer.Gave.{Gave}
use Rattle.roles.specs.declared.answer.Gave.TheVariants as g
use Rattle.roles.specs.declared.need.Need.{Need}
use Rattle.roles.specs.declared.need.Need.TheVariants.{Nothing, Key, Offers, Pick, Exchange}
use Rattle.roles.specs.declared.stage.Role.{Role}
use Rattle.roles.specs.declared.stage.Role.TheVariants.{Client, Server, Speakfor}
use Rattle.roles.specs.declared.stage.Stage.{Stage}
use Rattle.roles.specs.declared.stage.Stage.TheVariants.{ClientFirst, ClientSecond, ClientKey, ClientAsk, ClientThird, ClientFourth, ClientDone, ServerKey, ServerFirst, ServerSecond, ServerThird, ServerFourth, ServerDone}
use Rattle.roles.specs.Clients.{grants_tickets, is_refusal, proof_tests, request_tests, ticket_tests}
use Rattle.roles.specs.Servers.{shown_tests}
use Rattle.roles.specs.Answers.{IsOffers}
use Rattle.roles.proofs.NeedLaws.{p9sk1_seeks}
use Rattle.conv_challenge.proofs.NeedLaws as mail_needs
use Rattle.roles.specs.Starts.{Start, is_text_of, role_of, says}
use Rattle.roles.specs.Talks.{Call, Verdict, give, get, found, heard, unheard, roomless, undone, offered, picked, goes, stays}
use Rattle.roles.specs.Tickets.{proof_under, rest_part, ticket_part, ticket_under}
use Rattle.roles.specs.Courses as sk
use Rattle.roles.specs.Courses.{need_unless, then_course, unless_broken}
use Rattle.conv_p9any.specs.declared.stage.Stage.TheVariants as c
use Rattle.conv_p9any.specs.Inner.{inner_template, is_replaced, left_part}
use Rattle.conv_p9any.specs.Offers.{consents, dom_in}
use Rattle.conv_p9any.specs.Talks.{Standing, choosing, within}
use Rattle.conv_p9any.specs.Texts.{text_in, with_text}
use Rattle.conv_p9any.specs.Courses as choice
use Rattle.conv_challenge.specs.declared.stage.Side.{Side}
use Rattle.conv_challenge.specs.declared.stage.Side.TheVariants as side_of_mail
use Rattle.conv_challenge.specs.declared.stage.Stage.{Stage as MailStage}
use Rattle.conv_challenge.specs.declared.stage.Stage.TheVariants as m
use Rattle.conv_challenge.specs.declared.stage.TheConstants.{MOST_CHALLENGE}
use Rattle.conv_challenge.specs.Clients.{bounded}
use Rattle.conv_challenge.specs.Servers.{grants_challenge, grants_vouch, user_tests, vouch_tests}
use Rattle.conv_challenge.specs.Starts.{names_proto, side_of}
use Rattle.conv_challenge.specs.Courses as mail
use Rattle.talks.specs.Protocols.{Protocol, P9sk1, P9any, Mail, needs, needs_by, p9sk1, protocol_of}
use Rattle.agent_laws.proofs.KeyedLaws.{Holds, Leads, course_leads, either_leads, request_leads, sized_leads, tested_leads, ticket_leads, unless_leads}
use Rattle.agent_laws.proofs.LeadLaws.{Next, ToAnswer, ToServer, any_key, any_need, any_then, next_of}

abbrev pub agrees : Bool → Bool → Bool
agrees true x = x
agrees false x = not x

pub agrees_true : (side : Bool) → agrees side true ≡ true → side ≡ true
agrees_true true e = refl
agrees_true false e = absurd cc

pub agrees_false : (side : Bool) → agrees side false ≡ true → side ≡ false
agrees_false true e = absurd cc
agrees_false false e = refl

-- ---- p9sk1

abbrev sk_serves : Stage → Bool
sk_serves ClientFirst = false
sk_serves ClientSecond = false
sk_serves (ClientKey request) = false
sk_serves (ClientAsk request key) = false
sk_serves (ClientThird request key tickets) = false
sk_serves (ClientFourth request key tickets) = false
sk_serves (ClientDone request key tickets proof) = false
sk_serves ServerKey = true
sk_serves (ServerFirst key) = true
sk_serves (ServerSecond key theirs) = true
sk_serves (ServerThird key theirs) = true
sk_serves (ServerFourth key theirs shown) = true
sk_serves (ServerDone key theirs shown) = true

abbrev sk_good : Bool → Stage → Bool
sk_good side stage = agrees side (sk_serves stage)

abbrev serves : Role → Bool
serves Server = true
serves Client = false
serves (Speakfor user) = false

sk_side : (side : Bool) (start : Start) (stage : Stage) (call : Call) → sk_good side stage ≡ true → Leads (sk_good side) stage (sk.move start stage call)
sk_side side start ClientFirst (give b) h = h
sk_side side start ClientFirst get h = h
sk_side side start ClientFirst (found k password) h = h
sk_side side start ClientFirst (heard b) h = h
sk_side side start ClientFirst unheard h = h
sk_side side start ClientFirst roomless h = h
sk_side side start ClientFirst undone h = h
sk_side side start ClientFirst (offered list) h = h
sk_side side start ClientFirst (picked place) h = h
sk_side side start ClientSecond (give b) h = sized_leads (sk_good side) ClientSecond 141 b _ h (request_leads (sk_good side) ClientSecond WrongKind (request_of b) _ (λ t. unless_leads (sk_good side) ClientSecond (first_told (request_tests start t)) (goes (ClientKey b) g.Wait []) h))
sk_side side start ClientSecond get h = h
sk_side side start ClientSecond (found k password) h = h
sk_side side start ClientSecond (heard b) h = h
sk_side side start ClientSecond unheard h = h
sk_side side start ClientSecond roomless h = h
sk_side side start ClientSecond undone h = h
sk_side side start ClientSecond (offered list) h = h
sk_side side start ClientSecond (picked place) h = h
sk_side side start (ClientKey request) (give b) h = h
sk_side side start (ClientKey request) get h = h
sk_side side start (ClientKey request) (found k password) h = request_leads (sk_good side) (ClientKey request) WrongKind (request_of request) _ (λ t. h)
sk_side side start (ClientKey request) (heard b) h = h
sk_side side start (ClientKey request) unheard h = h
sk_side side start (ClientKey request) roomless h = h
sk_side side start (ClientKey request) undone h = h
sk_side side start (ClientKey request) (offered list) h = h
sk_side side start (ClientKey request) (picked place) h = h
sk_side side start (ClientAsk request key) (give b) h = h
sk_side side start (ClientAsk request key) get h = h
sk_side side start (ClientAsk request key) (found k password) h = h
sk_side side start (ClientAsk request key) (heard b) h = either_leads (sk_good side) (ClientAsk request key) (is_refusal b) _ _ refl (either_leads (sk_good side) (ClientAsk request key) (grants_tickets b) _ _ (tested_leads (sk_good side) (ClientAsk request key) BadKey (ticket_under key (ticket_part (drop 1 b))) (ticket_tests start request key) (goes (ClientThird request key (drop 1 b)) g.Ok []) h) refl)
sk_side side start (ClientAsk request key) unheard h = refl
sk_side side start (ClientAsk request key) roomless h = refl
sk_side side start (ClientAsk request key) undone h = h
sk_side side start (ClientAsk request key) (offered list) h = h
sk_side side start (ClientAsk request key) (picked place) h = h
sk_side side start (ClientThird request key tickets) (give b) h = h
sk_side side start (ClientThird request key tickets) get h = ticket_leads (sk_good side) (ClientThird request key tickets) BadKey (ticket_under key (ticket_part tickets)) _ (λ t. h)
sk_side side start (ClientThird request key tickets) (found k password) h = h
sk_side side start (ClientThird request key tickets) (heard b) h = h
sk_side side start (ClientThird request key tickets) unheard h = h
sk_side side start (ClientThird request key tickets) roomless h = h
sk_side side start (ClientThird request key tickets) undone h = h
sk_side side start (ClientThird request key tickets) (offered list) h = h
sk_side side start (ClientThird request key tickets) (picked place) h = h
sk_side side start (ClientFourth request key tickets) (give b) h = sized_leads (sk_good side) (ClientFourth request key tickets) 13 b _ h (tested_leads (sk_good side) (ClientFourth request key tickets) BadKey (ticket_under key (ticket_part tickets)) (λ t. proof_tests AUTH_AS start.word (proof_under t b)) (goes (ClientDone request key tickets b) g.Ok []) h)
sk_side side start (ClientFourth request key tickets) get h = h
sk_side side start (ClientFourth request key tickets) (found k password) h = h
sk_side side start (ClientFourth request key tickets) (heard b) h = h
sk_side side start (ClientFourth request key tickets) unheard h = h
sk_side side start (ClientFourth request key tickets) roomless h = h
sk_side side start (ClientFourth request key tickets) undone h = h
sk_side side start (ClientFourth request key tickets) (offered list) h = h
sk_side side start (ClientFourth request key tickets) (picked place) h = h
sk_side side start (ClientDone request key tickets proof) (give b) h = h
sk_side side start (ClientDone request key tickets proof) get h = h
sk_side side start (ClientDone request key tickets proof) (found k password) h = h
sk_side side start (ClientDone request key tickets proof) (heard b) h = h
sk_side side start (ClientDone request key tickets proof) unheard h = h
sk_side side start (ClientDone request key tickets proof) roomless h = h
sk_side side start (ClientDone request key tickets proof) undone h = h
sk_side side start (ClientDone request key tickets proof) (offered list) h = h
sk_side side start (ClientDone request key tickets proof) (picked place) h = h
sk_side side start ServerKey (give b) h = h
sk_side side start ServerKey get h = h
sk_side side start ServerKey (found k password) h = h
sk_side side start ServerKey (heard b) h = h
sk_side side start ServerKey unheard h = h
sk_side side start ServerKey roomless h = h
sk_side side start ServerKey undone h = h
sk_side side start ServerKey (offered list) h = h
sk_side side start ServerKey (picked place) h = h
sk_side side start (ServerFirst key) (give b) h = sized_leads (sk_good side) (ServerFirst key) 8 b _ h h
sk_side side start (ServerFirst key) get h = h
sk_side side start (ServerFirst key) (found k password) h = h
sk_side side start (ServerFirst key) (heard b) h = h
sk_side side start (ServerFirst key) unheard h = h
sk_side side start (ServerFirst key) roomless h = h
sk_side side start (ServerFirst key) undone h = h
sk_side side start (ServerFirst key) (offered list) h = h
sk_side side start (ServerFirst key) (picked place) h = h
sk_side side start (ServerSecond key theirs) (give b) h = h
sk_side side start (ServerSecond key theirs) get h = h
sk_side side start (ServerSecond key theirs) (found k password) h = h
sk_side side start (ServerSecond key theirs) (heard b) h = h
sk_side side start (ServerSecond key theirs) unheard h = h
sk_side side start (ServerSecond key theirs) roomless h = h
sk_side side start (ServerSecond key theirs) undone h = h
sk_side side start (ServerSecond key theirs) (offered list) h = h
sk_side side start (ServerSecond key theirs) (picked place) h = h
sk_side side start (ServerThird key theirs) (give b) h = sized_leads (sk_good side) (ServerThird key theirs) 85 b _ h (tested_leads (sk_good side) (ServerThird key theirs) WrongKind (ticket_under key (ticket_part b)) (λ t. shown_tests start t (proof_under t (rest_part b))) (goes (ServerFourth key theirs b) g.Ok []) h)
sk_side side start (ServerThird key theirs) get h = h
sk_side side start (ServerThird key theirs) (found k password) h = h
sk_side side start (ServerThird key theirs) (heard b) h = h
sk_side side start (ServerThird key theirs) unheard h = h
sk_side side start (ServerThird key theirs) roomless h = h
sk_side side start (ServerThird key theirs) undone h = h
sk_side side start (ServerThird key theirs) (offered list) h = h
sk_side side start (ServerThird key theirs) (picked place) h = h
sk_side side start (ServerFourth key theirs shown) (give b) h = h
sk_side side start (ServerFourth key theirs shown) get h = ticket_leads (sk_good side) (ServerFourth key theirs shown) WrongKind (ticket_under key (ticket_part shown)) _ (λ t. h)
sk_side side start (ServerFourth key theirs shown) (found k password) h = h
sk_side side start (ServerFourth key theirs shown) (heard b) h = h
sk_side side start (ServerFourth key theirs shown) unheard h = h
sk_side side start (ServerFourth key theirs shown) roomless h = h
sk_side side start (ServerFourth key theirs shown) undone h = h
sk_side side start (ServerFourth key theirs shown) (offered list) h = h
sk_side side start (ServerFourth key theirs shown) (picked place) h = h
sk_side side start (ServerDone key theirs shown) (give b) h = h
sk_side side start (ServerDone key theirs shown) get h = h
sk_side side start (ServerDone key theirs shown) (found k password) h = h
sk_side side start (ServerDone key theirs shown) (heard b) h = h
sk_side side start (ServerDone key theirs shown) unheard h = h
sk_side side start (ServerDone key theirs shown) roomless h = h
sk_side side start (ServerDone key theirs shown) undone h = h
sk_side side start (ServerDone key theirs shown) (offered list) h = h
sk_side side start (ServerDone key theirs shown) (picked place) h = h

sk_first : (role : Role) → sk_good (serves role) (sk.first_stage role) ≡ true
sk_first Client = refl
sk_first Server = refl
sk_first (Speakfor user) = refl

sk_keeps : (start : Start) (talk : List Call) → Holds (sk_good (serves (role_of start.template))) (sk.course start talk) ≡ true
sk_keeps start [] = sk_first (role_of start.template)
sk_keeps start (call ∷ talk) =
    let side = serves (role_of start.template) in
    course_leads (sk_good side) (sk.move start) (sk_side side start) (sk.course start talk).stage (sk.course start talk).broken call (sk_keeps start talk)

-- what a key leads to
abbrev by_side : Bool → Next
by_side true = ToAnswer
by_side false = ToServer

abbrev sk_behind : Start → Stage → Option Cause → Need
sk_behind start stage broken = sk.need_at start (then_course (record { stage = stage; broken = broken }) (unless_broken broken (sk.move start stage (found any_key None))))

sk_asks : (start : Start) (request : List ℕ) (template : List Attr) (r : Result TicketReq FieldFault) → request_of request ≡ r → sk.key_need start r ≡ Key template → next_of (sk_behind start (ClientKey request) None) ≡ ToServer
sk_asks start request template (Ok q) e wanted = rw e (rw e refl)
sk_asks start request template (Err fault) e wanted = absurd cc

sk_next : (start : Start) (side : Bool) (stage : Stage) (broken : Option Cause) (template : List Attr) → Holds (sk_good side) (record { stage = stage; broken = broken }) ≡ true → need_unless broken (sk.need_of start stage) ≡ Key template → next_of (sk_behind start stage broken) ≡ by_side side
sk_next start side stage (Some cause) template h wanted = absurd cc
sk_next start side ClientFirst None template h wanted = absurd cc
sk_next start side ClientSecond None template h wanted = absurd cc
sk_next start side (ClientKey request) None template h wanted = sk_asks start request template (request_of request) refl wanted ∙ ap by_side (sym (agrees_false side h))
sk_next start side (ClientAsk request k) None template h wanted = absurd (no_key (request_of request) wanted)
  where
    no_key : (r : Result TicketReq FieldFault) → sk.answer_need start k r ≡ Key template → ⊥
    no_key (Ok q) e = cc
    no_key (Err fault) e = cc
sk_next start side (ClientThird request k tickets) None template h wanted = absurd cc
sk_next start side (ClientFourth request k tickets) None template h wanted = absurd cc
sk_next start side (ClientDone request k tickets proof) None template h wanted = absurd cc
sk_next start side ServerKey None template h wanted = ap by_side (sym (agrees_true side h))
sk_next start side (ServerFirst k) None template h wanted = absurd cc
sk_next start side (ServerSecond k theirs) None template h wanted = absurd cc
sk_next start side (ServerThird k theirs) None template h wanted = absurd cc
sk_next start side (ServerFourth k theirs shown) None template h wanted = absurd cc
sk_next start side (ServerDone k theirs shown) None template h wanted = absurd cc

-- ---- APOP and CRAM

abbrev pub mail_serves : MailStage → Bool
mail_serves m.ClientFirst = false
mail_serves (m.ClientKey challenge) = false
mail_serves (m.ClientSecond challenge secret) = false
mail_serves (m.ClientDone challenge secret) = false
mail_serves m.ServerKey = true
mail_serves (m.ServerAsk key) = true
mail_serves (m.ServerFirst key challenge) = true
mail_serves (m.ServerSecond key challenge) = true
mail_serves (m.ServerThird key challenge user) = true
mail_serves (m.ServerVouch key challenge user digits) = true
mail_serves (m.ServerDone key challenge user digits vouch) = true

abbrev pub mail_good : Bool → MailStage → Bool
mail_good side stage = agrees side (mail_serves stage)

abbrev pub side_serves : Side → Bool
side_serves side_of_mail.Server = true
side_serves side_of_mail.Client = false

bounded_side : (side : Bool) (stage : MailStage) (most : ℕ) (b : List ℕ) (v : Verdict MailStage) → mail_good side stage ≡ true → Leads (mail_good side) stage v → Leads (mail_good side) stage (bounded most b v)
bounded_side side stage most b v h p = either_leads (mail_good side) stage (ltb (length b) 1) (stays (g.TooSmall 1)) _ h (either_leads (mail_good side) stage (ltb most (length b)) (stays g.TooLong) v h p)

mail_side : (side : Bool) (start : Start) (stage : MailStage) (call : Call) → mail_good side stage ≡ true → Leads (mail_good side) stage (mail.move start stage call)
mail_side side start m.ClientFirst (give b) h = bounded_side side m.ClientFirst MOST_CHALLENGE b _ h h
mail_side side start m.ClientFirst get h = h
mail_side side start m.ClientFirst (found k password) h = h
mail_side side start m.ClientFirst (heard b) h = h
mail_side side start m.ClientFirst unheard h = h
mail_side side start m.ClientFirst roomless h = h
mail_side side start m.ClientFirst undone h = h
mail_side side start m.ClientFirst (offered list) h = h
mail_side side start m.ClientFirst (picked place) h = h
mail_side side start (m.ClientKey challenge) (give b) h = h
mail_side side start (m.ClientKey challenge) get h = h
mail_side side start (m.ClientKey challenge) (found k password) h = h
mail_side side start (m.ClientKey challenge) (heard b) h = h
mail_side side start (m.ClientKey challenge) unheard h = h
mail_side side start (m.ClientKey challenge) roomless h = h
mail_side side start (m.ClientKey challenge) undone h = h
mail_side side start (m.ClientKey challenge) (offered list) h = h
mail_side side start (m.ClientKey challenge) (picked place) h = h
mail_side side start (m.ClientSecond challenge secret) (give b) h = h
mail_side side start (m.ClientSecond challenge secret) get h = h
mail_side side start (m.ClientSecond challenge secret) (found k password) h = h
mail_side side start (m.ClientSecond challenge secret) (heard b) h = h
mail_side side start (m.ClientSecond challenge secret) unheard h = h
mail_side side start (m.ClientSecond challenge secret) roomless h = h
mail_side side start (m.ClientSecond challenge secret) undone h = h
mail_side side start (m.ClientSecond challenge secret) (offered list) h = h
mail_side side start (m.ClientSecond challenge secret) (picked place) h = h
mail_side side start (m.ClientDone challenge secret) (give b) h = h
mail_side side start (m.ClientDone challenge secret) get h = h
mail_side side start (m.ClientDone challenge secret) (found k password) h = h
mail_side side start (m.ClientDone challenge secret) (heard b) h = h
mail_side side start (m.ClientDone challenge secret) unheard h = h
mail_side side start (m.ClientDone challenge secret) roomless h = h
mail_side side start (m.ClientDone challenge secret) undone h = h
mail_side side start (m.ClientDone challenge secret) (offered list) h = h
mail_side side start (m.ClientDone challenge secret) (picked place) h = h
mail_side side start m.ServerKey (give b) h = h
mail_side side start m.ServerKey get h = h
mail_side side start m.ServerKey (found k password) h = h
mail_side side start m.ServerKey (heard b) h = h
mail_side side start m.ServerKey unheard h = h
mail_side side start m.ServerKey roomless h = h
mail_side side start m.ServerKey undone h = h
mail_side side start m.ServerKey (offered list) h = h
mail_side side start m.ServerKey (picked place) h = h
mail_side side start (m.ServerAsk key) (give b) h = h
mail_side side start (m.ServerAsk key) get h = h
mail_side side start (m.ServerAsk key) (found k password) h = h
mail_side side start (m.ServerAsk key) (heard b) h = either_leads (mail_good side) (m.ServerAsk key) (is_refusal b) _ _ refl (either_leads (mail_good side) (m.ServerAsk key) (grants_challenge b) _ _ h refl)
mail_side side start (m.ServerAsk key) unheard h = refl
mail_side side start (m.ServerAsk key) roomless h = refl
mail_side side start (m.ServerAsk key) undone h = h
mail_side side start (m.ServerAsk key) (offered list) h = h
mail_side side start (m.ServerAsk key) (picked place) h = h
mail_side side start (m.ServerFirst key challenge) (give b) h = h
mail_side side start (m.ServerFirst key challenge) get h = h
mail_side side start (m.ServerFirst key challenge) (found k password) h = h
mail_side side start (m.ServerFirst key challenge) (heard b) h = h
mail_side side start (m.ServerFirst key challenge) unheard h = h
mail_side side start (m.ServerFirst key challenge) roomless h = h
mail_side side start (m.ServerFirst key challenge) undone h = h
mail_side side start (m.ServerFirst key challenge) (offered list) h = h
mail_side side start (m.ServerFirst key challenge) (picked place) h = h
mail_side side start (m.ServerSecond key challenge) (give b) h = bounded_side side (m.ServerSecond key challenge) 27 b _ h (unless_leads (mail_good side) (m.ServerSecond key challenge) (first_told (user_tests b)) (goes (m.ServerThird key challenge b) g.Ok []) h)
mail_side side start (m.ServerSecond key challenge) get h = h
mail_side side start (m.ServerSecond key challenge) (found k password) h = h
mail_side side start (m.ServerSecond key challenge) (heard b) h = h
mail_side side start (m.ServerSecond key challenge) unheard h = h
mail_side side start (m.ServerSecond key challenge) roomless h = h
mail_side side start (m.ServerSecond key challenge) undone h = h
mail_side side start (m.ServerSecond key challenge) (offered list) h = h
mail_side side start (m.ServerSecond key challenge) (picked place) h = h
mail_side side start (m.ServerThird key challenge user) (give b) h = sized_leads (mail_good side) (m.ServerThird key challenge user) 32 b _ h h
mail_side side start (m.ServerThird key challenge user) get h = h
mail_side side start (m.ServerThird key challenge user) (found k password) h = h
mail_side side start (m.ServerThird key challenge user) (heard b) h = h
mail_side side start (m.ServerThird key challenge user) unheard h = h
mail_side side start (m.ServerThird key challenge user) roomless h = h
mail_side side start (m.ServerThird key challenge user) undone h = h
mail_side side start (m.ServerThird key challenge user) (offered list) h = h
mail_side side start (m.ServerThird key challenge user) (picked place) h = h
mail_side side start (m.ServerVouch key challenge user digits) (give b) h = h
mail_side side start (m.ServerVouch key challenge user digits) get h = h
mail_side side start (m.ServerVouch key challenge user digits) (found k password) h = h
mail_side side start (m.ServerVouch key challenge user digits) (heard b) h = either_leads (mail_good side) (m.ServerVouch key challenge user digits) (is_refusal b) _ _ refl (either_leads (mail_good side) (m.ServerVouch key challenge user digits) (grants_vouch b) _ _ (tested_leads (mail_good side) (m.ServerVouch key challenge user digits) BadKey (ticket_under key (ticket_part (drop 1 b))) (λ t. vouch_tests start user t (proof_under t (rest_part (drop 1 b)))) (goes (m.ServerDone key challenge user digits (drop 1 b)) g.Ok []) h) refl)
mail_side side start (m.ServerVouch key challenge user digits) unheard h = refl
mail_side side start (m.ServerVouch key challenge user digits) roomless h = refl
mail_side side start (m.ServerVouch key challenge user digits) undone h = h
mail_side side start (m.ServerVouch key challenge user digits) (offered list) h = h
mail_side side start (m.ServerVouch key challenge user digits) (picked place) h = h
mail_side side start (m.ServerDone key challenge user digits vouch) (give b) h = h
mail_side side start (m.ServerDone key challenge user digits vouch) get h = h
mail_side side start (m.ServerDone key challenge user digits vouch) (found k password) h = h
mail_side side start (m.ServerDone key challenge user digits vouch) (heard b) h = h
mail_side side start (m.ServerDone key challenge user digits vouch) unheard h = h
mail_side side start (m.ServerDone key challenge user digits vouch) roomless h = h
mail_side side start (m.ServerDone key challenge user digits vouch) undone h = h
mail_side side start (m.ServerDone key challenge user digits vouch) (offered list) h = h
mail_side side start (m.ServerDone key challenge user digits vouch) (picked place) h = h

mail_first : (side : Side) → mail_good (side_serves side) (mail.first_stage side) ≡ true
mail_first side_of_mail.Client = refl
mail_first side_of_mail.Server = refl

pub mail_keeps : (start : Start) (talk : List Call) → Holds (mail_good (side_serves (side_of start.template))) (mail.course start talk) ≡ true
mail_keeps start [] = mail_first (side_of start.template)
mail_keeps start (call ∷ talk) =
    let side = side_serves (side_of start.template) in
    course_leads (mail_good side) (mail.move start) (mail_side side start) (mail.course start talk).stage (mail.course start talk).broken call (mail_keeps start talk)

abbrev by_mail : Bool → Next
by_mail true = ToServer
by_mail false = ToAnswer

abbrev mail_behind : Start → MailStage → Option Cause → Need
mail_behind start stage broken = mail.need_at start (then_course (record { stage = stage; broken = broken }) (unless_broken broken (mail.move start stage (found any_key None))))

mail_next : (start : Start) (side : Bool) (stage : MailStage) (broken : Option Cause) (template : List Attr) → Holds (mail_good side) (record { stage = stage; broken = broken }) ≡ true → need_unless broken (mail.need_of start stage) ≡ Key template → next_of (mail_behind start stage broken) ≡ by_mail side
mail_next start side stage (Some cause) template h wanted = absurd cc
mail_next start side m.ClientFirst None template h wanted = absurd cc
mail_next start side (m.ClientKey challenge) None template h wanted = ap by_mail (sym (agrees_false side h))
mail_next start side (m.ClientSecond challenge secret) None template h wanted = absurd cc
mail_next start side (m.ClientDone challenge secret) None template h wanted = absurd cc
mail_next start side m.ServerKey None template h wanted = ap by_mail (sym (agrees_true side h))
mail_next start side (m.ServerAsk key) None template h wanted = absurd cc
mail_next start side (m.ServerFirst key challenge) None template h wanted = absurd cc
mail_next start side (m.ServerSecond key challenge) None template h wanted = absurd cc
mail_next start side (m.ServerThird key challenge user) None template h wanted = absurd cc
mail_next start side (m.ServerVouch key challenge user digits) None template h wanted = absurd cc
mail_next start side (m.ServerDone key challenge user digits vouch) None template h wanted = absurd cc

-- ---- p9any

-- it needs no offers, and no key for the sake of them
abbrev away : Standing → Bool
away (choosing c.ServerKey) = false
away (choosing c.ServerOffers) = false
away (choosing (c.ServerFirst l)) = true
away (choosing (c.ServerSecond l)) = true
away (choosing c.ClientFirst) = true
away (choosing (c.ClientPick l)) = true
away (choosing (c.ClientSecond l place)) = true
away (choosing (c.ClientThird l place)) = true
away (within before text talk) = true

text_leads : (stage : Standing) (b : List ℕ) (whole : List ℕ → Verdict Standing) → away stage ≡ true → ((text : List ℕ) → Leads away stage (whole text)) → Leads away stage (with_text (text_in b) whole)
text_leads stage b whole h p = by_text (text_in b)
  where
    by_text : (r : Result (List ℕ) Gave) → Leads away stage (with_text r whole)
    by_text (Ok text) = p text
    by_text (Err answer) = h

-- a message that is given, or got, where nothing was needed
abbrev pub is_message : Call → Bool
is_message (give b) = true
is_message get = true
is_message (found key password) = false
is_message (heard b) = false
is_message unheard = false
is_message roomless = false
is_message undone = false
is_message (offered list) = false
is_message (picked place) = false

any_given : (start : Start) (stage : Standing) (b : List ℕ) → choice.need_of p9sk1 start stage ≡ Nothing → Leads away stage (choice.move p9sk1 start stage (give b))
any_given start (choosing c.ServerOffers) b none = absurd cc
any_given start (choosing c.ServerKey) b none = absurd cc
any_given start (choosing (c.ServerFirst l)) b none = refl
any_given start (choosing (c.ServerSecond l)) b none =
    text_leads (choosing (c.ServerSecond l)) b _ refl (λ text. unless_leads away (choosing (c.ServerSecond l)) (first_told (choice.choice_tests (codes "p9sk1") l text)) _ refl)
any_given start (choosing c.ClientFirst) b none =
    text_leads (choosing c.ClientFirst) b _ refl (λ text. unless_leads away (choosing c.ClientFirst) (first_told (choice.list_tests (codes "p9sk1") start text)) _ refl)
any_given start (choosing (c.ClientPick l)) b none = absurd cc
any_given start (choosing (c.ClientSecond l place)) b none = refl
any_given start (choosing (c.ClientThird l place)) b none =
    text_leads (choosing (c.ClientThird l place)) b _ refl (λ text. unless_leads away (choosing (c.ClientThird l place)) (first_told (choice.consent_tests text)) _ refl)
any_given start (within before text talk) b none = refl

any_got : (start : Start) (stage : Standing) → choice.need_of p9sk1 start stage ≡ Nothing → Leads away stage (choice.move p9sk1 start stage get)
any_got start (choosing c.ServerOffers) none = absurd cc
any_got start (choosing c.ServerKey) none = absurd cc
any_got start (choosing (c.ServerFirst l)) none = refl
any_got start (choosing (c.ServerSecond l)) none = refl
any_got start (choosing c.ClientFirst) none = refl
any_got start (choosing (c.ClientPick l)) none = absurd cc
any_got start (choosing (c.ClientSecond l place)) none = either_leads away (choosing (c.ClientSecond l place)) (consents l) _ _ refl refl
any_got start (choosing (c.ClientThird l place)) none = refl
any_got start (within before text talk) none = refl

any_moved : (start : Start) (stage : Standing) (broken : Option Cause) (call : Call) → is_message call ≡ true → need_unless broken (choice.need_of p9sk1 start stage) ≡ Nothing
    → Holds away (then_course (record { stage = stage; broken = broken }) (unless_broken broken (choice.move p9sk1 start stage call))) ≡ true
any_moved start stage (Some cause) call is none = refl
any_moved start stage None (give b) is none = any_given start stage b none
any_moved start stage None get is none = any_got start stage none
any_moved start stage None (found key password) is none = absurd cc
any_moved start stage None (heard b) is none = absurd cc
any_moved start stage None unheard is none = absurd cc
any_moved start stage None roomless is none = absurd cc
any_moved start stage None undone is none = absurd cc
any_moved start stage None (offered list) is none = absurd cc
any_moved start stage None (picked place) is none = absurd cc

-- the role of a choice is that of its start
named_other : (name : List ℕ) (a : Attr) → is_named name a ≡ true → bytes_eq name (codes "role") ≡ false → is_named (codes "role") a ≡ false
named_other name a is other = ap (λ (n : List ℕ). bytes_eq n (codes "role")) ((bytes_eq-Decides a.name name).0 is) ∙ other

replaced_other : (a : Attr) → is_replaced a ≡ true → is_named (codes "role") a ≡ false
replaced_other a e = elim (cases_Bool (is_named (codes "proto") a)) [
  | inl is ↦ named_other (codes "proto") a is refl
  | inr off ↦ named_other (codes "dom") a (sym (ap (λ (x : Bool). x || is_named (codes "dom") a) off) ∙ e) refl
]

roles_left : (template : List Attr) → texts_of (codes "role") (left_part template) ≡ texts_of (codes "role") template
roles_left [] = refl
roles_left (a ∷ template) = elim (cases_Bool (is_replaced a)) [
  | inl e ↦ rw (e, replaced_other a e) (roles_left template)
  | inr e ↦ rw (e, roles_left template) refl
]

role_stays : (template : List Attr) (dom : List ℕ) → value_of (codes "role") (inner_template (codes "p9sk1") template dom) ≡ value_of (codes "role") template
unfolding value_of
role_stays template dom = rw (roles_left template) refl

-- whether a role serves, by its name
abbrev serves_by : Option (List ℕ) → Bool
serves_by role = cond (is_text_of role (codes "speakfor")) false (is_text_of role (codes "server"))

role_serves : (template : List Attr) → serves (role_of template) ≡ serves_by (value_of (codes "role") template)
unfolding role_of
role_serves template = by_tests (says (codes "role") (codes "speakfor") template) (says (codes "role") (codes "server") template)
  where
    by_tests : (x y : Bool) → serves (cond x (Speakfor (unwrap_or (value_of (codes "user") template) [])) (cond y Server Client)) ≡ cond x false y
    by_tests true y = refl
    by_tests false true = refl
    by_tests false false = refl

any_next : (start : Start) (stage : Standing) (broken : Option Cause) (template : List Attr) → Holds away (record { stage = stage; broken = broken }) ≡ true → need_unless broken (choice.need_of p9sk1 start stage) ≡ Key template
    → next_of (any_need start (any_then start stage broken (found any_key None))) ≡ by_side (serves (role_of start.template))
any_next start stage (Some cause) template h wanted = absurd cc
any_next start (choosing c.ServerOffers) None template h wanted = absurd cc
any_next start (choosing c.ServerKey) None template h wanted = absurd cc
any_next start (choosing (c.ServerFirst l)) None template h wanted = absurd cc
any_next start (choosing (c.ServerSecond l)) None template h wanted = absurd cc
any_next start (choosing c.ClientFirst) None template h wanted = absurd cc
any_next start (choosing (c.ClientPick l)) None template h wanted = absurd cc
any_next start (choosing (c.ClientSecond l place)) None template h wanted = absurd cc
any_next start (choosing (c.ClientThird l place)) None template h wanted = absurd cc
any_next start (within before text talk) None template h wanted =
    let s = choice.chosen_start p9sk1 start text in
    sk_next s (serves (role_of s.template)) (sk.course s talk).stage (sk.course s talk).broken template (sk_keeps s talk) wanted
    ∙ ap by_side (role_serves s.template ∙ ap serves_by (role_stays start.template (dom_in (codes "p9sk1") text)) ∙ sym (role_serves start.template))

-- ---- whatever the protocol is

pub mail_role : (template : List Attr) → side_serves (side_of template) ≡ is_text_of (value_of (codes "role") template) (codes "server")
unfolding side_of
mail_role template = by_test (says (codes "role") (codes "server") template)
  where
    by_test : (x : Bool) → side_serves (cond x side_of_mail.Server side_of_mail.Client) ≡ x
    by_test true = refl
    by_test false = refl

abbrev next_by : Protocol → Option (List ℕ) → Next
next_by P9sk1 role = by_side (serves_by role)
next_by P9any role = by_side (serves_by role)
next_by Mail role = by_mail (is_text_of role (codes "server"))

-- what a key leads to, by the protocol and the role of a start
abbrev pub next_named : Option (List ℕ) → Option (List ℕ) → Next
next_named proto role = next_by (cond (is_text_of proto (codes "p9any")) P9any (cond (is_text_of proto (codes "apop") || is_text_of proto (codes "cram")) Mail P9sk1)) role

named_so : (template : List Attr) → next_by (protocol_of template) (value_of (codes "role") template) ≡ next_named (value_of (codes "proto") template) (value_of (codes "role") template)
unfolding protocol_of
named_so template = refl

abbrev Leading : Protocol → Start → List Call → Type 0
Leading p start talk = (template : List Attr) → needs_by p start talk ≡ Key template → next_of (needs_by p start (found any_key None ∷ talk)) ≡ next_by p (value_of (codes "role") start.template)

sk_leading : (start : Start) (talk : List Call) → Leading P9sk1 start talk
sk_leading start talk template wanted =
    sk_next start (serves (role_of start.template)) (sk.course start talk).stage (sk.course start talk).broken template (sk_keeps start talk) wanted ∙ ap by_side (role_serves start.template)

mail_leading : (start : Start) (talk : List Call) → Leading Mail start talk
mail_leading start talk template wanted =
    mail_next start (side_serves (side_of start.template)) (mail.course start talk).stage (mail.course start talk).broken template (mail_keeps start talk) wanted ∙ ap by_mail (mail_role start.template)

any_leading : (start : Start) (talk : List Call) → Holds away (choice.course p9sk1 start talk) ≡ true → Leading P9any start talk
any_leading start talk h template wanted =
    any_next start (choice.course p9sk1 start talk).stage (choice.course p9sk1 start talk).broken template h wanted ∙ ap by_side (role_serves start.template)

-- a server of p9any begins by its offers, and no client needs anything
any_began : (start : Start) (role : Role) (template : List Attr) → choice.choice_need (codes "p9sk1") start (choice.first_stage role) ≡ Key template → next_of (needs_by P9any start (found any_key None ∷ [])) ≡ next_by P9any (value_of (codes "role") start.template)
any_began start Client template wanted = absurd cc
any_began start Server template wanted = absurd cc
any_began start (Speakfor user) template wanted = absurd cc

began_by : (p : Protocol) (start : Start) → Leading p start []
began_by P9sk1 start = sk_leading start []
began_by P9any start = any_began start (role_of start.template)
began_by Mail start = mail_leading start []

moved_by : (p : Protocol) (start : Start) (talk : List Call) (call : Call) → is_message call ≡ true → needs_by p start talk ≡ Nothing → Leading p start (call ∷ talk)
moved_by P9sk1 start talk call is none = sk_leading start (call ∷ talk)
moved_by P9any start talk call is none = any_leading start (call ∷ talk) (any_moved start (choice.course p9sk1 start talk).stage (choice.course p9sk1 start talk).broken call is none)
moved_by Mail start talk call is none = mail_leading start (call ∷ talk)

-- a key that a start wants, or a message where nothing was needed, leads to what the start's protocol and role tell
pub began_next : (start : Start) (template : List Attr) → needs start [] ≡ Key template → next_of (needs start (found any_key None ∷ [])) ≡ next_named (value_of (codes "proto") start.template) (value_of (codes "role") start.template)
began_next start template wanted = began_by (protocol_of start.template) start template wanted ∙ named_so start.template

pub moved_next : (start : Start) (talk : List Call) (call : Call) (template : List Attr) → is_message call ≡ true → needs start talk ≡ Nothing → needs start (call ∷ talk) ≡ Key template
    → next_of (needs start (found any_key None ∷ call ∷ talk)) ≡ next_named (value_of (codes "proto") start.template) (value_of (codes "role") start.template)
moved_next start talk call template is none wanted = moved_by (protocol_of start.template) start talk call is none template wanted ∙ named_so start.template

-- ---- where offers are needed

abbrev offers_by : Protocol → Bool
offers_by P9sk1 = false
offers_by P9any = true
offers_by Mail = false

-- a start of p9any, by its name
abbrev pub is_any : Option (List ℕ) → Bool
is_any proto = is_text_of proto (codes "p9any")

any_so : (template : List Attr) → offers_by (protocol_of template) ≡ is_any (value_of (codes "proto") template)
unfolding protocol_of
any_so template = by_tests (says (codes "proto") (codes "p9any") template) (names_proto template)
  where
    by_tests : (x y : Bool) → offers_by (cond x P9any (cond y Mail P9sk1)) ≡ x
    by_tests true y = refl
    by_tests false true = refl
    by_tests false false = refl

-- a key is needed, or offers, or neither
abbrev pub Sought : Bool → Need → Type 0
Sought offers (Key template) = offers ≡ false
Sought offers (Offers template) = offers ≡ true
Sought offers (Pick templates) = Unit {0}
Sought offers (Exchange request shape) = Unit {0}
Sought offers Nothing = Unit {0}

no_offers : (need : Need) → (IsOffers need → ⊥) → Sought false need
no_offers (Key template) none = refl
no_offers (Offers template) none = absurd (none tt)
no_offers (Pick templates) none = tt
no_offers (Exchange request shape) none = tt
no_offers Nothing none = tt

first_offers : (start : Start) (role : Role) → Sought true (choice.choice_need (codes "p9sk1") start (choice.first_stage role))
first_offers start Client = tt
first_offers start Server = refl
first_offers start (Speakfor user) = tt

began_sought : (p : Protocol) (start : Start) → Sought (offers_by p) (needs_by p start [])
began_sought P9sk1 start = no_offers (needs_by P9sk1 start []) (p9sk1_seeks.never_offers start [])
began_sought P9any start = first_offers start (role_of start.template)
began_sought Mail start = no_offers (needs_by Mail start []) (mail_needs.never_offers start [])

-- a start needs offers where it is one of p9any, and else a key
pub began_so : (start : Start) → Sought (is_any (value_of (codes "proto") start.template)) (needs start [])
began_so start = subst (λ (b : Bool). Sought b (needs start [])) (any_so start.template) (began_sought (protocol_of start.template) start)

away_offers : (start : Start) (stage : Standing) (broken : Option Cause) → Holds away (record { stage = stage; broken = broken }) ≡ true → IsOffers (need_unless broken (choice.need_of p9sk1 start stage)) → ⊥
away_offers start stage (Some cause) h wanted = wanted
away_offers start (choosing c.ServerOffers) None h wanted = cc
away_offers start (choosing c.ServerKey) None h wanted = wanted
away_offers start (choosing (c.ServerFirst l)) None h wanted = wanted
away_offers start (choosing (c.ServerSecond l)) None h wanted = wanted
away_offers start (choosing c.ClientFirst) None h wanted = wanted
away_offers start (choosing (c.ClientPick l)) None h wanted = wanted
away_offers start (choosing (c.ClientSecond l place)) None h wanted = wanted
away_offers start (choosing (c.ClientThird l place)) None h wanted = wanted
away_offers start (within before text talk) None h wanted = p9sk1_seeks.never_offers (choice.chosen_start p9sk1 start text) talk wanted

moved_sought : (p : Protocol) (start : Start) (talk : List Call) (call : Call) → is_message call ≡ true → needs_by p start talk ≡ Nothing → Sought false (needs_by p start (call ∷ talk))
moved_sought P9sk1 start talk call is none = no_offers (needs_by P9sk1 start (call ∷ talk)) (p9sk1_seeks.never_offers start (call ∷ talk))
moved_sought P9any start talk call is none =
    no_offers (needs_by P9any start (call ∷ talk))
    (away_offers start (choice.course p9sk1 start (call ∷ talk)).stage (choice.course p9sk1 start (call ∷ talk)).broken (any_moved start (choice.course p9sk1 start talk).stage (choice.course p9sk1 start talk).broken call is none))
moved_sought Mail start talk call is none = no_offers (needs_by Mail start (call ∷ talk)) (mail_needs.never_offers start (call ∷ talk))

-- a message needs none
pub moved_so : (start : Start) (talk : List Call) (call : Call) → is_message call ≡ true → needs start talk ≡ Nothing → Sought false (needs start (call ∷ talk))
moved_so start talk call is none = moved_sought (protocol_of start.template) start talk call is none
