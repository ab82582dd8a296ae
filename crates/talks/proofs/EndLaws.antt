-- A conversation that has come to its end needs nothing any more, and stays at its end.
use Rattle.std.proofs.Common.{◌≡◌, ℕ, List, [], ◌∷◌, Bool, true, false, cond, Option, Some, None, Result, Ok, Err, refl, subst, sym, ap}
use Rattle.sealing.specs.declared.fault.FieldFault.{FieldFault}
use Rattle.sealing.specs.declared.ticket.Ticket.{Ticket}
use Rattle.roles.specs.declared.answer.Cause.{Cause}
use Rattle.roles.specs.declared.answer.Cause.TheVariants.{WrongKind}
use Rattle.roles.specs.declared.answer.Gave.TheVariants as g
use Rattle.roles.specs.declared.key.SkKey.{SkKey}
use Rattle.roles.specs.declared.need.Need.{Need}
use Rattle.roles.specs.declared.need.Need.TheVariants.{Nothing}
use Rattle.roles.specs.declared.stage.Stage.{Stage}
use Rattle.roles.specs.declared.stage.Stage.TheVariants.{ClientFirst, ClientSecond, ClientKey, ClientAsk, ClientThird, ClientFourth, ClientDone, ServerKey, ServerFirst, ServerSecond, ServerThird, ServerFourth, ServerDone}
use Rattle.roles.specs.Answers.{is_sought}
use Rattle.roles.specs.Servers.{proof_got}
use Rattle.roles.specs.Starts.{Start}
use Rattle.roles.specs.Talks.{Call, Progress, Verdict, give, get, found, heard, unheard, roomless, undone, offered, picked, goes}
use Rattle.roles.specs.Tickets.{ticket_part, ticket_under, with_ticket}
use Rattle.roles.specs.Courses as sk
use Rattle.roles.specs.Courses.{accepted, need_unless, outcome_unless, then_course}
use Rattle.conv_p9any.specs.declared.stage.Stage.{Stage as ChoiceStage}
use Rattle.conv_p9any.specs.Inner.{Inner}
use Rattle.conv_p9any.specs.Talks.{Standing, choosing, within}
use Rattle.conv_p9any.specs.Courses as choice
use Rattle.conv_challenge.specs.declared.stage.Stage.{Stage as MailStage}
use Rattle.conv_challenge.specs.declared.stage.Stage.TheVariants as m
use Rattle.conv_challenge.specs.Courses as mail
use Rattle.talks.specs.Protocols.{Protocol, P9sk1, P9any, Mail, ends, ends_by, is_over, needs, needs_by, p9sk1, protocol_of}

accepted_over : (cause : Cause) (ticket : Result Ticket FieldFault) → is_over (accepted cause ticket) ≡ true
accepted_over cause (Ok ticket) = refl
accepted_over cause (Err fault) = refl

-- ---- p9sk1

sk_needs : (start : Start) (broken : Option Cause) (stage : Stage) → is_over (outcome_unless broken (sk.outcome_of stage)) ≡ true → need_unless broken (sk.need_of start stage) ≡ Nothing
sk_needs start (Some cause) stage over = refl
sk_needs start None ClientFirst over = absurd cc
sk_needs start None ClientSecond over = absurd cc
sk_needs start None (ClientKey request) over = absurd cc
sk_needs start None (ClientAsk request key) over = absurd cc
sk_needs start None (ClientThird request key tickets) over = absurd cc
sk_needs start None (ClientFourth request key tickets) over = absurd cc
sk_needs start None (ClientDone request key tickets proof) over = refl
sk_needs start None ServerKey over = absurd cc
sk_needs start None (ServerFirst key) over = absurd cc
sk_needs start None (ServerSecond key theirs) over = absurd cc
sk_needs start None (ServerThird key theirs) over = absurd cc
sk_needs start None (ServerFourth key theirs shown) over = refl
sk_needs start None (ServerDone key theirs shown) over = refl

abbrev at : {S : Type 0} → S → Progress S
at stage = record { stage = stage; broken = None }

abbrev SkOver : Progress Stage → Type 0
SkOver p = is_over (sk.outcome_at p) ≡ true

-- a client's last move was made
client_stays : (start : Start) (request : List ℕ) (key : SkKey) (tickets proof : List ℕ) (call : Call) → SkOver (at (ClientDone request key tickets proof)) → SkOver (then_course (at (ClientDone request key tickets proof)) (sk.move start (ClientDone request key tickets proof) call))
client_stays start request key tickets proof (give b) over = over
client_stays start request key tickets proof get over = over
client_stays start request key tickets proof (found k password) over = over
client_stays start request key tickets proof (heard b) over = over
client_stays start request key tickets proof unheard over = over
client_stays start request key tickets proof roomless over = over
client_stays start request key tickets proof undone over = over
client_stays start request key tickets proof (offered list) over = over
client_stays start request key tickets proof (picked place) over = over

server_stays : (start : Start) (key : SkKey) (theirs shown : List ℕ) (call : Call) → SkOver (at (ServerDone key theirs shown)) → SkOver (then_course (at (ServerDone key theirs shown)) (sk.move start (ServerDone key theirs shown) call))
server_stays start key theirs shown (give b) over = over
server_stays start key theirs shown get over = over
server_stays start key theirs shown (found k password) over = over
server_stays start key theirs shown (heard b) over = over
server_stays start key theirs shown unheard over = over
server_stays start key theirs shown roomless over = over
server_stays start key theirs shown undone over = over
server_stays start key theirs shown (offered list) over = over
server_stays start key theirs shown (picked place) over = over

-- a server accepts before its last move, by which it stays at its end
got_over : (key : SkKey) (theirs shown : List ℕ) (opened : Result Ticket FieldFault) (bytes : Ticket → List ℕ) → SkOver (then_course (at (ServerFourth key theirs shown)) (with_ticket WrongKind opened (λ ticket. goes (ServerDone key theirs shown) g.Ok (bytes ticket))))
got_over key theirs shown (Ok ticket) bytes = accepted_over WrongKind (ticket_under key (ticket_part shown))
got_over key theirs shown (Err fault) bytes = refl

fourth_stays : (start : Start) (key : SkKey) (theirs shown : List ℕ) (call : Call) → SkOver (at (ServerFourth key theirs shown)) → SkOver (then_course (at (ServerFourth key theirs shown)) (sk.move start (ServerFourth key theirs shown) call))
fourth_stays start key theirs shown get over = got_over key theirs shown (ticket_under key (ticket_part shown)) _
fourth_stays start key theirs shown (give b) over = over
fourth_stays start key theirs shown (found k password) over = over
fourth_stays start key theirs shown (heard b) over = over
fourth_stays start key theirs shown unheard over = over
fourth_stays start key theirs shown roomless over = over
fourth_stays start key theirs shown undone over = over
fourth_stays start key theirs shown (offered list) over = over
fourth_stays start key theirs shown (picked place) over = over

sk_stays : (start : Start) (broken : Option Cause) (stage : Stage) (call : Call) → SkOver (record { stage = stage; broken = broken }) → SkOver (then_course (record { stage = stage; broken = broken }) (sk.verdict start (record { stage = stage; broken = broken }) call))
sk_stays start (Some cause) stage call over = refl
sk_stays start None ClientFirst call over = absurd cc
sk_stays start None ClientSecond call over = absurd cc
sk_stays start None (ClientKey request) call over = absurd cc
sk_stays start None (ClientAsk request key) call over = absurd cc
sk_stays start None (ClientThird request key tickets) call over = absurd cc
sk_stays start None (ClientFourth request key tickets) call over = absurd cc
sk_stays start None (ClientDone request key tickets proof) call over = client_stays start request key tickets proof call over
sk_stays start None ServerKey call over = absurd cc
sk_stays start None (ServerFirst key) call over = absurd cc
sk_stays start None (ServerSecond key theirs) call over = absurd cc
sk_stays start None (ServerThird key theirs) call over = absurd cc
sk_stays start None (ServerFourth key theirs shown) call over = fourth_stays start key theirs shown call over
sk_stays start None (ServerDone key theirs shown) call over = server_stays start key theirs shown call over

-- ---- APOP and CRAM

mail_needs : (start : Start) (broken : Option Cause) (stage : MailStage) → is_over (outcome_unless broken (mail.outcome_of stage)) ≡ true → need_unless broken (mail.need_of start stage) ≡ Nothing
mail_needs start (Some cause) stage over = refl
mail_needs start None m.ClientFirst over = absurd cc
mail_needs start None (m.ClientKey challenge) over = absurd cc
mail_needs start None (m.ClientSecond challenge password) over = absurd cc
mail_needs start None (m.ClientDone challenge password) over = refl
mail_needs start None m.ServerKey over = absurd cc
mail_needs start None (m.ServerAsk key) over = absurd cc
mail_needs start None (m.ServerFirst key challenge) over = absurd cc
mail_needs start None (m.ServerSecond key challenge) over = absurd cc
mail_needs start None (m.ServerThird key challenge user) over = absurd cc
mail_needs start None (m.ServerVouch key challenge user digits) over = absurd cc
mail_needs start None (m.ServerDone key challenge user digits vouch) over = refl

abbrev MailOver : Progress MailStage → Type 0
MailOver p = is_over (mail.outcome_at p) ≡ true

answered_stays : (start : Start) (challenge password : List ℕ) (call : Call) → MailOver (then_course (at (m.ClientDone challenge password)) (mail.move start (m.ClientDone challenge password) call))
answered_stays start challenge password (give b) = refl
answered_stays start challenge password get = refl
answered_stays start challenge password (found k p) = refl
answered_stays start challenge password (heard b) = refl
answered_stays start challenge password unheard = refl
answered_stays start challenge password roomless = refl
answered_stays start challenge password undone = refl
answered_stays start challenge password (offered list) = refl
answered_stays start challenge password (picked place) = refl

vouched_stays : (start : Start) (key : SkKey) (challenge user digits vouch : List ℕ) (call : Call) → MailOver (at (m.ServerDone key challenge user digits vouch)) → MailOver (then_course (at (m.ServerDone key challenge user digits vouch)) (mail.move start (m.ServerDone key challenge user digits vouch) call))
vouched_stays start key challenge user digits vouch (give b) over = over
vouched_stays start key challenge user digits vouch get over = over
vouched_stays start key challenge user digits vouch (found k p) over = over
vouched_stays start key challenge user digits vouch (heard b) over = over
vouched_stays start key challenge user digits vouch unheard over = over
vouched_stays start key challenge user digits vouch roomless over = over
vouched_stays start key challenge user digits vouch undone over = over
vouched_stays start key challenge user digits vouch (offered list) over = over
vouched_stays start key challenge user digits vouch (picked place) over = over

mail_stays : (start : Start) (broken : Option Cause) (stage : MailStage) (call : Call) → MailOver (record { stage = stage; broken = broken }) → MailOver (then_course (record { stage = stage; broken = broken }) (mail.verdict start (record { stage = stage; broken = broken }) call))
mail_stays start (Some cause) stage call over = refl
mail_stays start None m.ClientFirst call over = absurd cc
mail_stays start None (m.ClientKey challenge) call over = absurd cc
mail_stays start None (m.ClientSecond challenge password) call over = absurd cc
mail_stays start None (m.ClientDone challenge password) call over = answered_stays start challenge password call
mail_stays start None m.ServerKey call over = absurd cc
mail_stays start None (m.ServerAsk key) call over = absurd cc
mail_stays start None (m.ServerFirst key challenge) call over = absurd cc
mail_stays start None (m.ServerSecond key challenge) call over = absurd cc
mail_stays start None (m.ServerThird key challenge user) call over = absurd cc
mail_stays start None (m.ServerVouch key challenge user digits) call over = absurd cc
mail_stays start None (m.ServerDone key challenge user digits vouch) call over = vouched_stays start key challenge user digits vouch call over

-- ---- p9any, whose inner role keeps to this

record Ending (inner : Inner) : Type 0 where
  pub needs_none : (start : Start) (talk : List Call) → is_over (inner.ends start talk) ≡ true → inner.needs start talk ≡ Nothing
  pub stays_over : (start : Start) (talk : List Call) (call : Call) → is_over (inner.ends start talk) ≡ true → is_over (inner.ends start (call ∷ talk)) ≡ true

choice_needs : (inner : Inner) (law : Ending inner) (start : Start) (broken : Option Cause) (stage : Standing) → is_over (outcome_unless broken (choice.outcome_of inner start stage)) ≡ true → need_unless broken (choice.need_of inner start stage) ≡ Nothing
choice_needs inner law start (Some cause) stage over = refl
choice_needs inner law start None (choosing stage) over = absurd cc
choice_needs inner law start None (within before text talk) over = law.needs_none (choice.chosen_start inner start text) talk over

abbrev ChoiceOver : Inner → Start → Progress Standing → Type 0
ChoiceOver inner start p = is_over (outcome_unless p.broken (choice.outcome_of inner start p.stage)) ≡ true

-- what is sought isn't taken back at the end
back_stays : (inner : Inner) (start : Start) (p : Progress Standing) (need : Need) (v w : Verdict Standing) → need ≡ Nothing → ChoiceOver inner start (then_course p w) → ChoiceOver inner start (then_course p (cond (is_sought need) v w))
back_stays inner start p need v w none over = subst (λ (n : Need). ChoiceOver inner start (then_course p (cond (is_sought n) v w))) (sym none) over

abbrev inside : ChoiceStage → List ℕ → List Call → Progress Standing
inside before text talk = at (within before text talk)

within_stays : (inner : Inner) (law : Ending inner) (start : Start) (before : ChoiceStage) (text : List ℕ) (talk : List Call) (call : Call) → ChoiceOver inner start (inside before text talk) → ChoiceOver inner start (then_course (inside before text talk) (choice.move inner start (within before text talk) call))
within_stays inner law start before text [] undone over =
    back_stays inner start (inside before text []) (inner.needs (choice.chosen_start inner start text) []) (goes (choosing before) g.Ok []) (choice.passed_on inner start before text [] undone)
    (law.needs_none (choice.chosen_start inner start text) [] over) (law.stays_over (choice.chosen_start inner start text) [] undone over)
within_stays inner law start before text (c ∷ talk) undone over = law.stays_over (choice.chosen_start inner start text) (c ∷ talk) undone over
within_stays inner law start before text talk (offered list) over = over
within_stays inner law start before text talk (picked place) over = over
within_stays inner law start before text talk (give b) over = law.stays_over (choice.chosen_start inner start text) talk (give b) over
within_stays inner law start before text talk get over = law.stays_over (choice.chosen_start inner start text) talk get over
within_stays inner law start before text talk (found key password) over = law.stays_over (choice.chosen_start inner start text) talk (found key password) over
within_stays inner law start before text talk (heard b) over = law.stays_over (choice.chosen_start inner start text) talk (heard b) over
within_stays inner law start before text talk unheard over = law.stays_over (choice.chosen_start inner start text) talk unheard over
within_stays inner law start before text talk roomless over = law.stays_over (choice.chosen_start inner start text) talk roomless over

choice_stays : (inner : Inner) (law : Ending inner) (start : Start) (broken : Option Cause) (stage : Standing) (call : Call) → ChoiceOver inner start (record { stage = stage; broken = broken }) → ChoiceOver inner start (then_course (record { stage = stage; broken = broken }) (choice.verdict inner start (record { stage = stage; broken = broken }) call))
choice_stays inner law start (Some cause) stage call over = refl
choice_stays inner law start None (choosing stage) call over = absurd cc
choice_stays inner law start None (within before text talk) call over = within_stays inner law start before text talk call over

-- ---- whatever the protocol is

sk_ending : Ending p9sk1
sk_ending = record {
  needs_none = λ start talk over. sk_needs start (sk.course start talk).broken (sk.course start talk).stage over;
  stays_over = λ start talk call over. sk_stays start (sk.course start talk).broken (sk.course start talk).stage call over;
}

none_by : (p : Protocol) (start : Start) (talk : List Call) → is_over (ends_by p start talk) ≡ true → needs_by p start talk ≡ Nothing
none_by P9sk1 start talk over = sk_ending.needs_none start talk over
none_by P9any start talk over = choice_needs p9sk1 sk_ending start (choice.course p9sk1 start talk).broken (choice.course p9sk1 start talk).stage over
none_by Mail start talk over = mail_needs start (mail.course start talk).broken (mail.course start talk).stage over

stays_by : (p : Protocol) (start : Start) (talk : List Call) (call : Call) → is_over (ends_by p start talk) ≡ true → is_over (ends_by p start (call ∷ talk)) ≡ true
stays_by P9sk1 start talk call over = sk_ending.stays_over start talk call over
stays_by P9any start talk call over = choice_stays p9sk1 sk_ending start (choice.course p9sk1 start talk).broken (choice.course p9sk1 start talk).stage call over
stays_by Mail start talk call over = mail_stays start (mail.course start talk).broken (mail.course start talk).stage call over

pub none_at_the_end : (start : Start) (talk : List Call) → is_over (ends start talk) ≡ true → needs start talk ≡ Nothing
none_at_the_end start talk over = none_by (protocol_of start.template) start talk over

pub stays_at_the_end : (start : Start) (talk : List Call) (call : Call) → is_over (ends start talk) ≡ true → is_over (ends start (call ∷ talk)) ≡ true
stays_at_the_end start talk call over = stays_by (protocol_of start.template) start talk call over
