-- A client of APOP or CRAM comes to its end when it gives its digits, and accepts nobody; no other conversation ends so. That is
-- told by the protocol, the role and the answer to a read.
use Rattle.std.proofs.Common.{◌≡◌, ℕ, List, [], ◌∷◌, Bool, true, false, cond, ltb, length, drop, ◌||◌, ◌&&◌, not, Option, Some, None, Result, Ok, Err, refl, sym, ap, ◌∙◌, codes}
use Rattle.std.specs.Str.{bytes_eq}
use Rattle.wire_base.specs.Rules.{first_told}
use Rattle.attr_tuples.specs.declared.attr.Attr.{Attr}
use Rattle.attr_tuples.specs.Matching.{value_of}
use Rattle.sealing.specs.declared.fault.FieldFault.{FieldFault}
use Rattle.sealing.specs.declared.ticket.Ticket.{Ticket}
use Rattle.key_lists.specs.Lists.{KeyEntry}
use Rattle.roles.specs.declared.answer.Cause.{Cause}
use Rattle.roles.specs.declared.answer.Cause.TheVariants.{BadKey, WrongKind}
use Rattle.roles.specs.declared.answer.Gave.{Gave}
use Rattle.roles.specs.declared.answer.Gave.TheVariants as g
use Rattle.roles.specs.declared.key.SkKey.{SkKey}
use Rattle.roles.specs.declared.need.Need.TheVariants.{Nothing}
use Rattle.roles.specs.declared.need.Outcome.{Outcome}
use Rattle.roles.specs.declared.need.Outcome.TheVariants.{Running, Accepted, Finished, Broken}
use Rattle.roles.specs.declared.stage.Stage.{Stage}
use Rattle.roles.specs.declared.stage.Stage.TheVariants.{ClientFirst, ClientSecond, ClientKey, ClientAsk, ClientThird, ClientFourth, ClientDone, ServerKey, ServerFirst, ServerSecond, ServerThird, ServerFourth, ServerDone}
use Rattle.roles.specs.Answers.{IsExchange}
use Rattle.roles.specs.Starts.{Start, is_text_of}
use Rattle.roles.specs.Talks.{Call, Progress, Verdict, give, get, heard, goes, stays}
use Rattle.roles.specs.Tickets.{proof_under, rest_part, ticket_part, ticket_under}
use Rattle.roles.specs.Clients.{is_refusal}
use Rattle.roles.specs.Courses as sk
use Rattle.roles.specs.Courses.{accepted, answer_of, need_unless, outcome_unless, then_course, unless_broken}
use Rattle.talks.specs.RpcAnswers.{title_of}
use Rattle.talks.specs.declared.answer.RpcAnswer.TheVariants as a
use Rattle.talks.specs.Answers.{move_answer}
use Rattle.conv_p9any.specs.Talks.{Standing, choosing, within}
use Rattle.conv_p9any.specs.Courses as choice
use Rattle.conv_challenge.specs.declared.stage.Side.{Side}
use Rattle.conv_challenge.specs.declared.stage.Side.TheVariants as s
use Rattle.conv_challenge.specs.declared.stage.Stage.{Stage as MailStage}
use Rattle.conv_challenge.specs.declared.stage.Stage.TheVariants as m
use Rattle.conv_challenge.specs.declared.stage.TheConstants.{MOST_CHALLENGE}
use Rattle.conv_challenge.specs.Clients.{bounded}
use Rattle.conv_challenge.specs.Servers.{grants_challenge, grants_vouch, user_tests, vouch_tests}
use Rattle.conv_challenge.specs.Starts.{side_of}
use Rattle.conv_challenge.specs.Courses as mail
use Rattle.talks.specs.Protocols.{Protocol, P9sk1, P9any, Mail, answers_by, answers, ends, ends_by, needs, needs_by, p9sk1, protocol_of}
use Rattle.agent_laws.proofs.KeyedLaws.{Holds, Leads, either_leads, sized_leads, tested_leads, unless_leads}
use Rattle.agent_laws.proofs.SideLaws.{agrees_false, agrees_true, mail_good, mail_keeps, mail_role, side_serves}

-- it has ended, and accepts nobody
abbrev pub is_alone : Outcome → Bool
is_alone Running = false
is_alone (Accepted info) = false
is_alone Finished = true
is_alone (Broken cause) = false

accepts : (cause : Cause) (r : Result Ticket FieldFault) → is_alone (accepted cause r) ≡ false
accepts cause (Ok ticket) = refl
accepts cause (Err fault) = refl

unless_alone : (broken : Option Cause) (outcome : Outcome) → is_alone outcome ≡ false → is_alone (outcome_unless broken outcome) ≡ false
unless_alone None outcome h = h
unless_alone (Some cause) outcome h = refl

sk_alone : (stage : Stage) → is_alone (sk.outcome_of stage) ≡ false
sk_alone ClientFirst = refl
sk_alone ClientSecond = refl
sk_alone (ClientKey request) = refl
sk_alone (ClientAsk request key) = refl
sk_alone (ClientThird request key tickets) = refl
sk_alone (ClientFourth request key tickets) = refl
sk_alone (ClientDone request key tickets proof) = accepts BadKey (ticket_under key (ticket_part tickets))
sk_alone ServerKey = refl
sk_alone (ServerFirst key) = refl
sk_alone (ServerSecond key theirs) = refl
sk_alone (ServerThird key theirs) = refl
sk_alone (ServerFourth key theirs shown) = accepts WrongKind (ticket_under key (ticket_part shown))
sk_alone (ServerDone key theirs shown) = accepts WrongKind (ticket_under key (ticket_part shown))

any_alone : (start : Start) (stage : Standing) → is_alone (choice.outcome_of p9sk1 start stage) ≡ false
any_alone start (choosing stage) = refl
any_alone start (within before text talk) =
    let s = choice.chosen_start p9sk1 start text in
    unless_alone (sk.course s talk).broken (sk.outcome_of (sk.course s talk).stage) (sk_alone (sk.course s talk).stage)

-- APOP and CRAM
abbrev going : MailStage → Bool
going stage = not (is_alone (mail.outcome_of stage))

from_going : (stage : MailStage) (broken : Option Cause) → Holds going (record { stage = stage; broken = broken }) ≡ true → is_alone (outcome_unless broken (mail.outcome_of stage)) ≡ false
from_going stage (Some cause) h = refl
from_going stage None h = not_alone (is_alone (mail.outcome_of stage)) h
  where
    not_alone : (x : Bool) → not x ≡ true → x ≡ false
    not_alone true e = absurd cc
    not_alone false e = refl

bounded_going : (stage : MailStage) (most : ℕ) (b : List ℕ) (v : Verdict MailStage) → going stage ≡ true → Leads going stage v → Leads going stage (bounded most b v)
bounded_going stage most b v h p = either_leads going stage (ltb (length b) 1) (stays (g.TooSmall 1)) _ h (either_leads going stage (ltb most (length b)) (stays g.TooLong) v h p)

done_going : (key : SkKey) (challenge user digits vouch : List ℕ) → going (m.ServerDone key challenge user digits vouch) ≡ true
done_going key challenge user digits vouch = ap not (accepts BadKey (ticket_under key (ticket_part vouch)))

-- a message that is given ends nothing so
mail_given : (start : Start) (stage : MailStage) (b : List ℕ) → mail.need_of start stage ≡ Nothing → going stage ≡ true → Leads going stage (mail.move start stage (give b))
mail_given start m.ClientFirst b none h = bounded_going m.ClientFirst MOST_CHALLENGE b _ refl refl
mail_given start (m.ClientKey challenge) b none h = absurd cc
mail_given start (m.ClientSecond challenge secret) b none h = refl
mail_given start (m.ClientDone challenge secret) b none h = absurd cc
mail_given start m.ServerKey b none h = absurd cc
mail_given start (m.ServerAsk key) b none h = absurd cc
mail_given start (m.ServerFirst key challenge) b none h = refl
mail_given start (m.ServerSecond key challenge) b none h = bounded_going (m.ServerSecond key challenge) 27 b _ refl (unless_leads going (m.ServerSecond key challenge) (first_told (user_tests b)) (goes (m.ServerThird key challenge b) g.Ok []) refl)
mail_given start (m.ServerThird key challenge user) b none h = sized_leads going (m.ServerThird key challenge user) 32 b _ refl refl
mail_given start (m.ServerVouch key challenge user digits) b none h = absurd cc
mail_given start (m.ServerDone key challenge user digits vouch) b none h = h

-- nor does an answer of the authentication server
mail_heard : (start : Start) (stage : MailStage) (b : List ℕ) → IsExchange (mail.need_of start stage) → Leads going stage (mail.move start stage (heard b))
mail_heard start m.ClientFirst b wanted = absurd wanted
mail_heard start (m.ClientKey challenge) b wanted = absurd wanted
mail_heard start (m.ClientSecond challenge secret) b wanted = absurd wanted
mail_heard start (m.ClientDone challenge secret) b wanted = absurd wanted
mail_heard start m.ServerKey b wanted = absurd wanted
mail_heard start (m.ServerAsk key) b wanted = either_leads going (m.ServerAsk key) (is_refusal b) _ _ refl (either_leads going (m.ServerAsk key) (grants_challenge b) _ _ refl refl)
mail_heard start (m.ServerFirst key challenge) b wanted = absurd wanted
mail_heard start (m.ServerSecond key challenge) b wanted = absurd wanted
mail_heard start (m.ServerThird key challenge user) b wanted = absurd wanted
mail_heard start (m.ServerVouch key challenge user digits) b wanted =
    either_leads going (m.ServerVouch key challenge user digits) (is_refusal b) _ _ refl
    (either_leads going (m.ServerVouch key challenge user digits) (grants_vouch b) _ _
    (tested_leads going (m.ServerVouch key challenge user digits) BadKey (ticket_under key (ticket_part (drop 1 b))) (λ t. vouch_tests start user t (proof_under t (rest_part (drop 1 b)))) (goes (m.ServerDone key challenge user digits (drop 1 b)) g.Ok []) (done_going key challenge user digits (drop 1 b))) refl)
mail_heard start (m.ServerDone key challenge user digits vouch) b wanted = absurd wanted

abbrev mail_then : Start → MailStage → Option Cause → Call → Progress MailStage
mail_then start stage broken call = then_course (record { stage = stage; broken = broken }) (unless_broken broken (mail.move start stage call))

heard_alone : (start : Start) (stage : MailStage) (broken : Option Cause) (b : List ℕ) → IsExchange (need_unless broken (mail.need_of start stage)) → is_alone (mail.outcome_at (mail_then start stage broken (heard b))) ≡ false
heard_alone start stage (Some cause) b wanted = absurd wanted
heard_alone start stage None b wanted = from_going (mail_then start stage None (heard b)).stage (mail_then start stage None (heard b)).broken (mail_heard start stage b wanted)

alone_by : (p : Protocol) (start : Start) (talk : List Call) (b : List ℕ) → IsExchange (needs_by p start talk) → is_alone (ends_by p start (heard b ∷ talk)) ≡ false
alone_by P9sk1 start talk b wanted = let now = sk.course start (heard b ∷ talk) in unless_alone now.broken (sk.outcome_of now.stage) (sk_alone now.stage)
alone_by P9any start talk b wanted = let now = choice.course p9sk1 start (heard b ∷ talk) in unless_alone now.broken (choice.outcome_of p9sk1 start now.stage) (any_alone start now.stage)
alone_by Mail start talk b wanted = heard_alone start (mail.course start talk).stage (mail.course start talk).broken b wanted

pub heard_not_alone : (start : Start) (talk : List Call) (b : List ℕ) → IsExchange (needs start talk) → is_alone (ends start (heard b ∷ talk)) ≡ false
heard_not_alone start talk b wanted = alone_by (protocol_of start.template) start talk b wanted

began_by : (p : Protocol) (start : Start) → is_alone (ends_by p start []) ≡ false
began_by P9sk1 start = sk_alone (sk.course start []).stage
began_by P9any start = refl
began_by Mail start = first_alone (side_of start.template)
  where
    first_alone : (side : Side) → is_alone (mail.outcome_of (mail.first_stage side)) ≡ false
    first_alone s.Client = refl
    first_alone s.Server = refl

pub began_not_alone : (start : Start) → is_alone (ends start []) ≡ false
began_not_alone start = began_by (protocol_of start.template) start

-- a message that is given leaves it as it was
or_false : (x : Bool) → (x || false) ≡ x
or_false true = refl
or_false false = refl

client_stays : (start : Start) (stage : MailStage) (b : List ℕ) → is_alone (mail.outcome_of stage) ≡ true → is_alone (mail.outcome_at (mail_then start stage None (give b))) ≡ is_alone (mail.outcome_of stage)
client_stays start (m.ClientDone challenge secret) b e = refl
client_stays start m.ClientFirst b e = absurd cc
client_stays start (m.ClientKey challenge) b e = absurd cc
client_stays start (m.ClientSecond challenge secret) b e = absurd cc
client_stays start m.ServerKey b e = absurd cc
client_stays start (m.ServerAsk key) b e = absurd cc
client_stays start (m.ServerFirst key challenge) b e = absurd cc
client_stays start (m.ServerSecond key challenge) b e = absurd cc
client_stays start (m.ServerThird key challenge user) b e = absurd cc
client_stays start (m.ServerVouch key challenge user digits) b e = absurd cc
client_stays start (m.ServerDone key challenge user digits vouch) b e = absurd (let no_way : true ≡ false = sym e ∙ accepts BadKey (ticket_under key (ticket_part vouch)) in cc)

given_stays : (start : Start) (stage : MailStage) (broken : Option Cause) (b : List ℕ) → need_unless broken (mail.need_of start stage) ≡ Nothing
    → is_alone (mail.outcome_at (mail_then start stage broken (give b))) ≡ is_alone (outcome_unless broken (mail.outcome_of stage))
given_stays start stage (Some cause) b none = refl
given_stays start stage None b none = by_stage (is_alone (mail.outcome_of stage)) refl
  where
    by_stage : (x : Bool) → is_alone (mail.outcome_of stage) ≡ x → is_alone (mail.outcome_at (mail_then start stage None (give b))) ≡ is_alone (mail.outcome_of stage)
    by_stage false e = from_going (mail_then start stage None (give b)).stage (mail_then start stage None (give b)).broken (mail_given start stage b none (ap not e)) ∙ sym e
    by_stage true e = client_stays start stage b e

given_by : (p : Protocol) (start : Start) (talk : List Call) (b : List ℕ) → needs_by p start talk ≡ Nothing → is_alone (ends_by p start (give b ∷ talk)) ≡ is_alone (ends_by p start talk)
given_by P9sk1 start talk b none =
    let now = sk.course start (give b ∷ talk) in
    let before = sk.course start talk in
    unless_alone now.broken (sk.outcome_of now.stage) (sk_alone now.stage) ∙ sym (unless_alone before.broken (sk.outcome_of before.stage) (sk_alone before.stage))
given_by P9any start talk b none =
    let now = choice.course p9sk1 start (give b ∷ talk) in
    let before = choice.course p9sk1 start talk in
    unless_alone now.broken (choice.outcome_of p9sk1 start now.stage) (any_alone start now.stage) ∙ sym (unless_alone before.broken (choice.outcome_of p9sk1 start before.stage) (any_alone start before.stage))
given_by Mail start talk b none = given_stays start (mail.course start talk).stage (mail.course start talk).broken b none

pub given_alone : (start : Start) (talk : List Call) (b : List ℕ) → needs start talk ≡ Nothing → is_alone (ends start (give b ∷ talk)) ≡ is_alone (ends start talk)
given_alone start talk b none = given_by (protocol_of start.template) start talk b none

-- ---- what is got

-- a read is answered by what it got
abbrev pub is_got : List ℕ → Bool
is_got word = bytes_eq word (codes "ok ")

abbrev got_word : List ℕ → Option KeyEntry → Gave → List ℕ
got_word bytes key given = title_of (move_answer (a.Got bytes) key given)

and_false : (x : Bool) → (x && false) ≡ false
and_false true = refl
and_false false = refl

-- a client of APOP or CRAM comes to its end by its digits, and nothing else does so
abbrev Digits : Start → MailStage → Option Cause → Bool → List ℕ → Option KeyEntry → Type 0
Digits start stage broken client bytes key =
    is_alone (mail.outcome_at (mail_then start stage broken get)) ≡ (is_alone (outcome_unless broken (mail.outcome_of stage)) || (client && is_got (got_word bytes key (answer_of (mail.verdict start (record { stage = stage; broken = broken }) get)))))

not_got : (x client : Bool) → x ≡ (x || (client && false))
not_got true client = refl
not_got false client = sym (and_false client)

mail_got : (start : Start) (side : Bool) (stage : MailStage) (broken : Option Cause) (bytes : List ℕ) (key : Option KeyEntry) → Holds (mail_good side) (record { stage = stage; broken = broken }) ≡ true → need_unless broken (mail.need_of start stage) ≡ Nothing → Digits start stage broken (not side) bytes key
mail_got start side stage (Some cause) bytes key h none = not_got false (not side)
mail_got start side m.ClientFirst None bytes key h none = not_got false (not side)
mail_got start side (m.ClientKey challenge) None bytes key h none = absurd cc
mail_got start side (m.ClientSecond challenge secret) None bytes key h none = ap (λ (x : Bool). not x && true) (sym (agrees_false side h))
mail_got start side (m.ClientDone challenge secret) None bytes key h none = refl
mail_got start side m.ServerKey None bytes key h none = absurd cc
mail_got start side (m.ServerAsk k) None bytes key h none = absurd cc
mail_got start side (m.ServerFirst k challenge) None bytes key h none = ap (λ (x : Bool). not x && true) (sym (agrees_true side h))
mail_got start side (m.ServerSecond k challenge) None bytes key h none = not_got false (not side)
mail_got start side (m.ServerThird k challenge user) None bytes key h none = not_got false (not side)
mail_got start side (m.ServerVouch k challenge user digits) None bytes key h none = absurd cc
mail_got start side (m.ServerDone k challenge user digits vouch) None bytes key h none = not_got (is_alone (mail.outcome_of (m.ServerDone k challenge user digits vouch))) (not side)

-- a client of APOP or CRAM, by the names of a start
abbrev by_digits : Protocol → Option (List ℕ) → Bool
by_digits P9sk1 role = false
by_digits P9any role = false
by_digits Mail role = not (is_text_of role (codes "server"))

abbrev pub gives_digits : Option (List ℕ) → Option (List ℕ) → Bool
gives_digits proto role = by_digits (cond (is_text_of proto (codes "p9any")) P9any (cond (is_text_of proto (codes "apop") || is_text_of proto (codes "cram")) Mail P9sk1)) role

digits_so : (template : List Attr) → by_digits (protocol_of template) (value_of (codes "role") template) ≡ gives_digits (value_of (codes "proto") template) (value_of (codes "role") template)
unfolding protocol_of
digits_so template = refl

got_by : (p : Protocol) (start : Start) (talk : List Call) (bytes : List ℕ) (key : Option KeyEntry) → needs_by p start talk ≡ Nothing
    → is_alone (ends_by p start (get ∷ talk)) ≡ (is_alone (ends_by p start talk) || (by_digits p (value_of (codes "role") start.template) && is_got (got_word bytes key (answers_by p start talk get))))
got_by P9sk1 start talk bytes key none =
    let now = sk.course start (get ∷ talk) in
    let before = sk.course start talk in
    unless_alone now.broken (sk.outcome_of now.stage) (sk_alone now.stage) ∙ sym (ap (λ (x : Bool). x || false) (unless_alone before.broken (sk.outcome_of before.stage) (sk_alone before.stage)))
got_by P9any start talk bytes key none =
    let now = choice.course p9sk1 start (get ∷ talk) in
    let before = choice.course p9sk1 start talk in
    unless_alone now.broken (choice.outcome_of p9sk1 start now.stage) (any_alone start now.stage) ∙ sym (ap (λ (x : Bool). x || false) (unless_alone before.broken (choice.outcome_of p9sk1 start before.stage) (any_alone start before.stage)))
got_by Mail start talk bytes key none =
    let before = mail.course start talk in
    mail_got start (side_serves (side_of start.template)) before.stage before.broken bytes key (mail_keeps start talk) none
    ∙ ap (λ (x : Bool). is_alone (ends_by Mail start talk) || (not x && is_got (got_word bytes key (answers_by Mail start talk get)))) (mail_role start.template)

pub got_alone : (start : Start) (talk : List Call) (bytes : List ℕ) (key : Option KeyEntry) → needs start talk ≡ Nothing
    → is_alone (ends start (get ∷ talk)) ≡ (is_alone (ends start talk) || (gives_digits (value_of (codes "proto") start.template) (value_of (codes "role") start.template) && is_got (title_of (move_answer (a.Got bytes) key (answers start talk get)))))
got_alone start talk bytes key none =
    got_by (protocol_of start.template) start talk bytes key none
    ∙ ap (λ (x : Bool). is_alone (ends start talk) || (x && is_got (title_of (move_answer (a.Got bytes) key (answers start talk get))))) (digits_so start.template)
