-- Where there was no memory for an answer of the authentication server, nothing is needed any more.
use Rattle.std.proofs.Common.{◌≡◌, List, ◌∷◌, true, false, Option, Some, None, Result, Ok, Err, refl, sym, ◌∙◌}
use Rattle.sealing.specs.Request.{request_of}
use Rattle.sealing.specs.declared.fault.FieldFault.{FieldFault}
use Rattle.sealing.specs.declared.request.TicketReq.{TicketReq}
use Rattle.roles.specs.declared.answer.Cause.{Cause}
use Rattle.roles.specs.declared.need.Need.TheVariants.{Nothing}
use Rattle.roles.specs.declared.stage.Stage.{Stage}
use Rattle.roles.specs.declared.stage.Stage.TheVariants.{ClientFirst, ClientSecond, ClientKey, ClientAsk, ClientThird, ClientFourth, ClientDone, ServerKey, ServerFirst, ServerSecond, ServerThird, ServerFourth, ServerDone}
use Rattle.roles.specs.Courses as sk
use Rattle.roles.specs.Courses.{key_need, need_unless, then_course}
use Rattle.roles.specs.Starts.{Start}
use Rattle.roles.specs.Talks.{Call, Progress, roomless}
use Rattle.conv_p9any.specs.declared.stage.Stage.{Stage as Choice}
use Rattle.conv_p9any.specs.declared.stage.Stage.TheVariants as choice
use Rattle.conv_p9any.specs.Courses as any
use Rattle.conv_p9any.specs.Talks.{Standing, choosing, within}
use Rattle.conv_challenge.specs.declared.stage.Stage.{Stage as Post}
use Rattle.conv_challenge.specs.declared.stage.Stage.TheVariants as post
use Rattle.conv_challenge.specs.Courses as mail
use Rattle.talks.specs.Protocols.{Mail, P9any, P9sk1, Protocol, needs, needs_by, p9sk1, protocol_of}
use Rattle.wire_histories.specs.Conversations.{is_asked}

-- ---- p9sk1

abbrev at : {S : Type 0} → S → Option Cause → Progress S
at stage broken = record { stage = stage; broken = broken }

key_unasked : {A : Type 0} (start : Start) (r : Result TicketReq FieldFault) → is_asked (key_need start r) ≡ true → A
key_unasked start (Ok request) asked = absurd (cc asked)
key_unasked start (Err fault) asked = absurd (cc asked)

sk_at : (start : Start) (stage : Stage) (broken : Option Cause) → is_asked (sk.need_at start (at stage broken)) ≡ true → sk.need_at start (then_course (at stage broken) (sk.verdict start (at stage broken) roomless)) ≡ Nothing
sk_at start stage (Some cause) asked = cc
sk_at start ClientFirst None asked = cc
sk_at start ClientSecond None asked = cc
sk_at start (ClientKey request) None asked = key_unasked start (request_of request) asked
sk_at start (ClientAsk request key) None asked = refl
sk_at start (ClientThird request key tickets) None asked = cc
sk_at start (ClientFourth request key tickets) None asked = cc
sk_at start (ClientDone request key tickets proof) None asked = cc
sk_at start ServerKey None asked = cc asked
sk_at start (ServerFirst key) None asked = cc
sk_at start (ServerSecond key theirs) None asked = cc
sk_at start (ServerThird key theirs) None asked = cc
sk_at start (ServerFourth key theirs shown) None asked = cc
sk_at start (ServerDone key theirs shown) None asked = cc

sk_roomless : (start : Start) (talk : List Call) → is_asked (sk.need_after start talk) ≡ true → sk.need_after start (roomless ∷ talk) ≡ Nothing
sk_roomless start talk asked = sk_at start (sk.course start talk).stage (sk.course start talk).broken asked

-- ---- p9any

choice_unasked : (start : Start) (stage : Choice) → is_asked (any.choice_need p9sk1.name start stage) ≡ false
choice_unasked start choice.ServerOffers = refl
choice_unasked start choice.ServerKey = refl
choice_unasked start (choice.ServerFirst list) = refl
choice_unasked start (choice.ServerSecond list) = refl
choice_unasked start choice.ClientFirst = refl
choice_unasked start (choice.ClientPick list) = refl
choice_unasked start (choice.ClientSecond list place) = refl
choice_unasked start (choice.ClientThird list place) = refl

any_at : (start : Start) (s : Standing) (broken : Option Cause) → is_asked (need_unless broken (any.need_of p9sk1 start s)) ≡ true → need_unless (then_course (at s broken) (any.verdict p9sk1 start (at s broken) roomless)).broken (any.need_of p9sk1 start (then_course (at s broken) (any.verdict p9sk1 start (at s broken) roomless)).stage) ≡ Nothing
any_at start s (Some cause) asked = cc
any_at start (choosing stage) None asked = absurd (cc (sym (choice_unasked start stage) ∙ asked))
any_at start (within before text talk) None asked = sk_roomless (any.chosen_start p9sk1 start text) talk asked

-- ---- APOP and CRAM

mail_at : (start : Start) (stage : Post) (broken : Option Cause) → is_asked (mail.need_at start (at stage broken)) ≡ true → mail.need_at start (then_course (at stage broken) (mail.verdict start (at stage broken) roomless)) ≡ Nothing
mail_at start stage (Some cause) asked = cc
mail_at start post.ClientFirst None asked = cc
mail_at start (post.ClientKey ch) None asked = cc asked
mail_at start (post.ClientSecond ch password) None asked = cc
mail_at start (post.ClientDone ch password) None asked = cc
mail_at start post.ServerKey None asked = cc asked
mail_at start (post.ServerAsk key) None asked = refl
mail_at start (post.ServerFirst key ch) None asked = cc
mail_at start (post.ServerSecond key ch) None asked = cc
mail_at start (post.ServerThird key ch user) None asked = cc
mail_at start (post.ServerVouch key ch user digits) None asked = refl
mail_at start (post.ServerDone key ch user digits vouch) None asked = cc

-- ---- all

by_protocol : (p : Protocol) (start : Start) (talk : List Call) → is_asked (needs_by p start talk) ≡ true → needs_by p start (roomless ∷ talk) ≡ Nothing
by_protocol P9sk1 start talk asked = sk_roomless start talk asked
by_protocol P9any start talk asked = any_at start (any.course p9sk1 start talk).stage (any.course p9sk1 start talk).broken asked
by_protocol Mail start talk asked = mail_at start (mail.course start talk).stage (mail.course start talk).broken asked

pub roomless_rests : (start : Start) (talk : List Call) → is_asked (needs start talk) ≡ true → needs start (roomless ∷ talk) ≡ Nothing
roomless_rests start talk asked = by_protocol (protocol_of start.template) start talk asked
