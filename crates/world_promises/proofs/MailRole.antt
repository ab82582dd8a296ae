-- The roles of APOP and CRAM are as roles should be.
use Rattle.std.proofs.Common.{◌≡◌, ℕ, List, [], true, false, Option, Some, None, drop, refl}
use Rattle.roles.specs.declared.answer.Cause.{Cause}
use Rattle.roles.specs.declared.answer.Cause.TheVariants.{BadKey}
use Rattle.roles.specs.declared.key.SkKey.{SkKey}
use Rattle.roles.specs.declared.answer.Gave.TheVariants as g
use Rattle.roles.specs.declared.need.Need.TheVariants.{Nothing, Key}
use Rattle.roles.specs.declared.need.Outcome.TheVariants.{Running}
use Rattle.roles.specs.Answers.{is_sought}
use Rattle.roles.specs.Courses.{answer_of, then_course}
use Rattle.roles.specs.Starts.{Start}
use Rattle.roles.specs.Talks.{Call, Progress, Verdict, found, get, give, goes, heard, offered, picked, roomless, undone, unheard}
use Rattle.roles.specs.Tickets.{proof_under, rest_part, ticket_part, ticket_under}
use Rattle.conv_p9any.specs.Talks.{needs_any}
use Rattle.conv_challenge.specs.declared.stage.Stage.{Stage}
use Rattle.conv_challenge.specs.declared.stage.Stage.TheVariants.{ClientFirst, ClientKey, ClientSecond, ClientDone, ServerKey, ServerAsk, ServerFirst, ServerSecond, ServerThird, ServerVouch, ServerDone}
use Rattle.conv_challenge.specs.declared.stage.Side.{Side}
use Rattle.conv_challenge.specs.declared.stage.Side.TheVariants.{Client, Server}
use Rattle.conv_challenge.specs.declared.stage.TheConstants.{MOST_CHALLENGE}
use Rattle.conv_challenge.specs.Courses.{course, first_stage, move, need_at, need_of, outcome_at, outcome_of, verdict}
use Rattle.conv_challenge.specs.Servers.{grants_challenge, grants_vouch, user_tests, vouch_opened, vouch_tests}
use Rattle.conv_challenge.specs.Starts.{asked_by_client, side_of}
use Rattle.roles.specs.Clients.{is_refusal}
use Rattle.talks.specs.Protocols.{Mail, is_over}
use Rattle.wire_histories.specs.Conversations.{end_by, is_asked, is_given, is_taken, meets, speaks}
use Rattle.world_promises.specs.Roles.{IsRole}
use Rattle.world_promises.proofs.RoleForms.{bounded_by, either, refusal_room, sized_by, tested_by, ticket_by}

abbrev at : Stage → Option Cause → Progress Stage
at stage broken = record { stage = stage; broken = broken }

-- how far a call leads
abbrev next : Start → Progress Stage → Call → Progress Stage
next start p call = then_course p (verdict start p call)

-- ---- no answer is want of memory

abbrev HasRoom : Verdict Stage → Type 0
HasRoom v = answer_of v ≡ g.NoMemory → ⊥

vouch_room : (start : Start) (key : SkKey) (ch user digits vouch : List ℕ) → HasRoom (vouch_opened start key ch user digits vouch)
vouch_room start key ch user digits vouch = ticket_by HasRoom BadKey (ticket_under key (ticket_part vouch)) _ (λ e. cc e) (λ ticket. tested_by HasRoom (vouch_tests start user ticket (proof_under ticket (rest_part vouch))) _ refusal_room (λ e. cc e))

move_room : (start : Start) (stage : Stage) (call : Call) → HasRoom (move start stage call)
move_room start ClientFirst (give b) = bounded_by HasRoom MOST_CHALLENGE b (goes (ClientKey b) g.Wait []) (λ e. cc e) (λ e. cc e) (λ e. cc e)
move_room start ClientFirst get = λ e. cc e
move_room start ClientFirst (found k pw) = λ e. cc e
move_room start ClientFirst (heard b) = λ e. cc e
move_room start ClientFirst unheard = λ e. cc e
move_room start ClientFirst roomless = λ e. cc e
move_room start ClientFirst undone = λ e. cc e
move_room start ClientFirst (offered list) = λ e. cc e
move_room start ClientFirst (picked place) = λ e. cc e
move_room start (ClientKey ch) (give b) = λ e. cc e
move_room start (ClientKey ch) get = λ e. cc e
move_room start (ClientKey ch) (found k pw) = λ e. cc e
move_room start (ClientKey ch) (heard b) = λ e. cc e
move_room start (ClientKey ch) unheard = λ e. cc e
move_room start (ClientKey ch) roomless = λ e. cc e
move_room start (ClientKey ch) undone = λ e. cc e
move_room start (ClientKey ch) (offered list) = λ e. cc e
move_room start (ClientKey ch) (picked place) = λ e. cc e
move_room start (ClientSecond ch pw') (give b) = λ e. cc e
move_room start (ClientSecond ch pw') get = λ e. cc e
move_room start (ClientSecond ch pw') (found k pw) = λ e. cc e
move_room start (ClientSecond ch pw') (heard b) = λ e. cc e
move_room start (ClientSecond ch pw') unheard = λ e. cc e
move_room start (ClientSecond ch pw') roomless = λ e. cc e
move_room start (ClientSecond ch pw') undone = λ e. cc e
move_room start (ClientSecond ch pw') (offered list) = λ e. cc e
move_room start (ClientSecond ch pw') (picked place) = λ e. cc e
move_room start (ClientDone ch pw') call = λ e. cc e
move_room start ServerKey (give b) = λ e. cc e
move_room start ServerKey get = λ e. cc e
move_room start ServerKey (found k pw) = λ e. cc e
move_room start ServerKey (heard b) = λ e. cc e
move_room start ServerKey unheard = λ e. cc e
move_room start ServerKey roomless = λ e. cc e
move_room start ServerKey undone = λ e. cc e
move_room start ServerKey (offered list) = λ e. cc e
move_room start ServerKey (picked place) = λ e. cc e
move_room start (ServerAsk key) (give b) = λ e. cc e
move_room start (ServerAsk key) get = λ e. cc e
move_room start (ServerAsk key) (found k pw) = λ e. cc e
move_room start (ServerAsk key) (heard b) = either HasRoom (is_refusal b) _ _ (λ e. cc e) (either HasRoom (grants_challenge b) _ _ (λ e. cc e) (λ e. cc e))
move_room start (ServerAsk key) unheard = λ e. cc e
move_room start (ServerAsk key) roomless = λ e. cc e
move_room start (ServerAsk key) undone = λ e. cc e
move_room start (ServerAsk key) (offered list) = λ e. cc e
move_room start (ServerAsk key) (picked place) = λ e. cc e
move_room start (ServerFirst key ch) (give b) = λ e. cc e
move_room start (ServerFirst key ch) get = λ e. cc e
move_room start (ServerFirst key ch) (found k pw) = λ e. cc e
move_room start (ServerFirst key ch) (heard b) = λ e. cc e
move_room start (ServerFirst key ch) unheard = λ e. cc e
move_room start (ServerFirst key ch) roomless = λ e. cc e
move_room start (ServerFirst key ch) undone = λ e. cc e
move_room start (ServerFirst key ch) (offered list) = λ e. cc e
move_room start (ServerFirst key ch) (picked place) = λ e. cc e
move_room start (ServerSecond key ch) (give b) = bounded_by HasRoom 27 b _ (λ e. cc e) (λ e. cc e) (tested_by HasRoom (user_tests b) _ refusal_room (λ e. cc e))
move_room start (ServerSecond key ch) get = λ e. cc e
move_room start (ServerSecond key ch) (found k pw) = λ e. cc e
move_room start (ServerSecond key ch) (heard b) = λ e. cc e
move_room start (ServerSecond key ch) unheard = λ e. cc e
move_room start (ServerSecond key ch) roomless = λ e. cc e
move_room start (ServerSecond key ch) undone = λ e. cc e
move_room start (ServerSecond key ch) (offered list) = λ e. cc e
move_room start (ServerSecond key ch) (picked place) = λ e. cc e
move_room start (ServerThird key ch user) (give b) = sized_by HasRoom 32 b _ (λ e. cc e) (λ e. cc e) (λ e. cc e)
move_room start (ServerThird key ch user) get = λ e. cc e
move_room start (ServerThird key ch user) (found k pw) = λ e. cc e
move_room start (ServerThird key ch user) (heard b) = λ e. cc e
move_room start (ServerThird key ch user) unheard = λ e. cc e
move_room start (ServerThird key ch user) roomless = λ e. cc e
move_room start (ServerThird key ch user) undone = λ e. cc e
move_room start (ServerThird key ch user) (offered list) = λ e. cc e
move_room start (ServerThird key ch user) (picked place) = λ e. cc e
move_room start (ServerVouch key ch user digits) (give b) = λ e. cc e
move_room start (ServerVouch key ch user digits) get = λ e. cc e
move_room start (ServerVouch key ch user digits) (found k pw) = λ e. cc e
move_room start (ServerVouch key ch user digits) (heard b) = either HasRoom (is_refusal b) _ _ (λ e. cc e) (either HasRoom (grants_vouch b) _ _ (vouch_room start key ch user digits (drop 1 b)) (λ e. cc e))
move_room start (ServerVouch key ch user digits) unheard = λ e. cc e
move_room start (ServerVouch key ch user digits) roomless = λ e. cc e
move_room start (ServerVouch key ch user digits) undone = λ e. cc e
move_room start (ServerVouch key ch user digits) (offered list) = λ e. cc e
move_room start (ServerVouch key ch user digits) (picked place) = λ e. cc e
move_room start (ServerDone key ch user digits vouch) call = λ e. cc e

room : (start : Start) (stage : Stage) (broken : Option Cause) (call : Call) → HasRoom (verdict start (at stage broken) call)
room start stage None call = move_room start stage call
room start stage (Some cause) call = λ e. cc e

-- ---- ends

stays_at : (start : Start) (stage : Stage) (broken : Option Cause) (call : Call) → is_over (outcome_at (at stage broken)) ≡ true → outcome_at (next start (at stage broken) call) ≡ outcome_at (at stage broken)
stays_at start stage (Some cause) call over = refl
stays_at start ClientFirst None call over = cc over
stays_at start (ClientKey ch) None call over = cc over
stays_at start (ClientSecond ch pw') None call over = cc over
stays_at start (ClientDone ch pw') None call over = refl
stays_at start ServerKey None call over = cc over
stays_at start (ServerAsk key) None call over = cc over
stays_at start (ServerFirst key ch) None call over = cc over
stays_at start (ServerSecond key ch) None call over = cc over
stays_at start (ServerThird key ch user) None call over = cc over
stays_at start (ServerVouch key ch user digits) None call over = cc over
stays_at start (ServerDone key ch user digits vouch) None call over = refl

goes_on : (start : Start) (stage : Stage) (broken : Option Cause) → is_sought (need_at start (at stage broken)) ≡ true → outcome_at (at stage broken) ≡ Running
goes_on start stage (Some cause) sought = cc sought
goes_on start ClientFirst None sought = cc
goes_on start (ClientKey ch) None sought = refl
goes_on start (ClientSecond ch pw') None sought = cc
goes_on start (ClientDone ch pw') None sought = cc sought
goes_on start ServerKey None sought = refl
goes_on start (ServerAsk key) None sought = cc
goes_on start (ServerFirst key ch) None sought = cc
goes_on start (ServerSecond key ch) None sought = cc
goes_on start (ServerThird key ch user) None sought = cc
goes_on start (ServerVouch key ch user digits) None sought = cc
goes_on start (ServerDone key ch user digits vouch) None sought = cc sought

-- ---- a message is got

got_at : (start : Start) (stage : Stage) (broken : Option Cause) → need_at start (at stage broken) ≡ Nothing → need_at start (next start (at stage broken) get) ≡ Nothing
got_at start stage (Some cause) none = refl
got_at start ClientFirst None none = refl
got_at start (ClientKey ch) None none = cc none
got_at start (ClientSecond ch pw') None none = refl
got_at start (ClientDone ch pw') None none = refl
got_at start ServerKey None none = cc none
got_at start (ServerAsk key) None none = cc none
got_at start (ServerFirst key ch) None none = refl
got_at start (ServerSecond key ch) None none = refl
got_at start (ServerThird key ch user) None none = refl
got_at start (ServerVouch key ch user digits) None none = cc none
got_at start (ServerDone key ch user digits vouch) None none = refl

given_at : (start : Start) (stage : Stage) (broken : Option Cause) → is_given (answer_of (verdict start (at stage broken) get)) ≡ true → end_by (outcome_at (at stage broken)) (outcome_at (next start (at stage broken) get)) ≡ []
given_at start stage (Some cause) given = refl
given_at start ClientFirst None given = cc
given_at start (ClientKey ch) None given = cc
given_at start (ClientSecond ch pw') None given = refl
given_at start (ClientDone ch pw') None given = cc
given_at start ServerKey None given = cc
given_at start (ServerAsk key) None given = cc
given_at start (ServerFirst key ch) None given = refl
given_at start (ServerSecond key ch) None given = cc
given_at start (ServerThird key ch user) None given = cc
given_at start (ServerVouch key ch user digits) None given = cc
given_at start (ServerDone key ch user digits vouch) None given = cc given

at_once : (start : Start) (stage : Stage) (broken : Option Cause) → need_at start (at stage broken) ≡ Nothing → answer_of (verdict start (at stage broken) get) ≡ g.Wait → ⊥
at_once start stage (Some cause) none = λ e. cc e
at_once start ClientFirst None none = λ e. cc e
at_once start (ClientKey ch) None none = λ e. cc none
at_once start (ClientSecond ch pw') None none = λ e. cc e
at_once start (ClientDone ch pw') None none = λ e. cc e
at_once start ServerKey None none = λ e. cc none
at_once start (ServerAsk key) None none = λ e. cc none
at_once start (ServerFirst key ch) None none = λ e. cc e
at_once start (ServerSecond key ch) None none = λ e. cc e
at_once start (ServerThird key ch user) None none = λ e. cc e
at_once start (ServerVouch key ch user digits) None none = λ e. cc none
at_once start (ServerDone key ch user digits vouch) None none = λ e. cc e

-- ---- bytes are given

-- a verdict by which something is needed takes what was given
abbrev Takes : Start → Progress Stage → Verdict Stage → Type 0
Takes start p v = needs_any (need_at start (then_course p v)) ≡ true → is_taken (answer_of v) ≡ true

taken_at : (start : Start) (stage : Stage) (broken : Option Cause) (b : List ℕ) → need_at start (at stage broken) ≡ Nothing → Takes start (at stage broken) (verdict start (at stage broken) (give b))
taken_at start stage (Some cause) b none = λ e. cc e
taken_at start ClientFirst None b none = bounded_by (Takes start (at ClientFirst None)) MOST_CHALLENGE b (goes (ClientKey b) g.Wait []) (λ e. cc e) (λ e. cc e) (λ e. refl)
taken_at start (ClientKey ch) None b none = cc none
taken_at start (ClientSecond ch pw') None b none = λ e. cc e
taken_at start (ClientDone ch pw') None b none = λ e. cc
taken_at start ServerKey None b none = cc none
taken_at start (ServerAsk key) None b none = cc none
taken_at start (ServerFirst key ch) None b none = λ e. cc e
taken_at start (ServerSecond key ch) None b none = bounded_by (Takes start (at (ServerSecond key ch) None)) 27 b _ (λ e. cc e) (λ e. cc e) (tested_by (Takes start (at (ServerSecond key ch) None)) (user_tests b) _ (λ cause e. cc e) (λ e. cc))
taken_at start (ServerThird key ch user) None b none = sized_by (Takes start (at (ServerThird key ch user) None)) 32 b _ (λ e. cc e) (λ e. cc e) (λ e. refl)
taken_at start (ServerVouch key ch user digits) None b none = cc none
taken_at start (ServerDone key ch user digits vouch) None b none = λ e. cc

-- a call that meets the need of a verdict leaves nothing to be searched for
abbrev Meets : Start → Progress Stage → Call → Verdict Stage → Type 0
Meets start p call v = meets (need_at start (then_course p v)) call ≡ true → is_sought (need_at start (next start (then_course p v) call)) ≡ false

key_one : (start : Start) (ch : List ℕ) (call : Call) → meets (Key (asked_by_client start)) call ≡ true → is_sought (need_at start (next start (at (ClientKey ch) None) call)) ≡ false
key_one start ch (give b) is = cc is
key_one start ch get is = cc is
key_one start ch (found k pw) is = refl
key_one start ch (heard b) is = cc is
key_one start ch unheard is = cc is
key_one start ch roomless is = cc is
key_one start ch undone is = cc
key_one start ch (offered list) is = cc is
key_one start ch (picked place) is = cc is

one_at : (start : Start) (stage : Stage) (broken : Option Cause) (b : List ℕ) (call : Call) → need_at start (at stage broken) ≡ Nothing → Meets start (at stage broken) call (verdict start (at stage broken) (give b))
one_at start stage (Some cause) b call none = λ e. cc
one_at start ClientFirst None b call none = bounded_by (Meets start (at ClientFirst None) call) MOST_CHALLENGE b (goes (ClientKey b) g.Wait []) (λ e. cc e) (λ e. cc e) (key_one start b call)
one_at start (ClientKey ch) None b call none = cc none
one_at start (ClientSecond ch pw') None b call none = λ e. cc e
one_at start (ClientDone ch pw') None b call none = λ e. cc
one_at start ServerKey None b call none = cc none
one_at start (ServerAsk key) None b call none = cc none
one_at start (ServerFirst key ch) None b call none = λ e. cc e
one_at start (ServerSecond key ch) None b call none = bounded_by (Meets start (at (ServerSecond key ch) None) call) 27 b _ (λ e. cc e) (λ e. cc e) (tested_by (Meets start (at (ServerSecond key ch) None) call) (user_tests b) _ (λ cause e. cc) (λ e. cc e))
one_at start (ServerThird key ch user) None b call none = sized_by (Meets start (at (ServerThird key ch user) None) call) 32 b _ (λ e. cc e) (λ e. cc e) (λ e. cc e)
one_at start (ServerVouch key ch user digits) None b call none = cc none
one_at start (ServerDone key ch user digits vouch) None b call none = λ e. cc

-- where something is searched for, it is undone
abbrev Undoes : Start → Progress Stage → Verdict Stage → Type 0
Undoes start p v = is_sought (need_at start (then_course p v)) ≡ true → (need_at start (next start (then_course p v) undone) ≡ Nothing) × (outcome_at (next start (then_course p v) undone) ≡ outcome_at p)

undone_at : (start : Start) (stage : Stage) (broken : Option Cause) (b : List ℕ) → need_at start (at stage broken) ≡ Nothing → Undoes start (at stage broken) (verdict start (at stage broken) (give b))
undone_at start stage (Some cause) b none = λ e. cc e
undone_at start ClientFirst None b none = bounded_by (Undoes start (at ClientFirst None)) MOST_CHALLENGE b (goes (ClientKey b) g.Wait []) (λ e. cc e) (λ e. cc e) (λ e. (refl, refl))
undone_at start (ClientKey ch) None b none = cc none
undone_at start (ClientSecond ch pw') None b none = λ e. cc e
undone_at start (ClientDone ch pw') None b none = λ e. cc e
undone_at start ServerKey None b none = cc none
undone_at start (ServerAsk key) None b none = cc none
undone_at start (ServerFirst key ch) None b none = λ e. cc e
undone_at start (ServerSecond key ch) None b none = bounded_by (Undoes start (at (ServerSecond key ch) None)) 27 b _ (λ e. cc e) (λ e. cc e) (tested_by (Undoes start (at (ServerSecond key ch) None)) (user_tests b) _ (λ cause e. cc e) (λ e. cc e))
undone_at start (ServerThird key ch user) None b none = sized_by (Undoes start (at (ServerThird key ch user) None)) 32 b _ (λ e. cc e) (λ e. cc e) (λ e. cc e)
undone_at start (ServerVouch key ch user digits) None b none = cc none
undone_at start (ServerDone key ch user digits vouch) None b none = λ e. cc e

-- ---- what is needed comes

met_at : (start : Start) (stage : Stage) (broken : Option Cause) (call : Call) → meets (need_at start (at stage broken)) call ≡ true → is_taken (answer_of (verdict start (at stage broken) call)) ≡ true
met_at start stage (Some cause) call is = cc is
met_at start ClientFirst None call is = cc is
met_at start (ClientKey ch) None (give b) is = cc
met_at start (ClientKey ch) None get is = cc
met_at start (ClientKey ch) None (found k pw) is = refl
met_at start (ClientKey ch) None (heard b) is = cc
met_at start (ClientKey ch) None unheard is = cc
met_at start (ClientKey ch) None roomless is = cc
met_at start (ClientKey ch) None undone is = cc
met_at start (ClientKey ch) None (offered list) is = cc
met_at start (ClientKey ch) None (picked place) is = cc
met_at start (ClientSecond ch pw') None call is = cc is
met_at start (ClientDone ch pw') None call is = cc
met_at start ServerKey None (give b) is = cc
met_at start ServerKey None get is = cc
met_at start ServerKey None (found k pw) is = refl
met_at start ServerKey None (heard b) is = cc
met_at start ServerKey None unheard is = cc
met_at start ServerKey None roomless is = cc
met_at start ServerKey None undone is = cc
met_at start ServerKey None (offered list) is = cc
met_at start ServerKey None (picked place) is = cc
met_at start (ServerAsk key) None call is = cc is
met_at start (ServerFirst key ch) None call is = cc is
met_at start (ServerSecond key ch) None call is = cc is
met_at start (ServerThird key ch user) None call is = cc is
met_at start (ServerVouch key ch user digits) None call is = cc is
met_at start (ServerDone key ch user digits vouch) None call is = cc

abbrev Rests : Start → Progress Stage → Verdict Stage → Type 0
Rests start p v = need_at start (then_course p v) ≡ Nothing

vouched : (start : Start) (key : SkKey) (ch user digits vouch : List ℕ) → Rests start (at (ServerVouch key ch user digits) None) (vouch_opened start key ch user digits vouch)
vouched start key ch user digits vouch = ticket_by (Rests start (at (ServerVouch key ch user digits) None)) BadKey (ticket_under key (ticket_part vouch)) _ refl (λ ticket. tested_by (Rests start (at (ServerVouch key ch user digits) None)) (vouch_tests start user ticket (proof_under ticket (rest_part vouch))) _ (λ cause. refl) refl)

answered_at : (start : Start) (stage : Stage) (broken : Option Cause) (b : List ℕ) → is_asked (need_at start (at stage broken)) ≡ true → Rests start (at stage broken) (verdict start (at stage broken) (heard b))
answered_at start stage (Some cause) b asked = cc
answered_at start ClientFirst None b asked = cc
answered_at start (ClientKey ch) None b asked = cc asked
answered_at start (ClientSecond ch pw') None b asked = cc
answered_at start (ClientDone ch pw') None b asked = cc
answered_at start ServerKey None b asked = cc asked
answered_at start (ServerAsk key) None b asked = either (Rests start (at (ServerAsk key) None)) (is_refusal b) _ _ refl (either (Rests start (at (ServerAsk key) None)) (grants_challenge b) _ _ refl refl)
answered_at start (ServerFirst key ch) None b asked = cc
answered_at start (ServerSecond key ch) None b asked = cc
answered_at start (ServerThird key ch user) None b asked = cc
answered_at start (ServerVouch key ch user digits) None b asked = either (Rests start (at (ServerVouch key ch user digits) None)) (is_refusal b) _ _ refl (either (Rests start (at (ServerVouch key ch user digits) None)) (grants_vouch b) _ _ (vouched start key ch user digits (drop 1 b)) refl)
answered_at start (ServerDone key ch user digits vouch) None b asked = cc

unanswered_at : (start : Start) (stage : Stage) (broken : Option Cause) → is_asked (need_at start (at stage broken)) ≡ true → Rests start (at stage broken) (verdict start (at stage broken) unheard)
unanswered_at start stage (Some cause) asked = cc
unanswered_at start ClientFirst None asked = cc
unanswered_at start (ClientKey ch) None asked = cc asked
unanswered_at start (ClientSecond ch pw') None asked = cc
unanswered_at start (ClientDone ch pw') None asked = cc
unanswered_at start ServerKey None asked = cc asked
unanswered_at start (ServerAsk key) None asked = refl
unanswered_at start (ServerFirst key ch) None asked = cc
unanswered_at start (ServerSecond key ch) None asked = cc
unanswered_at start (ServerThird key ch user) None asked = cc
unanswered_at start (ServerVouch key ch user digits) None asked = refl
unanswered_at start (ServerDone key ch user digits vouch) None asked = cc

-- ---- all of it

first_runs : (side : Side) → outcome_of (first_stage side) ≡ Running
first_runs Client = refl
first_runs Server = refl

first_asks : (start : Start) (side : Side) → is_asked (need_of start (first_stage side)) ≡ false
first_asks start Client = refl
first_asks start Server = refl

pub mail_role : (start : Start) → IsRole (speaks Mail start)
mail_role start = record {
  begins = first_runs (side_of start.template);
  asks_nobody = first_asks start (side_of start.template);
  has_room = λ talk call. room start (course start talk).stage (course start talk).broken call;
  stays = λ talk call. stays_at start (course start talk).stage (course start talk).broken call;
  goes_on = λ talk. goes_on start (course start talk).stage (course start talk).broken;
  got = λ talk. got_at start (course start talk).stage (course start talk).broken;
  given = λ talk none. given_at start (course start talk).stage (course start talk).broken;
  at_once = λ talk. at_once start (course start talk).stage (course start talk).broken;
  taken = λ talk. taken_at start (course start talk).stage (course start talk).broken;
  one = λ talk. one_at start (course start talk).stage (course start talk).broken;
  undoes = λ talk b none sought. (undone_at start (course start talk).stage (course start talk).broken b none sought).0;
  unended = λ talk b none sought. (undone_at start (course start talk).stage (course start talk).broken b none sought).1;
  met = λ talk. met_at start (course start talk).stage (course start talk).broken;
  answered = λ talk. answered_at start (course start talk).stage (course start talk).broken;
  unanswered = λ talk. unanswered_at start (course start talk).stage (course start talk).broken;
}
