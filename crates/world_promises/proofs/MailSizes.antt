-- The roles of APOP and CRAM call no key bad but where the authentication server answers, and give no more than an answer has room
-- for.
use Rattle.std.proofs.Common.{◌≡◌, ℕ, ◌+◌, ◌≤◌, List, [], ◌∷◌, true, false, eqb, leb, Option, Some, None, length, drop, arith, length-drop}
use Rattle.std.specs.Prelude.{slice_index}
use Rattle.std.proofs.lemmas.Bool.{and_parts, eqb-true, leb-true}
use Rattle.complete_logins.proofs.DigitLemmas.{length_digits}
use Rattle.roles.specs.declared.answer.Cause.{Cause}
use Rattle.roles.specs.declared.answer.Cause.TheVariants.{BadKey}
use Rattle.roles.specs.declared.answer.Gave.TheVariants as g
use Rattle.roles.specs.declared.key.SkKey.{SkKey}
use Rattle.roles.specs.Clients.{is_refusal}
use Rattle.roles.specs.Courses.{unless_broken}
use Rattle.roles.specs.Starts.{Start}
use Rattle.roles.specs.Talks.{Call, Verdict, found, get, give, goes, heard, offered, picked, roomless, undone, unheard}
use Rattle.roles.specs.Tickets.{proof_under, rest_part, ticket_part, ticket_under}
use Rattle.conv_challenge.specs.declared.stage.Stage.{Stage}
use Rattle.conv_challenge.specs.declared.stage.Stage.TheVariants.{ClientFirst, ClientKey, ClientSecond, ClientDone, ServerKey, ServerAsk, ServerFirst, ServerSecond, ServerThird, ServerVouch, ServerDone}
use Rattle.conv_challenge.specs.declared.stage.Side.{Side}
use Rattle.conv_challenge.specs.declared.stage.Side.TheVariants as side
use Rattle.conv_challenge.specs.declared.stage.TheConstants.{MOST_CHALLENGE}
use Rattle.conv_challenge.specs.Courses.{answer_after, course, first_stage, move, puts_after, verdict}
use Rattle.conv_challenge.specs.Servers.{challenge_came, grants_challenge, grants_vouch, has_length, length_in, user_tests, vouch_came, vouch_tests}
use Rattle.conv_challenge.specs.Starts.{proto_of, side_of}
use Rattle.world_promises.proofs.RoleForms.{bounded_by}
use Rattle.world_promises.proofs.VerdictForms.{Good, answer_so, bytes_so, either_so, goes_on, is_bad, is_heard, sized_so, tested_heard, tested_so, ticket_so}

-- a challenge is short
abbrev pub Stood : Stage → Type 0
Stood (ServerFirst key challenge) = length challenge ≤ 128
Stood stage = Unit {0}

abbrev pub Moves : Type 0 → Call → Verdict Stage → Type 0
Moves F call v = Good Stood F call v

-- ---- answers of the authentication server

challenge_short : (b : List ℕ) → grants_challenge b ≡ true → length (drop 6 b) ≤ 128
challenge_short b is =
    let one = and_parts (leb 6 (length b)) _ is in
    let two = and_parts (eqb (slice_index b 0) _) (has_length b) one.1 in
    let three = and_parts (leb 1 (length_in b)) _ two.1 in
    let four = and_parts (leb (length_in b) MOST_CHALLENGE) (eqb (length b) (6 + length_in b)) three.1 in
    omega (arith, length-drop 6 b, leb-true (length_in b) MOST_CHALLENGE four.0, eqb-true (length b) (6 + length_in b) four.1)

heard_challenge : (F : Type 0) (key : SkKey) (b : List ℕ) → Moves F (heard b) (challenge_came key b)
heard_challenge F key b =
    either_so (Moves F (heard b)) (is_refusal b) _ _ (λ _ off e. cc off)
    (either_so (Moves F (heard b)) (grants_challenge b) _ _ (λ is. (challenge_short b is, (λ off e. cc e), (λ f. omega arith))) (λ off e. cc off))

heard_vouch : (F : Type 0) (start : Start) (key : SkKey) (challenge user digits b : List ℕ) → Moves F (heard b) (vouch_came start key challenge user digits b)
heard_vouch F start key challenge user digits b =
    let vouch = drop 1 b in
    either_so (Moves F (heard b)) (is_refusal b) _ _ (λ _ off e. cc off)
    (either_so (Moves F (heard b)) (grants_vouch b) _ _
    (λ is. ticket_so (Moves F (heard b)) BadKey (ticket_under key (ticket_part vouch)) _ (λ off e. cc off)
    (λ t opens. tested_heard Stood F b (vouch_tests start user t (proof_under t (rest_part vouch))) (goes (ServerDone key challenge user digits vouch) g.Ok []) (tt, (λ off e. cc e), (λ f. omega arith))))
    (λ off e. cc off))

-- ---- moves

move_good : (F : Type 0) (start : Start) (stage : Stage) (call : Call) → Stood stage → Moves F call (move start stage call)
move_good F start ClientFirst (give b) so = bounded_by (Moves F (give b)) MOST_CHALLENGE b (goes (ClientKey b) g.Wait []) (λ e. cc e) (λ e. cc e) (tt, (λ off e. cc e), (λ f. omega arith))
move_good F start ClientFirst get so = λ e. cc e
move_good F start ClientFirst (found key' password') so = λ e. cc e
move_good F start ClientFirst (heard b) so = λ e. cc e
move_good F start ClientFirst unheard so = λ e. cc e
move_good F start ClientFirst roomless so = λ e. cc e
move_good F start ClientFirst undone so = λ e. cc e
move_good F start ClientFirst (offered list') so = λ e. cc e
move_good F start ClientFirst (picked place') so = λ e. cc e
move_good F start (ClientKey challenge) (give b) so = λ e. cc e
move_good F start (ClientKey challenge) get so = λ e. cc e
move_good F start (ClientKey challenge) (found key' password') so = (tt, (λ off e. cc e), (λ f. omega arith))
move_good F start (ClientKey challenge) (heard b) so = λ e. cc e
move_good F start (ClientKey challenge) unheard so = λ e. cc e
move_good F start (ClientKey challenge) roomless so = λ e. cc e
move_good F start (ClientKey challenge) undone so = (tt, (λ off e. cc e), (λ f. omega arith))
move_good F start (ClientKey challenge) (offered list') so = λ e. cc e
move_good F start (ClientKey challenge) (picked place') so = λ e. cc e
move_good F start (ClientSecond challenge password) (give b) so = λ e. cc e
move_good F start (ClientSecond challenge password) get so = (tt, (λ off e. cc e), (λ f. omega (arith, length_digits (proto_of start.template) challenge password)))
move_good F start (ClientSecond challenge password) (found key' password') so = λ e. cc e
move_good F start (ClientSecond challenge password) (heard b) so = λ e. cc e
move_good F start (ClientSecond challenge password) unheard so = λ e. cc e
move_good F start (ClientSecond challenge password) roomless so = λ e. cc e
move_good F start (ClientSecond challenge password) undone so = λ e. cc e
move_good F start (ClientSecond challenge password) (offered list') so = λ e. cc e
move_good F start (ClientSecond challenge password) (picked place') so = λ e. cc e
move_good F start (ClientDone challenge password) (give b) so = λ e. cc e
move_good F start (ClientDone challenge password) get so = λ e. cc e
move_good F start (ClientDone challenge password) (found key' password') so = λ e. cc e
move_good F start (ClientDone challenge password) (heard b) so = λ e. cc e
move_good F start (ClientDone challenge password) unheard so = λ e. cc e
move_good F start (ClientDone challenge password) roomless so = λ e. cc e
move_good F start (ClientDone challenge password) undone so = λ e. cc e
move_good F start (ClientDone challenge password) (offered list') so = λ e. cc e
move_good F start (ClientDone challenge password) (picked place') so = λ e. cc e
move_good F start ServerKey (give b) so = λ e. cc e
move_good F start ServerKey get so = λ e. cc e
move_good F start ServerKey (found key' password') so = (tt, (λ off e. cc e), (λ f. omega arith))
move_good F start ServerKey (heard b) so = λ e. cc e
move_good F start ServerKey unheard so = λ e. cc e
move_good F start ServerKey roomless so = λ e. cc e
move_good F start ServerKey undone so = λ e. cc e
move_good F start ServerKey (offered list') so = λ e. cc e
move_good F start ServerKey (picked place') so = λ e. cc e
move_good F start (ServerAsk key) (give b) so = λ e. cc e
move_good F start (ServerAsk key) get so = λ e. cc e
move_good F start (ServerAsk key) (found key' password') so = λ e. cc e
move_good F start (ServerAsk key) (heard b) so = heard_challenge F key b
move_good F start (ServerAsk key) unheard so = λ off e. cc e
move_good F start (ServerAsk key) roomless so = λ off e. cc e
move_good F start (ServerAsk key) undone so = λ e. cc e
move_good F start (ServerAsk key) (offered list') so = λ e. cc e
move_good F start (ServerAsk key) (picked place') so = λ e. cc e
move_good F start (ServerFirst key challenge) (give b) so = λ e. cc e
move_good F start (ServerFirst key challenge) get so = (tt, (λ off e. cc e), (λ f. omega (arith, so)))
move_good F start (ServerFirst key challenge) (found key' password') so = λ e. cc e
move_good F start (ServerFirst key challenge) (heard b) so = λ e. cc e
move_good F start (ServerFirst key challenge) unheard so = λ e. cc e
move_good F start (ServerFirst key challenge) roomless so = λ e. cc e
move_good F start (ServerFirst key challenge) undone so = λ e. cc e
move_good F start (ServerFirst key challenge) (offered list') so = λ e. cc e
move_good F start (ServerFirst key challenge) (picked place') so = λ e. cc e
move_good F start (ServerSecond key challenge) (give b) so = bounded_by (Moves F (give b)) 27 b _ (λ e. cc e) (λ e. cc e) (tested_so Stood F (give b) (user_tests b) (goes (ServerThird key challenge b) g.Ok []) ((λ e. cc e), tt) (tt, (λ off e. cc e), (λ f. omega arith)))
move_good F start (ServerSecond key challenge) get so = λ e. cc e
move_good F start (ServerSecond key challenge) (found key' password') so = λ e. cc e
move_good F start (ServerSecond key challenge) (heard b) so = λ e. cc e
move_good F start (ServerSecond key challenge) unheard so = λ e. cc e
move_good F start (ServerSecond key challenge) roomless so = λ e. cc e
move_good F start (ServerSecond key challenge) undone so = λ e. cc e
move_good F start (ServerSecond key challenge) (offered list') so = λ e. cc e
move_good F start (ServerSecond key challenge) (picked place') so = λ e. cc e
move_good F start (ServerThird key challenge user) (give b) so = sized_so (Moves F (give b)) 32 b (goes (ServerVouch key challenge user b) g.Wait []) (λ e. cc e) (λ e. cc e) (λ long. (tt, (λ off e. cc e), (λ f. omega arith)))
move_good F start (ServerThird key challenge user) get so = λ e. cc e
move_good F start (ServerThird key challenge user) (found key' password') so = λ e. cc e
move_good F start (ServerThird key challenge user) (heard b) so = λ e. cc e
move_good F start (ServerThird key challenge user) unheard so = λ e. cc e
move_good F start (ServerThird key challenge user) roomless so = λ e. cc e
move_good F start (ServerThird key challenge user) undone so = λ e. cc e
move_good F start (ServerThird key challenge user) (offered list') so = λ e. cc e
move_good F start (ServerThird key challenge user) (picked place') so = λ e. cc e
move_good F start (ServerVouch key challenge user digits) (give b) so = λ e. cc e
move_good F start (ServerVouch key challenge user digits) get so = λ e. cc e
move_good F start (ServerVouch key challenge user digits) (found key' password') so = λ e. cc e
move_good F start (ServerVouch key challenge user digits) (heard b) so = heard_vouch F start key challenge user digits b
move_good F start (ServerVouch key challenge user digits) unheard so = λ off e. cc e
move_good F start (ServerVouch key challenge user digits) roomless so = λ off e. cc e
move_good F start (ServerVouch key challenge user digits) undone so = λ e. cc e
move_good F start (ServerVouch key challenge user digits) (offered list') so = λ e. cc e
move_good F start (ServerVouch key challenge user digits) (picked place') so = λ e. cc e
move_good F start (ServerDone key challenge user digits vouch) (give b) so = λ e. cc e
move_good F start (ServerDone key challenge user digits vouch) get so = λ e. cc e
move_good F start (ServerDone key challenge user digits vouch) (found key' password') so = λ e. cc e
move_good F start (ServerDone key challenge user digits vouch) (heard b) so = λ e. cc e
move_good F start (ServerDone key challenge user digits vouch) unheard so = λ e. cc e
move_good F start (ServerDone key challenge user digits vouch) roomless so = λ e. cc e
move_good F start (ServerDone key challenge user digits vouch) undone so = λ e. cc e
move_good F start (ServerDone key challenge user digits vouch) (offered list') so = λ e. cc e
move_good F start (ServerDone key challenge user digits vouch) (picked place') so = λ e. cc e

by_broken : (F : Type 0) (start : Start) (stage : Stage) (broken : Option Cause) (call : Call) → Stood stage → Moves F call (unless_broken broken (move start stage call))
by_broken F start stage None call so = move_good F start stage call so
by_broken F start stage (Some cause) call so = λ e. cc e

begins : (side : Side) → Stood (first_stage side)
begins side.Client = tt
begins side.Server = tt

-- how far each talk has come
stood_so : (start : Start) (talk : List Call) → Stood (course start talk).stage
stood_so start [] = begins (side_of start.template)
stood_so start (call ∷ talk) =
    let p = course start talk in
    let so = stood_so start talk in
    goes_on Stood ⊥ call p (verdict start p call) so (by_broken ⊥ start p.stage p.broken call so)

pub mail_good : (start : Start) (talk : List Call) (call : Call) → is_heard call ≡ false → is_bad (answer_after start talk call) ≡ true → ⊥
mail_good start talk call off = let p = course start talk in answer_so Stood ⊥ call (verdict start p call) (by_broken ⊥ start p.stage p.broken call (stood_so start talk)) off

pub mail_small : (start : Start) (talk : List Call) (call : Call) → length (puts_after start talk call) ≤ 2048
mail_small start talk call = let p = course start talk in bytes_so Stood (Unit {0}) call (verdict start p call) (by_broken (Unit {0}) start p.stage p.broken call (stood_so start talk)) tt
