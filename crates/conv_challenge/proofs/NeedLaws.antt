-- What a conversation needs, for every start and talk: a key that a call wants is taken back whole by `undone`; behind a key
-- that was found nothing is sought any more; and where the authentication server is asked, nothing is needed once that is
-- done with.
use Rattle.std.proofs.Common.{◌≡◌, ℕ, List, [], ◌∷◌, Bool, true, false, Option, Some, None, Result, Ok, Err, nat_lt, length, drop, if◌then◌else◌, refl, ap, subst, ◌∙◌, ◌⊎◌, inl, inr}
use Rattle.wire_base.specs.Rules.{Rule, first_told}
use Rattle.sealing.specs.declared.fault.FieldFault.{FieldFault}
use Rattle.sealing.specs.declared.ticket.Ticket.{Ticket}
use Rattle.roles.specs.declared.answer.Cause.{Cause}
use Rattle.roles.specs.declared.answer.Cause.TheVariants.{WrongKind, ServerSaidNo, NoServer, NoRoom, BadKey}
use Rattle.roles.specs.declared.answer.Gave.TheVariants as g
use Rattle.roles.specs.declared.key.SkKey.{SkKey}
use Rattle.roles.specs.declared.need.Need.{Need}
use Rattle.roles.specs.declared.need.Need.TheVariants.{Nothing, Key, Offers, Pick, Exchange}
use Rattle.roles.specs.Answers.{IsKey, IsOffers, IsPick, IsExchange, is_sought}
use Rattle.roles.specs.Starts.{Start}
use Rattle.roles.specs.Talks.{Call, Progress, Verdict, give, get, found, heard, unheard, roomless, undone, offered, picked, goes, stays, breaks, sized, tested, unless_told}
use Rattle.roles.specs.Tickets.{proof_under, rest_part, ticket_part, ticket_under, with_ticket}
use Rattle.roles.specs.Clients.{is_refusal}
use Rattle.roles.specs.Courses.{answer_of, then_course}
use Rattle.conv_challenge.specs.declared.stage.TheConstants.{MOST_CHALLENGE}
use Rattle.conv_challenge.specs.declared.stage.Stage.{Stage}
use Rattle.conv_challenge.specs.declared.stage.Stage.TheVariants.{ClientFirst, ClientKey, ClientSecond, ClientDone, ServerKey, ServerAsk, ServerFirst, ServerSecond, ServerThird, ServerVouch, ServerDone}
use Rattle.conv_challenge.specs.Clients.{bounded}
use Rattle.conv_challenge.specs.Servers.{challenge_came, grants_challenge, grants_vouch, user_tests, vouch_came, vouch_opened, vouch_tests}
use Rattle.conv_challenge.specs.Courses.{answer_after, course, move, need_after, need_at, verdict}

-- how far a conversation is that isn't broken
abbrev at : Stage → Progress Stage
at stage = record { stage = stage; broken = None }

-- ---- where a key is wanted

data Seeks : Progress Stage → Type 0 where
  for_digits : (challenge : List ℕ) → Seeks (at (ClientKey challenge))
  for_server : Seeks (at ServerKey)

seeks_at : (start : Start) (stage : Stage) (broken : Option Cause) → IsKey (need_at start (record { stage = stage; broken = broken })) → Seeks (record { stage = stage; broken = broken })
seeks_at start stage (Some cause) wanted = absurd wanted
seeks_at start ClientFirst None wanted = absurd wanted
seeks_at start (ClientKey challenge) None wanted = for_digits challenge
seeks_at start (ClientSecond challenge password) None wanted = absurd wanted
seeks_at start (ClientDone challenge password) None wanted = absurd wanted
seeks_at start ServerKey None wanted = for_server
seeks_at start (ServerAsk key) None wanted = absurd wanted
seeks_at start (ServerFirst key challenge) None wanted = absurd wanted
seeks_at start (ServerSecond key challenge) None wanted = absurd wanted
seeks_at start (ServerThird key challenge user) None wanted = absurd wanted
seeks_at start (ServerVouch key challenge user digits) None wanted = absurd wanted
seeks_at start (ServerDone key challenge user digits vouch) None wanted = absurd wanted

seeks : (start : Start) (talk : List Call) → IsKey (need_after start talk) → Seeks (course start talk)
seeks start talk wanted = seeks_at start (course start talk).stage (course start talk).broken wanted

found_at : (start : Start) (p : Progress Stage) (key : SkKey) (password : Option (List ℕ)) → Seeks p → is_sought (need_at start (then_course p (verdict start p (found key password)))) ≡ false
found_at start p key password (for_digits challenge) = refl
found_at start p key password for_server = refl

-- behind a key that was found nothing is sought
pub found_needs : (start : Start) (talk : List Call) (key : SkKey) (password : Option (List ℕ)) → IsKey (need_after start talk) → is_sought (need_after start (found key password ∷ talk)) ≡ false
found_needs start talk key password wanted = found_at start (course start talk) key password (seeks start talk wanted)

-- ---- offers and picks are never wanted

no_offers : (start : Start) (stage : Stage) (broken : Option Cause) → IsOffers (need_at start (record { stage = stage; broken = broken })) → ⊥
no_offers start stage (Some cause) wanted = absurd wanted
no_offers start ClientFirst None wanted = absurd wanted
no_offers start (ClientKey challenge) None wanted = absurd wanted
no_offers start (ClientSecond challenge password) None wanted = absurd wanted
no_offers start (ClientDone challenge password) None wanted = absurd wanted
no_offers start ServerKey None wanted = absurd wanted
no_offers start (ServerAsk key) None wanted = absurd wanted
no_offers start (ServerFirst key challenge) None wanted = absurd wanted
no_offers start (ServerSecond key challenge) None wanted = absurd wanted
no_offers start (ServerThird key challenge user) None wanted = absurd wanted
no_offers start (ServerVouch key challenge user digits) None wanted = absurd wanted
no_offers start (ServerDone key challenge user digits vouch) None wanted = absurd wanted

pub never_offers : (start : Start) (talk : List Call) → IsOffers (need_after start talk) → ⊥
never_offers start talk wanted = no_offers start (course start talk).stage (course start talk).broken wanted

no_pick : (start : Start) (stage : Stage) (broken : Option Cause) → IsPick (need_at start (record { stage = stage; broken = broken })) → ⊥
no_pick start stage (Some cause) wanted = absurd wanted
no_pick start ClientFirst None wanted = absurd wanted
no_pick start (ClientKey challenge) None wanted = absurd wanted
no_pick start (ClientSecond challenge password) None wanted = absurd wanted
no_pick start (ClientDone challenge password) None wanted = absurd wanted
no_pick start ServerKey None wanted = absurd wanted
no_pick start (ServerAsk key) None wanted = absurd wanted
no_pick start (ServerFirst key challenge) None wanted = absurd wanted
no_pick start (ServerSecond key challenge) None wanted = absurd wanted
no_pick start (ServerThird key challenge user) None wanted = absurd wanted
no_pick start (ServerVouch key challenge user digits) None wanted = absurd wanted
no_pick start (ServerDone key challenge user digits vouch) None wanted = absurd wanted

pub never_picks : (start : Start) (talk : List Call) → IsPick (need_after start talk) → ⊥
never_picks start talk wanted = no_pick start (course start talk).stage (course start talk).broken wanted

-- what is sought where neither is wanted is a key
key_of : (need : Need) → (IsOffers need → ⊥) → (IsPick need → ⊥) → is_sought need ≡ true → IsKey need
key_of Nothing offers pick sought = absurd cc
key_of (Key template) offers pick sought = tt
key_of (Offers template) offers pick sought = absurd (offers tt)
key_of (Pick templates) offers pick sought = absurd (pick tt)
key_of (Exchange request shape) offers pick sought = absurd cc

pub sought_is_key : (start : Start) (talk : List Call) → is_sought (need_after start talk) ≡ true → IsKey (need_after start talk)
sought_is_key start talk sought = key_of (need_after start talk) (never_offers start talk) (never_picks start talk) sought

-- ---- a call that wants a key is taken back

-- where a verdict leads to a stage that wants a key, it changes nothing, or it is taken back by `undone`, and nothing was
-- wanted before it
abbrev Leads : Start → Progress Stage → Verdict Stage → Type 0
Leads start p v = IsKey (need_at start (then_course p v)) → (then_course p v ≡ p) ⊎ ((need_at start p ≡ Nothing) × (then_course (then_course p v) (verdict start (then_course p v) undone) ≡ p))

either_leads : (start : Start) (p : Progress Stage) (test : Bool) (v w : Verdict Stage) → Leads start p v → Leads start p w → Leads start p (if test then v else w)
either_leads start p true v w first second = first
either_leads start p false v w first second = second

sized_leads : (start : Start) (p : Progress Stage) (size : ℕ) (b : List ℕ) (whole : Verdict Stage) → Leads start p whole → Leads start p (sized size b whole)
sized_leads start p size b whole leads = either_leads start p (nat_lt (length b) size) (stays (g.TooSmall size)) (if nat_lt size (length b) then stays g.TooLong else whole) (λ wanted. inl refl) (either_leads start p (nat_lt size (length b)) (stays g.TooLong) whole (λ wanted. inl refl) leads)

bounded_leads : (start : Start) (p : Progress Stage) (most : ℕ) (b : List ℕ) (whole : Verdict Stage) → Leads start p whole → Leads start p (bounded most b whole)
bounded_leads start p most b whole leads = either_leads start p (nat_lt (length b) 1) (stays (g.TooSmall 1)) (if nat_lt most (length b) then stays g.TooLong else whole) (λ wanted. inl refl) (either_leads start p (nat_lt most (length b)) (stays g.TooLong) whole (λ wanted. inl refl) leads)

unless_leads : (start : Start) (p : Progress Stage) (told : Option Cause) (passed : Verdict Stage) → Leads start p passed → Leads start p (unless_told told passed)
unless_leads start p None passed leads = leads
unless_leads start p (Some cause) passed leads = λ wanted. absurd wanted

tested_leads : (start : Start) (p : Progress Stage) (tests : List (Rule Cause)) (passed : Verdict Stage) → Leads start p passed → Leads start p (tested tests passed)
tested_leads start p tests passed leads = unless_leads start p (first_told tests) passed leads

ticket_leads : (start : Start) (p : Progress Stage) (cause : Cause) (ticket : Result Ticket FieldFault) (next : Ticket → Verdict Stage) → ((t : Ticket) → Leads start p (next t)) → Leads start p (with_ticket cause ticket next)
ticket_leads start p cause (Ok ticket) next leads = leads ticket
ticket_leads start p cause (Err fault) next leads = λ wanted. absurd wanted

vouch_leads : (start : Start) (key : SkKey) (challenge user digits vouch : List ℕ) → Leads start (at (ServerVouch key challenge user digits)) (vouch_opened start key challenge user digits vouch)
vouch_leads start key challenge user digits vouch =
    ticket_leads start (at (ServerVouch key challenge user digits)) BadKey (ticket_under key (ticket_part vouch)) (λ ticket. tested (vouch_tests start user ticket (proof_under ticket (rest_part vouch))) (goes (ServerDone key challenge user digits vouch) g.Ok []))
    (λ ticket. tested_leads start (at (ServerVouch key challenge user digits)) (vouch_tests start user ticket (proof_under ticket (rest_part vouch))) (goes (ServerDone key challenge user digits vouch) g.Ok []) (λ wanted. absurd wanted))

move_leads : (start : Start) (stage : Stage) (call : Call) → Leads start (at stage) (move start stage call)
move_leads start ClientFirst (give b) = bounded_leads start (at ClientFirst) MOST_CHALLENGE b (goes (ClientKey b) g.Wait []) (λ wanted. inr (refl, refl))
move_leads start ClientFirst get = λ wanted. inl refl
move_leads start ClientFirst (found k word) = λ wanted. inl refl
move_leads start ClientFirst (heard answer) = λ wanted. inl refl
move_leads start ClientFirst unheard = λ wanted. inl refl
move_leads start ClientFirst roomless = λ wanted. inl refl
move_leads start ClientFirst undone = λ wanted. inl refl
move_leads start ClientFirst (offered list) = λ wanted. inl refl
move_leads start ClientFirst (picked place) = λ wanted. inl refl
move_leads start (ClientKey challenge) (give b) = λ wanted. inl refl
move_leads start (ClientKey challenge) get = λ wanted. inl refl
move_leads start (ClientKey challenge) (found k word) = λ wanted. absurd wanted
move_leads start (ClientKey challenge) (heard answer) = λ wanted. inl refl
move_leads start (ClientKey challenge) unheard = λ wanted. inl refl
move_leads start (ClientKey challenge) roomless = λ wanted. inl refl
move_leads start (ClientKey challenge) undone = λ wanted. absurd wanted
move_leads start (ClientKey challenge) (offered list) = λ wanted. inl refl
move_leads start (ClientKey challenge) (picked place) = λ wanted. inl refl
move_leads start (ClientSecond challenge password) (give b) = λ wanted. inl refl
move_leads start (ClientSecond challenge password) get = λ wanted. absurd wanted
move_leads start (ClientSecond challenge password) (found k word) = λ wanted. inl refl
move_leads start (ClientSecond challenge password) (heard answer) = λ wanted. inl refl
move_leads start (ClientSecond challenge password) unheard = λ wanted. inl refl
move_leads start (ClientSecond challenge password) roomless = λ wanted. inl refl
move_leads start (ClientSecond challenge password) undone = λ wanted. inl refl
move_leads start (ClientSecond challenge password) (offered list) = λ wanted. inl refl
move_leads start (ClientSecond challenge password) (picked place) = λ wanted. inl refl
move_leads start (ClientDone challenge password) (give b) = λ wanted. inl refl
move_leads start (ClientDone challenge password) get = λ wanted. inl refl
move_leads start (ClientDone challenge password) (found k word) = λ wanted. inl refl
move_leads start (ClientDone challenge password) (heard answer) = λ wanted. inl refl
move_leads start (ClientDone challenge password) unheard = λ wanted. inl refl
move_leads start (ClientDone challenge password) roomless = λ wanted. inl refl
move_leads start (ClientDone challenge password) undone = λ wanted. inl refl
move_leads start (ClientDone challenge password) (offered list) = λ wanted. inl refl
move_leads start (ClientDone challenge password) (picked place) = λ wanted. inl refl
move_leads start ServerKey (give b) = λ wanted. inl refl
move_leads start ServerKey get = λ wanted. inl refl
move_leads start ServerKey (found k word) = λ wanted. absurd wanted
move_leads start ServerKey (heard answer) = λ wanted. inl refl
move_leads start ServerKey unheard = λ wanted. inl refl
move_leads start ServerKey roomless = λ wanted. inl refl
move_leads start ServerKey undone = λ wanted. inl refl
move_leads start ServerKey (offered list) = λ wanted. inl refl
move_leads start ServerKey (picked place) = λ wanted. inl refl
move_leads start (ServerAsk key) (give b) = λ wanted. inl refl
move_leads start (ServerAsk key) get = λ wanted. inl refl
move_leads start (ServerAsk key) (found k word) = λ wanted. inl refl
move_leads start (ServerAsk key) (heard answer) = either_leads start (at (ServerAsk key)) (is_refusal answer) (breaks ServerSaidNo) (if grants_challenge answer then goes (ServerFirst key (drop 6 answer)) g.Ok [] else breaks WrongKind) (λ wanted. absurd wanted) (either_leads start (at (ServerAsk key)) (grants_challenge answer) (goes (ServerFirst key (drop 6 answer)) g.Ok []) (breaks WrongKind) (λ wanted. absurd wanted) (λ wanted. absurd wanted))
move_leads start (ServerAsk key) unheard = λ wanted. absurd wanted
move_leads start (ServerAsk key) roomless = λ wanted. absurd wanted
move_leads start (ServerAsk key) undone = λ wanted. inl refl
move_leads start (ServerAsk key) (offered list) = λ wanted. inl refl
move_leads start (ServerAsk key) (picked place) = λ wanted. inl refl
move_leads start (ServerFirst key challenge) (give b) = λ wanted. inl refl
move_leads start (ServerFirst key challenge) get = λ wanted. absurd wanted
move_leads start (ServerFirst key challenge) (found k word) = λ wanted. inl refl
move_leads start (ServerFirst key challenge) (heard answer) = λ wanted. inl refl
move_leads start (ServerFirst key challenge) unheard = λ wanted. inl refl
move_leads start (ServerFirst key challenge) roomless = λ wanted. inl refl
move_leads start (ServerFirst key challenge) undone = λ wanted. inl refl
move_leads start (ServerFirst key challenge) (offered list) = λ wanted. inl refl
move_leads start (ServerFirst key challenge) (picked place) = λ wanted. inl refl
move_leads start (ServerSecond key challenge) (give b) = bounded_leads start (at (ServerSecond key challenge)) 27 b (tested (user_tests b) (goes (ServerThird key challenge b) g.Ok [])) (tested_leads start (at (ServerSecond key challenge)) (user_tests b) (goes (ServerThird key challenge b) g.Ok []) (λ wanted. absurd wanted))
move_leads start (ServerSecond key challenge) get = λ wanted. inl refl
move_leads start (ServerSecond key challenge) (found k word) = λ wanted. inl refl
move_leads start (ServerSecond key challenge) (heard answer) = λ wanted. inl refl
move_leads start (ServerSecond key challenge) unheard = λ wanted. inl refl
move_leads start (ServerSecond key challenge) roomless = λ wanted. inl refl
move_leads start (ServerSecond key challenge) undone = λ wanted. inl refl
move_leads start (ServerSecond key challenge) (offered list) = λ wanted. inl refl
move_leads start (ServerSecond key challenge) (picked place) = λ wanted. inl refl
move_leads start (ServerThird key challenge user) (give b) = sized_leads start (at (ServerThird key challenge user)) 32 b (goes (ServerVouch key challenge user b) g.Wait []) (λ wanted. absurd wanted)
move_leads start (ServerThird key challenge user) get = λ wanted. inl refl
move_leads start (ServerThird key challenge user) (found k word) = λ wanted. inl refl
move_leads start (ServerThird key challenge user) (heard answer) = λ wanted. inl refl
move_leads start (ServerThird key challenge user) unheard = λ wanted. inl refl
move_leads start (ServerThird key challenge user) roomless = λ wanted. inl refl
move_leads start (ServerThird key challenge user) undone = λ wanted. inl refl
move_leads start (ServerThird key challenge user) (offered list) = λ wanted. inl refl
move_leads start (ServerThird key challenge user) (picked place) = λ wanted. inl refl
move_leads start (ServerVouch key challenge user digits) (give b) = λ wanted. inl refl
move_leads start (ServerVouch key challenge user digits) get = λ wanted. inl refl
move_leads start (ServerVouch key challenge user digits) (found k word) = λ wanted. inl refl
move_leads start (ServerVouch key challenge user digits) (heard answer) = either_leads start (at (ServerVouch key challenge user digits)) (is_refusal answer) (breaks ServerSaidNo) (if grants_vouch answer then vouch_opened start key challenge user digits (drop 1 answer) else breaks WrongKind) (λ wanted. absurd wanted) (either_leads start (at (ServerVouch key challenge user digits)) (grants_vouch answer) (vouch_opened start key challenge user digits (drop 1 answer)) (breaks WrongKind) (vouch_leads start key challenge user digits (drop 1 answer)) (λ wanted. absurd wanted))
move_leads start (ServerVouch key challenge user digits) unheard = λ wanted. absurd wanted
move_leads start (ServerVouch key challenge user digits) roomless = λ wanted. absurd wanted
move_leads start (ServerVouch key challenge user digits) undone = λ wanted. inl refl
move_leads start (ServerVouch key challenge user digits) (offered list) = λ wanted. inl refl
move_leads start (ServerVouch key challenge user digits) (picked place) = λ wanted. inl refl
move_leads start (ServerDone key challenge user digits vouch) (give b) = λ wanted. inl refl
move_leads start (ServerDone key challenge user digits vouch) get = λ wanted. inl refl
move_leads start (ServerDone key challenge user digits vouch) (found k word) = λ wanted. inl refl
move_leads start (ServerDone key challenge user digits vouch) (heard answer) = λ wanted. inl refl
move_leads start (ServerDone key challenge user digits vouch) unheard = λ wanted. inl refl
move_leads start (ServerDone key challenge user digits vouch) roomless = λ wanted. inl refl
move_leads start (ServerDone key challenge user digits vouch) undone = λ wanted. inl refl
move_leads start (ServerDone key challenge user digits vouch) (offered list) = λ wanted. inl refl
move_leads start (ServerDone key challenge user digits vouch) (picked place) = λ wanted. inl refl

verdict_leads : (start : Start) (stage : Stage) (broken : Option Cause) (call : Call) → Leads start (record { stage = stage; broken = broken }) (verdict start (record { stage = stage; broken = broken }) call)
verdict_leads start stage None call = move_leads start stage call
verdict_leads start stage (Some cause) call = λ wanted. inl refl

-- where nothing was needed before it, it is taken back
taken : (start : Start) (talk : List Call) (call : Call) → need_after start talk ≡ Nothing → IsKey (need_after start (call ∷ talk)) → (course start (call ∷ talk) ≡ course start talk) ⊎ ((need_after start talk ≡ Nothing) × (course start (undone ∷ call ∷ talk) ≡ course start talk)) → course start (undone ∷ call ∷ talk) ≡ course start talk
taken start talk call none wanted (inl same) = absurd (subst (λ (need : Need). IsKey need) (ap (λ (p : Progress Stage). need_at start p) same ∙ none) wanted)
taken start talk call none wanted (inr back) = back.1

pub undone_call : (start : Start) (talk : List Call) (call : Call) → need_after start talk ≡ Nothing → IsKey (need_after start (call ∷ talk)) → course start (undone ∷ call ∷ talk) ≡ course start talk
undone_call start talk call none wanted = taken start talk call none wanted (verdict_leads start (course start talk).stage (course start talk).broken call wanted)

pub undone_needs : (start : Start) (talk : List Call) (call : Call) → need_after start talk ≡ Nothing → is_sought (need_after start (call ∷ talk)) ≡ true → need_after start (undone ∷ call ∷ talk) ≡ Nothing
undone_needs start talk call none sought = ap (λ (p : Progress Stage). need_at start p) (undone_call start talk call none (sought_is_key start (call ∷ talk) sought)) ∙ none

-- ---- where the authentication server is asked

data Asks : Progress Stage → Type 0 where
  to_challenge : (key : SkKey) → Asks (at (ServerAsk key))
  to_vouch : (key : SkKey) (challenge user digits : List ℕ) → Asks (at (ServerVouch key challenge user digits))

asks_at : (start : Start) (stage : Stage) (broken : Option Cause) → IsExchange (need_at start (record { stage = stage; broken = broken })) → Asks (record { stage = stage; broken = broken })
asks_at start stage (Some cause) wanted = absurd wanted
asks_at start ClientFirst None wanted = absurd wanted
asks_at start (ClientKey challenge) None wanted = absurd wanted
asks_at start (ClientSecond challenge password) None wanted = absurd wanted
asks_at start (ClientDone challenge password) None wanted = absurd wanted
asks_at start ServerKey None wanted = absurd wanted
asks_at start (ServerAsk key) None wanted = to_challenge key
asks_at start (ServerFirst key challenge) None wanted = absurd wanted
asks_at start (ServerSecond key challenge) None wanted = absurd wanted
asks_at start (ServerThird key challenge user) None wanted = absurd wanted
asks_at start (ServerVouch key challenge user digits) None wanted = to_vouch key challenge user digits
asks_at start (ServerDone key challenge user digits vouch) None wanted = absurd wanted

asks : (start : Start) (talk : List Call) → IsExchange (need_after start talk) → Asks (course start talk)
asks start talk wanted = asks_at start (course start talk).stage (course start talk).broken wanted

-- nothing is needed behind a verdict
abbrev Rests : Start → Progress Stage → Verdict Stage → Type 0
Rests start p v = need_at start (then_course p v) ≡ Nothing

either_rests : (start : Start) (p : Progress Stage) (test : Bool) (v w : Verdict Stage) → Rests start p v → Rests start p w → Rests start p (if test then v else w)
either_rests start p true v w first second = first
either_rests start p false v w first second = second

unless_rests : (start : Start) (p : Progress Stage) (told : Option Cause) (passed : Verdict Stage) → Rests start p passed → Rests start p (unless_told told passed)
unless_rests start p None passed rests = rests
unless_rests start p (Some cause) passed rests = refl

tested_rests : (start : Start) (p : Progress Stage) (tests : List (Rule Cause)) (passed : Verdict Stage) → Rests start p passed → Rests start p (tested tests passed)
tested_rests start p tests passed rests = unless_rests start p (first_told tests) passed rests

ticket_rests : (start : Start) (p : Progress Stage) (cause : Cause) (ticket : Result Ticket FieldFault) (next : Ticket → Verdict Stage) → ((t : Ticket) → Rests start p (next t)) → Rests start p (with_ticket cause ticket next)
ticket_rests start p cause (Ok ticket) next rests = rests ticket
ticket_rests start p cause (Err fault) next rests = refl

challenge_rests : (start : Start) (key : SkKey) (answer : List ℕ) → Rests start (at (ServerAsk key)) (challenge_came key answer)
challenge_rests start key answer =
    either_rests start (at (ServerAsk key)) (is_refusal answer) (breaks ServerSaidNo) (if grants_challenge answer then goes (ServerFirst key (drop 6 answer)) g.Ok [] else breaks WrongKind) refl
    (either_rests start (at (ServerAsk key)) (grants_challenge answer) (goes (ServerFirst key (drop 6 answer)) g.Ok []) (breaks WrongKind) refl refl)

opened_rests : (start : Start) (key : SkKey) (challenge user digits vouch : List ℕ) → Rests start (at (ServerVouch key challenge user digits)) (vouch_opened start key challenge user digits vouch)
opened_rests start key challenge user digits vouch =
    ticket_rests start (at (ServerVouch key challenge user digits)) BadKey (ticket_under key (ticket_part vouch)) (λ ticket. tested (vouch_tests start user ticket (proof_under ticket (rest_part vouch))) (goes (ServerDone key challenge user digits vouch) g.Ok []))
    (λ ticket. tested_rests start (at (ServerVouch key challenge user digits)) (vouch_tests start user ticket (proof_under ticket (rest_part vouch))) (goes (ServerDone key challenge user digits vouch) g.Ok []) refl)

vouch_rests : (start : Start) (key : SkKey) (challenge user digits answer : List ℕ) → Rests start (at (ServerVouch key challenge user digits)) (vouch_came start key challenge user digits answer)
vouch_rests start key challenge user digits answer =
    either_rests start (at (ServerVouch key challenge user digits)) (is_refusal answer) (breaks ServerSaidNo) (if grants_vouch answer then vouch_opened start key challenge user digits (drop 1 answer) else breaks WrongKind) refl
    (either_rests start (at (ServerVouch key challenge user digits)) (grants_vouch answer) (vouch_opened start key challenge user digits (drop 1 answer)) (breaks WrongKind) (opened_rests start key challenge user digits (drop 1 answer)) refl)

-- it answered
heard_at : (start : Start) (p : Progress Stage) (answer : List ℕ) → Asks p → need_at start (then_course p (verdict start p (heard answer))) ≡ Nothing
heard_at start p answer (to_challenge key) = challenge_rests start key answer
heard_at start p answer (to_vouch key challenge user digits) = vouch_rests start key challenge user digits answer

pub heard_needs : (start : Start) (talk : List Call) (answer : List ℕ) → IsExchange (need_after start talk) → need_after start (heard answer ∷ talk) ≡ Nothing
heard_needs start talk answer wanted = heard_at start (course start talk) answer (asks start talk wanted)

-- it wasn't reached
unheard_at : (start : Start) (p : Progress Stage) → Asks p → verdict start p unheard ≡ breaks NoServer
unheard_at start p (to_challenge key) = refl
unheard_at start p (to_vouch key challenge user digits) = refl

pub unheard_needs : (start : Start) (talk : List Call) → IsExchange (need_after start talk) → need_after start (unheard ∷ talk) ≡ Nothing
unheard_needs start talk wanted = ap (λ (v : Verdict Stage). need_at start (then_course (course start talk) v)) (unheard_at start (course start talk) (asks start talk wanted))

pub unheard_tells : (start : Start) (talk : List Call) → IsExchange (need_after start talk) → answer_after start talk unheard ≡ g.Refused NoServer
unheard_tells start talk wanted = ap (λ (v : Verdict Stage). answer_of v) (unheard_at start (course start talk) (asks start talk wanted))

-- or there was no memory for its answer
roomless_at : (start : Start) (p : Progress Stage) → Asks p → verdict start p roomless ≡ breaks NoRoom
roomless_at start p (to_challenge key) = refl
roomless_at start p (to_vouch key challenge user digits) = refl

pub roomless_needs : (start : Start) (talk : List Call) → IsExchange (need_after start talk) → need_after start (roomless ∷ talk) ≡ Nothing
roomless_needs start talk wanted = ap (λ (v : Verdict Stage). need_at start (then_course (course start talk) v)) (roomless_at start (course start talk) (asks start talk wanted))

pub roomless_tells : (start : Start) (talk : List Call) → IsExchange (need_after start talk) → answer_after start talk roomless ≡ g.Refused NoRoom
roomless_tells start talk wanted = ap (λ (v : Verdict Stage). answer_of v) (roomless_at start (course start talk) (asks start talk wanted))
