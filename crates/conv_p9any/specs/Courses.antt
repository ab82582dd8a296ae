-- What the calls of a conversation of p9any come to, one after the other, for every list of calls. Once a domain is
-- chosen each call is one of the inner role's talk.
use Rattle.std.specs.Prelude.{ℕ, List, [], ◌∷◌, Bool, false, ◌&&◌, not, map, codes, length, ◌==◌, Option, Some, None, if◌then◌else◌}
use Rattle.std.specs.Str.{bytes_eq}
use Rattle.wire_base.specs.Rules.{Rule}
use Rattle.attr_tuples.specs.declared.attr.Attr.{Attr}
use Rattle.attr_tuples.specs.Matching.{value_of}
use Rattle.roles.specs.declared.answer.Cause.{Cause}
use Rattle.roles.specs.declared.answer.Cause.TheVariants.{NotOffered, WrongKind}
use Rattle.roles.specs.declared.answer.Gave.{Gave}
use Rattle.roles.specs.declared.answer.Gave.TheVariants as g
use Rattle.roles.specs.declared.answer.PhaseWord.TheVariants.{AwaitsRead, AwaitsWrite}
use Rattle.roles.specs.declared.need.Need.{Need}
use Rattle.roles.specs.declared.need.Need.TheVariants.{Nothing, Key, Offers, Pick}
use Rattle.roles.specs.declared.need.Outcome.{Outcome}
use Rattle.roles.specs.declared.need.Outcome.TheVariants.{Running}
use Rattle.roles.specs.declared.stage.Role.{Role}
use Rattle.roles.specs.declared.stage.Role.TheVariants.{Client, Server, Speakfor}
use Rattle.roles.specs.Answers.{is_sought}
use Rattle.roles.specs.Starts.{Start, role_of}
use Rattle.roles.specs.Templates.{asked}
use Rattle.roles.specs.Talks.{Call, Progress, Verdict, give, get, found, undone, offered, picked, goes, stays, tested}
use Rattle.roles.specs.Courses.{answer_of, bytes_of, need_unless, outcome_unless, then_course, unless_broken}
use Rattle.conv_p9any.specs.declared.stage.Stage.{Stage}
use Rattle.conv_p9any.specs.declared.stage.Stage.TheVariants.{ServerOffers, ServerKey, ServerFirst, ServerSecond, ClientFirst, ClientPick, ClientSecond, ClientThird}
use Rattle.conv_p9any.specs.Inner.{Inner, asked_within, inner_start}
use Rattle.conv_p9any.specs.Offers.{choice_of, consents, dom_at, dom_in, eligible, is_offered}
use Rattle.conv_p9any.specs.Talks.{Standing, choosing, within, is_empty, needs_any}
use Rattle.conv_p9any.specs.Texts.{ended_by_nul, text_with_nul}

-- ---- the inner role

-- its start, by the text of the choice
abbrev pub chosen_start : Inner → Start → List ℕ → Start
chosen_start inner start text = inner_start inner.name start (dom_in inner.name text)

-- what is told of a need: that it is waited for, where there is one
abbrev pub waits : Need → Gave
waits need = if needs_any need then g.Wait else g.Ok

-- it is begun by a move that gets these bytes
abbrev pub entered : Inner → Start → Stage → List ℕ → List ℕ → Verdict Standing
entered inner start before text bytes =
    goes (within before text []) (waits (inner.needs (chosen_start inner start text) [])) bytes

-- a call is one of its talk
abbrev pub passed_on : Inner → Start → Stage → List ℕ → List Call → Call → Verdict Standing
passed_on inner start before text talk call =
    goes (within before text (call ∷ talk)) (inner.answers (chosen_start inner start text) talk call)
    (inner.puts (chosen_start inner start text) talk call)

-- ---- the moves by which it is chosen

-- what a stage answers to a call that isn't its move
abbrev pub idle : Stage → Gave
idle ServerOffers = g.Wait
idle ServerKey = g.Wait
idle (ServerFirst list) = g.Phase AwaitsRead
idle (ServerSecond list) = g.Phase AwaitsWrite
idle ClientFirst = g.Phase AwaitsWrite
idle (ClientPick list) = g.Wait
idle (ClientSecond list place) = g.Phase AwaitsRead
idle (ClientThird list place) = g.Phase AwaitsWrite

-- what follows a choice: of the stage, the text of the choice, and the bytes that are got
abbrev pub Entry : Type 0
Entry = Stage → List ℕ → List ℕ → Verdict Standing

-- offers came: where there are none a key is needed first
abbrev pub offers_came : List ℕ → Verdict Standing
offers_came [] = goes (choosing ServerKey) g.Wait []
offers_came (b ∷ list) = goes (choosing (ServerFirst (b ∷ list))) g.Ok []

-- a client's choice came
abbrev pub choice_tests : List ℕ → List ℕ → List ℕ → List (Rule Cause)
choice_tests name list text = (not (is_offered name list text), NotOffered) ∷ []

abbrev pub choice_came : List ℕ → Entry → List ℕ → List ℕ → Verdict Standing
choice_came name enter list b =
    ended_by_nul b (λ text. tested (choice_tests name list text) (enter (ServerSecond list) text []))

-- a server's list came
abbrev pub list_tests : List ℕ → Start → List ℕ → List (Rule Cause)
list_tests name start list = (length (eligible name start list) == 0, NotOffered) ∷ []

abbrev pub list_came : List ℕ → Start → List ℕ → Verdict Standing
list_came name start b =
    ended_by_nul b (λ list. tested (list_tests name start list) (goes (choosing (ClientPick list)) g.Wait []))

-- the choice is got, and where the server consents to it that comes first
abbrev pub choice_text : List ℕ → Start → List ℕ → ℕ → List ℕ
choice_text name start list place = choice_of name (dom_at name start list place)

abbrev pub choice_got : List ℕ → Start → Entry → List ℕ → ℕ → Verdict Standing
choice_got name start enter list place =
    if consents list then goes (choosing (ClientThird list place)) g.Ok
    (text_with_nul (choice_text name start list place))
    else enter (ClientSecond list place) (choice_text name start list place)
    (text_with_nul (choice_text name start list place))

-- the server's consent came
abbrev pub consent_tests : List ℕ → List (Rule Cause)
consent_tests text = (not (bytes_eq text (codes "OK")), WrongKind) ∷ []

abbrev pub consent_came : List ℕ → Start → Entry → List ℕ → ℕ → List ℕ → Verdict Standing
consent_came name start enter list place b =
    ended_by_nul b (λ text. tested (consent_tests text)
    (enter (ClientThird list place) (choice_text name start list place) []))

abbrev pub choose : List ℕ → Start → Entry → Stage → Call → Verdict Standing
-- server: the offers come; where there are none a key is found, which isn't kept, and they are wanted again
choose name start enter ServerOffers (offered list) = offers_came list
choose name start enter ServerKey (found key password) = goes (choosing ServerOffers) g.Wait []
-- server, 1: the list is got
choose name start enter (ServerFirst list) get = goes (choosing (ServerSecond list)) g.Ok (text_with_nul list)
-- server, 2: the choice is given
choose name start enter (ServerSecond list) (give b) = choice_came name enter list b
-- client, 1: the list is given, and a domain picked, or the list awaited again
choose name start enter ClientFirst (give b) = list_came name start b
choose name start enter (ClientPick list) (picked place) = goes (choosing (ClientSecond list place)) g.Ok []
choose name start enter (ClientPick list) undone = goes (choosing ClientFirst) g.Ok []
-- client, 2: the choice is got
choose name start enter (ClientSecond list place) get = choice_got name start enter list place
-- client, 3: the server's consent is given
choose name start enter (ClientThird list place) (give b) = consent_came name start enter list place b
-- any other call
choose name start enter stage _ = stays (idle stage)

-- ---- all moves

-- the inner role was told nothing, and seeks something
abbrev pub seeks_first : (Start → List Call → Need) → Start → List Call → Bool
seeks_first needs start talk = is_empty talk && is_sought (needs start [])

-- that was asked for by the move that chose, which is taken back
abbrev pub taken_back : Inner → Start → Stage → List ℕ → List Call → Verdict Standing
taken_back inner start before text talk =
    if seeks_first inner.needs (chosen_start inner start text) talk then goes (choosing before) g.Ok []
    else passed_on inner start before text talk undone

abbrev pub move : Inner → Start → Standing → Call → Verdict Standing
move inner start (choosing stage) call = choose inner.name start (entered inner start) stage call
move inner start (within before text talk) undone = taken_back inner start before text talk
-- offers and picks are no calls of the inner role
move inner start (within before text talk) (offered list) =
    stays (waits (inner.needs (chosen_start inner start text) talk))
move inner start (within before text talk) (picked place) =
    stays (waits (inner.needs (chosen_start inner start text) talk))
move inner start (within before text talk) call = passed_on inner start before text talk call

-- ---- the course of a talk

abbrev pub verdict : Inner → Start → Progress Standing → Call → Verdict Standing
verdict inner start p call = unless_broken p.broken (move inner start p.stage call)

-- before any call
abbrev pub first_stage : Role → Stage
first_stage Client = ClientFirst
first_stage (Speakfor user) = ClientFirst
first_stage Server = ServerOffers

abbrev pub begun : Start → Progress Standing
begun start = record { stage = choosing (first_stage (role_of start.template)); broken = None }

-- how far the calls of a talk have brought it
abbrev pub course : Inner → Start → List Call → Progress Standing
course inner start [] = begun start
course inner start (call ∷ before) =
    then_course (course inner start before) (verdict inner start (course inner start before) call)

-- the talk of the inner role, once it is begun
abbrev pub talk_within : Standing → Option (List Call)
talk_within (choosing stage) = None
talk_within (within before text talk) = Some talk

abbrev pub inner_talk : Inner → Start → List Call → Option (List Call)
inner_talk inner start talk = talk_within (course inner start talk).stage

-- ---- what is told

-- what a call is answered after a talk, and the bytes that are got by it
abbrev pub answer_after : Inner → Start → List Call → Call → Gave
answer_after inner start talk call = answer_of (verdict inner start (course inner start talk) call)

abbrev pub puts_after : Inner → Start → List Call → Call → List ℕ
puts_after inner start talk call = bytes_of (verdict inner start (course inner start talk) call)

-- ---- what is needed

-- the template of a server's keys, in the start's domain, if it names one
abbrev pub asked_first : List ℕ → Start → List Attr
asked_first name start = asked name (role_of start.template) start.template (value_of (codes "dom") start.template)

-- the templates of the keys in the eligible domains
abbrev pub asked_each : List ℕ → Start → List ℕ → List (List Attr)
asked_each name start list = map (λ dom. asked_within name start dom) (eligible name start list)

-- what a stage of the choice needs
abbrev pub choice_need : List ℕ → Start → Stage → Need
choice_need name start ServerOffers = Offers (asked_first name start)
choice_need name start ServerKey = Key (asked_first name start)
choice_need name start (ClientPick list) = Pick (asked_each name start list)
choice_need name start _ = Nothing

abbrev pub need_of : Inner → Start → Standing → Need
need_of inner start (choosing stage) = choice_need inner.name start stage
need_of inner start (within before text talk) = inner.needs (chosen_start inner start text) talk

abbrev pub need_after : Inner → Start → List Call → Need
need_after inner start talk =
    need_unless (course inner start talk).broken (need_of inner start (course inner start talk).stage)

-- ---- how it ends

abbrev pub outcome_of : Inner → Start → Standing → Outcome
outcome_of inner start (choosing stage) = Running
outcome_of inner start (within before text talk) = inner.ends (chosen_start inner start text) talk

abbrev pub outcome_after : Inner → Start → List Call → Outcome
outcome_after inner start talk =
    outcome_unless (course inner start talk).broken (outcome_of inner start (course inner start talk).stage)

abbrev pub is_last : Inner → Start → Standing → Bool
is_last inner start (choosing stage) = false
is_last inner start (within before text talk) = inner.ended (chosen_start inner start text) talk

abbrev pub ended_after : Inner → Start → List Call → Bool
ended_after inner start talk = is_last inner start (course inner start talk).stage
