-- p9sk1 needs keys and the authentication server's answers, and nothing else.
use Rattle.std.proofs.Common.{◌≡◌, ℕ, List, [], ◌∷◌, true, false, Option, Some, None, Result, Ok, Err, refl, ap, ◌∙◌}
use Rattle.sealing.specs.Request.{request_of}
use Rattle.sealing.specs.declared.fault.FieldFault.{FieldFault}
use Rattle.sealing.specs.declared.request.TicketReq.{TicketReq}
use Rattle.roles.specs.declared.answer.Cause.{Cause}
use Rattle.roles.specs.declared.answer.Cause.TheVariants.{WrongKind}
use Rattle.roles.specs.declared.answer.Gave.TheVariants as g
use Rattle.roles.specs.declared.key.SkKey.{SkKey}
use Rattle.roles.specs.declared.need.Need.{Need}
use Rattle.roles.specs.declared.need.Need.TheVariants.{Nothing, Key, Offers, Pick, Exchange}
use Rattle.roles.specs.declared.stage.Stage.{Stage}
use Rattle.roles.specs.declared.stage.Stage.TheVariants.{ClientFirst, ClientSecond, ClientKey, ClientAsk, ClientThird, ClientFourth, ClientDone, ServerKey, ServerFirst, ServerSecond, ServerThird, ServerFourth, ServerDone}
use Rattle.roles.specs.Answers.{IsKey, IsOffers, IsPick, is_sought}
use Rattle.roles.specs.Needs.{SeeksKeys}
use Rattle.roles.specs.Starts.{Start}
use Rattle.roles.specs.Talks.{Call, Progress, Verdict, found, undone, goes}
use Rattle.roles.specs.Tickets.{with_request}
use Rattle.roles.specs.Courses.{answer_after, answer_need, course, key_need, need_after, need_at, need_of, need_unless, then_course, verdict}
use Rattle.roles.proofs.ExchangeLaws.{heard_needs, roomless_needs, roomless_tells, unheard_needs, unheard_tells}
use Rattle.roles.proofs.UndoLaws.{undone_call}

-- ---- a need that is no list of offers and no pick

abbrev IsOther : Need → Type 0
IsOther Nothing = ⊥
IsOther (Key template) = ⊥
IsOther (Offers template) = Unit {0}
IsOther (Pick templates) = Unit {0}
IsOther (Exchange request shape) = ⊥

offers_other : (need : Need) → IsOffers need → IsOther need
offers_other Nothing h = h
offers_other (Key template) h = h
offers_other (Offers template) h = h
offers_other (Pick templates) h = tt
offers_other (Exchange request shape) h = h

picks_other : (need : Need) → IsPick need → IsOther need
picks_other Nothing h = h
picks_other (Key template) h = h
picks_other (Offers template) h = tt
picks_other (Pick templates) h = h
picks_other (Exchange request shape) h = h

no_key : (start : Start) (request : Result TicketReq FieldFault) → IsOther (key_need start request) → ⊥
no_key start (Ok request) other = other
no_key start (Err fault) other = other

no_answer : (start : Start) (key : SkKey) (request : Result TicketReq FieldFault) → IsOther (answer_need start key request) → ⊥
no_answer start key (Ok request) other = other
no_answer start key (Err fault) other = other

never_at : (start : Start) (stage : Stage) → IsOther (need_of start stage) → ⊥
never_at start ClientFirst other = other
never_at start ClientSecond other = other
never_at start (ClientKey request) other = no_key start (request_of request) other
never_at start (ClientAsk request key) other = no_answer start key (request_of request) other
never_at start (ClientThird request key tickets) other = other
never_at start (ClientFourth request key tickets) other = other
never_at start (ClientDone request key tickets proof) other = other
never_at start ServerKey other = other
never_at start (ServerFirst key) other = other
never_at start (ServerSecond key theirs) other = other
never_at start (ServerThird key theirs) other = other
never_at start (ServerFourth key theirs shown) other = other
never_at start (ServerDone key theirs shown) other = other

never_unless : (start : Start) (broken : Option Cause) (stage : Stage) → IsOther (need_unless broken (need_of start stage)) → ⊥
never_unless start None stage other = never_at start stage other
never_unless start (Some cause) stage other = other

never : (start : Start) (talk : List Call) → IsOther (need_after start talk) → ⊥
never start talk other = never_unless start (course start talk).broken (course start talk).stage other

-- ---- what is sought is a key

sought_key : (need : Need) → (IsOther need → ⊥) → is_sought need ≡ true → IsKey need
sought_key Nothing other h = absurd cc
sought_key (Key template) other h = tt
sought_key (Offers template) other h = absurd (other tt)
sought_key (Pick templates) other h = absurd (other tt)
sought_key (Exchange request shape) other h = absurd cc

undone_needs : (start : Start) (talk : List Call) (call : Call) → need_after start talk ≡ Nothing → is_sought (need_after start (call ∷ talk)) ≡ true → need_after start (undone ∷ call ∷ talk) ≡ Nothing
undone_needs start talk call none sought =
    ap (λ (p : Progress Stage). need_at start p) (undone_call start talk call none (sought_key (need_after start (call ∷ talk)) (never start (call ∷ talk)) sought)) ∙ none

-- ---- behind a key

asks_none : (start : Start) (key : SkKey) (request : Result TicketReq FieldFault) → is_sought (answer_need start key request) ≡ false
asks_none start key (Ok request) = refl
asks_none start key (Err fault) = refl

abbrev Sated : Start → Progress Stage → Verdict Stage → Type 0
Sated start p v = is_sought (need_at start (then_course p v)) ≡ false

request_sated : (start : Start) (p : Progress Stage) (request : Result TicketReq FieldFault) (next : Stage) → is_sought (need_unless p.broken (need_of start next)) ≡ false → Sated start p (with_request WrongKind request (λ _. goes next g.Wait []))
request_sated start p (Ok request) next h = h
request_sated start p (Err fault) next h = refl

found_at : (start : Start) (stage : Stage) (broken : Option Cause) (key : SkKey) (password : Option (List ℕ)) → IsKey (need_at start (record { stage = stage; broken = broken })) → Sated start (record { stage = stage; broken = broken }) (verdict start (record { stage = stage; broken = broken }) (found key password))
found_at start stage (Some cause) key password h = absurd h
found_at start ClientFirst None key password h = absurd h
found_at start ClientSecond None key password h = absurd h
found_at start (ClientKey request) None key password h =
    request_sated start (record { stage = ClientKey request; broken = None }) (request_of request) (ClientAsk request key) (asks_none start key (request_of request))
found_at start (ClientAsk request k) None key password h = asks_none start k (request_of request)
found_at start (ClientThird request k tickets) None key password h = absurd h
found_at start (ClientFourth request k tickets) None key password h = absurd h
found_at start (ClientDone request k tickets proof) None key password h = absurd h
found_at start ServerKey None key password h = refl
found_at start (ServerFirst k) None key password h = absurd h
found_at start (ServerSecond k theirs) None key password h = absurd h
found_at start (ServerThird k theirs) None key password h = absurd h
found_at start (ServerFourth k theirs shown) None key password h = absurd h
found_at start (ServerDone k theirs shown) None key password h = absurd h

found_needs : (start : Start) (talk : List Call) (key : SkKey) (password : Option (List ℕ)) → IsKey (need_after start talk) → is_sought (need_after start (found key password ∷ talk)) ≡ false
found_needs start talk key password h = found_at start (course start talk).stage (course start talk).broken key password h

-- ---- all of it

pub p9sk1_seeks : SeeksKeys need_after answer_after
p9sk1_seeks = record {
  never_offers = λ start talk h. never start talk (offers_other (need_after start talk) h);
  never_picks = λ start talk h. never start talk (picks_other (need_after start talk) h);
  undone_needs = undone_needs;
  found_needs = found_needs;
  heard_needs = heard_needs;
  unheard_needs = unheard_needs;
  roomless_needs = roomless_needs;
  unheard_tells = unheard_tells;
  roomless_tells = roomless_tells;
}
