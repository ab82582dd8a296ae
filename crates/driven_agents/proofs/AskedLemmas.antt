-- A conversation that is on the authentication server needs an exchange with it, whatever its talk was.
use Rattle.std.proofs.Common.{◌≡◌, List, [], ◌∷◌, Bool, true, false, subst}
use Rattle.roles.specs.declared.need.Need.{Need}
use Rattle.roles.specs.declared.need.Need.TheVariants.{Nothing, Key, Offers, Pick, Exchange}
use Rattle.roles.specs.Answers.{IsExchange}
use Rattle.roles.specs.Talks.{heard, unheard, roomless, offered, picked}
use Rattle.talks.specs.declared.answer.RpcAnswer.{RpcAnswer}
use Rattle.talks.specs.Protocols.{needs}
use Rattle.talks.specs.Calls as calls
use Rattle.talks.specs.Calls.{Found, Chosen, AsksConsent, AsksKey, Denied, NoneServes, Offered, Picked}
use Rattle.talks.specs.Standings.{Phase, Resting, Waiting, Seeking, OnConfirm, OnNeedkey, OnServer, Kept, Standing, is_for, need_in, phase_after, question_of, sought, sought_if, standing, then_stands}
use Rattle.driven_agents.proofs.StandLemmas.{Stands, carried_so, key_so, made_so}

abbrev Wants : Phase → Need → Type 0
Wants OnServer need = IsExchange need
Wants phase need = Unit {0}

abbrev AsksIf : Standing → Type 0
AsksIf s = Wants s.phase (question_of s)

need_asks : (need : Need) (answer : RpcAnswer) → Wants (phase_after need answer) need
need_asks (Exchange request shape) answer = tt
need_asks (Key template) answer = tt
need_asks (Offers template) answer = tt
need_asks (Pick templates) answer = tt
need_asks Nothing answer = tt

asks_so : Stands AsksIf
asks_so = record { moves = λ s b answer. need_asks (needs b.start b.moves) answer; ends = λ s answer. tt }

sought_asks : (s : Standing) (came : Found) → AsksIf s → AsksIf (sought s came)
sought_asks s (Chosen key) p = key_so AsksIf asks_so s key s.begun p
sought_asks s (AsksConsent serial) p = tt
sought_asks s AsksKey p = tt
sought_asks s Denied p = tt
sought_asks s NoneServes p = tt
sought_asks s (Offered list) p = made_so AsksIf asks_so s (offered list) s.begun p
sought_asks s (Picked place) p = made_so AsksIf asks_so s (picked place) s.begun p

if_asks : (is : Bool) (s : Standing) (came : Found) → AsksIf s → AsksIf (sought_if is s came)
if_asks true s came p = sought_asks s came p
if_asks false s came p = p

call_asks : (s : Standing) (phase : Phase) (call : calls.Call) → AsksIf s → AsksIf (then_stands s phase call)
call_asks s Resting (calls.Stored request) p = tt
call_asks s (Waiting request) (calls.CarriedOut word) p = carried_so AsksIf asks_so s word request
call_asks s Seeking (calls.Sought came) p = if_asks (is_for (need_in s.begun) came) s came p
call_asks s (OnConfirm serial) (calls.Consented agrees) p = tt
call_asks s (OnConfirm serial) calls.Shut p = tt
call_asks s OnNeedkey calls.KeyTold p = tt
call_asks s OnNeedkey calls.Shut p = tt
call_asks s OnServer (calls.Heard bytes) p = made_so AsksIf asks_so s (heard bytes) s.begun p
call_asks s OnServer calls.Unheard p = made_so AsksIf asks_so s unheard s.begun p
call_asks s OnServer calls.Roomless p = made_so AsksIf asks_so s roomless s.begun p
call_asks s (Kept answer) calls.Took p = tt
call_asks s phase call p = p

talk_asks : (talk : List calls.Call) → AsksIf (standing talk)
talk_asks [] = tt
talk_asks (call ∷ before) = call_asks (standing before) (standing before).phase call (talk_asks before)

pub needs_exchange : (talk : List calls.Call) → (standing talk).phase ≡ OnServer → IsExchange (question_of (standing talk))
needs_exchange talk is = subst (λ phase. Wants phase (question_of (standing talk))) is (talk_asks talk)
