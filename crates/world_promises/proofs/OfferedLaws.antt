-- Each list of offers that a conversation is given is short.
use Rattle.std.proofs.Common.{ℕ, ◌≤◌, List, [], ◌∷◌, length, Bool, true, false, Option, Some, None, subst, ◌≡◌}
use Rattle.attr_tuples.specs.declared.attr.Attr.{Attr}
use Rattle.key_lists.specs.Lists.{KeyEntry}
use Rattle.key_lists.specs.CtlLines.{few_of}
use Rattle.roles.specs.declared.answer.StartFault.{StartFault}
use Rattle.roles.specs.Talks.{Call as Move, found, get, give, heard, offered, picked, roomless, undone, unheard}
use Rattle.talks.specs.Protocols.{refuses}
use Rattle.talks.specs.Requests.{RpcRequest}
use Rattle.talks.specs.Requests as rpc
use Rattle.talks.specs.Calls.{Call, Found, Chosen, AsksConsent, AsksKey, Denied, NoneServes, Offered, Picked, Stored, CarriedOut, Sought, Consented, KeyTold, Shut, Heard, Unheard, Roomless, Took}
use Rattle.talks.specs.Standings.{Begun, Phase, Resting, Waiting, Seeking, OnConfirm, OnNeedkey, OnServer, Kept, Standing, begin_once, carried_out, if_begun, is_for, made, need_in, sought, sought_if, standing, start_by, started, taken_back, then_stands, with_key}
use Rattle.agent_history.specs.Conversations.{standing_of, talk}
use Rattle.agent_history.specs.Histories.{History, deeds}
use Rattle.agent_laws.proofs.ConversationLaws.{all_searched}
use Rattle.wire_histories.specs.Legal.{IsMet}
use Rattle.driven_agents.specs.Keys.{AreMet}
use Rattle.driven_agents.proofs.ToldLaws.{told_ring_keys}
use Rattle.world_promises.proofs.VerdictForms.{FitMoves, FitsMove}
use Rattle.world_promises.proofs.OfferedFound.{AreTalked, IsFound, IsTalked, talked}

abbrev IsOffered : Move → Type 0
IsOffered (offered list) = length list ≤ 1024
IsOffered move = Unit {0}

abbrev AreOffered : List Move → Type 0
AreOffered [] = Unit {0}
AreOffered (move ∷ moves) = IsOffered move × AreOffered moves

-- ---- what is met

abbrev MovesOffered : Option Begun → Type 0
MovesOffered None = Unit {0}
MovesOffered (Some b) = AreOffered b.moves

by_refusal : (s : Standing) (word : List ℕ) (t : List Attr) (fault : Option StartFault) → MovesOffered s.begun → MovesOffered (started s word t fault).begun
by_refusal s word t (Some fault) so = so
by_refusal s word t None so = tt

by_text : (s : Standing) (word : List ℕ) (o : Option (List Attr)) → MovesOffered s.begun → MovesOffered (start_by s word o).begun
by_text s word None so = so
by_text s word (Some t) so = by_refusal s word t (refuses t) so

once : (s : Standing) (word text : List ℕ) (o : Option Begun) → MovesOffered s.begun → MovesOffered (begin_once s word text o).begun
once s word text None so = by_text s word (few_of text) so
once s word text (Some b) so = so

moved_offered : (s : Standing) (o : Option Begun) (next : Begun → Standing) → ((b : Begun) → AreOffered b.moves → MovesOffered (next b).begun) → MovesOffered s.begun → MovesOffered o → MovesOffered (if_begun s o next).begun
moved_offered s None next goes so mine = so
moved_offered s (Some b) next goes so mine = goes b mine

carried_offered : (s : Standing) (word : List ℕ) (request : RpcRequest) → MovesOffered s.begun → MovesOffered (carried_out s word request).begun
carried_offered s word (rpc.starts text) so = once s word text s.begun so
carried_offered s word rpc.reads so = moved_offered s s.begun _ (λ b mine. (tt, mine)) so so
carried_offered s word (rpc.writes m) so = moved_offered s s.begun _ (λ b mine. (tt, mine)) so so
carried_offered s word rpc.asks_info so = so
carried_offered s word rpc.asks_attributes so = moved_offered s s.begun _ (λ b mine. so) so so

made_offered : (s : Standing) (move : Move) (begun : Option Begun) → IsOffered move → MovesOffered s.begun → MovesOffered begun → MovesOffered (made s move begun).begun
made_offered s move None is so mine = so
made_offered s move (Some b) is so mine = (is, mine)

key_offered : (s : Standing) (key : KeyEntry) (begun : Option Begun) → MovesOffered s.begun → MovesOffered begun → MovesOffered (with_key s key begun).begun
key_offered s key None so mine = so
key_offered s key (Some b) so mine = (tt, mine)

back_offered : (starting : Bool) (begun : Option Begun) → MovesOffered begun → MovesOffered (taken_back starting begun)
back_offered true None so = tt
back_offered false None so = tt
back_offered true (Some b) so = tt
back_offered false (Some b) so = (tt, so)

sought_offered : (s : Standing) (came : Found) → IsFound came → MovesOffered s.begun → MovesOffered (sought s came).begun
sought_offered s (Chosen key) is so = key_offered s key s.begun so so
sought_offered s (AsksConsent key) is so = so
sought_offered s AsksKey is so = so
sought_offered s Denied is so = back_offered s.starting s.begun so
sought_offered s NoneServes is so = back_offered s.starting s.begun so
sought_offered s (Offered list) is so = made_offered s (offered list) s.begun is so so
sought_offered s (Picked place) is so = made_offered s (picked place) s.begun tt so so

found_offered : (b : Bool) (s : Standing) (came : Found) → IsFound came → MovesOffered s.begun → MovesOffered (sought_if b s came).begun
found_offered true s came is so = sought_offered s came is so
found_offered false s came is so = so

step_offered : (s : Standing) (phase : Phase) (call : Call) → IsTalked call → MovesOffered s.begun → MovesOffered (then_stands s phase call).begun
step_offered s Resting (Stored asked) is so = so
step_offered s Resting (CarriedOut word) is so = so
step_offered s Resting (Sought came) is so = so
step_offered s Resting (Consented agrees) is so = so
step_offered s Resting KeyTold is so = so
step_offered s Resting Shut is so = so
step_offered s Resting (Heard bytes) is so = so
step_offered s Resting Unheard is so = so
step_offered s Resting Roomless is so = so
step_offered s Resting Took is so = so
step_offered s (Waiting request) (Stored asked) is so = so
step_offered s (Waiting request) (CarriedOut word) is so = carried_offered s word request so
step_offered s (Waiting request) (Sought came) is so = so
step_offered s (Waiting request) (Consented agrees) is so = so
step_offered s (Waiting request) KeyTold is so = so
step_offered s (Waiting request) Shut is so = so
step_offered s (Waiting request) (Heard bytes) is so = so
step_offered s (Waiting request) Unheard is so = so
step_offered s (Waiting request) Roomless is so = so
step_offered s (Waiting request) Took is so = so
step_offered s Seeking (Stored asked) is so = so
step_offered s Seeking (CarriedOut word) is so = so
step_offered s Seeking (Sought came) is so = found_offered (is_for (need_in s.begun) came) s came is so
step_offered s Seeking (Consented agrees) is so = so
step_offered s Seeking KeyTold is so = so
step_offered s Seeking Shut is so = so
step_offered s Seeking (Heard bytes) is so = so
step_offered s Seeking Unheard is so = so
step_offered s Seeking Roomless is so = so
step_offered s Seeking Took is so = so
step_offered s (OnConfirm serial) (Stored asked) is so = so
step_offered s (OnConfirm serial) (CarriedOut word) is so = so
step_offered s (OnConfirm serial) (Sought came) is so = so
step_offered s (OnConfirm serial) (Consented agrees) is so = so
step_offered s (OnConfirm serial) KeyTold is so = so
step_offered s (OnConfirm serial) Shut is so = back_offered s.starting s.begun so
step_offered s (OnConfirm serial) (Heard bytes) is so = so
step_offered s (OnConfirm serial) Unheard is so = so
step_offered s (OnConfirm serial) Roomless is so = so
step_offered s (OnConfirm serial) Took is so = so
step_offered s OnNeedkey (Stored asked) is so = so
step_offered s OnNeedkey (CarriedOut word) is so = so
step_offered s OnNeedkey (Sought came) is so = so
step_offered s OnNeedkey (Consented agrees) is so = so
step_offered s OnNeedkey KeyTold is so = so
step_offered s OnNeedkey Shut is so = back_offered s.starting s.begun so
step_offered s OnNeedkey (Heard bytes) is so = so
step_offered s OnNeedkey Unheard is so = so
step_offered s OnNeedkey Roomless is so = so
step_offered s OnNeedkey Took is so = so
step_offered s OnServer (Stored asked) is so = so
step_offered s OnServer (CarriedOut word) is so = so
step_offered s OnServer (Sought came) is so = so
step_offered s OnServer (Consented agrees) is so = so
step_offered s OnServer KeyTold is so = so
step_offered s OnServer Shut is so = so
step_offered s OnServer (Heard bytes) is so = made_offered s (heard bytes) s.begun tt so so
step_offered s OnServer Unheard is so = made_offered s unheard s.begun tt so so
step_offered s OnServer Roomless is so = made_offered s roomless s.begun tt so so
step_offered s OnServer Took is so = so
step_offered s (Kept answer) (Stored asked) is so = so
step_offered s (Kept answer) (CarriedOut word) is so = so
step_offered s (Kept answer) (Sought came) is so = so
step_offered s (Kept answer) (Consented agrees) is so = so
step_offered s (Kept answer) KeyTold is so = so
step_offered s (Kept answer) Shut is so = so
step_offered s (Kept answer) (Heard bytes) is so = so
step_offered s (Kept answer) Unheard is so = so
step_offered s (Kept answer) Roomless is so = so
step_offered s (Kept answer) Took is so = so

talk_offered : (calls : List Call) → AreTalked calls → MovesOffered (standing calls).begun
talk_offered [] are = tt
talk_offered (call ∷ calls) are = step_offered (standing calls) (standing calls).phase call are.0 (talk_offered calls are.1)

-- ---- what is met fits

one_fits : (move : Move) → IsMet move → IsOffered move → FitsMove move
one_fits (found key password) met is = (met.user.short, met.dom.short)
one_fits (offered list) met is = is
one_fits (give bytes) met is = tt
one_fits get met is = tt
one_fits (heard bytes) met is = tt
one_fits unheard met is = tt
one_fits roomless met is = tt
one_fits undone met is = tt
one_fits (picked place) met is = tt

all_fit : (moves : List Move) → AreMet moves → AreOffered moves → FitMoves moves
all_fit [] met are = tt
all_fit (move ∷ moves) met are = (one_fits move met.0 are.0, all_fit moves met.1 are.1)

pub moves_fit : (h : History) (conv : ℕ) (b : Begun) → (standing_of (deeds h) conv).begun ≡ Some b → FitMoves b.moves
moves_fit h conv b is = all_fit b.moves (told_ring_keys h conv b is) (subst MovesOffered is (talk_offered (talk (deeds h) conv) (talked (deeds h) (all_searched h) conv)))
