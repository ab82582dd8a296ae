-- Each key that a conversation is told is such as a ring has.
use Rattle.std.proofs.Common.{ℕ, List, [], ◌∷◌, Bool, true, false, cond, eqb, not, Option, Some, None, sym, subst}
use Rattle.std.specs.Prelude.{find}
use Rattle.std.specs.List.{filter}
use Rattle.attr_tuples.specs.declared.attr.Attr.{Attr}
use Rattle.key_lists.specs.Lists.{KeyEntry, KeyList, serves}
use Rattle.key_lists.specs.CtlLines.{few_of}
use Rattle.roles.specs.declared.answer.StartFault.{StartFault}
use Rattle.roles.specs.declared.need.Need.{Need}
use Rattle.roles.specs.declared.need.Need.TheVariants.{Nothing, Key, Offers, Pick, Exchange}
use Rattle.roles.specs.Talks.{Call as Move, heard, offered, picked, roomless, unheard}
use Rattle.talks.specs.Protocols.{refuses}
use Rattle.talks.specs.Requests.{RpcRequest}
use Rattle.talks.specs.Requests as rpc
use Rattle.talks.specs.declared.said.Said.{Said}
use Rattle.talks.specs.declared.said.Asking.{Asking}
use Rattle.talks.specs.Calls.{Call, Found, Chosen, AsksConsent, AsksKey, Denied, NoneServes, Offered, Picked, Stored, CarriedOut, Sought, Consented, KeyTold, Shut, Heard, Unheard, Roomless, Took}
use Rattle.talks.specs.Searches.{first_left, found_at, found_by, is_denied, is_passed_over, serving}
use Rattle.talks.specs.Standings.{Begun, Phase, Resting, Waiting, Seeking, OnConfirm, OnNeedkey, OnServer, Kept, Standing, begin_once, carried_out, finds, found_for, if_begun, is_for, made, need_in, role_name, sought, sought_if, standing, start_by, started, taken_back, then_stands, with_key}
use Rattle.agent_history.specs.Deeds.{Deed, OfFids, OfKeys, OfReplies, OfConnection, OfTalk, Raised, HandedOut, OfPrompts, OfLog, DropTaken, Swept, Halted, keys_of}
use Rattle.agent_history.specs.Conversations.{asking, standing_of, talk}
use Rattle.agent_history.specs.Histories.{deeds}
use Rattle.agent_laws.specs.Laws.{AllSearched}
use Rattle.agent_laws.proofs.ConversationLaws.{all_searched}
use Rattle.wire_histories.specs.Legal.{IsMet}
use Rattle.driven_agents.specs.Keys.{AreKeys, AreMet, IsKey, ToldRingKeys}
use Rattle.driven_agents.proofs.KeyFits.{ring_key}
use Rattle.driven_agents.proofs.KeyLaws.{AllKeyed, all_keyed}

-- ---- what a search finds

abbrev IsFound : Found → Type 0
IsFound (Chosen key) = IsKey key.tuple
IsFound (AsksConsent key) = Unit {0}
IsFound AsksKey = Unit {0}
IsFound Denied = Unit {0}
IsFound NoneServes = Unit {0}
IsFound (Offered list) = Unit {0}
IsFound (Picked place) = Unit {0}

kept : (test : KeyEntry → Bool) (keys : List KeyEntry) → AreKeys keys → AreKeys (filter test keys)
kept test [] are = tt
kept test (key ∷ keys) are = by_test (test key) (filter test keys) (are.0, kept test keys are.1)
  where
    by_test : (b : Bool) (rest : List KeyEntry) → IsKey key.tuple × AreKeys rest → AreKeys (cond b (key ∷ rest) rest)
    by_test true rest both = both
    by_test false rest both = both.1

abbrev OneIs : Option KeyEntry → Type 0
OneIs None = Unit {0}
OneIs (Some key) = IsKey key.tuple

first_is : (test : KeyEntry → Bool) (keys : List KeyEntry) → AreKeys keys → OneIs (find test keys)
first_is test [] are = tt
first_is test (key ∷ keys) are = by_test (test key) (find test keys) (first_is test keys are.1)
  where
    by_test : (b : Bool) (o : Option KeyEntry) → OneIs o → OneIs (cond b (Some key) o)
    by_test true o so = are.0
    by_test false o so = so

either : (b : Bool) (one other : Found) → IsFound one → IsFound other → IsFound (cond b one other)
either true one other p q = p
either false one other p q = q

at_found : (said : Said) (asks : Asking) (keys : List KeyEntry) (o : Option KeyEntry) → OneIs o → IsFound (found_at said asks keys o)
at_found said asks keys (Some key) is = either _ (AsksConsent key) (Chosen key) tt is
at_found said asks keys None is = either (is_denied said asks keys) Denied _ tt (either _ AsksKey NoneServes tt tt)

by_found : (template : List Attr) (role : List ℕ) (said : Said) (asks : Asking) (list : KeyList) → AreKeys list.keys → IsFound (found_by template role said asks list)
unfolding found_by
by_found template role said asks list are =
    let keys = serving template role list in
    at_found said asks keys (first_left said asks keys) (first_is (λ key. not (is_passed_over said asks key)) keys (kept (serves template role) list.keys are))

for_found : (need : Need) (role : List ℕ) (said : Said) (asks : Asking) (list : KeyList) → AreKeys list.keys → IsFound (found_for need role said asks list)
for_found (Key template) role said asks list are = by_found template role said asks list are
for_found (Offers template) role said asks list are = tt
for_found (Pick templates) role said asks list are = tt
for_found (Exchange request shape) role said asks list are = tt
for_found Nothing role said asks list are = tt

finds_found : (s : Standing) (asks : Asking) (list : KeyList) → AreKeys list.keys → IsFound (finds s asks list)
unfolding finds
finds_found s asks list are = for_found (need_in s.begun) (role_name s.begun) s.said asks list are

-- ---- talks

abbrev IsTalked : Call → Type 0
IsTalked (Sought found) = IsFound found
IsTalked call = Unit {0}

abbrev AreTalked : List Call → Type 0
AreTalked [] = Unit {0}
AreTalked (call ∷ calls) = IsTalked call × AreTalked calls

own : (b : Bool) (call : Call) (calls : List Call) → IsTalked call → AreTalked calls → AreTalked (cond b (call ∷ calls) calls)
own true call calls is are = (is, are)
own false call calls is are = are

talked : (done : List Deed) → AllSearched done → AllKeyed done → (conv : ℕ) → AreTalked (talk done conv)
talked [] searched keyed conv = tt
talked (OfTalk at (Sought found) ∷ done) searched keyed conv = own (eqb at conv) (Sought found) (talk done conv) (subst IsFound (sym searched.0) (finds_found (standing_of done at) (asking done) (keys_of done) keyed.0)) (talked done searched.1 keyed.1 conv)
talked (OfTalk at (Stored request) ∷ done) searched keyed conv = own (eqb at conv) (Stored request) (talk done conv) tt (talked done searched keyed.1 conv)
talked (OfTalk at (CarriedOut word) ∷ done) searched keyed conv = own (eqb at conv) (CarriedOut word) (talk done conv) tt (talked done searched keyed.1 conv)
talked (OfTalk at (Consented agrees) ∷ done) searched keyed conv = own (eqb at conv) (Consented agrees) (talk done conv) tt (talked done searched keyed.1 conv)
talked (OfTalk at KeyTold ∷ done) searched keyed conv = own (eqb at conv) KeyTold (talk done conv) tt (talked done searched keyed.1 conv)
talked (OfTalk at Shut ∷ done) searched keyed conv = own (eqb at conv) Shut (talk done conv) tt (talked done searched keyed.1 conv)
talked (OfTalk at (Heard bytes) ∷ done) searched keyed conv = own (eqb at conv) (Heard bytes) (talk done conv) tt (talked done searched keyed.1 conv)
talked (OfTalk at Unheard ∷ done) searched keyed conv = own (eqb at conv) Unheard (talk done conv) tt (talked done searched keyed.1 conv)
talked (OfTalk at Roomless ∷ done) searched keyed conv = own (eqb at conv) Roomless (talk done conv) tt (talked done searched keyed.1 conv)
talked (OfTalk at Took ∷ done) searched keyed conv = own (eqb at conv) Took (talk done conv) tt (talked done searched keyed.1 conv)
talked (OfFids at deed ∷ done) searched keyed conv = talked done searched keyed.1 conv
talked (OfKeys at deed ∷ done) searched keyed conv = talked done searched keyed.1 conv
talked (OfReplies at deed ∷ done) searched keyed conv = talked done searched keyed.1 conv
talked (OfConnection at deed ∷ done) searched keyed conv = talked done searched keyed.1 conv
talked (OfPrompts kind call ∷ done) searched keyed conv = talked done searched keyed.1 conv
talked (OfLog call ∷ done) searched keyed conv = talked done searched keyed.1 conv
talked (Raised other ∷ done) searched keyed conv = talked done searched keyed.1 conv
talked (HandedOut ∷ done) searched keyed conv = talked done searched keyed.1 conv
talked (DropTaken ∷ done) searched keyed conv = talked done searched keyed.1 conv
talked (Swept ∷ done) searched keyed conv = talked done searched keyed.1 conv
talked (Halted ∷ done) searched keyed conv = talked done searched keyed.1 conv

-- ---- what is met

abbrev MovesMet : Option Begun → Type 0
MovesMet None = Unit {0}
MovesMet (Some b) = AreMet b.moves

by_refusal : (s : Standing) (word : List ℕ) (t : List Attr) (fault : Option StartFault) → MovesMet s.begun → MovesMet (started s word t fault).begun
by_refusal s word t (Some fault) so = so
by_refusal s word t None so = tt

by_text : (s : Standing) (word : List ℕ) (o : Option (List Attr)) → MovesMet s.begun → MovesMet (start_by s word o).begun
by_text s word None so = so
by_text s word (Some t) so = by_refusal s word t (refuses t) so

once : (s : Standing) (word text : List ℕ) (o : Option Begun) → MovesMet s.begun → MovesMet (begin_once s word text o).begun
once s word text None so = by_text s word (few_of text) so
once s word text (Some b) so = so

moved_met : (s : Standing) (o : Option Begun) (next : Begun → Standing) → ((b : Begun) → AreMet b.moves → MovesMet (next b).begun) → MovesMet s.begun → MovesMet o → MovesMet (if_begun s o next).begun
moved_met s None next goes so mine = so
moved_met s (Some b) next goes so mine = goes b mine

carried_met : (s : Standing) (word : List ℕ) (request : RpcRequest) → MovesMet s.begun → MovesMet (carried_out s word request).begun
carried_met s word (rpc.starts text) so = once s word text s.begun so
carried_met s word rpc.reads so = moved_met s s.begun _ (λ b mine. (tt, mine)) so so
carried_met s word (rpc.writes m) so = moved_met s s.begun _ (λ b mine. (tt, mine)) so so
carried_met s word rpc.asks_info so = so
carried_met s word rpc.asks_attributes so = moved_met s s.begun _ (λ b mine. so) so so

made_met : (s : Standing) (move : Move) (begun : Option Begun) → IsMet move → MovesMet s.begun → MovesMet begun → MovesMet (made s move begun).begun
made_met s move None is so mine = so
made_met s move (Some b) is so mine = (is, mine)

key_met : (s : Standing) (key : KeyEntry) (begun : Option Begun) → IsKey key.tuple → MovesMet s.begun → MovesMet begun → MovesMet (with_key s key begun).begun
key_met s key None is so mine = so
key_met s key (Some b) is so mine = (ring_key key is, mine)

back_met : (starting : Bool) (begun : Option Begun) → MovesMet begun → MovesMet (taken_back starting begun)
back_met true None so = tt
back_met false None so = tt
back_met true (Some b) so = tt
back_met false (Some b) so = (tt, so)

sought_met : (s : Standing) (came : Found) → IsFound came → MovesMet s.begun → MovesMet (sought s came).begun
sought_met s (Chosen key) is so = key_met s key s.begun is so so
sought_met s (AsksConsent key) is so = so
sought_met s AsksKey is so = so
sought_met s Denied is so = back_met s.starting s.begun so
sought_met s NoneServes is so = back_met s.starting s.begun so
sought_met s (Offered list) is so = made_met s (offered list) s.begun tt so so
sought_met s (Picked place) is so = made_met s (picked place) s.begun tt so so

found_met : (b : Bool) (s : Standing) (came : Found) → IsFound came → MovesMet s.begun → MovesMet (sought_if b s came).begun
found_met true s came is so = sought_met s came is so
found_met false s came is so = so

step_met : (s : Standing) (phase : Phase) (call : Call) → IsTalked call → MovesMet s.begun → MovesMet (then_stands s phase call).begun
step_met s Resting (Stored asked) is so = so
step_met s Resting (CarriedOut word) is so = so
step_met s Resting (Sought came) is so = so
step_met s Resting (Consented agrees) is so = so
step_met s Resting KeyTold is so = so
step_met s Resting Shut is so = so
step_met s Resting (Heard bytes) is so = so
step_met s Resting Unheard is so = so
step_met s Resting Roomless is so = so
step_met s Resting Took is so = so
step_met s (Waiting request) (Stored asked) is so = so
step_met s (Waiting request) (CarriedOut word) is so = carried_met s word request so
step_met s (Waiting request) (Sought came) is so = so
step_met s (Waiting request) (Consented agrees) is so = so
step_met s (Waiting request) KeyTold is so = so
step_met s (Waiting request) Shut is so = so
step_met s (Waiting request) (Heard bytes) is so = so
step_met s (Waiting request) Unheard is so = so
step_met s (Waiting request) Roomless is so = so
step_met s (Waiting request) Took is so = so
step_met s Seeking (Stored asked) is so = so
step_met s Seeking (CarriedOut word) is so = so
step_met s Seeking (Sought came) is so = found_met (is_for (need_in s.begun) came) s came is so
step_met s Seeking (Consented agrees) is so = so
step_met s Seeking KeyTold is so = so
step_met s Seeking Shut is so = so
step_met s Seeking (Heard bytes) is so = so
step_met s Seeking Unheard is so = so
step_met s Seeking Roomless is so = so
step_met s Seeking Took is so = so
step_met s (OnConfirm serial) (Stored asked) is so = so
step_met s (OnConfirm serial) (CarriedOut word) is so = so
step_met s (OnConfirm serial) (Sought came) is so = so
step_met s (OnConfirm serial) (Consented agrees) is so = so
step_met s (OnConfirm serial) KeyTold is so = so
step_met s (OnConfirm serial) Shut is so = back_met s.starting s.begun so
step_met s (OnConfirm serial) (Heard bytes) is so = so
step_met s (OnConfirm serial) Unheard is so = so
step_met s (OnConfirm serial) Roomless is so = so
step_met s (OnConfirm serial) Took is so = so
step_met s OnNeedkey (Stored asked) is so = so
step_met s OnNeedkey (CarriedOut word) is so = so
step_met s OnNeedkey (Sought came) is so = so
step_met s OnNeedkey (Consented agrees) is so = so
step_met s OnNeedkey KeyTold is so = so
step_met s OnNeedkey Shut is so = back_met s.starting s.begun so
step_met s OnNeedkey (Heard bytes) is so = so
step_met s OnNeedkey Unheard is so = so
step_met s OnNeedkey Roomless is so = so
step_met s OnNeedkey Took is so = so
step_met s OnServer (Stored asked) is so = so
step_met s OnServer (CarriedOut word) is so = so
step_met s OnServer (Sought came) is so = so
step_met s OnServer (Consented agrees) is so = so
step_met s OnServer KeyTold is so = so
step_met s OnServer Shut is so = so
step_met s OnServer (Heard bytes) is so = made_met s (heard bytes) s.begun tt so so
step_met s OnServer Unheard is so = made_met s unheard s.begun tt so so
step_met s OnServer Roomless is so = made_met s roomless s.begun tt so so
step_met s OnServer Took is so = so
step_met s (Kept answer) (Stored asked) is so = so
step_met s (Kept answer) (CarriedOut word) is so = so
step_met s (Kept answer) (Sought came) is so = so
step_met s (Kept answer) (Consented agrees) is so = so
step_met s (Kept answer) KeyTold is so = so
step_met s (Kept answer) Shut is so = so
step_met s (Kept answer) (Heard bytes) is so = so
step_met s (Kept answer) Unheard is so = so
step_met s (Kept answer) Roomless is so = so
step_met s (Kept answer) Took is so = so

talk_met : (calls : List Call) → AreTalked calls → MovesMet (standing calls).begun
talk_met [] are = tt
talk_met (call ∷ calls) are = step_met (standing calls) (standing calls).phase call are.0 (talk_met calls are.1)

pub told_ring_keys : ToldRingKeys
told_ring_keys history conv b is = subst MovesMet is (talk_met (talk (deeds history) conv) (talked (deeds history) (all_searched history) (all_keyed history).all conv))
