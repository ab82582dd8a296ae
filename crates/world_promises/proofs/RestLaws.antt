-- What a conversation needs by its phase: where it rests, or has a request or an answer, nothing; where it searches, something that
-- is found; where it asked the authentication server, its answer.
use Rattle.std.proofs.Common.{◌≡◌, ℕ, List, [], ◌∷◌, Bool, true, false, Option, Some, None, refl, sym, ap, subst, ◌∙◌}
use Rattle.attr_tuples.specs.declared.attr.Attr.{Attr}
use Rattle.key_lists.specs.Lists.{KeyEntry}
use Rattle.key_lists.specs.CtlLines.{few_of}
use Rattle.roles.specs.declared.answer.StartFault.{StartFault}
use Rattle.roles.specs.declared.need.Need.{Need}
use Rattle.roles.specs.declared.need.Need.TheVariants.{Nothing, Key, Offers, Pick, Exchange}
use Rattle.roles.specs.Answers.{is_sought}
use Rattle.roles.specs.Talks.{Call as Move, get, give, heard, offered, picked, roomless, undone, unheard}
use Rattle.talks.specs.Requests.{RpcRequest}
use Rattle.talks.specs.Requests as rpc
use Rattle.talks.specs.declared.answer.RpcAnswer.{RpcAnswer}
use Rattle.talks.specs.declared.answer.RpcAnswer.TheVariants as a
use Rattle.talks.specs.Protocols.{answers, needs, puts, refuses}
use Rattle.talks.specs.Answers.{attributes, move_answer}
use Rattle.talks.specs.Calls.{Call, Found, Chosen, AsksConsent, AsksKey, Denied, NoneServes, Offered, Picked, Stored, CarriedOut, Sought, Consented, KeyTold, Shut, Heard, Unheard, Roomless, Took}
use Rattle.talks.specs.Standings.{Begun, Phase, Resting, Waiting, Seeking, OnConfirm, OnNeedkey, OnServer, Kept, Standing, answered, begin, begin_once, carried_out, chosen_for, if_begun, is_for, made, make_move, moved, need_in, phase_after, sought, sought_if, standing, start_by, started, taken_back, then_stands, told_of_key, with_key, with_move}
use Rattle.wire_histories.specs.Conversations.{is_asked, meets}
use Rattle.world_promises.proofs.AllRoles.{all_roles}
use Rattle.world_promises.proofs.SearchSteps.{chosen_meets, offers_meet, pick_meets}
use Rattle.world_promises.proofs.RoomlessLaws.{roomless_rests}

-- a write came last, before which nothing was needed
pub record GaveLast (b : Begun) : Type 0 where
  pub bytes : List ℕ
  pub earlier : List Move
  pub is : b.moves ≡ give bytes ∷ earlier
  pub none : needs b.start earlier ≡ Nothing

-- a request that searches is a start, or such a write
abbrev pub Behind : Bool → Option Begun → Type 0
Behind true begun = Unit {0}
Behind false None = Unit {0}
Behind false (Some b) = GaveLast b

abbrev pub Fit : Phase → Bool → Option Begun → Type 0
Fit OnServer starting begun = is_asked (need_in begun) ≡ true
Fit Seeking starting begun = (is_sought (need_in begun) ≡ true) × Behind starting begun
Fit (OnConfirm serial) starting begun = (is_sought (need_in begun) ≡ true) × Behind starting begun
Fit OnNeedkey starting begun = (is_sought (need_in begun) ≡ true) × Behind starting begun
Fit phase starting begun = need_in begun ≡ Nothing

abbrev pub Fits : Standing → Type 0
Fits s = Fit s.phase s.starting s.begun

-- ---- moves

not_sought : {A : Type 0} (n : Need) → n ≡ Nothing → is_sought n ≡ true → A
not_sought n none is = absurd (let no_way : true ≡ false = sym is ∙ ap is_sought none in cc)

fit_by : (n : Need) (starting : Bool) (b : Begun) (answer : RpcAnswer) → needs b.start b.moves ≡ n → (is_sought n ≡ true → Behind starting (Some b)) → Fit (phase_after n answer) starting (Some b)
fit_by Nothing starting b answer e more = e
fit_by (Key template) starting b answer e more = (ap is_sought e, more refl)
fit_by (Offers template) starting b answer e more = (ap is_sought e, more refl)
fit_by (Pick templates) starting b answer e more = (ap is_sought e, more refl)
fit_by (Exchange request shape) starting b answer e more = ap is_asked e

moved_fit : (s : Standing) (b : Begun) (answer : RpcAnswer) → (is_sought (needs b.start b.moves) ≡ true → Behind s.starting (Some b)) → Fits (moved s b answer)
moved_fit s b answer more = fit_by (needs b.start b.moves) s.starting b answer refl more

given_behind : (starting : Bool) (b : Begun) (bytes : List ℕ) → needs b.start b.moves ≡ Nothing → Behind starting (Some (with_move b (give bytes)))
given_behind true b bytes none = tt
given_behind false b bytes none = record { bytes = bytes; earlier = b.moves; is = refl; none = none }

-- ---- requests

started_fit : (s : Standing) (word : List ℕ) (template : List Attr) (fault : Option StartFault) → need_in s.begun ≡ Nothing → Fits (started s word template fault)
started_fit s word template (Some fault) none = none
started_fit s word template None none = moved_fit (record { begun = s.begun; phase = s.phase; starting = true; said = s.said }) (begin template word) a.Ok (λ is. tt)

start_fit : (s : Standing) (word : List ℕ) (template : Option (List Attr)) → need_in s.begun ≡ Nothing → Fits (start_by s word template)
start_fit s word None none = none
start_fit s word (Some template) none = started_fit s word template (refuses template) none

once_fit : (s : Standing) (word text : List ℕ) (begun : Option Begun) → need_in s.begun ≡ Nothing → Fits (begin_once s word text begun)
once_fit s word text (Some b) none = none
once_fit s word text None none = start_fit s word (few_of text) none

got_fit : (s : Standing) (o : Option Begun) → need_in s.begun ≡ Nothing → need_in o ≡ Nothing → Fits (if_begun s o (λ b. make_move s b get (a.Got (puts b.start b.moves get))))
got_fit s None none mine = none
got_fit s (Some b) none mine = moved_fit s (with_move b get) (move_answer (a.Got (puts b.start b.moves get)) b.key (answers b.start b.moves get)) (not_sought (needs b.start (get ∷ b.moves)) ((all_roles b.start).got b.moves mine))

given_fit : (s : Standing) (bytes : List ℕ) (o : Option Begun) → need_in s.begun ≡ Nothing → need_in o ≡ Nothing → Fits (if_begun s o (λ b. make_move s b (give bytes) a.Ok))
given_fit s bytes None none mine = none
given_fit s bytes (Some b) none mine = moved_fit s (with_move b (give bytes)) (move_answer a.Ok b.key (answers b.start b.moves (give bytes))) (λ is. given_behind s.starting b bytes mine)

attributes_fit : (s : Standing) (o : Option Begun) → need_in s.begun ≡ Nothing → Fits (if_begun s o (λ b. answered s (a.Attributes (attributes b.start.template b.key))))
attributes_fit s None none = none
attributes_fit s (Some b) none = none

carried_fit : (s : Standing) (word : List ℕ) (request : RpcRequest) → need_in s.begun ≡ Nothing → Fits (carried_out s word request)
carried_fit s word (rpc.starts text) none = once_fit s word text s.begun none
carried_fit s word rpc.reads none = got_fit s s.begun none none
carried_fit s word (rpc.writes message) none = given_fit s message s.begun none none
carried_fit s word rpc.asks_info none = none
carried_fit s word rpc.asks_attributes none = attributes_fit s s.begun none

-- ---- searches

-- behind what is found for a write nothing is searched for
found_rests : (starting : Bool) (b : Begun) (call : Move) → Behind starting (Some b) → meets (needs b.start b.moves) call ≡ true → is_sought (needs b.start (call ∷ b.moves)) ≡ true → Behind starting (Some (with_move b call))
found_rests true b call behind is sought = tt
found_rests false b call g is sought =
    let none = (all_roles b.start).one g.earlier g.bytes call g.none (subst (λ m. meets (needs b.start m) call ≡ true) g.is is) in
    absurd (let no_way : true ≡ false = sym sought ∙ (ap (λ m. is_sought (needs b.start (call ∷ m))) g.is ∙ none) in cc)

-- the same with the key that was chosen
keyed : (starting : Bool) (b : Begun) (key : KeyEntry) → Behind starting (Some (with_move b (told_of_key key))) → Behind starting (Some (chosen_for key b))
keyed true b key behind = tt
keyed false b key g = record { bytes = g.bytes; earlier = g.earlier; is = g.is; none = g.none }

chosen_fit : (s : Standing) (key : KeyEntry) (o : Option Begun) → Fits s → Behind s.starting o → is_for (need_in o) (Chosen key) ≡ true → Fits (with_key s key o)
chosen_fit s key None so behind is = so
chosen_fit s key (Some b) so behind is =
    moved_fit s (chosen_for key b) (move_answer a.Ok (Some key) (answers b.start b.moves (told_of_key key)))
    (λ sought. keyed s.starting b key (found_rests s.starting b (told_of_key key) behind (chosen_meets (needs b.start b.moves) key (told_of_key key) is (λ template. refl)) sought))

made_fit : (s : Standing) (call : Move) (o : Option Begun) → Fits s → Behind s.starting o → meets (need_in o) call ≡ true → Fits (made s call o)
made_fit s call None so behind is = so
made_fit s call (Some b) so behind is = moved_fit s (with_move b call) (move_answer a.Ok b.key (answers b.start b.moves call)) (λ sought. found_rests s.starting b call behind is sought)

back_fit : (starting : Bool) (o : Option Begun) → is_sought (need_in o) ≡ true → Behind starting o → need_in (taken_back starting o) ≡ Nothing
back_fit true None sought behind = refl
back_fit false None sought behind = refl
back_fit true (Some b) sought behind = refl
back_fit false (Some b) sought g =
    ap (λ m. needs b.start (undone ∷ m)) g.is ∙ (all_roles b.start).undoes g.earlier g.bytes g.none (subst (λ m. is_sought (needs b.start m) ≡ true) g.is sought)

sought_fit : (s : Standing) (came : Found) → Fits s → (is_sought (need_in s.begun) ≡ true) × Behind s.starting s.begun → is_for (need_in s.begun) came ≡ true → Fits (sought s came)
sought_fit s (Chosen key) so q is = chosen_fit s key s.begun so q.1 is
sought_fit s (AsksConsent key) so q is = q
sought_fit s AsksKey so q is = q
sought_fit s Denied so q is = back_fit s.starting s.begun q.0 q.1
sought_fit s NoneServes so q is = back_fit s.starting s.begun q.0 q.1
sought_fit s (Offered list) so q is = made_fit s (offered list) s.begun so q.1 (offers_meet (need_in s.begun) list is)
sought_fit s (Picked place) so q is = made_fit s (picked place) s.begun so q.1 (pick_meets (need_in s.begun) place is)

found_fit : (b : Bool) (s : Standing) (came : Found) → is_for (need_in s.begun) came ≡ b → Fits s → (is_sought (need_in s.begun) ≡ true) × Behind s.starting s.begun → Fits (sought_if b s came)
found_fit true s came is so q = sought_fit s came so q is
found_fit false s came is so q = so

-- ---- answers of the authentication server

server_fit : (s : Standing) (call : Move) (o : Option Begun) → Fits s → is_asked (need_in o) ≡ true → ((b : Begun) → is_asked (needs b.start b.moves) ≡ true → needs b.start (call ∷ b.moves) ≡ Nothing) → Fits (made s call o)
server_fit s call None so asked rests = so
server_fit s call (Some b) so asked rests = moved_fit s (with_move b call) (move_answer a.Ok b.key (answers b.start b.moves call)) (not_sought (needs b.start (call ∷ b.moves)) (rests b asked))

-- ---- talks

step_fit : (s : Standing) (phase : Phase) (call : Call) → Fits s → Fit phase s.starting s.begun → Fits (then_stands s phase call)
step_fit s Resting (Stored asked) p q = q
step_fit s Resting (CarriedOut word) p q = p
step_fit s Resting (Sought came) p q = p
step_fit s Resting (Consented agrees) p q = p
step_fit s Resting KeyTold p q = p
step_fit s Resting Shut p q = p
step_fit s Resting (Heard bytes) p q = p
step_fit s Resting Unheard p q = p
step_fit s Resting Roomless p q = p
step_fit s Resting Took p q = p
step_fit s (Waiting request) (Stored asked) p q = p
step_fit s (Waiting request) (CarriedOut word) p q = carried_fit s word request q
step_fit s (Waiting request) (Sought came) p q = p
step_fit s (Waiting request) (Consented agrees) p q = p
step_fit s (Waiting request) KeyTold p q = p
step_fit s (Waiting request) Shut p q = p
step_fit s (Waiting request) (Heard bytes) p q = p
step_fit s (Waiting request) Unheard p q = p
step_fit s (Waiting request) Roomless p q = p
step_fit s (Waiting request) Took p q = p
step_fit s Seeking (Stored asked) p q = p
step_fit s Seeking (CarriedOut word) p q = p
step_fit s Seeking (Sought came) p q = found_fit (is_for (need_in s.begun) came) s came refl p q
step_fit s Seeking (Consented agrees) p q = p
step_fit s Seeking KeyTold p q = p
step_fit s Seeking Shut p q = p
step_fit s Seeking (Heard bytes) p q = p
step_fit s Seeking Unheard p q = p
step_fit s Seeking Roomless p q = p
step_fit s Seeking Took p q = p
step_fit s (OnConfirm serial) (Stored asked) p q = p
step_fit s (OnConfirm serial) (CarriedOut word) p q = p
step_fit s (OnConfirm serial) (Sought came) p q = p
step_fit s (OnConfirm serial) (Consented agrees) p q = q
step_fit s (OnConfirm serial) KeyTold p q = p
step_fit s (OnConfirm serial) Shut p q = back_fit s.starting s.begun q.0 q.1
step_fit s (OnConfirm serial) (Heard bytes) p q = p
step_fit s (OnConfirm serial) Unheard p q = p
step_fit s (OnConfirm serial) Roomless p q = p
step_fit s (OnConfirm serial) Took p q = p
step_fit s OnNeedkey (Stored asked) p q = p
step_fit s OnNeedkey (CarriedOut word) p q = p
step_fit s OnNeedkey (Sought came) p q = p
step_fit s OnNeedkey (Consented agrees) p q = p
step_fit s OnNeedkey KeyTold p q = q
step_fit s OnNeedkey Shut p q = back_fit s.starting s.begun q.0 q.1
step_fit s OnNeedkey (Heard bytes) p q = p
step_fit s OnNeedkey Unheard p q = p
step_fit s OnNeedkey Roomless p q = p
step_fit s OnNeedkey Took p q = p
step_fit s OnServer (Stored asked) p q = p
step_fit s OnServer (CarriedOut word) p q = p
step_fit s OnServer (Sought came) p q = p
step_fit s OnServer (Consented agrees) p q = p
step_fit s OnServer KeyTold p q = p
step_fit s OnServer Shut p q = p
step_fit s OnServer (Heard bytes) p q = server_fit s (heard bytes) s.begun p q (λ b asked. (all_roles b.start).answered b.moves bytes asked)
step_fit s OnServer Unheard p q = server_fit s unheard s.begun p q (λ b asked. (all_roles b.start).unanswered b.moves asked)
step_fit s OnServer Roomless p q = server_fit s roomless s.begun p q (λ b asked. roomless_rests b.start b.moves asked)
step_fit s OnServer Took p q = p
step_fit s (Kept answer) (Stored asked) p q = p
step_fit s (Kept answer) (CarriedOut word) p q = p
step_fit s (Kept answer) (Sought came) p q = p
step_fit s (Kept answer) (Consented agrees) p q = p
step_fit s (Kept answer) KeyTold p q = p
step_fit s (Kept answer) Shut p q = p
step_fit s (Kept answer) (Heard bytes) p q = p
step_fit s (Kept answer) Unheard p q = p
step_fit s (Kept answer) Roomless p q = p
step_fit s (Kept answer) Took p q = q

talk_fit : (t : List Call) → Fits (standing t)
talk_fit [] = refl
talk_fit (call ∷ t) = step_fit (standing t) (standing t).phase call (talk_fit t) (talk_fit t)

-- what is searched for is needed
pub seeks_need : (t : List Call) → (standing t).phase ≡ Seeking → is_sought (need_in (standing t).begun) ≡ true
seeks_need t e = (subst (λ p. Fit p (standing t).starting (standing t).begun) e (talk_fit t)).0

-- and behind a write that needs it, or by a start
pub seeks_behind : (t : List Call) → (standing t).phase ≡ Seeking → Behind (standing t).starting (standing t).begun
seeks_behind t e = (subst (λ p. Fit p (standing t).starting (standing t).begun) e (talk_fit t)).1

-- a conversation that rests needs nothing
pub rests_need : (t : List Call) → (standing t).phase ≡ Resting → need_in (standing t).begun ≡ Nothing
rests_need t e = subst (λ p. Fit p (standing t).starting (standing t).begun) e (talk_fit t)

-- and one that waits for the authentication server asks
pub server_need : (t : List Call) → (standing t).phase ≡ OnServer → is_asked (need_in (standing t).begun) ≡ true
server_need t e = subst (λ p. Fit p (standing t).starting (standing t).begun) e (talk_fit t)
