-- However a conversation came to a search, so many as follow are enough: a start searches three times at most, another request
-- once.
use Rattle.std.proofs.Common.{◌≡◌, ℕ, suc, if◌then◌else◌, List, [], ◌∷◌, Bool, true, false, Option, Some, None, refl, sym, ap, subst, ◌∙◌, codes, inl, inr}
use Rattle.std.specs.Prelude.{◌⊎◌}
use Rattle.attr_tuples.specs.declared.attr.Attr.{Attr}
use Rattle.attr_tuples.specs.Matching.{value_of}
use Rattle.key_lists.specs.Lists.{KeyEntry, KeyList}
use Rattle.key_lists.specs.CtlLines.{few_of}
use Rattle.roles.specs.declared.answer.StartFault.{StartFault}
use Rattle.roles.specs.declared.need.Need.{Need}
use Rattle.roles.specs.declared.need.Need.TheVariants.{Nothing, Key, Offers, Pick, Exchange}
use Rattle.roles.specs.declared.stage.Role.{Role}
use Rattle.roles.specs.declared.stage.Role.TheVariants.{Client, Server, Speakfor}
use Rattle.roles.specs.Answers.{is_sought}
use Rattle.roles.specs.Courses.{need_unless, then_course}
use Rattle.roles.specs.Starts.{Start, role_of, start_with}
use Rattle.roles.specs.Talks.{Call as Move, Progress, found, get, give, heard, offered, picked, roomless, undone, unheard}
use Rattle.roles.specs.Templates.{asked}
use Rattle.conv_p9any.specs.declared.stage.Stage.TheVariants.{ServerOffers, ServerKey}
use Rattle.conv_p9any.specs.Courses as any
use Rattle.conv_p9any.specs.Talks.{Standing as Far, choosing}
use Rattle.conv_challenge.specs.Starts.{side_of}
use Rattle.talks.specs.Requests.{RpcRequest}
use Rattle.talks.specs.Requests as rpc
use Rattle.talks.specs.declared.answer.RpcAnswer.{RpcAnswer}
use Rattle.talks.specs.declared.answer.RpcAnswer.TheVariants as a
use Rattle.talks.specs.Protocols.{Mail, P9any, P9sk1, Protocol, answers, needs, needs_by, p9sk1, protocol_of, puts, refuses}
use Rattle.talks.specs.Answers.{move_answer}
use Rattle.talks.specs.declared.said.Said.{Said}
use Rattle.talks.specs.declared.said.Asking.{Asking}
use Rattle.talks.specs.Calls.{Call, Found, Chosen, AsksConsent, AsksKey, Denied, NoneServes, Offered, Picked, Stored, CarriedOut, Sought, Consented, KeyTold, Shut, Heard, Unheard, Roomless, Took}
use Rattle.talks.specs.Searches.{found_among, is_denied, offered_by}
use Rattle.talks.specs.Standings.{Begun, Phase, Resting, Waiting, Seeking, OnConfirm, OnNeedkey, OnServer, Kept, Standing, begin, begin_once, carried_out, chosen_for, finds, if_begun, is_for, made, make_move, moved, need_in, phase_after, role_in, sought, sought_if, standing, start_by, started, told_of_key, then_stands, with_key, with_move}
use Rattle.wire_histories.specs.Conversations.{is_asked, meets}
use Rattle.driven_agents.specs.Keys.{AreKeys}
use Rattle.world_promises.proofs.AllRoles.{all_roles}
use Rattle.world_promises.proofs.SearchSteps.{chosen_meets, offers_meet, pick_meets}
use Rattle.world_promises.proofs.SkRole.{first_one}
use Rattle.world_promises.proofs.RoomlessLaws.{roomless_rests}
use Rattle.world_promises.proofs.MetDeeds.{most_searches}
use Rattle.world_promises.proofs.OffersServe.{for_p9sk1, none_serves}
use Rattle.world_promises.proofs.RestLaws.{Behind, GaveLast, seeks_behind, seeks_need, server_need}
use Rattle.world_promises.proofs.SearchDeeds.{Rests, finds_for, is_seeking, rests_so, seeks}
use Rattle.world_promises.proofs.SearchEnds.{finds_key, finds_offers, none_found, once_rests, stood, unsought}
use Rattle.world_promises.proofs.StartNeeds.{Once, asked_proto, mail_by}

-- ---- where a start searches

-- how far a server of p9any is that has its offers to find, or a key
abbrev at_offers : Progress Far
at_offers = record { stage = choosing ServerOffers; broken = None }

abbrev at_key : Progress Far
at_key = record { stage = choosing ServerKey; broken = None }

abbrev step : Start → Progress Far → Move → Progress Far
step start p call = then_course p (any.verdict p9sk1 start p call)

abbrev any_need : Start → Progress Far → Need
any_need start p = need_unless p.broken (any.need_of p9sk1 start p.stage)

record Chooses (start : Start) (moves : List Move) : Type 0 where
  proto : protocol_of start.template ≡ P9any
  far : (any.course p9sk1 start moves ≡ at_offers) ⊎ (any.course p9sk1 start moves ≡ at_key)

-- what meets its need leaves nothing to be searched for; or it is a server of p9any that has its offers to find
abbrev Begins : Start → List Move → Type 0
Begins start moves = Once (needs start) moves ⊎ Chooses start moves

abbrev first : Role → Progress Far
first role = record { stage = choosing (any.first_stage role); broken = None }

any_begins : (start : Start) (role : Role) → role_of start.template ≡ role → protocol_of start.template ≡ P9any → Once (any.need_after p9sk1 start) [] ⊎ Chooses start []
any_begins start Client e p = inl (λ call is. absurd (let no_way : true ≡ false = sym is ∙ ap (λ r. meets (any_need start (first r)) call) e in cc))
any_begins start (Speakfor user) e p = inl (λ call is. absurd (let no_way : true ≡ false = sym is ∙ ap (λ r. meets (any_need start (first r)) call) e in cc))
any_begins start Server e p = inr (record { proto = p; far = inl (ap first e) })

once_by : (p : Protocol) (start : Start) (moves : List Move) → protocol_of start.template ≡ p → Once (needs_by p start) moves → Once (needs start) moves
once_by p start moves e once = subst (λ q. Once (needs_by q start) moves) (sym e) once

any_once : (start : Start) → protocol_of start.template ≡ P9any → Once (any.need_after p9sk1 start) [] ⊎ Chooses start [] → Begins start []
any_once start e (inl once) = inl (once_by P9any start [] e once)
any_once start e (inr c) = inr c

begins_by : (p : Protocol) (start : Start) → protocol_of start.template ≡ p → Begins start []
begins_by P9sk1 start e = inl (once_by P9sk1 start [] e (first_one start))
begins_by P9any start e = any_once start e (any_begins start (role_of start.template) refl e)
begins_by Mail start e = inl (once_by Mail start [] e (λ call is. mail_by start (side_of start.template) call is))

-- ---- a call that meets what is searched for

-- a server of p9any needs its offers, or a key, by a template of p9sk1
record NeedsBy (start : Start) (moves : List Move) : Type 0 where
  more : List Attr
  need : (needs start moves ≡ Offers (for_p9sk1 more)) ⊎ (needs start moves ≡ Key (for_p9sk1 more))

first_template : (start : Start) → (more : List Attr) × (any.asked_first (codes "p9sk1") start ≡ for_p9sk1 more)
first_template start = asked_proto (role_of start.template) start.template (value_of (codes "dom") start.template)

offers_need : (start : Start) (moves : List Move) → protocol_of start.template ≡ P9any → any.course p9sk1 start moves ≡ at_offers → needs start moves ≡ Offers (for_p9sk1 (first_template start).0)
offers_need start moves p far = ap (λ q. needs_by q start moves) p ∙ (ap (any_need start) far ∙ ap Offers (first_template start).1)

key_need : (start : Start) (moves : List Move) → protocol_of start.template ≡ P9any → any.course p9sk1 start moves ≡ at_key → needs start moves ≡ Key (for_p9sk1 (first_template start).0)
key_need start moves p far = ap (λ q. needs_by q start moves) p ∙ (ap (any_need start) far ∙ ap Key (first_template start).1)

-- a key that is found leads back to the offers, none of these to a key
behind_key : (start : Start) (moves : List Move) (key : Move) → protocol_of start.template ≡ P9any → any.course p9sk1 start moves ≡ at_key → step start at_key key ≡ at_offers → Chooses start (key ∷ moves)
behind_key start moves key p far goes = record { proto = p; far = inl (ap (λ q. step start q key) far ∙ goes) }

behind_none : (start : Start) (moves : List Move) → protocol_of start.template ≡ P9any → any.course p9sk1 start moves ≡ at_offers → Chooses start (offered [] ∷ moves)
behind_none start moves p far = record { proto = p; far = inr (ap (λ q. step start q (offered [])) far) }

-- some leave nothing to be searched for
behind_some : (start : Start) (moves : List Move) (b : ℕ) (list : List ℕ) → protocol_of start.template ≡ P9any → any.course p9sk1 start moves ≡ at_offers → is_sought (needs start (offered (b ∷ list) ∷ moves)) ≡ false
behind_some start moves b list p far = ap (λ q. is_sought (needs_by q start (offered (b ∷ list) ∷ moves))) p ∙ ap (λ q. is_sought (any_need start (step start q (offered (b ∷ list))))) far

never : {A : Type 0} → false ≡ true → A
never e = absurd cc

-- where something is searched for again, it is still such a server
goes_on : (start : Start) (moves : List Move) (call : Move) → meets (needs start moves) call ≡ true → Begins start moves → is_sought (needs start (call ∷ moves)) ≡ true → Begins start (call ∷ moves)
goes_on start moves call is (inl once) seeks = never (sym (once call is) ∙ seeks)
goes_on start moves call is (inr c) seeks = by_far call is seeks c.far
  where
    by_far : (call : Move) → meets (needs start moves) call ≡ true → is_sought (needs start (call ∷ moves)) ≡ true → (any.course p9sk1 start moves ≡ at_offers) ⊎ (any.course p9sk1 start moves ≡ at_key) → Begins start (call ∷ moves)
    by_far (found key password) is seeks (inr far) = inr (behind_key start moves (found key password) c.proto far refl)
    by_far (offered []) is seeks (inl far) = inr (behind_none start moves c.proto far)
    by_far (offered (b ∷ list)) is seeks (inl far) = never (sym (behind_some start moves b list c.proto far) ∙ seeks)
    by_far (offered list) is seeks (inr far) = never (sym (ap (λ n. meets n (offered list)) (key_need start moves c.proto far)) ∙ is)
    by_far (found key password) is seeks (inl far) = never (sym (ap (λ n. meets n (found key password)) (offers_need start moves c.proto far)) ∙ is)
    by_far (picked place) is seeks (inl far) = never (sym (ap (λ n. meets n (picked place)) (offers_need start moves c.proto far)) ∙ is)
    by_far (picked place) is seeks (inr far) = never (sym (ap (λ n. meets n (picked place)) (key_need start moves c.proto far)) ∙ is)
    by_far (give b) is seeks (inl far) = never (sym (ap (λ n. meets n (give b)) (offers_need start moves c.proto far)) ∙ is)
    by_far (give b) is seeks (inr far) = never (sym (ap (λ n. meets n (give b)) (key_need start moves c.proto far)) ∙ is)
    by_far get is seeks (inl far) = never (sym (ap (λ n. meets n get) (offers_need start moves c.proto far)) ∙ is)
    by_far get is seeks (inr far) = never (sym (ap (λ n. meets n get) (key_need start moves c.proto far)) ∙ is)
    by_far (heard b) is seeks (inl far) = never (sym (ap (λ n. meets n (heard b)) (offers_need start moves c.proto far)) ∙ is)
    by_far (heard b) is seeks (inr far) = never (sym (ap (λ n. meets n (heard b)) (key_need start moves c.proto far)) ∙ is)
    by_far unheard is seeks (inl far) = never (sym (ap (λ n. meets n unheard) (offers_need start moves c.proto far)) ∙ is)
    by_far unheard is seeks (inr far) = never (sym (ap (λ n. meets n unheard) (key_need start moves c.proto far)) ∙ is)
    by_far roomless is seeks (inl far) = never (sym (ap (λ n. meets n roomless) (offers_need start moves c.proto far)) ∙ is)
    by_far roomless is seeks (inr far) = never (sym (ap (λ n. meets n roomless) (key_need start moves c.proto far)) ∙ is)
    by_far undone is seeks (inl far) = never (sym (ap (λ n. meets n undone) (offers_need start moves c.proto far)) ∙ is)
    by_far undone is seeks (inr far) = never (sym (ap (λ n. meets n undone) (key_need start moves c.proto far)) ∙ is)

-- ---- every talk

-- a start that searches, or whose user is asked
abbrev Starting : Bool → Option Begun → Type 0
Starting true (Some b) = Begins b.start b.moves
Starting true None = Unit {0}
Starting false begun = Unit {0}

abbrev Tried : Phase → Bool → Option Begun → Type 0
Tried (Waiting request) starting begun = starting ≡ false
Tried Seeking starting begun = Starting starting begun
Tried (OnConfirm serial) starting begun = Starting starting begun
Tried OnNeedkey starting begun = Starting starting begun
Tried phase starting begun = Unit {0}

abbrev Tries : Standing → Type 0
Tries s = Tried s.phase s.starting s.begun

-- another request
other_tried : (phase : Phase) (starting : Bool) (begun : Option Begun) → starting ≡ false → Tried phase starting begun
other_tried Resting starting begun e = tt
other_tried (Waiting request) starting begun e = e
other_tried Seeking starting begun e = subst (λ b. Starting b begun) (sym e) tt
other_tried (OnConfirm serial) starting begun e = subst (λ b. Starting b begun) (sym e) tt
other_tried OnNeedkey starting begun e = subst (λ b. Starting b begun) (sym e) tt
other_tried OnServer starting begun e = tt
other_tried (Kept answer) starting begun e = tt

tried_by : (n : Need) (starting : Bool) (b : Begun) (answer : RpcAnswer) → (is_sought n ≡ true → Starting starting (Some b)) → Tried (phase_after n answer) starting (Some b)
tried_by Nothing starting b answer more = tt
tried_by (Key template) starting b answer more = more refl
tried_by (Offers template) starting b answer more = more refl
tried_by (Pick templates) starting b answer more = more refl
tried_by (Exchange request shape) starting b answer more = tt

moved_tried : (s : Standing) (b : Begun) (answer : RpcAnswer) → (is_sought (needs b.start b.moves) ≡ true → Starting s.starting (Some b)) → Tries (moved s b answer)
moved_tried s b answer more = tried_by (needs b.start b.moves) s.starting b answer more

-- requests
started_tried : (s : Standing) (word : List ℕ) (template : List Attr) (fault : Option StartFault) → Tries (started s word template fault)
started_tried s word template (Some fault) = tt
started_tried s word template None = moved_tried (record { begun = s.begun; phase = s.phase; starting = true; said = s.said }) (begin template word) a.Ok (λ is. begins_by (protocol_of (start_with template word).template) (start_with template word) refl)

start_tried : (s : Standing) (word : List ℕ) (template : Option (List Attr)) → Tries (start_by s word template)
start_tried s word None = tt
start_tried s word (Some template) = started_tried s word template (refuses template)

once_tried : (s : Standing) (word text : List ℕ) (begun : Option Begun) → Tries (begin_once s word text begun)
once_tried s word text (Some b) = tt
once_tried s word text None = start_tried s word (few_of text)

if_tried : (s : Standing) (o : Option Begun) (next : Begun → Standing) → ((b : Begun) → Tries (next b)) → Tries (if_begun s o next)
if_tried s None next goes = tt
if_tried s (Some b) next goes = goes b

carried_tried : (s : Standing) (word : List ℕ) (request : RpcRequest) → s.starting ≡ false → Tries (carried_out s word request)
carried_tried s word (rpc.starts text) other = once_tried s word text s.begun
carried_tried s word rpc.reads other = if_tried s s.begun _ (λ b. other_tried (make_move s b get (a.Got (puts b.start b.moves get))).phase s.starting (Some (with_move b get)) other)
carried_tried s word (rpc.writes message) other = if_tried s s.begun _ (λ b. other_tried (make_move s b (give message) a.Ok).phase s.starting (Some (with_move b (give message))) other)
carried_tried s word rpc.asks_info other = tt
carried_tried s word rpc.asks_attributes other = if_tried s s.begun _ (λ b. tt)

-- searches
found_on : (starting : Bool) (b : Begun) (call : Move) → Starting starting (Some b) → meets (needs b.start b.moves) call ≡ true → is_sought (needs b.start (call ∷ b.moves)) ≡ true → Starting starting (Some (with_move b call))
found_on true b call so is seeks = goes_on b.start b.moves call is so seeks
found_on false b call so is seeks = tt

keyed : (starting : Bool) (b : Begun) (key : KeyEntry) → Starting starting (Some (with_move b (told_of_key key))) → Starting starting (Some (chosen_for key b))
keyed true b key so = so
keyed false b key so = tt

chosen_tried : (s : Standing) (key : KeyEntry) (o : Option Begun) → Tries s → Starting s.starting o → is_for (need_in o) (Chosen key) ≡ true → Tries (with_key s key o)
chosen_tried s key None so q is = so
chosen_tried s key (Some b) so q is =
    moved_tried s (chosen_for key b) (move_answer a.Ok (Some key) (answers b.start b.moves (told_of_key key)))
    (λ seeks. keyed s.starting b key (found_on s.starting b (told_of_key key) q (chosen_meets (needs b.start b.moves) key (told_of_key key) is (λ template. refl)) seeks))

made_tried : (s : Standing) (call : Move) (o : Option Begun) → Tries s → Starting s.starting o → meets (need_in o) call ≡ true → Tries (made s call o)
made_tried s call None so q is = so
made_tried s call (Some b) so q is = moved_tried s (with_move b call) (move_answer a.Ok b.key (answers b.start b.moves call)) (λ seeks. found_on s.starting b call q is seeks)

sought_tried : (s : Standing) (came : Found) → Tries s → Starting s.starting s.begun → is_for (need_in s.begun) came ≡ true → Tries (sought s came)
sought_tried s (Chosen key) so q is = chosen_tried s key s.begun so q is
sought_tried s (AsksConsent key) so q is = q
sought_tried s AsksKey so q is = q
sought_tried s Denied so q is = tt
sought_tried s NoneServes so q is = tt
sought_tried s (Offered list) so q is = made_tried s (offered list) s.begun so q (offers_meet (need_in s.begun) list is)
sought_tried s (Picked place) so q is = made_tried s (picked place) s.begun so q (pick_meets (need_in s.begun) place is)

found_tried : (b : Bool) (s : Standing) (came : Found) → is_for (need_in s.begun) came ≡ b → Tries s → Starting s.starting s.begun → Tries (sought_if b s came)
found_tried true s came is so q = sought_tried s came so q is
found_tried false s came is so q = so

-- answers of the authentication server leave nothing to be searched for
server_tried : (s : Standing) (call : Move) (o : Option Begun) → Tries s → ((b : Begun) → o ≡ Some b → is_sought (needs b.start (call ∷ b.moves)) ≡ false) → Tries (made s call o)
server_tried s call None so rests = so
server_tried s call (Some b) so rests = moved_tried s (with_move b call) (move_answer a.Ok b.key (answers b.start b.moves call)) (λ seeks. never (sym (rests b refl) ∙ seeks))

asked_there : (o : Option Begun) (b : Begun) → o ≡ Some b → is_asked (need_in o) ≡ true → is_asked (needs b.start b.moves) ≡ true
asked_there o b e asked = subst (λ x. is_asked (need_in x) ≡ true) e asked

step_tried : (s : Standing) (phase : Phase) (call : Call) → Tries s → Tried phase s.starting s.begun → (phase ≡ OnServer → is_asked (need_in s.begun) ≡ true) → Tries (then_stands s phase call)
step_tried s Resting (Stored request) p q asked = refl
step_tried s Resting (CarriedOut word) p q asked = p
step_tried s Resting (Sought came) p q asked = p
step_tried s Resting (Consented agrees) p q asked = p
step_tried s Resting KeyTold p q asked = p
step_tried s Resting Shut p q asked = p
step_tried s Resting (Heard bytes) p q asked = p
step_tried s Resting Unheard p q asked = p
step_tried s Resting Roomless p q asked = p
step_tried s Resting Took p q asked = p
step_tried s (Waiting request) (Stored other) p q asked = p
step_tried s (Waiting request) (CarriedOut word) p q asked = carried_tried s word request q
step_tried s (Waiting request) (Sought came) p q asked = p
step_tried s (Waiting request) (Consented agrees) p q asked = p
step_tried s (Waiting request) KeyTold p q asked = p
step_tried s (Waiting request) Shut p q asked = p
step_tried s (Waiting request) (Heard bytes) p q asked = p
step_tried s (Waiting request) Unheard p q asked = p
step_tried s (Waiting request) Roomless p q asked = p
step_tried s (Waiting request) Took p q asked = p
step_tried s Seeking (Stored request) p q asked = p
step_tried s Seeking (CarriedOut word) p q asked = p
step_tried s Seeking (Sought came) p q asked = found_tried (is_for (need_in s.begun) came) s came refl p q
step_tried s Seeking (Consented agrees) p q asked = p
step_tried s Seeking KeyTold p q asked = p
step_tried s Seeking Shut p q asked = p
step_tried s Seeking (Heard bytes) p q asked = p
step_tried s Seeking Unheard p q asked = p
step_tried s Seeking Roomless p q asked = p
step_tried s Seeking Took p q asked = p
step_tried s (OnConfirm serial) (Stored request) p q asked = p
step_tried s (OnConfirm serial) (CarriedOut word) p q asked = p
step_tried s (OnConfirm serial) (Sought came) p q asked = p
step_tried s (OnConfirm serial) (Consented agrees) p q asked = q
step_tried s (OnConfirm serial) KeyTold p q asked = p
step_tried s (OnConfirm serial) Shut p q asked = tt
step_tried s (OnConfirm serial) (Heard bytes) p q asked = p
step_tried s (OnConfirm serial) Unheard p q asked = p
step_tried s (OnConfirm serial) Roomless p q asked = p
step_tried s (OnConfirm serial) Took p q asked = p
step_tried s OnNeedkey (Stored request) p q asked = p
step_tried s OnNeedkey (CarriedOut word) p q asked = p
step_tried s OnNeedkey (Sought came) p q asked = p
step_tried s OnNeedkey (Consented agrees) p q asked = p
step_tried s OnNeedkey KeyTold p q asked = q
step_tried s OnNeedkey Shut p q asked = tt
step_tried s OnNeedkey (Heard bytes) p q asked = p
step_tried s OnNeedkey Unheard p q asked = p
step_tried s OnNeedkey Roomless p q asked = p
step_tried s OnNeedkey Took p q asked = p
step_tried s OnServer (Stored request) p q asked = p
step_tried s OnServer (CarriedOut word) p q asked = p
step_tried s OnServer (Sought came) p q asked = p
step_tried s OnServer (Consented agrees) p q asked = p
step_tried s OnServer KeyTold p q asked = p
step_tried s OnServer Shut p q asked = p
step_tried s OnServer (Heard bytes) p q asked = server_tried s (heard bytes) s.begun p (λ b e. ap is_sought ((all_roles b.start).answered b.moves bytes (asked_there s.begun b e (asked refl))))
step_tried s OnServer Unheard p q asked = server_tried s unheard s.begun p (λ b e. ap is_sought ((all_roles b.start).unanswered b.moves (asked_there s.begun b e (asked refl))))
step_tried s OnServer Roomless p q asked = server_tried s roomless s.begun p (λ b e. ap is_sought (roomless_rests b.start b.moves (asked_there s.begun b e (asked refl))))
step_tried s OnServer Took p q asked = p
step_tried s (Kept answer) (Stored request) p q asked = p
step_tried s (Kept answer) (CarriedOut word) p q asked = p
step_tried s (Kept answer) (Sought came) p q asked = p
step_tried s (Kept answer) (Consented agrees) p q asked = p
step_tried s (Kept answer) KeyTold p q asked = p
step_tried s (Kept answer) Shut p q asked = p
step_tried s (Kept answer) (Heard bytes) p q asked = p
step_tried s (Kept answer) Unheard p q asked = p
step_tried s (Kept answer) Roomless p q asked = p
step_tried s (Kept answer) Took p q asked = tt

talk_tried : (t : List Call) → Tries (standing t)
talk_tried [] = tt
talk_tried (call ∷ t) = step_tried (standing t) (standing t).phase call (talk_tried t) (talk_tried t) (server_need t)

-- ---- so many searches are enough

seeking_after : (n : Need) (answer : RpcAnswer) → is_sought n ≡ true → phase_after n answer ≡ Seeking
seeking_after Nothing answer e = absurd cc
seeking_after (Key template) answer e = refl
seeking_after (Offers template) answer e = refl
seeking_after (Pick templates) answer e = refl
seeking_after (Exchange request shape) answer e = absurd cc

abbrev seeking : Begun → Bool → Said → Standing
seeking b starting said = record { begun = Some b; phase = Seeking; starting = starting; said = said }

one_enough : (n : ℕ) (b : Begun) (starting : Bool) (said : Said) (list : KeyList) (asks : Asking) → is_sought (needs b.start b.moves) ≡ true → Once (needs b.start) b.moves → Rests (suc n) list asks (seeking b starting said)
one_enough n b starting said list asks seeks once =
    subst (λ ph. Rests (suc n) list asks (record { begun = Some b; phase = ph; starting = starting; said = said })) (seeking_after (needs b.start b.moves) a.Ok seeks) (once_rests n b starting said a.Ok list asks once)

-- a write
gave_once : (b : Begun) → GaveLast b → Once (needs b.start) b.moves
gave_once b g call is =
    ap (λ m. is_sought (needs b.start (call ∷ m))) g.is ∙ (all_roles b.start).one g.earlier g.bytes call g.none (subst (λ m. meets (needs b.start m) call ≡ true) g.is is)

-- where no key serves none is chosen
either_not : (b : Bool) (one other : Found) (key : KeyEntry) → (one ≡ Chosen key → ⊥) → (other ≡ Chosen key → ⊥) → (if b then one else other) ≡ Chosen key → ⊥
either_not true one other key p q = p
either_not false one other key p q = q

none_chosen : (said : Said) (asks : Asking) (key : KeyEntry) → found_among said asks [] ≡ Chosen key → ⊥
none_chosen said asks key = either_not (is_denied said asks []) Denied _ key (λ e. cc e) (either_not _ AsksKey NoneServes key (λ e. cc e) (λ e. cc e))

-- a server of p9any that has a list of offers
listed_rests : (n : ℕ) (start : Start) (moves : List Move) (key : Option KeyEntry) (said : Said) (answer : RpcAnswer) (list : KeyList) (asks : Asking) → protocol_of start.template ≡ P9any → any.course p9sk1 start moves ≡ at_offers
    → (b : ℕ) (bytes : List ℕ) → Rests n list asks (stood (record { start = start; moves = offered (b ∷ bytes) ∷ moves; key = key }) true said answer)
listed_rests n start moves key said answer list asks p far b bytes =
    rests_so n list asks (stood (record { start = start; moves = offered (b ∷ bytes) ∷ moves; key = key }) true said answer) (unsought (needs start (offered (b ∷ bytes) ∷ moves)) answer (behind_some start moves b bytes p far))

-- one that has its offers to find: where there are none no key serves
offers_rest : (b : Begun) (said : Said) (list : KeyList) (asks : Asking) → AreKeys list.keys → protocol_of b.start.template ≡ P9any → any.course p9sk1 b.start b.moves ≡ at_offers → Rests 3 list asks (seeking b true said)
offers_rest b said list asks keys p far on =
    let s = seeking b true said in
    let t = first_template b.start in
    let offers = offered_by (for_p9sk1 t.0) (role_in b.start.template) list in
    subst (λ f. Rests 2 list asks (sought s f)) (sym (finds_offers s (for_p9sk1 t.0) asks list (offers_need b.start b.moves p far))) (by_list offers refl)
  where
    by_list : (offers : List ℕ) → offered_by (for_p9sk1 (first_template b.start).0) (role_in b.start.template) list ≡ offers → Rests 2 list asks (sought (seeking b true said) (Offered offers))
    by_list (x ∷ bytes) e = listed_rests 2 b.start b.moves b.key said (move_answer a.Ok b.key (answers b.start b.moves (offered (x ∷ bytes)))) list asks p far x bytes
    by_list [] e = λ on.
        let s = sought (seeking b true said) (Offered []) in
        let t = first_template b.start in
        let none = none_serves t.0 (role_in b.start.template) list keys e in
        let there = ap (λ q. step b.start q (offered [])) far in
        let is = finds_key s (for_p9sk1 t.0) asks list (key_need b.start (offered [] ∷ b.moves) p there) none in
        rests_so 1 list asks (sought s (finds s asks list)) (subst (λ f. (sought s f).phase ≡ Seeking → ⊥) (sym is) (none_found s said asks))

-- one that has a key to find
key_rests : (b : Begun) (said : Said) (list : KeyList) (asks : Asking) → AreKeys list.keys → protocol_of b.start.template ≡ P9any → any.course p9sk1 b.start b.moves ≡ at_key → Rests 3 list asks (seeking b true said)
key_rests b said list asks keys p far on = by_found (finds (seeking b true said) asks list) refl
  where
    s : Standing
    s = seeking b true said

    more : List Attr
    more = (first_template b.start).0

    need : needs b.start b.moves ≡ Key (for_p9sk1 more)
    need = key_need b.start b.moves p far

    by_list : (key : KeyEntry) (offers : List ℕ) → offered_by (for_p9sk1 more) (role_in b.start.template) list ≡ offers → finds s asks list ≡ Chosen key → Rests 1 list asks (sought (sought s (Chosen key)) (Offered offers))
    by_list key (x ∷ bytes) e is =
        let there = ap (λ q. step b.start q (told_of_key key)) far in
        listed_rests 1 b.start (told_of_key key ∷ b.moves) (chosen_for key b).key said (move_answer a.Ok (chosen_for key b).key (answers b.start (told_of_key key ∷ b.moves) (offered (x ∷ bytes)))) list asks p there x bytes
    by_list key [] e is =
        let none = none_serves more (role_in b.start.template) list keys e in
        absurd (none_chosen said asks key (sym (finds_key s (for_p9sk1 more) asks list need none) ∙ is))

    not_for : (came : Found) → finds s asks list ≡ came → is_for (Key (for_p9sk1 more)) came ≡ false → Rests 2 list asks (sought s came)
    not_for came is other =
        absurd (let no_way : true ≡ false = sym (finds_for s asks list (ap is_sought need)) ∙ (ap (λ n. is_for n (finds s asks list)) need ∙ (ap (is_for (Key (for_p9sk1 more))) is ∙ other)) in cc)

    by_found : (came : Found) → finds s asks list ≡ came → Rests 2 list asks (sought s came)
    by_found (Chosen key) is = λ on2.
        let t = sought s (Chosen key) in
        let there = ap (λ q. step b.start q (told_of_key key)) far in
        subst (λ f. Rests 1 list asks (sought t f)) (sym (finds_offers t (for_p9sk1 more) asks list (offers_need b.start (told_of_key key ∷ b.moves) p there))) (by_list key (offered_by (for_p9sk1 more) (role_in b.start.template) list) refl is)
    by_found (AsksConsent key) is = rests_so 2 list asks (sought s (AsksConsent key)) (λ e. cc e)
    by_found AsksKey is = rests_so 2 list asks (sought s AsksKey) (λ e. cc e)
    by_found Denied is = rests_so 2 list asks (sought s Denied) (λ e. cc e)
    by_found NoneServes is = rests_so 2 list asks (sought s NoneServes) (λ e. cc e)
    by_found (Offered bytes) is = not_for (Offered bytes) is refl
    by_found (Picked place) is = not_for (Picked place) is refl

start_rests : (b : Begun) (said : Said) (list : KeyList) (asks : Asking) → AreKeys list.keys → is_sought (needs b.start b.moves) ≡ true → Begins b.start b.moves → Rests 3 list asks (seeking b true said)
start_rests b said list asks keys seeks (inl once) = one_enough 2 b true said list asks seeks once
start_rests b said list asks keys seeks (inr c) = by_far c.far
  where
    by_far : (any.course p9sk1 b.start b.moves ≡ at_offers) ⊎ (any.course p9sk1 b.start b.moves ≡ at_key) → Rests 3 list asks (seeking b true said)
    by_far (inl far) = offers_rest b said list asks keys c.proto far
    by_far (inr far) = key_rests b said list asks keys c.proto far

rests_by : (begun : Option Begun) (starting : Bool) (said : Said) (list : KeyList) (asks : Asking) → AreKeys list.keys → is_sought (need_in begun) ≡ true → Behind starting begun → Starting starting begun
    → Rests (most_searches starting) list asks (record { begun = begun; phase = Seeking; starting = starting; said = said })
rests_by None starting said list asks keys seeks behind so = absurd cc
rests_by (Some b) true said list asks keys seeks behind so = start_rests b said list asks keys seeks so
rests_by (Some b) false said list asks keys seeks g so = one_enough 0 b false said list asks seeks (gave_once b g)

-- behind any talk so many are enough as follow on it
pub searches_suffice : (t : List Call) (list : KeyList) (asks : Asking) → AreKeys list.keys → Rests (most_searches (standing t).starting) list asks (standing t)
searches_suffice t list asks keys = by_phase (is_seeking (standing t).phase) refl
  where
    by_phase : (b : Bool) → is_seeking (standing t).phase ≡ b → Rests (most_searches (standing t).starting) list asks (standing t)
    by_phase false e = rests_so (most_searches (standing t).starting) list asks (standing t) (λ on. let no_way : true ≡ false = sym (ap is_seeking on) ∙ e in cc)
    by_phase true e =
        let s = standing t in
        let on = seeks s.phase e in
        subst (λ ph. Rests (most_searches s.starting) list asks (record { begun = s.begun; phase = ph; starting = s.starting; said = s.said })) (sym on)
        (rests_by s.begun s.starting s.said list asks keys (seeks_need t on) (seeks_behind t on) (subst (λ ph. Tried ph s.starting s.begun) on (talk_tried t)))
