-- So many searches as follow on a request are enough: behind them nothing is searched for.
use Rattle.std.proofs.Common.{◌≡◌, ℕ, suc, List, [], ◌∷◌, Bool, true, false, cond, Option, Some, None, refl, sym, ap, subst, ◌∙◌, inl, inr}
use Rattle.std.specs.Prelude.{◌⊎◌}
use Rattle.attr_tuples.specs.declared.attr.Attr.{Attr}
use Rattle.key_lists.specs.Lists.{KeyEntry, KeyList}
use Rattle.key_lists.specs.CtlLines.{few_of}
use Rattle.roles.specs.declared.answer.StartFault.{StartFault}
use Rattle.roles.specs.declared.need.Need.{Need}
use Rattle.roles.specs.declared.need.Need.TheVariants.{Nothing, Key, Offers, Pick, Exchange}
use Rattle.roles.specs.Answers.{is_sought}
use Rattle.roles.specs.Starts.{Start, start_with}
use Rattle.roles.specs.Talks.{get, give, offered, picked}
use Rattle.talks.specs.Requests.{RpcRequest}
use Rattle.talks.specs.Requests as rpc
use Rattle.talks.specs.declared.answer.RpcAnswer.{RpcAnswer}
use Rattle.talks.specs.declared.answer.RpcAnswer.TheVariants as a
use Rattle.talks.specs.Protocols.{answers, needs, puts, refuses}
use Rattle.talks.specs.Answers.{move_answer, start_answer}
use Rattle.talks.specs.declared.said.Said.{Said}
use Rattle.talks.specs.declared.said.Asking.{Asking}
use Rattle.talks.specs.Calls.{Found, Chosen, AsksConsent, AsksKey, Denied, NoneServes, Offered, Picked}
use Rattle.talks.specs.Searches.{found_among, found_by, is_denied, offered_by, serving}
use Rattle.talks.specs.Standings.{Begun, Phase, Seeking, Kept, Standing, carried_out, finds, found_for, is_for, need_in, phase_after, role_in, role_name, sought, start_by, started, told_of_key, with_move}
use Rattle.world_promises.proofs.AllRoles.{all_roles}
use Rattle.world_promises.specs.Telling.{idle, is_driven}
use Rattle.world_promises.proofs.SearchSteps.{chosen_meets, offers_meet, pick_meets}
use Rattle.driven_agents.specs.Keys.{AreKeys}
use Rattle.world_promises.proofs.MetDeeds.{most_searches}
use Rattle.world_promises.proofs.OffersServe.{for_p9sk1, none_serves}
use Rattle.world_promises.proofs.SearchDeeds.{Rests, finds_for, rests_so}
use Rattle.world_promises.proofs.StartNeeds.{Chooses, Once, starts_so}

-- ---- phases by needs

pub unsought : (n : Need) (answer : RpcAnswer) → is_sought n ≡ false → phase_after n answer ≡ Seeking → ⊥
unsought Nothing answer none e = cc e
unsought (Key template) answer none e = cc none
unsought (Offers template) answer none e = cc none
unsought (Pick templates) answer none e = cc none
unsought (Exchange request shape) answer none e = cc e

pub sought_so : (n : Need) (answer : RpcAnswer) → phase_after n answer ≡ Seeking → is_sought n ≡ true
sought_so Nothing answer e = absurd (cc e)
sought_so (Key template) answer e = refl
sought_so (Offers template) answer e = refl
sought_so (Pick templates) answer e = refl
sought_so (Exchange request shape) answer e = absurd (cc e)

-- a conversation that met this, by what it needs now
abbrev pub stood : Begun → Bool → Said → RpcAnswer → Standing
stood b starting said answer = record { begun = Some b; phase = phase_after (needs b.start b.moves) answer; starting = starting; said = said }

-- ---- one search

-- where what is found leaves nothing to be searched for
one_found : (b : Begun) (starting : Bool) (said : Said) (answer : RpcAnswer) (came : Found) → Once (needs b.start) b.moves → is_for (needs b.start b.moves) came ≡ true → (sought (stood b starting said answer) came).phase ≡ Seeking → ⊥
one_found b starting said answer (Chosen key) once is =
    unsought (needs b.start (told_of_key key ∷ b.moves)) (move_answer a.Ok (Some key) (answers b.start b.moves (told_of_key key)))
    (once (told_of_key key) (chosen_meets (needs b.start b.moves) key (told_of_key key) is (λ template. refl)))
one_found b starting said answer (AsksConsent key) once is = λ e. cc e
one_found b starting said answer AsksKey once is = λ e. cc e
one_found b starting said answer Denied once is = λ e. cc e
one_found b starting said answer NoneServes once is = λ e. cc e
one_found b starting said answer (Offered list) once is =
    unsought (needs b.start (offered list ∷ b.moves)) (move_answer a.Ok b.key (answers b.start b.moves (offered list))) (once (offered list) (offers_meet (needs b.start b.moves) list is))
one_found b starting said answer (Picked place) once is =
    unsought (needs b.start (picked place ∷ b.moves)) (move_answer a.Ok b.key (answers b.start b.moves (picked place))) (once (picked place) (pick_meets (needs b.start b.moves) place is))

pub once_rests : (n : ℕ) (b : Begun) (starting : Bool) (said : Said) (answer : RpcAnswer) (list : KeyList) (asks : Asking) → Once (needs b.start) b.moves → Rests (suc n) list asks (stood b starting said answer)
once_rests n b starting said answer list asks once e =
    let s = stood b starting said answer in
    rests_so n list asks (sought s (finds s asks list)) (one_found b starting said answer (finds s asks list) once (finds_for s asks list (sought_so (needs b.start b.moves) answer e)))

-- ---- offers, and a key where there are none

either_rests : (s : Standing) (b : Bool) (one other : Found) → ((sought s one).phase ≡ Seeking → ⊥) → ((sought s other).phase ≡ Seeking → ⊥) → (sought s (cond b one other)).phase ≡ Seeking → ⊥
either_rests s true one other p q = p
either_rests s false one other p q = q

pub none_found : (s : Standing) (said : Said) (asks : Asking) → (sought s (found_among said asks [])).phase ≡ Seeking → ⊥
none_found s said asks = either_rests s (is_denied said asks []) Denied _ (λ e. cc e) (either_rests s _ AsksKey NoneServes (λ e. cc e) (λ e. cc e))

pub finds_key : (s : Standing) (template : List Attr) (asks : Asking) (list : KeyList) → need_in s.begun ≡ Key template → serving template (role_name s.begun) list ≡ [] → finds s asks list ≡ found_among s.said asks []
unfolding finds found_by
finds_key s template asks list e none = ap (λ n. found_for n (role_name s.begun) s.said asks list) e ∙ ap (found_among s.said asks) none

pub finds_offers : (s : Standing) (template : List Attr) (asks : Asking) (list : KeyList) → need_in s.begun ≡ Offers template → finds s asks list ≡ Offered (offered_by template (role_name s.begun) list)
unfolding finds
finds_offers s template asks list e = ap (λ n. found_for n (role_name s.begun) s.said asks list) e

-- behind a list of offers
offered_rests : (start : Start) (key : Option KeyEntry) (said : Said) (answer : RpcAnswer) (list : KeyList) (asks : Asking) (c : Chooses (needs start)) → AreKeys list.keys → (offers : List ℕ) → offered_by (for_p9sk1 c.more) (role_in start.template) list ≡ offers
    → Rests 2 list asks (stood (record { start = start; moves = offered offers ∷ []; key = key }) true said answer)
offered_rests start key said answer list asks c keys (b ∷ bytes) e = rests_so 2 list asks (stood (record { start = start; moves = offered (b ∷ bytes) ∷ []; key = key }) true said answer) (unsought (needs start (offered (b ∷ bytes) ∷ [])) answer (c.done b bytes))
offered_rests start key said answer list asks c keys [] e =
    let s = stood (record { start = start; moves = offered [] ∷ []; key = key }) true said answer in
    let none = none_serves c.more (role_in start.template) list keys e in
    let is = finds_key s (for_p9sk1 c.more) asks list c.key none in
    λ on. rests_so 1 list asks (sought s (finds s asks list)) (subst (λ f. (sought s f).phase ≡ Seeking → ⊥) (sym is) (none_found s said asks))

choosing_rests : (start : Start) (said : Said) (answer : RpcAnswer) (list : KeyList) (asks : Asking) → Chooses (needs start) → AreKeys list.keys → Rests 3 list asks (stood (record { start = start; moves = []; key = None }) true said answer)
choosing_rests start said answer list asks c keys on =
    let b : Begun = record { start = start; moves = []; key = None } in
    let s = stood b true said answer in
    let offers = offered_by (for_p9sk1 c.more) (role_in start.template) list in
    subst (λ f. Rests 2 list asks (sought s f)) (sym (finds_offers s (for_p9sk1 c.more) asks list c.offers))
    (offered_rests start None said (move_answer a.Ok None (answers start [] (offered offers))) list asks c keys offers refl)

-- ---- requests

start_rests : (start : Start) (said : Said) (list : KeyList) (asks : Asking) → AreKeys list.keys → Once (needs start) [] ⊎ Chooses (needs start) → Rests 3 list asks (stood (record { start = start; moves = []; key = None }) true said a.Ok)
start_rests start said list asks keys (inl once) = once_rests 2 (record { start = start; moves = []; key = None }) true said a.Ok list asks once
start_rests start said list asks keys (inr c) = choosing_rests start said a.Ok list asks c keys

-- it is enough that so many follow as do
abbrev Enough : KeyList → Asking → Standing → Type 0
Enough list asks s = Rests (most_searches s.starting) list asks s

-- an answer that is there
told_enough : (begun : Option Begun) (said : Said) (answer : RpcAnswer) (list : KeyList) (asks : Asking) → Enough list asks (idle begun (Kept answer) said)
told_enough begun said answer list asks = rests_so 1 list asks (idle begun (Kept answer) said) (λ on. cc on)

started_enough : (begun : Option Begun) (phase : Phase) (said : Said) (word : List ℕ) (template : List Attr) (fault : Option StartFault) (list : KeyList) (asks : Asking) → AreKeys list.keys → Enough list asks (started (idle begun phase said) word template fault)
started_enough begun phase said word template (Some fault) list asks keys = told_enough begun said (start_answer fault) list asks
started_enough begun phase said word template None list asks keys = start_rests (start_with template word) said list asks keys (starts_so (start_with template word))

start_enough : (begun : Option Begun) (phase : Phase) (said : Said) (word : List ℕ) (o : Option (List Attr)) (list : KeyList) (asks : Asking) → AreKeys list.keys → Enough list asks (start_by (idle begun phase said) word o)
start_enough begun phase said word None list asks keys = told_enough begun said a.BadTemplate list asks
start_enough begun phase said word (Some template) list asks keys = started_enough begun phase said word template (refuses template) list asks keys

got_enough : (begun : Option Begun) (phase : Phase) (said : Said) (word : List ℕ) (list : KeyList) (asks : Asking) → need_in begun ≡ Nothing → Enough list asks (carried_out (idle begun phase said) word rpc.reads)
got_enough None phase said word list asks none = told_enough None said a.NotStarted list asks
got_enough (Some b) phase said word list asks none =
    let given = move_answer (a.Got (puts b.start b.moves get)) b.key (answers b.start b.moves get) in
    rests_so 1 list asks (stood (with_move b get) false said given) (unsought (needs b.start (get ∷ b.moves)) given (ap is_sought ((all_roles b.start).got b.moves none)))

given_enough : (begun : Option Begun) (phase : Phase) (said : Said) (word bytes : List ℕ) (list : KeyList) (asks : Asking) → need_in begun ≡ Nothing → Enough list asks (carried_out (idle begun phase said) word (rpc.writes bytes))
given_enough None phase said word bytes list asks none = told_enough None said a.NotStarted list asks
given_enough (Some b) phase said word bytes list asks none =
    once_rests 0 (with_move b (give bytes)) false said (move_answer a.Ok b.key (answers b.start b.moves (give bytes))) list asks (λ call is. (all_roles b.start).one b.moves bytes call none is)

pub searches_enough : (begun : Option Begun) (phase : Phase) (said : Said) (word : List ℕ) (request : RpcRequest) (list : KeyList) (asks : Asking) → AreKeys list.keys → need_in begun ≡ Nothing → is_driven request ≡ true → Enough list asks (carried_out (idle begun phase said) word request)
searches_enough (Some b) phase said word (rpc.starts text) list asks keys none driven = told_enough (Some b) said a.AlreadyStarted list asks
searches_enough None phase said word (rpc.starts text) list asks keys none driven = start_enough None phase said word (few_of text) list asks keys
searches_enough begun phase said word rpc.reads list asks keys none driven = got_enough begun phase said word list asks none
searches_enough begun phase said word (rpc.writes bytes) list asks keys none driven = given_enough begun phase said word bytes list asks none
searches_enough begun phase said word rpc.asks_info list asks keys none driven = absurd cc
searches_enough begun phase said word rpc.asks_attributes list asks keys none driven = absurd cc
