-- Where a conversation asks its user, its question is made.
use Rattle.std.proofs.Common.{◌≡◌, ℕ, List, [], ◌∷◌, Bool, true, false, Option, Some, None, refl, sym, ap, subst, ◌∙◌, if◌then◌else◌}
use Rattle.attr_tuples.specs.declared.attr.Attr.{Attr}
use Rattle.attr_tuples.specs.Printing.{public_text}
use Rattle.attr_tuples.specs.Matching.{value_of}
use Rattle.std.specs.Prelude.{codes}
use Rattle.key_lists.specs.CtlLines.{few_of}
use Rattle.key_lists.specs.Lists.{KeyEntry, KeyList}
use Rattle.roles.specs.declared.answer.StartFault.{StartFault}
use Rattle.roles.specs.declared.need.Need.{Need}
use Rattle.roles.specs.declared.need.Need.TheVariants.{Nothing, Key, Offers, Pick, Exchange}
use Rattle.roles.specs.Answers.{IsKey, IsOffers, IsPick, is_sought}
use Rattle.roles.specs.Templates.{shown_text}
use Rattle.talks.specs.Requests.{RpcRequest, starts, reads, writes, asks_info, asks_attributes}
use Rattle.talks.specs.declared.answer.RpcAnswer.{RpcAnswer}
use Rattle.talks.specs.declared.answer.RpcAnswer.TheVariants as a
use Rattle.talks.specs.Answers.{move_answer, told_key}
use Rattle.talks.specs.Calls.{Call, Found, Chosen, AsksConsent, AsksKey, Denied, NoneServes, Offered, Picked, Consented, KeyTold}
use Rattle.talks.specs.Searches.{found_by, offered_by, picked_by}
use Rattle.talks.specs.declared.said.Said.{Said}
use Rattle.talks.specs.declared.said.Asking.{Asking}
use Rattle.talks.specs.Protocols.{answers, needs, refuses}
use Rattle.roles.specs.Talks.{get, give, offered, picked}
use Rattle.talks.specs.Standings.{Begun, Phase, Resting, Waiting, Seeking, OnConfirm, OnNeedkey, OnServer, Kept, Standing, begin_once, carried_out, finds, found_for, if_begun, in_phase, is_for, made, make_move, need_in, phase_after, role_in, role_name, sought, standing, start_by, started, template_in, template_of, told_of_key, with_key}
use Rattle.conversations.specs.Shown.{asks_for_key, is_seeking, serial_in}
use Rattle.conversations.specs.declared.asks.Asks.{Asks}
use Rattle.conversations.specs.declared.conversation.Conversation.{Conversation}
use Rattle.conversations.specs.Asking.{IsMade, IsReady, ReadyIn, TurnsReady, asks_that}
use Rattle.conversations.specs.Fits.{Carries, Fits, Turns, UsesList, searched, searched_once}
use Rattle.conversations.proofs.OfferLaws.{behind}
use Rattle.conversations.proofs.ResumeLemmas.{Law, at_key, found_first, no_offers_is, seeks, some_offers_is, stays, thrice, unsought}
use Rattle.conversations.proofs.SearchLemmas.{key_is_for}

never : false ≡ true → ⊥
never e = cc

-- behind a move nobody is asked
pub moved_ready : (need : Need) (answer : RpcAnswer) (s : Standing) (asking : Asking) (list : KeyList) (asks : Asks) → ReadyIn (phase_after need answer) s asking list asks
moved_ready Nothing answer s asking list asks = tt
moved_ready (Key template) answer s asking list asks = tt
moved_ready (Offers template) answer s asking list asks = tt
moved_ready (Pick templates) answer s asking list asks = tt
moved_ready (Exchange request shape) answer s asking list asks = tt

-- ---- a request is carried out

tried_ready : (s : Standing) (word : List ℕ) (template : List Attr) (fault : Option StartFault) (asking : Asking) (list : KeyList) (asks : Asks) → IsReady asking list (started s word template fault) asks
tried_ready s word template (Some fault) asking list asks = tt
tried_ready s word template None asking list asks = moved_ready _ _ _ asking list asks

by_ready : (s : Standing) (word : List ℕ) (template : Option (List Attr)) (asking : Asking) (list : KeyList) (asks : Asks) → IsReady asking list (start_by s word template) asks
by_ready s word None asking list asks = tt
by_ready s word (Some template) asking list asks = tried_ready s word template (refuses template) asking list asks

once_begun_ready : (s : Standing) (word text : List ℕ) (begun : Option Begun) (asking : Asking) (list : KeyList) (asks : Asks) → IsReady asking list (begin_once s word text begun) asks
once_begun_ready s word text (Some b) asking list asks = tt
once_begun_ready s word text None asking list asks = by_ready s word (few_of text) asking list asks

begun_ready : (s : Standing) (begun : Option Begun) (next : Begun → Standing) (asking : Asking) (list : KeyList) (asks : Asks) → ((b : Begun) → IsReady asking list (next b) asks) → IsReady asking list (if_begun s begun next) asks
begun_ready s None next asking list asks ready = tt
begun_ready s (Some b) next asking list asks ready = ready b

pub carried_ready : (s : Standing) (word : List ℕ) (request : RpcRequest) (asking : Asking) (list : KeyList) (asks : Asks) → IsReady asking list (carried_out s word request) asks
carried_ready s word (starts text) asking list asks = once_begun_ready s word text s.begun asking list asks
carried_ready s word reads asking list asks = begun_ready s s.begun _ asking list asks (λ b. moved_ready _ _ _ asking list asks)
carried_ready s word (writes message) asking list asks = begun_ready s s.begun _ asking list asks (λ b. moved_ready _ _ _ asking list asks)
carried_ready s word asks_info asking list asks = tt
carried_ready s word asks_attributes asking list asks = begun_ready s s.begun _ asking list asks (λ b. tt)

-- ---- what a search comes to

key_ready : (s : Standing) (key : KeyEntry) (begun : Option Begun) (asking : Asking) (list : KeyList) (asks : Asks) → found_for (need_in begun) (role_name begun) s.said asking list ≡ Chosen key → IsReady asking list (with_key s key begun) asks
key_ready s key None asking list asks e = absurd (cc)
key_ready s key (Some b) asking list asks e = moved_ready _ _ _ asking list asks

pub chosen_ready : (s : Standing) (key : KeyEntry) (asking : Asking) (list : KeyList) (asks : Asks) → finds s asking list ≡ Chosen key → IsReady asking list (with_key s key s.begun) asks
unfolding finds
chosen_ready s key asking list asks e = key_ready s key s.begun asking list asks e

same_key : (one other : KeyEntry) → AsksConsent one ≡ AsksConsent other → one ≡ other
same_key one other e = cc

pub consent_ready : (s : Standing) (key : KeyEntry) (asking : Asking) (list : KeyList) (asks : Asks) → finds s asking list ≡ AsksConsent key → IsMade asks.confirm (public_text key.tuple) → IsReady asking list (in_phase s (OnConfirm key.serial)) asks
unfolding finds
consent_ready s key asking list asks e made = λ other e'. subst (λ (k : KeyEntry). IsMade asks.confirm (public_text k.tuple)) (same_key key other (sym e ∙ e')) made

offers_made : (s : Standing) (begun : Option Begun) (asking : Asking) (list : KeyList) (asks : Asks) (given : List ℕ) → IsOffers (need_in begun) → IsReady asking list (made s (offered given) begun) asks
offers_made s None asking list asks given wanted = absurd wanted
offers_made s (Some b) asking list asks given wanted = moved_ready _ _ _ asking list asks

offers_found : (need : Need) (role : List ℕ) (said : Said) (asking : Asking) (list : KeyList) → IsOffers need → found_for need role said asking list ≡ Offered (offered_by (elim need [ (Key t) ↦ [] | (Offers t) ↦ t | (Pick ts) ↦ [] | (Exchange request shape) ↦ [] | Nothing ↦ [] ]) role list)
offers_found Nothing role said asking list wanted = absurd wanted
offers_found (Key t) role said asking list wanted = absurd wanted
offers_found (Offers t) role said asking list wanted = refl
offers_found (Pick ts) role said asking list wanted = absurd wanted
offers_found (Exchange request shape) role said asking list wanted = absurd wanted

pub offers_ready : (s : Standing) (asking : Asking) (list : KeyList) (asks : Asks) → IsOffers (need_in s.begun) → IsReady asking list (sought s (finds s asking list)) asks
unfolding finds
offers_ready s asking list asks wanted =
    subst (λ (came : Found). IsReady asking list (sought s came) asks) (sym (offers_found (need_in s.begun) (role_name s.begun) s.said asking list wanted))
    (offers_made s s.begun asking list asks _ wanted)

pick_made : (s : Standing) (begun : Option Begun) (asking : Asking) (list : KeyList) (asks : Asks) (place : ℕ) → IsPick (need_in begun) → IsReady asking list (made s (picked place) begun) asks
pick_made s None asking list asks place wanted = absurd wanted
pick_made s (Some b) asking list asks place wanted = moved_ready _ _ _ asking list asks

pick_found : (need : Need) (role : List ℕ) (said : Said) (asking : Asking) (list : KeyList) → IsPick need → (place : ℕ) × (found_for need role said asking list ≡ Picked place)
pick_found Nothing role said asking list wanted = absurd wanted
pick_found (Key t) role said asking list wanted = absurd wanted
pick_found (Offers t) role said asking list wanted = absurd wanted
pick_found (Pick ts) role said asking list wanted = (picked_by ts role list, refl)
pick_found (Exchange request shape) role said asking list wanted = absurd wanted

pub pick_ready : (s : Standing) (asking : Asking) (list : KeyList) (asks : Asks) → IsPick (need_in s.begun) → IsReady asking list (sought s (finds s asking list)) asks
unfolding finds
pick_ready s asking list asks wanted =
    let found = pick_found (need_in s.begun) (role_name s.begun) s.said asking list wanted in
    subst (λ (came : Found). IsReady asking list (sought s came) asks) (sym found.1)
    (pick_made s s.begun asking list asks found.0 wanted)

-- ---- several searches

pub thrice_ready : (old first second third : Conversation) (before one two after : Asks) (asking : Asking) (list : KeyList) → old.starting ≡ true → Turns old first (searched_once asking list) → TurnsReady old (searched_once asking list) asking list before one → Turns first second (searched_once asking list) → TurnsReady first (searched_once asking list) asking list one two → TurnsReady second (searched_once asking list) asking list two after → TurnsReady old (searched asking list) asking list before after
thrice_ready old first second third before one two after asking list starting a ra b rb rc = λ s fits ready.
    let s1 = searched_once asking list s in
    let s2 = searched_once asking list s1 in
    subst (λ (test : Bool). IsReady asking list (if test then searched_once asking list s2 else s1) after) (sym starting ∙ fits.carries.starting)
    (rc s2 (b s1 (a s fits)) (rb s1 (a s fits) (ra s fits ready)))

pub no_start_ready : (old : Conversation) (before after : Asks) (asking : Asking) (list : KeyList) → old.starting ≡ false → TurnsReady old (searched_once asking list) asking list before after → TurnsReady old (searched asking list) asking list before after
no_start_ready old before after asking list starting r = λ s fits ready.
    subst (λ (test : Bool). IsReady asking list (if test then searched_once asking list (searched_once asking list (searched_once asking list s)) else searched_once asking list s) after) (sym starting ∙ fits.carries.starting) (r s fits ready)

-- ---- a request that goes on: it is ready behind all searches where it is behind the first

abbrev Behind : Begun → Said → Asking → KeyList → Asks → Type 0
Behind b said asking list asks = IsReady asking list (searched_once asking list (seeks b said)) asks → IsReady asking list (searched asking list (seeks b said)) asks

quiet_ready : (s t : Standing) (asking : Asking) (list : KeyList) (asks : Asks) → s ≡ t → is_seeking t.phase ≡ false → IsReady asking list s asks → IsReady asking list (searched_once asking list (searched_once asking list s)) asks
quiet_ready s t asking list asks e rests ready = subst (λ (u : Standing). IsReady asking list u asks) (sym (thrice asking list s (ap (λ (t : Standing). is_seeking t.phase) e ∙ rests))) ready

by_list : (b : Begun) (said : Said) (key : KeyEntry) (t : List Attr) (asking : Asking) (list : KeyList) (asks : Asks) (given : List ℕ) → needs b.start b.moves ≡ Key t → Law b key → needs b.start (told_of_key key ∷ b.moves) ≡ Offers t → found_by t (role_in b.start.template) said asking list ≡ Chosen key → offered_by t (role_in b.start.template) list ≡ given → IsReady asking list (searched_once asking list (searched_once asking list (seeks (Rattle.conversations.proofs.ResumeLemmas.behind_key b key) said))) asks
by_list b said key t asking list asks [] need law offers came none = subst (λ (s : Standing). IsReady asking list s asks) (sym (no_offers_is b said key t asking list need law offers came none)) tt
by_list b said key t asking list asks (x ∷ rest) need law offers came some = subst (λ (s : Standing). IsReady asking list s asks) (sym (some_offers_is b said key t asking list x rest law offers some)) (moved_ready _ _ _ asking list asks)

by_need : (b : Begun) (said : Said) (key : KeyEntry) (t : List Attr) (asking : Asking) (list : KeyList) (asks : Asks) (more : Bool) → needs b.start b.moves ≡ Key t → found_by t (role_in b.start.template) said asking list ≡ Chosen key → is_sought (needs b.start (told_of_key key ∷ b.moves)) ≡ more → Behind b said asking list asks
by_need b said key t asking list asks true need came sought = λ ready.
    let wanted : IsKey (needs b.start b.moves) = subst (λ (n : Need). IsKey n) (sym need) tt in
    let law : Law b key = behind b.start b.moves (told_key key) (value_of (codes "!password") key.tuple) wanted sought in
    let offers : needs b.start (told_of_key key ∷ b.moves) ≡ Offers t = law.offers ∙ ap (λ (n : Need). Offers (template_in n)) need in
    subst (λ (s : Standing). IsReady asking list (searched_once asking list (searched_once asking list s)) asks)
    (sym (at_key b said asking list t (Chosen key) need came ∙ found_first b said key t (move_answer a.Ok (Some key) (answers b.start b.moves (told_of_key key))) offers))
    (by_list b said key t asking list asks (offered_by t (role_in b.start.template) list) need law offers came refl)
by_need b said key t asking list asks false need came sought = λ ready.
    quiet_ready (searched_once asking list (seeks b said)) (with_key (seeks b said) key (Some b)) asking list asks (at_key b said asking list t (Chosen key) need came)
    (unsought (needs b.start (told_of_key key ∷ b.moves)) (move_answer a.Ok (Some key) (answers b.start b.moves (told_of_key key))) sought) ready

by_found : (b : Begun) (said : Said) (t : List Attr) (asking : Asking) (list : KeyList) (asks : Asks) (came : Found) → needs b.start b.moves ≡ Key t → found_by t (role_in b.start.template) said asking list ≡ came → is_for (Key t) came ≡ true → Behind b said asking list asks
by_found b said t asking list asks (Chosen key) need came is = by_need b said key t asking list asks (is_sought (needs b.start (told_of_key key ∷ b.moves))) need came refl
by_found b said t asking list asks (AsksConsent key) need came is = λ ready. quiet_ready _ _ asking list asks (at_key b said asking list t (AsksConsent key) need came) refl ready
by_found b said t asking list asks AsksKey need came is = λ ready. quiet_ready _ _ asking list asks (at_key b said asking list t AsksKey need came) refl ready
by_found b said t asking list asks Denied need came is = λ ready. quiet_ready _ _ asking list asks (at_key b said asking list t Denied need came) refl ready
by_found b said t asking list asks NoneServes need came is = λ ready. quiet_ready _ _ asking list asks (at_key b said asking list t NoneServes need came) refl ready
by_found b said t asking list asks (Offered l) need came is = absurd (never is)
by_found b said t asking list asks (Picked place) need came is = absurd (never is)

by_key : (b : Begun) (said : Said) (asking : Asking) (list : KeyList) (asks : Asks) (need : Need) → needs b.start b.moves ≡ need → IsKey need → Behind b said asking list asks
by_key b said asking list asks Nothing need key = absurd key
by_key b said asking list asks (Key t) need key = by_found b said t asking list asks (found_by t (role_in b.start.template) said asking list) need refl (key_is_for t (role_in b.start.template) said asking list)
by_key b said asking list asks (Offers t) need key = absurd key
by_key b said asking list asks (Pick ts) need key = absurd key
by_key b said asking list asks (Exchange request shape) need key = absurd key

abbrev sought_by : Option Begun → Said → Bool → Standing
sought_by begun said starting = record { begun = begun; phase = Seeking; starting = starting; said = said }

start_ready : (begun : Option Begun) (said : Said) (asking : Asking) (list : KeyList) (asks : Asks) → IsKey (need_in begun) → IsReady asking list (searched_once asking list (sought_by begun said true)) asks → IsReady asking list (searched asking list (sought_by begun said true)) asks
start_ready None said asking list asks key ready = absurd key
start_ready (Some b) said asking list asks key ready = by_key b said asking list asks (needs b.start b.moves) refl key ready

go_ready : (s : Standing) (starting : Bool) (asking : Asking) (list : KeyList) (asks : Asks) → IsKey (need_in s.begun) → IsReady asking list (searched_once asking list (sought_by s.begun s.said starting)) asks → IsReady asking list (searched asking list (sought_by s.begun s.said starting)) asks
go_ready s true asking list asks key ready = start_ready s.begun s.said asking list asks key ready
go_ready s false asking list asks key ready = ready

pub goes_ready : (s : Standing) (asking : Asking) (list : KeyList) (asks : Asks) → IsKey (need_in s.begun) → IsReady asking list (searched_once asking list (in_phase s Seeking)) asks → IsReady asking list (searched asking list (in_phase s Seeking)) asks
goes_ready s asking list asks key ready = go_ready s s.starting asking list asks key ready

-- ---- he isn't asked that

pub none_asked : (phase : Phase) (agrees : Bool) → serial_in phase ≡ None → asks_that (Consented agrees) phase ≡ true → ⊥
none_asked Resting agrees none asks = never asks
none_asked (Waiting request) agrees none asks = never asks
none_asked Seeking agrees none asks = never asks
none_asked (OnConfirm serial) agrees none asks = absurd cc
none_asked OnNeedkey agrees none asks = never asks
none_asked OnServer agrees none asks = never asks
none_asked (Kept answer) agrees none asks = never asks

pub no_key_asked : (phase : Phase) → asks_for_key phase ≡ false → asks_that KeyTold phase ≡ true → ⊥
no_key_asked Resting none asks = never asks
no_key_asked (Waiting request) none asks = never asks
no_key_asked Seeking none asks = never asks
no_key_asked (OnConfirm serial) none asks = never asks
no_key_asked OnNeedkey none asks = never (sym none)
no_key_asked OnServer none asks = never asks
no_key_asked (Kept answer) none asks = never asks
