-- What a conversation needs in each phase of its latest request, whatever its talk was; above all that it needs nothing
-- while a request waits.
use Rattle.std.proofs.Common.{◌≡◌, ℕ, List, [], ◌∷◌, Bool, true, false, Option, Some, None, codes, refl, sym, ap, subst, ◌∙◌, ◌⊎◌, inl, inr}
use Rattle.attr_tuples.specs.declared.attr.Attr.{Attr}
use Rattle.attr_tuples.specs.Matching.{value_of}
use Rattle.key_lists.specs.Lists.{KeyEntry}
use Rattle.key_lists.specs.CtlLines.{few_of}
use Rattle.roles.specs.declared.answer.Cause.{Cause}
use Rattle.roles.specs.declared.answer.Cause.TheVariants as cause
use Rattle.roles.specs.declared.answer.Gave.{Gave}
use Rattle.roles.specs.declared.answer.Gave.TheVariants as g
use Rattle.roles.specs.declared.answer.StartFault.{StartFault}
use Rattle.roles.specs.declared.need.Need.{Need}
use Rattle.roles.specs.declared.need.Need.TheVariants.{Nothing, Key, Offers, Pick, Exchange}
use Rattle.roles.specs.Answers.{IsExchange, IsKey, IsOffers, IsPick, is_sought}
use Rattle.roles.specs.Talks.{found, get, give, heard, offered, picked, roomless, undone, unheard, Call as Move}
use Rattle.talks.proofs.Laws.{found_needs, heard_needs, offers_stay, picked_needs, roomless_needs, roomless_tells, undone_needs, unheard_needs, unheard_tells}
use Rattle.talks.specs.Requests.{RpcRequest, starts, reads, writes, asks_info, asks_attributes}
use Rattle.talks.specs.declared.answer.RpcAnswer.{RpcAnswer}
use Rattle.talks.specs.declared.answer.RpcAnswer.TheVariants as a
use Rattle.talks.specs.Answers.{attributes, cause_answer, move_answer, told_key}
use Rattle.talks.specs.Calls.{Call, Found, Chosen, AsksConsent, AsksKey, Denied, NoneServes, Offered, Picked, Stored, CarriedOut, Sought, Consented, KeyTold, Shut, Heard, Unheard, Roomless, Took}
use Rattle.talks.specs.Protocols.{answers, needs, puts, refuses}
use Rattle.talks.specs.Standings.{Begun, Phase, Resting, Waiting, Seeking, OnConfirm, OnNeedkey, OnServer, Kept, Standing, begin, begin_once, carried_out, chosen_for, if_begun, is_for, made, make_move, need_in, phase_after, sought, sought_if, standing, start_by, started, taken_back, then_stands, told_of_key, with_key, with_move}
use Rattle.conversations.specs.Fits.{IsIdle}
use Rattle.conversations.specs.Shown.{asks_user}

-- while something is sought, or its user is asked, nothing is needed once the request is taken back; and he is asked
-- where a key is needed
abbrev Awaits : Option Begun → Bool → Phase → Type 0
Awaits begun starting Resting = need_in begun ≡ Nothing
Awaits begun starting (Waiting request) = (need_in begun ≡ Nothing) × (starting ≡ false)
Awaits begun starting Seeking = need_in (taken_back starting begun) ≡ Nothing
Awaits begun starting (OnConfirm serial) = (need_in (taken_back starting begun) ≡ Nothing) × IsKey (need_in begun)
Awaits begun starting OnNeedkey = (need_in (taken_back starting begun) ≡ Nothing) × IsKey (need_in begun)
Awaits begun starting OnServer = IsExchange (need_in begun)
Awaits begun starting (Kept answer) = need_in begun ≡ Nothing

abbrev AwaitsIn : Standing → Type 0
AwaitsIn s = Awaits s.begun s.starting s.phase

-- ---- the role met a move

-- where something is sought then, nothing is needed once it is taken back
abbrev Returns : Begun → Bool → Type 0
Returns b starting = is_sought (needs b.start b.moves) ≡ true → need_in (taken_back starting (Some b)) ≡ Nothing

leads : (b : Begun) (starting : Bool) (answer : RpcAnswer) (need : Need) → needs b.start b.moves ≡ need → (is_sought need ≡ true → need_in (taken_back starting (Some b)) ≡ Nothing) → Awaits (Some b) starting (phase_after need answer)
leads b starting answer Nothing e back = e
leads b starting answer (Key template) e back = back refl
leads b starting answer (Offers template) e back = back refl
leads b starting answer (Pick templates) e back = back refl
leads b starting answer (Exchange request shape) e back = subst (λ (need : Need). IsExchange need) (sym e) tt

moved_on : (b : Begun) (starting : Bool) (answer : RpcAnswer) → Returns b starting → Awaits (Some b) starting (phase_after (needs b.start b.moves) answer)
moved_on b starting answer back = leads b starting answer (needs b.start b.moves) refl back

differ : true ≡ false → ⊥
differ e = cc

-- from where nothing was needed
from_nothing : (b : Begun) (move : Move) (starting : Bool) → needs b.start b.moves ≡ Nothing → Returns (with_move b move) starting
from_nothing b move true none = λ sought. refl
from_nothing b move false none = λ sought. undone_needs b.start b.moves move none sought

-- from where something was sought, and nothing is after it
from_unsought : (b : Begun) (starting : Bool) → is_sought (needs b.start b.moves) ≡ false → Returns b starting
from_unsought b starting none = λ sought. absurd (differ (sym sought ∙ none))

-- a key was found
wants_key : (need : Need) (key : KeyEntry) → is_for need (Chosen key) ≡ true → IsKey need
wants_key (Key template) key e = tt
wants_key (Offers template) key e = absurd (differ (sym e))
wants_key (Pick templates) key e = absurd (differ (sym e))
wants_key (Exchange request shape) key e = absurd (differ (sym e))
wants_key Nothing key e = absurd (differ (sym e))

asks_consent : (need : Need) (key : KeyEntry) → is_for need (AsksConsent key) ≡ true → IsKey need
asks_consent (Key template) key e = tt
asks_consent (Offers template) key e = absurd (differ (sym e))
asks_consent (Pick templates) key e = absurd (differ (sym e))
asks_consent (Exchange request shape) key e = absurd (differ (sym e))
asks_consent Nothing key e = absurd (differ (sym e))

asks_key : (need : Need) → is_for need AsksKey ≡ true → IsKey need
asks_key (Key template) e = tt
asks_key (Offers template) e = absurd (differ (sym e))
asks_key (Pick templates) e = absurd (differ (sym e))
asks_key (Exchange request shape) e = absurd (differ (sym e))
asks_key Nothing e = absurd (differ (sym e))

from_found : (b : Begun) (key : KeyEntry) (starting : Bool) → is_for (needs b.start b.moves) (Chosen key) ≡ true → need_in (taken_back starting (Some b)) ≡ Nothing → Returns (chosen_for key b) starting
from_found b key true wanted none = λ sought. refl
from_found b key false wanted none = from_unsought (chosen_for key b) false (found_needs b.start b.moves (told_key key) (value_of (codes "!password") key.tuple) (wants_key (needs b.start b.moves) key wanted) none)

-- a list of offers came
wants_offers : (need : Need) (list : List ℕ) → is_for need (Offered list) ≡ true → IsOffers need
wants_offers (Key template) list e = absurd (differ (sym e))
wants_offers (Offers template) list e = tt
wants_offers (Pick templates) list e = absurd (differ (sym e))
wants_offers (Exchange request shape) list e = absurd (differ (sym e))
wants_offers Nothing list e = absurd (differ (sym e))

from_offered : (b : Begun) (list : List ℕ) (starting : Bool) → is_for (needs b.start b.moves) (Offered list) ≡ true → need_in (taken_back starting (Some b)) ≡ Nothing → Returns (with_move b (offered list)) starting
from_offered b list true wanted none = λ sought. refl
from_offered b list false wanted none = absurd (offers_stay b.start b.moves (wants_offers (needs b.start b.moves) list wanted) none)

-- a place was picked
wants_pick : (need : Need) (place : ℕ) → is_for need (Picked place) ≡ true → IsPick need
wants_pick (Key template) place e = absurd (differ (sym e))
wants_pick (Offers template) place e = absurd (differ (sym e))
wants_pick (Pick templates) place e = tt
wants_pick (Exchange request shape) place e = absurd (differ (sym e))
wants_pick Nothing place e = absurd (differ (sym e))

from_picked : (b : Begun) (place : ℕ) (starting : Bool) → is_for (needs b.start b.moves) (Picked place) ≡ true → Returns (with_move b (picked place)) starting
from_picked b place starting wanted = from_unsought (with_move b (picked place)) starting (picked_needs b.start b.moves place (wants_pick (needs b.start b.moves) place wanted))

-- from where the authentication server was asked
from_exchange : (b : Begun) (move : Move) (starting : Bool) → needs b.start (move ∷ b.moves) ≡ Nothing → Returns (with_move b move) starting
from_exchange b move starting none = from_unsought (with_move b move) starting (ap (λ (need : Need). is_sought need) none)

-- ---- each call of a talk

tries : (s : Standing) (word : List ℕ) (template : List Attr) (fault : Option StartFault) → need_in s.begun ≡ Nothing → AwaitsIn (started s word template fault)
tries s word template (Some fault) none = none
tries s word template None none = moved_on (begin template word) true a.Ok (λ key. refl)

starts_by : (s : Standing) (word : List ℕ) (template : Option (List Attr)) → need_in s.begun ≡ Nothing → AwaitsIn (start_by s word template)
starts_by s word None none = none
starts_by s word (Some template) none = tries s word template (refuses template) none

starts_once : (s : Standing) (word text : List ℕ) (begun : Option Begun) → need_in s.begun ≡ Nothing → AwaitsIn (begin_once s word text begun)
starts_once s word text (Some b) none = none
starts_once s word text None none = starts_by s word (few_of text) none

reads_on : (s : Standing) (begun : Option Begun) → need_in s.begun ≡ Nothing → need_in begun ≡ Nothing → AwaitsIn (if_begun s begun (λ b. make_move s b get (a.Got (puts b.start b.moves get))))
reads_on s None none free = none
reads_on s (Some b) none free = moved_on (with_move b get) s.starting (move_answer (a.Got (puts b.start b.moves get)) b.key (answers b.start b.moves get)) (from_nothing b get s.starting free)

writes_on : (s : Standing) (message : List ℕ) (begun : Option Begun) → need_in s.begun ≡ Nothing → need_in begun ≡ Nothing → AwaitsIn (if_begun s begun (λ b. make_move s b (give message) a.Ok))
writes_on s message None none free = none
writes_on s message (Some b) none free = moved_on (with_move b (give message)) s.starting (move_answer a.Ok b.key (answers b.start b.moves (give message))) (from_nothing b (give message) s.starting free)

shows_on : (s : Standing) (begun : Option Begun) → need_in s.begun ≡ Nothing → AwaitsIn (if_begun s begun (λ b. record { begun = s.begun; phase = Kept (a.Attributes (attributes b.start.template b.key)); starting = s.starting; said = s.said }))
shows_on s None none = none
shows_on s (Some b) none = none

carries_out : (s : Standing) (word : List ℕ) (request : RpcRequest) → need_in s.begun ≡ Nothing → AwaitsIn (carried_out s word request)
carries_out s word (starts text) none = starts_once s word text s.begun none
carries_out s word reads none = reads_on s s.begun none none
carries_out s word (writes message) none = writes_on s message s.begun none none
carries_out s word asks_info none = none
carries_out s word asks_attributes none = shows_on s s.begun none

takes_key : (s : Standing) (key : KeyEntry) (begun : Option Begun) → AwaitsIn s → is_for (need_in begun) (Chosen key) ≡ true → need_in (taken_back s.starting begun) ≡ Nothing → AwaitsIn (with_key s key begun)
takes_key s key None same wanted none = same
takes_key s key (Some b) same wanted none =
    moved_on (chosen_for key b) s.starting (move_answer a.Ok (Some key) (answers b.start b.moves (told_of_key key)))
    (from_found b key s.starting wanted none)

takes_offers : (s : Standing) (list : List ℕ) (begun : Option Begun) → AwaitsIn s → is_for (need_in begun) (Offered list) ≡ true → need_in (taken_back s.starting begun) ≡ Nothing → AwaitsIn (made s (offered list) begun)
takes_offers s list None same wanted none = same
takes_offers s list (Some b) same wanted none = moved_on (with_move b (offered list)) s.starting (move_answer a.Ok b.key (answers b.start b.moves (offered list))) (from_offered b list s.starting wanted none)

takes_pick : (s : Standing) (place : ℕ) (begun : Option Begun) → AwaitsIn s → is_for (need_in begun) (Picked place) ≡ true → AwaitsIn (made s (picked place) begun)
takes_pick s place None same wanted = same
takes_pick s place (Some b) same wanted = moved_on (with_move b (picked place)) s.starting (move_answer a.Ok b.key (answers b.start b.moves (picked place))) (from_picked b place s.starting wanted)

searches_on : (s : Standing) (came : Found) → AwaitsIn s → is_for (need_in s.begun) came ≡ true → need_in (taken_back s.starting s.begun) ≡ Nothing → AwaitsIn (sought s came)
searches_on s (Chosen key) same wanted none = takes_key s key s.begun same wanted none
searches_on s (AsksConsent key) same wanted none = (none, asks_consent (need_in s.begun) key wanted)
searches_on s AsksKey same wanted none = (none, asks_key (need_in s.begun) wanted)
searches_on s Denied same wanted none = none
searches_on s NoneServes same wanted none = none
searches_on s (Offered list) same wanted none = takes_offers s list s.begun same wanted none
searches_on s (Picked place) same wanted none = takes_pick s place s.begun same wanted

searches_if : (s : Standing) (came : Found) (wanted : Bool) → is_for (need_in s.begun) came ≡ wanted → AwaitsIn s → need_in (taken_back s.starting s.begun) ≡ Nothing → AwaitsIn (sought_if wanted s came)
searches_if s came true e same none = searches_on s came same e none
searches_if s came false e same none = same

-- the authentication server is done with: nothing is needed then
abbrev Frees : Move → Type 0
Frees move = (b : Begun) → IsExchange (needs b.start b.moves) → needs b.start (move ∷ b.moves) ≡ Nothing

hears : (s : Standing) (move : Move) (begun : Option Begun) → AwaitsIn s → Frees move → IsExchange (need_in begun) → AwaitsIn (made s move begun)
hears s move None same frees exchange = same
hears s move (Some b) same frees exchange = moved_on (with_move b move) s.starting (move_answer a.Ok b.key (answers b.start b.moves move)) (from_exchange b move s.starting (frees b exchange))

goes_on : (s : Standing) (phase : Phase) (call : Call) → Awaits s.begun s.starting phase → AwaitsIn s → AwaitsIn (then_stands s phase call)
goes_on s Resting (Stored r) is same = (is, refl)
goes_on s Resting (CarriedOut word) is same = same
goes_on s Resting (Sought came) is same = same
goes_on s Resting (Consented agrees) is same = same
goes_on s Resting KeyTold is same = same
goes_on s Resting Shut is same = same
goes_on s Resting (Heard bytes) is same = same
goes_on s Resting Unheard is same = same
goes_on s Resting Roomless is same = same
goes_on s Resting Took is same = same
goes_on s (Waiting request) (Stored r) is same = same
goes_on s (Waiting request) (CarriedOut word) is same = carries_out s word request is.0
goes_on s (Waiting request) (Sought came) is same = same
goes_on s (Waiting request) (Consented agrees) is same = same
goes_on s (Waiting request) KeyTold is same = same
goes_on s (Waiting request) Shut is same = same
goes_on s (Waiting request) (Heard bytes) is same = same
goes_on s (Waiting request) Unheard is same = same
goes_on s (Waiting request) Roomless is same = same
goes_on s (Waiting request) Took is same = same
goes_on s Seeking (Stored r) is same = same
goes_on s Seeking (CarriedOut word) is same = same
goes_on s Seeking (Sought came) is same = searches_if s came (is_for (need_in s.begun) came) refl same is
goes_on s Seeking (Consented agrees) is same = same
goes_on s Seeking KeyTold is same = same
goes_on s Seeking Shut is same = same
goes_on s Seeking (Heard bytes) is same = same
goes_on s Seeking Unheard is same = same
goes_on s Seeking Roomless is same = same
goes_on s Seeking Took is same = same
goes_on s (OnConfirm serial) (Stored r) is same = same
goes_on s (OnConfirm serial) (CarriedOut word) is same = same
goes_on s (OnConfirm serial) (Sought came) is same = same
goes_on s (OnConfirm serial) (Consented agrees) is same = is.0
goes_on s (OnConfirm serial) KeyTold is same = same
goes_on s (OnConfirm serial) Shut is same = is.0
goes_on s (OnConfirm serial) (Heard bytes) is same = same
goes_on s (OnConfirm serial) Unheard is same = same
goes_on s (OnConfirm serial) Roomless is same = same
goes_on s (OnConfirm serial) Took is same = same
goes_on s OnNeedkey (Stored r) is same = same
goes_on s OnNeedkey (CarriedOut word) is same = same
goes_on s OnNeedkey (Sought came) is same = same
goes_on s OnNeedkey (Consented agrees) is same = same
goes_on s OnNeedkey KeyTold is same = is.0
goes_on s OnNeedkey Shut is same = is.0
goes_on s OnNeedkey (Heard bytes) is same = same
goes_on s OnNeedkey Unheard is same = same
goes_on s OnNeedkey Roomless is same = same
goes_on s OnNeedkey Took is same = same
goes_on s OnServer (Stored r) is same = same
goes_on s OnServer (CarriedOut word) is same = same
goes_on s OnServer (Sought came) is same = same
goes_on s OnServer (Consented agrees) is same = same
goes_on s OnServer KeyTold is same = same
goes_on s OnServer Shut is same = same
goes_on s OnServer (Heard bytes) is same = hears s (heard bytes) s.begun same (λ b exchange. heard_needs b.start b.moves bytes exchange) is
goes_on s OnServer Unheard is same = hears s unheard s.begun same (λ b exchange. unheard_needs b.start b.moves exchange) is
goes_on s OnServer Roomless is same = hears s roomless s.begun same (λ b exchange. roomless_needs b.start b.moves exchange) is
goes_on s OnServer Took is same = same
goes_on s (Kept answer) (Stored r) is same = same
goes_on s (Kept answer) (CarriedOut word) is same = same
goes_on s (Kept answer) (Sought came) is same = same
goes_on s (Kept answer) (Consented agrees) is same = same
goes_on s (Kept answer) KeyTold is same = same
goes_on s (Kept answer) Shut is same = same
goes_on s (Kept answer) (Heard bytes) is same = same
goes_on s (Kept answer) Unheard is same = same
goes_on s (Kept answer) Roomless is same = same
goes_on s (Kept answer) Took is same = is

awaits : (talk : List Call) → AwaitsIn (standing talk)
awaits [] = refl
awaits (call ∷ before) = goes_on (standing before) (standing before).phase call (awaits before) (awaits before)

-- while a request waits, nothing is needed, and it is no start that was carried out
idle : (s : Standing) (phase : Phase) (request : RpcRequest) → phase ≡ Waiting request → Awaits s.begun s.starting phase → IsIdle s
idle s phase request waits is = let both : Awaits s.begun s.starting (Waiting request) = subst (λ (p : Phase). Awaits s.begun s.starting p) waits is in record { free = both.0; starting = both.1 }

pub waits_idle : (talk : List Call) (request : RpcRequest) → (standing talk).phase ≡ Waiting request → IsIdle (standing talk)
waits_idle talk request waits = idle (standing talk) (standing talk).phase request waits (awaits talk)

-- while its user is asked, a key is needed
key_needed : (begun : Option Begun) (starting : Bool) (phase : Phase) → asks_user phase ≡ true → Awaits begun starting phase → IsKey (need_in begun)
key_needed begun starting Resting e is = absurd (differ (sym e))
key_needed begun starting (Waiting request) e is = absurd (differ (sym e))
key_needed begun starting Seeking e is = absurd (differ (sym e))
key_needed begun starting (OnConfirm serial) e is = is.1
key_needed begun starting OnNeedkey e is = is.1
key_needed begun starting OnServer e is = absurd (differ (sym e))
key_needed begun starting (Kept answer) e is = absurd (differ (sym e))

pub asks_for_key : (talk : List Call) → asks_user (standing talk).phase ≡ true → IsKey (need_in (standing talk).begun)
asks_for_key talk e = key_needed (standing talk).begun (standing talk).starting (standing talk).phase e (awaits talk)

-- ---- the authentication server is done with

-- while it is asked, its answer is needed
asked_in : (s : Standing) (phase : Phase) → phase ≡ OnServer → Awaits s.begun s.starting phase → IsExchange (need_in s.begun)
asked_in s phase asks is = subst (λ (p : Phase). Awaits s.begun s.starting p) asks is

is_asked : (talk : List Call) → (standing talk).phase ≡ OnServer → IsExchange (need_in (standing talk).begun)
is_asked talk asks = asked_in (standing talk) (standing talk).phase asks (awaits talk)

-- and this is told
abbrev Tells : Move → Cause → Type 0
Tells move why = (b : Begun) → IsExchange (needs b.start b.moves) → answers b.start b.moves move ≡ g.Refused why

rests : (s : Standing) (move : Move) (begun : Option Begun) → Frees move → IsExchange (need_in begun) → (answer : RpcAnswer) × ((made s move begun).phase ≡ Kept answer)
rests s move None frees exchange = absurd exchange
rests s move (Some b) frees exchange =
    (move_answer a.Ok b.key (answers b.start b.moves move), ap (λ (need : Need). phase_after need (move_answer a.Ok b.key (answers b.start b.moves move))) (frees b exchange))

tells : (s : Standing) (move : Move) (why : Cause) (answer : RpcAnswer) (begun : Option Begun) → Frees move → Tells move why → ((key : Option KeyEntry) → cause_answer key why ≡ answer) → IsExchange (need_in begun) → (made s move begun).phase ≡ Kept answer
tells s move why answer None frees told is exchange = absurd exchange
tells s move why answer (Some b) frees told is exchange =
    ap (λ (need : Need). phase_after need (move_answer a.Ok b.key (answers b.start b.moves move))) (frees b exchange)
    ∙ (ap (λ (gave : Gave). Kept (move_answer a.Ok b.key gave)) (told b exchange) ∙ ap (λ (answer : RpcAnswer). Kept answer) (is b.key))

-- whatever it answered, there is an answer to the request
pub heard_rests : (talk : List Call) (bytes : List ℕ) → (standing talk).phase ≡ OnServer → (answer : RpcAnswer) × ((standing (Heard bytes ∷ talk)).phase ≡ Kept answer)
heard_rests talk bytes asks =
    subst (λ (phase : Phase). (answer : RpcAnswer) × ((then_stands (standing talk) phase (Heard bytes)).phase ≡ Kept answer)) (sym asks)
    (rests (standing talk) (heard bytes) (standing talk).begun (λ b exchange. heard_needs b.start b.moves bytes exchange) (is_asked talk asks))

-- it wasn't reached, or there was no memory for its answer
pub unheard_rests : (talk : List Call) → (standing talk).phase ≡ OnServer → (standing (Unheard ∷ talk)).phase ≡ Kept a.NoServer
unheard_rests talk asks =
    subst (λ (phase : Phase). (then_stands (standing talk) phase Unheard).phase ≡ Kept a.NoServer) (sym asks)
    (tells (standing talk) unheard cause.NoServer a.NoServer (standing talk).begun (λ b exchange. unheard_needs b.start b.moves exchange) (λ b exchange. unheard_tells b.start b.moves exchange) (λ key. refl) (is_asked talk asks))

pub roomless_rests : (talk : List Call) → (standing talk).phase ≡ OnServer → (standing (Roomless ∷ talk)).phase ≡ Kept a.NoRoom
roomless_rests talk asks =
    subst (λ (phase : Phase). (then_stands (standing talk) phase Roomless).phase ≡ Kept a.NoRoom) (sym asks)
    (tells (standing talk) roomless cause.NoRoom a.NoRoom (standing talk).begun (λ b exchange. roomless_needs b.start b.moves exchange) (λ b exchange. roomless_tells b.start b.moves exchange) (λ key. refl) (is_asked talk asks))
