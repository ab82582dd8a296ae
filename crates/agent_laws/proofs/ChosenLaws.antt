-- The key that a conversation has chosen stays whatever it meets, and so at every later event of one that stands.
use Rattle.std.proofs.Common.{◌≡◌, ℕ, List, [], ◌∷◌, Bool, true, false, cond, eqb, Option, Some, None, refl, sym, ap, subst, ◌∙◌, codes}
use Rattle.attr_tuples.specs.declared.attr.Attr.{Attr}
use Rattle.attr_tuples.specs.Matching.{value_of}
use Rattle.key_lists.specs.Lists.{KeyEntry}
use Rattle.key_lists.specs.CtlLines.{few_of}
use Rattle.roles.specs.declared.answer.StartFault.{StartFault}
use Rattle.roles.specs.declared.need.Need.{Need}
use Rattle.roles.specs.declared.need.Need.TheVariants.{Nothing, Key, Offers, Pick, Exchange}
use Rattle.roles.specs.Answers.{IsKey, is_sought}
use Rattle.roles.specs.Talks.{get, give, heard, unheard, roomless, undone, offered, picked, Call as Move}
use Rattle.talks.specs.Requests.{RpcRequest, starts, reads, writes, asks_info, asks_attributes}
use Rattle.talks.specs.declared.answer.RpcAnswer.TheVariants as a
use Rattle.talks.specs.Answers.{attributes, told_key}
use Rattle.talks.specs.Protocols.{needs, puts, refuses}
use Rattle.talks.specs.Calls as calls
use Rattle.talks.specs.Calls.{Found, Chosen, AsksConsent, AsksKey, Denied, NoneServes, Offered, Picked}
use Rattle.talks.specs.Standings.{Begun, Phase, Resting, Waiting, Seeking, OnConfirm, OnNeedkey, OnServer, Kept, Standing, answered, begin_once, carried_out, chosen_for, if_begun, is_for, kept_key, key_of, made, make_move, need_in, sought, sought_if, standing, start_by, started, taken_back, then_stands, told_of_key, with_key, with_move}
use Rattle.agent_history.specs.declared.event.Event.{Event}
use Rattle.agent_history.specs.Deeds.{Deed, OfFids, OfKeys, OfReplies, OfConnection, OfTalk, OfPrompts, OfLog, Raised, HandedOut, DropTaken, Swept, Halted}
use Rattle.agent_history.specs.Conversations.{chosen_at, chosen_in, conv_of, standing_of, talk}
use Rattle.agent_history.specs.Histories.{History, deeds}
use Rattle.agent_laws.proofs.KindLaws.{KeepsOf, is_done}
use Rattle.agent_laws.proofs.GrowLaws.{conn_of, event_grows, on_its_own}
use Rattle.agent_laws.proofs.PutLaws.{Wants, waits_with_question}
use Rattle.agent_laws.proofs.KeyedLaws.{found_keyed, keyed, keyed_more, keyed_rests, wants_offers}

-- ---- where a key is kept, its role was told of it

abbrev KeyIf : Option KeyEntry → Bool → Type 0
KeyIf None told = Unit {0}
KeyIf (Some key) told = told ≡ true

abbrev IsKeyed : Begun → Type 0
IsKeyed b = KeyIf b.key (keyed b.start b.moves)

abbrev KeyOk : Option Begun → Type 0
KeyOk None = Unit {0}
KeyOk (Some b) = IsKeyed b

abbrev Ok : Standing → Type 0
Ok s = KeyOk s.begun

move_step : (o : Option KeyEntry) (before after : Bool) → (before ≡ true → after ≡ true) → KeyIf o before → KeyIf o after
move_step None before after f h = tt
move_step (Some key) before after f h = f h

move_keyed : (b : Begun) (move : Move) → IsKeyed b → IsKeyed (with_move b move)
move_keyed b move h = move_step b.key (keyed b.start b.moves) (keyed b.start (move ∷ b.moves)) (keyed_more b.start b.moves move) h

found_step : (key : KeyEntry) (need : Need) (told : Bool) → (wants_offers need ≡ false → told ≡ true) → KeyIf (kept_key key need) told
found_step key (Offers template) told f = tt
found_step key (Key template) told f = f refl
found_step key (Pick templates) told f = f refl
found_step key (Exchange request shape) told f = f refl
found_step key Nothing told f = f refl

chosen_keyed : (key : KeyEntry) (b : Begun) → IsKey (needs b.start b.moves) → IsKeyed (chosen_for key b)
chosen_keyed key b wanted =
    found_step key (needs b.start (told_of_key key ∷ b.moves)) (keyed b.start (told_of_key key ∷ b.moves)) (found_keyed b.start b.moves (told_key key) (value_of (codes "!password") key.tuple) wanted)

back_keyed : (starting : Bool) (begun : Option Begun) → KeyOk begun → KeyOk (taken_back starting begun)
back_keyed starting None h = tt
back_keyed true (Some b) h = tt
back_keyed false (Some b) h = move_keyed b undone h

made_keyed : (s : Standing) (move : Move) (begun : Option Begun) → Ok s → KeyOk begun → Ok (made s move begun)
made_keyed s move None h k = h
made_keyed s move (Some b) h k = move_keyed b move k

started_keyed : (s : Standing) (word : List ℕ) (template : List Attr) (fault : Option StartFault) → Ok s → Ok (started s word template fault)
started_keyed s word template (Some fault) h = h
started_keyed s word template None h = tt

start_keyed : (s : Standing) (word : List ℕ) (template : Option (List Attr)) → Ok s → Ok (start_by s word template)
start_keyed s word None h = h
start_keyed s word (Some template) h = started_keyed s word template (refuses template) h

once_keyed : (s : Standing) (word text : List ℕ) (begun : Option Begun) → Ok s → Ok (begin_once s word text begun)
once_keyed s word text (Some b) h = h
once_keyed s word text None h = start_keyed s word (few_of text) h

if_keyed : (s : Standing) (begun : Option Begun) (next : Begun → Standing) → Ok s → ((b : Begun) → IsKeyed b → Ok (next b)) → KeyOk begun → Ok (if_begun s begun next)
if_keyed s None next h f k = h
if_keyed s (Some b) next h f k = f b k

carried_keyed : (s : Standing) (word : List ℕ) (request : RpcRequest) → Ok s → Ok (carried_out s word request)
carried_keyed s word (starts text) h = once_keyed s word text s.begun h
carried_keyed s word reads h = if_keyed s s.begun (λ b. make_move s b get (a.Got (puts b.start b.moves get))) h (λ b k. move_keyed b get k) h
carried_keyed s word (writes message) h = if_keyed s s.begun (λ b. make_move s b (give message) a.Ok) h (λ b k. move_keyed b (give message) k) h
carried_keyed s word asks_info h = h
carried_keyed s word asks_attributes h = if_keyed s s.begun (λ b. answered s (a.Attributes (attributes b.start.template b.key))) h (λ b k. h) h

key_keyed : (s : Standing) (key : KeyEntry) (begun : Option Begun) → IsKey (need_in begun) → Ok s → Ok (with_key s key begun)
key_keyed s key None wanted h = h
key_keyed s key (Some b) wanted h = chosen_keyed key b wanted

wants_key : (need : Need) (key : KeyEntry) → is_for need (Chosen key) ≡ true → IsKey need
wants_key (Key template) key e = tt
wants_key (Offers template) key e = absurd cc
wants_key (Pick templates) key e = absurd cc
wants_key (Exchange request shape) key e = absurd cc
wants_key Nothing key e = absurd cc

sought_keyed : (s : Standing) (came : Found) → is_for (need_in s.begun) came ≡ true → Ok s → Ok (sought s came)
sought_keyed s (Chosen key) e h = key_keyed s key s.begun (wants_key (need_in s.begun) key e) h
sought_keyed s (AsksConsent key) e h = h
sought_keyed s AsksKey e h = h
sought_keyed s Denied e h = back_keyed s.starting s.begun h
sought_keyed s NoneServes e h = back_keyed s.starting s.begun h
sought_keyed s (Offered list) e h = made_keyed s (offered list) s.begun h h
sought_keyed s (Picked place) e h = made_keyed s (picked place) s.begun h h

if_sought : (is : Bool) (s : Standing) (came : Found) → is_for (need_in s.begun) came ≡ is → Ok s → Ok (sought_if is s came)
if_sought true s came e h = sought_keyed s came e h
if_sought false s came e h = h

-- ---- it stays

abbrev Stays : Standing → Standing → Type 0
Stays before now = (key : KeyEntry) → key_of before ≡ Some key → key_of now ≡ Some key

abbrev begun_key : Option Begun → Option KeyEntry
begun_key begun = elim begun [ None ↦ None | Some b ↦ b.key ]

made_stays : (s : Standing) (move : Move) (begun : Option Begun) (key : KeyEntry) → key_of s ≡ Some key → begun_key begun ≡ Some key → key_of (made s move begun) ≡ Some key
made_stays s move None key e f = e
made_stays s move (Some b) key e f = f

-- a conversation that has a key searches for nothing
no_search : (begun : Option Begun) (key : KeyEntry) → KeyOk begun → begun_key begun ≡ Some key → is_sought (need_in begun) ≡ true → ⊥
no_search None key h e sought_ = absurd cc
no_search (Some b) key h e sought_ =
    let told : keyed b.start b.moves ≡ true = subst (λ (o : Option KeyEntry). KeyIf o (keyed b.start b.moves)) e h in
    let no_way : true ≡ false = sym sought_ ∙ keyed_rests b.start b.moves told in
    cc

once_stays : (s : Standing) (word text : List ℕ) (begun : Option Begun) (key : KeyEntry) → key_of s ≡ Some key → begun_key begun ≡ Some key → key_of (begin_once s word text begun) ≡ Some key
once_stays s word text (Some b) key e f = e
once_stays s word text None key e f = absurd cc

if_stays : (s : Standing) (begun : Option Begun) (next : Begun → Standing) (key : KeyEntry) → key_of s ≡ Some key → ((b : Begun) → b.key ≡ Some key → key_of (next b) ≡ Some key) → begun_key begun ≡ Some key → key_of (if_begun s begun next) ≡ Some key
if_stays s None next key e f g = e
if_stays s (Some b) next key e f g = f b g

carried_stays : (s : Standing) (word : List ℕ) (request : RpcRequest) → Stays s (carried_out s word request)
carried_stays s word (starts text) key e = once_stays s word text s.begun key e e
carried_stays s word reads key e = if_stays s s.begun (λ b. make_move s b get (a.Got (puts b.start b.moves get))) key e (λ b f. f) e
carried_stays s word (writes message) key e = if_stays s s.begun (λ b. make_move s b (give message) a.Ok) key e (λ b f. f) e
carried_stays s word asks_info key e = e
carried_stays s word asks_attributes key e = if_stays s s.begun (λ b. answered s (a.Attributes (attributes b.start.template b.key))) key e (λ b f. e) e

-- ---- every call

abbrev Both : Standing → Standing → Type 0
Both before now = Ok now × Stays before now

same : (s : Standing) → Ok s → Both s s
same s h = (h, λ key e. e)

call_both : (s : Standing) (ph : Phase) (call : calls.Call) → Ok s → Wants ph (need_in s.begun) → Both s (then_stands s ph call)
call_both s Resting (calls.Stored asked) h w = (h, λ key e. e)
call_both s Resting (calls.CarriedOut word) h w = same s h
call_both s Resting (calls.Sought came) h w = same s h
call_both s Resting (calls.Consented agrees) h w = same s h
call_both s Resting calls.KeyTold h w = same s h
call_both s Resting calls.Shut h w = same s h
call_both s Resting (calls.Heard bytes) h w = same s h
call_both s Resting calls.Unheard h w = same s h
call_both s Resting calls.Roomless h w = same s h
call_both s Resting calls.Took h w = same s h
call_both s (Waiting request) (calls.Stored asked) h w = same s h
call_both s (Waiting request) (calls.CarriedOut word) h w = (carried_keyed s word request h, carried_stays s word request)
call_both s (Waiting request) (calls.Sought came) h w = same s h
call_both s (Waiting request) (calls.Consented agrees) h w = same s h
call_both s (Waiting request) calls.KeyTold h w = same s h
call_both s (Waiting request) calls.Shut h w = same s h
call_both s (Waiting request) (calls.Heard bytes) h w = same s h
call_both s (Waiting request) calls.Unheard h w = same s h
call_both s (Waiting request) calls.Roomless h w = same s h
call_both s (Waiting request) calls.Took h w = same s h
call_both s Seeking (calls.Stored asked) h w = same s h
call_both s Seeking (calls.CarriedOut word) h w = same s h
call_both s Seeking (calls.Sought came) h w = (if_sought (is_for (need_in s.begun) came) s came refl h, λ key e. absurd (no_search s.begun key h e w))
call_both s Seeking (calls.Consented agrees) h w = same s h
call_both s Seeking calls.KeyTold h w = same s h
call_both s Seeking calls.Shut h w = same s h
call_both s Seeking (calls.Heard bytes) h w = same s h
call_both s Seeking calls.Unheard h w = same s h
call_both s Seeking calls.Roomless h w = same s h
call_both s Seeking calls.Took h w = same s h
call_both s (OnConfirm serial) (calls.Stored asked) h w = same s h
call_both s (OnConfirm serial) (calls.CarriedOut word) h w = same s h
call_both s (OnConfirm serial) (calls.Sought came) h w = same s h
call_both s (OnConfirm serial) (calls.Consented agrees) h w = (h, λ key e. e)
call_both s (OnConfirm serial) calls.KeyTold h w = same s h
call_both s (OnConfirm serial) calls.Shut h w = (back_keyed s.starting s.begun h, λ key e. absurd (no_search s.begun key h e w))
call_both s (OnConfirm serial) (calls.Heard bytes) h w = same s h
call_both s (OnConfirm serial) calls.Unheard h w = same s h
call_both s (OnConfirm serial) calls.Roomless h w = same s h
call_both s (OnConfirm serial) calls.Took h w = same s h
call_both s OnNeedkey (calls.Stored asked) h w = same s h
call_both s OnNeedkey (calls.CarriedOut word) h w = same s h
call_both s OnNeedkey (calls.Sought came) h w = same s h
call_both s OnNeedkey (calls.Consented agrees) h w = same s h
call_both s OnNeedkey calls.KeyTold h w = (h, λ key e. e)
call_both s OnNeedkey calls.Shut h w = (back_keyed s.starting s.begun h, λ key e. absurd (no_search s.begun key h e w))
call_both s OnNeedkey (calls.Heard bytes) h w = same s h
call_both s OnNeedkey calls.Unheard h w = same s h
call_both s OnNeedkey calls.Roomless h w = same s h
call_both s OnNeedkey calls.Took h w = same s h
call_both s OnServer (calls.Stored asked) h w = same s h
call_both s OnServer (calls.CarriedOut word) h w = same s h
call_both s OnServer (calls.Sought came) h w = same s h
call_both s OnServer (calls.Consented agrees) h w = same s h
call_both s OnServer calls.KeyTold h w = same s h
call_both s OnServer calls.Shut h w = same s h
call_both s OnServer (calls.Heard bytes) h w = (made_keyed s (heard bytes) s.begun h h, λ key e. made_stays s (heard bytes) s.begun key e e)
call_both s OnServer calls.Unheard h w = (made_keyed s unheard s.begun h h, λ key e. made_stays s unheard s.begun key e e)
call_both s OnServer calls.Roomless h w = (made_keyed s roomless s.begun h h, λ key e. made_stays s roomless s.begun key e e)
call_both s OnServer calls.Took h w = same s h
call_both s (Kept answer) (calls.Stored asked) h w = same s h
call_both s (Kept answer) (calls.CarriedOut word) h w = same s h
call_both s (Kept answer) (calls.Sought came) h w = same s h
call_both s (Kept answer) (calls.Consented agrees) h w = same s h
call_both s (Kept answer) calls.KeyTold h w = same s h
call_both s (Kept answer) calls.Shut h w = same s h
call_both s (Kept answer) (calls.Heard bytes) h w = same s h
call_both s (Kept answer) calls.Unheard h w = same s h
call_both s (Kept answer) calls.Roomless h w = same s h
call_both s (Kept answer) calls.Took h w = (h, λ key e. e)

talk_keyed : (talk : List calls.Call) → Ok (standing talk)
talk_keyed [] = tt
talk_keyed (call ∷ before) = (call_both (standing before) (standing before).phase call (talk_keyed before) (waits_with_question before)).0

pub key_stays : (talk : List calls.Call) (call : calls.Call) (key : KeyEntry) → key_of (standing talk) ≡ Some key → key_of (standing (call ∷ talk)) ≡ Some key
key_stays talk call key e = (call_both (standing talk) (standing talk).phase call (talk_keyed talk) (waits_with_question talk)).1 key e

-- ---- every event

abbrev HasKey : ℕ → KeyEntry → List Deed → Type 0
HasKey conv key done = key_of (standing_of done conv) ≡ Some key

call_step : (b : Bool) (talk : List calls.Call) (call : calls.Call) (key : KeyEntry) → key_of (standing talk) ≡ Some key → key_of (standing (cond b (call ∷ talk) talk)) ≡ Some key
call_step true talk call key e = key_stays talk call key e
call_step false talk call key e = e

key_more : (conv : ℕ) (key : KeyEntry) (conn : ℕ) → KeepsOf (is_done conn) (HasKey conv key)
key_more conv key conn done (OfTalk at call) kind fits h = call_step (eqb at conv) (talk done conv) call key h
key_more conv key conn done (OfFids at deed) kind fits h = h
key_more conv key conn done (OfKeys at deed) kind fits h = h
key_more conv key conn done (OfReplies at deed) kind fits h = h
key_more conv key conn done (OfConnection at deed) kind fits h = h
key_more conv key conn done (OfPrompts about doing) kind fits h = h
key_more conv key conn done (OfLog doing) kind fits h = h
key_more conv key conn done (Raised at) kind fits h = h
key_more conv key conn done HandedOut kind fits h = h
key_more conv key conn done DropTaken kind fits h = h
key_more conv key conn done Swept kind fits h = h
key_more conv key conn done Halted kind fits h = h

pub key_stays_chosen : (e : Event) (H : History) (conn fid conv : ℕ) (key : KeyEntry) → conv_of (deeds H) conn fid ≡ Some conv → conv_of (deeds (e ∷ H)) conn fid ≡ Some conv → chosen_at (deeds H) conn fid ≡ Some key → chosen_at (deeds (e ∷ H)) conn fid ≡ Some key
key_stays_chosen e H conn fid conv key was stands chosen =
    let before : HasKey conv key (deeds H) = ap (chosen_in (deeds H)) (sym was) ∙ chosen in
    ap (chosen_in (deeds (e ∷ H))) stands ∙ event_grows (HasKey conv key) (conn_of e) (key_more conv key (conn_of e)) e H (on_its_own e) before
