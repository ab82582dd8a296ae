-- A conversation that waits for the authentication server has a question, whose bytes are put out when it is taken.
use Rattle.std.proofs.Common.{◌≡◌, ℕ, List, [], ◌∷◌, Bool, true, false, cond, ltb, ◌&&◌, not, Option, Some, None, refl, sym, ap, subst, ◌∙◌}
use Rattle.std.specs.Prelude.{find}
use Rattle.std.specs.List.{list_all}
use Rattle.std.proofs.lemmas.Bool.{and_parts}
use Rattle.wire_base.specs.declared.shape.Shape.{Shape}
use Rattle.attr_tuples.specs.declared.attr.Attr.{Attr}
use Rattle.key_lists.specs.Lists.{KeyEntry}
use Rattle.key_lists.specs.CtlLines.{few_of}
use Rattle.roles.specs.declared.answer.StartFault.{StartFault}
use Rattle.roles.specs.declared.need.Need.{Need}
use Rattle.roles.specs.declared.need.Need.TheVariants.{Nothing, Key, Offers, Pick, Exchange}
use Rattle.roles.specs.Answers.{is_sought}
use Rattle.roles.specs.Talks.{get, give, heard, unheard, roomless, offered, picked, Call as Move}
use Rattle.talks.specs.Requests.{RpcRequest, starts, reads, writes, asks_info, asks_attributes}
use Rattle.talks.specs.declared.answer.RpcAnswer.{RpcAnswer}
use Rattle.talks.specs.declared.answer.RpcAnswer.TheVariants as a
use Rattle.talks.specs.Answers.{attributes, move_answer}
use Rattle.talks.specs.Protocols.{answers, needs, puts, refuses}
use Rattle.talks.specs.Calls as calls
use Rattle.talks.specs.Calls.{Found, Chosen, AsksConsent, AsksKey, Denied, NoneServes, Offered, Picked}
use Rattle.talks.specs.Standings.{Begun, Phase, Resting, Waiting, Seeking, OnConfirm, OnNeedkey, OnServer, Kept, Standing, answered, begin, begin_once, carried_out, chosen_for, made, if_begun, is_for, make_move, moved, need_in, phase_after, question_of, sought, sought_if, standing, start_by, started, then_stands, told_of_key, with_key, with_move}
use Rattle.agent_history.specs.declared.event.Event.TheVariants.{TakeAsk}
use Rattle.agent_history.specs.declared.event.StepAnswer.TheVariants.{Ask, Stopped}
use Rattle.agent_history.specs.Deeds.{is_halted}
use Rattle.agent_history.specs.Conversations.{Question, next_question, questions, standing_of, talk, stands, Drop, DropDue, QuestionDue, drops, due, due_of}
use Rattle.agent_history.specs.Histories.{History, answer, asks, deeds, put_out}
use Rattle.agent_laws.specs.Laws.{asks_server, is_on_server}
use Rattle.agent_laws.proofs.GrowLaws.{all_are_asked}

-- ---- what waits for the server has a question, and what is searched for is needed

abbrev pub IsAsked : Need → Type 0
IsAsked need = (request : List ℕ) × (shape : Shape) × (need ≡ Exchange request shape)

-- what has to be needed in a phase
abbrev pub Wants : Phase → Need → Type 0
Wants OnServer need = IsAsked need
Wants Seeking need = is_sought need ≡ true
Wants (OnConfirm serial) need = is_sought need ≡ true
Wants OnNeedkey need = is_sought need ≡ true
Wants phase need = Unit {0}

abbrev AsksIf : Standing → Type 0
AsksIf s = Wants s.phase (question_of s)

need_asks : (need : Need) (answer : RpcAnswer) → Wants (phase_after need answer) need
need_asks (Key template) answer = refl
need_asks (Offers template) answer = refl
need_asks (Pick templates) answer = refl
need_asks (Exchange request shape) answer = (request, shape, refl)
need_asks Nothing answer = tt

moved_asks : (s : Standing) (b : Begun) (answer : RpcAnswer) → AsksIf (moved s b answer)
moved_asks s b answer = need_asks (needs b.start b.moves) answer

made_asks : (s : Standing) (b : Begun) (move : Move) (well : RpcAnswer) → AsksIf (make_move s b move well)
made_asks s b move well = moved_asks s (with_move b move) (move_answer well b.key (answers b.start b.moves move))

started_asks : (s : Standing) (word : List ℕ) (template : List Attr) (fault : Option StartFault) → AsksIf (started s word template fault)
started_asks s word template (Some fault) = tt
started_asks s word template None = moved_asks (record { begun = s.begun; phase = s.phase; starting = true; said = s.said }) (begin template word) a.Ok

start_asks : (s : Standing) (word : List ℕ) (template : Option (List Attr)) → AsksIf (start_by s word template)
start_asks s word None = tt
start_asks s word (Some template) = started_asks s word template (refuses template)

once_asks : (s : Standing) (word text : List ℕ) (begun : Option Begun) → AsksIf (begin_once s word text begun)
once_asks s word text (Some b) = tt
once_asks s word text None = start_asks s word (few_of text)

-- a request of a conversation that was begun, or wasn't
carried_asks : (s : Standing) (word : List ℕ) (request : RpcRequest) → AsksIf (carried_out s word request)
carried_asks s word (starts text) = once_asks s word text s.begun
carried_asks s word reads = by_begun s.begun
  where
    by_begun : (o : Option Begun) → AsksIf (if_begun s o (λ b. make_move s b get (a.Got (puts b.start b.moves get))))
    by_begun None = tt
    by_begun (Some b) = made_asks s b get (a.Got (puts b.start b.moves get))
carried_asks s word (writes message) = by_begun s.begun
  where
    by_begun : (o : Option Begun) → AsksIf (if_begun s o (λ b. make_move s b (give message) a.Ok))
    by_begun None = tt
    by_begun (Some b) = made_asks s b (give message) a.Ok
carried_asks s word asks_info = tt
carried_asks s word asks_attributes = by_begun s.begun
  where
    by_begun : (o : Option Begun) → AsksIf (if_begun s o (λ b. answered s (a.Attributes (attributes b.start.template b.key))))
    by_begun None = tt
    by_begun (Some b) = tt

key_asks : (s : Standing) (key : KeyEntry) (begun : Option Begun) → AsksIf s → AsksIf (with_key s key begun)
key_asks s key None p = p
key_asks s key (Some b) p = moved_asks s (chosen_for key b) (move_answer a.Ok (Some key) (answers b.start b.moves (told_of_key key)))

met_asks : (s : Standing) (move : Move) (begun : Option Begun) → AsksIf s → AsksIf (made s move begun)
met_asks s move None p = p
met_asks s move (Some b) p = made_asks s b move a.Ok

sought_asks : (s : Standing) (came : Found) → AsksIf s → is_sought (question_of s) ≡ true → AsksIf (sought s came)
sought_asks s (Chosen key) p q = key_asks s key s.begun p
sought_asks s (AsksConsent serial) p q = q
sought_asks s AsksKey p q = q
sought_asks s Denied p q = tt
sought_asks s NoneServes p q = tt
sought_asks s (Offered list) p q = met_asks s (offered list) s.begun p
sought_asks s (Picked place) p q = met_asks s (picked place) s.begun p

if_asks : (is : Bool) (s : Standing) (came : Found) → AsksIf s → is_sought (question_of s) ≡ true → AsksIf (sought_if is s came)
if_asks true s came p q = sought_asks s came p q
if_asks false s came p q = p

call_asks : (s : Standing) (ph : Phase) (call : calls.Call) → AsksIf s → Wants ph (question_of s) → AsksIf (then_stands s ph call)
call_asks s Resting (calls.Stored asked) p q = tt
call_asks s Resting (calls.CarriedOut word) p q = p
call_asks s Resting (calls.Sought came) p q = p
call_asks s Resting (calls.Consented agrees) p q = p
call_asks s Resting calls.KeyTold p q = p
call_asks s Resting calls.Shut p q = p
call_asks s Resting (calls.Heard bytes) p q = p
call_asks s Resting calls.Unheard p q = p
call_asks s Resting calls.Roomless p q = p
call_asks s Resting calls.Took p q = p
call_asks s (Waiting request) (calls.Stored asked) p q = p
call_asks s (Waiting request) (calls.CarriedOut word) p q = carried_asks s word request
call_asks s (Waiting request) (calls.Sought came) p q = p
call_asks s (Waiting request) (calls.Consented agrees) p q = p
call_asks s (Waiting request) calls.KeyTold p q = p
call_asks s (Waiting request) calls.Shut p q = p
call_asks s (Waiting request) (calls.Heard bytes) p q = p
call_asks s (Waiting request) calls.Unheard p q = p
call_asks s (Waiting request) calls.Roomless p q = p
call_asks s (Waiting request) calls.Took p q = p
call_asks s Seeking (calls.Stored asked) p q = p
call_asks s Seeking (calls.CarriedOut word) p q = p
call_asks s Seeking (calls.Sought came) p q = if_asks (is_for (need_in s.begun) came) s came p q
call_asks s Seeking (calls.Consented agrees) p q = p
call_asks s Seeking calls.KeyTold p q = p
call_asks s Seeking calls.Shut p q = p
call_asks s Seeking (calls.Heard bytes) p q = p
call_asks s Seeking calls.Unheard p q = p
call_asks s Seeking calls.Roomless p q = p
call_asks s Seeking calls.Took p q = p
call_asks s (OnConfirm serial) (calls.Stored asked) p q = p
call_asks s (OnConfirm serial) (calls.CarriedOut word) p q = p
call_asks s (OnConfirm serial) (calls.Sought came) p q = p
call_asks s (OnConfirm serial) (calls.Consented agrees) p q = q
call_asks s (OnConfirm serial) calls.KeyTold p q = p
call_asks s (OnConfirm serial) calls.Shut p q = tt
call_asks s (OnConfirm serial) (calls.Heard bytes) p q = p
call_asks s (OnConfirm serial) calls.Unheard p q = p
call_asks s (OnConfirm serial) calls.Roomless p q = p
call_asks s (OnConfirm serial) calls.Took p q = p
call_asks s OnNeedkey (calls.Stored asked) p q = p
call_asks s OnNeedkey (calls.CarriedOut word) p q = p
call_asks s OnNeedkey (calls.Sought came) p q = p
call_asks s OnNeedkey (calls.Consented agrees) p q = p
call_asks s OnNeedkey calls.KeyTold p q = q
call_asks s OnNeedkey calls.Shut p q = tt
call_asks s OnNeedkey (calls.Heard bytes) p q = p
call_asks s OnNeedkey calls.Unheard p q = p
call_asks s OnNeedkey calls.Roomless p q = p
call_asks s OnNeedkey calls.Took p q = p
call_asks s OnServer (calls.Stored asked) p q = p
call_asks s OnServer (calls.CarriedOut word) p q = p
call_asks s OnServer (calls.Sought came) p q = p
call_asks s OnServer (calls.Consented agrees) p q = p
call_asks s OnServer calls.KeyTold p q = p
call_asks s OnServer calls.Shut p q = p
call_asks s OnServer (calls.Heard bytes) p q = met_asks s (heard bytes) s.begun p
call_asks s OnServer calls.Unheard p q = met_asks s unheard s.begun p
call_asks s OnServer calls.Roomless p q = met_asks s roomless s.begun p
call_asks s OnServer calls.Took p q = p
call_asks s (Kept answer) (calls.Stored asked) p q = p
call_asks s (Kept answer) (calls.CarriedOut word) p q = p
call_asks s (Kept answer) (calls.Sought came) p q = p
call_asks s (Kept answer) (calls.Consented agrees) p q = p
call_asks s (Kept answer) calls.KeyTold p q = p
call_asks s (Kept answer) calls.Shut p q = p
call_asks s (Kept answer) (calls.Heard bytes) p q = p
call_asks s (Kept answer) calls.Unheard p q = p
call_asks s (Kept answer) calls.Roomless p q = p
call_asks s (Kept answer) calls.Took p q = tt

pub waits_with_question : (talk : List calls.Call) → AsksIf (standing talk)
waits_with_question [] = tt
waits_with_question (call ∷ before) = call_asks (standing before) (standing before).phase call (waits_with_question before) (waits_with_question before)

-- ---- what a take of a question puts out

pub on_server : (ph : Phase) → is_on_server ph ≡ true → ph ≡ OnServer
on_server OnServer e = refl
on_server Resting e = absurd cc
on_server (Waiting request) e = absurd cc
on_server Seeking e = absurd cc
on_server (OnConfirm serial) e = absurd cc
on_server OnNeedkey e = absurd cc
on_server (Kept answer) e = absurd cc

found_step : (test : ℕ → Bool) (p : Question → Bool) (q which : Question) (qs : List Question) (b : Bool) → cond b (Some q) (find p qs) ≡ Some which → test q.conv ≡ true → (find p qs ≡ Some which → test which.conv ≡ true) → test which.conv ≡ true
found_step test p q which qs true e h more = let same : q ≡ which = cc in ap (λ (x : Question). test x.conv) (sym same) ∙ h
found_step test p q which qs false e h more = more e

pub found_asks : (test : ℕ → Bool) (p : Question → Bool) (qs : List Question) (which : Question) → find p qs ≡ Some which → list_all (λ q. test q.conv) qs ≡ true → test which.conv ≡ true
found_asks test p [] which e h = absurd cc
found_asks test p (q ∷ qs) which e h =
    let parts = and_parts (test q.conv) (list_all (λ x. test x.conv) qs) h in
    found_step test p q which qs (p q) e parts.0 (λ f. found_asks test p qs which f parts.1)

next_waits : (q question : Question) → due_of [] (Some q) ≡ QuestionDue question → q ≡ question
next_waits q question e = cc

-- a question that is due is one that wasn't handed out
due_first : (drop : Drop) (q question : Question) (b : Bool) → cond b (DropDue drop) (QuestionDue q) ≡ QuestionDue question → q ≡ question
due_first drop q question true e = absurd cc
due_first drop q question false e = cc

pub due_is_next : (drops : List Drop) (next : Option Question) (question : Question) → due_of drops next ≡ QuestionDue question → next ≡ Some question
due_is_next [] None question e = absurd cc
due_is_next [] (Some q) question e = ap Some (next_waits q question e)
due_is_next (drop ∷ more) None question e = absurd cc
due_is_next (drop ∷ more) (Some q) question e = ap Some (due_first drop q question (ltb drop.behind q.call) e)

-- its conversation waits for the server
pub due_waits : (H : History) (question : Question) → due (deeds H) ≡ QuestionDue question → (standing_of (deeds H) question.conv).phase ≡ OnServer
due_waits H question e =
    let done = deeds H in
    let there = found_asks (λ n. stands done n && asks_server done n) (λ q. not q.handed) (questions done) question (due_is_next (drops done) (next_question done) question e) (all_are_asked H) in
    on_server (standing_of done question.conv).phase (and_parts (stands done question.conv) (asks_server done question.conv) there).1

pub asked_there : (ph : Phase) (need : Need) → ph ≡ OnServer → Wants ph need → IsAsked need
asked_there ph need e w = subst (λ (p : Phase). Wants p need) e w

pub question_is_put : (H : History) (question : Question) → is_halted (deeds H) ≡ false → due (deeds H) ≡ QuestionDue question
    → (request : List ℕ) × (shape : Shape) × (answer H TakeAsk ≡ (Ask question.call question.conv shape, request))
question_is_put H question going e =
    let done = deeds H in
    let asked = asked_there (standing_of done question.conv).phase (question_of (standing_of done question.conv)) (due_waits H question e) (waits_with_question (talk done question.conv)) in (
      asked.0,
      asked.1,
      ap (λ (b : Bool). cond b (Stopped, []) (put_out done (due done))) going
          ∙ ap (put_out done) e
          ∙ ap (asks question) asked.2,
    )
