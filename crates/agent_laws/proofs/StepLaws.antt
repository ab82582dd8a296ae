-- What a conversation meets, and what follows on it: its question is raised where it asks the authentication server, its user is
-- asked where a search comes to that, and its answer is given to the read that waits for it. The others stay as they were.
use Rattle.std.proofs.Common.{◌≡◌, ℕ, ◌≤◌, List, [], ◌∷◌, length, map, Bool, true, false, cond, eqb, ltb, ◌||◌, not, Option, Some, None, refl, sym, ap, subst, ◌∙◌, arith}
use Rattle.std.specs.Prelude.{find, option_map}
use Rattle.std.specs.List.{filter, list_all, list_any, IsDistinct}
use Rattle.std.proofs.lemmas.Bool.{and_parts, eq-eqb, eqb-true, ltb-true, ne_eqb, or_parts}
use Rattle.attr_tuples.proofs.EqualityLemmas.{eqb_swap}
use Rattle.attr_tuples.specs.Printing.{public_text}
use Rattle.roles.specs.Templates.{shown_text}
use Rattle.nine.specs.declared.message.RBody.{RBody}
use Rattle.roles.specs.declared.need.Need.{Need}
use Rattle.roles.specs.declared.need.Need.TheVariants.{Nothing, Key, Offers, Pick, Exchange}
use Rattle.roles.specs.declared.answer.StartFault.{StartFault}
use Rattle.roles.specs.Talks.{get, give, offered, picked, Call as Move}
use Rattle.attr_tuples.specs.declared.attr.Attr.{Attr}
use Rattle.key_lists.specs.CtlLines.{few_of}
use Rattle.side_files.specs.declared.line.PromptKind.{PromptKind}
use Rattle.side_files.specs.declared.line.PromptKind.TheVariants as pk
use Rattle.side_files.specs.Calls as side
use Rattle.side_files.specs.Questions.{next_line}
use Rattle.talks.specs.Requests.{RpcRequest}
use Rattle.talks.specs.Requests as rpc
use Rattle.talks.specs.declared.answer.RpcAnswer.{RpcAnswer}
use Rattle.talks.specs.declared.answer.RpcAnswer.TheVariants as a
use Rattle.talks.specs.Answers.{attributes, move_answer}
use Rattle.talks.specs.Protocols.{answers, needs, puts, refuses}
use Rattle.talks.specs.Calls as calls
use Rattle.talks.specs.Standings.{Begun, Phase, Resting, Waiting, Seeking, OnConfirm, OnNeedkey, OnServer, Kept, Standing, answered, begin, begin_once, carried_out, chosen_for, finds, if_begun, is_for, made, make_move, moved, need_in, phase_after, sought_if, standing, start_by, started, template_of, then_stands, told_of_key, with_key, with_move}
use Rattle.talks.specs.Standings as stands_by
use Rattle.agent_history.specs.Deeds.{Deed, OfFids, OfKeys, OfReplies, OfConnection, OfTalk, OfPrompts, OfLog, Raised, HandedOut, DropTaken, Swept, Halted, Answered, Awaited, Settled, Flushed, Taken, keys_of}
use Rattle.agent_history.specs.Replies.{Wait, is_unsettled, settle_tag, settled_by, waits}
use Rattle.agent_history.specs.SideFiles.{all_served, askers, prompt_calls, prompts_of}
use Rattle.agent_history.specs.Conversations.{Question, Speaker, asking, conv_of, deliver_to, delivered, fits, give_to, met, opened_talks, prompting, questions, raising, reader_of, seeking, seeking_all, sought, sought_once, speaker_of, speakers, standing_of, talk, then_logged, then_raised, then_sought, told}
use Rattle.agent_history.specs.Requests.{has_answer}
use Rattle.agent_laws.specs.Laws.{asks_user, has_question, is_on_server}
use Rattle.agent_laws.proofs.AskLaws.{or_more}
use Rattle.agent_laws.proofs.ConversationLaws.{Rise, SpeakersRise, any_append, any_kept, both_same, is_at, number, rise_parts}
use Rattle.agent_laws.proofs.GrowLaws.{KeepsAny}
use Rattle.agent_laws.proofs.KindLaws.{is_met}
use Rattle.agent_laws.proofs.MetLaws.{is_reader}
use Rattle.agent_laws.proofs.PromptLaws.{asked_more, askers_in}
use Rattle.agent_laws.proofs.SettleLaws.{tag_same}
use Rattle.agent_laws.proofs.ViewLaws.{AllMet, Grows, Met, Seen, alike_met, alike_then, grows_same, idle_from, logged_alike, no_reads, seen, served_alike, settle_idle, settled_off, wants, wants_more}
use Rattle.agent_laws.proofs.WaitLaws.{found_number}

-- ---- phases in which an answer is there, or something is got for it

abbrev pub is_up : Phase → Bool
is_up Resting = false
is_up (Waiting request) = false
is_up Seeking = true
is_up (OnConfirm serial) = false
is_up OnNeedkey = false
is_up OnServer = true
is_up (Kept answer) = true

up_wants : (v : Seen) (ph : Phase) → is_up ph ≡ true → wants false false v ph ≡ true
up_wants v Resting up = absurd cc
up_wants v (Waiting request) up = absurd cc
up_wants v Seeking up = refl
up_wants v (OnConfirm serial) up = absurd cc
up_wants v OnNeedkey up = absurd cc
up_wants v OnServer up = refl
up_wants v (Kept answer) up = refl

after_up : (need : Need) (answer : RpcAnswer) → is_up (phase_after need answer) ≡ true
after_up (Key template) answer = refl
after_up (Offers template) answer = refl
after_up (Pick templates) answer = refl
after_up (Exchange request shape) answer = refl
after_up Nothing answer = refl

moved_up : (s : Standing) (b : Begun) (answer : RpcAnswer) → is_up (moved s b answer).phase ≡ true
moved_up s b answer = after_up (needs b.start b.moves) answer

move_up : (s : Standing) (b : Begun) (move : Move) (well : RpcAnswer) → is_up (make_move s b move well).phase ≡ true
move_up s b move well = moved_up s (with_move b move) (move_answer well b.key (answers b.start b.moves move))

started_up : (s : Standing) (word : List ℕ) (template : List Attr) (fault : Option StartFault) → is_up (started s word template fault).phase ≡ true
started_up s word template (Some fault) = refl
started_up s word template None = moved_up (record { begun = s.begun; phase = s.phase; starting = true; said = s.said }) (begin template word) a.Ok

start_up : (s : Standing) (word : List ℕ) (template : Option (List Attr)) → is_up (start_by s word template).phase ≡ true
start_up s word None = refl
start_up s word (Some template) = started_up s word template (refuses template)

once_up : (s : Standing) (word text : List ℕ) (begun : Option Begun) → is_up (begin_once s word text begun).phase ≡ true
once_up s word text (Some b) = refl
once_up s word text None = start_up s word (few_of text)

pub carried_up : (s : Standing) (word : List ℕ) (request : RpcRequest) → is_up (carried_out s word request).phase ≡ true
carried_up s word (rpc.starts text) = once_up s word text s.begun
carried_up s word rpc.reads = by_begun s.begun
  where
    by_begun : (o : Option Begun) → is_up (if_begun s o (λ b. make_move s b get (a.Got (puts b.start b.moves get)))).phase ≡ true
    by_begun None = refl
    by_begun (Some b) = move_up s b get (a.Got (puts b.start b.moves get))
carried_up s word (rpc.writes message) = by_begun s.begun
  where
    by_begun : (o : Option Begun) → is_up (if_begun s o (λ b. make_move s b (give message) a.Ok)).phase ≡ true
    by_begun None = refl
    by_begun (Some b) = move_up s b (give message) a.Ok
carried_up s word rpc.asks_info = refl
carried_up s word rpc.asks_attributes = by_begun s.begun
  where
    by_begun : (o : Option Begun) → is_up (if_begun s o (λ b. answered s (a.Attributes (attributes b.start.template b.key)))).phase ≡ true
    by_begun None = refl
    by_begun (Some b) = refl

pub made_up : (s : Standing) (move : Move) (begun : Option Begun) → is_up s.phase ≡ true → is_up (made s move begun).phase ≡ true
made_up s move None up = up
made_up s move (Some b) up = move_up s b move a.Ok

-- ---- a step that concerns one conversation

pub step_met : (c : ℕ) (raised given raised2 given2 : Bool) (old new : List Deed) → ((conn fid conv : ℕ) → conv_of new conn fid ≡ Some conv → conv_of old conn fid ≡ Some conv)
    → ((conn fid conv : ℕ) → eqb c conv ≡ false → conv_of new conn fid ≡ Some conv → Grows (seen old conn fid conv) (seen new conn fid conv)) → ((conv : ℕ) → eqb c conv ≡ false → talk new conv ≡ talk old conv)
    → ((conn fid conv : ℕ) → eqb c conv ≡ true → conv_of new conn fid ≡ Some conv → wants raised given (seen old conn fid conv) (standing_of old conv).phase ≡ true → wants raised2 given2 (seen new conn fid conv) (standing_of new conv).phase ≡ true)
    → Met c raised given old → Met c raised2 given2 new
step_met c raised given raised2 given2 old new seats sees talks own m conn fid conv true e at = own conn fid conv e at (m conn fid conv true e (seats conn fid conv at))
step_met c raised given raised2 given2 old new seats sees talks own m conn fid conv false e at =
    wants_more true true (seen old conn fid conv) (seen new conn fid conv) (standing_of new conv).phase (sees conn fid conv e at)
    (subst (λ ph. wants true true (seen old conn fid conv) ph ≡ true) (ap (λ t. (standing t).phase) (sym (talks conv e))) (m conn fid conv false e (seats conn fid conv at)))

-- what one met, and what the others
pub own_talk : (c : ℕ) (call : calls.Call) (done : List Deed) (conv : ℕ) → eqb c conv ≡ true → standing_of (OfTalk c call ∷ done) conv ≡ then_stands (standing_of done conv) (standing_of done conv).phase call
own_talk c call done conv e = ap (λ (b : Bool). standing (cond b (call ∷ talk done conv) (talk done conv))) e

pub other_talk : (c : ℕ) (call : calls.Call) (done : List Deed) (conv : ℕ) → eqb c conv ≡ false → talk (OfTalk c call ∷ done) conv ≡ talk done conv
other_talk c call done conv e = ap (λ (b : Bool). cond b (call ∷ talk done conv) (talk done conv)) e

-- an answer takes no question of another
questions_left : (c conv : ℕ) (done : List Deed) → eqb c conv ≡ false → list_any (λ q. eqb q.conv conv) (filter (λ q. not (eqb q.conv c)) (questions done)) ≡ has_question done conv
questions_left c conv done e =
    any_kept (λ (q : Question). eqb q.conv conv) (λ (q : Question). not (eqb q.conv c)) (questions done)
    (λ q is. ap not (ap (λ (n : ℕ). eqb n c) (eqb-true q.conv conv is) ∙ eqb_swap conv c ∙ e))

call_question : (c : ℕ) (call : calls.Call) (done : List Deed) (conv : ℕ) → eqb c conv ≡ false → has_question (OfTalk c call ∷ done) conv ≡ has_question done conv
call_question c (calls.Heard bytes) done conv e = questions_left c conv done e
call_question c calls.Unheard done conv e = questions_left c conv done e
call_question c calls.Roomless done conv e = questions_left c conv done e
call_question c (calls.Stored request) done conv e = refl
call_question c (calls.CarriedOut word) done conv e = refl
call_question c (calls.Sought found) done conv e = refl
call_question c (calls.Consented agrees) done conv e = refl
call_question c calls.KeyTold done conv e = refl
call_question c calls.Shut done conv e = refl
call_question c calls.Took done conv e = refl

call_sees : (c : ℕ) (call : calls.Call) (done : List Deed) (conn fid conv : ℕ) → eqb c conv ≡ false → Grows (seen done conn fid conv) (seen (OfTalk c call ∷ done) conn fid conv)
call_sees c call done conn fid conv e = record { idle = λ is. is; asked = λ is. call_question c call done conv e ∙ is; confirm = λ is. is; needkey = λ is. is }

-- ---- what begins it: all others have what they want

abbrev pub Others : ℕ → List Deed → Type 0
Others c done = (conn fid conv : ℕ) → eqb c conv ≡ false → conv_of done conn fid ≡ Some conv → wants true true (seen done conn fid conv) (standing_of done conv).phase ≡ true

pub others_of_all : (c : ℕ) (done : List Deed) → AllMet done → Others c done
others_of_all c done all conn fid conv e at = all conn fid conv at

pub begin_met : (c : ℕ) (call : calls.Call) (done : List Deed) → Others c done → is_up (then_stands (standing_of done c) (standing_of done c).phase call).phase ≡ true → Met c false false (OfTalk c call ∷ done)
begin_met c call done others up conn fid conv true e at =
    let now : is_up (then_stands (standing_of done conv) (standing_of done conv).phase call).phase ≡ true = subst (λ n. is_up (then_stands (standing_of done n) (standing_of done n).phase call).phase ≡ true) (eqb-true c conv e) up in
    up_wants (seen (OfTalk c call ∷ done) conn fid conv) (standing_of (OfTalk c call ∷ done) conv).phase (ap (λ (s : Standing). is_up s.phase) (own_talk c call done conv e) ∙ now)
begin_met c call done others up conn fid conv false e at =
    wants_more true true (seen done conn fid conv) (seen (OfTalk c call ∷ done) conn fid conv) (standing_of (OfTalk c call ∷ done) conv).phase (call_sees c call done conn fid conv e)
    (subst (λ ph. wants true true (seen done conn fid conv) ph ≡ true) (ap (λ t. (standing t).phase) (sym (other_talk c call done conv e))) (others conn fid conv e at))

-- ---- searches

or_last : (b c : Bool) → c ≡ true → (b || c) ≡ true
or_last b c e = or_more b c e

or_first : (b c : Bool) → b ≡ true → (b || c) ≡ true
or_first true c e = refl
or_first false c e = absurd cc

asked_so : (kind : PromptKind) (c : ℕ) (about : List ℕ) (done : List Deed) (conv : ℕ) → list_any (eqb conv) (askers_in (side.after kind (side.Asked c about ∷ prompt_calls done kind))) ≡ (asks_user done kind conv || eqb conv c)
asked_so kind c about done conv =
    ap (list_any (eqb conv)) (asked_more c (next_line (prompts_of done kind) about) (prompts_of done kind)) ∙ any_append (eqb conv) (askers done kind) c

asked_still : (kind : PromptKind) (c : ℕ) (about : List ℕ) (done : List Deed) (conv : ℕ) → asks_user done kind conv ≡ true → list_any (eqb conv) (askers_in (side.after kind (side.Asked c about ∷ prompt_calls done kind))) ≡ true
asked_still kind c about done conv e = asked_so kind c about done conv ∙ or_first (asks_user done kind conv) (eqb conv c) e

asked_now : (kind : PromptKind) (c : ℕ) (about : List ℕ) (done : List Deed) (conv : ℕ) → eqb c conv ≡ true → list_any (eqb conv) (askers_in (side.after kind (side.Asked c about ∷ prompt_calls done kind))) ≡ true
asked_now kind c about done conv e = asked_so kind c about done conv ∙ or_more (asks_user done kind conv) (eqb conv c) (eqb_swap conv c ∙ e)

-- who is asked for what is found has the question
abbrev Wanted : calls.Found → Seen → Type 0
Wanted (calls.AsksConsent key) v = v.confirm ≡ true
Wanted calls.AsksKey v = v.needkey ≡ true
Wanted came v = Unit {0}

sought_wants : (v : Seen) (came : calls.Found) (s : Standing) → s.phase ≡ Seeking → Wanted came v → wants false false v (stands_by.sought s came).phase ≡ true
sought_wants v (calls.Chosen key) s on w = by_begun s.begun
  where
    by_begun : (o : Option Begun) → wants false false v (with_key s key o).phase ≡ true
    by_begun None = ap (wants false false v) on
    by_begun (Some b) = up_wants v (with_key s key (Some b)).phase (moved_up s (chosen_for key b) (move_answer a.Ok (Some key) (answers b.start b.moves (told_of_key key))))
sought_wants v (calls.AsksConsent key) s on w = w
sought_wants v calls.AsksKey s on w = w
sought_wants v calls.Denied s on w = refl
sought_wants v calls.NoneServes s on w = refl
sought_wants v (calls.Offered list) s on w = up_wants v (made s (offered list) s.begun).phase (made_up s (offered list) s.begun (ap is_up on))
sought_wants v (calls.Picked place) s on w = up_wants v (made s (picked place) s.begun).phase (made_up s (picked place) s.begun (ap is_up on))

if_wants : (b : Bool) (v : Seen) (came : calls.Found) (s : Standing) → s.phase ≡ Seeking → Wanted came v → wants false false v (sought_if b s came).phase ≡ true
if_wants true v came s on w = sought_wants v came s on w
if_wants false v came s on w = ap (wants false false v) on

search_wants : (c : ℕ) (came : calls.Found) (done new : List Deed) (conn fid conv : ℕ) → eqb c conv ≡ true → (standing_of done c).phase ≡ Seeking → talk new conv ≡ talk (OfTalk c (calls.Sought came) ∷ done) conv → Wanted came (seen new conn fid conv)
    → wants false false (seen new conn fid conv) (standing_of new conv).phase ≡ true
search_wants c came done new conn fid conv e on same w =
    let s = standing_of done conv in
    let here : s.phase ≡ Seeking = subst (λ n. (standing_of done n).phase ≡ Seeking) (eqb-true c conv e) on in
    let v = seen new conn fid conv in
    ap (λ t. wants false false v (standing t).phase) same
    ∙ (ap (λ (x : Standing). wants false false v x.phase) (own_talk c (calls.Sought came) done conv e)
    ∙ (ap (λ ph. wants false false v (then_stands s ph (calls.Sought came)).phase) here
    ∙ if_wants (is_for (need_in s.begun) came) v came s here w))

-- a search of which nobody is asked
quiet_met : (c : ℕ) (came : calls.Found) (done : List Deed) → ((v : Seen) → Wanted came v) → (standing_of done c).phase ≡ Seeking → Met c false false done → Met c false false (OfTalk c (calls.Sought came) ∷ done)
quiet_met c came done none on m =
    let new = OfTalk c (calls.Sought came) ∷ done in
    step_met c false false false false done new (λ conn fid conv at. at) (λ conn fid conv e at. call_sees c (calls.Sought came) done conn fid conv e) (λ conv e. other_talk c (calls.Sought came) done conv e)
    (λ conn fid conv e at w. search_wants c came done new conn fid conv e on refl (none (seen new conn fid conv))) m

sought_met : (c : ℕ) (came : calls.Found) (done : List Deed) → (standing_of done c).phase ≡ Seeking → Met c false false done → Met c false false (sought c came done)
sought_met c (calls.AsksConsent key) done on m =
    let found = calls.AsksConsent key in
    let new = OfPrompts pk.Confirm (side.Asked c (public_text key.tuple)) ∷ OfTalk c (calls.Sought found) ∷ done in
    step_met c false false false false done new (λ conn fid conv at. at)
    (λ conn fid conv e at. record { idle = λ is. is; asked = λ is. is; confirm = asked_still pk.Confirm c (public_text key.tuple) done conv; needkey = λ is. is }) (λ conv e. other_talk c (calls.Sought found) done conv e)
    (λ conn fid conv e at w. search_wants c found done new conn fid conv e on refl (asked_now pk.Confirm c (public_text key.tuple) done conv e)) m
sought_met c calls.AsksKey done on m =
    let one = OfTalk c (calls.Sought calls.AsksKey) ∷ done in
    let about = shown_text (template_of (standing_of one c).begun) in
    let new = OfPrompts pk.Needkey (side.Asked c about) ∷ one in
    step_met c false false false false done new (λ conn fid conv at. at)
    (λ conn fid conv e at. record { idle = λ is. is; asked = λ is. is; confirm = λ is. is; needkey = asked_still pk.Needkey c about done conv }) (λ conv e. other_talk c (calls.Sought calls.AsksKey) done conv e)
    (λ conn fid conv e at w. search_wants c calls.AsksKey done new conn fid conv e on refl (asked_now pk.Needkey c about done conv e)) m
sought_met c (calls.Chosen key) done on m = quiet_met c (calls.Chosen key) done (λ v. tt) on m
sought_met c calls.Denied done on m = quiet_met c calls.Denied done (λ v. tt) on m
sought_met c calls.NoneServes done on m = quiet_met c calls.NoneServes done (λ v. tt) on m
sought_met c (calls.Offered list) done on m = quiet_met c (calls.Offered list) done (λ v. tt) on m
sought_met c (calls.Picked place) done on m = quiet_met c (calls.Picked place) done (λ v. tt) on m

-- what it meets is its own
abbrev pub Apart : ℕ → List Deed → List Deed → Type 0
Apart c old new = (conv : ℕ) → eqb c conv ≡ false → talk new conv ≡ talk old conv

apart_then : (c : ℕ) (one two three : List Deed) → Apart c one two → Apart c two three → Apart c one three
apart_then c one two three p q conv e = q conv e ∙ p conv e

prompting_talk : (c : ℕ) (came : calls.Found) (done : List Deed) (conv : ℕ) → talk (prompting c came done) conv ≡ talk done conv
prompting_talk c (calls.AsksConsent key) done conv = refl
prompting_talk c calls.AsksKey done conv = refl
prompting_talk c (calls.Chosen key) done conv = refl
prompting_talk c calls.Denied done conv = refl
prompting_talk c calls.NoneServes done conv = refl
prompting_talk c (calls.Offered list) done conv = refl
prompting_talk c (calls.Picked place) done conv = refl

record Step (c : ℕ) (raised given raised2 given2 : Bool) (old new : List Deed) : Type 0 where
  met : Met c raised given old → Met c raised2 given2 new
  apart : Apart c old new

seeking_step : (c : ℕ) (ph : Phase) (done : List Deed) → (standing_of done c).phase ≡ ph → Step c false false false false done (seeking c ph done)
seeking_step c Seeking done on =
    let came = finds (standing_of done c) (asking done) (keys_of done) in
    record { met = sought_met c came done on; apart = λ conv e. prompting_talk c came (OfTalk c (calls.Sought came) ∷ done) conv ∙ other_talk c (calls.Sought came) done conv e }
seeking_step c Resting done on = record { met = λ m. m; apart = λ conv e. refl }
seeking_step c (Waiting request) done on = record { met = λ m. m; apart = λ conv e. refl }
seeking_step c (OnConfirm serial) done on = record { met = λ m. m; apart = λ conv e. refl }
seeking_step c OnNeedkey done on = record { met = λ m. m; apart = λ conv e. refl }
seeking_step c OnServer done on = record { met = λ m. m; apart = λ conv e. refl }
seeking_step c (Kept answer) done on = record { met = λ m. m; apart = λ conv e. refl }

once_step : (c : ℕ) (done : List Deed) → Step c false false false false done (sought_once c done)
once_step c done = seeking_step c (standing_of done c).phase done refl

all_step : (starting : Bool) (c : ℕ) (done : List Deed) → Step c false false false false done (seeking_all starting c done)
all_step false c done = once_step c done
all_step true c done =
    let one = sought_once c done in
    let two = sought_once c one in
    let p = once_step c done in
    let q = once_step c one in
    let s = once_step c two in
    record { met = λ m. s.met (q.met (p.met m)); apart = apart_then c done two (sought_once c two) (apart_then c done one two p.apart q.apart) s.apart }

-- ---- questions

-- one that asks nothing of the authentication server has raised what it has to
none_raised : (v : Seen) (ph : Phase) → is_on_server ph ≡ false → wants false false v ph ≡ true → wants true false v ph ≡ true
none_raised v Resting off e = e
none_raised v (Waiting request) off e = e
none_raised v Seeking off e = e
none_raised v (OnConfirm serial) off e = e
none_raised v OnNeedkey off e = e
none_raised v OnServer off e = absurd cc
none_raised v (Kept answer) off e = e

pub raised_none : (c : ℕ) (done : List Deed) → is_on_server (standing_of done c).phase ≡ false → Met c false false done → Met c true false done
raised_none c done off m =
    step_met c false false true false done done (λ conn fid conv at. at) (λ conn fid conv e at. grows_same _ _ refl) (λ conv e. refl)
    (λ conn fid conv e at w. none_raised (seen done conn fid conv) (standing_of done conv).phase (subst (λ n. is_on_server (standing_of done n).phase ≡ false) (eqb-true c conv e) off) w) m

raised_so : (c : ℕ) (done : List Deed) (conv : ℕ) → has_question (Raised c ∷ done) conv ≡ (has_question done conv || eqb c conv)
raised_so c done conv = any_append (λ (q : Question). eqb q.conv conv) (questions done) _

raised_met : (c : ℕ) (done : List Deed) → (standing_of done c).phase ≡ OnServer → Met c false false done → Met c true false (Raised c ∷ done)
raised_met c done on m =
    step_met c false false true false done (Raised c ∷ done) (λ conn fid conv at. at)
    (λ conn fid conv e at. record { idle = λ is. is; asked = λ is. raised_so c done conv ∙ or_first (has_question done conv) (eqb c conv) is; confirm = λ is. is; needkey = λ is. is }) (λ conv e. refl)
    (λ conn fid conv e at w.
    subst (λ ph. wants true false (seen (Raised c ∷ done) conn fid conv) ph ≡ true) (sym (subst (λ n. (standing_of done n).phase ≡ OnServer) (eqb-true c conv e) on))
    (raised_so c done conv ∙ or_more (has_question done conv) (eqb c conv) e)) m

raising_step : (c : ℕ) (ph : Phase) (done : List Deed) → (standing_of done c).phase ≡ ph → Step c false false true false done (raising c ph done)
raising_step c OnServer done on = record { met = raised_met c done on; apart = λ conv e. refl }
raising_step c Resting done on = record { met = raised_none c done (ap is_on_server on); apart = λ conv e. refl }
raising_step c (Waiting request) done on = record { met = raised_none c done (ap is_on_server on); apart = λ conv e. refl }
raising_step c Seeking done on = record { met = raised_none c done (ap is_on_server on); apart = λ conv e. refl }
raising_step c (OnConfirm serial) done on = record { met = raised_none c done (ap is_on_server on); apart = λ conv e. refl }
raising_step c OnNeedkey done on = record { met = raised_none c done (ap is_on_server on); apart = λ conv e. refl }
raising_step c (Kept answer) done on = record { met = raised_none c done (ap is_on_server on); apart = λ conv e. refl }

-- ---- what follows on a call

pub record Meets (c : ℕ) (old new : List Deed) : Type 0 where
  pub met : Met c true false new
  pub apart : Apart c old new

pub call_meets : (c : ℕ) (call : calls.Call) (done : List Deed) → Others c done → is_up (then_stands (standing_of done c) (standing_of done c).phase call).phase ≡ true → Meets c done (met c call done)
call_meets c call done others up =
    let one = OfTalk c call ∷ done in
    let two = then_sought c one in
    let three = then_raised c two in
    let four = then_logged c (standing_of done c) three in
    let p = all_step (standing_of one c).starting c one in
    let q = raising_step c (standing_of two c).phase two refl in
    let rest = alike_then three four (all_served four) (logged_alike c (standing_of done c) three) (served_alike four) in
    record {
      met = alike_met c true false three (all_served four) rest (q.met (p.met (begin_met c call done others up)));
      apart = λ conv e. rest.talks conv ∙ (q.apart conv e ∙ (p.apart conv e ∙ other_talk c call done conv e));
    }

-- ---- who reads, and where

-- no two reads have one tag, and one read at most is of the fid
abbrev pub Once : ℕ → List ℕ → Type 0
Once n [] = Unit {0}
Once n (m ∷ ms) = (eqb m n ≡ true → list_any (λ k. eqb k n) ms ≡ false) × Once n ms

abbrev pub tag_in : Wait → ℕ
tag_in w = w.tag

abbrev pub fid_in : Wait → ℕ
fid_in w = w.fid

-- of each fid that has a conversation open one read waits at most, under a tag of its own
abbrev pub Lone : List Deed → Type 0
Lone done = (conn fid conv : ℕ) → conv_of done conn fid ≡ Some conv → IsDistinct eqb (map tag_in (waits done conn)) × Once fid (map fid_in (waits done conn))

none_left : (fid : ℕ) (ws : List Wait) → length (filter (λ w. eqb w.fid fid) ws) ≤ 0 → list_any (λ k. eqb k fid) (map fid_in ws) ≡ false
none_left fid [] h = refl
none_left fid (w ∷ ws) h = by_fid (eqb w.fid fid) h (none_left fid ws)
  where
    by_fid : (b : Bool) → length (cond b (w ∷ filter (λ v. eqb v.fid fid) ws) (filter (λ v. eqb v.fid fid) ws)) ≤ 0 → (length (filter (λ v. eqb v.fid fid) ws) ≤ 0 → list_any (λ k. eqb k fid) (map fid_in ws) ≡ false)
        → (b || list_any (λ k. eqb k fid) (map fid_in ws)) ≡ false
    by_fid true g more = absurd (omega (arith, g))
    by_fid false g more = more g

pub once_from : (fid : ℕ) (ws : List Wait) → length (filter (λ w. eqb w.fid fid) ws) ≤ 1 → Once fid (map fid_in ws)
once_from fid [] h = tt
once_from fid (w ∷ ws) h = by_fid (eqb w.fid fid) refl h (λ g. once_from fid ws g)
  where
    by_fid : (b : Bool) → eqb w.fid fid ≡ b → length (cond b (w ∷ filter (λ v. eqb v.fid fid) ws) (filter (λ v. eqb v.fid fid) ws)) ≤ 1 → (length (filter (λ v. eqb v.fid fid) ws) ≤ 1 → Once fid (map fid_in ws)) → Once fid (w.fid ∷ map fid_in ws)
    by_fid true e g more = (λ is. none_left fid ws (omega (arith, g)), more (omega (arith, g)))
    by_fid false e g more = (λ is. absurd (let no_way : true ≡ false = sym is ∙ e in cc), more g)

none_of_fid : (fid : ℕ) (ws : List Wait) → list_any (λ k. eqb k fid) (map fid_in ws) ≡ false → list_any (is_reader fid) ws ≡ false
none_of_fid fid [] e = refl
none_of_fid fid (w ∷ ws) e =
    let parts = or_parts (eqb w.fid fid) (list_any (λ k. eqb k fid) (map fid_in ws)) e in
    rw (parts.0, none_of_fid fid ws parts.1) refl

-- the read that waits is settled, and no other of the fid is there
settled_none : (fid : ℕ) (wait : Wait) (body : RBody) (ws : List Wait) → find (is_reader fid) ws ≡ Some wait → IsDistinct eqb (map tag_in ws) → Once fid (map fid_in ws) → list_any (is_reader fid) (settle_tag wait.tag body ws) ≡ false
unfolding IsDistinct
settled_none fid wait body [] e tags once = absurd cc
settled_none fid wait body (w ∷ ws) e tags once = by_it (is_reader fid w) refl e tags once (λ f. settled_none fid wait body ws f tags.1 once.1)
  where
    by_it : (b : Bool) → is_reader fid w ≡ b → cond b (Some w) (find (is_reader fid) ws) ≡ Some wait → IsDistinct eqb (map tag_in (w ∷ ws)) → Once fid (map fid_in (w ∷ ws)) → (find (is_reader fid) ws ≡ Some wait → list_any (is_reader fid) (settle_tag wait.tag body ws) ≡ false)
        → list_any (is_reader fid) (settle_tag wait.tag body (w ∷ ws)) ≡ false
    by_it true is f tags once more =
        let same : w ≡ wait = cc in
        let off : list_any (is_reader fid) ws ≡ false = none_of_fid fid ws (once.0 (and_parts (eqb w.fid fid) (is_unsettled w) is).0) in
        rw (eq-eqb w.tag wait.tag (ap tag_in same), settled_off fid body w) off
    by_it false is f tags once more =
        let other : eqb w.tag wait.tag ≡ false = found_number (λ n. eqb w.tag n ≡ false) (is_reader fid) wait ws f tags.0 in
        rw (other, is) (more f)

-- ---- what stays so while conversations meet something

pub record Still (old new : List Deed) : Type 0 where
  pub speaks : speakers new ≡ speakers old
  pub opened : opened_talks new ≡ opened_talks old
  pub tags : (conn : ℕ) → map tag_in (waits new conn) ≡ map tag_in (waits old conn)
  pub fids : (conn : ℕ) → map fid_in (waits new conn) ≡ map fid_in (waits old conn)

pub still_itself : (done : List Deed) → Still done done
still_itself done = record { speaks = refl; opened = refl; tags = λ conn. refl; fids = λ conn. refl }

settled_same : (f : Wait → ℕ) → ((body : RBody) (w : Wait) → f (settled_by body w) ≡ f w) → (b : Bool) (tag : ℕ) (body : RBody) (ws : List Wait) → map f (cond b (settle_tag tag body ws) ws) ≡ map f ws
settled_same f same true tag body ws = tag_same f same tag body ws
settled_same f same false tag body ws = refl

pub still_more : (old : List Deed) → KeepsAny is_met (Still old)
still_more old done (OfTalk conv call) is s = record { speaks = s.speaks; opened = s.opened; tags = s.tags; fids = s.fids }
still_more old done (OfPrompts about doing) is s = record { speaks = s.speaks; opened = s.opened; tags = s.tags; fids = s.fids }
still_more old done (OfLog doing) is s = record { speaks = s.speaks; opened = s.opened; tags = s.tags; fids = s.fids }
still_more old done (Raised conv) is s = record { speaks = s.speaks; opened = s.opened; tags = s.tags; fids = s.fids }
still_more old done (OfReplies at (Settled tag body)) is s = record {
  speaks = s.speaks;
  opened = s.opened;
  tags = λ conn. settled_same tag_in (λ body w. refl) (eqb at conn) tag body (waits done conn) ∙ s.tags conn;
  fids = λ conn. settled_same fid_in (λ body w. refl) (eqb at conn) tag body (waits done conn) ∙ s.fids conn;
}
still_more old done (OfReplies at (Answered tag body)) is s = absurd cc
still_more old done (OfReplies at (Awaited tag f count)) is s = absurd cc
still_more old done (OfReplies at (Flushed tag)) is s = absurd cc
still_more old done (OfReplies at Taken) is s = absurd cc
still_more old done (OfFids at deed) is s = absurd cc
still_more old done (OfKeys at deed) is s = absurd cc
still_more old done (OfConnection at deed) is s = absurd cc
still_more old done HandedOut is s = absurd cc
still_more old done DropTaken is s = absurd cc
still_more old done Swept is s = absurd cc
still_more old done Halted is s = absurd cc

-- what is known of who speaks and who reads
pub record Ground (done : List Deed) : Type 0 where
  pub rise : SpeakersRise done
  pub lone : Lone done

pub still_seats : (old new : List Deed) → speakers new ≡ speakers old → (conn fid conv : ℕ) → conv_of new conn fid ≡ Some conv → conv_of old conn fid ≡ Some conv
still_seats old new same conn fid conv at = ap (λ (ss : List Speaker). option_map (λ s. s.conv) (find (is_at conn fid) ss)) (sym same) ∙ at

pub still_ground : (old new : List Deed) → Still old new → Ground old → Ground new
still_ground old new s g = record {
  rise = subst (λ n. Rise n (map number (speakers new))) (sym s.opened) (subst (λ ss. Rise (opened_talks old) (map number ss)) (sym s.speaks) g.rise);
  lone = λ conn fid conv at.
      let l = g.lone conn fid conv (still_seats old new s.speaks conn fid conv at) in
      (subst (IsDistinct eqb) (sym (s.tags conn)) l.0, subst (Once fid) (sym (s.fids conn)) l.1);
}

-- the fid that has a conversation open is the speaker of its number
found_above : (n conv : ℕ) (t : Speaker) (xs : List Speaker) → find (λ s. eqb s.conv conv) xs ≡ Some t → list_all (ltb n) (map number xs) ≡ true → ltb n conv ≡ true
found_above n conv t [] e h = absurd cc
found_above n conv t (s ∷ xs) e h =
    let parts = and_parts (ltb n s.conv) (list_all (ltb n) (map number xs)) h in
    by_it (eqb s.conv conv) refl e parts.0 (λ f. found_above n conv t xs f parts.1)
  where
    by_it : (b : Bool) → eqb s.conv conv ≡ b → cond b (Some s) (find (λ s. eqb s.conv conv) xs) ≡ Some t → ltb n s.conv ≡ true → (find (λ s. eqb s.conv conv) xs ≡ Some t → ltb n conv ≡ true) → ltb n conv ≡ true
    by_it true is f first more = ap (ltb n) (sym (eqb-true s.conv conv is)) ∙ first
    by_it false is f first more = more f

seat_in : (top : ℕ) (xs : List Speaker) (conn fid conv : ℕ) → Rise top (map number xs) → option_map (λ s. s.conv) (find (is_at conn fid) xs) ≡ Some conv → find (λ s. eqb s.conv conv) xs ≡ Some (record { conv = conv; conn = conn; fid = fid })
seat_in top [] conn fid conv rise e = absurd cc
seat_in top (s ∷ xs) conn fid conv rise e =
    let parts = rise_parts top s.conv (map number xs) rise in
    by_it (is_at conn fid s) refl e parts.above (λ f. seat_in top xs conn fid conv parts.rest f)
  where
    by_it : (b : Bool) → is_at conn fid s ≡ b → option_map (λ s. s.conv) (cond b (Some s) (find (is_at conn fid) xs)) ≡ Some conv → list_all (ltb s.conv) (map number xs) ≡ true
        → (option_map (λ s. s.conv) (find (is_at conn fid) xs) ≡ Some conv → find (λ s. eqb s.conv conv) xs ≡ Some (record { conv = conv; conn = conn; fid = fid }))
        → find (λ s. eqb s.conv conv) (s ∷ xs) ≡ Some (record { conv = conv; conn = conn; fid = fid })
    by_it true is f above more =
        let same : s.conv ≡ conv = cc in
        let place = both_same s.conn conn s.fid fid is in
        rw (eq-eqb s.conv conv same)
        (ap (λ (n : ℕ). Some (record { conv = n; conn = s.conn; fid = s.fid })) same
        ∙ (ap (λ (n : ℕ). Some (record { conv = conv; conn = n; fid = s.fid })) place.0 ∙ ap (λ (n : ℕ). Some (record { conv = conv; conn = conn; fid = n })) place.1))
    by_it false is f above more =
        let there = more f in
        let under = ltb-true s.conv conv (found_above s.conv conv (record { conv = conv; conn = conn; fid = fid }) xs there above) in
        rw (ne_eqb s.conv conv (λ same. omega (arith, under, same))) there

pub seat : (done : List Deed) (conn fid conv : ℕ) → SpeakersRise done → conv_of done conn fid ≡ Some conv → speaker_of done conv ≡ Some (record { conv = conv; conn = conn; fid = fid })
seat done conn fid conv rise at = seat_in (opened_talks done) (speakers done) conn fid conv rise at

-- ---- an answer is given

-- where nothing waits to be given nothing is owed
given_none : (v : Seen) (ph : Phase) → has_answer ph ≡ false → wants true false v ph ≡ true → wants true true v ph ≡ true
given_none v Resting off e = absurd cc
given_none v (Waiting request) off e = absurd cc
given_none v Seeking off e = e
given_none v (OnConfirm serial) off e = e
given_none v OnNeedkey off e = e
given_none v OnServer off e = e
given_none v (Kept answer) off e = absurd cc

own_phase : (c conv : ℕ) (done : List Deed) (ph : Phase) → eqb c conv ≡ true → (standing_of done c).phase ≡ ph → (standing_of done conv).phase ≡ ph
own_phase c conv done ph e on = subst (λ n. (standing_of done n).phase ≡ ph) (eqb-true c conv e) on

all_given : (c : ℕ) (ph : Phase) (done : List Deed) → (standing_of done c).phase ≡ ph → has_answer ph ≡ false → Met c true false done → Met c true true done
all_given c ph done on off m =
    step_met c true false true true done done (λ conn fid conv at. at) (λ conn fid conv e at. grows_same _ _ refl) (λ conv e. refl)
    (λ conn fid conv e at w. given_none (seen done conn fid conv) (standing_of done conv).phase (ap has_answer (own_phase c conv done ph e on) ∙ off) w) m

-- the seat of the one to which it is given
own_seat : (c : ℕ) (done : List Deed) (o : Option Speaker) → SpeakersRise done → speaker_of done c ≡ o → (conn fid conv : ℕ) → eqb c conv ≡ true → conv_of done conn fid ≡ Some conv → o ≡ Some (record { conv = c; conn = conn; fid = fid })
own_seat c done o rise is conn fid conv e at =
    sym is ∙ seat done conn fid c rise (subst (λ n. conv_of done conn fid ≡ Some n) (sym (eqb-true c conv e)) at)

no_reader : (fid : ℕ) (ws : List Wait) → find (is_reader fid) ws ≡ None → list_any (is_reader fid) ws ≡ false
no_reader fid [] e = refl
no_reader fid (w ∷ ws) e = by_it (is_reader fid w) refl e (λ f. no_reader fid ws f)
  where
    by_it : (b : Bool) → is_reader fid w ≡ b → cond b (Some w) (find (is_reader fid) ws) ≡ None → (find (is_reader fid) ws ≡ None → list_any (is_reader fid) ws ≡ false) → (is_reader fid w || list_any (is_reader fid) ws) ≡ false
    by_it true is f more = absurd cc
    by_it false is f more = rw is (more f)

-- it rests, or keeps its answer, and nobody reads
idle_wants : (v : Seen) (ph : Phase) → is_up ph ≡ true → has_answer ph ≡ true → v.idle ≡ true → wants true true v ph ≡ true
idle_wants v (Kept answer) up kept e = e
idle_wants v Resting up kept e = absurd cc
idle_wants v (Waiting request) up kept e = absurd cc
idle_wants v Seeking up kept e = absurd cc
idle_wants v (OnConfirm serial) up kept e = absurd cc
idle_wants v OnNeedkey up kept e = absurd cc
idle_wants v OnServer up kept e = absurd cc

-- what is read of an answer that is kept
took_wants : (c : ℕ) (b : Bool) (answer : RpcAnswer) (done : List Deed) (conv : ℕ) (v : Seen) → eqb c conv ≡ true → (standing_of done c).phase ≡ Kept answer → v.idle ≡ true → wants true true v (standing_of (cond b (OfTalk c calls.Took ∷ done) done) conv).phase ≡ true
took_wants c true answer done conv v e on idle =
    ap (λ (s : Standing). wants true true v s.phase) (own_talk c calls.Took done conv e)
    ∙ (ap (λ ph. wants true true v (then_stands (standing_of done conv) ph calls.Took).phase) (own_phase c conv done (Kept answer) e on) ∙ idle)
took_wants c false answer done conv v e on idle = ap (wants true true v) (own_phase c conv done (Kept answer) e on) ∙ idle

pub took_talk : (c : ℕ) (b : Bool) (done : List Deed) (conv : ℕ) → eqb c conv ≡ false → talk (cond b (OfTalk c calls.Took ∷ done) done) conv ≡ talk done conv
took_talk c true done conv e = other_talk c calls.Took done conv e
took_talk c false done conv e = refl

took_seats : (c : ℕ) (b : Bool) (done : List Deed) (conn fid conv : ℕ) → conv_of (cond b (OfTalk c calls.Took ∷ done) done) conn fid ≡ Some conv → conv_of done conn fid ≡ Some conv
took_seats c true done conn fid conv at = at
took_seats c false done conn fid conv at = at

took_seen : (c : ℕ) (b : Bool) (done : List Deed) (conn fid conv : ℕ) → seen (cond b (OfTalk c calls.Took ∷ done) done) conn fid conv ≡ seen done conn fid conv
took_seen c true done conn fid conv = refl
took_seen c false done conn fid conv = refl

took_waits : (c : ℕ) (b : Bool) (done : List Deed) (conn : ℕ) → waits (cond b (OfTalk c calls.Took ∷ done) done) conn ≡ waits done conn
took_waits c true done conn = refl
took_waits c false done conn = refl

-- an answer is read that is there, and nobody waits for it
pub took_met : (c : ℕ) (b : Bool) (answer : RpcAnswer) (done : List Deed) → (standing_of done c).phase ≡ Kept answer → ((conn fid conv : ℕ) → eqb c conv ≡ true → conv_of done conn fid ≡ Some conv → no_reads fid (waits done conn) ≡ true)
    → Met c true false done → Met c true true (cond b (OfTalk c calls.Took ∷ done) done)
took_met c b answer done on idle m =
    let new = cond b (OfTalk c calls.Took ∷ done) done in
    step_met c true false true true done new (took_seats c b done) (λ conn fid conv e at. grows_same _ _ (sym (took_seen c b done conn fid conv))) (took_talk c b done)
    (λ conn fid conv e at w. took_wants c b answer done conv (seen new conn fid conv) e on (ap (no_reads fid) (took_waits c b done conn) ∙ idle conn fid conv e (took_seats c b done conn fid conv at))) m

-- the read that waits is told
told_met : (c conn : ℕ) (b : Bool) (answer : RpcAnswer) (wait : Wait) (body : RBody) (done : List Deed) → (standing_of done c).phase ≡ Kept answer
    → ((at fid conv : ℕ) → eqb c conv ≡ true → conv_of done at fid ≡ Some conv → list_any (is_reader fid) (cond (eqb conn at) (settle_tag wait.tag body (waits done at)) (waits done at)) ≡ false)
    → Met c true false done → Met c true true (OfReplies conn (Settled wait.tag body) ∷ cond b (OfTalk c calls.Took ∷ done) done)
told_met c conn b answer wait body done on idle m =
    let two = cond b (OfTalk c calls.Took ∷ done) done in
    let new = OfReplies conn (Settled wait.tag body) ∷ two in
    step_met c true false true true done new (took_seats c b done)
    (λ at fid conv e is.
    let same = took_seen c b done at fid conv in
    record {
      idle = λ f. settle_idle (eqb conn at) fid wait.tag body (waits two at) (ap (no_reads fid) (took_waits c b done at) ∙ f);
      asked = λ f. ap (λ (v : Seen). v.asked) same ∙ f;
      confirm = λ f. ap (λ (v : Seen). v.confirm) same ∙ f;
      needkey = λ f. ap (λ (v : Seen). v.needkey) same ∙ f;
    }) (took_talk c b done)
    (λ at fid conv e is w. took_wants c b answer done conv (seen new at fid conv) e on
    (idle_from fid (waits new at) (ap (λ (ws : List Wait). list_any (is_reader fid) (cond (eqb conn at) (settle_tag wait.tag body ws) ws)) (took_waits c b done at) ∙ idle at fid conv e (took_seats c b done at fid conv is)))) m

give_met : (c : ℕ) (s : Speaker) (answer : RpcAnswer) (o : Option Wait) (done : List Deed) → Ground done → speaker_of done c ≡ Some s → (standing_of done c).phase ≡ Kept answer → reader_of done s ≡ o → Met c true false done → Met c true true (give_to c s.conn answer o done)
give_met c s answer None done g is on e m =
    step_met c true false true true done done (λ conn fid conv at. at) (λ conn fid conv f at. grows_same _ _ refl) (λ conv f. refl)
    (λ conn fid conv f at w.
    let own = one_seat (record { conv = c; conn = conn; fid = fid }) s (own_seat c done (Some s) g.rise is conn fid conv f at) in
    ap (wants true true (seen done conn fid conv)) (own_phase c conv done (Kept answer) f on)
    ∙ idle_from fid (waits done conn) (subst (λ (t : Speaker). list_any (is_reader t.fid) (waits done t.conn) ≡ false) own (no_reader s.fid (waits done s.conn) e))) m
  where
    one_seat : (t s : Speaker) → Some s ≡ Some t → s ≡ t
    one_seat t s f = cc
give_met c s answer (Some wait) done g is on e m =
    told_met c s.conn (fits wait.count answer) answer wait (told wait.count answer) done on
    (λ conn fid conv f at.
    let own = one_seat (record { conv = c; conn = conn; fid = fid }) s (own_seat c done (Some s) g.rise is conn fid conv f at) in
    let found = subst (λ (t : Speaker). find (is_reader t.fid) (waits done t.conn) ≡ Some wait) own e in
    let l = g.lone conn fid conv at in
    let here : eqb s.conn conn ≡ true = eq-eqb s.conn conn (ap (λ (t : Speaker). t.conn) own) in
    rw here (settled_none fid wait (told wait.count answer) (waits done conn) found l.0 l.1)) m
  where
    one_seat : (t s : Speaker) → Some s ≡ Some t → s ≡ t
    one_seat t s f = cc

deliver_met : (c : ℕ) (ph : Phase) (o : Option Speaker) (done : List Deed) → Ground done → (standing_of done c).phase ≡ ph → speaker_of done c ≡ o → Met c true false done → Met c true true (deliver_to c ph o done)
deliver_met c (Kept answer) (Some s) done g on is m = give_met c s answer (reader_of done s) done g is on refl m
deliver_met c (Kept answer) None done g on is m =
    step_met c true false true true done done (λ conn fid conv at. at) (λ conn fid conv e at. grows_same _ _ refl) (λ conv e. refl)
    (λ conn fid conv e at w. absurd (let no_way = own_seat c done None g.rise is conn fid conv e at in cc)) m
deliver_met c Resting o done g on is m = all_given c Resting done on refl m
deliver_met c (Waiting request) o done g on is m = all_given c (Waiting request) done on refl m
deliver_met c Seeking o done g on is m = all_given c Seeking done on refl m
deliver_met c (OnConfirm serial) o done g on is m = all_given c (OnConfirm serial) done on refl m
deliver_met c OnNeedkey o done g on is m = all_given c OnNeedkey done on refl m
deliver_met c OnServer o done g on is m = all_given c OnServer done on refl m

pub delivered_met : (c : ℕ) (done : List Deed) → Ground done → Met c true false done → Met c true true (delivered c done)
delivered_met c done g m = deliver_met c (standing_of done c).phase (speaker_of done c) done g refl refl m

give_talk : (c conn : ℕ) (answer : RpcAnswer) (o : Option Wait) (done : List Deed) → Apart c done (give_to c conn answer o done)
give_talk c conn answer None done conv e = refl
give_talk c conn answer (Some wait) done conv e = took_talk c (fits wait.count answer) done conv e

deliver_talk : (c : ℕ) (ph : Phase) (o : Option Speaker) (done : List Deed) → Apart c done (deliver_to c ph o done)
deliver_talk c (Kept answer) (Some s) done conv e = give_talk c s.conn answer (reader_of done s) done conv e
deliver_talk c (Kept answer) None done conv e = refl
deliver_talk c Resting o done conv e = refl
deliver_talk c (Waiting request) o done conv e = refl
deliver_talk c Seeking o done conv e = refl
deliver_talk c (OnConfirm serial) o done conv e = refl
deliver_talk c OnNeedkey o done conv e = refl
deliver_talk c OnServer o done conv e = refl

pub delivered_talk : (c : ℕ) (done : List Deed) → Apart c done (delivered c done)
delivered_talk c done conv e = deliver_talk c (standing_of done c).phase (speaker_of done c) done conv e
