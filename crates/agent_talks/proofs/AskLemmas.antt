-- From what is kept to what deeds say of the questions for the authentication server.
use Rattle.std.proofs.Common.{◌≡◌, ℕ, suc, ◌+◌, ◌<◌, ◌≤◌, List, [], ◌∷◌, length, get_or, map, filter, Bool, true, false, eqb, not, ◌==◌, Option, Some, None, refl, sym, ap, subst, ◌∙◌, inl, inr, arith}
use Rattle.std.specs.Prelude.{find, option_map, position, slice_set}
use Rattle.std.specs.List.{position_or_len}
use Rattle.std.proofs.lemmas.Bool.{cases_Bool, cases_lt, le-ltb, lt-ltb}
use Rattle.talks.specs.declared.answer.RpcAnswer.{RpcAnswer}
use Rattle.talks.specs.declared.answer.RpcAnswer.TheVariants as a
use Rattle.talks.specs.Calls as calls
use Rattle.talks.specs.Calls.{Call}
use Rattle.talks.specs.Standings.{Kept, Phase, standing}
use Rattle.agent_history.specs.Deeds.{Deed, HandedOut, OfTalk}
use Rattle.agent_history.specs.Conversations.{Question, asker, hand_first, next_question, questions, raising, seeking, seeking_all, sought_once, standing_of, talk, then_raised}
use Rattle.agent_talks.specs.declared.question.Question.{Question as HeldQuestion}
use Rattle.agent_talks.specs.declared.held.Talks.{Talks}
use Rattle.agent_talks.specs.Kept.{question_of}
use Rattle.agent_talks.specs.Speaks.{OnServerNow, Speak, asks_for, talked, talked_by}
use Rattle.agent_talks.specs.Changes.{Ended, Hands}
use Rattle.conversations.proofs.WaitLaws.{heard_rests, unheard_rests, roomless_rests}
use Rattle.agent_talks.proofs.StandLemmas.{asker_asks, filter_map_same, find_map, handed_asks, left_asks, other_way, same}
use Rattle.agent_talks.proofs.SpeakLemmas.{AllAsked, met_speak}

-- ---- which they are

pub found_asker : (done : List Deed) (t : Talks) (call : ℕ) → Speak done t → option_map (λ q. q.conv) (find (λ q. q.call == call) t.questions.items) ≡ asker done call
found_asker done t call h =
    sym (mapped (find (λ q. q.call == call) t.questions.items))
    ∙ (ap (option_map (λ (q : Question). q.conv)) (sym (find_map question_of (λ q. q.call == call) t.questions.items))
    ∙ ap (λ (qs : List Question). option_map (λ (q : Question). q.conv) (find (λ (q : Question). q.call == call) qs)) h.questions)
  where
    mapped : (o : Option HeldQuestion) → option_map (λ (q : Question). q.conv) (option_map question_of o) ≡ option_map (λ (q : HeldQuestion). q.conv) o
    mapped None = refl
    mapped (Some q) = refl

pub found_next : (done : List Deed) (t : Talks) → Speak done t → option_map question_of (find (λ q. not q.handed) t.questions.items) ≡ next_question done
found_next done t h = sym (find_map question_of (λ q. not q.handed) t.questions.items) ∙ ap (λ (qs : List Question). find (λ (q : Question). not q.handed) qs) h.questions

-- ---- one is handed out

abbrev is_left : HeldQuestion → Bool
is_left q = not q.handed

hand_at : (qs : List HeldQuestion) (now d : HeldQuestion) (n : ℕ) → n ≡ position_or_len is_left qs → n < length qs → question_of now ≡ record { call = (get_or qs n d).call; conv = (get_or qs n d).conv; handed = true }
    → map question_of (slice_set qs n now) ≡ hand_first (map question_of qs)
hand_at [] now d n e lt h = absurd (omega (arith, lt))
hand_at (q ∷ qs) now d n e lt h = elim (cases_Bool q.handed) [
  | inl is ↦
      let s : n ≡ suc (position_or_len is_left qs) = e ∙ rw is (omega arith) in
      let there : question_of now ≡ record { call = (get_or qs (position_or_len is_left qs) d).call; conv = (get_or qs (position_or_len is_left qs) d).conv; handed = true } = rw s at h in
      rw (s, is) (ap (λ (ps : List Question). record { call = q.call; conv = q.conv; handed = true } ∷ ps) (hand_at qs now d (position_or_len is_left qs) refl (omega (arith, lt, s)) there))
  | inr is ↦
      let z : n ≡ 0 = e ∙ rw is refl in
      let here : question_of now ≡ record { call = q.call; conv = q.conv; handed = true } = rw z at h in
      rw (z, is) (ap (λ (p : Question). p ∷ map question_of qs) here)
]

none_left : (qs : List HeldQuestion) → length qs ≤ position_or_len is_left qs → hand_first (map question_of qs) ≡ map question_of qs
none_left [] le = refl
none_left (q ∷ qs) le = elim (cases_Bool q.handed) [
  | inl is ↦
      let s : length (q ∷ qs) ≤ 1 + position_or_len is_left qs = rw is at le in
      rw is (ap (λ (ps : List Question). record { call = q.call; conv = q.conv; handed = true } ∷ ps) (none_left qs (omega (arith, s))))
  | inr is ↦ absurd (let z : length (q ∷ qs) ≤ 0 = rw is at le in omega (arith, z))
]

pub handed_at : (qs : List HeldQuestion) (now d : HeldQuestion) (at : ℕ) → Some at ≡ position (λ (q : HeldQuestion). not q.handed) qs → question_of now ≡ record { call = (get_or qs at d).call; conv = (get_or qs at d).conv; handed = true } → map question_of (slice_set qs at now) ≡ hand_first (map question_of qs)
handed_at qs now d at e h =
    elim (cases_lt (position_or_len is_left qs) (length qs)) [
      | inl lt ↦ (let s : Some at ≡ Some (position_or_len is_left qs) = rw lt-ltb at e in let same : at ≡ position_or_len is_left qs = cc in hand_at qs now d at same (omega (arith, lt, same)) h)
      | inr le ↦ absurd (let s : Some at ≡ None = rw le-ltb at e in cc)
    ]

pub handed_none : (qs : List HeldQuestion) → None ≡ position (λ (q : HeldQuestion). not q.handed) qs → map question_of qs ≡ hand_first (map question_of qs)
handed_none qs e =
    elim (cases_lt (position_or_len is_left qs) (length qs)) [
      | inl lt ↦ absurd (let s : None ≡ Some (position_or_len is_left qs) = rw lt-ltb at e in cc)
      | inr le ↦ sym (none_left qs le)
    ]

pub hands_speak : (done : List Deed) (old new : Talks) → Hands old new → Speak done old → Speak (HandedOut ∷ done) new
hands_speak done old new hands h = record {
  opened = hands.opened ∙ h.opened;
  speakers = hands.speakers ∙ h.speakers;
  table = λ q. rw (hands.table q) (h.table q);
  raised = hands.raised ∙ h.raised;
  questions = hands.questions ∙ ap hand_first h.questions;
  fresh = h.fresh;
  asked = λ q is. let o = h.asked q (sym (handed_asks (questions done) q) ∙ is) in record { stands = o.stands; phase = o.phase };
}

-- ---- the authentication server is done with one

-- those of a conversation are dropped
pub dropped : (conv : ℕ) (old new : List HeldQuestion) → new ≡ filter (λ q. not (q.conv == conv)) old → map question_of new ≡ filter (λ q. not (q.conv == conv)) (map question_of old)
dropped conv old new e = ap (map question_of) e ∙ filter_map_same question_of (λ q. not (q.conv == conv)) (λ q. not (q.conv == conv)) (λ q. refl) old

-- where the answer is there nothing is sought or raised
rests_once : (done : List Deed) (conv : ℕ) (answer : RpcAnswer) → (standing_of done conv).phase ≡ Kept answer → sought_once conv done ≡ done
rests_once done conv answer e = ap (λ (p : Phase). seeking conv p done) e

rests_all : (done : List Deed) (conv : ℕ) (starting : Bool) → sought_once conv done ≡ done → seeking_all starting conv done ≡ done
rests_all done conv false once = once
rests_all done conv true once = ap (λ (d : List Deed). sought_once conv (sought_once conv d)) once ∙ (ap (sought_once conv) once ∙ once)

pub met_rests : (done : List Deed) (conv : ℕ) (call : Call) (answer : RpcAnswer) → (standing_of (OfTalk conv call ∷ done) conv).phase ≡ Kept answer → talked conv call done ≡ OfTalk conv call ∷ done
met_rests done conv call answer e =
    ap (then_raised conv) (rests_all (OfTalk conv call ∷ done) conv (standing_of (OfTalk conv call ∷ done) conv).starting (rests_once (OfTalk conv call ∷ done) conv answer e))
    ∙ ap (λ (p : Phase). raising conv p (OfTalk conv call ∷ done)) e

pub over_speak : (done : List Deed) (old new : Talks) (conv : ℕ) (call : Call) → questions (OfTalk conv call ∷ done) ≡ filter (λ q. not (q.conv == conv)) (questions done)
    → OnServerNow done conv → (answer : RpcAnswer) × ((standing (call ∷ talk done conv)).phase ≡ Kept answer) → Ended old new conv call → Speak done old → Speak (talked conv call done) new
over_speak done old new conv call gone on rest ended h =
    let met_it : talk (OfTalk conv call ∷ done) conv ≡ call ∷ talk done conv = rw (same conv) refl in
    let rests : (standing_of (OfTalk conv call ∷ done) conv).phase ≡ Kept rest.0 = ap (λ (cs : List Call). (standing cs).phase) met_it ∙ rest.1 in
    let asked : AllAsked (OfTalk conv call ∷ done) = λ q e.
    (let there = left_asks (λ n. not (eqb n conv)) (questions done) q (ap (λ (qs : List Question). asks_for qs q) (sym gone) ∙ e) in
    let apart : eqb conv q ≡ false = other_way q conv (is_not (eqb q conv) there.0) in
    record { stands = (h.asked q there.1).stands; phase = rw apart (h.asked q there.1).phase }) in
    subst (λ (d : List Deed). Speak d new) (sym (met_rests done conv call rest.0 rests))
    (met_speak done old new conv call ended.meets (ended.questions ∙ (ap (filter (λ (q : Question). not (q.conv == conv))) h.questions ∙ sym gone)) asked on.stands h)
  where
    is_not : (b : Bool) → not b ≡ true → b ≡ false
    is_not true e = sym e
    is_not false e = refl

-- the question of a number
pub is_asked : (done : List Deed) (t : Talks) (call conv : ℕ) → Some conv ≡ asker done call → Speak done t → OnServerNow done conv
is_asked done t call conv e h = h.asked conv (asker_asks (questions done) (λ q. q.call == call) conv (sym e))

pub heard_speak : (done : List Deed) (old new : Talks) (call conv : ℕ) (bytes : List ℕ) → Some conv ≡ asker done call → Ended old new conv (calls.Heard bytes) → Speak done old → Speak (talked_by (asker done call) (calls.Heard bytes) done) new
heard_speak done old new call conv bytes e ended h =
    let on = is_asked done old call conv e h in
    subst (λ (o : Option ℕ). Speak (talked_by o (calls.Heard bytes) done) new) e (over_speak done old new conv (calls.Heard bytes) refl on (heard_rests (talk done conv) bytes on.phase) ended h)

pub unheard_speak : (done : List Deed) (old new : Talks) (call conv : ℕ) → Some conv ≡ asker done call → Ended old new conv calls.Unheard → Speak done old → Speak (talked_by (asker done call) calls.Unheard done) new
unheard_speak done old new call conv e ended h =
    let on = is_asked done old call conv e h in
    subst (λ (o : Option ℕ). Speak (talked_by o calls.Unheard done) new) e (over_speak done old new conv calls.Unheard refl on (a.NoServer, unheard_rests (talk done conv) on.phase) ended h)

pub roomless_speak : (done : List Deed) (old new : Talks) (call conv : ℕ) → Some conv ≡ asker done call → Ended old new conv calls.Roomless → Speak done old → Speak (talked_by (asker done call) calls.Roomless done) new
roomless_speak done old new call conv e ended h =
    let on = is_asked done old call conv e h in
    subst (λ (o : Option ℕ). Speak (talked_by o calls.Roomless done) new) e (over_speak done old new conv calls.Roomless refl on (a.NoRoom, roomless_rests (talk done conv) on.phase) ended h)

-- a number of no question
pub unasked_speak : (done : List Deed) (t : Talks) (number : ℕ) (call : Call) → None ≡ asker done number → Speak done t → Speak (talked_by (asker done number) call done) t
unasked_speak done t number call e h = subst (λ (o : Option ℕ). Speak (talked_by o call done) t) e h
