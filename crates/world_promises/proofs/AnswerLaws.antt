-- What an answer of the authentication server, or its absence, does to an agent of which all was taken.
use Rattle.std.proofs.Common.{◌≡◌, ℕ, List, [], ◌∷◌, Bool, true, false, cond, eqb, ◌&&◌, Some, None, refl, sym, ap, subst, ◌∙◌, inl, inr, map, codes}
use Rattle.std.specs.Prelude.{find, option_map}
use Rattle.std.proofs.lemmas.Bool.{cases_Bool}
use Rattle.nine.specs.declared.message.RBody.{RBody}
use Rattle.nine.specs.declared.message.RBody.TheVariants as r
use Rattle.roles.specs.Talks.{Call as Move, heard, unheard}
use Rattle.talks.specs.RpcAnswers.{answer_text}
use Rattle.talks.specs.Protocols.{answers}
use Rattle.talks.specs.Calls.{Call, Heard, Unheard}
use Rattle.talks.specs.Standings.{Begun, Kept, made, outcome_of}
use Rattle.agent_history.specs.declared.event.Event.{Event}
use Rattle.agent_history.specs.declared.event.Event.TheVariants.{Answer, NoAnswer}
use Rattle.agent_history.specs.Deeds.{Deed, OfTalk}
use Rattle.agent_history.specs.Replies.{swept, too_small, untaken, waits}
use Rattle.agent_history.specs.Conversations.{Speaker, asker, conv_of, fits, next_question, opened_talks, outcome_in, questions, resumed, speaker_of, speakers, standing_of, told}
use Rattle.agent_history.specs.Histories.{History, deeds, does}
use Rattle.world_history.specs.Driving.{drive, questions_to, replies_to}
use Rattle.world_history.specs.Talking.{came}
use Rattle.world_promises.specs.Telling.{on_server}
use Rattle.world_promises.proofs.TellLemmas.{move_told}
use Rattle.world_promises.specs.Agents.{Answers, Comes, reads_all, reads_none}
use Rattle.driven_agents.proofs.TakeLaws.{takes_change_none}
use Rattle.driven_agents.specs.Idle.{AreOf, AreRead, IsCalm, IsIdle, IsRead, Runs, read_of}
use Rattle.driven_agents.proofs.HandedLaws.{none_unhanded, put_by, questions_so}
use Rattle.driven_agents.proofs.IdleLaws.{asker_behind, idle_behind, seats_behind}
use Rattle.driven_agents.proofs.RunLaws.{event_runs, going}
use Rattle.driven_agents.proofs.TakenLaws.{replies_so}
use Rattle.driven_agents.proofs.UnsettledLaws.{waits_at}
use Rattle.world_promises.specs.Answers.{AbsencesDo, AnswersDo, Answered}
use Rattle.world_promises.proofs.AnswerDeeds.{IsAnswer, absence_is, answer_by, answer_is, answered_by, event_so, kept, makes_kept, stands_kept, untold_same}
use Rattle.world_promises.proofs.AnsweredCalm.{answered_calm, same_speakers, stands_told, told_begun, told_outcome, told_stands}
use Rattle.world_promises.proofs.AnsweredQuestions.{asker_left, none_next}
use Rattle.world_promises.proofs.AnsweredReplies.{answered_untaken}
use Rattle.world_promises.proofs.AskedLaws.{IsOnServer, asker_waits}
use Rattle.world_promises.proofs.FoundLemmas.{found_first, found_later}
use Rattle.world_promises.proofs.AnswerSeatLaws.{others_apart, seat, speaker_found}

-- ---- its read waits for it

read_there : (done : List Deed) (number fid : ℕ) (ss : List Speaker) → find (λ s. eqb s.conv number) ss ≡ Some (seat number fid) → AreRead done ss → IsRead done (seat number fid)
read_there done number fid [] e read = absurd cc
read_there done number fid (s ∷ ss) e read = elim (cases_Bool (eqb s.conv number)) [
  | inl on ↦ subst (IsRead done) (found_first (λ t. eqb t.conv number) s (seat number fid) ss on e) read.0
  | inr off ↦ read_there done number fid ss (found_later (λ t. eqb t.conv number) s (seat number fid) ss off e) read.1
]

-- what is known before the answer
pub record Asked (number fid : ℕ) (call : Call) (move : Move) (done : List Deed) : Type 0 where
  pub on : IsOnServer (standing_of done number)
  pub stands : standing_of (OfTalk number call ∷ done) number ≡ kept move on.begun (standing_of done number).starting (standing_of done number).said
  pub speaks : speaker_of done number ≡ Some (seat number fid)
  pub reads : find (waits_at fid) (waits done 0) ≡ Some (read_of fid)

asked_so : (number fid question : ℕ) (call : Call) (move : Move) (h : History) → IsAnswer call move → IsIdle h → conv_of (deeds h) 0 fid ≡ Some number → asker (deeds h) question ≡ Some number → Asked number fid call move (deeds h)
asked_so number fid question call move h is idle opened asked =
    let done = deeds h in
    let s = standing_of done number in
    let on = asker_waits h question number asked in
    let speaks = speaker_found h fid number opened in
    record {
      on = on;
      stands = stands_kept call move is number done on.begun s.starting s.said on.stands on.asked;
      speaks = speaks;
      reads = read_there done number fid (speakers done) speaks idle.calm.read (ap (λ x. x.phase) on.stands);
    }

-- ---- what comes of it

-- its read is told the answer, which gives no message where it doesn't fit
told_so : (b : Bool) (move : Move) (begun : Begun) → fits 8192 (answer_by move begun) ≡ b → (bodies : List RBody) → bodies ≡ told 8192 (answer_by move begun) ∷ [] → Answers bodies (Kept (answer_by move begun))
told_so true move begun fit bodies e = reads_all (e ∙ ap (λ b. cond b (r.Read (answer_text (answer_by move begun))) too_small ∷ []) fit)
told_so false move begun fit bodies e = reads_none (codes "read too small") (e ∙ ap (λ b. cond b (r.Read (answer_text (answer_by move begun))) too_small ∷ []) fit) (move_told begun.key (answers begun.start begun.moves move))

-- ---- all of it

-- what is known behind it
pub record ToldSo (number fid : ℕ) (event : Event) (call : Call) (move : Move) (h : History) : Type 0 where
  pub before : Asked number fid call move (deeds h)
  pub there : deeds (event ∷ h) ≡ answered_by number fid call (answer_by move before.on.begun) (deeds h)
  pub calm : IsCalm (deeds (event ∷ h))
  pub replies : replies_to event h ≡ record { tag = fid; body = told 8192 (answer_by move before.on.begun) } ∷ []
  pub questions : questions_to event h ≡ []

pub told_of : (number fid question : ℕ) (event : Event) (call : Call) (move : Move) (h : History) → IsAnswer call move → ((done : List Deed) → does done event ≡ swept (resumed (asker done question) call done))
    → IsIdle h → conv_of (deeds h) 0 fid ≡ Some number → asker (deeds h) question ≡ Some number → Runs (drive event h) → ToldSo number fid event call move h
told_of number fid question event call move h is does_so idle opened asked runs =
    let done = deeds h in
    let s = standing_of done number in
    let before = asked_so number fid question call move h is idle opened asked in
    let begun = before.on.begun in
    let answer = answer_by move begun in
    let all = answered_by number fid call answer done in
    let there : deeds (event ∷ h) ≡ all =
    (going event h (event_runs event h runs)).now ∙ does_so done ∙ event_so number fid call answer done (asker done question) asked (ap (λ x. x.phase) before.stands) idle.calm.names before.speaks before.reads in
    let calm : IsCalm (deeds (event ∷ h)) = subst IsCalm (sym there) (answered_calm number fid call done move begun s.starting s.said before.stands idle.calm (others_apart h fid number idle.calm.alone opened)) in
    let next : next_question (deeds (event ∷ h)) ≡ None = ap next_question there ∙ none_next number fid call move is answer done idle.handed in
    record {
      before = before;
      there = there;
      calm = calm;
      replies = replies_so event h calm.there runs ∙ ap (λ d. untaken d 0) there ∙ answered_untaken number fid call answer done idle.calm before.reads idle.taken;
      questions = questions_so event h runs calm.entered ∙ ap (map (put_by (deeds (event ∷ h)))) (none_unhanded (questions (deeds (event ∷ h))) next);
    }

answered_so : (number fid question : ℕ) (event : Event) (call : Call) (move : Move) (h : History) → IsAnswer call move → ((done : List Deed) → does done event ≡ swept (resumed (asker done question) call done))
    → IsIdle h → conv_of (deeds h) 0 fid ≡ Some number → asker (deeds h) question ≡ Some number → Runs (drive event h) → Answered number fid event move h
answered_so number fid question event call move h is does_so idle opened asked runs =
    let done = deeds h in
    let s = standing_of done number in
    let so = told_of number fid question event call move h is does_so idle opened asked runs in
    let before = so.before in
    let begun = before.on.begun in
    let answer = answer_by move begun in
    let now = kept move begun s.starting s.said in
    let there = so.there in
    let stands = stands_told number fid call done move begun s.starting s.said before.stands in
    let makes : made (on_server begun s.starting s.said) move (Some begun) ≡ now = makes_kept call move is begun s.starting s.said before.on.asked in
    let seats = seats_behind event h runs so.calm.entered in
    let speaking : speakers (deeds (drive event h)) ≡ speakers done = seats.speakers ∙ ap speakers there ∙ same_speakers number fid call answer done in
    let opened_then : opened_talks (deeds (drive event h)) ≡ opened_talks done =
    seats.opened ∙ ap opened_talks there ∙ untold_same opened_talks number call answer done (λ line d. refl) (λ c d. refl) in
    let stands_then : standing_of (deeds (drive event h)) number ≡ told_stands (fits 8192 answer) now = takes_change_none event h number ∙ ap (λ d. standing_of d number) there ∙ stands in
    let still_open : conv_of (deeds (drive event h)) 0 fid ≡ Some number = ap (λ ss. option_map (λ t. t.conv) (find (λ t. eqb t.conn 0 && eqb t.fid fid) ss)) speaking ∙ opened in
    record {
      does = record {
        begun = begun;
        starting = s.starting;
        said = s.said;
        stood = before.on.stands;
        asked = before.on.asked;
        stands = ap (λ d. (standing_of d number).begun) there ∙ ap (λ x. x.begun) stands ∙ told_begun (fits 8192 answer) now;
        comes = subst (Comes (came fid event h) (on_server begun s.starting s.said)) (sym makes) (record {
          replies = told_so (fits 8192 answer) move begun refl (map (λ m. m.body) (replies_to event h)) (ap (map (λ m. m.body)) so.replies);
          questions = ap (map (λ q. q.bytes)) so.questions;
          before = ap (outcome_in done) opened ∙ ap outcome_of before.on.stands;
          now = ap (outcome_in (deeds (drive event h))) still_open ∙ ap outcome_of stands_then ∙ told_outcome (fits 8192 answer) move begun s.starting s.said;
        });
      };
      idle = idle_behind event h so.calm runs;
      seats = record { speakers = speaking; opened = opened_then };
      keeps = λ n other stood away. asker_behind event h n runs so.calm.entered ∙ ap (λ d. asker d n) there ∙ asker_left number fid call move is answer done n other stood away;
      raises = subst (λ qs. AreOf number qs (drive event h)) (sym so.questions) tt;
    }

pub answers_do : AnswersDo
answers_do number fid question bytes h idle opened asked runs = answered_so number fid question (Answer question bytes) (Heard bytes) (heard bytes) h (answer_is bytes) (λ done. refl) idle opened asked runs

pub absences_do : AbsencesDo
absences_do number fid question h idle opened asked runs = answered_so number fid question (NoAnswer question) Unheard unheard h absence_is (λ done. refl) idle opened asked runs
