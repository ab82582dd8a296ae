-- What a turn does to an agent of a network: what of its conversations and their questions stays, and what the turn's own
-- conversation does.
use Rattle.std.proofs.Common.{◌≡◌, ℕ, List, [], ◌∷◌, Bool, true, false, cond, eqb, ◌&&◌, not, Option, Some, None, refl, sym, ap, ◌∙◌}
use Rattle.std.specs.Prelude.{find, option_map}
use Rattle.std.proofs.lemmas.Bool.{eq-eqb}
use Rattle.std.specs.Str.{bytes_eq}
use Rattle.agent_history.specs.declared.event.Event.{Event}
use Rattle.agent_history.specs.declared.event.Event.TheVariants.{NoAnswer}
use Rattle.agent_history.specs.declared.event.Event.TheVariants as events
use Rattle.agent_history.specs.Conversations.{asker, conv_of, opened_talks}
use Rattle.agent_history.specs.Histories.{History, deeds}
use Rattle.world_history.specs.declared.question.Question.{Question}
use Rattle.world_history.specs.Driving.{clunks, drive, questions_to, replies_to, told}
use Rattle.world_history.specs.Talking.{Asks, request_questions, requested}
use Rattle.world_history.specs.Turns.{Turn, after, asks, closes, hears, misses, turn_questions}
use Rattle.world_history.specs.Worlds.{call_behind, last_call}
use Rattle.world_promises.specs.Begun.{BegunWith}
use Rattle.world_promises.specs.Agents.{EventsLeave, TurnDoes, begun_in}
use Rattle.driven_agents.specs.Idle.{AreOf, IsIdle, KeepsAskers, Runs, SameSeats}
use Rattle.driven_agents.proofs.ClosesLaws.{close_is}
use Rattle.driven_agents.proofs.WritesLaws.{write_is}
use Rattle.world_promises.specs.Requests.{IsWorded, RequestsDo, RequestsLeave}
use Rattle.world_promises.proofs.RequestsLaws.{give_nothing}
use Rattle.world_promises.specs.Answers.{AbsencesDo, AbsencesLeave, AnswersDo, AnswersLeave}
use Rattle.world_promises.proofs.RunLemmas.{itself}

-- what is known of an agent's requests and answers
pub record Driven : Type 0 where
  pub requests : RequestsDo
  pub others : RequestsLeave
  pub answers : AnswersDo
  pub absences : AbsencesDo
  pub answer_others : AnswersLeave
  pub absence_others : AbsencesLeave

-- ---- what stays

-- but for the fid that is given up, and the questions of a conversation
pub record Behind (ends gone : ℕ → Bool) (h later : History) : Type 0 where
  pub idle : IsIdle later
  pub opened : opened_talks (deeds later) ≡ opened_talks (deeds h)
  pub others : (fid : ℕ) → gone fid ≡ false → conv_of (deeds later) 0 fid ≡ conv_of (deeds h) 0 fid
  pub askers : (call number : ℕ) → asker (deeds h) call ≡ Some number → ends number ≡ false → asker (deeds later) call ≡ Some number

abbrev pub none_of : ℕ → Bool
none_of n = false

-- a turn of the conversation of a name, which a fid has open under a number
pub record TurnSo (conv : List ℕ) (turn : Turn) (fid number : ℕ) (ends gone : ℕ → Bool) (h : History) : Type 0 where
  pub behind : Behind ends gone h (after turn h)
  pub does : TurnDoes number turn h
  pub leaves : (other : ℕ) → eqb other number ≡ false → EventsLeave other turn h
  -- a question that is outstanding then is the conversation's
  pub own : gone fid ≡ false → (call : Option ℕ) → ((c : ℕ) → call ≡ Some c → asker (deeds h) c ≡ Some number) → (c : ℕ) → call_behind conv turn (turn_questions turn h) call ≡ Some c → asker (deeds (after turn h)) c ≡ Some number

same_seats : (h later : History) → SameSeats h later → (fid : ℕ) → conv_of (deeds later) 0 fid ≡ conv_of (deeds h) 0 fid
same_seats h later s fid = ap (λ ss. option_map (λ s. s.conv) (find (λ s. eqb s.conn 0 && eqb s.fid fid) ss)) s.speakers

-- ---- questions

last_of : (number : ℕ) (qs : List Question) (call : Option ℕ) (h : History) → AreOf number qs h → ((c : ℕ) → call ≡ Some c → asker (deeds h) c ≡ Some number) → (c : ℕ) → last_call qs call ≡ Some c → asker (deeds h) c ≡ Some number
last_of number [] call h are old c is = old c is
last_of number (q ∷ qs) call h are old c is = last_of number qs (Some q.call) h are.1 (λ d e. let same : q.call ≡ d = cc in ap (asker (deeds h)) (sym same) ∙ are.0) c is

-- ---- a line of ctl

pub told_behind : (line : List ℕ) (h : History) → IsIdle h → Runs (told line h) → Behind none_of none_of h (told line h)
told_behind line h idle runs =
    let w = write_is 1 line h idle runs in
    record { idle = w.idle; opened = w.seats.opened; others = λ fid _. same_seats h (told line h) w.seats fid; askers = λ call n is _. w.askers call ∙ is }

-- ---- a request

pub request_so : Driven → (conv : List ℕ) (what : Asks) (fid number : ℕ) (h : History) → BegunWith IsWorded (begun_in h number) → IsIdle h → conv_of (deeds h) 0 fid ≡ Some number → Runs (after (asks conv fid what) h) → TurnSo conv (asks conv fid what) fid number none_of none_of h
unfolding after turn_questions
request_so d conv what fid number h begun idle seat runs =
    let r = d.requests number fid what h begun idle seat runs in
    let later = requested fid what h in
    record {
      behind = record { idle = r.idle; opened = r.seats.opened; others = λ f _. same_seats h later r.seats f; askers = λ call n is _. r.keeps call n is refl };
      does = r.does;
      leaves = λ other apart. d.others other number fid conv what h idle seat apart runs;
      own = λ _ call old c is. last_of number (request_questions fid what h) call later r.raises (λ e now. r.keeps e number (old e now) refl) c
          (ap (λ b. cond b (last_call (request_questions fid what h) call) call) (sym (itself conv)) ∙ is);
    }

-- ---- an answer, or its absence

not_mine : (n number : ℕ) → eqb n number ≡ false → not (eqb n number) ≡ true
not_mine n number apart = ap not apart

answered_behind : (number : ℕ) (event : Event) (h : History) → IsIdle (drive event h) → SameSeats h (drive event h) → KeepsAskers (λ n. not (eqb n number)) h (drive event h) → Behind (λ n. eqb n number) none_of h (drive event h)
answered_behind number event h idle seats keeps = record {
  idle = idle;
  opened = seats.opened;
  others = λ f _. same_seats h (drive event h) seats f;
  askers = λ c n is apart. keeps c n is (not_mine n number apart);
}

answered_own : (conv : List ℕ) (number : ℕ) (event : Event) (h : History) → AreOf number (questions_to event h) (drive event h) → (call : Option ℕ) (c : ℕ) → cond (bytes_eq conv conv) (last_call (questions_to event h) None) call ≡ Some c → asker (deeds (drive event h)) c ≡ Some number
answered_own conv number event h raises call c is =
    last_of number (questions_to event h) None (drive event h) raises (λ e no_way. absurd cc) c (ap (λ b. cond b (last_call (questions_to event h) None) call) (sym (itself conv)) ∙ is)

pub answer_so : Driven → (conv bytes : List ℕ) (call fid number : ℕ) (h : History) → IsIdle h → conv_of (deeds h) 0 fid ≡ Some number → asker (deeds h) call ≡ Some number → Runs (after (hears conv fid call bytes) h) → TurnSo conv (hears conv fid call bytes) fid number (λ n. eqb n number) none_of h
unfolding after turn_questions
answer_so d conv bytes call fid number h idle seat asks_it runs =
    let event = events.Answer call bytes in
    let a = d.answers number fid call bytes h idle seat asks_it runs in
    record {
      behind = answered_behind number event h a.idle a.seats a.keeps;
      does = a.does;
      leaves = λ other apart. d.answer_others other number call bytes h asks_it apart;
      own = λ _ old _ c is. answered_own conv number event h a.raises old c is;
    }

pub absence_so : Driven → (conv : List ℕ) (call fid number : ℕ) (h : History) → IsIdle h → conv_of (deeds h) 0 fid ≡ Some number → asker (deeds h) call ≡ Some number → Runs (after (misses conv fid call) h) → TurnSo conv (misses conv fid call) fid number (λ n. eqb n number) none_of h
unfolding after turn_questions
absence_so d conv call fid number h idle seat asks_it runs =
    let event = NoAnswer call in
    let a = d.absences number fid call h idle seat asks_it runs in
    record {
      behind = answered_behind number event h a.idle a.seats a.keeps;
      does = a.does;
      leaves = λ other apart. d.absence_others other number call h asks_it apart;
      own = λ _ old _ c is. answered_own conv number event h a.raises old c is;
    }

-- ---- a closing

gone_itself : (fid : ℕ) → eqb fid fid ≡ false → ⊥
gone_itself fid off = let on = eq-eqb fid fid refl in let no_way : true ≡ false = sym on ∙ off in cc

pub close_so : (conv : List ℕ) (fid number : ℕ) (h : History) → IsIdle h → conv_of (deeds h) 0 fid ≡ Some number → Runs (after (closes conv fid) h) → TurnSo conv (closes conv fid) fid number (λ n. eqb n number) (λ f. eqb f fid) h
unfolding after
close_so conv fid number h idle seat runs =
    let c = close_is fid number h idle seat runs in
    record {
      behind = record { idle = c.idle; opened = c.opened; others = c.others; askers = λ call n is apart. c.askers call n is apart };
      does = give_nothing (replies_to (clunks fid) h) c.replies;
      leaves = λ other apart. tt;
      own = λ stays call old n is. absurd (gone_itself fid stays);
    }
