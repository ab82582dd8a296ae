-- What a read of a conversation that has a request comes to: it is refused, or the request is carried out.
use Rattle.std.proofs.Common.{◌≡◌, ℕ, List, [], ◌∷◌, ◌&&◌, map, true, false, eqb, not, Option, Some, None, length, codes, refl, sym, ap, subst, ◌∙◌, inl, inr}
use Rattle.std.specs.Prelude.{◌⊎◌, find, option_map}
use Rattle.std.proofs.lemmas.Bool.{le-leb}
use Rattle.nine.specs.declared.message.RBody.{RBody}
use Rattle.nine.specs.declared.message.RBody.TheVariants as r
use Rattle.roles.specs.declared.need.Need.{Need}
use Rattle.roles.specs.declared.need.Need.TheVariants.{Nothing, Key, Offers, Pick, Exchange}
use Rattle.talks.specs.RpcAnswers.{answer_text}
use Rattle.talks.specs.declared.answer.RpcAnswer.{RpcAnswer}
use Rattle.talks.specs.declared.said.Said.{Said}
use Rattle.talks.specs.Calls as calls
use Rattle.talks.specs.Standings.{Begun, Phase, Resting, Waiting, Kept, Standing, carried_out, in_phase, need_in, outcome_of, then_stands}
use Rattle.agent_history.specs.Deeds.{Deed, OfReplies, OfTalk, Awaited}
use Rattle.agent_history.specs.Replies.{too_small}
use Rattle.agent_history.specs.Conversations.{conv_of, fits, outcome_at, outcome_in, questions, speakers, standing_of, talk}
use Rattle.agent_history.specs.Histories.{History, deeds}
use Rattle.world_history.specs.Driving.{drive, reads, replies_to}
use Rattle.world_history.specs.Talking.{Asks, came, gets, gives, starts, is_taken, word_of}
use Rattle.wire_histories.specs.Conversations.{is_asked}
use Rattle.world_promises.specs.Begun.{BegunWith}
use Rattle.world_promises.specs.Telling.{answer_acts, idle, is_driven, is_taken_in}
use Rattle.world_promises.specs.Agents.{Answers, IsCarried, IsUnread, answers_in, asked_as, asked_in, begun_in, bodies, question_in, questions_in, reads_all, reads_none}
use Rattle.driven_agents.specs.Idle.{IsIdle, Runs}
use Rattle.driven_agents.proofs.HandedLaws.{bytes_of}
use Rattle.world_promises.specs.Requests.{IsWorded}
use Rattle.world_promises.proofs.AnswerFits.{MovesFit, PhaseTells, Tells, carried_tells, searched_tells}
use Rattle.world_promises.proofs.EventDeeds.{CameOf, came_of}
use Rattle.world_promises.proofs.MetDeeds.{MetSo, asked_then}
use Rattle.world_promises.proofs.OfferedLaws.{moves_fit}
use Rattle.world_promises.proofs.ReadCases.{ReadCase, is_awaited, is_refused, is_told, isnt_told}
use Rattle.world_promises.proofs.ReadLaws.{ReadLeft, asked_left, none_put, one_put, quiet_left, rest_of}
use Rattle.world_promises.proofs.RestLaws.{server_need}
use Rattle.world_promises.proofs.TalkSides.{same_going, stands_here, talk_going}

-- ---- the end of a conversation

outcome_there : (done : List Deed) (fid number : ℕ) → conv_of done 0 fid ≡ Some number → outcome_at done 0 fid ≡ outcome_of (standing_of done number)
outcome_there done fid number e = ap (outcome_in done) e

-- a read leaves the conversation to its fid
pub still_there : (fid number : ℕ) (one other : List Deed) → speakers other ≡ speakers one → conv_of one 0 fid ≡ Some number → conv_of other 0 fid ≡ Some number
still_there fid number one other same e = ap (λ ss. option_map (λ s. s.conv) (find (λ s. eqb s.conn 0 && eqb s.fid fid) ss)) same ∙ e

outcome_took : (s : Standing) (answer : RpcAnswer) → s.phase ≡ Kept answer → outcome_of (in_phase s Resting) ≡ outcome_of s
outcome_took s answer e = ap (λ p. outcome_of (in_phase s p)) (sym e)

-- how it stands behind its answer
took_stands : (number : ℕ) (now : List Deed) (answer : RpcAnswer) → (standing_of now number).phase ≡ Kept answer → standing_of (OfTalk number calls.Took ∷ now) number ≡ in_phase (standing_of now number) Resting
took_stands number now answer e = stands_here number calls.Took now (standing_of now number) refl ∙ ap (λ p. then_stands (standing_of now number) p calls.Took) e

-- ---- a read that is refused

unread_left : (number fid : ℕ) (what : Asks) (h : History) (text : List ℕ) → IsIdle h → conv_of (deeds h) 0 fid ≡ Some number → CameOf fid (word_of what) h (deeds h) (Some (r.Error text)) → IsUnread number fid what h
unread_left number fid what h text idle_ there c =
    let later = deeds (drive (reads fid (word_of what)) h) in
    record {
      text = text;
      replies = ap (map (λ m. m.body)) c.replies;
      questions = ap (map (λ q. q.bytes)) (c.questions ∙ none_put (deeds h) (deeds h) idle_.handed refl);
      same = outcome_there later fid number (still_there fid number (deeds h) later c.seated there) ∙ (ap outcome_of (c.now number) ∙ sym (outcome_there (deeds h) fid number there));
      stays = ap (λ s. s.begun) (c.stands number);
    }

-- ---- one that isn't

-- what has to be shown of it, by what its replies and its questions are
carried_left : (number fid : ℕ) (what : Asks) (h : History) (begun : Option Begun) (said : Said) (now done : List Deed) (o : Option RBody) → conv_of (deeds h) 0 fid ≡ Some number → standing_of (deeds h) number ≡ idle begun (Waiting (asked_as what)) said → need_in begun ≡ Nothing
    → MetSo number (word_of what) (asked_as what) (idle begun (Waiting (asked_as what)) said) (deeds h) now → CameOf fid (word_of what) h done o → speakers done ≡ speakers (deeds h)
    → (standing_of done number).begun ≡ (standing_of now number).begun → outcome_of (standing_of done number) ≡ outcome_of (standing_of now number)
    → Answers (bodies (came fid (reads fid (word_of what)) h)) (standing_of now number).phase
    → asked_in (came fid (reads fid (word_of what)) h) ≡ questions_in (standing_of now number).phase (need_in (standing_of now number).begun)
    → is_taken (replies_to (reads fid (word_of what)) h) ≡ is_taken_in (standing_of now number).phase
    → IsCarried number fid what h
carried_left number fid what h begun said now done o there stood none met c seated same ends answers asked taken =
    let later = deeds (drive (reads fid (word_of what)) h) in
    record {
      begun = begun;
      said = said;
      now = standing_of now number;
      stood = stood;
      rests = none;
      searches = met.searches;
      stands = ap (λ s. s.begun) (c.stands number) ∙ same;
      comes = record {
        replies = answers;
        questions = asked;
        before = outcome_there (deeds h) fid number there ∙ ap outcome_of stood;
        now = outcome_there later fid number (still_there fid number (deeds h) later (c.seated ∙ seated) there) ∙ (ap outcome_of (c.now number) ∙ ends);
      };
      taken = taken;
    }

no_questions : (phase : Phase) (need : Need) (answer : RpcAnswer) → phase ≡ Kept answer → questions_in phase need ≡ []
no_questions phase need answer e = ap (λ p. questions_in p need) e

kept_asked : (number : ℕ) (from : List Deed) (phase : Phase) (answer : RpcAnswer) → phase ≡ Kept answer → asked_then number phase from ≡ questions from
kept_asked number from phase answer e = ap (λ p. asked_then number p from) e

-- an answer that doesn't fit
too_long : (answer : RpcAnswer) → Tells answer → fits 8192 answer ≡ false → (answer_acts (Kept answer) ≡ []) × (is_taken_in (Kept answer) ≡ false)
too_long answer (inl short) e = absurd (let no_way : true ≡ false = sym (le-leb (length (answer_text answer)) 8192 short) ∙ e in cc)
too_long answer (inr untaken) e = (untaken.0, ap not untaken.1)

-- the question that is put out is the one that is needed
one_asked : (need : Need) → is_asked need ≡ true → bytes_of need ∷ [] ≡ question_in need
one_asked (Exchange request shape) e = refl
one_asked (Key template) e = absurd cc
one_asked (Offers template) e = absurd cc
one_asked (Pick templates) e = absurd cc
one_asked Nothing e = absurd cc

pub record ReadSo (number fid : ℕ) (what : Asks) (h : History) : Type 0 where
  pub left : ReadLeft number fid (word_of what) h
  pub does : (BegunWith IsWorded (begun_in h number)) → IsUnread number fid what h ⊎ IsCarried number fid what h

moves_of : (h : History) (number : ℕ) (begun : Option Begun) → begun_in h number ≡ begun → MovesFit begun
moves_of h number None e = tt
moves_of h number (Some b) e = moves_fit h number b e

pub driven_so : (what : Asks) → is_driven (asked_as what) ≡ true
driven_so (starts word tuple) = refl
driven_so gets = refl
driven_so (gives bytes) = refl

pub comes_so : (number fid : ℕ) (what : Asks) (h : History) (begun : Option Begun) (said : Said) → IsIdle h → conv_of (deeds h) 0 fid ≡ Some number → Runs (drive (reads fid (word_of what)) h) → standing_of (deeds h) number ≡ idle begun (Waiting (asked_as what)) said → need_in begun ≡ Nothing
    → ReadCase number fid (word_of what) (asked_as what) (idle begun (Waiting (asked_as what)) said) h → ReadSo number fid what h
comes_so number fid what h begun said idle_ there runs stood none (is_refused text does) =
    let c = came_of fid (word_of what) h (deeds h) (Some (r.Error text)) idle_ runs does in
    record {
      left = quiet_left number fid (word_of what) h (deeds h) (Some (r.Error text)) idle_ c (rest_of number (deeds h) (deeds h) (same_going number (deeds h))) refl;
      does = λ worded. inl (unread_left number fid what h text idle_ there c);
    }
comes_so number fid what h begun said idle_ there runs stood none (is_told now answer met kept does) =
    let done = OfTalk number calls.Took ∷ now in
    let o : Option RBody = Some (r.Read (answer_text answer)) in
    let c = came_of fid (word_of what) h done o idle_ runs does in
    let g = talk_going number (deeds h) now calls.Took met.going in
    let same = met.asked ∙ kept_asked number (deeds h) (standing_of now number).phase answer kept in
    let took = took_stands number now answer kept in
    record {
      left = quiet_left number fid (word_of what) h done o idle_ c (rest_of number (deeds h) done g) same;
      does = λ worded. inr (carried_left number fid what h begun said now done o there stood none met c (ap (λ s. s.seated) g.side) (ap (λ s. s.begun) took) (ap outcome_of took ∙ outcome_took (standing_of now number) answer kept)
          (reads_all (ap (map (λ m. m.body)) c.replies ∙ sym (ap answers_in kept)))
          (ap (map (λ q. q.bytes)) (c.questions ∙ none_put (deeds h) done idle_.handed same) ∙ sym (no_questions (standing_of now number).phase _ answer kept))
          (ap is_taken c.replies ∙ sym (ap is_taken_in kept)));
    }
comes_so number fid what h begun said idle_ there runs stood none (isnt_told now answer met kept long does) =
    let o : Option RBody = Some too_small in
    let c = came_of fid (word_of what) h now o idle_ runs does in
    let same = met.asked ∙ kept_asked number (deeds h) (standing_of now number).phase answer kept in
    record {
      left = quiet_left number fid (word_of what) h now o idle_ c (rest_of number (deeds h) now met.going) same;
      does = λ worded.
          let first = carried_tells begun (Waiting (asked_as what)) said (word_of what) (asked_as what) (driven_so what) (subst (BegunWith IsWorded) (ap (λ s. s.begun) stood) worded) (moves_of h number begun (ap (λ s. s.begun) stood)) in
          let tells = subst PhaseTells kept (searched_tells (carried_out (idle begun (Waiting (asked_as what)) said) (word_of what) (asked_as what)) (standing_of now number) met.searches first) in
          let facts = too_long answer tells long in
          inr (carried_left number fid what h begun said now now o there stood none met c (ap (λ s. s.seated) met.going.side) refl refl
          (reads_none (codes "read too small") (ap (map (λ m. m.body)) c.replies) (ap answer_acts kept ∙ facts.0))
          (ap (map (λ q. q.bytes)) (c.questions ∙ none_put (deeds h) now idle_.handed same) ∙ sym (no_questions (standing_of now number).phase _ answer kept))
          (ap is_taken c.replies ∙ sym (ap is_taken_in kept ∙ facts.1)));
    }
comes_so number fid what h begun said idle_ there runs stood none (is_awaited now met asks does) =
    let done = OfReplies 0 (Awaited fid fid 8192) ∷ now in
    let c = came_of fid (word_of what) h done None idle_ runs does in
    let rest = rest_of number (deeds h) now met.going in
    let same = met.asked ∙ ap (λ p. asked_then number p (deeds h)) asks in
    let need = need_in (standing_of now number).begun in
    record {
      left = asked_left number fid (word_of what) h done None idle_ c (record { seated = rest.seated; numbered = rest.numbered; others = rest.others }) same;
      does = λ worded. inr (carried_left number fid what h begun said now done None there stood none met c (ap (λ s. s.seated) met.going.side) refl refl
          (reads_all (ap (map (λ m. m.body)) c.replies ∙ sym (ap answers_in asks)))
          (ap (map (λ q. q.bytes)) (c.questions ∙ one_put number (deeds h) done idle_.handed same) ∙ (one_asked need (server_need (talk now number) asks) ∙ sym (ap (λ p. questions_in p need) asks)))
          (ap is_taken c.replies ∙ sym (ap is_taken_in asks)));
    }
