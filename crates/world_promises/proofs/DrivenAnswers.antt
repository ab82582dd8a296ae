-- What an answer of the authentication server, or its absence, does to an agent whose conversation asked it.
use Rattle.std.proofs.Common.{◌≡◌, ℕ, List, [], ◌∷◌, map, Bool, true, false, cond, Some, refl, sym, ap, ◌∙◌, arith}
use Rattle.std.proofs.lemmas.Bool.{ne_eqb}
use Rattle.nine.specs.declared.message.RMsg.{RMsg}
use Rattle.nine.specs.declared.message.RBody.TheVariants as r
use Rattle.key_lists.specs.Lists.{KeyList}
use Rattle.roles.specs.Talks.{Call as Move, heard, unheard}
use Rattle.talks.specs.RpcAnswers.{answer_text}
use Rattle.talks.specs.declared.answer.RpcAnswer.{RpcAnswer}
use Rattle.talks.specs.declared.said.Said.{Said}
use Rattle.talks.specs.Calls.{Call, Heard, Unheard}
use Rattle.talks.specs.Standings.{Begun, Standing}
use Rattle.agent_history.specs.declared.event.Event.{Event}
use Rattle.agent_history.specs.declared.event.Event.TheVariants.{Answer, NoAnswer}
use Rattle.agent_history.specs.Deeds.{Deed, fid_of, held_by, keys_of}
use Rattle.agent_history.specs.Replies.{swept, too_small, waits}
use Rattle.agent_history.specs.Conversations.{asker, fits, opened_talks, resumed, speakers, standing_of}
use Rattle.agent_history.specs.Histories.{History, deeds, does}
use Rattle.world_history.specs.Driving.{drive, questions_to, replies_to}
use Rattle.driven_agents.specs.Idle.{Runs, read_of}
use Rattle.driven_agents.proofs.IdleLaws.{idle_behind}
use Rattle.world_promises.proofs.AnswerDeeds.{IsAnswer, absence_is, answer_by, answer_is, answered_by, kept, untold_same}
use Rattle.world_promises.proofs.AnswerLaws.{told_of}
use Rattle.world_promises.proofs.AnsweredCalm.{left_waits, others_stand, stands_told, told_stands}
use Rattle.world_promises.proofs.DrivenTurns.{AsksServer, Sits, seated, there, told_body}
use Rattle.world_promises.proofs.SightLaws.{sight, sight_behind}
use Rattle.agent_history.specs.Conversations as deed
use Rattle.world_promises.proofs.ToldReads.{left_by}

answered_sees : (n : ℕ) (keys : KeyList) (s : Standing) (call : Call) (answer : RpcAnswer) (done : List Deed) → sight n done ≡ seated n keys (read_of 2 ∷ []) s → sight n (answered_by n 2 call answer done) ≡ seated n keys [] (standing_of (answered_by n 2 call answer done) n)
answered_sees n keys s call answer done sees =
    let all = answered_by n 2 call answer done in
    let keys_so : keys_of all ≡ keys = untold_same keys_of n call answer done (λ line d. refl) (λ c d. refl) ∙ ap (λ v. v.keys) sees in
    let waits_so : waits all 0 ≡ [] = left_waits n 2 call answer done ∙ ap (λ v. left_by 2 (deed.told 8192 answer) v.waiting) sees in
    let own_so = untold_same (λ d. fid_of d 0 2) n call answer done (λ line d. refl) (λ c d. refl) ∙ ap (λ v. v.own) sees in
    let held_so : held_by all 0 ≡ 3 = untold_same (λ d. held_by d 0) n call answer done (λ line d. refl) (λ c d. refl) ∙ ap (λ v. v.held) sees in
    let seats_so = untold_same speakers n call answer done (λ line d. refl) (λ c d. refl) ∙ ap (λ v. v.seated) sees in
    let number_so = untold_same opened_talks n call answer done (λ line d. refl) (λ c d. refl) ∙ ap (λ v. v.numbered) sees in
    rw (keys_so, waits_so, own_so, held_so, seats_so, number_so) refl

same_begun : (a b : Begun) → Some a ≡ Some b → a ≡ b
same_begun a b e = cc

told_as : (fit : Bool) (answer : RpcAnswer) → fits 8192 answer ≡ fit → deed.told 8192 answer ≡ told_body fit answer
told_as true answer e = ap (λ b. cond b (r.Read (answer_text answer)) too_small) e
told_as false answer e = ap (λ b. cond b (r.Read (answer_text answer)) too_small) e

-- its read is told what the role answers
pub record IsHeard (n : ℕ) (keys : KeyList) (b : Begun) (move : Move) (fit : Bool) (event : Event) (h : History) : Type 0 where
  pub starting : Bool
  pub said : Said
  pub sits : Sits n keys (told_stands fit (kept move b starting said)) (drive event h)
  pub replies : map (λ (m : RMsg). m.body) (replies_to event h) ≡ told_body fit (answer_by move b) ∷ []
  pub questions : questions_to event h ≡ []

heard_so : (n : ℕ) (keys : KeyList) (s : Standing) (b : Begun) (question : ℕ) (event : Event) (call : Call) (move : Move) (h : History) (fit : Bool) → IsAnswer call move → ((done : List Deed) → does done event ≡ swept (resumed (asker done question) call done))
    → AsksServer n keys s question h → s.begun ≡ Some b → fits 8192 (answer_by move b) ≡ fit → Runs (drive event h) → IsHeard n keys b move fit event h
heard_so n keys s b question event call move h fit is does_so a begun fit_so runs =
    let done = deeds h in
    let t = told_of n 2 question event call move h is does_so a.idle (there n keys (read_of 2 ∷ []) s done a.sees) a.asks runs in
    let same : t.before.on.begun ≡ b = same_begun t.before.on.begun b (sym (ap (λ x. x.begun) t.before.on.stands) ∙ (ap (λ v. v.stands.begun) a.sees ∙ begun)) in
    let stood = standing_of done n in
    let all = answered_by n 2 call (answer_by move t.before.on.begun) done in
    let later = deeds (drive event h) in
    let behind : (m : ℕ) → sight m later ≡ sight m all = λ m. sight_behind m event h runs t.calm.entered ∙ ap (sight m) t.there in
    let stands : standing_of all n ≡ told_stands fit (kept move b stood.starting stood.said) =
    stands_told n 2 call done move t.before.on.begun stood.starting stood.said t.before.stands
    ∙ (ap (λ x. told_stands (fits 8192 (answer_by move x)) (kept move x stood.starting stood.said)) same ∙ ap (λ f. told_stands f (kept move b stood.starting stood.said)) fit_so) in
    record {
      starting = stood.starting;
      said = stood.said;
      sits = record {
        idle = idle_behind event h t.calm runs;
        sees = behind n ∙ (answered_sees n keys s call (answer_by move t.before.on.begun) done a.sees ∙ ap (λ x. seated n keys [] x) stands);
        fresh = λ m below. ap (λ v. v.stands) (behind m) ∙ (others_stand n 2 call (answer_by move t.before.on.begun) done m (ne_eqb m n (λ same. omega (arith, below, same))) ∙ a.fresh m below);
      };
      replies = ap (map (λ (m : RMsg). m.body)) t.replies ∙ (ap (λ x. deed.told 8192 (answer_by move x) ∷ []) same ∙ ap (λ body. body ∷ []) (told_as fit (answer_by move b) fit_so));
      questions = t.questions;
    }

pub answer_goes : (n : ℕ) (keys : KeyList) (s : Standing) (b : Begun) (question : ℕ) (bytes : List ℕ) (h : History) (fit : Bool) → AsksServer n keys s question h → s.begun ≡ Some b → fits 8192 (answer_by (heard bytes) b) ≡ fit → Runs (drive (Answer question bytes) h) → IsHeard n keys b (heard bytes) fit (Answer question bytes) h
answer_goes n keys s b question bytes h fit a begun fit_so runs = heard_so n keys s b question (Answer question bytes) (Heard bytes) (heard bytes) h fit (answer_is bytes) (λ done. refl) a begun fit_so runs

pub absence_goes : (n : ℕ) (keys : KeyList) (s : Standing) (b : Begun) (question : ℕ) (h : History) (fit : Bool) → AsksServer n keys s question h → s.begun ≡ Some b → fits 8192 (answer_by unheard b) ≡ fit → Runs (drive (NoAnswer question) h) → IsHeard n keys b unheard fit (NoAnswer question) h
absence_goes n keys s b question h fit a begun fit_so runs = heard_so n keys s b question (NoAnswer question) Unheard unheard h fit absence_is (λ done. refl) a begun fit_so runs
