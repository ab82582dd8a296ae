-- An answer of the authentication server takes the questions of its conversation away, and leaves those of the others.
use Rattle.std.proofs.Common.{◌≡◌, ℕ, List, ◌∷◌, true, eqb, not, Some, None, refl, ap, ◌∙◌}
use Rattle.std.specs.Prelude.{filter, find, option_map}
use Rattle.roles.specs.Talks.{Call as Move}
use Rattle.talks.specs.declared.answer.RpcAnswer.{RpcAnswer}
use Rattle.talks.specs.Calls.{Call}
use Rattle.agent_history.specs.Deeds.{Deed, OfTalk}
use Rattle.agent_history.specs.Conversations.{Question, asker, next_question, questions}
use Rattle.driven_agents.proofs.FoundLemmas.{found_by, found_stays}
use Rattle.driven_agents.proofs.CallLemmas.{logged_same}
use Rattle.world_promises.proofs.AnswerDeeds.{IsAnswer, answered_by, lines_by, met_by, took_same}
use Rattle.world_promises.proofs.FoundLemmas.{none_kept}

abbrev pub others_of : ℕ → List Question → List Question
others_of number qs = filter (λ q. not (eqb q.conv number)) qs

left_questions : (number fid : ℕ) (call : Call) (move : Move) → IsAnswer call move → (answer : RpcAnswer) (done : List Deed) → questions (answered_by number fid call answer done) ≡ others_of number (questions done)
left_questions number fid call move is answer done =
    took_same questions number answer (met_by number call done) (λ d. refl)
    ∙ logged_same questions (λ line d. refl) (lines_by number call done) (OfTalk number call ∷ done)
    ∙ is.asks number done

-- none is left to be handed out
pub none_next : (number fid : ℕ) (call : Call) (move : Move) → IsAnswer call move → (answer : RpcAnswer) (done : List Deed) → next_question done ≡ None → next_question (answered_by number fid call answer done) ≡ None
none_next number fid call move is answer done none =
    ap (find (λ q. not q.handed)) (left_questions number fid call move is answer done) ∙ none_kept (λ q. not q.handed) (λ q. not (eqb q.conv number)) (questions done) none

-- another conversation keeps its question
pub asker_left : (number fid : ℕ) (call : Call) (move : Move) → IsAnswer call move → (answer : RpcAnswer) (done : List Deed) (question other : ℕ) → asker done question ≡ Some other → not (eqb other number) ≡ true → asker (answered_by number fid call answer done) question ≡ Some other
asker_left number fid call move is answer done question other asked away =
    let at = λ (q : Question). eqb q.call question in
    let one = found_by (λ q. q.conv) (find at (questions done)) other asked in
    ap (λ qs. option_map (λ q. q.conv) (find at qs)) (left_questions number fid call move is answer done)
    ∙ ap (option_map (λ q. q.conv)) (found_stays at (λ q. not (eqb q.conv number)) (questions done) one.which one.found (ap (λ n. not (eqb n number)) one.gives ∙ away))
    ∙ ap Some one.gives
