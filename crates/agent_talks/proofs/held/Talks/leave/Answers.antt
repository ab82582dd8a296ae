use Rattle.std.proofs.Common.{◌≡◌, [], List, filter, refl, sym, ap, inl, inr, rules, ◌∙◌}
use Rattle.agent_talks.specs.declared.speaker.Speaker.{Speaker}
use Rattle.agent_talks.specs.Kept.{leaves}
use Rattle.agent_talks.proofs.LeaveLemmas.{all_stay_there, left_none, left_same, no_elements}
use Rattle.agent_talks.proofs.held.Talks.leave.Goals as goal

pub returns-then-is_empty : goal.returns-then-is_empty
returns-then-is_empty c =
    let who = c.args.leaving in
    let all = c.args.self.now.speakers in
    let empty : c.leavers-leavers.result.now ≡ [] = no_elements c.leavers-leavers.result.now (search rules) in
    let none : filter (λ s. leaves who s) all ≡ [] = sym c.leavers-leavers.ensures ∙ ap (λ (xs : List Speaker). filter (λ s. leaves who s) xs) empty in
    record { opened = refl; speakers = sym (all_stay_there who all none); table = λ conv. left_none who all conv _ none; raised = refl; questions = inl (none, refl) }

pub returns : goal.returns
returns c = record {
  opened = refl;
  speakers = c.leave.ensures;
  table = λ conv. c.drop_left.ensures conv ∙ left_same c.args.leaving c.leavers-leavers.result.now c.args.self.now.speakers conv _ c.leavers-leavers.ensures;
  raised = refl;
  questions = inr c.keep_questions.ensures;
}
