-- What a call of p9sk1 comes to that is spoken where p9any led to it: what is needed and how it ends behind it, what it
-- is answered and what is got.
use Rattle.std.proofs.Common.{◌≡◌, ℕ, List, ◌∷◌, ◌++◌, ap, ◌∙◌}
use Rattle.roles.specs.declared.answer.Gave.{Gave}
use Rattle.roles.specs.declared.need.Need.{Need}
use Rattle.roles.specs.declared.need.Outcome.{Outcome}
use Rattle.roles.specs.declared.stage.Stage.{Stage}
use Rattle.roles.specs.Courses.{need_at, need_of, outcome_at, outcome_of}
use Rattle.roles.specs.Starts.{Start}
use Rattle.roles.specs.Talks.{Call}
use Rattle.conv_p9any.specs.Courses as choice
use Rattle.complete_logins.specs.Choices.{p9sk1}
use Rattle.complete_logins.proofs.LoginLaws.{Passes}
use Rattle.complete_logins.proofs.WithinLemmas.{AllInner, IsInner, Leads, call_within, need_within, outcome_within}

-- a call behind what led to p9sk1 and what was met since
pub record Comes (start : Start) (before : List Call) (call : Call) (ending : Outcome) (need : Need) (given : Gave) (bytes : List ℕ) : Type 0 where
  pub ends : choice.outcome_after p9sk1 start (call ∷ before) ≡ ending
  pub needs : choice.need_after p9sk1 start (call ∷ before) ≡ need
  pub answer : choice.answer_after p9sk1 start before call ≡ given
  pub puts : choice.puts_after p9sk1 start before call ≡ bytes

pub comes : (start : Start) (met : List Call) (inner : Start) → Leads start met inner → (talk : List Call) → AllInner talk → (call : Call) → IsInner call
    → (next : Stage) (given : Gave) (bytes : List ℕ) (ending : Outcome) (need : Need) → Passes inner talk call next given bytes → outcome_of next ≡ ending → need_of inner next ≡ need
    → Comes start (talk ++ met) call ending need given bytes
comes start met inner led talk all call is next given bytes ending need passed ends needs =
    let within = call_within start met inner led talk all call is in
    record {
      ends = outcome_within start met inner led (call ∷ talk) (is, all) ∙ ap outcome_at passed.course ∙ ends;
      needs = need_within start met inner led (call ∷ talk) (is, all) ∙ ap (need_at inner) passed.course ∙ needs;
      answer = within.0 ∙ passed.answer;
      puts = within.1 ∙ passed.puts;
    }
