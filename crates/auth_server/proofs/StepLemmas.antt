-- What a step makes of a session is what its requests leave.
use Rattle.std.proofs.Common.{◌≡◌, ◌↔◌, ℕ, ◌+◌, List, ◌∷◌, true, leb, Option, sym, ap, ◌∙◌}
use Rattle.sealing.specs.Request.{request_of}
use Rattle.auth_server.specs.declared.session.AsStep.{AsStep}
use Rattle.auth_server.specs.declared.session.AsStep.TheVariants.{TooManyWrong}
use Rattle.auth_server.specs.Requests.{Asked, Challenge}
use Rattle.auth_server.specs.Answers.{Knowledge, Posed, answer_in, answer_to, held_after, is_over_in, most_wrong, posed, wrong_by, wrong_in}
use Rattle.auth_server.specs.Standing.{Standing, Stands}
use Rattle.auth_server.specs.Steps.{Moves}

module _ (known : Knowledge) (asked : Asked) (before : List Posed) (old : Standing) (s : Stands before old) where
  pub answer_so : answer_to known asked old.held (request_of asked.request) ≡ answer_in before (posed known asked)
  unfolding answer_in
  answer_so = ap (λ (now : Option Challenge). answer_to known asked now (request_of asked.request)) s.held

  pub stands_so : (new : Standing) → Moves known asked old new (request_of asked.request) → Stands (posed known asked ∷ before) new
  stands_so new m = record {
    held = m.held ∙ ap (λ (now : Option Challenge). held_after known asked now (request_of asked.request)) s.held;
    wrong = m.wrong ∙ (ap (λ (n : ℕ). n + wrong_by known asked old.held (request_of asked.request)) s.wrong
        ∙ ap (λ (now : Option Challenge). wrong_in before + wrong_by known asked now (request_of asked.request)) s.held);
  }

  pub over_so : (new : Standing) (step : AsStep) → Moves known asked old new (request_of asked.request) → (step ≡ TooManyWrong) ↔ (leb most_wrong new.wrong ≡ true) → (step ≡ TooManyWrong) ↔ (is_over_in (posed known asked ∷ before) ≡ true)
  over_so new step m ends =
      let same : leb most_wrong new.wrong ≡ is_over_in (posed known asked ∷ before) = ap (leb most_wrong) (stands_so new m).wrong in (
        λ e. sym same ∙ ends.0 e,
        λ e. ends.1 (same ∙ e),
      )
