-- The steps of a request to a session, by what became of it. This serves proofs alone.
use Rattle.std.specs.Prelude.{ℕ, List, [], ◌∷◌, Bool, if◌then◌else◌}
use Rattle.wire_histories.specs.declared.step.Step.{Step}
use Rattle.wire_histories.specs.declared.step.Step.TheVariants.{AsEnd, AsGave, AsGot}
use Rattle.world_run.specs.declared.clients.Served.{Served}
use Rattle.world_run.specs.declared.clients.Served.TheVariants as served

abbrev pub end_if : List ℕ → Bool → List Step
end_if session ends = if ends then AsEnd session ∷ [] else []

abbrev pub served_steps : ℕ → List ℕ → List ℕ → List (List ℕ) → Served → List ℕ → List Step
served_steps number session request words served.Refused answer = []
served_steps number session request words (served.Answered ends) answer =
    AsGot session request words ∷ AsGave number session answer ∷ end_if session ends
served_steps number session request words served.Ended answer = AsGot session request words ∷ AsEnd session ∷ []
