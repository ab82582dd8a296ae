-- What is promised of an answer where there is memory, and of the talk then.
use Rattle.std.proofs.Common.{◌≡◌, ◌≢◌, List, ◌∷◌, refl}
use Rattle.roles.specs.declared.answer.Gave.{Gave}
use Rattle.roles.specs.declared.answer.Gave.TheVariants as g
use Rattle.roles.specs.Answers.{Comes, talk_with}
use Rattle.roles.specs.Talks.{Call}

-- what is told where there is memory is told, unless there is none
pub comes : (given wanted : Gave) → (given ≢ g.NoMemory → given ≡ wanted) → Comes given wanted
comes g.NoMemory wanted h = tt
comes g.Ok wanted h = h (λ e. cc)
comes g.Wait wanted h = h (λ e. cc)
comes (g.Phase word) wanted h = h (λ e. cc)
comes (g.TooSmall size) wanted h = h (λ e. cc)
comes g.TooLong wanted h = h (λ e. cc)
comes (g.Done haveai) wanted h = h (λ e. cc)
comes g.BadKey wanted h = h (λ e. cc)
comes (g.Refused cause) wanted h = h (λ e. cc)

-- the same of what stands for a talk
pub goes_on : (Stands : List Call → Type 0) (given : Gave) (call : Call) (talk : List Call) → (given ≡ g.NoMemory → Stands talk) → (given ≢ g.NoMemory → Stands (call ∷ talk)) → Stands (talk_with given call talk)
goes_on Stands g.NoMemory call talk same more = same refl
goes_on Stands g.Ok call talk same more = more (λ e. cc)
goes_on Stands g.Wait call talk same more = more (λ e. cc)
goes_on Stands (g.Phase word) call talk same more = more (λ e. cc)
goes_on Stands (g.TooSmall size) call talk same more = more (λ e. cc)
goes_on Stands g.TooLong call talk same more = more (λ e. cc)
goes_on Stands (g.Done haveai) call talk same more = more (λ e. cc)
goes_on Stands g.BadKey call talk same more = more (λ e. cc)
goes_on Stands (g.Refused cause) call talk same more = more (λ e. cc)
