-- What holds step by step holds at each place.
use Rattle.std.proofs.Common.{◌≡◌, [], ◌∷◌, ◌++◌, subst}
use Rattle.wire_histories.specs.declared.step.Step.{Step}
use Rattle.wire_histories.specs.Histories.{History}
use Rattle.clean_runs.specs.Clean.{AtEachPlace}

abbrev pub Everywhere : (History → Step → Type 0) → History → Type 0
Everywhere P [] = Unit {0}
Everywhere P (step ∷ past) = P past step × Everywhere P past

pub everywhere : (P : History → Step → Type 0) (history : History) → Everywhere P history → AtEachPlace history P
everywhere P [] e [] past step is = absurd (cc)
everywhere P [] e (x ∷ later) past step is = absurd (cc)
everywhere P (first ∷ history) e [] past step is =
    let here : first ≡ step = cc in
    let rest : history ≡ past = cc in
    subst (λ (p : History). P p step) rest (subst (λ (x : Step). P history x) here e.0)
everywhere P (first ∷ history) e (x ∷ later) past step is =
    let rest : history ≡ later ++ step ∷ past = cc in
    everywhere P history e.1 later past step rest
