-- A loop that repeats a step: what it has made before the first round, and after one more.
use Rattle.std.proofs.Common.{◌≡◌, ℕ, ◌+◌, List, refl, add-one, ap, ◌∙◌}
use Rattle.bench_work.specs.Work.{repeated}

pub repeated_none : (step : List ℕ → List ℕ) (first : List ℕ) → first ≡ repeated step 0 first
unfolding repeated
repeated_none step first = refl

pub repeated_more : (step : List ℕ → List ℕ) (rounds : ℕ) (first last next : List ℕ) → last ≡ repeated step rounds first → next ≡ step last → next ≡ repeated step (rounds + 1) first
unfolding repeated
repeated_more step rounds first last next so_far one_more = rw add-one (one_more ∙ ap step so_far)
