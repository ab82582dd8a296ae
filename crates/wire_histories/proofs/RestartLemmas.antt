-- Where no node is restarted, no conversation ends by it.
use Rattle.std.proofs.Common.{◌≡◌, ℕ, List, [], ◌∷◌, ◌++◌, Bool, true, false, ◌||◌, Option, Some, None, refl, ap, sym, ◌∙◌}
use Rattle.std.specs.List.{list_any}
use Rattle.wire_histories.specs.declared.step.Step.{Step}
use Rattle.wire_histories.specs.declared.step.Step.TheVariants.{Restart}
use Rattle.wire_histories.specs.Histories.{History}
use Rattle.wire_histories.specs.Legal.{EndsByRestarts, Spoken}

abbrev pub is_restart : Step → Bool
is_restart (Restart node) = true
is_restart step = false

neither : (a b : Bool) → a || b ≡ false → (a ≡ false) × (b ≡ false)
neither true b is = absurd (cc)
neither false b is = (refl, is)

no_place : (history later past : History) (node : List ℕ) → list_any is_restart history ≡ false → history ≡ later ++ Restart node ∷ past → ⊥
no_place [] [] past node none place = cc
no_place [] (x ∷ later) past node none place = cc
no_place (step ∷ history) [] past node none place =
    let first : step ≡ Restart node = cc in
    let both : true ≡ false = sym (ap is_restart first) ∙ (neither (is_restart step) (list_any is_restart history) none).0 in
    cc
no_place (step ∷ history) (x ∷ later) past node none place = no_place history later past node (neither (is_restart step) (list_any is_restart history) none).1 (let rest : history ≡ later ++ Restart node ∷ past = cc in rest)

pub unrestarted : (spoken : Option Spoken) (name : List ℕ) (history : History) → list_any is_restart history ≡ false → EndsByRestarts spoken name history
unrestarted None name history none = tt
unrestarted (Some spoken) name history none = λ later past place started. absurd (no_place history later past spoken.node none place)
