-- On what the acts of a role of p9sk1 stand: its start alone, or the acts by which p9any chose it. They are no moves, and behind
-- them p9any isn't choosing.
use Rattle.std.proofs.Common.{◌≡◌, ℕ, List, [], ◌∷◌, ◌++◌, Option, false, refl, ap, ◌∙◌}
use Rattle.wire_histories.specs.declared.step.Protocol.TheVariants as protocol
use Rattle.wire_histories.specs.declared.step.Role.{Role as Part}
use Rattle.roles.specs.declared.key.SkKey.{SkKey}
use Rattle.roles.specs.Talks.{Call, found}
use Rattle.symbolic_runs.specs.Moves.{Own, Role}
use Rattle.wire_histories.specs.Histories.{Act, started, gave, took}
use Rattle.clean_runs.specs.Labels.{Labelled}
use Rattle.clean_runs.specs.Runs.{acts_in, is_choosing, moves_by, moves_for}
use Rattle.clean_runs.proofs.Begun.{BeginsWith}
use Rattle.clean_runs.proofs.Follows.{one_act}
use Rattle.clean_runs.proofs.SkServers.{Told, at_once, told}
use Rattle.clean_runs.proofs.Steps.{is_start}

-- ---- what holds of each act and those before it

abbrev pub Each : (Act → List Act → Type 0) → List Act → Type 0
Each P [] = Unit {0}
Each P (act ∷ acts) = P act acts × Each P acts

pub each_behind : (P : Act → List Act → Type 0) (later acts : List Act) → Each P (later ++ acts) → Each P acts
each_behind P [] acts all = all
each_behind P (act ∷ later) acts all = each_behind P later acts all.1

pub each_as : (P Q : Act → List Act → Type 0) → ((act : Act) (acts : List Act) → P act acts → Q act acts) → (acts : List Act) → Each P acts → Each Q acts
each_as P Q so [] all = tt
each_as P Q so (act ∷ acts) all = (so act acts all.0, each_as P Q so acts all.1)

-- the key that was found last
pub record Found (met : List Call) (key : SkKey) : Type 0 where
  pub secret : Option (List ℕ)
  pub more : List Call
  pub is : met ≡ found key secret ∷ more

-- ---- a ground

pub record Ground (outer : Act) (role : Role) (ground : List Act) : Type 0 where
  pub begins : BeginsWith outer ground
  pub quiet : is_choosing ground ≡ false
  pub took_quiet : (b : List ℕ) → is_choosing (took b ∷ ground) ≡ false
  pub gave_quiet : (b : List ℕ) → is_choosing (gave b ∷ ground) ≡ false
  pub both_quiet : (a b : List ℕ) → is_choosing (gave a ∷ took b ∷ ground) ≡ false
  pub still : (own : Own) (before : List Labelled) → acts_in before ≡ ground → moves_by own role before ≡ []

pub begins_more : (first act : Act) (acts : List Act) → is_start act ≡ false → BeginsWith first acts → BeginsWith first (act ∷ acts)
begins_more first act [] no_start begun = absurd begun
begins_more first act (next ∷ acts) no_start begun = (no_start, begun)

pub told_begins : (first : Act) (base acts : List Act) → BeginsWith first base → Told base acts → BeginsWith first acts
told_begins first base acts begun at_once = begun
told_begins first base acts begun (told {acts = earlier} b rest) = begins_more first (took b) earlier refl (told_begins first base earlier begun rest)

pub told_quiet : (base acts : List Act) → ((more : List ℕ) → is_choosing (took more ∷ base) ≡ false) → Told base acts → (more : List ℕ) → is_choosing (took more ∷ acts) ≡ false
told_quiet base acts quiet at_once more = quiet more
told_quiet base acts quiet (told {acts = earlier} b rest) more = refl

pub told_on : (ground base acts : List Act) → Told base acts → Told (base ++ ground) (acts ++ ground)
told_on ground base acts at_once = at_once
told_on ground base acts (told {acts = earlier} b rest) = told b (told_on ground base earlier rest)

-- ---- p9sk1 alone isn't chosen

abbrev sk_start : Part → List ℕ → Act
sk_start by word = started protocol.P9sk1 by word

pub sk_ground : (by : Part) (word : List ℕ) (role : Role) → Ground (sk_start by word) role (sk_start by word ∷ [])
sk_ground by word role = record {
  begins = refl;
  quiet = refl;
  took_quiet = λ b. refl;
  gave_quiet = λ b. refl;
  both_quiet = λ a b. refl;
  still = λ own before is. (let a = one_act before (sk_start by word) is in ap (moves_by own role) a.1 ∙ ap (λ act. moves_for own role false [] act a.0.label ++ []) a.2);
}
