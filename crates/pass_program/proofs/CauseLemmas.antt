-- What a fault comes from, as calls are put together.
use Rattle.std.proofs.Common.{◌≡◌, ◌==◌, ℕ, ◌≤◌, Bool, true, false, refl, arith}
use Rattle.std.specs.Prelude.{if◌then◌else◌}
use Rattle.wire_streams.specs.Causes.{Rose}
use Rattle.pass_program.specs.Changing.{IsCaused}
use Rattle.pass_program.specs.Steps.{lack_at}
use Rattle.pass_program.specs.declared.fill.Lack.{Lack}
use Rattle.pass_program.specs.declared.fill.Lack.TheVariants.{Ended, Failed}
use Rattle.pass_program.specs.declared.status.PassStatus.{PassStatus}
use Rattle.pass_program.specs.declared.status.PassStatus.TheVariants.{Fine, Usage, ReadFault, WriteFault, WordFault, Torn, BadTable, Refused, NoMemory, Flood}

pub caused_by : {A B C P Q R : Type 0} (status : PassStatus) → (A → P) → (B → Q) → (C → R) → IsCaused status A B C → IsCaused status P Q R
caused_by (Fine changed) f g h c = tt
caused_by Usage f g h c = tt
caused_by ReadFault f g h c = f c
caused_by WriteFault f g h c = g c
caused_by WordFault f g h c = h c
caused_by (Torn at) f g h c = tt
caused_by (BadTable line) f g h c = tt
caused_by Refused f g h c = tt
caused_by NoMemory f g h c = tt
caused_by (Flood limit) f g h c = tt

-- a lack is a fault only where a read failed
pub lack_caused : {A : Type 0} (lack : Lack) (at : ℕ) → (lack ≡ Failed → A) → IsCaused (lack_at lack at) A ⊥ ⊥
lack_caused {A} (Ended have) at f = by_have (have == 0)
  where
    by_have : (b : Bool) → IsCaused (if b then Fine false else Torn at) A ⊥ ⊥
    by_have true = tt
    by_have false = tt
lack_caused Failed at f = f refl

-- a count rose since a later moment, so since an earlier one; and it never falls
pub rose_within : (a b c d : ℕ) → a ≤ b → c ≤ d → Rose b c → Rose a d
rose_within a b c d low high r = omega (arith, low, high, r)
