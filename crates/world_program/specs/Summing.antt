-- What `gen` has written when it ends: a line on the record of the script of a number, which is run. Content is
-- optional: the words on it hold where it is told.
use Rattle.std.specs.Prelude.{◌≡◌, ℕ, List, [], ◌∷◌, ◌++◌, length, filter, Bool, true, false, codes, Option, Some, None}
use Rattle.std.specs.Fmt.{decimal}
use Rattle.wire_streams.specs.Streams.{Gains}
use Rattle.wire_streams.specs.Whole.{GainsFront}
use Rattle.wire_histories.specs.declared.step.Step.{Step}
use Rattle.wire_histories.specs.declared.step.Step.TheVariants.{Accept, Fail}
use Rattle.world_history.specs.Scripts.{play, world}
use Rattle.world_history.specs.Worlds.{messages_in}
use Rattle.world_scripts.specs.Generated.{gen_text}
use Rattle.world_promises.specs.Statements.{IsPromised}
use Rattle.auth_program.specs.declared.status.Status.{Status}
use Rattle.auth_program.specs.declared.status.Status.TheVariants.{Fine, WriteFault, NoMemory}

-- ---- the line

-- a conversation accepted; it broke
abbrev pub is_accept : Step → Bool
is_accept (Accept conv cuid suid) = true
is_accept step = false

abbrev pub is_fail : Step → Bool
is_fail (Fail conv cause) = true
is_fail step = false

-- what is told of these four numbers, in decimal
abbrev pub told : ℕ → ℕ → ℕ → ℕ → List ℕ
told rounds accepted failed messages = codes "rounds " ++ (decimal rounds ++ (codes " accepted " ++ (decimal accepted
    ++ (codes " failed " ++ (decimal failed ++ (codes " messages " ++ (decimal messages ++ 10 ∷ [])))))))

-- the line of a record of so many rounds
abbrev pub summary : ℕ → List Step → List ℕ
summary rounds record_of = told rounds (length (filter is_accept record_of)) (length (filter is_fail record_of))
    (length (messages_in record_of))

-- ---- the ends

-- no line of the script was refused, and the line on its record was written
pub record Sums (number rounds : ℕ) (holds_old holds_new : Option (List ℕ)) : Type 0 where
  pub done : (play (gen_text number rounds)).refused ≡ None
  pub written : Gains holds_old holds_new (summary rounds (world (gen_text number rounds)))
  pub promised : IsPromised (gen_text number rounds)

-- none was, and of the line a front was written, of which something is missing
pub record SumsFront (number rounds : ℕ) (holds_old holds_new : Option (List ℕ)) : Type 0 where
  pub done : (play (gen_text number rounds)).refused ≡ None
  pub written : GainsFront holds_old holds_new (summary rounds (world (gen_text number rounds)))
  pub promised : IsPromised (gen_text number rounds)

-- what a `gen` of a number and so many rounds that ended so has written; no other status ends it, since no line of
-- its script is refused
abbrev pub GenSo : Status → ℕ → ℕ → Option (List ℕ) → Option (List ℕ) → Type 0
GenSo Fine number rounds holds_old holds_new = Sums number rounds holds_old holds_new
GenSo WriteFault number rounds holds_old holds_new = SumsFront number rounds holds_old holds_new
GenSo NoMemory number rounds holds_old holds_new = holds_new ≡ holds_old
GenSo status number rounds holds_old holds_new = ⊥
