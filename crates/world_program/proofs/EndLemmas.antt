-- What is left of the ends of `world` and `gen` where nothing stands in their way, and that each has a line.
use Rattle.std.proofs.Common.{◌≡◌, ◌⊎◌, ◌∙◌, ℕ, List, true, false, Option, Some, None, is_some, refl, ap, sym, inl, inr}
use Rattle.auth_program.specs.declared.cause.ScriptCause.{ScriptCause}
use Rattle.world_history.specs.Scripts.{play}
use Rattle.auth_program.specs.Statuses.{is_printable}
use Rattle.auth_program.specs.declared.status.Status.{Status}
use Rattle.auth_program.specs.declared.status.Status.TheVariants.{Fine, Usage, ReadFault, WriteFault, WordFault, BadFrame, Torn, BadScript, BadTables, AsEnded, NoMemory, Flood}
use Rattle.auth_program.proofs.FileLemmas.{no_flood, told_file}
use Rattle.world_program.specs.Playing.{IsPlayable, WorldSo}
use Rattle.world_program.specs.Summing.{GenSo}

no_cause : (refused : Option (ℕ × ScriptCause)) (line : ℕ) (cause : ScriptCause) → refused ≡ None → refused ≡ Some (line, cause) → ⊥
no_cause None line cause e f = let g : false ≡ true = ap is_some f in cc
no_cause (Some other) line cause e f = let g : true ≡ false = ap is_some e in cc

pub played_to_end : (status : Status) (left_old left_new holds_old holds_new : Option (List ℕ)) → IsPlayable left_old → WorldSo status left_old left_new holds_old holds_new
    → (status ≡ ReadFault → ⊥) → (status ≡ WriteFault → ⊥) → (status ≡ Fine) ⊎ (status ≡ NoMemory)
played_to_end Fine lo ln ho hn p v read write = inl refl
played_to_end Usage lo ln ho hn p v read write = absurd v
played_to_end ReadFault lo ln ho hn p v read write = absurd (read refl)
played_to_end WriteFault lo ln ho hn p v read write = absurd (write refl)
played_to_end WordFault lo ln ho hn p v read write = absurd v
played_to_end (BadFrame at size) lo ln ho hn p v read write = absurd v
played_to_end (Torn at) lo ln ho hn p v read write = absurd v
played_to_end (BadScript line cause) lo ln ho hn p v read write =
    absurd (no_cause (play v.script).refused line cause (ap (λ (s : List ℕ). (play s).refused) (sym (told_file p.script v.script lo ln p.told v.read)) ∙ p.done) v.refused)
played_to_end (BadTables speaks line) lo ln ho hn p v read write = absurd v
played_to_end (AsEnded end) lo ln ho hn p v read write = absurd v
played_to_end NoMemory lo ln ho hn p v read write = inr refl
played_to_end (Flood limit) lo ln ho hn p v read write = absurd (no_flood p.script lo ln p.told p.few v.1)

pub summed_to_end : (status : Status) (number rounds : ℕ) (old new : Option (List ℕ)) → GenSo status number rounds old new
    → (status ≡ WriteFault → ⊥) → (status ≡ Fine) ⊎ (status ≡ NoMemory)
summed_to_end Fine number rounds old new v write = inl refl
summed_to_end Usage number rounds old new v write = absurd v
summed_to_end ReadFault number rounds old new v write = absurd v
summed_to_end WriteFault number rounds old new v write = absurd (write refl)
summed_to_end WordFault number rounds old new v write = absurd v
summed_to_end (BadFrame at size) number rounds old new v write = absurd v
summed_to_end (Torn at) number rounds old new v write = absurd v
summed_to_end (BadScript line cause) number rounds old new v write = absurd v
summed_to_end (BadTables speaks line) number rounds old new v write = absurd v
summed_to_end (AsEnded end) number rounds old new v write = absurd v
summed_to_end NoMemory number rounds old new v write = inr refl
summed_to_end (Flood limit) number rounds old new v write = absurd v

-- ---- each status has a line

pub played_printable : (status : Status) (left_old left_new holds_old holds_new : Option (List ℕ)) → WorldSo status left_old left_new holds_old holds_new → is_printable status ≡ true
played_printable Fine lo ln ho hn v = refl
played_printable Usage lo ln ho hn v = refl
played_printable ReadFault lo ln ho hn v = refl
played_printable WriteFault lo ln ho hn v = refl
played_printable WordFault lo ln ho hn v = refl
played_printable (BadFrame at size) lo ln ho hn v = refl
played_printable (Torn at) lo ln ho hn v = refl
played_printable (BadScript line cause) lo ln ho hn v = refl
played_printable (BadTables speaks line) lo ln ho hn v = refl
played_printable (AsEnded end) lo ln ho hn v = absurd v
played_printable NoMemory lo ln ho hn v = refl
played_printable (Flood limit) lo ln ho hn v = refl

pub summed_printable : (status : Status) (number rounds : ℕ) (old new : Option (List ℕ)) → GenSo status number rounds old new → is_printable status ≡ true
summed_printable Fine number rounds old new v = refl
summed_printable Usage number rounds old new v = refl
summed_printable ReadFault number rounds old new v = refl
summed_printable WriteFault number rounds old new v = refl
summed_printable WordFault number rounds old new v = refl
summed_printable (BadFrame at size) number rounds old new v = refl
summed_printable (Torn at) number rounds old new v = refl
summed_printable (BadScript line cause) number rounds old new v = absurd v
summed_printable (BadTables speaks line) number rounds old new v = refl
summed_printable (AsEnded end) number rounds old new v = absurd v
summed_printable NoMemory number rounds old new v = refl
summed_printable (Flood limit) number rounds old new v = refl
