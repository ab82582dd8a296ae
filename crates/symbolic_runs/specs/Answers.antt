-- What a reading holds, and what the calls that spell answer.
use Rattle.std.specs.Prelude.{◌≡◌, ℕ, List, ◌++◌, ◌==◌, length, take, Result, Ok, Err, Option, Some, None, OnOk, OnErr, map, if◌then◌else◌}
use Rattle.symbolic_runs.specs.declared.reading.Reading.{Reading}
use Rattle.symbolic_runs.specs.declared.spelling.SpellFault.{SpellFault}
use Rattle.symbolic_runs.specs.declared.spelling.SpellFault.TheVariants.{NoAtom, BadSeal}
use Rattle.symbolic_runs.specs.Views.{tree}
use Rattle.symbolic_runs.specs.Spellings.{Atoms, Spelling}

-- the atoms of a reading with their bytes
abbrev pub atoms_of : Reading → Atoms
atoms_of reading = map (λ entry. (tree entry.atom, entry.bytes)) reading.list.items

-- a spelling with these bytes in front
abbrev pub behind : List ℕ → Spelling → Spelling
behind before (Ok bytes) = Ok (before ++ bytes)
behind before (Err fault) = Err fault

-- bytes as a key, where they are seven
abbrev pub key_option : List ℕ → Option (List ℕ)
key_option bytes = if length bytes == 7 then Some bytes else None

-- a call that appends a spelling to these bytes: done, it stands behind them; refused, it has that fault, and the bytes
-- stand in front of whatever else does
pub record Writes (spelled : Spelling) (before : List ℕ) (result : Result Unit SpellFault)
    (after : List ℕ) : Type 0 where
  pub done : OnOk result (behind before spelled ≡ Ok after)
  pub no_atom : result ≡ Err NoAtom → spelled ≡ Err NoAtom
  pub bad_seal : result ≡ Err BadSeal → spelled ≡ Err BadSeal
  pub kept : OnErr result (take (length before) after ≡ before)
