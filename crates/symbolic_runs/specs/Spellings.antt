-- What bytes a term stands for. A reading gives each atom its bytes; a joined term is its pieces in order, a seal is
-- the body sealed under the key (Plan 9's encrypt(2)), a digest its 32 digits (RFC 1939, RFC 2195). The first fault
-- from the left is told, the key before the body and the secret before the text.
use Rattle.std.specs.Prelude.{ℕ, List, [], ◌∷◌, ◌++◌, length, not, ◌&&◌, ◌==◌, nat_lt, Option, Some, None, Result, Ok, Err, if◌then◌else◌}
use Rattle.sealing.specs.Sealing.{sealed}
use Rattle.sealing.specs.Answer.{apop_digits, cram_digits}
use Rattle.symbolic_runs.specs.declared.kind.MacKind.{MacKind}
use Rattle.symbolic_runs.specs.declared.kind.MacKind.TheVariants.{Apop, Cram}
use Rattle.symbolic_runs.specs.declared.spelling.SpellFault.{SpellFault}
use Rattle.symbolic_runs.specs.declared.spelling.SpellFault.TheVariants.{NoAtom, BadSeal}
use Rattle.symbolic_runs.specs.Trees.{Tree, plain, joined, seal, digest, Trees, none, piece, same_tree}

-- atoms with their bytes
abbrev pub Atoms : Type 0
Atoms = List (Tree × List ℕ)

-- the bytes of an atom
abbrev pub bytes_of : Atoms → Tree → Option (List ℕ)
bytes_of [] atom = None
bytes_of (a ∷ others) atom = if same_tree a.0 atom then Some a.1 else bytes_of others atom

-- a reading in which an atom has these bytes, in place of others that it had
abbrev pub with_atom : Tree → List ℕ → Atoms → Atoms
with_atom atom bytes [] = (atom, bytes) ∷ []
with_atom atom bytes (a ∷ others) =
    if same_tree a.0 atom then (atom, bytes) ∷ others
    else a ∷ with_atom atom bytes others

abbrev pub Spelling : Type 0
Spelling = Result (List ℕ) SpellFault

-- one and then another; the first fault ends it
abbrev pub and_then : Spelling → (List ℕ → Spelling) → Spelling
and_then (Ok bytes) f = f bytes
and_then (Err fault) f = Err fault

abbrev pub atom_bytes : Option (List ℕ) → Spelling
atom_bytes (Some bytes) = Ok bytes
atom_bytes None = Err NoAtom

-- a key of seven bytes seals a body of eight bytes or more
abbrev pub seal_bytes : List ℕ → List ℕ → Spelling
seal_bytes key body = if length key == 7 && not (nat_lt (length body) 8) then Ok (sealed key body) else Err BadSeal

abbrev pub digest_bytes : MacKind → List ℕ → List ℕ → List ℕ
digest_bytes Apop secret text = apop_digits text secret
digest_bytes Cram secret text = cram_digits text secret

abbrev mutual
  pub spelling : Atoms → Tree → Spelling
  spelling atoms (plain bytes) = Ok bytes
  spelling atoms (joined pieces) = spelling_all atoms pieces
  spelling atoms (seal k t) =
      and_then (spelling atoms k) (λ key. and_then (spelling atoms t) (λ body. seal_bytes key body))
  spelling atoms (digest kind p t) =
      and_then (spelling atoms p) (λ secret. and_then (spelling atoms t) (λ text. Ok (digest_bytes kind secret text)))
  spelling atoms atom = atom_bytes (bytes_of atoms atom)

  pub spelling_all : Atoms → Trees → Spelling
  spelling_all atoms none = Ok []
  spelling_all atoms (piece t ts) =
      and_then (spelling atoms t) (λ first. and_then (spelling_all atoms ts) (λ rest. Ok (first ++ rest)))
