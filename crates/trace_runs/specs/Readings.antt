-- The reading that a text of labels gives: its atoms with their bytes, in the order of its lines.
use Rattle.std.specs.Prelude.{◌≡◌, ℕ, List, [], ◌∷◌, Bool, true, not, ◌&&◌, ◌||◌, ◌==◌, length, Option, Some, None, if◌then◌else◌}
use Rattle.std.specs.List.{list_any, list_all}
use Rattle.std.specs.Str.{bytes_eq}
use Rattle.symbolic_runs.specs.Trees.{Tree, is_atom}
use Rattle.symbolic_runs.specs.Spellings.{Atoms, with_atom}
use Rattle.trace_labels.specs.Lines.{Line, compromised, holder, reading, label, proof}
use Rattle.trace_labels.specs.Labels.{AreLines}
use Rattle.clean_runs.specs.Clean.{is_challenge, is_key, is_nonce, is_password}
use Rattle.trace_runs.specs.declared.readings.AtomKind.{AtomKind}
use Rattle.trace_runs.specs.declared.readings.AtomKind.TheVariants.{Nonce, Challenge, Key, Password}

abbrev pub atoms_in : List Line → Atoms
atoms_in [] = []
atoms_in (compromised name ∷ lines) = atoms_in lines
atoms_in (holder conv name ∷ lines) = atoms_in lines
atoms_in (reading atom bytes ∷ lines) = (atom, bytes) ∷ atoms_in lines
atoms_in (label place t ∷ lines) = atoms_in lines
atoms_in (proof place steps ∷ lines) = atoms_in lines

-- the key name that lines give a conversation, if any does
abbrev pub holder_in : List ℕ → List Line → Option (List ℕ)
holder_in conv [] = None
holder_in conv (compromised name ∷ lines) = holder_in conv lines
holder_in conv (holder other name ∷ lines) = if bytes_eq other conv then Some name else holder_in conv lines
holder_in conv (reading atom bytes ∷ lines) = holder_in conv lines
holder_in conv (label place t ∷ lines) = holder_in conv lines
holder_in conv (proof place steps ∷ lines) = holder_in conv lines

-- what is so of the lines of any text of labels, none of which says again what an earlier one says
abbrev pub OfText : List Line → Type 0 → Type 0
OfText lines P = (texts : List (List ℕ)) → AreLines texts lines → P

-- the atoms of a kind: the long-lived keys, the ticket keys and the keys that are made up are one
abbrev pub is_of : AtomKind → Tree → Bool
is_of Nonce = is_nonce
is_of Challenge = is_challenge
is_of Key = is_key
is_of Password = is_password

-- ---- of the code alone

-- the bytes that a line gives an atom of a kind
abbrev pub text_in : (Tree → Bool) → Line → Option (List ℕ)
text_in kind (compromised name) = None
text_in kind (holder conv name) = None
text_in kind (reading atom bytes) = if kind atom then Some bytes else None
text_in kind (label place t) = None
text_in kind (proof place steps) = None

-- a text among others, or none
abbrev pub with_text : Option (List ℕ) → List (List ℕ) → List (List ℕ)
with_text None seen = seen
with_text (Some text) seen = text ∷ seen

abbrev pub is_new : Option (List ℕ) → List (List ℕ) → Bool
is_new None seen = true
is_new (Some text) seen = not (list_any (bytes_eq text) seen)

-- the same texts stand among these and among those
abbrev pub AreSame : List (List ℕ) → List (List ℕ) → Type 0
AreSame seen others = (text : List ℕ) → list_any (bytes_eq text) seen ≡ list_any (bytes_eq text) others

-- the bytes that lines give atoms of a kind are none that were seen, and no two of them are the same
abbrev pub are_new : (Tree → Bool) → List (List ℕ) → List Line → Bool
are_new kind seen [] = true
are_new kind seen (line ∷ lines) =
    is_new (text_in kind line) seen && are_new kind (with_text (text_in kind line) seen) lines

-- a line gives no key other bytes than seven
abbrev pub gives_seven : Line → Bool
gives_seven (compromised name) = true
gives_seven (holder conv name) = true
gives_seven (reading atom bytes) = not (is_key atom) || length bytes == 7
gives_seven (label place t) = true
gives_seven (proof place steps) = true

abbrev pub give_sevens : List Line → Bool
give_sevens lines = list_all gives_seven lines

-- a reading with one atom more, with a line more, and with lines in their order
abbrev pub with_reading : Tree → List ℕ → Atoms → Atoms
with_reading atom bytes atoms = if is_atom atom then with_atom atom bytes atoms else atoms

abbrev pub with_line : Line → Atoms → Atoms
with_line (compromised name) atoms = atoms
with_line (holder conv name) atoms = atoms
with_line (reading atom bytes) atoms = with_reading atom bytes atoms
with_line (label place t) atoms = atoms
with_line (proof place steps) atoms = atoms

abbrev pub with_lines : List Line → Atoms → Atoms
with_lines [] atoms = atoms
with_lines (line ∷ lines) atoms = with_lines lines (with_line line atoms)
