-- A write of ctl in two steps: what its lines say, up to the first that can't be read, and then the edits that they
-- say. No public contract cites this.
use Rattle.std.specs.Prelude.{◌≡◌, ℕ, List, [], ◌∷◌, ◌++◌, Bool, not, nat_lt, length, filter, Option, Some, None, Result, Ok, Err, codes, if◌then◌else◌}
use Rattle.std.specs.Str.{bytes_eq}
use Rattle.key_lists.specs.Edits.{KeyEdit}
use Rattle.key_lists.specs.Batches.{edit_of}
use Rattle.key_lists.specs.declared.edit.EditFault.{EditFault}
use Rattle.key_lists.specs.declared.edit.EditFault.TheVariants as e
use Rattle.key_lists.specs.CtlLines.{CtlLine, OnKeys, Debug, read_line, add_text, delete_text}
use Rattle.key_ring.specs.Faults.{line_text}
use Rattle.key_ring.specs.declared.fault.LineFault.TheVariants.{UnknownVerb}
use Rattle.key_ring.specs.declared.line.Said.{Said}
use Rattle.key_ring.specs.declared.line.Said.TheVariants as s
use Rattle.key_ring.specs.declared.write.ReadLines.{ReadLines}

-- what a line that was read says
abbrev pub said_by : Said → Result CtlLine (List ℕ)
said_by (s.OnKeys edit) = Ok (OnKeys (edit_of edit))
said_by s.Debug = Ok Debug
said_by (s.Nothing fault) = Err (line_text fault)

-- what a line without a tuple says
abbrev pub bare_line : List ℕ → Said
bare_line line = if bytes_eq line (codes "debug") then s.Debug else s.Nothing UnknownVerb

-- the lines that aren't empty
abbrev pub kept : List (List ℕ) → List (List ℕ)
kept lines = filter (λ line. nat_lt 0 (length line)) lines

-- what a line adds to the edits of the lines behind it
abbrev pub put_edit : CtlLine → List KeyEdit → List KeyEdit
put_edit (OnKeys edit) edits = edit ∷ edits
put_edit Debug edits = edits

-- the edits that lines say, up to the first that can't be read
abbrev pub edits_in : List (List ℕ) → List KeyEdit
edits_in [] = []
edits_in (line ∷ lines) = elim (read_line line) [ Ok said ↦ put_edit said (edits_in lines) | Err text ↦ [] ]

-- the text of the first line that can't be read, if there is one
abbrev pub unread : List (List ℕ) → Option (List ℕ)
unread [] = None
unread (line ∷ lines) = elim (read_line line) [ Ok said ↦ unread lines | Err text ↦ Some text ]

-- the text of an edit that is refused
abbrev pub edit_text : EditFault → List ℕ
edit_text (e.Add fault) = add_text fault
edit_text (e.Delete fault) = delete_text fault

-- ---- how `debug` stands among them

-- whether an odd number of lines `debug` stands before what comes behind a line, by what stands before the line
abbrev pub odd_behind : CtlLine → Bool → Bool
odd_behind (OnKeys edit) odd = odd
odd_behind Debug odd = not odd

-- what a line adds to what is noted of the edits of the lines behind it
abbrev pub put_odd : CtlLine → Bool → List Bool → List Bool
put_odd (OnKeys edit) odd more = odd ∷ more
put_odd Debug odd more = more

-- of each edit that lines say, whether an odd number of lines `debug` stands before it
abbrev pub odd_in : List (List ℕ) → Bool → List Bool
odd_in [] odd = []
odd_in (line ∷ lines) odd =
    elim (read_line line) [ Ok said ↦ put_odd said odd (odd_in lines (odd_behind said odd)) | Err text ↦ [] ]

-- whether an odd number stands before the first line that can't be read, or else before the end
abbrev pub odd_last : List (List ℕ) → Bool → Bool
odd_last [] odd = odd
odd_last (line ∷ lines) odd = elim (read_line line) [ Ok said ↦ odd_last lines (odd_behind said odd) | Err text ↦ odd ]

-- all lines behind what was read first say what those that are left of them say behind what was read since
pub record SayTheSame (first since : ReadLines) (all left : List (List ℕ)) : Type 0 where
  pub edits : first.edits ++ edits_in all ≡ since.edits ++ edits_in left
  pub odd : first.odd.items ++ odd_in all first.is_odd ≡ since.odd.items ++ odd_in left since.is_odd
  pub last : odd_last all first.is_odd ≡ odd_last left since.is_odd
