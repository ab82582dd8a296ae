-- Several edits of a list of keys at once, in the order in which they came: they are carried out up to the first that
-- is refused, and those before it stand. After factotum(4) of the Plan 9 manual, where a write of ctl is lines that are
-- carried out one by one.
use Rattle.std.specs.Prelude.{List, [], ◌∷◌, Bool, true, false, Option, Some, None, option_map}
use Rattle.key_lists.specs.declared.edit.Edit.{Edit}
use Rattle.key_lists.specs.declared.edit.Edit.TheVariants as e
use Rattle.key_lists.specs.declared.edit.EditFault.{EditFault}
use Rattle.key_lists.specs.declared.edit.EditFault.TheVariants as f
use Rattle.key_lists.specs.Lists.{KeyList, add_fault, added, delete_fault, deleted}
use Rattle.key_lists.specs.Edits.{KeyEdit, Add, Delete}

-- an edit without where it lies in memory
abbrev pub edit_of : Edit → KeyEdit
edit_of (e.Add key) = Add key
edit_of (e.Delete template) = Delete template

-- whether an edit adds a key
abbrev pub adds : KeyEdit → Bool
adds (Add key) = true
adds (Delete template) = false

-- ---- one edit

-- why an edit of a list is refused, if it is
abbrev pub edit_fault : KeyEdit → KeyList → Option EditFault
edit_fault (Add key) list = option_map f.Add (add_fault key list)
edit_fault (Delete template) list = option_map f.Delete (delete_fault template list)

-- the list after an edit that isn't refused
abbrev pub edited : KeyEdit → KeyList → KeyList
edited (Add key) list = added key list
edited (Delete template) list = deleted template list

-- ---- several

-- the list after edits, the oldest first, up to the first that is refused
abbrev pub after_edits : List KeyEdit → KeyList → KeyList
after_edits [] list = list
after_edits (edit ∷ edits) list =
    elim (edit_fault edit list) [ None ↦ after_edits edits (edited edit list) | Some fault ↦ list ]

-- why the first refused one is refused, if one is
abbrev pub edits_fault : List KeyEdit → KeyList → Option EditFault
edits_fault [] list = None
edits_fault (edit ∷ edits) list =
    elim (edit_fault edit list) [ None ↦ edits_fault edits (edited edit list) | Some fault ↦ Some fault ]
