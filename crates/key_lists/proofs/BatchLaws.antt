-- Several edits at once.
use Rattle.std.proofs.Common.{◌≡◌, ◌⊎◌, ◌+◌, ◌≤◌, List, [], ◌∷◌, ◌++◌, length, map, Option, Some, None, refl, sym, ap, ◌∙◌, inl, inr, arith}
use Rattle.std.specs.List.{filter}
use Rattle.key_lists.specs.declared.edit.Edit.{Edit}
use Rattle.key_lists.specs.declared.edit.Edit.TheVariants as e
use Rattle.key_lists.specs.declared.edit.EditFault.{EditFault}
use Rattle.key_lists.specs.Lists.{KeyList}
use Rattle.key_lists.specs.Edits.{KeyEdit, Add, Delete, IsOrdered, additions}
use Rattle.key_lists.specs.Batches.{adds, edit_of, edit_fault, edited, after_edits, edits_fault}
use Rattle.key_lists.proofs.OrderLaws.{ordered_added, ordered_deleted}

-- those that add a key, counted
pub additions_counted : (edits : List Edit) → length (filter (λ edit. adds (edit_of edit)) edits) ≡ additions (map edit_of edits)
additions_counted [] = refl
additions_counted (e.Add key ∷ edits) = rw (additions_counted edits) (omega arith)
additions_counted (e.Delete template ∷ edits) = additions_counted edits

-- ---- one edit and those behind it, by its fault

pub after_taken : (edit : KeyEdit) (edits : List KeyEdit) (list : KeyList) → edit_fault edit list ≡ None → after_edits (edit ∷ edits) list ≡ after_edits edits (edited edit list)
after_taken edit edits list h = rw (h, after_edits) refl

pub after_refused : (edit : KeyEdit) (edits : List KeyEdit) (list : KeyList) (fault : EditFault) → edit_fault edit list ≡ Some fault → after_edits (edit ∷ edits) list ≡ list
after_refused edit edits list fault h = rw (h, after_edits) refl

pub fault_taken : (edit : KeyEdit) (edits : List KeyEdit) (list : KeyList) → edit_fault edit list ≡ None → edits_fault (edit ∷ edits) list ≡ edits_fault edits (edited edit list)
fault_taken edit edits list h = rw (h, edits_fault) refl

pub fault_refused : (edit : KeyEdit) (edits : List KeyEdit) (list : KeyList) (fault : EditFault) → edit_fault edit list ≡ Some fault → edits_fault (edit ∷ edits) list ≡ Some fault
fault_refused edit edits list fault h = rw (h, edits_fault) refl

-- ---- two batches

-- what an edit's fault is
pub cases_fault : (o : Option EditFault) → (o ≡ None) ⊎ ((fault : EditFault) × (o ≡ Some fault))
cases_fault None = inl refl
cases_fault (Some fault) = inr (fault, refl)

pub goes_on : (first second : List KeyEdit) (list : KeyList) → edits_fault first list ≡ None → after_edits (first ++ second) list ≡ after_edits second (after_edits first list)
goes_on [] second list h = refl
goes_on (edit ∷ first) second list h = elim (cases_fault (edit_fault edit list)) [
  | inl none ↦ after_taken edit (first ++ second) list none ∙ (goes_on first second (edited edit list) (sym (fault_taken edit first list none) ∙ h) ∙ ap (after_edits second) (sym (after_taken edit first list none)))
  | inr some ↦ absurd (let s = sym (fault_refused edit first list some.0 some.1) ∙ h in cc)
]

pub goes_on_fault : (first second : List KeyEdit) (list : KeyList) → edits_fault first list ≡ None → edits_fault (first ++ second) list ≡ edits_fault second (after_edits first list)
goes_on_fault [] second list h = refl
goes_on_fault (edit ∷ first) second list h = elim (cases_fault (edit_fault edit list)) [
  | inl none ↦ fault_taken edit (first ++ second) list none ∙ (goes_on_fault first second (edited edit list) (sym (fault_taken edit first list none) ∙ h) ∙ ap (edits_fault second) (sym (after_taken edit first list none)))
  | inr some ↦ absurd (let s = sym (fault_refused edit first list some.0 some.1) ∙ h in cc)
]

pub stops : (first second : List KeyEdit) (list : KeyList) (fault : EditFault) → edits_fault first list ≡ Some fault → after_edits (first ++ second) list ≡ after_edits first list
stops [] second list fault h = absurd cc
stops (edit ∷ first) second list fault h = elim (cases_fault (edit_fault edit list)) [
  | inl none ↦ after_taken edit (first ++ second) list none ∙ (stops first second (edited edit list) fault (sym (fault_taken edit first list none) ∙ h) ∙ sym (after_taken edit first list none))
  | inr some ↦ after_refused edit (first ++ second) list some.0 some.1 ∙ sym (after_refused edit first list some.0 some.1)
]

pub stops_fault : (first second : List KeyEdit) (list : KeyList) (fault : EditFault) → edits_fault first list ≡ Some fault → edits_fault (first ++ second) list ≡ Some fault
stops_fault [] second list fault h = absurd cc
stops_fault (edit ∷ first) second list fault h = elim (cases_fault (edit_fault edit list)) [
  | inl none ↦ fault_taken edit (first ++ second) list none ∙ stops_fault first second (edited edit list) fault (sym (fault_taken edit first list none) ∙ h)
  | inr some ↦ fault_refused edit (first ++ second) list some.0 some.1 ∙ (sym (fault_refused edit first list some.0 some.1) ∙ h)
]

-- ---- numbers

pub ordered_edited : (edit : KeyEdit) (list : KeyList) → IsOrdered list → IsOrdered (edited edit list)
ordered_edited (Add key) list o = ordered_added key list o
ordered_edited (Delete template) list o = ordered_deleted template list o

pub ordered_batch : (edits : List KeyEdit) (list : KeyList) → IsOrdered list → IsOrdered (after_edits edits list)
ordered_batch [] list o = o
ordered_batch (edit ∷ edits) list o = elim (cases_fault (edit_fault edit list)) [
  | inl none ↦ rw (after_taken edit edits list none) (ordered_batch edits (edited edit list) (ordered_edited edit list o))
  | inr some ↦ rw (after_refused edit edits list some.0 some.1) o
]

one_added : (edit : KeyEdit) (list : KeyList) → (edited edit list).ever_added ≤ list.ever_added + 1
one_added (Add key) list = omega arith
one_added (Delete template) list = omega arith

pub few_added : (edits : List KeyEdit) (list : KeyList) → (after_edits edits list).ever_added ≤ list.ever_added + length edits
few_added [] list = omega arith
few_added (edit ∷ edits) list = elim (cases_fault (edit_fault edit list)) [
  | inl none ↦ rw (after_taken edit edits list none) (omega (arith, few_added edits (edited edit list), one_added edit list))
  | inr some ↦ rw (after_refused edit edits list some.0 some.1) (omega arith)
]
