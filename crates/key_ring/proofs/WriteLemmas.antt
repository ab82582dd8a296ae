-- The lines of a write, one after the other, and the edits that they say, all at once, come to the same.
use Rattle.std.proofs.Common.{◌≡◌, ◌⊎◌, ℕ, suc, ◌+◌, List, [], ◌∷◌, ◌++◌, Bool, false, not, get_or, append-nil, Option, Some, None, Result, Ok, Err, refl, sym, ap, ◌∙◌, inl, inr, arith}
use Rattle.std.specs.Prelude.{option_map}
use Rattle.std.specs.Option.{option_or}
use Rattle.key_lists.specs.declared.fault.AddFault.{AddFault}
use Rattle.key_lists.specs.declared.fault.DeleteFault.{DeleteFault}
use Rattle.key_lists.specs.declared.edit.EditFault.{EditFault}
use Rattle.key_lists.specs.declared.edit.EditFault.TheVariants as e
use Rattle.key_lists.specs.Lists.{KeyList, add_fault, delete_fault}
use Rattle.key_lists.specs.Edits.{KeyEdit, Add, Delete}
use Rattle.key_lists.specs.Batches.{edit_fault, edited, after_edits, edits_fault}
use Rattle.key_lists.specs.CtlLines.{CtlLine, OnKeys, Debug, add_text, delete_text, read_line, line_fault, line_over, keys_with, keys_with_all, carried_out, after_lines, lines_fault}
use Rattle.key_lists.proofs.BatchLaws.{cases_fault, after_taken, after_refused, fault_taken, fault_refused}
use Rattle.key_ring.specs.Counts.{edits_taken}
use Rattle.key_ring.specs.declared.write.ReadLines.{ReadLines}
use Rattle.key_ring.specs.WriteSteps.{SayTheSame, edit_text, edits_in, odd_behind, odd_in, odd_last, put_edit, put_odd, unread}
use Rattle.key_ring.specs.Switches.{switched, switches}

-- ---- a line, by what is read of it

pub cases_read : (r : Result CtlLine (List ℕ)) → ((said : CtlLine) × (r ≡ Ok said)) ⊎ ((text : List ℕ) × (r ≡ Err text))
cases_read (Ok said) = inl (said, refl)
cases_read (Err text) = inr (text, refl)

pub edits_said : (line : List ℕ) (lines : List (List ℕ)) (said : CtlLine) → read_line line ≡ Ok said → edits_in (line ∷ lines) ≡ put_edit said (edits_in lines)
edits_said line lines said h = rw (h, edits_in) refl

pub edits_none : (line : List ℕ) (lines : List (List ℕ)) (text : List ℕ) → read_line line ≡ Err text → edits_in (line ∷ lines) ≡ []
edits_none line lines text h = rw (h, edits_in) refl

pub unread_said : (line : List ℕ) (lines : List (List ℕ)) (said : CtlLine) → read_line line ≡ Ok said → unread (line ∷ lines) ≡ unread lines
unread_said line lines said h = rw (h, unread) refl

pub unread_none : (line : List ℕ) (lines : List (List ℕ)) (text : List ℕ) → read_line line ≡ Err text → unread (line ∷ lines) ≡ Some text
unread_none line lines text h = rw (h, unread) refl

-- what is carried out, over what is matched
abbrev unless_faulted : CtlLine → Option (List ℕ) → Result CtlLine (List ℕ)
unless_faulted said o = elim o [ Some text ↦ Err text | None ↦ Ok said ]

abbrev over : KeyList → Result CtlLine (List ℕ) → Result CtlLine (List ℕ)
over keys r = elim r [ Err text ↦ Err text | Ok said ↦ unless_faulted said (line_fault keys said) ]

over_text : (keys : KeyList) (line text : List ℕ) → read_line line ≡ Err text → line_over keys line ≡ Err text
unfolding line_over
over_text keys line text h = ap (over keys) h

over_fault : (keys : KeyList) (line : List ℕ) (said : CtlLine) (text : List ℕ) → read_line line ≡ Ok said → line_fault keys said ≡ Some text → line_over keys line ≡ Err text
unfolding line_over
over_fault keys line said text h f = ap (over keys) h ∙ ap (unless_faulted said) f

over_said : (keys : KeyList) (line : List ℕ) (said : CtlLine) → read_line line ≡ Ok said → line_fault keys said ≡ None → line_over keys line ≡ Ok said
unfolding line_over
over_said keys line said h f = ap (over keys) h ∙ ap (unless_faulted said) f

carried_ok : (keys : KeyList) (line : List ℕ) (lines : List (List ℕ)) (said : CtlLine) → line_over keys line ≡ Ok said → carried_out keys (line ∷ lines) ≡ said ∷ carried_out (keys_with said keys) lines
carried_ok keys line lines said h = rw (h, carried_out) refl

carried_err : (keys : KeyList) (line : List ℕ) (lines : List (List ℕ)) (text : List ℕ) → line_over keys line ≡ Err text → carried_out keys (line ∷ lines) ≡ []
carried_err keys line lines text h = rw (h, carried_out) refl

after_ok : (keys : KeyList) (line : List ℕ) (lines : List (List ℕ)) (said : CtlLine) → line_over keys line ≡ Ok said → after_lines keys (line ∷ lines) ≡ after_lines (keys_with said keys) lines
after_ok keys line lines said h = ap (λ (ls : List CtlLine). keys_with_all ls keys) (carried_ok keys line lines said h)

after_err : (keys : KeyList) (line : List ℕ) (lines : List (List ℕ)) (text : List ℕ) → line_over keys line ≡ Err text → after_lines keys (line ∷ lines) ≡ keys
after_err keys line lines text h = ap (λ (ls : List CtlLine). keys_with_all ls keys) (carried_err keys line lines text h)

fault_ok : (keys : KeyList) (line : List ℕ) (lines : List (List ℕ)) (said : CtlLine) → line_over keys line ≡ Ok said → lines_fault keys (line ∷ lines) ≡ lines_fault (keys_with said keys) lines
fault_ok keys line lines said h = rw (h, lines_fault) refl

fault_err : (keys : KeyList) (line : List ℕ) (lines : List (List ℕ)) (text : List ℕ) → line_over keys line ≡ Err text → lines_fault keys (line ∷ lines) ≡ Some text
fault_err keys line lines text h = rw (h, lines_fault) refl

-- ---- an edit

add_told : (o : Option AddFault) → option_map add_text o ≡ option_map edit_text (option_map e.Add o)
add_told None = refl
add_told (Some fault) = refl

delete_told : (o : Option DeleteFault) → option_map delete_text o ≡ option_map edit_text (option_map e.Delete o)
delete_told None = refl
delete_told (Some fault) = refl

edit_told : (edit : KeyEdit) (keys : KeyList) → line_fault keys (OnKeys edit) ≡ option_map edit_text (edit_fault edit keys)
edit_told (Add key) keys = add_told (add_fault key keys)
edit_told (Delete template) keys = delete_told (delete_fault template keys)

edit_passes : (keys : KeyList) (line : List ℕ) (edit : KeyEdit) → read_line line ≡ Ok (OnKeys edit) → edit_fault edit keys ≡ None → line_over keys line ≡ Ok (OnKeys edit)
edit_passes keys line edit h none = over_said keys line (OnKeys edit) h (edit_told edit keys ∙ ap (option_map edit_text) none)

edit_stops : (keys : KeyList) (line : List ℕ) (edit : KeyEdit) (fault : EditFault) → read_line line ≡ Ok (OnKeys edit) → edit_fault edit keys ≡ Some fault → line_over keys line ≡ Err (edit_text fault)
edit_stops keys line edit fault h some = over_fault keys line (OnKeys edit) (edit_text fault) h (edit_told edit keys ∙ ap (option_map edit_text) some)

-- ---- the keys

-- the edits of the lines carried out on the keys
abbrev pub all_edits : List (List ℕ) → KeyList → KeyList
all_edits lines keys = after_edits (edits_in lines) keys

keys_turn : (line : List ℕ) (lines : List (List ℕ)) (keys : KeyList) (said : CtlLine) → read_line line ≡ Ok said → ((before : KeyList) → after_lines before lines ≡ all_edits lines before) → after_lines keys (line ∷ lines) ≡ all_edits (line ∷ lines) keys
keys_turn line lines keys Debug h more =
    after_ok keys line lines Debug (over_said keys line Debug h refl)
    ∙ (more keys ∙ sym (ap (λ (es : List KeyEdit). after_edits es keys) (edits_said line lines Debug h)))
keys_turn line lines keys (OnKeys edit) h more = elim (cases_fault (edit_fault edit keys)) [
  | inl none ↦
      after_ok keys line lines (OnKeys edit) (edit_passes keys line edit h none)
      ∙ (more (keys_with (OnKeys edit) keys)
      ∙ (sym (after_taken edit (edits_in lines) keys none)
      ∙ sym (ap (λ (es : List KeyEdit). after_edits es keys) (edits_said line lines (OnKeys edit) h))))
  | inr some ↦
      after_err keys line lines (edit_text some.0) (edit_stops keys line edit some.0 h some.1)
      ∙ (sym (after_refused edit (edits_in lines) keys some.0 some.1)
      ∙ sym (ap (λ (es : List KeyEdit). after_edits es keys) (edits_said line lines (OnKeys edit) h)))
]

pub keys_after_lines : (lines : List (List ℕ)) (keys : KeyList) → after_lines keys lines ≡ all_edits lines keys
keys_after_lines [] keys = refl
keys_after_lines (line ∷ lines) keys = elim (cases_read (read_line line)) [
  | inl good ↦ keys_turn line lines keys good.0 good.1 (keys_after_lines lines)
  | inr bad ↦
      after_err keys line lines bad.0 (over_text keys line bad.0 bad.1)
      ∙ sym (ap (λ (es : List KeyEdit). after_edits es keys) (edits_none line lines bad.0 bad.1))
]

-- ---- the text of the first refused one

-- the text of the first refused edit of lines, or else of the first line that can't be read
abbrev pub all_told : List (List ℕ) → KeyList → Option (List ℕ)
all_told lines keys = option_or (option_map edit_text (edits_fault (edits_in lines) keys)) (unread lines)

-- the same out of its parts
abbrev pub told_by : List KeyEdit → KeyList → Option (List ℕ) → Option (List ℕ)
told_by edits keys last = option_or (option_map edit_text (edits_fault edits keys)) last

told_more : (line : List ℕ) (lines : List (List ℕ)) (keys : KeyList) (said : CtlLine) → read_line line ≡ Ok said → all_told (line ∷ lines) keys ≡ told_by (put_edit said (edits_in lines)) keys (unread lines)
told_more line lines keys said h =
    ap (λ (es : List KeyEdit). told_by es keys (unread (line ∷ lines))) (edits_said line lines said h)
    ∙ ap (told_by (put_edit said (edits_in lines)) keys) (unread_said line lines said h)

told_turn : (line : List ℕ) (lines : List (List ℕ)) (keys : KeyList) (said : CtlLine) → read_line line ≡ Ok said → ((before : KeyList) → lines_fault before lines ≡ all_told lines before) → lines_fault keys (line ∷ lines) ≡ all_told (line ∷ lines) keys
told_turn line lines keys Debug h more =
    fault_ok keys line lines Debug (over_said keys line Debug h refl)
    ∙ (more keys ∙ sym (told_more line lines keys Debug h))
told_turn line lines keys (OnKeys edit) h more = elim (cases_fault (edit_fault edit keys)) [
  | inl none ↦
      fault_ok keys line lines (OnKeys edit) (edit_passes keys line edit h none)
      ∙ (more (keys_with (OnKeys edit) keys)
      ∙ (ap (λ (found : Option EditFault). option_or (option_map edit_text found) (unread lines)) (sym (fault_taken edit (edits_in lines) keys none))
      ∙ sym (told_more line lines keys (OnKeys edit) h)))
  | inr some ↦
      fault_err keys line lines (edit_text some.0) (edit_stops keys line edit some.0 h some.1)
      ∙ (ap (λ (found : Option EditFault). option_or (option_map edit_text found) (unread lines)) (sym (fault_refused edit (edits_in lines) keys some.0 some.1))
      ∙ sym (told_more line lines keys (OnKeys edit) h))
]

pub told_of_lines : (lines : List (List ℕ)) (keys : KeyList) → lines_fault keys lines ≡ all_told lines keys
told_of_lines [] keys = refl
told_of_lines (line ∷ lines) keys = elim (cases_read (read_line line)) [
  | inl good ↦ told_turn line lines keys good.0 good.1 (told_of_lines lines)
  | inr bad ↦
      fault_err keys line lines bad.0 (over_text keys line bad.0 bad.1)
      ∙ (sym (unread_none line lines bad.0 bad.1)
      ∙ sym (ap (λ (es : List KeyEdit). told_by es keys (unread (line ∷ lines))) (edits_none line lines bad.0 bad.1)))
]

-- ---- how `debug` switches

odd_said : (line : List ℕ) (lines : List (List ℕ)) (odd : Bool) (said : CtlLine) → read_line line ≡ Ok said → odd_in (line ∷ lines) odd ≡ put_odd said odd (odd_in lines (odd_behind said odd))
odd_said line lines odd said h = rw (h, odd_in) refl

odd_none : (line : List ℕ) (lines : List (List ℕ)) (odd : Bool) (text : List ℕ) → read_line line ≡ Err text → odd_in (line ∷ lines) odd ≡ []
odd_none line lines odd text h = rw (h, odd_in) refl

last_said : (line : List ℕ) (lines : List (List ℕ)) (odd : Bool) (said : CtlLine) → read_line line ≡ Ok said → odd_last (line ∷ lines) odd ≡ odd_last lines (odd_behind said odd)
last_said line lines odd said h = rw (h, odd_last) refl

last_none : (line : List ℕ) (lines : List (List ℕ)) (odd : Bool) (text : List ℕ) → read_line line ≡ Err text → odd_last (line ∷ lines) odd ≡ odd
last_none line lines odd text h = rw (h, odd_last) refl

count_taken : (edit : KeyEdit) (edits : List KeyEdit) (keys : KeyList) → edit_fault edit keys ≡ None → edits_taken (edit ∷ edits) keys ≡ edits_taken edits (edited edit keys) + 1
count_taken edit edits keys h = rw (h, edits_taken) refl

count_refused : (edit : KeyEdit) (edits : List KeyEdit) (keys : KeyList) (fault : EditFault) → edit_fault edit keys ≡ Some fault → edits_taken (edit ∷ edits) keys ≡ 0
count_refused edit edits keys fault h = rw (h, edits_taken) refl

-- what is noted of the edit that is refused, or else of the end
abbrev noted : List KeyEdit → KeyList → List Bool → Bool → Bool
noted edits keys odd last = get_or odd (edits_taken edits keys) last

noted_first : (odd : List Bool) (n : ℕ) (first last : Bool) → get_or (first ∷ odd) (n + 1) last ≡ get_or odd n last
noted_first odd n first last = let e : n + 1 ≡ suc n = omega arith in ap (λ (m : ℕ). get_or (first ∷ odd) m last) e

-- all that is noted of lines, out of its parts
abbrev pub noted_of : List (List ℕ) → KeyList → Bool → Bool
noted_of lines keys odd = noted (edits_in lines) keys (odd_in lines odd) (odd_last lines odd)

abbrev parted : CtlLine → List (List ℕ) → KeyList → Bool → Bool
parted said lines keys odd = noted (put_edit said (edits_in lines)) keys (put_odd said odd (odd_in lines (odd_behind said odd))) (odd_last lines (odd_behind said odd))

noted_said : (line : List ℕ) (lines : List (List ℕ)) (keys : KeyList) (odd : Bool) (said : CtlLine) → read_line line ≡ Ok said → noted_of (line ∷ lines) keys odd ≡ parted said lines keys odd
noted_said line lines keys odd said h =
    ap (λ (es : List KeyEdit). noted es keys (odd_in (line ∷ lines) odd) (odd_last (line ∷ lines) odd)) (edits_said line lines said h)
    ∙ (ap (λ (bs : List Bool). noted (put_edit said (edits_in lines)) keys bs (odd_last (line ∷ lines) odd)) (odd_said line lines odd said h)
    ∙ ap (noted (put_edit said (edits_in lines)) keys (put_odd said odd (odd_in lines (odd_behind said odd)))) (last_said line lines odd said h))

switch_turn : (line : List ℕ) (lines : List (List ℕ)) (keys : KeyList) (odd : Bool) (said : CtlLine) → read_line line ≡ Ok said → ((before : KeyList) (b : Bool) → switched (carried_out before lines) b ≡ noted_of lines before b) → switched (carried_out keys (line ∷ lines)) odd ≡ noted_of (line ∷ lines) keys odd
switch_turn line lines keys odd Debug h more =
    ap (λ (ls : List CtlLine). switched ls odd) (carried_ok keys line lines Debug (over_said keys line Debug h refl))
    ∙ (more keys (not odd) ∙ sym (noted_said line lines keys odd Debug h))
switch_turn line lines keys odd (OnKeys edit) h more = elim (cases_fault (edit_fault edit keys)) [
  | inl none ↦
      ap (λ (ls : List CtlLine). switched ls odd) (carried_ok keys line lines (OnKeys edit) (edit_passes keys line edit h none))
      ∙ (more (edited edit keys) odd
      ∙ (sym (noted_first (odd_in lines odd) (edits_taken (edits_in lines) (edited edit keys)) odd (odd_last lines odd))
      ∙ (ap (λ (n : ℕ). get_or (odd ∷ odd_in lines odd) n (odd_last lines odd)) (sym (count_taken edit (edits_in lines) keys none))
      ∙ sym (noted_said line lines keys odd (OnKeys edit) h))))
  | inr some ↦
      ap (λ (ls : List CtlLine). switched ls odd) (carried_err keys line lines (edit_text some.0) (edit_stops keys line edit some.0 h some.1))
      ∙ (ap (λ (n : ℕ). get_or (odd ∷ odd_in lines odd) n (odd_last lines odd)) (sym (count_refused edit (edits_in lines) keys some.0 some.1))
      ∙ sym (noted_said line lines keys odd (OnKeys edit) h))
]

pub switched_by_lines : (lines : List (List ℕ)) (keys : KeyList) (odd : Bool) → switched (carried_out keys lines) odd ≡ noted_of lines keys odd
switched_by_lines [] keys odd = refl
switched_by_lines (line ∷ lines) keys odd = elim (cases_read (read_line line)) [
  | inl good ↦ switch_turn line lines keys odd good.0 good.1 (switched_by_lines lines)
  | inr bad ↦
      ap (λ (ls : List CtlLine). switched ls odd) (carried_err keys line lines bad.0 (over_text keys line bad.0 bad.1))
      ∙ sym (ap (λ (es : List KeyEdit). noted es keys (odd_in (line ∷ lines) odd) (odd_last (line ∷ lines) odd)) (edits_none line lines bad.0 bad.1)
      ∙ (ap (λ (bs : List Bool). noted [] keys bs (odd_last (line ∷ lines) odd)) (odd_none line lines odd bad.0 bad.1)
      ∙ last_none line lines odd bad.0 bad.1))
]

-- ---- what a write owes

-- nothing was read before
pub record ReadNone (r : ReadLines) : Type 0 where
  pub edits : r.edits ≡ []
  pub odd : r.odd.items ≡ []
  pub is_odd : r.is_odd ≡ false

read_edits : (lines : List (List ℕ)) (first last : ReadLines) → SayTheSame first last lines [] → ReadNone first → last.edits ≡ edits_in lines
read_edits lines first last said none = sym (append-nil last.edits) ∙ (sym said.edits ∙ ap (λ (es : List KeyEdit). es ++ edits_in lines) none.edits)

pub write_keys : (lines : List (List ℕ)) (old new : KeyList) (first last : ReadLines) → SayTheSame first last lines [] → ReadNone first → new ≡ after_edits last.edits old → new ≡ after_lines old lines
write_keys lines old new first last said none made = made ∙ (ap (λ (es : List KeyEdit). after_edits es old) (read_edits lines first last said none) ∙ sym (keys_after_lines lines old))

pub write_told : (lines : List (List ℕ)) (old : KeyList) (first last : ReadLines) (refused : Option EditFault) (unread_one told : Option (List ℕ)) → SayTheSame first last lines [] → ReadNone first → unread_one ≡ unread lines → refused ≡ edits_fault last.edits old → told ≡ option_or (option_map edit_text refused) unread_one → told ≡ lines_fault old lines
write_told lines old first last refused unread_one told said none is_last is_refused is_told =
    is_told
    ∙ (ap (λ (found : Option EditFault). option_or (option_map edit_text found) unread_one) is_refused
    ∙ (ap (λ (es : List KeyEdit). told_by es old unread_one) (read_edits lines first last said none)
    ∙ (ap (told_by (edits_in lines) old) is_last ∙ sym (told_of_lines lines old))))

pub write_switches : (lines : List (List ℕ)) (old : KeyList) (first last : ReadLines) (count : ℕ) (told : Bool) → SayTheSame first last lines [] → ReadNone first → count ≡ edits_taken last.edits old → told ≡ get_or last.odd.items count last.is_odd → told ≡ switches old lines
write_switches lines old first last count told said none counted is_told =
    let odd : last.odd.items ≡ odd_in lines false = sym (append-nil last.odd.items) ∙ (sym said.odd ∙ (ap (λ (bs : List Bool). bs ++ odd_in lines first.is_odd) none.odd ∙ ap (odd_in lines) none.is_odd)) in
    let ends : last.is_odd ≡ odd_last lines false = sym said.last ∙ ap (odd_last lines) none.is_odd in
    is_told
    ∙ (ap (λ (n : ℕ). get_or last.odd.items n last.is_odd) (counted ∙ ap (λ (es : List KeyEdit). edits_taken es old) (read_edits lines first last said none))
    ∙ (ap (λ (bs : List Bool). get_or bs (edits_taken (edits_in lines) old) last.is_odd) odd
    ∙ (ap (get_or (odd_in lines false) (edits_taken (edits_in lines) old)) ends ∙ sym (switched_by_lines lines old false))))
