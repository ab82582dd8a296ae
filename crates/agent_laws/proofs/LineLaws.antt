-- Lines of ctl that are shown alike do the same in public: the public text of a tuple tells all of it but its secrets.
use Rattle.std.proofs.Common.{◌≡◌, ℕ, List, [], ◌∷◌, arith, map, Bool, true, false, cond, leb, Option, Some, None, refl, sym, ap, ◌∙◌, length}
use Rattle.std.specs.Prelude.{drop, take, codes, Result, Ok, Err}
use Rattle.std.specs.Str.{bytes_eq}
use Rattle.std.specs.List.{list_all}
use Rattle.std.proofs.lemmas.Bool.{and_parts}
use Rattle.attr_tuples.specs.declared.attr.Attr.{Attr}
use Rattle.attr_tuples.specs.declared.fault.TupleFault.{TupleFault}
use Rattle.attr_tuples.specs.Attributes.{is_attr, is_name, is_secret, is_tuple, is_value}
use Rattle.attr_tuples.specs.Grammar.{tuple_of}
use Rattle.attr_tuples.specs.Printing.{hidden, printed_text, public_text}
use Rattle.attr_tuples.proofs.PrintedLemmas.{printed_read}
use Rattle.attr_tuples.proofs.ToldLemmas.{reads_read}
use Rattle.key_lists.specs.Lists.{KeyList}
use Rattle.key_lists.specs.Edits.{KeyEdit, Add, Delete}
use Rattle.key_lists.specs.CtlLines.{CtlLine, OnKeys, Debug, carried_out, few_of, keys_with, line_fault, line_over, line_with, most_attrs, read_line}
use Rattle.agent_history.specs.Deeds.{KeyDeed, Edited, Switched}
use Rattle.agent_laws.specs.Laws.{public_edit}
use Rattle.agent_laws.specs.Redaction.{shown_line}

-- ---- tuples

same_count : (t : List Attr) → length (map hidden t) ≡ length t
same_count [] = refl
same_count (a ∷ t) = omega (arith, same_count t)

hidden_attr : (a : Attr) (b : Bool) → is_secret a.name ≡ b → is_attr a ≡ true → is_attr (hidden a) ≡ true
hidden_attr a true e valid = rw (e, (and_parts (is_name a.name) (is_value a.value) valid).0) refl
hidden_attr a false e valid = rw e valid

hidden_attrs : (t : List Attr) → list_all is_attr t ≡ true → list_all is_attr (map hidden t) ≡ true
hidden_attrs [] h = refl
hidden_attrs (a ∷ t) h =
    let parts = and_parts (is_attr a) (list_all is_attr t) h in
    rw (hidden_attr a (is_secret a.name) refl parts.0, hidden_attrs t parts.1) refl

pub hidden_tuple : (t : List Attr) → is_tuple t ≡ true → is_tuple (map hidden t) ≡ true
hidden_tuple t h =
    let parts = and_parts (leb (length t) 36) (list_all is_attr t) h in
    rw (same_count t, parts.0, hidden_attrs t parts.1) refl

pub shown_text : (t : List Attr) → public_text t ≡ printed_text (map hidden t)
unfolding public_text
shown_text t = refl

one_tuple : (s t : List Attr) (r : Result (List Attr) TupleFault) → r ≡ Ok s → r ≡ Ok t → s ≡ t
one_tuple s t r e f = cc

text_tells : (s t : List Attr) → is_tuple s ≡ true → is_tuple t ≡ true → public_text s ≡ public_text t → map hidden s ≡ map hidden t
text_tells s t one other e =
    one_tuple (map hidden s) (map hidden t) (tuple_of (printed_text (map hidden s))) (printed_read (map hidden s) (hidden_tuple s one))
    (ap tuple_of (sym (shown_text s) ∙ e ∙ shown_text t) ∙ printed_read (map hidden t) (hidden_tuple t other))

-- ---- lines

-- what a line did, in public
abbrev pub public_line : CtlLine → KeyDeed
public_line (OnKeys edit) = Edited (public_edit edit)
public_line Debug = Switched

-- a line holds a tuple
abbrev pub is_tupled : CtlLine → Bool
is_tupled (OnKeys (Add key)) = is_tuple key
is_tupled (OnKeys (Delete template)) = is_tuple template
is_tupled Debug = true

line_tells : (x y : CtlLine) → is_tupled x ≡ true → is_tupled y ≡ true → shown_line x ≡ shown_line y → public_line x ≡ public_line y
line_tells (OnKeys (Add s)) (OnKeys (Add t)) one other e = let text : public_text s ≡ public_text t = cc in ap (λ (key : List Attr). Edited (Add key)) (text_tells s t one other text)
line_tells (OnKeys (Delete s)) (OnKeys (Delete t)) one other e = let text : public_text s ≡ public_text t = cc in ap (λ (key : List Attr). Edited (Delete key)) (text_tells s t one other text)
line_tells Debug Debug one other e = refl
line_tells (OnKeys (Add s)) (OnKeys (Delete t)) one other e = absurd cc
line_tells (OnKeys (Delete s)) (OnKeys (Add t)) one other e = absurd cc
line_tells (OnKeys (Add s)) Debug one other e = absurd cc
line_tells (OnKeys (Delete s)) Debug one other e = absurd cc
line_tells Debug (OnKeys (Add t)) one other e = absurd cc
line_tells Debug (OnKeys (Delete t)) one other e = absurd cc

pub lines_tell : (xs ys : List CtlLine) → list_all is_tupled xs ≡ true → list_all is_tupled ys ≡ true → map shown_line xs ≡ map shown_line ys → map public_line xs ≡ map public_line ys
lines_tell [] [] one other e = refl
lines_tell [] (y ∷ ys) one other e = absurd cc
lines_tell (x ∷ xs) [] one other e = absurd cc
lines_tell (x ∷ xs) (y ∷ ys) one other e =
    let p = and_parts (is_tupled x) (list_all is_tupled xs) one in
    let q = and_parts (is_tupled y) (list_all is_tupled ys) other in
    let first : shown_line x ≡ shown_line y = cc in
    let more : map shown_line xs ≡ map shown_line ys = cc in
    ap (λ (l : KeyDeed). l ∷ map public_line xs) (line_tells x y p.0 q.0 first) ∙ ap (λ (ls : List KeyDeed). public_line y ∷ ls) (lines_tell xs ys p.1 q.1 more)

-- ---- lines that are read hold tuples

pub few_tuple : (r : Result (List Attr) TupleFault) (text : List ℕ) → tuple_of text ≡ r → (t : List Attr) → elim r [ Ok s ↦ cond (leb (length s) most_attrs) (Some s) None | Err fault ↦ None ] ≡ Some t → is_tuple t ≡ true
few_tuple (Err fault) text e t f = absurd cc
few_tuple (Ok s) text e t f = by_it (leb (length s) most_attrs) f
  where
    by_it : (b : Bool) → cond b (Some s) None ≡ Some t → is_tuple t ≡ true
    by_it true g = let same : s ≡ t = cc in ap is_tuple (sym same) ∙ (reads_read text s e).valid
    by_it false g = absurd cc

tupled_with : (edit : List Attr → KeyEdit) → ((t : List Attr) → is_tupled (OnKeys (edit t)) ≡ is_tuple t) → (text : List ℕ) (o : Option (List Attr)) → few_of text ≡ o → (said : CtlLine) → line_with edit o ≡ Ok said → is_tupled said ≡ true
tupled_with edit of text None e said f = absurd cc
tupled_with edit of text (Some t) e said f =
    let same : OnKeys (edit t) ≡ said = cc in
    ap is_tupled (sym same) ∙ of t ∙ few_tuple (tuple_of text) text refl t e

read_tupled : (line : List ℕ) (said : CtlLine) → read_line line ≡ Ok said → is_tupled said ≡ true
unfolding read_line
read_tupled line said e = by_verb (bytes_eq (take 4 line) (codes "key ")) (bytes_eq (take 7 line) (codes "delkey ")) (bytes_eq line (codes "debug")) e
  where
    by_verb : (x y z : Bool) → cond x (line_with Add (few_of (drop 4 line))) (cond y (line_with Delete (few_of (drop 7 line))) (cond z (Ok Debug) (Err (codes "unknown ctl verb")))) ≡ Ok said → is_tupled said ≡ true
    by_verb true y z f = tupled_with Add (λ t. refl) (drop 4 line) (few_of (drop 4 line)) refl said f
    by_verb false true z f = tupled_with Delete (λ t. refl) (drop 7 line) (few_of (drop 7 line)) refl said f
    by_verb false false true f = let same : Debug ≡ said = cc in ap is_tupled (sym same)
    by_verb false false false f = absurd cc

abbrev unless_fault : CtlLine → Option (List ℕ) → Result CtlLine (List ℕ)
unless_fault said (Some text) = Err text
unless_fault said None = Ok said

abbrev over_of : KeyList → Result CtlLine (List ℕ) → Result CtlLine (List ℕ)
over_of keys (Err text) = Err text
over_of keys (Ok said) = unless_fault said (line_fault keys said)

over_step : (keys : KeyList) (line : List ℕ) (r : Result CtlLine (List ℕ)) → read_line line ≡ r → (said : CtlLine) → over_of keys r ≡ Ok said → is_tupled said ≡ true
over_step keys line (Err text) e said f = absurd cc
over_step keys line (Ok there) e said f = by_fault (line_fault keys there) f
  where
    by_fault : (o : Option (List ℕ)) → unless_fault there o ≡ Ok said → is_tupled said ≡ true
    by_fault (Some text) g = absurd cc
    by_fault None g = let equal : there ≡ said = cc in ap is_tupled (sym equal) ∙ read_tupled line there e

over_tupled : (keys : KeyList) (line : List ℕ) (said : CtlLine) → line_over keys line ≡ Ok said → is_tupled said ≡ true
unfolding line_over
over_tupled keys line said e = over_step keys line (read_line line) refl said e

carried_step : (keys : KeyList) (line : List ℕ) (lines : List (List ℕ)) (r : Result CtlLine (List ℕ)) → line_over keys line ≡ r → ((said : CtlLine) → list_all is_tupled (carried_out (keys_with said keys) lines) ≡ true)
    → list_all is_tupled (elim r [ Ok said ↦ said ∷ carried_out (keys_with said keys) lines | Err text ↦ [] ]) ≡ true
carried_step keys line lines (Err text) e more = refl
carried_step keys line lines (Ok said) e more = rw (over_tupled keys line said e, more said) refl

pub carried_tupled : (keys : KeyList) (lines : List (List ℕ)) → list_all is_tupled (carried_out keys lines) ≡ true
carried_tupled keys [] = refl
carried_tupled keys (line ∷ lines) = carried_step keys line lines (line_over keys line) refl (λ said. carried_tupled (keys_with said keys) lines)
