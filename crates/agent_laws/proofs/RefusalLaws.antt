-- A refused request changes nothing, and of the lines of a write those before the first refused one stand alone.
use Rattle.std.proofs.Common.{◌≡◌, ℕ, List, [], ◌∷◌, ◌++◌, Bool, true, false, cond, Option, Some, None, refl, ap, ◌∙◌, inl, inr, append-nil}
use Rattle.std.specs.Prelude.{Result, Ok, Err, ◌⊎◌}
use Rattle.nine.specs.declared.message.TBody.{TBody}
use Rattle.nine.specs.declared.message.TBody.TheVariants as t
use Rattle.nine.specs.declared.message.RBody.{RBody}
use Rattle.nine.specs.declared.message.RBody.TheVariants as r
use Rattle.file_tree.specs.Calls.{node_of}
use Rattle.key_lists.specs.Lists.{KeyList}
use Rattle.key_lists.specs.CtlLines.{CtlLine, after_lines, carried_out, keys_with, keys_with_all, line_over, lines_fault}
use Rattle.side_files.specs.Lines.{Found, Nothing, TooLong, First, found}
use Rattle.file_tree.specs.declared.tree.Node.{Node}
use Rattle.agent_history.specs.Deeds.{Deed, fid_of, msize_of}
use Rattle.agent_history.specs.SideFiles.{is_line_file, lines_in}
use Rattle.agent_history.specs.Requests.{Call, after, after_frame, after_granted, body_for, body_to, effective, granted, is_rpc, line_read_reply, reading_line, reply_of}
use Rattle.agent_laws.specs.Laws.{HasFirstRefused, IsFirstRefused, may_err_and_act}

-- ---- requests

pub refused_changes_nothing : (done : List Deed) (call : Call) (frame text : List ℕ) → granted done call frame ≡ Err text → after_frame done call frame ≡ done
unfolding after_frame
refused_changes_nothing done call frame text e = ap (after_granted done call) e

pub refused_is_told : (done : List Deed) (call : Call) (frame text : List ℕ) → granted done call frame ≡ Err text → body_to done call frame ≡ Some (r.Error text)
unfolding body_to
refused_is_told done call frame text e = ap (body_for done call) e

-- a read of a file of lines that is answered by an error leaves the line, and one of another file is answered by none
line_errs : (call : Call) (fid count : ℕ) (node : Node) (what : Found) (done : List Deed) (text : List ℕ) → line_read_reply what ≡ Some (r.Error text) → reading_line call fid count node what done ≡ done
line_errs call fid count node Nothing done text e = absurd cc
line_errs call fid count node TooLong done text e = refl
line_errs call fid count node (First line) done text e = absurd cc

read_errs : (b c : Bool) (o : Option RBody) (what : Found) (content text : List ℕ) (call : Call) (fid count : ℕ) (node : Node) (done one other : List Deed) → cond b o (cond c (line_read_reply what) (Some (r.Read content))) ≡ Some (r.Error text)
    → (cond b one (cond c (reading_line call fid count node what done) other) ≡ done) ⊎ (b ≡ true)
read_errs true c o what content text call fid count node done one other e = inr refl
read_errs false true o what content text call fid count node done one other e = inl (line_errs call fid count node what done text e)
read_errs false false o what content text call fid count node done one other e = absurd cc

-- a request that is carried out and answered by an error changes nothing, but for those that may err and act
body_errs : (done : List Deed) (call : Call) (body : TBody) (text : List ℕ) → reply_of done call body ≡ Some (r.Error text) → (after done call body ≡ done) ⊎ (may_err_and_act done call body ≡ true)
unfolding reply_of after
body_errs done call (t.Version msize version) text e = absurd cc
body_errs done call (t.Auth afid uname aname) text e = inl refl
body_errs done call (t.Attach fid afid uname aname) text e = absurd cc
body_errs done call (t.Flush oldtag) text e = absurd cc
body_errs done call (t.Walk fid newfid wname) text e = absurd cc
body_errs done call (t.Open fid mode) text e = absurd cc
body_errs done call (t.Create fid name perm mode) text e = inl refl
body_errs done call (t.Read fid offset count) text e =
    let node = node_of (fid_of done call.conn fid) in
    let most = effective count (msize_of done call.conn) in
    read_errs (is_rpc node) (is_line_file node) _ (found most (lines_in done node)) _ text call fid most node done _ _ e
body_errs done call (t.Write fid offset content) text e = inr refl
body_errs done call (t.Clunk fid) text e = absurd cc
body_errs done call (t.Remove fid) text e = inr refl
body_errs done call (t.Stat fid) text e = inl refl
body_errs done call (t.Wstat fid stat) text e = inl refl

granted_errs : (done : List Deed) (call : Call) (g : Result TBody (List ℕ)) (text : List ℕ) → body_for done call g ≡ Some (r.Error text)
    → (after_granted done call g ≡ done) ⊎ ((body : TBody) × (g ≡ Ok body) × (may_err_and_act done call body ≡ true))
granted_errs done call (Err other) text e = inl refl
granted_errs done call (Ok body) text e = elim (body_errs done call body text e) [ inl same ↦ inl same | inr acts ↦ inr (body, refl, acts) ]

pub error_changes_nothing : (done : List Deed) (call : Call) (frame text : List ℕ) → body_to done call frame ≡ Some (r.Error text)
    → (after_frame done call frame ≡ done) ⊎ ((body : TBody) × (granted done call frame ≡ Ok body) × (may_err_and_act done call body ≡ true))
unfolding body_to after_frame
error_changes_nothing done call frame text e = granted_errs done call (granted done call frame) text e

-- ---- lines

-- what comes of a line that is carried out, and of the lines behind it
abbrev pub then_lines : KeyList → List (List ℕ) → Result CtlLine (List ℕ) → List CtlLine
then_lines keys lines r = elim r [ Ok said ↦ said ∷ carried_out (keys_with said keys) lines | Err text ↦ [] ]

abbrev pub then_fault : KeyList → List (List ℕ) → Result CtlLine (List ℕ) → Option (List ℕ)
then_fault keys lines r = elim r [ Ok said ↦ lines_fault (keys_with said keys) lines | Err text ↦ Some text ]

-- the lines behind are carried out as if they came by themselves, over the keys that those in front left
append_step : (keys : KeyList) (front lines : List (List ℕ))
    → ((said : CtlLine) → lines_fault (keys_with said keys) front ≡ None → carried_out (keys_with said keys) (front ++ lines) ≡ carried_out (keys_with said keys) front ++ carried_out (after_lines (keys_with said keys) front) lines)
    → (r : Result CtlLine (List ℕ)) → then_fault keys front r ≡ None → then_lines keys (front ++ lines) r ≡ then_lines keys front r ++ carried_out (keys_with_all (then_lines keys front r) keys) lines
append_step keys front lines more (Ok said) e = ap (λ (rest : List CtlLine). said ∷ rest) (more said e)
append_step keys front lines more (Err text) e = absurd cc

pub lines_append : (keys : KeyList) (front lines : List (List ℕ)) → lines_fault keys front ≡ None → carried_out keys (front ++ lines) ≡ carried_out keys front ++ carried_out (after_lines keys front) lines
lines_append keys [] lines e = refl
lines_append keys (line ∷ front) lines e = append_step keys front lines (λ said f. lines_append (keys_with said keys) front lines f) (line_over keys line) e

fault_step : (keys : KeyList) (front lines : List (List ℕ))
    → ((said : CtlLine) → lines_fault (keys_with said keys) front ≡ None → lines_fault (keys_with said keys) (front ++ lines) ≡ lines_fault (after_lines (keys_with said keys) front) lines)
    → (r : Result CtlLine (List ℕ)) → then_fault keys front r ≡ None → then_fault keys (front ++ lines) r ≡ lines_fault (keys_with_all (then_lines keys front r) keys) lines
fault_step keys front lines more (Ok said) e = more said e
fault_step keys front lines more (Err text) e = absurd cc

pub fault_append : (keys : KeyList) (front lines : List (List ℕ)) → lines_fault keys front ≡ None → lines_fault keys (front ++ lines) ≡ lines_fault (after_lines keys front) lines
fault_append keys [] lines e = refl
fault_append keys (line ∷ front) lines e = fault_step keys front lines (λ said f. fault_append (keys_with said keys) front lines f) (line_over keys line) e

-- the lines before the first refused one stand, and those behind it aren't carried out
pub front_stands : (keys : KeyList) (lines front : List (List ℕ)) (line : List ℕ) (later : List (List ℕ)) (text : List ℕ) → IsFirstRefused keys lines front line later text
    → carried_out keys lines ≡ carried_out keys front
front_stands keys lines front line later text f =
    ap (carried_out keys) f.split ∙ lines_append keys front (line ∷ later) f.carried_out
    ∙ ap (λ (r : Result CtlLine (List ℕ)). carried_out keys front ++ then_lines (after_lines keys front) later r) f.refused
    ∙ append-nil (carried_out keys front)

pub first_is_told : (keys : KeyList) (lines front : List (List ℕ)) (line : List ℕ) (later : List (List ℕ)) (text : List ℕ) → IsFirstRefused keys lines front line later text
    → lines_fault keys lines ≡ Some text
first_is_told keys lines front line later text f =
    ap (lines_fault keys) f.split ∙ fault_append keys front (line ∷ later) f.carried_out ∙ ap (then_fault (after_lines keys front) later) f.refused

-- where a text is told, some line was the first refused one
found_step : (keys : KeyList) (line : List ℕ) (lines : List (List ℕ)) (text : List ℕ) → ((said : CtlLine) → lines_fault (keys_with said keys) lines ≡ Some text → HasFirstRefused (keys_with said keys) lines text)
    → (r : Result CtlLine (List ℕ)) → line_over keys line ≡ r → then_fault keys lines r ≡ Some text → HasFirstRefused keys (line ∷ lines) text
found_step keys line lines text more (Err other) is e =
    let same : other ≡ text = cc in
    ([], line, lines, record { split = refl; carried_out = refl; refused = is ∙ ap Err same })
found_step keys line lines text more (Ok said) is e =
    let f = more said e in (
      line ∷ f.0,
      f.1,
      f.2,
      record {
        split = ap (λ (ls : List (List ℕ)). line ∷ ls) f.3.split;
        carried_out = ap (then_fault keys f.0) is ∙ f.3.carried_out;
        refused = ap (λ (r : Result CtlLine (List ℕ)). line_over (keys_with_all (then_lines keys f.0 r) keys) f.1) is ∙ f.3.refused;
      },
    )

pub first_is_found : (keys : KeyList) (lines : List (List ℕ)) (text : List ℕ) → lines_fault keys lines ≡ Some text → HasFirstRefused keys lines text
first_is_found keys [] text e = absurd cc
first_is_found keys (line ∷ lines) text e = found_step keys line lines text (λ said f. first_is_found (keys_with said keys) lines text f) (line_over keys line) refl e
