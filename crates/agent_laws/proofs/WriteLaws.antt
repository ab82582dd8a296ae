-- Writes of ctl that differ in the secrets of one line's key alone do the same but for secrets.
use Rattle.std.proofs.Common.{◌≡◌, ℕ, List, [], ◌∷◌, ◌++◌, map, true, Option, Some, None, refl, sym, ap, ◌∙◌}
use Rattle.std.specs.Prelude.{Result, Ok, Err, option_map}
use Rattle.attr_tuples.specs.declared.attr.Attr.{Attr}
use Rattle.attr_tuples.specs.Printing.{hidden}
use Rattle.key_lists.specs.declared.fault.AddFault.{AddFault}
use Rattle.key_lists.specs.Lists.{KeyList, add_fault}
use Rattle.key_lists.specs.Edits.{Add}
use Rattle.key_lists.specs.CtlLines.{CtlLine, OnKeys, add_text, after_lines, carried_out, keys_with, keys_with_all, line_over, lines_fault, read_line}
use Rattle.agent_history.specs.Deeds.{Deed, keys_of}
use Rattle.agent_history.specs.Requests.{lines_done}
use Rattle.agent_laws.specs.Laws.{AddAlike, SameButSecrets, all_open, hidden_deed}
use Rattle.agent_laws.proofs.MetLaws.{said_over, unless_wrong}
use Rattle.agent_laws.proofs.RefusalLaws.{then_fault, then_lines}
use Rattle.agent_laws.proofs.SecretLaws.{done_hidden, fault_same, hidden_line, key_more, lines_open, lines_same}

by_key : (keys : KeyList) (line : List ℕ) (key : List Attr) → read_line line ≡ Ok (OnKeys (Add key)) → line_over keys line ≡ unless_wrong (OnKeys (Add key)) (option_map add_text (add_fault key keys))
unfolding line_over
by_key keys line key e = ap (said_over keys) e

-- what the other line comes to, told with the first one's fault
other_is : (keys : KeyList) (one other : List ℕ) (a : AddAlike keys one other) → line_over keys other ≡ unless_wrong (OnKeys (Add a.same)) (option_map add_text (add_fault a.key keys))
other_is keys one other a = by_key keys other a.same a.other_adds ∙ ap (λ (fault : Option AddFault). unless_wrong (OnKeys (Add a.same)) (option_map add_text fault)) (sym a.alike_refused)

done_alike : (keys : KeyList) (later : List (List ℕ)) (key same : List Attr) → map hidden key ≡ map hidden same → (fault : Option AddFault)
    → map hidden_line (then_lines keys later (unless_wrong (OnKeys (Add key)) (option_map add_text fault))) ≡ map hidden_line (then_lines keys later (unless_wrong (OnKeys (Add same)) (option_map add_text fault)))
unfolding hidden_line
done_alike keys later key same e (Some fault) = refl
done_alike keys later key same e None =
    ap (λ (k : List Attr). OnKeys (Add k) ∷ map hidden_line (carried_out (keys_with (OnKeys (Add key)) keys) later)) e
    ∙ ap (λ (said : List CtlLine). OnKeys (Add (map hidden same)) ∷ map hidden_line said) (lines_same (keys_with (OnKeys (Add key)) keys) (keys_with (OnKeys (Add same)) keys) (key_more keys keys key same e refl) later)

told_alike : (keys : KeyList) (later : List (List ℕ)) (key same : List Attr) → map hidden key ≡ map hidden same → (fault : Option AddFault)
    → then_fault keys later (unless_wrong (OnKeys (Add key)) (option_map add_text fault)) ≡ then_fault keys later (unless_wrong (OnKeys (Add same)) (option_map add_text fault))
told_alike keys later key same e (Some fault) = refl
told_alike keys later key same e None = fault_same (keys_with (OnKeys (Add key)) keys) (keys_with (OnKeys (Add same)) keys) (key_more keys keys key same e refl) later

-- ---- the lines in front

said_step : (keys : KeyList) (front first second : List (List ℕ)) (one other : List ℕ)
    → ((said : CtlLine) → AddAlike (after_lines (keys_with said keys) front) one other → map hidden_line (carried_out (keys_with said keys) first) ≡ map hidden_line (carried_out (keys_with said keys) second))
    → (r : Result CtlLine (List ℕ)) → AddAlike (keys_with_all (then_lines keys front r) keys) one other → map hidden_line (then_lines keys first r) ≡ map hidden_line (then_lines keys second r)
said_step keys front first second one other more (Err text) a = refl
said_step keys front first second one other more (Ok said) a = ap (λ (rest : List CtlLine). hidden_line said ∷ rest) (more said a)

said_alike : (keys : KeyList) (front : List (List ℕ)) (one other : List ℕ) (later : List (List ℕ)) → AddAlike (after_lines keys front) one other
    → map hidden_line (carried_out keys (front ++ one ∷ later)) ≡ map hidden_line (carried_out keys (front ++ other ∷ later))
said_alike keys [] one other later a =
    ap (λ (r : Result CtlLine (List ℕ)). map hidden_line (then_lines keys later r)) (by_key keys one a.key a.one_adds)
    ∙ done_alike keys later a.key a.same a.alike (add_fault a.key keys)
    ∙ ap (λ (r : Result CtlLine (List ℕ)). map hidden_line (then_lines keys later r)) (sym (other_is keys one other a))
said_alike keys (line ∷ front) one other later a =
    said_step keys front (front ++ one ∷ later) (front ++ other ∷ later) one other (λ said b. said_alike (keys_with said keys) front one other later b) (line_over keys line) a

told_step : (keys : KeyList) (front first second : List (List ℕ)) (one other : List ℕ)
    → ((said : CtlLine) → AddAlike (after_lines (keys_with said keys) front) one other → lines_fault (keys_with said keys) first ≡ lines_fault (keys_with said keys) second)
    → (r : Result CtlLine (List ℕ)) → AddAlike (keys_with_all (then_lines keys front r) keys) one other → then_fault keys first r ≡ then_fault keys second r
told_step keys front first second one other more (Err text) a = refl
told_step keys front first second one other more (Ok said) a = more said a

pub writes_told_alike : (keys : KeyList) (front : List (List ℕ)) (one other : List ℕ) (later : List (List ℕ)) → AddAlike (after_lines keys front) one other
    → lines_fault keys (front ++ one ∷ later) ≡ lines_fault keys (front ++ other ∷ later)
writes_told_alike keys [] one other later a =
    ap (then_fault keys later) (by_key keys one a.key a.one_adds)
    ∙ told_alike keys later a.key a.same a.alike (add_fault a.key keys)
    ∙ ap (then_fault keys later) (sym (other_is keys one other a))
writes_told_alike keys (line ∷ front) one other later a =
    told_step keys front (front ++ one ∷ later) (front ++ other ∷ later) one other (λ said b. writes_told_alike (keys_with said keys) front one other later b) (line_over keys line) a

pub writes_alike : (conn : ℕ) (done : List Deed) (front : List (List ℕ)) (one other : List ℕ) (later : List (List ℕ)) → all_open done ≡ true → AddAlike (after_lines (keys_of done) front) one other
    → SameButSecrets (lines_done conn (carried_out (keys_of done) (front ++ one ∷ later)) done) (lines_done conn (carried_out (keys_of done) (front ++ other ∷ later)) done)
writes_alike conn done front one other later o a = record {
  alike = done_hidden conn (carried_out (keys_of done) (front ++ one ∷ later)) done
      ∙ ap (λ (said : List CtlLine). lines_done conn said (map hidden_deed done)) (said_alike (keys_of done) front one other later a)
      ∙ sym (done_hidden conn (carried_out (keys_of done) (front ++ other ∷ later)) done);
  open_deletes = lines_open done conn (front ++ one ∷ later) o;
}
