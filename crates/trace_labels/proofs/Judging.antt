-- What the code finds of a label is what is asked of it.
use Rattle.std.proofs.Common.{◌≡◌, ◌↔◌, ℕ, List, [], ◌∷◌, ◌++◌, Bool, true, false, length, Option, Some, None, option_map, Result, Ok, Err, IfOk, slice_get, refl, sym, ap, ◌∙◌}
use Rattle.std.specs.Str.{bytes_eq}
use Rattle.std.proofs.lemmas.Slice.Eq.{bytes_eq-Decides}
use Rattle.symbolic_runs.specs.declared.proof.ProofStep.{ProofStep}
use Rattle.symbolic_runs.specs.declared.spelling.SpellFault.{SpellFault}
use Rattle.symbolic_runs.specs.Trees.{Tree, Trees, same_tree}
use Rattle.symbolic_runs.specs.Views.{trees_of}
use Rattle.symbolic_runs.specs.Spellings.{Atoms, Spelling, spelling}
use Rattle.symbolic_runs.specs.Answers.{behind}
use Rattle.symbolic_runs.specs.Derivations.{Derives, conclusions}
use Rattle.symbolic_runs.proofs.DerivationLaws.{conclusions_derive}
use Rattle.wire_base.specs.declared.bytes.NoMemory.{NoMemory}
use Rattle.symbolic_runs.proofs.EqualityLaws.{equal_trees, tree_itself}
use Rattle.trace_labels.specs.Judged.{EndsIn, IsJudged, last_is}
use Rattle.trace_labels.proofs.Parts.{same_some}
use Rattle.trace_labels.proofs.TermLaws.{pieces_of}

-- ---- spelling

behind_nothing : (s : Spelling) (b : List ℕ) → behind [] s ≡ Ok b → s ≡ Ok b
behind_nothing (Ok bytes) b h = h
behind_nothing (Err fault) b h = h

same_ok : (a b : List ℕ) → ◌≡◌ {A = Spelling} (Ok a) (Ok b) → a ≡ b
same_ok a b h = cc

pub spelled_so : (s : Spelling) (old b bytes : List ℕ) (so : Bool) → old ≡ [] → behind old s ≡ Ok b → so ≡ bytes_eq b bytes → (so ≡ true) ↔ (s ≡ Ok bytes)
spelled_so s old b bytes so e h same =
    let spelled : s ≡ Ok b = behind_nothing s b (ap (λ o. behind o s) (sym e) ∙ h) in (
      λ yes. spelled ∙ ap Ok ((bytes_eq-Decides b bytes).0 (sym same ∙ yes)),
      λ is. same ∙ (bytes_eq-Decides b bytes).1 (same_ok b bytes (sym spelled ∙ is)),
    )

pub not_spelled : (s : Spelling) (fault : SpellFault) (bytes : List ℕ) → s ≡ Err fault → (false ≡ true) ↔ (s ≡ Ok bytes)
not_spelled s fault bytes h = (λ e. absurd cc, λ is. absurd (let both : ◌≡◌ {A = Spelling} (Err fault) (Ok bytes) = sym h ∙ is in cc))

-- ---- derivations

listed_again : (ts : List Tree) → pieces_of (trees_of ts) ≡ ts
listed_again [] = refl
listed_again (t ∷ ts) = ap (λ others. t ∷ others) (listed_again ts)

pub same_list : (xs ys : List Tree) → trees_of xs ≡ trees_of ys → xs ≡ ys
same_list xs ys h = sym (listed_again xs) ∙ ap pieces_of h ∙ listed_again ys

some_concluded : (o : Option (List Tree)) (ts : Trees) → Some ts ≡ option_map trees_of o → (list : List Tree) × (o ≡ Some list) × (ts ≡ trees_of list)
some_concluded None ts h = absurd cc
some_concluded (Some list) ts h = (list, refl, same_some ts (trees_of list) h)

none_concluded : (o : Option (List Tree)) → None ≡ option_map trees_of o → o ≡ None
none_concluded None h = refl
none_concluded (Some list) h = absurd cc

-- the last of some, or what was said before
record Last (so : Bool) (ends : List Tree) (t : Tree) : Type 0 where
  front : List Tree
  last : ends ≡ front ++ t ∷ []

last_by : (end : Tree) (more : List Tree) (t : Tree) → last_is (same_tree end t) more t ≡ true → Last false (end ∷ more) t
last_by end [] t h = record { front = []; last = ap (λ x. x ∷ []) (equal_trees end t h) }
last_by end (next ∷ more) t h =
    let found = last_by next more t h in
    record { front = end ∷ found.front; last = ap (λ xs. end ∷ xs) found.last }

last_parts : (ends : List Tree) (t : Tree) → last_is false ends t ≡ true → Last false ends t
last_parts [] t h = absurd cc
last_parts (end ∷ more) t h = last_by end more t h

last_again : (so : Bool) (front : List Tree) (t : Tree) → last_is so (front ++ t ∷ []) t ≡ true
last_again so [] t = tree_itself t
last_again so (x ∷ front) t = last_again (same_tree x t) front t

pub proved_so : (known : List Tree) (steps : List ProofStep) (t : Tree) (ts : Trees) (so : Bool) → Some ts ≡ option_map trees_of (conclusions known steps) → ((list : List Tree) → ts ≡ trees_of list → so ≡ last_is false list t) → (so ≡ true) ↔ EndsIn known steps t
proved_so known steps t ts so h found =
    let all = some_concluded (conclusions known steps) ts h in
    let same = found all.0 all.2 in (
      λ yes. (let last = last_parts all.0 t (sym same ∙ yes) in record { front = last.front; holds = all.1 ∙ ap Some last.last }),
      λ ends. same ∙ ap (λ xs. last_is false xs t) (same_some all.0 (ends.front ++ t ∷ []) (sym all.1 ∙ ends.holds)) ∙ last_again false ends.front t,
    )

pub not_proved : (known : List Tree) (steps : List ProofStep) (t : Tree) → None ≡ option_map trees_of (conclusions known steps) → (false ≡ true) ↔ EndsIn known steps t
not_proved known steps t h =
    let missing = none_concluded (conclusions known steps) h in
    (λ e. absurd cc, λ ends. absurd (let both : None ≡ Some (ends.front ++ t ∷ []) = sym missing ∙ ends.holds in cc))

get_last : (front : List Tree) (t : Tree) → slice_get (front ++ t ∷ []) (length front) ≡ Some t
get_last [] t = refl
get_last (x ∷ front) t = get_last front t

pub ends_derive : (known : List Tree) (steps : List ProofStep) (t : Tree) → EndsIn known steps t → Derives known t
ends_derive known steps t ends = conclusions_derive known (ends.front ++ t ∷ []) steps ends.holds (length ends.front) t (get_last ends.front t)

pub derives_by : (known : List Tree) (steps : List ProofStep) (t : Tree) (r : Result Bool NoMemory) → IfOk r (λ so. (so ≡ true) ↔ EndsIn known steps t) → r ≡ Ok true → Derives known t
derives_by known steps t (Ok true) h e = ends_derive known steps t (h.0 refl)
derives_by known steps t (Ok false) h e = absurd cc
derives_by known steps t (Err fault) h e = absurd cc

pub judged_by : (atoms : Atoms) (known : List Tree) (steps : List ProofStep) (label : Tree) (text : List ℕ) (r : Result Bool NoMemory) → spelling atoms label ≡ Ok text → IfOk r (λ so. (so ≡ true) ↔ EndsIn known steps label) → IfOk r (λ so. (so ≡ true) ↔ IsJudged atoms known steps label text)
judged_by atoms known steps label text (Ok so) spelled h = (λ yes. record { spells = spelled; derived = h.0 yes }, λ judged. h.1 judged.derived)
judged_by atoms known steps label text (Err fault) spelled h = tt

pub not_judged : (atoms : Atoms) (known : List Tree) (steps : List ProofStep) (label : Tree) (text : List ℕ) → (false ≡ true) ↔ (spelling atoms label ≡ Ok text) → (false ≡ true) ↔ IsJudged atoms known steps label text
not_judged atoms known steps label text h = (λ e. absurd cc, λ judged. h.1 judged.spells)
