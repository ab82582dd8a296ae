-- A search from key to key finds what the definition says of all keys that serve.
use Rattle.std.proofs.Common.{◌≡◌, ℕ, suc, ◌+◌, ◌-◌, ◌<◌, ◌≤◌, List, [], ◌∷◌, Bool, true, false, not, cond, ◌||◌, Option, Some, None, length, refl, ap, ◌∙◌, arith}
use Rattle.std.specs.Prelude.{find}
use Rattle.std.specs.List.{list_any}
use Rattle.attr_tuples.specs.declared.attr.Attr.{Attr}
use Rattle.key_lists.specs.Lists.{KeyEntry, KeyList, first_serving, next_serving}
use Rattle.key_lists.specs.Edits.{IsOrdered}
use Rattle.key_lists.specs.Finding.{in_turn}
use Rattle.key_lists.proofs.FindLaws.{found_in_turn}
use Rattle.talks.specs.Calls.{Found}
use Rattle.talks.specs.Searches.{first_left, found_at, found_by, is_passed_over, one_left, serving}
use Rattle.talks.specs.Seeking.{past, past_at, found_past, none_past}
use Rattle.talks.specs.declared.said.Said.{Said}
use Rattle.talks.specs.declared.said.Asking.{Asking}

-- ---- over any test

or_true : (a b : Bool) → b ≡ true → (a || b) ≡ true
or_true true b e = refl
or_true false b e = e

some_pass : (passed : Bool) (test : KeyEntry → Bool) (key : KeyEntry) (rest : List KeyEntry) → test key ≡ true → (passed || list_any test (key ∷ rest)) ≡ true
some_pass passed test key rest e = or_true passed (list_any test (key ∷ rest)) (ap (λ b. b || list_any test rest) e)

next_left : (test : KeyEntry → Bool) (key : KeyEntry) (rest : List KeyEntry) (b : Bool) → test key ≡ b → find (λ k. not (test k)) (key ∷ rest) ≡ cond (not b) (Some key) (find (λ k. not (test k)) rest)
next_left test key rest b e = ap (λ x. cond (not x) (Some key) (find (λ k. not (test k)) rest)) e

passes : (passed : Bool) (test : KeyEntry → Bool) (none : Bool → Found) (one : KeyEntry → Found) (key : KeyEntry) (rest : List KeyEntry) → test key ≡ true → past passed test none one (key ∷ rest) ≡ past true test none one rest
passes passed test none one key rest e =
    ap (λ left. past_at none one left (passed || list_any test (key ∷ rest))) (next_left test key rest true e)
    ∙ ap (past_at none one (find (λ k. not (test k)) rest)) (some_pass passed test key rest e)

stops : (passed : Bool) (test : KeyEntry → Bool) (none : Bool → Found) (one : KeyEntry → Found) (key : KeyEntry) (rest : List KeyEntry) → test key ≡ false → past passed test none one (key ∷ rest) ≡ one key
stops passed test none one key rest e = ap (λ left. past_at none one left (passed || list_any test (key ∷ rest))) (next_left test key rest false e)

ends : (passed : Bool) (test : KeyEntry → Bool) (none : Bool → Found) (one : KeyEntry → Found) → past passed test none one [] ≡ none passed
ends true test none one = refl
ends false test none one = refl

-- ---- one turn

one_less : (n i : ℕ) → i < n → n - i ≡ suc (n - (i + 1))
one_less n i h = omega arith

same_found : (said : Said) (asking : Asking) (keys : List KeyEntry) (left : Option KeyEntry) → past_at (λ some. none_past some said asking) (one_left said) left (list_any (is_passed_over said asking) keys) ≡ found_at said asking keys left
same_found said asking keys (Some key) = refl
same_found said asking keys None = refl

pub begins : (template : List Attr) (role : List ℕ) (list : KeyList) (said : Said) (asking : Asking) (turns : ℕ) → IsOrdered list → length list.keys ≤ turns → found_past false said asking (in_turn template role list turns (first_serving template role list)) ≡ found_by template role said asking list
unfolding found_by
begins template role list said asking turns ordered few = ap (found_past false said asking) (found_in_turn template role list turns ordered few) ∙ same_found said asking (serving template role list) (first_left said asking (serving template role list))

pub goes_on : (template : List Attr) (role : List ℕ) (list : KeyList) (said : Said) (asking : Asking) (passed : Bool) (n i : ℕ) (key : KeyEntry) → i < n → is_passed_over said asking key ≡ true → found_past passed said asking (in_turn template role list (n - i) (Some key)) ≡ found_past true said asking (in_turn template role list (n - (i + 1)) (next_serving template role key.serial list))
goes_on template role list said asking passed n i key h e = ap (λ turns. found_past passed said asking (in_turn template role list turns (Some key))) (one_less n i h) ∙ passes passed (is_passed_over said asking) (λ some. none_past some said asking) (one_left said) key (in_turn template role list (n - (i + 1)) (next_serving template role key.serial list)) e

pub takes : (template : List Attr) (role : List ℕ) (list : KeyList) (said : Said) (asking : Asking) (passed : Bool) (n i : ℕ) (key : KeyEntry) → i < n → is_passed_over said asking key ≡ false → found_past passed said asking (in_turn template role list (n - i) (Some key)) ≡ one_left said key
takes template role list said asking passed n i key h e = ap (λ turns. found_past passed said asking (in_turn template role list turns (Some key))) (one_less n i h) ∙ stops passed (is_passed_over said asking) (λ some. none_past some said asking) (one_left said) key (in_turn template role list (n - (i + 1)) (next_serving template role key.serial list)) e

pub finds_none : (template : List Attr) (role : List ℕ) (list : KeyList) (said : Said) (asking : Asking) (passed : Bool) (turns : ℕ) → found_past passed said asking (in_turn template role list turns None) ≡ none_past passed said asking
finds_none template role list said asking passed turns = ends passed (is_passed_over said asking) (λ some. none_past some said asking) (one_left said)

pub runs_out : (template : List Attr) (role : List ℕ) (list : KeyList) (said : Said) (asking : Asking) (passed : Bool) (n : ℕ) (next : Option KeyEntry) → found_past passed said asking (in_turn template role list (n - n) next) ≡ none_past passed said asking
runs_out template role list said asking passed n None = ends passed (is_passed_over said asking) (λ some. none_past some said asking) (one_left said)
runs_out template role list said asking passed n (Some key) =
    let none : n - n ≡ 0 = omega arith in
    ap (λ turns. found_past passed said asking (in_turn template role list turns (Some key))) none ∙ ends passed (is_passed_over said asking) (λ some. none_past some said asking) (one_left said)
