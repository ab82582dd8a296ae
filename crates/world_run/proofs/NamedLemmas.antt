-- What a name finds once what stands under a name was changed.
use Rattle.std.proofs.Common.{◌≡◌, ℕ, List, [], ◌∷◌, map, Bool, true, false, cond, Some, None, refl, sym, ap, subst, ◌∙◌, inl, inr}
use Rattle.std.specs.Prelude.{is_some, option_map}
use Rattle.std.specs.Map.{lookup}
use Rattle.std.specs.Str.{bytes_eq}
use Rattle.std.specs.Cmp.Lexicographic.{bytes_decides}
use Rattle.std.proofs.lemmas.Bool.{cases_Bool, cond-true, cond-false}
use Rattle.world_run.specs.Names.{changed_under}

-- what the name finds is what it found, changed
pub changed_by : {X : Type 0} (name : List ℕ) (change : X → X) (value now : X) (old new : List (List ℕ × X))
    → lookup (bytes_eq name) old ≡ Some value → now ≡ change value
    → ((other : List ℕ) → lookup (bytes_eq other) new ≡ cond (bytes_eq name other) (Some now) (lookup (bytes_eq other) old))
    → (other : List ℕ) → lookup (bytes_eq other) new ≡ changed_under name change old other
changed_by {X} name change value now old new found same others other = elim (cases_Bool (bytes_eq name other)) [
  | inl is ↦ others other ∙ (cond-true _ _ _ is ∙ (ap Some same
      ∙ (sym (ap (option_map change) (subst (λ (l : List ℕ). lookup (bytes_eq l) old ≡ Some value) ((bytes_decides name other).0 is) found))
      ∙ sym (cond-true _ _ _ is))))
  | inr is ↦ others other ∙ (cond-false _ _ _ is ∙ sym (cond-false _ _ _ is))
]

-- where it finds nothing, nothing is changed
pub changed_none : {X : Type 0} (name : List ℕ) (change : X → X) (old : List (List ℕ × X)) → lookup (bytes_eq name) old ≡ None
    → (other : List ℕ) → lookup (bytes_eq other) old ≡ changed_under name change old other
changed_none {X} name change old none other = elim (cases_Bool (bytes_eq name other)) [
  | inl is ↦ let here = subst (λ (l : List ℕ). lookup (bytes_eq l) old ≡ None) ((bytes_decides name other).0 is) none in
      here ∙ (sym (ap (option_map change) here) ∙ sym (cond-true _ _ _ is))
  | inr is ↦ sym (cond-false _ _ _ is)
]

-- what was put under a name is found there
pub put_found : {X : Type 0} (name : List ℕ) (value : X) (old new : List (List ℕ × X))
    → ((other : List ℕ) → lookup (bytes_eq other) new ≡ cond (bytes_eq name other) (Some value) (lookup (bytes_eq other) old)) → is_some (lookup (bytes_eq name) new) ≡ true
put_found {X} name value old new others = ap is_some (others name ∙ cond-true _ _ _ ((bytes_decides name name).1 refl))

-- what a name finds once all values were changed, whatever the keys are kept as
pub changed_each : {K X : Type 0} (items : K → List ℕ) (change : X → X) (test : List ℕ → Bool) (es : List (K × X))
    → lookup test (map (λ (e : K × X). (items e.0, e.1)) (map (λ (e : K × X). (e.0, change e.1)) es)) ≡ option_map change (lookup test (map (λ (e : K × X). (items e.0, e.1)) es))
changed_each items change test [] = refl
changed_each {K} {X} items change test (e ∷ es) = by (test (items e.0)) (changed_each items change test es)
  where
    by : (b : Bool) → lookup test (map (λ (x : K × X). (items x.0, x.1)) (map (λ (x : K × X). (x.0, change x.1)) es)) ≡ option_map change (lookup test (map (λ (x : K × X). (items x.0, x.1)) es))
        → cond b (Some (change e.1)) (lookup test (map (λ (x : K × X). (items x.0, x.1)) (map (λ (x : K × X). (x.0, change x.1)) es))) ≡ option_map change (cond b (Some e.1) (lookup test (map (λ (x : K × X). (items x.0, x.1)) es)))
    by true rest = refl
    by false rest = rest
