-- The first rule that is broken.
use Rattle.std.proofs.Common.{◌≡◌, zero, suc, List, [], ◌∷◌, ◌++◌, Bool, true, false, ◌↔◌, Some, None, refl, ap, inl, inr, arith}
use Rattle.std.specs.List.{All}
use Rattle.std.proofs.lemmas.Bool.{cases_Bool}
use Rattle.key_lists.specs.declared.fault.AddFault.{AddFault}
use Rattle.wire_base.specs.Rules.{Rule, first_told}

abbrev pub IsKept : Rule AddFault → Type 0
IsKept rule = rule.0 ≡ false

kept_cons : (rule : Rule AddFault) (rules : List (Rule AddFault)) → IsKept rule → All IsKept rules → All IsKept (rule ∷ rules)
kept_cons rule rules first rest zero d lt = first
kept_cons rule rules first rest (suc k) d lt = rest k d (omega arith)

kept_rest : (rule : Rule AddFault) (rules : List (Rule AddFault)) → All IsKept (rule ∷ rules) → All IsKept rules
kept_rest rule rules h k d lt = h (suc k) d (omega arith)

pub told_is_first : (rules : List (Rule AddFault)) (fault : AddFault) → first_told rules ≡ Some fault → (kept : List (Rule AddFault)) × (later : List (Rule AddFault)) × (rules ≡ kept ++ (true, fault) ∷ later) × All IsKept kept
told_is_first [] fault h = absurd cc
told_is_first ((broken, told) ∷ rules) fault h = broken_first broken told rules fault h (told_is_first rules fault)
  where
    broken_first : (broken : Bool) (told : AddFault) (rules : List (Rule AddFault)) (fault : AddFault) → first_told ((broken, told) ∷ rules) ≡ Some fault
        → (first_told rules ≡ Some fault → (kept : List (Rule AddFault)) × (later : List (Rule AddFault)) × (rules ≡ kept ++ (true, fault) ∷ later) × All IsKept kept)
        → (kept : List (Rule AddFault)) × (later : List (Rule AddFault)) × ((broken, told) ∷ rules ≡ kept ++ (true, fault) ∷ later) × All IsKept kept
    broken_first true told rules fault h rest =
        let same : told ≡ fault = cc in
        let none : All IsKept [] = λ k d lt. absurd (omega arith) in
        ([], rules, ap (λ (f : AddFault). (true, f) ∷ rules) same, none)
    broken_first false told rules fault h rest =
        let more = rest h in
        ((false, told) ∷ more.0, more.1, ap (λ (rs : List (Rule AddFault)). (false, told) ∷ rs) more.2, kept_cons (false, told) more.0 refl more.3)

pub first_is_told : (kept later : List (Rule AddFault)) (fault : AddFault) → All IsKept kept → first_told (kept ++ (true, fault) ∷ later) ≡ Some fault
first_is_told [] later fault h = refl
first_is_told (rule ∷ kept) later fault h = let first : rule.0 ≡ false = h 0 rule (omega arith) in rw first (first_is_told kept later fault (kept_rest rule kept h))

none_to_kept : (rules : List (Rule AddFault)) → first_told rules ≡ None → All IsKept rules
none_to_kept [] h = λ k d lt. absurd (omega arith)
none_to_kept (rule ∷ rules) h = elim (cases_Bool rule.0) [
  | inl t ↦ absurd (let s : Some rule.1 ≡ None = rw t at h in cc)
  | inr f ↦ kept_cons rule rules f (none_to_kept rules (rw f at h))
]

kept_to_none : (rules : List (Rule AddFault)) → All IsKept rules → first_told rules ≡ None
kept_to_none [] h = refl
kept_to_none (rule ∷ rules) h = let first : rule.0 ≡ false = h 0 rule (omega arith) in rw first (kept_to_none rules (kept_rest rule rules h))

pub none_is_kept : (rules : List (Rule AddFault)) → first_told rules ≡ None ↔ All IsKept rules
none_is_kept rules = (none_to_kept rules, kept_to_none rules)
