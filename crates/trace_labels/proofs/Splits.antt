-- A text that is split has a part.
use Rattle.std.proofs.Common.{◌≡◌, ℕ, List, [], ◌∷◌, Bool, true, false, cond, refl}
use Rattle.std.specs.List.{onto_first, slice_split}
use Rattle.trace_labels.specs.Left.{is_over}

onto_over : (x : ℕ) (parts : List (List ℕ)) → is_over (onto_first x parts) ≡ false
onto_over x [] = refl
onto_over x (part ∷ parts) = refl

split_by : (b : Bool) (x : ℕ) (parts : List (List ℕ)) → is_over (cond b ([] ∷ parts) (onto_first x parts)) ≡ false
split_by true x parts = refl
split_by false x parts = onto_over x parts

pub never_over : (p : ℕ → Bool) (text : List ℕ) → is_over (slice_split p text) ≡ false
never_over p [] = refl
never_over p (x ∷ text) = split_by (p x) x (slice_split p text)
