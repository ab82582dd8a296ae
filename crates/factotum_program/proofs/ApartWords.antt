-- No words are those of `world` and of `gen`.
use Rattle.std.proofs.Common.{◌≡◌, ℕ, List, [], ◌∷◌, Bool, true, false, refl, codes, length, arith, Option, Some, None, is_some, ap}
use Rattle.std.specs.Prelude.{if◌then◌else◌}
use Rattle.auth_program.proofs.WordLemmas.{short_form}
use Rattle.auth_program.specs.Words.{is_authsrv}
use Rattle.factotum_program.specs.Words.{is_pipe}
use Rattle.world_program.specs.declared.words.GenWords.{GenWords}
use Rattle.world_program.specs.Words.{both, gen_given, gen_value, has_gen_form, is_world, plain_number, rounds_of}

words_of_gen : (words : List (List ℕ)) → has_gen_form words ≡ true → length words ≡ 5
words_of_gen [] e = short_form e
words_of_gen (n ∷ []) e = short_form e
words_of_gen (n ∷ a ∷ []) e = short_form e
words_of_gen (n ∷ a ∷ x ∷ []) e = short_form e
words_of_gen (n ∷ a ∷ x ∷ b ∷ []) e = short_form e
words_of_gen (n ∷ a ∷ x ∷ b ∷ y ∷ []) e = refl
words_of_gen (n ∷ a ∷ x ∷ b ∷ y ∷ w ∷ rest) e = short_form e

words_of_world : (words : List (List ℕ)) → is_world words ≡ true → length words ≡ 1
words_of_world [] e = short_form e
words_of_world (n ∷ []) e = refl
words_of_world (n ∷ a ∷ rest) e = short_form e

where_form : (b : Bool) (o : Option GenWords) (given : GenWords) → (if b then o else None) ≡ Some given → b ≡ true
where_form true o given e = refl
where_form false o given e = absurd (let f : false ≡ true = ap is_some e in cc)

form_given : (words : List (List ℕ)) (given : GenWords) → gen_given words ≡ Some given → has_gen_form words ≡ true
form_given words given e = where_form (has_gen_form words) (both (plain_number (gen_value (codes "--number") words)) (rounds_of (gen_value (codes "--rounds") words))) given e

apart : (words : List (List ℕ)) → is_world words ≡ true → has_gen_form words ≡ true → ⊥
apart words w g = omega (arith, words_of_world words w, words_of_gen words g)

pub world_or_gen : {X : Type 0} (words : List (List ℕ)) (given : GenWords) → is_world words ≡ true → gen_given words ≡ Some given → X
world_or_gen words given w g = absurd (apart words w (form_given words given g))

-- nor are those of `pipe` or of `authsrv` those of `gen`
not_pipe : (words : List (List ℕ)) → is_pipe words ≡ true → has_gen_form words ≡ true → ⊥
not_pipe [] p g = short_form g
not_pipe (n ∷ []) p g = short_form g
not_pipe (n ∷ a ∷ []) p g = short_form g
not_pipe (n ∷ a ∷ x ∷ []) p g = short_form g
not_pipe (n ∷ a ∷ x ∷ b ∷ []) p g = short_form g
not_pipe (n ∷ a ∷ x ∷ b ∷ y ∷ []) p g = short_form p
not_pipe (n ∷ a ∷ x ∷ b ∷ y ∷ w ∷ rest) p g = short_form g

pub pipe_or_gen : {X : Type 0} (words : List (List ℕ)) (given : GenWords) → is_pipe words ≡ true → gen_given words ≡ Some given → X
pipe_or_gen words given p g = absurd (not_pipe words p (form_given words given g))

not_authsrv : (words : List (List ℕ)) → is_authsrv words ≡ true → has_gen_form words ≡ true → ⊥
not_authsrv [] p g = short_form g
not_authsrv (n ∷ []) p g = short_form g
not_authsrv (n ∷ a ∷ []) p g = short_form g
not_authsrv (n ∷ a ∷ x ∷ []) p g = short_form g
not_authsrv (n ∷ a ∷ x ∷ b ∷ []) p g = short_form g
not_authsrv (n ∷ a ∷ x ∷ b ∷ y ∷ []) p g = short_form p
not_authsrv (n ∷ a ∷ x ∷ b ∷ y ∷ w ∷ rest) p g = short_form g

pub authsrv_or_gen : {X : Type 0} (words : List (List ℕ)) (given : GenWords) → is_authsrv words ≡ true → gen_given words ≡ Some given → X
authsrv_or_gen words given p g = absurd (not_authsrv words p (form_given words given g))
