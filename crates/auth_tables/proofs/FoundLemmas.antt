-- A table of what lines give, and one line more.
use Rattle.std.proofs.Common.{◌≡◌, ℕ, List, [], ◌∷◌, ◌++◌, false, Option, Some, None, Result, Ok, Err, arith, refl, sym, ap, subst, ◌∙◌}
use Rattle.std.specs.Prelude.{IfOk, OnOk, is_some}
use Rattle.std.specs.List.{filter_map, cons_option}
use Rattle.std.proofs.lemmas.List.{length-append}
use Rattle.std.proofs.lemmas.List.Elements.{All-append, All-from_recursion}
use Rattle.attr_tuples.specs.Cutting.{text_lines}
use Rattle.auth_tables.specs.Keys.{KeyLine, UserKey, bad_key_line, key_of, key_in, fits_keys}
use Rattle.auth_tables.specs.Lines.{counted}
use Rattle.auth_tables.specs.Printing.{IsKeyLine, IsTable}
use Rattle.auth_tables.specs.Steps.{Keeps}
use Rattle.auth_tables.proofs.BadLaws.{few_count}
use Rattle.auth_tables.proofs.PlaceLemmas.{put_apart}

after_first : {B : Type 0} (o : Option B) (all some : List B) (y : B) → all ≡ some ++ y ∷ [] → cons_option o all ≡ cons_option o some ++ y ∷ []
after_first None all some y e = e
after_first {B} (Some w) all some y e = ap (λ (ys : List B). w ∷ ys) e

-- what a list of lines gives with one line more
pub filter_map_last : {A B : Type 0} (f : A → Option B) (xs : List A) (x : A) (y : B) → f x ≡ Some y → filter_map f (xs ++ x ∷ []) ≡ filter_map f xs ++ y ∷ []
filter_map_last {A} {B} f [] x y e = ap (λ (o : Option B). cons_option o []) e
filter_map_last {A} {B} f (z ∷ xs) x y e = after_first (f z) (filter_map f (xs ++ x ∷ [])) (filter_map f xs) y (filter_map_last f xs x y e)

-- no key is found
none_found : {X : Type 0} (found : Option X) → is_some found ≡ false → found ≡ None
none_found None h = refl
none_found (Some x) h = absurd cc

-- the line of a user who has none is put behind the others
pub put_user : (before : List (List ℕ)) (line user : List ℕ) (key : UserKey) (table new : List KeyLine) → Some (user, key) ≡ key_in line → is_some (key_of user table) ≡ false → new ≡ table ++ (user, key) ∷ [] → IsKeyLine (user, key) → Keeps before table → Keeps (before ++ line ∷ []) new
put_user before line user key table new given none put good keeps = subst (Keeps (before ++ line ∷ [])) (sym put) (record {
  same = ap (λ (keys : List KeyLine). keys ++ (user, key) ∷ []) keeps.same ∙ sym (filter_map_last key_in before line (user, key) (sym given));
  good = All-append IsKeyLine table ((user, key) ∷ []) keeps.good (All-from_recursion IsKeyLine ((user, key) ∷ []) (good, tt));
  apart = put_apart user key table (none_found (key_of user table) none) keeps.apart;
  few = let more = length-append before (line ∷ []) in let some = length-append table ((user, key) ∷ []) in let least = keeps.few in omega (arith, more, some, least);
})

-- what was read whole, with no bad line, is a table
pub read_is_table : {E : Type 0} (file : List ℕ) (r : Result (List KeyLine) E) → IfOk r (λ (table : List KeyLine). Keeps (counted (text_lines file)) table) → OnOk r (bad_key_line file ≡ None) → IfOk r IsTable
read_is_table file (Err e) keeps good = tt
read_is_table file (Ok table) keeps good =
    let most = few_count fits_keys (text_lines file) good in
    let few = keeps.few in
    record { lines = keeps.good; apart = keeps.apart; few = omega (arith, most, few) }
