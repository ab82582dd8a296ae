-- Words of the form of `gen` are taken by clap, which finds the value behind each option, in either order of the options.
use Rattle.std.proofs.Common.{◌≡◌, ◌⊎◌, ◌∙◌, ◌||◌, List, [], ◌∷◌, Bool, true, false, refl, ap, sym, subst, codes, inl, inr, arith, Option, Some}
use Rattle.std.specs.Prelude.{unwrap_or}
use Rattle.std.specs.List.{list_all, slice_index_or}
use Rattle.std.specs.Str.{bytes_eq}
use Rattle.std.proofs.lemmas.Slice.Eq.{bytes_eq-Decides}
use Rattle.wire_base.specs.Texts.{is_text}
use Rattle.clap.specs.Words.{App, HasMatchesOf, Row, Text, first_of, first_value, found_of, is_simple, matches_of, takes}
use Rattle.clap.specs.Walk.{Held, Step, after_step, nothing_held, walk, walk_from, walked}
use Rattle.clap.specs.Simple.{Shape, built}
use Rattle.clap.specs.Takes.{step_passes, turn_passes, walk_passes}
use Rattle.clap.specs.declared.parser.matches.ArgMatches.{ArgMatches}
use Rattle.clap.proofs.OnLiterals.{clap_on_literals}
use Rattle.auth_program.specs.Reading.{HasText}
use Rattle.auth_program.specs.Words.{is_among, is_value, value_of}
use Rattle.world_program.specs.Reading.{gen_app}
use Rattle.world_program.specs.Words.{gen_options, gen_value, has_gen_form}
use Rattle.auth_program.proofs.ClapLemmas.{IsPlainWord, at_option, behind, both_pass, either_passes, flag_passes, met_plain, pass_end, pass_on, row}
use Rattle.auth_program.proofs.WordLemmas.{and_left, and_right, plain_value, same_first, short_form, texts_from}

abbrev top : Shape
top = (built gen_app).top

-- ---- the words one by one

number_value : (rows : List Row) (word : Text) → IsPlainWord word → walked top.rules [] (at_option rows (codes "number")) word ≡ behind rows (codes "number") word
unfolding clap_on_literals
number_value rows word p = ap (λ (m : Held × Step). after_step top.rules word (at_option rows (codes "number")) m.0 m.1) (met_plain top.rules [] (codes "number") word (at_option rows (codes "number")).held p)

number_turn : (rows : List Row) (word : Text) → IsPlainWord word → turn_passes top [] (at_option rows (codes "number")) word ≡ true
number_turn rows word p = both_pass _ _
    (either_passes (bytes_eq word (45 ∷ 45 ∷ [])) _ (flag_passes top.rules top.args_override_self word (at_option rows (codes "number")).held p))
    (subst (λ (m : Held × Step). step_passes top 1 m.0 m.1 ≡ true) (sym (met_plain top.rules [] (codes "number") word (at_option rows (codes "number")).held p)) refl)

rounds_value : (rows : List Row) (word : Text) → IsPlainWord word → walked top.rules [] (at_option rows (codes "rounds")) word ≡ behind rows (codes "rounds") word
unfolding clap_on_literals
rounds_value rows word p = ap (λ (m : Held × Step). after_step top.rules word (at_option rows (codes "rounds")) m.0 m.1) (met_plain top.rules [] (codes "rounds") word (at_option rows (codes "rounds")).held p)

rounds_turn : (rows : List Row) (word : Text) → IsPlainWord word → turn_passes top [] (at_option rows (codes "rounds")) word ≡ true
rounds_turn rows word p = both_pass _ _
    (either_passes (bytes_eq word (45 ∷ 45 ∷ [])) _ (flag_passes top.rules top.args_override_self word (at_option rows (codes "rounds")).held p))
    (subst (λ (m : Held × Step). step_passes top 1 m.0 m.1 ≡ true) (sym (met_plain top.rules [] (codes "rounds") word (at_option rows (codes "rounds")).held p)) refl)

-- ---- --number, --rounds

number_1 : walked top.rules [] (walk_from nothing_held) (codes "--number") ≡ at_option [] (codes "number")
unfolding clap_on_literals
number_1 = refl

number_t1 : turn_passes top [] (walk_from nothing_held) (codes "--number") ≡ true
unfolding clap_on_literals
number_t1 = refl

number_3 : (x : Text) → walked top.rules [] (behind [] (codes "number") x) (codes "--rounds") ≡ at_option (row (codes "number") x ∷ []) (codes "rounds")
unfolding clap_on_literals
number_3 x = refl

number_t3 : (x : Text) → turn_passes top [] (behind [] (codes "number") x) (codes "--rounds") ≡ true
unfolding clap_on_literals
number_t3 x = refl

number_walk : (x y : Text) → IsPlainWord x → IsPlainWord y → walk top.rules [] nothing_held (codes "--number" ∷ x ∷ codes "--rounds" ∷ y ∷ []) ≡ behind (row (codes "number") x ∷ []) (codes "rounds") y
number_walk x y p q = rw (number_1, number_value [] x p, number_3 x, rounds_value (row (codes "number") x ∷ []) y q) refl

number_pass : (x y : Text) → IsPlainWord x → IsPlainWord y → walk_passes top [] (walk_from nothing_held) (codes "--number" ∷ x ∷ codes "--rounds" ∷ y ∷ []) ≡ true
number_pass x y p q =
    pass_on top [] _ _ (codes "--number") _ number_t1 number_1
    (pass_on top [] _ _ x _ (number_turn [] x p) (number_value [] x p)
    (pass_on top [] _ _ (codes "--rounds") _ (number_t3 x) (number_3 x)
    (pass_on top [] _ _ y _ (rounds_turn (row (codes "number") x ∷ []) y q) (rounds_value (row (codes "number") x ∷ []) y q)
    (pass_end top [] _))))

number_takes : (n x y : Text) → IsPlainWord x → IsPlainWord y → takes gen_app (n ∷ codes "--number" ∷ x ∷ codes "--rounds" ∷ y ∷ []) ≡ true
number_takes n x y p q = rw (number_walk x y p q, number_pass x y p q) refl

number_number : (n x y : Text) → IsPlainWord x → IsPlainWord y → first_of (codes "number") (matches_of gen_app (n ∷ codes "--number" ∷ x ∷ codes "--rounds" ∷ y ∷ [])) ≡ Some x
number_number n x y p q = rw (number_walk x y p q) refl

number_rounds : (n x y : Text) → IsPlainWord x → IsPlainWord y → first_of (codes "rounds") (matches_of gen_app (n ∷ codes "--number" ∷ x ∷ codes "--rounds" ∷ y ∷ [])) ≡ Some y
number_rounds n x y p q = rw (number_walk x y p q) refl

-- ---- --rounds, --number

rounds_1 : walked top.rules [] (walk_from nothing_held) (codes "--rounds") ≡ at_option [] (codes "rounds")
unfolding clap_on_literals
rounds_1 = refl

rounds_t1 : turn_passes top [] (walk_from nothing_held) (codes "--rounds") ≡ true
unfolding clap_on_literals
rounds_t1 = refl

rounds_3 : (x : Text) → walked top.rules [] (behind [] (codes "rounds") x) (codes "--number") ≡ at_option (row (codes "rounds") x ∷ []) (codes "number")
unfolding clap_on_literals
rounds_3 x = refl

rounds_t3 : (x : Text) → turn_passes top [] (behind [] (codes "rounds") x) (codes "--number") ≡ true
unfolding clap_on_literals
rounds_t3 x = refl

rounds_walk : (x y : Text) → IsPlainWord x → IsPlainWord y → walk top.rules [] nothing_held (codes "--rounds" ∷ x ∷ codes "--number" ∷ y ∷ []) ≡ behind (row (codes "rounds") x ∷ []) (codes "number") y
rounds_walk x y p q = rw (rounds_1, rounds_value [] x p, rounds_3 x, number_value (row (codes "rounds") x ∷ []) y q) refl

rounds_pass : (x y : Text) → IsPlainWord x → IsPlainWord y → walk_passes top [] (walk_from nothing_held) (codes "--rounds" ∷ x ∷ codes "--number" ∷ y ∷ []) ≡ true
rounds_pass x y p q =
    pass_on top [] _ _ (codes "--rounds") _ rounds_t1 rounds_1
    (pass_on top [] _ _ x _ (rounds_turn [] x p) (rounds_value [] x p)
    (pass_on top [] _ _ (codes "--number") _ (rounds_t3 x) (rounds_3 x)
    (pass_on top [] _ _ y _ (number_turn (row (codes "rounds") x ∷ []) y q) (number_value (row (codes "rounds") x ∷ []) y q)
    (pass_end top [] _))))

rounds_takes : (n x y : Text) → IsPlainWord x → IsPlainWord y → takes gen_app (n ∷ codes "--rounds" ∷ x ∷ codes "--number" ∷ y ∷ []) ≡ true
rounds_takes n x y p q = rw (rounds_walk x y p q, rounds_pass x y p q) refl

rounds_number : (n x y : Text) → IsPlainWord x → IsPlainWord y → first_of (codes "number") (matches_of gen_app (n ∷ codes "--rounds" ∷ x ∷ codes "--number" ∷ y ∷ [])) ≡ Some y
rounds_number n x y p q = rw (rounds_walk x y p q) refl

rounds_rounds : (n x y : Text) → IsPlainWord x → IsPlainWord y → first_of (codes "rounds") (matches_of gen_app (n ∷ codes "--rounds" ∷ x ∷ codes "--number" ∷ y ∷ [])) ≡ Some x
rounds_rounds n x y p q = rw (rounds_walk x y p q) refl

-- ---- either order

place : (a b o : Text) → is_among (a ∷ b ∷ []) o ≡ true → (a ≡ o) ⊎ (b ≡ o)
place a b o e = go (bytes_eq a o) (bytes_eq b o) refl refl e
  where
    go : (p q : Bool) → bytes_eq a o ≡ p → bytes_eq b o ≡ q → (p || (q || false)) ≡ true → (a ≡ o) ⊎ (b ≡ o)
    go true q ea eb e = inl ((bytes_eq-Decides a o).0 ea)
    go false true ea eb e = inr ((bytes_eq-Decides b o).0 eb)
    go false false ea eb e = absurd (let f : false ≡ true = e in cc)

-- the two options are told apart by their third bytes
apart : (t : Text) → t ≡ codes "--number" → t ≡ codes "--rounds" → ⊥
apart t e f = let g : 110 ≡ 114 = ap (λ (w : Text). slice_index_or w 2 0) (sym e ∙ f) in omega (arith, g)

module _ (P : Text → Text → Type 0) where
  by_places : (a b : Text) → P (codes "--number") (codes "--rounds") → P (codes "--rounds") (codes "--number")
      → (a ≡ codes "--number") ⊎ (b ≡ codes "--number") → (a ≡ codes "--rounds") ⊎ (b ≡ codes "--rounds") → P a b
  by_places a b p q (inl n) (inl r) = absurd (apart a n r)
  by_places a b p q (inl n) (inr r) = rw (n, r) p
  by_places a b p q (inr n) (inl r) = rw (n, r) q
  by_places a b p q (inr n) (inr r) = absurd (apart b n r)

  by_options : (a b : Text) → list_all (is_among (a ∷ b ∷ [])) gen_options ≡ true → P (codes "--number") (codes "--rounds") → P (codes "--rounds") (codes "--number") → P a b
  by_options a b all p q = by_places a b p q
      (place a b (codes "--number") (and_left _ _ all))
      (place a b (codes "--rounds") (and_left _ _ (and_right (is_among (a ∷ b ∷ []) (codes "--number")) _ all)))

-- five words have the form
record HasForm (first a second b : Text) : Type 0 where
  options : list_all (is_among (first ∷ second ∷ [])) gen_options ≡ true
  plain_a : IsPlainWord a
  plain_b : IsPlainWord b

form_of : (name first a second b : Text) → has_gen_form (name ∷ first ∷ a ∷ second ∷ b ∷ []) ≡ true → HasForm first a second b
form_of name first a second b e =
    let behind_name = and_right (bytes_eq name (codes "gen")) _ e in
    let values = and_right (list_all (is_among (first ∷ second ∷ [])) gen_options) _ behind_name in
    record {
      options = and_left _ _ behind_name;
      plain_a = plain_value a (and_left _ _ values);
      plain_b = plain_value b (and_right (is_value a) _ values);
    }

form_taken : (n a x b y : Text) → HasForm a x b y → takes gen_app (n ∷ a ∷ x ∷ b ∷ y ∷ []) ≡ true
form_taken n a x b y f =
    by_options (λ a b. takes gen_app (n ∷ a ∷ x ∷ b ∷ y ∷ []) ≡ true) a b f.options
    (number_takes n x y f.plain_a f.plain_b) (rounds_takes n x y f.plain_a f.plain_b)

form_number : (n a x b y : Text) → HasForm a x b y
    → first_of (codes "number") (matches_of gen_app (n ∷ a ∷ x ∷ b ∷ y ∷ [])) ≡ Some (value_of (codes "--number") (a ∷ x ∷ b ∷ y ∷ []))
form_number n a x b y f =
    by_options (λ a b. first_of (codes "number") (matches_of gen_app (n ∷ a ∷ x ∷ b ∷ y ∷ [])) ≡ Some (value_of (codes "--number") (a ∷ x ∷ b ∷ y ∷ []))) a b f.options
    (number_number n x y f.plain_a f.plain_b) (rounds_number n x y f.plain_a f.plain_b)

form_rounds : (n a x b y : Text) → HasForm a x b y
    → first_of (codes "rounds") (matches_of gen_app (n ∷ a ∷ x ∷ b ∷ y ∷ [])) ≡ Some (value_of (codes "--rounds") (a ∷ x ∷ b ∷ y ∷ []))
form_rounds n a x b y f =
    by_options (λ a b. first_of (codes "rounds") (matches_of gen_app (n ∷ a ∷ x ∷ b ∷ y ∷ [])) ≡ Some (value_of (codes "--rounds") (a ∷ x ∷ b ∷ y ∷ []))) a b f.options
    (number_rounds n x y f.plain_a f.plain_b) (rounds_rounds n x y f.plain_a f.plain_b)

-- ---- the same of any words

pub gen_taken : (words : List Text) → has_gen_form words ≡ true → takes gen_app words ≡ true
gen_taken [] e = short_form e
gen_taken (n ∷ []) e = short_form e
gen_taken (n ∷ a ∷ []) e = short_form e
gen_taken (n ∷ a ∷ x ∷ []) e = short_form e
gen_taken (n ∷ a ∷ x ∷ b ∷ []) e = short_form e
gen_taken (n ∷ a ∷ x ∷ b ∷ y ∷ []) e = form_taken n a x b y (form_of n a x b y e)
gen_taken (n ∷ a ∷ x ∷ b ∷ y ∷ w ∷ rest) e = short_form e

-- each option's value is found
record IsFound (words : List Text) : Type 0 where
  number : first_of (codes "number") (matches_of gen_app words) ≡ Some (gen_value (codes "--number") words)
  rounds : first_of (codes "rounds") (matches_of gen_app words) ≡ Some (gen_value (codes "--rounds") words)

is_found : (words : List Text) → has_gen_form words ≡ true → IsFound words
is_found [] e = short_form e
is_found (n ∷ []) e = short_form e
is_found (n ∷ a ∷ []) e = short_form e
is_found (n ∷ a ∷ x ∷ []) e = short_form e
is_found (n ∷ a ∷ x ∷ b ∷ []) e = short_form e
is_found (n ∷ a ∷ x ∷ b ∷ y ∷ []) e = let f = form_of n a x b y e in record { number = form_number n a x b y f; rounds = form_rounds n a x b y f }
is_found (n ∷ a ∷ x ∷ b ∷ y ∷ w ∷ rest) e = short_form e

-- and it is text
value_is_text : (option : Text) (words : List Text) → has_gen_form words ≡ true → list_all is_text words ≡ true → is_text (gen_value option words) ≡ true
value_is_text option [] form e = short_form form
value_is_text option (name ∷ words) form e = texts_from option words (and_right (is_text name) _ e)

-- ---- what a parse of the command found

module _ (words : List Text) (app : App) (m : ArgMatches) where
  value_found : (id value : Text) → app ≡ gen_app → HasMatchesOf app words m → first_of id (matches_of gen_app words) ≡ Some value → first_value (found_of m) id ≡ Some value
  value_found id value same h e = same_first (found_of m) id ∙ (ap (first_of id) ((h (ap is_simple same)).0 ∙ ap (λ a. matches_of a words) same) ∙ e)

  pub has_number : has_gen_form words ≡ true → list_all is_text words ≡ true → app ≡ gen_app → HasMatchesOf app words m → HasText m (codes "number")
  has_number form text same h = record { value = gen_value (codes "--number") words; found = value_found (codes "number") _ same h (is_found words form).number; text = value_is_text (codes "--number") words form text }

  pub has_rounds : has_gen_form words ≡ true → list_all is_text words ≡ true → app ≡ gen_app → HasMatchesOf app words m → HasText m (codes "rounds")
  has_rounds form text same h = record { value = gen_value (codes "--rounds") words; found = value_found (codes "rounds") _ same h (is_found words form).rounds; text = value_is_text (codes "--rounds") words form text }

  pub values_found : (number rounds : Text) → has_gen_form words ≡ true → app ≡ gen_app → HasMatchesOf app words m
      → first_value (found_of m) (codes "number") ≡ Some number → first_value (found_of m) (codes "rounds") ≡ Some rounds
      → (number ≡ gen_value (codes "--number") words) × (rounds ≡ gen_value (codes "--rounds") words)
  values_found number rounds form same h d k =
      let f = is_found words form in
      (out number _ (sym d ∙ value_found (codes "number") _ same h f.number), out rounds _ (sym k ∙ value_found (codes "rounds") _ same h f.rounds))
    where
      out : (a b : Text) → Some a ≡ Some b → a ≡ b
      out a b e = ap (λ (o : Option Text). unwrap_or o a) e
