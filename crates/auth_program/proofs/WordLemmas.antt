-- Words of the form of `authsrv` are taken by clap, which finds the value behind each option.
use Rattle.std.proofs.Common.{◌≡◌, ◌⊎◌, ◌∙◌, ◌==◌, ◌&&◌, ◌||◌, List, [], ◌∷◌, Bool, true, false, not, refl, ap, sym, codes, length, map, find, inl, inr, arith, Option, Some, option_map}
use Rattle.std.specs.Prelude.{option_and_then, slice_get, unwrap_or}
use Rattle.std.specs.Borrow.{Bor}
use Rattle.std.specs.List.{list_all, list_any}
use Rattle.std.specs.Str.{bytes_eq, chars, IsUtf8, is_utf8}
use Rattle.std.proofs.lemmas.Slice.Eq.{bytes_eq-Decides}
use Rattle.std.proofs.lemmas.Str.{IsUtf8-from_is_utf8}
use Rattle.wire_base.specs.Texts.{is_text}
use Rattle.clap.specs.Facts.{Entry}
use Rattle.clap.specs.Walk.{row_of, texts}
use Rattle.clap.specs.Words.{App, HasMatchesOf, Text, first_of, first_value, found_of, is_simple, matches_of, rows_of, takes}
use Rattle.clap.specs.declared.parser.matches.ArgMatches.{ArgMatches}
use Rattle.clap.specs.declared.parser.matches.Found.{Found}
use Rattle.auth_program.specs.Words.{authsrv_options, authsrv_value, has_authsrv_form, is_among, is_value, value_of}
use Rattle.auth_program.specs.Reading.{HasText, authsrv_app}
use Rattle.auth_program.proofs.ClapLemmas.{IsPlainWord, plain, dom_keys_speaks_takes, dom_keys_speaks_dom, dom_keys_speaks_keys, dom_keys_speaks_speaks, dom_speaks_keys_takes, dom_speaks_keys_dom, dom_speaks_keys_keys, dom_speaks_keys_speaks, keys_dom_speaks_takes, keys_dom_speaks_dom, keys_dom_speaks_keys, keys_dom_speaks_speaks, keys_speaks_dom_takes, keys_speaks_dom_dom, keys_speaks_dom_keys, keys_speaks_dom_speaks, speaks_dom_keys_takes, speaks_dom_keys_dom, speaks_dom_keys_keys, speaks_dom_keys_speaks, speaks_keys_dom_takes, speaks_keys_dom_dom, speaks_keys_dom_keys, speaks_keys_dom_speaks}

-- ---- the form

pub and_left : (a b : Bool) → (a && b) ≡ true → a ≡ true
and_left true b e = refl
and_left false b e = e

pub and_right : (a b : Bool) → (a && b) ≡ true → b ≡ true
and_right true b e = e
and_right false b e = absurd (let f : false ≡ true = e in cc)

pub plain_value : (word : Text) → is_value word ≡ true → IsPlainWord word
plain_value [] e = absurd (let f : false ≡ true = e in cc)
plain_value (x ∷ t) e = plain x t (hyphen (x == 45) e)
  where
    hyphen : (b : Bool) → not b ≡ true → b ≡ false
    hyphen true e = sym e
    hyphen false e = refl

place : (a b c o : Text) → is_among (a ∷ b ∷ c ∷ []) o ≡ true → (a ≡ o) ⊎ ((b ≡ o) ⊎ (c ≡ o))
place a b c o e = go (bytes_eq a o) (bytes_eq b o) (bytes_eq c o) refl refl refl e
  where
    go : (p q r : Bool) → bytes_eq a o ≡ p → bytes_eq b o ≡ q → bytes_eq c o ≡ r → (p || (q || (r || false))) ≡ true → (a ≡ o) ⊎ ((b ≡ o) ⊎ (c ≡ o))
    go true q r ea eb ec e = inl ((bytes_eq-Decides a o).0 ea)
    go false true r ea eb ec e = inr (inl ((bytes_eq-Decides b o).0 eb))
    go false false true ea eb ec e = inr (inr ((bytes_eq-Decides c o).0 ec))
    go false false false ea eb ec e = absurd (let f : false ≡ true = e in cc)

clash : (t u w : Text) → t ≡ u → t ≡ w → (length u ≡ length w → ⊥) → ⊥
clash t u w e f no_way = no_way (ap length (sym e ∙ f))

-- what holds in each order of the options holds
module _ (P : Text → Text → Text → Type 0) where
  by_places : (a b c : Text) → P (codes "--dom") (codes "--keys") (codes "--speaks") → P (codes "--dom") (codes "--speaks") (codes "--keys")
      → P (codes "--keys") (codes "--dom") (codes "--speaks") → P (codes "--keys") (codes "--speaks") (codes "--dom")
      → P (codes "--speaks") (codes "--dom") (codes "--keys") → P (codes "--speaks") (codes "--keys") (codes "--dom")
      → (a ≡ codes "--dom") ⊎ ((b ≡ codes "--dom") ⊎ (c ≡ codes "--dom")) → (a ≡ codes "--keys") ⊎ ((b ≡ codes "--keys") ⊎ (c ≡ codes "--keys"))
      → (a ≡ codes "--speaks") ⊎ ((b ≡ codes "--speaks") ⊎ (c ≡ codes "--speaks")) → P a b c
  by_places a b c p1 p2 p3 p4 p5 p6 (inl d) (inl k) s = absurd (clash a _ _ d k (λ e. omega (arith, e)))
  by_places a b c p1 p2 p3 p4 p5 p6 (inl d) (inr (inl k)) (inl s) = absurd (clash a _ _ d s (λ e. omega (arith, e)))
  by_places a b c p1 p2 p3 p4 p5 p6 (inl d) (inr (inl k)) (inr (inl s)) = absurd (clash b _ _ k s (λ e. omega (arith, e)))
  by_places a b c p1 p2 p3 p4 p5 p6 (inl d) (inr (inl k)) (inr (inr s)) = rw (d, k, s) p1
  by_places a b c p1 p2 p3 p4 p5 p6 (inl d) (inr (inr k)) (inl s) = absurd (clash a _ _ d s (λ e. omega (arith, e)))
  by_places a b c p1 p2 p3 p4 p5 p6 (inl d) (inr (inr k)) (inr (inl s)) = rw (d, s, k) p2
  by_places a b c p1 p2 p3 p4 p5 p6 (inl d) (inr (inr k)) (inr (inr s)) = absurd (clash c _ _ k s (λ e. omega (arith, e)))
  by_places a b c p1 p2 p3 p4 p5 p6 (inr (inl d)) (inl k) (inl s) = absurd (clash a _ _ k s (λ e. omega (arith, e)))
  by_places a b c p1 p2 p3 p4 p5 p6 (inr (inl d)) (inl k) (inr (inl s)) = absurd (clash b _ _ d s (λ e. omega (arith, e)))
  by_places a b c p1 p2 p3 p4 p5 p6 (inr (inl d)) (inl k) (inr (inr s)) = rw (k, d, s) p3
  by_places a b c p1 p2 p3 p4 p5 p6 (inr (inl d)) (inr (inl k)) s = absurd (clash b _ _ d k (λ e. omega (arith, e)))
  by_places a b c p1 p2 p3 p4 p5 p6 (inr (inl d)) (inr (inr k)) (inl s) = rw (s, d, k) p5
  by_places a b c p1 p2 p3 p4 p5 p6 (inr (inl d)) (inr (inr k)) (inr (inl s)) = absurd (clash b _ _ d s (λ e. omega (arith, e)))
  by_places a b c p1 p2 p3 p4 p5 p6 (inr (inl d)) (inr (inr k)) (inr (inr s)) = absurd (clash c _ _ k s (λ e. omega (arith, e)))
  by_places a b c p1 p2 p3 p4 p5 p6 (inr (inr d)) (inl k) (inl s) = absurd (clash a _ _ k s (λ e. omega (arith, e)))
  by_places a b c p1 p2 p3 p4 p5 p6 (inr (inr d)) (inl k) (inr (inl s)) = rw (k, s, d) p4
  by_places a b c p1 p2 p3 p4 p5 p6 (inr (inr d)) (inl k) (inr (inr s)) = absurd (clash c _ _ d s (λ e. omega (arith, e)))
  by_places a b c p1 p2 p3 p4 p5 p6 (inr (inr d)) (inr (inl k)) (inl s) = rw (s, k, d) p6
  by_places a b c p1 p2 p3 p4 p5 p6 (inr (inr d)) (inr (inl k)) (inr (inl s)) = absurd (clash b _ _ k s (λ e. omega (arith, e)))
  by_places a b c p1 p2 p3 p4 p5 p6 (inr (inr d)) (inr (inl k)) (inr (inr s)) = absurd (clash c _ _ d s (λ e. omega (arith, e)))
  by_places a b c p1 p2 p3 p4 p5 p6 (inr (inr d)) (inr (inr k)) s = absurd (clash c _ _ d k (λ e. omega (arith, e)))

-- seven words have the form
pub record HasForm (first a second b third c : Text) : Type 0 where
  pub options : list_all (is_among (first ∷ second ∷ third ∷ [])) authsrv_options ≡ true
  pub plain_a : IsPlainWord a
  pub plain_b : IsPlainWord b
  pub plain_c : IsPlainWord c

pub form_of : (name first a second b third c : Text) → has_authsrv_form (name ∷ first ∷ a ∷ second ∷ b ∷ third ∷ c ∷ []) ≡ true → HasForm first a second b third c
form_of name first a second b third c e =
    let behind_name = and_right (bytes_eq name (codes "authsrv")) _ e in
    let values = and_right (list_all (is_among (first ∷ second ∷ third ∷ [])) authsrv_options) _ behind_name in
    record {
      options = and_left _ _ behind_name;
      plain_a = plain_value a (and_left _ _ values);
      plain_b = plain_value b (and_left _ _ (and_right (is_value a) _ values));
      plain_c = plain_value c (and_right (is_value b) _ (and_right (is_value a) _ values));
    }

module _ (P : Text → Text → Text → Type 0) where
  by_options : (a b c : Text) → list_all (is_among (a ∷ b ∷ c ∷ [])) authsrv_options ≡ true
      → P (codes "--dom") (codes "--keys") (codes "--speaks") → P (codes "--dom") (codes "--speaks") (codes "--keys")
      → P (codes "--keys") (codes "--dom") (codes "--speaks") → P (codes "--keys") (codes "--speaks") (codes "--dom")
      → P (codes "--speaks") (codes "--dom") (codes "--keys") → P (codes "--speaks") (codes "--keys") (codes "--dom") → P a b c
  by_options a b c all p1 p2 p3 p4 p5 p6 =
      let rest = and_right (is_among (a ∷ b ∷ c ∷ []) (codes "--dom")) _ all in
      by_places P a b c p1 p2 p3 p4 p5 p6
      (place a b c (codes "--dom") (and_left _ _ all))
      (place a b c (codes "--keys") (and_left _ _ rest))
      (place a b c (codes "--speaks") (and_left _ _ (and_right (is_among (a ∷ b ∷ c ∷ []) (codes "--keys")) _ rest)))

-- ---- what clap makes of them

pub form_taken : (n a x b y c z : Text) → HasForm a x b y c z → takes authsrv_app (n ∷ a ∷ x ∷ b ∷ y ∷ c ∷ z ∷ []) ≡ true
form_taken n a x b y c z f =
    let p = f.plain_a in let q = f.plain_b in let r = f.plain_c in
    by_options (λ a b c. takes authsrv_app (n ∷ a ∷ x ∷ b ∷ y ∷ c ∷ z ∷ []) ≡ true) a b c f.options
    (dom_keys_speaks_takes n x y z p q r) (dom_speaks_keys_takes n x y z p q r) (keys_dom_speaks_takes n x y z p q r)
    (keys_speaks_dom_takes n x y z p q r) (speaks_dom_keys_takes n x y z p q r) (speaks_keys_dom_takes n x y z p q r)

pub found_dom : (n a x b y c z : Text) → HasForm a x b y c z
    → first_of (codes "dom") (matches_of authsrv_app (n ∷ a ∷ x ∷ b ∷ y ∷ c ∷ z ∷ [])) ≡ Some (value_of (codes "--dom") (a ∷ x ∷ b ∷ y ∷ c ∷ z ∷ []))
found_dom n a x b y c z f =
    let p = f.plain_a in let q = f.plain_b in let r = f.plain_c in
    by_options (λ a b c. first_of (codes "dom") (matches_of authsrv_app (n ∷ a ∷ x ∷ b ∷ y ∷ c ∷ z ∷ [])) ≡ Some (value_of (codes "--dom") (a ∷ x ∷ b ∷ y ∷ c ∷ z ∷ []))) a b c f.options
    (dom_keys_speaks_dom n x y z p q r) (dom_speaks_keys_dom n x y z p q r) (keys_dom_speaks_dom n x y z p q r)
    (keys_speaks_dom_dom n x y z p q r) (speaks_dom_keys_dom n x y z p q r) (speaks_keys_dom_dom n x y z p q r)

pub found_keys : (n a x b y c z : Text) → HasForm a x b y c z
    → first_of (codes "keys") (matches_of authsrv_app (n ∷ a ∷ x ∷ b ∷ y ∷ c ∷ z ∷ [])) ≡ Some (value_of (codes "--keys") (a ∷ x ∷ b ∷ y ∷ c ∷ z ∷ []))
found_keys n a x b y c z f =
    let p = f.plain_a in let q = f.plain_b in let r = f.plain_c in
    by_options (λ a b c. first_of (codes "keys") (matches_of authsrv_app (n ∷ a ∷ x ∷ b ∷ y ∷ c ∷ z ∷ [])) ≡ Some (value_of (codes "--keys") (a ∷ x ∷ b ∷ y ∷ c ∷ z ∷ []))) a b c f.options
    (dom_keys_speaks_keys n x y z p q r) (dom_speaks_keys_keys n x y z p q r) (keys_dom_speaks_keys n x y z p q r)
    (keys_speaks_dom_keys n x y z p q r) (speaks_dom_keys_keys n x y z p q r) (speaks_keys_dom_keys n x y z p q r)

pub found_speaks : (n a x b y c z : Text) → HasForm a x b y c z
    → first_of (codes "speaks") (matches_of authsrv_app (n ∷ a ∷ x ∷ b ∷ y ∷ c ∷ z ∷ [])) ≡ Some (value_of (codes "--speaks") (a ∷ x ∷ b ∷ y ∷ c ∷ z ∷ []))
found_speaks n a x b y c z f =
    let p = f.plain_a in let q = f.plain_b in let r = f.plain_c in
    by_options (λ a b c. first_of (codes "speaks") (matches_of authsrv_app (n ∷ a ∷ x ∷ b ∷ y ∷ c ∷ z ∷ [])) ≡ Some (value_of (codes "--speaks") (a ∷ x ∷ b ∷ y ∷ c ∷ z ∷ []))) a b c f.options
    (dom_keys_speaks_speaks n x y z p q r) (dom_speaks_keys_speaks n x y z p q r) (keys_dom_speaks_speaks n x y z p q r)
    (keys_speaks_dom_speaks n x y z p q r) (speaks_dom_keys_speaks n x y z p q r) (speaks_keys_dom_speaks n x y z p q r)

-- ---- the value of an id in what was found

pub same_first : (f : Found) (id : Text) → first_value f id ≡ first_of id (rows_of f)
same_first f id = go f.entries.items
  where
    heads : (vs : List (Bor Text)) → option_map (λ (s : Bor Text). s.now) (slice_get vs 0) ≡ slice_get (texts vs) 0
    heads [] = refl
    heads (v ∷ vs) = refl

    at_head : (e : Entry) (es : List Entry) (b : Bool) → bytes_eq e.0.now id ≡ b
        → option_and_then (λ a. option_map (λ s. s.now) (slice_get a.vals.items 0)) (option_map (λ e. e.1) (find (λ e. bytes_eq e.0.now id) es))
        ≡ option_and_then (λ r. slice_get r.values 0) (find (λ r. bytes_eq r.id id) (map row_of es))
        → option_and_then (λ a. option_map (λ s. s.now) (slice_get a.vals.items 0)) (option_map (λ e. e.1) (find (λ e. bytes_eq e.0.now id) (e ∷ es)))
        ≡ option_and_then (λ r. slice_get r.values 0) (find (λ r. bytes_eq r.id id) (map row_of (e ∷ es)))
    at_head e es true h rest = rw h (heads e.1.vals.items)
    at_head e es false h rest = rw h rest

    go : (es : List Entry) → option_and_then (λ a. option_map (λ s. s.now) (slice_get a.vals.items 0)) (option_map (λ e. e.1) (find (λ e. bytes_eq e.0.now id) es))
        ≡ option_and_then (λ r. slice_get r.values 0) (find (λ r. bytes_eq r.id id) (map row_of es))
    go [] = refl
    go (e ∷ es) = at_head e es (bytes_eq e.0.now id) refl (go es)

-- ---- text

empty_text : is_text [] ≡ true
unfolding is_text is_utf8 chars
empty_text = refl

pub text_is_utf8 : (bytes : Text) → is_text bytes ≡ true → IsUtf8 bytes
unfolding is_text
text_is_utf8 bytes e = IsUtf8-from_is_utf8 bytes (and_right (not (list_any (λ b. b == 0) bytes)) _ e)

-- ---- the same of any words

pub short_form : {X : Type 0} → false ≡ true → X
short_form e = absurd (let f : false ≡ true = e in cc)

pub taken_by_clap : (words : List Text) → has_authsrv_form words ≡ true → takes authsrv_app words ≡ true
taken_by_clap [] e = short_form e
taken_by_clap (n ∷ []) e = short_form e
taken_by_clap (n ∷ a ∷ []) e = short_form e
taken_by_clap (n ∷ a ∷ x ∷ []) e = short_form e
taken_by_clap (n ∷ a ∷ x ∷ b ∷ []) e = short_form e
taken_by_clap (n ∷ a ∷ x ∷ b ∷ y ∷ []) e = short_form e
taken_by_clap (n ∷ a ∷ x ∷ b ∷ y ∷ c ∷ []) e = short_form e
taken_by_clap (n ∷ a ∷ x ∷ b ∷ y ∷ c ∷ z ∷ []) e = form_taken n a x b y c z (form_of n a x b y c z e)
taken_by_clap (n ∷ a ∷ x ∷ b ∷ y ∷ c ∷ z ∷ w ∷ rest) e = short_form e

-- each option's value is found, and it is text
pub record IsFound (words : List Text) : Type 0 where
  pub dom : first_of (codes "dom") (matches_of authsrv_app words) ≡ Some (authsrv_value (codes "--dom") words)
  pub keys : first_of (codes "keys") (matches_of authsrv_app words) ≡ Some (authsrv_value (codes "--keys") words)
  pub speaks : first_of (codes "speaks") (matches_of authsrv_app words) ≡ Some (authsrv_value (codes "--speaks") words)

pub found_by_clap : (words : List Text) → has_authsrv_form words ≡ true → IsFound words
found_by_clap [] e = short_form e
found_by_clap (n ∷ []) e = short_form e
found_by_clap (n ∷ a ∷ []) e = short_form e
found_by_clap (n ∷ a ∷ x ∷ []) e = short_form e
found_by_clap (n ∷ a ∷ x ∷ b ∷ []) e = short_form e
found_by_clap (n ∷ a ∷ x ∷ b ∷ y ∷ []) e = short_form e
found_by_clap (n ∷ a ∷ x ∷ b ∷ y ∷ c ∷ []) e = short_form e
found_by_clap (n ∷ a ∷ x ∷ b ∷ y ∷ c ∷ z ∷ []) e =
    let f = form_of n a x b y c z e in
    record { dom = found_dom n a x b y c z f; keys = found_keys n a x b y c z f; speaks = found_speaks n a x b y c z f }
found_by_clap (n ∷ a ∷ x ∷ b ∷ y ∷ c ∷ z ∷ w ∷ rest) e = short_form e

pub texts_from : (option : Text) (words : List Text) → list_all is_text words ≡ true → is_text (value_of option words) ≡ true
texts_from option [] e = empty_text
texts_from option (name ∷ []) e = empty_text
texts_from option (name ∷ value ∷ rest) e =
    let behind = and_right (is_text name) _ e in
    at_pair (bytes_eq name option) refl (and_left _ _ behind) (texts_from option rest (and_right (is_text value) _ behind))
  where
    at_pair : (b : Bool) → bytes_eq name option ≡ b → is_text value ≡ true → is_text (value_of option rest) ≡ true → is_text (value_of option (name ∷ value ∷ rest)) ≡ true
    at_pair true h p q = rw h p
    at_pair false h p q = rw h q

pub authsrv_text : (option : Text) (words : List Text) → list_all is_text words ≡ true → is_text (authsrv_value option words) ≡ true
authsrv_text option [] e = empty_text
authsrv_text option (name ∷ words) e = texts_from option words (and_right (is_text name) _ e)

-- ---- what a parse of the command found

module _ (words : List Text) (app : App) (m : ArgMatches) where
  pub rows_found : app ≡ authsrv_app → HasMatchesOf app words m → rows_of (found_of m) ≡ matches_of authsrv_app words
  rows_found same h = (h (ap is_simple same)).0 ∙ ap (λ a. matches_of a words) same

  pub value_found : (id value : Text) → app ≡ authsrv_app → HasMatchesOf app words m → first_of id (matches_of authsrv_app words) ≡ Some value → first_value (found_of m) id ≡ Some value
  value_found id value same h e = same_first (found_of m) id ∙ (ap (first_of id) (rows_found same h) ∙ e)

  pub has_dom : has_authsrv_form words ≡ true → list_all is_text words ≡ true → app ≡ authsrv_app → HasMatchesOf app words m → HasText m (codes "dom")
  has_dom form text same h = record { value = authsrv_value (codes "--dom") words; found = value_found (codes "dom") _ same h (found_by_clap words form).dom; text = authsrv_text (codes "--dom") words text }

  pub has_keys : has_authsrv_form words ≡ true → list_all is_text words ≡ true → app ≡ authsrv_app → HasMatchesOf app words m → HasText m (codes "keys")
  has_keys form text same h = record { value = authsrv_value (codes "--keys") words; found = value_found (codes "keys") _ same h (found_by_clap words form).keys; text = authsrv_text (codes "--keys") words text }

  pub has_speaks : has_authsrv_form words ≡ true → list_all is_text words ≡ true → app ≡ authsrv_app → HasMatchesOf app words m → HasText m (codes "speaks")
  has_speaks form text same h = record { value = authsrv_value (codes "--speaks") words; found = value_found (codes "speaks") _ same h (found_by_clap words form).speaks; text = authsrv_text (codes "--speaks") words text }

  pub values_found : (dom keys speaks : Text) → has_authsrv_form words ≡ true → app ≡ authsrv_app → HasMatchesOf app words m
      → first_value (found_of m) (codes "dom") ≡ Some dom → first_value (found_of m) (codes "keys") ≡ Some keys → first_value (found_of m) (codes "speaks") ≡ Some speaks
      → (dom ≡ authsrv_value (codes "--dom") words) × (keys ≡ authsrv_value (codes "--keys") words) × (speaks ≡ authsrv_value (codes "--speaks") words)
  values_found dom keys speaks form same h d k s =
      let f = found_by_clap words form in
      (out dom _ (sym d ∙ value_found (codes "dom") _ same h f.dom), out keys _ (sym k ∙ value_found (codes "keys") _ same h f.keys), out speaks _ (sym s ∙ value_found (codes "speaks") _ same h f.speaks))
    where
      out : (a b : Text) → Some a ≡ Some b → a ≡ b
      out a b e = ap (λ (o : Option Text). unwrap_or o a) e
