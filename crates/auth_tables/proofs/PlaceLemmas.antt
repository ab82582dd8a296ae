-- The place of a user's line.
use Rattle.std.proofs.Common.{map, ◌≡◌, ◌≢◌, ℕ, zero, suc, ◌+◌, ◌<◌, List, [], ◌∷◌, ◌++◌, Bool, true, false, cond, length, get_or, set, Option, Some, None, arith, refl, sym, ap, subst, ◌∙◌, inl, inr}
use Rattle.std.specs.Prelude.{is_some, option_map}
use Rattle.std.specs.Map.{lookup, set_value}
use Rattle.std.specs.Str.{bytes_eq}
use Rattle.std.specs.Cmp.Lexicographic.{bytes_decides, nat_list_eq_equiv}
use Rattle.std.proofs.lemmas.Bool.{cases_Bool, cond-true, cond-false}
use Rattle.std.proofs.Math.ListN.{get_or-map}
use Rattle.std.proofs.lemmas.List.{length-map, map-append, map-set}
use Rattle.std.proofs.lemmas.List.Quantifiers.{all_pairs_push}
use Rattle.auth_tables.specs.Keys.{KeyLine, UserKey, key_of}
use Rattle.auth_tables.specs.Printing.{AreApart}
use Rattle.auth_tables.specs.Steps.{FindPlaces, place_of}

-- what stands at the place of a user's line
pub record IsPlaced (who : List ℕ) (lines : List KeyLine) (place : ℕ) : Type 0 where
  pub there : place < length lines
  pub key : (d : KeyLine) → key_of who lines ≡ Some (get_or lines place d).1
  pub user : (d : KeyLine) → (get_or lines place d).0 ≡ who

placed_step : (user : List ℕ) (line : KeyLine) (lines : List KeyLine) (b : Bool) (o : Option ℕ) (place : ℕ) → bytes_eq user line.0 ≡ b → ((n : ℕ) → o ≡ Some n → IsPlaced user lines n) → cond b (Some 0) (option_map (λ n. n + 1) o) ≡ Some place → IsPlaced user (line ∷ lines) place
placed_step user line lines true o zero is more e = record {
  there = omega arith;
  key = λ d. cond-true (bytes_eq user line.0) (Some line.1) (key_of user lines) is;
  user = λ d. sym ((bytes_decides user line.0).0 is);
}
placed_step user line lines true o (suc n) is more e = absurd cc
placed_step user line lines false None place is more e = absurd cc
placed_step user line lines false (Some n) zero is more e = absurd (let s : n + 1 ≡ 0 = cc in omega (arith, s))
placed_step user line lines false (Some n) (suc m) is more e =
    let s : n + 1 ≡ suc m = cc in
    let same : n ≡ m = omega (arith, s) in
    let p = more n refl in
    let lt = p.there in
    record {
      there = omega (arith, lt, same);
      key = λ d. cond-false (bytes_eq user line.0) (Some line.1) (key_of user lines) is ∙ (p.key d ∙ ap (λ (n : ℕ). Some (get_or lines n d).1) same);
      user = λ d. ap (λ (n : ℕ). (get_or lines n d).0) (sym same) ∙ p.user d;
    }

pub placed : (user : List ℕ) (lines : List KeyLine) (place : ℕ) → place_of user lines ≡ Some place → IsPlaced user lines place
placed user [] place e = absurd cc
placed user (line ∷ lines) place e = placed_step user line lines (bytes_eq user line.0) (place_of user lines) place refl (placed user lines) e

nowhere_step : {X : Type 0} (b : Bool) (o : Option ℕ) (key : X) (found : Option X) → cond b (Some 0) (option_map (λ (n : ℕ). n + 1) o) ≡ None → (o ≡ None → found ≡ None) → cond b (Some key) found ≡ None
nowhere_step true o key found e more = absurd cc
nowhere_step false None key found e more = more refl
nowhere_step false (Some n) key found e more = absurd cc

-- who has no line has no key
pub nowhere : (user : List ℕ) (lines : List KeyLine) → place_of user lines ≡ None → key_of user lines ≡ None
nowhere user [] e = refl
nowhere user (line ∷ lines) e = nowhere_step (bytes_eq user line.0) (place_of user lines) line.1 (key_of user lines) e (nowhere user lines)

-- ---- a line behind others

last_step : (b : Bool) (all some : Option ℕ) (n : ℕ) (last : Bool) → all ≡ cond (is_some some) some (cond last (Some n) None) → cond b (Some 0) (option_map (λ (n : ℕ). n + 1) all) ≡ cond (is_some (cond b (Some 0) (option_map (λ (n : ℕ). n + 1) some))) (cond b (Some 0) (option_map (λ (n : ℕ). n + 1) some)) (cond last (Some (n + 1)) None)
last_step true all some n last h = refl
last_step false all None n true h = ap (option_map (λ (n : ℕ). n + 1)) h
last_step false all None n false h = ap (option_map (λ (n : ℕ). n + 1)) h
last_step false all (Some m) n last h = ap (option_map (λ (n : ℕ). n + 1)) h

last_placed : (other user : List ℕ) (key : UserKey) (lines : List KeyLine) → place_of other (lines ++ (user, key) ∷ []) ≡ cond (is_some (place_of other lines)) (place_of other lines) (cond (bytes_eq other user) (Some (length lines)) None)
last_placed other user key [] = by_test (bytes_eq other user)
  where
    by_test : (b : Bool) → cond b (Some 0) (option_map (λ (n : ℕ). n + 1) None) ≡ cond b (Some 0) None
    by_test true = refl
    by_test false = refl
last_placed other user key (line ∷ lines) =
    last_step (bytes_eq other line.0) (place_of other (lines ++ (user, key) ∷ [])) (place_of other lines) (length lines) (bytes_eq other user) (last_placed other user key lines)
    ∙ ap (λ (n : ℕ). cond (is_some (place_of other (line ∷ lines))) (place_of other (line ∷ lines)) (cond (bytes_eq other user) (Some n) None)) (let e : length lines + 1 ≡ suc (length lines) = omega arith in e)

placed_key : (user : List ℕ) (lines : List KeyLine) → key_of user lines ≡ None → place_of user lines ≡ None
placed_key user lines e = by_place (place_of user lines) refl
  where
    by_place : (o : Option ℕ) → place_of user lines ≡ o → place_of user lines ≡ None
    by_place None h = h
    by_place (Some n) h = absurd (let d : KeyLine = (user, record { des = []; password = None }) in let s : None ≡ Some (get_or lines n d).1 = sym e ∙ (placed user lines n h).key d in cc)

-- the map finds it there
pub put_places : (user : List ℕ) (key : UserKey) (lines : List KeyLine) (old new : List (List ℕ × ℕ)) (place : ℕ) → key_of user lines ≡ None → place ≡ length lines → FindPlaces lines old
    → ((other : List ℕ) → lookup (bytes_eq other) new ≡ cond (bytes_eq user other) (Some place) (lookup (bytes_eq other) old))
    → FindPlaces (lines ++ (user, key) ∷ []) new
put_places user key lines old new place none is finds put other = elim (cases_Bool (bytes_eq user other)) [
  | inl y ↦
      let same = (bytes_decides user other).0 y in
      let no_place : place_of other lines ≡ None = subst (λ (u : List ℕ). place_of u lines ≡ None) same (placed_key user lines none) in
      put other
      ∙ (cond-true (bytes_eq user other) (Some place) (lookup (bytes_eq other) old) y
      ∙ (ap Some is
      ∙ sym (last_placed other user key lines ∙ rw no_place (cond-true (bytes_eq other user) (Some (length lines)) None (sym (nat_list_eq_equiv.symm user other) ∙ y)))))
  | inr n ↦
      put other
      ∙ (cond-false (bytes_eq user other) (Some place) (lookup (bytes_eq other) old) n
      ∙ (finds other
      ∙ sym (last_placed other user key lines ∙ (ap (λ (b : Bool). cond (is_some (place_of other lines)) (place_of other lines) (cond b (Some (length lines)) None)) (nat_list_eq_equiv.symm other user ∙ n) ∙ kept (place_of other lines)))))
]
  where
    kept : (o : Option ℕ) → cond (is_some o) o None ≡ o
    kept None = refl
    kept (Some n) = refl

not_found : (b : Bool) (key : UserKey) (found : Option UserKey) → cond b (Some key) found ≡ None → found ≡ None
not_found true key found h = absurd cc
not_found false key found h = h

others_differ : (user : List ℕ) (lines : List KeyLine) (k : ℕ) (d : KeyLine) → key_of user lines ≡ None → k < length lines → (get_or lines k d).0 ≢ user
others_differ user [] k d none lt same = absurd (omega (arith, lt))
others_differ user (line ∷ lines) zero d none lt same = let s : Some line.1 ≡ None = sym (cond-true (bytes_eq user line.0) (Some line.1) (key_of user lines) ((bytes_decides user line.0).1 (sym same))) ∙ none in cc
others_differ user (line ∷ lines) (suc k) d none lt same = others_differ user lines k d (not_found (bytes_eq user line.0) line.1 (key_of user lines) none) (omega (arith, lt)) same

-- whose user is apart from the others
pub put_apart : (user : List ℕ) (key : UserKey) (lines : List KeyLine) → key_of user lines ≡ None → AreApart lines → AreApart (lines ++ (user, key) ∷ [])
put_apart user key lines none apart = all_pairs_push (λ (line : KeyLine) (other : KeyLine). line.0 ≢ other.0) lines (user, key) apart (λ k d lt. others_differ user lines k d none lt)

-- ---- lines as they are kept

module _ {L : Type 0} (view : L → KeyLine) (user : List ℕ) (items : List L) (lines : List KeyLine) (place : ℕ) (is : map view items ≡ lines) (at : Some place ≡ place_of user lines) where
  here : IsPlaced user lines place
  here = placed user lines place (sym at)

  pub is_there : place < length items
  is_there = let lt = here.there in let len : length items ≡ length lines = sym (length-map items view) ∙ ap length is in omega (arith, lt, len)

  pub line_key : (line : L) → line ≡ get_or items place line → Some (view line).1 ≡ key_of user lines
  line_key line e = sym (here.key (view line) ∙ ap (λ (l : KeyLine). Some l.1) (ap (λ (ls : List KeyLine). get_or ls place (view line)) (sym is) ∙ (get_or-map view items place line ∙ ap view (sym e))))

pub key_of_none : (user : List ℕ) (lines : List KeyLine) (found : Option ℕ) → found ≡ place_of user lines → found ≡ None → None ≡ key_of user lines
key_of_none user lines found is none = sym (nowhere user lines (sym is ∙ none))

-- a line is put behind the others
pub put_line : {L : Type 0} (view : L → KeyLine) (line : L) (old new : List L) (name : List ℕ) (before after : List (List ℕ × ℕ)) (place : ℕ) (lines : List KeyLine) → map view old ≡ lines → key_of (view line).0 lines ≡ None
    → new ≡ old ++ line ∷ [] → name ≡ (view line).0 → place ≡ length old → FindPlaces (map view old) before
    → ((other : List ℕ) → lookup (bytes_eq other) after ≡ cond (bytes_eq name other) (Some place) (lookup (bytes_eq other) before))
    → FindPlaces (map view new) after
put_line view line old new name before after place lines is none items named at finds put =
    subst (λ (ls : List KeyLine). FindPlaces ls after) (sym (ap (map view) items ∙ map-append view old (line ∷ [])))
    (put_places (view line).0 (view line).1 (map view old) before after place (ap (key_of (view line).0) is ∙ none) (at ∙ sym (length-map old view)) finds
    (λ other. put other ∙ ap (λ (n : List ℕ). cond (bytes_eq n other) (Some place) (lookup (bytes_eq other) before)) named))

-- a key is set where it stands
set_step : (user : List ℕ) (line : KeyLine) (lines : List KeyLine) (key : UserKey) (b : Bool) (o : Option ℕ) (place : ℕ) → ((n : ℕ) → o ≡ Some n → (d : KeyLine) → set lines n ((get_or lines n d).0, key) ≡ set_value (bytes_eq user) lines key) → cond b (Some 0) (option_map (λ (n : ℕ). n + 1) o) ≡ Some place
    → (d : KeyLine) → set (line ∷ lines) place ((get_or (line ∷ lines) place d).0, key) ≡ cond b ((line.0, key) ∷ lines) (line ∷ set_value (bytes_eq user) lines key)
set_step user line lines key true o zero more e d = refl
set_step user line lines key true o (suc n) more e d = absurd cc
set_step user line lines key false None place more e d = absurd cc
set_step user line lines key false (Some n) zero more e d = absurd (let s : n + 1 ≡ 0 = cc in omega (arith, s))
set_step user line lines key false (Some n) (suc m) more e d = let s : n + 1 ≡ suc m = cc in let same : m ≡ n = omega (arith, s) in ap (λ (ls : List KeyLine). line ∷ ls) (ap (λ (n : ℕ). set lines n ((get_or lines n d).0, key)) same ∙ more n refl d)

set_there : (user : List ℕ) (lines : List KeyLine) (key : UserKey) (place : ℕ) → place_of user lines ≡ Some place → (d : KeyLine) → set lines place ((get_or lines place d).0, key) ≡ set_value (bytes_eq user) lines key
set_there user [] key place e d = absurd cc
set_there user (line ∷ lines) key place e d = set_step user line lines key (bytes_eq user line.0) (place_of user lines) place (λ n e d. set_there user lines key n e d) e d

-- which changes no place
users_set : (other user : List ℕ) (key : UserKey) (lines : List KeyLine) → place_of other (set_value (bytes_eq user) lines key) ≡ place_of other lines
users_set other user key [] = refl
users_set other user key (line ∷ lines) = by_test (bytes_eq user line.0) (users_set other user key lines)
  where
    by_test : (b : Bool) → place_of other (set_value (bytes_eq user) lines key) ≡ place_of other lines → place_of other (cond b ((line.0, key) ∷ lines) (line ∷ set_value (bytes_eq user) lines key)) ≡ place_of other (line ∷ lines)
    by_test true h = refl
    by_test false h = ap (λ (o : Option ℕ). cond (bytes_eq other line.0) (Some 0) (option_map (λ (n : ℕ). n + 1) o)) h

module _ {L : Type 0} (view : L → KeyLine) (user : List ℕ) (items : List L) (lines : List KeyLine) (place : ℕ) (is : map view items ≡ lines) (at : Some place ≡ place_of user lines) (old new : L) (key : UserKey) (stands : old ≡ get_or items place old) (same : (view new).0 ≡ (view old).0) (put : (view new).1 ≡ key) where
  pub key_set : map view (set items place new) ≡ set_value (bytes_eq user) lines key
  key_set =
      map-set view items place new
      ∙ (ap (λ (ls : List KeyLine). set ls place (view new)) is
      ∙ (ap (set lines place) seen
      ∙ set_there user lines key place (sym at) (view old)))
    where
      kept : get_or lines place (view old) ≡ view old
      kept = ap (λ (ls : List KeyLine). get_or ls place (view old)) (sym is) ∙ (get_or-map view items place old ∙ ap view (sym stands))

      seen : view new ≡ ((get_or lines place (view old)).0, key)
      seen = ap (λ (u : List ℕ). let line : KeyLine = (u, (view new).1) in line) (same ∙ ap (λ (l : KeyLine). l.0) (sym kept)) ∙ ap (λ (k : UserKey). let line : KeyLine = ((get_or lines place (view old)).0, k) in line) put

  pub set_places : (places : List (List ℕ × ℕ)) → FindPlaces (map view items) places → FindPlaces (map view (set items place new)) places
  set_places places finds other = finds other ∙ (ap (place_of other) is ∙ sym (ap (place_of other) key_set ∙ users_set other user key lines))

  pub was_there : true ≡ is_some (key_of user lines)
  was_there = ap is_some (sym (sym (line_key view user items lines place is at old stands)))
