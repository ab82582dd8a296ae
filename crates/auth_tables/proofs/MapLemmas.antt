-- Maps of std whose keys are lists of bytes, looked up by bytes.
use Rattle.std.proofs.Common.{◌≡◌, ℕ, List, [], ◌∷◌, Bool, true, false, cond, Option, Some, refl, sym, ap, subst, ◌∙◌, inl, inr}
use Rattle.std.specs.Prelude.{map}
use Rattle.std.specs.Ordering.{is_eq, nat_cmp, eq_by_cmp}
use Rattle.std.specs.declared.cmp.Ordering.{Ordering}
use Rattle.std.specs.Cmp.{eq_by_cmp_equiv}
use Rattle.std.specs.Cmp.Lexicographic.{slice_cmp, bytes_decides, nat_list_cmp_total, nat_list_eq_equiv}
use Rattle.std.specs.Str.{bytes_eq}
use Rattle.std.specs.Map.{lookup, IsKeyTest, AreApart, KeepsOthers}
use Rattle.std.specs.BTreeMap.{is_at}
use Rattle.std.proofs.lemmas.Bool.{cases_Bool, cond-true, cond-false}
use Rattle.std.proofs.lemmas.Map.Text.{is_eq-slice_cmp}

-- the order of keys by their bytes
abbrev pub by_bytes : {K : Type 0} → (K → List ℕ) → List ℕ → K → Ordering
by_bytes read bytes key = slice_cmp nat_cmp bytes (read key)

-- entries by the bytes of their keys
abbrev pub read_by : {K X : Type 0} → (K → List ℕ) → List (K × X) → List (List ℕ × X)
read_by read entries = map (λ entry. (read entry.0, entry.1)) entries

-- what a map finds is what its entries tell
pub found_by_bytes : {K X : Type 0} (read : K → List ℕ) (bytes : List ℕ) (entries : List (K × X)) → lookup (is_at (by_bytes read bytes)) entries ≡ lookup (bytes_eq bytes) (read_by read entries)
found_by_bytes read bytes [] = refl
found_by_bytes {K} {X} read bytes (e ∷ entries) =
    ap (λ (b : Bool). cond b (Some e.1) (lookup (is_at (by_bytes read bytes)) entries)) (is_eq-slice_cmp bytes (read e.0))
    ∙ ap (λ (o : Option X). cond (bytes_eq bytes (read e.0)) (Some e.1) o) (found_by_bytes read bytes entries)

other_bytes : (bs cs ks : List ℕ) → bytes_eq bs cs ≡ false → is_eq (slice_cmp nat_cmp bs ks) ≡ true → is_eq (slice_cmp nat_cmp cs ks) ≡ false
other_bytes bs cs ks n y =
    is_eq-slice_cmp cs ks
    ∙ (nat_list_eq_equiv.symm cs ks ∙ (sym (nat_list_eq_equiv.congr bs ks cs (sym (is_eq-slice_cmp bs ks) ∙ y)) ∙ n))

kept : {K X : Type 0} (eq : K → K → Bool) (test : K → Bool) (old new : List (K × X)) → KeepsOthers eq test old new → (other : K → Bool) → IsKeyTest eq other → AreApart test other → lookup other new ≡ lookup other old
unfolding KeepsOthers
kept eq test old new h = h

-- after an entry was put under some bytes, these find it, and others what they found
pub put_by_bytes : {K X : Type 0} (read : K → List ℕ) (bytes : List ℕ) (value : Option X) (old new : List (K × X))
    → lookup (is_at (by_bytes read bytes)) new ≡ value
    → KeepsOthers (eq_by_cmp (λ x y. slice_cmp nat_cmp (read x) (read y))) (is_at (by_bytes read bytes)) old new
    → (other : List ℕ) → lookup (bytes_eq other) (read_by read new) ≡ cond (bytes_eq bytes other) value (lookup (bytes_eq other) (read_by read old))
put_by_bytes {K} {X} read bytes value old new here others other = elim (cases_Bool (bytes_eq bytes other)) [
  | inl y ↦
      subst (λ (l : List ℕ). lookup (bytes_eq l) (read_by read new) ≡ value) ((bytes_decides bytes other).0 y) (sym (found_by_bytes read bytes new) ∙ here)
      ∙ sym (cond-true (bytes_eq bytes other) value (lookup (bytes_eq other) (read_by read old)) y)
  | inr n ↦
      sym (found_by_bytes read other new)
      ∙ (kept _ _ old new others (is_at (by_bytes read other)) (λ x y. (eq_by_cmp_equiv nat_list_cmp_total).congr other (read x) (read y)) (λ k. other_bytes bytes other (read k) n)
      ∙ (found_by_bytes read other old
      ∙ sym (cond-false (bytes_eq bytes other) value (lookup (bytes_eq other) (read_by read old)) n)))
]

-- the same where the bytes were asked for by another list that is the same
pub put_by_query : {K X : Type 0} (read : K → List ℕ) (asked bytes : List ℕ) (value : Option X) (old new : List (K × X)) → asked ≡ bytes
    → lookup (is_at (by_bytes read asked)) new ≡ value
    → KeepsOthers (eq_by_cmp (λ x y. slice_cmp nat_cmp (read x) (read y))) (is_at (by_bytes read asked)) old new
    → (other : List ℕ) → lookup (bytes_eq other) (read_by read new) ≡ cond (bytes_eq bytes other) value (lookup (bytes_eq other) (read_by read old))
put_by_query read asked bytes value old new same here others other =
    put_by_bytes read asked value old new here others other
    ∙ ap (λ (name : List ℕ). cond (bytes_eq name other) value (lookup (bytes_eq other) (read_by read old))) same
