-- Who has conversations open, in the order of their numbers: a search by the number, what a fid finds, and what stays.
use Rattle.std.proofs.Common.{Less, Equal, Greater, ◌≡◌, ℕ, zero, suc, ◌+◌, ◌-◌, ◌<◌, ◌≤◌, List, [], ◌∷◌, ◌++◌, length, get_or, take, drop, filter, Bool, true, false, cond, eqb, not, ◌&&◌, ◌||◌, Option, None, Some, Result, Ok, Err, refl, sym, ap, subst, ◌∙◌, ◌==◌, inl, inr, arith, tests}
use Rattle.std.specs.Prelude.{find, option_map, IfSome, IfNone, slice_get}
use Rattle.std.specs.List.{HoldsAt, list_any, remove}
use Rattle.std.specs.List.Sorted.{IsBinarySearchResult, IsSearchInRange}
use Rattle.std.specs.Result.{result_ok}
use Rattle.std.specs.Cmp.{ranks}
use Rattle.std.specs.declared.cmp.Ordering.{Ordering}
use Rattle.std.specs.Ordering.{MatchOrdering, is_eq, nat_cmp, ordering_index, ordering_then}
use Rattle.std.proofs.lemmas.Bool.{cases_Bool, cases_lt, eq-eqb, eqb-true, false≢true}
use Rattle.std.proofs.lemmas.List.{get_or_past}
use Rattle.agent_talks.specs.declared.speaker.Speaker.{Speaker}
use Rattle.agent_talks.specs.Listed.{AreAlone, IsAbove, IsUnder, Rises, conv_in, fid_cmp, is_among, is_of}

-- ---- small steps

unlike : (a b : ℕ) → (a ≡ b → ⊥) → eqb a b ≡ false
unlike a b h = elim (cases_Bool (eqb a b)) [
  | inl e ↦ absurd (h (eqb-true a b e))
  | inr e ↦ e
]

pub fids_same : (a b c d : ℕ) → (eqb a c && eqb b d) ≡ true → (a ≡ c) × (b ≡ d)
fids_same a b c d e = by (eqb a c) (eqb b d) refl refl e
  where
    by : (p q : Bool) → eqb a c ≡ p → eqb b d ≡ q → (p && q) ≡ true → (a ≡ c) × (b ≡ d)
    by true true i j e = (eqb-true a c i, eqb-true b d j)
    by true false i j e = absurd (false≢true e)
    by false q i j e = absurd (false≢true e)

pub fids_apart : (a b c d : ℕ) → (eqb a c && eqb b d) ≡ false → (eqb c a && eqb d b) ≡ false
fids_apart a b c d e = elim (cases_Bool (eqb c a && eqb d b)) [
  | inl is ↦
      let same = fids_same c d a b is in
      absurd (false≢true (sym e ∙ rw (eq-eqb a c (sym same.0), eq-eqb b d (sym same.1)) refl))
  | inr is ↦ is
]

-- what two fids of connections are compared by
pub compares : (a b c d : ℕ) → is_eq (fid_cmp (a, b) (c, d)) ≡ (eqb a c && eqb b d)
compares a b c d = both (nat_cmp a c) (nat_cmp b d) ∙ (ap (λ (p : Bool). p && is_eq (nat_cmp b d)) (one a c) ∙ ap (λ (p : Bool). eqb a c && p) (one b d))
  where
    both : (o p : Ordering) → is_eq (ordering_then o p) ≡ (is_eq o && is_eq p)
    both Less p = refl
    both Equal p = refl
    both Greater p = refl

    one : (x y : ℕ) → is_eq (nat_cmp x y) ≡ eqb x y
    one x y = by (nat_cmp x y) (ranks x y)
      where
        by : (o : Ordering) → MatchOrdering o (x < y) (x ≡ y) (y < x) → is_eq o ≡ eqb x y
        by Less m = sym (unlike x y (λ e. omega (arith, e, m)))
        by Equal m = sym (eq-eqb x y m)
        by Greater m = sym (unlike x y (λ e. omega (arith, e, m)))

-- ---- in the order of their numbers

under_all : (n : ℕ) (xs : List Speaker) (i : ℕ) (d : Speaker) → IsUnder n xs → i < length xs → n < (get_or xs i d).conv
under_all n [] i d u lt = absurd (omega (arith, lt))
under_all n (s ∷ xs) zero d u lt = u.0
under_all n (s ∷ xs) (suc i) d u lt = under_all n xs i d u.1 (omega (arith, lt))

rises_to : (xs : List Speaker) (i j : ℕ) (d : Speaker) → Rises xs → i ≤ j → j < length xs → (get_or xs i d).conv ≤ (get_or xs j d).conv
rises_to [] i j d r le lt = absurd (omega (arith, lt))
rises_to (s ∷ xs) zero zero d r le lt = omega arith
rises_to (s ∷ xs) zero (suc j) d r le lt = let up = under_all s.conv xs j d r.0 (omega (arith, lt)) in omega (arith, up)
rises_to (s ∷ xs) (suc i) zero d r le lt = absurd (omega (arith, le))
rises_to (s ∷ xs) (suc i) (suc j) d r le lt = rises_to xs i j d r.1 (omega (arith, le)) (omega (arith, lt))

above_all : (n : ℕ) (xs : List Speaker) → ((k : ℕ) (d : Speaker) → k < length xs → (get_or xs k d).conv < n) → IsAbove n xs
above_all n [] h = tt
above_all n (s ∷ xs) h = (h 0 s (omega arith), above_all n xs (λ k d lt. h (suc k) d (omega (arith, lt))))

last_is : (xs : List Speaker) (l d : Speaker) → Some l ≡ slice_get xs (length xs - 1) → get_or xs (length xs - 1) d ≡ l
last_is xs l d e = at xs (length xs - 1) e
  where
    at : (ys : List Speaker) (n : ℕ) → Some l ≡ slice_get ys n → get_or ys n d ≡ l
    at [] n e = absurd cc
    at (s ∷ ys) zero e = let is : l ≡ s = cc in sym is
    at (s ∷ ys) (suc n) e = at ys n e

pub last_above : (n : ℕ) (xs : List Speaker) (l : Speaker) → Rises xs → Some l ≡ slice_get xs (length xs - 1) → l.conv < n → IsAbove n xs
last_above n xs l r e lt = above_all n xs (λ k d within.
    let up = rises_to xs k (length xs - 1) d r (omega (arith, within)) (omega (arith, within)) in
    let is : (get_or xs (length xs - 1) d).conv ≡ l.conv = ap (λ (s : Speaker). s.conv) (last_is xs l d e) in
    omega (arith, up, is, lt))

-- ---- a search by the number

abbrev pub IsPlaceOf : ℕ → ℕ → List Speaker → Type 0
IsPlaceOf conv at xs = (at < length xs) × HoldsAt (λ (s : Speaker). s.conv ≡ conv) xs at

pub found_some : (xs : List Speaker) (conv : ℕ) (r : Result ℕ ℕ) → IsSearchInRange r (length xs) → IsBinarySearchResult (λ y. nat_cmp y.conv conv) xs r → IfSome (result_ok r) (λ at. (at < length xs) × HoldsAt (λ s. s.conv ≡ conv) xs at)
found_some xs conv (Ok i) range h = (range, λ d. subst (λ o. MatchOrdering o ((get_or xs i d).conv < conv) ((get_or xs i d).conv ≡ conv) (conv < (get_or xs i d).conv)) (h d) (ranks (get_or xs i d).conv conv))
found_some xs conv (Err i) range h = tt

none_among : (xs : List Speaker) (conv : ℕ) → ((k : ℕ) (d : Speaker) → k < length xs → (get_or xs k d).conv ≡ conv → ⊥) → is_among conv xs ≡ false
none_among [] conv h = refl
none_among (s ∷ xs) conv h = elim (cases_Bool (eqb s.conv conv)) [
  | inl e ↦ absurd (h 0 s (omega arith) (eqb-true s.conv conv e))
  | inr e ↦ rw e (none_among xs conv (λ k d lt is. h (suc k) d (omega (arith, lt)) is))
]

pub found_none : (xs : List Speaker) (conv : ℕ) (r : Result ℕ ℕ) → Rises xs → IsBinarySearchResult (λ y. nat_cmp y.conv conv) xs r → IfNone (result_ok r) (is_among conv xs ≡ false)
found_none xs conv (Ok i) rises h = tt
found_none xs conv (Err i) rises h =
    let parted = h (λ a b d le lt. higher (get_or xs a d).conv (get_or xs b d).conv (rises_to xs a b d rises le lt)) in
    none_among xs conv (λ k d lt is.
    let below : k < i → (get_or xs k d).conv < conv = λ l. subst (λ o. MatchOrdering o ((get_or xs k d).conv < conv) ((get_or xs k d).conv ≡ conv) (conv < (get_or xs k d).conv)) (parted.0 k d (omega arith) l) (ranks (get_or xs k d).conv conv) in
    let above : i ≤ k → conv < (get_or xs k d).conv = λ l. subst (λ o. MatchOrdering o ((get_or xs k d).conv < conv) ((get_or xs k d).conv ≡ conv) (conv < (get_or xs k d).conv)) (parted.1 k d l lt) (ranks (get_or xs k d).conv conv) in
    elim (cases_lt k i) [
      | inl l ↦ absurd (omega (arith, below l, is))
      | inr l ↦ absurd (omega (arith, above l, is))
    ])
  where
    higher : (a b : ℕ) → a ≤ b → ordering_index (nat_cmp a conv) ≤ ordering_index (nat_cmp b conv)
    higher a b le = grind (arith, tests)

-- the first of a number
pub found_at : (xs : List Speaker) (conv at : ℕ) (s : Speaker) → Rises xs → at < length xs → HoldsAt (λ (t : Speaker). t.conv ≡ conv) xs at → s ≡ get_or xs at s → Some s ≡ find (λ (t : Speaker). t.conv == conv) xs
found_at [] conv at s r lt h e = absurd (omega (arith, lt))
found_at (x ∷ xs) conv zero s r lt h e = rw (eq-eqb x.conv conv (h x)) (ap (λ (t : Speaker). Some t) e)
found_at (x ∷ xs) conv (suc i) s r lt h e =
    let up = under_all x.conv xs i s r.0 (omega (arith, lt)) in
    rw (unlike x.conv conv (λ is. omega (arith, up, h s, is))) (found_at xs conv i s r.1 (omega (arith, lt)) h e)

pub found_nowhere : (xs : List Speaker) (conv : ℕ) → is_among conv xs ≡ false → None ≡ find (λ (t : Speaker). t.conv == conv) xs
found_nowhere [] conv e = refl
found_nowhere (x ∷ xs) conv e = by (eqb x.conv conv) e (found_nowhere xs conv)
  where
    by : (b : Bool) → (b || is_among conv xs) ≡ false → (is_among conv xs ≡ false → None ≡ find (λ (t : Speaker). t.conv == conv) xs) → None ≡ cond b (Some x) (find (λ (t : Speaker). t.conv == conv) xs)
    by true e more = absurd (false≢true (sym e))
    by false e more = more e

-- ---- what a fid finds

none_of : (p : Speaker → Bool) (xs : List Speaker) → list_any p xs ≡ false → filter p xs ≡ []
none_of p [] e = refl
none_of p (s ∷ xs) e = by (p s) e (none_of p xs)
  where
    by : (b : Bool) → (b || list_any p xs) ≡ false → (list_any p xs ≡ false → filter p xs ≡ []) → cond b (s ∷ filter p xs) (filter p xs) ≡ []
    by true e more = absurd (false≢true (sym e))
    by false e more = more e

pub all_but : (p : Speaker → Bool) (xs : List Speaker) → list_any p xs ≡ false → filter (λ s. not (p s)) xs ≡ xs
all_but p [] e = refl
all_but p (s ∷ xs) e = by (p s) e (all_but p xs)
  where
    by : (b : Bool) → (b || list_any p xs) ≡ false → (list_any p xs ≡ false → filter (λ s. not (p s)) xs ≡ xs) → cond (not b) (s ∷ filter (λ s. not (p s)) xs) (filter (λ s. not (p s)) xs) ≡ s ∷ xs
    by true e more = absurd (false≢true (sym e))
    by false e more = ap (λ (ys : List Speaker). s ∷ ys) (more e)

finds_none : (p : Speaker → Bool) (xs : List Speaker) → None ≡ option_map (λ s. s.conv) (find p xs) → list_any p xs ≡ false
finds_none p [] e = refl
finds_none p (s ∷ xs) e = by (p s) e (finds_none p xs)
  where
    by : (b : Bool) → None ≡ option_map (λ (s : Speaker). s.conv) (cond b (Some s) (find p xs)) → (None ≡ option_map (λ (s : Speaker). s.conv) (find p xs) → list_any p xs ≡ false) → (b || list_any p xs) ≡ false
    by true e more = absurd cc
    by false e more = more e

pub no_opener : (xs : List Speaker) (conn fid : ℕ) → None ≡ conv_in conn fid xs → [] ≡ filter (is_of conn fid) xs
no_opener xs conn fid e = sym (none_of (is_of conn fid) xs (finds_none (is_of conn fid) xs e))

pub no_leaver : (xs : List Speaker) (conn fid : ℕ) → None ≡ conv_in conn fid xs → xs ≡ filter (λ s. not (is_of conn fid s)) xs
no_leaver xs conn fid e = sym (all_but (is_of conn fid) xs (finds_none (is_of conn fid) xs e))

above_under : (n conn fid conv : ℕ) (xs : List Speaker) → IsUnder n xs → Some conv ≡ conv_in conn fid xs → n < conv
above_under n conn fid conv [] u e = absurd cc
above_under n conn fid conv (s ∷ xs) u e = by (is_of conn fid s) e (above_under n conn fid conv xs u.1)
  where
    by : (b : Bool) → Some conv ≡ option_map (λ (s : Speaker). s.conv) (cond b (Some s) (find (is_of conn fid) xs)) → (Some conv ≡ conv_in conn fid xs → n < conv) → n < conv
    by true e more = let is : conv ≡ s.conv = cc in omega (arith, is, u.0)
    by false e more = more e

found_stands : (conn fid conv : ℕ) (xs : List Speaker) → Some conv ≡ conv_in conn fid xs → is_among conv xs ≡ true
found_stands conn fid conv [] e = absurd cc
found_stands conn fid conv (s ∷ xs) e = by (is_of conn fid s) e (found_stands conn fid conv xs)
  where
    late : (b : Bool) → (b || true) ≡ true
    late true = refl
    late false = refl

    by : (b : Bool) → Some conv ≡ option_map (λ (s : Speaker). s.conv) (cond b (Some s) (find (is_of conn fid) xs)) → (Some conv ≡ conv_in conn fid xs → is_among conv xs ≡ true) → (eqb s.conv conv || is_among conv xs) ≡ true
    by true e more = let is : conv ≡ s.conv = cc in rw (eq-eqb s.conv conv (sym is)) refl
    by false e more = rw (more e) (late (eqb s.conv conv))

pub stands_nowhere : {A : Type 0} (conn fid conv : ℕ) (xs : List Speaker) → Some conv ≡ conv_in conn fid xs → is_among conv xs ≡ false → A
stands_nowhere conn fid conv xs e none = absurd (false≢true (sym none ∙ found_stands conn fid conv xs e))

-- who stands at a place alone has it open by this fid
abbrev Sole : ℕ → ℕ → ℕ → List Speaker → Type 0
Sole conn fid at [] = ⊥
Sole conn fid zero (s ∷ xs) = (is_of conn fid s ≡ true) × (list_any (is_of conn fid) xs ≡ false)
Sole conn fid (suc at) (s ∷ xs) = (is_of conn fid s ≡ false) × Sole conn fid at xs

sole_at : (conn fid conv at : ℕ) (xs : List Speaker) → Rises xs → AreAlone xs → Some conv ≡ conv_in conn fid xs → at < length xs → HoldsAt (λ (t : Speaker). t.conv ≡ conv) xs at → Sole conn fid at xs
sole_at conn fid conv at [] r a e lt h = absurd (omega (arith, lt))
sole_at conn fid conv zero (s ∷ xs) r a e lt h = by (is_of conn fid s) refl e
  where
    by : (b : Bool) → is_of conn fid s ≡ b → Some conv ≡ option_map (λ (s : Speaker). s.conv) (cond b (Some s) (find (is_of conn fid) xs)) → Sole conn fid 0 (s ∷ xs)
    by true is e = (is, subst (λ (n : ℕ). list_any (is_of n fid) xs ≡ false) (fids_same s.conn s.fid conn fid is).0 (subst (λ (n : ℕ). list_any (is_of s.conn n) xs ≡ false) (fids_same s.conn s.fid conn fid is).1 a.0))
    by false is e = let up = above_under s.conv conn fid conv xs r.0 e in absurd (omega (arith, up, h s))
sole_at conn fid conv (suc i) (s ∷ xs) r a e lt h = by (is_of conn fid s) refl e (λ more. sole_at conn fid conv i xs r.1 a.1 more (omega (arith, lt)) h)
  where
    by : (b : Bool) → is_of conn fid s ≡ b → Some conv ≡ option_map (λ (s : Speaker). s.conv) (cond b (Some s) (find (is_of conn fid) xs)) → (Some conv ≡ conv_in conn fid xs → Sole conn fid i xs) → Sole conn fid (suc i) (s ∷ xs)
    by true is e more =
        let up = under_all s.conv xs i s r.0 (omega (arith, lt)) in
        let same : conv ≡ s.conv = cc in
        absurd (omega (arith, up, h s, same))
    by false is e more = (is, more e)

sole_leaves : (conn fid at : ℕ) (xs : List Speaker) → Sole conn fid at xs → filter (is_of conn fid) (take 1 (drop at xs)) ≡ filter (is_of conn fid) xs
sole_leaves conn fid at [] o = absurd o
sole_leaves conn fid zero (s ∷ xs) o = rw (o.0, none_of (is_of conn fid) xs o.1) refl
sole_leaves conn fid (suc i) (s ∷ xs) o = rw o.0 (sole_leaves conn fid i xs o.1)

sole_removed : (conn fid at : ℕ) (xs : List Speaker) → Sole conn fid at xs → remove xs at ≡ filter (λ s. not (is_of conn fid s)) xs
sole_removed conn fid at [] o = absurd o
sole_removed conn fid zero (s ∷ xs) o = rw o.0 (sym (all_but (is_of conn fid) xs o.1))
sole_removed conn fid (suc i) (s ∷ xs) o = rw o.0 (ap (λ (ys : List Speaker). s ∷ ys) (sole_removed conn fid i xs o.1))

pub opener_at : (conn fid conv at : ℕ) (xs : List Speaker) → Rises xs → AreAlone xs → Some conv ≡ conv_in conn fid xs → at < length xs → HoldsAt (λ (t : Speaker). t.conv ≡ conv) xs at → filter (is_of conn fid) (take 1 (drop at xs)) ≡ filter (is_of conn fid) xs
opener_at conn fid conv at xs r a e lt h = sole_leaves conn fid at xs (sole_at conn fid conv at xs r a e lt h)

pub leaver_at : (conn fid conv at : ℕ) (xs : List Speaker) → Rises xs → AreAlone xs → Some conv ≡ conv_in conn fid xs → at < length xs → HoldsAt (λ (t : Speaker). t.conv ≡ conv) xs at → remove xs at ≡ filter (λ s. not (is_of conn fid s)) xs
leaver_at conn fid conv at xs r a e lt h = sole_removed conn fid at xs (sole_at conn fid conv at xs r a e lt h)

-- ---- what stays where some leave

under_left : (p : Speaker → Bool) (n : ℕ) (xs : List Speaker) → IsUnder n xs → IsUnder n (filter p xs)
under_left p n [] u = tt
under_left p n (s ∷ xs) u = by (p s) (under_left p n xs u.1)
  where
    by : (b : Bool) → IsUnder n (filter p xs) → IsUnder n (cond b (s ∷ filter p xs) (filter p xs))
    by true more = (u.0, more)
    by false more = more

pub rises_left : (p : Speaker → Bool) (xs : List Speaker) → Rises xs → Rises (filter p xs)
rises_left p [] r = tt
rises_left p (s ∷ xs) r = by (p s) (rises_left p xs r.1)
  where
    by : (b : Bool) → Rises (filter p xs) → Rises (cond b (s ∷ filter p xs) (filter p xs))
    by true more = (under_left p s.conv xs r.0, more)
    by false more = more

any_left : (p q : Speaker → Bool) (xs : List Speaker) → list_any q xs ≡ false → list_any q (filter p xs) ≡ false
any_left p q [] e = refl
any_left p q (s ∷ xs) e = by (p s) (q s) refl e (any_left p q xs)
  where
    by : (b c : Bool) → q s ≡ c → (c || list_any q xs) ≡ false → (list_any q xs ≡ false → list_any q (filter p xs) ≡ false) → list_any q (cond b (s ∷ filter p xs) (filter p xs)) ≡ false
    by b true is e more = absurd (false≢true (sym e))
    by true false is e more = rw is (more e)
    by false false is e more = more e

pub alone_left : (p : Speaker → Bool) (xs : List Speaker) → AreAlone xs → AreAlone (filter p xs)
alone_left p [] a = tt
alone_left p (s ∷ xs) a = by (p s) (alone_left p xs a.1)
  where
    by : (b : Bool) → AreAlone (filter p xs) → AreAlone (cond b (s ∷ filter p xs) (filter p xs))
    by true more = (any_left p (is_of s.conn s.fid) xs a.0, more)
    by false more = more

finds_left : (p q : Speaker → Bool) (b : Bool) → ((s : Speaker) → q s ≡ true → p s ≡ b) → (xs : List Speaker) → find q (filter p xs) ≡ cond b (find q xs) None
finds_left p q true h [] = refl
finds_left p q false h [] = refl
finds_left p q b h (s ∷ xs) = by (p s) (q s) refl refl (finds_left p q b h xs)
  where
    by : (c e : Bool) → p s ≡ c → q s ≡ e → find q (filter p xs) ≡ cond b (find q xs) None → find q (cond c (s ∷ filter p xs) (filter p xs)) ≡ cond b (cond e (Some s) (find q xs)) None
    by true true i j more = subst (λ (a : Bool). find q (s ∷ filter p xs) ≡ cond a (Some s) None) (sym i ∙ h s j) (rw j refl)
    by true false i j more = rw j more
    by false true i j more =
        let off : b ≡ false = sym (h s j) ∙ i in
        subst (λ (a : Bool). find q (filter p xs) ≡ cond a (Some s) None) (sym off) (subst (λ (a : Bool). find q (filter p xs) ≡ cond a (find q xs) None) off more)
    by false false i j more = more

conv_left : (b : Bool) (o : Option Speaker) → option_map (λ (s : Speaker). s.conv) (cond b o None) ≡ cond b (option_map (λ (s : Speaker). s.conv) o) None
conv_left true o = refl
conv_left false o = refl

pub found_left : (p : Speaker → Bool) (b : Bool) (conn fid : ℕ) → ((s : Speaker) → is_of conn fid s ≡ true → p s ≡ b) → (xs : List Speaker) → conv_in conn fid (filter p xs) ≡ cond b (conv_in conn fid xs) None
found_left p b conn fid h xs = ap (option_map (λ (s : Speaker). s.conv)) (finds_left p (is_of conn fid) b h xs) ∙ conv_left b (find (is_of conn fid) xs)

-- ---- one more

under_last : (n : ℕ) (ys : List Speaker) (s : Speaker) → IsUnder n ys → n < s.conv → IsUnder n (ys ++ s ∷ [])
under_last n [] s u lt = (lt, tt)
under_last n (y ∷ ys) s u lt = (u.0, under_last n ys s u.1 lt)

pub rises_last : (xs : List Speaker) (s : Speaker) → Rises xs → IsAbove s.conv xs → Rises (xs ++ s ∷ [])
rises_last [] s r a = (tt, tt)
rises_last (x ∷ xs) s r a = (under_last x.conv xs s r.0 a.0, rises_last xs s r.1 a.1)

any_last : (q : Speaker → Bool) (ys : List Speaker) (s : Speaker) → list_any q ys ≡ false → q s ≡ false → list_any q (ys ++ s ∷ []) ≡ false
any_last q [] s none off = rw off refl
any_last q (y ∷ ys) s none off = step (q y) none (λ more. any_last q ys s more off)
  where
    step : (b : Bool) → (b || list_any q ys) ≡ false → (list_any q ys ≡ false → list_any q (ys ++ s ∷ []) ≡ false) → (b || list_any q (ys ++ s ∷ [])) ≡ false
    step true none more = absurd (false≢true (sym none))
    step false none more = more none

pub alone_last : (xs : List Speaker) (s : Speaker) → AreAlone xs → list_any (is_of s.conn s.fid) xs ≡ false → AreAlone (xs ++ s ∷ [])
alone_last [] s a e = (refl, tt)
alone_last (x ∷ xs) s a e = by (is_of s.conn s.fid x) refl e (alone_last xs s a.1)
  where
    by : (b : Bool) → is_of s.conn s.fid x ≡ b → (b || list_any (is_of s.conn s.fid) xs) ≡ false → (list_any (is_of s.conn s.fid) xs ≡ false → AreAlone (xs ++ s ∷ [])) → AreAlone (x ∷ (xs ++ s ∷ []))
    by true is e more = absurd (false≢true (sym e))
    by false is e more = (any_last (is_of x.conn x.fid) xs s a.0 (fids_apart x.conn x.fid s.conn s.fid is), more e)

conv_last : (q : Speaker → Bool) (xs : List Speaker) (s : Speaker) → list_any q xs ≡ false → find q (xs ++ s ∷ []) ≡ cond (q s) (Some s) None
conv_last q [] s e = refl
conv_last q (x ∷ xs) s e = by (q x) e (conv_last q xs s)
  where
    by : (b : Bool) → (b || list_any q xs) ≡ false → (list_any q xs ≡ false → find q (xs ++ s ∷ []) ≡ cond (q s) (Some s) None) → cond b (Some x) (find q (xs ++ s ∷ [])) ≡ cond (q s) (Some s) None
    by true e more = absurd (false≢true (sym e))
    by false e more = more e

finds_before : (q : Speaker → Bool) (xs : List Speaker) (s : Speaker) → q s ≡ false → find q (xs ++ s ∷ []) ≡ find q xs
finds_before q [] s e = rw e refl
finds_before q (x ∷ xs) s e = ap (λ (o : Option Speaker). cond (q x) (Some x) o) (finds_before q xs s e)

pub found_last : (xs : List Speaker) (s : Speaker) (conn fid : ℕ) → list_any (is_of s.conn s.fid) xs ≡ false → cond (eqb s.conn conn && eqb s.fid fid) (Some s.conv) (conv_in conn fid xs) ≡ conv_in conn fid (xs ++ s ∷ [])
found_last xs s conn fid none = by (is_of conn fid s) refl
  where
    by : (b : Bool) → is_of conn fid s ≡ b → cond b (Some s.conv) (conv_in conn fid xs) ≡ conv_in conn fid (xs ++ s ∷ [])
    by true is =
        let off : list_any (is_of conn fid) xs ≡ false = subst (λ (n : ℕ). list_any (is_of n fid) xs ≡ false) (fids_same s.conn s.fid conn fid is).0 (subst (λ (n : ℕ). list_any (is_of s.conn n) xs ≡ false) (fids_same s.conn s.fid conn fid is).1 none) in
        sym (ap (option_map (λ (t : Speaker). t.conv)) (conv_last (is_of conn fid) xs s off ∙ ap (λ (b : Bool). cond b (Some s) None) is))
    by false is = sym (ap (option_map (λ (t : Speaker). t.conv)) (finds_before (is_of conn fid) xs s is))

pub none_before : (xs : List Speaker) (conn fid : ℕ) → None ≡ conv_in conn fid xs → list_any (is_of conn fid) xs ≡ false
none_before xs conn fid e = finds_none (is_of conn fid) xs e

pub all_before : (xs : List Speaker) (conn fid : ℕ) → None ≡ conv_in conn fid xs → filter (λ t. not (is_of conn fid t)) xs ≡ xs
all_before xs conn fid e = all_but (is_of conn fid) xs (finds_none (is_of conn fid) xs e)

-- ---- what the look-up by the fid finds then

pub index_without : (xs : List Speaker) (conn fid c f : ℕ) (old new : Option ℕ) → new ≡ cond (is_eq (fid_cmp (conn, fid) (c, f))) None old → old ≡ conv_in c f xs → new ≡ conv_in c f (filter (λ s. not (is_of conn fid s)) xs)
index_without xs conn fid c f old new e h =
    e ∙ (ap (λ (b : Bool). cond b None old) (compares conn fid c f) ∙ (ap (λ (o : Option ℕ). cond (eqb conn c && eqb fid f) None o) h ∙ by (eqb conn c && eqb fid f) refl))
  where
    by : (b : Bool) → (eqb conn c && eqb fid f) ≡ b → cond b None (conv_in c f xs) ≡ conv_in c f (filter (λ s. not (is_of conn fid s)) xs)
    by true is = sym (found_left (λ s. not (is_of conn fid s)) false c f (λ s here.
        let same = fids_same conn fid c f is in
        let this = fids_same s.conn s.fid c f here in
        rw (eq-eqb s.conn conn (this.0 ∙ sym same.0), eq-eqb s.fid fid (this.1 ∙ sym same.1)) refl) xs)
    by false is = sym (found_left (λ s. not (is_of conn fid s)) true c f (λ s here.
        let this = fids_same s.conn s.fid c f here in
        let off : is_of conn fid s ≡ false = rw (this.0, this.1) (fids_apart conn fid c f is) in
        rw off refl) xs)

pub index_apart : (xs : List Speaker) (conn c f : ℕ) (old new : Option ℕ) → new ≡ cond (not (eqb c conn)) old None → old ≡ conv_in c f xs → new ≡ conv_in c f (filter (λ s. not (eqb s.conn conn)) xs)
index_apart xs conn c f old new e h =
    e ∙ (ap (λ (o : Option ℕ). cond (not (eqb c conn)) o None) h ∙ sym (found_left (λ s. not (eqb s.conn conn)) (not (eqb c conn)) c f (λ s here. ap (λ (n : ℕ). not (eqb n conn)) (fids_same s.conn s.fid c f here).0) xs))

pub first_same : (c f : ℕ) (at : ℕ × ℕ) → is_eq (fid_cmp (c, f) at) ≡ true → c ≡ at.0
first_same c f at e = (fids_same c f at.0 at.1 (sym (compares c f at.0 at.1) ∙ e)).0

pub index_with : (xs : List Speaker) (s : Speaker) (c f : ℕ) (old new : Option ℕ) → list_any (is_of s.conn s.fid) xs ≡ false → new ≡ cond (is_eq (fid_cmp (s.conn, s.fid) (c, f))) (Some s.conv) old → old ≡ conv_in c f xs → new ≡ conv_in c f (xs ++ s ∷ [])
index_with xs s c f old new none e h =
    e ∙ (ap (λ (b : Bool). cond b (Some s.conv) old) (compares s.conn s.fid c f) ∙ (ap (λ (o : Option ℕ). cond (eqb s.conn c && eqb s.fid f) (Some s.conv) o) h ∙ found_last xs s c f none))
