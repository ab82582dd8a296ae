-- Fronts of one history, and whose entries stand in them.
use Rattle.std.proofs.Common.{◌≡◌, ℕ, ◌<◌, ◌≤◌, List, [], ◌∷◌, ◌++◌, length, All, true, false, cond, ◌==◌, min, sym, refl, ap, ◌∙◌, subst, ⊎_elim, ◌⊎◌, inl, inr, arith, append_assoc, append-nil, length-append, true≢false, eq-eqb, eqb-true, le_of_eq, le_trans}
use mathlib.Core.Logic.{dite}
use native.Mathlib.Decide.{dec_le}
use Rattle.std.proofs.Math.Nat.{min-eq_left, min-eq_right, min-le_left, min-le_right}
use Rattle.std.proofs.lemmas.Bool.{cases_Bool, or_left, or_right, or_cases, false_from_ne_true}
use Rattle.std.proofs.lemmas.List.Elements.{All-cons, All-head, All-tail, filter-append}
use Rattle.turn_lock.specs.declared.views.Entry.{Entry}
use Rattle.turn_lock.specs.Fronts.{among, least_of, least, Front, events, own, made, Grows}

pub among_itself : (n : ℕ) (ns : List ℕ) → among (n ∷ ns) n ≡ true
among_itself n ns = or_left (n == n) (among ns n) (eq-eqb n n refl)

pub among_rest : (m : ℕ) (ns : List ℕ) (n : ℕ) → among ns n ≡ true → among (m ∷ ns) n ≡ true
among_rest m ns n e = or_right (n == m) (among ns n) e

pub among_one : (m n : ℕ) → among (m ∷ []) n ≡ true → n ≡ m
among_one m n e = ⊎_elim (λ (t : (n == m) ≡ true). eqb-true n m t) (λ (t : false ≡ true). absurd (true≢false (sym t))) (or_cases (n == m) false e)

pub among_append : (ns ms : List ℕ) (n : ℕ) → among (ns ++ ms) n ≡ true → (among ns n ≡ true) ⊎ (among ms n ≡ true)
among_append [] ms n e = inr e
among_append (m ∷ ns) ms n e = ⊎_elim (λ (t : (n == m) ≡ true). inl (or_left (n == m) (among ns n) t))
    (λ (t : among (ns ++ ms) n ≡ true). ⊎_elim (λ (u : among ns n ≡ true). inl (among_rest m ns n u)) (λ (u : among ms n ≡ true). inr u) (among_append ns ms n t))
    (or_cases (n == m) (among (ns ++ ms) n) e)

pub among_left : (ns ms : List ℕ) (n : ℕ) → among ns n ≡ true → among (ns ++ ms) n ≡ true
among_left [] ms n e = absurd (true≢false (sym e))
among_left (m ∷ ns) ms n e = ⊎_elim (λ (t : (n == m) ≡ true). or_left (n == m) (among (ns ++ ms) n) t) (λ (t : among ns n ≡ true). among_rest m (ns ++ ms) n (among_left ns ms n t)) (or_cases (n == m) (among ns n) e)

pub among_right : (ns ms : List ℕ) (n : ℕ) → among ms n ≡ true → among (ns ++ ms) n ≡ true
among_right [] ms n e = e
among_right (m ∷ ns) ms n e = among_rest m (ns ++ ms) n (among_right ns ms n e)

least_one : (m n : ℕ) (ns : List ℕ) → among (n ∷ ns) (least_of n ns) ≡ true → among (m ∷ n ∷ ns) (min m (least_of n ns)) ≡ true
least_one m n ns h = let k : ℕ = least_of n ns in dite (dec_le m k)
    (λ (le : m ≤ k). subst (λ (x : ℕ). among (m ∷ n ∷ ns) x ≡ true) (sym (min-eq_left le)) (among_itself m (n ∷ ns)))
    (λ no. let le : k ≤ m = omega arith in subst (λ (x : ℕ). among (m ∷ n ∷ ns) x ≡ true) (sym (min-eq_right le)) (among_rest m (n ∷ ns) k h))

least_of_among : (n : ℕ) (ns : List ℕ) → among (n ∷ ns) (least_of n ns) ≡ true
least_of_among n [] = among_itself n []
least_of_among m (n ∷ ns) = least_one m n ns (least_of_among n ns)

-- the least of some numbers is one of them
pub least_among : (ns : List ℕ) (n : ℕ) → among ns n ≡ true → among ns (least ns) ≡ true
least_among [] n e = absurd (true≢false (sym e))
least_among (m ∷ ns) n e = least_of_among m ns

least_of_under : (m : ℕ) (ns : List ℕ) (n : ℕ) → among (m ∷ ns) n ≡ true → least_of m ns ≤ n
least_of_under m [] n e = le_of_eq (sym (among_one m n e))
least_of_under m (k ∷ ns) n e = ⊎_elim (λ (t : (n == m) ≡ true). le_trans (min-le_left m (least_of k ns)) (le_of_eq (sym (eqb-true n m t))))
    (λ (t : among (k ∷ ns) n ≡ true). le_trans (min-le_right m (least_of k ns)) (least_of_under k ns n t)) (or_cases (n == m) (among (k ∷ ns) n) e)

-- none of some numbers is less than the least
pub least_under : (ns : List ℕ) (n : ℕ) → among ns n ≡ true → least ns ≤ n
least_under [] n e = absurd (true≢false (sym e))
least_under (m ∷ ns) n e = least_of_under m ns n e

module _ {A : Type 0} where
  pub no_front : (xs ys : List A) → xs ++ ys ≡ [] → xs ≡ []
  no_front [] ys e = refl
  no_front (x ∷ xs) ys e = absurd (let n = ap length e in omega (arith, n))

  pub no_back : (xs ys : List A) → xs ++ ys ≡ [] → ys ≡ []
  no_back [] ys e = e
  no_back (x ∷ xs) ys e = absurd (let n = ap length e in omega (arith, n))

  -- of two backs of one list the shorter is a back of the longer
  pub backs : (ps a qs b : List A) → ps ++ a ≡ qs ++ b → length a ≤ length b → (mid : List A) × (b ≡ mid ++ a) × (ps ≡ qs ++ mid)
  backs ps a [] b e le = (ps, sym e, refl)
  backs [] a (q ∷ qs) b e le = absurd (let n = ap length e in let m = length-append qs b in omega (arith, n, m))
  backs (p ∷ ps) a (q ∷ qs) b e le = let t = backs ps a qs b (ap tail e) le in (t.0, t.1, (λ i. head p (e i) ∷ t.2 i))
    where
      head : A → List A → A
      head d [] = d
      head d (x ∷ xs) = x

      tail : List A → List A
      tail [] = []
      tail (x ∷ xs) = xs

  -- a back that is as long is the whole
  pub whole : (ps a log : List A) → log ≡ ps ++ a → length log ≤ length a → a ≡ log
  whole [] a log e le = sym e
  whole (p ∷ ps) a log e le = absurd (let n = ap length e in let m = length-append ps a in omega (arith, n, m))

module _ {E : Type 0} where
  pub own_append : (ns : List ℕ) (xs ys : Front E) → own ns (xs ++ ys) ≡ own ns xs ++ own ns ys
  own_append ns xs ys = filter-append (λ (entry : Entry E). among ns entry.seat) xs ys

  pub own_of_none : (xs : Front E) → own [] xs ≡ []
  own_of_none [] = refl
  own_of_none (x ∷ xs) = own_of_none xs

  -- no entry has a number of theirs
  pub own_none : (ns : List ℕ) (xs : Front E) → own ns xs ≡ [] → (x : Entry E) (ys : Front E) → xs ≡ x ∷ ys → (among ns x.seat ≡ false) × (own ns ys ≡ [])
  own_none ns xs none x ys is = let here : own ns (x ∷ ys) ≡ [] = ap (own ns) (sym is) ∙ none in elim (cases_Bool (among ns x.seat)) [
    | inl e ↦ absurd (let n : cond true (x ∷ own ns ys) (own ns ys) ≡ [] = ap (λ b. cond b (x ∷ own ns ys) (own ns ys)) (sym e) ∙ here in let m = ap length n in omega (arith, m))
    | inr e ↦ (e, ap (λ b. cond b (x ∷ own ns ys) (own ns ys)) (sym e) ∙ here)
  ]

  pub own_skip : (ns : List ℕ) (x : Entry E) (ys : Front E) → among ns x.seat ≡ false → own ns ys ≡ [] → own ns (x ∷ ys) ≡ []
  own_skip ns x ys e none = ap (λ b. cond b (x ∷ own ns ys) (own ns ys)) e ∙ none

  pub own_of_both : (ns ms : List ℕ) (xs : Front E) → own ns xs ≡ [] → own ms xs ≡ [] → own (ns ++ ms) xs ≡ []
  own_of_both ns ms [] p q = refl
  own_of_both ns ms (x ∷ xs) p q = let one = own_none ns (x ∷ xs) p x xs refl in let other = own_none ms (x ∷ xs) q x xs refl in
      own_skip (ns ++ ms) x xs (false_from_ne_true _ (λ e. ⊎_elim (λ (t : among ns x.seat ≡ true). true≢false (sym t ∙ one.0)) (λ (t : among ms x.seat ≡ true). true≢false (sym t ∙ other.0)) (among_append ns ms x.seat e)))
      (own_of_both ns ms xs one.1 other.1)

  pub own_append_none : (ns : List ℕ) (xs ys : Front E) → own ns (xs ++ ys) ≡ [] → (own ns xs ≡ []) × (own ns ys ≡ [])
  own_append_none ns xs ys e = let t : own ns xs ++ own ns ys ≡ [] = sym (own_append ns xs ys) ∙ e in (no_front (own ns xs) (own ns ys) t, no_back (own ns xs) (own ns ys) t)

  pub own_none_append : (ns : List ℕ) (xs ys : Front E) → own ns xs ≡ [] → own ns ys ≡ [] → own ns (xs ++ ys) ≡ []
  own_none_append ns xs ys p q = own_append ns xs ys ∙ (ap (λ z. z ++ own ns ys) p ∙ q)

  -- a number that wasn't made yet has no entries
  pub own_of_new : (count : ℕ) (xs : Front E) → All (λ (entry : Entry E). entry.seat < count) xs → own (count ∷ []) xs ≡ []
  own_of_new count [] h = refl
  own_of_new count (x ∷ xs) h = let below = All-head (λ (entry : Entry E). entry.seat < count) x xs h in
      own_skip (count ∷ []) x xs (false_from_ne_true _ (λ e. let same = among_one count x.seat e in absurd (omega (arith, same, below)))) (own_of_new count xs (All-tail (λ (entry : Entry E). entry.seat < count) x xs h))

  -- the entries that a turn makes are others' to all who don't have its number
  pub made_of_others : (ns ms : List ℕ) (done : List E) → among ms (least ns) ≡ false → own ms (made ns done) ≡ []
  made_of_others ns ms [] e = refl
  made_of_others ns ms (event ∷ done) e = own_skip ms (record { seat = least ns; event = event }) (made ns done) e (made_of_others ns ms done e)

  pub made_of_own : (ns : List ℕ) (done : List E) → among ns (least ns) ≡ true → own ns (made ns done) ≡ made ns done
  made_of_own ns [] e = refl
  made_of_own ns (event ∷ done) e = let x : Entry E = record { seat = least ns; event = event } in
      ap (λ b. cond b (x ∷ own ns (made ns done)) (own ns (made ns done))) e ∙ ap (λ (z : Front E). x ∷ z) (made_of_own ns done e)

  pub made_events : (ns : List ℕ) (done : List E) (xs : Front E) → events (made ns done ++ xs) ≡ done ++ events xs
  made_events ns [] xs = refl
  made_events ns (event ∷ done) xs = ap (λ (z : List E). event ∷ z) (made_events ns done xs)

  pub events_made : (ns : List ℕ) (done : List E) → events (made ns done) ≡ done
  events_made ns [] = refl
  events_made ns (event ∷ done) = ap (λ (z : List E). event ∷ z) (events_made ns done)

  -- what holds of the least number holds of each entry made
  pub made_each : (P : ℕ → Type 0) (ns : List ℕ) (done : List E) (xs : Front E) → P (least ns) → All (λ (entry : Entry E). P entry.seat) xs → All (λ (entry : Entry E). P entry.seat) (made ns done ++ xs)
  made_each P ns [] xs here all = all
  made_each P ns (event ∷ done) xs here all = All-cons (λ (entry : Entry E). P entry.seat) (record { seat = least ns; event = event }) (made ns done ++ xs) here (made_each P ns done xs here all)

  pub grows_from_itself : (ns : List ℕ) (log : Front E) → Grows ns log log
  grows_from_itself ns log = record { more = []; goes_on = refl; of_others = refl }

  pub grows_from_nothing : (ns : List ℕ) (log : Front E) → own ns log ≡ [] → Grows ns [] log
  grows_from_nothing ns log none = record { more = log; goes_on = sym (append-nil log); of_others = none }

  pub grows_more : (ns : List ℕ) (front log new : Front E) → Grows ns front log → own ns new ≡ [] → Grows ns front (new ++ log)
  grows_more ns front log new g none = record {
    more = new ++ g.more;
    goes_on = ap (λ z. new ++ z) g.goes_on ∙ sym (append_assoc new g.more front);
    of_others = own_none_append ns new g.more none g.of_others;
  }

  -- the longer of two fronts goes on from the shorter, and has the numbers of both
  pub record Longer (ns ms : List ℕ) (a b log : Front E) : Type 0 where
    pub front : Front E
    pub one : (front ≡ a) ⊎ (front ≡ b)
    pub first : Grows ns a front
    pub second : Grows ms b front
    pub both : Grows (ns ++ ms) front log
    pub first_whole : a ≡ log → front ≡ log
    pub second_whole : b ≡ log → front ≡ log

  longer_second : (ns ms : List ℕ) (a b log : Front E) → Grows ns a log → Grows ms b log → length a ≤ length b → Longer ns ms a b log
  longer_second ns ms a b log g h le = let t = backs g.more a h.more b (sym g.goes_on ∙ h.goes_on) le in
      let cut = own_append_none ns h.more t.0 (ap (own ns) (sym t.2) ∙ g.of_others) in record {
        front = b;
        one = inr refl;
        first = record { more = t.0; goes_on = t.1; of_others = cut.1 };
        second = grows_from_itself ms b;
        both = record { more = h.more; goes_on = h.goes_on; of_others = own_of_both ns ms h.more cut.0 h.of_others };
        first_whole = λ is. whole h.more b log h.goes_on (subst (λ (z : Front E). length z ≤ length b) is le);
        second_whole = λ is. is;
      }

  longer_first : (ns ms : List ℕ) (a b log : Front E) → Grows ns a log → Grows ms b log → length b ≤ length a → Longer ns ms a b log
  longer_first ns ms a b log g h le = let t = backs h.more b g.more a (sym h.goes_on ∙ g.goes_on) le in
      let cut = own_append_none ms g.more t.0 (ap (own ms) (sym t.2) ∙ h.of_others) in record {
        front = a;
        one = inl refl;
        first = grows_from_itself ns a;
        second = record { more = t.0; goes_on = t.1; of_others = cut.1 };
        both = record { more = g.more; goes_on = g.goes_on; of_others = own_of_both ns ms g.more g.of_others cut.0 };
        first_whole = λ is. is;
        second_whole = λ is. whole g.more a log g.goes_on (subst (λ (z : Front E). length z ≤ length a) is le);
      }

  pub longer_of : (ns ms : List ℕ) (a b log : Front E) → Grows ns a log → Grows ms b log → Longer ns ms a b log
  longer_of ns ms a b log g h = dite (dec_le (length a) (length b)) (λ le. longer_second ns ms a b log g h le) (λ no. longer_first ns ms a b log g h (let x : ℕ = length a in let y : ℕ = length b in omega arith))

  -- what a turn adds is of its seat, and nothing else of what came is
  pub own_after_turn : (ns : List ℕ) (done : List E) (others front : Front E) (n : ℕ) → among ns n ≡ true → own ns others ≡ [] → own ns (made ns done ++ (others ++ front)) ≡ made ns done ++ own ns front
  own_after_turn ns done others front n is_mine apart = own_append ns (made ns done) (others ++ front) ∙ (ap (λ z. z ++ own ns (others ++ front)) (made_of_own ns done (least_among ns n is_mine))
      ∙ ap (λ z. made ns done ++ z) (own_append ns others front ∙ ap (λ z. z ++ own ns front) apart))

  -- those of a front with these numbers are the same in all that goes on from it
  pub own_of_grown : (ns : List ℕ) (front later : Front E) → Grows ns front later → own ns later ≡ own ns front
  own_of_grown ns front later g = ap (own ns) g.goes_on ∙ (own_append ns g.more front ∙ ap (λ z. z ++ own ns front) g.of_others)
