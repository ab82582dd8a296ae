-- How the prompters of a chain are asked one after the other.
use Rattle.std.proofs.lemmas.List.{map-append, length-map, length-take-le, take-append-drop, set-get_or, get_or-set_same, take-set, drop-set, drop-set-lt}
use Rattle.std.proofs.Common.{map, slice_index_or, slice_set, take, drop, if◌then◌else◌, ◌≡◌, ℕ, ◌+◌, ◌-◌, ◌<◌, ◌≤◌, arith, List, [], ◌∷◌, ◌++◌, Bool, true, false, length, refl, sym, ap, ◌∙◌, subst, append_assoc, length-append}
use Rattle.side_files.specs.declared.question.Question.{Question}
use Rattle.prompters.specs.Manners.{Manner, considered, is_spent, said}
use Rattle.prompters.specs.Chains.{Asked, after_answer, unless_spent, word_of}
use Rattle.prompters.specs.declared.prompter.Say.{Say}
use Rattle.prompters.specs.declared.prompter.Say.TheVariants.{Yes, No, Pass}

-- Those before a place were asked and passed, those behind it weren't asked yet.
pub record Going (q : Question) (at : ℕ) (old now : List Manner) : Type 0 where
  pub done : List Manner
  pub behind : List Manner
  pub is : now ≡ done ++ behind
  pub place : length done ≡ at
  pub word : word_of q old ≡ word_of q behind
  pub rest : after_answer q old ≡ done ++ after_answer q behind

pub begun : (q : Question) (old : List Manner) → Going q 0 old old
begun q old = record { done = []; behind = old; is = refl; place = refl; word = refl; rest = refl }

-- two splits of a list at one place are one
same_split : (a b : List Manner) (m : Manner) (x y : List Manner) → length a ≡ length b → a ++ x ≡ b ++ m ∷ y → (a ≡ b) × (x ≡ m ∷ y)
same_split [] [] m x y l e = (refl, e)
same_split [] (b ∷ bs) m x y l e = absurd (omega (arith, l))
same_split (a ∷ front) [] m x y l e = absurd (omega (arith, l))
same_split (a ∷ front) (b ∷ bs) m x y l e =
    let t = same_split front bs m x y (omega (arith, l)) (ap (λ (l : List Manner). drop 1 l) e) in
    let h : a ∷ [] ≡ b ∷ [] = ap (λ (l : List Manner). take 1 l) e in
    (ap (λ (l : List Manner). l ++ front) h ∙ ap (λ (l : List Manner). b ∷ l) t.0, t.1)

-- what follows the word of the one that is asked
answered : (say : Say) (m : Manner) (later : List Manner) (q : Question) → said m q ≡ say → (say ≡ Pass → ⊥) → (word_of q (m ∷ later) ≡ say) × (after_answer q (m ∷ later) ≡ unless_spent (considered q m) later)
answered Yes m later q e p = rw e (refl, refl)
answered No m later q e p = rw e (refl, refl)
answered Pass m later q e p = absurd (p refl)

passed : (m : Manner) (later : List Manner) (q : Question) → said m q ≡ Pass → (word_of q (m ∷ later) ≡ word_of q later) × (after_answer q (m ∷ later) ≡ unless_spent (considered q m) (after_answer q later))
passed m later q e = rw e (refl, refl)

-- The word of one that doesn't pass is the answer.
pub ends : (q : Question) (at next : ℕ) (say : Say) (old now new : List Manner) → Going q at old now → Asked q at say next now new → (say ≡ Pass → ⊥) → (say ≡ word_of q old) × (new ≡ after_answer q old)
ends q at next say old now new g a p =
    let s = same_split g.done a.front a.one g.behind a.later (g.place ∙ sym a.place) (sym g.is ∙ a.found) in
    let w = answered say a.one a.later q (sym a.word) p in (
      sym (g.word ∙ ap (word_of q) s.1 ∙ w.0),
      a.left ∙ sym (g.rest ∙ ap (λ (l : List Manner). g.done ++ after_answer q l) s.1 ∙ ap (λ (l : List Manner). g.done ++ l) w.1 ∙ ap (λ (l : List Manner). l ++ unless_spent (considered q a.one) a.later) s.0),
    )

-- One that passes leaves the others to be asked.
kept_parts : (spent : Bool) (c : Manner) (front later after : List Manner) → (spent ≡ is_spent c)
    → (d : List Manner) × ((front ++ unless_spent c later ≡ d ++ later) × ((front ++ unless_spent c after ≡ d ++ after) × (length d ≡ (if spent then length front else length front + 1))))
kept_parts true c front later after e = (front, (rw (sym e) refl, (rw (sym e) refl, refl)))
kept_parts false c front later after e = (front ++ c ∷ [], (rw (sym e) (sym (append_assoc front (c ∷ []) later)), (rw (sym e) (sym (append_assoc front (c ∷ []) after)), length-append front (c ∷ []))))

pub goes_on : (q : Question) (at next : ℕ) (old now new : List Manner) → Going q at old now → Asked q at Pass next now new → Going q next old new
goes_on q at next old now new g a =
    let s = same_split g.done a.front a.one g.behind a.later (g.place ∙ sym a.place) (sym g.is ∙ a.found) in
    let w = passed a.one a.later q (sym a.word) in
    let c = considered q a.one in
    let k = kept_parts (is_spent c) c a.front a.later (after_answer q a.later) refl in
    record {
      done = k.0;
      behind = a.later;
      is = a.left ∙ k.1.0;
      place = k.1.1.1 ∙ ap (λ n. if is_spent c then n else n + 1) a.place ∙ sym a.goes_on;
      word = g.word ∙ ap (word_of q) s.1 ∙ w.0;
      rest = g.rest ∙ ap (λ (l : List Manner). g.done ++ after_answer q l) s.1 ∙ ap (λ (l : List Manner). g.done ++ l) w.1 ∙ ap (λ (l : List Manner). l ++ unless_spent c (after_answer q a.later)) s.0 ∙ k.1.1.0;
    }

pub goes_by : (q : Question) (at next : ℕ) (say : Say) (old now new : List Manner) → Going q at old now → Asked q at say next now new → say ≡ Pass → Going q next old new
goes_by q at next say old now new g a e = goes_on q at next old now new g (subst (λ (s : Say). Asked q at s next now new) e a)

-- Each one asked leaves fewer to be asked.
left_by : (spent : Bool) (c : Manner) (front later : List Manner) (at next : ℕ) → spent ≡ is_spent c → length front ≡ at → next ≡ (if spent then at else at + 1)
    → length (front ++ unless_spent c later) - next ≡ length later
left_by true c front later at next e p n = rw (sym e) (omega (arith, p, n, length-append front later))
left_by false c front later at next e p n = rw (sym e) (omega (arith, p, n, length-append front (c ∷ later)))

pub fewer : (q : Question) (at next : ℕ) (say : Say) (old new : List Manner) → Asked q at say next old new → length new - next < length old - at
fewer q at next say old new a =
    let c = considered q a.one in
    let l : length new - next ≡ length a.later = ap (λ (l : List Manner). length l - next) a.left ∙ left_by (is_spent c) c a.front a.later at next refl a.place a.goes_on in
    let o : length old ≡ length a.front + length (a.one ∷ a.later) = ap (λ (l : List Manner). length l) a.found ∙ length-append a.front (a.one ∷ a.later) in
    omega (arith, l, o, a.place)

-- Where none is left nobody answered.
pub nobody : (q : Question) (at : ℕ) (old now : List Manner) → Going q at old now → length now ≤ at → (No ≡ word_of q old) × (now ≡ after_answer q old)
nobody q at old now g h = by_left g.behind refl
  where
    by_left : (left : List Manner) → g.behind ≡ left → (No ≡ word_of q old) × (now ≡ after_answer q old)
    by_left [] e = (sym (g.word ∙ ap (word_of q) e), g.is ∙ ap (λ (l : List Manner). g.done ++ l) e ∙ sym (g.rest ∙ ap (λ (l : List Manner). g.done ++ after_answer q l) e))
    by_left (m ∷ later) e = absurd (omega (arith, g.place, h, ap (λ (l : List Manner). length l) (g.is ∙ ap (λ (l : List Manner). g.done ++ l) e), length-append g.done (m ∷ later)))

-- ---- one prompter in a list of any kind, seen by its manner

split_at : {X : Type 0} → (xs : List X) (i : ℕ) (x : X) → i < length xs → x ≡ slice_index_or xs i x → xs ≡ take i xs ++ x ∷ drop (i + 1) xs
split_at xs i x h e = sym (take-append-drop i xs) ∙ ap (λ l. take i xs ++ l) (ap (drop i) (sym (set-get_or xs i x)) ∙ drop-set xs i (slice_index_or xs i x) h ∙ ap (λ v. v ∷ drop (i + 1) xs) (sym e))

set_split : {X : Type 0} → (xs : List X) (i : ℕ) (y : X) → i < length xs → slice_set xs i y ≡ take i xs ++ y ∷ drop (i + 1) xs
set_split xs i y h = sym (take-append-drop i (slice_set xs i y)) ∙ ap (λ l. l ++ drop i (slice_set xs i y)) (take-set xs i y) ∙ ap (λ l. take i xs ++ l) (drop-set xs i y h)

removed : {X : Type 0} → (xs : List X) (i : ℕ) (y : X) → take i (slice_set xs i y) ++ drop (i + 1) (slice_set xs i y) ≡ take i xs ++ drop (i + 1) xs
removed xs i y = ap (λ l. l ++ drop (i + 1) (slice_set xs i y)) (take-set xs i y) ∙ ap (λ l. take i xs ++ l) (drop-set-lt (i + 1) xs i y (omega arith))

pub found_again : {X : Type 0} → (xs : List X) (i : ℕ) (y d : X) → i < length xs → d ≡ slice_index_or (slice_set xs i y) i d → d ≡ y
found_again xs i y d h e = e ∙ get_or-set_same xs i y d h

unless_kept : (c : Manner) (later : List Manner) → is_spent c ≡ false → c ∷ later ≡ unless_spent c later
unless_kept c later s = rw s refl

unless_gone : (c : Manner) (later : List Manner) → is_spent c ≡ true → later ≡ unless_spent c later
unless_gone c later s = rw s refl

next_kept : (c : Manner) (i : ℕ) → is_spent c ≡ false → i + 1 ≡ (if is_spent c then i else i + 1)
next_kept c i s = rw s refl

next_gone : (c : Manner) (i : ℕ) → is_spent c ≡ true → i ≡ (if is_spent c then i else i + 1)
next_gone c i s = rw s refl

pub asked_kept : {X : Type 0} → (f : X → Manner) (q : Question) (xs : List X) (i : ℕ) (x y : X) (say : Say) → i < length xs → x ≡ slice_index_or xs i x
    → say ≡ said (f x) q → f y ≡ considered q (f x) → is_spent (f y) ≡ false → Asked q i say (i + 1) (map f xs) (map f (slice_set xs i y))
asked_kept f q xs i x y say h ex w e s =
    let s' : is_spent (considered q (f x)) ≡ false = ap is_spent (sym e) ∙ s in
    record {
      front = map f (take i xs);
      one = f x;
      later = map f (drop (i + 1) xs);
      found = ap (map f) (split_at xs i x h ex) ∙ map-append f (take i xs) (x ∷ drop (i + 1) xs);
      place = length-map (take i xs) f ∙ length-take-le i xs (omega (arith, h));
      word = w;
      left = ap (map f) (set_split xs i y h) ∙ map-append f (take i xs) (y ∷ drop (i + 1) xs) ∙ ap (λ l. map f (take i xs) ++ l) (ap (λ m. m ∷ map f (drop (i + 1) xs)) e ∙ unless_kept (considered q (f x)) (map f (drop (i + 1) xs)) s');
      goes_on = next_kept (considered q (f x)) i s';
    }

pub asked_gone : {X : Type 0} → (f : X → Manner) (q : Question) (xs zs : List X) (i : ℕ) (x y : X) (say : Say) → i < length xs → x ≡ slice_index_or xs i x
    → say ≡ said (f x) q → f y ≡ considered q (f x) → is_spent (f y) ≡ true → zs ≡ take i (slice_set xs i y) ++ drop (i + 1) (slice_set xs i y) → Asked q i say i (map f xs) (map f zs)
asked_gone f q xs zs i x y say h ex w e s z =
    let s' : is_spent (considered q (f x)) ≡ true = ap is_spent (sym e) ∙ s in
    record {
      front = map f (take i xs);
      one = f x;
      later = map f (drop (i + 1) xs);
      found = ap (map f) (split_at xs i x h ex) ∙ map-append f (take i xs) (x ∷ drop (i + 1) xs);
      place = length-map (take i xs) f ∙ length-take-le i xs (omega (arith, h));
      word = w;
      left = ap (map f) (z ∙ removed xs i y) ∙ map-append f (take i xs) (drop (i + 1) xs) ∙ ap (λ l. map f (take i xs) ++ l) (unless_gone (considered q (f x)) (map f (drop (i + 1) xs)) s');
      goes_on = next_gone (considered q (f x)) i s';
    }
