-- The addresses of a text, as a reader cuts them off, and the first fault among them.
use Rattle.std.proofs.Common.{◌≡◌, ◌≢◌, ℕ, suc, ◌+◌, ◌-◌, ◌<◌, ◌≤◌, ◌⊎◌, inl, inr, List, [], ◌∷◌, ◌++◌, Bool, true, false, ◌==◌, length, drop, take, get_or, Option, Some, None, is_some, true≢false, if◌then◌else◌, refl, sym, ap, ◌∙◌, arith, append_assoc, append-nil, eq-eqb, ne_eqb, lt-ltb, le-ltb}
use Rattle.std.proofs.lemmas.Bool.{cases_lt}
use Rattle.std.proofs.lemmas.List.{drop_more, take_more, drop_all, take_all, take_rest}
use Rattle.sockets.specs.declared.servers.AddressFault.{AddressFault}
use Rattle.sockets.specs.declared.servers.AddressFault.TheVariants.{TooMany}
use Rattle.sockets.specs.declared.servers.TheConstants.{MOST_SERVERS}
use Rattle.sockets.specs.Servers.{first_fault, item_fault, items_of, onto, or_else}

-- what stands in front of the first address belongs to it
abbrev pub with_front : List ℕ → List (List ℕ) → List (List ℕ)
with_front front [] = front ∷ []
with_front front (item ∷ items) = (front ++ item) ∷ items

one_more : (front : List ℕ) (b : ℕ) (items : List (List ℕ)) → with_front front (onto b items) ≡ with_front (front ++ b ∷ []) items
one_more front b [] = refl
one_more front b (item ∷ items) = ap (λ (f : List ℕ). f ∷ items) (sym (append_assoc front (b ∷ []) item))

no_comma : (front text : List ℕ) (b : ℕ) → (b == 44) ≡ false → with_front front (items_of (b ∷ text)) ≡ with_front (front ++ b ∷ []) (items_of text)
no_comma front text b e = rw e (one_more front b (items_of text))

comma : (front text : List ℕ) (b : ℕ) → (b == 44) ≡ true → with_front front (items_of (b ∷ text)) ≡ front ∷ items_of text
comma front text b e = rw e (ap (λ (f : List ℕ). f ∷ items_of text) (append-nil front))

-- no front at all
by_comma : (t : Bool) (b : ℕ) (items : List (List ℕ)) → (if t then [] ∷ items else onto b items) ≡ with_front [] (if t then [] ∷ items else onto b items)
by_comma true b items = refl
by_comma false b [] = refl
by_comma false b (item ∷ items) = refl

pub front_none : (text : List ℕ) → items_of text ≡ with_front [] (items_of text)
front_none [] = refl
front_none (b ∷ text) = by_comma (b == 44) b (items_of text)

-- a byte that is no comma
pub front_more : (text : List ℕ) (at : ℕ) → at < length text → get_or text at 0 ≢ 44 → items_of text ≡ with_front (take at text) (items_of (drop at text)) → items_of text ≡ with_front (take (at + 1) text) (items_of (drop (at + 1) text))
front_more text at h differs so =
    so
    ∙ ap (λ (l : List ℕ). with_front (take at text) (items_of l)) (drop_more text at 0 h)
    ∙ no_comma (take at text) (drop (at + 1) text) (get_or text at 0) (ne_eqb (get_or text at 0) 44 differs)
    ∙ ap (λ (l : List ℕ). with_front l (items_of (drop (at + 1) text))) (sym (take_more text at 0 h))

-- the first comma
pub front_cut : (text : List ℕ) (at : ℕ) → at < length text → get_or text at 0 ≡ 44 → items_of text ≡ with_front (take at text) (items_of (drop at text)) → items_of text ≡ take at text ∷ items_of (take (length text - (at + 1)) (drop (at + 1) text))
front_cut text at h is so =
    so
    ∙ ap (λ (l : List ℕ). with_front (take at text) (items_of l)) (drop_more text at 0 h)
    ∙ comma (take at text) (drop (at + 1) text) (get_or text at 0) (eq-eqb (get_or text at 0) 44 is)
    ∙ ap (λ (l : List ℕ). take at text ∷ items_of l) (sym (take_rest text (at + 1)))

-- no comma is left
pub front_all : (text : List ℕ) (at : ℕ) → length text ≤ at → items_of text ≡ with_front (take at text) (items_of (drop at text)) → items_of text ≡ text ∷ []
front_all text at h so =
    so
    ∙ ap (λ (l : List ℕ). with_front (take at text) (items_of l)) (drop_all at text h)
    ∙ ap (λ (l : List ℕ). l ∷ []) (append-nil (take at text) ∙ take_all at text h)

-- ---- the first fault

first_is : (before : ℕ) (item : List ℕ) (items : List (List ℕ)) → before < MOST_SERVERS → first_fault before (item ∷ items) ≡ or_else (item_fault item) (first_fault (before + 1) items)
first_is before item items h = rw (lt-ltb before MOST_SERVERS h) refl

pub fault_later : (before : ℕ) (item : List ℕ) (items : List (List ℕ)) → before < MOST_SERVERS → item_fault item ≡ None → first_fault before (item ∷ items) ≡ first_fault (before + 1) items
fault_later before item items h none = first_is before item items h ∙ ap (λ (o : Option AddressFault). or_else o (first_fault (before + 1) items)) none

pub fault_here : (before : ℕ) (item : List ℕ) (items : List (List ℕ)) (fault : AddressFault) → before < MOST_SERVERS → item_fault item ≡ Some fault → first_fault before (item ∷ items) ≡ Some fault
fault_here before item items fault h is = first_is before item items h ∙ ap (λ (o : Option AddressFault). or_else o (first_fault (before + 1) items)) is

some_by : (t : Bool) (b : ℕ) (items : List (List ℕ)) → 0 < length (if t then [] ∷ items else onto b items)
some_by true b items = omega arith
some_by false b [] = omega arith
some_by false b (item ∷ items) = omega arith

pub some_items : (text : List ℕ) → 0 < length (items_of text)
some_items [] = omega arith
some_items (b ∷ text) = some_by (b == 44) b (items_of text)

many_fault : (items : List (List ℕ)) (before : ℕ) → MOST_SERVERS ≤ before → 0 < length items → first_fault before items ≡ Some TooMany
many_fault [] before h some = absurd (omega (arith, some))
many_fault (item ∷ items) before h some = rw (le-ltb before MOST_SERVERS h) refl

pub too_many : (text : List ℕ) (before : ℕ) → MOST_SERVERS ≤ before → first_fault before (items_of text) ≡ Some TooMany
too_many text before h = many_fault (items_of text) before h (some_items text)

-- ---- as many as have no fault

none_later : (here later : Option AddressFault) → or_else here later ≡ None → later ≡ None
none_later None later e = e
none_later (Some fault) later e = absurd (true≢false (ap is_some e))

few_by : (before : ℕ) (item : List ℕ) (items : List (List ℕ)) → before < MOST_SERVERS ⊎ MOST_SERVERS ≤ before → (before < MOST_SERVERS → first_fault (before + 1) items ≡ None → before + 1 + length items ≤ MOST_SERVERS) → first_fault before (item ∷ items) ≡ None → before + suc (length items) ≤ MOST_SERVERS
few_by before item items (inl less) later e = omega (arith, later less (none_later (item_fault item) (first_fault (before + 1) items) (sym (first_is before item items less) ∙ e)))
few_by before item items (inr over) later e = absurd (true≢false (ap is_some (sym (many_fault (item ∷ items) before over (omega arith)) ∙ e)))

few_from : (items : List (List ℕ)) (before : ℕ) → before ≤ MOST_SERVERS → first_fault before items ≡ None → before + length items ≤ MOST_SERVERS
few_from [] before h e = omega (arith, h)
few_from (item ∷ items) before h e = few_by before item items (cases_lt before MOST_SERVERS) (λ less none. few_from items (before + 1) (omega (arith, less)) none) e

pub few : (items : List (List ℕ)) → first_fault 0 items ≡ None → length items ≤ MOST_SERVERS
few items e = omega (arith, few_from items 0 (omega arith) e)
