-- What can be said of words of which something was read.
use Rattle.std.proofs.Common.{◌≡◌, List, [], ◌∷◌, Bool, true, false, cond, Option, Some, None, Result, Err, option_map, find, refl, ap, ◌∙◌, sym}
use Rattle.trace_labels.specs.Words.{Word}
use Rattle.trace_labels.specs.Reading.{◌>>=◌, one_by}

pub same_some : {A : Type 0} (a b : A) → Some a ≡ Some b → a ≡ b
same_some a b h = cc

pub same_err : {A E : Type 0} (a b : E) → ◌≡◌ {A = Result A E} (Err a) (Err b) → a ≡ b
same_err a b h = cc

-- something, and the words behind it
abbrev pub beside : {A : Type 0} → A → List Word → A × List Word
beside a words = (a, words)

pub bind_parts : {A B : Type 0} (o : Option A) (f : A → Option B) (y : B) → (o >>= f) ≡ Some y → (x : A) × (o ≡ Some x) × (f x ≡ Some y)
bind_parts (Some x) f y h = (x, refl, h)
bind_parts None f y h = absurd cc

pub if_parts : {A : Type 0} (t : Bool) (x y : A) → cond t (Some x) None ≡ Some y → (t ≡ true) × (x ≡ y)
if_parts true x y h = (refl, cc)
if_parts false x y h = absurd cc

map_parts : {A : Type 0} (o : Option A) (words rest : List Word) (y : A) → option_map {U = A × List Word} (λ a. (a, words)) o ≡ Some (y, rest) → (o ≡ Some y) × (words ≡ rest)
map_parts (Some x) words rest y h =
    let same : beside x words ≡ beside y rest = same_some (beside x words) (beside y rest) h in
    (ap (λ r. Some r.0) same, ap (λ r. r.1) same)
map_parts None words rest y h = absurd cc

-- one word was read
pub one_parts : {A : Type 0} (f : Word → Option A) (words rest : List Word) (a : A) → one_by f words ≡ Some (a, rest) → (word : Word) × (words ≡ word ∷ rest) × (f word ≡ Some a)
one_parts f [] rest a h = absurd cc
one_parts f (word ∷ words) rest a h =
    let found = map_parts (f word) words rest a h in
    (word, ap (λ ws. word ∷ ws) found.1, found.0)

found_by : {A : Type 0} (p : A → Bool) (t : Bool) (x y : A) (o : Option A) → p x ≡ t → (o ≡ Some y → p y ≡ true) → cond t (Some x) o ≡ Some y → p y ≡ true
found_by p true x y o e more h = ap p (sym (same_some x y h)) ∙ e
found_by p false x y o e more h = more h

pub find_parts : {A : Type 0} (p : A → Bool) (xs : List A) (y : A) → find p xs ≡ Some y → p y ≡ true
find_parts p [] y h = absurd cc
find_parts p (x ∷ xs) y h = found_by p (p x) x y (find p xs) refl (find_parts p xs y) h

pair_of : {A : Type 0} (a b : A) (words rest : List Word) → beside a words ≡ beside b rest → (a ≡ b) × (words ≡ rest)
pair_of a b words rest h = (ap (λ r. r.0) h, ap (λ r. r.1) h)

pub some_pair : {A : Type 0} (a b : A) (words rest : List Word) → Some (beside a words) ≡ Some (beside b rest) → (a ≡ b) × (words ≡ rest)
some_pair a b words rest h = pair_of a b words rest (same_some (beside a words) (beside b rest) h)
