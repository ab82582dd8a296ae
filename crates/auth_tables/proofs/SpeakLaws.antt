-- Who speaks for whom, by the lines that give a host its names.
use Rattle.std.proofs.Common.{◌≡◌, ◌≢◌, ◌↔◌, ◌⊎◌, ℕ, zero, suc, List, [], ◌∷◌, ◌++◌, Bool, true, false, cond, not, ◌&&◌, ◌||◌, codes, refl, sym, ap, subst, inl, inr, arith}
use Rattle.std.specs.List.{Contains}
use Rattle.std.specs.Str.{bytes_eq}
use Rattle.std.specs.Cmp.Lexicographic.{bytes_decides}
use Rattle.std.proofs.lemmas.Bool.{cases_Bool, cond-true, cond-false, and_parts, and_from, or_cases, not-true, not_from_false}
use Rattle.std.proofs.lemmas.List.Elements.{Contains-append_left, Contains-append_right, Contains-append_cases}
use Rattle.auth_tables.specs.Speaks.{SpeakLine, Gives, Speaks, names_in, has, grants, denies, may_speak}

-- ---- members

only : {X : Type 0} (x y : X) → Contains (x ∷ []) y → x ≡ y
only x y (zero, lt, e) = e
only x y (suc k, lt, e) = absurd (omega (arith, lt))

here : {X : Type 0} (x : X) (xs : List X) → Contains (x ∷ xs) x
here x xs = (zero, omega arith, refl)

there : {X : Type 0} (x : X) (xs : List X) (y : X) → Contains xs y → Contains (x ∷ xs) y
there x xs y h = Contains-append_right (x ∷ []) xs y h

here_or_there : {X : Type 0} (x : X) (xs : List X) (y : X) → Contains (x ∷ xs) y → (x ≡ y) ⊎ Contains xs y
here_or_there x xs y h = elim (Contains-append_cases (x ∷ []) xs y h) [ inl one ↦ inl (only x y one) | inr later ↦ inr later ]

none : {X : Type 0} (y : X) → Contains {X = X} [] y → ⊥
none y (k, lt, e) = absurd (omega (arith, lt))

-- ---- a name among others

from_has : (names : List (List ℕ)) (name : List ℕ) → has names name ≡ true → Contains names name
from_has [] name h = absurd cc
from_has (first ∷ names) name h = elim (or_cases (bytes_eq first name) (has names name) h) [
  | inl same ↦ subst (λ (n : List ℕ). Contains (first ∷ names) n) ((bytes_decides first name).0 same) (here first names)
  | inr later ↦ there first names name (from_has names name later)
]

or_true : (x y : Bool) → y ≡ true → (x || y) ≡ true
or_true true y h = refl
or_true false y h = h

has_from : (names : List (List ℕ)) (name : List ℕ) → Contains names name → has names name ≡ true
has_from [] name h = absurd (none name h)
has_from (first ∷ names) name h = elim (here_or_there first names name h) [
  | inl same ↦ ap (λ (b : Bool). b || has names name) ((bytes_decides first name).1 same)
  | inr later ↦ or_true (bytes_eq first name) (has names name) (has_from names name later)
]

-- ---- the names of a host

first_names : (line : SpeakLine) (lines : List SpeakLine) (host name : List ℕ) → Contains (cond (bytes_eq host line.0) line.1 []) name → Gives (line ∷ lines) host name
first_names line lines host name h = elim (cases_Bool (bytes_eq host line.0)) [
  | inl same ↦ record {
    line = line;
    stands = here line lines;
    of_host = sym ((bytes_decides host line.0).0 same);
    given = subst (λ (ns : List (List ℕ)). Contains ns name) (cond-true (bytes_eq host line.0) line.1 [] same) h;
  }
  | inr other ↦ absurd (none name (subst (λ (ns : List (List ℕ)). Contains ns name) (cond-false (bytes_eq host line.0) line.1 [] other) h))
]

pub names_given : (lines : List SpeakLine) (host name : List ℕ) → Contains (names_in lines host) name → Gives lines host name
names_given [] host name h = absurd (none name h)
names_given (line ∷ lines) host name h = elim (Contains-append_cases (cond (bytes_eq host line.0) line.1 []) (names_in lines host) name h) [
  | inl first ↦ first_names line lines host name first
  | inr later ↦ let g = names_given lines host name later in record { line = g.line; stands = there line lines g.line g.stands; of_host = g.of_host; given = g.given }
]

given_here : (line : SpeakLine) (host name : List ℕ) → line.0 ≡ host → Contains line.1 name → Contains (cond (bytes_eq host line.0) line.1 []) name
given_here line host name of given = subst (λ (ns : List (List ℕ)). Contains ns name) (sym (cond-true (bytes_eq host line.0) line.1 [] ((bytes_decides host line.0).1 (sym of)))) given

given_at : (lines : List SpeakLine) (line : SpeakLine) (host name : List ℕ) → Contains lines line → line.0 ≡ host → Contains line.1 name → Contains (names_in lines host) name
given_at [] line host name stands of given = absurd (none line stands)
given_at (first ∷ lines) line host name stands of given = elim (here_or_there first lines line stands) [
  | inl same ↦ Contains-append_left (cond (bytes_eq host first.0) first.1 []) (names_in lines host) name (
      subst (λ (l : SpeakLine). Contains (cond (bytes_eq host l.0) l.1 []) name) (sym same) (given_here line host name of given))
  | inr later ↦ Contains-append_right (cond (bytes_eq host first.0) first.1 []) (names_in lines host) name (given_at lines line host name later of given)
]

pub given_names : (lines : List SpeakLine) (host name : List ℕ) → Gives lines host name → Contains (names_in lines host) name
given_names lines host name g = given_at lines g.line host name g.stands g.of_host g.given

has_given : (lines : List SpeakLine) (host name : List ℕ) → has (names_in lines host) name ≡ true → Gives lines host name
has_given lines host name h = names_given lines host name (from_has (names_in lines host) name h)

given_has : (lines : List SpeakLine) (host name : List ℕ) → Gives lines host name → has (names_in lines host) name ≡ true
given_has lines host name g = has_from (names_in lines host) name (given_names lines host name g)

-- ---- the laws

false_from : (b : Bool) → (b ≡ true → ⊥) → b ≡ false
false_from true h = absurd (h refl)
false_from false h = refl

speaks_then : (lines : List SpeakLine) (host user : List ℕ) → may_speak (names_in lines host) host user ≡ true → Speaks lines host user
unfolding may_speak
speaks_then lines host user h =
    let names = names_in lines host in
    elim (or_cases (bytes_eq host user) (grants names user && not (denies names user)) h) [
      | inl same ↦ inl ((bytes_decides host user).0 same)
      | inr by_lines ↦
          let parts = and_parts (grants names user) (not (denies names user)) by_lines in
          inr (
            elim (or_cases (has names user) (has names (codes "*")) parts.0) [ inl u ↦ inl (has_given lines host user u) | inr all ↦ inr (has_given lines host (codes "*") all) ],
            λ g. absurd (let d : denies names user ≡ true = given_has lines host (33 ∷ user) g in let f : denies names user ≡ false = not-true (denies names user) parts.1 in cc),
          )
    ]

granted : (lines : List SpeakLine) (host user : List ℕ) → Gives lines host user ⊎ Gives lines host (codes "*") → grants (names_in lines host) user ≡ true
granted lines host user (inl g) = ap (λ (b : Bool). b || has (names_in lines host) (codes "*")) (given_has lines host user g)
granted lines host user (inr g) = or_true (has (names_in lines host) user) (has (names_in lines host) (codes "*")) (given_has lines host (codes "*") g)

then_speaks : (lines : List SpeakLine) (host user : List ℕ) → Speaks lines host user → may_speak (names_in lines host) host user ≡ true
unfolding may_speak
then_speaks lines host user (inl same) = ap (λ (b : Bool). b || (grants (names_in lines host) user && not (denies (names_in lines host) user))) ((bytes_decides host user).1 same)
then_speaks lines host user (inr by_lines) =
    let names = names_in lines host in
    or_true (bytes_eq host user) (grants names user && not (denies names user)) (
    and_from (grants names user) (not (denies names user)) (granted lines host user by_lines.0)
    (not_from_false (denies names user) (false_from (denies names user) (λ d. by_lines.1 (has_given lines host (33 ∷ user) d)))))

pub speaks_iff : (lines : List SpeakLine) (host user : List ℕ) → may_speak (names_in lines host) host user ≡ true ↔ Speaks lines host user
speaks_iff lines host user = (speaks_then lines host user, then_speaks lines host user)

-- a denial
denied_line : (before behind : List SpeakLine) (host user : List ℕ) (names : List (List ℕ)) → Contains names (33 ∷ user) → Gives (before ++ (host, names) ∷ behind) host (33 ∷ user)
denied_line before behind host user names h = record {
  line = (host, names);
  stands = Contains-append_right before ((host, names) ∷ behind) (host, names) (here (host, names) behind);
  of_host = refl;
  given = h;
}

pub denied : (before behind : List SpeakLine) (host user : List ℕ) (names : List (List ℕ)) → host ≢ user → Contains names (33 ∷ user) → may_speak (names_in (before ++ (host, names) ∷ behind) host) host user ≡ false
denied before behind host user names other h =
    let lines : List SpeakLine = before ++ (host, names) ∷ behind in
    false_from (may_speak (names_in lines host) host user) (λ speaks.
    elim (speaks_then lines host user speaks) [
      | inl same ↦ other same
      | inr by_lines ↦ by_lines.1 (denied_line before behind host user names h)
    ])
