-- Key names tell users and their keys apart; and in the first tables they are the users' names.
use Rattle.std.proofs.Common.{◌≡◌, ℕ, zero, suc, ◌<◌, ◌≤◌, ◌^◌, List, [], ◌∷◌, ◌++◌, length, take, decimal, Option, Some, None, Bool, true, false, ◌&&◌, if◌then◌else◌, inl, inr, refl, sym, ap, ◌∙◌, arith}
use Rattle.std.proofs.lemmas.Bool.{and_parts, cases_Bool}
use Rattle.std.proofs.lemmas.Fmt.{decimal_injective}
use Rattle.std.proofs.lemmas.List.Elements.{All-head, All-tail}
use Rattle.std.proofs.lemmas.Slice.Eq.{bytes_eq-Decides}
use Rattle.std.specs.Str.{bytes_eq}
use Rattle.auth_tables.specs.Keys.{UserKey, key_of}
use Rattle.wire_histories.specs.Legal.{Tables}
use Rattle.clean_runs.specs.KeyNames.{HasNoBlank, KeyNamesTellKeys, before_first, holds, is_this, key_in, key_name, named_by, same_key, same_password, with_number}

-- ---- the same key

self_bytes : (text : List ℕ) → bytes_eq text text ≡ true
self_bytes text = (bytes_eq-Decides text text).1 refl

self_password : (password : Option (List ℕ)) → same_password password password ≡ true
self_password None = refl
self_password (Some text) = self_bytes text

self_key : (key : UserKey) → same_key key key ≡ true
self_key key = ap (λ (b : Bool). b && same_password key.password key.password) (self_bytes key.des) ∙ self_password key.password

one_password : (a b : Option (List ℕ)) → same_password a b ≡ true → a ≡ b
one_password None None same = refl
one_password (Some a) (Some b) same = ap Some ((bytes_eq-Decides a b).0 same)
one_password None (Some b) same = absurd (cc)
one_password (Some a) None same = absurd (cc)

one_key : (a b : UserKey) → same_key a b ≡ true → a ≡ b
one_key a b same =
    let parts = and_parts (bytes_eq a.des b.des) (same_password a.password b.password) same in
    ap (λ d. record { des = d; password = a.password }) ((bytes_eq-Decides a.des b.des).0 parts.0)
    ∙ ap (λ p. record { des = b.des; password = p }) (one_password a.password b.password parts.1)

pub is_here : (tables : Tables) (name : List ℕ) (key : UserKey) → key_of name tables.keys ≡ Some key → holds tables name key ≡ true
is_here tables name key has = ap (is_this key) has ∙ self_key key

found_by : (key : UserKey) (o : Option UserKey) → is_this key o ≡ true → o ≡ Some key
found_by key None is = absurd (cc)
found_by key (Some other) is = ap Some (one_key other key is)

-- ---- the first tables

pub none_in : (number : ℕ) (name : List ℕ) (key : UserKey) → key_in [] number name ≡ Some key → ⊥
none_in zero name key has = cc
none_in (suc number) name key has = cc

-- it stands among those up to where the user has the key
up_to : (tables : List Tables) (number : ℕ) (name : List ℕ) (key : UserKey) → key_in tables number name ≡ Some key → before_first (take number tables) name key ≡ before_first tables name key
up_to [] number name key has = absurd (none_in number name key has)
up_to (t ∷ more) zero name key has = sym (ap (λ (b : Bool). if b then 0 else suc (before_first more name key)) (is_here t name key has))
up_to (t ∷ more) (suc number) name key has = ap (λ n. if holds t name key then 0 else suc n) (up_to more number name key has)

-- and has him with the key
at_first : (tables : List Tables) (number : ℕ) (name : List ℕ) (key : UserKey) → key_in tables number name ≡ Some key → key_in tables (before_first tables name key) name ≡ Some key
at_first [] number name key has = absurd (none_in number name key has)
at_first (t ∷ more) number name key has = elim (cases_Bool (holds t name key)) [
  | inl first ↦ ap (λ (b : Bool). key_in (t ∷ more) (if b then 0 else suc (before_first more name key)) name) first ∙ found_by key (key_of name t.keys) first
  | inr later ↦ ap (λ (b : Bool). key_in (t ∷ more) (if b then 0 else suc (before_first more name key)) name) later ∙ at_first more (earlier number has later).0 name key (earlier number has later).1
]
  where
    earlier : (n : ℕ) → key_in (t ∷ more) n name ≡ Some key → holds t name key ≡ false → (m : ℕ) × (key_in more m name ≡ Some key)
    earlier zero here later = absurd (let both : true ≡ false = sym (is_here t name key here) ∙ later in cc)
    earlier (suc m) here later = (m, here)

few_before : (tables : List Tables) (name : List ℕ) (key : UserKey) → before_first tables name key ≤ length tables
few_before [] name key = omega arith
few_before (t ∷ more) name key = one_more (holds t name key) (before_first more name key) (length more) (few_before more name key)
  where
    one_more : (here : Bool) (n most : ℕ) → n ≤ most → (if here then 0 else suc n) ≤ suc most
    one_more true n most few = omega arith
    one_more false n most few = omega (arith, few)

-- ---- names with numbers

no_blank_in : (a b x : List ℕ) → HasNoBlank a → a ≡ b ++ 32 ∷ x → ⊥
no_blank_in [] [] x none is = cc
no_blank_in [] (d ∷ b) x none is = cc
no_blank_in (c ∷ a) [] x none is = All-head (λ b. b ≡ 32 → ⊥) c a none (let first : c ≡ 32 = cc in first)
no_blank_in (c ∷ a) (d ∷ b) x none is = no_blank_in a b x (All-tail (λ b. b ≡ 32 → ⊥) c a none) (let rest : a ≡ b ++ 32 ∷ x = cc in rest)

by_blank : (a b x y : List ℕ) → HasNoBlank a → HasNoBlank b → a ++ 32 ∷ x ≡ b ++ 32 ∷ y → (a ≡ b) × (x ≡ y)
by_blank [] [] x y no_a no_b is = (refl, (let rest : x ≡ y = cc in rest))
by_blank [] (d ∷ b) x y no_a no_b is = absurd (All-head (λ b. b ≡ 32 → ⊥) d b no_b (let first : d ≡ 32 = cc in first))
by_blank (c ∷ a) [] x y no_a no_b is = absurd (All-head (λ b. b ≡ 32 → ⊥) c a no_a (let first : c ≡ 32 = cc in first))
by_blank (c ∷ a) (d ∷ b) x y no_a no_b is =
    let rest = by_blank a b x y (All-tail (λ b. b ≡ 32 → ⊥) c a no_a) (All-tail (λ b. b ≡ 32 → ⊥) d b no_b) (let tail : a ++ 32 ∷ x ≡ b ++ 32 ∷ y = cc in tail) in
    let first : c ≡ d = cc in
    (ap (λ h. h ∷ a) first ∙ ap (λ t. d ∷ t) rest.0, rest.1)

by_number : (a b : List ℕ) (m n : ℕ) → HasNoBlank a → HasNoBlank b → m < 2 ^ 64 → n < 2 ^ 64 → with_number a m ≡ with_number b n → (a ≡ b) × (m ≡ n)
by_number a b zero zero no_a no_b small_m small_n is = (is, refl)
by_number a b zero (suc n) no_a no_b small_m small_n is = absurd (no_blank_in a b (decimal (suc n)) no_a is)
by_number a b (suc m) zero no_a no_b small_m small_n is = absurd (no_blank_in b a (decimal (suc m)) no_b (sym is))
by_number a b (suc m) (suc n) no_a no_b small_m small_n is =
    let parts = by_blank a b (decimal (suc m)) (decimal (suc n)) no_a no_b is in
    (parts.0, decimal_injective (suc m) (suc n) small_m small_n parts.1)

-- ---- what they tell

named_so : (tables : List Tables) (number : ℕ) (name : List ℕ) (key : UserKey) → key_in tables number name ≡ Some key → key_name tables number name ≡ with_number name (before_first tables name key)
named_so tables number name key has = ap (named_by tables number name) has ∙ ap (with_number name) (up_to tables number name key has)

pub tell_keys : KeyNamesTellKeys
tell_keys tables e f a b j k few no_a no_b has_j has_k = (apart, together)
  where
    small : (name : List ℕ) (key : UserKey) → before_first tables name key < 2 ^ 64
    small name key = let most = few_before tables name key in omega (arith, most, few)

    apart : key_name tables e a ≡ key_name tables f b → (a ≡ b) × (j ≡ k)
    apart is =
        let both = by_number a b (before_first tables a j) (before_first tables b k) no_a no_b (small a j) (small b k) (sym (named_so tables e a j has_j) ∙ is ∙ named_so tables f b k has_k) in
        let keys : Some j ≡ Some k = sym (at_first tables e a j has_j) ∙ ap (λ n. key_in tables n a) both.1 ∙ ap (key_in tables (before_first tables b k)) both.0 ∙ at_first tables f b k has_k in
        (both.0, (let one : j ≡ k = cc in one))

    together : (a ≡ b) × (j ≡ k) → key_name tables e a ≡ key_name tables f b
    together same = named_so tables e a j has_j ∙ ap (λ n. with_number n (before_first tables n j)) same.0 ∙ ap (λ key. with_number b (before_first tables b key)) same.1 ∙ sym (named_so tables f b k has_k)

-- in the first tables they are the users' names
pub first_name : (tables : List Tables) (name : List ℕ) (key : Option UserKey) → named_by tables 0 name key ≡ name
first_name tables name None = refl
first_name tables name (Some key) = refl
