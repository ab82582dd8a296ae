-- What is shown of keys: no secret, each domain once, and as many offers as fit.
use Rattle.std.proofs.Common.{◌≡◌, ℕ, ◌+◌, ◌-◌, ◌<◌, ◌≤◌, List, [], ◌∷◌, ◌++◌, Bool, true, false, not, length, map, refl, sym, ap, ◌∙◌, inl, inr, arith, codes, length-append}
use Rattle.std.specs.List.{filter, list_any, flat_map, join_with_byte, AllPairs}
use Rattle.std.specs.Str.{bytes_eq}
use Rattle.std.proofs.lemmas.Bool.{cases_Bool, cases_lt, not-true, not_from_false, lt-ltb, le-ltb}
use Rattle.std.proofs.lemmas.Slice.Eq.{bytes_eq-Decides}
use Rattle.std.proofs.lemmas.List.Kept.{AllPairs-cons, AllPairs-filter}
use Rattle.std.proofs.lemmas.List.Elements.{filter_passes}
use Rattle.std.proofs.lemmas.Map.Views.{any-filter_same}
use Rattle.attr_tuples.specs.declared.attr.Attr.{Attr}
use Rattle.attr_tuples.specs.Printing.{hidden, printed_text, public_text}
use Rattle.key_lists.specs.Lists.{KeyEntry, KeyList}
use Rattle.key_lists.specs.Listing.{key_text, list_text, each_once, fitting, offers_text}

-- ---- the text of ctl

-- the text of keys whose secrets are hidden already
hidden_text : List (List Attr) → List ℕ
hidden_text keys = flat_map (λ (key : List Attr). codes "key " ++ printed_text key ++ 10 ∷ []) keys

text_of_hidden : (keys : List KeyEntry) → flat_map (λ (key : KeyEntry). key_text key.tuple) keys ≡ hidden_text (map (λ (key : KeyEntry). map hidden key.tuple) keys)
unfolding hidden_text key_text public_text
text_of_hidden [] = refl
text_of_hidden (key ∷ keys) = ap (λ (rest : List ℕ). (codes "key " ++ printed_text (map hidden key.tuple) ++ 10 ∷ []) ++ rest) (text_of_hidden keys)

pub list_text_alike : (a b : KeyList) → map (λ (key : KeyEntry). map hidden key.tuple) a.keys ≡ map (λ (key : KeyEntry). map hidden key.tuple) b.keys → list_text a ≡ list_text b
unfolding list_text
list_text_alike a b e = text_of_hidden a.keys ∙ ap hidden_text e ∙ sym (text_of_hidden b.keys)

-- ---- each domain once

abbrev pub Differ : List ℕ → List ℕ → Type 0
Differ x y = bytes_eq x y ≡ false

pub once_apart : (xs : List (List ℕ)) → AllPairs Differ (each_once xs)
once_apart [] = λ i j d lt le. absurd (omega arith)
once_apart (x ∷ xs) =
    let other : List ℕ → Bool = λ y. not (bytes_eq x y) in
    AllPairs-cons Differ x (filter other (each_once xs)) (λ k d lt. not-true _ (filter_passes other (each_once xs) k d lt)) (AllPairs-filter Differ other (each_once xs) (once_apart xs))

-- a text that isn't x is kept where x is dropped
others_kept : (x y : List ℕ) (xs : List (List ℕ)) → bytes_eq y x ≡ false → list_any (bytes_eq y) (filter (λ z. not (bytes_eq x z)) xs) ≡ list_any (bytes_eq y) xs
others_kept x y xs ne =
    any-filter_same (bytes_eq y) (λ z. not (bytes_eq x z)) true
    (λ z is. not_from_false _ (elim (cases_Bool (bytes_eq x z)) [
      | inl e ↦ absurd (let same : y ≡ x = (bytes_eq-Decides y z).0 is ∙ sym ((bytes_eq-Decides x z).0 e) in cc ((bytes_eq-Decides y x).1 same))
      | inr e ↦ e
    ])) xs

pub once_keeps : (y : List ℕ) (xs : List (List ℕ)) → list_any (bytes_eq y) (each_once xs) ≡ list_any (bytes_eq y) xs
once_keeps y [] = refl
once_keeps y (x ∷ xs) =
    elim (cases_Bool (bytes_eq y x)) [
      | inl e ↦ simp e
      | inr e ↦ simp e (others_kept x y (each_once xs) e ∙ once_keeps y xs)
    ]

-- ---- as many as fit

-- the bytes of words, each with one behind it
abbrev pub spread : List (List ℕ) → ℕ
spread [] = 0
spread (word ∷ words) = length word + 1 + spread words

spread_joined : (word : List ℕ) (words : List (List ℕ)) → length (join_with_byte 32 (word ∷ words)) + 1 ≡ spread (word ∷ words)
spread_joined word [] = omega arith
spread_joined word (next ∷ words) = omega (arith, length-append word (32 ∷ join_with_byte 32 (next ∷ words)), spread_joined next words)

spread_push : (words : List (List ℕ)) (word : List ℕ) → spread (words ++ word ∷ []) ≡ spread words + length word + 1
spread_push [] word = omega arith
spread_push (first ∷ words) word = omega (arith, spread_push words word)

pub fitting_front : (room : ℕ) (words : List (List ℕ)) → (rest : List (List ℕ)) × (words ≡ fitting room words ++ rest)
fitting_front room [] = ([], refl)
fitting_front room (word ∷ words) = elim (cases_lt (length word) room) [
  | inl lt ↦ (let more = fitting_front (room - (length word + 1)) words in (more.0, rw lt-ltb (ap (λ (ws : List (List ℕ)). word ∷ ws) more.1)))
  | inr le ↦ (word ∷ words, rw le-ltb refl)
]

fitting_spread : (room : ℕ) (words : List (List ℕ)) → spread (fitting room words) ≤ room
fitting_spread room [] = omega arith
fitting_spread room (word ∷ words) = elim (cases_lt (length word) room) [
  | inl lt ↦ rw lt-ltb (omega (arith, fitting_spread (room - (length word + 1)) words))
  | inr le ↦ rw le-ltb (omega arith)
]

fitting_full : (room : ℕ) (words rest : List (List ℕ)) (word : List ℕ) → words ≡ fitting room words ++ word ∷ rest → room ≤ spread (fitting room words) + length word
fitting_full room [] rest word e = absurd cc
fitting_full room (first ∷ words) rest word e = elim (cases_lt (length first) room) [
  | inl lt ↦ (let t : first ∷ words ≡ first ∷ (fitting (room - (length first + 1)) words ++ word ∷ rest) = rw lt-ltb at e in
      let more : words ≡ fitting (room - (length first + 1)) words ++ word ∷ rest = cc in
      rw lt-ltb (omega (arith, fitting_full (room - (length first + 1)) words rest word more)))
  | inr le ↦ (let f : first ∷ words ≡ word ∷ rest = rw le-ltb at e in
      let same : first ≡ word = cc in
      rw le-ltb (omega (arith, ap (length {A = ℕ}) same)))
]

-- the text of the offers that fit isn't longer than the room but for the byte behind it
pub fitting_short : (room : ℕ) (words : List (List ℕ)) → 1 ≤ room → length (offers_text (fitting room words)) < room
unfolding offers_text
fitting_short room words some = joined_short room (fitting room words) some (fitting_spread room words)
  where
    joined_short : (room : ℕ) (words : List (List ℕ)) → 1 ≤ room → spread words ≤ room → length (join_with_byte 32 words) < room
    joined_short room [] some le = omega arith
    joined_short room (word ∷ words) some le = omega (arith, spread_joined word words)

-- and with one more it would be
pub fitting_most : (room : ℕ) (words rest : List (List ℕ)) (word : List ℕ) → words ≡ fitting room words ++ word ∷ rest → room ≤ length (offers_text (fitting room words ++ word ∷ []))
unfolding offers_text
fitting_most room words rest word e =
    let joined : length (join_with_byte 32 (fitting room words ++ word ∷ [])) + 1 ≡ spread (fitting room words ++ word ∷ []) = joined_push (fitting room words) word in
    omega (arith, joined, spread_push (fitting room words) word, fitting_full room words rest word e)
  where
    joined_push : (words : List (List ℕ)) (word : List ℕ) → length (join_with_byte 32 (words ++ word ∷ [])) + 1 ≡ spread (words ++ word ∷ [])
    joined_push [] word = spread_joined word []
    joined_push (first ∷ words) word = spread_joined first (words ++ word ∷ [])
