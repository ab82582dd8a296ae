-- The steps of the loops over the rounds and the key schedule.
use Rattle.std.proofs.Common.{◌≡◌, ℕ, ◌+◌, ◌<◌, ◌≤◌, Bool, List, [], ◌∷◌, ◌++◌, length, take, drop, get_or, refl, sym, ap, ◌∙◌}
use Rattle.std.proofs.Math.ListN.{set}
use Rattle.std.proofs.lemmas.List.{append-nil, append_assoc, take_more_set, drop_more, drop_all, take_all}
use Rattle.des_block.specs.Bits.{permuted, xored}
use Rattle.des_block.specs.Tables.{PC2}
use Rattle.des_block.specs.Rounds.{selected, cipher_function, after_rounds}
use Rattle.des_block.specs.Schedule.{shifted_left, round_keys}

pub length-selected : (table : List ℕ) (six : List Bool) → length (selected table six) ≡ 4
unfolding selected
length-selected table six = refl

-- a round
pub round_step : (keys : List (List Bool)) (i : ℕ) (left right next key : List Bool) → i < length keys → key ≡ get_or keys i [] → next ≡ xored left (cipher_function right key) → after_rounds (drop (i + 1) keys) right next ≡ after_rounds (drop i keys) left right
unfolding after_rounds
round_step keys i left right next key l is made =
    ap (λ (bits : List Bool). after_rounds (drop (i + 1) keys) right bits) (made ∙ ap (λ (k : List Bool). xored left (cipher_function right k)) is)
    ∙ sym (ap (λ (rest : List (List Bool)). after_rounds rest left right) (drop_more keys i [] l))

-- no round is left
pub rounds_all : (keys : List (List Bool)) (i : ℕ) (left right : List Bool) → length keys ≤ i → after_rounds (drop i keys) left right ≡ (left, right)
unfolding after_rounds
rounds_all keys i left right l = ap (λ (rest : List (List Bool)). after_rounds rest left right) (drop_all i keys l)

-- a round key
pub key_step : (shifts : List ℕ) (keys : List (List Bool)) (i : ℕ) (c d c' d' key : List Bool) → i < length shifts → i < length keys → c' ≡ shifted_left (get_or shifts i 0) c → d' ≡ shifted_left (get_or shifts i 0) d → key ≡ permuted PC2 (c' ++ d') → take (i + 1) (set keys i key) ++ round_keys (drop (i + 1) shifts) c' d' ≡ take i keys ++ round_keys (drop i shifts) c d
unfolding round_keys
key_step shifts keys i c d c' d' key ls lk isc isd isk =
    ap (λ (xs : List (List Bool)). xs ++ round_keys (drop (i + 1) shifts) c' d') (take_more_set keys i key lk)
    ∙ append_assoc (take i keys) (key ∷ []) _
    ∙ ap (λ (xs : List (List Bool)). take i keys ++ xs)
    (ap (λ (k : List Bool). k ∷ round_keys (drop (i + 1) shifts) c' d') isk
    ∙ ap (λ (k : List Bool). permuted PC2 (k ++ d') ∷ round_keys (drop (i + 1) shifts) k d') isc
    ∙ ap (λ (k : List Bool). permuted PC2 (shifted_left (get_or shifts i 0) c ++ k) ∷ round_keys (drop (i + 1) shifts) (shifted_left (get_or shifts i 0) c) k) isd
    ∙ sym (ap (λ (rest : List ℕ). round_keys rest c d) (drop_more shifts i 0 ls)))

pub keys_all : (shifts : List ℕ) (keys : List (List Bool)) (i : ℕ) (c d : List Bool) → length shifts ≤ i → length keys ≤ i → take i keys ++ round_keys (drop i shifts) c d ≡ keys
unfolding round_keys
keys_all shifts keys i c d ls lk =
    ap (λ (rest : List ℕ). take i keys ++ round_keys rest c d) (drop_all i shifts ls) ∙ append-nil _ ∙ take_all i keys lk
