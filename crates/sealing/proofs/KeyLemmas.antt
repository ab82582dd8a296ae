-- Each byte of an expanded key has an odd number of ones, and without the parity bits the key is spelled.
use Rattle.std.proofs.Common.{◌≡◌, ℕ, ◌+◌, ◌*◌, ◌/◌, ◌%◌, ◌^◌, ◌<◌, ◌==◌, true, List, get_or, refl, sym, ap, ◌∙◌, arith, All, count_ones, eqb-true}
use lib.Count.{ones}
use Rattle.std.specs.List.{list_all, range_with_len}
use Rattle.std.proofs.Math.Nat.{div-div-eq-div-mul, div-eq_of_lt, div-one}
use Rattle.std.proofs.lemmas.Nat.{mod_below}
use Rattle.std.proofs.lemmas.List.Sums.{AllPass-from_list_all}
use Rattle.std.proofs.lemmas.List.Elements.{All-map}
use Rattle.std.proofs.lemmas.List.FromFn.{get_or-range_with_len}
use Rattle.sealing.specs.Keys.{expanded, group_of_seven, key_number, number_without_parity, with_parity}

-- seven bits with their parity bit have an odd number of ones, which is computed for each of the 128 cases
odd_with_parity : (seven : ℕ) → seven < 128 → count_ones (with_parity seven) % 2 ≡ 1
unfolding ones
odd_with_parity seven small =
    let odd = λ (n : ℕ). count_ones (with_parity n) % 2 == 1 in
    let computed : list_all odd (range_with_len 0 128) ≡ true = refl in
    let each : odd (get_or (range_with_len 0 128) seven 0) ≡ true = AllPass-from_list_all odd (range_with_len 0 128) computed seven 0 (omega arith) in
    let same : seven ≡ get_or (range_with_len 0 128) seven 0 = omega (arith, get_or-range_with_len 0 128 seven 0 small) in
    eqb-true _ _ (ap odd same ∙ each)

pub odd_expanded : (key : List ℕ) → All (λ byte. count_ones byte % 2 ≡ 1) (expanded key)
unfolding expanded
odd_expanded key =
    All-map (λ byte. count_ones byte % 2 ≡ 1) (λ i. with_parity (group_of_seven (key_number key) i)) (range_with_len 0 8)
    (λ k d l. odd_with_parity _ (mod_below _ 128 (omega arith)))

half_with_parity : (seven : ℕ) → with_parity seven / 2 ≡ seven
half_with_parity seven = omega arith

-- seven bits more of a number n, where m is what stands above them
seven_more : (m n weight : ℕ) → m ≡ n / (weight * 128) → 128 * m + with_parity (n / weight % 128) / 2 ≡ n / weight
seven_more m n weight e = omega (arith, e, div-div-eq-div-mul n weight 128, half_with_parity (n / weight % 128))

-- without the parity bits an expanded key spells the key
pub spelled_expanded : (key : List ℕ) → key_number key < 2 ^ 56 → number_without_parity (expanded key) ≡ key_number key
unfolding expanded
spelled_expanded key small =
    let n = key_number key in
    let none = sym (div-eq_of_lt small) in
    seven_more _ n 1 (seven_more _ n (2 ^ 7) (seven_more _ n (2 ^ 14) (seven_more _ n (2 ^ 21) (seven_more _ n (2 ^ 28) (seven_more _ n (2 ^ 35) (seven_more _ n (2 ^ 42) (seven_more 0 n (2 ^ 49) none)))))))
    ∙ div-one n
