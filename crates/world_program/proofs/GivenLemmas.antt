-- The words of `gen` give so few rounds.
use Rattle.std.proofs.Common.{◌≡◌, ◌≤◌, ◌&&◌, ℕ, List, Bool, true, false, refl, ap, subst, codes, Option, Some, None}
use Rattle.std.specs.Prelude.{if◌then◌else◌, nat_le, nat_lt, unwrap_or}
use Rattle.std.proofs.lemmas.Bool.{leb-true}
use Rattle.auth_program.proofs.WordLemmas.{and_right}
use Rattle.world_program.specs.declared.words.GenWords.{GenWords}
use Rattle.world_program.specs.Words.{both, gen_given, gen_value, has_gen_form, plain_number, rounds_in}

same_rounds : (a b : GenWords) → Some a ≡ Some b → a.rounds ≡ b.rounds
same_rounds a b e = ap (λ (o : Option GenWords). (unwrap_or o a).rounds) e

few_where : (n k : ℕ) (b : Bool) (given : GenWords) → (b ≡ true → k ≤ 1000) → both (Some n) (if b then Some k else None) ≡ Some given → given.rounds ≤ 1000
few_where n k true given few e = subst (λ (r : ℕ). r ≤ 1000) (same_rounds (record { number = n; rounds = k }) given e) (few refl)
few_where n k false given few e = absurd (let f : None ≡ Some given = e in cc)

few_of : (b : Bool) (n r : Option ℕ) (given : GenWords) → (if b then both n (rounds_in r) else None) ≡ Some given → given.rounds ≤ 1000
few_of false n r given e = absurd (let f : None ≡ Some given = e in cc)
few_of true None r given e = absurd (let f : None ≡ Some given = e in cc)
few_of true (Some n) None given e = absurd (let f : None ≡ Some given = e in cc)
few_of true (Some n) (Some k) given e = few_where n k (nat_lt 0 k && nat_le k 1000) given (λ is. leb-true k 1000 (and_right (nat_lt 0 k) (nat_le k 1000) is)) e

pub few_rounds : (words : List (List ℕ)) (given : GenWords) → gen_given words ≡ Some given → given.rounds ≤ 1000
few_rounds words given e = few_of (has_gen_form words) (plain_number (gen_value (codes "--number") words)) (plain_number (gen_value (codes "--rounds") words)) given e
