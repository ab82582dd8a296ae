use Rattle.std.proofs.Common.{ℕ, ap, ◌∙◌, arith, ◌≡◌, ◌%◌, count_ones, map}
use Rattle.std.proofs.lemmas.List.Elements.{All-same}
use Rattle.std.proofs.lemmas.List.FromFn.{fill_by_all}
use Rattle.std.specs.List.{range_with_len}
use Rattle.sealing.specs.Keys.{expanded, group_of_seven, number_without_parity, with_parity}
use Rattle.sealing.proofs.KeyLemmas.{odd_expanded, spelled_expanded}
use Rattle.sealing.proofs.keys.expand56.Goals as goal

pub returns-clause-value : goal.returns-clause-value
unfolding expanded
returns-clause-value c =
    fill_by_all (λ k. with_parity (group_of_seven c.key_bits-bits.result k)) c.loop-i.bytes 8 0 c.loop-i.invariant.0 (λ k l. c.loop-i.invariant.1 k (omega arith))
    ∙ ap (λ (n : ℕ). map (λ i. with_parity (group_of_seven n i)) (range_with_len 0 8)) c.key_bits-bits.ensures.value

pub returns-clause-odd : goal.returns-clause-odd
returns-clause-odd c = All-same (λ byte. count_ones byte % 2 ≡ 1) _ _ (returns-clause-value c) (odd_expanded c.args.key.now.0)

pub returns-clause-spelled : goal.returns-clause-spelled
returns-clause-spelled c = ap number_without_parity (returns-clause-value c) ∙ spelled_expanded c.args.key.now.0 (omega (arith, c.key_bits-bits.ensures.value, c.key_bits-bits.ensures.small))
