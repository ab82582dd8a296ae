use Rattle.std.proofs.Common.{List, Bool, ◌-◌, ◌^◌, bit_and, take, drop, sym, ap, refl, ◌∙◌}
use Rattle.des_block.specs.Tables.{PC1, left_shifts}
use Rattle.des_block.specs.Bits.{binary, bits_of, permuted}
use Rattle.des_block.specs.Schedule.{key_schedule, round_keys}
use Rattle.des_block.proofs.ParityLaws.{same_schedule}
use Rattle.des_block.proofs.WordLaws.{front_half, back_half}
use Rattle.des_block.proofs.schedule.Schedule.new.Goals as goal

pub returns-clause-value : goal.returns-clause-value
unfolding key_schedule PC1 left_shifts permuted
returns-clause-value c =
    let chosen = permuted PC1 (bits_of c.args.key.now) in
    let word = c.look_up-chosen.result in
    let is_chosen = c.look_up-chosen.ensures PC1 refl ∙ ap (permuted PC1) c.word_of.ensures.value in
    c.make_round_keys.ensures
    ∙ ap (λ (bits : List Bool). round_keys left_shifts bits (binary 28 (bit_and word (2 ^ 28 - 1)))) (front_half word ∙ ap (take 28) is_chosen)
    ∙ ap (round_keys left_shifts (take 28 chosen)) (back_half word ∙ ap (drop 28) is_chosen)

pub returns-clause-parity_plays_no_part : goal.returns-clause-parity_plays_no_part
returns-clause-parity_plays_no_part c other same = sym (same_schedule c.args.key.now other same) ∙ sym (returns-clause-value c)
