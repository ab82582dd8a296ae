use Rattle.std.proofs.Common.{ℕ, List, Bool, ap, ◌∙◌}
use Rattle.des_block.specs.Bits.{binary, bytes_of}
use Rattle.des_block.specs.Rounds.{encrypt_bits}
use Rattle.des_block.specs.Schedule.{deciphered_with, enciphered_with}
use Rattle.des_block.proofs.CipherLaws.{enciphered_with_undone}
use Rattle.des_block.proofs.schedule.Schedule.encrypt.Goals as goal

pub returns-clause-value : goal.returns-clause-value
unfolding enciphered_with
returns-clause-value c =
    c.block_of.ensures
    ∙ ap (bytes_of 8)
    (c.encipher.ensures
    ∙ ap (λ (keys : List (List Bool)). encrypt_bits keys (binary 64 c.word_of.result)) c.self.view_is
    ∙ ap (encrypt_bits c.args.self.now) c.word_of.ensures.value)

pub returns-clause-undone : goal.returns-clause-undone
returns-clause-undone c =
    ap (λ (bytes : List ℕ). deciphered_with c.args.self.now bytes) (returns-clause-value c)
    ∙ enciphered_with_undone c.args.self.now c.args.block c.word_of.ensures.block
