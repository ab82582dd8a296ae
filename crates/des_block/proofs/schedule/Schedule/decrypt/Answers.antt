use Rattle.std.proofs.Common.{ℕ, List, Bool, ap, ◌∙◌, map, reverse}
use Rattle.des_block.specs.Bits.{binary, bytes_of}
use Rattle.des_block.specs.Rounds.{decrypt_bits, encrypt_bits}
use Rattle.des_block.specs.Schedule.{deciphered_with, enciphered_with}
use Rattle.des_block.proofs.CipherLaws.{deciphered_with_undone}
use Rattle.des_block.proofs.WordLaws.{spelled_in_reverse}
use Rattle.des_block.proofs.schedule.Schedule.decrypt.Goals as goal

pub returns-clause-value : goal.returns-clause-value
unfolding deciphered_with decrypt_bits
returns-clause-value c =
    c.block_of.ensures
    ∙ ap (bytes_of 8)
    (c.encipher.ensures
    ∙ ap (λ (keys : List ℕ). encrypt_bits (map (binary 48) keys) (binary 64 c.word_of.result)) c.reverse.ensures.after
    ∙ ap (λ (keys : List (List Bool)). encrypt_bits keys (binary 64 c.word_of.result)) (spelled_in_reverse (binary 48) c.self.inside.keys ∙ ap reverse c.self.view_is)
    ∙ ap (encrypt_bits (reverse c.args.self.now)) c.word_of.ensures.value)

pub returns-clause-undone : goal.returns-clause-undone
returns-clause-undone c =
    ap (λ (bytes : List ℕ). enciphered_with c.args.self.now bytes) (returns-clause-value c)
    ∙ deciphered_with_undone c.args.self.now c.args.block c.word_of.ensures.block
