-- What a run of the bench computes: a cipher that is applied again and again, each time to its own
-- last result, from a fixed first input on.
use Rattle.std.specs.Prelude.{ℕ, zero, suc, List, [], ◌∷◌, ◌++◌, codes, drop, replicate}
use Rattle.des_block.specs.Schedule.{enciphered}
use Rattle.sealing.specs.Passwords.{password_key}
use Rattle.sealing.specs.Sealing.{sealed}
use Rattle.sealing.specs.Answer.{cram_digits}
use Rattle.bench_work.specs.declared.work.Work.{Work}
use Rattle.bench_work.specs.declared.work.Work.TheVariants.{Encrypt, Seal, Cram, Keyed, Password, Tickets}

-- the step applied n times, each time to its own last result
unfoldable pub repeated : (List ℕ → List ℕ) → ℕ → List ℕ → List ℕ
repeated step zero first = first
repeated step (suc n) first = step (repeated step n first)

-- the key of the blocks
abbrev pub des_key : List ℕ
des_key = 0x13 ∷ 0x34 ∷ 0x57 ∷ 0x79 ∷ 0x9b ∷ 0xbc ∷ 0xdf ∷ 0xf1 ∷ []

-- the first block
abbrev pub first_block : List ℕ
first_block = 0x01 ∷ 0x23 ∷ 0x45 ∷ 0x67 ∷ 0x89 ∷ 0xab ∷ 0xcd ∷ 0xef ∷ []

-- the key of the seal
abbrev pub seal_key : List ℕ
seal_key = 0x12 ∷ 0x69 ∷ 0x5b ∷ 0xc9 ∷ 0xb7 ∷ 0xb7 ∷ 0xf8 ∷ []

-- the first text that is sealed
abbrev pub first_text : List ℕ
first_text = replicate 1024 0

-- the secret of the answers
abbrev pub secret : List ℕ
secret = codes "tanstaaftanstaaf"

-- the challenge of the first answer
abbrev pub first_challenge : List ℕ
first_challenge = codes "<0123456789abcdef@dbc.mtview.ca>"

-- the key of the second ticket
abbrev pub other_key : List ℕ
other_key = 0x0e ∷ 0x32 ∷ 0x92 ∷ 0x32 ∷ 0xea ∷ 0x6d ∷ 0x0d ∷ []

-- the first ticket
abbrev pub first_ticket : List ℕ
first_ticket = replicate 72 0

-- a text sealed under one key and then under another
abbrev pub sealed_by_both : List ℕ → List ℕ → List ℕ → List ℕ
sealed_by_both one other text = sealed other (sealed one text)

-- the first password, and what stands in its place behind a round: its key in the place of its first
-- seven bytes
abbrev pub first_password : List ℕ
first_password = codes "correct horse battery stapl"

unfoldable pub next_password : List ℕ → List ℕ
next_password last = password_key last ++ drop 7 last

-- what so many rounds of the work make of its first input: DES of a block, the tickets' seal of a text,
-- CRAM-MD5's answer to a challenge, DES of a block under itself, the key of a password, or the seals of
-- a pair of tickets
unfoldable pub final_bytes : Work → ℕ → List ℕ
final_bytes Encrypt rounds = repeated (enciphered des_key) rounds first_block
final_bytes Seal rounds = repeated (sealed seal_key) rounds first_text
final_bytes Cram rounds = repeated (λ last. cram_digits last secret) rounds first_challenge
final_bytes Keyed rounds = repeated (λ last. enciphered last last) rounds first_block
final_bytes Password rounds = repeated next_password rounds first_password
final_bytes Tickets rounds = repeated (sealed_by_both seal_key other_key) rounds first_ticket
