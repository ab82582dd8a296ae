-- Of the code alone: tests that decide whether a reading spells the words of a record, place by place, and the same in
-- one pass in the order in which the record was made.
use Rattle.std.specs.Prelude.{ℕ, ◌+◌, ◌*◌, List, [], ◌∷◌, Bool, true, false, ◌&&◌, Option, Some, None}
use Rattle.std.specs.Str.{bytes_eq}
use Rattle.hex.specs.Hex.{encode_lower}
use Rattle.auth_server.specs.Answers.{word, word_key}
use Rattle.symbolic_runs.specs.Moves.{Role, client, server, mail_client, mail_server}
use Rattle.symbolic_runs.specs.Spellings.{Atoms, bytes_of}
use Rattle.symbolic_runs.specs.Trees.{Tree, challenge, junk_key, nonce, ticket_key}
use Rattle.wire_histories.specs.declared.step.Step.{Step}
use Rattle.wire_histories.specs.declared.step.Step.TheVariants.{Start, AsGot}
use Rattle.wire_histories.specs.Histories.{History}
use Rattle.clean_runs.specs.Labels.{requests_in, starts_in}
use Rattle.clean_runs.specs.Runs.{role_by}

-- it is so at each place: of the steps before it and of the step
abbrev pub at_each_place : History → (History → Step → Bool) → Bool
at_each_place [] test = true
at_each_place (step ∷ past) test = test past step && at_each_place past test

-- an atom has these bytes
abbrev pub is_read : Option (List ℕ) → List ℕ → Bool
is_read None b = false
is_read (Some text) b = bytes_eq text b

abbrev pub reads : Atoms → Tree → List ℕ → Bool
reads atoms atom b = is_read (bytes_of atoms atom) b

abbrev pub reads_word : Atoms → Role → ℕ → List ℕ → Bool
reads_word atoms client number random = reads atoms (nonce number) random
reads_word atoms server number random = reads atoms (nonce number) random
reads_word atoms (mail_client kind) number random = true
reads_word atoms (mail_server kind) number random = reads atoms (nonce number) random

abbrev pub reads_request : Atoms → ℕ → List (List ℕ) → Bool
reads_request atoms number words = reads atoms (challenge number) (encode_lower (word 0 words))
    && (reads atoms (ticket_key number) (word_key (word 0 words))
    && (reads atoms (junk_key (2 * number)) (word_key (word 1 words))
    && reads atoms (junk_key (2 * number + 1)) (word_key (word 2 words))))

-- a step with so many starts and so many requests before it
abbrev pub reads_numbered : Atoms → ℕ → ℕ → Step → Bool
reads_numbered atoms starts requests (Start conv protocol role random) =
    reads_word atoms (role_by protocol role) starts random
reads_numbered atoms starts requests (AsGot session b words) = reads_request atoms requests words
reads_numbered atoms starts requests step = true

abbrev pub reads_step : Atoms → History → Step → Bool
reads_step atoms past step = reads_numbered atoms (starts_in past) (requests_in past) step

-- how many starts there are behind a step, and how many requests
abbrev pub starts_after : ℕ → Step → ℕ
starts_after starts (Start conv protocol role random) = starts + 1
starts_after starts step = starts

abbrev pub requests_after : ℕ → Step → ℕ
requests_after requests (AsGot session b words) = requests + 1
requests_after requests step = requests

-- all steps, the first one first
abbrev pub read_in_order : Atoms → ℕ → ℕ → List Step → Bool
read_in_order atoms starts requests [] = true
read_in_order atoms starts requests (step ∷ steps) = reads_numbered atoms starts requests step
    && read_in_order atoms (starts_after starts step) (requests_after requests step) steps
