-- A history written out, so that what is legal speaks of something: a client of APOP whose node has a key of the user
-- mrose with the password tanstaaf answers the challenge of RFC 1939, and its next read is told that it is done.
use Rattle.std.specs.Prelude.{ℕ, List, [], ◌∷◌, codes, Some, None, if◌then◌else◌}
use Rattle.std.specs.Str.{bytes_eq}
use Rattle.sealing.specs.Answer.{apop_digits}
use Rattle.roles.specs.declared.key.SkKey.{SkKey}
use Rattle.roles.specs.Starts.{Start, start_with}
use Rattle.roles.specs.Talks.{found}
use Rattle.roles.specs.Templates.{given_as}
use Rattle.wire_histories.specs.declared.step.Protocol.TheVariants.{Apop}
use Rattle.wire_histories.specs.declared.step.Role.TheVariants.{Client}
use Rattle.wire_histories.specs.declared.step.Step.TheVariants as step
use Rattle.wire_histories.specs.Histories.{History}
use Rattle.wire_histories.specs.Legal.{Setting, Spoken}

abbrev pub conv : List ℕ
conv = codes "c"

abbrev pub challenge : List ℕ
challenge = codes "<1896.697170952@dbc.mtview.ca.us>"

abbrev pub password : List ℕ
password = codes "tanstaaf"

abbrev pub eight_zeros : List ℕ
eight_zeros = 0 ∷ 0 ∷ 0 ∷ 0 ∷ 0 ∷ 0 ∷ 0 ∷ 0 ∷ []

abbrev pub mail_start : Start
mail_start = start_with (given_as (codes "proto") (codes "apop") ∷ given_as (codes "role") (codes "client")
    ∷ []) eight_zeros

abbrev pub mail_history : History
mail_history =
    step.Reply conv (codes "done")
    ∷ step.Out 0 conv (apop_digits challenge password)
    ∷ step.In conv challenge
    ∷ step.Start conv Apop Client eight_zeros
    ∷ []

-- the key that is found: whatever its DES key is
abbrev pub mail_key : List ℕ → SkKey
mail_key des = record { des = record { 0 = des }; user = codes "mrose"; dom = [] }

abbrev pub mail_spoken : List ℕ → Spoken
mail_spoken des = record {
  node = codes "a";
  start = mail_start;
  met = found (mail_key des) (Some password) ∷ [];
  key = Some (mail_key des, Some password);
}

-- the conversation is the one of that name; the authentication server knows nobody
abbrev pub mail_setting : List ℕ → Setting
mail_setting des = record {
  spoken = λ name. if bytes_eq conv name then Some (mail_spoken des) else None;
  dom = codes "x";
  tables = record { keys = []; speaks = [] } ∷ [];
}
