-- The client of APOP and CRAM (RFC 1939, RFC 2195): an equation a move. The lengths that a challenge may have are this
-- project's.
use Rattle.std.specs.Prelude.{ℕ, List, [], nat_lt, length, Option, unwrap_or, if◌then◌else◌}
use Rattle.sealing.specs.Answer.{apop_digits, cram_digits}
use Rattle.roles.specs.declared.answer.Gave.TheVariants as g
use Rattle.roles.specs.Starts.{Start}
use Rattle.roles.specs.Talks.{Verdict, goes, stays}
use Rattle.conv_challenge.specs.declared.stage.TheConstants.{MOST_CHALLENGE}
use Rattle.conv_challenge.specs.declared.stage.Proto.{Proto}
use Rattle.conv_challenge.specs.declared.stage.Proto.TheVariants.{Apop, Cram}
use Rattle.conv_challenge.specs.declared.stage.Stage.{Stage}
use Rattle.conv_challenge.specs.declared.stage.Stage.TheVariants.{ClientKey, ClientSecond, ClientDone}
use Rattle.conv_challenge.specs.Starts.{proto_of}

-- a message of one byte to so many: no bytes are too few, and more are too many
abbrev pub bounded : {S : Type 0} → ℕ → List ℕ → Verdict S → Verdict S
bounded most b whole =
    if nat_lt (length b) 1 then stays (g.TooSmall 1)
    else if nat_lt most (length b) then stays g.TooLong
    else whole

-- ---- the first move: a challenge comes, and a key is found for it

abbrev pub challenge_given : List ℕ → Verdict Stage
challenge_given b = bounded MOST_CHALLENGE b (goes (ClientKey b) g.Wait [])

-- a key was found; one that has no password, which no ring gives for these protocols, has the empty one
abbrev pub password_came : List ℕ → Option (List ℕ) → Verdict Stage
password_came challenge password = goes (ClientSecond challenge (unwrap_or password [])) g.Ok []

-- ---- the second move: the digits

-- the digits that answer a challenge by a protocol
abbrev pub digits_by : Proto → List ℕ → List ℕ → List ℕ
digits_by Apop challenge password = apop_digits challenge password
digits_by Cram challenge password = cram_digits challenge password

abbrev pub digits_got : Start → List ℕ → List ℕ → Verdict Stage
digits_got start challenge password =
    goes (ClientDone challenge password) g.Ok (digits_by (proto_of start.template) challenge password)
