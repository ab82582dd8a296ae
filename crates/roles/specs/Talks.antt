-- What a conversation met, and what a call of it comes to. A talk is the list of its calls, the newest first. Each call
-- is a move that passes, or changes nothing, or breaks the conversation. What its stages are is its role's.
use Rattle.std.specs.Prelude.{ℕ, List, nat_lt, length, Option, Some, None, if◌then◌else◌}
use Rattle.wire_base.specs.Rules.{Rule, first_told}
use Rattle.roles.specs.declared.key.SkKey.{SkKey}
use Rattle.roles.specs.declared.answer.Cause.{Cause}
use Rattle.roles.specs.declared.answer.Gave.{Gave}
use Rattle.roles.specs.declared.answer.Gave.TheVariants.{TooSmall, TooLong}

pub data Call : Type 0 where
  -- a message is given to it
  give : (bytes : List ℕ) → Call
  -- a message is got from it
  get : Call
  -- the key that it needs was found, and has this password, if it has one
  found : (key : SkKey) (password : Option (List ℕ)) → Call
  -- the authentication server answered
  heard : (bytes : List ℕ) → Call
  -- the authentication server wasn't reached
  unheard : Call
  -- there was no memory for the authentication server's answer
  roomless : Call
  -- the call that wanted a key is taken back
  undone : Call
  -- the offers of the keys that serve, as a list of words, empty where none serves
  offered : (list : List ℕ) → Call
  -- one of the templates that were to be picked from, by its place
  picked : (place : ℕ) → Call

-- how far a conversation has come, and why it is broken, if it is; the moves that passed stay what they were
pub record Progress (S : Type 0) : Type 0 where
  pub stage : S
  pub broken : Option Cause

-- what a call comes to
pub data Verdict (S : Type 0) : Type 0 where
  -- the move passed: the next stage, the answer, and the bytes that are got
  goes : (next : S) (answer : Gave) (bytes : List ℕ) → Verdict S
  -- nothing changes
  stays : (answer : Gave) → Verdict S
  -- the conversation is broken
  breaks : (cause : Cause) → Verdict S

-- a message of fixed length: fewer bytes are too few, and more are too many
abbrev pub sized : {S : Type 0} → ℕ → List ℕ → Verdict S → Verdict S
sized size bytes whole =
    if nat_lt (length bytes) size then stays (TooSmall size)
    else if nat_lt size (length bytes) then stays TooLong
    else whole

-- what follows where no test is failed; else the cause of the first that is
abbrev pub unless_told : {S : Type 0} → Option Cause → Verdict S → Verdict S
unless_told None passed = passed
unless_told (Some cause) passed = breaks cause

abbrev pub tested : {S : Type 0} → List (Rule Cause) → Verdict S → Verdict S
tested tests passed = unless_told (first_told tests) passed
