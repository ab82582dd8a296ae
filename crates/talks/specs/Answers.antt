-- What a request of rpc is answered by what its role answers. The texts stand where they are printed.
use Rattle.std.specs.Prelude.{ℕ, List, [], Bool, true, false, nat_le, length, codes, Option, Some, None, if◌then◌else◌}
use Rattle.attr_tuples.specs.declared.attr.Attr.{Attr}
use Rattle.attr_tuples.specs.Matching.{value_of}
use Rattle.attr_tuples.specs.Merging.{merged}
use Rattle.key_lists.specs.Lists.{KeyEntry}
use Rattle.key_ring.specs.DesKeys.{des_key}
use Rattle.roles.specs.declared.answer.Cause.{Cause}
use Rattle.roles.specs.declared.answer.Cause.TheVariants as c
use Rattle.roles.specs.declared.answer.Gave.{Gave}
use Rattle.roles.specs.declared.answer.Gave.TheVariants as g
use Rattle.roles.specs.declared.answer.PhaseWord.{PhaseWord}
use Rattle.roles.specs.declared.answer.PhaseWord.TheVariants as p
use Rattle.roles.specs.declared.answer.StartFault.{StartFault}
use Rattle.roles.specs.declared.answer.StartFault.TheVariants as f
use Rattle.roles.specs.declared.key.SkKey.{SkKey}
use Rattle.roles.specs.declared.need.Outcome.{Outcome}
use Rattle.roles.specs.declared.need.Outcome.TheVariants.{Running, Accepted, Finished, Broken}
use Rattle.talks.specs.declared.answer.RpcAnswer.{RpcAnswer}
use Rattle.talks.specs.declared.answer.RpcAnswer.TheVariants as a

-- a text, or none where it isn't there
abbrev pub text_or_none : Option (List ℕ) → List ℕ
text_or_none None = []
text_or_none (Some text) = text

-- what a role is told of a key: its DES key, its user and its domain
abbrev pub told_key : KeyEntry → SkKey
told_key key = record {
  des = record { 0 = des_key key.tuple };
  user = text_or_none (value_of (codes "user") key.tuple);
  dom = text_or_none (value_of (codes "dom") key.tuple);
}

-- the attributes of a key that was chosen
abbrev pub key_attrs : Option KeyEntry → List Attr
key_attrs None = []
key_attrs (Some key) = key.tuple

-- a start that is refused
abbrev pub start_answer : StartFault → RpcAnswer
start_answer f.SecretValue = a.SecretInTemplate
start_answer f.UnknownProto = a.UnknownProto
start_answer f.UnknownRole = a.UnknownRole
start_answer f.BadUser = a.BadUser
start_answer f.NoMemory = a.NoRoom

-- a role that breaks, with the key chosen before
abbrev pub cause_answer : Option KeyEntry → Cause → RpcAnswer
cause_answer key c.WrongKind = a.WrongKind
cause_answer key c.WrongChallenge = a.WrongChallenge
cause_answer key c.WrongUser = a.WrongUser
cause_answer key c.NotOffered = a.NotOffered
cause_answer key c.ServerSaidNo = a.ServerSaidNo
cause_answer key c.NoServer = a.NoServer
cause_answer key c.NoRoom = a.NoRoom
cause_answer key c.BadKey = a.BadKey (key_attrs key)

-- a call that isn't the next move
abbrev pub phase_answer : PhaseWord → RpcAnswer
phase_answer p.AwaitsRead = a.AwaitsRead
phase_answer p.AwaitsWrite = a.AwaitsWrite
phase_answer p.Broken = a.Broken

-- a call after the last move
abbrev pub done_answer : Bool → RpcAnswer
done_answer true = a.DoneHaveai
done_answer false = a.Done

-- a move of a role, where this is answered when it is done
abbrev pub move_answer : RpcAnswer → Option KeyEntry → Gave → RpcAnswer
move_answer well key g.Ok = well
move_answer well key g.Wait = well
move_answer well key (g.Phase word) = phase_answer word
move_answer well key (g.TooSmall size) = a.TooSmall size
move_answer well key g.TooLong = a.TooLong
move_answer well key (g.Done haveai) = done_answer haveai
move_answer well key g.BadKey = a.BadKey (key_attrs key)
move_answer well key (g.Refused cause) = cause_answer key cause
move_answer well key g.NoMemory = a.NoRoom

-- who was accepted, once the last move was made
abbrev pub accepted_answer : Outcome → RpcAnswer
accepted_answer (Accepted info) = a.Info info
accepted_answer Running = a.NoInfo
accepted_answer Finished = a.NoInfo
accepted_answer (Broken cause) = a.NoInfo

abbrev pub info_answer : Bool → Outcome → RpcAnswer
info_answer true outcome = accepted_answer outcome
info_answer false outcome = a.NoInfo

-- the attributes of a start together with those of the key, where there are few enough
abbrev pub attributes : List Attr → Option KeyEntry → List Attr
attributes template None = template
attributes template (Some key) =
    if nat_le (length (merged template key.tuple)) 36 then merged template key.tuple
    else template
