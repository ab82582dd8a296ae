-- What a conversation meets when the authentication server is done with its question.
use Rattle.std.proofs.Common.{◌≡◌, List, false, refl}
use Rattle.talks.specs.declared.answer.RpcAnswer.TheVariants as r
use Rattle.conversations.proofs.WaitLaws.{heard_rests, roomless_rests, unheard_rests}
use Rattle.agent_history.specs.Deeds.{Deed}
use Rattle.agent_history.specs.Conversations.{talk}
use Rattle.agent_talks.specs.declared.server.Said.{Said}
use Rattle.agent_talks.specs.declared.server.Said.TheVariants as s
use Rattle.agent_talks.specs.Server.{call_of}
use Rattle.agent_talks.proofs.MeetLemmas.{Rests}
use Rattle.agent_talks.proofs.TemplateLaws.{carries_out}
use Rattle.agent_talks.proofs.WaitLemmas.{Leaves, heard_leaves, roomless_leaves, unheard_leaves}

-- there is an answer then
pub told_rests : (done : List Deed) (said : Said) → Rests done (call_of said)
told_rests done (s.Answer bytes) = λ conv asks. heard_rests (talk done conv) bytes.now asks
told_rests done s.Nothing = λ conv asks. (r.NoServer, unheard_rests (talk done conv) asks)
told_rests done s.NoRoom = λ conv asks. (r.NoRoom, roomless_rests (talk done conv) asks)

-- nobody is asked by it
pub told_leaves : (said : Said) → Leaves (call_of said)
told_leaves (s.Answer bytes) = heard_leaves bytes.now
told_leaves s.Nothing = unheard_leaves
told_leaves s.NoRoom = roomless_leaves

-- and it begins nothing
pub told_begins : (said : Said) → carries_out (call_of said) ≡ false
told_begins (s.Answer bytes) = refl
told_begins s.Nothing = refl
told_begins s.NoRoom = refl
