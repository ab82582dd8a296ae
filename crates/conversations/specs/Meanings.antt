-- What a conversation keeps, in the words of the definitions.
use Rattle.talks.specs.Requests.{RpcRequest, starts, reads, writes, asks_info, asks_attributes}
use Rattle.talks.specs.Standings.{Phase, Resting, Waiting, Seeking, OnConfirm, OnNeedkey, OnServer, Kept}
use Rattle.conversations.specs.declared.phase.Stored.{Stored}
use Rattle.conversations.specs.declared.phase.Stored.TheVariants as kept
use Rattle.conversations.specs.declared.phase.Phase.{Phase as HeldPhase}
use Rattle.conversations.specs.declared.phase.Phase.TheVariants as held

abbrev pub request_of : Stored → RpcRequest
request_of (kept.Start template) = starts template
request_of kept.Read = reads
request_of (kept.Write message) = writes message
request_of kept.AuthInfo = asks_info
request_of kept.Attr = asks_attributes

abbrev pub phase_of : HeldPhase → Phase
phase_of held.Resting = Resting
phase_of (held.Waiting request) = Waiting (request_of request)
phase_of held.Seeking = Seeking
phase_of (held.OnConfirm serial) = OnConfirm serial
phase_of (held.OnNeedkey template) = OnNeedkey
phase_of held.OnServer = OnServer
phase_of (held.Kept answer) = Kept answer
