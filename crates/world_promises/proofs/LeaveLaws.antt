-- Each request leaves in the talk of its conversation what is recorded of it, and so does each answer of the authentication
-- server.
use Rattle.std.proofs.Common.{ℕ, List}
use Rattle.roles.specs.Talks.{heard, unheard}
use Rattle.talks.specs.Requests as rpc
use Rattle.talks.specs.Standings.{Waiting}
use Rattle.wire_histories.specs.Histories.{answered, unanswered}
use Rattle.world_promises.specs.Telling.{AnswersLeave, RequestsLeave}
use Rattle.world_promises.proofs.StartLaws.{start_left}
use Rattle.world_promises.proofs.RequestLaws.{heard_left, read_left, unheard_left}
use Rattle.world_promises.proofs.WriteLaws.{write_left}

pub requests_leave : RequestsLeave
requests_leave begun said word (rpc.starts text) now none driven later = start_left begun (Waiting (rpc.starts text)) said word text now later
requests_leave begun said word rpc.reads now none driven later = read_left begun (Waiting rpc.reads) said word now none later
requests_leave begun said word (rpc.writes m) now none driven later = write_left begun (Waiting (rpc.writes m)) said word m now none later
requests_leave begun said word rpc.asks_info now none driven later = cc driven
requests_leave begun said word rpc.asks_attributes now none driven later = cc driven

pub answers_leave : (bytes : List ℕ) → AnswersLeave (heard bytes) (answered bytes)
answers_leave bytes b starting said asked = heard_left b starting said bytes asked

pub absence_leaves : AnswersLeave unheard unanswered
absence_leaves b starting said asked = unheard_left b starting said asked
