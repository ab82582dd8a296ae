use Rattle.std.proofs.lemmas.Result.{on_ok_weaker}
use Rattle.conversations.specs.Meanings.{request_of}
use Rattle.talks.specs.Standings.{carried_out}
use Rattle.conversations.proofs.ReadyLemmas.{carried_ready}
use Rattle.conversations.proofs.conversation.Conversation.answer_and_search.Goals as goal

pub returns-else-is_err-clause-ready : goal.returns-else-is_err-clause-ready
returns-else-is_err-clause-ready c =
    on_ok_weaker c.search-done.result (λ ready s carries.
    ready (carried_out s c.args.word (request_of c.args.request.now)) (c.in_ok-answer_request.ensures.met s carries)
    (carried_ready s c.args.word (request_of c.args.request.now) c.args.asking c.args.ring.now c.args.asks.now)) c.search-done.ensures.ready
