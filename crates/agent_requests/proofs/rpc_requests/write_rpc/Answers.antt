use Rattle.std.proofs.Common.{ℕ, Option, Ok, sym, subst, ◌∙◌}
use Rattle.talks.specs.Requests.{meant}
use Rattle.agent_history.specs.Requests.{stored}
use Rattle.agent_requests.specs.Sharing.{Shares}
use Rattle.agent_requests.specs.Connections.{asked}
use Rattle.agent_requests.proofs.KeepLemmas.{open_at}
use Rattle.agent_requests.proofs.RpcSteps.{write_through}
use Rattle.agent_requests.proofs.rpc_requests.write_rpc.Goals as goal

pub returns-clause-told : goal.returns-clause-told
returns-clause-told c =
    let a = c.args in
    let request = meant c.in_ok-request.request in
    λ done h.
    let is = c.conv_at-conv.ensures done h.talks.tells.talks.speak in
    let shares = c.in_ok-store_at.ensures.stored done (open_at done a.call.conn a.fid c.conv_at-conv.result is) h in
    write_through done (asked a.call) a.fid a.content.now request c.store_at.new.shared c.in_ok-reply.reply (sym (c.is_resting_at.ensures done h.talks.tells.talks.speak) ∙ c.if-not-is_resting_at.false) c.in_ok-request.ensures
    (subst (λ (o : Option ℕ). Shares (stored o (Ok request) done) c.store_at.new.shared) is shares) c.in_ok-reply.ensures
