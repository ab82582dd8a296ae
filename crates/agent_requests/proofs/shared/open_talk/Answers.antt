use Rattle.std.proofs.Common.{sym, ◌∙◌}
use Rattle.std.proofs.lemmas.Result.{on_ok_weaker}
use Rattle.agent_history.specs.Deeds.{fid_of}
use Rattle.agent_talks.proofs.DeedLemmas.{elsewhere_logs}
use Rattle.agent_requests.proofs.FidLemmas.{names_rpc}
use Rattle.agent_requests.proofs.shared.open_talk.Goals as goal

pub returns-then-is_rpc-clause-opened : goal.returns-then-is_rpc-clause-opened
returns-then-is_rpc-clause-opened c =
    let a = c.args in
    on_ok_weaker c.open.result (λ opened done mode held named h. opened done mode (names_rpc (fid_of done a.conn a.fid) a.node held named ∙ (sym c.is_rpc.ensures ∙ c.if-is_rpc.true)) h) c.open.ensures.opened

pub returns-clause-opened : goal.returns-clause-opened
returns-clause-opened c =
    let a = c.args in
    λ done mode held named h. elsewhere_logs done a.talks.now a.conn a.fid mode (names_rpc (fid_of done a.conn a.fid) a.node held named ∙ (sym c.is_rpc.ensures ∙ c.if-is_rpc.false)) h
