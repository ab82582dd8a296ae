use Rattle.std.proofs.lemmas.Result.{on_ok_weaker}
use Rattle.agent_talks.proofs.SpeakLemmas.{opened_speak}
use Rattle.agent_talks.proofs.held.Talks.open.Goals as goal

pub returns-clause-opened : goal.returns-clause-opened
returns-clause-opened c = on_ok_weaker c.open_at.result (λ opens done mode rpc h. opened_speak done c.args.self.now c.open_at.new.self c.args.conn c.args.fid mode rpc opens h) c.open_at.ensures.opens
