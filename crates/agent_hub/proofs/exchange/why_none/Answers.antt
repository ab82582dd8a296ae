use Rattle.agent_hub.proofs.ExchangeLemmas.{none_taken}
use Rattle.agent_hub.proofs.exchange.why_none.Goals as goal

pub returns : goal.returns
returns c = λ H stands. none_taken H c.args.conn c.take_all.result c.end_of.result c.args.out.now c.take_all.new.out c.take_all.new.self (c.requires H stands) (c.take_all.ensures H stands) c.end_of.ensures
