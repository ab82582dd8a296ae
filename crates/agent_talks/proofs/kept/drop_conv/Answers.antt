use Rattle.std.proofs.Common.{ℕ, not, ◌==◌, rules}
use Rattle.std.proofs.lemmas.Fn.{filter_same}
use Rattle.agent_talks.proofs.CallLemmas.{one_fewer_in}
use Rattle.agent_talks.proofs.kept.drop_conv.Goals as goal

pub returns-clause-others : goal.returns-clause-others
returns-clause-others c = filter_same _ (λ (n : ℕ). not (n == c.args.conv)) _ (λ x b f k. search rules) c.args.kept.now.items c.retain.new.self.items c.retain.ensures.filtered

pub returns-clause-fewer : goal.returns-clause-fewer
returns-clause-fewer c = λ is.
    one_fewer_in c.args.kept.now.items c.retain.new.self.items c.args.conv _ _ c.args.kept.now.ok.0 c.retain.new.self.ok.0
    (filter_same _ (λ (n : ℕ). not (n == c.args.conv)) _ (λ x b f k. search rules) c.args.kept.now.items c.retain.new.self.items c.retain.ensures.filtered) is
