use Rattle.std.proofs.Common.{not, rules}
use Rattle.std.specs.Str.{bytes_eq}
use Rattle.std.proofs.lemmas.Fn.{filter_same}
use Rattle.world_run.specs.declared.fids.Open.{Open}
use Rattle.world_run.proofs.node.Node.close.Goals as goal

pub returns-clause-held : goal.returns-clause-held
returns-clause-held c = filter_same _ (λ (one : Open). not (bytes_eq one.conv c.args.conv.now)) _ (λ x b f k. search rules) c.args.self.now.held.items c.retain.new.self.items c.retain.ensures.filtered
