use Rattle.std.proofs.Common.{not, rules}
use Rattle.std.proofs.lemmas.Fn.{filter_same}
use Rattle.key_ring.specs.Ranks.{matched, numbered}
use Rattle.key_ring.proofs.IndexLemmas.{index_unmatched}
use Rattle.key_ring.proofs.index.drop_matching.Goals as goal

pub returns-clause-index : goal.returns-clause-index
returns-clause-index c =
    index_unmatched c.args.template.now c.args.order c.args.keys.now c.args.serials.now.items c.retain.new.self.items c.requires.index
    (filter_same _ (λ serial. not (matched c.args.template.now (numbered c.args.keys.now serial))) _ (λ x b f k. search rules) c.args.serials.now.items c.retain.new.self.items c.retain.ensures.filtered)
