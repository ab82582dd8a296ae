use Rattle.std.proofs.Common.{not, ◌==◌, rules}
use Rattle.std.proofs.lemmas.Fn.{filter_same}
use Rattle.mailboxes.specs.declared.wait.Wait.{Wait}
use Rattle.mailboxes.proofs.wait.drop_tag.Goals as goal

pub returns-clause-flushed : goal.returns-clause-flushed
returns-clause-flushed c = filter_same _ (λ (wait : Wait). not (wait.tag == c.args.tag)) _ (λ x b f k. search rules) c.args.waits.now.items c.retain.new.self.items c.retain.ensures.filtered
