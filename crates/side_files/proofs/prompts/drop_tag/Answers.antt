use Rattle.std.proofs.Common.{not, ◌==◌, rules}
use Rattle.std.proofs.lemmas.Fn.{filter_same}
use Rattle.side_files.specs.declared.prompt.Asker.{Asker}
use Rattle.side_files.proofs.prompts.drop_tag.Goals as goal

pub returns-clause-others : goal.returns-clause-others
returns-clause-others c = filter_same _ (λ (a : Asker). not (a.tag == c.args.tag)) _ (λ x b f k. search rules) c.args.askers.now.items c.retain.new.self.items c.retain.ensures.filtered
