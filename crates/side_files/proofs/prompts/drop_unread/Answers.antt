use Rattle.std.proofs.Common.{not, ◌==◌, rules}
use Rattle.std.proofs.lemmas.Fn.{filter_same}
use Rattle.side_files.specs.declared.prompt.Prompt.{Prompt}
use Rattle.side_files.proofs.prompts.drop_unread.Goals as goal

pub returns-clause-others : goal.returns-clause-others
returns-clause-others c = filter_same _ (λ (p : Prompt). not (p.conv == c.args.conv)) _ (λ x b f k. search rules) c.args.prompts.now.items c.retain.new.self.items c.retain.ensures.filtered
