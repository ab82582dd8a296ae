use Rattle.std.proofs.Common.{not, ◌==◌, rules}
use Rattle.std.proofs.lemmas.Fn.{filter_same}
use Rattle.agent_talks.specs.declared.question.Question.{Question}
use Rattle.agent_talks.proofs.question.drop_conv.Goals as goal

pub returns : goal.returns
returns c = filter_same _ (λ (q : Question). not (q.conv == c.args.conv)) _ (λ x b f k. search rules) c.args.questions.now.items c.retain.new.self.items c.retain.ensures.filtered
