use Rattle.std.proofs.Common.{rules}
use Rattle.std.specs.Prelude.{is_some}
use Rattle.std.proofs.lemmas.Fn.{filter_same}
use Rattle.agent_talks.specs.declared.question.Question.{Question}
use Rattle.agent_talks.specs.Numbered.{kept_in}
use Rattle.agent_talks.proofs.held.keep_questions.Goals as goal

pub returns : goal.returns
returns c = filter_same _ (λ (q : Question). is_some (kept_in c.args.table.now q.conv)) _ (λ x b f k. search rules) c.args.questions.now.items c.retain.new.self.items c.retain.ensures.filtered
