use Rattle.std.proofs.Common.{refl}
use Rattle.agent_talks.proofs.AskLemmas.{dropped}
use Rattle.agent_talks.proofs.held.Talks.drop_questions.Goals as goal

pub returns : goal.returns
returns c = record {
  opened = refl;
  speakers = refl;
  table = λ other. refl;
  raised = refl;
  questions = dropped c.args.conv c.args.self.now.questions.items c.drop_conv.new.questions.items c.drop_conv.ensures;
}
