use Rattle.std.proofs.Common.{◌∙◌, arith}
use Rattle.std.proofs.lemmas.Result.{IfOk-weaker}
use Rattle.nine.specs.Messages.{frame}
use Rattle.nine.specs.declared.message.TBody.TheVariants as t
use Rattle.agent_turns.proofs.DrivenFrames.{low_tag}
use Rattle.agent_turns.proofs.events.reads.Goals as goal

pub asking-requires-clause-short : goal.asking-requires-clause-short
unfolding frame
asking-requires-clause-short c = omega (arith)

pub returns-clause-is : goal.returns-clause-is
returns-clause-is c = IfOk-weaker c.asking.result _ _ (λ event is. is ∙ low_tag c.args.fid c.args.word (t.Read c.args.fid 0 8192)) c.asking.ensures.is
