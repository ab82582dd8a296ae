use Rattle.std.proofs.Common.{◌∙◌, arith}
use Rattle.std.proofs.lemmas.Result.{IfOk-weaker}
use Rattle.nine.specs.Messages.{frame}
use Rattle.nine.specs.declared.message.TBody.TheVariants as t
use Rattle.door_ports.proofs.FrameLemmas.{low_tag}
use Rattle.door_ports.proofs.frames.reads.Goals as goal

pub under-requires-clause-short : goal.under-requires-clause-short
unfolding frame
under-requires-clause-short c = omega (arith)

pub returns-clause-is : goal.returns-clause-is
returns-clause-is c = IfOk-weaker c.under.result _ _ (λ frame is. is ∙ low_tag c.args.fid (t.Read c.args.fid 0 8192)) c.under.ensures.is
