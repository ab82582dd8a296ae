use Rattle.std.proofs.lemmas.Result.{IfOk-weaker}
use Rattle.nine.proofs.StreamLaws.{continues}
use Rattle.nine.proofs.framer.Framer.next.Goals as goal

pub returns-clause-stream : goal.returns-clause-stream
returns-clause-stream c = IfOk-weaker c.take_front.result _ _ (λ next a. continues c.args.self.now c.take_front.new.self next a) c.take_front.ensures.answer
