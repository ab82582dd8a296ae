use Rattle.std.proofs.lemmas.Result.{IfOk-weaker}
use Rattle.symbolic_runs.specs.Views.{tree}
use Rattle.trace_runs.specs.Deeds.{deed_of, used_of}
use Rattle.trace_runs.proofs.DeedLaws.{decided_answer}
use Rattle.trace_runs.proofs.deeds.is_answered.Goals as goal

pub returns : goal.returns
returns c = λ s number before e f g. IfOk-weaker c.decide.result _ _
    (λ so h. decided_answer s number before c.args.domain.now (used_of c.args.granted.now.used) (tree c.args.granted.now.challenge) (tree c.args.request.now) (deed_of c.args.deed.now) so e f g h)
    c.decide.ensures
