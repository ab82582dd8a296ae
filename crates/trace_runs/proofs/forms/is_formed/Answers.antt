use Rattle.std.proofs.lemmas.Result.{IfOk-weaker}
use Rattle.symbolic_runs.specs.Answers.{atoms_of}
use Rattle.trace_runs.specs.Views.{newest_first, own_of, role_of}
use Rattle.trace_runs.proofs.FormLaws.{decided}
use Rattle.trace_runs.proofs.forms.is_formed.Goals as goal

pub returns : goal.returns
returns c = IfOk-weaker c.decide.result _ _ (λ so h. decided (atoms_of c.args.reading.now) (own_of c.args.own.now) (role_of c.args.role) (newest_first c.args.moves.now) so h) c.decide.ensures
