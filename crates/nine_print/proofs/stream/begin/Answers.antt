use Rattle.nine_print.proofs.ShowLaws.{begun}
use Rattle.nine_print.proofs.stream.begin.Goals as goal

pub returns-clause-begun : goal.returns-clause-begun
returns-clause-begun c = λ secrets first origin. begun secrets first origin _ c.new.ensures.value c.new.ensures.fresh c.new-2.ensures
