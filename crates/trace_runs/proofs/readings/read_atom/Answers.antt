use Rattle.std.proofs.Common.{Ok, ap, ◌∙◌, arith}
use Rattle.symbolic_runs.specs.Answers.{atoms_of}
use Rattle.symbolic_runs.specs.Views.{tree}
use Rattle.trace_runs.proofs.ApartLaws.{bytes_of_text, bytes_with}
use Rattle.trace_runs.proofs.readings.read_atom.Goals as goal

pub returns-clause-bytes : goal.returns-clause-bytes
returns-clause-bytes c =
    bytes_with (atoms_of c.args.reading.now) (atoms_of c.set.new.self) (tree c.in_ok-copy.field-0) c.in_ok-spelled.spelled c.in_ok-set.field-0
    (λ taken. c.set.ensures.changed (c.in_ok-set.was ∙ ap Ok taken)) (λ refused. c.set.ensures.kept (c.in_ok-set.was ∙ ap Ok refused))
    (bytes_of_text c.args.text.now c.in_ok-spelled.spelled c.in_ok-spelled.ensures (λ i. omega (arith, c.type_inv.text i)))
