use Rattle.std.proofs.Common.{ℕ, List, Some, sym, ap, ◌∙◌}
use Rattle.std.proofs.lemmas.Result.{on_ok_weaker}
use Rattle.doors.specs.Answers.{bytes_of}
use Rattle.doors.proofs.connection.Connection.answer_read.Goals as goal

pub returns-in-Given-clause-ok : goal.returns-in-Given-clause-ok
returns-in-Given-clause-ok c = on_ok_weaker c.hand_over.result (λ served done a offset calls keeps named found. served done a offset calls keeps named (found.bytes ∙ ap bytes_of c.in-Given.is ∙ ap (λ (b : List ℕ). Some b) (sym c.as_slice.ensures))) c.hand_over.ensures.ok
