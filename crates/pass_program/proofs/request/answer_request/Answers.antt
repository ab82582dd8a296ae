use Rattle.std.proofs.Common.{sym, subst}
use Rattle.wire_streams.specs.Streams.{Gains}
use Rattle.pass_program.proofs.request.answer_request.Goals as goal

pub returns-in_ok-write_all-in-Err-clause-err : goal.returns-in_ok-write_all-in-Err-clause-err
returns-in_ok-write_all-in-Err-clause-err g c = record {
  fault = c.in-Err.field-0;
  bad = sym c.in-Err.ensures.value;
  told = subst (Gains _ _) c.refuse.ensures c.in_ok-write_all-in-Err.ensures.ok;
}
