use Rattle.std.proofs.Common.{arith}
use Rattle.sealing.proofs.InfoLaws.{info_found, info_not_found}
use Rattle.sealing.proofs.info.read_info.Goals as goal

pub returns-in-Ok : goal.returns-in-Ok
returns-in-Ok c = info_found c.args.input.now c.in-Ok.info (λ i. omega (arith, c.type_inv.input i)) c.in-Ok.ensures

pub returns-in-Err : goal.returns-in-Err
returns-in-Err c = info_not_found c.args.input.now c.in-Err.field-0.at c.in-Err.ensures
