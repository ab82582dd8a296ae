use Rattle.std.proofs.Common.{sym, ◌∙◌, arith}
use Rattle.nine.proofs.RequestLaws.{request_taken, request_again}
use Rattle.nine.proofs.FaultPlaces.{request_fault_within, frame_small}
use Rattle.nine.proofs.FrameLemmas.{request_given}
use Rattle.nine.proofs.decode_requests.decode_t.Goals as goal

pub overflow_cast-result : goal.overflow_cast-result
overflow_cast-result c =
    omega (arith, request_fault_within c.args.frame.now c.in-Err-Bad.bad.at c.requires (rw c.in-Err-Bad.field-0-is at c.in-Err-Bad.ensures.read), frame_small c.args.frame.now (λ i. omega (arith, c.type_inv.frame i)) c.requires)

pub returns-in-Ok-clause-found : goal.returns-in-Ok-clause-found
returns-in-Ok-clause-found c = request_taken c.args.frame.now c.in-Ok.message (λ i. omega (arith, c.type_inv.frame i)) c.requires c.in-Ok.ensures.read

pub returns-in-Ok-clause-only : goal.returns-in-Ok-clause-only
returns-in-Ok-clause-only c = λ m is. sym (request_again c.args.frame.now m is) ∙ c.in-Ok.ensures.read

pub returns-in-Err-Bad-clause-only : goal.returns-in-Err-Bad-clause-only
returns-in-Err-Bad-clause-only c = λ m is. sym (request_again c.args.frame.now m is) ∙ (rw c.in-Err-Bad.field-0-is at c.in-Err-Bad.ensures.read)

pub returns-in-Ok-clause-given : goal.returns-in-Ok-clause-given
returns-in-Ok-clause-given c =
    request_given c.args.frame.now c.in-Ok.message (request_taken c.args.frame.now c.in-Ok.message (λ i. omega (arith, c.type_inv.frame i)) c.requires c.in-Ok.ensures.read) (frame_small c.args.frame.now (λ i. omega (arith, c.type_inv.frame i)) c.requires)
