use Rattle.sealing.proofs.RequestLaws.{request_fault, request_layout, request_short, request_whole}
use Rattle.sealing.proofs.request.read_req.Goals as goal

pub returns-clause-layout : goal.returns-clause-layout
returns-clause-layout c = λ r. rw (c.request_fields.ensures, ← request_whole c.args.input.now c.if-input-lt-REQUEST_BYTES.false) (request_layout c.args.input.now r)

pub returns-clause-short : goal.returns-clause-short
returns-clause-short c = rw (c.request_fields.ensures, ← request_whole c.args.input.now c.if-input-lt-REQUEST_BYTES.false) (request_short c.args.input.now)

pub returns-clause-fault : goal.returns-clause-fault
returns-clause-fault c = λ fault whole. rw (c.request_fields.ensures, ← request_whole c.args.input.now whole) (request_fault c.args.input.now fault whole)
