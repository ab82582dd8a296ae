use Rattle.sealing.specs.Request.{request_text}
use Rattle.sealing.proofs.RequestLaws.{request_again, request_written}
use Rattle.sealing.proofs.laws.what_is_asked_is_read.Goals as goal

pub returns : goal.returns
returns c = λ r fits. request_again (request_text r) r (request_written r fits)
