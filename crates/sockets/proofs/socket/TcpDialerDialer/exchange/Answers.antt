use Rattle.sockets.proofs.socket.TcpDialerDialer.exchange.Goals as goal

pub returns-in-Ok-Some-clause-stands : goal.returns-in-Ok-Some-clause-stands
returns-in-Ok-Some-clause-stands g c = rw c.in-Ok-Some.field-0-is at c.in-Ok-Some.ensures.kept

pub returns-in-Ok-None-clause-stands : goal.returns-in-Ok-None-clause-stands
returns-in-Ok-None-clause-stands g c = rw c.in-Ok-None.field-0-is at c.in-Ok-None.ensures.kept
