use Rattle.door_ports.proofs.exchange.send.Goals as goal

pub returns : goal.returns
returns g c = λ past done stands. record { reply = _; leaves = c.in_ok-exchange.ensures past done stands }
