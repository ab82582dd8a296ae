use Rattle.std.proofs.lemmas.Result.{IfOk-weaker}
use Rattle.door_ports.proofs.exchange.meet.Goals as goal

pub returns : goal.returns
returns g c = IfOk-weaker c.judge.result _ _ (λ let_it is past done stands. record { reply = c.in_ok-reply.reply; is = is; leaves = c.in_ok-reply.ensures past done stands }) c.judge.ensures
