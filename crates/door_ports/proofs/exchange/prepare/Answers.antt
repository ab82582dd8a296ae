use Rattle.door_ports.proofs.AskLemmas.{prepared_did}
use Rattle.door_ports.proofs.exchange.prepare.Goals as goal

pub returns : goal.returns
returns g c = λ past done stands.
    let one = c.in_ok-send.ensures past done stands in
    let two = c.in_ok-send-2.ensures past _ one.leaves in
    let three = c.in_ok-send-3.ensures past _ two.leaves in
    let four = c.in_ok-send-4.ensures past _ three.leaves in
    prepared_did (g.A.AskedAgent.stands past) c.args.conn done _ _ _ _ one.reply two.reply three.reply four.reply _ c.in_ok-agrees.ensures.is c.in_ok-attaches.ensures.is c.in_ok-walks.ensures.is c.in_ok-opens.ensures.is four.leaves
