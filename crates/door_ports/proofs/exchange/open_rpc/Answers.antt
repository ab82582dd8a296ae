use Rattle.door_ports.proofs.AskLemmas.{not_opened, not_walked, was_opened}
use Rattle.door_ports.proofs.exchange.open_rpc.Goals as goal

pub returns-then-not-walked : goal.returns-then-not-walked
returns-then-not-walked g c = λ past done stands.
    not_walked (g.A.AskedAgent.stands past) c.args.conn c.args.fid done _ _ _ c.if-not-walked.true c.in_ok-walks.ensures.is (c.in_ok-walked.ensures past done stands)

pub returns-then-opened : goal.returns-then-opened
returns-then-opened g c = λ past done stands.
    let one = c.in_ok-walked.ensures past done stands in
    was_opened (g.A.AskedAgent.stands past) c.args.conn c.args.fid done _ _ _ _ _ _ c.if-not-walked.false c.if-opened.true c.in_ok-walks.ensures.is c.in_ok-opens.ensures.is one (c.in_ok-opened.ensures past _ one.leaves)

pub returns : goal.returns
returns g c = λ past done stands.
    let one = c.in_ok-walked.ensures past done stands in
    let two = c.in_ok-opened.ensures past _ one.leaves in
    not_opened (g.A.AskedAgent.stands past) c.args.conn c.args.fid done _ _ _ _ _ _ _ _ c.if-not-walked.false c.if-opened.false c.in_ok-walks.ensures.is c.in_ok-opens.ensures.is c.in_ok-clunks.ensures.is one two (c.in_ok-send.ensures past _ two.leaves)
