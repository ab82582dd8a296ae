use Rattle.std.proofs.lemmas.Result.{on_ok_weaker}
use Rattle.doors.proofs.ReadLemmas.{read_who}
use Rattle.doors.proofs.connection.Connection.read_who.Goals as goal

pub returns-clause-ok : goal.returns-clause-ok
returns-clause-ok c = on_ok_weaker c.put_read.result (λ said done fid f keeps there file user.
    read_who done c.args.self.now c.args.tag fid c.args.offset c.args.count f c.args.uname.now _ _ keeps there file user (rw (c.piece.ensures.piece, c.as_slice.ensures, c.in_ok-text.ensures, c.room.ensures.room) at said)) c.put_read.ensures.ok
