use Rattle.std.proofs.Common.{Some, sym, ap, ◌∙◌}
use Rattle.std.proofs.lemmas.Result.{on_ok_weaker}
use Rattle.doors.specs.declared.fid.Names.{Names}
use Rattle.doors.proofs.ReadLemmas.{carried_file, carried_none, carried_read}
use Rattle.doors.proofs.connection.Connection.read.Goals as goal

pub returns-in-Some-File-clause-ok : goal.returns-in-Some-File-clause-ok
returns-in-Some-File-clause-ok g c = on_ok_weaker c.read_file.result (λ served done setting past keeps told.
    let there = (sym c.in-Some-File.ensures ∙ ap (λ (n : Names). Some n) c.in-Some-File.field-0-is) in
    carried_file (g.P.Port.stands setting) done past c.args.self.now c.read_file.new.self c.args.port.now c.args.tag c.args.fid c.args.offset c.args.count c.in-Some-File.field-0-0 _ _ keeps there told (served done c.in-Some-File.field-0-0 keeps there)) c.read_file.ensures.ok

pub returns-in_ok-found-in-Some-Conversation-clause-ok : goal.returns-in_ok-found-in-Some-Conversation-clause-ok
returns-in_ok-found-in-Some-Conversation-clause-ok g c = on_ok_weaker c.answer_read.result (λ served done setting past keeps told.
    let there = (sym c.in-Some-Conversation.ensures ∙ ap (λ (n : Names). Some n) c.in-Some-Conversation.field-0-is) in
    let finds = c.in_ok-found-in-Some-Conversation.ensures setting past told in
    carried_read (g.P.Port.stands setting) done past c.args.self.now c.answer_read.new.self c.find.new.port c.args.tag c.args.fid c.args.offset c.args.count c.in-Some-Conversation.conversation c.in_ok-found-in-Some-Conversation.found _ _ keeps there finds
    (served done c.in-Some-Conversation.conversation c.args.offset finds.calls keeps there finds.is)) c.answer_read.ensures.ok

pub returns-in-None-clause-ok : goal.returns-in-None-clause-ok
returns-in-None-clause-ok g c = on_ok_weaker c.put_error.result (λ said done setting past keeps told.
    carried_none (g.P.Port.stands setting) done past c.args.self.now c.args.port.now c.args.tag c.args.fid c.args.offset c.args.count _ _ keeps (sym c.in-None.ensures) told (rw c.text.ensures.text at said)) c.put_error.ensures.ok
