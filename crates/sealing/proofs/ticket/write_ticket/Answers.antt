use Rattle.std.proofs.Common.{refl, rules}
use Rattle.sealing.specs.Ticket.{ticket_text}
use Rattle.sealing.proofs.TicketLaws.{ticket_written}
use Rattle.sealing.proofs.ticket.write_ticket.Goals as goal

text : goal.returns-clause-value
unfolding ticket_text
text c = rw (c.finish.ensures, c.put-3.ensures.value, c.put_name-2.ensures.value, c.put_name.ensures.value, c.put-2.ensures.value, c.put.ensures.value, c.new-out.ensures) refl

pub returns-clause-value : goal.returns-clause-value
returns-clause-value c = text c

pub returns-clause-read : goal.returns-clause-read
returns-clause-read c =
    rw (text c) (ticket_written c.args.t.now (record {
      chal = search rules;
      cuid = c.put_name.ensures.name;
      suid = c.put_name-2.ensures.name;
      key = search rules;
    }))
