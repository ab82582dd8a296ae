use Rattle.std.proofs.Common.{◌∙◌, ap}
use Rattle.sealing.specs.Ticket.{ticket_of}
use Rattle.sealing.proofs.TicketLaws.{ticket_fault, ticket_layout, ticket_never_short}
use Rattle.sealing.proofs.ticket.open_ticket.Goals as goal

pub returns-clause-value : goal.returns-clause-value
returns-clause-value c = c.read_ticket.ensures ∙ ap ticket_of c.open_seal.ensures.value

pub returns-clause-layout : goal.returns-clause-layout
returns-clause-layout c = λ t. rw (returns-clause-value c) (ticket_layout _ t)

pub returns-clause-never_short : goal.returns-clause-never_short
returns-clause-never_short c = λ need. rw (returns-clause-value c) (ticket_never_short _ need)

pub returns-clause-fault : goal.returns-clause-fault
returns-clause-fault c = λ fault. rw (returns-clause-value c) (ticket_fault _ fault)
