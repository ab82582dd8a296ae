use Rattle.auth_server.proofs.GrantLaws.{is_grant}
use Rattle.auth_server.proofs.laws.every_ticket_request_gets_two_tickets.Goals as goal

pub returns : goal.returns
returns c = is_grant
