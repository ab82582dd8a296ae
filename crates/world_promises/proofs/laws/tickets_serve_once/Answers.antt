use Rattle.world_promises.proofs.EveryPromise.{each_by_a_ticket_so, one_by_a_match_so, one_by_a_text_so, one_by_a_ticket_so, one_under_a_grant_so}
use Rattle.world_promises.proofs.laws.tickets_serve_once.Goals as goal

pub returns-clause-by_a_ticket : goal.returns-clause-by_a_ticket
returns-clause-by_a_ticket c = each_by_a_ticket_so

pub returns-clause-by_one_ticket : goal.returns-clause-by_one_ticket
returns-clause-by_one_ticket c = one_by_a_ticket_so

pub returns-clause-by_one_text : goal.returns-clause-by_one_text
returns-clause-by_one_text c = one_by_a_text_so

pub returns-clause-under_one_grant : goal.returns-clause-under_one_grant
returns-clause-under_one_grant c = one_under_a_grant_so

pub returns-clause-matched_by_one : goal.returns-clause-matched_by_one
returns-clause-matched_by_one c = one_by_a_match_so
