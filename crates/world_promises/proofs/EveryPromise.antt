-- Of every script all is promised.
use Rattle.std.proofs.Common.{ℕ, List}
use Rattle.clean_runs.specs.Statements.{IsBridged, IsSecret}
use Rattle.clean_runs.proofs.SessionLaw.{sessions_go}
use Rattle.clean_runs.proofs.Shown.{all_bridged, all_secret, case_of}
use Rattle.clean_runs.specs.AgreementStatements.{ClientsAreAnswered, ClientsAreHosts, ClientsMatch, EachByATicket, OneByAMatch, OneByAText, OneByATicket, OneUnderAGrant, ServersAgree, ServersNameTheUser}
use Rattle.clean_runs.proofs.Agreeing.{clients_match, servers_agree}
use Rattle.clean_runs.proofs.Clients.{clients_are_answered, clients_are_hosts}
use Rattle.clean_runs.proofs.Apart.{each_by_a_ticket, one_by_a_match, one_by_a_ticket, one_under_a_grant}
use Rattle.clean_runs.proofs.Texts.{one_by_a_text}
use Rattle.clean_runs.proofs.Users.{servers_name_the_user}
use Rattle.world_promises.specs.Statements.{IsPromised, OfEveryCleanScript}
use Rattle.world_promises.proofs.EveryScript.{fronts_are_legal, of_scripts}

pub servers_name_the_user_so : OfEveryCleanScript (λ history z atoms l. ServersNameTheUser history l)
servers_name_the_user_so = of_scripts (λ history z atoms l. ServersNameTheUser history l) (λ history z atoms l legal clean. servers_name_the_user (case_of history z atoms l legal clean))

pub servers_agree_so : OfEveryCleanScript (λ history z atoms l. ServersAgree history z l)
servers_agree_so = of_scripts (λ history z atoms l. ServersAgree history z l) (λ history z atoms l legal clean. let d = case_of history z atoms l legal clean in servers_agree d (sessions_go d))

pub clients_match_so : OfEveryCleanScript (λ history z atoms l. ClientsMatch history z l)
clients_match_so = of_scripts (λ history z atoms l. ClientsMatch history z l) (λ history z atoms l legal clean. let d = case_of history z atoms l legal clean in clients_match d (sessions_go d))

pub clients_are_answered_so : OfEveryCleanScript (λ history z atoms l. ClientsAreAnswered history z l)
clients_are_answered_so = of_scripts (λ history z atoms l. ClientsAreAnswered history z l) (λ history z atoms l legal clean. let d = case_of history z atoms l legal clean in clients_are_answered d (sessions_go d))

pub clients_are_hosts_so : OfEveryCleanScript (λ history z atoms l. ClientsAreHosts history z l)
clients_are_hosts_so = of_scripts (λ history z atoms l. ClientsAreHosts history z l) (λ history z atoms l legal clean. let d = case_of history z atoms l legal clean in clients_are_hosts d (sessions_go d))

pub each_by_a_ticket_so : OfEveryCleanScript (λ history z atoms l. EachByATicket history l)
each_by_a_ticket_so = of_scripts (λ history z atoms l. EachByATicket history l) (λ history z atoms l legal clean. let d = case_of history z atoms l legal clean in each_by_a_ticket d (sessions_go d))

pub one_by_a_ticket_so : OfEveryCleanScript (λ history z atoms l. OneByATicket history l)
one_by_a_ticket_so = of_scripts (λ history z atoms l. OneByATicket history l) (λ history z atoms l legal clean. let d = case_of history z atoms l legal clean in one_by_a_ticket d (sessions_go d))

pub one_by_a_text_so : OfEveryCleanScript (λ history z atoms l. OneByAText history atoms l)
one_by_a_text_so = of_scripts (λ history z atoms l. OneByAText history atoms l) (λ history z atoms l legal clean. let d = case_of history z atoms l legal clean in one_by_a_text d (sessions_go d))

pub one_under_a_grant_so : OfEveryCleanScript (λ history z atoms l. OneUnderAGrant history z l)
one_under_a_grant_so = of_scripts (λ history z atoms l. OneUnderAGrant history z l) (λ history z atoms l legal clean. let d = case_of history z atoms l legal clean in one_under_a_grant d (sessions_go d))

pub one_by_a_match_so : OfEveryCleanScript (λ history z atoms l. OneByAMatch history z l)
one_by_a_match_so = of_scripts (λ history z atoms l. OneByAMatch history z l) (λ history z atoms l legal clean. let d = case_of history z atoms l legal clean in one_by_a_match d (sessions_go d))

pub promised : (script : List ℕ) → IsPromised script
promised script = record {
  legal = fronts_are_legal script;
  bridged = of_scripts IsBridged all_bridged script;
  secret = of_scripts IsSecret all_secret script;
  named = servers_name_the_user_so script;
  agree = servers_agree_so script;
  matched = clients_match_so script;
  answered = clients_are_answered_so script;
  hosted = clients_are_hosts_so script;
  by_a_ticket = each_by_a_ticket_so script;
  by_one_ticket = one_by_a_ticket_so script;
  by_one_text = one_by_a_text_so script;
  under_one_grant = one_under_a_grant_so script;
  matched_by_one = one_by_a_match_so script;
}
