use Rattle.symbolic_runs.proofs.FormLaws.{request_parts, ticket_parts, authenticator_parts, pair_parts, tickets_parts, vouch_parts, client_message_parts, server_message_parts, mail_challenge_parts}
use Rattle.symbolic_runs.proofs.laws.forms_are_injective.Goals as goal

pub returns-clause-requests : goal.returns-clause-requests
returns-clause-requests c = request_parts

pub returns-clause-tickets : goal.returns-clause-tickets
returns-clause-tickets c = ticket_parts

pub returns-clause-authenticators : goal.returns-clause-authenticators
returns-clause-authenticators c = authenticator_parts

pub returns-clause-pairs : goal.returns-clause-pairs
returns-clause-pairs c = pair_parts

pub returns-clause-answers : goal.returns-clause-answers
returns-clause-answers c = tickets_parts

pub returns-clause-vouches : goal.returns-clause-vouches
returns-clause-vouches c = vouch_parts

pub returns-clause-client_messages : goal.returns-clause-client_messages
returns-clause-client_messages c = client_message_parts

pub returns-clause-server_messages : goal.returns-clause-server_messages
returns-clause-server_messages c = server_message_parts

pub returns-clause-challenges : goal.returns-clause-challenges
returns-clause-challenges c = mail_challenge_parts
