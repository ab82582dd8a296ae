-- The attacks are runs, and what fails in them.
use Rattle.std.proofs.Common.{◌≡◌, ℕ, List, [], Some, refl, arith, codes}
use Rattle.symbolic_runs.specs.Trees.{plain, nonce, ticket_key, long_key}
use Rattle.symbolic_runs.specs.Derivations.{by_knowing, in_public, by_parting, by_sealing, by_opening}
use Rattle.symbolic_runs.specs.Forms.{ticket_request, for_server, by_server}
use Rattle.symbolic_runs.specs.Moves.{client, server, client_challenge, client_request, client_question, client_answer, client_ticket, client_proof, client_accepts, server_challenge, server_request, server_ticket, server_accepts, server_proof, mail_client_challenge, mail_client_answer}
use Rattle.symbolic_runs.specs.Sessions.{comes, grants_tickets, ticket_for_server}
use Rattle.symbolic_runs.specs.Runs.{Run, IsRun, begins, then_starts, then_moves, then_serves}
use Rattle.symbolic_runs.specs.Agreement.{by_a_client, IsUnder, Matches, client_matches, mail_client_matches, ClientAcceptance, IsClientUnder, IsAnswered}
use Rattle.symbolic_runs.specs.Cast.{srv, other, ann, eve, field, asked, offered, eight, seven, at_the_end}
use Rattle.symbolic_runs.specs.Attacks.{betrayed_server, betrayed_server_run, betrayed_server_past, forged, betrayed_speaker, betrayed_speaker_run, betrayed_speaker_past, speaker_grant, exposed_server, exposed_run, exposed_grant, exposed_acceptance, turned, turned_run, anybody, anybody_run}
use Rattle.symbolic_runs.proofs.Making.{make_request, make_authenticator, make_ticket, make_client_message}
use Rattle.symbolic_runs.proofs.Matching.{under_key}
use Rattle.symbolic_runs.proofs.ExampleLaws.{whole}

pub betrayed_server_is_run : IsRun betrayed_server betrayed_server_run
betrayed_server_is_run =
    then_moves {conv = 0} (
    then_moves {conv = 0} (
    then_moves {conv = 0} (
    then_moves {conv = 0} (
    then_starts (
    begins
    )
    ) (omega arith) server_challenge (in_public eight)
    ) (omega arith) (server_request (offered srv)) tt
    ) (omega arith) (server_ticket (offered srv)) (make_client_message _ forged (plain seven) (nonce 0) (by_sealing (by_knowing 0 refl) (make_ticket _ for_server (field ann) (field ann) (nonce 0) (plain seven) (by_parting 3 refl (by_knowing 2 refl)) (in_public seven))) (in_public seven) (by_parting 3 refl (by_knowing 2 refl)))
    ) (omega arith) (server_accepts (offered srv) (record { client_whole = refl; server_whole = refl })) tt

pub under_none : (number : ℕ) → IsUnder betrayed_server betrayed_server_run (at_the_end betrayed_server betrayed_server_past 0 (field ann) refl) number → ⊥
under_none number u =
    let same : plain seven ≡ ticket_key number = under_key betrayed_server betrayed_server_run (at_the_end betrayed_server betrayed_server_past 0 (field ann) refl) number (long_key srv) (plain seven) (nonce 0) (field ann) (field ann) u by_a_client in
    absurd (cc)

pub betrayed_speaker_is_run : IsRun betrayed_speaker betrayed_speaker_run
betrayed_speaker_is_run =
    then_moves {conv = 0} (
    then_moves {conv = 0} (
    then_serves (
    then_serves (
    then_moves {conv = 0} (
    then_moves {conv = 0} (
    then_starts (
    begins
    )
    ) (omega arith) server_challenge (in_public eight)
    ) (omega arith) (server_request (offered srv)) tt
    ) (comes refl) (refl, make_request _ ticket_request (asked srv eve ann) (nonce 0) (by_parting 3 refl (by_knowing 2 refl)))
    ) (grants_tickets (asked srv eve ann) (Some srv) (Some eve) (whole srv eve ann refl refl refl) refl (1, omega arith, refl)) tt
    ) (omega arith) (server_ticket (offered srv)) (make_client_message _ (ticket_for_server speaker_grant 0) (ticket_key 0) (nonce 0) (by_parting 2 refl (by_knowing 2 refl)) (by_parting 4 refl (by_opening (by_parting 1 refl (by_knowing 2 refl)) (by_knowing 0 refl))) (by_parting 3 refl (by_knowing 3 refl)))
    ) (omega arith) (server_accepts (offered srv) (record { client_whole = refl; server_whole = refl })) tt

pub speaker_under : IsUnder betrayed_speaker betrayed_speaker_run (at_the_end betrayed_speaker betrayed_speaker_past 0 (field ann) refl) 0
speaker_under = record { key = long_key srv; chal = nonce 0; cuid = field eve; suid = field ann; by_ticket = by_a_client }

pub unmatched : (past : Run) (number : ℕ) (user : List ℕ) (conv : ℕ) → Matches betrayed_speaker past number user conv → ⊥
unmatched past number user conv (client_matches role used speaks m at) = absurd (cc)
unmatched past number user conv (mail_client_matches role used granted at) = absurd (cc)

pub exposed_is_run : IsRun exposed_server exposed_run
exposed_is_run =
    then_moves {conv = 0} (
    then_moves {conv = 0} (
    then_moves {conv = 0} (
    then_moves {conv = 0} (
    then_serves (
    then_serves (
    then_moves {conv = 0} (
    then_moves {conv = 0} (
    then_moves {conv = 0} (
    then_starts (
    begins
    )
    ) (omega arith) client_challenge tt
    ) (omega arith) client_request (make_request _ ticket_request (offered srv) (plain eight) (in_public eight))
    ) (omega arith) (client_question (offered srv) (asked srv ann ann) (whole srv [] [] refl refl refl)) tt
    ) (comes refl) (refl, by_knowing 2 refl)
    ) (grants_tickets (asked srv ann ann) (Some srv) (Some ann) (whole srv ann ann refl refl refl) refl (0, omega arith, refl)) tt
    ) (omega arith) client_answer (by_knowing 2 refl)
    ) (omega arith) (client_ticket (asked srv ann ann) (record { client_whole = refl; server_whole = refl })) tt
    ) (omega arith) client_proof (by_sealing (by_parting 4 refl (by_opening (by_parting 0 refl (by_knowing 2 refl)) (by_knowing 0 refl))) (make_authenticator _ by_server (nonce 0) (by_knowing 5 refl)))
    ) (omega arith) client_accepts tt

pub exposed_under : IsClientUnder exposed_server exposed_run exposed_acceptance 0
exposed_under = record { proof = _; gift = _; chal = plain eight; cuid = field ann; suid = field ann; handed = ticket_for_server exposed_grant 0; before = _; opened = refl }

pub nobody_answered : (a : ClientAcceptance exposed_server exposed_run) (number : ℕ) → IsAnswered exposed_server exposed_run a number → ⊥
nobody_answered a number answered = absurd (let roles : client ≡ server = answered.by_a_server in cc)

pub turned_is_run : IsRun turned turned_run
turned_is_run =
    then_moves {conv = 0} (
    then_moves {conv = 0} (
    then_moves {conv = 1} (
    then_moves {conv = 1} (
    then_moves {conv = 1} (
    then_moves {conv = 0} (
    then_moves {conv = 0} (
    then_serves (
    then_serves (
    then_moves {conv = 0} (
    then_moves {conv = 0} (
    then_moves {conv = 1} (
    then_moves {conv = 1} (
    then_moves {conv = 0} (
    then_starts (
    then_starts (
    begins
    )
    )
    ) (omega arith) client_challenge tt
    ) (omega arith) server_challenge (by_knowing 0 refl)
    ) (omega arith) (server_request (offered other)) tt
    ) (omega arith) client_request (make_request _ ticket_request (offered srv) (nonce 1) (by_parting 3 refl (by_knowing 0 refl)))
    ) (omega arith) (client_question (offered srv) (asked srv ann ann) (whole srv [] [] refl refl refl)) tt
    ) (comes refl) (refl, make_request _ ticket_request (asked other ann ann) (nonce 1) (by_parting 3 refl (by_knowing 0 refl)))
    ) (grants_tickets (asked other ann ann) (Some other) (Some ann) (whole other ann ann refl refl refl) refl (0, omega arith, refl)) tt
    ) (omega arith) client_answer (by_knowing 0 refl)
    ) (omega arith) (client_ticket (asked srv ann ann) (record { client_whole = refl; server_whole = refl })) tt
    ) (omega arith) (server_ticket (offered other)) (by_knowing 0 refl)
    ) (omega arith) (server_accepts (offered other) (record { client_whole = refl; server_whole = refl })) tt
    ) (omega arith) (server_proof (offered other)) tt
    ) (omega arith) client_proof (by_knowing 0 refl)
    ) (omega arith) client_accepts tt

pub anybody_is_run : IsRun anybody anybody_run
anybody_is_run =
    then_moves {conv = 0} (
    then_moves {conv = 0} (
    then_starts (
    begins
    )
    ) (omega arith) mail_client_challenge (in_public (codes "<who asks>"))
    ) (omega arith) mail_client_answer tt
