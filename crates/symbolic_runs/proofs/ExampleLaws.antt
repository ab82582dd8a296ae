-- The examples are runs.
use Rattle.std.proofs.Common.{◌≡◌, ℕ, List, [], ◌∷◌, Some, None, length, refl, arith}
use Rattle.symbolic_runs.specs.declared.kind.MacKind.TheVariants.{Apop}
use Rattle.symbolic_runs.specs.Trees.{plain, nonce}
use Rattle.symbolic_runs.specs.Derivations.{by_knowing, in_public, by_parting, by_joining, each_none, each_piece}
use Rattle.symbolic_runs.specs.Forms.{ticket_request, mail_request, AreFields, request}
use Rattle.symbolic_runs.specs.Moves.{takes, gives, client_challenge, client_request, client_question, client_answer, client_ticket, server_challenge, server_request, server_ticket, server_accepts, mail_client_challenge, mail_client_answer, mail_question, mail_answer, mail_challenge_on, mail_user, mail_digest, mail_second_question, mail_second_answer, mail_accepts, breaks}
use Rattle.symbolic_runs.specs.Sessions.{comes, grants_tickets, challenges, vouches, refusal}
use Rattle.symbolic_runs.specs.Runs.{moves, IsRun, begins, then_starts, then_moves, then_serves}
use Rattle.symbolic_runs.specs.Agreement.{Matches, client_matches, mail_client_matches}
use Rattle.symbolic_runs.specs.Cast.{srv, ann, bob, field, asked, offered, eight, digits, before_eight}
use Rattle.symbolic_runs.specs.Examples.{crossed, crossed_run, crossed_past, challenged, answered, reversed, reversed_run, reversed_past, opened_by_client, handed_on, shared, shared_run, shared_past, shared_message, both_heard, unknown, unknown_run, guessing, refused_run}
use Rattle.symbolic_runs.proofs.Making.{make_request, make_pair}

-- the fields are whole
pub whole : (server host user : List ℕ) → length (field server) ≡ 28 → length (field host) ≡ 28 → length (field user) ≡ 28 → AreFields (asked server host user)
whole server host user p q r = record { authid = p; authdom = refl; hostid = q; uid = r }

pub crossed_is_run : IsRun crossed crossed_run
crossed_is_run =
    then_moves {conv = 1} (
    then_moves {conv = 1} (
    then_serves (
    then_serves (
    then_moves {conv = 0} (
    then_moves {conv = 0} (
    then_serves (
    then_serves (
    then_moves {conv = 1} (
    then_moves {conv = 1} (
    then_starts (
    then_starts (
    begins
    )
    )
    ) (omega arith) server_challenge (in_public eight)
    ) (omega arith) (server_request (offered srv)) tt
    ) (comes refl) (refl, make_request _ (mail_request Apop) (asked srv srv []) (nonce 1) (by_parting 3 refl (by_knowing 0 refl)))
    ) (challenges (asked srv srv []) (whole srv srv [] refl refl refl) refl refl) tt
    ) (omega arith) mail_client_challenge (by_parting 1 refl (by_knowing 0 refl))
    ) (omega arith) mail_client_answer tt
    ) (comes refl) (refl, make_pair _ (request (mail_request Apop) (asked srv srv bob) (nonce 1)) _ (make_request _ (mail_request Apop) (asked srv srv bob) (nonce 1) (by_parting 3 refl (by_knowing 2 refl))) (by_knowing 0 refl))
    ) (vouches (asked srv srv bob) (Some srv) bob (whole srv srv bob refl refl refl) refl (0, omega arith, refl) refl) tt
    ) (omega arith) (server_ticket (offered srv)) (make_pair _ _ _ (by_parting 1 refl (by_knowing 0 refl)) (by_parting 2 refl (by_knowing 0 refl)))
    ) (omega arith) (server_accepts (offered srv) (record { client_whole = refl; server_whole = refl })) tt

-- it is matched by the mail client
pub crossed_match : Matches crossed crossed_past 1 (field bob) 0
crossed_match = mail_client_matches {kind = Apop} {sealer = Some srv} {session = 0} {first = 0} {granted = answered} {gave = challenged} refl refl
    (record { later = _ ∷ []; place = refl }) (record { later = _ ∷ _ ∷ _ ∷ []; place = refl })

pub reversed_is_run : IsRun reversed reversed_run
reversed_is_run =
    then_moves {conv = 1} (
    then_moves {conv = 1} (
    then_moves {conv = 1} (
    then_moves {conv = 1} (
    then_moves {conv = 1} (
    then_moves {conv = 0} (
    then_moves {conv = 0} (
    then_serves (
    then_serves (
    then_moves {conv = 0} (
    then_moves {conv = 0} (
    then_moves {conv = 0} (
    then_moves {conv = 1} (
    then_moves {conv = 1} (
    then_moves {conv = 1} (
    then_starts (
    then_starts (
    begins
    )
    )
    ) (omega arith) (mail_question (asked srv srv [])) tt
    ) (omega arith) mail_answer (make_pair _ (plain before_eight) (plain eight) (in_public before_eight) (in_public eight))
    ) (omega arith) (mail_challenge_on refl) tt
    ) (omega arith) client_challenge tt
    ) (omega arith) client_request (make_request _ ticket_request (offered srv) (nonce 1) (by_parting 3 refl (by_knowing 2 refl)))
    ) (omega arith) (client_question (offered srv) (asked srv ann ann) (whole srv [] [] refl refl refl)) tt
    ) (comes refl) (refl, by_knowing 0 refl)
    ) (grants_tickets (asked srv ann ann) (Some srv) (Some ann) (whole srv ann ann refl refl refl) refl (0, omega arith, refl)) tt
    ) (omega arith) client_answer (by_knowing 0 refl)
    ) (omega arith) (client_ticket (asked srv ann ann) (record { client_whole = refl; server_whole = refl })) tt
    ) (omega arith) mail_user (in_public ann)
    ) (omega arith) mail_digest (in_public digits)
    ) (omega arith) (mail_second_question (asked srv srv ann)) tt
    ) (omega arith) mail_second_answer (by_joining (each_piece (in_public _) (each_piece (by_parting 0 refl (by_knowing 1 refl)) (each_piece (by_parting 1 refl (by_knowing 1 refl)) each_none))))
    ) (omega arith) (mail_accepts (asked srv srv ann) (record { client_whole = refl; server_whole = refl }) refl refl) tt

-- it is matched by the p9sk1 client
pub reversed_match : Matches reversed reversed_past 0 (field ann) 0
reversed_match = client_matches {sealer = Some srv} {handed = handed_on} {cuid = field ann} {gave = opened_by_client} refl refl (0, omega arith, refl) refl
    (record { later = _ ∷ _ ∷ _ ∷ _ ∷ []; place = refl })

pub shared_is_run : IsRun shared shared_run
shared_is_run =
    then_moves {conv = 1} (
    then_moves {conv = 1} (
    then_moves {conv = 2} (
    then_moves {conv = 0} (
    then_moves {conv = 2} (
    then_moves {conv = 0} (
    then_serves (
    then_serves (
    then_moves {conv = 2} (
    then_moves {conv = 0} (
    then_moves {conv = 2} (
    then_moves {conv = 0} (
    then_moves {conv = 1} (
    then_moves {conv = 1} (
    then_moves {conv = 2} (
    then_moves {conv = 0} (
    then_starts (
    then_starts (
    then_starts (
    begins
    )
    )
    )
    ) (omega arith) client_challenge tt
    ) (omega arith) client_challenge tt
    ) (omega arith) server_challenge (by_knowing 1 refl)
    ) (omega arith) (server_request (offered srv)) tt
    ) (omega arith) client_request (by_knowing 0 refl)
    ) (omega arith) client_request (by_knowing 0 refl)
    ) (omega arith) (client_question (offered srv) (asked srv ann ann) (whole srv [] [] refl refl refl)) tt
    ) (omega arith) (client_question (offered srv) (asked srv ann ann) (whole srv [] [] refl refl refl)) tt
    ) (comes refl) (refl, by_knowing 0 refl)
    ) (grants_tickets (asked srv ann ann) (Some srv) (Some ann) (whole srv ann ann refl refl refl) refl (0, omega arith, refl)) tt
    ) (omega arith) client_answer (by_knowing 0 refl)
    ) (omega arith) client_answer (by_knowing 0 refl)
    ) (omega arith) (client_ticket (asked srv ann ann) (record { client_whole = refl; server_whole = refl })) tt
    ) (omega arith) (client_ticket (asked srv ann ann) (record { client_whole = refl; server_whole = refl })) tt
    ) (omega arith) (server_ticket (offered srv)) (by_knowing 0 refl)
    ) (omega arith) (server_accepts (offered srv) (record { client_whole = refl; server_whole = refl })) tt

-- both clients match
pub first_match : Matches shared shared_past 0 (field ann) 0
first_match = client_matches {sealer = Some srv} {cuid = field ann} {gave = both_heard} refl refl (0, omega arith, refl) refl (record { later = moves 1 (takes shared_message) ∷ moves 2 (gives shared_message) ∷ []; place = refl })

pub second_match : Matches shared shared_past 0 (field ann) 2
second_match = client_matches {sealer = Some srv} {cuid = field ann} {gave = moves 0 (gives shared_message) ∷ both_heard} refl refl (0, omega arith, refl) refl (record { later = moves 1 (takes shared_message) ∷ []; place = refl })

pub unknown_is_run : IsRun unknown unknown_run
unknown_is_run =
    then_moves {conv = 0} (
    then_moves {conv = 0} (
    then_serves {session = 0} (
    then_serves {session = 0} (
    then_moves {conv = 0} (
    then_moves {conv = 0} (
    then_moves {conv = 0} (
    then_starts (
    begins
    )
    ) (omega arith) client_challenge tt
    ) (omega arith) client_request (make_request _ ticket_request (offered srv) (plain eight) (in_public eight))
    ) (omega arith) (client_question (offered srv) (asked srv bob bob) (whole srv [] [] refl refl refl)) tt
    ) (comes refl) (refl, by_knowing 0 refl)
    ) (grants_tickets (asked srv bob bob) (Some srv) None (whole srv bob bob refl refl refl) refl tt) tt
    ) (omega arith) client_answer (by_knowing 0 refl)
    ) (omega arith) breaks tt

pub refused_is_run : IsRun guessing refused_run
refused_is_run =
    then_moves {conv = 0} (
    then_moves {conv = 0} (
    then_serves {session = 0} (
    then_serves {session = 0} (
    then_moves {conv = 0} (
    then_moves {conv = 0} (
    then_moves {conv = 0} (
    then_moves {conv = 0} (
    then_moves {conv = 0} (
    then_serves {session = 0} (
    then_serves {session = 0} (
    then_moves {conv = 0} (
    then_starts (
    begins
    )
    ) (omega arith) (mail_question (asked srv srv [])) tt
    ) (comes refl) (refl, by_knowing 0 refl)
    ) (challenges (asked srv srv []) (whole srv srv [] refl refl refl) refl refl) tt
    ) (omega arith) mail_answer (by_knowing 0 refl)
    ) (omega arith) (mail_challenge_on refl) tt
    ) (omega arith) mail_user (in_public ann)
    ) (omega arith) mail_digest (in_public digits)
    ) (omega arith) (mail_second_question (asked srv srv ann)) tt
    ) (comes refl) (refl, by_knowing 0 refl)
    ) refusal tt
    ) (omega arith) mail_second_answer (by_knowing 0 refl)
    ) (omega arith) breaks tt
