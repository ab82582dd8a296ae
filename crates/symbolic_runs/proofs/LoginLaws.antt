-- Logins written out are runs, step by step.
use Rattle.std.proofs.Common.{◌≡◌, ℕ, List, true, Some, length, refl, arith}
use Rattle.symbolic_runs.specs.declared.kind.MacKind.{MacKind}
use Rattle.symbolic_runs.specs.Trees.{same_kind}
use Rattle.symbolic_runs.specs.Derivations.{by_knowing, in_public}
use Rattle.symbolic_runs.specs.Forms.{AreFields}
use Rattle.symbolic_runs.specs.Moves.{AreNames, client_challenge, client_request, client_question, client_answer, client_ticket, client_proof, client_accepts, server_challenge, server_request, server_ticket, server_accepts, server_proof, mail_client_challenge, mail_client_answer, mail_question, mail_answer, mail_challenge_on, mail_user, mail_digest, mail_second_question, mail_second_answer, mail_accepts}
use Rattle.symbolic_runs.specs.Sessions.{comes, grants_tickets, challenges, vouches}
use Rattle.symbolic_runs.specs.Runs.{IsRun, begins, then_starts, then_talks, then_moves, then_serves}
use Rattle.symbolic_runs.specs.Logins.{Login, p9sk1_setting, p9sk1_login, p9any_login, MailLogin, mail_setting, mail_login}

pub p9sk1_is_run : (login : Login) → AreFields login.offered → AreFields login.asked → AreNames login.cuid login.suid → IsRun (p9sk1_setting login) (p9sk1_login login)
p9sk1_is_run login offered asked names =
    then_moves (
    then_moves (
    then_moves (
    then_moves (
    then_moves (
    then_moves (
    then_moves (
    then_serves (
    then_serves (
    then_moves (
    then_moves (
    then_moves (
    then_moves (
    then_moves (
    then_starts (
    then_starts (
    begins
    )
    )
    ) (omega arith) client_challenge tt
    ) (omega arith) server_challenge (by_knowing 0 refl)
    ) (omega arith) (server_request login.offered) tt
    ) (omega arith) client_request (by_knowing 0 refl)
    ) (omega arith) (client_question login.offered login.asked offered) tt
    ) (comes refl) (refl, (by_knowing 0 refl))
    ) (grants_tickets login.asked (Some login.host) (Some login.user) asked refl (0, omega arith, refl)) tt
    ) (omega arith) client_answer (by_knowing 0 refl)
    ) (omega arith) (client_ticket login.asked names) tt
    ) (omega arith) (server_ticket login.offered) (by_knowing 0 refl)
    ) (omega arith) (server_accepts login.offered names) tt
    ) (omega arith) (server_proof login.offered) tt
    ) (omega arith) client_proof (by_knowing 0 refl)
    ) (omega arith) client_accepts tt

pub p9any_is_run : (login : Login) (offers heard choice taken : List ℕ) → AreFields login.offered → AreFields login.asked → AreNames login.cuid login.suid → IsRun (p9sk1_setting login) (p9any_login login offers heard choice taken)
p9any_is_run login offers heard choice taken offered asked names =
    then_moves (
    then_moves (
    then_moves (
    then_moves (
    then_moves (
    then_moves (
    then_moves (
    then_serves (
    then_serves (
    then_moves (
    then_moves (
    then_moves (
    then_moves (
    then_moves (
    then_talks (
    then_talks (
    then_talks (
    then_talks (
    then_starts (
    then_starts (
    begins
    )
    )
    ) (omega arith) refl
    ) (omega arith) refl
    ) (omega arith) refl
    ) (omega arith) refl
    ) (omega arith) client_challenge tt
    ) (omega arith) server_challenge (by_knowing 0 refl)
    ) (omega arith) (server_request login.offered) tt
    ) (omega arith) client_request (by_knowing 0 refl)
    ) (omega arith) (client_question login.offered login.asked offered) tt
    ) (comes refl) (refl, (by_knowing 0 refl))
    ) (grants_tickets login.asked (Some login.host) (Some login.user) asked refl (0, omega arith, refl)) tt
    ) (omega arith) client_answer (by_knowing 0 refl)
    ) (omega arith) (client_ticket login.asked names) tt
    ) (omega arith) (server_ticket login.offered) (by_knowing 0 refl)
    ) (omega arith) (server_accepts login.offered names) tt
    ) (omega arith) (server_proof login.offered) tt
    ) (omega arith) client_proof (by_knowing 0 refl)
    ) (omega arith) client_accepts tt

pub mail_is_run : (kind : MacKind) (login : MailLogin) → same_kind kind kind ≡ true → AreFields login.first → AreFields login.second → AreNames login.second.uid login.second.uid → length login.head ≡ 6 → IsRun (mail_setting kind login) (mail_login kind login)
mail_is_run kind login same first second names six =
    then_moves {conv = 1} (
    then_moves {conv = 1} (
    then_serves (
    then_serves (
    then_moves {conv = 1} (
    then_moves {conv = 1} (
    then_moves {conv = 1} (
    then_moves {conv = 0} (
    then_moves {conv = 0} (
    then_moves {conv = 1} (
    then_moves {conv = 1} (
    then_serves (
    then_serves (
    then_moves {conv = 1} (
    then_starts (
    then_starts (
    begins
    )
    )
    ) (omega arith) (mail_question login.first) tt
    ) (comes refl) (refl, (by_knowing 0 refl))
    ) (challenges login.first first refl six) tt
    ) (omega arith) mail_answer (by_knowing 0 refl)
    ) (omega arith) (mail_challenge_on six) tt
    ) (omega arith) mail_client_challenge (by_knowing 0 refl)
    ) (omega arith) mail_client_answer tt
    ) (omega arith) mail_user (in_public _)
    ) (omega arith) mail_digest (by_knowing 0 refl)
    ) (omega arith) (mail_second_question login.second) tt
    ) (comes refl) (refl, (by_knowing 0 refl))
    ) (vouches login.second (Some login.host) login.user second refl (0, omega arith, refl) (rw same refl)) tt
    ) (omega arith) mail_second_answer (by_knowing 0 refl)
    ) (omega arith) (mail_accepts login.second names refl refl) tt
