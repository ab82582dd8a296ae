-- What is computed as the next gift is what the rows allow.
use Rattle.std.proofs.Common.{◌≡◌, ℕ, [], ◌∷◌, List, length, refl, sym, Bool, true, false, ◌&&◌, eqb, Some, None, if◌then◌else◌, subst}
use Rattle.std.proofs.lemmas.Bool.{and_parts, and_from, eq-eqb, eqb-true}
use Rattle.symbolic_runs.specs.Trees.{plain, seal, digest, same_tree}
use Rattle.symbolic_runs.proofs.EqualityLaws.{equal_trees, tree_itself}
use Rattle.symbolic_runs.specs.Forms.{ticket_request, for_server, for_client, by_client, mail_request, Fields, AreFields, pair, request, ticket, authenticator, tickets, client_message, server_message}
use Rattle.symbolic_runs.specs.Moves.{Role, client, server, mail_client, mail_server, Move, takes, hears, gives, asks, accepts, Own, AreNames, Row, client_challenge, client_request, client_question, client_answer, client_ticket, client_proof, client_accepts, server_challenge, server_request, server_ticket, server_accepts, server_proof, mail_client_challenge, mail_client_answer, mail_question, mail_answer, mail_challenge_on, mail_user, mail_digest, mail_second_question, mail_second_answer, mail_accepts, breaks}
use Rattle.symbolic_runs.specs.Gifts.{part, bytes, fields_of, are_whole, is_request, ticket_like, has_names, opened, hears_tickets, shown, takes_ticket, hears_challenge, next_gift, is_gift}

passes : (test : Bool) (move : Move) → test ≡ true → (if test then Some move else None) ≡ Some move
passes test move e = rw e refl

passed : (test : Bool) (gift move : Move) → (if test then Some gift else None) ≡ Some move → (test ≡ true) × (gift ≡ move)
passed true gift move e = (refl, cc)
passed false gift move e = absurd (cc)

is_size : (text : List ℕ) (size : ℕ) → length text ≡ size → eqb (length text) size ≡ true
is_size text size e = eq-eqb (length text) size e

whole_fields : (fields : Fields) → AreFields fields → are_whole fields ≡ true
whole_fields fields w = and_from (eqb (length fields.authid) 28) _ (is_size fields.authid 28 w.authid)
    (and_from (eqb (length fields.authdom) 48) _ (is_size fields.authdom 48 w.authdom)
    (and_from (eqb (length fields.hostid) 28) (eqb (length fields.uid) 28) (is_size fields.hostid 28 w.hostid) (is_size fields.uid 28 w.uid)))

fields_whole : (fields : Fields) → are_whole fields ≡ true → AreFields fields
fields_whole fields e =
    let a = and_parts (eqb (length fields.authid) 28) ((eqb (length fields.authdom) 48) && ((eqb (length fields.hostid) 28) && (eqb (length fields.uid) 28))) e in
    let b = and_parts (eqb (length fields.authdom) 48) ((eqb (length fields.hostid) 28) && (eqb (length fields.uid) 28)) a.1 in
    let c = and_parts (eqb (length fields.hostid) 28) (eqb (length fields.uid) 28) b.1 in
    record { authid = eqb-true (length fields.authid) 28 a.0; authdom = eqb-true (length fields.authdom) 48 b.0; hostid = eqb-true (length fields.hostid) 28 c.0; uid = eqb-true (length fields.uid) 28 c.1 }

two_names : (cuid suid : List ℕ) → AreNames cuid suid → ((eqb (length cuid) 28) && (eqb (length suid) 28)) ≡ true
two_names cuid suid w = and_from (eqb (length cuid) 28) (eqb (length suid) 28) (is_size cuid 28 w.client_whole) (is_size suid 28 w.server_whole)

names_whole : (cuid suid : List ℕ) → ((eqb (length cuid) 28) && (eqb (length suid) 28)) ≡ true → AreNames cuid suid
names_whole cuid suid e = let a = and_parts (eqb (length cuid) 28) (eqb (length suid) 28) e in record { client_whole = eqb-true (length cuid) 28 a.0; server_whole = eqb-true (length suid) 28 a.1 }

no_names : Fields
no_names = record { authid = []; authdom = []; hostid = []; uid = [] }

-- whatever a row gives is computed
pub computed : (own : Own) (role : Role) (before : List Move) (move : Move) → Row own role before move → is_gift move ≡ true → (names : Fields) × (next_gift own role before names ≡ Some move)
computed own role before move client_challenge e = (no_names, refl)
computed own role before move client_request e = absurd (cc)
computed own role before move (client_question fields asked {chal} whole) e = (
  asked,
  passes _ (asks (request ticket_request asked chal)) (and_from (same_tree own.word own.word) _ (tree_itself own.word) (and_from (same_tree (request ticket_request fields chal) (request ticket_request fields chal)) (are_whole fields) (tree_itself (request ticket_request fields chal)) (whole_fields fields whole))),
)
computed own role before move client_answer e = absurd (cc)
computed own role before move (client_ticket asked {chal} {key} {handed} {cuid = c} {suid = u} names) e = (
  no_names,
  passes _ (gives (client_message handed key chal)) (and_from (same_tree (tickets (seal own.key (ticket for_client chal c u key)) handed) (tickets (seal own.key (ticket for_client chal c u key)) handed)) _ (tree_itself (tickets (seal own.key (ticket for_client chal c u key)) handed)) (and_from ((eqb (length c) 28) && (eqb (length u) 28)) (same_tree (request ticket_request asked chal) (request ticket_request asked chal)) (two_names c u names) (tree_itself (request ticket_request asked chal)))),
)
computed own role before move client_proof e = absurd (cc)
computed own role before move client_accepts e = absurd (cc)
computed own role before move server_challenge e = absurd (cc)
computed own role before move (server_request fields) e = (fields, refl)
computed own role before move (server_ticket fields) e = absurd (cc)
computed own role before move (server_accepts fields names) e = absurd (cc)
computed own role before move (server_proof {y} {key} fields {cuid = c} {suid = u}) e =
    let took = pair (seal own.key (ticket for_server own.word c u key)) (seal key (authenticator by_client own.word)) in
    (no_names, passes _ (gives (server_message key y)) (and_from (same_tree took took) (same_tree (request ticket_request fields own.word) (request ticket_request fields own.word)) (tree_itself took) (tree_itself (request ticket_request fields own.word))))
computed own role before move mail_client_challenge e = absurd (cc)
computed own role before move mail_client_answer e = (no_names, refl)
computed own role before move (mail_question fields) e = (fields, refl)
computed own role before move mail_answer e = absurd (cc)
computed own role before move (mail_challenge_on {t} {head} six) e = (no_names, passes _ (gives t) (and_from (same_tree (pair (plain head) t) (pair (plain head) t)) (eqb (length head) 6) (tree_itself (pair (plain head) t)) (is_size head 6 six)))
computed own role before move mail_user e = absurd (cc)
computed own role before move mail_digest e = absurd (cc)
computed own role before move (mail_second_question {kind} {r} {user} fields) e = (fields, passes _ (asks (pair (request (mail_request kind) fields own.word) r)) (tree_itself (plain user)))
computed own role before move mail_second_answer e = absurd (cc)
computed own role before move (mail_accepts fields names client_field server_field) e = absurd (cc)
computed own role before move breaks e = absurd (cc)

-- whatever is computed a row gives
pub allowed : (own : Own) (role : Role) (before : List Move) (names : Fields) (move : Move) → next_gift own role before names ≡ Some move → Row own role before move
allowed own client [] names move e = let is : gives own.word ≡ move = cc in subst (Row own client []) is client_challenge
allowed own client (takes r ∷ gives w ∷ []) names move e =
    let p = passed (same_tree w own.word && (is_request ticket_request r (part r 3) && are_whole (fields_of r))) (asks (request ticket_request names (part r 3))) move e in
    let a = and_parts (same_tree w own.word) (is_request ticket_request r (part r 3) && are_whole (fields_of r)) p.0 in
    let b = and_parts (is_request ticket_request r (part r 3)) (are_whole (fields_of r)) a.1 in
    subst (λ m. Row own client (takes r ∷ gives w ∷ []) m) p.1
    (subst (λ x. Row own client (takes r ∷ gives x ∷ []) (asks (request ticket_request names (part r 3)))) (sym (equal_trees w own.word a.0))
    (subst (λ x. Row own client (takes x ∷ gives own.word ∷ []) (asks (request ticket_request names (part r 3)))) (sym (equal_trees r (request ticket_request (fields_of r) (part r 3)) b.0))
    (client_question (fields_of r) names {chal = part r 3} (fields_whole (fields_of r) b.1))))
allowed own client (hears a ∷ asks q ∷ takes r ∷ gives w ∷ []) names move e =
    let t = opened a in
    let heard = tickets (seal own.key (ticket_like for_client (part t 1) t)) (part a 2) in
    let p = passed (hears_tickets own a q) (gives (client_message (part a 2) (part t 4) (part t 1))) move e in
    let x = and_parts (same_tree a heard) (has_names t && is_request ticket_request q (part t 1)) p.0 in
    let y = and_parts (has_names t) (is_request ticket_request q (part t 1)) x.1 in
    subst (λ m. Row own client (hears a ∷ asks q ∷ takes r ∷ gives w ∷ []) m) p.1
    (subst (λ z. Row own client (hears z ∷ asks q ∷ takes r ∷ gives w ∷ []) (gives (client_message (part a 2) (part t 4) (part t 1)))) (sym (equal_trees a heard x.0))
    (subst (λ z. Row own client (hears heard ∷ asks z ∷ takes r ∷ gives w ∷ []) (gives (client_message (part a 2) (part t 4) (part t 1)))) (sym (equal_trees q (request ticket_request (fields_of q) (part t 1)) y.1))
    (client_ticket (fields_of q) {chal = part t 1} {key = part t 4} {handed = part a 2} (names_whole (bytes (part t 2)) (bytes (part t 3)) y.0))))
allowed own server (takes y ∷ []) names move e = let is : gives (request ticket_request names own.word) ≡ move = cc in subst (Row own server (takes y ∷ [])) is (server_request names)
allowed own server (accepts suid ∷ takes m ∷ gives r ∷ takes y ∷ []) names move e =
    let t = shown m in
    let took = pair (seal own.key (ticket for_server own.word (bytes (part t 2)) suid (part t 4))) (seal (part t 4) (authenticator by_client own.word)) in
    let p = passed (takes_ticket own m suid && is_request ticket_request r own.word) (gives (server_message (part t 4) y)) move e in
    let x = and_parts (takes_ticket own m suid) (is_request ticket_request r own.word) p.0 in
    subst (λ z. Row own server (accepts suid ∷ takes m ∷ gives r ∷ takes y ∷ []) z) p.1
    (subst (λ z. Row own server (accepts suid ∷ takes z ∷ gives r ∷ takes y ∷ []) (gives (server_message (part t 4) y))) (sym (equal_trees m took x.0))
    (subst (λ z. Row own server (accepts suid ∷ takes took ∷ gives z ∷ takes y ∷ []) (gives (server_message (part t 4) y))) (sym (equal_trees r (request ticket_request (fields_of r) own.word) x.1))
    (server_proof {y = y} {key = part t 4} (fields_of r) {cuid = bytes (part t 2)})))
allowed own (mail_client kind) (takes t ∷ []) names move e = let is : gives (digest kind own.password t) ≡ move = cc in subst (Row own (mail_client kind) (takes t ∷ [])) is mail_client_answer
allowed own (mail_server kind) [] names move e = let is : asks (request (mail_request kind) names own.word) ≡ move = cc in subst (Row own (mail_server kind) []) is (mail_question names)
allowed own (mail_server kind) (hears a ∷ asks q ∷ []) names move e =
    let heard = pair (plain (bytes (part a 0))) (part a 1) in
    let p = passed (hears_challenge a) (gives (part a 1)) move e in
    let x = and_parts (same_tree a heard) (eqb (length (bytes (part a 0))) 6) p.0 in
    subst (λ m. Row own (mail_server kind) (hears a ∷ asks q ∷ []) m) p.1
    (subst (λ z. Row own (mail_server kind) (hears z ∷ asks q ∷ []) (gives (part a 1))) (sym (equal_trees a heard x.0)) (mail_challenge_on {head = bytes (part a 0)} (eqb-true (length (bytes (part a 0))) 6 x.1)))
allowed own (mail_server kind) (takes r ∷ takes u ∷ gives t ∷ hears a ∷ asks q ∷ []) names move e =
    let p = passed (same_tree u (plain (bytes u))) (asks (pair (request (mail_request kind) names own.word) r)) move e in
    subst (λ m. Row own (mail_server kind) (takes r ∷ takes u ∷ gives t ∷ hears a ∷ asks q ∷ []) m) p.1
    (subst (λ z. Row own (mail_server kind) (takes r ∷ takes z ∷ gives t ∷ hears a ∷ asks q ∷ []) (asks (pair (request (mail_request kind) names own.word) r))) (sym (equal_trees u (plain (bytes u)) p.0)) (mail_second_question names))
allowed own role before names move e = absurd (cc)
