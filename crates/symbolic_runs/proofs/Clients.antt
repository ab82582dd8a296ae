-- Client agreement: who answered a client was a server for which the client's ticket was granted.
use Rattle.std.proofs.Common.{◌≡◌, ℕ, ◌∷◌, List, refl, sym, ◌∙◌, false, Some, subst}
use Rattle.symbolic_runs.specs.Trees.{Tree, nonce, long_key, ticket_key, seal}
use Rattle.symbolic_runs.specs.Derivations.{Derives, by_parting}
use Rattle.symbolic_runs.specs.Forms.{for_server, for_client, by_client, by_server, pair, ticket, authenticator, tickets, client_message, server_message}
use Rattle.symbolic_runs.specs.Moves.{Role, client, Move, takes, hears, gives, accepts, Own, Row, client_challenge, client_request, client_question, client_answer, client_ticket, client_proof, client_accepts, server_challenge, server_request, server_ticket, server_accepts, server_proof, mail_client_challenge, mail_client_answer, mail_question, mail_answer, mail_challenge_on, mail_user, mail_digest, mail_second_question, mail_second_answer, mail_accepts, breaks}
use Rattle.symbolic_runs.specs.Runs.{Setting, Event, moves, Run, own_of, moves_of, known, IsRun}
use Rattle.symbolic_runs.specs.Secrets.{is_compromised, is_exposed}
use Rattle.symbolic_runs.specs.Places.{Stands}
use Rattle.symbolic_runs.proofs.ProvenanceLaws.{seal_origin}
use Rattle.symbolic_runs.proofs.Parts.{run_with, run_before, stands_later, moved_at, moves_derive}
use Rattle.symbolic_runs.proofs.FormLaws.{seal_parts, ticket_parts, ticket_key_number}
use Rattle.symbolic_runs.specs.Agreement.{server_name, Grants, IsGranted, ClientAcceptance, IsClientUnder, IsAnswered, IsHost}
use Rattle.symbolic_runs.proofs.Makers.{AnswerMade, answer_made, ServerTicketMade, server_ticket_made, client_ticket_made}
use Rattle.symbolic_runs.proofs.Servers.{unknown_key}
use Rattle.symbolic_runs.proofs.Matching.{unknown_ticket_key, unknown_sealer}

-- what a client has seen when it accepts
record ClientSeen (own : Own) (history : List Move) (user : List ℕ) : Type 0 where
  pub key : Tree
  pub chal : Tree
  pub handed : Tree
  pub cuid : List ℕ
  pub before : List Move
  pub is : history ≡ takes (server_message key own.word) ∷ gives (client_message handed key chal) ∷ hears (tickets (seal own.key (ticket for_client chal cuid user key)) handed) ∷ before

client_seen : (own : Own) (role : Role) (history : List Move) (move : Move) (user : List ℕ) → Row own role history move → move ≡ accepts user → role ≡ client → ClientSeen own history user
client_seen own role history move user client_challenge e r = absurd (cc)
client_seen own role history move user client_request e r = absurd (cc)
client_seen own role history move user (client_question fields asked whole) e r = absurd (cc)
client_seen own role history move user client_answer e r = absurd (cc)
client_seen own role history move user (client_ticket asked names) e r = absurd (cc)
client_seen own role history move user client_proof e r = absurd (cc)
client_seen own role history move user (client_accepts {chal} {key} {handed} {q} {r = request} {w} {cuid} {suid}) e r =
    let same : suid ≡ user = cc in
    subst (ClientSeen own history) same (record { key = key; chal = chal; handed = handed; cuid = cuid; before = _; is = refl })
client_seen own role history move user server_challenge e r = absurd (cc)
client_seen own role history move user (server_request fields) e r = absurd (cc)
client_seen own role history move user (server_ticket fields) e r = absurd (cc)
client_seen own role history move user (server_accepts fields names) e r = absurd (cc)
client_seen own role history move user (server_proof fields) e r = absurd (cc)
client_seen own role history move user mail_client_challenge e r = absurd (cc)
client_seen own role history move user mail_client_answer e r = absurd (cc)
client_seen own role history move user (mail_question fields) e r = absurd (cc)
client_seen own role history move user mail_answer e r = absurd (cc)
client_seen own role history move user (mail_challenge_on six) e r = absurd (cc)
client_seen own role history move user mail_user e r = absurd (cc)
client_seen own role history move user mail_digest e r = absurd (cc)
client_seen own role history move user (mail_second_question fields) e r = absurd (cc)
client_seen own role history move user mail_second_answer e r = absurd (cc)
client_seen own role history move user (mail_accepts fields names client_field server_field) e r = absurd (cc)
client_seen own role history move user breaks e r = absurd (cc)

client_seen_at : (s : Setting) (run : Run) → IsRun s run → (a : ClientAcceptance s run) → ClientSeen (own_of s a.conv) (moves_of a.conv a.past) a.user
client_seen_at s run r a = client_seen (own_of s a.conv) (s.role a.conv) (moves_of a.conv a.past) (accepts a.user) a.user (moved_at s a.past a.conv (accepts a.user) (run_with s run a.past (moves a.conv (accepts a.user)) r a.stands)) refl a.by_a_client

-- a client accepts by one ticket
third_tree : (p p' g g' h h' t t' : Tree) (b b' : List Move) → takes p ∷ gives g ∷ hears (tickets t h) ∷ b ≡ takes p' ∷ gives g' ∷ hears (tickets t' h') ∷ b' → t ≡ t'
third_tree p p' g g' h h' t t' b b' e = cc

client_key : (s : Setting) (run : Run) (a : ClientAcceptance s run) (number : ℕ) (v : ClientSeen (own_of s a.conv) (moves_of a.conv a.past) a.user) → IsClientUnder s run a number → v.key ≡ ticket_key number
client_key s run a number v u =
    let same = third_tree (server_message v.key (nonce a.conv)) u.proof (client_message v.handed v.key v.chal) u.gift v.handed u.handed (seal (long_key (s.holder a.conv)) (ticket for_client v.chal v.cuid a.user v.key)) (seal (long_key (s.holder a.conv)) (ticket for_client u.chal u.cuid u.suid (ticket_key number))) v.before u.before (sym v.is ∙ u.opened) in
    (ticket_parts for_client for_client v.chal u.chal v.cuid u.cuid a.user u.suid v.key (ticket_key number) (seal_parts (long_key (s.holder a.conv)) (long_key (s.holder a.conv)) (ticket for_client v.chal v.cuid a.user v.key) (ticket for_client u.chal u.cuid u.suid (ticket_key number)) same).1).4

-- the grant whose ticket for the server a server opened
granted_as : (s : Setting) (run place : Run) (event : Event) (number : ℕ) (name : List ℕ) (chal : Tree) (cuid suid : List ℕ) → Stands run place event → (made : ServerTicketMade s event name chal cuid suid (ticket_key number)) →
    IsGranted s run number (seal (long_key name) (ticket for_server chal cuid suid (ticket_key number))) × (server_name (s.grants number).used ≡ Some name)
granted_as s run place event number name chal cuid suid at made =
    let same : made.number ≡ number = sym (ticket_key_number number made.number made.key_is) in (
      record { past = place; session = made.session; deed = made.deed; stands = subst (Stands run place) made.is at; grants = subst (λ n. Grants s n made.deed (seal (long_key name) (ticket for_server chal cuid suid (ticket_key number)))) same made.grants },
      subst (λ n. server_name (s.grants n).used ≡ Some name) same made.sealed_for,
    )

ticket_granted : (s : Setting) (run past : Run) (conv number : ℕ) (cuid suid : List ℕ) (proof : Tree) (answer : Move) (before : List Move) → IsRun s run → Stands run past (moves conv answer) → is_exposed s number ≡ false →
    moves_of conv past ≡ accepts suid ∷ takes (pair (seal (long_key (s.holder conv)) (ticket for_server (nonce conv) cuid suid (ticket_key number))) proof) ∷ before →
    IsGranted s run number (seal (long_key (s.holder conv)) (ticket for_server (nonce conv) cuid suid (ticket_key number))) × (server_name (s.grants number).used ≡ Some (s.holder conv))
ticket_granted s run past conv number cuid suid proof answer before r at e m =
    let part = run_before s run past (moves conv answer) r at in
    let sealed = ticket for_server (nonce conv) cuid suid (ticket_key number) in
    let shown = seal (long_key (s.holder conv)) sealed in
    let took : Derives (known s past) shown = by_parting 0 refl (moves_derive s past conv (accepts suid ∷ takes (pair shown proof) ∷ before) part m).1.0 in
    let origin = seal_origin s past part (long_key (s.holder conv)) sealed took (unknown_sealer s past (long_key (s.holder conv)) (nonce conv) for_server cuid suid number part e took) in
    granted_as s run origin.past origin.event number (s.holder conv) (nonce conv) cuid suid (stands_later run past origin.past (moves conv answer) origin.event at (record { later = origin.later; place = origin.place }))
    (server_ticket_made s origin.past origin.event shown (s.holder conv) (nonce conv) cuid suid (ticket_key number) origin.made refl)

answered_by : (s : Setting) (run : Run) (a : ClientAcceptance s run) (number : ℕ) (place : Run) (event : Event) → IsRun s a.past → is_exposed s number ≡ false → Stands a.past place event → AnswerMade s place event (ticket_key number) (nonce a.conv) → IsAnswered s run a number
answered_by s run a number place event r e at made =
    let answer = gives (server_message (ticket_key number) (nonce a.conv)) in
    let here : Stands a.past place (moves made.conv answer) = subst (Stands a.past place) made.is at in
    let shown = seal (long_key (s.holder made.conv)) (ticket for_server (nonce made.conv) made.cuid made.suid (ticket_key number)) in
    let proof = seal (ticket_key number) (authenticator by_client (nonce made.conv)) in
    let granted = ticket_granted s a.past place made.conv number made.cuid made.suid proof answer made.before r here e made.opened in
    record {
      conv = made.conv;
      by_a_server = made.role;
      sealed_for = granted.1;
      for_the_server = shown;
      granted = granted.0;
      user = made.suid;
      proof = proof;
      before = made.before;
      gave = place;
      opened = made.opened;
      answered = here;
    }

pub client_answered : (s : Setting) (run : Run) → IsRun s run → (a : ClientAcceptance s run) (number : ℕ) → IsClientUnder s run a number → is_exposed s number ≡ false → IsAnswered s run a number
client_answered s run r a number u e =
    let v = client_seen_at s run r a in
    let before = run_before s run a.past (moves a.conv (accepts a.user)) r a.stands in
    let labels = moves_derive s a.past a.conv (takes (server_message v.key (nonce a.conv)) ∷ gives (client_message v.handed v.key v.chal) ∷ hears (tickets (seal (long_key (s.holder a.conv)) (ticket for_client v.chal v.cuid a.user v.key)) v.handed) ∷ v.before) before v.is in
    let answer : Derives (known s a.past) (seal (ticket_key number) (authenticator by_server (nonce a.conv))) = subst (λ k. Derives (known s a.past) (seal k (authenticator by_server (nonce a.conv)))) (client_key s run a number v u) labels.0 in
    let origin = seal_origin s a.past before (ticket_key number) (authenticator by_server (nonce a.conv)) answer (unknown_ticket_key s number e) in
    answered_by s run a number origin.past origin.event before e (record { later = origin.later; place = origin.place })
    (answer_made s origin.past origin.event (seal (ticket_key number) (authenticator by_server (nonce a.conv))) (ticket_key number) (nonce a.conv) origin.made refl)

pub client_hosted : (s : Setting) (run : Run) → IsRun s run → (a : ClientAcceptance s run) → is_compromised s (s.holder a.conv) ≡ false → (number : ℕ) × IsHost s run a number
client_hosted s run r a p =
    let v = client_seen_at s run r a in
    let before = run_before s run a.past (moves a.conv (accepts a.user)) r a.stands in
    let body = ticket for_client v.chal v.cuid a.user v.key in
    let heard : Derives (known s a.past) (seal (long_key (s.holder a.conv)) body) = by_parting 1 refl (moves_derive s a.past a.conv (takes (server_message v.key (nonce a.conv)) ∷ gives (client_message v.handed v.key v.chal) ∷ hears (tickets (seal (long_key (s.holder a.conv)) body) v.handed) ∷ v.before) before v.is).1.1.0 in
    let origin = seal_origin s a.past before (long_key (s.holder a.conv)) body heard (unknown_key s (s.holder a.conv) p) in
    let made = client_ticket_made s origin.past origin.event (seal (long_key (s.holder a.conv)) body) (s.holder a.conv) v.chal v.cuid a.user v.key origin.made refl in (
      made.number,
      record {
        under = record {
          proof = server_message v.key (nonce a.conv);
          gift = client_message v.handed v.key v.chal;
          chal = v.chal;
          cuid = v.cuid;
          suid = a.user;
          handed = v.handed;
          before = v.before;
          opened = subst (λ k. moves_of a.conv a.past ≡ takes (server_message v.key (nonce a.conv)) ∷ gives (client_message v.handed v.key v.chal) ∷ hears (tickets (seal (long_key (s.holder a.conv)) (ticket for_client v.chal v.cuid a.user k)) v.handed) ∷ v.before) made.key_is v.is;
        };
        sealer = made.sealer;
        used = made.used;
        past = origin.past;
        session = made.session;
        granted = subst (Stands a.past origin.past) made.is (record { later = origin.later; place = origin.place });
      },
    )
