-- Server agreement and the matching conversation.
use Rattle.std.proofs.Common.{◌≡◌, ℕ, List, refl, sym, ◌∙◌, true, false, subst, true≢false}
use Rattle.symbolic_runs.specs.Trees.{Tree, nonce, long_key, seal}
use Rattle.symbolic_runs.specs.Derivations.{Derives, by_parting}
use Rattle.symbolic_runs.specs.Forms.{for_server, by_client, ticket, authenticator}
use Rattle.symbolic_runs.specs.Moves.{Role, Move, accepts, Own, Row, client_challenge, client_request, client_question, client_answer, client_ticket, client_proof, client_accepts, server_challenge, server_request, server_ticket, server_accepts, server_proof, mail_client_challenge, mail_client_answer, mail_question, mail_answer, mail_challenge_on, mail_user, mail_digest, mail_second_question, mail_second_answer, mail_accepts, breaks}
use Rattle.symbolic_runs.specs.Runs.{Setting, Event, moves, Run, own_of, moves_of, known, IsRun}
use Rattle.symbolic_runs.specs.Secrets.{is_compromised, Guarded}
use Rattle.symbolic_runs.specs.Places.{Stands}
use Rattle.symbolic_runs.proofs.Labels.{OfMoves}
use Rattle.symbolic_runs.proofs.ProvenanceLaws.{seal_origin}
use Rattle.symbolic_runs.proofs.Parts.{run_with, run_before, moved_at, moves_derive}
use Rattle.symbolic_runs.specs.Agreement.{is_server, Acceptance, Shows, by_a_client, by_a_vouch, IsByTicket, IsGrantedTo}
use Rattle.symbolic_runs.proofs.Makers.{ServerTicketMade, server_ticket_made}

-- what a server has seen when it accepts: a ticket for its own word, and an authenticator under the ticket's key
pub record Seen (terms : List Tree) (own : Own) (role : Role) (history : List Move) (user : List ℕ) : Type 0 where
  pub key : Tree
  pub cuid : List ℕ
  pub shows : Shows role history (seal own.key (ticket for_server own.word cuid user key))
  pub ticket_known : Derives terms (seal own.key (ticket for_server own.word cuid user key))
  pub proof_known : Derives terms (seal key (authenticator by_client own.word))

pub seen : (terms : List Tree) (own : Own) (role : Role) (history : List Move) (move : Move) (user : List ℕ) → Row own role history move → move ≡ accepts user → is_server role ≡ true → OfMoves (Derives terms) history → Seen terms own role history user
seen terms own role history move user client_challenge e r g = absurd (cc)
seen terms own role history move user client_request e r g = absurd (cc)
seen terms own role history move user (client_question fields asked whole) e r g = absurd (cc)
seen terms own role history move user client_answer e r g = absurd (cc)
seen terms own role history move user (client_ticket asked names) e r g = absurd (cc)
seen terms own role history move user client_proof e r g = absurd (cc)
seen terms own role history move user client_accepts e r g = absurd (cc)
seen terms own role history move user server_challenge e r g = absurd (cc)
seen terms own role history move user (server_request fields) e r g = absurd (cc)
seen terms own role history move user (server_ticket fields) e r g = absurd (cc)
seen terms own role history move user (server_accepts {y} {key} fields {cuid} {suid} names) e r g =
    let same : suid ≡ user = cc in
    subst (Seen terms own role history) same (record { key = key; cuid = cuid; shows = by_a_client; ticket_known = by_parting 0 refl g.0; proof_known = by_parting 1 refl g.0 })
seen terms own role history move user (server_proof fields) e r g = absurd (cc)
seen terms own role history move user mail_client_challenge e r g = absurd (cc)
seen terms own role history move user mail_client_answer e r g = absurd (cc)
seen terms own role history move user (mail_question fields) e r g = absurd (cc)
seen terms own role history move user mail_answer e r g = absurd (cc)
seen terms own role history move user (mail_challenge_on six) e r g = absurd (cc)
seen terms own role history move user mail_user e r g = absurd (cc)
seen terms own role history move user mail_digest e r g = absurd (cc)
seen terms own role history move user (mail_second_question fields) e r g = absurd (cc)
seen terms own role history move user mail_second_answer e r g = absurd (cc)
seen terms own role history move user (mail_accepts {key = key} {cuid = cuid} {suid = suid} fields names client_field server_field) e r g =
    let same : suid ≡ user = cc in
    subst (Seen terms own role history) same (record { key = key; cuid = cuid; shows = by_a_vouch; ticket_known = by_parting 1 refl g.0; proof_known = by_parting 2 refl g.0 })
seen terms own role history move user breaks e r g = absurd (cc)

pub seen_at : (s : Setting) (run : Run) → IsRun s run → (a : Acceptance s run) → Seen (known s a.past) (own_of s a.conv) (s.role a.conv) (moves_of a.conv a.past) a.user
seen_at s run r a =
    seen (known s a.past) (own_of s a.conv) (s.role a.conv) (moves_of a.conv a.past) (accepts a.user) a.user
    (moved_at s a.past a.conv (accepts a.user) (run_with s run a.past (moves a.conv (accepts a.user)) r a.stands)) refl a.by_a_server
    (moves_derive s a.past a.conv (moves_of a.conv a.past) (run_before s run a.past (moves a.conv (accepts a.user)) r a.stands) refl)

-- a key that isn't compromised may not be known
pub unknown_key : (s : Setting) (name : List ℕ) → is_compromised s name ≡ false → Guarded s (long_key name) → ⊥
unknown_key s name e g = true≢false (sym g ∙ e)

granted_to : (s : Setting) (run : Run) (a : Acceptance s run) (v : Seen (known s a.past) (own_of s a.conv) (s.role a.conv) (moves_of a.conv a.past) a.user) (place : Run) (event : Event) →
    Stands a.past place event → (made : ServerTicketMade s event (s.holder a.conv) (nonce a.conv) v.cuid a.user v.key) → IsGrantedTo s run a made.number
granted_to s run a v place event at made = record {
  under = record { key = long_key (s.holder a.conv); chal = nonce a.conv; cuid = v.cuid; suid = a.user; by_ticket = subst (λ k. IsByTicket s run a (seal (long_key (s.holder a.conv)) (ticket for_server (nonce a.conv) v.cuid a.user k))) made.key_is v.shows };
  for_the_server = seal (long_key (s.holder a.conv)) (ticket for_server (nonce a.conv) v.cuid a.user v.key);
  granted = record { past = place; session = made.session; deed = made.deed; stands = subst (Stands a.past place) made.is at; grants = made.grants };
  by_its_ticket = v.shows;
  sealed_for = made.sealed_for;
  user = made.user_is;
  chal = made.chal_is;
}

pub server_agrees : (s : Setting) (run : Run) → IsRun s run → (a : Acceptance s run) → is_compromised s (s.holder a.conv) ≡ false → (number : ℕ) × IsGrantedTo s run a number
server_agrees s run r a true_server =
    let v = seen_at s run r a in
    let before = run_before s run a.past (moves a.conv (accepts a.user)) r a.stands in
    let origin = seal_origin s a.past before (long_key (s.holder a.conv)) (ticket for_server (nonce a.conv) v.cuid a.user v.key) v.ticket_known (unknown_key s (s.holder a.conv) true_server) in
    let made = server_ticket_made s origin.past origin.event (seal (long_key (s.holder a.conv)) (ticket for_server (nonce a.conv) v.cuid a.user v.key)) (s.holder a.conv) (nonce a.conv) v.cuid a.user v.key origin.made refl in
    (made.number, granted_to s run a v origin.past origin.event (record { later = origin.later; place = origin.place }) made)
