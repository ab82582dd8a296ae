-- The matching conversation: where the server's holder and the names that may speak for the user are uncompromised.
use Rattle.std.proofs.Common.{◌≡◌, ℕ, ◌∷◌, List, refl, sym, ◌∙◌, Bool, false, ◌||◌, Option, Some, None, Contains, subst, subst₂, true≢false}
use Rattle.symbolic_runs.specs.declared.kind.MacKind.{MacKind}
use Rattle.symbolic_runs.specs.Trees.{Tree, nonce, long_key, ticket_key, password, seal, digest}
use Rattle.symbolic_runs.specs.Derivations.{Derives, by_parting}
use Rattle.symbolic_runs.specs.Forms.{for_server, for_client, by_client, mail_request, pair, request, ticket, authenticator, tickets, client_message, mail_challenge}
use Rattle.symbolic_runs.specs.Moves.{Role, client, Move, hears, gives, accepts}
use Rattle.symbolic_runs.specs.Sessions.{keys, key_and_password, Deed, got, gives_tickets, gives_vouch, MaySpeak}
use Rattle.symbolic_runs.specs.Runs.{Setting, Event, moves, serves, Run, moves_of, deeds_of, known, IsRun}
use Rattle.symbolic_runs.specs.Secrets.{is_compromised, is_betrayed, exposes, is_exposed, Guarded}
use Rattle.symbolic_runs.specs.Places.{Stands}
use Rattle.symbolic_runs.proofs.Labels.{OfDeeds, of_session, each_at}
use Rattle.symbolic_runs.proofs.SecrecyLaws.{guarded, known_guarded}
use Rattle.symbolic_runs.proofs.ProvenanceLaws.{seal_origin, digest_origin}
use Rattle.symbolic_runs.proofs.Parts.{run_with, run_before, stands_later, served_at, labels_derive, moves_derive}
use Rattle.symbolic_runs.proofs.SessionLaws.{vouch_at}
use Rattle.symbolic_runs.proofs.FormLaws.{seal_parts, ticket_parts, ticket_key_number}
use Rattle.symbolic_runs.specs.Agreement.{server_name, client_name, Acceptance, Shows, by_a_client, by_a_vouch, IsByTicket, IsUnder, Grants, by_tickets, by_vouching, IsGranted, IsGrantedTo, SpeakersAreTrue, client_matches, mail_client_matches, IsMatched}
use Rattle.symbolic_runs.proofs.Makers.{ticketing, client_ticket_made, ProofMade, by_a_client as made_by_a_client, by_a_vouch as made_by_a_vouch, proof_made, digest_made}
use Rattle.symbolic_runs.proofs.Servers.{seen_at, server_agrees}

-- an acceptance is by one ticket, and under one grant
pub one_ticket : (role : Role) (history : List Move) (t u : Tree) → Shows role history t → Shows role history u → t ≡ u
one_ticket role history t u by_a_client by_a_client = refl
one_ticket role history t u by_a_vouch by_a_vouch = refl

pub under_key : (s : Setting) (run : Run) (a : Acceptance s run) (number : ℕ) (k key chal : Tree) (cuid suid : List ℕ) → IsUnder s run a number → IsByTicket s run a (seal k (ticket for_server chal cuid suid key)) → key ≡ ticket_key number
under_key s run a number k key chal cuid suid u shows =
    let same = one_ticket (s.role a.conv) (moves_of a.conv a.past) (seal k (ticket for_server chal cuid suid key)) (seal u.key (ticket for_server u.chal u.cuid u.suid (ticket_key number))) shows u.by_ticket in
    (ticket_parts for_server for_server chal u.chal cuid u.cuid suid u.suid key (ticket_key number) (seal_parts k u.key (ticket for_server chal cuid suid key) (ticket for_server u.chal u.cuid u.suid (ticket_key number)) same).1).4

pub one_grant : (s : Setting) (run : Run) (a : Acceptance s run) (number other : ℕ) → IsUnder s run a number → IsUnder s run a other → number ≡ other
one_grant s run a number other u v = ticket_key_number number other (under_key s run a other u.key (ticket_key number) u.chal u.cuid u.suid v u.by_ticket)

-- a grant isn't exposed where the server and the speakers aren't compromised
neither : (x y : Bool) → x ≡ false → y ≡ false → (x || y) ≡ false
neither x y p q = rw (p, q) refl

true_host : (s : Setting) (speakers : List (List ℕ)) (host : Option (List ℕ)) → ((name : List ℕ) → Contains speakers name → is_compromised s name ≡ false) → MaySpeak speakers host → is_betrayed s host ≡ false
true_host s speakers None all may = refl
true_host s speakers (Some name) all may = all name may

true_sealer : (s : Setting) (sealer : Option (List ℕ)) (name : List ℕ) → sealer ≡ Some name → is_compromised s name ≡ false → is_betrayed s sealer ≡ false
true_sealer s sealer name e p = rw e p

pub unexposed : (s : Setting) (run : Run) (number : ℕ) (for_the_server : Tree) (name : List ℕ) → IsRun s run → IsGranted s run number for_the_server → server_name (s.grants number).used ≡ Some name → is_compromised s name ≡ false → SpeakersAreTrue s number → is_exposed s number ≡ false
unexposed s run number for_the_server name r g named p all = go g.deed for_the_server g.past g.session g.grants g.stands
  where
    go : (deed : Deed) (t : Tree) (past : Run) (session : ℕ) → Grants s number deed t → Stands run past (serves session deed) → is_exposed s number ≡ false
    go deed t past session by_tickets at =
        let row = ticketing s (deeds_of session past) (gives_tickets number) number (served_at s past session (gives_tickets number) (run_with s run past (serves session (gives_tickets number)) r at)) refl in
        subst (λ x. exposes s x ≡ false) (sym row.used) (neither (is_betrayed s row.sealer) (is_betrayed s row.host) (true_sealer s row.sealer name (subst (λ x. server_name x ≡ Some name) row.used named) p) (true_host s (s.grants number).speakers row.host all row.speaks))
    go deed t past session (by_vouching {kind} {first}) at =
        let row = vouch_at s run past session kind number first r at in
        subst (λ x. exposes s x ≡ false) (sym row.used) (true_sealer s row.server name (subst (λ x. server_name x ≡ Some name) row.used named) p)

pub unknown_ticket_key : (s : Setting) (number : ℕ) → is_exposed s number ≡ false → Guarded s (ticket_key number) → ⊥
unknown_ticket_key s number e g = true≢false (sym g ∙ e)

-- where a ticket's key may not be known, nor may the key under which the ticket is sealed
pub unknown_sealer : (s : Setting) (run : Run) (k chal : Tree) (kind cuid suid : List ℕ) (number : ℕ) → IsRun s run → is_exposed s number ≡ false → Derives (known s run) (seal k (ticket kind chal cuid suid (ticket_key number))) → Guarded s k → ⊥
unknown_sealer s run k chal kind cuid suid number r e d known_key =
    let g = guarded s (known s run) (each_at (Guarded s) (known s run) (known_guarded s run r)) (seal k (ticket kind chal cuid suid (ticket_key number))) d in
    unknown_ticket_key s number e (g known_key).1.1.1.1.0

-- a p9sk1 client that gave an authenticator under the grant's key
pub client_match : (s : Setting) (run : Run) (number : ℕ) (user : List ℕ) (conv : ℕ) (gave : Run) (handed chal : Tree) (cuid suid : List ℕ) (before : List Move) → IsRun s run → is_exposed s number ≡ false →
    (s.grants number).chal ≡ chal → (s.grants number).user ≡ user → s.role conv ≡ client →
    moves_of conv gave ≡ hears (tickets (seal (long_key (s.holder conv)) (ticket for_client chal cuid suid (ticket_key number))) handed) ∷ before →
    Stands run gave (moves conv (gives (client_message handed (ticket_key number) chal))) → IsMatched s run number user
client_match s run number user conv gave handed chal cuid suid before r e chal_is user_is role m at =
    let part = run_before s run gave (moves conv (gives (client_message handed (ticket_key number) chal))) r at in
    let body = ticket for_client chal cuid suid (ticket_key number) in
    let heard : Derives (known s gave) (seal (long_key (s.holder conv)) body) = by_parting 1 refl (moves_derive s gave conv (hears (tickets (seal (long_key (s.holder conv)) body) handed) ∷ before) part m).0 in
    let origin = seal_origin s gave part (long_key (s.holder conv)) body heard (unknown_sealer s gave (long_key (s.holder conv)) chal for_client cuid suid number part e heard) in
    let made = client_ticket_made s origin.past origin.event (seal (long_key (s.holder conv)) body) (s.holder conv) chal cuid suid (ticket_key number) origin.made refl in
    let same : made.number ≡ number = sym (ticket_key_number number made.number made.key_is) in
    let named : (s.grants number).used ≡ keys made.sealer (Some (s.holder conv)) = subst (λ n. (s.grants n).used ≡ keys made.sealer (Some (s.holder conv))) same made.used in
    let user_same : suid ≡ user = sym (subst (λ n. (s.grants n).user ≡ suid) same made.user_is) ∙ user_is in
    record {
      conv = conv;
      matches = client_matches {sealer = made.sealer} {handed = handed} {cuid = cuid} {before = before} {gave = gave} role named (subst (λ n. Contains (s.grants n).speakers (s.holder conv)) same made.speaks)
          (subst₂ (λ x u. moves_of conv gave ≡ hears (tickets (seal (long_key (s.holder conv)) (ticket for_client x cuid u (ticket_key number))) handed) ∷ before) (sym chal_is) user_same m)
          (subst (λ x. Stands run gave (moves conv (gives (client_message handed (ticket_key number) x)))) (sym chal_is) at);
      holder = subst (λ x. client_name x ≡ Some (s.holder conv)) (sym named) refl;
    }

-- a mail client whose right answer was vouched for
pub vouch_match : (s : Setting) (run : Run) (number : ℕ) (user : List ℕ) (session first : ℕ) (kind : MacKind) (granted : Run) → IsRun s run → SpeakersAreTrue s number →
    Stands run granted (serves session (gives_vouch kind number first)) → IsMatched s run number user
vouch_match s run number user session first kind granted r all at =
    let row = vouch_at s run granted session kind number first r at in
    let part = run_before s run granted (serves session (gives_vouch kind number first)) r at in
    let asked = pair (request (mail_request kind) row.fields (s.grants number).chal) (digest kind (password row.name) (mail_challenge s.domain first)) in
    let labels : OfDeeds (Derives (known s granted)) s (got number asked ∷ row.before) = subst (OfDeeds (Derives (known s granted)) s) row.is (of_session (Derives (known s granted)) s session granted (labels_derive s granted part)) in
    let answer : Derives (known s granted) (digest kind (password row.name) (mail_challenge s.domain first)) = by_parting 1 refl labels.0 in
    let origin = digest_origin s granted part kind (password row.name) (mail_challenge s.domain first) answer (λ g. true≢false (sym g ∙ all row.name row.speaks)) in
    let made = digest_made s origin.past origin.event (digest kind (password row.name) (mail_challenge s.domain first)) kind row.name (mail_challenge s.domain first) origin.made refl in
    let named : (s.grants number).used ≡ key_and_password row.server (s.holder made.conv) = subst (λ n. (s.grants number).used ≡ key_and_password row.server n) made.holder row.used in
    let gave : Stands granted origin.past (moves made.conv (gives (digest kind (password row.name) (mail_challenge s.domain first)))) = subst (Stands granted origin.past) made.is (record { later = origin.later; place = origin.place }) in
    let its : Stands granted origin.past (moves made.conv (gives (digest kind (password (s.holder made.conv)) (mail_challenge s.domain first)))) = subst (λ n. Stands granted origin.past (moves made.conv (gives (digest kind (password n) (mail_challenge s.domain first))))) made.holder gave in
    record {
      conv = made.conv;
      matches = mail_client_matches {kind = kind} {sealer = row.server} {session = session} {first = first} {granted = granted} {gave = origin.past} made.role named at
          (stands_later run granted origin.past (serves session (gives_vouch kind number first)) (moves made.conv (gives (digest kind (password (s.holder made.conv)) (mail_challenge s.domain first)))) at its);
      holder = subst (λ x. client_name x ≡ Some (s.holder made.conv)) (sym named) refl;
    }

proof_match : (s : Setting) (run : Run) (number : ℕ) (user : List ℕ) (past : Run) (event : Event) (chal : Tree) → IsRun s run → is_exposed s number ≡ false → SpeakersAreTrue s number →
    (s.grants number).chal ≡ chal → (s.grants number).user ≡ user → Stands run past event → ProofMade s past event (ticket_key number) chal → IsMatched s run number user
proof_match s run number user past event chal r e all chal_is user_is at (made_by_a_client conv handed cuid suid before role m is) =
    client_match s run number user conv past handed chal cuid suid before r e chal_is user_is role m (subst (Stands run past) is at)
proof_match s run number user past event chal r e all chal_is user_is at (made_by_a_vouch session made first kind is key_is made_chal) =
    let same : made ≡ number = sym (ticket_key_number number made key_is) in
    vouch_match s run number user session first kind past r all (subst (λ n. Stands run past (serves session (gives_vouch kind n first))) same (subst (Stands run past) is at))

granted_match : (s : Setting) (run : Run) → IsRun s run → (a : Acceptance s run) → is_compromised s (s.holder a.conv) ≡ false → (number : ℕ) → IsGrantedTo s run a number → SpeakersAreTrue s number → IsMatched s a.past number a.user
granted_match s run r a p number g all =
    let v = seen_at s run r a in
    let before = run_before s run a.past (moves a.conv (accepts a.user)) r a.stands in
    let e = unexposed s a.past number g.for_the_server (s.holder a.conv) before g.granted g.sealed_for p all in
    let key_is : v.key ≡ ticket_key number = under_key s run a number (long_key (s.holder a.conv)) v.key (nonce a.conv) v.cuid a.user g.under v.shows in
    let proof : Derives (known s a.past) (seal (ticket_key number) (authenticator by_client (nonce a.conv))) = subst (λ k. Derives (known s a.past) (seal k (authenticator by_client (nonce a.conv)))) key_is v.proof_known in
    let origin = seal_origin s a.past before (ticket_key number) (authenticator by_client (nonce a.conv)) proof (unknown_ticket_key s number e) in
    proof_match s a.past number a.user origin.past origin.event (nonce a.conv) before e all g.chal g.user (record { later = origin.later; place = origin.place })
    (proof_made s origin.past origin.event (seal (ticket_key number) (authenticator by_client (nonce a.conv))) (ticket_key number) (nonce a.conv) origin.made refl)

pub matched : (s : Setting) (run : Run) → IsRun s run → (a : Acceptance s run) → is_compromised s (s.holder a.conv) ≡ false → (number : ℕ) → IsUnder s run a number → SpeakersAreTrue s number → IsMatched s a.past number a.user
matched s run r a p number u all =
    let agreed = server_agrees s run r a p in
    let same : agreed.0 ≡ number = one_grant s run a agreed.0 number agreed.1.under u in
    granted_match s run r a p number (subst (IsGrantedTo s run a) same agreed.1) all
