-- Two acceptances are by different tickets, under different grants, and no conversation matches both.
use Rattle.std.proofs.Common.{◌≡◌, ℕ, zero, suc, [], ◌∷◌, List, length, sym, ap, ◌∙◌, false, Contains, subst, arith}
use Rattle.symbolic_runs.specs.declared.kind.MacKind.{MacKind}
use Rattle.symbolic_runs.specs.Trees.{Tree, nonce, long_key, ticket_key, password, seal, digest}
use Rattle.symbolic_runs.specs.Forms.{for_server, ticket, client_message, mail_challenge}
use Rattle.symbolic_runs.specs.Moves.{client, mail_client, Move, hears, gives, accepts}
use Rattle.symbolic_runs.specs.Sessions.{gives_vouch}
use Rattle.symbolic_runs.specs.Runs.{Setting, Event, moves, serves, Run, moves_of, IsRun}
use Rattle.symbolic_runs.specs.Secrets.{is_compromised}
use Rattle.symbolic_runs.specs.Places.{Stands, turn, turns_that_give}
use Rattle.symbolic_runs.proofs.Parts.{stands_later}
use Rattle.symbolic_runs.proofs.OnceLaws.{turns_differ, one_event, in_turn, accepts_once, only}
use Rattle.symbolic_runs.proofs.SessionLaws.{one_vouch}
use Rattle.symbolic_runs.proofs.FormLaws.{seal_parts, ticket_parts}
use Rattle.symbolic_runs.specs.Agreement.{Acceptance, IsByTicket, IsUnder, Matches, client_matches, mail_client_matches}
use Rattle.symbolic_runs.proofs.Servers.{seen_at, server_agrees}
use Rattle.symbolic_runs.proofs.Matching.{one_ticket, one_grant}

-- acceptances of one conversation are one
one_conversation : (s : Setting) (run : Run) → IsRun s run → (a b : Acceptance s run) → nonce a.conv ≡ nonce b.conv → a.past ≡ b.past
one_conversation s run r a b e =
    let same : b.conv ≡ a.conv = cc in
    accepts_once s run a.past b.past a.conv a.user b.user r a.stands (subst (λ x. Stands run b.past (moves x (accepts b.user))) same b.stands)

-- the ticket of an acceptance holds the conversation's own word
pub a_ticket : (s : Setting) (run : Run) → IsRun s run → (a : Acceptance s run) → (t : Tree) × IsByTicket s run a t
a_ticket s run r a = let v = seen_at s run r a in (seal (long_key (s.holder a.conv)) (ticket for_server (nonce a.conv) v.cuid a.user v.key), v.shows)

pub by_one_ticket : (s : Setting) (run : Run) → IsRun s run → (a b : Acceptance s run) → (t u : Tree) → IsByTicket s run a t → IsByTicket s run b u → t ≡ u → a.past ≡ b.past
by_one_ticket s run r a b t u shows shows' e =
    let v = seen_at s run r a in
    let w = seen_at s run r b in
    let its : t ≡ seal (long_key (s.holder a.conv)) (ticket for_server (nonce a.conv) v.cuid a.user v.key) = one_ticket (s.role a.conv) (moves_of a.conv a.past) t (seal (long_key (s.holder a.conv)) (ticket for_server (nonce a.conv) v.cuid a.user v.key)) shows v.shows in
    let other : u ≡ seal (long_key (s.holder b.conv)) (ticket for_server (nonce b.conv) w.cuid b.user w.key) = one_ticket (s.role b.conv) (moves_of b.conv b.past) u (seal (long_key (s.holder b.conv)) (ticket for_server (nonce b.conv) w.cuid b.user w.key)) shows' w.shows in
    let bodies = (seal_parts (long_key (s.holder a.conv)) (long_key (s.holder b.conv)) (ticket for_server (nonce a.conv) v.cuid a.user v.key) (ticket for_server (nonce b.conv) w.cuid b.user w.key) (sym its ∙ (e ∙ other))).1 in
    one_conversation s run r a b (ticket_parts for_server for_server (nonce a.conv) (nonce b.conv) v.cuid w.cuid a.user b.user v.key w.key bodies).1

-- a grant is for one conversation's word
granted_word : (s : Setting) (run : Run) → IsRun s run → (a : Acceptance s run) → is_compromised s (s.holder a.conv) ≡ false → (number : ℕ) → IsUnder s run a number → (s.grants number).chal ≡ nonce a.conv
granted_word s run r a p number u =
    let agreed = server_agrees s run r a p in
    subst (λ n. (s.grants n).chal ≡ nonce a.conv) (one_grant s run a agreed.0 number agreed.1.under u) agreed.1.chal

pub under_one_grant : (s : Setting) (run : Run) → IsRun s run → (a b : Acceptance s run) → is_compromised s (s.holder a.conv) ≡ false → is_compromised s (s.holder b.conv) ≡ false →
    (number : ℕ) → IsUnder s run a number → IsUnder s run b number → a.past ≡ b.past
under_one_grant s run r a b p q number u v = one_conversation s run r a b (sym (granted_word s run r a p number u) ∙ granted_word s run r b q number v)

-- a client gives one ticket, and a mail client one digest
second_gift : (n : ℕ) → Contains (0 ∷ 4 ∷ []) (suc n) → suc n ≡ 4
second_gift n (zero, below, e) = absurd (cc)
second_gift n (suc zero, below, e) = sym e
second_gift n (suc (suc k), below, e) = absurd (omega (arith, below))

client_turn : (s : Setting) (run past : Run) (conv : ℕ) (t u : Tree) (before : List Move) → IsRun s run → s.role conv ≡ client → moves_of conv past ≡ hears u ∷ before → Stands run past (moves conv (gives t)) → turn conv past ≡ 4
client_turn s run past conv t u before r role m at =
    let turns : Contains (turns_that_give client) (turn conv past) = subst (λ x. Contains (turns_that_give x) (turn conv past)) role (in_turn s run past conv (gives t) r at) in
    let is : turn conv past ≡ suc (length before) = ap length m in
    is ∙ second_gift (length before) (subst (Contains (turns_that_give client)) is turns)

mail_client_turn : (s : Setting) (run past : Run) (conv : ℕ) (kind : MacKind) (t : Tree) → IsRun s run → s.role conv ≡ mail_client kind → Stands run past (moves conv (gives t)) → turn conv past ≡ 1
mail_client_turn s run past conv kind t r role at = sym (only 1 (turn conv past) (subst (λ x. Contains (turns_that_give x) (turn conv past)) role (in_turn s run past conv (gives t) r at)))

same_key : (conv number other : ℕ) (handed handed' chal chal' : Tree) → moves conv (gives (client_message handed (ticket_key number) chal)) ≡ moves conv (gives (client_message handed' (ticket_key other) chal')) → number ≡ other
same_key conv number other handed handed' chal chal' e = cc

same_challenge : (conv first first' : ℕ) (kind kind' : MacKind) (p p' : Tree) (domain : List ℕ) → moves conv (gives (digest kind p (mail_challenge domain first))) ≡ moves conv (gives (digest kind' p' (mail_challenge domain first'))) → first ≡ first'
same_challenge conv first first' kind kind' p p' domain e = cc

same_vouch : (session session' number other first first' : ℕ) (kind kind' : MacKind) → serves session (gives_vouch kind number first) ≡ serves session' (gives_vouch kind' other first') → number ≡ other
same_vouch session session' number other first first' kind kind' e = cc

-- a conversation matches one grant
pub one_match : (s : Setting) (run past past' : Run) (event event' : Event) (number other : ℕ) (user user' : List ℕ) (conv : ℕ) → IsRun s run → Stands run past event → Stands run past' event' →
    Matches s past number user conv → Matches s past' other user' conv → number ≡ other
one_match s run past past' event event' number other user user' conv r at at'
    (client_matches {handed} {cuid} {before} {gave} role used speaks m gift)
    (client_matches {handed = handed'} {cuid = cuid'} {before = before'} {gave = gave'} role' used' speaks' m' gift') =
    let first = moves conv (gives (client_message handed (ticket_key number) (s.grants number).chal)) in
    let second = moves conv (gives (client_message handed' (ticket_key other) (s.grants other).chal)) in
    let here = stands_later run past gave event first at gift in
    let there = stands_later run past' gave' event' second at' gift' in
    let turns = client_turn s run gave conv (client_message handed (ticket_key number) (s.grants number).chal) _ before r role m here in
    let turns' = client_turn s run gave' conv (client_message handed' (ticket_key other) (s.grants other).chal) _ before' r role' m' there in
    let same = turns_differ run gave gave' conv (gives (client_message handed (ticket_key number) (s.grants number).chal)) (gives (client_message handed' (ticket_key other) (s.grants other).chal)) here there (turns ∙ sym turns') in
    same_key conv number other handed handed' (s.grants number).chal (s.grants other).chal (one_event run gave gave' first second here there same)
one_match s run past past' event event' number other user user' conv r at at' (client_matches role used speaks m gift) (mail_client_matches {kind = kind'} role' used' granted' gift') = absurd (let roles : client ≡ mail_client kind' = sym role ∙ role' in cc)
one_match s run past past' event event' number other user user' conv r at at' (mail_client_matches {kind} role used granted gift) (client_matches role' used' speaks' m' gift') = absurd (let roles : client ≡ mail_client kind = sym role' ∙ role in cc)
one_match s run past past' event event' number other user user' conv r at at'
    (mail_client_matches {kind} {session} {first} {granted} {gave} role used vouched gift)
    (mail_client_matches {kind = kind'} {session = session'} {first = first'} {granted = granted'} {gave = gave'} role' used' vouched' gift') =
    let one = digest kind (password (s.holder conv)) (mail_challenge s.domain first) in
    let two = digest kind' (password (s.holder conv)) (mail_challenge s.domain first') in
    let here = stands_later run past gave event (moves conv (gives one)) at gift in
    let there = stands_later run past' gave' event' (moves conv (gives two)) at' gift' in
    let same = turns_differ run gave gave' conv (gives one) (gives two) here there (mail_client_turn s run gave conv kind one r role here ∙ sym (mail_client_turn s run gave' conv kind' two r role' there)) in
    let challenge = same_challenge conv first first' kind kind' (password (s.holder conv)) (password (s.holder conv)) s.domain (one_event run gave gave' (moves conv (gives one)) (moves conv (gives two)) here there same) in
    let vouch = stands_later run past granted event (serves session (gives_vouch kind number first)) at vouched in
    let vouch' = stands_later run past' granted' event' (serves session' (gives_vouch kind' other first)) at' (subst (λ f. Stands past' granted' (serves session' (gives_vouch kind' other f))) (sym challenge) vouched') in
    let place = one_vouch s run granted granted' session session' kind kind' number other first r vouch vouch' in
    same_vouch session session' number other first first kind kind' (one_event run granted granted' (serves session (gives_vouch kind number first)) (serves session' (gives_vouch kind' other first)) vouch vouch' place)

pub matched_by_one : (s : Setting) (run : Run) → IsRun s run → (a b : Acceptance s run) → is_compromised s (s.holder a.conv) ≡ false → is_compromised s (s.holder b.conv) ≡ false →
    (number other conv : ℕ) → IsUnder s run a number → IsUnder s run b other → Matches s a.past number a.user conv → Matches s b.past other b.user conv → a.past ≡ b.past
matched_by_one s run r a b p q number other conv u v m n =
    let same = one_match s run a.past b.past (moves a.conv (accepts a.user)) (moves b.conv (accepts b.user)) number other a.user b.user conv r a.stands b.stands m n in
    under_one_grant s run r a b p q number u (subst (IsUnder s run b) (sym same) v)
