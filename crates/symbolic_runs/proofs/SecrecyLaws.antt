-- What follows from guarded terms is guarded; all labels of a run are guarded; so no secret follows.
use Rattle.std.proofs.Common.{◌≡◌, ℕ, zero, suc, [], ◌∷◌, ◌++◌, List, true, not, refl, sym, ap, ◌∙◌, Some, None, map, subst}
use Rattle.std.proofs.lemmas.Bool.{true≢false, or_left, or_right}
use Rattle.std.proofs.lemmas.Slice.Eq.{bytes_eq-Decides}
use Rattle.std.specs.List.{slice_get, list_any}
use Rattle.std.specs.Str.{bytes_eq}
use Rattle.symbolic_runs.specs.Trees.{Tree, plain, nonce, challenge, long_key, ticket_key, junk_key, password, joined, seal, digest, Trees, none, piece, piece_at}
use Rattle.symbolic_runs.specs.Derivations.{Derives, DerivesAll, by_knowing, in_public, by_joining, by_parting, by_sealing, by_opening, by_digesting, each_none, each_piece}
use Rattle.symbolic_runs.specs.Moves.{Role, Move, Own, Row, client_challenge, client_request, client_question, client_answer, client_ticket, client_proof, client_accepts, server_challenge, server_request, server_ticket, server_accepts, server_proof, mail_client_challenge, mail_client_answer, mail_question, mail_answer, mail_challenge_on, mail_user, mail_digest, mail_second_question, mail_second_answer, mail_accepts, breaks}
use Rattle.symbolic_runs.specs.Sessions.{Used, keys, key_and_password, Deed, deed_labels, key_for_server, key_for_client, SessionRow, comes, grants_tickets, challenges, vouches, refusal}
use Rattle.symbolic_runs.specs.Runs.{Setting, Run, own_of, moves_of, deeds_of, move_labels, known, IsRun}
use Rattle.symbolic_runs.specs.Secrets.{is_compromised, is_betrayed, exposes, is_secret, Guarded, GuardedAll}
use Rattle.symbolic_runs.proofs.Labels.{Each, each_at, each_append, OfMoves, OfDeeds, Holds, of_all, of_known, part_of_run}

piece_guarded : (s : Setting) (ts : Trees) (index : ℕ) (t : Tree) → GuardedAll s ts → piece_at ts index ≡ Some t → Guarded s t
piece_guarded s none index t g e = absurd (cc)
piece_guarded s (piece x ts) zero t g e = subst (Guarded s) (let same : x ≡ t = cc in same) g.0
piece_guarded s (piece x ts) (suc index) t g e = piece_guarded s ts index t g.1 e

-- the key lemma: no derivation leaves the guarded terms
mutual
  pub guarded : (s : Setting) (terms : List Tree) → ((index : ℕ) (t : Tree) → slice_get terms index ≡ Some t → Guarded s t) → (t : Tree) → Derives terms t → Guarded s t
  guarded s terms h whole (by_knowing index e) = h index whole e
  guarded s terms h whole (in_public bytes) = tt
  guarded s terms h whole (by_joining {ts} d) = guarded_all s terms h ts d
  guarded s terms h whole (by_parting {ts} {t} index e d) = piece_guarded s ts index t (guarded s terms h (joined ts) d) e
  guarded s terms h whole (by_sealing {k} {t} d e) = λ _. guarded s terms h t e
  guarded s terms h whole (by_opening {k} {t} d e) = guarded s terms h (seal k t) d (guarded s terms h k e)
  guarded s terms h whole (by_digesting {kind} {p} {t} d e) = tt

  pub guarded_all : (s : Setting) (terms : List Tree) → ((index : ℕ) (t : Tree) → slice_get terms index ≡ Some t → Guarded s t) → (ts : Trees) → DerivesAll terms ts → GuardedAll s ts
  guarded_all s terms h pieces each_none = tt
  guarded_all s terms h pieces (each_piece {t} {ts} d e) = (guarded s terms h t d, guarded_all s terms h ts e)

-- what a move gives is guarded where all before it is
moved_guarded : (s : Setting) (own : Own) (role : Role) (before : List Move) (move : Move) → Guarded s own.word → Row own role before move → OfMoves (Guarded s) before → Each (Guarded s) (move_labels move)
moved_guarded s own role before move w client_challenge g = (w, tt)
moved_guarded s own role before move w client_request g = tt
moved_guarded s own role before move w (client_question fields asked whole) g = (let x = g.0.1.1.1.0 in (tt, (tt, (tt, (x, (tt, (tt, tt)))))), tt)
moved_guarded s own role before move w client_answer g = tt
moved_guarded s own role before move w (client_ticket asked names) g = ((g.0.1.1.0, ((λ _. (tt, (g.1.0.1.1.1.0, (tt, tt)))), tt)), tt)
moved_guarded s own role before move w client_proof g = tt
moved_guarded s own role before move w client_accepts g = tt
moved_guarded s own role before move w server_challenge g = tt
moved_guarded s own role before move w (server_request fields) g = ((tt, (tt, (tt, (w, (tt, (tt, tt)))))), tt)
moved_guarded s own role before move w (server_ticket fields) g = tt
moved_guarded s own role before move w (server_accepts fields names) g = tt
moved_guarded s own role before move w (server_proof fields) g = ((λ _. (tt, (g.1.1.1.0, (tt, tt)))), tt)
moved_guarded s own role before move w mail_client_challenge g = tt
moved_guarded s own role before move w mail_client_answer g = (tt, tt)
moved_guarded s own role before move w (mail_question fields) g = ((tt, (tt, (tt, (w, (tt, (tt, tt)))))), tt)
moved_guarded s own role before move w mail_answer g = tt
moved_guarded s own role before move w (mail_challenge_on six) g = (g.0.1.0, tt)
moved_guarded s own role before move w mail_user g = tt
moved_guarded s own role before move w mail_digest g = tt
moved_guarded s own role before move w (mail_second_question fields) g = (((tt, (tt, (tt, (w, (tt, (tt, tt)))))), (g.0, tt)), tt)
moved_guarded s own role before move w mail_second_answer g = tt
moved_guarded s own role before move w (mail_accepts fields names client_field server_field) g = tt
moved_guarded s own role before move w breaks g = tt

-- a key under which a ticket was sealed may be known only where the grant is exposed
server_exposed : (s : Setting) (used : Used) (number : ℕ) → Guarded s (key_for_server used number) → exposes s used ≡ true
server_exposed s (keys (Some name) client) number g = or_left (is_compromised s name) (is_betrayed s client) g
server_exposed s (keys None client) number g = absurd g
server_exposed s (key_and_password (Some name) user) number g = g
server_exposed s (key_and_password None user) number g = absurd g

client_exposed : (s : Setting) (used : Used) (number : ℕ) → Guarded s (key_for_client used number) → exposes s used ≡ true
client_exposed s (keys server (Some name)) number g = or_right (is_betrayed s server) (is_compromised s name) g
client_exposed s (keys server None) number g = absurd g
client_exposed s (key_and_password server user) number g = absurd g

-- what the authentication server gives is guarded where all before it is
served_guarded : (s : Setting) (before : List Deed) (deed : Deed) → SessionRow s.domain s.grants before deed → OfDeeds (Guarded s) s before → Each (Guarded s) (deed_labels s.domain s.grants deed)
served_guarded s before deed (comes idle) g = tt
served_guarded s before deed (grants_tickets {number} fields server client whole used speaks) g =
    ((tt, ((λ k. (tt, (g.0.1.1.1.0, (tt, (tt, (client_exposed s (s.grants number).used number k, tt)))))), ((λ k. (tt, (g.0.1.1.1.0, (tt, (tt, (server_exposed s (s.grants number).used number k, tt)))))), tt))), tt)
served_guarded s before deed (challenges fields whole free six) g = ((tt, ((tt, (tt, (tt, tt))), tt)), tt)
served_guarded s before deed (vouches {number} fields server name whole used speaks holds) g =
    ((tt, ((λ k. (tt, (g.0.0.1.1.1.0, (tt, (tt, (server_exposed s (s.grants number).used number k, tt)))))), ((λ _. (tt, (g.0.0.1.1.1.0, (tt, tt)))), tt))), tt)
served_guarded s before deed refusal g = (tt, tt)

-- what was betrayed is compromised
found_itself : (name : List ℕ) (names : List (List ℕ)) → list_any (λ other. bytes_eq other name) (name ∷ names) ≡ true
found_itself name names = or_left (bytes_eq name name) (list_any (λ other. bytes_eq other name) names) ((bytes_eq-Decides name name).1 refl)

betrayed_guarded : (s : Setting) (names : List (List ℕ)) → ((name : List ℕ) → list_any (λ other. bytes_eq other name) names ≡ true → is_compromised s name ≡ true) → Each (Guarded s) (map long_key names) × Each (Guarded s) (map password names)
betrayed_guarded s [] h = (tt, tt)
betrayed_guarded s (name ∷ names) h =
    let here = h name (found_itself name names) in
    let rest = betrayed_guarded s names (λ other e. h other (or_right (bytes_eq name other) (list_any (λ x. bytes_eq x other) names) e)) in
    ((here, rest.0), (here, rest.1))

pub guarded_holds : (s : Setting) → Holds (Guarded s) (λ run. Unit) s
guarded_holds s = record {
  shrinks = λ event past at. tt;
  betrayed = let parts = betrayed_guarded s s.compromised (λ name e. e) in each_append (Guarded s) (map long_key s.compromised) (map password s.compromised) parts.0 parts.1;
  public = λ bytes. tt;
  derived = λ terms g t d. guarded s terms (each_at (Guarded s) terms g) t d;
  moved = λ past conv move at row g. moved_guarded s (own_of s conv) (s.role conv) (moves_of conv past) move tt row g;
  served = λ past session deed at row g. served_guarded s (deeds_of session past) deed row g;
}

-- a secret isn't guarded
secret_kept : (s : Setting) (t : Tree) → is_secret s t ≡ true → Guarded s t → ⊥
secret_kept s (long_key name) e g = true≢false (sym e ∙ ap not g)
secret_kept s (password name) e g = true≢false (sym e ∙ ap not g)
secret_kept s (ticket_key number) e g = true≢false (sym e ∙ ap not g)
secret_kept s (junk_key number) e g = g
secret_kept s (plain bytes) e g = absurd (cc)
secret_kept s (nonce number) e g = absurd (cc)
secret_kept s (challenge number) e g = absurd (cc)
secret_kept s (joined ts) e g = absurd (cc)
secret_kept s (seal k t) e g = absurd (cc)
secret_kept s (digest kind p t) e g = absurd (cc)

pub known_guarded : (s : Setting) (run : Run) → IsRun s run → Each (Guarded s) (known s run)
known_guarded s run r = of_known (Guarded s) (λ x. Unit) s (guarded_holds s) run (of_all (Guarded s) (λ x. Unit) s (guarded_holds s) run r tt)

pub secrecy : (s : Setting) (run : Run) → IsRun s run → (later past : Run) → run ≡ later ++ past → (t : Tree) → is_secret s t ≡ true → Derives (known s past) t → ⊥
secrecy s run r later past e t secret d =
    let part = part_of_run s later past (subst (IsRun s) e r) in
    secret_kept s t secret (guarded s (known s past) (each_at (Guarded s) (known s past) (known_guarded s past part)) t d)
