-- Every seal under a key that may not be known, and every digest under such a secret, was made by a row.
use Rattle.std.proofs.Common.{◌≡◌, ℕ, zero, suc, [], ◌∷◌, ◌++◌, List, refl, sym, ◌∙◌, Some, map, subst, append_assoc}
use Rattle.std.specs.List.{slice_get}
use Rattle.symbolic_runs.specs.declared.kind.MacKind.{MacKind}
use Rattle.symbolic_runs.specs.Trees.{Tree, long_key, password, joined, seal, digest, Trees, none, piece, piece_at}
use Rattle.symbolic_runs.specs.Derivations.{Derives, DerivesAll, by_knowing, in_public, by_joining, by_parting, by_sealing, by_opening, by_digesting, each_none, each_piece}
use Rattle.symbolic_runs.specs.Moves.{Role, Move, takes, hears, gives, asks, accepts, fails, Row, client_challenge, client_request, client_question, client_answer, client_ticket, client_proof, client_accepts, server_challenge, server_request, server_ticket, server_accepts, server_proof, mail_client_challenge, mail_client_answer, mail_question, mail_answer, mail_challenge_on, mail_user, mail_digest, mail_second_question, mail_second_answer, mail_accepts, breaks}
use Rattle.symbolic_runs.specs.Sessions.{Deed, got, gives_tickets, gives_challenge, gives_vouch, refuses, deed_labels, SessionRow, comes, grants_tickets, challenges, vouches, refusal}
use Rattle.symbolic_runs.specs.Runs.{Setting, Event, Run, moves, serves, own_of, moves_of, deeds_of, move_labels, known, IsRun}
use Rattle.symbolic_runs.specs.Secrets.{Guarded}
use Rattle.symbolic_runs.specs.Origins.{Seals, client_seals, server_seals, seals_for_client, seals_for_server, vouches_by_ticket, vouches_by_proof, Digests, client_digests, Origin}
use Rattle.symbolic_runs.proofs.Labels.{Each, each_at, each_append, OfMoves, OfDeed, OfDeeds, Holds, of_all, of_known}
use Rattle.symbolic_runs.proofs.SecrecyLaws.{guarded, guarded_holds}

-- a seal whose key may not be known has an origin; of one whose key may be known the same holds of its body; digests
-- likewise
abbrev mutual
  pub Traced : Setting → Run → Tree → Type 0
  Traced s run (joined ts) = TracedAll s run ts
  Traced s run (seal k t) = ((Guarded s k → ⊥) → Origin (Seals s) run (seal k t)) × (Guarded s k → Traced s run t)
  Traced s run (digest kind p t) = (Guarded s p → ⊥) → Origin (Digests s) run (digest kind p t)
  Traced s run t = Unit

  pub TracedAll : Setting → Run → Trees → Type 0
  TracedAll s run none = Unit
  TracedAll s run (piece t ts) = Traced s run t × TracedAll s run ts

-- both at once
abbrev pub Kept : Setting → Run → Tree → Type 0
Kept s run t = Guarded s t × Traced s run t

piece_traced : (s : Setting) (run : Run) (ts : Trees) (index : ℕ) (t : Tree) → TracedAll s run ts → piece_at ts index ≡ Some t → Traced s run t
piece_traced s run none index t g e = absurd (cc)
piece_traced s run (piece x ts) zero t g e = subst (Traced s run) (let same : x ≡ t = cc in same) g.0
piece_traced s run (piece x ts) (suc index) t g e = piece_traced s run ts index t g.1 e

abbrev pub AllGuarded : Setting → List Tree → Type 0
AllGuarded s terms = (index : ℕ) (t : Tree) → slice_get terms index ≡ Some t → Guarded s t

mutual
  pub traced : (s : Setting) (run : Run) (terms : List Tree) → AllGuarded s terms → ((index : ℕ) (t : Tree) → slice_get terms index ≡ Some t → Traced s run t) → (t : Tree) → Derives terms t → Traced s run t
  traced s run terms g h whole (by_knowing index e) = h index whole e
  traced s run terms g h whole (in_public bytes) = tt
  traced s run terms g h whole (by_joining {ts} d) = traced_all s run terms g h ts d
  traced s run terms g h whole (by_parting {ts} {t} index e d) = piece_traced s run ts index t (traced s run terms g h (joined ts) d) e
  traced s run terms g h whole (by_sealing {k} {t} d e) = ((λ unknown. absurd (unknown (guarded s terms g k d))), (λ _. traced s run terms g h t e))
  traced s run terms g h whole (by_opening {k} {t} d e) = (traced s run terms g h (seal k t) d).1 (guarded s terms g k e)
  traced s run terms g h whole (by_digesting {kind} {p} {t} d e) = λ unknown. absurd (unknown (guarded s terms g p d))

  pub traced_all : (s : Setting) (run : Run) (terms : List Tree) → AllGuarded s terms → ((index : ℕ) (t : Tree) → slice_get terms index ≡ Some t → Traced s run t) → (ts : Trees) → DerivesAll terms ts → TracedAll s run ts
  traced_all s run terms g h pieces each_none = tt
  traced_all s run terms g h pieces (each_piece {t} {ts} d e) = (traced s run terms g h t d, traced_all s run terms g h ts e)

-- this past, with an event before it or not, is a part of the run
abbrev pub PartOf : Run → Run → Type 0
PartOf run past = (later : Run) × (run ≡ later ++ past)

-- what a move gives is traced where all before it is
moved_traced : (s : Setting) (run past : Run) (conv : ℕ) (role : Role) (history : List Move) (move : Move) → PartOf run (moves conv move ∷ past) → s.role conv ≡ role → moves_of conv past ≡ history →
    Row (own_of s conv) role history move → OfMoves (Traced s run) history → Each (Traced s run) (move_labels move)
moved_traced s run past conv role history move at r m client_challenge g = (tt, tt)
moved_traced s run past conv role history move at r m client_request g = tt
moved_traced s run past conv role history move at r m (client_question fields asked whole) g = ((tt, (tt, (tt, (g.0.1.1.1.0, (tt, (tt, tt)))))), tt)
moved_traced s run past conv role history move at r m client_answer g = tt
moved_traced s run past conv role history move at r m (client_ticket asked {chal} {key} {handed} {r = request} {w = word} {cuid} {suid} names) g =
    ((g.0.1.1.0, (((λ unknown. record { later = at.0; event = moves conv move; past = past; place = at.1; made = client_seals asked cuid suid _ r m }), (λ k. (tt, (g.1.0.1.1.1.0, (tt, tt))))), tt)), tt)
moved_traced s run past conv role history move at r m client_proof g = tt
moved_traced s run past conv role history move at r m client_accepts g = tt
moved_traced s run past conv role history move at r m server_challenge g = tt
moved_traced s run past conv role history move at r m (server_request fields) g = ((tt, (tt, (tt, (tt, (tt, (tt, tt)))))), tt)
moved_traced s run past conv role history move at r m (server_ticket fields) g = tt
moved_traced s run past conv role history move at r m (server_accepts fields names) g = tt
moved_traced s run past conv role history move at r m (server_proof {y} {key} fields {cuid} {suid}) g =
    (((λ unknown. record { later = at.0; event = moves conv move; past = past; place = at.1; made = server_seals fields cuid suid r m }), (λ k. (tt, (g.1.1.1.0, (tt, tt))))), tt)
moved_traced s run past conv role history move at r m mail_client_challenge g = tt
moved_traced s run past conv role history move at r m mail_client_answer g = ((λ unknown. record { later = at.0; event = moves conv move; past = past; place = at.1; made = client_digests r m }), tt)
moved_traced s run past conv role history move at r m (mail_question fields) g = ((tt, (tt, (tt, (tt, (tt, (tt, tt)))))), tt)
moved_traced s run past conv role history move at r m mail_answer g = tt
moved_traced s run past conv role history move at r m (mail_challenge_on six) g = (g.0.1.0, tt)
moved_traced s run past conv role history move at r m mail_user g = tt
moved_traced s run past conv role history move at r m mail_digest g = tt
moved_traced s run past conv role history move at r m (mail_second_question fields) g = (((tt, (tt, (tt, (tt, (tt, (tt, tt)))))), (g.0, tt)), tt)
moved_traced s run past conv role history move at r m mail_second_answer g = tt
moved_traced s run past conv role history move at r m (mail_accepts fields names client_field server_field) g = tt
moved_traced s run past conv role history move at r m breaks g = tt

-- what the authentication server gives is traced where all before it is
served_traced : (s : Setting) (run past : Run) (session : ℕ) (before : List Deed) (deed : Deed) → PartOf run (serves session deed ∷ past) → SessionRow s.domain s.grants (deeds_of session past) deed →
    SessionRow s.domain s.grants before deed → OfDeeds (Traced s run) s before → Each (Traced s run) (deed_labels s.domain s.grants deed)
served_traced s run past session before deed at row (comes idle) g = tt
served_traced s run past session before deed at row (grants_tickets {number} fields server client whole used speaks) g = (
  (
    tt,
    (
      ((λ unknown. record { later = at.0; event = serves session deed; past = past; place = at.1; made = seals_for_client row }), (λ k. (tt, (g.0.1.1.1.0, (tt, (tt, (tt, tt))))))),
      (((λ unknown. record { later = at.0; event = serves session deed; past = past; place = at.1; made = seals_for_server row }), (λ k. (tt, (g.0.1.1.1.0, (tt, (tt, (tt, tt))))))), tt),
    ),
  ),
  tt,
)
served_traced s run past session before deed at row (challenges fields whole free six) g = ((tt, ((tt, (tt, (tt, tt))), tt)), tt)
served_traced s run past session before deed at row (vouches {number} fields server name whole used speaks holds) g = (
  (
    tt,
    (
      ((λ unknown. record { later = at.0; event = serves session deed; past = past; place = at.1; made = vouches_by_ticket row }), (λ k. (tt, (g.0.0.1.1.1.0, (tt, (tt, (tt, tt))))))),
      (((λ unknown. record { later = at.0; event = serves session deed; past = past; place = at.1; made = vouches_by_proof row }), (λ k. (tt, (g.0.0.1.1.1.0, (tt, tt))))), tt),
    ),
  ),
  tt,
)
served_traced s run past session before deed at row refusal g = (tt, tt)

-- of both at once, each alone
of_moves_second : (A B : Tree → Type 0) (before : List Move) → OfMoves (λ t. A t × B t) before → OfMoves B before
of_moves_second A B [] p = tt
of_moves_second A B (takes t ∷ before) p = (p.0.1, of_moves_second A B before p.1)
of_moves_second A B (hears t ∷ before) p = (p.0.1, of_moves_second A B before p.1)
of_moves_second A B (gives t ∷ before) p = (p.0.1, of_moves_second A B before p.1)
of_moves_second A B (asks t ∷ before) p = (p.0.1, of_moves_second A B before p.1)
of_moves_second A B (accepts user ∷ before) p = (tt, of_moves_second A B before p.1)
of_moves_second A B (fails ∷ before) p = (tt, of_moves_second A B before p.1)

of_moves_first : (A B : Tree → Type 0) (before : List Move) → OfMoves (λ t. A t × B t) before → OfMoves A before
of_moves_first A B [] p = tt
of_moves_first A B (takes t ∷ before) p = (p.0.0, of_moves_first A B before p.1)
of_moves_first A B (hears t ∷ before) p = (p.0.0, of_moves_first A B before p.1)
of_moves_first A B (gives t ∷ before) p = (p.0.0, of_moves_first A B before p.1)
of_moves_first A B (asks t ∷ before) p = (p.0.0, of_moves_first A B before p.1)
of_moves_first A B (accepts user ∷ before) p = (tt, of_moves_first A B before p.1)
of_moves_first A B (fails ∷ before) p = (tt, of_moves_first A B before p.1)

pub each_both : (A B : Tree → Type 0) (ts : List Tree) → Each A ts → Each B ts → Each (λ t. A t × B t) ts
each_both A B [] p q = tt
each_both A B (t ∷ ts) p q = ((p.0, q.0), each_both A B ts p.1 q.1)

each_second : (A B : Tree → Type 0) (ts : List Tree) → Each (λ t. A t × B t) ts → Each B ts
each_second A B [] p = tt
each_second A B (t ∷ ts) p = (p.0.1, each_second A B ts p.1)

each_first : (A B : Tree → Type 0) (ts : List Tree) → Each (λ t. A t × B t) ts → Each A ts
each_first A B [] p = tt
each_first A B (t ∷ ts) p = (p.0.0, each_first A B ts p.1)

of_deed_first : (A B : Tree → Type 0) (s : Setting) (deed : Deed) → OfDeed (λ t. A t × B t) s deed → OfDeed A s deed
of_deed_first A B s (got number t) p = p.0
of_deed_first A B s (gives_tickets number) p = each_first A B (deed_labels s.domain s.grants (gives_tickets number)) p
of_deed_first A B s (gives_challenge kind number head) p = each_first A B (deed_labels s.domain s.grants (gives_challenge kind number head)) p
of_deed_first A B s (gives_vouch kind number first) p = each_first A B (deed_labels s.domain s.grants (gives_vouch kind number first)) p
of_deed_first A B s (refuses number bytes) p = each_first A B (deed_labels s.domain s.grants (refuses number bytes)) p

of_deed_second : (A B : Tree → Type 0) (s : Setting) (deed : Deed) → OfDeed (λ t. A t × B t) s deed → OfDeed B s deed
of_deed_second A B s (got number t) p = p.1
of_deed_second A B s (gives_tickets number) p = each_second A B (deed_labels s.domain s.grants (gives_tickets number)) p
of_deed_second A B s (gives_challenge kind number head) p = each_second A B (deed_labels s.domain s.grants (gives_challenge kind number head)) p
of_deed_second A B s (gives_vouch kind number first) p = each_second A B (deed_labels s.domain s.grants (gives_vouch kind number first)) p
of_deed_second A B s (refuses number bytes) p = each_second A B (deed_labels s.domain s.grants (refuses number bytes)) p

of_deeds_first : (A B : Tree → Type 0) (s : Setting) (before : List Deed) → OfDeeds (λ t. A t × B t) s before → OfDeeds A s before
of_deeds_first A B s [] p = tt
of_deeds_first A B s (deed ∷ before) p = (of_deed_first A B s deed p.0, of_deeds_first A B s before p.1)

of_deeds_second : (A B : Tree → Type 0) (s : Setting) (before : List Deed) → OfDeeds (λ t. A t × B t) s before → OfDeeds B s before
of_deeds_second A B s [] p = tt
of_deeds_second A B s (deed ∷ before) p = (of_deed_second A B s deed p.0, of_deeds_second A B s before p.1)

-- what was betrayed has no seal in it
betrayed_traced : (s : Setting) (run : Run) (names : List (List ℕ)) → Each (Traced s run) (map long_key names) × Each (Traced s run) (map password names)
betrayed_traced s run [] = (tt, tt)
betrayed_traced s run (name ∷ names) = let rest = betrayed_traced s run names in ((tt, rest.0), (tt, rest.1))

shrinks : (run : Run) (event : Event) (past : Run) → PartOf run (event ∷ past) → PartOf run past
shrinks run event past at = (at.0 ++ event ∷ [], at.1 ∙ sym (append_assoc at.0 (event ∷ []) past))

kept_holds : (s : Setting) (run : Run) → Holds (Kept s run) (PartOf run) s
kept_holds s run = record {
  shrinks = shrinks run;
  betrayed = let parts = betrayed_traced s run s.compromised in each_both (Guarded s) (Traced s run) (map long_key s.compromised ++ map password s.compromised) (guarded_holds s).betrayed (each_append (Traced s run) (map long_key s.compromised) (map password s.compromised) parts.0 parts.1);
  public = λ bytes. (tt, tt);
  derived = λ terms k t d.
      let g = each_at (Guarded s) terms (each_first (Guarded s) (Traced s run) terms k) in
      (guarded s terms g t d, traced s run terms g (each_at (Traced s run) terms (each_second (Guarded s) (Traced s run) terms k)) t d);
  moved = λ past conv move at row k. each_both (Guarded s) (Traced s run) (move_labels move)
      ((guarded_holds s).moved past conv move tt row (of_moves_first (Guarded s) (Traced s run) (moves_of conv past) k))
      (moved_traced s run past conv (s.role conv) (moves_of conv past) move at refl refl row (of_moves_second (Guarded s) (Traced s run) (moves_of conv past) k));
  served = λ past session deed at row k. each_both (Guarded s) (Traced s run) (deed_labels s.domain s.grants deed)
      ((guarded_holds s).served past session deed tt row (of_deeds_first (Guarded s) (Traced s run) s (deeds_of session past) k))
      (served_traced s run past session (deeds_of session past) deed at row row (of_deeds_second (Guarded s) (Traced s run) s (deeds_of session past) k));
}

pub known_traced : (s : Setting) (run : Run) → IsRun s run → (t : Tree) → Derives (known s run) t → Traced s run t
known_traced s run r t d =
    let k = of_known (Kept s run) (PartOf run) s (kept_holds s run) run (of_all (Kept s run) (PartOf run) s (kept_holds s run) run r ([], refl)) in
    let g = each_at (Guarded s) (known s run) (each_first (Guarded s) (Traced s run) (known s run) k) in
    traced s run (known s run) g (each_at (Traced s run) (known s run) (each_second (Guarded s) (Traced s run) (known s run) k)) t d

pub seal_origin : (s : Setting) (run : Run) → IsRun s run → (k t : Tree) → Derives (known s run) (seal k t) → (Guarded s k → ⊥) → Origin (Seals s) run (seal k t)
seal_origin s run r k t d unknown = (known_traced s run r (seal k t) d).0 unknown

pub digest_origin : (s : Setting) (run : Run) → IsRun s run → (kind : MacKind) (p t : Tree) → Derives (known s run) (digest kind p t) → (Guarded s p → ⊥) → Origin (Digests s) run (digest kind p t)
digest_origin s run r kind p t d unknown = known_traced s run r (digest kind p t) d unknown
