-- A part of a run is a run, and what it says at its places; what follows from less follows from more.
use Rattle.std.proofs.Common.{◌≡◌, ℕ, zero, suc, ◌+◌, ◌^◌, ◌<◌, [], ◌∷◌, ◌++◌, List, length, refl, sym, ap, ◌∙◌, Some, map, subst, append_assoc, length-append, arith}
use Rattle.std.specs.List.{slice_get}
use Rattle.symbolic_runs.specs.Trees.{Tree, long_key, password, Trees}
use Rattle.symbolic_runs.specs.Derivations.{Derives, DerivesAll, by_knowing, in_public, by_joining, by_parting, by_sealing, by_opening, by_digesting, each_none, each_piece}
use Rattle.symbolic_runs.specs.Moves.{Move, Row}
use Rattle.symbolic_runs.specs.Sessions.{Deed, deed_labels, SessionRow}
use Rattle.symbolic_runs.specs.Runs.{Setting, Event, starts, talks, moves, serves, Run, own_of, started, moves_of, deeds_of, move_labels, given, known, Arrives, IsRun, then_moves, then_serves}
use Rattle.symbolic_runs.specs.Places.{Stands}
use Rattle.symbolic_runs.proofs.Labels.{Each, each_append, each_at, OfMoves, OfRun, Holds, of_all, of_conversation, part_of_run}

-- it is no longer
pub short_part : (run later past : Run) → run ≡ later ++ past → length run < 2 ^ 31 → length past < 2 ^ 31
short_part run later past e short = let whole : length run ≡ length later + length past = ap length e ∙ length-append later past in omega arith

-- the run up to an event, and before it
pub run_with : (s : Setting) (run past : Run) (event : Event) → IsRun s run → Stands run past event → IsRun s (event ∷ past)
run_with s run past event r at = part_of_run s at.later (event ∷ past) (subst (IsRun s) at.place r)

pub run_before : (s : Setting) (run past : Run) (event : Event) → IsRun s run → Stands run past event → IsRun s past
run_before s run past event r at = part_of_run s (event ∷ []) past (run_with s run past event r at)

-- what stands in a part stands in the run
pub stands_later : (run past before : Run) (event other : Event) → Stands run past event → Stands past before other → Stands run before other
stands_later run past before event other at below = record {
  later = at.later ++ (event ∷ below.later);
  place = at.place ∙ (ap (λ x. at.later ++ event ∷ x) below.place ∙ sym (append_assoc at.later (event ∷ below.later) (other ∷ before)));
}

-- what stands behind an event stands in the run with it
pub stands_behind : (past before : Run) (event other : Event) → Stands past before other → Stands (event ∷ past) before other
stands_behind past before event other below = record { later = event ∷ below.later; place = ap (λ x. event ∷ x) below.place }

-- the rows by which a conversation and a session went on
pub moved_at : (s : Setting) (past : Run) (conv : ℕ) (move : Move) → IsRun s (moves conv move ∷ past) → Row (own_of s conv) (s.role conv) (moves_of conv past) move
moved_at s past conv move (then_moves r started row comes) = row

pub started_at : (s : Setting) (past : Run) (conv : ℕ) (move : Move) → IsRun s (moves conv move ∷ past) → conv < started past
started_at s past conv move (then_moves r started row comes) = started

pub served_at : (s : Setting) (past : Run) (session : ℕ) (deed : Deed) → IsRun s (serves session deed ∷ past) → SessionRow s.domain s.grants (deeds_of session past) deed
served_at s past session deed (then_serves r row arrives) = row

pub arrived_at : (s : Setting) (past : Run) (session : ℕ) (deed : Deed) → IsRun s (serves session deed ∷ past) → Arrives s past deed
arrived_at s past session deed (then_serves r row arrives) = arrives

-- what follows from trees that follow follows
mutual
  pub derives_more : (less more : List Tree) → ((index : ℕ) (t : Tree) → slice_get less index ≡ Some t → Derives more t) → (t : Tree) → Derives less t → Derives more t
  derives_more less more h whole (by_knowing index e) = h index whole e
  derives_more less more h whole (in_public bytes) = in_public bytes
  derives_more less more h whole (by_joining {ts} d) = by_joining (all_derive_more less more h ts d)
  derives_more less more h whole (by_parting {ts} {t} index e d) = by_parting index e (derives_more less more h _ d)
  derives_more less more h whole (by_sealing {k} {t} d e) = by_sealing (derives_more less more h k d) (derives_more less more h t e)
  derives_more less more h whole (by_opening {k} {t} d e) = by_opening (derives_more less more h _ d) (derives_more less more h k e)
  derives_more less more h whole (by_digesting {kind} {p} {t} d e) = by_digesting (derives_more less more h p d) (derives_more less more h t e)

  pub all_derive_more : (less more : List Tree) → ((index : ℕ) (t : Tree) → slice_get less index ≡ Some t → Derives more t) → (ts : Trees) → DerivesAll less ts → DerivesAll more ts
  all_derive_more less more h pieces each_none = each_none
  all_derive_more less more h pieces (each_piece {t} {ts} d e) = each_piece (derives_more less more h t d) (all_derive_more less more h ts e)

-- all that is known of a part is known of the run
each_parts : (P : Tree → Type 0) (xs ys : List Tree) → Each P (xs ++ ys) → Each P xs × Each P ys
each_parts P [] ys p = (tt, p)
each_parts P (x ∷ xs) ys p = let rest = each_parts P xs ys p.1 in ((p.0, rest.0), rest.1)

given_before : (P : Tree → Type 0) (s : Setting) (event : Event) (past : Run) → Each P (given s (event ∷ past)) → Each P (given s past)
given_before P s starts past p = p
given_before P s (talks conv bytes) past p = p.1
given_before P s (moves conv move) past p = (each_parts P (move_labels move) (given s past) p).1
given_before P s (serves session deed) past p = (each_parts P (deed_labels s.domain s.grants deed) (given s past) p).1

given_part : (P : Tree → Type 0) (s : Setting) (later past : Run) → Each P (given s (later ++ past)) → Each P (given s past)
given_part P s [] past p = p
given_part P s (event ∷ later) past p = given_part P s later past (given_before P s event (later ++ past) p)

known_parts : (P : Tree → Type 0) (s : Setting) (past : Run) → Each P (known s past) → Each P (map long_key s.compromised ++ map password s.compromised) × Each P (given s past)
known_parts P s past p =
    let keys = each_parts P (map long_key s.compromised) (map password s.compromised ++ given s past) p in
    let rest = each_parts P (map password s.compromised) (given s past) keys.1 in
    (each_append P (map long_key s.compromised) (map password s.compromised) keys.0 rest.0, rest.1)

joined_parts : (P : Tree → Type 0) (a b c : List Tree) → Each P (a ++ b) → Each P c → Each P (a ++ (b ++ c))
joined_parts P [] b c p q = each_append P b c p q
joined_parts P (x ∷ a) b c p q = (p.0, joined_parts P a b c p.1 q)

known_part : (P : Tree → Type 0) (s : Setting) (later past : Run) → Each P (known s (later ++ past)) → Each P (known s past)
known_part P s later past p =
    let parts = known_parts P s (later ++ past) p in
    joined_parts P (map long_key s.compromised) (map password s.compromised) (given s past) parts.0 (given_part P s later past parts.1)

each_from : (P : Tree → Type 0) (xs : List Tree) → ((index : ℕ) (t : Tree) → slice_get xs index ≡ Some t → P t) → Each P xs
each_from P [] h = tt
each_from P (x ∷ xs) h = (h zero x refl, each_from P xs (λ index t e. h (suc index) t e))

all_known : (s : Setting) (run : Run) → Each (Derives (known s run)) (known s run)
all_known s run = each_from (Derives (known s run)) (known s run) (λ index t e. by_knowing index e)

known_of_part : (s : Setting) (run later past : Run) → run ≡ later ++ past → Each (Derives (known s run)) (known s past)
known_of_part s run later past e = known_part (Derives (known s run)) s later past (subst (λ x. Each (Derives (known s run)) (known s x)) e (all_known s run))

-- what follows at a place follows at every later one
pub derives_later : (s : Setting) (run later past : Run) → run ≡ later ++ past → (t : Tree) → Derives (known s past) t → Derives (known s run) t
derives_later s run later past e t d = derives_more (known s past) (known s run) (each_at (Derives (known s run)) (known s past) (known_of_part s run later past e)) t d

-- all labels of a run follow from what is known after it
labels_hold : (s : Setting) (run : Run) → Holds (Derives (known s run)) (λ past. (later : Run) × (run ≡ later ++ past)) s
labels_hold s run = record {
  shrinks = λ event past at. (at.0 ++ event ∷ [], at.1 ∙ sym (append_assoc at.0 (event ∷ []) past));
  betrayed = (known_parts (Derives (known s run)) s run (all_known s run)).0;
  public = λ bytes. in_public bytes;
  derived = λ terms h t d. derives_more terms (known s run) (each_at (Derives (known s run)) terms h) t d;
  moved = λ past conv move at row h. (each_parts (Derives (known s run)) (move_labels move) (given s past) (known_parts (Derives (known s run)) s (moves conv move ∷ past) (known_of_part s run at.0 (moves conv move ∷ past) at.1)).1).0;
  served = λ past session deed at row h. (each_parts (Derives (known s run)) (deed_labels s.domain s.grants deed) (given s past) (known_parts (Derives (known s run)) s (serves session deed ∷ past) (known_of_part s run at.0 (serves session deed ∷ past) at.1)).1).0;
}

pub labels_derive : (s : Setting) (run : Run) → IsRun s run → OfRun (Derives (known s run)) s run
labels_derive s run r = of_all (Derives (known s run)) (λ past. (later : Run) × (run ≡ later ++ past)) s (labels_hold s run) run r ([], refl)

pub moves_derive : (s : Setting) (run : Run) (conv : ℕ) (history : List Move) → IsRun s run → moves_of conv run ≡ history → OfMoves (Derives (known s run)) history
moves_derive s run conv history r e = subst (OfMoves (Derives (known s run))) e (of_conversation (Derives (known s run)) s conv run (labels_derive s run r))
