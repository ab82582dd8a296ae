-- What is said of all labels of a run, for any predicate on trees: once for what may be known, once for where seals
-- come from.
use Rattle.std.proofs.Common.{◌≡◌, ℕ, zero, suc, [], ◌∷◌, ◌++◌, List, inl, inr, eqb, Some, map, subst}
use Rattle.std.proofs.lemmas.Bool.{cases_Bool}
use Rattle.std.specs.List.{slice_get}
use Rattle.symbolic_runs.specs.Trees.{Tree, plain, long_key, password}
use Rattle.symbolic_runs.specs.Derivations.{Derives}
use Rattle.symbolic_runs.specs.Moves.{Move, takes, hears, gives, asks, accepts, fails, Row}
use Rattle.symbolic_runs.specs.Sessions.{Deed, got, gives_tickets, gives_challenge, gives_vouch, refuses, deed_labels, SessionRow}
use Rattle.symbolic_runs.specs.Runs.{Setting, Event, starts, talks, moves, serves, Run, own_of, started, moves_of, deeds_of, move_labels, given, known, Comes, Arrives, IsRun, begins, then_starts, then_talks, then_moves, then_serves}

-- all trees of a list
abbrev pub Each : (Tree → Type 0) → List Tree → Type 0
Each P [] = Unit
Each P (t ∷ ts) = P t × Each P ts

pub each_append : (P : Tree → Type 0) (xs ys : List Tree) → Each P xs → Each P ys → Each P (xs ++ ys)
each_append P [] ys p q = q
each_append P (x ∷ xs) ys p q = (p.0, each_append P xs ys p.1 q)

pub each_at : (P : Tree → Type 0) (xs : List Tree) → Each P xs → (index : ℕ) (t : Tree) → slice_get xs index ≡ Some t → P t
each_at P [] p index t e = absurd (cc)
each_at P (x ∷ xs) p zero t e = subst P (let same : x ≡ t = cc in same) p.0
each_at P (x ∷ xs) p (suc index) t e = each_at P xs p.1 index t e

-- the label of a move, and all labels of moves
abbrev pub OfMove : (Tree → Type 0) → Move → Type 0
OfMove P (takes t) = P t
OfMove P (hears t) = P t
OfMove P (gives t) = P t
OfMove P (asks t) = P t
OfMove P move = Unit

abbrev pub OfMoves : (Tree → Type 0) → List Move → Type 0
OfMoves P [] = Unit
OfMoves P (move ∷ before) = OfMove P move × OfMoves P before

-- the labels of a deed, and all labels of deeds
abbrev pub OfDeed : (Tree → Type 0) → Setting → Deed → Type 0
OfDeed P s (got number t) = P t
OfDeed P s deed = Each P (deed_labels s.domain s.grants deed)

abbrev pub OfDeeds : (Tree → Type 0) → Setting → List Deed → Type 0
OfDeeds P s [] = Unit
OfDeeds P s (deed ∷ before) = OfDeed P s deed × OfDeeds P s before

-- all labels of a run
abbrev pub OfEvent : (Tree → Type 0) → Setting → Event → Type 0
OfEvent P s (moves conv move) = OfMove P move
OfEvent P s (serves session deed) = OfDeed P s deed
OfEvent P s event = Unit

abbrev pub OfRun : (Tree → Type 0) → Setting → Run → Type 0
OfRun P s [] = Unit
OfRun P s (event ∷ past) = OfEvent P s event × OfRun P s past

-- those of one conversation
pub of_conversation : (P : Tree → Type 0) (s : Setting) (conv : ℕ) (past : Run) → OfRun P s past → OfMoves P (moves_of conv past)
of_conversation P s conv [] p = tt
of_conversation P s conv (starts ∷ past) p = of_conversation P s conv past p.1
of_conversation P s conv (talks other bytes ∷ past) p = of_conversation P s conv past p.1
of_conversation P s conv (serves session deed ∷ past) p = of_conversation P s conv past p.1
of_conversation P s conv (moves other move ∷ past) p = elim (cases_Bool (eqb other conv)) [
  | inl same ↦ rw same (p.0, of_conversation P s conv past p.1)
  | inr differs ↦ rw differs (of_conversation P s conv past p.1)
]

-- those of one session
pub of_session : (P : Tree → Type 0) (s : Setting) (session : ℕ) (past : Run) → OfRun P s past → OfDeeds P s (deeds_of session past)
of_session P s session [] p = tt
of_session P s session (starts ∷ past) p = of_session P s session past p.1
of_session P s session (talks other bytes ∷ past) p = of_session P s session past p.1
of_session P s session (moves conv move ∷ past) p = of_session P s session past p.1
of_session P s session (serves other deed ∷ past) p = elim (cases_Bool (eqb other session)) [
  | inl same ↦ rw same (p.0, of_session P s session past p.1)
  | inr differs ↦ rw differs (of_session P s session past p.1)
]

move_given : (P : Tree → Type 0) (move : Move) → OfMove P move → Each P (move_labels move)
move_given P (takes t) p = tt
move_given P (hears t) p = tt
move_given P (gives t) p = (p, tt)
move_given P (asks t) p = (p, tt)
move_given P (accepts user) p = tt
move_given P fails p = tt

deed_given : (P : Tree → Type 0) (s : Setting) (deed : Deed) → OfDeed P s deed → Each P (deed_labels s.domain s.grants deed)
deed_given P s (got number t) p = tt
deed_given P s (gives_tickets number) p = p
deed_given P s (gives_challenge kind number head) p = p
deed_given P s (gives_vouch kind number first) p = p
deed_given P s (refuses number bytes) p = p

-- what was given
pub of_given : (P : Tree → Type 0) (s : Setting) → ((bytes : List ℕ) → P (plain bytes)) → (past : Run) → OfRun P s past → Each P (given s past)
of_given P s public [] p = tt
of_given P s public (starts ∷ past) p = of_given P s public past p.1
of_given P s public (talks conv bytes ∷ past) p = (public bytes, of_given P s public past p.1)
of_given P s public (moves conv move ∷ past) p = each_append P (move_labels move) (given s past) (move_given P move p.0) (of_given P s public past p.1)
of_given P s public (serves session deed ∷ past) p = each_append P (deed_labels s.domain s.grants deed) (given s past) (deed_given P s deed p.0) (of_given P s public past p.1)

-- what is asked of a predicate so that it holds of all labels: of what was betrayed, of public bytes, of whatever
-- follows from trees of which it holds, and of what a row gives where it holds of all labels before. `At` says which
-- parts of a run are looked at
pub record Holds (P : Tree → Type 0) (At : Run → Type 0) (s : Setting) : Type 0 where
  pub shrinks : (event : Event) (past : Run) → At (event ∷ past) → At past
  pub betrayed : Each P (map long_key s.compromised ++ map password s.compromised)
  pub public : (bytes : List ℕ) → P (plain bytes)
  pub derived : (terms : List Tree) → Each P terms → (t : Tree) → Derives terms t → P t
  pub moved : (past : Run) (conv : ℕ) (move : Move) → At (moves conv move ∷ past) → Row (own_of s conv) (s.role conv) (moves_of conv past) move → OfMoves P (moves_of conv past) → Each P (move_labels move)
  pub served : (past : Run) (session : ℕ) (deed : Deed) → At (serves session deed ∷ past) → SessionRow s.domain s.grants (deeds_of session past) deed → OfDeeds P s (deeds_of session past) → Each P (deed_labels s.domain s.grants deed)

of_betrayed : (P : Tree → Type 0) (a b c : List Tree) → Each P (a ++ b) → Each P c → Each P (a ++ (b ++ c))
of_betrayed P [] b c p q = each_append P b c p q
of_betrayed P (x ∷ a) b c p q = (p.0, of_betrayed P a b c p.1 q)

pub of_known : (P : Tree → Type 0) (At : Run → Type 0) (s : Setting) → Holds P At s → (past : Run) → OfRun P s past → Each P (known s past)
of_known P At s h past p = of_betrayed P (map long_key s.compromised) (map password s.compromised) (given s past) h.betrayed (of_given P s h.public past p)

come : (P : Tree → Type 0) (At : Run → Type 0) (s : Setting) → Holds P At s → (past : Run) → OfRun P s past → (move : Move) → Comes s past move → Each P (move_labels move) → OfMove P move
come P At s h past p (takes t) d g = h.derived (known s past) (of_known P At s h past p) t d
come P At s h past p (hears t) d g = h.derived (known s past) (of_known P At s h past p) t d
come P At s h past p (gives t) d g = g.0
come P At s h past p (asks t) d g = g.0
come P At s h past p (accepts user) d g = tt
come P At s h past p fails d g = tt

arrive : (P : Tree → Type 0) (At : Run → Type 0) (s : Setting) → Holds P At s → (past : Run) → OfRun P s past → (deed : Deed) → Arrives s past deed → Each P (deed_labels s.domain s.grants deed) → OfDeed P s deed
arrive P At s h past p (got number t) d g = h.derived (known s past) (of_known P At s h past p) t d.1
arrive P At s h past p (gives_tickets number) d g = g
arrive P At s h past p (gives_challenge kind number head) d g = g
arrive P At s h past p (gives_vouch kind number first) d g = g
arrive P At s h past p (refuses number bytes) d g = g

pub of_all : (P : Tree → Type 0) (At : Run → Type 0) (s : Setting) → Holds P At s → (run : Run) → IsRun s run → At run → OfRun P s run
of_all P At s h [] begins at = tt
of_all P At s h (starts ∷ past) (then_starts r) at = (tt, of_all P At s h past r (h.shrinks starts past at))
of_all P At s h (talks conv bytes ∷ past) (then_talks r started first) at = (tt, of_all P At s h past r (h.shrinks (talks conv bytes) past at))
of_all P At s h (moves conv move ∷ past) (then_moves r started row comes) at =
    let before = of_all P At s h past r (h.shrinks (moves conv move) past at) in
    (come P At s h past before move comes (h.moved past conv move at row (of_conversation P s conv past before)), before)
of_all P At s h (serves session deed ∷ past) (then_serves r row arrives) at =
    let before = of_all P At s h past r (h.shrinks (serves session deed) past at) in
    (arrive P At s h past before deed arrives (h.served past session deed at row (of_session P s session past before)), before)

-- a part of a run is a run
pub part_of_run : (s : Setting) (later past : Run) → IsRun s (later ++ past) → IsRun s past
part_of_run s [] past r = r
part_of_run s (starts ∷ later) past (then_starts r) = part_of_run s later past r
part_of_run s (talks conv bytes ∷ later) past (then_talks r started first) = part_of_run s later past r
part_of_run s (moves conv move ∷ later) past (then_moves r started row comes) = part_of_run s later past r
part_of_run s (serves session deed ∷ later) past (then_serves r row arrives) = part_of_run s later past r
