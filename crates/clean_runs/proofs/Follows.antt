-- What an act of a conversation is in the run: a move that the table of its role allows, whose tree is spelled by the bytes that
-- it gives. What is proved of one role at a time has this form.
use Rattle.std.proofs.Common.{◌≡◌, ℕ, ◌<◌, List, [], ◌∷◌, ◌++◌, map, Some, Bool, true, false, Ok, refl, sym, ap, subst, ◌∙◌}
use Rattle.symbolic_runs.specs.Trees.{Tree, plain, nonce, long_key, password}
use Rattle.symbolic_runs.specs.Derivations.{Derives}
use Rattle.symbolic_runs.specs.Spellings.{Atoms, spelling}
use Rattle.symbolic_runs.specs.Agreement.{is_server}
use Rattle.symbolic_runs.specs.Forms.{name_text}
use Rattle.symbolic_runs.specs.Moves.{Role, Move, takes, hears, gives, asks, accepts, fails, Own, Row, breaks}
use Rattle.symbolic_runs.specs.Runs.{Setting as Symbolic, Event, Run, moves, IsRun, then_talks, then_moves, known, moves_of, own_of, started as started_run, given as labels_given}
use Rattle.wire_histories.specs.Histories.{Act, started, gave, took, asked, answered, unanswered, accepted, failed}
use Rattle.wire_histories.specs.Conversations.{started_by}
use Rattle.wire_histories.specs.Legal.{IsTalk, Spoken}
use Rattle.clean_runs.specs.Labels.{Labelled}
use Rattle.clean_runs.specs.Runs.{acts_in, is_choosing, moves_by, moves_for, role_by, talk_events}
use Rattle.clean_runs.specs.Forms.{IsFormed}
use Rattle.clean_runs.specs.Clean.{GivesBytes, HoldsBytes, ReadsKept, ReadsWord}
use Rattle.clean_runs.specs.Statements.{IsSpelledIf}
use Rattle.clean_runs.proofs.Begun.{BeginsWith}
use Rattle.clean_runs.proofs.Steps.{given_by, goes_on, is_start, taken_by}

-- an act with its label, where p9any is choosing or not, and the moves that it is
pub data Follows (atoms : Atoms) (own : Own) (role : Role) (before : List Move) : Bool → Act → Tree → List Move → Type 0 where
  chooses : {label : Tree} (b : List ℕ) → before ≡ [] → Follows atoms own role before true (gave b) label []
  gives_it : {label : Tree} (b : List ℕ) (t : Tree) → Row own role before (gives t) → spelling atoms t ≡ Ok b → Follows atoms own role before false (gave b) label (gives t ∷ [])
  takes_it : {choosing : Bool} {label : Tree} (b : List ℕ) → Row own role before (takes label) → Follows atoms own role before choosing (took b) label (takes label ∷ [])
  takes_none : {choosing : Bool} {label : Tree} (b : List ℕ) → Follows atoms own role before choosing (took b) label []
  asks_it : {choosing : Bool} {label : Tree} (b : List ℕ) (t : Tree) → Row own role before (asks t) → spelling atoms t ≡ Ok b → Follows atoms own role before choosing (asked b) label (asks t ∷ [])
  hears_it : {choosing : Bool} {label : Tree} (b : List ℕ) → Row own role before (hears label) → Follows atoms own role before choosing (answered b) label (hears label ∷ [])
  hears_none : {choosing : Bool} {label : Tree} → Follows atoms own role before choosing unanswered label []
  accepts_it : {choosing : Bool} {label : Tree} (cuid suid field : List ℕ) → (is_server role ≡ true → name_text field ≡ suid) → Row own role before (accepts field) → Follows atoms own role before choosing (accepted cuid suid) label (accepts field ∷ [])
  fails_so : {choosing : Bool} {label : Tree} (cause : List ℕ) → Follows atoms own role before choosing (failed cause) label (fails ∷ [])

-- a server that accepts names the user whose field it accepts
abbrev pub NamesUser : Role → Act → List Move → Type 0
NamesUser role (accepted cuid suid) (accepts field ∷ []) = is_server role ≡ true → name_text field ≡ suid
NamesUser role act ms = Unit {0}

pub names_user : (atoms : Atoms) (own : Own) (role : Role) (before : List Move) (choosing : Bool) (act : Act) (label : Tree) (ms : List Move) → Follows atoms own role before choosing act label ms → NamesUser role act ms
names_user atoms own role before choosing act label ms (chooses b none) = tt
names_user atoms own role before choosing act label ms (gives_it b t row spells) = tt
names_user atoms own role before choosing act label ms (takes_it b row) = tt
names_user atoms own role before choosing act label ms (takes_none b) = tt
names_user atoms own role before choosing act label ms (asks_it b t row spells) = tt
names_user atoms own role before choosing act label ms (hears_it b row) = tt
names_user atoms own role before choosing act label ms hears_none = tt
names_user atoms own role before choosing act label ms (accepts_it cuid suid field says row) = says
names_user atoms own role before choosing act label ms (fails_so cause) = tt

-- the events of these moves
abbrev pub events_with : ℕ → Bool → Act → List Move → List Event
events_with number choosing act ms = talk_events number choosing act ++ map (moves number) ms

-- they go on with a run
pub run_on : (s : Symbolic) (atoms : Atoms) (number : ℕ) (run : Run) (before : List Move) (choosing : Bool) (act : Act) (label : Tree) (ms : List Move) → Follows atoms (own_of s number) (s.role number) before choosing act label ms → IsRun s run → number < started_run run → moves_of number run ≡ before → ((b : List ℕ) → taken_by act ≡ Some b → Derives (known s run) label) → IsRun s (events_with number choosing act ms ++ run)
run_on s atoms number run before choosing act label ms (chooses b none) is far done derives = then_talks is far (done ∙ none)
run_on s atoms number run before choosing act label ms (gives_it b t row spells) is far done derives = then_moves is far (subst (λ m. Row (own_of s number) (s.role number) m (gives t)) (sym done) row) tt
run_on s atoms number run before choosing act label ms (takes_it b row) is far done derives = then_moves is far (subst (λ m. Row (own_of s number) (s.role number) m (takes label)) (sym done) row) (derives b refl)
run_on s atoms number run before choosing act label ms (takes_none b) is far done derives = is
run_on s atoms number run before choosing act label ms (asks_it b t row spells) is far done derives = then_moves is far (subst (λ m. Row (own_of s number) (s.role number) m (asks t)) (sym done) row) tt
run_on s atoms number run before choosing act label ms (hears_it b row) is far done derives = then_moves is far (subst (λ m. Row (own_of s number) (s.role number) m (hears label)) (sym done) row) (derives b refl)
run_on s atoms number run before choosing act label ms hears_none is far done derives = is
run_on s atoms number run before choosing act label ms (accepts_it cuid suid field says row) is far done derives = then_moves is far (subst (λ m. Row (own_of s number) (s.role number) m (accepts field)) (sym done) row) tt
run_on s atoms number run before choosing act label ms (fails_so cause) is far done derives = then_moves is far breaks tt

-- what is given is spelled by its one label
pub spelled_on : (s : Symbolic) (atoms : Atoms) (own : Own) (role : Role) (number : ℕ) (before : List Move) (choosing : Bool) (act : Act) (label : Tree) (ms : List Move) → Follows atoms own role before choosing act label ms → IsSpelledIf atoms (labels_given s (events_with number choosing act ms)) (given_by act)
spelled_on s atoms own role number before choosing act label ms (chooses b none) = record { label = plain b; one = refl; spells = refl }
spelled_on s atoms own role number before choosing act label ms (gives_it b t row spells) = record { label = t; one = refl; spells = spells }
spelled_on s atoms own role number before choosing act label ms (takes_it b row) = tt
spelled_on s atoms own role number before choosing act label ms (takes_none b) = tt
spelled_on s atoms own role number before choosing act label ms (asks_it b t row spells) = record { label = t; one = refl; spells = spells }
spelled_on s atoms own role number before choosing act label ms (hears_it b row) = tt
spelled_on s atoms own role number before choosing act label ms hears_none = tt
spelled_on s atoms own role number before choosing act label ms (accepts_it cuid suid field says row) = tt
spelled_on s atoms own role number before choosing act label ms (fails_so cause) = tt

-- ---- one conversation

abbrev pub own_by : ℕ → List ℕ → Own
own_by number holder = record { word = nonce number; key = long_key holder; password = password holder }

-- the labels of a conversation's acts are clean
pub record CleanAct (atoms : Atoms) (own : Own) (role : Role) (before : List Labelled) (a : Labelled) : Type 0 where
  pub spells : (b : List ℕ) → taken_by a.act ≡ Some b → spelling atoms a.label ≡ Ok b
  pub of_bytes : (b : List ℕ) → taken_by a.act ≡ Some b → HoldsBytes a.label
  pub formed : goes_on a.act ≡ true → IsFormed atoms own role (moves_by own role before)

abbrev pub CleanActs : Atoms → Own → Role → List Labelled → Type 0
CleanActs atoms own role [] = Unit {0}
CleanActs atoms own role (a ∷ before) = CleanAct atoms own role before a × CleanActs atoms own role before

-- the role of a start
abbrev pub role_in : Act → Role → Type 0
role_in (started protocol by word) role = role ≡ role_by protocol by
role_in act role = ⊥

-- what the reading says of a conversation: of its word, and of the key that it keeps
pub record IsRead (atoms : Atoms) (spoken : Spoken) (number : ℕ) (holder : List ℕ) (role : Role) : Type 0 where
  pub bytes : GivesBytes atoms
  pub of_start : role_in (started_by spoken.start) role
  pub word : ReadsWord atoms role number spoken.start.word
  pub key : ReadsKept atoms role holder spoken.key

-- its acts begin with its start
abbrev pub IsOrderlyTalk : Spoken → Type 0
IsOrderlyTalk spoken = (act : Act) (acts : List Act) → IsTalk spoken (act ∷ acts) → BeginsWith (started_by spoken.start) (act ∷ acts)

-- each act behind the start is the moves that it is
abbrev pub IsFollowed : Spoken → Type 0
IsFollowed spoken = (atoms : Atoms) (number : ℕ) (holder : List ℕ) (role : Role) → IsRead atoms spoken number holder role →
    (before : List Labelled) (a : Labelled) → IsTalk spoken (a.act ∷ acts_in before) → CleanActs atoms (own_by number holder) role (a ∷ before) → is_start a.act ≡ false →
    Follows atoms (own_by number holder) role (moves_by (own_by number holder) role before) (is_choosing (acts_in before)) a.act a.label (moves_for (own_by number holder) role (is_choosing (acts_in before)) (moves_by (own_by number holder) role before) a.act a.label)

pub record IsLawful (spoken : Spoken) : Type 0 where
  pub orderly : IsOrderlyTalk spoken
  pub followed : IsFollowed spoken

-- what an act is, where what stood before it is known
pub as_follows : (atoms : Atoms) (own : Own) (role : Role) (before : List Labelled) (a : Labelled) (m : List Move) (choosing : Bool) (act : Act) (ms : List Move) → moves_by own role before ≡ m → is_choosing (acts_in before) ≡ choosing → a.act ≡ act → moves_for own role choosing m act a.label ≡ ms → Follows atoms own role m choosing act a.label ms → Follows atoms own role (moves_by own role before) (is_choosing (acts_in before)) a.act a.label (moves_for own role (is_choosing (acts_in before)) (moves_by own role before) a.act a.label)
as_follows atoms own role before a m choosing act ms moves_are choosing_is act_is ms_are follows =
    subst (λ m. Follows atoms own role m (is_choosing (acts_in before)) a.act a.label (moves_for own role (is_choosing (acts_in before)) m a.act a.label)) (sym moves_are)
    (subst (λ c. Follows atoms own role m c a.act a.label (moves_for own role c m a.act a.label)) (sym choosing_is)
    (subst (λ act. Follows atoms own role m choosing act a.label (moves_for own role choosing m act a.label)) (sym act_is)
    (subst (Follows atoms own role m choosing act a.label) (sym ms_are) follows)))

-- the moves with one act more
pub moves_next : (own : Own) (role : Role) (before more : List Labelled) (a : Labelled) (m : List Move) (choosing : Bool) (act : Act) (ms : List Move) → before ≡ a ∷ more → moves_by own role more ≡ m → is_choosing (acts_in more) ≡ choosing → a.act ≡ act → moves_for own role choosing m act a.label ≡ ms → moves_by own role before ≡ ms ++ m
moves_next own role before more a m choosing act ms front moves_are choosing_is act_is ms_are =
    ap (moves_by own role) front
    ∙ ap (λ m. moves_for own role (is_choosing (acts_in more)) m a.act a.label ++ m) moves_are
    ∙ ap (λ c. moves_for own role c m a.act a.label ++ m) choosing_is
    ∙ ap (λ act. moves_for own role choosing m act a.label ++ m) act_is
    ∙ ap (λ ms. ms ++ m) ms_are

-- the labels of acts that are known
pub one_act : (before : List Labelled) (act : Act) → acts_in before ≡ act ∷ [] → (a : Labelled) × (before ≡ a ∷ []) × (a.act ≡ act)
one_act [] act is = absurd (cc)
one_act (a ∷ []) act is = (a, refl, (let same : a.act ≡ act = cc in same))
one_act (a ∷ b ∷ more) act is = absurd (let none : acts_in (b ∷ more) ≡ [] = cc in cc)

pub more_acts : (before : List Labelled) (act : Act) (acts : List Act) → acts_in before ≡ act ∷ acts → (a : Labelled) × (more : List Labelled) × (before ≡ a ∷ more) × (a.act ≡ act) × (acts_in more ≡ acts)
more_acts [] act acts is = absurd (cc)
more_acts (a ∷ more) act acts is = (a, more, refl, (let same : a.act ≡ act = cc in same), (let rest : acts_in more ≡ acts = cc in rest))

-- an act that is known, with its labels clean, and those before it
pub record Known (atoms : Atoms) (own : Own) (role : Role) (before : List Labelled) (act : Act) (acts : List Act) : Type 0 where
  pub a : Labelled
  pub more : List Labelled
  pub front : before ≡ a ∷ more
  pub act_is : a.act ≡ act
  pub rest : acts_in more ≡ acts
  pub clean : CleanAct atoms own role more a
  pub clean_rest : CleanActs atoms own role more

pub known_act : (atoms : Atoms) (own : Own) (role : Role) (before : List Labelled) (act : Act) (acts : List Act) → acts_in before ≡ act ∷ acts → CleanActs atoms own role before → Known atoms own role before act acts
known_act atoms own role before act acts is clean =
    let p = more_acts before act acts is in
    let c : CleanActs atoms own role (p.0 ∷ p.1) = subst (CleanActs atoms own role) p.2 clean in
    record { a = p.0; more = p.1; front = p.2; act_is = p.3; rest = p.4; clean = c.0; clean_rest = c.1 }
