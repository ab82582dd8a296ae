-- A clean legal history is a symbolic run, step by step, where each conversation is lawful and each deal of a session goes on
-- with a run.
use Rattle.std.proofs.Common.{◌≡◌, ℕ, ◌<◌, ◌≤◌, List, [], ◌∷◌, ◌++◌, append_assoc, map, length, length-append, Option, Some, None, Bool, true, if◌then◌else◌, inl, inr, refl, sym, ap, subst, ◌∙◌, arith}
use Rattle.std.proofs.lemmas.Bool.{cases_Bool}
use Rattle.std.proofs.lemmas.Slice.Eq.{bytes_eq-Decides}
use Rattle.std.specs.Str.{bytes_eq}
use Rattle.symbolic_runs.specs.Trees.{Tree}
use Rattle.symbolic_runs.specs.Derivations.{Derives}
use Rattle.symbolic_runs.specs.Spellings.{Atoms}
use Rattle.wire_histories.specs.declared.step.Protocol.{Protocol}
use Rattle.wire_histories.specs.declared.step.Role.{Role as Part}
use Rattle.wire_histories.specs.declared.step.Step.{Step}
use Rattle.wire_histories.specs.declared.step.Step.TheVariants.{Start}
use Rattle.conv_challenge.specs.Starts.{proto_of, side_of}
use Rattle.talks.specs.Protocols.{protocol_of}
use Rattle.roles.specs.Starts.{role_of}
use Rattle.symbolic_runs.specs.Moves.{Role, Move, Own}
use Rattle.symbolic_runs.specs.Runs.{Setting as Symbolic, Run, IsRun, begins as begins_run, then_starts, known, own_of, started as started_run, given as labels_given}
use Rattle.wire_histories.specs.Histories.{History, Act, Deal, act_in, acts_of, started}
use Rattle.wire_histories.specs.Conversations.{protocol_as, role_as, started_by}
use Rattle.wire_histories.specs.Legal.{IsConversation, IsLegal, IsTalk, Setting, Spoken}
use Rattle.clean_runs.specs.Labels.{Labelled, Labelling, given, labelled, started_as, starts_in, taken}
use Rattle.clean_runs.specs.Runs.{acts_in, events_of, is_choosing, moves_by, moves_for, role_at, role_by, holder_at, run_from, setting_of}
use Rattle.clean_runs.specs.Forms.{IsFormed}
use Rattle.clean_runs.specs.Clean.{GoesOn, IsClean, IsLabelled, IsLabelledIf, ReadsKept, ReadsSpoken, ReadsWord}
use Rattle.clean_runs.specs.Statements.{IsBridged, IsSpelledIf, SpellsStep}
use Rattle.clean_runs.proofs.Begun.{Began, BeginsWith, began, begun_behind, holder_placed, idle, role_placed, start_alone}
use Rattle.clean_runs.proofs.Follows.{CleanAct, CleanActs, Follows, IsLawful, IsRead, accepts_it, asks_it, chooses, events_with, fails_so, gives_it, hears_it, hears_none, role_in, run_on, spelled_on, takes_it, takes_none}
use Rattle.clean_runs.proofs.Numbers.{IsOrderly, as_many, below, events_at, label_of, labelled_by, named, not_named, number_is, own_moves, same_name, unstarted}
use Rattle.clean_runs.proofs.Steps.{begins, deals, does, nothing, Deals, Does, InOrder, Kind, kind, taken_by}

-- ---- fronts of a history

acts_append : (name : List ℕ) (later past : History) → acts_of name (later ++ past) ≡ acts_of name later ++ acts_of name past
acts_append name [] past = refl
acts_append name (step ∷ later) past = ap (λ xs. act_in name step ++ xs) (acts_append name later past) ∙ sym (append_assoc (act_in name step) (acts_of name later) (acts_of name past))

none_of : (xs ys : List Act) → xs ++ ys ≡ [] → ys ≡ []
none_of [] ys none = none
none_of (x ∷ xs) ys none = absurd (cc)

of_front : (o : Option Spoken) (later acts : List Act) → IsConversation o (later ++ acts) → IsConversation o acts
of_front None later acts none = none_of later acts none
of_front (Some spoken) later acts t = record { may = t.may; talk = t.talk; met = t.met; kept = t.kept; later = t.later ++ later; left = t.left ∙ sym (append_assoc t.later later acts) }

-- the conversation of acts
pub record Speaks (o : Option Spoken) (act : Act) (acts : List Act) : Type 0 where
  pub spoken : Spoken
  pub is : o ≡ Some spoken
  pub talk : IsTalk spoken (act ∷ acts)

speaks_by : (o : Option Spoken) (act : Act) (acts : List Act) → IsConversation o (act ∷ acts) → Speaks o act acts
speaks_by None act acts none = absurd (cc)
speaks_by (Some spoken) act acts t = record { spoken = spoken; is = refl; talk = t }

-- the acts that labels have
acts_map : (l : Labelling) (past : History) (acts : List Act) (more : List Labelled) → acts_in (map (label_of l past) acts ++ more) ≡ acts ++ acts_in more
acts_map l past [] more = refl
acts_map l past (act ∷ acts) more = ap (λ xs. act ∷ xs) (acts_map l past acts more)

acts_labelled : (l : Labelling) (name : List ℕ) (past : History) → acts_in (labelled l name past) ≡ acts_of name past
acts_labelled l name [] = refl
acts_labelled l name (step ∷ past) = acts_map l past (act_in name step) (labelled l name past) ∙ ap (λ xs. act_in name step ++ xs) (acts_labelled l name past)

pub same_self : (name : List ℕ) → bytes_eq name name ≡ true
same_self name = (bytes_eq-Decides name name).1 refl

-- ---- what is known of a history

pub record Case : Type 0 where
  pub history : History
  pub z : Setting
  pub atoms : Atoms
  pub l : Labelling
  pub legal : IsLegal history z
  pub clean : IsClean history z atoms l
  pub lawful : (name : List ℕ) (spoken : Spoken) → z.spoken name ≡ Some spoken → IsLawful spoken

abbrev pub setting : Case → Symbolic
setting c = setting_of c.z c.l c.history

abbrev pub run : Case → History → Run
run c past = run_from (setting c) c.l past

-- a deal of a session goes on with a run, and what it gives is spelled
pub record GoesWell (c : Case) (past : History) (step : Step) : Type 0 where
  pub runs : IsRun (setting c) (run c past) → IsRun (setting c) (run c (step ∷ past))
  pub spelled : SpellsStep c.atoms (setting c) c.l past step
  pub short : length (events_of (setting c) c.l past step) ≤ 1

-- a conversation at a place
speaking : (c : Case) (later past : History) (step : Step) (conv : List ℕ) (act : Act) → c.history ≡ later ++ step ∷ past → act_in conv step ≡ act ∷ [] → Speaks (c.z.spoken conv) act (acts_of conv past)
speaking c later past step conv act place is =
    let all : IsConversation (c.z.spoken conv) (acts_of conv later ++ acts_of conv (step ∷ past)) = subst (IsConversation (c.z.spoken conv)) (ap (acts_of conv) place ∙ acts_append conv later (step ∷ past)) (c.legal.conversations conv) in
    let here = of_front (c.z.spoken conv) (acts_of conv later) (acts_of conv (step ∷ past)) all in
    speaks_by (c.z.spoken conv) act (acts_of conv past) (subst (IsConversation (c.z.spoken conv)) (ap (λ xs. xs ++ acts_of conv past) is) here)

-- ---- starts come once, and first

order_at : (c : Case) (later past : History) (step : Step) → Kind step → c.history ≡ later ++ step ∷ past → InOrder past step
order_at c later past step (begins conv protocol role word) place =
    let sp = speaking c later past step conv (started protocol role word) place (named conv conv (started protocol role word) (same_self conv)) in
    let begun = (c.lawful conv sp.spoken sp.is).orderly (started protocol role word) (acts_of conv past) sp.talk in
    idle conv past (start_alone (started_by sp.spoken.start) (started protocol role word) (acts_of conv past) refl begun).0
order_at c later past step (does conv act d) place =
    let sp = speaking c later past step conv act place (d.acts conv ∙ named conv conv act (same_self conv)) in
    let begun = begun_behind (started_by sp.spoken.start) act (acts_of conv past) refl d.no_start ((c.lawful conv sp.spoken sp.is).orderly act (acts_of conv past) sp.talk) in
    let b = began_by sp.spoken past conv begun in
    d.in_order past (starts_in b.earlier, b.number)
  where
    began_by : (spoken : Spoken) (past : History) (conv : List ℕ) → BeginsWith (started_by spoken.start) (acts_of conv past) → Began conv (protocol_as (protocol_of spoken.start.template) (proto_of spoken.start.template)) (role_as (protocol_of spoken.start.template) (role_of spoken.start.template) (side_of spoken.start.template)) spoken.start.word past
    began_by spoken past conv begun = began conv _ _ _ past begun
order_at c later past step (deals session deal d) place = d.in_order past
order_at c later past step (nothing d) place = d.in_order past

pub one_more : (c : Case) (later past : History) (step : Step) → c.history ≡ later ++ step ∷ past → c.history ≡ (later ++ step ∷ []) ++ past
one_more c later past step place = place ∙ sym (append_assoc later (step ∷ []) past)

pub orderly : (c : Case) (past later : History) → c.history ≡ later ++ past → IsOrderly past
orderly c [] later place = tt
orderly c (step ∷ past) later place = (order_at c later past step (kind step) place, orderly c past (later ++ step ∷ []) (one_more c later past step place))

-- ---- the labels of a conversation are clean

abbrev role_for : Case → ℕ → Role
role_for c number = (setting c).role number

abbrev own_for : Case → ℕ → Own
own_for c number = own_of (setting c) number

pub labelled_if : (atoms : Atoms) (s : Symbolic) (l : Labelling) (past : History) (o : Option (List ℕ)) (b : List ℕ) → o ≡ Some b → IsLabelledIf atoms s l past o → IsLabelled atoms s l past b
labelled_if atoms s l past o b is labels = subst (IsLabelledIf atoms s l past) is labels

clean_at : (c : Case) (later past : History) (step : Step) (conv : List ℕ) (act : Act) (number : ℕ) → Does conv act step → c.history ≡ later ++ step ∷ past → started_as conv past ≡ Some number → CleanAct c.atoms (own_for c number) (role_for c number) (labelled c.l conv past) (label_of c.l past act)
clean_at c later past step conv act number d place is = record {
  spells = λ b taken_is. (labelled_if c.atoms (setting c) c.l past (taken step) b (d.taken ∙ taken_is) (c.clean.labels later past step place)).spells;
  of_bytes = λ b taken_is. (labelled_if c.atoms (setting c) c.l past (taken step) b (d.taken ∙ taken_is) (c.clean.labels later past step place)).of_bytes;
  formed = λ on. formed_at (d.forms c.atoms (setting c) c.l past on (c.clean.forms later past step place));
}
  where
    formed_at : GoesOn c.atoms (setting c) c.l conv past → IsFormed c.atoms (own_for c number) (role_for c number) (moves_by (own_for c number) (role_for c number) (labelled c.l conv past))
    formed_at formed = subst (λ n. IsFormed c.atoms (own_for c n) (role_for c n) (moves_by (own_for c n) (role_for c n) (labelled c.l conv past))) (number_is past conv number is) formed

nothing_taken : (c : Case) (number : ℕ) (past : History) (protocol : Protocol) (role : Part) (word : List ℕ) (before : List Labelled) → CleanAct c.atoms (own_for c number) (role_for c number) before (label_of c.l past (started protocol role word))
nothing_taken c number past protocol role word before = record { spells = λ b is. absurd (cc); of_bytes = λ b is. absurd (cc); formed = λ on. absurd (cc) }

abbrev AllClean : Case → List ℕ → ℕ → History → Type 0
AllClean c conv number past = CleanActs c.atoms (own_for c number) (role_for c number) (labelled c.l conv past)

clean_in : (c : Case) (later past : History) (step : Step) (conv : List ℕ) (number : ℕ) → Kind step → c.history ≡ later ++ step ∷ past → InOrder past step → IsOrderly past → started_as conv (step ∷ past) ≡ Some number → (started_as conv past ≡ Some number → AllClean c conv number past) → AllClean c conv number (step ∷ past)
clean_in c later past step conv number (begins other p r w) place order in_order is so = elim (cases_Bool (bytes_eq other conv)) [
  | inl same ↦ subst (CleanActs c.atoms (own_for c number) (role_for c number))
      (sym (labelled_by c.l conv (Start other p r w) past (started p r w ∷ []) (named conv other (started p r w) same)
      ∙ ap (λ xs. label_of c.l past (started p r w) ∷ xs) (unstarted c.l past conv in_order (ap (λ n. started_as n past) (sym (same_name other conv same)) ∙ order))))
      (nothing_taken c number past p r w [], tt)
  | inr differs ↦ subst (CleanActs c.atoms (own_for c number) (role_for c number))
      (sym (labelled_by c.l conv (Start other p r w) past [] (not_named conv other (started p r w) differs)))
      (so (ap (λ (b : Bool). if b then Some (starts_in past) else started_as conv past) (sym differs) ∙ is))
]
clean_in c later past step conv number (does other act d) place order in_order is so =
    let stood : started_as conv past ≡ Some number = sym (d.none.started conv past) ∙ is in
    elim (cases_Bool (bytes_eq other conv)) [
      | inl same ↦ subst (CleanActs c.atoms (own_for c number) (role_for c number))
          (sym (labelled_by c.l conv step past (act ∷ []) (d.acts conv ∙ named conv other act same)))
          (clean_at c later past step conv act number (subst (λ n. Does n act step) (same_name other conv same) d) place stood, so stood)
      | inr differs ↦ subst (CleanActs c.atoms (own_for c number) (role_for c number)) (sym (labelled_by c.l conv step past [] (d.acts conv ∙ not_named conv other act differs))) (so stood)
    ]
clean_in c later past step conv number (deals session deal d) place order in_order is so = subst (CleanActs c.atoms (own_for c number) (role_for c number)) (sym (labelled_by c.l conv step past [] (d.acts conv))) (so (sym (d.none.started conv past) ∙ is))
clean_in c later past step conv number (nothing d) place order in_order is so = subst (CleanActs c.atoms (own_for c number) (role_for c number)) (sym (labelled_by c.l conv step past [] (d.acts conv))) (so (sym (d.none.started conv past) ∙ is))

all_clean : (c : Case) (past later : History) (conv : List ℕ) (number : ℕ) → c.history ≡ later ++ past → started_as conv past ≡ Some number → AllClean c conv number past
all_clean c [] later conv number place is = absurd (cc)
all_clean c (step ∷ past) later conv number place is =
    let rest = one_more c later past step place in
    clean_in c later past step conv number (kind step) place (order_at c later past step (kind step) place) (orderly c past (later ++ step ∷ []) rest) is (λ stood. all_clean c past (later ++ step ∷ []) conv number rest stood)

-- ---- the reading of a conversation

is_read : (c : Case) (spoken : Spoken) (conv : List ℕ) (later past : History) (p : Protocol) (r : Part) → started_by spoken.start ≡ started p r spoken.start.word → c.z.spoken conv ≡ Some spoken → c.history ≡ later ++ past → (b : Began conv p r spoken.start.word past) → IsRead c.atoms spoken (starts_in b.earlier) ((setting c).holder (starts_in b.earlier)) (role_for c (starts_in b.earlier))
is_read c spoken conv later past p r first is place b =
    let start = Start conv p r spoken.start.word in
    let whole : c.history ≡ (later ++ b.later) ++ start ∷ b.earlier = place ∙ ap (λ xs. later ++ xs) b.place ∙ sym (append_assoc later b.later (start ∷ b.earlier)) in
    let role_is : role_for c (starts_in b.earlier) ≡ role_by p r = ap (λ h. role_at h (starts_in b.earlier)) whole ∙ role_placed (later ++ b.later) conv p r spoken.start.word b.earlier in
    let holder_is : (setting c).holder (starts_in b.earlier) ≡ c.l.holder conv = ap (λ h. holder_at c.l h (starts_in b.earlier)) whole ∙ holder_placed c.l (later ++ b.later) conv p r spoken.start.word b.earlier in
    let word : ReadsWord c.atoms (role_by p r) (starts_in b.earlier) spoken.start.word = c.clean.words (later ++ b.later) b.earlier start whole in
    let key : ReadsSpoken c.atoms (role_by p r) (c.l.holder conv) (c.z.spoken conv) = c.clean.holders (later ++ b.later) b.earlier start whole in
    let kept : ReadsKept c.atoms (role_by p r) (c.l.holder conv) spoken.key = subst (ReadsSpoken c.atoms (role_by p r) (c.l.holder conv)) is key in
    record {
      bytes = c.clean.bytes;
      of_start = subst (λ act. role_in act (role_for c (starts_in b.earlier))) (sym first) role_is;
      word = subst (λ role. ReadsWord c.atoms role (starts_in b.earlier) spoken.start.word) (sym role_is) word;
      key = subst (λ h. ReadsKept c.atoms (role_for c (starts_in b.earlier)) h spoken.key) (sym holder_is) (subst (λ role. ReadsKept c.atoms role (c.l.holder conv) spoken.key) (sym role_is) kept);
    }

-- ---- an act of a conversation

-- the moves of an act
abbrev moves_now : Case → History → List ℕ → Act → ℕ → List Move
moves_now c past conv act number = moves_for (own_for c number) (role_for c number) (is_choosing (acts_in (labelled c.l conv past))) (moves_by (own_for c number) (role_for c number) (labelled c.l conv past)) act (c.l.label (length past))

abbrev FollowsNow : Case → History → List ℕ → Act → ℕ → Type 0
FollowsNow c past conv act number = Follows c.atoms (own_for c number) (role_for c number) (moves_by (own_for c number) (role_for c number) (labelled c.l conv past)) (is_choosing (acts_in (labelled c.l conv past))) act (c.l.label (length past)) (moves_now c past conv act number)

pub record ActsAt (c : Case) (past : History) (conv : List ℕ) (act : Act) : Type 0 where
  pub number : ℕ
  pub started : started_as conv past ≡ Some number
  pub follows : FollowsNow c past conv act number

-- the reading of a conversation that does something at a place
pub record ReadAt (c : Case) (past : History) (conv : List ℕ) (act : Act) : Type 0 where
  pub spoken : Spoken
  pub is : c.z.spoken conv ≡ Some spoken
  pub talk : IsTalk spoken (act ∷ acts_of conv past)
  pub number : ℕ
  pub started : started_as conv past ≡ Some number
  pub read : IsRead c.atoms spoken number ((setting c).holder number) (role_for c number)

pub read_at : (c : Case) (later past : History) (step : Step) (conv : List ℕ) (act : Act) → Does conv act step → c.history ≡ later ++ step ∷ past → ReadAt c past conv act
read_at c later past step conv act d place =
    let sp = speaking c later past step conv act place (d.acts conv ∙ named conv conv act (same_self conv)) in
    let start = sp.spoken.start in
    let p = protocol_as (protocol_of start.template) (proto_of start.template) in
    let r = role_as (protocol_of start.template) (role_of start.template) (side_of start.template) in
    let begun = begun_behind (started_by start) act (acts_of conv past) refl d.no_start ((c.lawful conv sp.spoken sp.is).orderly act (acts_of conv past) sp.talk) in
    let b = began conv p r start.word past begun in
    record {
      spoken = sp.spoken;
      is = sp.is;
      talk = sp.talk;
      number = starts_in b.earlier;
      started = b.number;
      read = is_read c sp.spoken conv (later ++ step ∷ []) past p r refl sp.is (one_more c later past step place) b;
    }

pub acts_at : (c : Case) (later past : History) (step : Step) (conv : List ℕ) (act : Act) → Does conv act step → c.history ≡ later ++ step ∷ past → ActsAt c past conv act
acts_at c later past step conv act d place =
    let r = read_at c later past step conv act d place in
    let number = r.number in
    let talk = subst (λ acts. IsTalk r.spoken (act ∷ acts)) (sym (acts_labelled c.l conv past)) r.talk in
    let clean : CleanActs c.atoms (own_for c number) (role_for c number) (label_of c.l past act ∷ labelled c.l conv past) = (clean_at c later past step conv act number d place r.started, all_clean c past (later ++ step ∷ []) conv number (one_more c later past step place) r.started) in
    record {
      number = number;
      started = r.started;
      follows = (c.lawful conv r.spoken r.is).followed c.atoms number ((setting c).holder number) (role_for c number) r.read (labelled c.l conv past) (label_of c.l past act) talk clean d.no_start;
    }

pub events_are : (c : Case) (past : History) (step : Step) (conv : List ℕ) (act : Act) (number : ℕ) → Does conv act step → started_as conv past ≡ Some number → events_of (setting c) c.l past step ≡ events_with number (is_choosing (acts_in (labelled c.l conv past))) act (moves_now c past conv act number)
events_are c past step conv act number d is = d.events (setting c) c.l past ∙ ap (events_at (setting c) c.l past conv act) (number_is past conv number is)

-- an act is one event at most
few_events : (atoms : Atoms) (own : Own) (role : Role) (before : List Move) (choosing : Bool) (act : Act) (label : Tree) (ms : List Move) (number : ℕ) → Follows atoms own role before choosing act label ms → length (events_with number choosing act ms) ≤ 1
few_events atoms own role before choosing act label ms number (chooses b none) = omega arith
few_events atoms own role before choosing act label ms number (gives_it b t row spells) = omega arith
few_events atoms own role before choosing act label ms number (takes_it b row) = omega arith
few_events atoms own role before choosing act label ms number (takes_none b) = omega arith
few_events atoms own role before choosing act label ms number (asks_it b t row spells) = omega arith
few_events atoms own role before choosing act label ms number (hears_it b row) = omega arith
few_events atoms own role before choosing act label ms number hears_none = omega arith
few_events atoms own role before choosing act label ms number (accepts_it cuid suid field says row) = omega arith
few_events atoms own role before choosing act label ms number (fails_so cause) = omega arith

act_goes : (c : Case) (later past : History) (step : Step) (conv : List ℕ) (act : Act) → Does conv act step → c.history ≡ later ++ step ∷ past → GoesWell c past step
act_goes c later past step conv act d place =
    let at = acts_at c later past step conv act d place in
    let number = at.number in
    let rest = one_more c later past step place in
    let in_order = orderly c past (later ++ step ∷ []) rest in
    let before = moves_by (own_for c number) (role_for c number) (labelled c.l conv past) in
    let choosing = is_choosing (acts_in (labelled c.l conv past)) in
    let label = c.l.label (length past) in
    let ms = moves_now c past conv act number in
    let events = events_are c past step conv act number d at.started in
    let derives : (b : List ℕ) → taken_by act ≡ Some b → Derives (known (setting c) (run c past)) label = λ b taken_is. (labelled_if c.atoms (setting c) c.l past (taken step) b (d.taken ∙ taken_is) (c.clean.labels later past step place)).derives in
    let far : number < started_run (run c past) = subst (λ n. number < n) (sym (as_many (setting c) c.l past)) (below past conv number at.started) in
    record {
      runs = λ is. subst (λ es. IsRun (setting c) (es ++ run c past)) (sym events) (run_on (setting c) c.atoms number (run c past) before choosing act label ms at.follows is far (own_moves (setting c) c.l past conv number in_order at.started) derives);
      spelled = subst (λ es. IsSpelledIf c.atoms (labels_given (setting c) es) (given step)) (sym events) (subst (IsSpelledIf c.atoms (labels_given (setting c) (events_with number choosing act ms))) (sym d.given) (spelled_on (setting c) c.atoms (own_for c number) (role_for c number) number before choosing act label ms at.follows));
      short = subst (λ es. length es ≤ 1) (sym events) (few_events c.atoms (own_for c number) (role_for c number) before choosing act label ms number at.follows);
    }

-- ---- the whole history

-- each deal of a session goes well
abbrev pub SessionsGo : Case → Type 0
SessionsGo c = (later past : History) (step : Step) (session : List ℕ) (deal : ℕ → Deal) → Deals session deal step → c.history ≡ later ++ step ∷ past → GoesWell c past step

pub goes_by : (c : Case) → SessionsGo c → (later past : History) (step : Step) → Kind step → c.history ≡ later ++ step ∷ past → GoesWell c past step
goes_by c sessions later past step (begins conv protocol role word) place = record { runs = λ is. then_starts is; spelled = tt; short = omega arith }
goes_by c sessions later past step (does conv act d) place = act_goes c later past step conv act d place
goes_by c sessions later past step (deals session deal d) place = sessions later past step session deal d place
goes_by c sessions later past step (nothing d) place = record {
  runs = λ is. subst (λ es. IsRun (setting c) (es ++ run c past)) (sym (d.events (setting c) c.l past)) is;
  spelled = subst (λ o. IsSpelledIf c.atoms (labels_given (setting c) (events_of (setting c) c.l past step)) o) (sym d.given) tt;
  short = subst (λ es. length es ≤ 1) (sym (d.events (setting c) c.l past)) (omega arith);
}

pub runs_on : (c : Case) → SessionsGo c → (past later : History) → c.history ≡ later ++ past → IsRun (setting c) (run c past) × (length (run c past) ≤ length past)
runs_on c sessions [] later place = (begins_run, omega arith)
runs_on c sessions (step ∷ past) later place =
    let so = runs_on c sessions past (later ++ step ∷ []) (one_more c later past step place) in
    let goes = goes_by c sessions later past step (kind step) place in
    let short = goes.short in
    let rest = so.1 in
    let parts = length-append (events_of (setting c) c.l past step) (run c past) in
    (goes.runs so.0, omega (arith, short, rest, parts))

pub bridged : (c : Case) → SessionsGo c → IsBridged c.history c.z c.atoms c.l
bridged c sessions =
    let all = runs_on c sessions c.history [] refl in
    let few = c.clean.short in
    let size = all.1 in
    record {
      run = record { short = omega (arith, few, size); by_the_tables = all.0 };
      spelled = λ later past step place. (goes_by c sessions later past step (kind step) place).spelled;
    }
