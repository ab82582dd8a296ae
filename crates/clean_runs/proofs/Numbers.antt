-- The numbers of conversations: those that have started have different ones, below the number of starts. What a conversation
-- did in the run is what its own labels make.
use Rattle.std.proofs.Common.{◌≡◌, ℕ, ◌+◌, ◌<◌, ◌≤◌, List, [], ◌∷◌, ◌++◌, map, length, Some, None, Bool, true, false, eqb, if◌then◌else◌, inl, inr, refl, sym, ap, subst, ◌∙◌, arith}
use Rattle.std.proofs.lemmas.Bool.{cases_Bool, eq-eqb, eqb-true}
use Rattle.std.proofs.lemmas.Slice.Eq.{bytes_eq-Decides}
use Rattle.std.specs.Str.{bytes_eq}
use Rattle.wire_histories.specs.declared.step.Step.{Step}
use Rattle.wire_histories.specs.declared.step.Step.TheVariants.{Start}
use Rattle.symbolic_runs.specs.Moves.{Move}
use Rattle.symbolic_runs.specs.Sessions.{Deed}
use Rattle.symbolic_runs.specs.Runs.{Setting as Symbolic, Event, Run, starts, talks, moves, serves, moves_of, own_of, started as started_run}
use Rattle.wire_histories.specs.Histories.{History, Act, started, gave, took, asked, answered, unanswered, accepted, failed, Deal, act_in, if_named, reloads_in}
use Rattle.clean_runs.specs.Labels.{Labelled, Labelling, dealt, labelled, or_zero, requests_in, started_as, starts_in}
use Rattle.clean_runs.specs.Runs.{acts_in, deeds_by, deeds_for_deal, events_of, is_choosing, moves_by, moves_for, number_of, run_from, session_number, talk_events}
use Rattle.clean_runs.proofs.Steps.{begins, deals, does, nothing, HasStarted, InOrder, Kind, kind}

-- ---- numbers

pub same_name : (a b : List ℕ) → bytes_eq a b ≡ true → a ≡ b
same_name a b e = (bytes_eq-Decides a b).0 e

-- the number of a conversation that has started is below the number of starts
below_in : (step : Step) (past : History) (name : List ℕ) (number : ℕ) → Kind step → ((number : ℕ) → started_as name past ≡ Some number → number < starts_in past) → started_as name (step ∷ past) ≡ Some number → number < starts_in (step ∷ past)
below_in step past name number (begins conv protocol role word) so is = elim (cases_Bool (bytes_eq conv name)) [
  | inl same ↦ (let here : Some (starts_in past) ≡ Some number = ap (λ (b : Bool). if b then Some (starts_in past) else started_as name past) (sym same) ∙ is in let n : starts_in past ≡ number = cc in omega (arith, n))
  | inr differs ↦ (let there = so number (ap (λ (b : Bool). if b then Some (starts_in past) else started_as name past) (sym differs) ∙ is) in omega (arith, there))
]
below_in step past name number (does conv act d) so is = rw (d.none.starts past) (so number (sym (d.none.started name past) ∙ is))
below_in step past name number (deals session deal d) so is = rw (d.none.starts past) (so number (sym (d.none.started name past) ∙ is))
below_in step past name number (nothing d) so is = rw (d.none.starts past) (so number (sym (d.none.started name past) ∙ is))

pub below : (past : History) (name : List ℕ) (number : ℕ) → started_as name past ≡ Some number → number < starts_in past
below [] name number is = absurd (cc)
below (step ∷ past) name number is = below_in step past name number (kind step) (below past name) is

-- two names with one number are one
apart_in : (step : Step) (past : History) (a b : List ℕ) (number : ℕ) → Kind step → (started_as a past ≡ Some number → started_as b past ≡ Some number → a ≡ b) → started_as a (step ∷ past) ≡ Some number → started_as b (step ∷ past) ≡ Some number → a ≡ b
apart_in step past a b number (begins conv protocol role word) so is is' = elim (cases_Bool (bytes_eq conv a)) [
  | inl same ↦ elim (cases_Bool (bytes_eq conv b)) [
    | inl same' ↦ sym (same_name conv a same) ∙ same_name conv b same'
    | inr differs' ↦ absurd (
        let here : Some (starts_in past) ≡ Some number = ap (λ (b : Bool). if b then Some (starts_in past) else started_as a past) (sym same) ∙ is in
        let n : starts_in past ≡ number = cc in
        let there = below past b number (ap (λ (x : Bool). if x then Some (starts_in past) else started_as b past) (sym differs') ∙ is') in
        omega (arith, n, there))
  ]
  | inr differs ↦ elim (cases_Bool (bytes_eq conv b)) [
    | inl same' ↦ absurd (
        let here : Some (starts_in past) ≡ Some number = ap (λ (x : Bool). if x then Some (starts_in past) else started_as b past) (sym same') ∙ is' in
        let n : starts_in past ≡ number = cc in
        let there = below past a number (ap (λ (x : Bool). if x then Some (starts_in past) else started_as a past) (sym differs) ∙ is) in
        omega (arith, n, there))
    | inr differs' ↦ so (ap (λ (x : Bool). if x then Some (starts_in past) else started_as a past) (sym differs) ∙ is) (ap (λ (x : Bool). if x then Some (starts_in past) else started_as b past) (sym differs') ∙ is')
  ]
]
apart_in step past a b number (does conv act d) so is is' = so (sym (d.none.started a past) ∙ is) (sym (d.none.started b past) ∙ is')
apart_in step past a b number (deals session deal d) so is is' = so (sym (d.none.started a past) ∙ is) (sym (d.none.started b past) ∙ is')
apart_in step past a b number (nothing d) so is is' = so (sym (d.none.started a past) ∙ is) (sym (d.none.started b past) ∙ is')

pub apart : (past : History) (a b : List ℕ) (number : ℕ) → started_as a past ≡ Some number → started_as b past ≡ Some number → a ≡ b
apart [] a b number is is' = absurd (cc)
apart (step ∷ past) a b number is is' = apart_in step past a b number (kind step) (apart past a b number) is is'

-- ---- what events are

moves_append : (number : ℕ) (later past : Run) → moves_of number (later ++ past) ≡ moves_of number later ++ moves_of number past
moves_append number [] past = refl
moves_append number (starts ∷ later) past = moves_append number later past
moves_append number (talks conv b ∷ later) past = moves_append number later past
moves_append number (serves session deed ∷ later) past = moves_append number later past
moves_append number (moves conv move ∷ later) past = elim (cases_Bool (eqb conv number)) [
  | inl same ↦ rw same (ap (λ xs. move ∷ xs) (moves_append number later past))
  | inr differs ↦ rw differs (moves_append number later past)
]

moves_same : (number : ℕ) (ms : List Move) → moves_of number (map (moves number) ms) ≡ ms
moves_same number [] = refl
moves_same number (move ∷ ms) = rw (eq-eqb number number refl) (ap (λ xs. move ∷ xs) (moves_same number ms))

moves_other : (other number : ℕ) (ms : List Move) → eqb other number ≡ false → moves_of number (map (moves other) ms) ≡ []
moves_other other number [] differs = refl
moves_other other number (move ∷ ms) differs = rw differs (moves_other other number ms differs)

moves_served : (session number : ℕ) (ds : List Deed) → moves_of number (map (serves session) ds) ≡ []
moves_served session number [] = refl
moves_served session number (d ∷ ds) = moves_served session number ds

moves_talked : (other number : ℕ) (choosing : Bool) (act : Act) → moves_of number (talk_events other choosing act) ≡ []
moves_talked other number true (gave b) = refl
moves_talked other number false (gave b) = refl
moves_talked other number choosing (started protocol role word) = refl
moves_talked other number choosing (took b) = refl
moves_talked other number choosing (asked b) = refl
moves_talked other number choosing (answered b) = refl
moves_talked other number choosing unanswered = refl
moves_talked other number choosing (accepted cuid suid) = refl
moves_talked other number choosing (failed cause) = refl

-- the deeds of a deal
abbrev pub deeds_at : Labelling → History → List ℕ → Deal → List Deed
deeds_at l past session deal = deeds_for_deal (deeds_by (dealt l session past)) (dealt l session past) deal (requests_in past) (l.label (length past))

-- the events of an act of the conversation with this number
abbrev pub events_at : Symbolic → Labelling → History → List ℕ → Act → ℕ → List Event
events_at s l past conv act number =
    talk_events number (is_choosing (acts_in (labelled l conv past))) act
    ++ map (moves number) (moves_for (own_of s number) (s.role number) (is_choosing (acts_in (labelled l conv past))) (moves_by (own_of s number) (s.role number) (labelled l conv past)) act (l.label (length past)))

pub number_is : (past : History) (conv : List ℕ) (number : ℕ) → started_as conv past ≡ Some number → number_of conv past ≡ number
number_is past conv number is = ap or_zero is

moves_at : (s : Symbolic) (l : Labelling) (past : History) (conv : List ℕ) (act : Act) (number : ℕ) → moves_of number (events_at s l past conv act number) ≡ moves_for (own_of s number) (s.role number) (is_choosing (acts_in (labelled l conv past))) (moves_by (own_of s number) (s.role number) (labelled l conv past)) act (l.label (length past))
moves_at s l past conv act number =
    moves_append number (talk_events number (is_choosing (acts_in (labelled l conv past))) act) _
    ∙ ap (λ xs. xs ++ moves_of number (map (moves number) (moves_for (own_of s number) (s.role number) (is_choosing (acts_in (labelled l conv past))) (moves_by (own_of s number) (s.role number) (labelled l conv past)) act (l.label (length past))))) (moves_talked number number (is_choosing (acts_in (labelled l conv past))) act)
    ∙ moves_same number _

moves_elsewhere : (s : Symbolic) (l : Labelling) (past : History) (conv : List ℕ) (act : Act) (other number : ℕ) → eqb other number ≡ false → moves_of number (events_at s l past conv act other) ≡ []
moves_elsewhere s l past conv act other number differs =
    moves_append number (talk_events other (is_choosing (acts_in (labelled l conv past))) act) _
    ∙ ap (λ xs. xs ++ moves_of number (map (moves other) (moves_for (own_of s other) (s.role other) (is_choosing (acts_in (labelled l conv past))) (moves_by (own_of s other) (s.role other) (labelled l conv past)) act (l.label (length past))))) (moves_talked other number (is_choosing (acts_in (labelled l conv past))) act)
    ∙ moves_other other number _ differs

pub differ : (a b : ℕ) → (a ≡ b → ⊥) → eqb a b ≡ false
differ a b apart = elim (cases_Bool (eqb a b)) [
  | inl same ↦ absurd (apart (eqb-true a b same))
  | inr differs ↦ differs
]

-- ---- histories in order

abbrev pub IsOrderly : History → Type 0
IsOrderly [] = Unit {0}
IsOrderly (step ∷ past) = InOrder past step × IsOrderly past

-- a number that no start has yet did nothing
fresh_in : (s : Symbolic) (l : Labelling) (step : Step) (past : History) (number : ℕ) → Kind step → InOrder past step → starts_in (step ∷ past) ≤ number → (starts_in past ≤ number → moves_of number (run_from s l past) ≡ []) → moves_of number (run_from s l (step ∷ past)) ≡ []
fresh_in s l step past number (begins conv protocol role word) order most so = so (omega (arith, most))
fresh_in s l step past number (does conv act d) order most so =
    let begun = d.ordered past order in
    let far = below past conv begun.0 begun.1 in
    let bound : starts_in past ≤ number = subst (λ n. n ≤ number) (d.none.starts past) most in
    moves_append number (events_of s l past step) (run_from s l past)
    ∙ ap (λ es. moves_of number es ++ moves_of number (run_from s l past)) (d.events s l past)
    ∙ ap (λ n. moves_of number (events_at s l past conv act n) ++ moves_of number (run_from s l past)) (number_is past conv begun.0 begun.1)
    ∙ ap (λ xs. xs ++ moves_of number (run_from s l past)) (moves_elsewhere s l past conv act begun.0 number (differ begun.0 number (λ e. omega (arith, e, far, bound))))
    ∙ so bound
fresh_in s l step past number (deals session deal d) order most so =
    let bound : starts_in past ≤ number = subst (λ n. n ≤ number) (d.none.starts past) most in
    moves_append number (events_of s l past step) (run_from s l past)
    ∙ ap (λ es. moves_of number es ++ moves_of number (run_from s l past)) (d.events s l past)
    ∙ ap (λ xs. xs ++ moves_of number (run_from s l past)) (moves_served (session_number session past) number (deeds_at l past session (deal (reloads_in past))))
    ∙ so bound
fresh_in s l step past number (nothing d) order most so =
    let bound : starts_in past ≤ number = subst (λ n. n ≤ number) (d.none.starts past) most in
    ap (λ es. moves_of number (es ++ run_from s l past)) (d.events s l past) ∙ so bound

pub fresh : (s : Symbolic) (l : Labelling) (past : History) (number : ℕ) → IsOrderly past → starts_in past ≤ number → moves_of number (run_from s l past) ≡ []
fresh s l [] number order most = refl
fresh s l (step ∷ past) number order most = fresh_in s l step past number (kind step) order.0 most (λ bound. fresh s l past number order.1 bound)

-- a name that has not started did nothing
abbrev pub label_of : Labelling → History → Act → Labelled
label_of l past act = record { act = act; label = l.label (length past) }

pub labelled_by : (l : Labelling) (name : List ℕ) (step : Step) (past : History) (acts : List Act) → act_in name step ≡ acts → labelled l name (step ∷ past) ≡ map (label_of l past) acts ++ labelled l name past
labelled_by l name step past acts is = ap (λ xs. map (label_of l past) xs ++ labelled l name past) is

pub named : (name conv : List ℕ) (act : Act) → bytes_eq conv name ≡ true → if_named conv name act ≡ act ∷ []
named name conv act same = ap (λ (b : Bool). if b then act ∷ [] else []) same

pub not_named : (name conv : List ℕ) (act : Act) → bytes_eq conv name ≡ false → if_named conv name act ≡ []
not_named name conv act differs = ap (λ (b : Bool). if b then act ∷ [] else []) differs

unstarted_in : (l : Labelling) (step : Step) (past : History) (name : List ℕ) → Kind step → InOrder past step → started_as name (step ∷ past) ≡ None → (started_as name past ≡ None → labelled l name past ≡ []) → labelled l name (step ∷ past) ≡ []
unstarted_in l step past name (begins conv protocol role word) order is so = elim (cases_Bool (bytes_eq conv name)) [
  | inl same ↦ absurd (let here : Some (starts_in past) ≡ None = ap (λ (b : Bool). if b then Some (starts_in past) else started_as name past) (sym same) ∙ is in cc)
  | inr differs ↦ labelled_by l name (Start conv protocol role word) past [] (not_named name conv (started protocol role word) differs) ∙ so (ap (λ (b : Bool). if b then Some (starts_in past) else started_as name past) (sym differs) ∙ is)
]
unstarted_in l step past name (does conv act d) order is so =
    let none : started_as name past ≡ None = sym (d.none.started name past) ∙ is in
    elim (cases_Bool (bytes_eq conv name)) [
      | inl same ↦ absurd (let begun = d.ordered past order in let here : Some begun.0 ≡ None = sym begun.1 ∙ ap (λ c. started_as c past) (same_name conv name same) ∙ none in cc)
      | inr differs ↦ labelled_by l name step past [] (d.acts name ∙ not_named name conv act differs) ∙ so none
    ]
unstarted_in l step past name (deals session deal d) order is so = labelled_by l name step past [] (d.acts name) ∙ so (sym (d.none.started name past) ∙ is)
unstarted_in l step past name (nothing d) order is so = labelled_by l name step past [] (d.acts name) ∙ so (sym (d.none.started name past) ∙ is)

pub unstarted : (l : Labelling) (past : History) (name : List ℕ) → IsOrderly past → started_as name past ≡ None → labelled l name past ≡ []
unstarted l [] name order is = refl
unstarted l (step ∷ past) name order is = unstarted_in l step past name (kind step) order.0 is (unstarted l past name order.1)

-- ---- what a conversation did in the run is what its labels make

abbrev IsOwn : Symbolic → Labelling → List ℕ → ℕ → History → Type 0
IsOwn s l name number past = moves_of number (run_from s l past) ≡ moves_by (own_of s number) (s.role number) (labelled l name past)

own_in : (s : Symbolic) (l : Labelling) (step : Step) (past : History) (name : List ℕ) (number : ℕ) → Kind step → InOrder past step → IsOrderly past → started_as name (step ∷ past) ≡ Some number → (started_as name past ≡ Some number → IsOwn s l name number past) → IsOwn s l name number (step ∷ past)
own_in s l step past name number (begins conv protocol role word) order orderly is so = elim (cases_Bool (bytes_eq conv name)) [
  | inl same ↦ (
      let here : Some (starts_in past) ≡ Some number = ap (λ (b : Bool). if b then Some (starts_in past) else started_as name past) (sym same) ∙ is in
      let n : starts_in past ≡ number = cc in
      let empty = unstarted l past name orderly (ap (λ c. started_as c past) (sym (same_name conv name same)) ∙ order) in
      fresh s l past number orderly (omega (arith, n))
      ∙ sym (ap (moves_by (own_of s number) (s.role number)) (labelled_by l name (Start conv protocol role word) past (started protocol role word ∷ []) (named name conv (started protocol role word) same) ∙ ap (λ xs. label_of l past (started protocol role word) ∷ xs) empty)))
  | inr differs ↦
      so (ap (λ (b : Bool). if b then Some (starts_in past) else started_as name past) (sym differs) ∙ is)
      ∙ sym (ap (moves_by (own_of s number) (s.role number)) (labelled_by l name (Start conv protocol role word) past [] (not_named name conv (started protocol role word) differs)))
]
own_in s l step past name number (does conv act d) order orderly is so =
    let stood : started_as name past ≡ Some number = sym (d.none.started name past) ∙ is in
    let begun = d.ordered past order in
    let parts = moves_append number (events_of s l past step) (run_from s l past)
    ∙ ap (λ es. moves_of number es ++ moves_of number (run_from s l past)) (d.events s l past)
    ∙ ap (λ n. moves_of number (events_at s l past conv act n) ++ moves_of number (run_from s l past)) (number_is past conv begun.0 begun.1) in
    elim (cases_Bool (bytes_eq conv name)) [
      | inl same ↦ own_here begun parts same stood
      | inr differs ↦
          parts
          ∙ ap (λ xs. xs ++ moves_of number (run_from s l past)) (moves_elsewhere s l past conv act begun.0 number (differ begun.0 number (λ e. other begun stood differs e)))
          ∙ so stood
          ∙ sym (ap (moves_by (own_of s number) (s.role number)) (labelled_by l name step past [] (d.acts name ∙ not_named name conv act differs)))
    ]
  where
    other : (begun : HasStarted conv past) → started_as name past ≡ Some number → bytes_eq conv name ≡ false → begun.0 ≡ number → ⊥
    other begun stood differs e =
        let one = apart past conv name number (begun.1 ∙ ap Some e) stood in
        let are_same : bytes_eq conv name ≡ true = (bytes_eq-Decides conv name).1 one in
        absurd (let both : true ≡ false = sym are_same ∙ differs in cc)

    own_here : (begun : HasStarted conv past) → moves_of number (run_from s l (step ∷ past)) ≡ moves_of number (events_at s l past conv act begun.0) ++ moves_of number (run_from s l past) → bytes_eq conv name ≡ true → started_as name past ≡ Some number → IsOwn s l name number (step ∷ past)
    own_here begun parts same stood =
        let one = same_name conv name same in
        let both : Some begun.0 ≡ Some number = sym begun.1 ∙ ap (λ c. started_as c past) one ∙ stood in
        let n : begun.0 ≡ number = cc in
        parts
        ∙ ap (λ n. moves_of number (events_at s l past conv act n) ++ moves_of number (run_from s l past)) n
        ∙ ap (λ xs. xs ++ moves_of number (run_from s l past)) (moves_at s l past conv act number)
        ∙ ap (λ c. moves_for (own_of s number) (s.role number) (is_choosing (acts_in (labelled l c past))) (moves_by (own_of s number) (s.role number) (labelled l c past)) act (l.label (length past)) ++ moves_of number (run_from s l past)) one
        ∙ ap (λ xs. moves_for (own_of s number) (s.role number) (is_choosing (acts_in (labelled l name past))) (moves_by (own_of s number) (s.role number) (labelled l name past)) act (l.label (length past)) ++ xs) (so stood)
        ∙ sym (ap (moves_by (own_of s number) (s.role number)) (labelled_by l name step past (act ∷ []) (d.acts name ∙ named name conv act same)))
own_in s l step past name number (deals session deal d) order orderly is so =
    moves_append number (events_of s l past step) (run_from s l past)
    ∙ ap (λ es. moves_of number es ++ moves_of number (run_from s l past)) (d.events s l past)
    ∙ ap (λ xs. xs ++ moves_of number (run_from s l past)) (moves_served (session_number session past) number (deeds_at l past session (deal (reloads_in past))))
    ∙ so (sym (d.none.started name past) ∙ is)
    ∙ sym (ap (moves_by (own_of s number) (s.role number)) (labelled_by l name step past [] (d.acts name)))
own_in s l step past name number (nothing d) order orderly is so =
    ap (λ es. moves_of number (es ++ run_from s l past)) (d.events s l past)
    ∙ so (sym (d.none.started name past) ∙ is)
    ∙ sym (ap (moves_by (own_of s number) (s.role number)) (labelled_by l name step past [] (d.acts name)))

pub own_moves : (s : Symbolic) (l : Labelling) (past : History) (name : List ℕ) (number : ℕ) → IsOrderly past → started_as name past ≡ Some number → IsOwn s l name number past
own_moves s l [] name number order is = absurd (cc)
own_moves s l (step ∷ past) name number order is = own_in s l step past name number (kind step) order.0 order.1 is (own_moves s l past name number order.1)

-- ---- as many conversations started in the run

started_append : (later past : Run) → started_run (later ++ past) ≡ started_run later + started_run past
started_append [] past = omega arith
started_append (starts ∷ later) past = let rest = started_append later past in omega (arith, rest)
started_append (talks conv b ∷ later) past = started_append later past
started_append (serves session deed ∷ later) past = started_append later past
started_append (moves conv move ∷ later) past = started_append later past

none_moved : (number : ℕ) (ms : List Move) → started_run (map (moves number) ms) ≡ 0
none_moved number [] = refl
none_moved number (move ∷ ms) = none_moved number ms

none_served : (session : ℕ) (ds : List Deed) → started_run (map (serves session) ds) ≡ 0
none_served session [] = refl
none_served session (d ∷ ds) = none_served session ds

none_talked : (number : ℕ) (choosing : Bool) (act : Act) → started_run (talk_events number choosing act) ≡ 0
none_talked number true (gave b) = refl
none_talked number false (gave b) = refl
none_talked number choosing (started protocol role word) = refl
none_talked number choosing (took b) = refl
none_talked number choosing (asked b) = refl
none_talked number choosing (answered b) = refl
none_talked number choosing unanswered = refl
none_talked number choosing (accepted cuid suid) = refl
none_talked number choosing (failed cause) = refl

started_in : (s : Symbolic) (l : Labelling) (step : Step) (past : History) → Kind step → started_run (run_from s l past) ≡ starts_in past → started_run (run_from s l (step ∷ past)) ≡ starts_in (step ∷ past)
started_in s l step past (begins conv protocol role word) so = ap (λ n. n + 1) so
started_in s l step past (does conv act d) so =
    let number = number_of conv past in
    let choosing = is_choosing (acts_in (labelled l conv past)) in
    let ms = moves_for (own_of s number) (s.role number) choosing (moves_by (own_of s number) (s.role number) (labelled l conv past)) act (l.label (length past)) in
    let a = started_append (events_of s l past step) (run_from s l past) in
    let b = ap started_run (d.events s l past) in
    let c = started_append (talk_events number choosing act) (map (moves number) ms) in
    let t = none_talked number choosing act in
    let m = none_moved number ms in
    let kept = d.none.starts past in
    omega (arith, a, b, c, t, m, so, kept)
started_in s l step past (deals session deal d) so =
    let a = started_append (events_of s l past step) (run_from s l past) in
    let b = ap started_run (d.events s l past) ∙ none_served (session_number session past) (deeds_at l past session (deal (reloads_in past))) in
    let kept = d.none.starts past in
    omega (arith, a, b, so, kept)
started_in s l step past (nothing d) so = ap (λ es. started_run (es ++ run_from s l past)) (d.events s l past) ∙ so ∙ sym (d.none.starts past)

pub as_many : (s : Symbolic) (l : Labelling) (past : History) → started_run (run_from s l past) ≡ starts_in past
as_many s l [] = refl
as_many s l (step ∷ past) = started_in s l step past (kind step) (as_many s l past)
