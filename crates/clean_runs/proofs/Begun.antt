-- Where a conversation started: acts that begin with a start have a place in the history at which it stands, whose number is
-- the conversation's, and whose role and holder are those of the run.
use Rattle.std.proofs.Common.{◌≡◌, ℕ, ◌<◌, ◌≤◌, List, [], ◌∷◌, ◌++◌, Some, None, Bool, true, false, if◌then◌else◌, inl, inr, refl, sym, ap, subst, ◌∙◌, arith}
use Rattle.std.proofs.lemmas.Bool.{cases_Bool, eq-eqb}
use Rattle.std.specs.Str.{bytes_eq}
use Rattle.wire_histories.specs.declared.step.Protocol.{Protocol}
use Rattle.wire_histories.specs.declared.step.Role.{Role as Part}
use Rattle.wire_histories.specs.declared.step.Step.{Step}
use Rattle.wire_histories.specs.declared.step.Step.TheVariants.{Start}
use Rattle.wire_histories.specs.Histories.{History, Act, act_in, acts_of, if_named, started}
use Rattle.clean_runs.specs.Labels.{Labelling, started_as, starts_in}
use Rattle.clean_runs.specs.Runs.{holder_at, role_at, role_by}
use Rattle.clean_runs.proofs.Numbers.{differ, same_name}
use Rattle.clean_runs.proofs.Steps.{begins, deals, does, nothing, Kind, is_start, kind}

-- acts begin with this one, and no later one is a start
abbrev pub BeginsWith : Act → List Act → Type 0
BeginsWith first [] = ⊥
BeginsWith first (act ∷ []) = act ≡ first
BeginsWith first (act ∷ next ∷ acts) = (is_start act ≡ false) × BeginsWith first (next ∷ acts)

-- behind an act that is no start there are others
pub begun_behind : (first act : Act) (acts : List Act) → is_start first ≡ true → is_start act ≡ false → BeginsWith first (act ∷ acts) → BeginsWith first acts
begun_behind first act [] start none begun = absurd (let both : true ≡ false = sym start ∙ ap is_start (sym begun) ∙ none in cc)
begun_behind first act (next ∷ acts) start none begun = begun.1

-- and behind a start there is none
pub start_alone : (first act : Act) (acts : List Act) → is_start act ≡ true → BeginsWith first (act ∷ acts) → (acts ≡ []) × (act ≡ first)
start_alone first act [] start begun = (refl, begun)
start_alone first act (next ∷ acts) start begun = absurd (let both : true ≡ false = sym start ∙ begun.0 in cc)

-- the start's place
pub record Began (conv : List ℕ) (protocol : Protocol) (role : Part) (word : List ℕ) (past : History) : Type 0 where
  pub later : History
  pub earlier : History
  pub place : past ≡ later ++ Start conv protocol role word ∷ earlier
  pub number : started_as conv past ≡ Some (starts_in earlier)

acts_by_name : (name : List ℕ) (step : Step) (past : History) (acts : List Act) → act_in name step ≡ acts → acts_of name (step ∷ past) ≡ acts ++ acts_of name past
acts_by_name name step past acts is = ap (λ xs. xs ++ acts_of name past) is

named : (name conv : List ℕ) (act : Act) → bytes_eq conv name ≡ true → if_named conv name act ≡ act ∷ []
named name conv act same = ap (λ (b : Bool). if b then act ∷ [] else []) same

not_named : (name conv : List ℕ) (act : Act) → bytes_eq conv name ≡ false → if_named conv name act ≡ []
not_named name conv act differs = ap (λ (b : Bool). if b then act ∷ [] else []) differs

further : {conv : List ℕ} {protocol : Protocol} {role : Part} {word : List ℕ} (step : Step) (past : History) → started_as conv (step ∷ past) ≡ started_as conv past → Began conv protocol role word past → Began conv protocol role word (step ∷ past)
further step past same b = record { later = step ∷ b.later; earlier = b.earlier; place = ap (λ xs. step ∷ xs) b.place; number = same ∙ b.number }

began_in : (conv : List ℕ) (protocol : Protocol) (role : Part) (word : List ℕ) (step : Step) (past : History) → Kind step → BeginsWith (started protocol role word) (acts_of conv (step ∷ past)) → (BeginsWith (started protocol role word) (acts_of conv past) → Began conv protocol role word past) → Began conv protocol role word (step ∷ past)
began_in conv protocol role word step past (begins other p r w) begun so = elim (cases_Bool (bytes_eq other conv)) [
  | inl same ↦ (
      let alone = start_alone (started protocol role word) (started p r w) (acts_of conv past) refl (subst (BeginsWith (started protocol role word)) (acts_by_name conv (Start other p r w) past (started p r w ∷ []) (named conv other (started p r w) same)) begun) in
      let one = same_name other conv same in
      let p_is : p ≡ protocol = cc in
      let r_is : r ≡ role = cc in
      let w_is : w ≡ word = cc in
      let here : Start other p r w ≡ Start conv protocol role word = cc in
      record { later = []; earlier = past; place = ap (λ s. s ∷ past) here; number = ap (λ (b : Bool). if b then Some (starts_in past) else started_as conv past) same })
  | inr differs ↦ further (Start other p r w) past (ap (λ (b : Bool). if b then Some (starts_in past) else started_as conv past) differs) (so (subst (BeginsWith (started protocol role word)) (acts_by_name conv (Start other p r w) past [] (not_named conv other (started p r w) differs)) begun))
]
began_in conv protocol role word step past (does other act d) begun so = elim (cases_Bool (bytes_eq other conv)) [
  | inl same ↦ further step past (d.none.started conv past) (so (begun_behind (started protocol role word) act (acts_of conv past) refl d.no_start (subst (BeginsWith (started protocol role word)) (acts_by_name conv step past (act ∷ []) (d.acts conv ∙ named conv other act same)) begun)))
  | inr differs ↦ further step past (d.none.started conv past) (so (subst (BeginsWith (started protocol role word)) (acts_by_name conv step past [] (d.acts conv ∙ not_named conv other act differs)) begun))
]
began_in conv protocol role word step past (deals session deal d) begun so = further step past (d.none.started conv past) (so (subst (BeginsWith (started protocol role word)) (acts_by_name conv step past [] (d.acts conv)) begun))
began_in conv protocol role word step past (nothing d) begun so = further step past (d.none.started conv past) (so (subst (BeginsWith (started protocol role word)) (acts_by_name conv step past [] (d.acts conv)) begun))

pub began : (conv : List ℕ) (protocol : Protocol) (role : Part) (word : List ℕ) (past : History) → BeginsWith (started protocol role word) (acts_of conv past) → Began conv protocol role word past
began conv protocol role word [] begun = absurd begun
began conv protocol role word (step ∷ past) begun = began_in conv protocol role word step past (kind step) begun (began conv protocol role word past)

-- who did nothing has not started
idle_in : (conv : List ℕ) (step : Step) (past : History) → Kind step → acts_of conv (step ∷ past) ≡ [] → (acts_of conv past ≡ [] → started_as conv past ≡ None) → started_as conv (step ∷ past) ≡ None
idle_in conv step past (begins other p r w) none so = elim (cases_Bool (bytes_eq other conv)) [
  | inl same ↦ absurd (let here : started p r w ∷ acts_of conv past ≡ [] = sym (acts_by_name conv (Start other p r w) past (started p r w ∷ []) (named conv other (started p r w) same)) ∙ none in cc)
  | inr differs ↦ ap (λ (b : Bool). if b then Some (starts_in past) else started_as conv past) differs ∙ so (sym (acts_by_name conv (Start other p r w) past [] (not_named conv other (started p r w) differs)) ∙ none)
]
idle_in conv step past (does other act d) none so = elim (cases_Bool (bytes_eq other conv)) [
  | inl same ↦ absurd (let here : act ∷ acts_of conv past ≡ [] = sym (acts_by_name conv step past (act ∷ []) (d.acts conv ∙ named conv other act same)) ∙ none in cc)
  | inr differs ↦ d.none.started conv past ∙ so (sym (acts_by_name conv step past [] (d.acts conv ∙ not_named conv other act differs)) ∙ none)
]
idle_in conv step past (deals session deal d) none so = d.none.started conv past ∙ so (sym (acts_by_name conv step past [] (d.acts conv)) ∙ none)
idle_in conv step past (nothing d) none so = d.none.started conv past ∙ so (sym (acts_by_name conv step past [] (d.acts conv)) ∙ none)

pub idle : (conv : List ℕ) (past : History) → acts_of conv past ≡ [] → started_as conv past ≡ None
idle conv [] none = refl
idle conv (step ∷ past) none = idle_in conv step past (kind step) none (idle conv past)

-- ---- roles and holders at the start's place

counted_in : (step : Step) (past : History) → Kind step → starts_in past ≤ starts_in (step ∷ past)
counted_in step past (begins conv p r w) = omega arith
counted_in step past (does conv act d) = let e = d.none.starts past in omega (arith, e)
counted_in step past (deals session deal d) = let e = d.none.starts past in omega (arith, e)
counted_in step past (nothing d) = let e = d.none.starts past in omega (arith, e)

-- behind a start there are more starts
more_starts : (later : History) (conv : List ℕ) (p : Protocol) (r : Part) (w : List ℕ) (earlier : History) → starts_in earlier < starts_in (later ++ Start conv p r w ∷ earlier)
more_starts [] conv p r w earlier = omega arith
more_starts (step ∷ later) conv p r w earlier =
    let rest = more_starts later conv p r w earlier in
    let more = counted_in step (later ++ Start conv p r w ∷ earlier) (kind step) in
    omega (arith, rest, more)

role_in : (step : Step) (past : History) (number : ℕ) → Kind step → number < starts_in past → role_at (step ∷ past) number ≡ role_at past number
role_in step past number (begins conv p r w) far = ap (λ (b : Bool). if b then role_by p r else role_at past number) (differ (starts_in past) number (λ e. omega (arith, e, far)))
role_in step past number (does conv act d) far = d.none.roles past number
role_in step past number (deals session deal d) far = d.none.roles past number
role_in step past number (nothing d) far = d.none.roles past number

pub role_placed : (later : History) (conv : List ℕ) (p : Protocol) (r : Part) (w : List ℕ) (earlier : History) → role_at (later ++ Start conv p r w ∷ earlier) (starts_in earlier) ≡ role_by p r
role_placed [] conv p r w earlier = ap (λ (b : Bool). if b then role_by p r else role_at earlier (starts_in earlier)) (eq-eqb (starts_in earlier) (starts_in earlier) refl)
role_placed (step ∷ later) conv p r w earlier = role_in step (later ++ Start conv p r w ∷ earlier) (starts_in earlier) (kind step) (more_starts later conv p r w earlier) ∙ role_placed later conv p r w earlier

holder_in : (l : Labelling) (step : Step) (past : History) (number : ℕ) → Kind step → number < starts_in past → holder_at l (step ∷ past) number ≡ holder_at l past number
holder_in l step past number (begins conv p r w) far = ap (λ (b : Bool). if b then l.holder conv else holder_at l past number) (differ (starts_in past) number (λ e. omega (arith, e, far)))
holder_in l step past number (does conv act d) far = d.none.holders l past number
holder_in l step past number (deals session deal d) far = d.none.holders l past number
holder_in l step past number (nothing d) far = d.none.holders l past number

pub holder_placed : (l : Labelling) (later : History) (conv : List ℕ) (p : Protocol) (r : Part) (w : List ℕ) (earlier : History) → holder_at l (later ++ Start conv p r w ∷ earlier) (starts_in earlier) ≡ l.holder conv
holder_placed l [] conv p r w earlier = ap (λ (b : Bool). if b then l.holder conv else holder_at l earlier (starts_in earlier)) (eq-eqb (starts_in earlier) (starts_in earlier) refl)
holder_placed l (step ∷ later) conv p r w earlier = holder_in l step (later ++ Start conv p r w ∷ earlier) (starts_in earlier) (kind step) (more_starts later conv p r w earlier) ∙ holder_placed l later conv p r w earlier
