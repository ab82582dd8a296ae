-- Steps of a history and events of its run: each place of the one is a place of the other, and what a conversation did by its
-- labels is what it did in the run.
use Rattle.std.proofs.Common.{◌≡◌, ◌⊎◌, ℕ, ◌≤◌, List, [], ◌∷◌, ◌++◌, append_assoc, length, Some, Bool, true, if◌then◌else◌, inl, inr, refl, sym, ap, ◌∙◌, arith}
use Rattle.std.proofs.lemmas.Bool.{cases_Bool}
use Rattle.std.specs.Str.{bytes_eq}
use Rattle.symbolic_runs.specs.Trees.{nonce, long_key, password}
use Rattle.wire_histories.specs.declared.step.Protocol.{Protocol}
use Rattle.wire_histories.specs.declared.step.Role.{Role as Part}
use Rattle.wire_histories.specs.declared.step.Step.{Step}
use Rattle.wire_histories.specs.declared.step.Step.TheVariants.{Start, Out, In, Ask, Heard, Unheard, Accept, Fail, Reply, Refused, AsGot, AsGave, AsEnd, Restart, Reload}
use Rattle.symbolic_runs.specs.Moves.{Role}
use Rattle.symbolic_runs.specs.Places.{Stands}
use Rattle.symbolic_runs.specs.Runs.{Event, Run, moves_of, own_of}
use Rattle.wire_histories.specs.Histories.{History}
use Rattle.clean_runs.specs.Labels.{labelled, started_as, starts_in}
use Rattle.clean_runs.specs.Runs.{events_of, holder_at, moves_by, number_of, role_at, role_by}
use Rattle.clean_runs.proofs.Begun.{holder_placed, role_placed}
use Rattle.clean_runs.proofs.Bridge.{Case, SessionsGo, goes_by, one_more, orderly, run, setting}
use Rattle.clean_runs.proofs.Numbers.{number_is, own_moves, same_name}
use Rattle.clean_runs.proofs.Steps.{kind}
use Rattle.clean_runs.specs.Agreement.{Happens, moves_in, own_in, plays}

-- ---- places

pub record At (c : Case) (past : History) (gave : Run) (event : Event) : Type 0 where
  pub step : Step
  pub earlier : History
  pub happens : Happens past earlier step
  pub before : run c earlier ≡ gave
  pub events : events_of (setting c) c.l earlier step ≡ event ∷ []

front_of : (es : List Event) (rest front gave : Run) (event : Event) → length es ≤ 1 → es ++ rest ≡ front ++ event ∷ gave → ((es ≡ event ∷ []) × (rest ≡ gave)) ⊎ ((more : Run) × (rest ≡ more ++ event ∷ gave))
front_of [] rest front gave event few is = inr (front, is)
front_of (e ∷ []) rest [] gave event few is = inl ((let one : e ≡ event = cc in ap (λ x. x ∷ []) one), (let more : rest ≡ gave = cc in more))
front_of (e ∷ []) rest (x ∷ front) gave event few is = inr (front, (let more : rest ≡ front ++ event ∷ gave = cc in more))
front_of (e ∷ f ∷ es) rest front gave event few is = absurd (omega (arith, few))

none_stands : (front gave : Run) (event : Event) → [] ≡ front ++ event ∷ gave → ⊥
none_stands [] gave event is = absurd (cc)
none_stands (x ∷ front) gave event is = absurd (cc)

pub step_at : (c : Case) → SessionsGo c → (past later : History) → c.history ≡ later ++ past → (front gave : Run) (event : Event) → run c past ≡ front ++ event ∷ gave → At c past gave event
step_at c sessions [] later place front gave event is = absurd (none_stands front gave event is)
step_at c sessions (step ∷ past) later place front gave event is = elim (front_of (events_of (setting c) c.l past step) (run c past) front gave event (goes_by c sessions later past step (kind step) place).short is) [
  | inl p ↦ record { step = step; earlier = past; happens = record { later = []; place = refl }; before = p.1; events = p.0 }
  | inr p ↦ further (step_at c sessions past (later ++ step ∷ []) (one_more c later past step place) p.0 gave event p.1)
]
  where
    further : At c past gave event → At c (step ∷ past) gave event
    further a = record { step = a.step; earlier = a.earlier; happens = record { later = step ∷ a.happens.later; place = ap (λ xs. step ∷ xs) a.happens.place }; before = a.before; events = a.events }

-- the events of steps in front of others
pub fronted : (c : Case) (later past : History) → (front : Run) × (run c (later ++ past) ≡ front ++ run c past)
fronted c [] past = ([], refl)
fronted c (step ∷ later) past =
    let rest = fronted c later past in
    (events_of (setting c) c.l (later ++ past) step ++ rest.0, ap (λ r. events_of (setting c) c.l (later ++ past) step ++ r) rest.1 ∙ sym (append_assoc (events_of (setting c) c.l (later ++ past) step) rest.0 (run c past)))

pub stands_at : (c : Case) (whole past : History) (step : Step) (event : Event) → Happens whole past step → events_of (setting c) c.l past step ≡ event ∷ [] → Stands (run c whole) (run c past) event
stands_at c whole past step event happens is =
    let front = fronted c happens.later (step ∷ past) in
    record { later = front.0; place = ap (run c) happens.place ∙ front.1 ∙ ap (λ es. front.0 ++ (es ++ run c past)) is }

-- a place of a part is a place of the whole
pub further_in : {whole past earlier : History} {step : Step} (later : History) → whole ≡ later ++ past → Happens past earlier step → Happens whole earlier step
further_in {earlier} {step} later place happens = record { later = later ++ happens.later; place = place ∙ ap (λ xs. later ++ xs) happens.place ∙ sym (append_assoc later happens.later (step ∷ earlier)) }

-- ---- conversations

-- a conversation that plays a role has started, and its role and holder are those of the run
pub record Plays (c : Case) (conv : List ℕ) (role : Role) (past : History) : Type 0 where
  pub started : started_as conv past ≡ Some (number_of conv past)
  pub role_is : (setting c).role (number_of conv past) ≡ role
  pub holder_is : (setting c).holder (number_of conv past) ≡ c.l.holder conv

record Placed (c : Case) (conv : List ℕ) (role : Role) (past : History) : Type 0 where
  pub number : ℕ
  pub started : started_as conv past ≡ Some number
  pub role_is : (setting c).role number ≡ role
  pub holder_is : (setting c).holder number ≡ c.l.holder conv

started_here : (c : Case) (conv : List ℕ) (role : Role) (past later : History) (other : List ℕ) (p : Protocol) (r : Part) (w : List ℕ) → c.history ≡ later ++ Start other p r w ∷ past → bytes_eq other conv ≡ true → Some (role_by p r) ≡ Some role → Placed c conv role (Start other p r w ∷ past)
started_here c conv role past later other p r w place same is =
    let one : role_by p r ≡ role = cc in
    record {
      number = starts_in past;
      started = ap (λ (b : Bool). if b then Some (starts_in past) else started_as conv past) same;
      role_is = ap (λ h. role_at h (starts_in past)) place ∙ role_placed later other p r w past ∙ one;
      holder_is = ap (λ h. holder_at c.l h (starts_in past)) place ∙ holder_placed c.l later other p r w past ∙ ap c.l.holder (same_name other conv same);
    }

placed_before : (c : Case) (conv : List ℕ) (role : Role) (past : History) (step : Step) → started_as conv (step ∷ past) ≡ started_as conv past → Placed c conv role past → Placed c conv role (step ∷ past)
placed_before c conv role past step same p = record { number = p.number; started = same ∙ p.started; role_is = p.role_is; holder_is = p.holder_is }

placed : (c : Case) (conv : List ℕ) (role : Role) (past later : History) → c.history ≡ later ++ past → plays conv past ≡ Some role → Placed c conv role past
placed c conv role [] later place is = absurd (cc)
placed c conv role (Start other p r w ∷ past) later place is = elim (cases_Bool (bytes_eq other conv)) [
  | inl same ↦ started_here c conv role past later other p r w place same (sym (ap (λ (b : Bool). if b then Some (role_by p r) else plays conv past) same) ∙ is)
  | inr differs ↦ placed_before c conv role past (Start other p r w) (ap (λ (b : Bool). if b then Some (starts_in past) else started_as conv past) differs) (placed c conv role past (later ++ Start other p r w ∷ []) (one_more c later past (Start other p r w) place) (sym (ap (λ (b : Bool). if b then Some (role_by p r) else plays conv past) differs) ∙ is))
]
placed c conv role (Out n name b ∷ past) later place is = placed_before c conv role past (Out n name b) refl (placed c conv role past (later ++ Out n name b ∷ []) (one_more c later past (Out n name b) place) is)
placed c conv role (In name b ∷ past) later place is = placed_before c conv role past (In name b) refl (placed c conv role past (later ++ In name b ∷ []) (one_more c later past (In name b) place) is)
placed c conv role (Ask n name b ∷ past) later place is = placed_before c conv role past (Ask n name b) refl (placed c conv role past (later ++ Ask n name b ∷ []) (one_more c later past (Ask n name b) place) is)
placed c conv role (Heard name b ∷ past) later place is = placed_before c conv role past (Heard name b) refl (placed c conv role past (later ++ Heard name b ∷ []) (one_more c later past (Heard name b) place) is)
placed c conv role (Unheard name ∷ past) later place is = placed_before c conv role past (Unheard name) refl (placed c conv role past (later ++ Unheard name ∷ []) (one_more c later past (Unheard name) place) is)
placed c conv role (Accept name cuid suid ∷ past) later place is = placed_before c conv role past (Accept name cuid suid) refl (placed c conv role past (later ++ Accept name cuid suid ∷ []) (one_more c later past (Accept name cuid suid) place) is)
placed c conv role (Fail name cause ∷ past) later place is = placed_before c conv role past (Fail name cause) refl (placed c conv role past (later ++ Fail name cause ∷ []) (one_more c later past (Fail name cause) place) is)
placed c conv role (Reply name answer ∷ past) later place is = placed_before c conv role past (Reply name answer) refl (placed c conv role past (later ++ Reply name answer ∷ []) (one_more c later past (Reply name answer) place) is)
placed c conv role (Refused node answer ∷ past) later place is = placed_before c conv role past (Refused node answer) refl (placed c conv role past (later ++ Refused node answer ∷ []) (one_more c later past (Refused node answer) place) is)
placed c conv role (AsGot session b words ∷ past) later place is = placed_before c conv role past (AsGot session b words) refl (placed c conv role past (later ++ AsGot session b words ∷ []) (one_more c later past (AsGot session b words) place) is)
placed c conv role (AsGave n session b ∷ past) later place is = placed_before c conv role past (AsGave n session b) refl (placed c conv role past (later ++ AsGave n session b ∷ []) (one_more c later past (AsGave n session b) place) is)
placed c conv role (AsEnd session ∷ past) later place is = placed_before c conv role past (AsEnd session) refl (placed c conv role past (later ++ AsEnd session ∷ []) (one_more c later past (AsEnd session) place) is)
placed c conv role (Restart node ∷ past) later place is = placed_before c conv role past (Restart node) refl (placed c conv role past (later ++ Restart node ∷ []) (one_more c later past (Restart node) place) is)
placed c conv role (Reload ∷ past) later place is = placed_before c conv role past Reload refl (placed c conv role past (later ++ Reload ∷ []) (one_more c later past Reload place) is)

pub plays_in : (c : Case) (conv : List ℕ) (role : Role) (past later : History) → c.history ≡ later ++ past → plays conv past ≡ Some role → Plays c conv role past
plays_in c conv role past later place is =
    let p = placed c conv role past later place is in
    let n = number_is past conv p.number p.started in
    record {
      started = p.started ∙ ap Some (sym n);
      role_is = ap (setting c).role n ∙ p.role_is;
      holder_is = ap (setting c).holder n ∙ p.holder_is;
    }

-- the other way round: a conversation that has started plays the role of its number
plays_here : (c : Case) (conv : List ℕ) (past later : History) (other : List ℕ) (p : Protocol) (r : Part) (w : List ℕ) → c.history ≡ later ++ Start other p r w ∷ past → (number : ℕ) → bytes_eq other conv ≡ true → Some (starts_in past) ≡ Some number → plays conv (Start other p r w ∷ past) ≡ Some ((setting c).role number)
plays_here c conv past later other p r w place number same is =
    let n : starts_in past ≡ number = cc in
    let role : (setting c).role number ≡ role_by p r = ap (setting c).role (sym n) ∙ ap (λ h. role_at h (starts_in past)) place ∙ role_placed later other p r w past in
    ap (λ (b : Bool). if b then Some (role_by p r) else plays conv past) same ∙ ap Some (sym role)

pub plays_by : (c : Case) (conv : List ℕ) (past later : History) → c.history ≡ later ++ past → (number : ℕ) → started_as conv past ≡ Some number → plays conv past ≡ Some ((setting c).role number)
plays_by c conv [] later place number is = absurd (cc)
plays_by c conv (Start other p r w ∷ past) later place number is = elim (cases_Bool (bytes_eq other conv)) [
  | inl same ↦ plays_here c conv past later other p r w place number same (sym (ap (λ (b : Bool). if b then Some (starts_in past) else started_as conv past) same) ∙ is)
  | inr differs ↦ ap (λ (b : Bool). if b then Some (role_by p r) else plays conv past) differs ∙ plays_by c conv past (later ++ Start other p r w ∷ []) (one_more c later past (Start other p r w) place) number (sym (ap (λ (b : Bool). if b then Some (starts_in past) else started_as conv past) differs) ∙ is)
]
plays_by c conv (Out n name b ∷ past) later place number is = plays_by c conv past (later ++ Out n name b ∷ []) (one_more c later past (Out n name b) place) number is
plays_by c conv (In name b ∷ past) later place number is = plays_by c conv past (later ++ In name b ∷ []) (one_more c later past (In name b) place) number is
plays_by c conv (Ask n name b ∷ past) later place number is = plays_by c conv past (later ++ Ask n name b ∷ []) (one_more c later past (Ask n name b) place) number is
plays_by c conv (Heard name b ∷ past) later place number is = plays_by c conv past (later ++ Heard name b ∷ []) (one_more c later past (Heard name b) place) number is
plays_by c conv (Unheard name ∷ past) later place number is = plays_by c conv past (later ++ Unheard name ∷ []) (one_more c later past (Unheard name) place) number is
plays_by c conv (Accept name cuid suid ∷ past) later place number is = plays_by c conv past (later ++ Accept name cuid suid ∷ []) (one_more c later past (Accept name cuid suid) place) number is
plays_by c conv (Fail name cause ∷ past) later place number is = plays_by c conv past (later ++ Fail name cause ∷ []) (one_more c later past (Fail name cause) place) number is
plays_by c conv (Reply name answer ∷ past) later place number is = plays_by c conv past (later ++ Reply name answer ∷ []) (one_more c later past (Reply name answer) place) number is
plays_by c conv (Refused node answer ∷ past) later place number is = plays_by c conv past (later ++ Refused node answer ∷ []) (one_more c later past (Refused node answer) place) number is
plays_by c conv (AsGot session b words ∷ past) later place number is = plays_by c conv past (later ++ AsGot session b words ∷ []) (one_more c later past (AsGot session b words) place) number is
plays_by c conv (AsGave n session b ∷ past) later place number is = plays_by c conv past (later ++ AsGave n session b ∷ []) (one_more c later past (AsGave n session b) place) number is
plays_by c conv (AsEnd session ∷ past) later place number is = plays_by c conv past (later ++ AsEnd session ∷ []) (one_more c later past (AsEnd session) place) number is
plays_by c conv (Restart node ∷ past) later place number is = plays_by c conv past (later ++ Restart node ∷ []) (one_more c later past (Restart node) place) number is
plays_by c conv (Reload ∷ past) later place number is = plays_by c conv past (later ++ Reload ∷ []) (one_more c later past Reload place) number is

-- what it has of its own is what it has in the run, and so are its moves
pub own_is : (c : Case) (conv : List ℕ) (past : History) → (setting c).holder (number_of conv past) ≡ c.l.holder conv → own_of (setting c) (number_of conv past) ≡ own_in c.l conv past
own_is c conv past holder = ap (λ h. record { word = nonce (number_of conv past); key = long_key h; password = password h }) holder

pub moves_are : (c : Case) (conv : List ℕ) (role : Role) (past later : History) → c.history ≡ later ++ past → Plays c conv role past → moves_of (number_of conv past) (run c past) ≡ moves_in c.l role conv past
moves_are c conv role past later place p =
    own_moves (setting c) c.l past conv (number_of conv past) (orderly c past later place) p.started
    ∙ ap (λ own. moves_by own ((setting c).role (number_of conv past)) (labelled c.l conv past)) (own_is c conv past p.holder_is)
    ∙ ap (λ role. moves_by (own_in c.l conv past) role (labelled c.l conv past)) p.role_is
