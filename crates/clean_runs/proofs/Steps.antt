-- What a step is to the conversations and the sessions: a start, an act of a conversation, a deal of a session, or nothing.
use Rattle.std.proofs.Common.{◌≡◌, ℕ, List, [], ◌∷◌, Option, Some, None, Bool, true, false, refl}
use Rattle.wire_histories.specs.declared.step.Protocol.{Protocol}
use Rattle.wire_histories.specs.declared.step.Role.{Role as Part}
use Rattle.wire_histories.specs.declared.step.Step.{Step}
use Rattle.wire_histories.specs.declared.step.Step.TheVariants.{Start, Out, In, Ask, Heard, Unheard, Accept, Fail, Reply, Refused, AsGot, AsGave, AsEnd, Restart, Reload}
use Rattle.symbolic_runs.specs.Spellings.{Atoms}
use Rattle.symbolic_runs.specs.Runs.{Setting as Symbolic}
use Rattle.wire_histories.specs.Histories.{History, Act, started, gave, took, asked, answered, unanswered, accepted, failed, Deal, requested, replied, ended, act_in, deal_in, if_named, reloads_in}
use Rattle.clean_runs.specs.Labels.{Labelling, starts_in, started_as, taken, given}
use Rattle.clean_runs.specs.Runs.{conv_events, session_events, events_of, role_at, holder_at}
use Rattle.clean_runs.specs.Clean.{FormsStep, GoesOn}

-- a conversation has started
abbrev pub HasStarted : List ℕ → History → Type 0
HasStarted conv past = (number : ℕ) × (started_as conv past ≡ Some number)

-- starts come once, and first
abbrev pub InOrder : History → Step → Type 0
InOrder past (Start conv protocol role word) = started_as conv past ≡ None
InOrder past (Out number conv b) = HasStarted conv past
InOrder past (In conv b) = HasStarted conv past
InOrder past (Ask number conv b) = HasStarted conv past
InOrder past (Heard conv b) = HasStarted conv past
InOrder past (Unheard conv) = HasStarted conv past
InOrder past (Accept conv cuid suid) = HasStarted conv past
InOrder past (Fail conv cause) = HasStarted conv past
InOrder past step = Unit {0}

-- the bytes of an act
abbrev pub taken_by : Act → Option (List ℕ)
taken_by (took b) = Some b
taken_by (answered b) = Some b
taken_by act = None

abbrev pub given_by : Act → Option (List ℕ)
given_by (gave b) = Some b
given_by (asked b) = Some b
given_by act = None

-- an act behind which what came before it must have its form
abbrev pub goes_on : Act → Bool
goes_on (started protocol role word) = false
goes_on (gave b) = true
goes_on (took b) = true
goes_on (asked b) = true
goes_on (answered b) = true
goes_on unanswered = false
goes_on (accepted cuid suid) = true
goes_on (failed cause) = false

abbrev pub is_start : Act → Bool
is_start (started protocol role word) = true
is_start (gave b) = false
is_start (took b) = false
is_start (asked b) = false
is_start (answered b) = false
is_start unanswered = false
is_start (accepted cuid suid) = false
is_start (failed cause) = false

-- of a step what doesn't start a conversation
pub record StartsNone (step : Step) : Type 0 where
  pub starts : (past : History) → starts_in (step ∷ past) ≡ starts_in past
  pub started : (name : List ℕ) (past : History) → started_as name (step ∷ past) ≡ started_as name past
  pub roles : (past : History) (number : ℕ) → role_at (step ∷ past) number ≡ role_at past number
  pub holders : (l : Labelling) (past : History) (number : ℕ) → holder_at l (step ∷ past) number ≡ holder_at l past number

pub record Does (conv : List ℕ) (act : Act) (step : Step) : Type 0 where
  pub none : StartsNone step
  pub acts : (name : List ℕ) → act_in name step ≡ if_named conv name act
  pub no_start : is_start act ≡ false
  pub events : (s : Symbolic) (l : Labelling) (past : History) → events_of s l past step ≡ conv_events s l past conv act
  pub ordered : (past : History) → InOrder past step → HasStarted conv past
  pub in_order : (past : History) → HasStarted conv past → InOrder past step
  pub taken : taken step ≡ taken_by act
  pub given : given step ≡ given_by act
  pub forms : (atoms : Atoms) (s : Symbolic) (l : Labelling) (past : History) → goes_on act ≡ true → FormsStep atoms s l past step → GoesOn atoms s l conv past

-- a deal of a session, by the number of the tables that are in force
pub record Deals (session : List ℕ) (deal : ℕ → Deal) (step : Step) : Type 0 where
  pub none : StartsNone step
  pub acts : (name : List ℕ) → act_in name step ≡ []
  pub deals : (tables : ℕ) (name : List ℕ) → deal_in tables name step ≡ if_named session name (deal tables)
  pub events : (s : Symbolic) (l : Labelling) (past : History) → events_of s l past step ≡ session_events l past session (deal (reloads_in past))
  pub in_order : (past : History) → InOrder past step

pub record SaysNothing (step : Step) : Type 0 where
  pub none : StartsNone step
  pub acts : (name : List ℕ) → act_in name step ≡ []
  pub events : (s : Symbolic) (l : Labelling) (past : History) → events_of s l past step ≡ []
  pub in_order : (past : History) → InOrder past step
  pub given : given step ≡ None

pub data Kind : Step → Type 0 where
  begins : (conv : List ℕ) (protocol : Protocol) (role : Part) (word : List ℕ) → Kind (Start conv protocol role word)
  does : {step : Step} (conv : List ℕ) (act : Act) → Does conv act step → Kind step
  deals : {step : Step} (session : List ℕ) (deal : ℕ → Deal) → Deals session deal step → Kind step
  nothing : {step : Step} → SaysNothing step → Kind step

-- what each step does
pub out_does : (number : ℕ) (conv b : List ℕ) → Does conv (gave b) (Out number conv b)
out_does number conv b = record { none = record { starts = λ past. refl; started = λ name past. refl; roles = λ past n. refl; holders = λ l past n. refl }; acts = λ name. refl; no_start = refl; events = λ s l past. refl; ordered = λ past o. o; in_order = λ past o. o; taken = refl; given = refl; forms = λ atoms s l past on f. f }

pub in_does : (conv b : List ℕ) → Does conv (took b) (In conv b)
in_does conv b = record { none = record { starts = λ past. refl; started = λ name past. refl; roles = λ past n. refl; holders = λ l past n. refl }; acts = λ name. refl; no_start = refl; events = λ s l past. refl; ordered = λ past o. o; in_order = λ past o. o; taken = refl; given = refl; forms = λ atoms s l past on f. f }

pub ask_does : (number : ℕ) (conv b : List ℕ) → Does conv (asked b) (Ask number conv b)
ask_does number conv b = record { none = record { starts = λ past. refl; started = λ name past. refl; roles = λ past n. refl; holders = λ l past n. refl }; acts = λ name. refl; no_start = refl; events = λ s l past. refl; ordered = λ past o. o; in_order = λ past o. o; taken = refl; given = refl; forms = λ atoms s l past on f. f }

pub heard_does : (conv b : List ℕ) → Does conv (answered b) (Heard conv b)
heard_does conv b = record { none = record { starts = λ past. refl; started = λ name past. refl; roles = λ past n. refl; holders = λ l past n. refl }; acts = λ name. refl; no_start = refl; events = λ s l past. refl; ordered = λ past o. o; in_order = λ past o. o; taken = refl; given = refl; forms = λ atoms s l past on f. f }

pub unheard_does : (conv : List ℕ) → Does conv unanswered (Unheard conv)
unheard_does conv = record { none = record { starts = λ past. refl; started = λ name past. refl; roles = λ past n. refl; holders = λ l past n. refl }; acts = λ name. refl; no_start = refl; events = λ s l past. refl; ordered = λ past o. o; in_order = λ past o. o; taken = refl; given = refl; forms = λ atoms s l past on f. absurd (cc) }

pub accept_does : (conv cuid suid : List ℕ) → Does conv (accepted cuid suid) (Accept conv cuid suid)
accept_does conv cuid suid = record { none = record { starts = λ past. refl; started = λ name past. refl; roles = λ past n. refl; holders = λ l past n. refl }; acts = λ name. refl; no_start = refl; events = λ s l past. refl; ordered = λ past o. o; in_order = λ past o. o; taken = refl; given = refl; forms = λ atoms s l past on f. f }

pub fail_does : (conv cause : List ℕ) → Does conv (failed cause) (Fail conv cause)
fail_does conv cause = record { none = record { starts = λ past. refl; started = λ name past. refl; roles = λ past n. refl; holders = λ l past n. refl }; acts = λ name. refl; no_start = refl; events = λ s l past. refl; ordered = λ past o. o; in_order = λ past o. o; taken = refl; given = refl; forms = λ atoms s l past on f. absurd (cc) }

pub kind : (step : Step) → Kind step
kind (Start conv protocol role word) = begins conv protocol role word
kind (Out number conv b) = does conv (gave b) (out_does number conv b)
kind (In conv b) = does conv (took b) (in_does conv b)
kind (Ask number conv b) = does conv (asked b) (ask_does number conv b)
kind (Heard conv b) = does conv (answered b) (heard_does conv b)
kind (Unheard conv) = does conv unanswered (unheard_does conv)
kind (Accept conv cuid suid) = does conv (accepted cuid suid) (accept_does conv cuid suid)
kind (Fail conv cause) = does conv (failed cause) (fail_does conv cause)
kind (Reply conv answer) = nothing (record { none = record { starts = λ past. refl; started = λ name past. refl; roles = λ past n. refl; holders = λ l past n. refl }; acts = λ name. refl; events = λ s l past. refl; in_order = λ past. tt; given = refl })
kind (Refused node answer) = nothing (record { none = record { starts = λ past. refl; started = λ name past. refl; roles = λ past n. refl; holders = λ l past n. refl }; acts = λ name. refl; events = λ s l past. refl; in_order = λ past. tt; given = refl })
kind (AsGot session b words) = deals session (λ tables. requested tables b words) (record { none = record { starts = λ past. refl; started = λ name past. refl; roles = λ past n. refl; holders = λ l past n. refl }; acts = λ name. refl; deals = λ tables name. refl; events = λ s l past. refl; in_order = λ past. tt })
kind (AsGave number session b) = deals session (λ tables. replied b) (record { none = record { starts = λ past. refl; started = λ name past. refl; roles = λ past n. refl; holders = λ l past n. refl }; acts = λ name. refl; deals = λ tables name. refl; events = λ s l past. refl; in_order = λ past. tt })
kind (AsEnd session) = deals session (λ tables. ended) (record { none = record { starts = λ past. refl; started = λ name past. refl; roles = λ past n. refl; holders = λ l past n. refl }; acts = λ name. refl; deals = λ tables name. refl; events = λ s l past. refl; in_order = λ past. tt })
kind (Restart node) = nothing (record { none = record { starts = λ past. refl; started = λ name past. refl; roles = λ past n. refl; holders = λ l past n. refl }; acts = λ name. refl; events = λ s l past. refl; in_order = λ past. tt; given = refl })
kind Reload = nothing (record { none = record { starts = λ past. refl; started = λ name past. refl; roles = λ past n. refl; holders = λ l past n. refl }; acts = λ name. refl; events = λ s l past. refl; in_order = λ past. tt; given = refl })
