-- One connection after the other: what came, which jobs were taken, and what the seat entered.
use Rattle.std.proofs.Common.{◌≡◌, ◌≤◌, ℕ, ◌+◌, List, [], ◌∷◌, ◌++◌, length, Option, true, false, refl, sym, ap, subst, ◌∙◌, append_assoc, append-nil, arith}
use Rattle.std.specs.Prelude.{Result, Ok, Err}
use Rattle.std.specs.List.{AllByRecursion}
use Rattle.wire_base.specs.declared.bytes.NoMemory.{NoMemory}
use Rattle.turn_lock.specs.Fronts.{among}
use Rattle.turn_lock.specs.Seats.{Parted, numbers}
use Rattle.agent_history.specs.declared.event.Event.{Event}
use Rattle.agent_history.specs.declared.event.Event.TheVariants.{Hang, Take, Stop}
use Rattle.agent_history.specs.declared.event.StepAnswer.{StepAnswer}
use Rattle.wire_streams.specs.Causes.{CountsOutcome}
use Rattle.wire_streams.specs.Listening.{Accepts, Came}
use Rattle.wire_streams.specs.Spawning.{Gains}
use Rattle.wire_streams.proofs.AddLemmas.{Came-more, Came-nil, Came-none, Gains-nil, Gains-trans}
use Rattle.agent_hub.specs.Submits.{HubSeat, IsSubmitted}
use Rattle.agent_hub.specs.Entries.{Adds, Entered, entered_by, entry}
use Rattle.agent_hub.proofs.EntryLemmas.{adds_none, adds_one, adds_still, before_it}
use Rattle.agent_serving.specs.declared.job.Job.{Job}
use Rattle.agent_serving.specs.declared.job.Job.TheVariants.{Asks, Line, Prompts}
use Rattle.agent_serving.specs.declared.accept.ServeEnd.{ServeEnd}
use Rattle.agent_serving.specs.declared.accept.ServeEnd.TheVariants as e
use Rattle.agent_serving.specs.Serving.{Asking, EndedBy, Going, IsAsking, Opened, ServesSo, Serving, prompts_conn}

-- the seat that keeps its numbers where another was split off has entered what it had
pub adds_kept : (mine : List Entered) (first seat one other : HubSeat) → Parted seat one other → Adds mine first seat → Adds mine first one
adds_kept mine first seat one other p a = record {
  more = a.more;
  goes_on = p.same_front ∙ a.goes_on;
  same_numbers = p.same_numbers ∙ a.same_numbers;
  own_entries = ap (entered_by (numbers first)) p.same_front ∙ a.own_entries;
}

-- ---- the jobs that ask

module _ {I O : Type 0} (first : HubSeat) (taken : Option (List (Job I O))) where
  pub asks_none : Asking {I = I} {O = O} first first taken taken 0
  asks_none = record {
    asking = [];
    ask = tt;
    count = refl;
    took = Gains-nil taken;
    added = adds_none first;
  }

  all_more : (jobs : List (Job I O)) (job : Job I O) → AllByRecursion IsAsking jobs → IsAsking job → AllByRecursion IsAsking (jobs ++ job ∷ [])
  all_more [] job a is = (is, tt)
  all_more (j ∷ jobs) job a is = (a.0, all_more jobs job a.1 is)

  length_more : {A : Type 0} → (xs : List A) (x : A) → length (xs ++ x ∷ []) ≡ length xs + 1
  length_more [] x = refl
  length_more (y ∷ ys) x = let more : length (ys ++ x ∷ []) ≡ length ys + 1 = length_more ys x in omega (arith, more)

  -- one job more was taken
  pub asks_more : (seat one other : HubSeat) (mid now : Option (List (Job I O))) (n k : ℕ) → Asking first seat taken mid n → Parted seat one other → Gains mid now (Asks other ∷ []) → k ≡ n + 1 → Asking first one taken now k
  asks_more seat one other mid now n k a p g is = record {
    asking = a.asking ++ Asks other ∷ [];
    ask = all_more a.asking (Asks other) a.ask (record { seat = other; asks = refl });
    count = length_more a.asking (Asks other) ∙ ap (λ (m : ℕ). m + 1) a.count ∙ sym is;
    took = Gains-trans taken mid now a.asking (Asks other ∷ []) a.took g;
    added = adds_kept [] first seat one other p a.added;
  }

-- ---- how it begins

module _ {I O : Type 0} (asks : ℕ) (first : HubSeat) (came : Option (List (I × O))) (taken : Option (List (Job I O))) (faults : ℕ) where
  pub begun : (seat one prompts : HubSeat) (mid now : Option (List (Job I O))) (failed : ℕ) → Asking first seat taken mid asks → Parted seat one prompts → Gains mid now (Prompts prompts prompts_conn ∷ []) → faults ≤ failed
      → Going asks first one came came taken now faults failed 0
  begun seat one prompts mid now failed a p g up = record {
    serving = record {
      asking = a.asking;
      ask = a.ask;
      many = a.count;
      prompting = Prompts prompts prompts_conn;
      prompts = record { seat = prompts; prompts = refl };
      accepted = [];
      arrived = Came-nil came;
      lines = [];
      lost = 0;
      events = [];
      opened = Opened.NoneYet;
      took = Gains-trans taken mid now a.asking (Prompts prompts prompts_conn ∷ []) a.took g;
      cause = omega (arith, up);
      mine = [];
      added = adds_kept [] first seat one prompts p a.added;
      entered = refl;
    };
    number = refl;
  }

  -- ---- how it goes on, and ends

  -- accepting failed, or there are no numbers left
  pub no_more : {f : _} → (seat : HubSeat) (left later : Option (List (I × O))) (now : Option (List (Job I O))) (failed n : ℕ) → Going asks first seat came left taken now faults failed n → Accepts left later (Err f)
      → EndedBy asks first seat came later taken now faults failed [] e.ListenFault
  no_more seat left later now failed n g a = let s = g.serving in record {
    asking = s.asking;
    ask = s.ask;
    many = s.many;
    prompting = s.prompting;
    prompts = s.prompts;
    accepted = s.accepted;
    arrived = Came-none came left later (s.accepted ++ []) s.arrived a;
    lines = s.lines;
    lost = s.lost;
    events = s.events;
    opened = s.opened;
    took = s.took;
    cause = s.cause;
    mine = s.mine;
    added = s.added;
    entered = s.entered;
  }

  pub no_number : (seat : HubSeat) (left : Option (List (I × O))) (now : Option (List (Job I O))) (failed n : ℕ) → Going asks first seat came left taken now faults failed n → EndedBy asks first seat came left taken now faults failed [] e.NoMemory
  no_number seat left now failed n g = ([], omega arith, g.serving)

  came_more : (left later : Option (List (I × O))) (accepted : List (I × O)) (c : I × O) → Came came left (accepted ++ []) → Accepts left later (Ok c) → Came came later (accepted ++ c ∷ [])
  came_more left later accepted c came_all a = Came-more came left later accepted c (subst (Came came left) (append-nil accepted) came_all) a

  -- the next connection was accepted, and its take refused for memory
  pub no_room : (seat after : HubSeat) (left later : Option (List (I × O))) (now : Option (List (Job I O))) (failed n : ℕ) (c : I × O) (x : NoMemory) (old new : List ℕ) → Going asks first seat came left taken now faults failed n → Accepts left later (Ok c)
      → IsSubmitted (Take n) (Err x) old new seat after → EndedBy asks first after came later taken now faults failed [] e.NoMemory
  no_room seat after left later now failed n c x old new g a s = let v = g.serving in (
    c ∷ [],
    omega arith,
    record {
      asking = v.asking;
      ask = v.ask;
      many = v.many;
      prompting = v.prompting;
      prompts = v.prompts;
      accepted = v.accepted;
      arrived = came_more left later v.accepted c v.arrived a;
      lines = v.lines;
      lost = v.lost;
      events = v.events;
      opened = v.opened;
      took = v.took;
      cause = v.cause;
      mine = v.mine;
      added = adds_still (Take n) x old new first seat after v.mine v.added s;
      entered = v.entered;
    },
  )

  -- it was opened, and its job taken
  pub one_more : (seat after one theirs : HubSeat) (left later : Option (List (I × O))) (now then_taken : Option (List (Job I O))) (failed more n : ℕ) (c : I × O) (a : StepAnswer) (old new : List ℕ) (k : ℕ) → among (numbers seat) k ≡ true
      → Going asks first seat came left taken now faults failed n → Accepts left later (Ok c) → IsSubmitted (Take n) (Ok a) old new seat after → Parted after one theirs → Gains now then_taken (Line theirs n c.0 c.1 ∷ []) → failed ≤ more
      → Going asks first one came later taken then_taken faults more (n + 1)
  one_more seat after one theirs left later now then_taken failed more n c a old new k is_mine g came_one s p got up = let v = g.serving in record {
    serving = record {
      asking = v.asking;
      ask = v.ask;
      many = v.many;
      prompting = v.prompting;
      prompts = v.prompts;
      accepted = v.accepted ++ c ∷ [];
      arrived = subst (Came came later) (sym (append-nil (v.accepted ++ c ∷ []))) (came_more left later v.accepted c v.arrived came_one);
      lines = v.lines ++ Line theirs n c.0 c.1 ∷ [];
      lost = v.lost;
      events = Take n ∷ v.events;
      opened = subst (λ (m : ℕ). Opened (v.accepted ++ c ∷ []) (v.lines ++ Line theirs m c.0 c.1 ∷ []) v.lost (Take m ∷ v.events)) (sym g.number) (Opened.Started v.accepted v.lines v.lost v.events c theirs v.opened);
      took = subst (Gains taken then_taken) (append_assoc v.asking (v.prompting ∷ v.lines) (Line theirs n c.0 c.1 ∷ [])) (Gains-trans taken now then_taken (v.asking ++ v.prompting ∷ v.lines) (Line theirs n c.0 c.1 ∷ []) v.took got);
      cause = omega (arith, v.cause, up);
      mine = entry (before_it (Take n) (Ok a) old new seat after s) (Take n) ∷ v.mine;
      added = adds_kept (entry (before_it (Take n) (Ok a) old new seat after s) (Take n) ∷ v.mine) first after one theirs p (adds_one (Take n) a old new first seat after v.mine k is_mine v.added s);
      entered = ap (λ (l : List Event). Take n ∷ l) v.entered;
    };
    number = ap (λ (m : ℕ). m + 1) g.number ∙ sym (length_more first taken v.accepted c);
  }

  -- it was opened, and hung up
  pub one_lost : (seat after one theirs hung : HubSeat) (left later : Option (List (I × O))) (now then_taken : Option (List (Job I O))) (failed more n : ℕ) (c : I × O) (a : StepAnswer) (old new newer : List ℕ) (reply : Result StepAnswer NoMemory) (k m : ℕ)
      → among (numbers seat) k ≡ true → among (numbers one) m ≡ true → Going asks first seat came left taken now faults failed n → Accepts left later (Ok c) → IsSubmitted (Take n) (Ok a) old new seat after → Parted after one theirs → Gains now then_taken []
      → CountsOutcome failed more true → IsSubmitted (Hang n) reply new newer one hung → Going asks first hung came later taken then_taken faults more (n + 1)
  one_lost seat after one theirs hung left later now then_taken failed more n c a old new newer (Err x) k m is_mine is_theirs g came_one s p got up h = absurd (no_hang h.answered.0)
    where
      no_hang : false ≡ true → ⊥
      no_hang is = absurd cc
  one_lost seat after one theirs hung left later now then_taken failed more n c a old new newer (Ok b) k m is_mine is_theirs g came_one s p got up h =
      let v = g.serving in
      let opened_by : Entered = entry (before_it (Take n) (Ok a) old new seat after s) (Take n) in
      let hung_by : Entered = entry (before_it (Hang n) (Ok b) new newer one hung h) (Hang n) in
      record {
        serving = record {
          asking = v.asking;
          ask = v.ask;
          many = v.many;
          prompting = v.prompting;
          prompts = v.prompts;
          accepted = v.accepted ++ c ∷ [];
          arrived = subst (Came came later) (sym (append-nil (v.accepted ++ c ∷ []))) (came_more left later v.accepted c v.arrived came_one);
          lines = v.lines;
          lost = v.lost + 1;
          events = Hang n ∷ Take n ∷ v.events;
          opened = subst (λ (m : ℕ). Opened (v.accepted ++ c ∷ []) v.lines (v.lost + 1) (Hang m ∷ Take m ∷ v.events)) (sym g.number) (Opened.Lost v.accepted v.lines v.lost v.events c v.opened);
          took = subst (Gains taken then_taken) (append-nil (v.asking ++ v.prompting ∷ v.lines)) (Gains-trans taken now then_taken (v.asking ++ v.prompting ∷ v.lines) [] v.took got);
          cause = omega (arith, v.cause, up);
          mine = hung_by ∷ opened_by ∷ v.mine;
          added = adds_one (Hang n) b new newer first one hung (opened_by ∷ v.mine) m is_theirs (adds_kept (opened_by ∷ v.mine) first after one theirs p (adds_one (Take n) a old new first seat after v.mine k is_mine v.added s)) h;
          entered = ap (λ (l : List Event). Hang n ∷ Take n ∷ l) v.entered;
        };
        number = ap (λ (m : ℕ). m + 1) g.number ∙ sym (length_more first taken v.accepted c);
      }

  -- ---- the agent stops, which lacks no memory

  stop_serving : (refused : List (I × O)) (seat after : HubSeat) (left : Option (List (I × O))) (now : Option (List (Job I O))) (failed : ℕ) (a : StepAnswer) (old new : List ℕ) (k : ℕ) → among (numbers seat) k ≡ true
      → Serving asks first seat came left taken now faults failed [] refused → IsSubmitted Stop (Ok a) old new seat after → Serving asks first after came left taken now faults failed (Stop ∷ []) refused
  stop_serving refused seat after left now failed a old new k is_mine v s = record {
    asking = v.asking;
    ask = v.ask;
    many = v.many;
    prompting = v.prompting;
    prompts = v.prompts;
    accepted = v.accepted;
    arrived = v.arrived;
    lines = v.lines;
    lost = v.lost;
    events = v.events;
    opened = v.opened;
    took = v.took;
    cause = v.cause;
    mine = entry (before_it Stop (Ok a) old new seat after s) Stop ∷ v.mine;
    added = adds_one Stop a old new first seat after v.mine k is_mine v.added s;
    entered = ap (λ (l : List Event). Stop ∷ l) v.entered;
  }

  pub stopped : (end : ServeEnd) (seat after : HubSeat) (left : Option (List (I × O))) (now : Option (List (Job I O))) (failed : ℕ) (reply : Result StepAnswer NoMemory) (old new : List ℕ) (k : ℕ) → among (numbers seat) k ≡ true
      → EndedBy asks first seat came left taken now faults failed [] end → IsSubmitted Stop reply old new seat after → ServesSo end asks first after came left taken now faults failed
  stopped end seat after left now failed (Err x) old new k is_mine d s = absurd (no_stop s.answered.0)
    where
      no_stop : false ≡ true → ⊥
      no_stop is = absurd cc
  stopped e.NoThread seat after left now failed (Ok a) old new k is_mine d s = record {
    none = d.none;
    asking = d.asking;
    ask = d.ask;
    few = d.few;
    took = d.took;
    mine = entry (before_it Stop (Ok a) old new seat after s) Stop ∷ d.mine;
    added = adds_one Stop a old new first seat after d.mine k is_mine d.added s;
    entered = ap (λ (l : List Event). Stop ∷ l) d.entered;
  }
  stopped e.ListenFault seat after left now failed (Ok a) old new k is_mine d s = stop_serving [] seat after left now failed a old new k is_mine d s
  stopped e.NoMemory seat after left now failed (Ok a) old new k is_mine d s = (d.0, d.1, stop_serving d.0 seat after left now failed a old new k is_mine d.2 s)
