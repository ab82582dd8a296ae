-- A conversation whose node was restarted since it started does nothing more.
use Rattle.std.proofs.Common.{◌≡◌, ℕ, List, [], ◌∷◌, ◌++◌, length, reverse, append_assoc, Option, Some, None, Bool, true, false, not, ◌||◌, ◌⊎◌, inl, inr, if◌then◌else◌, refl, sym, ap, subst, ◌∙◌}
use Rattle.std.specs.List.{list_any}
use Rattle.std.specs.Str.{bytes_eq}
use Rattle.std.proofs.lemmas.Bool.{cases_Bool}
use Rattle.std.proofs.lemmas.List.{reverse-append}
use Rattle.nine.specs.declared.message.RMsg.{RMsg}
use Rattle.nine.specs.declared.message.RBody.{RBody}
use Rattle.nine.specs.declared.message.RBody.TheVariants as r
use Rattle.auth_server.specs.Requests.{is_served, kind_of}
use Rattle.auth_server.specs.Answers.{Posed, answer_in, is_over_in}
use Rattle.wire_histories.specs.declared.step.Step.{Step}
use Rattle.wire_histories.specs.declared.step.Step.TheVariants as s
use Rattle.wire_histories.specs.Histories.{has_started, is_of}
use Rattle.wire_histories.specs.Legal.{EndsByRestarts}
use Rattle.wire_histories.proofs.RestartLemmas.{is_restart}
use Rattle.world_history.specs.Acts.{Act, Talk, Domain, KeyLine, SpeakLine, Reloaded, Made, Restarted, Told, Opened, Started, Got, Given, Answered, Unanswered, Asked, Closed, agent_of, talk_of}
use Rattle.world_history.specs.Driving.{replies_to, writes}
use Rattle.world_history.specs.Talking.{gets, gives, starts}
use Rattle.world_history.specs.Turns.{Turn, asks, closes, hears, lets_open, misses, refused_by, tells, told_steps, turn_steps}
use Rattle.world_history.specs.Worlds.{Done, done_by, fid_for, history, messages_in, on_talk, put_to, requests, session_steps, steps, steps_by, steps_to}
use Rattle.world_promises.specs.Agents.{conv_in}
use Rattle.world_promises.specs.Conditions.{AreDone}
use Rattle.world_promises.specs.Settings.{Place, next_place, place_of, setting, spoken_at, spoken_by, standing_at}
use Rattle.world_promises.specs.LegalityStatements.{record_of}
use Rattle.talks.specs.Standings.{Begun}
use Rattle.std.specs.Option.{option_map}
use Rattle.world_promises.proofs.PlaceLemmas.{placed, unplaced}
use Rattle.world_promises.proofs.RunLemmas.{itself, same_name}
use Rattle.world_promises.proofs.StayLaws.{done_stays, session_stays}
use Rattle.world_promises.proofs.StepLemmas.{no_restart, none_of_other, stay_reversed, turn_each}
use Rattle.world_promises.proofs.TalkLemmas.{closed_talk, opened_talk, restarted_talk}

none_some : {X : Type 0} (o : Option X) (x : X) → o ≡ None → o ≡ Some x → ⊥
none_some o x none some = let no_way : None ≡ Some x = sym none ∙ some in cc

not_both : (b : Bool) → b ≡ true → b ≡ false → ⊥
not_both b on off = let no_way : true ≡ false = sym on ∙ off in cc

-- ---- lists of steps

any_append : (p : Step → Bool) (front rest : List Step) → list_any p front ≡ false → list_any p rest ≡ false → list_any p (front ++ rest) ≡ false
any_append p [] rest f r = r
any_append p (step ∷ front) rest f r = by_first (p step) f (λ none. any_append p front rest none r)
  where
    by_first : (b : Bool) → (b || list_any p front) ≡ false → (list_any p front ≡ false → list_any p (front ++ rest) ≡ false) → (b || list_any p (front ++ rest)) ≡ false
    by_first true f more = absurd cc
    by_first false f more = more f

any_reversed : (p : Step → Bool) (steps : List Step) → list_any p steps ≡ false → list_any p (reverse steps) ≡ false
any_reversed p [] none = refl
any_reversed p (step ∷ more) none = by_first (p step) refl none (any_reversed p more)
  where
    by_first : (b : Bool) → p step ≡ b → (b || list_any p more) ≡ false → (list_any p more ≡ false → list_any p (reverse more) ≡ false) → list_any p (reverse (step ∷ more)) ≡ false
    by_first true is none rest = absurd cc
    by_first false is none rest = subst (λ xs. list_any p xs ≡ false) (sym (reverse-append (step ∷ []) more)) (any_append p (reverse more) (step ∷ []) (rest none) (ap (λ b. b || false) is))

-- a step within two lists is in one of them
record InFront (x : Step) (later past front rest : List Step) : Type 0 where
  mid : List Step
  is : front ≡ later ++ x ∷ mid
  behind : past ≡ mid ++ rest

record InRest (x : Step) (later past front rest : List Step) : Type 0 where
  mid : List Step
  is : later ≡ front ++ mid
  behind : rest ≡ mid ++ x ∷ past

split : (x : Step) (later past front rest : List Step) → later ++ x ∷ past ≡ front ++ rest → InFront x later past front rest ⊎ InRest x later past front rest
split x later past [] rest is = inr (record { mid = later; is = refl; behind = sym is })
split x [] past (y ∷ front) rest is =
    let head : x ≡ y = cc in
    let tail : past ≡ front ++ rest = cc in
    inl (record { mid = front; is = ap (λ z. z ∷ front) (sym head); behind = tail })
split x (z ∷ later) past (y ∷ front) rest is =
    let head : z ≡ y = cc in
    let tail : later ++ x ∷ past ≡ front ++ rest = cc in
    elim (split x later past front rest tail) [
      | inl here ↦ inl (record { mid = here.mid; is = ap (λ w. w ∷ front) (sym head) ∙ ap (λ xs. z ∷ xs) here.is; behind = here.behind })
      | inr there ↦ inr (record { mid = there.mid; is = ap (λ w. w ∷ later) head ∙ ap (λ xs. y ∷ xs) there.is; behind = there.behind })
    ]

-- where there is no restart, this isn't one
restart_within : (node : List ℕ) (later mid : List Step) → list_any is_restart (later ++ s.Restart node ∷ mid) ≡ false → ⊥
restart_within node [] mid none = let no_way : true ≡ false = none in cc
restart_within node (step ∷ later) mid none = by_first (is_restart step) none (restart_within node later mid)
  where
    by_first : (b : Bool) → (b || list_any is_restart (later ++ s.Restart node ∷ mid)) ≡ false → (list_any is_restart (later ++ s.Restart node ∷ mid) ≡ false → ⊥) → ⊥
    by_first true none rest = let no_way : true ≡ false = none in cc
    by_first false none rest = rest none

-- ---- what has started

started_append : (name : List ℕ) (front rest : List Step) → has_started name (front ++ rest) ≡ has_started name front || has_started name rest
started_append name [] rest = refl
started_append name (s.Start conv protocol role word ∷ front) rest = ap (λ b. bytes_eq conv name || b) (started_append name front rest) ∙ together (bytes_eq conv name) (has_started name front) (has_started name rest)
  where
    together : (a b c : Bool) → (a || (b || c)) ≡ ((a || b) || c)
    together true b c = refl
    together false b c = refl
started_append name (step ∷ front) rest = started_append name front rest

-- whatever started has a step
started_of : (name : List ℕ) (steps : List Step) → list_any (is_of name) steps ≡ false → has_started name steps ≡ false
started_of name [] none = refl
started_of name (s.Start conv protocol role word ∷ more) none = by_first (bytes_eq conv name) none (started_of name more)
  where
    by_first : (b : Bool) → (b || list_any (is_of name) more) ≡ false → (list_any (is_of name) more ≡ false → has_started name more ≡ false) → (b || has_started name more) ≡ false
    by_first true none rest = absurd cc
    by_first false none rest = rest none
started_of name (step ∷ more) none = by_first (is_of name step) none (started_of name more)
  where
    by_first : (b : Bool) → (b || list_any (is_of name) more) ≡ false → (list_any (is_of name) more ≡ false → has_started name more ≡ false) → has_started name more ≡ false
    by_first true none rest = absurd cc
    by_first false none rest = rest none

-- ---- the steps of an act

abbrev next_number : List Act → ℕ
next_number before = length (messages_in (steps before))

abbrev new_steps : List Act → Act → List Step
new_steps before act = steps_by (next_number before) before act

record_behind : (before : List Act) (act : Act) → record_of (act ∷ before) ≡ reverse (new_steps before act) ++ record_of before
record_behind before act = reverse-append (steps before) (new_steps before act)

refused_none : (name node : List ℕ) (body : RBody) → list_any (is_of name) (refused_by node body) ≡ false
refused_none name node (r.Error text) = refl
refused_none name node body = refl

told_none : (name node : List ℕ) (replies : List RMsg) → list_any (is_of name) (told_steps node replies) ≡ false
told_none name node [] = refl
told_none name node (m ∷ more) = any_append (is_of name) (refused_by node m.body) (told_steps node more) (refused_none name node m.body) (told_none name node more)

one_end : (name session : List ℕ) (over : Bool) → list_any (is_of name) (if over then s.AsEnd session ∷ [] else []) ≡ false
one_end name session true = refl
one_end name session false = refl

then_ends : (number : ℕ) (name session answer : List ℕ) (served over : Bool) → list_any (is_of name) (if served then s.AsGave number session answer ∷ (if over then s.AsEnd session ∷ [] else []) else s.AsEnd session ∷ []) ≡ false
then_ends number name session answer true over = one_end name session over
then_ends number name session answer false over = refl

session_silent : (name : List ℕ) (number : ℕ) (session : List ℕ) (before : List Posed) (p : Posed) → list_any (is_of name) (session_steps number session before p) ≡ false
unfolding session_steps
session_silent name number session before p = then_ends number name session (answer_in before p) (is_served (kind_of p.asked.request)) (is_over_in (p ∷ before))

-- of a conversation that isn't open nothing is recorded
talk_silent : (before : List Act) (name conv : List ℕ) (turn : ℕ → Turn) (o : Option Talk) → talk_of before conv ≡ o → ((fid : ℕ) → conv_in (turn fid) ≡ conv) → talk_of before name ≡ None → list_any (is_of name) (steps_to (next_number before) before (on_talk before o turn)) ≡ false
talk_silent before name conv turn None is of_conv none = refl
talk_silent before name conv turn (Some t) is of_conv none = by_name (cases_Bool (bytes_eq conv name))
  where
    by_name : (bytes_eq conv name ≡ true) ⊎ (bytes_eq conv name ≡ false) → list_any (is_of name) (turn_steps (next_number before) (turn t.fid) (history before (agent_of before t.node))) ≡ false
    by_name (inl same) = absurd (none_some (talk_of before conv) t (ap (talk_of before) (same_name conv name same) ∙ none) is)
    by_name (inr other) = none_of_other (conv_in (turn t.fid)) name _ (ap (λ n. bytes_eq n name) (of_conv t.fid) ∙ other) (turn_each (next_number before) (turn t.fid) (history before (agent_of before t.node)))

act_silent : (before : List Act) (act : Act) (name : List ℕ) → talk_of before name ≡ None → list_any (is_of name) (new_steps before act) ≡ false
unfolding turn_steps
act_silent before (Domain dom) name none = refl
act_silent before (KeyLine tuple) name none = refl
act_silent before (SpeakLine tuple) name none = refl
act_silent before Reloaded name none = refl
act_silent before (Made node) name none = refl
act_silent before (Restarted node) name none = refl
act_silent before (Told node line) name none = told_none name node (replies_to (writes 1 line) (history before (agent_of before node)))
act_silent before (Opened node conv) name none = refl
act_silent before (Started conv word tuple) name none = talk_silent before name conv (λ fid. asks conv fid (starts word tuple)) (talk_of before conv) refl (λ fid. refl) none
act_silent before (Got conv) name none = talk_silent before name conv (λ fid. asks conv fid gets) (talk_of before conv) refl (λ fid. refl) none
act_silent before (Given conv bytes) name none = talk_silent before name conv (λ fid. asks conv fid (gives bytes)) (talk_of before conv) refl (λ fid. refl) none
act_silent before (Answered conv bytes call) name none = talk_silent before name conv (λ fid. hears conv fid call bytes) (talk_of before conv) refl (λ fid. refl) none
act_silent before (Unanswered conv call) name none = talk_silent before name conv (λ fid. misses conv fid call) (talk_of before conv) refl (λ fid. refl) none
act_silent before (Asked session request words) name none = session_silent name (next_number before) session (requests before session) (put_to before request words)
act_silent before (Closed conv) name none = talk_silent before name conv (λ fid. closes conv fid) (talk_of before conv) refl (λ fid. refl) none

-- ---- places and names

-- a name that has a place keeps it
still_there : (before : List Act) (act : Act) → AreDone (act ∷ before) → (name : List ℕ) (place : Place) → place_of before name ≡ Some place → place_of (act ∷ before) name ≡ Some place
still_there before (Opened node conv) done name place is = by_name (cases_Bool (bytes_eq conv name))
  where
    by_name : (bytes_eq conv name ≡ true) ⊎ (bytes_eq conv name ≡ false) → place_of (Opened node conv ∷ before) name ≡ Some place
    by_name (inl same) = absurd (none_some (place_of before name) place (unplaced before node conv name done.0.fits same) is)
    by_name (inr other) = ap (λ b. if b then Some (next_place before node) else place_of before name) other ∙ is
still_there before act done name place is = is

-- one that isn't open, and was, isn't opened again
still_gone : (before : List Act) (act : Act) → AreDone (act ∷ before) → (name : List ℕ) (place : Place) → place_of before name ≡ Some place → talk_of before name ≡ None → talk_of (act ∷ before) name ≡ None
still_gone before act done name place is none = by_talk (talk_of (act ∷ before) name) refl
  where
    before_too : (act : Act) → AreDone (act ∷ before) → (t : Talk) → talk_of (act ∷ before) name ≡ Some t → talk_of before name ≡ Some t
    before_too (Opened node conv) done t open_so = elim (opened_talk before node conv name t open_so) [
      | inl was ↦ was
      | inr now ↦ absurd (none_some (place_of before name) place (unplaced before node conv name done.0.fits now.0) is)
    ]
    before_too (Closed conv) done t open_so = (closed_talk before conv name t open_so).0
    before_too (Restarted node) done t open_so = (restarted_talk before node name t done.1 open_so).0
    before_too act done t open_so = open_so

    by_talk : (o : Option Talk) → talk_of (act ∷ before) name ≡ o → o ≡ None
    by_talk None so = refl
    by_talk (Some t) so = absurd (none_some (talk_of before name) t none (before_too act done t so))

-- what has started has a place
pub record HasPlace (acts : List Act) (name : List ℕ) : Type 0 where
  place : Place
  is : place_of acts name ≡ Some place

place_then : (before : List Act) (act : Act) → AreDone (act ∷ before) → (name : List ℕ) → HasPlace before name → HasPlace (act ∷ before) name
place_then before act done name p = record { place = p.place; is = still_there before act done name p.place p.is }

started_placed : (acts : List Act) → AreDone acts → (name : List ℕ) → has_started name (record_of acts) ≡ true → HasPlace acts name
started_placed [] done name is = absurd cc
started_placed (act ∷ before) done name is = elim (cases_Bool (has_started name (record_of before))) [
  | inl was ↦ place_then before act done name (started_placed before done.1 name was)
  | inr not_yet ↦ by_talk (talk_of before name) refl not_yet
]
  where
    by_talk : (o : Option Talk) → talk_of before name ≡ o → has_started name (record_of before) ≡ false → HasPlace (act ∷ before) name
    by_talk None none not_yet = absurd (not_both (has_started name (record_of (act ∷ before))) is
        (ap (has_started name) (record_behind before act)
        ∙ (started_append name (reverse (new_steps before act)) (record_of before)
        ∙ (ap (λ b. b || has_started name (record_of before)) (started_of name (reverse (new_steps before act)) (any_reversed (is_of name) (new_steps before act) (act_silent before act name none))) ∙ not_yet))))
    by_talk (Some t) open_so not_yet = let p = placed before done.1 name t open_so in place_then before act done name (record { place = p.place; is = p.is })

-- ---- behind a restart

-- only a restart is recorded as one
no_restart_by : (before : List Act) (act : Act) → ((node : List ℕ) → act ≡ Restarted node → ⊥) → list_any is_restart (reverse (new_steps before act)) ≡ false
no_restart_by before (Restarted node) other = absurd (other node refl)
no_restart_by before Reloaded other = refl
no_restart_by before (Asked session request words) other = no_restart (reverse (new_steps before (Asked session request words))) (stay_reversed (new_steps before (Asked session request words)) (session_stays (next_number before) session (requests before session) (put_to before request words)))
no_restart_by before act other = no_restart (reverse (new_steps before act)) (stay_reversed (new_steps before act) (done_stays (next_number before) before (done_by before act)))

-- it isn't open, and nothing of it came since
pub record IsGone (acts : List Act) (name : List ℕ) (later : List Step) : Type 0 where
  closed : talk_of acts name ≡ None
  silent : list_any (is_of name) later ≡ false

abbrev EndsAt : List Act → List ℕ → Place → Type 0
EndsAt acts name place = (later past : List Step) → record_of acts ≡ later ++ s.Restart place.node ∷ past → has_started name past ≡ true → IsGone acts name later

-- its node is restarted now
gone_now : (before : List Act) (node name : List ℕ) (place : Place) → AreDone (Restarted node ∷ before) → place_of before name ≡ Some place → node ≡ place.node → talk_of (Restarted node ∷ before) name ≡ None
gone_now before node name place done is same = by_talk (talk_of (Restarted node ∷ before) name) refl
  where
    by_talk : (o : Option Talk) → talk_of (Restarted node ∷ before) name ≡ o → o ≡ None
    by_talk None so = refl
    by_talk (Some t) so =
        let was = restarted_talk before node name t done.1 so in
        let p = placed before done.1 name t was.0 in
        let its : p.place ≡ place = (let two : Some p.place ≡ Some place = sym p.is ∙ is in cc) in
        let there : bytes_eq t.node node ≡ true = ap (bytes_eq t.node) (same ∙ (ap (λ q. q.node) (sym its) ∙ p.node)) ∙ itself t.node in
        absurd (not_both (not (bytes_eq t.node node)) was.1 (ap not there))

one_step : (x y : Step) (later mid : List Step) → x ∷ [] ≡ later ++ y ∷ mid → (later ≡ []) × ((x ≡ y) × (mid ≡ []))
one_step x y [] mid is = (refl, (cc, cc))
one_step x y (z ∷ []) mid is = absurd cc
one_step x y (z ∷ w ∷ later) mid is = absurd cc

gone_later : (before : List Act) (act : Act) → AreDone (act ∷ before) → (name : List ℕ) (place : Place) → ((place : Place) → place_of before name ≡ Some place → EndsAt before name place) → place_of (act ∷ before) name ≡ Some place → (later past : List Step)
    → InRest (s.Restart place.node) later past (reverse (new_steps before act)) (record_of before) → has_started name past ≡ true → IsGone (act ∷ before) name later
gone_later before act done name place each at later past there started =
    let was : has_started name (record_of before) ≡ true = ap (has_started name) there.behind ∙ (started_append name there.mid (s.Restart place.node ∷ past) ∙ or_last (has_started name there.mid)) in
    let p = started_placed before done.1 name was in
    let same : p.place ≡ place = (let two : Some p.place ≡ Some place = sym (still_there before act done name p.place p.is) ∙ at in cc) in
    let here : place_of before name ≡ Some place = p.is ∙ ap (λ q. Some q) same in
    let g = each place here there.mid past there.behind started in
    record {
      closed = still_gone before act done name place here g.closed;
      silent = ap (list_any (is_of name)) there.is ∙ any_append (is_of name) (reverse (new_steps before act)) there.mid (any_reversed (is_of name) (new_steps before act) (act_silent before act name g.closed)) g.silent;
    }
  where
    or_last : (b : Bool) → (b || has_started name past) ≡ true
    or_last true = refl
    or_last false = started

gone_here : (before : List Act) (act : Act) → AreDone (act ∷ before) → (name : List ℕ) (place : Place) → place_of (act ∷ before) name ≡ Some place → (later past : List Step)
    → InFront (s.Restart place.node) later past (reverse (new_steps before act)) (record_of before) → has_started name past ≡ true → IsGone (act ∷ before) name later
gone_here before (Restarted node) done name place at later past here started =
    let parts = one_step (s.Restart node) (s.Restart place.node) later here.mid here.is in
    let same : node ≡ place.node = (let two : s.Restart node ≡ s.Restart place.node = parts.1.0 in cc) in
    record { closed = gone_now before node name place done at same; silent = ap (list_any (is_of name)) parts.0 }
gone_here before act done name place at later past here started =
    absurd (restart_within place.node later here.mid (ap (list_any is_restart) (sym here.is) ∙ no_restart_by before act (λ node same. let no_way : act ≡ Restarted node = same in cc)))

pub ends_at : (acts : List Act) → AreDone acts → (name : List ℕ) (place : Place) → place_of acts name ≡ Some place → EndsAt acts name place
ends_at [] done name place at = λ later past is started. absurd cc
ends_at (act ∷ before) done name place at = λ later past is started.
    elim (split (s.Restart place.node) later past (reverse (new_steps before act)) (record_of before) (sym is ∙ record_behind before act)) [
      | inl here ↦ gone_here before act done name place at later past here started
      | inr there ↦ gone_later before act done name place (λ p was. ends_at before done.1 name p was) at later past there started
    ]

-- ---- the law

by_begun : (acts : List Act) → AreDone acts → (name : List ℕ) (place : Place) → place_of acts name ≡ Some place → (begun : Option Begun) → (standing_at acts place).begun ≡ begun → EndsByRestarts (spoken_at acts (Some place)) name (record_of acts)
by_begun acts done name place at None so = subst (λ o. EndsByRestarts (option_map (spoken_by place.node) o) name (record_of acts)) (sym so) tt
by_begun acts done name place at (Some b) so = subst (λ o. EndsByRestarts (option_map (spoken_by place.node) o) name (record_of acts)) (sym so) (λ later past is started. (ends_at acts done name place at later past is started).silent)

by_place : (acts : List Act) → AreDone acts → (name : List ℕ) (o : Option Place) → place_of acts name ≡ o → EndsByRestarts (spoken_at acts o) name (record_of acts)
by_place acts done name None at = tt
by_place acts done name (Some place) at = by_begun acts done name place at (standing_at acts place).begun refl

pub restarts_end : (acts : List Act) → AreDone acts → (name : List ℕ) → EndsByRestarts ((setting acts).spoken name) name (record_of acts)
restarts_end acts done name = by_place acts done name (place_of acts name) refl
