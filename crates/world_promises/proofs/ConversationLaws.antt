-- What a record says of a conversation is what the conversation has done, where each agent does as its conversations do.
use Rattle.std.proofs.Common.{◌≡◌, ℕ, List, [], ◌∷◌, ◌++◌, length, Option, Some, None, Bool, true, false, inl, inr, if◌then◌else◌, refl, sym, ap, subst, ◌∙◌}
use Rattle.std.specs.Str.{bytes_eq}
use Rattle.std.proofs.lemmas.Bool.{cases_Bool}
use Rattle.std.proofs.lemmas.Slice.Eq.{bytes_eq-Decides}
use Rattle.agent_history.specs.Conversations.{opened_talks}
use Rattle.agent_history.specs.Histories.{History, deeds}
use Rattle.wire_histories.specs.Histories.{Act as Does, acts_of}
use Rattle.world_history.specs.Acts.{Act, Talk, Domain, KeyLine, SpeakLine, Reloaded, Made, Restarted, Told, Opened, Started, Got, Given, Answered, Unanswered, Asked, Closed, agent_of, talk_of}
use Rattle.world_history.specs.Driving.{new_node, replies_to, writes}
use Rattle.world_history.specs.Talking.{gets, gives, starts}
use Rattle.world_history.specs.Turns.{Turn, after, asks, closes, hears, lets_open, misses, tells, turn_steps}
use Rattle.world_history.specs.Worlds.{Done, done_by, fid_for, history, history_by, messages_in, on_talk, put_to, requests, steps, steps_by, steps_to}
use Rattle.driven_agents.proofs.NamesLaws.{names_no_lines}
use Rattle.world_promises.specs.Telling.{acts_in}
use Rattle.world_promises.specs.Agents.{AgentDoes, AgentsDo, DoesTo, Leaves, TurnDoes, begun_in, conv_in}
use Rattle.world_promises.specs.Conditions.{AreDone}
use Rattle.world_promises.specs.Settings.{Place, next_place, place_of}
use Rattle.world_promises.specs.LegalityStatements.{record_of}
use Rattle.world_promises.proofs.LeaveLemmas.{events_leave, opened_new, opening_leaves}
use Rattle.world_promises.proofs.PlaceLemmas.{not_made, not_restarted, placed, unplaced}
use Rattle.world_promises.proofs.SaidLemmas.{said, session_none, told_none}
use Rattle.world_promises.proofs.StepLemmas.{acts_behind, no_acts, turn_each}
use Rattle.world_promises.proofs.TurnLaws.{conv_adds}

-- what a conversation at a place has done
abbrev pub left_at : List Act → Option Place → List Does
left_at acts None = []
left_at acts (Some place) = acts_in (begun_in (history acts place.agent) place.number)

abbrev next_number : List Act → ℕ
next_number before = length (messages_in (steps before))

-- an act says what it adds
abbrev Says : List Act → Act → List ℕ → Type 0
Says before act name = said name (steps_by (next_number before) before act) ++ left_at before (place_of before name) ≡ left_at (act ∷ before) (place_of (act ∷ before) name)

same_name : (a b : List ℕ) → bytes_eq a b ≡ true → a ≡ b
same_name a b is = (bytes_eq-Decides a b).0 is

itself : (a : List ℕ) → bytes_eq a a ≡ true
itself a = (bytes_eq-Decides a a).1 refl

-- ---- an act that does nothing to an agent

nothing_at : (before : List Act) (act : Act) (o : Option Place) → ((node : List ℕ) → history (act ∷ before) node ≡ history before node) → left_at before o ≡ left_at (act ∷ before) o
nothing_at before act None same = refl
nothing_at before act (Some place) same = ap (λ h. acts_in (begun_in h place.number)) (sym (same place.agent))

-- ---- an act that does something to an agent, and is no opening

-- what was done to a node leaves the history of a place, or changes it
behind_done : (b : Bool) (turn : Turn) (h : History) (number : ℕ) → (b ≡ true → Leaves number turn h) → begun_in h number ≡ begun_in (if b then after turn h else h) number
behind_done true turn h number leaves = sym (leaves refl)
behind_done false turn h number leaves = refl

-- the turns of a conversation's acts
pub record IsOn (before : List Act) (act : Act) (conv : List ℕ) (turn : ℕ → Turn) : Type 0 where
  pub does : done_by before act ≡ on_talk before (talk_of before conv) turn
  pub says : (number : ℕ) → steps_by number before act ≡ steps_to number before (on_talk before (talk_of before conv) turn)
  pub goes : (node : List ℕ) → history (act ∷ before) node ≡ history_by (on_talk before (talk_of before conv) turn) node (history before node)
  pub stands : (name : List ℕ) → place_of (act ∷ before) name ≡ place_of before name
  pub of_conv : (fid : ℕ) → conv_in (turn fid) ≡ conv

-- where the conversation is open
abbrev done_so : List Act → Talk → (ℕ → Turn) → Done
done_so before t turn = record { agent = agent_of before t.node; turn = turn t.fid }

-- what is said and left where this was done
abbrev SaysBy : List Act → Option Done → List ℕ → Option Place → Type 0
SaysBy before done name None = said name (steps_to (next_number before) before done) ++ [] ≡ []
SaysBy before done name (Some place) = said name (steps_to (next_number before) before done) ++ acts_in (begun_in (history before place.agent) place.number) ≡ acts_in (begun_in (history_by done place.agent (history before place.agent)) place.number)

-- of another conversation nothing is said
says_other : (before : List Act) (done : Done) (name : List ℕ) (o : Option Place) → bytes_eq (conv_in done.turn) name ≡ false → ((place : Place) → o ≡ Some place → bytes_eq done.agent place.agent ≡ true → Leaves place.number done.turn (history before place.agent)) → SaysBy before (Some done) name o
says_other before done name None apart leaves = ap (λ xs. xs ++ []) (no_acts (conv_in done.turn) name _ apart (turn_each (next_number before) done.turn (history before done.agent)))
says_other before done name (Some place) apart leaves =
    ap (λ xs. xs ++ acts_in (begun_in (history before place.agent) place.number)) (no_acts (conv_in done.turn) name _ apart (turn_each (next_number before) done.turn (history before done.agent)))
    ∙ ap acts_in (behind_done (bytes_eq done.agent place.agent) done.turn (history before place.agent) place.number (leaves place refl))

-- of its own what it adds
says_own : (before : List Act) (done : Done) (name : List ℕ) (place : Place) → conv_in done.turn ≡ name → place.agent ≡ done.agent → TurnDoes place.number done.turn (history before place.agent) → SaysBy before (Some done) name (Some place)
says_own before done name place of_conv of_node does =
    ap (λ n. said name (turn_steps (next_number before) done.turn (history before n)) ++ acts_in (begun_in (history before place.agent) place.number)) (sym of_node)
    ∙ (subst (λ n. said n (turn_steps (next_number before) done.turn (history before place.agent)) ++ acts_in (begun_in (history before place.agent) place.number) ≡ acts_in (begun_in (after done.turn (history before place.agent)) place.number)) of_conv (conv_adds (next_number before) place.number done.turn (history before place.agent) (names_no_lines before place.agent) does)
    ∙ sym (ap (λ b. acts_in (begun_in (if b then after done.turn (history before place.agent) else history before place.agent) place.number)) (ap (λ n. bytes_eq n place.agent) (sym of_node) ∙ itself place.agent)))

says_on : (before : List Act) → AreDone before → (act : Act) → AgentDoes before act → (conv : List ℕ) (turn : ℕ → Turn) → IsOn before act conv turn → (name : List ℕ) (t : Talk) → talk_of before conv ≡ Some t → SaysBy before (Some (done_so before t turn)) name (place_of before name)
says_on before done act agent conv turn on name t open_so =
    let what = done_so before t turn in
    let is_done : done_by before act ≡ Some what = on.does ∙ ap (λ o. on_talk before o turn) open_so in
    elim (cases_Bool (bytes_eq (conv_in (turn t.fid)) name)) [
      | inl same ↦ (
          let of_conv = same_name (conv_in (turn t.fid)) name same in
          let place = placed before done name t (ap (talk_of before) (sym of_conv ∙ on.of_conv t.fid) ∙ open_so) in
          subst (SaysBy before (Some what) name) (sym place.is)
          (says_own before what name place.place of_conv place.agent
          (subst (λ b. DoesTo b place.place.number what.turn (history before place.place.agent)) same (agent.turns what name place.place is_done place.is (ap (λ n. bytes_eq n place.place.agent) (sym place.agent) ∙ itself place.place.agent)))))
      | inr other ↦ says_other before what name (place_of before name) other (λ place is of_node. events_leave place.number what.turn (history before place.agent) (names_no_lines before place.agent) (subst (λ b. DoesTo b place.number what.turn (history before place.agent)) other (agent.turns what name place is_done is of_node)))
    ]

-- nothing is done where it isn't open
says_none : (before : List Act) (name : List ℕ) (o : Option Place) → SaysBy before None name o
says_none before name None = refl
says_none before name (Some place) = refl

says_by : (before : List Act) → AreDone before → (act : Act) → AgentDoes before act → (conv : List ℕ) (turn : ℕ → Turn) → IsOn before act conv turn → (name : List ℕ) (o : Option Talk) → talk_of before conv ≡ o → SaysBy before (on_talk before o turn) name (place_of before name)
says_by before done act agent conv turn on name None is = says_none before name (place_of before name)
says_by before done act agent conv turn on name (Some t) is = says_on before done act agent conv turn on name t is

says_at : (before : List Act) (act : Act) (name : List ℕ) (was : Option Done) (o : Option Place) → ((node : List ℕ) → history (act ∷ before) node ≡ history_by was node (history before node)) → SaysBy before was name o → said name (steps_to (next_number before) before was) ++ left_at before o ≡ left_at (act ∷ before) o
says_at before act name was None same so = so
says_at before act name was (Some place) same so = so ∙ ap (λ h. acts_in (begun_in h place.number)) (sym (same place.agent))

says_so : (before : List Act) → AreDone before → (act : Act) → AgentDoes before act → (conv : List ℕ) (turn : ℕ → Turn) → IsOn before act conv turn → (name : List ℕ) → Says before act name
says_so before done act agent conv turn on name =
    ap (λ xs. said name xs ++ left_at before (place_of before name)) (on.says (next_number before))
    ∙ says_at before act name (on_talk before (talk_of before conv) turn) (place_of before name) on.goes (says_by before done act agent conv turn on name (talk_of before conv) refl)
    ∙ sym (ap (left_at (act ∷ before)) (on.stands name))

-- ---- other acts

-- a new agent is made, for a node or in the place of one
new_at : (before : List Act) (act : Act) (agent : List ℕ) (o : Option Place) → ((other : List ℕ) → history (act ∷ before) other ≡ (if bytes_eq agent other then new_node else history before other)) → ((place : Place) → o ≡ Some place → bytes_eq agent place.agent ≡ false) → left_at before o ≡ left_at (act ∷ before) o
new_at before act agent None same apart = refl
new_at before act agent (Some place) same apart =
    sym (ap (λ h. acts_in (begun_in h place.number)) (same place.agent) ∙ ap (λ b. acts_in (begun_in (if b then new_node else history before place.agent) place.number)) (apart place refl))

-- a line of ctl, or an opening, of which nothing is said
left_done : (before : List Act) (act : Act) (done : Done) (o : Option Place) → ((node : List ℕ) → history (act ∷ before) node ≡ history_by (Some done) node (history before node)) → ((place : Place) → o ≡ Some place → bytes_eq done.agent place.agent ≡ true → Leaves place.number done.turn (history before place.agent)) → left_at before o ≡ left_at (act ∷ before) o
left_done before act done None same leaves = refl
left_done before act done (Some place) same leaves =
    ap acts_in (behind_done (bytes_eq done.agent place.agent) done.turn (history before place.agent) place.number (leaves place refl))
    ∙ ap (λ h. acts_in (begun_in h place.number)) (sym (same place.agent))

told_leaves : (before : List Act) (node line : List ℕ) (place : Place) → Leaves place.number (tells node line) (history before place.agent)
told_leaves before node line place = events_leave place.number (tells node line) (history before place.agent) (names_no_lines before place.agent) tt

opened_says : (before : List Act) (node conv name : List ℕ) → AreDone (Opened node conv ∷ before) → AgentDoes before (Opened node conv) → left_at before (place_of before name) ≡ left_at (Opened node conv ∷ before) (place_of (Opened node conv ∷ before) name)
opened_says before node conv name done agent = elim (cases_Bool (bytes_eq conv name)) [
  | inl same ↦ (
      let none = unplaced before node conv name done.0.fits same in
      let place : Place = next_place before node in
      let now : place_of (Opened node conv ∷ before) name ≡ Some place = ap (λ b. if b then Some place else place_of before name) same in
      ap (left_at before) none
      ∙ sym (ap acts_in (opened_new before (Opened node conv) agent.opens name place none now))
      ∙ sym (ap (left_at (Opened node conv ∷ before)) now))
  | inr other ↦ (
      let now : place_of (Opened node conv ∷ before) name ≡ place_of before name = ap (λ b. if b then Some (next_place before node) else place_of before name) other in
      left_done before (Opened node conv) (record { agent = agent_of before node; turn = lets_open (fid_for before node) }) (place_of before name) (λ n. refl) (λ place is on. opening_leaves place.number (fid_for before node) (history before place.agent))
      ∙ sym (ap (left_at (Opened node conv ∷ before)) now))
]

-- ---- all acts

each_says : (before : List Act) (act : Act) (name : List ℕ) → AreDone (act ∷ before) → AgentDoes before act → Says before act name
unfolding turn_steps
each_says before (Domain dom) name done agent = nothing_at before (Domain dom) (place_of before name) (λ n. refl)
each_says before (KeyLine tuple) name done agent = nothing_at before (KeyLine tuple) (place_of before name) (λ n. refl)
each_says before (SpeakLine tuple) name done agent = nothing_at before (SpeakLine tuple) (place_of before name) (λ n. refl)
each_says before Reloaded name done agent = nothing_at before Reloaded (place_of before name) (λ n. refl)
each_says before (Made node) name done agent = new_at before (Made node) (agent_of before node) (place_of before name) (λ n. refl) (λ place is. not_made before done.1 node name place done.0.fits is)
each_says before (Restarted node) name done agent = new_at before (Restarted node) (agent_of (Restarted node ∷ before) node) (place_of before name) (λ n. refl) (λ place is. not_restarted before done.1 node name place is)
each_says before (Told node line) name done agent =
    ap (λ xs. xs ++ left_at before (place_of before name)) (told_none name node (replies_to (writes 1 line) (history before (agent_of before node))))
    ∙ left_done before (Told node line) (record { agent = agent_of before node; turn = tells node line }) (place_of before name) (λ n. refl) (λ place is on. told_leaves before node line place)
each_says before (Opened node conv) name done agent = opened_says before node conv name done agent
each_says before (Started conv word tuple) name done agent = says_so before done.1 (Started conv word tuple) agent conv (λ fid. asks conv fid (starts word tuple)) (record { does = refl; says = λ n. refl; goes = λ n. refl; stands = λ n. refl; of_conv = λ fid. refl }) name
each_says before (Got conv) name done agent = says_so before done.1 (Got conv) agent conv (λ fid. asks conv fid gets) (record { does = refl; says = λ n. refl; goes = λ n. refl; stands = λ n. refl; of_conv = λ fid. refl }) name
each_says before (Given conv bytes) name done agent = says_so before done.1 (Given conv bytes) agent conv (λ fid. asks conv fid (gives bytes)) (record { does = refl; says = λ n. refl; goes = λ n. refl; stands = λ n. refl; of_conv = λ fid. refl }) name
each_says before (Answered conv bytes call) name done agent = says_so before done.1 (Answered conv bytes call) agent conv (λ fid. hears conv fid call bytes) (record { does = refl; says = λ n. refl; goes = λ n. refl; stands = λ n. refl; of_conv = λ fid. refl }) name
each_says before (Unanswered conv call) name done agent = says_so before done.1 (Unanswered conv call) agent conv (λ fid. misses conv fid call) (record { does = refl; says = λ n. refl; goes = λ n. refl; stands = λ n. refl; of_conv = λ fid. refl }) name
each_says before (Closed conv) name done agent = says_so before done.1 (Closed conv) agent conv (λ fid. closes conv fid) (record { does = refl; says = λ n. refl; goes = λ n. refl; stands = λ n. refl; of_conv = λ fid. refl }) name
each_says before (Asked session request words) name done agent =
    ap (λ xs. xs ++ left_at before (place_of before name)) (session_none name (next_number before) session (requests before session) (put_to before request words))
    ∙ nothing_at before (Asked session request words) (place_of before name) (λ n. refl)

pub all_said : (acts : List Act) → AreDone acts → AgentsDo acts → (name : List ℕ) → acts_of name (record_of acts) ≡ left_at acts (place_of acts name)
all_said [] done does name = refl
all_said (act ∷ before) done does name =
    acts_behind name (steps before) (steps_by (next_number before) before act)
    ∙ ap (λ xs. said name (steps_by (next_number before) before act) ++ xs) (all_said before done.1 does.1 name)
    ∙ each_says before act name done does.0
