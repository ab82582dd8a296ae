-- A node on which nothing was made has no history; and where all agents run behind some acts, they ran behind each earlier one.
use Rattle.std.proofs.Common.{◌≡◌, ℕ, List, [], ◌∷◌, Bool, true, false, cond, codes, Option, Some, None, refl, sym, ap, ◌∙◌}
use Rattle.std.specs.Str.{bytes_eq}
use Rattle.std.proofs.lemmas.Bool.{or_parts}
use Rattle.std.proofs.lemmas.Slice.Eq.{bytes_eq-Decides}
use Rattle.agent_history.specs.declared.event.Event.TheVariants.{NoAnswer}
use Rattle.agent_history.specs.declared.event.Event.TheVariants as events
use Rattle.agent_history.specs.Histories.{History, has_stopped}
use Rattle.world_history.specs.Acts.{Act, Talk, Domain, KeyLine, SpeakLine, Reloaded, Made, Restarted, Told, Opened, Started, Got, Given, Answered, Unanswered, Asked, Closed, agent_of, is_node, talk_of}
use Rattle.world_history.specs.Driving.{clunks, drive, is_refused, new_node, opens, reads, replies_to, walks, writes}
use Rattle.world_history.specs.Scripts.{is_unfit}
use Rattle.world_history.specs.Talking.{request_text, starts, gets, gives, word_of}
use Rattle.world_history.specs.Turns.{Turn, after, asks, closes, hears, lets_open, misses, tells}
use Rattle.world_history.specs.Worlds.{Done, done_by, fid_for, history, history_by, on_talk}
use Rattle.world_promises.specs.Conditions.{AreDone}
use Rattle.world_promises.proofs.PlaceLemmas.{not_node, on_agent, placed}
use Rattle.world_promises.proofs.AgentNames.{apart, is_agent, new_made, new_restarted, old, present}
use Rattle.driven_agents.specs.Idle.{Runs}
use Rattle.driven_agents.proofs.RunLaws.{drive_runs, runs_either}
use Rattle.world_promises.specs.Worlds.{AllRun}

pub same_name : (a b : List ℕ) → bytes_eq a b ≡ true → a ≡ b
same_name a b is = (bytes_eq-Decides a b).0 is

pub itself : (a : List ℕ) → bytes_eq a a ≡ true
itself a = (bytes_eq-Decides a a).1 refl

-- ---- agents that weren't made

-- the agent of a conversation that is open was made, and so was its node
pub talk_agent : (acts : List Act) → AreDone acts → (conv : List ℕ) (t : Talk) → talk_of acts conv ≡ Some t → is_agent acts (agent_of acts t.node) ≡ true
talk_agent acts done conv t is = let p = placed acts done conv t is in ap (is_agent acts) (sym p.agent) ∙ on_agent acts done conv p.place p.is

pub talk_node : (acts : List Act) → AreDone acts → (conv : List ℕ) (t : Talk) → talk_of acts conv ≡ Some t → is_node acts t.node ≡ true
talk_node acts done conv t is = (old acts done _ t.node (talk_agent acts done conv t is)).made

nothing_by : (acts : List Act) → AreDone acts → (conv : List ℕ) (o : Option Talk) (turn : ℕ → Turn) (agent : List ℕ) (h : History) → talk_of acts conv ≡ o → is_agent acts agent ≡ false → history_by (on_talk acts o turn) agent h ≡ h
nothing_by acts done conv None turn agent h is off = refl
nothing_by acts done conv (Some t) turn agent h is off = ap (λ b. cond b (after (turn t.fid) h) h) (apart acts (agent_of acts t.node) agent (talk_agent acts done conv t is) off)

nothing_done : (acts : List Act) → AreDone acts → (conv : List ℕ) (turn : ℕ → Turn) (agent : List ℕ) (h : History) → is_agent acts agent ≡ false → history_by (on_talk acts (talk_of acts conv) turn) agent h ≡ h
nothing_done acts done conv turn agent h off = nothing_by acts done conv (talk_of acts conv) turn agent h refl off

apart_node : (acts : List Act) → AreDone acts → (at agent : List ℕ) → is_node acts at ≡ true → is_agent acts agent ≡ false → bytes_eq (agent_of acts at) agent ≡ false
apart_node acts done at agent on off = apart acts (agent_of acts at) agent (present acts done at on) off

unmade : (acts : List Act) → AreDone acts → (agent : List ℕ) → is_agent acts agent ≡ false → history acts agent ≡ []
unmade [] done agent off = refl
unmade (Made name ∷ before) done agent off =
    let parts = or_parts (bytes_eq (agent_of before name) agent) (is_agent before agent) off in
    ap (λ b. cond b new_node (history before agent)) parts.0 ∙ unmade before done.1 agent parts.1
unmade (Restarted name ∷ before) done agent off =
    let parts = or_parts (bytes_eq (agent_of (Restarted name ∷ before) name) agent) (is_agent before agent) off in
    ap (λ b. cond b new_node (history before agent)) parts.0 ∙ unmade before done.1 agent parts.1
unmade (Told at line ∷ before) done agent off = ap (λ b. cond b (after (tells at line) (history before agent)) (history before agent)) (apart_node before done.1 at agent done.0.named off) ∙ unmade before done.1 agent off
unmade (Opened at conv ∷ before) done agent off = ap (λ b. cond b (after (lets_open (fid_for before at)) (history before agent)) (history before agent)) (apart_node before done.1 at agent done.0.named off) ∙ unmade before done.1 agent off
unmade (Started conv word tuple ∷ before) done agent off = nothing_done before done.1 conv (λ fid. asks conv fid (starts word tuple)) agent (history before agent) off ∙ unmade before done.1 agent off
unmade (Got conv ∷ before) done agent off = nothing_done before done.1 conv (λ fid. asks conv fid gets) agent (history before agent) off ∙ unmade before done.1 agent off
unmade (Given conv bytes ∷ before) done agent off = nothing_done before done.1 conv (λ fid. asks conv fid (gives bytes)) agent (history before agent) off ∙ unmade before done.1 agent off
unmade (Answered conv bytes call ∷ before) done agent off = nothing_done before done.1 conv (λ fid. hears conv fid call bytes) agent (history before agent) off ∙ unmade before done.1 agent off
unmade (Unanswered conv call ∷ before) done agent off = nothing_done before done.1 conv (λ fid. misses conv fid call) agent (history before agent) off ∙ unmade before done.1 agent off
unmade (Closed conv ∷ before) done agent off = nothing_done before done.1 conv (λ fid. closes conv fid) agent (history before agent) off ∙ unmade before done.1 agent off
unmade (Domain dom ∷ before) done agent off = unmade before done.1 agent off
unmade (KeyLine tuple ∷ before) done agent off = unmade before done.1 agent off
unmade (SpeakLine tuple ∷ before) done agent off = unmade before done.1 agent off
unmade (Reloaded ∷ before) done agent off = unmade before done.1 agent off
unmade (Asked session request words ∷ before) done agent off = unmade before done.1 agent off

-- ---- agents that run

turn_runs : (turn : Turn) (h : History) → Runs (after turn h) → Runs h
unfolding after
turn_runs (tells node line) h runs = drive_runs (writes 1 line) h runs
turn_runs (lets_open fid) h runs = drive_runs (walks fid (codes "rpc")) h (drive_runs (opens fid) (drive (walks fid (codes "rpc")) h) runs)
turn_runs (asks conv fid what) h runs =
    let write = writes fid (request_text what) in
    let written = drive write h in
    drive_runs write h (runs_first (is_refused (replies_to write h)) written (drive (reads fid (word_of what)) written) (drive_runs (reads fid (word_of what)) written) runs)
  where
    runs_first : (b : Bool) (one other : History) → (Runs other → Runs one) → Runs (cond b one other) → Runs one
    runs_first true one other so runs = runs
    runs_first false one other so runs = so runs
turn_runs (hears conv fid call bytes) h runs = drive_runs (events.Answer call bytes) h runs
turn_runs (misses conv fid call) h runs = drive_runs (NoAnswer call) h runs
turn_runs (closes conv fid) h runs = drive_runs (clunks fid) h runs

done_runs : (o : Option Done) (node : List ℕ) (h : History) → Runs (history_by o node h) → Runs h
done_runs None node h runs = runs
done_runs (Some done) node h runs = runs_either (bytes_eq done.agent node) (after done.turn h) h (turn_runs done.turn h) runs

new_runs : (before : List Act) (new agent : List ℕ) (b : Bool) → bytes_eq new agent ≡ b → AreDone before → is_agent before new ≡ false → Runs (cond b new_node (history before agent)) → Runs (history before agent)
new_runs before new agent false is done off runs = runs
new_runs before new agent true is done off runs = ap has_stopped (unmade before done agent (ap (is_agent before) (sym (same_name new agent is)) ∙ off))

pub ran_before : (before : List Act) (act : Act) → AreDone (act ∷ before) → AllRun (act ∷ before) → AllRun before
ran_before before (Made name) done run node = new_runs before (agent_of before name) node (bytes_eq (agent_of before name) node) refl done.1 (new_made before done.1 name (not_node before name done.0.fits)) (run node)
ran_before before (Restarted name) done run node = new_runs before (agent_of (Restarted name ∷ before) name) node (bytes_eq (agent_of (Restarted name ∷ before) name) node) refl done.1 (new_restarted before done.1 name) (run node)
ran_before before Reloaded done run node = run node
ran_before before (Told at line) done run node = done_runs (done_by before (Told at line)) node (history before node) (run node)
ran_before before (Opened at conv) done run node = done_runs (done_by before (Opened at conv)) node (history before node) (run node)
ran_before before (Started conv word tuple) done run node = done_runs (done_by before (Started conv word tuple)) node (history before node) (run node)
ran_before before (Got conv) done run node = done_runs (done_by before (Got conv)) node (history before node) (run node)
ran_before before (Given conv bytes) done run node = done_runs (done_by before (Given conv bytes)) node (history before node) (run node)
ran_before before (Answered conv bytes call) done run node = done_runs (done_by before (Answered conv bytes call)) node (history before node) (run node)
ran_before before (Unanswered conv call) done run node = done_runs (done_by before (Unanswered conv call)) node (history before node) (run node)
ran_before before (Closed conv) done run node = done_runs (done_by before (Closed conv)) node (history before node) (run node)
ran_before before (Domain dom) done run node = run node
ran_before before (KeyLine tuple) done run node = run node
ran_before before (SpeakLine tuple) done run node = run node
ran_before before (Asked session request words) done run node = run node
