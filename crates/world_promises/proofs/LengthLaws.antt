-- The histories of the agents of a network are short where few acts are done, so that none of them stops.
use Rattle.std.proofs.Common.{◌≡◌, ℕ, ◌+◌, ◌*◌, ◌≤◌, ◌<◌, List, [], ◌∷◌, length, reverse, suc, Bool, true, false, cond, codes, eqb, Option, Some, None, refl, sym, ap, subst, ◌∙◌, arith}
use Rattle.std.specs.List.{list_all}
use Rattle.std.specs.Str.{bytes_eq}
use Rattle.agent_history.specs.declared.event.Event.{Event}
use Rattle.agent_history.specs.declared.event.Event.TheVariants.{NoAnswer}
use Rattle.agent_history.specs.declared.event.Event.TheVariants as events
use Rattle.nine.specs.declared.message.RMsg.{RMsg}
use Rattle.nine.specs.declared.message.RBody.{RBody}
use Rattle.agent_history.specs.Deeds.{Deed, was_hung, was_opened}
use Rattle.agent_history.specs.Replies.{swept}
use Rattle.agent_history.specs.Requests.{Call, replied}
use Rattle.agent_history.specs.Histories.{History, deeds, most_events}
use Rattle.world_history.specs.Acts.{Act, Talk, Domain, KeyLine, SpeakLine, Reloaded, Made, Restarted, Told, Opened, Started, Got, Given, Answered, Unanswered, Asked, Closed, agent_of, is_node, talk_of}
use Rattle.world_history.specs.Driving.{agrees, attaches, clunks, drive, is_refused, new_node, opens, reads, replies_to, walks, writes}
use Rattle.world_history.specs.Talking.{gets, gives, request_text, starts, word_of}
use Rattle.world_history.specs.Turns.{Turn, after, asks, closes, hears, lets_open, misses, tells}
use Rattle.world_history.specs.Worlds.{Done, done_by, fid_for, history, history_by, on_talk}
use Rattle.world_promises.specs.Conditions.{AreDone}
use Rattle.driven_agents.specs.Idle.{IsIdle, Runs}
use Rattle.driven_agents.proofs.HandedLaws.{none_dropped, none_handed}
use Rattle.driven_agents.proofs.KeptLaws.{behind_takes}
use Rattle.driven_agents.proofs.NewLaws.{agreed_deeds, first_deeds, version_call, version_reply}
use Rattle.driven_agents.proofs.RunLaws.{event_runs}
use Rattle.driven_agents.proofs.TakenLaws.{none_left}
use Rattle.driven_agents.proofs.WritesLaws.{write_is}
use Rattle.world_promises.specs.Worlds.{AllRun}
use Rattle.world_promises.proofs.ActLaws.{all_go}
use Rattle.world_promises.proofs.EventCounts.{IsTaken, left_none, request_taken, taken_idle}
use Rattle.world_promises.proofs.LittleLaws.{absence_little, answer_little, attach_little, clunk_little, open_little, read_little, walk_little, write_little}
use Rattle.world_promises.proofs.RunLemmas.{same_name, talk_node}
use Rattle.world_promises.proofs.ShortLaws.{IsLittle, IsShort, is_driven, runs_short, short_so}
use Rattle.world_promises.proofs.TurnFacts.{Driven}

-- ---- a history with so much room

-- all of its events are a network's, and it is no longer than this
pub record IsRoomy (n : ℕ) (h : History) : Type 0 where
  pub driven : list_all is_driven h ≡ true
  pub size : length h ≤ n

roomy : (n m : ℕ) (h : History) → n ≤ m → IsRoomy n h → IsRoomy m h
roomy n m h more r = record { driven = r.driven; size = omega (arith, r.size) }

-- an event adds at most 2048
grown : (n : ℕ) (e : Event) (h : History) → is_driven e ≡ true → IsRoomy n h → n + 2048 < most_events → (Runs (e ∷ h) → IsLittle (deeds (e ∷ h))) → IsShort e h
grown n e h is r room few = short_so e h is r.driven (omega (arith, r.size)) few

then_roomy : (n : ℕ) (e : Event) (h : History) → IsRoomy n h → IsShort e h → IsRoomy (n + 2048) (drive e h)
then_roomy n e h r s = record { driven = s.driven; size = omega (arith, r.size, s.size) }

-- ---- turns

either_roomy : (n : ℕ) (b : Bool) (one other : History) → IsRoomy n one → IsRoomy n other → IsRoomy n (cond b one other)
either_roomy n true one other p q = p
either_roomy n false one other p q = q

-- a turn adds at most 4096
pub turn_roomy : (n : ℕ) (turn : Turn) (h : History) → IsIdle h → IsRoomy n h → n + 4096 < most_events → IsRoomy (n + 4096) (after turn h)
unfolding after
turn_roomy n (tells node line) h idle r room =
    let s = grown n (writes 1 line) h refl r (omega arith) (write_little 1 line h (taken_idle h idle) idle.calm.names) in
    roomy (n + 2048) (n + 4096) (drive (writes 1 line) h) (omega arith) (then_roomy n (writes 1 line) h r s)
turn_roomy n (lets_open fid) h idle r room =
    let walk = walks fid (codes "rpc") in
    let k = taken_idle h idle in
    let s = grown n walk h refl r (omega arith) (walk_little fid (codes "rpc") h k) in
    let on = drive walk h in
    let there = then_roomy n walk h r s in
    let o = grown (n + 2048) (opens fid) on refl there (omega arith) (open_little fid on (request_taken _ _ h k s.runs)) in
    roomy (n + 2048 + 2048) (n + 4096) (drive (opens fid) on) (omega arith) (then_roomy (n + 2048) (opens fid) on there o)
turn_roomy n (asks conv fid what) h idle r room =
    let write = writes fid (request_text what) in
    let k = taken_idle h idle in
    let s = grown n write h refl r (omega arith) (write_little fid (request_text what) h k idle.calm.names) in
    let on = drive write h in
    let written = (write_is fid (request_text what) h idle s.runs).idle in
    let there = then_roomy n write h r s in
    let o = grown (n + 2048) (reads fid (word_of what)) on refl there (omega arith) (read_little fid (word_of what) on (taken_idle on written) written.calm.names) in
    either_roomy (n + 4096) (is_refused (replies_to write h)) on (drive (reads fid (word_of what)) on)
    (roomy (n + 2048) (n + 4096) on (omega arith) there)
    (roomy (n + 2048 + 2048) (n + 4096) (drive (reads fid (word_of what)) on) (omega arith) (then_roomy (n + 2048) (reads fid (word_of what)) on there o))
turn_roomy n (hears conv fid call bytes) h idle r room =
    let event = events.Answer call bytes in
    let s = grown n event h refl r (omega arith) (answer_little call bytes h (taken_idle h idle) idle.calm.names) in
    roomy (n + 2048) (n + 4096) (drive event h) (omega arith) (then_roomy n event h r s)
turn_roomy n (misses conv fid call) h idle r room =
    let s = grown n (NoAnswer call) h refl r (omega arith) (absence_little call h (taken_idle h idle) idle.calm.names) in
    roomy (n + 2048) (n + 4096) (drive (NoAnswer call) h) (omega arith) (then_roomy n (NoAnswer call) h r s)
turn_roomy n (closes conv fid) h idle r room =
    let s = grown n (clunks fid) h refl r (omega arith) (clunk_little fid h (taken_idle h idle) idle.calm.names) in
    roomy (n + 2048) (n + 4096) (drive (clunks fid) h) (omega arith) (then_roomy n (clunks fid) h r s)

-- ---- a new node

-- what is so behind the version
pub record IsFirst (done : List Deed) : Type 0 where
  pub little : IsLittle done
  pub there : was_hung done 0 ≡ false

first_replied : (call : Call) (o : Option RBody) → IsFirst (swept (replied call o first_deeds))
first_replied call None = record { little = record { entered = refl; replies = omega arith; left = omega arith }; there = refl }
first_replied call (Some body) = record { little = record { entered = refl; replies = few (eqb call.conn 0); left = omega arith }; there = refl }
  where
    few : (b : Bool) → length (reverse {A = RMsg} (cond b (record { tag = call.tag; body = body } ∷ []) [])) ≤ 65
    few true = omega arith
    few false = omega arith

agreed_first : Runs (agrees ∷ []) → IsFirst (deeds (agrees ∷ []))
agreed_first runs = subst IsFirst (sym (agreed_deeds runs)) (first_replied version_call version_reply)

new_roomy : IsRoomy 8192 new_node
new_roomy =
    let a = grown 0 agrees [] refl (record { driven = refl; size = omega arith }) (omega arith) (λ runs. (agreed_first runs).little) in
    let one = drive agrees [] in
    let one_is = then_roomy 0 agrees [] (record { driven = refl; size = omega arith }) a in
    let first = agreed_first (event_runs agrees [] a.runs) in
    let there : (was_opened (deeds one) 0 ≡ true) × (was_hung (deeds one) 0 ≡ false) = behind_takes (λ d. (was_opened d 0 ≡ true) × (was_hung d 0 ≡ false)) (record { takes = record { takes = λ d p. p }; asks = record { hands = λ d p. p; drops = λ d p. p } }) agrees [] a.runs first.little.entered (first.little.entered, first.there) in
    let one_taken : IsTaken one = record { entered = there.0; there = there.1; taken = none_left agrees [] first.there a.runs; left = left_none (deeds one) (none_dropped agrees [] a.runs) (none_handed agrees [] a.runs) } in
    let b = grown (0 + 2048) attaches one refl one_is (omega arith) (attach_little one one_taken) in
    let two = drive attaches one in
    let two_is = then_roomy (0 + 2048) attaches one one_is b in
    let two_taken = request_taken _ _ one one_taken b.runs in
    let c = grown (0 + 2048 + 2048) (walks 1 (codes "ctl")) two refl two_is (omega arith) (walk_little 1 (codes "ctl") two two_taken) in
    let three = drive (walks 1 (codes "ctl")) two in
    let three_is = then_roomy (0 + 2048 + 2048) (walks 1 (codes "ctl")) two two_is c in
    let d = grown (0 + 2048 + 2048 + 2048) (opens 1) three refl three_is (omega arith) (open_little 1 three (request_taken _ _ two two_taken c.runs)) in
    roomy (0 + 2048 + 2048 + 2048 + 2048) 8192 new_node (omega arith) (then_roomy (0 + 2048 + 2048 + 2048) (opens 1) three three_is d)

-- ---- acts

-- of so many acts no history is longer than this
abbrev pub AreRoomy : List Act → Type 0
AreRoomy acts = (node : List ℕ) → IsRoomy (8192 * length acts) (history acts node)

done_roomy : (n : ℕ) (b : Bool) (turn : Turn) (h : History) → (b ≡ true → IsIdle h) → IsRoomy n h → n + 4096 < most_events → IsRoomy (n + 4096) (cond b (after turn h) h)
done_roomy n true turn h idle r room = turn_roomy n turn h (idle refl) r room
done_roomy n false turn h idle r room = roomy n (n + 4096) h (omega arith) r

-- what is done is done to the agent of a node
pub record IsAt (before : List Act) (d : Done) : Type 0 where
  pub node : List ℕ
  pub made : is_node before node ≡ true
  pub agent : d.agent ≡ agent_of before node

by_done : (before : List Act) (o : Option Done) (agent : List ℕ) → ((d : Done) → o ≡ Some d → IsAt before d) → ((node : List ℕ) → is_node before node ≡ true → IsIdle (history before (agent_of before node))) → AreRoomy before → 8192 * length before + 4096 < most_events → IsRoomy (8192 * suc (length before)) (history_by o agent (history before agent))
by_done before None agent at idle r room = roomy (8192 * length before) (8192 * suc (length before)) (history before agent) (omega arith) (r agent)
by_done before (Some d) agent at idle r room =
    let h = history before agent in
    let on = at d refl in
    roomy (8192 * length before + 4096) (8192 * suc (length before)) (cond (bytes_eq d.agent agent) (after d.turn h) h) (omega arith)
    (done_roomy (8192 * length before) (bytes_eq d.agent agent) d.turn h (λ same. subst (λ n. IsIdle (history before n)) (sym on.agent ∙ same_name d.agent agent same) (idle on.node on.made)) (r agent) room)

made_talk : (before : List Act) → AreDone before → (conv : List ℕ) (turn : ℕ → Turn) (o : Option Talk) → talk_of before conv ≡ o → (d : Done) → on_talk before o turn ≡ Some d → IsAt before d
made_talk before done conv turn None is d does = absurd cc
made_talk before done conv turn (Some t) is d does = let same : record { agent = agent_of before t.node; turn = turn t.fid } ≡ d = cc in record { node = t.node; made = talk_node before done conv t is; agent = ap (λ (d : Done). d.agent) (sym same) }

made_at : (before : List Act) (node : List ℕ) (turn : Turn) → is_node before node ≡ true → (d : Done) → ◌≡◌ {A = Option Done} (Some (record { agent = agent_of before node; turn = turn })) (Some d) → IsAt before d
made_at before node turn made d does = let same : record { agent = agent_of before node; turn = turn } ≡ d = cc in record { node = node; made = made; agent = ap (λ (d : Done). d.agent) (sym same) }

by_name : (n : ℕ) (b : Bool) (h : History) → 8192 ≤ n → IsRoomy n h → IsRoomy n (cond b new_node h)
by_name n true h room r = roomy 8192 n new_node room new_roomy
by_name n false h room r = r

act_roomy : (before : List Act) (act : Act) → AreDone (act ∷ before) → ((node : List ℕ) → is_node before node ≡ true → IsIdle (history before (agent_of before node))) → AreRoomy before → 8192 * length before + 4096 < most_events → AreRoomy (act ∷ before)
act_roomy before (Made name) done idle r room node = by_name (8192 * suc (length before)) (bytes_eq (agent_of before name) node) (history before node) (omega arith) (roomy (8192 * length before) (8192 * suc (length before)) (history before node) (omega arith) (r node))
act_roomy before (Restarted name) done idle r room node = by_name (8192 * suc (length before)) (bytes_eq (agent_of (Restarted name ∷ before) name) node) (history before node) (omega arith) (roomy (8192 * length before) (8192 * suc (length before)) (history before node) (omega arith) (r node))
act_roomy before Reloaded done idle r room node = roomy (8192 * length before) (8192 * suc (length before)) (history before node) (omega arith) (r node)
act_roomy before (Told at line) done idle r room node = by_done before (done_by before (Told at line)) node (made_at before at (tells at line) done.0.named) idle r room
act_roomy before (Opened at conv) done idle r room node = by_done before (done_by before (Opened at conv)) node (made_at before at (lets_open (fid_for before at)) done.0.named) idle r room
act_roomy before (Started conv word tuple) done idle r room node = by_done before (done_by before (Started conv word tuple)) node (made_talk before done.1 conv (λ fid. asks conv fid (starts word tuple)) (talk_of before conv) refl) idle r room
act_roomy before (Got conv) done idle r room node = by_done before (done_by before (Got conv)) node (made_talk before done.1 conv (λ fid. asks conv fid gets) (talk_of before conv) refl) idle r room
act_roomy before (Given conv bytes) done idle r room node = by_done before (done_by before (Given conv bytes)) node (made_talk before done.1 conv (λ fid. asks conv fid (gives bytes)) (talk_of before conv) refl) idle r room
act_roomy before (Answered conv bytes call) done idle r room node = by_done before (done_by before (Answered conv bytes call)) node (made_talk before done.1 conv (λ fid. hears conv fid call bytes) (talk_of before conv) refl) idle r room
act_roomy before (Unanswered conv call) done idle r room node = by_done before (done_by before (Unanswered conv call)) node (made_talk before done.1 conv (λ fid. misses conv fid call) (talk_of before conv) refl) idle r room
act_roomy before (Closed conv) done idle r room node = by_done before (done_by before (Closed conv)) node (made_talk before done.1 conv (λ fid. closes conv fid) (talk_of before conv) refl) idle r room
act_roomy before (Domain dom) done idle r room node = roomy (8192 * length before) (8192 * suc (length before)) (history before node) (omega arith) (r node)
act_roomy before (KeyLine tuple) done idle r room node = roomy (8192 * length before) (8192 * suc (length before)) (history before node) (omega arith) (r node)
act_roomy before (SpeakLine tuple) done idle r room node = roomy (8192 * length before) (8192 * suc (length before)) (history before node) (omega arith) (r node)
act_roomy before (Asked session request words) done idle r room node = roomy (8192 * length before) (8192 * suc (length before)) (history before node) (omega arith) (r node)

roomy_runs : (acts : List Act) → AreRoomy acts → 8192 * length acts < most_events → AllRun acts
roomy_runs acts r few node = runs_short (history acts node) (r node).driven (omega (arith, (r node).size))

pub all_roomy : Driven → (acts : List Act) → AreDone acts → length acts ≤ 4194305 → AreRoomy acts
all_roomy d [] done few = λ node. record { driven = refl; size = omega arith }
all_roomy d (act ∷ before) done few =
    let r = all_roomy d before done.1 (omega arith) in
    let run = roomy_runs before r (omega arith) in
    act_roomy before act done (all_go d before done.1 run).known.seated.idle r (omega arith)

pub few_run : Driven → (acts : List Act) → AreDone acts → length acts ≤ 4194305 → AllRun acts
few_run d acts done few = roomy_runs acts (all_roomy d acts done few) (omega arith)
