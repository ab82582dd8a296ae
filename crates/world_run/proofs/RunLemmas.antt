-- What carrying out a line does to a run, act by act.
use Rattle.std.proofs.Common.{◌≡◌, ℕ, suc, ◌<◌, ◌≤◌, List, ◌∷◌, length, Bool, true, false, cond, Option, Some, None, Ok, Err, ◌⊎◌, refl, sym, ap, subst, ◌∙◌, inl, inr, arith}
use Rattle.std.specs.Prelude.{is_some, option_map, nat_lt, Result}
use Rattle.std.specs.Global.{Vec}
use Rattle.std.specs.Map.{lookup}
use Rattle.std.specs.Str.{bytes_eq}
use Rattle.std.specs.Cmp.Lexicographic.{bytes_decides}
use Rattle.std.proofs.lemmas.Bool.{cases_Bool, cond-true, cond-false, false≢true, le-leb, lt-leb}
use Rattle.auth_server.specs.Answers.{Posed}
use Rattle.agent_history.specs.Histories.{History}
use Rattle.agent_turns.specs.declared.turns.Turned.{Turned}
use Rattle.wire_histories.specs.declared.step.Step.{Step}
use Rattle.world_scripts.specs.Lines.{ScriptLine}
use Rattle.world_scripts.specs.Reading.{line_of}
use Rattle.world_scripts.specs.Scripts.{Numbered}
use Rattle.world_history.specs.Acts as acts
use Rattle.world_history.specs.Acts.{Act, Talk, Domain, KeyLine, SpeakLine, Made, Told, Opened, Started, Got, Given, Answered, Unanswered, Asked, Closed, agent_of, has_name, is_node, nodes, opened_names, key_lines, speak_lines, talk_of, talks, was_asked, were_used}
use Rattle.world_history.specs.declared.question.Question.{Question}
use Rattle.world_history.specs.Scripts.{judged, most_request, spelled}
use Rattle.world_history.specs.Talking as talk
use Rattle.world_history.specs.Turns.{Turn, after, tells, asks, hears, misses, turn_questions, turn_steps}
use Rattle.world_history.specs.Worlds.{Done, call_by, done_by, done_to, history, history_by, last_call, messages, messages_in, on_talk, outstanding, requests, steps, steps_by, steps_to, was_misasked}
use Rattle.world_run.specs.PlayStanding.{IsOpen, conv_on, or_else}
use Rattle.world_run.proofs.ListLemmas.{none_of}
use Rattle.world_run.proofs.TalkLemmas.{SameNames, free_stays, closed_stays, open_stays, last_or, done_on_open}
use Rattle.world_run.specs.declared.named_talks.Talk.{Talk as Kept}
use Rattle.world_run.specs.declared.live.Client.{Client}
use Rattle.world_run.specs.Sessions.{ClientIs}
use Rattle.world_run.specs.Names.{changed_under, still_open, with_call}
use Rattle.world_run.specs.declared.node.Node.{Node}
use Rattle.world_run.specs.declared.nodes.Nodes.{Nodes}
use Rattle.world_run.specs.Nodes.{NodeIs, NodesAre, TurnsTo, View, done_on, node_at}
use Rattle.world_run.specs.Nodes as n
use Rattle.world_history.specs.Telling.{reads_again}
use Rattle.world_history.proofs.AgentLemmas.{agents_apart}
use Rattle.world_history.proofs.TellLemmas.{tells_on}
use Rattle.world_scripts.specs.Pieces.{Piece}
use Rattle.auth_program.specs.declared.cause.ScriptCause.{ScriptCause}
use Rattle.auth_program.specs.declared.cause.ScriptCause.TheVariants.{NoSuchMessage, UnknownConv}
use Rattle.world_run.specs.declared.found.Found.{Found}
use Rattle.world_run.specs.declared.stops.Stop.{Stop}
use Rattle.world_run.specs.declared.stops.Stop.TheVariants as stop
use Rattle.world_run.specs.Looking.{FindsSo, SpellsSo, TakesSo, looked_up}
use Rattle.world_run.specs.declared.run.Run.{Run}
use Rattle.world_run.specs.Standing.{Asked as AskedSo, Carries, Comes, IsDone, act_for, Stands, TalkIs, TalksAre, nodes_by}

none_some : {X : Type 0} {x : X} → None ≡ Some x → ⊥
none_some e = cc

some_same : {X : Type 0} {x y : X} → Some x ≡ Some y → x ≡ y
some_same e = cc

-- ---- runs

-- the same run, with other nodes and conversations
abbrev pub with_both : Run → Nodes → List (List ℕ × Option Kept) → Run
with_both r nodes talks = record {
  alloc = r.alloc;
  nodes = nodes;
  talks = talks;
  clients = r.clients;
  tables = r.tables;
  recorded = r.recorded;
  made = r.made;
  keys = r.keys;
  speaks = r.speaks;
  asked = r.asked;
  used = r.used;
}

-- ---- conversations

talk_stays : (old new : List Act) (conv : List ℕ) (o : Option (Option Kept)) → SameNames old new → outstanding new conv ≡ outstanding old conv → TalkIs old conv o → TalkIs new conv o
talk_stays old new conv None same its h = free_stays old new conv same its h
talk_stays old new conv (Some None) same its h = closed_stays old new conv same h
talk_stays old new conv (Some (Some t)) same its h = open_stays old new conv t.node t.fid t.call t.call same (its ∙ h.asks) h

pub talks_stay : (old new : List Act) (table : List (List ℕ × Option Kept)) → SameNames old new → ((conv : List ℕ) → outstanding new conv ≡ outstanding old conv) → TalksAre old table → TalksAre new table
talks_stay old new table same its h = λ conv. talk_stays old new conv (lookup (bytes_eq conv) table) same (its conv) (h conv)

-- the one of a name that is open has another question outstanding, or none
talk_asked : (old new : List Act) (conv : List ℕ) (call : Option ℕ) (o : Option (Option Kept)) → SameNames old new → has_name conv (opened_names old) ≡ true → outstanding new conv ≡ call → TalkIs old conv o → TalkIs new conv (option_map (option_map (with_call call)) o)
talk_asked old new conv call None same taken its h = absurd (false≢true (sym h.free ∙ taken))
talk_asked old new conv call (Some None) same taken its h = closed_stays old new conv same h
talk_asked old new conv call (Some (Some t)) same taken its h = open_stays old new conv t.node t.fid t.call call same its h

pub talks_asked : (old new : List Act) (conv : List ℕ) (call : Option ℕ) (table after : List (List ℕ × Option Kept)) → SameNames old new → has_name conv (opened_names old) ≡ true
    → ((name : List ℕ) → outstanding new name ≡ cond (bytes_eq conv name) call (outstanding old name))
    → ((name : List ℕ) → lookup (bytes_eq name) after ≡ changed_under conv (option_map (with_call call)) table name)
    → TalksAre old table → TalksAre new after
talks_asked old new conv call table after same taken its changed h = λ name. elim (cases_Bool (bytes_eq conv name)) [
  | inl is ↦
      let its_name = (bytes_decides conv name).0 is in
      subst (λ (o : Option (Option Kept)). TalkIs new name o) (sym (changed name ∙ cond-true _ _ _ is))
      (talk_asked old new name call (lookup (bytes_eq name) table) same (subst (λ (x : List ℕ). has_name x (opened_names old) ≡ true) its_name taken) (its name ∙ cond-true _ _ _ is) (h name))
  | inr is ↦
      subst (λ (o : Option (Option Kept)). TalkIs new name o) (sym (changed name ∙ cond-false _ _ _ is))
      (talk_stays old new name (lookup (bytes_eq name) table) same (its name ∙ cond-false _ _ _ is) (h name))
]

-- what a look-up finds is open, and what it doesn't isn't
pub found_open : (before : List Act) (conv : List ℕ) (t : Kept) (o : Option (Option Kept)) → still_open o ≡ Some t → TalkIs before conv o → IsOpen before conv t.node t.fid t.call
found_open before conv t None found h = absurd (none_some found)
found_open before conv t (Some None) found h = absurd (none_some found)
found_open before conv t (Some (Some u)) found h = subst (λ (x : Kept). IsOpen before conv x.node x.fid x.call) (some_same found) h

pub not_open : (before : List Act) (conv : List ℕ) (o : Option (Option Kept)) → still_open o ≡ None → TalkIs before conv o → is_some (talk_of before conv) ≡ false
not_open before conv None found h = ap is_some (none_of conv (talks before) h.others)
not_open before conv (Some None) found h = ap is_some (none_of conv (talks before) h.others)
not_open before conv (Some (Some u)) found h = absurd (none_some (sym found))

-- ---- acts by which something is done to one agent, and nothing else

pub record Plain (before : List Act) (act : Act) : Type 0 where
  pub same : SameNames before (act ∷ before)
  pub nodes_are : nodes (act ∷ before) ≡ nodes before
  pub history_is : (name : List ℕ) → history (act ∷ before) name ≡ history_by (done_by before act) name (history before name)
  pub asks_are : (name : List ℕ) → outstanding (act ∷ before) name ≡ call_by before name (done_by before act) (outstanding before name)
  pub steps_are : (number : ℕ) → steps_by number before act ≡ steps_to number before (done_by before act)
  pub requests_are : (name : List ℕ) → requests (act ∷ before) name ≡ requests before name
  pub misasked_is : (name : List ℕ) → was_misasked (act ∷ before) name ≡ was_misasked before name
  pub keys_are : key_lines (act ∷ before) ≡ key_lines before
  pub speaks_are : speak_lines (act ∷ before) ≡ speak_lines before
  pub asked_is : was_asked (act ∷ before) ≡ was_asked before
  pub used_is : were_used (act ∷ before) ≡ were_used before
  pub agents_are : (name : List ℕ) → agent_of (act ∷ before) name ≡ agent_of before name
  pub kept : reads_again act ≡ false

pub told_plain : (before : List Act) (node text : List ℕ) → Plain before (Told node text)
told_plain before node text = record { same = record { names = refl; talks = refl; nodes = λ _ is. is }; nodes_are = refl; history_is = λ _. refl; asks_are = λ _. refl; steps_are = λ _. refl; requests_are = λ _. refl; misasked_is = λ _. refl; keys_are = refl; speaks_are = refl; asked_is = refl; used_is = refl; agents_are = λ _. refl; kept = refl }

pub started_plain : (before : List Act) (conv word tuple : List ℕ) → Plain before (Started conv word tuple)
started_plain before conv word tuple = record { same = record { names = refl; talks = refl; nodes = λ _ is. is }; nodes_are = refl; history_is = λ _. refl; asks_are = λ _. refl; steps_are = λ _. refl; requests_are = λ _. refl; misasked_is = λ _. refl; keys_are = refl; speaks_are = refl; asked_is = refl; used_is = refl; agents_are = λ _. refl; kept = refl }

pub got_plain : (before : List Act) (conv : List ℕ) → Plain before (Got conv)
got_plain before conv = record { same = record { names = refl; talks = refl; nodes = λ _ is. is }; nodes_are = refl; history_is = λ _. refl; asks_are = λ _. refl; steps_are = λ _. refl; requests_are = λ _. refl; misasked_is = λ _. refl; keys_are = refl; speaks_are = refl; asked_is = refl; used_is = refl; agents_are = λ _. refl; kept = refl }

pub given_plain : (before : List Act) (conv bytes : List ℕ) → Plain before (Given conv bytes)
given_plain before conv bytes = record { same = record { names = refl; talks = refl; nodes = λ _ is. is }; nodes_are = refl; history_is = λ _. refl; asks_are = λ _. refl; steps_are = λ _. refl; requests_are = λ _. refl; misasked_is = λ _. refl; keys_are = refl; speaks_are = refl; asked_is = refl; used_is = refl; agents_are = λ _. refl; kept = refl }

pub answered_plain : (before : List Act) (conv bytes : List ℕ) (call : ℕ) → Plain before (Answered conv bytes call)
answered_plain before conv bytes call = record { same = record { names = refl; talks = refl; nodes = λ _ is. is }; nodes_are = refl; history_is = λ _. refl; asks_are = λ _. refl; steps_are = λ _. refl; requests_are = λ _. refl; misasked_is = λ _. refl; keys_are = refl; speaks_are = refl; asked_is = refl; used_is = refl; agents_are = λ _. refl; kept = refl }

pub unanswered_plain : (before : List Act) (conv : List ℕ) (call : ℕ) → Plain before (Unanswered conv call)
unanswered_plain before conv call = record { same = record { names = refl; talks = refl; nodes = λ _ is. is }; nodes_are = refl; history_is = λ _. refl; asks_are = λ _. refl; steps_are = λ _. refl; requests_are = λ _. refl; misasked_is = λ _. refl; keys_are = refl; speaks_are = refl; asked_is = refl; used_is = refl; agents_are = λ _. refl; kept = refl }

-- a turn of the agent of a node is one of those of its name
pub turned_by : (before : List Act) (node : List ℕ) (turn : Turn) (name : List ℕ) (h : History) → history_by (done_to before node turn) (agent_of before name) h ≡ n.done_by_name node turn name h
turned_by before node turn name h = ap (λ (b : Bool). cond b (after turn h) h) (agents_apart before node name)

-- what is known of a name, in other words
pub node_moves : (is now : Bool) (h k : History) (held holds : List (List ℕ × ℕ)) (o : Option Node) → now ≡ is → k ≡ h → holds ≡ held → NodeIs is h held o → NodeIs now k holds o
node_moves is now h k held holds o same_is same_h same_held it =
    subst (λ (b : Bool). NodeIs b k holds o) (sym same_is) (subst (λ (x : History). NodeIs is x holds o) (sym same_h) (subst (λ (x : List (List ℕ × ℕ)). NodeIs is h x o) (sym same_held) it))

pub client_moves : (rs qs : List Posed) (misasked now : Bool) (o : Option Client) → qs ≡ rs → now ≡ misasked → ClientIs rs misasked o → ClientIs qs now o
client_moves rs qs misasked now o same_rs same it =
    subst (λ (x : List Posed). ClientIs x now o) (sym same_rs) (subst (λ (b : Bool). ClientIs rs b o) (sym same) it)

-- the agent of a node, behind what was done to that of a node
agent_moved : (before : List Act) (act : Act) (node : List ℕ) (turn : Turn) (name : List ℕ) → agent_of (act ∷ before) name ≡ agent_of before name
    → history (act ∷ before) (agent_of before name) ≡ history_by (done_by before act) (agent_of before name) (history before (agent_of before name)) → done_by before act ≡ done_to before node turn
    → history (act ∷ before) (agent_of (act ∷ before) name) ≡ n.done_by_name node turn name (history before (agent_of before name))
agent_moved before act node turn name same moves done =
    ap (history (act ∷ before)) same
    ∙ (moves
    ∙ (ap (λ (d : Option Done). history_by d (agent_of before name) (history before (agent_of before name))) done
    ∙ turned_by before node turn name (history before (agent_of before name))))

pub plain_done : (line : Numbered) (left : List Numbered) (before : List Act) (act : Act) (node : List ℕ) (turn : Turn) (old : Run) (turned : Turned) (nodes : Nodes) (talks : List (List ℕ × Option Kept))
    → Plain before act → judged before (line_of line.text) ≡ Ok act → done_by before act ≡ done_to before node turn → Stands (line ∷ left) before old
    → TurnsTo (length (messages_in old.recorded)) node turn (nodes_by before) turned nodes → TalksAre (act ∷ before) talks
    → IsDone left before (line_of line.text) turned.steps.items (with_both old nodes talks)
plain_done line left before act node turn old turned nodes talks p is done h t k = record {
  act = act;
  fits = is;
  made = t.steps ∙ (ap (λ (recorded : List Step). turn_steps (length (messages_in recorded)) turn (history before (agent_of before node))) h.recorded
      ∙ sym (p.steps_are (length (messages before)) ∙ ap (steps_to (length (messages before)) before) done));
  stands = record {
    nodes = λ name. node_moves (is_node before name) (is_node (act ∷ before) name) _ (history (act ∷ before) (agent_of (act ∷ before) name)) (conv_on name (acts.talks before)) (conv_on name (acts.talks (act ∷ before))) (node_at nodes name)
        (ap (has_name name) p.nodes_are)
        (agent_moved before act node turn name (p.agents_are name) (p.history_is (agent_of before name)) done)
        (ap (conv_on name) p.same.talks)
        (t.nodes name);
    talks = k;
    clients = λ name. client_moves (requests before name) (requests (act ∷ before) name) (was_misasked before name) (was_misasked (act ∷ before) name) (lookup (bytes_eq name) old.clients) (p.requests_are name) (p.misasked_is name) (h.clients name);
    tables = tells_on line left before act old.tables h.tables p.kept is;
    recorded = h.recorded;
    made = h.made ∙ ap length (sym p.nodes_are);
    keys = h.keys ∙ ap length (sym p.keys_are);
    speaks = h.speaks ∙ ap length (sym p.speaks_are);
    asked = h.asked ∙ sym p.asked_is;
    used = h.used ∙ sym p.used_is;
  };
}

-- ---- a line of ctl

pub told_done : (line : Numbered) (left : List Numbered) (before : List Act) (node text : List ℕ) (old : Run) (turned : Turned) (nodes : Nodes)
    → judged before (line_of line.text) ≡ Ok (Told node text) → Stands (line ∷ left) before old
    → TurnsTo (length (messages_in old.recorded)) node (tells node text) (nodes_by before) turned nodes
    → IsDone left before (line_of line.text) turned.steps.items (with_both old nodes old.talks)
told_done line left before node text old turned nodes is h t =
    plain_done line left before (Told node text) node (tells node text) old turned nodes old.talks (told_plain before node text) is refl h t
    (talks_stay before (Told node text ∷ before) old.talks (told_plain before node text).same (λ _. refl) h.talks)

-- ---- a request to a conversation, and an answer to its question

-- what a turn on a conversation leaves outstanding, by the name
abbrev Leaves : List Act → Act → List ℕ → Option ℕ → Type 0
Leaves before act conv call = (name : List ℕ) → outstanding (act ∷ before) name ≡ cond (bytes_eq conv name) call (outstanding before name)

pub conv_done : (line : Numbered) (left : List Numbered) (before : List Act) (act : Act) (conv node : List ℕ) (fid : ℕ) (asked call : Option ℕ) (turn : Turn) (old : Run) (turned : Turned) (nodes : Nodes) (talks : List (List ℕ × Option Kept))
    → Plain before act → judged before (line_of line.text) ≡ Ok act → done_by before act ≡ done_to before node turn → IsOpen before conv node fid asked → Stands (line ∷ left) before old
    → TurnsTo (length (messages_in old.recorded)) node turn (nodes_by before) turned nodes → Leaves before act conv call
    → ((name : List ℕ) → lookup (bytes_eq name) talks ≡ changed_under conv (option_map (with_call call)) old.talks name)
    → IsDone left before (line_of line.text) turned.steps.items (with_both old nodes talks)
conv_done line left before act conv node fid asked call turn old turned nodes talks p is done o h t leaves changed =
    plain_done line left before act node turn old turned nodes talks p is done h t
    (talks_asked before (act ∷ before) conv call old.talks talks p.same o.taken leaves changed h.talks)

-- a request may raise a question, which then is the one outstanding
pub asked_leaves : (before : List Act) (act : Act) (conv node : List ℕ) (fid : ℕ) (asked : Option ℕ) (what : talk.Asks) (turned : Turned)
    → Plain before act → done_by before act ≡ done_to before node (asks conv fid what) → IsOpen before conv node fid asked
    → turned.call ≡ last_call (turn_questions (asks conv fid what) (history before (agent_of before node))) None
    → Leaves before act conv (or_else turned.call asked)
asked_leaves before act conv node fid asked what turned p done o called = λ name.
    p.asks_are name ∙ (ap (λ (d : Option Done). call_by before name d (outstanding before name)) done ∙ by_name name (cases_Bool (bytes_eq conv name))) where
      raised : List Question
      raised = turn_questions (asks conv fid what) (history before (agent_of before node))

      by_name : (name : List ℕ) → (bytes_eq conv name ≡ true) ⊎ (bytes_eq conv name ≡ false) → call_by before name (done_to before node (asks conv fid what)) (outstanding before name) ≡ cond (bytes_eq conv name) (or_else turned.call asked) (outstanding before name)
      by_name name (inl is) = cond-true _ _ _ is ∙ (ap (last_call raised) (subst (λ (x : List ℕ). outstanding before x ≡ asked) ((bytes_decides conv name).0 is) o.asks)
          ∙ (last_or raised asked ∙ (ap (λ (c : Option ℕ). or_else c asked) (sym called) ∙ sym (cond-true _ _ _ is))))
      by_name name (inr is) = cond-false _ _ _ is ∙ sym (cond-false _ _ _ is)

-- an answer, and that there is none, end the one that was
pub heard_leaves : (before : List Act) (act : Act) (conv node : List ℕ) (fid call : ℕ) (bytes : List ℕ) (asked : Option ℕ) (turned : Turned)
    → Plain before act → done_by before act ≡ done_to before node (hears conv fid call bytes) → IsOpen before conv node fid asked
    → turned.call ≡ last_call (turn_questions (hears conv fid call bytes) (history before (agent_of before node))) None
    → Leaves before act conv turned.call
heard_leaves before act conv node fid call bytes asked turned p done o called = λ name.
    p.asks_are name ∙ (ap (λ (d : Option Done). call_by before name d (outstanding before name)) done ∙ ap (λ (c : Option ℕ). cond (bytes_eq conv name) c (outstanding before name)) (sym called))

pub missed_leaves : (before : List Act) (act : Act) (conv node : List ℕ) (fid call : ℕ) (asked : Option ℕ) (turned : Turned)
    → Plain before act → done_by before act ≡ done_to before node (misses conv fid call) → IsOpen before conv node fid asked
    → turned.call ≡ last_call (turn_questions (misses conv fid call) (history before (agent_of before node))) None
    → Leaves before act conv turned.call
missed_leaves before act conv node fid call asked turned p done o called = λ name.
    p.asks_are name ∙ (ap (λ (d : Option Done). call_by before name d (outstanding before name)) done ∙ ap (λ (c : Option ℕ). cond (bytes_eq conv name) c (outstanding before name)) (sym called))

-- ---- what is looked up in vain

-- a node that was made is never refused
pub take_stops : (node : List ℕ) (turn : Turn) (old : Nodes) (recorded : List Step) (e : Stop) (new : Nodes) (v : View) (left : List Numbered) (before : List Act) (line : Option ScriptLine) (run : Run)
    → TakesSo node turn old recorded (Err e) new → NodesAre v old → v.is node ≡ true → Comes left before line (Err e) run
take_stops node turn old recorded (stop.Refused cause) new v left before line run takes h is = absurd (takes v h is)
take_stops node turn old recorded stop.NoMemory new v left before line run takes h is = tt

-- a conversation that isn't open
pub find_stops : (conv : List ℕ) (talks : List (List ℕ × Option Kept)) (e : Stop) (left : List Numbered) (before : List Act) (line : Option ScriptLine) (run : Run)
    → FindsSo talks conv (Err e) → TalksAre before talks → (is_some (talk_of before conv) ≡ false → judged before line ≡ Err UnknownConv) → Comes left before line (Err e) run
find_stops conv talks (stop.Refused cause) left before line run finds h judges =
    subst (λ (c : ScriptCause). judged before line ≡ Err c) (sym finds.0) (judges (not_open before conv (lookup (bytes_eq conv) talks) finds.1 (h conv)))
find_stops conv talks stop.NoMemory left before line run finds h judges = tt

-- a message that isn't recorded
pub spell_stops : (recorded : List Step) (pieces : List Piece) (e : Stop) (left : List Numbered) (before : List Act) (line : Option ScriptLine) (run : Run)
    → SpellsSo recorded pieces (Err e) → recorded ≡ steps before → (spelled (messages before) pieces ≡ None → judged before line ≡ Err NoSuchMessage) → Comes left before line (Err e) run
spell_stops recorded pieces (stop.Refused cause) left before line run spells is judges =
    subst (λ (c : ScriptCause). judged before line ≡ Err c) (sym spells.0) (judges (ap (λ (r : List Step). spelled (messages_in r) pieces) (sym is) ∙ spells.1))
spell_stops recorded pieces stop.NoMemory left before line run spells is judges = tt

-- what a look-up finds
pub find_gives : (conv : List ℕ) (talks : List (List ℕ × Option Kept)) (found : Found) (before : List Act) → FindsSo talks conv (Ok found) → TalksAre before talks → IsOpen before conv found.node found.fid found.call
find_gives conv talks found before finds h = found_open before conv (looked_up found) (lookup (bytes_eq conv) talks) finds (h conv)

pub open_found : (before : List Act) (conv node : List ℕ) (fid : ℕ) (call : Option ℕ) → IsOpen before conv node fid call → is_some (talk_of before conv) ≡ true
open_found before conv node fid call o = ap is_some o.found

-- a line, as it was read
pub line_judged : (before : List Act) (text : Option ScriptLine) (line : ScriptLine) (act : Act) → text ≡ Some line → judged before (Some line) ≡ Ok act → judged before text ≡ Ok act
line_judged before text line act is fits = ap (judged before) is ∙ fits

pub done_as : (left : List Numbered) (before : List Act) (text line : Option ScriptLine) (made : List Step) (run : Run) → text ≡ line → IsDone left before text made run → IsDone left before line made run
done_as left before text line made run is d = subst (λ (l : Option ScriptLine). IsDone left before l made run) is d

-- ---- asking

-- the act that asking is
pub asked_plain : (before : List Act) (conv : List ℕ) (what : talk.Asks) → Plain before (act_for conv what)
asked_plain before conv (talk.starts word tuple) = started_plain before conv word tuple
asked_plain before conv talk.gets = got_plain before conv
asked_plain before conv (talk.gives bytes) = given_plain before conv bytes

asked_on : (before : List Act) (conv : List ℕ) (what : talk.Asks) → done_by before (act_for conv what) ≡ on_talk before (talk_of before conv) (λ fid. asks conv fid what)
asked_on before conv (talk.starts word tuple) = refl
asked_on before conv talk.gets = refl
asked_on before conv (talk.gives bytes) = refl

pub asked_done : (line : Numbered) (left : List Numbered) (before : List Act) (conv node : List ℕ) (fid : ℕ) (asked : Option ℕ) (what : talk.Asks) (old : Run) (turned : Turned) (nodes : Nodes) (talks : List (List ℕ × Option Kept))
    → judged before (line_of line.text) ≡ Ok (act_for conv what) → IsOpen before conv node fid asked → Stands (line ∷ left) before old
    → TurnsTo (length (messages_in old.recorded)) node (asks conv fid what) (nodes_by before) turned nodes
    → ((name : List ℕ) → lookup (bytes_eq name) talks ≡ changed_under conv (option_map (with_call (or_else turned.call asked))) old.talks name)
    → IsDone left before (line_of line.text) turned.steps.items (with_both old nodes talks)
asked_done line left before conv node fid asked what old turned nodes talks by o h t changed =
    let done = asked_on before conv what ∙ done_on_open before conv node fid asked (λ f. asks conv f what) o in
    conv_done line left before (act_for conv what) conv node fid asked (or_else turned.call asked) (asks conv fid what) old turned nodes talks
    (asked_plain before conv what) by done o h t
    (asked_leaves before (act_for conv what) conv node fid asked what turned (asked_plain before conv what) done o t.call) changed

-- ---- answers

pub answer_done : (line : Numbered) (left : List Numbered) (before : List Act) (conv node bytes : List ℕ) (fid call : ℕ) (asked : Option ℕ) (old : Run) (turned : Turned) (nodes : Nodes) (talks : List (List ℕ × Option Kept))
    → judged before (line_of line.text) ≡ Ok (Answered conv bytes call) → IsOpen before conv node fid asked → Stands (line ∷ left) before old
    → TurnsTo (length (messages_in old.recorded)) node (hears conv fid call bytes) (nodes_by before) turned nodes
    → ((name : List ℕ) → lookup (bytes_eq name) talks ≡ changed_under conv (option_map (with_call turned.call)) old.talks name)
    → IsDone left before (line_of line.text) turned.steps.items (with_both old nodes talks)
answer_done line left before conv node bytes fid call asked old turned nodes talks is o h t changed =
    let done = done_on_open before conv node fid asked (λ f. hears conv f call bytes) o in
    conv_done line left before (Answered conv bytes call) conv node fid asked turned.call (hears conv fid call bytes) old turned nodes talks
    (answered_plain before conv bytes call) is done o h t
    (heard_leaves before (Answered conv bytes call) conv node fid call bytes asked turned (answered_plain before conv bytes call) done o t.call) changed

pub miss_done : (line : Numbered) (left : List Numbered) (before : List Act) (conv node : List ℕ) (fid call : ℕ) (asked : Option ℕ) (old : Run) (turned : Turned) (nodes : Nodes) (talks : List (List ℕ × Option Kept))
    → judged before (line_of line.text) ≡ Ok (Unanswered conv call) → IsOpen before conv node fid asked → Stands (line ∷ left) before old
    → TurnsTo (length (messages_in old.recorded)) node (misses conv fid call) (nodes_by before) turned nodes
    → ((name : List ℕ) → lookup (bytes_eq name) talks ≡ changed_under conv (option_map (with_call turned.call)) old.talks name)
    → IsDone left before (line_of line.text) turned.steps.items (with_both old nodes talks)
miss_done line left before conv node fid call asked old turned nodes talks is o h t changed =
    let done = done_on_open before conv node fid asked (λ f. misses conv f call) o in
    conv_done line left before (Unanswered conv call) conv node fid asked turned.call (misses conv fid call) old turned nodes talks
    (unanswered_plain before conv call) is done o h t
    (missed_leaves before (Unanswered conv call) conv node fid call asked turned (unanswered_plain before conv call) done o t.call) changed

-- a line that asks, whatever text it is read off
pub asked_line : (conv : List ℕ) (what : talk.Asks) (line : ScriptLine) (old : Run) (result : Result (Vec Step) Stop) (new : Run)
    → ((before : List Act) → is_some (talk_of before conv) ≡ true → judged before (Some line) ≡ Ok (act_for conv what))
    → ((before : List Act) → is_some (talk_of before conv) ≡ false → judged before (Some line) ≡ Err UnknownConv)
    → AskedSo conv what old result new → Carries line old result new
asked_line conv what line old result new opened closed asked = λ left at before is h.
    subst (λ (o : Option ScriptLine). Comes left before o result new) is
    (asked at left before (record { opened = λ some. ap (judged before) is ∙ opened before some; closed = λ none. ap (judged before) is ∙ closed before none }) h)

-- bytes that were spelled, from what is recorded
pub spelled_now : (recorded : List Step) (pieces : List Piece) (o : Option (List ℕ)) (before : List Act) → recorded ≡ steps before → spelled (messages_in recorded) pieces ≡ o → spelled (messages before) pieces ≡ o
spelled_now recorded pieces o before is gives = ap (λ (r : List Step). spelled (messages_in r) pieces) (sym is) ∙ gives

-- how long they may be
pub given_short : (bytes : List ℕ) → length bytes ≤ 4090 → nat_lt most_request (length (talk.request_text (talk.gives bytes))) ≡ false
given_short bytes short = lt-leb 4097 (suc (suc (suc (suc (suc (suc (length bytes))))))) (omega (arith, short))

pub given_long : (bytes : List ℕ) → 4090 < length bytes → nat_lt most_request (length (talk.request_text (talk.gives bytes))) ≡ true
given_long bytes long = le-leb 4097 (suc (suc (suc (suc (suc (suc (length bytes))))))) (omega (arith, long))

pub answer_short : (n : ℕ) → n ≤ 160 → nat_lt 160 n ≡ false
answer_short n short = lt-leb 161 n (omega (arith, short))

pub answer_long : (n : ℕ) → 160 < n → nat_lt 160 n ≡ true
answer_long n long = le-leb 161 n (omega (arith, long))
