-- What carrying out a line does to a run where nodes are made, conversations are opened or closed, or the authentication server
-- is told of or asked.
use Rattle.std.proofs.Common.{◌≡◌, ℕ, ◌+◌, ◌<◌, ◌≤◌, List, [], ◌∷◌, ◌++◌, length, Bool, true, false, cond, ◌||◌, Option, Some, None, Ok, Err, refl, sym, ap, subst, ◌∙◌, inl, inr, arith, length-append}
use Rattle.std.specs.Prelude.{is_some, nat_le, option_map}
use Rattle.std.specs.Map.{lookup}
use Rattle.std.specs.Str.{bytes_eq}
use Rattle.std.specs.Cmp.Lexicographic.{bytes_decides}
use Rattle.std.proofs.lemmas.Bool.{cases_Bool, cond-true, cond-false, false≢true, le-leb, lt-leb}
use Rattle.auth_server.specs.Answers.{Knowledge, Posed, answer_in, is_over_in, posed}
use Rattle.auth_server.specs.Requests.{asked_so, is_served, kind_of}
use Rattle.auth_server.specs.Standing.{knowledge}
use Rattle.agent_turns.specs.declared.turns.Turned.{Turned}
use Rattle.wire_histories.specs.declared.step.Step.{Step}
use Rattle.wire_histories.specs.declared.step.Step.TheVariants as s
use Rattle.world_scripts.specs.Reading.{line_of}
use Rattle.world_scripts.specs.Scripts.{Numbered}
use Rattle.world_history.specs.Acts as acts
use Rattle.world_history.specs.Acts.{Act, Domain, KeyLine, SpeakLine, Reloaded, Made, Restarted, Opened, Asked, Closed, agent_of, has_name, is_node, key_lines, nodes, opened_names, speak_lines, talk_of, was_asked}
use Rattle.world_scripts.specs.Lines as l
use Rattle.world_scripts.specs.Pieces.{Piece}
use Rattle.auth_program.specs.declared.cause.ScriptCause.TheVariants.{NoSuchMessage}
use Rattle.world_history.specs.Scripts.{fitting, is_unfit, judged, spelled}
use Rattle.world_history.specs.Turns.{closes, lets_open, turn_steps}
use Rattle.world_history.specs.Worlds.{Done, fid_for, history, history_by, known, messages, messages_in, put_to, requests, session_steps, steps_by, steps_to, was_misasked}
use Rattle.world_run.specs.PlayStanding.{IsClosed, IsFree, IsOpen, conv_on}
use Rattle.world_run.proofs.ListLemmas.{alone_off, fids_named, found_off, left_on, none_off, off_on, one_more, others_off}
use Rattle.world_run.proofs.TalkLemmas.{SameNames, now_open, free_beside, closed_beside, open_beside, now_closed, free_left, closed_left, open_left, done_on_open}
use Rattle.world_run.proofs.LineLemmas.{fits}
use Rattle.world_run.specs.declared.clients.Served.{Served}
use Rattle.world_run.specs.declared.clients.Served.TheVariants as served
use Rattle.world_run.specs.declared.live.Client.{Client}
use Rattle.world_run.specs.declared.named_talks.Talk.{Talk as Kept}
use Rattle.world_run.specs.Names.{changed_under, left_behind, put_under}
use Rattle.world_run.specs.Sessions.{ClientsAre, ServesSo}
use Rattle.world_run.specs.Sessions as sessions
use Rattle.world_run.specs.declared.nodes.Nodes.{Nodes}
use Rattle.world_run.specs.Nodes.{NodeIs, NodesAre, TurnsTo, View, done_on, next_fid, node_at}
use Rattle.world_run.specs.Nodes as n
use Rattle.world_history.specs.Driving.{new_node}
use Rattle.world_history.specs.Servers.{IsToldAgain}
use Rattle.world_history.specs.declared.tables.Tables.{Tables}
use Rattle.world_history.proofs.AgentLemmas.{agents_apart}
use Rattle.world_history.proofs.TellLemmas.{tells_again, tells_on}
use Rattle.world_run.specs.declared.run.Run.{Run}
use Rattle.world_run.specs.Serving.{served_steps}
use Rattle.world_run.specs.Standing.{IsDone, Stands, TalkIs, TalksAre, nodes_by, sessions_by}
use Rattle.world_run.proofs.RunLemmas.{client_moves, node_moves, talks_stay, turned_by, with_both}

or_true : (b c : Bool) → c ≡ true → b || c ≡ true
or_true true c is = refl
or_true false c is = is

pub or_known : (b c : Bool) → b ≡ true → b || c ≡ true
or_known true c is = refl
or_known false c is = absurd (false≢true is)

pub or_neither : (b c d : Bool) → b ≡ false → c ≡ d → b || c ≡ d
or_neither true c d is same = absurd (false≢true (sym is))
or_neither false c d is same = same

-- how many nodes there are
pub many_known : (k n : ℕ) → k ≡ n → 64 ≤ k → nat_le 64 n ≡ true
many_known k n same many = le-leb 64 n (subst (λ (m : ℕ). 64 ≤ m) same many)

pub few_known : (k n : ℕ) → k ≡ n → k < 64 → nat_le 64 n ≡ false
few_known k n same few = lt-leb 64 n (subst (λ (m : ℕ). m < 64) same few)

-- ---- a node is made

abbrev pub with_node : Run → Nodes → Run
with_node r nodes = record {
  alloc = r.alloc;
  nodes = nodes;
  talks = r.talks;
  clients = r.clients;
  tables = r.tables;
  recorded = r.recorded;
  made = r.made + 1;
  keys = r.keys;
  speaks = r.speaks;
  asked = r.asked;
  used = r.used;
}

same_made : (before : List Act) (node : List ℕ) → SameNames before (Made node ∷ before)
same_made before node = record { names = refl; talks = refl; nodes = λ name is. or_true (bytes_eq node name) (has_name name (nodes before)) is }

or_cond : (b c : Bool) → b || c ≡ cond b true c
or_cond true c = refl
or_cond false c = refl

pub made_done : (line : Numbered) (left : List Numbered) (before : List Act) (node : List ℕ) (old : Run) (table : Nodes)
    → judged before (line_of line.text) ≡ Ok (Made node) → Stands (line ∷ left) before old → NodesAre (n.made node (nodes_by before)) table
    → IsDone left before (line_of line.text) [] (with_node old table)
made_done line left before node old table is h t = record {
  act = Made node;
  fits = is;
  made = refl;
  stands = record {
    nodes = λ name. node_moves _ (is_node (Made node ∷ before) name) _ (history (Made node ∷ before) (agent_of before name)) _ (conv_on name (acts.talks before)) (node_at table name) (or_cond (bytes_eq node name) (is_node before name)) (ap (λ (b : Bool). cond b new_node (history before (agent_of before name))) (agents_apart before node name)) refl (t name);
    talks = talks_stay before (Made node ∷ before) old.talks (same_made before node) (λ _. refl) h.talks;
    clients = h.clients;
    tables = tells_on line left before (Made node) old.tables h.tables refl is;
    recorded = h.recorded;
    made = ap (λ (k : ℕ). k + 1) h.made ∙ omega arith;
    keys = h.keys;
    speaks = h.speaks;
    asked = h.asked;
    used = h.used;
  };
}

-- ---- the server is told of

abbrev pub with_counts : Run → ℕ → ℕ → Run
with_counts r keys speaks = record {
  alloc = r.alloc;
  nodes = r.nodes;
  talks = r.talks;
  clients = r.clients;
  tables = r.tables;
  recorded = r.recorded;
  made = r.made;
  keys = keys;
  speaks = speaks;
  asked = r.asked;
  used = r.used;
}

same_domain : (before : List Act) (dom : List ℕ) → SameNames before (Domain dom ∷ before)
same_domain before dom = record { names = refl; talks = refl; nodes = λ _ is. is }

same_key : (before : List Act) (tuple : List ℕ) → SameNames before (KeyLine tuple ∷ before)
same_key before tuple = record { names = refl; talks = refl; nodes = λ _ is. is }

same_speak : (before : List Act) (tuple : List ℕ) → SameNames before (SpeakLine tuple ∷ before)
same_speak before tuple = record { names = refl; talks = refl; nodes = λ _ is. is }

pub domain_done : (line : Numbered) (left : List Numbered) (before : List Act) (dom : List ℕ) (old : Run)
    → judged before (line_of line.text) ≡ Ok (Domain dom) → Stands (line ∷ left) before old → IsDone left before (line_of line.text) [] old
domain_done line left before dom old is h = record {
  act = Domain dom;
  fits = is;
  made = refl;
  stands = record {
    nodes = h.nodes;
    talks = talks_stay before (Domain dom ∷ before) old.talks (same_domain before dom) (λ _. refl) h.talks;
    clients = h.clients;
    tables = tells_on line left before (Domain dom) old.tables h.tables refl is;
    recorded = h.recorded;
    made = h.made;
    keys = h.keys;
    speaks = h.speaks;
    asked = h.asked;
    used = h.used;
  };
}

length_behind : (lines : List (List ℕ)) (tuple : List ℕ) (count : ℕ) → count ≡ length lines → count + 1 ≡ length (lines ++ tuple ∷ [])
length_behind lines tuple count is = ap (λ (k : ℕ). k + 1) is ∙ sym (length-append lines (tuple ∷ []))

pub key_done : (line : Numbered) (left : List Numbered) (before : List Act) (tuple : List ℕ) (old : Run) (more : ℕ)
    → judged before (line_of line.text) ≡ Ok (KeyLine tuple) → Stands (line ∷ left) before old → more ≡ old.keys + 1 → IsDone left before (line_of line.text) [] (with_counts old more old.speaks)
key_done line left before tuple old more is h counts = record {
  act = KeyLine tuple;
  fits = is;
  made = refl;
  stands = record {
    nodes = h.nodes;
    talks = talks_stay before (KeyLine tuple ∷ before) old.talks (same_key before tuple) (λ _. refl) h.talks;
    clients = h.clients;
    tables = tells_on line left before (KeyLine tuple) old.tables h.tables refl is;
    recorded = h.recorded;
    made = h.made;
    keys = counts ∙ length_behind (key_lines before) tuple old.keys h.keys;
    speaks = h.speaks;
    asked = h.asked;
    used = h.used;
  };
}

pub speak_done : (line : Numbered) (left : List Numbered) (before : List Act) (tuple : List ℕ) (old : Run) (more : ℕ)
    → judged before (line_of line.text) ≡ Ok (SpeakLine tuple) → Stands (line ∷ left) before old → more ≡ old.speaks + 1 → IsDone left before (line_of line.text) [] (with_counts old old.keys more)
speak_done line left before tuple old more is h counts = record {
  act = SpeakLine tuple;
  fits = is;
  made = refl;
  stands = record {
    nodes = h.nodes;
    talks = talks_stay before (SpeakLine tuple ∷ before) old.talks (same_speak before tuple) (λ _. refl) h.talks;
    clients = h.clients;
    tables = tells_on line left before (SpeakLine tuple) old.tables h.tables refl is;
    recorded = h.recorded;
    made = h.made;
    keys = h.keys;
    speaks = counts ∙ length_behind (speak_lines before) tuple old.speaks h.speaks;
    asked = h.asked;
    used = h.used;
  };
}

-- ---- a conversation is opened

talk_beside : (before : List Act) (conv node name : List ℕ) (o : Option (Option Kept)) → bytes_eq conv name ≡ false → TalkIs before name o → TalkIs (Opened node conv ∷ before) name o
talk_beside before conv node name None other h = free_beside before conv node name other h
talk_beside before conv node name (Some None) other h = closed_beside before conv node name other h
talk_beside before conv node name (Some (Some t)) other h = open_beside before conv node name t.node t.fid t.call other h

talks_opened : (before : List Act) (conv node : List ℕ) (table after : List (List ℕ × Option Kept)) → IsFree before conv → is_node before node ≡ true
    → ((name : List ℕ) → lookup (bytes_eq name) after ≡ put_under conv (Some (record { node = node; fid = fid_for before node; call = None })) table name)
    → TalksAre before table → TalksAre (Opened node conv ∷ before) after
talks_opened before conv node table after free made put h = λ name. elim (cases_Bool (bytes_eq conv name)) [
  | inl is ↦ subst (λ (o : Option (Option Kept)). TalkIs (Opened node conv ∷ before) name o) (sym (put name ∙ cond-true _ _ _ is))
      (subst (λ (x : List ℕ). IsOpen (Opened node conv ∷ before) x node (fid_for before node) None) ((bytes_decides conv name).0 is) (now_open before conv node free made))
  | inr is ↦ subst (λ (o : Option (Option Kept)). TalkIs (Opened node conv ∷ before) name o) (sym (put name ∙ cond-false _ _ _ is))
      (talk_beside before conv node name (lookup (bytes_eq name) table) is (h name))
]

-- what the look-up of a name tells of it
pub name_known : (before : List Act) (conv : List ℕ) (o : Option (Option Kept)) → TalkIs before conv o → is_some o ≡ true → has_name conv (opened_names before) ≡ true
name_known before conv None h some = absurd (false≢true some)
name_known before conv (Some None) h some = h.taken
name_known before conv (Some (Some t)) h some = h.taken

pub opened_free : (before : List Act) (conv : List ℕ) (o : Option (Option Kept)) → TalkIs before conv o → is_some o ≡ false → IsFree before conv
opened_free before conv None h none = h
opened_free before conv (Some t) h none = absurd (false≢true (sym none))

pub name_free : (before : List Act) (conv : List ℕ) (o : Option (Option Kept)) → TalkIs before conv o → is_some o ≡ false → has_name conv (opened_names before) ≡ false
name_free before conv o h none = (opened_free before conv o h none).free

-- by the least fid that isn't held
pub fid_known : (before : List Act) (node : List ℕ) → next_fid (nodes_by before) node ≡ fid_for before node
fid_known before node = ap acts.least_fid (fids_named node (acts.talks before))

nodes_opened : (before : List Act) (conv node : List ℕ) (fid : ℕ) (table : Nodes) → fid ≡ fid_for before node → NodesAre (n.opened node conv fid (nodes_by before)) table → NodesAre (nodes_by (Opened node conv ∷ before)) table
nodes_opened before conv node fid table is h = λ name.
    node_moves (is_node before name) (is_node before name) _ (history (Opened node conv ∷ before) (agent_of before name)) _ (conv_on name (acts.talks (Opened node conv ∷ before))) (node_at table name) refl
    (turned_by before node (lets_open (fid_for before node)) name (history before (agent_of before name)) ∙ ap (λ (f : ℕ). n.done_by_name node (lets_open f) name (history before (agent_of before name))) (sym is))
    (one_more name (acts.talks before) (record { conv = conv; node = node; fid = fid_for before node })
    ∙ ap (λ (f : ℕ). cond (bytes_eq node name) (conv_on name (acts.talks before) ++ (conv, f) ∷ []) (conv_on name (acts.talks before))) (sym is))
    (h name)

-- it is recorded nowhere
opened_steps : (number : ℕ) (before : List Act) (node conv : List ℕ) → [] ≡ steps_by number before (Opened node conv)
unfolding turn_steps
opened_steps number before node conv = refl

pub opened_done : (line : Numbered) (left : List Numbered) (before : List Act) (node conv : List ℕ) (old : Run) (fid : ℕ) (table : Nodes) (talks : List (List ℕ × Option Kept))
    → judged before (line_of line.text) ≡ Ok (Opened node conv) → Stands (line ∷ left) before old → is_node before node ≡ true → IsFree before conv → fid ≡ next_fid (nodes_by before) node
    → NodesAre (n.opened node conv (next_fid (nodes_by before) node) (nodes_by before)) table
    → ((name : List ℕ) → lookup (bytes_eq name) talks ≡ put_under conv (Some (record { node = node; fid = fid; call = None })) old.talks name)
    → IsDone left before (line_of line.text) [] (with_both old table talks)
opened_done line left before node conv old fid table talks is h made free least t put = record {
  act = Opened node conv;
  fits = is;
  made = opened_steps (length (messages before)) before node conv;
  stands = record {
    nodes = nodes_opened before conv node (next_fid (nodes_by before) node) table (fid_known before node) t;
    talks = talks_opened before conv node old.talks talks free made (subst (λ (f : ℕ). (name : List ℕ) → lookup (bytes_eq name) talks ≡ put_under conv (Some (record { node = node; fid = f; call = None })) old.talks name) (least ∙ fid_known before node) put) h.talks;
    clients = h.clients;
    tables = tells_on line left before (Opened node conv) old.tables h.tables refl is;
    recorded = h.recorded;
    made = h.made;
    keys = h.keys;
    speaks = h.speaks;
    asked = h.asked;
    used = h.used;
  };
}

-- ---- a conversation is closed

talk_left : (before : List Act) (conv node name : List ℕ) (fid : ℕ) (call : Option ℕ) (o : Option (Option Kept)) → bytes_eq conv name ≡ false → IsOpen before conv node fid call → TalkIs before name o → TalkIs (Closed conv ∷ before) name o
talk_left before conv node name fid call None other was h = free_left before conv node name fid call was h
talk_left before conv node name fid call (Some None) other was h = closed_left before conv name h
talk_left before conv node name fid call (Some (Some t)) other was h = open_left before conv node name t.node fid t.fid call t.call other was h

abbrev option_shut : Option (Option Kept) → Option (Option Kept)
option_shut None = None
option_shut (Some t) = Some None

talk_shut : (before : List Act) (conv node : List ℕ) (fid : ℕ) (call : Option ℕ) (o : Option (Option Kept)) → IsOpen before conv node fid call → TalkIs before conv o → TalkIs (Closed conv ∷ before) conv (option_shut o)
talk_shut before conv node fid call None was h = free_left before conv node conv fid call was h
talk_shut before conv node fid call (Some t) was h = now_closed before conv node fid call was

talks_closed : (before : List Act) (conv node : List ℕ) (fid : ℕ) (call : Option ℕ) (table after : List (List ℕ × Option Kept)) → IsOpen before conv node fid call
    → ((name : List ℕ) → lookup (bytes_eq name) after ≡ changed_under conv (λ _. None) table name)
    → TalksAre before table → TalksAre (Closed conv ∷ before) after
talks_closed before conv node fid call table after was changed h = λ name. elim (cases_Bool (bytes_eq conv name)) [
  | inl is ↦ let same = (bytes_decides conv name).0 is in
      subst (λ (o : Option (Option Kept)). TalkIs (Closed conv ∷ before) name o) (sym (changed name ∙ (cond-true _ _ _ is ∙ shut (lookup (bytes_eq name) table))))
      (subst (λ (x : List ℕ). TalkIs (Closed conv ∷ before) x (option_shut (lookup (bytes_eq x) table))) same (talk_shut before conv node fid call (lookup (bytes_eq conv) table) was (h conv)))
  | inr is ↦ subst (λ (o : Option (Option Kept)). TalkIs (Closed conv ∷ before) name o) (sym (changed name ∙ cond-false _ _ _ is))
      (talk_left before conv node name fid call (lookup (bytes_eq name) table) is was (h name))
] where
  shut : (o : Option (Option Kept)) → option_map (λ (x : Option Kept). None) o ≡ option_shut o
  shut None = refl
  shut (Some t) = refl

nodes_closed : (before : List Act) (conv node : List ℕ) (fid : ℕ) (call : Option ℕ) (table : Nodes) → IsOpen before conv node fid call
    → NodesAre (n.closed node conv (done_on node (closes conv fid) (nodes_by before))) table → NodesAre (nodes_by (Closed conv ∷ before)) table
nodes_closed before conv node fid call table was h = λ name.
    node_moves (is_node before name) (is_node before name) _ (history (Closed conv ∷ before) (agent_of before name)) _ (conv_on name (acts.talks (Closed conv ∷ before))) (node_at table name) refl
    (ap (λ (d : Option Done). history_by d (agent_of before name) (history before (agent_of before name))) (done_on_open before conv node fid call (λ f. closes conv f) was) ∙ turned_by before node (closes conv fid) name (history before (agent_of before name)))
    (left_on conv node name (acts.talks before) was.alone)
    (h name)

pub closed_done : (line : Numbered) (left : List Numbered) (before : List Act) (conv node : List ℕ) (fid : ℕ) (call : Option ℕ) (old : Run) (turned : Turned) (table : Nodes) (talks : List (List ℕ × Option Kept))
    → judged before (line_of line.text) ≡ Ok (Closed conv) → IsOpen before conv node fid call → Stands (line ∷ left) before old
    → turned.steps.items ≡ turn_steps (length (messages_in old.recorded)) (closes conv fid) (history before (agent_of before node))
    → NodesAre (n.closed node conv (done_on node (closes conv fid) (nodes_by before))) table
    → ((name : List ℕ) → lookup (bytes_eq name) talks ≡ changed_under conv (λ _. None) old.talks name)
    → IsDone left before (line_of line.text) turned.steps.items (with_both old table talks)
closed_done line left before conv node fid call old turned table talks is was h its t changed = record {
  act = Closed conv;
  fits = is;
  made = its ∙ (ap (λ (recorded : List Step). turn_steps (length (messages_in recorded)) (closes conv fid) (history before (agent_of before node))) h.recorded
      ∙ sym (ap (steps_to (length (messages before)) before) (done_on_open before conv node fid call (λ f. closes conv f) was)));
  stands = record {
    nodes = nodes_closed before conv node fid call table was t;
    talks = talks_closed before conv node fid call old.talks talks was changed h.talks;
    clients = h.clients;
    tables = tells_on line left before (Closed conv) old.tables h.tables refl is;
    recorded = h.recorded;
    made = h.made;
    keys = h.keys;
    speaks = h.speaks;
    asked = h.asked;
    used = h.used;
  };
}

-- ---- a session is asked

abbrev pub with_clients : Run → List (List ℕ × Client) → Run
with_clients r clients = record {
  alloc = r.alloc;
  nodes = r.nodes;
  talks = r.talks;
  clients = clients;
  tables = r.tables;
  recorded = r.recorded;
  made = r.made;
  keys = r.keys;
  speaks = r.speaks;
  asked = true;
  used = true;
}

same_asked : (before : List Act) (session request : List ℕ) (words : List (List ℕ)) → SameNames before (Asked session request words ∷ before)
same_asked before session request words = record { names = refl; talks = refl; nodes = λ _ is. is }

pub asked_done : (line : Numbered) (left : List Numbered) (before : List Act) (session request : List ℕ) (words : List (List ℕ)) (old : Run) (made : List Step) (clients : List (List ℕ × Client))
    → judged before (line_of line.text) ≡ Ok (Asked session request words) → Stands (line ∷ left) before old
    → made ≡ session_steps (length (messages before)) session (requests before session) (put_to before request words)
    → ClientsAre (sessions_by (Asked session request words ∷ before)) clients
    → IsDone left before (line_of line.text) made (with_clients old clients)
asked_done line left before session request words old made clients is h its t = record {
  act = Asked session request words;
  fits = is;
  made = its;
  stands = record {
    nodes = h.nodes;
    talks = talks_stay before (Asked session request words ∷ before) old.talks (same_asked before session request words) (λ _. refl) h.talks;
    clients = t;
    tables = tells_on line left before (Asked session request words) old.tables h.tables refl is;
    recorded = h.recorded;
    made = h.made;
    keys = h.keys;
    speaks = h.speaks;
    asked = refl;
    used = refl;
  };
}

same_both : {X : Type 0} (b : Bool) (x : X) → cond b x x ≡ x
same_both true x = refl
same_both false x = refl

-- one that is answered, and one of a kind that isn't served
pub clients_answered : (before : List Act) (session request : List ℕ) (words : List (List ℕ)) (clients : List (List ℕ × Client)) → is_served (kind_of request) ≡ true
    → ClientsAre (sessions.answered session (put_to before request words) (sessions_by before)) clients → ClientsAre (sessions_by (Asked session request words ∷ before)) clients
clients_answered before session request words clients served h = λ name.
    client_moves _ (requests (Asked session request words ∷ before) name) _ (was_misasked (Asked session request words ∷ before) name) (lookup (bytes_eq name) clients)
    (ap (λ (b : Bool). cond (bytes_eq session name) (cond b (put_to before request words ∷ requests before name) (requests before name)) (requests before name)) served)
    (ap (λ (b : Bool). cond (bytes_eq session name) (cond b (was_misasked before name) true) (was_misasked before name)) served ∙ same_both (bytes_eq session name) (was_misasked before name))
    (h name)

pub clients_misasked : (before : List Act) (session request : List ℕ) (words : List (List ℕ)) (clients : List (List ℕ × Client)) → is_served (kind_of request) ≡ false
    → ClientsAre (sessions.misasked session (sessions_by before)) clients → ClientsAre (sessions_by (Asked session request words ∷ before)) clients
clients_misasked before session request words clients unserved h = λ name.
    client_moves _ (requests (Asked session request words ∷ before) name) _ (was_misasked (Asked session request words ∷ before) name) (lookup (bytes_eq name) clients)
    (ap (λ (b : Bool). cond (bytes_eq session name) (cond b (put_to before request words ∷ requests before name) (requests before name)) (requests before name)) unserved ∙ same_both (bytes_eq session name) (requests before name))
    (ap (λ (b : Bool). cond (bytes_eq session name) (cond b (was_misasked before name) true) (was_misasked before name)) unserved)
    (h name)

-- the steps of both
pub answered_steps : (number : ℕ) (session : List ℕ) (before : List Posed) (p : Posed) → is_served (kind_of p.asked.request) ≡ true
    → session_steps number session before p
    ≡ s.AsGot session p.asked.request p.asked.words ∷ s.AsGave number session (answer_in before p) ∷ (cond (is_over_in (p ∷ before)) (s.AsEnd session ∷ []) [])
unfolding session_steps
answered_steps number session before p served = rw served refl

pub misasked_steps : (number : ℕ) (session : List ℕ) (before : List Posed) (p : Posed) → is_served (kind_of p.asked.request) ≡ false
    → session_steps number session before p ≡ s.AsGot session p.asked.request p.asked.words ∷ s.AsEnd session ∷ []
unfolding session_steps
misasked_steps number session before p unserved = rw unserved refl

-- what a session refuses is what no line may ask of it
pub asked_unfit : (before : List Act) (session request : List ℕ) (words : List (List ℕ)) → is_unfit before (Asked session request words) ≡ sessions.is_refused (requests before session) (was_misasked before session) request
unfolding is_unfit
asked_unfit before session request words = refl

-- its steps, in other words
answered_known : (session : List ℕ) (number : ℕ) (answer : List ℕ) (over : Bool) (before : List Posed) (p : Posed) (count : ℕ)
    → answer ≡ answer_in before p → over ≡ is_over_in (p ∷ before) → number ≡ count
    → s.AsGot session p.asked.request p.asked.words ∷ s.AsGave number session answer ∷ (cond over (s.AsEnd session ∷ []) [])
    ≡ s.AsGot session p.asked.request p.asked.words ∷ s.AsGave count session (answer_in before p) ∷ (cond (is_over_in (p ∷ before)) (s.AsEnd session ∷ []) [])
answered_known session number answer over before p count puts ends numbered =
    ap (λ (b : Bool). s.AsGot session p.asked.request p.asked.words ∷ s.AsGave number session answer ∷ (cond b (s.AsEnd session ∷ []) [])) ends
    ∙ (ap (λ (n : ℕ). s.AsGot session p.asked.request p.asked.words ∷ s.AsGave n session answer ∷ (cond (is_over_in (p ∷ before)) (s.AsEnd session ∷ []) [])) numbered
    ∙ ap (λ (text : List ℕ). s.AsGot session p.asked.request p.asked.words ∷ s.AsGave count session text ∷ (cond (is_over_in (p ∷ before)) (s.AsEnd session ∷ []) [])) puts)

-- a request that isn't refused, by what the server knows then
served_known : (line : Numbered) (left : List Numbered) (before : List Act) (session request : List ℕ) (words : List (List ℕ)) (number : ℕ) (answer : List ℕ) (what : Served) (old : Run) (made : List Step) (clients : List (List ℕ × Client))
    → Stands (line ∷ left) before old
    → judged before (line_of line.text) ≡ fitting before (Some (Asked session request words))
    → ServesSo (sessions_by before) session (put_to before request words) what [] answer clients
    → (what ≡ served.Refused → ⊥) → number ≡ length (messages before)
    → made ≡ served_steps number session request words what answer
    → IsDone left before (line_of line.text) made (with_clients old clients)
served_known line left before session request words number answer served.Refused old made clients h is so goes numbered its = absurd (goes refl)
served_known line left before session request words number answer (served.Answered over) old made clients h is so goes numbered its =
    let fit = asked_unfit before session request words ∙ so.fits in
    asked_done line left before session request words old made clients (is ∙ fits before (Asked session request words) fit) h
    (its ∙ (answered_known session number answer over (requests before session) (put_to before request words) (length (messages before)) so.put so.ends numbered
    ∙ sym (answered_steps (length (messages before)) session (requests before session) (put_to before request words) so.served)))
    (clients_answered before session request words clients so.served so.clients)
served_known line left before session request words number answer served.Ended old made clients h is so goes numbered its =
    let fit = asked_unfit before session request words ∙ so.fits in
    asked_done line left before session request words old made clients (is ∙ fits before (Asked session request words) fit) h
    (its ∙ sym (misasked_steps (length (messages before)) session (requests before session) (put_to before request words) so.served))
    (clients_misasked before session request words clients so.served so.clients)

-- the server knows what the acts told
by_knowledge : (before : List Act) (session request : List ℕ) (words : List (List ℕ)) (k : Knowledge) (what : Served) (answer : List ℕ) (clients : List (List ℕ × Client)) → known before ≡ k
    → ServesSo (sessions_by before) session (posed k (asked_so request words)) what [] answer clients → ServesSo (sessions_by before) session (put_to before request words) what [] answer clients
by_knowledge before session request words k what answer clients knows so =
    subst (λ (x : Knowledge). ServesSo (sessions_by before) session (posed x (asked_so request words)) what [] answer clients) (sym knows) so

pub served_done : (line : Numbered) (left : List Numbered) (before : List Act) (session request : List ℕ) (words : List (List ℕ)) (number : ℕ) (answer : List ℕ) (what : Served) (old : Run) (made : List Step) (clients : List (List ℕ × Client))
    → Stands (line ∷ left) before old → known before ≡ knowledge old.tables.core
    → judged before (line_of line.text) ≡ fitting before (Some (Asked session request words))
    → ServesSo (sessions_by before) session (posed (knowledge old.tables.core) (asked_so request words)) what [] answer clients
    → (what ≡ served.Refused → ⊥) → number ≡ length (messages before)
    → made ≡ served_steps number session request words what answer
    → IsDone left before (line_of line.text) made (with_clients old clients)
served_done line left before session request words number answer what old made clients h knows is so goes numbered its =
    served_known line left before session request words number answer what old made clients h is
    (by_knowledge before session request words (knowledge old.tables.core) what answer clients knows so) goes numbered its

-- one that is
pub served_refused : (before : List Act) (session request : List ℕ) (words : List (List ℕ)) (k : Knowledge) (answer : List ℕ) (clients : List (List ℕ × Client))
    → ServesSo (sessions_by before) session (posed k (asked_so request words)) served.Refused [] answer clients → is_unfit before (Asked session request words) ≡ true
served_refused before session request words k answer clients so = asked_unfit before session request words ∙ so

-- the line of a request
pub ask_judged : (before : List Act) (session request first second third : List ℕ) (pieces : List Piece) → spelled (messages before) pieces ≡ Some request
    → judged before (Some (l.AsGive session pieces first second third)) ≡ fitting before (Some (Asked session request (first ∷ second ∷ third ∷ [])))
ask_judged before session request first second third pieces some = ap (λ (o : Option (List ℕ)). fitting before (option_map (λ given. Asked session given (first ∷ second ∷ third ∷ [])) o)) some

pub ask_unspelled : (before : List Act) (session first second third : List ℕ) (pieces : List Piece) → spelled (messages before) pieces ≡ None
    → judged before (Some (l.AsGive session pieces first second third)) ≡ Err NoSuchMessage
ask_unspelled before session first second third pieces none = ap (λ (o : Option (List ℕ)). fitting before (option_map (λ given. Asked session given (first ∷ second ∷ third ∷ [])) o)) none

-- ---- a node is restarted

-- what its agents' histories are then
restarted_history : (before : List Act) (node name : List ℕ) → history (Restarted node ∷ before) (agent_of (Restarted node ∷ before) name) ≡ cond (bytes_eq node name) new_node (history before (agent_of before name))
restarted_history before node name = elim (cases_Bool (bytes_eq node name)) [
  | inl is ↦ cond-true _ _ _ (agents_apart (Restarted node ∷ before) node name ∙ is) ∙ sym (cond-true _ _ _ is)
  | inr is ↦ cond-false _ _ _ (agents_apart (Restarted node ∷ before) node name ∙ is)
      ∙ (ap (λ (n : ℕ). history before (n ∷ name)) (cond-false _ _ _ is) ∙ sym (cond-false _ _ _ is))
]

free_off : (before : List Act) (node conv : List ℕ) → IsFree before conv → IsFree (Restarted node ∷ before) conv
free_off before node conv f = record { free = f.free; asks = f.asks; others = others_off conv node (acts.talks before) f.others }

closed_off : (before : List Act) (node conv : List ℕ) → IsClosed before conv → IsClosed (Restarted node ∷ before) conv
closed_off before node conv k = record { taken = k.taken; others = others_off conv node (acts.talks before) k.others }

gone_off : (before : List Act) (node conv : List ℕ) (fid : ℕ) (call : Option ℕ) → IsOpen before conv node fid call → IsClosed (Restarted node ∷ before) conv
gone_off before node conv fid call o = record { taken = o.taken; others = none_off conv node (acts.talks before) o.alone }

open_off : (before : List Act) (node conv on : List ℕ) (fid : ℕ) (call : Option ℕ) → bytes_eq on node ≡ false → IsOpen before conv on fid call → IsOpen (Restarted node ∷ before) conv on fid call
open_off before node conv on fid call other o = record {
  taken = o.taken;
  found = found_off conv node (acts.talks before) (record { conv = conv; node = on; fid = fid }) other o.found;
  asks = o.asks;
  made = o.made;
  alone = alone_off conv on node (acts.talks before) o.alone;
}

talk_off : (before : List Act) (node conv : List ℕ) (o : Option (Option Kept)) → TalkIs before conv o → TalkIs (Restarted node ∷ before) conv (option_map (left_behind node) o)
talk_off before node conv None h = free_off before node conv h
talk_off before node conv (Some None) h = closed_off before node conv h
talk_off before node conv (Some (Some t)) h = elim (cases_Bool (bytes_eq t.node node)) [
  | inl is ↦ subst (λ (x : Option Kept). TalkIs (Restarted node ∷ before) conv (Some x)) (sym (cond-true _ _ _ is))
      (gone_off before node conv t.fid t.call (subst (λ (x : List ℕ). IsOpen before conv x t.fid t.call) ((bytes_decides t.node node).0 is) h))
  | inr is ↦ subst (λ (x : Option Kept). TalkIs (Restarted node ∷ before) conv (Some x)) (sym (cond-false _ _ _ is)) (open_off before node conv t.node t.fid t.call is h)
]

talks_off : (before : List Act) (node : List ℕ) (table after : List (List ℕ × Option Kept)) → ((name : List ℕ) → lookup (bytes_eq name) after ≡ option_map (left_behind node) (lookup (bytes_eq name) table))
    → TalksAre before table → TalksAre (Restarted node ∷ before) after
talks_off before node table after left h = λ name. subst (λ (o : Option (Option Kept)). TalkIs (Restarted node ∷ before) name o) (sym (left name)) (talk_off before node name (lookup (bytes_eq name) table) (h name))

pub restarted_done : (line : Numbered) (left : List Numbered) (before : List Act) (node : List ℕ) (old : Run) (table : Nodes) (talks : List (List ℕ × Option Kept)) (made : List Step)
    → judged before (line_of line.text) ≡ Ok (Restarted node) → Stands (line ∷ left) before old → made ≡ s.Restart node ∷ [] → NodesAre (n.restarted node (nodes_by before)) table
    → ((name : List ℕ) → lookup (bytes_eq name) talks ≡ option_map (left_behind node) (lookup (bytes_eq name) old.talks))
    → IsDone left before (line_of line.text) made (with_both old table talks)
restarted_done line left before node old table talks made is h its t off = record {
  act = Restarted node;
  fits = is;
  made = its;
  stands = record {
    nodes = λ name. node_moves _ (is_node before name) _ (history (Restarted node ∷ before) (agent_of (Restarted node ∷ before) name)) _ (conv_on name (acts.talks (Restarted node ∷ before))) (node_at table name) refl
        (restarted_history before node name) (off_on node name (acts.talks before)) (t name);
    talks = talks_off before node old.talks talks off h.talks;
    clients = h.clients;
    tables = tells_on line left before (Restarted node) old.tables h.tables refl is;
    recorded = h.recorded;
    made = h.made;
    keys = h.keys;
    speaks = h.speaks;
    asked = h.asked;
    used = h.used;
  };
}

-- ---- the tables are read again

abbrev pub with_tables : Run → Tables → Run
with_tables r tables = record {
  alloc = r.alloc;
  nodes = r.nodes;
  talks = r.talks;
  clients = r.clients;
  tables = tables;
  recorded = r.recorded;
  made = r.made;
  keys = 0;
  speaks = 0;
  asked = r.asked;
  used = false;
}

same_reloaded : (before : List Act) → SameNames before (Reloaded ∷ before)
same_reloaded before = record { names = refl; talks = refl; nodes = λ _ is. is }

pub reloaded_done : (line : Numbered) (left : List Numbered) (before : List Act) (old : Run) (tables : Tables) (made : List Step)
    → line_of line.text ≡ Some l.Reload → judged before (line_of line.text) ≡ Ok Reloaded → Stands (line ∷ left) before old → made ≡ s.Reload ∷ [] → IsToldAgain left old.tables tables
    → IsDone left before (line_of line.text) made (with_tables old tables)
reloaded_done line left before old tables made read is h its t = record {
  act = Reloaded;
  fits = is;
  made = its;
  stands = record {
    nodes = h.nodes;
    talks = talks_stay before (Reloaded ∷ before) old.talks (same_reloaded before) (λ _. refl) h.talks;
    clients = h.clients;
    tables = tells_again line left before old.tables tables h.tables read t;
    recorded = h.recorded;
    made = h.made;
    keys = refl;
    speaks = refl;
    asked = h.asked;
    used = refl;
  };
}
