-- What the nodes of a network are by their names, and what happens to them. This serves proofs alone.
use Rattle.std.specs.Prelude.{◌≡◌, ℕ, List, [], ◌∷◌, ◌++◌, map, filter, Bool, true, false, not, Option, Some, None, if◌then◌else◌}
use Rattle.std.specs.Map.{lookup}
use Rattle.std.specs.Str.{bytes_eq}
use Rattle.agent_history.specs.Histories.{History}
use Rattle.agent_turns.specs.Agents.{StandsFor}
use Rattle.agent_turns.specs.declared.turns.Turned.{Turned}
use Rattle.world_history.specs.Acts.{least_fid}
use Rattle.world_history.specs.Driving.{new_node, refuses_open}
use Rattle.world_history.specs.Turns.{Turn, after, lets_open, turn_questions, turn_steps}
use Rattle.world_history.specs.Worlds.{last_call}
use Rattle.world_run.specs.declared.node.Node.{Node}
use Rattle.world_run.specs.declared.nodes.Nodes.{Nodes}
use Rattle.world_run.specs.Fids.{named}

-- ---- what is known by name

-- which nodes were made, their histories, and the conversations that they have open, with their fids
pub record View : Type 0 where
  pub is : List ℕ → Bool
  pub history : List ℕ → History
  pub held : List ℕ → List (List ℕ × ℕ)

-- the fids that a node holds
abbrev pub held_on : View → List ℕ → List ℕ
held_on v name = map (λ o. o.1) (v.held name)

-- nothing was made of a name
pub record IsFree (is : Bool) (held : List (List ℕ × ℕ)) : Type 0 where
  pub free : is ≡ false
  pub closed : held ≡ []

pub record IsNode (is : Bool) (history : History) (held : List (List ℕ × ℕ)) (node : Node) : Type 0 where
  pub made : is ≡ true
  pub stands : StandsFor history node.agent
  pub named : named node.held.items ≡ held

abbrev pub NodeIs : Bool → History → List (List ℕ × ℕ) → Option Node → Type 0
NodeIs is history held None = IsFree is held
NodeIs is history held (Some node) = IsNode is history held node

-- the nodes by their names
abbrev pub named_nodes : Nodes → List (List ℕ × Node)
named_nodes nodes = map (λ entry. (entry.0.items, entry.1)) nodes.table.entries

abbrev pub node_at : Nodes → List ℕ → Option Node
node_at nodes name = lookup (bytes_eq name) (named_nodes nodes)

abbrev pub NodesAre : View → Nodes → Type 0
NodesAre v nodes = (name : List ℕ) → NodeIs (v.is name) (v.history name) (v.held name) (node_at nodes name)

-- none was made
abbrev pub nobody : View
nobody = record { is = λ name. false; history = λ name. []; held = λ name. [] }

-- ---- what happens

-- a node is made
abbrev pub made : List ℕ → View → View
made name v = record {
  is = λ other. if bytes_eq name other then true else v.is other;
  history = λ other. if bytes_eq name other then new_node else v.history other;
  held = v.held;
}

-- the history of a node behind a turn of the one of a name
abbrev pub done_by_name : List ℕ → Turn → List ℕ → History → History
done_by_name name turn other h = if bytes_eq name other then after turn h else h

-- the agent of one is another
abbrev pub restarted : List ℕ → View → View
restarted name v = record {
  is = v.is;
  history = λ other. if bytes_eq name other then new_node else v.history other;
  held = λ other. if bytes_eq name other then [] else v.held other;
}

-- something is done to one
abbrev pub done_on : List ℕ → Turn → View → View
done_on name turn v = record {
  is = v.is;
  history = λ other. done_by_name name turn other (v.history other);
  held = v.held;
}

-- one opens a conversation by a fid
abbrev pub opened : List ℕ → List ℕ → ℕ → View → View
opened name conv fid v = record {
  is = v.is;
  history = λ other. done_by_name name (lets_open fid) other (v.history other);
  held = λ other. if bytes_eq name other then v.held other ++ (conv, fid) ∷ [] else v.held other;
}

-- a conversation of one is open no more
abbrev pub closed : List ℕ → List ℕ → View → View
closed name conv v = record {
  is = v.is;
  history = v.history;
  held = λ other. if bytes_eq name other then filter (λ o. not (bytes_eq o.0 conv)) (v.held other) else v.held other;
}

-- ---- what comes of it

pub record TurnsTo (number : ℕ) (name : List ℕ) (turn : Turn) (v : View) (turned : Turned) (left : Nodes) : Type 0 where
  pub nodes : NodesAre (done_on name turn v) left
  pub steps : turned.steps.items ≡ turn_steps number turn (v.history name)
  pub call : turned.call ≡ last_call (turn_questions turn (v.history name)) None

abbrev pub TurnsSo : ℕ → List ℕ → Turn → View → Option Turned → Nodes → Type 0
TurnsSo number name turn v None nodes = ⊥
TurnsSo number name turn v (Some turned) nodes = TurnsTo number name turn v turned nodes

-- the fid by which a node opens its next conversation
abbrev pub next_fid : View → List ℕ → ℕ
next_fid v name = least_fid (held_on v name)

pub record OpensBy (name conv : List ℕ) (v : View) (fid : ℕ) (left : Nodes) : Type 0 where
  pub least : fid ≡ next_fid v name
  pub lets : refuses_open (next_fid v name) (v.history name) ≡ false
  pub nodes : NodesAre (opened name conv (next_fid v name) v) left

abbrev pub OpensSo : List ℕ → List ℕ → View → Option ℕ → Nodes → Type 0
OpensSo name conv v None nodes = refuses_open (next_fid v name) (v.history name) ≡ true
OpensSo name conv v (Some fid) nodes = OpensBy name conv v fid nodes
