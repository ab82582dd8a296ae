-- What happens to a network, as a list of acts, the newest first: what stands behind an act is all that happened
-- before it. An act is a line of a script whose bytes are spelled out. The names of nodes, of conversations and of
-- sessions are three kinds of names.
use Rattle.std.specs.Prelude.{ℕ, zero, suc, ◌+◌, max, List, [], ◌∷◌, ◌++◌, map, filter, find, Bool, true, false, not, ◌==◌, codes, Option, if◌then◌else◌}
use Rattle.std.specs.List.{list_any}
use Rattle.std.specs.Str.{bytes_eq}

pub data Act : Type 0 where
  -- the authentication server's domain is told; a line of its table of keys; one of its table of who speaks for whom
  Domain : (dom : List ℕ) → Act
  KeyLine : (tuple : List ℕ) → Act
  SpeakLine : (tuple : List ℕ) → Act
  -- both tables are read again: new ones take their place, which have no line yet
  Reloaded : Act
  -- a node is made, which is a new agent; another new agent takes the place of its agent; a line is written to its ctl;
  -- rpc is opened on it as a conversation
  Made : (node : List ℕ) → Act
  Restarted : (node : List ℕ) → Act
  Told : (node line : List ℕ) → Act
  Opened : (node conv : List ℕ) → Act
  -- a conversation is asked to start by a tuple, with a random word; for a message; to take one
  Started : (conv word tuple : List ℕ) → Act
  Got : (conv : List ℕ) → Act
  Given : (conv bytes : List ℕ) → Act
  -- the authentication server's answer to its question, which has this number, or that there is none
  Answered : (conv bytes : List ℕ) (call : ℕ) → Act
  Unanswered : (conv : List ℕ) (call : ℕ) → Act
  -- a session of the authentication server is given a request, with three random words
  Asked : (session request : List ℕ) (words : List (List ℕ)) → Act
  -- a conversation is closed
  Closed : (conv : List ℕ) → Act

-- ---- names

-- a name is among these
abbrev pub has_name : List ℕ → List (List ℕ) → Bool
has_name name names = list_any (λ other. bytes_eq other name) names

-- the nodes
abbrev pub nodes : List Act → List (List ℕ)
nodes [] = []
nodes (Made node ∷ before) = node ∷ nodes before
nodes (act ∷ before) = nodes before

abbrev pub is_node : List Act → List ℕ → Bool
is_node acts node = has_name node (nodes acts)

-- how often a node was restarted
abbrev pub restarts : List Act → List ℕ → ℕ
restarts [] node = 0
restarts (Restarted name ∷ before) node =
    if bytes_eq name node then restarts before node + 1 else restarts before node
restarts (act ∷ before) node = restarts before node

-- the agent of a node now, which is told by how often the node was restarted, in front of its name
abbrev pub agent_of : List Act → List ℕ → List ℕ
agent_of acts node = restarts acts node ∷ node

-- the names of conversations that were opened, also those that are open no more
abbrev pub opened_names : List Act → List (List ℕ)
opened_names [] = []
opened_names (Opened node conv ∷ before) = conv ∷ opened_names before
opened_names (act ∷ before) = opened_names before

-- ---- conversations that are open

-- a conversation, its node, and the fid by which it is open there
pub record Talk : Type 0 where
  pub conv : List ℕ
  pub node : List ℕ
  pub fid : ℕ

-- the fids of a node's conversations
abbrev pub fids_on : List ℕ → List Talk → List ℕ
fids_on node talks = map (λ t. t.fid) (filter (λ t. bytes_eq t.node node) talks)

-- a fid is among these
abbrev pub is_held : ℕ → List ℕ → Bool
is_held fid held = list_any (λ other. other == fid) held

-- the least fid from one on that isn't held; of so many and the one behind them
abbrev pub least_from : ℕ → ℕ → List ℕ → ℕ
least_from zero fid held = fid
least_from (suc n) fid held = if is_held fid held then least_from n (fid + 1) held else fid

-- a number that isn't below any of these
abbrev pub highest : List ℕ → ℕ
highest [] = 0
highest (fid ∷ held) = max fid (highest held)

-- the least that isn't held where a node holds 0, which names the root, 1, which has ctl open, and these
abbrev pub least_fid : List ℕ → ℕ
least_fid held = least_from (highest held) 2 held

-- the conversations that are open, the oldest first: a restart of its node ends one too
abbrev pub talks : List Act → List Talk
talks [] = []
talks (Opened node conv ∷ before) =
    talks before ++ record { conv = conv; node = node; fid = least_fid (fids_on node (talks before)) } ∷ []
talks (Closed conv ∷ before) = filter (λ t. not (bytes_eq t.conv conv)) (talks before)
talks (Restarted node ∷ before) = filter (λ t. not (bytes_eq t.node node)) (talks before)
talks (act ∷ before) = talks before

-- the one of a name, if it is open
abbrev pub talk_of : List Act → List ℕ → Option Talk
talk_of acts conv = find (λ t. bytes_eq t.conv conv) (talks acts)

-- ---- the authentication server's tables

-- its domain: what was told last, `x` where nothing was
abbrev pub domain : List Act → List ℕ
domain [] = codes "x"
domain (Domain dom ∷ before) = dom
domain (act ∷ before) = domain before

-- the lines of its newest tables, in order
abbrev pub key_lines : List Act → List (List ℕ)
key_lines [] = []
key_lines (Reloaded ∷ before) = []
key_lines (KeyLine tuple ∷ before) = key_lines before ++ tuple ∷ []
key_lines (act ∷ before) = key_lines before

abbrev pub speak_lines : List Act → List (List ℕ)
speak_lines [] = []
speak_lines (Reloaded ∷ before) = []
speak_lines (SpeakLine tuple ∷ before) = speak_lines before ++ tuple ∷ []
speak_lines (act ∷ before) = speak_lines before

-- it was asked something
abbrev pub was_asked : List Act → Bool
was_asked [] = false
was_asked (Asked session request words ∷ before) = true
was_asked (act ∷ before) = was_asked before

-- it was asked something by its newest tables
abbrev pub were_used : List Act → Bool
were_used [] = false
were_used (Reloaded ∷ before) = false
were_used (Asked session request words ∷ before) = true
were_used (act ∷ before) = were_used before
