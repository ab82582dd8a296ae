-- The connections to the authentication server that conversations keep, by the numbers of the conversations, those
-- that are to be given up, and how they change. After section 5 of the Plan 9 manual (clunk, version) and
-- factotum(4): a conversation ends with its fid. That one keeps its connection between a challenge and the answer to
-- it is authsrv(6).
use Rattle.std.specs.Prelude.{ℕ, List, [], ◌∷◌, ◌++◌, drop, filter, Bool, not, ◌==◌, Option, Some, None, if◌then◌else◌}
use Rattle.std.specs.List.{list_any}
use Rattle.agent_history.specs.Conversations.{Drop}
use Rattle.agent_talks.specs.declared.speaker.Speaker.{Speaker as HeldSpeaker}
use Rattle.agent_talks.specs.declared.speaker.Leaving.{Leaving}
use Rattle.agent_talks.specs.Kept.{leaves}
use Rattle.agent_talks.specs.declared.kept.GivenUp.{GivenUp}

-- the conversations that keep a connection, and the connections that are to be given up, the oldest first
pub record Calls : Type 0 where
  pub kept : List ℕ
  pub drops : List Drop

abbrev pub none_kept : Calls
none_kept = record { kept = []; drops = [] }

abbrev pub drop_of : GivenUp → Drop
drop_of g = record { conv = g.conv; behind = g.behind }

-- a conversation is one of those that keep a connection
abbrev pub is_kept : List ℕ → ℕ → Bool
is_kept kept conv = list_any (λ n. n == conv) kept

abbrev pub others : ℕ → List ℕ → List ℕ
others conv kept = filter (λ n. not (n == conv)) kept

-- a conversation keeps one from now on
abbrev pub begun : ℕ → Calls → Calls
begun conv c = if is_kept c.kept conv then c else record { kept = c.kept ++ conv ∷ []; drops = c.drops }

-- it uses its own up
abbrev pub used : ℕ → Calls → Calls
used conv c = record { kept = others conv c.kept; drops = c.drops }

-- its question is handed out
abbrev pub handed : Bool → ℕ → Calls → Calls
handed keeps conv c = if keeps then begun conv c else used conv c

-- it gives its own up, where it keeps one
abbrev pub ended : ℕ → ℕ → Calls → Calls
ended conv behind c =
    if is_kept c.kept conv
    then record { kept = others conv c.kept; drops = c.drops ++ record { conv = conv; behind = behind } ∷ [] }
    else c

abbrev pub ended_if : Bool → ℕ → ℕ → Calls → Calls
ended_if over conv behind c = if over then ended conv behind c else c

-- those who leave give up theirs, one after the other
abbrev pub left : Leaving → ℕ → List HeldSpeaker → Calls → Calls
left who behind [] c = c
left who behind (s ∷ more) c = left who behind more (ended_if (leaves who s) s.conv behind c)

-- the oldest that is to be given up
abbrev pub first_of : List Drop → Option Drop
first_of [] = None
first_of (d ∷ more) = Some d

-- it was given up
abbrev pub taken : Calls → Calls
taken c = record { kept = c.kept; drops = drop 1 c.drops }
