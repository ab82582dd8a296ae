-- The fids of one connection as a finite map: what each fid that is held names, whether it is open, and where its
-- next read of a directory may begin. After section 5 of the Plan 9 manual (intro(5), fids).
use Rattle.std.specs.Prelude.{◌≡◌, ℕ, ◌+◌, ◌≤◌, ◌==◌, List, [], ◌∷◌, length, Bool, ◌&&◌, Option, Some, None, option_map, if◌then◌else◌}
use Rattle.std.specs.Ordering.{nat_cmp}
use Rattle.std.specs.Map.{lookup}
use Rattle.std.specs.BTreeMap.{is_at}
use Rattle.file_tree.specs.declared.tree.Node.{Node}
use Rattle.file_tree.specs.declared.tree.FidState.{FidState}
use Rattle.file_tree.specs.Tree.{is_directory}
use Rattle.file_tree.specs.Calls.{at_rest, attach_fault, is_open, most_fids, node_of, walk_fault}
use Rattle.file_tree.specs.declared.fault.FidFault.{FidFault}
use Rattle.file_tree.specs.declared.fids.Fid.{Fid}

-- the fids that are held, each once, in the order of their numbers
abbrev pub Table : Type 0
Table = List (ℕ × Fid)

-- a fid that is held
abbrev pub fid_at : Table → ℕ → Option Fid
fid_at table fid = lookup (is_at (nat_cmp fid)) table

-- what a fid names and whether it is open; no state where it isn't held
abbrev pub state_at : Table → ℕ → Option FidState
state_at table fid = option_map (λ held. held.state) (fid_at table fid)

-- the file that it names; the root where it isn't held
abbrev pub node_at : Table → ℕ → Node
node_at table fid = node_of (state_at table fid)

-- where its next read of a directory may begin beside 0
abbrev pub next_of : Option Fid → ℕ
next_of None = 0
next_of (Some held) = held.next

abbrev pub next_at : Table → ℕ → ℕ
next_at table fid = next_of (fid_at table fid)

-- how many are held
abbrev pub held_in : Table → ℕ
held_in table = length table

-- one for a fid that is held, and none for one that isn't
abbrev pub count_of : Option Fid → ℕ
count_of None = 0
count_of (Some held) = 1

-- One fid is so from now on, and all others stay as they were. The number held is one more or one less where this fid
-- was new or is given up.
pub record Becomes (before after : Table) (fid : ℕ) (now : Option Fid) : Type 0 where
  pub this : fid_at after fid ≡ now
  pub all : (other : ℕ) → fid_at after other ≡ (if fid == other then now else fid_at before other)
  pub held : held_in after + count_of (fid_at before fid) ≡ held_in before + count_of now

-- a fid that names a file, isn't open, and hasn't been read
abbrev pub fresh : FidState → Fid
fresh state = record { state = state; next = 0 }

-- a fid as it was, or naming the file that was found
abbrev pub moved : Option Fid → Option Node → Option Fid
moved newfid None = newfid
moved newfid (Some node) = Some (fresh (at_rest node))

-- a fid whose latest read of a directory ended there
abbrev pub read_to : ℕ → Option Fid → Option Fid
read_to end None = None
read_to end (Some held) = Some (record { state = held.state; next = end })

-- a fid that is open and names a directory
abbrev pub is_open_directory : Option FidState → Bool
is_open_directory fid = is_open fid && is_directory (node_of fid)

-- a fid may be put in: it is held, or fewer than 256 are
abbrev pub HasRoom : Table → ℕ → Type 0
HasRoom table fid = held_in table + 1 ≤ most_fids + count_of (fid_at table fid)

-- what refuses an attach of a fid, and a walk from one fid to another, of those that are held
abbrev pub attach_refusal : Table → ℕ → Option FidFault
attach_refusal table fid = attach_fault (state_at table fid) (held_in table)

abbrev pub walk_refusal : Table → ℕ → ℕ → List (List ℕ) → Option FidFault
walk_refusal table fid newfid names =
    walk_fault (state_at table fid) (state_at table newfid) (fid == newfid) (held_in table) names

-- changes of fids, the newest first: which fid, and what it became
abbrev pub Changes : Type 0
Changes = List (ℕ × Option Fid)

-- what the last change that concerns a fid made of it; it isn't held before the first
abbrev pub told : Changes → ℕ → Option Fid
told [] fid = None
told (change ∷ before) fid = if change.0 == fid then change.1 else told before fid

-- each fid is what the changes made of it
abbrev pub StandsFor : Changes → Table → Type 0
StandsFor changes table = (fid : ℕ) → fid_at table fid ≡ told changes fid
