-- The requests on fids, one after the other: the tests that refuse it, in their order, and what it makes of a fid.
-- A fid that isn't held has no state. After section 5 of the Plan 9 manual (attach(5), walk(5), open(5), clunk(5)).
use Rattle.std.specs.Prelude.{ℕ, List, [], ◌∷◌, Bool, true, false, not, ◌&&◌, ◌||◌, ◌==◌, nat_le, bit_and, Option, Some, None, is_some, is_none}
use Rattle.wire_base.specs.Rules.{first_told}
use Rattle.file_tree.specs.declared.tree.Node.{Node}
use Rattle.file_tree.specs.declared.tree.Node.TheVariants.{Root}
use Rattle.file_tree.specs.declared.tree.FidState.{FidState}
use Rattle.file_tree.specs.declared.fault.FidFault.{FidFault}
use Rattle.file_tree.specs.declared.fault.FidFault.TheVariants.{UnknownFid, InUse, TooMany, AlreadyOpen, NotDirectory, NotFound, BadMode, Denied, BadOffset}
use Rattle.file_tree.specs.Tree.{file, is_directory, step, lead_to}

-- how many fids a connection may hold
abbrev pub most_fids : ℕ
most_fids = 256

-- no other fid may be held
abbrev pub is_full : ℕ → Bool
is_full held = nat_le most_fids held

-- what a fid names; a fid that isn't held is refused before this is asked
abbrev pub node_of : Option FidState → Node
node_of None = Root
node_of (Some state) = state.node

-- the mode in which it is open, if it is
abbrev pub mode_of : Option FidState → Option ℕ
mode_of None = None
mode_of (Some state) = state.mode

-- it is open
abbrev pub is_open : Option FidState → Bool
is_open fid = is_some (mode_of fid)

-- a fid that names a file and isn't open
abbrev pub at_rest : Node → FidState
at_rest node = record { node = node; mode = None }

-- ---- Clunk, Stat, and whatever else names a fid

unfoldable pub fid_fault : Option FidState → Option FidFault
fid_fault fid = first_told ((is_none fid, UnknownFid) ∷ [])

-- ---- Attach: the fid names the root

unfoldable pub attach_fault : Option FidState → ℕ → Option FidFault
attach_fault fid held = first_told (
    (is_some fid, InUse)
    ∷ (is_full held, TooMany)
    ∷ [])

abbrev pub attached : Option FidState
attached = Some (at_rest Root)

-- ---- Walk: where all names are there, newfid names the last file

-- there are names
abbrev pub has_names : List (List ℕ) → Bool
has_names [] = false
has_names (name ∷ names) = true

-- the first name isn't there
abbrev pub lacks_first : Node → List (List ℕ) → Bool
lacks_first node [] = false
lacks_first node (name ∷ names) = is_none (step node name)

-- of the fid walked from, the newfid, whether they are the same, and how many are held
unfoldable pub walk_fault : Option FidState → Option FidState → Bool → ℕ → List (List ℕ) → Option FidFault
walk_fault fid newfid same held names = first_told (
    (is_none fid, UnknownFid)
    ∷ (is_open fid, AlreadyOpen)
    ∷ (is_some newfid && not same, InUse)
    ∷ (is_none newfid && is_full held, TooMany)
    ∷ (has_names names && not (is_directory (node_of fid)), NotDirectory)
    ∷ (lacks_first (node_of fid) names, NotFound)
    ∷ [])

-- newfid as it was, or naming the file that was found
abbrev pub moved : Option FidState → Option Node → Option FidState
moved newfid None = newfid
moved newfid (Some node) = Some (at_rest node)

-- newfid after a walk from a fid
abbrev pub walked : Option FidState → Option FidState → List (List ℕ) → Option FidState
walked fid newfid names = moved newfid (lead_to (node_of fid) names)

-- ---- Open: the fid is open in the mode

-- the two low bits of a mode: reading 0, writing 1, both 2, executing 3; and two bits more
abbrev pub access : ℕ → ℕ
access mode = bit_and mode 3

abbrev pub writes : ℕ → Bool
writes mode = access mode == 1 || access mode == 2

abbrev pub executes : ℕ → Bool
executes mode = access mode == 3

-- OTRUNC
abbrev pub truncates : ℕ → Bool
truncates mode = not (bit_and mode 0x10 == 0)

-- ORCLOSE
abbrev pub removes_on_close : ℕ → Bool
removes_on_close mode = not (bit_and mode 0x40 == 0)

-- a bit that no mode of open(5) has
abbrev pub has_other_bits : ℕ → Bool
has_other_bits mode = not (bit_and mode 0xac == 0)

-- a file may not be opened so
abbrev pub is_denied : Node → ℕ → Bool
is_denied node mode =
    removes_on_close mode
    || executes mode
    || (writes mode && not (file node).written)
    || (truncates mode && not (writes mode))

unfoldable pub open_fault : Option FidState → ℕ → Option FidFault
open_fault fid mode = first_told (
    (is_none fid, UnknownFid)
    ∷ (is_open fid, AlreadyOpen)
    ∷ (has_other_bits mode, BadMode)
    ∷ (is_denied (node_of fid) mode, Denied)
    ∷ [])

-- the modes in which a file may be opened: reading; and where it is written, writing and both, each also with OTRUNC
abbrev pub opens : Node → ℕ → Bool
opens node mode = mode == 0 || ((file node).written && (mode == 1 || mode == 2 || mode == 0x11 || mode == 0x12))

abbrev pub opened : ℕ → Option FidState → Option FidState
opened mode None = None
opened mode (Some state) = Some (record { node = state.node; mode = Some mode })

-- ---- Read of a directory: from its beginning, or where the latest read of the fid ended

-- next is the offset of that read and the number of bytes that it gave, and 0 before the first read
unfoldable pub dir_fault : ℕ → ℕ → Option FidFault
dir_fault next offset = first_told ((not (offset == 0) && not (offset == next), BadOffset) ∷ [])

-- whether a mode of open(5) that isn't denied lets its fid be read
abbrev pub reads : ℕ → Bool
reads mode = access mode == 0 || access mode == 2
