-- The fixed tree of files that an agent serves, as one table, and where a name leads in it. After factotum(4) and
-- section 5 of the Plan 9 manual (intro(5), walk(5)); the paths and the modes are this project's own.
use Rattle.std.specs.Prelude.{ℕ, ◌==◌, List, [], ◌∷◌, Bool, true, false, Option, Some, None, find, codes, bytes_eq, if◌then◌else◌}
use Rattle.nine.specs.declared.qid.Qid.{Qid}
use Rattle.file_tree.specs.declared.tree.Node.{Node}
use Rattle.file_tree.specs.declared.tree.Node.TheVariants.{Root, Factotum, Rpc, Ctl, Confirm, Needkey, Proto, Log}

-- what the table says of a file: its name, the path and the type byte of its qid, its mode, and whether it may be
-- opened for writing; each may be opened for reading
pub record File : Type 0 where
  pub name : List ℕ
  pub path : ℕ
  pub kind : ℕ
  pub mode : ℕ
  pub written : Bool

-- the table
abbrev pub file : Node → File
file Root = record { name = codes "/"; path = 0; kind = 0x80; mode = 0x8000016d; written = false }
file Factotum = record { name = codes "factotum"; path = 1; kind = 0x80; mode = 0x8000016d; written = false }
file Rpc = record { name = codes "rpc"; path = 2; kind = 0; mode = 0x000001b6; written = true }
file Ctl = record { name = codes "ctl"; path = 3; kind = 0; mode = 0x00000180; written = true }
file Confirm = record { name = codes "confirm"; path = 4; kind = 0x20; mode = 0x20000180; written = true }
file Needkey = record { name = codes "needkey"; path = 5; kind = 0x20; mode = 0x20000180; written = true }
file Proto = record { name = codes "proto"; path = 6; kind = 0; mode = 0x00000124; written = false }
file Log = record { name = codes "log"; path = 7; kind = 0x20; mode = 0x20000180; written = false }

-- the files of a directory, in order
abbrev pub files_in : Node → List Node
files_in Root = Factotum ∷ []
files_in Factotum = Rpc ∷ Ctl ∷ Confirm ∷ Needkey ∷ Proto ∷ Log ∷ []
files_in node = []

-- the directory in which a file stands; the root stands in itself
abbrev pub parent : Node → Node
parent Root = Root
parent Factotum = Root
parent node = Factotum

-- a file's qid: its version is always 0
abbrev pub qid_of : Node → Qid
qid_of node = record { kind = (file node).kind; vers = 0; path = (file node).path }

-- the bits of a qid's type: a directory, and a file that is open by one fid at a time
abbrev pub is_directory : Node → Bool
is_directory node = (file node).kind == 0x80

abbrev pub is_exclusive : Node → Bool
is_exclusive node = (file node).kind == 0x20

-- up from a directory; under a file nothing is there
abbrev pub up : Node → Option Node
up node = if is_directory node then Some (parent node) else None

-- where one name leads: `..` up, any other to the file of that name in the directory
unfoldable pub step : Node → List ℕ → Option Node
step node name =
    if bytes_eq name (codes "..") then up node
    else find (λ child. bytes_eq name (file child).name) (files_in node)

-- the files that a walk comes to: it follows the names as long as they are there
abbrev pub visited : Node → List (List ℕ) → List Node
visited node [] = []
visited node (name ∷ names) = elim (step node name) [ Some next ↦ next ∷ visited next names | None ↦ [] ]

-- the file to which all of the names lead, where each is there
abbrev pub lead_to : Node → List (List ℕ) → Option Node
lead_to node [] = Some node
lead_to node (name ∷ names) = elim (step node name) [ Some next ↦ lead_to next names | None ↦ None ]
