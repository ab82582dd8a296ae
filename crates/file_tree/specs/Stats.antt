-- What is told of a file, and how it is laid out, after stat(5) of the Plan 9 manual.
use Rattle.std.specs.Prelude.{◌≡◌, ℕ, List, ◌++◌, codes}
use Rattle.std.specs.Int.{w16, w32, w64, to_le_bytes}
use Rattle.wire_base.specs.Readers.{counted, spelled}
use Rattle.nine.specs.declared.qid.Qid.{Qid}
use Rattle.nine.specs.Messages.{qid_text}
use Rattle.file_tree.specs.declared.tree.Node.{Node}
use Rattle.file_tree.specs.Tree.{file, qid_of}

-- what is told: the kernel's numbers, the qid, the mode, the times of the last read and write, the number of bytes,
-- the name, the owner, the group, and who wrote it last
pub record Stat : Type 0 where
  pub server : ℕ
  pub device : ℕ
  pub qid : Qid
  pub mode : ℕ
  pub atime : ℕ
  pub mtime : ℕ
  pub extent : ℕ
  pub name : List ℕ
  pub uid : List ℕ
  pub gid : List ℕ
  pub muid : List ℕ

-- type[2] dev[4] qid[13] mode[4] atime[4] mtime[4] length[8] name[s] uid[s] gid[s] muid[s]
unfoldable pub stat_fields : Stat → List ℕ
stat_fields s =
    to_le_bytes w16 s.server
    ++ to_le_bytes w32 s.device
    ++ qid_text s.qid
    ++ to_le_bytes w32 s.mode
    ++ to_le_bytes w32 s.atime
    ++ to_le_bytes w32 s.mtime
    ++ to_le_bytes w64 s.extent
    ++ spelled s.name
    ++ spelled s.uid
    ++ spelled s.gid
    ++ spelled s.muid

-- size[2] and the fields; the size counts what follows it
unfoldable pub stat_text : Stat → List ℕ
stat_text s = counted w16 (stat_fields s)

-- what is told of a file of the tree: its name, qid and mode by the table; all of the tree is factotum's
abbrev pub stat_of : Node → Stat
stat_of node = record {
  server = 0;
  device = 0;
  qid = qid_of node;
  mode = (file node).mode;
  atime = 0;
  mtime = 0;
  extent = 0;
  name = (file node).name;
  uid = codes "factotum";
  gid = codes "factotum";
  muid = codes "factotum";
}

-- a file's record
unfoldable pub record_of : Node → List ℕ
record_of node = stat_text (stat_of node)

-- what was written so far stands behind what stood before
abbrev pub Begins : List ℕ → List ℕ → Type 0
Begins old new = (more : List ℕ) × (new ≡ old ++ more)
