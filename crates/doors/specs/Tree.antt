-- The tree that is served: the root, and in it one file, which tells for whom it was attached. After section 5 of the
-- Plan 9 manual (intro(5), stat(5), walk(5), read(5)); paths, modes and the owner are this project's own.
use Rattle.std.specs.Prelude.{ℕ, List, [], ◌∷◌, ◌++◌, length, take, drop, nat_le, Bool, true, false, not, ◌&&◌, ◌==◌, Option, Some, None, codes, if◌then◌else◌}
use Rattle.std.specs.Str.{bytes_eq}
use Rattle.nine.specs.declared.qid.Qid.{Qid}
use Rattle.file_tree.specs.Stats.{stat_text}
use Rattle.doors.specs.declared.file.DoorFile.{DoorFile}
use Rattle.doors.specs.declared.file.DoorFile.TheVariants.{Root, Who}

abbrev pub is_directory : DoorFile → Bool
is_directory Root = true
is_directory Who = false

abbrev pub qid_of : DoorFile → Qid
qid_of Root = record { kind = 0x80; vers = 0; path = 0 }
qid_of Who = record { kind = 0; vers = 0; path = 1 }

-- the qid of a fid by which a user is authenticated
abbrev pub auth_qid : Qid
auth_qid = record { kind = 0x08; vers = 0; path = 2 }

abbrev pub name_of : DoorFile → List ℕ
name_of Root = codes "/"
name_of Who = codes "who"

abbrev pub mode_of : DoorFile → ℕ
mode_of Root = 0x8000016d
mode_of Who = 0x00000124

-- a file's record; all of the tree is factotum's
abbrev pub record_of : DoorFile → List ℕ
record_of file = stat_text (record {
  server = 0;
  device = 0;
  qid = qid_of file;
  mode = mode_of file;
  atime = 0;
  mtime = 0;
  extent = 0;
  name = name_of file;
  uid = codes "factotum";
  gid = codes "factotum";
  muid = codes "factotum";
})

-- ---- walks

-- where one name leads: from the root `..` to itself, and `who` to the file; under the file nothing is there
unfoldable pub step : DoorFile → List ℕ → Option DoorFile
step Root name =
    if bytes_eq name (codes "..") then Some Root
    else if bytes_eq name (codes "who") then Some Who
    else None
step Who name = None

-- the files that a walk comes to, as long as the names are there
abbrev pub visited : DoorFile → List (List ℕ) → List DoorFile
visited file [] = []
visited file (name ∷ names) = elim (step file name) [ Some next ↦ next ∷ visited next names | None ↦ [] ]

-- the file to which all of the names lead
abbrev pub lead_to : DoorFile → List (List ℕ) → Option DoorFile
lead_to file [] = Some file
lead_to file (name ∷ names) = elim (step file name) [ Some next ↦ lead_to next names | None ↦ None ]

-- ---- reads

-- a read of the root gives the record of its one file, whole, from 0
abbrev pub listed : ℕ → ℕ → List ℕ
listed offset count = if offset == 0 && nat_le (length (record_of Who)) count then record_of Who else []

-- the text of the file: the user, and a newline
abbrev pub who_text : List ℕ → List ℕ
who_text uname = uname ++ 10 ∷ []

-- what a read gives, for a user
abbrev pub content_of : List ℕ → ℕ → ℕ → DoorFile → List ℕ
content_of uname offset count Root = listed offset count
content_of uname offset count Who = take count (drop offset (who_text uname))
