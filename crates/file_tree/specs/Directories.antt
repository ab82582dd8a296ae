-- What a directory is read as: the records of its files, one behind the other, each whole. After read(5) and stat(5)
-- of the Plan 9 manual.
use Rattle.std.specs.Prelude.{ℕ, ◌+◌, ◌-◌, List, [], ◌∷◌, ◌++◌, ◌==◌, nat_le, length, if◌then◌else◌}
use Rattle.std.specs.List.{flat_map}
use Rattle.file_tree.specs.declared.tree.Node.{Node}
use Rattle.file_tree.specs.Tree.{files_in}
use Rattle.file_tree.specs.Stats.{record_of}

-- how many bytes a file's record has
abbrev pub size_of : Node → ℕ
size_of node = length (record_of node)

-- the files whose records stand behind so many bytes
abbrev pub behind : ℕ → List Node → List Node
behind offset [] = []
behind offset (node ∷ nodes) = if offset == 0 then node ∷ nodes else behind (offset - size_of node) nodes

-- as many of the first files as have room for their records, each whole
abbrev pub fitting : ℕ → List Node → List Node
fitting count [] = []
fitting count (node ∷ nodes) = if nat_le (size_of node) count then node ∷ fitting (count - size_of node) nodes else []

-- the files that a read of a directory gives: as many as fit, after those that stand before the offset
abbrev pub files_read : Node → ℕ → ℕ → List Node
files_read node offset count = fitting count (behind offset (files_in node))

-- the records of some files
abbrev pub records : List Node → List ℕ
records nodes = flat_map record_of nodes

-- what the read gives
unfoldable pub dir_bytes : Node → ℕ → ℕ → List ℕ
dir_bytes node offset count = records (files_read node offset count)

-- where the next read may begin
abbrev pub dir_end : Node → ℕ → ℕ → ℕ
dir_end node offset count = offset + length (dir_bytes node offset count)

-- the files that reads with these counts give, each read from where the one before it ended
abbrev pub read_on : Node → ℕ → List ℕ → List Node
read_on node offset [] = []
read_on node offset (count ∷ counts) = files_read node offset count ++ read_on node (dir_end node offset count) counts
