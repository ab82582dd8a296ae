-- The texts that refuse lines of ctl, and which lines take no memory.
use Rattle.std.specs.Prelude.{ℕ, List, [], ◌∷◌, take, Bool, true, not, ◌&&◌, ◌||◌, codes}
use Rattle.std.specs.Str.{bytes_eq}
use Rattle.key_lists.specs.CtlLines.{add_text, delete_text}
use Rattle.key_ring.specs.declared.fault.LineFault.{LineFault}
use Rattle.key_ring.specs.declared.fault.LineFault.TheVariants.{UnknownVerb, BadTuple, Add, Delete}

-- the text of a line that is refused
abbrev pub line_text : LineFault → List ℕ
line_text UnknownVerb = codes "unknown ctl verb"
line_text BadTuple = codes "bad tuple"
line_text (Add fault) = add_text fault
line_text (Delete fault) = delete_text fault

-- a tuple stands behind the verb of the line
abbrev pub has_tuple_verb : List ℕ → Bool
has_tuple_verb line = bytes_eq (take 4 line) (codes "key ") || bytes_eq (take 7 line) (codes "delkey ")

-- no line has a tuple, up to the first that is none but `debug`: the verb of that one isn't known
abbrev pub has_no_tuple : List (List ℕ) → Bool
has_no_tuple [] = true
has_no_tuple (line ∷ lines) = not (has_tuple_verb line) && (not (bytes_eq line (codes "debug")) || has_no_tuple lines)
