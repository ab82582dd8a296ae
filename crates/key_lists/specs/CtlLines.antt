-- The lines that a write of ctl holds, and what they do to a list of keys, one after the other up to the first that is
-- refused; those before it stand. After factotum(4) of the Plan 9 manual; the texts of the refusals are this project's.
use Rattle.std.specs.Prelude.{ℕ, List, [], ◌∷◌, length, take, drop, filter, nat_lt, nat_le, Option, Some, None, Result, Ok, Err, option_map, codes, if◌then◌else◌}
use Rattle.std.specs.Str.{bytes_eq}
use Rattle.attr_tuples.specs.Cutting.{text_lines}
use Rattle.attr_tuples.specs.declared.attr.Attr.{Attr}
use Rattle.attr_tuples.specs.Grammar.{tuple_of}
use Rattle.key_lists.specs.declared.fault.AddFault.{AddFault}
use Rattle.key_lists.specs.declared.fault.AddFault.TheVariants as a
use Rattle.key_lists.specs.declared.fault.DeleteFault.{DeleteFault}
use Rattle.key_lists.specs.declared.fault.DeleteFault.TheVariants as d
use Rattle.key_lists.specs.Lists.{KeyList, add_fault, delete_fault}
use Rattle.key_lists.specs.Edits.{KeyEdit, Add, Delete}
use Rattle.key_lists.specs.Batches.{edited}

-- the lines of a write, the empty ones left out
abbrev pub lines_of : List ℕ → List (List ℕ)
lines_of content = filter (λ line. nat_lt 0 (length line)) (text_lines content)

-- ---- one line

-- a line that can be read: one that edits the keys, or `debug`, which switches the further lines of the log
pub data CtlLine : Type 0 where
  OnKeys : (edit : KeyEdit) → CtlLine
  Debug : CtlLine

-- how many attributes a line may have
abbrev pub most_attrs : ℕ
most_attrs = 32

-- the tuple of few enough attributes that a text is, if it is one
abbrev pub few_of : List ℕ → Option (List Attr)
few_of text = elim (tuple_of text) [ Ok t ↦ if nat_le (length t) most_attrs then Some t else None | Err fault ↦ None ]

-- the line that a tuple makes
abbrev pub line_with : (List Attr → KeyEdit) → Option (List Attr) → Result CtlLine (List ℕ)
line_with edit None = Err (codes "bad tuple")
line_with edit (Some t) = Ok (OnKeys (edit t))

-- what a line says: `key ` and a tuple, `delkey ` and a template, or `debug`; or the text that refuses it
unfoldable pub read_line : List ℕ → Result CtlLine (List ℕ)
read_line line =
    if bytes_eq (take 4 line) (codes "key ") then line_with Add (few_of (drop 4 line))
    else if bytes_eq (take 7 line) (codes "delkey ") then line_with Delete (few_of (drop 7 line))
    else if bytes_eq line (codes "debug") then Ok Debug
    else Err (codes "unknown ctl verb")

-- the texts of the faults of keys
abbrev pub add_text : AddFault → List ℕ
add_text a.AskInKey = codes "question in key"
add_text a.NoProto = codes "no proto"
add_text a.UnknownProto = codes "unknown proto"
add_text a.NoUser = codes "no user"
add_text a.NoDom = codes "no dom"
add_text a.BadName = codes "bad name"
add_text a.NoSecret = codes "no secret"
add_text a.BadHex = codes "bad hex"
add_text a.Full = codes "ring full"
add_text a.NoMemory = codes "out of memory"

abbrev pub delete_text : DeleteFault → List ℕ
delete_text d.SecretValue = codes "secret in template"
delete_text d.NoneMatched = codes "no key matched"

-- why a line that can be read isn't carried out over some keys, if it isn't
abbrev pub line_fault : KeyList → CtlLine → Option (List ℕ)
line_fault keys (OnKeys (Add key)) = option_map add_text (add_fault key keys)
line_fault keys (OnKeys (Delete template)) = option_map delete_text (delete_fault template keys)
line_fault keys Debug = None

-- the keys after it, where it is carried out
abbrev pub keys_with : CtlLine → KeyList → KeyList
keys_with (OnKeys edit) keys = edited edit keys
keys_with Debug keys = keys

-- what a line says that is carried out over some keys, or the text that refuses it
unfoldable pub line_over : KeyList → List ℕ → Result CtlLine (List ℕ)
line_over keys line = elim (read_line line) [
  | Err text ↦ Err text
  | Ok said ↦ elim (line_fault keys said) [ Some text ↦ Err text | None ↦ Ok said ]
]

-- ---- lines one after the other

-- the lines that are carried out, in order: those before the first refused one. Where `debug` stands among them, it
-- stands behind the edits that were carried out before it
abbrev pub carried_out : KeyList → List (List ℕ) → List CtlLine
carried_out keys [] = []
carried_out keys (line ∷ lines) =
    elim (line_over keys line) [ Ok said ↦ said ∷ carried_out (keys_with said keys) lines | Err text ↦ [] ]

-- the text that refuses the first refused one, if one is
abbrev pub lines_fault : KeyList → List (List ℕ) → Option (List ℕ)
lines_fault keys [] = None
lines_fault keys (line ∷ lines) =
    elim (line_over keys line) [ Ok said ↦ lines_fault (keys_with said keys) lines | Err text ↦ Some text ]

-- the keys after lines that are carried out
abbrev pub keys_with_all : List CtlLine → KeyList → KeyList
keys_with_all [] keys = keys
keys_with_all (said ∷ more) keys = keys_with_all more (keys_with said keys)

-- the keys after the lines of a write
abbrev pub after_lines : KeyList → List (List ℕ) → KeyList
after_lines keys lines = keys_with_all (carried_out keys lines) keys
