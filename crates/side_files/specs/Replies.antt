-- What is written to a file of questions, after factotum(4) of the Plan 9 manual: a tag, and whether it is agreed.
-- Its exact form is this project's.
use Rattle.std.specs.Prelude.{ℕ, List, [], ◌∷◌, Bool, false, codes, Option, Some, None, Result, Ok, Err, option_map, if◌then◌else◌}
use Rattle.std.specs.Str.{bytes_eq}
use Rattle.attr_tuples.specs.declared.attr.Attr.{Attr}
use Rattle.attr_tuples.specs.declared.fault.TupleFault.{TupleFault}
use Rattle.attr_tuples.specs.Attributes.{is_named}
use Rattle.attr_tuples.specs.Matching.{value_of}
use Rattle.attr_tuples.specs.Grammar.{tuple_of}
use Rattle.side_files.specs.declared.reply.Reply.{Reply}
use Rattle.side_files.specs.Reading.{number_in, without_newline}

-- the number that the first attribute named `tag` gives
abbrev pub tag_among : List Attr → Option ℕ
tag_among [] = None
tag_among (a ∷ more) = if is_named (codes "tag") a then number_in a.value else tag_among more

-- an answer that is `yes` agrees, any other and none do not
abbrev pub is_yes : Option (List ℕ) → Bool
is_yes (Some text) = bytes_eq text (codes "yes")
is_yes None = false

-- whether attributes agree: their first answer counts
abbrev pub agrees : List Attr → Bool
agrees attrs = is_yes (value_of (codes "answer") attrs)

-- a reply: whether it agrees, its tag
abbrev pub reply : Bool → ℕ → Reply
reply agreed tag = record { tag = tag; agrees = agreed }

-- the reply of a text that is a tuple
abbrev pub replies : Result (List Attr) TupleFault → Option Reply
replies (Ok attrs) = option_map (reply (agrees attrs)) (tag_among attrs)
replies (Err fault) = None

-- the reply that a text is, if it is one; one newline at its end counts for nothing
unfoldable pub reply_of : List ℕ → Option Reply
reply_of text = replies (tuple_of (without_newline text))
