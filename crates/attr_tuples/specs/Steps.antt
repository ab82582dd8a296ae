-- Words for the steps of printing and reading. No public contract cites them.
use Rattle.std.specs.Prelude.{◌≡◌, ℕ, List, ◌∷◌, ◌++◌, true, false, Option, Some, None, Result, Ok, Err}
use Rattle.attr_tuples.specs.Attributes.{is_name}
use Rattle.attr_tuples.specs.declared.attr.Value.{Value}
use Rattle.attr_tuples.specs.declared.attr.Value.TheVariants.{Is, Ask, Bare}
use Rattle.attr_tuples.specs.declared.fault.TupleFault.{TupleFault}
use Rattle.attr_tuples.specs.declared.parse.Ending.{Ending}
use Rattle.attr_tuples.specs.declared.parse.Ending.TheVariants.{Is as EndingIs, Ask as EndingAsk, Bare as EndingBare}
use Rattle.std.specs.List.{flat_map}
use Rattle.attr_tuples.specs.Printing.{attr_text, hidden}
use Rattle.attr_tuples.specs.declared.attr.Attr.{Attr}
use Rattle.attr_tuples.specs.declared.print.Secrets.{Secrets}
use Rattle.attr_tuples.specs.declared.print.Secrets.TheVariants.{Printed, Hidden}

-- an attribute as it is seen, where secrets are printed or hidden
abbrev pub seen : Secrets → Attr → Attr
seen Printed a = a
seen Hidden a = hidden a

-- attributes as they are seen and printed, each behind a blank
abbrev pub others_text : Secrets → List Attr → List ℕ
others_text secrets attrs = flat_map (λ a. 32 ∷ attr_text (seen secrets a)) attrs

-- what a word has behind its name, as a value
abbrev pub ending_value : Ending → Value
ending_value (EndingIs text) = Is text.now
ending_value EndingAsk = Ask
ending_value EndingBare = Bare

-- attributes are put in front of those that are read behind them
abbrev pub put_all : List Attr → Result (List Attr) TupleFault → Result (List Attr) TupleFault
put_all attrs (Ok others) = Ok (attrs ++ others)
put_all attrs (Err fault) = Err fault

-- the attribute, where its name is one, or none where it isn't
abbrev pub ReadsName : Option Attr → Attr → Type 0
ReadsName (Some attr) a = (attr ≡ a) × (is_name a.name ≡ true)
ReadsName None a = is_name a.name ≡ false
