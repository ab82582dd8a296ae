-- With what a conversation may be started.
use Rattle.std.specs.Prelude.{◌≡◌, List, true, Option, Some, None}
use Rattle.attr_tuples.specs.declared.attr.Attr.{Attr}
use Rattle.attr_tuples.specs.Attributes.{is_tuple}
use Rattle.roles.specs.Starts.{Start, fits_start}
use Rattle.talks.specs.Protocols.{refuses}
use Rattle.talks.specs.Standings.{Begun}

-- a template is a tuple, leaves room for what is asked of a key, and isn't refused
pub record MayStart (template : List Attr) : Type 0 where
  pub tuple : is_tuple template ≡ true
  pub fits : fits_start template ≡ true
  pub starts : refuses template ≡ None

-- with what a conversation was started, if it was, is such
abbrev pub BegunWith : (Start → Type 0) → Option Begun → Type 0
BegunWith P None = Unit {0}
BegunWith P (Some b) = P b.start

abbrev pub StartsWell : Option Begun → Type 0
StartsWell begun = BegunWith (λ start. MayStart start.template) begun
