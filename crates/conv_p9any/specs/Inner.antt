-- The role that is spoken once a domain is chosen: its name, and what it makes of its talks. Nothing else of it is
-- known here.
use Rattle.std.specs.Prelude.{ℕ, List, ◌∷◌, Bool, not, ◌||◌, filter, codes, Some}
use Rattle.attr_tuples.specs.declared.attr.Attr.{Attr}
use Rattle.attr_tuples.specs.Attributes.{is_named}
use Rattle.roles.specs.declared.answer.Gave.{Gave}
use Rattle.roles.specs.declared.need.Need.{Need}
use Rattle.roles.specs.declared.need.Outcome.{Outcome}
use Rattle.roles.specs.Starts.{Start, role_of}
use Rattle.roles.specs.Talks.{Call}
use Rattle.roles.specs.Templates.{asked, given_as}

pub record Inner : Type 0 where
  -- its protocol's name, as a list of offers and a template have it
  pub name : List ℕ
  -- what a call is answered after a talk, and the bytes that are got by it
  pub answers : Start → List Call → Call → Gave
  pub puts : Start → List Call → Call → List ℕ
  -- what is needed after a talk, how it stands as to its end, and whether its last move was made
  pub needs : Start → List Call → Need
  pub ends : Start → List Call → Outcome
  pub ended : Start → List Call → Bool

-- an attribute that the choice replaces
abbrev pub is_replaced : Attr → Bool
is_replaced a = is_named (codes "proto") a || is_named (codes "dom") a

-- the other attributes of a start
abbrev pub left_part : List Attr → List Attr
left_part template = filter (λ a. not (is_replaced a)) template

-- the start of the role of this name in a domain: that of the whole, but for the protocol and the domain
abbrev pub inner_template : List ℕ → List Attr → List ℕ → List Attr
inner_template name template dom = given_as (codes "proto") name ∷ given_as (codes "dom") dom ∷ left_part template

abbrev pub inner_start : List ℕ → Start → List ℕ → Start
inner_start name start dom = record { template = inner_template name start.template dom; word = start.word }

-- the template asked for it in a domain
abbrev pub asked_within : List ℕ → Start → List ℕ → List Attr
asked_within name start dom = asked name (role_of start.template) start.template (Some dom)
