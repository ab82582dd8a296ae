-- The template by which a role asks for its key, after factotum(4) of the Plan 9 manual. Its order, and what stands in
-- it, are this project's.
use Rattle.std.specs.Prelude.{ℕ, List, [], ◌∷◌, ◌++◌, Bool, not, ◌&&◌, ◌||◌, filter, codes, is_some, Option, Some, None, if◌then◌else◌}
use Rattle.attr_tuples.specs.declared.attr.Attr.{Attr}
use Rattle.attr_tuples.specs.declared.attr.Value.TheVariants.{Is, Ask}
use Rattle.attr_tuples.specs.Attributes.{is_named, is_public}
use Rattle.attr_tuples.specs.Matching.{has_name, value_of}
use Rattle.attr_tuples.specs.Printing.{printed_text}
use Rattle.roles.specs.declared.stage.Role.{Role}
use Rattle.roles.specs.declared.stage.Role.TheVariants.{Client, Server, Speakfor}
use Rattle.roles.specs.Starts.{Start, role_of}

-- `name=text`
abbrev pub given_as : List ℕ → List ℕ → Attr
given_as name text = record { name = name; value = Is text }

-- `name?`
abbrev pub asked_as : List ℕ → Attr
asked_as name = record { name = name; value = Ask }

-- the domain, where the role knows one
abbrev pub dom_part : Option (List ℕ) → List Attr
dom_part None = []
dom_part (Some dom) = given_as (codes "dom") dom ∷ []

-- an attribute of the start that says what is started, or where
abbrev pub is_set : Attr → Bool
is_set a = is_named (codes "proto") a || (is_named (codes "role") a || is_named (codes "dom") a)

-- an attribute of the start that the role itself answers: who speaks for a user has a key of another
abbrev pub is_own : Role → Attr → Bool
is_own (Speakfor user) a = is_set a || is_named (codes "user") a
is_own Client a = is_set a
is_own Server a = is_set a

-- the other public attributes of the start, in order
abbrev pub is_other : Role → Attr → Bool
is_other role a = is_public a && not (is_own role a)

abbrev pub others_part : Role → List Attr → List Attr
others_part role start = filter (is_other role) start

-- a user is asked for, where none is named
abbrev pub user_part : List Attr → List Attr
user_part others = if has_name others (codes "user") then [] else asked_as (codes "user") ∷ []

-- a server that knows no domain asks for one
abbrev pub ask_dom_part : Role → Bool → List Attr
ask_dom_part Server known = if known then [] else asked_as (codes "dom") ∷ []
ask_dom_part Client known = []
ask_dom_part (Speakfor user) known = []

-- the template asked of a protocol's keys: by a role, for its start, with the domain that it knows, if it knows one
unfoldable pub asked : List ℕ → Role → List Attr → Option (List ℕ) → List Attr
asked protocol role start dom =
    given_as (codes "proto") protocol
    ∷ (dom_part dom ++ (others_part role start
    ++ (user_part (others_part role start) ++ ask_dom_part role (is_some dom))))

-- what p9sk1 asks for in a domain that came with a message
abbrev pub asked_in : Start → List ℕ → List Attr
asked_in start dom = asked (codes "p9sk1") (role_of start.template) start.template (Some dom)

-- what p9sk1 asks for at its start: the domain is that of the start, if it has one
abbrev pub asked_first : Start → List Attr
asked_first start = asked (codes "p9sk1") (role_of start.template) start.template
    (value_of (codes "dom") start.template)

-- the template as it is shown to who is to bring a key
unfoldable pub shown_text : List Attr → List ℕ
shown_text template = printed_text template ++ codes " !password?"
