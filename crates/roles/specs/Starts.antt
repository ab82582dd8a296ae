-- How a conversation is started, after factotum(4) of the Plan 9 manual: a template names the protocol and the role,
-- and what the key must be like. The order of the refusals, and that a role may speak for a user, are this project's.
use Rattle.std.specs.Prelude.{◌≡◌, ℕ, List, [], ◌∷◌, Bool, true, false, false, not, ◌&&◌, ◌||◌, nat_le, length, filter, codes, Option, Some, None, unwrap_or, Result, Ok, Err, if◌then◌else◌}
use Rattle.std.specs.List.{list_any}
use Rattle.std.specs.Str.{bytes_eq}
use Rattle.wire_base.specs.Rules.{Rule, first_told}
use Rattle.attr_tuples.specs.declared.attr.Attr.{Attr}
use Rattle.attr_tuples.specs.Attributes.{is_named}
use Rattle.attr_tuples.specs.Matching.{value_of}
use Rattle.attr_tuples.specs.Forms.{is_user}
use Rattle.key_lists.specs.Lists.{tells_secret}
use Rattle.roles.specs.declared.stage.Role.{Role}
use Rattle.roles.specs.declared.start.TheConstants.{MOST_OTHERS}
use Rattle.roles.specs.declared.stage.Role.TheVariants.{Client, Server, Speakfor}
use Rattle.roles.specs.declared.answer.StartFault.{StartFault}
use Rattle.roles.specs.declared.answer.StartFault.TheVariants.{SecretValue, UnknownProto, UnknownRole, BadUser}

-- what a conversation is started with: its template, and a random word of eight bytes, which is its challenge
pub record Start : Type 0 where
  pub template : List Attr
  pub word : List ℕ

abbrev pub start_with : List Attr → List ℕ → Start
start_with template word = record { template = template; word = word }

-- the attributes that aren't named `dom`
abbrev pub others : List Attr → List Attr
others template = filter (λ a. not (is_named (codes "dom") a)) template

-- what may start a conversation: few attributes beside those named `dom`, so that what is asked of a key fits a tuple
abbrev pub fits_start : List Attr → Bool
fits_start template = nat_le (length (others template)) MOST_OTHERS

-- a text, if there is one, is this
abbrev pub is_text_of : Option (List ℕ) → List ℕ → Bool
is_text_of None text = false
is_text_of (Some given) text = bytes_eq given text

-- a text, if there is one, is a user
abbrev pub is_some_user : Option (List ℕ) → Bool
is_some_user None = false
is_some_user (Some text) = is_user text

-- the first value that a template gives to a name is this text
abbrev pub says : List ℕ → List ℕ → List Attr → Bool
says name text template = is_text_of (value_of name template) text

-- a role of p9sk1, or of p9any
abbrev pub names_role : List Attr → Bool
names_role template = says (codes "role") (codes "client") template
    || (says (codes "role") (codes "server") template || says (codes "role") (codes "speakfor") template)

-- it is to speak for somebody who is no user
abbrev pub speaks_for_nobody : List Attr → Bool
speaks_for_nobody template =
    says (codes "role") (codes "speakfor") template && not (is_some_user (value_of (codes "user") template))

-- the rules of a start of a protocol that has these three roles, in order
abbrev pub rules_of : List ℕ → List Attr → List (Rule StartFault)
rules_of protocol template =
    (list_any tells_secret template, SecretValue)
    ∷ (not (says (codes "proto") protocol template), UnknownProto)
    ∷ (not (names_role template), UnknownRole)
    ∷ (speaks_for_nobody template, BadUser)
    ∷ []

-- why a conversation of that protocol isn't started, if it isn't
unfoldable pub fault_of : List ℕ → List Attr → Option StartFault
fault_of protocol template = first_told (rules_of protocol template)

-- the same of p9sk1
unfoldable pub start_fault : List Attr → Option StartFault
start_fault template = first_told (rules_of (codes "p9sk1") template)

-- the role that a template names
unfoldable pub role_of : List Attr → Role
role_of template =
    if says (codes "role") (codes "speakfor") template then Speakfor (unwrap_or (value_of (codes "user") template) [])
    else if says (codes "role") (codes "server") template then Server
    else Client

-- a start of a protocol and its role, or why it is none
abbrev pub StartsAs : List ℕ → Result Role StartFault → List Attr → Type 0
StartsAs protocol (Ok role) template = (fault_of protocol template ≡ None) × (role ≡ role_of template)
StartsAs protocol (Err fault) template = fault_of protocol template ≡ Some fault

-- the same of p9sk1
abbrev pub Starts : Result Role StartFault → List Attr → Type 0
Starts (Ok role) template = (start_fault template ≡ None) × (role ≡ role_of template)
Starts (Err fault) template = start_fault template ≡ Some fault

-- of a start that speaks for somebody the user, or that he is none
abbrev pub Speaks : Result Role StartFault → List Attr → Type 0
Speaks (Ok role) template = (is_some_user (value_of (codes "user") template) ≡ true)
    × (role ≡ Speakfor (unwrap_or (value_of (codes "user") template) []))
Speaks (Err fault) template = (is_some_user (value_of (codes "user") template) ≡ false) × (fault ≡ BadUser)
