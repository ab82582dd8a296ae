-- Which tuples are keys. After factotum(4) of the Plan 9 manual: a key names its protocol, its user, for p9sk1 its
-- domain too, and a secret; the protocols and the order of the rules are this project's.
use Rattle.std.specs.Prelude.{ℕ, List, [], ◌∷◌, Bool, true, false, not, ◌&&◌, ◌||◌, find, codes, Option, Some, None}
use Rattle.std.specs.List.{list_any}
use Rattle.std.specs.Str.{bytes_eq}
use Rattle.wire_base.specs.Rules.{Rule, first_told}
use Rattle.attr_tuples.specs.declared.attr.Attr.{Attr}
use Rattle.attr_tuples.specs.declared.attr.Value.{Value}
use Rattle.attr_tuples.specs.declared.attr.Value.TheVariants.{Is, Ask, Bare}
use Rattle.attr_tuples.specs.Attributes.{is_named, is_given}
use Rattle.attr_tuples.specs.Forms.{is_user, is_dom, is_hex_key}
use Rattle.attr_tuples.specs.Giving.{gives, gives_once, is_any}
use Rattle.attr_tuples.specs.Matching.{has_name}
use Rattle.key_lists.specs.declared.fault.AddFault.{AddFault}
use Rattle.key_lists.specs.declared.fault.AddFault.TheVariants.{AskInKey, NoProto, UnknownProto, NoUser, NoDom, BadName, NoSecret, BadHex}

-- ---- what is asked of attributes

-- whether an attribute asks for its value
abbrev pub is_asked : Attr → Bool
is_asked a = asks a.value
  where
    asks : Value → Bool
    asks Ask = true
    asks (Is text) = false
    asks Bare = false

-- a protocol whose keys are kept
abbrev pub is_protocol : List ℕ → Bool
is_protocol text = bytes_eq text (codes "p9sk1") || (bytes_eq text (codes "apop") || bytes_eq text (codes "cram"))

-- ---- the rules

-- a key of p9sk1
abbrev pub is_p9sk1 : List Attr → Bool
is_p9sk1 key = gives (codes "proto") (λ text. bytes_eq text (codes "p9sk1")) key

-- there is a secret that the protocol can use: a password, or for p9sk1 the key itself
abbrev pub has_secret : List Attr → Bool
has_secret key = gives (codes "!password") is_any key || is_p9sk1 key && gives (codes "!hex") is_any key

-- an attribute, if there is one, isn't given seven bytes in hexadecimal digits
abbrev pub is_bad_hex : Option Attr → Bool
is_bad_hex None = false
is_bad_hex (Some a) = not (is_given is_hex_key a.value)

-- the user is named more than once, or isn't one; or the domain, where it is named
abbrev pub has_bad_name : List Attr → Bool
has_bad_name key = not (gives_once (codes "user") is_user key)
    || has_name key (codes "dom") && not (gives_once (codes "dom") is_dom key)

-- the rules of a key, in order
abbrev pub key_rules : List Attr → List (Rule AddFault)
key_rules key =
    (list_any is_asked key, AskInKey)
    ∷ (not (has_name key (codes "proto")), NoProto)
    ∷ (not (gives_once (codes "proto") is_protocol key), UnknownProto)
    ∷ (not (has_name key (codes "user")), NoUser)
    ∷ (is_p9sk1 key && not (has_name key (codes "dom")), NoDom)
    ∷ (has_bad_name key, BadName)
    ∷ (not (has_secret key), NoSecret)
    ∷ (is_p9sk1 key && is_bad_hex (find (is_named (codes "!hex")) key), BadHex)
    ∷ []

-- why a tuple is no key, if it is none
unfoldable pub key_fault : List Attr → Option AddFault
key_fault key = first_told (key_rules key)
