-- How a conversation of APOP or CRAM is started, after factotum(4) of the Plan 9 manual: a template names the
-- protocol and the side, and what the key must be like. The order of the refusals is this project's.
use Rattle.std.specs.Prelude.{ℕ, List, [], ◌∷◌, Bool, not, ◌||◌, codes, Option, if◌then◌else◌}
use Rattle.std.specs.List.{list_any}
use Rattle.wire_base.specs.Rules.{Rule, first_told}
use Rattle.attr_tuples.specs.declared.attr.Attr.{Attr}
use Rattle.attr_tuples.specs.Matching.{value_of}
use Rattle.key_lists.specs.Lists.{tells_secret}
use Rattle.roles.specs.declared.answer.StartFault.{StartFault}
use Rattle.roles.specs.declared.answer.StartFault.TheVariants.{SecretValue, UnknownProto, UnknownRole}
use Rattle.roles.specs.declared.stage.Role.TheVariants as role
use Rattle.roles.specs.Starts.{Start, says}
use Rattle.roles.specs.Templates.{asked}
use Rattle.conv_challenge.specs.declared.stage.Proto.{Proto}
use Rattle.conv_challenge.specs.declared.stage.Proto.TheVariants.{Apop, Cram}
use Rattle.conv_challenge.specs.declared.stage.Side.{Side}
use Rattle.conv_challenge.specs.declared.stage.Side.TheVariants.{Client, Server}

-- one of the two protocols, and one of the two sides
abbrev pub names_proto : List Attr → Bool
names_proto template = says (codes "proto") (codes "apop") template || says (codes "proto") (codes "cram") template

abbrev pub names_side : List Attr → Bool
names_side template = says (codes "role") (codes "client") template || says (codes "role") (codes "server") template

-- the rules of a start, in order
abbrev pub start_rules : List Attr → List (Rule StartFault)
start_rules template =
    (list_any tells_secret template, SecretValue)
    ∷ (not (names_proto template), UnknownProto)
    ∷ (not (names_side template), UnknownRole)
    ∷ []

-- why a conversation isn't started, if it isn't
unfoldable pub start_fault : List Attr → Option StartFault
start_fault template = first_told (start_rules template)

-- the protocol and the side that a template names
unfoldable pub proto_of : List Attr → Proto
proto_of template = if says (codes "proto") (codes "cram") template then Cram else Apop

unfoldable pub side_of : List Attr → Side
side_of template = if says (codes "role") (codes "server") template then Server else Client

-- the name of a protocol in a template
abbrev pub proto_name : Proto → List ℕ
proto_name Apop = codes "apop"
proto_name Cram = codes "cram"

-- the template asked by a client: a key of its protocol
abbrev pub asked_by_client : Start → List Attr
asked_by_client start =
    asked (proto_name (proto_of start.template)) role.Client start.template (value_of (codes "dom") start.template)

-- the template asked by a server: a key of p9sk1, by which the authentication server knows it
abbrev pub asked_by_server : Start → List Attr
asked_by_server start = asked (codes "p9sk1") role.Server start.template (value_of (codes "dom") start.template)
