-- A start's step names the protocol and the role that its template names.
use Rattle.std.proofs.Common.{◌≡◌, ℕ, List, [], ◌∷◌, Bool, true, false, not, ◌||◌, codes, Option, Some, None, if◌then◌else◌, refl, ap, ◌∙◌}
use Rattle.std.specs.List.{list_any}
use Rattle.std.specs.Str.{bytes_eq}
use Rattle.std.proofs.lemmas.Slice.Eq.{bytes_eq-Decides}
use Rattle.wire_base.specs.Rules.{first_told}
use Rattle.attr_tuples.specs.declared.attr.Attr.{Attr}
use Rattle.attr_tuples.specs.Matching.{value_of}
use Rattle.key_lists.specs.Lists.{tells_secret}
use Rattle.wire_histories.specs.declared.step.Protocol.TheVariants as p
use Rattle.wire_histories.specs.declared.step.Role.TheVariants as q
use Rattle.roles.specs.declared.stage.Role.TheVariants as k
use Rattle.roles.specs.declared.answer.StartFault.TheVariants.{SecretValue, UnknownProto, UnknownRole}
use Rattle.roles.specs.Starts.{is_text_of, role_of, says, start_with}
use Rattle.conv_challenge.specs.declared.stage.Proto.TheVariants as m
use Rattle.conv_challenge.specs.declared.stage.Side.TheVariants as d
use Rattle.conv_challenge.specs.Starts.{names_proto, names_side, proto_of, side_of, start_fault}
use Rattle.talks.specs.Protocols.{Protocol as Spoken, Mail, P9any, P9sk1, protocol_of, refuses, refuses_by}
use Rattle.wire_histories.specs.Histories.{started}
use Rattle.wire_histories.specs.Conversations.{part_as, protocol_as, role_as, side_as, started_by}
use Rattle.world_history.specs.Talking.{protocol_named, role_named}

-- a template that says one text of a name says no other
other_text : (given : Option (List ℕ)) (one other : List ℕ) → bytes_eq one other ≡ false → is_text_of given one ≡ true → is_text_of given other ≡ false
other_text None one other apart is = refl
other_text (Some text) one other apart is = ap (λ t. bytes_eq t other) ((bytes_eq-Decides text one).0 is) ∙ apart

says_other : (name one other : List ℕ) (template : List Attr) → bytes_eq one other ≡ false → says name one template ≡ true → says name other template ≡ false
says_other name one other template apart is = other_text (value_of name template) one other apart is

-- ---- the protocol

protocol_so : (template : List Attr) → protocol_named template ≡ protocol_as (protocol_of template) (proto_of template)
unfolding protocol_of proto_of
protocol_so template =
    by_tests (says (codes "proto") (codes "p9any") template) (says (codes "proto") (codes "apop") template) (says (codes "proto") (codes "cram") template)
    (says_other (codes "proto") (codes "apop") (codes "cram") template refl)
  where
    by_tests : (any apop cram : Bool) → (apop ≡ true → cram ≡ false) → (if any then p.P9any else if apop then p.Apop else if cram then p.Cram else p.P9sk1) ≡ protocol_as (if any then P9any else if apop || cram then Mail else P9sk1) (if cram then m.Cram else m.Apop)
    by_tests true apop cram apart = refl
    by_tests false true true apart = cc (apart refl)
    by_tests false true false apart = refl
    by_tests false false true apart = refl
    by_tests false false false apart = refl

-- ---- the role

part_so : (template : List Attr) → role_named template ≡ part_as (role_of template)
unfolding role_of
part_so template = by_tests (says (codes "role") (codes "speakfor") template) (says (codes "role") (codes "server") template) _
  where
    by_tests : (speakfor server : Bool) (user : List ℕ) → (if speakfor then q.Speakfor else if server then q.Server else q.Client) ≡ part_as (if speakfor then k.Speakfor user else if server then k.Server else k.Client)
    by_tests true server user = refl
    by_tests false true user = refl
    by_tests false false user = refl

-- a start of a mail protocol is no one's who speaks for somebody
side_so : (template : List Attr) → names_side template ≡ true → role_named template ≡ side_as (side_of template)
unfolding side_of
side_so template is =
    by_tests (says (codes "role") (codes "speakfor") template) (says (codes "role") (codes "server") template) (says (codes "role") (codes "client") template) is
    (says_other (codes "role") (codes "server") (codes "speakfor") template refl) (says_other (codes "role") (codes "client") (codes "speakfor") template refl)
  where
    by_tests : (speakfor server client : Bool) → (client || server) ≡ true → (server ≡ true → speakfor ≡ false) → (client ≡ true → speakfor ≡ false) → (if speakfor then q.Speakfor else if server then q.Server else q.Client) ≡ side_as (if server then d.Server else d.Client)
    by_tests true true client some one other = cc (one refl)
    by_tests true false true some one other = cc (other refl)
    by_tests true false false some one other = cc some
    by_tests false true client some one other = refl
    by_tests false false client some one other = refl

three_rules : (a b c : Bool) → first_told ((a, SecretValue) ∷ (b, UnknownProto) ∷ (not c, UnknownRole) ∷ []) ≡ None → c ≡ true
three_rules true b c none = cc none
three_rules false true c none = cc none
three_rules false false true none = refl
three_rules false false false none = cc none

mail_side : (template : List Attr) → start_fault template ≡ None → names_side template ≡ true
unfolding start_fault
mail_side template none = three_rules (list_any tells_secret template) (not (names_proto template)) (names_side template) none

role_so : (template : List Attr) → refuses template ≡ None → role_named template ≡ role_as (protocol_of template) (role_of template) (side_of template)
role_so template none = by_protocol (protocol_of template) none
  where
    by_protocol : (protocol : Spoken) → refuses_by protocol template ≡ None → role_named template ≡ role_as protocol (role_of template) (side_of template)
    by_protocol P9sk1 is = part_so template
    by_protocol P9any is = part_so template
    by_protocol Mail is = side_so template (mail_side template is)

pub start_named : (template : List Attr) (word : List ℕ) → refuses template ≡ None → started (protocol_named template) (role_named template) word ≡ started_by (start_with template word)
start_named template word none =
    ap (λ a. started a (role_named template) word) (protocol_so template)
    ∙ ap (λ b. started (protocol_as (protocol_of template) (proto_of template)) b word) (role_so template none)
