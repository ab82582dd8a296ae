-- A template that starts p9any, with another protocol and a domain in the place of its own, starts that protocol.
use Rattle.std.proofs.Common.{◌≡◌, ℕ, ◌+◌, ◌≤◌, List, [], ◌∷◌, Bool, true, false, not, ◌&&◌, ◌||◌, length, codes, Option, Some, None, if◌then◌else◌, cond, refl, ap, ◌∙◌, arith}
use Rattle.std.specs.List.{list_any, slice_get, cons_option}
use Rattle.std.specs.Str.{bytes_eq}
use Rattle.std.proofs.lemmas.Bool.{leb-true, le-leb}
use Rattle.std.proofs.lemmas.Slice.Eq.{bytes_eq-Decides}
use Rattle.wire_base.specs.Rules.{first_told}
use Rattle.attr_tuples.specs.declared.attr.Attr.{Attr}
use Rattle.attr_tuples.specs.declared.attr.Value.{Value}
use Rattle.attr_tuples.specs.Attributes.{is_named}
use Rattle.attr_tuples.specs.Matching.{given_text, texts_of, value_of}
use Rattle.key_lists.specs.Lists.{tells_secret}
use Rattle.roles.specs.declared.answer.StartFault.TheVariants.{SecretValue, UnknownProto, UnknownRole, BadUser}
use Rattle.roles.specs.Starts.{fault_of, fits_start, is_some_user, is_text_of, names_role, others, says, speaks_for_nobody}
use Rattle.conv_p9any.specs.Inner.{inner_template, is_replaced, left_part}

-- ---- how many attributes are left

-- one attribute more, by whether it is named `proto` or `dom`
left_step : (proto dom : Bool) (a : Attr) (left kept : List Attr) → length left ≤ length kept → length (if not (proto || dom) then a ∷ left else left) ≤ length (if not dom then a ∷ kept else kept)
left_step true true a left kept h = h
left_step true false a left kept h = omega (arith, h)
left_step false true a left kept h = h
left_step false false a left kept h = omega (arith, h)

left_less : (template : List Attr) → length (left_part template) ≤ length (others template)
left_less [] = omega arith
left_less (a ∷ template) = left_step (is_named (codes "proto") a) (is_named (codes "dom") a) a (left_part template) (others template) (left_less template)

pub left_few : (template : List Attr) → fits_start template ≡ true → length (left_part template) ≤ 32
left_few template h = omega (arith, left_less template, leb-true (length (others template)) 32 h)

-- no attribute is named both
one_name : (a : Attr) → is_named (codes "proto") a ≡ true → is_named (codes "dom") a ≡ false
one_name a h = let same : a.name ≡ codes "proto" = (bytes_eq-Decides a.name (codes "proto")).0 h in ap (λ name. bytes_eq name (codes "dom")) same

-- where one gives the protocol, fewer are left
fewer_step : (proto dom : Bool) (a : Attr) (v : Value) (texts : List (List ℕ)) (text : List ℕ) (left kept : List Attr) → (proto ≡ true → dom ≡ false) → length left ≤ length kept → (slice_get texts 0 ≡ Some text → length left + 1 ≤ length kept) → slice_get (cons_option (cond proto (given_text v) None) texts) 0 ≡ Some text → length (if not (proto || dom) then a ∷ left else left) + 1 ≤ length (if not dom then a ∷ kept else kept)
fewer_step true true a v texts text left kept one less rest e = let no_way : true ≡ false = one refl in absurd cc
fewer_step true false a v texts text left kept one less rest e = omega (arith, less)
fewer_step false true a v texts text left kept one less rest e = rest e
fewer_step false false a v texts text left kept one less rest e = omega (arith, rest e)

left_fewer : (template : List Attr) (text : List ℕ) → value_of (codes "proto") template ≡ Some text → length (left_part template) + 1 ≤ length (others template)
unfolding value_of
left_fewer [] text e = absurd cc
left_fewer (a ∷ template) text e =
    fewer_step (is_named (codes "proto") a) (is_named (codes "dom") a) a a.value (texts_of (codes "proto") template) text (left_part template) (others template) (one_name a) (left_less template) (left_fewer template text) e

-- ---- what is left gives other names what the whole gives them

texts_step : (named replaced : Bool) (a : Attr) (v : Value) (name : List ℕ) (left : List Attr) (texts : List (List ℕ)) → (named ≡ true → replaced ≡ false) → texts_of name left ≡ texts → texts_of name (a ∷ left) ≡ cons_option (cond named (given_text v) None) (texts_of name left) → texts_of name (if not replaced then a ∷ left else left) ≡ cons_option (cond named (given_text v) None) texts
texts_step true true a v name left texts one same first = let no_way : true ≡ false = one refl in absurd cc
texts_step true false a v name left texts one same first = first ∙ ap (cons_option (given_text v)) same
texts_step false true a v name left texts one same first = same
texts_step false false a v name left texts one same first = first ∙ same

texts_left : (name : List ℕ) → ((a : Attr) → is_named name a ≡ true → is_replaced a ≡ false) → (template : List Attr) → texts_of name (left_part template) ≡ texts_of name template
texts_left name one [] = refl
texts_left name one (a ∷ template) = texts_step (is_named name a) (is_replaced a) a a.value name (left_part template) (texts_of name template) (one a) (texts_left name one template) refl

value_left : (name : List ℕ) → ((a : Attr) → is_named name a ≡ true → is_replaced a ≡ false) → (template : List Attr) → value_of name (left_part template) ≡ value_of name template
unfolding value_of
value_left name one template = ap (λ texts. slice_get texts 0) (texts_left name one template)

role_left : (template : List Attr) → value_of (codes "role") (left_part template) ≡ value_of (codes "role") template
role_left = value_left (codes "role") (λ a h. let same : a.name ≡ codes "role" = (bytes_eq-Decides a.name (codes "role")).0 h in ap (λ name. bytes_eq name (codes "proto") || bytes_eq name (codes "dom")) same)

user_left : (template : List Attr) → value_of (codes "user") (left_part template) ≡ value_of (codes "user") template
user_left = value_left (codes "user") (λ a h. let same : a.name ≡ codes "user" = (bytes_eq-Decides a.name (codes "user")).0 h in ap (λ name. bytes_eq name (codes "proto") || bytes_eq name (codes "dom")) same)

-- ---- and it tells no secret that the whole doesn't tell

secret_step : (replaced secret : Bool) (a : Attr) (left : List Attr) (more : Bool) → tells_secret a ≡ secret → (more ≡ false → list_any tells_secret left ≡ false) → (secret || more) ≡ false → list_any tells_secret (if not replaced then a ∷ left else left) ≡ false
secret_step true true a left more same rest h = absurd cc
secret_step true false a left more same rest h = rest h
secret_step false true a left more same rest h = absurd cc
secret_step false false a left more same rest h = rw same (rest h)

secrets_left : (template : List Attr) → list_any tells_secret template ≡ false → list_any tells_secret (left_part template) ≡ false
secrets_left [] h = refl
secrets_left (a ∷ template) h = secret_step (is_replaced a) (tells_secret a) a (left_part template) (list_any tells_secret template) refl (secrets_left template) h

-- ---- the rules of starts

-- four rules that aren't broken
abbrev Kept : Bool → Bool → Bool → Bool → Type 0
Kept a b c d = (a ≡ false) × ((b ≡ false) × ((c ≡ false) × (d ≡ false)))

rules_kept : (a b c d : Bool) → first_told ((a, SecretValue) ∷ (b, UnknownProto) ∷ (c, UnknownRole) ∷ (d, BadUser) ∷ []) ≡ None → Kept a b c d
rules_kept true b c d h = absurd cc
rules_kept false true c d h = absurd cc
rules_kept false false true d h = absurd cc
rules_kept false false false true h = absurd cc
rules_kept false false false false h = (refl, (refl, (refl, refl)))

kept_by : (name : List ℕ) (template : List Attr) → fault_of name template ≡ None → Kept (list_any tells_secret template) (not (says (codes "proto") name template)) (not (names_role template)) (speaks_for_nobody template)
unfolding fault_of
kept_by name template h = rules_kept (list_any tells_secret template) (not (says (codes "proto") name template)) (not (names_role template)) (speaks_for_nobody template) h

-- by these values
abbrev role_given : Option (List ℕ) → Bool
role_given role = is_text_of role (codes "client") || (is_text_of role (codes "server") || is_text_of role (codes "speakfor"))

abbrev nobody_given : Option (List ℕ) → Option (List ℕ) → Bool
nobody_given role user = is_text_of role (codes "speakfor") && not (is_some_user user)

inner_role : (name : List ℕ) (template : List Attr) (dom : List ℕ) → value_of (codes "role") (inner_template name template dom) ≡ value_of (codes "role") template
unfolding value_of
inner_role name template dom = role_left template

inner_user : (name : List ℕ) (template : List Attr) (dom : List ℕ) → value_of (codes "user") (inner_template name template dom) ≡ value_of (codes "user") template
unfolding value_of
inner_user name template dom = user_left template

inner_proto : (name : List ℕ) (template : List Attr) (dom : List ℕ) → value_of (codes "proto") (inner_template name template dom) ≡ Some name
unfolding value_of
inner_proto name template dom = refl

pub inner_starts : (name : List ℕ) (template : List Attr) (dom : List ℕ) → fault_of (codes "p9any") template ≡ None → fault_of name (inner_template name template dom) ≡ None
unfolding fault_of
inner_starts name template dom h =
    let kept = kept_by (codes "p9any") template h in
    let secret : list_any tells_secret (inner_template name template dom) ≡ false = secrets_left template kept.0 in
    let proto : not (says (codes "proto") name (inner_template name template dom)) ≡ false =
    ap (λ v. not (is_text_of v name)) (inner_proto name template dom) ∙ ap not ((bytes_eq-Decides name name).1 refl) in
    let role : not (names_role (inner_template name template dom)) ≡ false = ap (λ v. not (role_given v)) (inner_role name template dom) ∙ kept.1.1.0 in
    let user : speaks_for_nobody (inner_template name template dom) ≡ false =
    ap (λ v. nobody_given v (value_of (codes "user") (inner_template name template dom))) (inner_role name template dom)
    ∙ ap (λ v. nobody_given (value_of (codes "role") template) v) (inner_user name template dom) ∙ kept.1.1.1 in
    rw (secret, proto, role, user) refl

-- ---- and it fits

is_given : (given : Option (List ℕ)) (text : List ℕ) → not (is_text_of given text) ≡ false → (x : List ℕ) × (given ≡ Some x)
is_given None text h = absurd cc
is_given (Some x) text h = (x, refl)

-- none of what is left is named `dom`
others_step : (proto dom : Bool) (a : Attr) (left : List Attr) → is_named (codes "dom") a ≡ dom → length (others left) ≤ length left → length (others (if not (proto || dom) then a ∷ left else left)) ≤ length (if not (proto || dom) then a ∷ left else left)
others_step true true a left same h = h
others_step true false a left same h = h
others_step false true a left same h = h
others_step false false a left same h = rw same (omega (arith, h))

others_left : (template : List Attr) → length (others (left_part template)) ≤ length (left_part template)
others_left [] = omega arith
others_left (a ∷ template) = others_step (is_named (codes "proto") a) (is_named (codes "dom") a) a (left_part template) refl (others_left template)

pub inner_fits : (name : List ℕ) (template : List Attr) (dom : List ℕ) → fault_of (codes "p9any") template ≡ None → fits_start template ≡ true → fits_start (inner_template name template dom) ≡ true
inner_fits name template dom h fits =
    let proto = is_given (value_of (codes "proto") template) (codes "p9any") (kept_by (codes "p9any") template h).1.0 in
    le-leb (length (others (inner_template name template dom))) 32
    (omega (arith, others_left template, left_fewer template proto.0 proto.1, leb-true (length (others template)) 32 fits))
