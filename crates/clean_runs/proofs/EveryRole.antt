-- Every conversation that may be is lawful, whatever its protocol and its role.
use Rattle.std.proofs.Common.{◌≡◌, ℕ, List, [], ◌∷◌, Bool, true, false, Option, Some, None, unwrap_or, not, ◌&&◌, nat_le, length, if◌then◌else◌, inl, inr, refl, sym, ap, subst, ◌∙◌}
use Rattle.std.proofs.lemmas.Bool.{and_parts}
use Rattle.std.specs.Prelude.{◌⊎◌, codes}
use Rattle.std.specs.List.{list_all, list_any, slice_get}
use Rattle.wire_base.specs.Names.{IsName}
use Rattle.wire_base.specs.Rules.{Rule, first_told}
use Rattle.wire_base.specs.Texts.{is_text}
use Rattle.attr_tuples.specs.Lines.{is_line_byte}
use Rattle.attr_tuples.specs.declared.attr.Attr.{Attr}
use Rattle.attr_tuples.specs.declared.attr.Value.{Value}
use Rattle.attr_tuples.specs.declared.attr.Value.TheVariants.{Is, Ask, Bare}
use Rattle.attr_tuples.specs.Attributes.{is_attr, is_name, is_named, is_tuple, is_value}
use Rattle.attr_tuples.specs.Matching.{texts_of, value_of}
use Rattle.attr_tuples.proofs.FormLaws.{user_named}
use Rattle.key_lists.specs.Lists.{tells_secret}
use Rattle.roles.specs.declared.answer.StartFault.{StartFault}
use Rattle.roles.specs.declared.stage.Role.{Role}
use Rattle.roles.specs.declared.stage.Role.TheVariants.{Client, Server, Speakfor}
use Rattle.roles.specs.Starts.{fault_of, is_some_user, names_role, role_of, rules_of, says, speaks_for_nobody, start_fault}
use Rattle.conv_challenge.specs.declared.stage.Side.{Side}
use Rattle.conv_challenge.specs.declared.stage.Side.TheVariants as side
use Rattle.conv_challenge.specs.Starts.{side_of}
use Rattle.talks.specs.Protocols.{Mail, P9any, P9sk1, Protocol, protocol_of, refuses_by}
use Rattle.wire_histories.specs.Legal.{MayBe, Spoken}
use Rattle.clean_runs.proofs.AnyClientLaw.{any_client_is_lawful}
use Rattle.clean_runs.proofs.AnyServerLaw.{any_server_is_lawful}
use Rattle.clean_runs.proofs.Follows.{IsLawful}
use Rattle.clean_runs.proofs.MailClientLaw.{mail_client_is_lawful}
use Rattle.clean_runs.proofs.MailServerLaw.{mail_server_is_lawful}
use Rattle.clean_runs.proofs.SkClientLaw.{client_is_lawful}
use Rattle.clean_runs.proofs.SkClients.{IsClientRole, for_another, for_itself}
use Rattle.clean_runs.proofs.SkServerLaw.{server_is_lawful}

-- ---- the texts of a tuple are text

texts_more : (name : List ℕ) (a : Attr) (template : List Attr) (named : Bool) (v : Value) → is_named name a ≡ named → a.value ≡ v → is_value v ≡ true → list_all is_text (texts_of name template) ≡ true → list_all is_text (texts_of name (a ∷ template)) ≡ true
texts_more name a template true (Is text) one value_is is all = rw (one, value_is, (and_parts (list_all is_line_byte text) (is_text text) is).1) all
texts_more name a template true Ask one value_is is all = rw (one, value_is) all
texts_more name a template true Bare one value_is is all = rw (one, value_is) all
texts_more name a template false v one value_is is all = rw one all

texts_are_text : (name : List ℕ) (template : List Attr) → list_all is_attr template ≡ true → list_all is_text (texts_of name template) ≡ true
texts_are_text name [] all = refl
texts_are_text name (a ∷ template) all =
    let parts = and_parts (is_attr a) (list_all is_attr template) all in
    texts_more name a template (is_named name a) a.value refl refl (and_parts (is_name a.name) (is_value a.value) parts.0).1 (texts_are_text name template parts.1)

first_is_text : (texts : List (List ℕ)) (text : List ℕ) → list_all is_text texts ≡ true → slice_get texts 0 ≡ Some text → is_text text ≡ true
first_is_text [] text all is = absurd (cc)
first_is_text (t ∷ texts) text all is =
    let same : text ≡ t = cc in
    ap is_text same ∙ (and_parts (is_text t) (list_all is_text texts) all).0

value_is_text : (name : List ℕ) (template : List Attr) (text : List ℕ) → is_tuple template ≡ true → value_of name template ≡ Some text → is_text text ≡ true
unfolding value_of
value_is_text name template text tuple is = first_is_text (texts_of name template) text (texts_are_text name template (and_parts (nat_le (length template) 36) (list_all is_attr template) tuple).1) is

-- ---- who speaks for another names a user who fits a field

some_user_fits : (o : Option (List ℕ)) → ((text : List ℕ) → o ≡ Some text → is_text text ≡ true) → is_some_user o ≡ true → IsName 28 (unwrap_or o [])
some_user_fits (Some text) plain is = user_named text (plain text refl) is
some_user_fits None plain is = absurd (cc)

not_both : (x y : Bool) → (x && not y) ≡ false → x ≡ true → y ≡ true
not_both true true both is = refl
not_both true false both is = absurd (cc)
not_both false y both is = absurd (cc)

speaker_fits : (template : List Attr) → is_tuple template ≡ true → speaks_for_nobody template ≡ false → says (codes "role") (codes "speakfor") template ≡ true → IsName 28 (unwrap_or (value_of (codes "user") template) [])
speaker_fits template tuple not_nobody speaks = some_user_fits (value_of (codes "user") template) (λ text is. value_is_text (codes "user") template text tuple is) (not_both (says (codes "role") (codes "speakfor") template) (is_some_user (value_of (codes "user") template)) not_nobody speaks)

-- the role of a template is a client's or a server's
abbrev Serves : List Attr → Type 0
Serves template = IsClientRole (role_of template) ⊎ (role_of template ≡ Server)

abbrev role_with : Option (List ℕ) → Bool → Bool → Role
role_with user speaks serves = if speaks then Speakfor (unwrap_or user []) else if serves then Server else Client

role_is : (template : List Attr) → role_of template ≡ role_with (value_of (codes "user") template) (says (codes "role") (codes "speakfor") template) (says (codes "role") (codes "server") template)
unfolding role_of
role_is template = refl

serves_by : (template : List Attr) (user : Option (List ℕ)) (speaks serves : Bool) → role_of template ≡ role_with user speaks serves → (speaks ≡ true → IsName 28 (unwrap_or user [])) → Serves template
serves_by template user true serves is fits = inl (subst IsClientRole (sym is) (for_another (unwrap_or user []) (fits refl)))
serves_by template user false true is fits = inr is
serves_by template user false false is fits = inl (subst IsClientRole (sym is) for_itself)

serves : (template : List Attr) → is_tuple template ≡ true → speaks_for_nobody template ≡ false → Serves template
serves template tuple not_nobody = serves_by template (value_of (codes "user") template) (says (codes "role") (codes "speakfor") template) (says (codes "role") (codes "server") template) (role_is template) (speaker_fits template tuple not_nobody)

-- the fourth rule of some that tell nothing
fourth_passed : (a b c d : Bool) (e f g h : StartFault) (rest : List (Rule StartFault)) → first_told ((a, e) ∷ (b, f) ∷ (c, g) ∷ (d, h) ∷ rest) ≡ None → d ≡ false
fourth_passed true b c d e f g h rest is = absurd (cc)
fourth_passed false true c d e f g h rest is = absurd (cc)
fourth_passed false false true d e f g h rest is = absurd (cc)
fourth_passed false false false true e f g h rest is = absurd (cc)
fourth_passed false false false false e f g h rest is = refl

by_rules : (name : List ℕ) (template : List Attr) → first_told (rules_of name template) ≡ None → speaks_for_nobody template ≡ false
by_rules name template is = fourth_passed (list_any tells_secret template) (not (says (codes "proto") name template)) (not (names_role template)) (speaks_for_nobody template) _ _ _ _ [] is

sk_starts : (template : List Attr) → start_fault template ≡ None → speaks_for_nobody template ≡ false
unfolding start_fault
sk_starts template is = by_rules (codes "p9sk1") template is

any_starts : (template : List Attr) → fault_of (codes "p9any") template ≡ None → speaks_for_nobody template ≡ false
unfolding fault_of
any_starts template is = by_rules (codes "p9any") template is

-- ---- by the protocol

by_sk : (spoken : Spoken) → protocol_of spoken.start.template ≡ P9sk1 → Serves spoken.start.template → IsLawful spoken
by_sk spoken is (inl client) = client_is_lawful spoken (record { p9sk1 = is; client = client })
by_sk spoken is (inr server) = server_is_lawful spoken (record { p9sk1 = is; server = server })

by_any : (spoken : Spoken) → protocol_of spoken.start.template ≡ P9any → Serves spoken.start.template → IsLawful spoken
by_any spoken is (inl client) = any_client_is_lawful spoken (record { any = is; client = client })
by_any spoken is (inr server) = any_server_is_lawful spoken (record { any = is; server = server })

by_mail : (spoken : Spoken) (s : Side) → protocol_of spoken.start.template ≡ Mail → side_of spoken.start.template ≡ s → IsLawful spoken
by_mail spoken side.Client is here = mail_client_is_lawful spoken (record { mail = is; client = here })
by_mail spoken side.Server is here = mail_server_is_lawful spoken (record { mail = is; server = here })

by_protocol : (spoken : Spoken) → MayBe spoken → (p : Protocol) → protocol_of spoken.start.template ≡ p → IsLawful spoken
by_protocol spoken may P9sk1 is = by_sk spoken is (serves spoken.start.template may.tuple (sk_starts spoken.start.template (sym (ap (λ p. refuses_by p spoken.start.template) is) ∙ may.starts)))
by_protocol spoken may P9any is = by_any spoken is (serves spoken.start.template may.tuple (any_starts spoken.start.template (sym (ap (λ p. refuses_by p spoken.start.template) is) ∙ may.starts)))
by_protocol spoken may Mail is = by_mail spoken (side_of spoken.start.template) is refl

-- a talk tells that its conversation may be
pub every_role_is_lawful : (spoken : Spoken) → IsLawful spoken
every_role_is_lawful spoken = record {
  orderly = λ act acts t. (by_protocol spoken t.may (protocol_of spoken.start.template) refl).orderly act acts t;
  followed = λ atoms number holder role read before a t. (by_protocol spoken t.may (protocol_of spoken.start.template) refl).followed atoms number holder role read before a t;
}
