-- What a start needs: nothing that is searched for twice; or, for a server of p9any, a list of offers, and a key where it is empty.
use Rattle.std.proofs.Common.{◌≡◌, ℕ, List, [], ◌∷◌, true, false, Option, None, refl, sym, ap, ◌∙◌, codes, inl, inr}
use Rattle.std.specs.Prelude.{◌⊎◌}
use Rattle.attr_tuples.specs.declared.attr.Attr.{Attr}
use Rattle.attr_tuples.specs.Matching.{value_of}
use Rattle.roles.specs.declared.need.Need.{Need}
use Rattle.roles.specs.declared.need.Need.TheVariants.{Key, Offers}
use Rattle.roles.specs.declared.stage.Role.{Role}
use Rattle.roles.specs.declared.stage.Role.TheVariants.{Client, Server, Speakfor}
use Rattle.roles.specs.Answers.{is_sought}
use Rattle.roles.specs.Starts.{Start, role_of}
use Rattle.roles.specs.Courses.{need_unless, then_course}
use Rattle.roles.specs.Talks.{Call, Progress, found, get, give, heard, offered, picked, roomless, undone, unheard}
use Rattle.roles.specs.Templates.{asked}
use Rattle.conv_p9any.specs.Courses as any
use Rattle.conv_p9any.specs.Talks.{Standing, choosing}
use Rattle.conv_challenge.specs.declared.stage.Stage.{Stage as Post}
use Rattle.conv_challenge.specs.declared.stage.Side.{Side}
use Rattle.conv_challenge.specs.declared.stage.Side.TheVariants as side
use Rattle.conv_challenge.specs.Courses as mail
use Rattle.conv_challenge.specs.Starts.{side_of}
use Rattle.talks.specs.Protocols.{Mail, P9any, P9sk1, Protocol, needs, needs_by, p9sk1, protocol_of}
use Rattle.wire_histories.specs.Conversations.{meets}
use Rattle.world_promises.proofs.SkRole.{first_one}
use Rattle.world_promises.proofs.OffersServe.{for_p9sk1}

-- what meets its need leaves nothing to be searched for
abbrev pub Once : (List Call → Need) → List Call → Type 0
Once n moves = (call : Call) → meets (n moves) call ≡ true → is_sought (n (call ∷ moves)) ≡ false

-- offers are needed, and where there are none a key by the same template
pub record Chooses (n : List Call → Need) : Type 0 where
  pub more : List Attr
  pub offers : n [] ≡ Offers (for_p9sk1 more)
  pub key : n (offered [] ∷ []) ≡ Key (for_p9sk1 more)
  pub done : (b : ℕ) (bytes : List ℕ) → is_sought (n (offered (b ∷ bytes) ∷ [])) ≡ false

abbrev pub StartsSo : (List Call → Need) → Type 0
StartsSo n = Once n [] ⊎ Chooses n

-- ---- p9any

-- what a template begins with
pub asked_proto : (role : Role) (start : List Attr) (dom : Option (List ℕ)) → (more : List Attr) × (asked (codes "p9sk1") role start dom ≡ for_p9sk1 more)
unfolding asked
asked_proto role start dom = (_, refl)

-- how far it has come, and what it needs then, by its role
abbrev first : Start → Role → Progress Standing
first start role = record { stage = choosing (any.first_stage role); broken = None }

abbrev second : Start → Role → Call → Progress Standing
second start role call = then_course (first start role) (any.verdict p9sk1 start (first start role) call)

abbrev any_need : Start → Progress Standing → Need
any_need start p = need_unless p.broken (any.need_of p9sk1 start p.stage)

any_server : (start : Start) → role_of start.template ≡ Server → Chooses (any.need_after p9sk1 start)
any_server start e =
    let t = asked_proto (role_of start.template) start.template (value_of (codes "dom") start.template) in
    record {
      more = t.0;
      offers = ap (λ r. any_need start (first start r)) e ∙ ap Offers t.1;
      key = ap (λ r. any_need start (second start r (offered []))) e ∙ ap Key t.1;
      done = λ b bytes. ap (λ r. is_sought (any_need start (second start r (offered (b ∷ bytes))))) e;
    }

any_by : (start : Start) (role : Role) → role_of start.template ≡ role → StartsSo (any.need_after p9sk1 start)
any_by start Client e = inl (λ call is. absurd (let no_way : true ≡ false = sym is ∙ ap (λ r. meets (any_need start (first start r)) call) e in cc))
any_by start (Speakfor user) e = inl (λ call is. absurd (let no_way : true ≡ false = sym is ∙ ap (λ r. meets (any_need start (first start r)) call) e in cc))
any_by start Server e = inr (any_server start e)

-- ---- APOP and CRAM

abbrev pub begins : Side → Progress Post
begins side = record { stage = mail.first_stage side; broken = None }

pub mail_by : (start : Start) (side : Side) (call : Call) → meets (mail.need_at start (begins side)) call ≡ true → is_sought (mail.need_at start (then_course (begins side) (mail.verdict start (begins side) call))) ≡ false
mail_by start side.Client call is = absurd cc
mail_by start side.Server (found key password) is = refl
mail_by start side.Server (give b) is = absurd cc
mail_by start side.Server get is = absurd cc
mail_by start side.Server (heard b) is = absurd cc
mail_by start side.Server unheard is = absurd cc
mail_by start side.Server roomless is = absurd cc
mail_by start side.Server undone is = absurd cc
mail_by start side.Server (offered list) is = absurd cc
mail_by start side.Server (picked place) is = absurd cc

-- ---- all

by_protocol : (p : Protocol) (start : Start) → StartsSo (needs_by p start)
by_protocol P9sk1 start = inl (first_one start)
by_protocol P9any start = any_by start (role_of start.template) refl
by_protocol Mail start = inl (λ call is. mail_by start (side_of start.template) call is)

pub starts_so : (start : Start) → StartsSo (needs start)
starts_so start = by_protocol (protocol_of start.template) start
