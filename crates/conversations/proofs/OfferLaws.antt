-- What follows where a key is needed for the sake of offers, and one is found: the offers of the same template are needed,
-- which p9any's server alone needs; where they come, nothing is needed any more, and where there are none it is as far as
-- before.
use Rattle.std.proofs.Common.{◌≡◌, ℕ, List, [], ◌∷◌, Bool, true, false, Option, Some, None, refl, sym, ap, subst, ◌∙◌}
use Rattle.roles.specs.declared.answer.Cause.{Cause}
use Rattle.roles.specs.declared.key.SkKey.{SkKey}
use Rattle.roles.specs.declared.need.Need.{Need}
use Rattle.roles.specs.declared.need.Need.TheVariants.{Nothing, Offers}
use Rattle.roles.specs.Answers.{IsKey, is_sought}
use Rattle.roles.specs.Starts.{Start}
use Rattle.roles.specs.Talks.{Call, Progress, found, offered}
use Rattle.roles.specs.Courses.{need_unless, then_course}
use Rattle.roles.proofs.NeedLaws.{p9sk1_seeks}
use Rattle.conv_p9any.specs.declared.stage.Stage.TheVariants.{ServerOffers, ServerKey, ServerFirst, ServerSecond, ClientFirst, ClientPick, ClientSecond, ClientThird}
use Rattle.conv_p9any.specs.Standing as any
use Rattle.conv_p9any.specs.Talks.{Standing, choosing, within}
use Rattle.conv_p9any.specs.Courses.{chosen_start, course, need_of, verdict}
use Rattle.conv_challenge.proofs.NeedLaws as mail
use Rattle.conv_p9sk1.specs.Standing as sk
use Rattle.talks.specs.declared.conv.Conv.{Conv}
use Rattle.talks.specs.declared.conv.Conv.TheVariants as c
use Rattle.talks.specs.Protocols.{Protocol, P9sk1, P9any, Mail, needs, needs_by, p9sk1, protocol_of}
use Rattle.talks.specs.Standing.{Stands}
use Rattle.talks.specs.Standings.{template_in}

differ : false ≡ true → ⊥
differ e = cc

-- how far a talk of p9any is, what is needed then, and how far a call leads
abbrev Far : Type 0
Far = Progress Standing

abbrev need_at : Start → Far → Need
need_at start p = need_unless p.broken (need_of p9sk1 start p.stage)

abbrev step : Start → Far → Call → Far
step start p call = then_course p (verdict p9sk1 start p call)

-- a server needs a key for the sake of its offers
abbrev at_key : Far
at_key = record { stage = choosing ServerKey; broken = None }

abbrev at : Standing → Option Cause → Far
at stage broken = record { stage = stage; broken = broken }

is_at_key : (start : Start) (key : SkKey) (password : Option (List ℕ)) (stage : Standing) (broken : Option Cause) → IsKey (need_at start (at stage broken)) → is_sought (need_at start (step start (at stage broken) (found key password))) ≡ true → at stage broken ≡ at_key
is_at_key start key password stage (Some cause) wanted sought = absurd wanted
is_at_key start key password (choosing ServerOffers) None wanted sought = absurd wanted
is_at_key start key password (choosing ServerKey) None wanted sought = refl
is_at_key start key password (choosing (ServerFirst list)) None wanted sought = absurd wanted
is_at_key start key password (choosing (ServerSecond list)) None wanted sought = absurd wanted
is_at_key start key password (choosing ClientFirst) None wanted sought = absurd wanted
is_at_key start key password (choosing (ClientPick list)) None wanted sought = absurd wanted
is_at_key start key password (choosing (ClientSecond list place)) None wanted sought = absurd wanted
is_at_key start key password (choosing (ClientThird list place)) None wanted sought = absurd wanted
is_at_key start key password (within before text talk) None wanted sought = absurd (differ (sym (p9sk1_seeks.found_needs (chosen_start p9sk1 start text) talk key password wanted) ∙ sought))

far : (start : Start) (talk : List Call) (key : SkKey) (password : Option (List ℕ)) → IsKey (needs_by P9any start talk) → is_sought (needs_by P9any start (found key password ∷ talk)) ≡ true → course p9sk1 start talk ≡ at_key
far start talk key password wanted sought = is_at_key start key password (course p9sk1 start talk).stage (course p9sk1 start talk).broken wanted sought

-- ---- what is needed

pub record Behind (needs : Start → List Call → Need) (start : Start) (talk : List Call) (key : SkKey) (password : Option (List ℕ)) : Type 0 where
  pub offers : needs start (found key password ∷ talk) ≡ Offers (template_in (needs start talk))
  pub listed : (b : ℕ) (list : List ℕ) → needs start (offered (b ∷ list) ∷ found key password ∷ talk) ≡ Nothing
  pub empty : needs start (offered [] ∷ found key password ∷ talk) ≡ needs start talk
  pub again : needs start (found key password ∷ offered [] ∷ found key password ∷ talk) ≡ needs start (found key password ∷ talk)

any_behind : (start : Start) (talk : List Call) (key : SkKey) (password : Option (List ℕ)) → course p9sk1 start talk ≡ at_key → Behind (needs_by P9any) start talk key password
any_behind start talk key password e = record {
  offers = ap (λ (p : Far). need_at start (step start p (found key password))) e ∙ ap (λ (p : Far). Offers (template_in (need_at start p))) (sym e);
  listed = λ b list. ap (λ (p : Far). need_at start (step start (step start p (found key password)) (offered (b ∷ list)))) e;
  empty = ap (λ (p : Far). need_at start (step start (step start p (found key password)) (offered []))) e ∙ ap (λ (p : Far). need_at start p) (sym e);
  again = ap (λ (p : Far). need_at start (step start (step start (step start p (found key password)) (offered [])) (found key password))) e ∙ ap (λ (p : Far). need_at start (step start p (found key password))) (sym e);
}

behind_by : (p : Protocol) (start : Start) (talk : List Call) (key : SkKey) (password : Option (List ℕ)) → IsKey (needs_by p start talk) → is_sought (needs_by p start (found key password ∷ talk)) ≡ true → Behind (needs_by p) start talk key password
behind_by P9sk1 start talk key password wanted sought = absurd (differ (sym (p9sk1_seeks.found_needs start talk key password wanted) ∙ sought))
behind_by P9any start talk key password wanted sought = any_behind start talk key password (far start talk key password wanted sought)
behind_by Mail start talk key password wanted sought = absurd (differ (sym (mail.found_needs start talk key password wanted) ∙ sought))

pub behind : (start : Start) (talk : List Call) (key : SkKey) (password : Option (List ℕ)) → IsKey (needs start talk) → is_sought (needs start (found key password ∷ talk)) ≡ true → Behind (needs_by (protocol_of start.template)) start talk key password
behind start talk key password wanted sought = behind_by (protocol_of start.template) start talk key password wanted sought

-- ---- the machine

course_again : (start : Start) (talk : List Call) (key : SkKey) (password : Option (List ℕ)) → course p9sk1 start talk ≡ at_key → course p9sk1 start (found key password ∷ talk) ≡ course p9sk1 start (found key password ∷ offered [] ∷ found key password ∷ talk)
course_again start talk key password e =
    ap (λ (p : Far). step start p (found key password)) e
    ∙ ap (λ (p : Far). step start (step start (step start p (found key password)) (offered [])) (found key password)) (sym e)

-- where there are no offers the machine is as it was
pub stands_again : (m : Conv) (start : Start) (talk : List Call) (key : SkKey) (password : Option (List ℕ)) → IsKey (needs start talk) → is_sought (needs start (found key password ∷ talk)) ≡ true → Stands m start (found key password ∷ talk) → Stands m start (found key password ∷ offered [] ∷ found key password ∷ talk)
stands_again (c.P9sk1 m) start talk key password wanted sought stands =
    absurd (differ (sym (p9sk1_seeks.found_needs start talk key password (subst (λ (p : Protocol). IsKey (needs_by p start talk)) stands.0 wanted))
    ∙ subst (λ (p : Protocol). is_sought (needs_by p start (found key password ∷ talk)) ≡ true) stands.0 sought))
stands_again (c.Mail m) start talk key password wanted sought stands =
    absurd (differ (sym (mail.found_needs start talk key password (subst (λ (p : Protocol). IsKey (needs_by p start talk)) stands.0 wanted))
    ∙ subst (λ (p : Protocol). is_sought (needs_by p start (found key password ∷ talk)) ≡ true) stands.0 sought))
stands_again (c.P9any m) start talk key password wanted sought stands = (
  stands.0,
  subst (λ (p : Far). any.IsAt sk.Stands p9sk1 m start p)
      (course_again start talk key password (far start talk key password (subst (λ (p : Protocol). IsKey (needs_by p start talk)) stands.0 wanted)
      (subst (λ (p : Protocol). is_sought (needs_by p start (found key password ∷ talk)) ≡ true) stands.0 sought)))
      stands.1,
)
