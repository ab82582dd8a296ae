-- What follows on a search, on a request that is taken back, and on an authentication server that isn't reached: what is
-- needed then, and that no conversation has ended, but where it broke. None of it depends on the key that was found. And
-- what is searched for is public.
use Rattle.std.proofs.Common.{◌≡◌, ℕ, List, [], ◌∷◌, ◌++◌, map, Bool, true, false, cond, not, Option, Some, None, Result, Ok, Err, refl, sym, ap, subst, codes, inl, inr}
use Rattle.std.specs.Prelude.{is_some}
use Rattle.std.specs.List.{list_all}
use Rattle.std.proofs.lemmas.Bool.{and_parts, cases_Bool}
use Rattle.attr_tuples.specs.declared.attr.Attr.{Attr}
use Rattle.attr_tuples.specs.Attributes.{is_public}
use Rattle.attr_tuples.specs.Matching.{has_name, value_of}
use Rattle.sealing.specs.Request.{request_of}
use Rattle.sealing.specs.declared.fault.FieldFault.{FieldFault}
use Rattle.sealing.specs.declared.request.TicketReq.{TicketReq}
use Rattle.roles.specs.declared.answer.Cause.{Cause}
use Rattle.roles.specs.declared.answer.Cause.TheVariants.{NoServer, NoRoom}
use Rattle.roles.specs.declared.key.SkKey.{SkKey}
use Rattle.roles.specs.declared.need.Need.{Need}
use Rattle.roles.specs.declared.need.Need.TheVariants.{Nothing, Key, Offers, Pick, Exchange}
use Rattle.roles.specs.declared.need.Outcome.{Outcome}
use Rattle.roles.specs.declared.need.Outcome.TheVariants.{Running, Broken}
use Rattle.roles.specs.declared.stage.Role.{Role}
use Rattle.roles.specs.declared.stage.Role.TheVariants.{Client, Server, Speakfor}
use Rattle.roles.specs.declared.stage.Stage.{Stage}
use Rattle.roles.specs.declared.stage.Stage.TheVariants.{ClientFirst, ClientSecond, ClientKey, ClientAsk, ClientThird, ClientFourth, ClientDone, ServerKey, ServerFirst, ServerSecond, ServerThird, ServerFourth, ServerDone}
use Rattle.roles.specs.Answers.{IsExchange, IsOffers, IsPick, is_sought}
use Rattle.roles.specs.Starts.{Start, role_of}
use Rattle.roles.specs.Templates.{asked, asked_as, ask_dom_part, dom_part, is_other, is_own, others_part, user_part}
use Rattle.roles.specs.Talks.{Call, Progress, found, offered, picked, roomless, undone, unheard, goes}
use Rattle.roles.specs.Courses as sk
use Rattle.roles.specs.declared.answer.Gave.TheVariants as g
use Rattle.roles.specs.Courses.{need_unless, outcome_unless, then_course, unless_broken}
use Rattle.roles.proofs.NeedLaws.{p9sk1_seeks}
use Rattle.conv_p9any.specs.declared.stage.Stage.{Stage as ChoiceStage}
use Rattle.conv_p9any.specs.declared.stage.Stage.TheVariants as c
use Rattle.conv_p9any.specs.Inner.{asked_within}
use Rattle.conv_p9any.specs.Offers.{eligible}
use Rattle.conv_p9any.specs.Talks.{Standing, choosing, within}
use Rattle.conv_p9any.specs.Courses as choice
use Rattle.conv_challenge.specs.declared.stage.Stage.{Stage as MailStage}
use Rattle.conv_challenge.specs.declared.stage.Stage.TheVariants as m
use Rattle.conv_challenge.specs.Courses as mail
use Rattle.conv_challenge.proofs.NeedLaws as mail_needs
use Rattle.agent_laws.specs.Shown.{asks_in_public, shown_need}
use Rattle.talks.specs.Protocols.{Protocol, P9sk1, P9any, Mail, ends, ends_by, needs, needs_by, p9sk1, protocol_of}

-- ---- what is needed, and what a key leads to

-- to the answer, to the authentication server, or to the offers again
pub data Next : Type 0 where
  ToAnswer : Next
  ToServer : Next
  ToOffers : Next

-- what is needed, and where it is a key what that leads to
pub data NextNeed : Type 0 where
  NoNeed : NextNeed
  KeyNeed : (template : List Attr) (next : Next) → NextNeed
  OffersNeed : (template : List Attr) → NextNeed
  PickNeed : (templates : List (List Attr)) → NextNeed
  ServerNeed : NextNeed

-- whatever the key is
abbrev pub any_key : SkKey
any_key = record { des = record { 0 = [] }; user = []; dom = [] }

abbrev pub next_of : Need → Next
next_of Nothing = ToAnswer
next_of (Key template) = ToAnswer
next_of (Offers template) = ToOffers
next_of (Pick templates) = ToAnswer
next_of (Exchange request shape) = ToServer

abbrev pub next_need : Need → Next → NextNeed
next_need Nothing next = NoNeed
next_need (Key template) next = KeyNeed template next
next_need (Offers template) next = OffersNeed template
next_need (Pick templates) next = PickNeed templates
next_need (Exchange request shape) next = ServerNeed

-- ---- a key is found

-- what is needed behind a key that matched a template
abbrev pub behind_key : List Attr → Next → NextNeed
behind_key template ToAnswer = NoNeed
behind_key template ToServer = ServerNeed
behind_key template ToOffers = OffersNeed template

-- a need, and an end, as they are behind a key, whichever it is: `other` is the need behind another one
pub record Found (template : List Attr) (need other : Need) (outcome : Outcome) : Type 0 where
  pub leads : (next : Next) → next_need need next ≡ behind_key template (next_of other)
  pub runs : outcome ≡ Running

abbrev at : {S : Type 0} → S → Progress S
at stage = record { stage = stage; broken = None }

-- p9sk1
abbrev sk_then : Start → Stage → Option Cause → Call → Progress Stage
sk_then start stage broken call = then_course (record { stage = stage; broken = broken }) (unless_broken broken (sk.move start stage call))

abbrev SkFound : Start → Stage → Option Cause → SkKey → Option (List ℕ) → List Attr → Type 0
SkFound start stage broken key password template = Found template (sk.need_at start (sk_then start stage broken (found key password))) (sk.need_at start (sk_then start stage broken (found any_key None))) (sk.outcome_at (sk_then start stage broken (found key password)))

sk_client_found : (start : Start) (request : List ℕ) (key : SkKey) (password : Option (List ℕ)) (template : List Attr) (r : Result TicketReq FieldFault) → request_of request ≡ r → sk.key_need start r ≡ Key template → SkFound start (ClientKey request) None key password template
sk_client_found start request key password template (Ok q) e wanted = rw e (record { leads = λ next. rw e refl; runs = refl })
sk_client_found start request key password template (Err fault) e wanted = absurd cc

sk_found : (start : Start) (stage : Stage) (broken : Option Cause) (key : SkKey) (password : Option (List ℕ)) (template : List Attr) → need_unless broken (sk.need_of start stage) ≡ Key template → SkFound start stage broken key password template
sk_found start stage (Some cause) key password template wanted = absurd cc
sk_found start ClientFirst None key password template wanted = absurd cc
sk_found start ClientSecond None key password template wanted = absurd cc
sk_found start (ClientKey request) None key password template wanted = sk_client_found start request key password template (request_of request) refl wanted
sk_found start (ClientAsk request k) None key password template wanted = absurd (no_key start k template (request_of request) wanted)
  where
    no_key : (start : Start) (k : SkKey) (template : List Attr) (r : Result TicketReq FieldFault) → sk.answer_need start k r ≡ Key template → ⊥
    no_key start k template (Ok q) e = cc
    no_key start k template (Err fault) e = cc
sk_found start (ClientThird request k tickets) None key password template wanted = absurd cc
sk_found start (ClientFourth request k tickets) None key password template wanted = absurd cc
sk_found start (ClientDone request k tickets proof) None key password template wanted = absurd cc
sk_found start ServerKey None key password template wanted = record { leads = λ next. refl; runs = refl }
sk_found start (ServerFirst k) None key password template wanted = absurd cc
sk_found start (ServerSecond k theirs) None key password template wanted = absurd cc
sk_found start (ServerThird k theirs) None key password template wanted = absurd cc
sk_found start (ServerFourth k theirs shown) None key password template wanted = absurd cc
sk_found start (ServerDone k theirs shown) None key password template wanted = absurd cc

-- APOP and CRAM
abbrev mail_then : Start → MailStage → Option Cause → Call → Progress MailStage
mail_then start stage broken call = then_course (record { stage = stage; broken = broken }) (unless_broken broken (mail.move start stage call))

mail_found : (start : Start) (stage : MailStage) (broken : Option Cause) (key : SkKey) (password : Option (List ℕ)) (template : List Attr) → need_unless broken (mail.need_of start stage) ≡ Key template
    → Found template (mail.need_at start (mail_then start stage broken (found key password))) (mail.need_at start (mail_then start stage broken (found any_key None))) (mail.outcome_at (mail_then start stage broken (found key password)))
mail_found start stage (Some cause) key password template wanted = absurd cc
mail_found start m.ClientFirst None key password template wanted = absurd cc
mail_found start (m.ClientKey challenge) None key password template wanted = record { leads = λ next. refl; runs = refl }
mail_found start (m.ClientSecond challenge secret) None key password template wanted = absurd cc
mail_found start (m.ClientDone challenge secret) None key password template wanted = absurd cc
mail_found start m.ServerKey None key password template wanted = record { leads = λ next. refl; runs = refl }
mail_found start (m.ServerAsk k) None key password template wanted = absurd cc
mail_found start (m.ServerFirst k challenge) None key password template wanted = absurd cc
mail_found start (m.ServerSecond k challenge) None key password template wanted = absurd cc
mail_found start (m.ServerThird k challenge user) None key password template wanted = absurd cc
mail_found start (m.ServerVouch k challenge user digits) None key password template wanted = absurd cc
mail_found start (m.ServerDone k challenge user digits vouch) None key password template wanted = absurd cc

-- p9any
abbrev pub any_then : Start → Standing → Option Cause → Call → Progress Standing
any_then start stage broken call = then_course (record { stage = stage; broken = broken }) (unless_broken broken (choice.move p9sk1 start stage call))

abbrev pub any_need : Start → Progress Standing → Need
any_need start p = need_unless p.broken (choice.need_of p9sk1 start p.stage)

abbrev any_end : Start → Progress Standing → Outcome
any_end start p = outcome_unless p.broken (choice.outcome_of p9sk1 start p.stage)

any_found : (start : Start) (stage : Standing) (broken : Option Cause) (key : SkKey) (password : Option (List ℕ)) (template : List Attr) → need_unless broken (choice.need_of p9sk1 start stage) ≡ Key template
    → Found template (any_need start (any_then start stage broken (found key password))) (any_need start (any_then start stage broken (found any_key None))) (any_end start (any_then start stage broken (found key password)))
any_found start stage (Some cause) key password template wanted = absurd cc
any_found start (choosing c.ServerOffers) None key password template wanted = absurd cc
any_found start (choosing c.ServerKey) None key password template wanted = record { leads = λ next. ap OffersNeed (same_key _ template wanted); runs = refl }
  where
    same_key : (one other : List Attr) → Key one ≡ Key other → one ≡ other
    same_key one other e = cc
any_found start (choosing (c.ServerFirst l)) None key password template wanted = absurd cc
any_found start (choosing (c.ServerSecond l)) None key password template wanted = absurd cc
any_found start (choosing c.ClientFirst) None key password template wanted = absurd cc
any_found start (choosing (c.ClientPick l)) None key password template wanted = absurd cc
any_found start (choosing (c.ClientSecond l place)) None key password template wanted = absurd cc
any_found start (choosing (c.ClientThird l place)) None key password template wanted = absurd cc
any_found start (within before text talk) None key password template wanted =
    let s = choice.chosen_start p9sk1 start text in
    let there = sk_found s (sk.course s talk).stage (sk.course s talk).broken key password template wanted in
    record { leads = there.leads; runs = there.runs }

found_by : (p : Protocol) (start : Start) (talk : List Call) (key : SkKey) (password : Option (List ℕ)) (template : List Attr) → needs_by p start talk ≡ Key template
    → Found template (needs_by p start (found key password ∷ talk)) (needs_by p start (found any_key None ∷ talk)) (ends_by p start (found key password ∷ talk))
found_by P9sk1 start talk key password template wanted = sk_found start (sk.course start talk).stage (sk.course start talk).broken key password template wanted
found_by P9any start talk key password template wanted = any_found start (choice.course p9sk1 start talk).stage (choice.course p9sk1 start talk).broken key password template wanted
found_by Mail start talk key password template wanted = mail_found start (mail.course start talk).stage (mail.course start talk).broken key password template wanted

pub found_leads : (start : Start) (talk : List Call) (key : SkKey) (password : Option (List ℕ)) (template : List Attr) → needs start talk ≡ Key template
    → Found template (needs start (found key password ∷ talk)) (needs start (found any_key None ∷ talk)) (ends start (found key password ∷ talk))
found_leads start talk key password template wanted = found_by (protocol_of start.template) start talk key password template wanted

-- ---- offers come, or a place is picked

abbrev pub behind_offers : List Attr → List ℕ → NextNeed
behind_offers template [] = KeyNeed template ToOffers
behind_offers template (b ∷ list) = NoNeed

-- `other` is the need behind a key that is found then
pub record Offered (template : List Attr) (list : List ℕ) (need other : Need) (outcome : Outcome) : Type 0 where
  pub leads : next_need need (next_of other) ≡ behind_offers template list
  pub runs : outcome ≡ Running

any_offered : (start : Start) (stage : Standing) (broken : Option Cause) (list : List ℕ) (template : List Attr) → need_unless broken (choice.need_of p9sk1 start stage) ≡ Offers template
    → Offered template list (any_need start (any_then start stage broken (offered list)))
    (any_need start (then_course (any_then start stage broken (offered list)) (choice.verdict p9sk1 start (any_then start stage broken (offered list)) (found any_key None)))) (any_end start (any_then start stage broken (offered list)))
any_offered start stage (Some cause) list template wanted = absurd cc
any_offered start (choosing c.ServerOffers) None [] template wanted = record { leads = ap (λ (t : List Attr). KeyNeed t ToOffers) (same_offers _ template wanted); runs = refl }
  where
    same_offers : (one other : List Attr) → Offers one ≡ Offers other → one ≡ other
    same_offers one other e = cc
any_offered start (choosing c.ServerOffers) None (b ∷ list) template wanted = record { leads = refl; runs = refl }
any_offered start (choosing c.ServerKey) None list template wanted = absurd cc
any_offered start (choosing (c.ServerFirst l)) None list template wanted = absurd cc
any_offered start (choosing (c.ServerSecond l)) None list template wanted = absurd cc
any_offered start (choosing c.ClientFirst) None list template wanted = absurd cc
any_offered start (choosing (c.ClientPick l)) None list template wanted = absurd cc
any_offered start (choosing (c.ClientSecond l place)) None list template wanted = absurd cc
any_offered start (choosing (c.ClientThird l place)) None list template wanted = absurd cc
any_offered start (within before text talk) None list template wanted = absurd (p9sk1_seeks.never_offers (choice.chosen_start p9sk1 start text) talk (wants _ template wanted))
  where
    wants : (need : Need) (template : List Attr) → need ≡ Offers template → IsOffers need
    wants need template e = subst (λ (n : Need). IsOffers n) (sym e) tt

offered_by : (p : Protocol) (start : Start) (talk : List Call) (list : List ℕ) (template : List Attr) → needs_by p start talk ≡ Offers template
    → Offered template list (needs_by p start (offered list ∷ talk)) (needs_by p start (found any_key None ∷ offered list ∷ talk)) (ends_by p start (offered list ∷ talk))
offered_by P9sk1 start talk list template wanted = absurd (p9sk1_seeks.never_offers start talk (subst (λ (n : Need). IsOffers n) (sym wanted) tt))
offered_by P9any start talk list template wanted = any_offered start (choice.course p9sk1 start talk).stage (choice.course p9sk1 start talk).broken list template wanted
offered_by Mail start talk list template wanted = absurd (mail_needs.never_offers start talk (subst (λ (n : Need). IsOffers n) (sym wanted) tt))

pub offered_leads : (start : Start) (talk : List Call) (list : List ℕ) (template : List Attr) → needs start talk ≡ Offers template
    → Offered template list (needs start (offered list ∷ talk)) (needs start (found any_key None ∷ offered list ∷ talk)) (ends start (offered list ∷ talk))
offered_leads start talk list template wanted = offered_by (protocol_of start.template) start talk list template wanted

pub record Picked (need : Need) (outcome : Outcome) : Type 0 where
  pub leads : (next : Next) → next_need need next ≡ NoNeed
  pub runs : outcome ≡ Running

any_picked : (start : Start) (stage : Standing) (broken : Option Cause) (place : ℕ) (templates : List (List Attr)) → need_unless broken (choice.need_of p9sk1 start stage) ≡ Pick templates
    → Picked (any_need start (any_then start stage broken (picked place))) (any_end start (any_then start stage broken (picked place)))
any_picked start stage (Some cause) place templates wanted = absurd cc
any_picked start (choosing c.ServerOffers) None place templates wanted = absurd cc
any_picked start (choosing c.ServerKey) None place templates wanted = absurd cc
any_picked start (choosing (c.ServerFirst l)) None place templates wanted = absurd cc
any_picked start (choosing (c.ServerSecond l)) None place templates wanted = absurd cc
any_picked start (choosing c.ClientFirst) None place templates wanted = absurd cc
any_picked start (choosing (c.ClientPick l)) None place templates wanted = record { leads = λ next. refl; runs = refl }
any_picked start (choosing (c.ClientSecond l there)) None place templates wanted = absurd cc
any_picked start (choosing (c.ClientThird l there)) None place templates wanted = absurd cc
any_picked start (within before text talk) None place templates wanted = absurd (p9sk1_seeks.never_picks (choice.chosen_start p9sk1 start text) talk (subst (λ (n : Need). IsPick n) (sym wanted) tt))

picked_by : (p : Protocol) (start : Start) (talk : List Call) (place : ℕ) (templates : List (List Attr)) → needs_by p start talk ≡ Pick templates → Picked (needs_by p start (picked place ∷ talk)) (ends_by p start (picked place ∷ talk))
picked_by P9sk1 start talk place templates wanted = absurd (p9sk1_seeks.never_picks start talk (subst (λ (n : Need). IsPick n) (sym wanted) tt))
picked_by P9any start talk place templates wanted = any_picked start (choice.course p9sk1 start talk).stage (choice.course p9sk1 start talk).broken place templates wanted
picked_by Mail start talk place templates wanted = absurd (mail_needs.never_picks start talk (subst (λ (n : Need). IsPick n) (sym wanted) tt))

pub picked_leads : (start : Start) (talk : List Call) (place : ℕ) (templates : List (List Attr)) → needs start talk ≡ Pick templates → Picked (needs start (picked place ∷ talk)) (ends start (picked place ∷ talk))
picked_leads start talk place templates wanted = picked_by (protocol_of start.template) start talk place templates wanted

-- ---- a request is taken back

sk_undone : (start : Start) (stage : Stage) (broken : Option Cause) → is_sought (need_unless broken (sk.need_of start stage)) ≡ true → sk.outcome_at (sk_then start stage broken undone) ≡ Running
sk_undone start stage (Some cause) wanted = absurd cc
sk_undone start ClientFirst None wanted = absurd cc
sk_undone start ClientSecond None wanted = absurd cc
sk_undone start (ClientKey request) None wanted = refl
sk_undone start (ClientAsk request k) None wanted = refl
sk_undone start (ClientThird request k tickets) None wanted = absurd cc
sk_undone start (ClientFourth request k tickets) None wanted = absurd cc
sk_undone start (ClientDone request k tickets proof) None wanted = absurd cc
sk_undone start ServerKey None wanted = refl
sk_undone start (ServerFirst k) None wanted = absurd cc
sk_undone start (ServerSecond k theirs) None wanted = absurd cc
sk_undone start (ServerThird k theirs) None wanted = absurd cc
sk_undone start (ServerFourth k theirs shown) None wanted = absurd cc
sk_undone start (ServerDone k theirs shown) None wanted = absurd cc

mail_undone : (start : Start) (stage : MailStage) (broken : Option Cause) → is_sought (need_unless broken (mail.need_of start stage)) ≡ true → mail.outcome_at (mail_then start stage broken undone) ≡ Running
mail_undone start stage (Some cause) wanted = absurd cc
mail_undone start m.ClientFirst None wanted = absurd cc
mail_undone start (m.ClientKey challenge) None wanted = refl
mail_undone start (m.ClientSecond challenge secret) None wanted = absurd cc
mail_undone start (m.ClientDone challenge secret) None wanted = absurd cc
mail_undone start m.ServerKey None wanted = refl
mail_undone start (m.ServerAsk k) None wanted = absurd cc
mail_undone start (m.ServerFirst k challenge) None wanted = absurd cc
mail_undone start (m.ServerSecond k challenge) None wanted = absurd cc
mail_undone start (m.ServerThird k challenge user) None wanted = absurd cc
mail_undone start (m.ServerVouch k challenge user digits) None wanted = absurd cc
mail_undone start (m.ServerDone k challenge user digits vouch) None wanted = absurd cc

-- a choice that is taken back with what it sought first, or a call of the inner role
back_runs : (start : Start) (before : ChoiceStage) (text : List ℕ) (talk : List Call) (first : Bool) → sk.outcome_after (choice.chosen_start p9sk1 start text) (undone ∷ talk) ≡ Running
    → any_end start (then_course (at (within before text talk)) (cond first (goes (choosing before) g.Ok []) (choice.passed_on p9sk1 start before text talk undone))) ≡ Running
back_runs start before text talk true h = refl
back_runs start before text talk false h = h

any_undone : (start : Start) (stage : Standing) (broken : Option Cause) → is_sought (need_unless broken (choice.need_of p9sk1 start stage)) ≡ true → any_end start (any_then start stage broken undone) ≡ Running
any_undone start stage (Some cause) wanted = absurd cc
any_undone start (choosing c.ServerOffers) None wanted = refl
any_undone start (choosing c.ServerKey) None wanted = refl
any_undone start (choosing (c.ServerFirst l)) None wanted = absurd cc
any_undone start (choosing (c.ServerSecond l)) None wanted = absurd cc
any_undone start (choosing c.ClientFirst) None wanted = absurd cc
any_undone start (choosing (c.ClientPick l)) None wanted = refl
any_undone start (choosing (c.ClientSecond l place)) None wanted = absurd cc
any_undone start (choosing (c.ClientThird l place)) None wanted = absurd cc
any_undone start (within before text talk) None wanted =
    let s = choice.chosen_start p9sk1 start text in
    back_runs start before text talk (choice.seeks_first sk.need_after s talk) (sk_undone s (sk.course s talk).stage (sk.course s talk).broken wanted)

undone_by : (p : Protocol) (start : Start) (talk : List Call) → is_sought (needs_by p start talk) ≡ true → ends_by p start (undone ∷ talk) ≡ Running
undone_by P9sk1 start talk wanted = sk_undone start (sk.course start talk).stage (sk.course start talk).broken wanted
undone_by P9any start talk wanted = any_undone start (choice.course p9sk1 start talk).stage (choice.course p9sk1 start talk).broken wanted
undone_by Mail start talk wanted = mail_undone start (mail.course start talk).stage (mail.course start talk).broken wanted

pub undone_runs : (start : Start) (talk : List Call) → is_sought (needs start talk) ≡ true → ends start (undone ∷ talk) ≡ Running
undone_runs start talk wanted = undone_by (protocol_of start.template) start talk wanted

-- ---- the authentication server isn't reached, or there is no memory for its answer

record Fails {S : Type 0} (end : Progress S → Outcome) (unheard_then roomless_then : Progress S) : Type 0 where
  pub unheard : end unheard_then ≡ Broken NoServer
  pub roomless : end roomless_then ≡ Broken NoRoom

sk_fails : (start : Start) (stage : Stage) (broken : Option Cause) → IsExchange (need_unless broken (sk.need_of start stage)) → Fails sk.outcome_at (sk_then start stage broken unheard) (sk_then start stage broken roomless)
sk_fails start stage (Some cause) wanted = absurd wanted
sk_fails start ClientFirst None wanted = absurd wanted
sk_fails start ClientSecond None wanted = absurd wanted
sk_fails start (ClientKey request) None wanted = absurd (no_exchange start (request_of request) wanted)
  where
    no_exchange : (start : Start) (r : Result TicketReq FieldFault) → IsExchange (sk.key_need start r) → ⊥
    no_exchange start (Ok q) w = w
    no_exchange start (Err fault) w = w
sk_fails start (ClientAsk request k) None wanted = record { unheard = refl; roomless = refl }
sk_fails start (ClientThird request k tickets) None wanted = absurd wanted
sk_fails start (ClientFourth request k tickets) None wanted = absurd wanted
sk_fails start (ClientDone request k tickets proof) None wanted = absurd wanted
sk_fails start ServerKey None wanted = absurd wanted
sk_fails start (ServerFirst k) None wanted = absurd wanted
sk_fails start (ServerSecond k theirs) None wanted = absurd wanted
sk_fails start (ServerThird k theirs) None wanted = absurd wanted
sk_fails start (ServerFourth k theirs shown) None wanted = absurd wanted
sk_fails start (ServerDone k theirs shown) None wanted = absurd wanted

mail_fails : (start : Start) (stage : MailStage) (broken : Option Cause) → IsExchange (need_unless broken (mail.need_of start stage)) → Fails mail.outcome_at (mail_then start stage broken unheard) (mail_then start stage broken roomless)
mail_fails start stage (Some cause) wanted = absurd wanted
mail_fails start m.ClientFirst None wanted = absurd wanted
mail_fails start (m.ClientKey challenge) None wanted = absurd wanted
mail_fails start (m.ClientSecond challenge secret) None wanted = absurd wanted
mail_fails start (m.ClientDone challenge secret) None wanted = absurd wanted
mail_fails start m.ServerKey None wanted = absurd wanted
mail_fails start (m.ServerAsk k) None wanted = record { unheard = refl; roomless = refl }
mail_fails start (m.ServerFirst k challenge) None wanted = absurd wanted
mail_fails start (m.ServerSecond k challenge) None wanted = absurd wanted
mail_fails start (m.ServerThird k challenge user) None wanted = absurd wanted
mail_fails start (m.ServerVouch k challenge user digits) None wanted = record { unheard = refl; roomless = refl }
mail_fails start (m.ServerDone k challenge user digits vouch) None wanted = absurd wanted

any_fails : (start : Start) (stage : Standing) (broken : Option Cause) → IsExchange (need_unless broken (choice.need_of p9sk1 start stage)) → Fails (any_end start) (any_then start stage broken unheard) (any_then start stage broken roomless)
any_fails start stage (Some cause) wanted = absurd wanted
any_fails start (choosing c.ServerOffers) None wanted = absurd wanted
any_fails start (choosing c.ServerKey) None wanted = absurd wanted
any_fails start (choosing (c.ServerFirst l)) None wanted = absurd wanted
any_fails start (choosing (c.ServerSecond l)) None wanted = absurd wanted
any_fails start (choosing c.ClientFirst) None wanted = absurd wanted
any_fails start (choosing (c.ClientPick l)) None wanted = absurd wanted
any_fails start (choosing (c.ClientSecond l place)) None wanted = absurd wanted
any_fails start (choosing (c.ClientThird l place)) None wanted = absurd wanted
any_fails start (within before text talk) None wanted =
    let s = choice.chosen_start p9sk1 start text in
    let there = sk_fails s (sk.course s talk).stage (sk.course s talk).broken wanted in
    record { unheard = there.unheard; roomless = there.roomless }

unheard_by : (p : Protocol) (start : Start) (talk : List Call) → IsExchange (needs_by p start talk) → ends_by p start (unheard ∷ talk) ≡ Broken NoServer
unheard_by P9sk1 start talk wanted = (sk_fails start (sk.course start talk).stage (sk.course start talk).broken wanted).unheard
unheard_by P9any start talk wanted = (any_fails start (choice.course p9sk1 start talk).stage (choice.course p9sk1 start talk).broken wanted).unheard
unheard_by Mail start talk wanted = (mail_fails start (mail.course start talk).stage (mail.course start talk).broken wanted).unheard

roomless_by : (p : Protocol) (start : Start) (talk : List Call) → IsExchange (needs_by p start talk) → ends_by p start (roomless ∷ talk) ≡ Broken NoRoom
roomless_by P9sk1 start talk wanted = (sk_fails start (sk.course start talk).stage (sk.course start talk).broken wanted).roomless
roomless_by P9any start talk wanted = (any_fails start (choice.course p9sk1 start talk).stage (choice.course p9sk1 start talk).broken wanted).roomless
roomless_by Mail start talk wanted = (mail_fails start (mail.course start talk).stage (mail.course start talk).broken wanted).roomless

pub unheard_breaks : (start : Start) (talk : List Call) → IsExchange (needs start talk) → ends start (unheard ∷ talk) ≡ Broken NoServer
unheard_breaks start talk wanted = unheard_by (protocol_of start.template) start talk wanted

pub roomless_breaks : (start : Start) (talk : List Call) → IsExchange (needs start talk) → ends start (roomless ∷ talk) ≡ Broken NoRoom
roomless_breaks start talk wanted = roomless_by (protocol_of start.template) start talk wanted

-- ---- what is searched for is public

all_append : {X : Type 0} (p : X → Bool) (xs ys : List X) → list_all p xs ≡ true → list_all p ys ≡ true → list_all p (xs ++ ys) ≡ true
all_append p [] ys h k = k
all_append p (x ∷ xs) ys h k = let parts = and_parts (p x) (list_all p xs) h in rw (parts.0, all_append p xs ys parts.1 k) refl

others_public : (role : Role) (template : List Attr) → list_all is_public (others_part role template) ≡ true
others_public role [] = refl
others_public role (a ∷ template) = elim (cases_Bool (is_other role a)) [
  | inl e ↦ rw (e, (and_parts (is_public a) (not (is_own role a)) e).0, others_public role template) refl
  | inr e ↦ rw (e, others_public role template) refl
]

dom_public : (dom : Option (List ℕ)) → list_all is_public (dom_part dom) ≡ true
dom_public None = refl
dom_public (Some dom) = refl

user_public : (there : Bool) → list_all is_public (cond there [] (asked_as (codes "user") ∷ [])) ≡ true
user_public true = refl
user_public false = refl

ask_dom_public : (role : Role) (known : Bool) → list_all is_public (ask_dom_part role known) ≡ true
ask_dom_public Server true = refl
ask_dom_public Server false = refl
ask_dom_public Client known = refl
ask_dom_public (Speakfor user) known = refl

asked_public : (protocol : List ℕ) (role : Role) (template : List Attr) (dom : Option (List ℕ)) → list_all is_public (asked protocol role template dom) ≡ true
unfolding asked
asked_public protocol role template dom =
    all_append is_public (dom_part dom) _ (dom_public dom) (all_append is_public (others_part role template) _ (others_public role template)
    (all_append is_public (user_part (others_part role template)) _ (user_public (has_name (others_part role template) (codes "user"))) (ask_dom_public role (is_some dom))))

-- all that a need would have searched for
abbrev pub is_open_need : Need → Bool
is_open_need (Key template) = list_all is_public template
is_open_need (Offers template) = list_all is_public template
is_open_need (Pick templates) = list_all (λ template. list_all is_public template) templates
is_open_need (Exchange request shape) = true
is_open_need Nothing = true

need_open : (broken : Option Cause) (need : Need) → is_open_need need ≡ true → is_open_need (need_unless broken need) ≡ true
need_open None need h = h
need_open (Some cause) need h = refl

sk_open : (start : Start) (stage : Stage) → is_open_need (sk.need_of start stage) ≡ true
sk_open start (ClientKey request) = by_request (request_of request)
  where
    by_request : (r : Result TicketReq FieldFault) → is_open_need (sk.key_need start r) ≡ true
    by_request (Ok q) = asked_public (codes "p9sk1") (role_of start.template) start.template (Some q.authdom)
    by_request (Err fault) = refl
sk_open start (ClientAsk request k) = by_request (request_of request)
  where
    by_request : (r : Result TicketReq FieldFault) → is_open_need (sk.answer_need start k r) ≡ true
    by_request (Ok q) = refl
    by_request (Err fault) = refl
sk_open start ServerKey = asked_public (codes "p9sk1") (role_of start.template) start.template (value_of (codes "dom") start.template)
sk_open start ClientFirst = refl
sk_open start ClientSecond = refl
sk_open start (ClientThird request k tickets) = refl
sk_open start (ClientFourth request k tickets) = refl
sk_open start (ClientDone request k tickets proof) = refl
sk_open start (ServerFirst k) = refl
sk_open start (ServerSecond k theirs) = refl
sk_open start (ServerThird k theirs) = refl
sk_open start (ServerFourth k theirs shown) = refl
sk_open start (ServerDone k theirs shown) = refl

mail_open : (start : Start) (stage : MailStage) → is_open_need (mail.need_of start stage) ≡ true
mail_open start (m.ClientKey challenge) = asked_public _ Client start.template (value_of (codes "dom") start.template)
mail_open start m.ServerKey = asked_public (codes "p9sk1") Server start.template (value_of (codes "dom") start.template)
mail_open start m.ClientFirst = refl
mail_open start (m.ClientSecond challenge secret) = refl
mail_open start (m.ClientDone challenge secret) = refl
mail_open start (m.ServerAsk k) = refl
mail_open start (m.ServerFirst k challenge) = refl
mail_open start (m.ServerSecond k challenge) = refl
mail_open start (m.ServerThird k challenge user) = refl
mail_open start (m.ServerVouch k challenge user digits) = refl
mail_open start (m.ServerDone k challenge user digits vouch) = refl

each_open : (start : Start) (doms : List (List ℕ)) → list_all (λ template. list_all is_public template) (map (λ dom. asked_within (codes "p9sk1") start dom) doms) ≡ true
each_open start [] = refl
each_open start (dom ∷ doms) = rw (asked_public (codes "p9sk1") (role_of start.template) start.template (Some dom), each_open start doms) refl

any_open : (start : Start) (stage : Standing) → is_open_need (choice.need_of p9sk1 start stage) ≡ true
any_open start (choosing c.ServerOffers) = asked_public (codes "p9sk1") (role_of start.template) start.template (value_of (codes "dom") start.template)
any_open start (choosing c.ServerKey) = asked_public (codes "p9sk1") (role_of start.template) start.template (value_of (codes "dom") start.template)
any_open start (choosing (c.ClientPick l)) = each_open start (eligible (codes "p9sk1") start l)
any_open start (choosing (c.ServerFirst l)) = refl
any_open start (choosing (c.ServerSecond l)) = refl
any_open start (choosing c.ClientFirst) = refl
any_open start (choosing (c.ClientSecond l place)) = refl
any_open start (choosing (c.ClientThird l place)) = refl
any_open start (within before text talk) =
    let s = choice.chosen_start p9sk1 start text in
    need_open (sk.course s talk).broken (sk.need_of s (sk.course s talk).stage) (sk_open s (sk.course s talk).stage)

open_by : (p : Protocol) (start : Start) (talk : List Call) → is_open_need (needs_by p start talk) ≡ true
open_by P9sk1 start talk = need_open (sk.course start talk).broken (sk.need_of start (sk.course start talk).stage) (sk_open start (sk.course start talk).stage)
open_by P9any start talk = need_open (choice.course p9sk1 start talk).broken (choice.need_of p9sk1 start (choice.course p9sk1 start talk).stage) (any_open start (choice.course p9sk1 start talk).stage)
open_by Mail start talk = need_open (mail.course start talk).broken (mail.need_of start (mail.course start talk).stage) (mail_open start (mail.course start talk).stage)

pub need_is_open : (start : Start) (talk : List Call) → is_open_need (needs start talk) ≡ true
need_is_open start talk = open_by (protocol_of start.template) start talk

pub searches_public : (start : Start) (talk : List Call) → asks_in_public (shown_need (needs start talk)) ≡ true
searches_public start talk = by_need (needs start talk) (need_is_open start talk)
  where
    by_need : (need : Need) → is_open_need need ≡ true → asks_in_public (shown_need need) ≡ true
    by_need (Key template) h = h
    by_need (Offers template) h = h
    by_need (Pick templates) h = h
    by_need (Exchange request shape) h = refl
    by_need Nothing h = refl
