-- A p9any client's acts are talk that anybody may know, until the choice is made, and then the moves of a symbolic client.
use Rattle.std.proofs.Common.{◌≡◌, ℕ, List, [], ◌∷◌, ◌++◌, All, append-nil, true, false, Option, inl, inr, refl, sym, ap, subst, ◌∙◌}
use Rattle.std.specs.Prelude.{codes}
use Rattle.symbolic_runs.specs.Spellings.{Atoms}
use Rattle.roles.specs.declared.stage.Role.{Role as SkRole}
use Rattle.roles.specs.declared.key.SkKey.{SkKey}
use Rattle.roles.specs.Starts.{Start, role_of}
use Rattle.roles.specs.Talks.{Call}
use Rattle.conv_challenge.specs.Starts.{proto_of, side_of}
use Rattle.conv_p9any.specs.Offers.{consents, dom_in}
use Rattle.conv_p9any.specs.Texts.{text_with_nul}
use Rattle.talks.specs.Protocols.{P9any, P9sk1, protocol_of}
use Rattle.talks.specs.Lines.{cause_text}
use Rattle.wire_histories.specs.declared.step.Protocol.TheVariants as protocol
use Rattle.symbolic_runs.specs.Moves.{Role, client, fails, Own}
use Rattle.wire_histories.specs.Histories.{Act, started, gave, took, failed}
use Rattle.wire_histories.specs.Conversations.{acts_from, kept_by, met_by, part_as, protocol_as, role_as, speaks, started_by}
use Rattle.wire_histories.specs.Legal.{IsMet, IsTalk, Spoken}
use Rattle.clean_runs.specs.Labels.{Labelled}
use Rattle.clean_runs.specs.Runs.{acts_in, is_choosing, moves_by, moves_for, role_by}
use Rattle.clean_runs.specs.Clean.{ReadsKept, ReadsWord}
use Rattle.clean_runs.proofs.AnyClients.{Stands, at_once, begun, broken, by_consent, choice_bytes, chosen_acts, consented_acts, consenting, picking, ready, refused, stands}
use Rattle.clean_runs.proofs.AnyLemmas.{consents_same, inner_role, still_more}
use Rattle.clean_runs.proofs.AnyTalks.{acts, inner_start, keeps, met}
use Rattle.clean_runs.proofs.Begun.{BeginsWith}
use Rattle.clean_runs.proofs.Follows.{CleanActs, Follows, IsFollowed, IsLawful, IsOrderlyTalk, as_follows, chooses, fails_so, one_act, own_by, role_in, takes_none}
use Rattle.clean_runs.proofs.Grounds.{Each, Ground, each_as, each_behind}
use Rattle.clean_runs.proofs.Kept.{front_all, last_found, sk_keeps}
use Rattle.clean_runs.proofs.LeftLemmas.{acts_above}
use Rattle.clean_runs.proofs.SkClientLaw.{Reading}
use Rattle.clean_runs.proofs.SkClientLaw as sk
use Rattle.clean_runs.proofs.SkClients.{IsClientRole, for_another, for_itself}
use Rattle.clean_runs.proofs.SkClients as inner
use Rattle.clean_runs.proofs.Steps.{is_start}

pub record IsAnyClient (start : Start) : Type 0 where
  pub any : protocol_of start.template ≡ P9any
  pub client : IsClientRole (role_of start.template)

abbrev first : Start → Act
first start = started protocol.P9any (part_as (role_of start.template)) start.word

first_is : (start : Start) → IsAnyClient start → started_by start ≡ first start
first_is start is = ap (λ p. started (protocol_as p (proto_of start.template)) (role_as p (role_of start.template) (side_of start.template)) start.word) is.any

inner_client : (start : Start) → IsAnyClient start → (text : List ℕ) → IsClientRole (role_of (inner_start start text).template)
inner_client start is text = subst IsClientRole (sym (inner_role start.template (dom_in (codes "p9sk1") text))) is.client

-- ---- what may come next

-- a list, and the acts behind it
abbrev taken_acts : Start → List ℕ → List Act
taken_acts start list = took (text_with_nul list) ∷ first start ∷ []

abbrev choosing_acts : Start → List ℕ → List ℕ → List Act
choosing_acts start list choice = chosen_acts (first start) (text_with_nul list) choice

abbrev consenting_acts : Start → List ℕ → List ℕ → List ℕ → List Act
consenting_acts start list choice c = consented_acts (first start) (text_with_nul list) choice c

data Before (start : Start) : Act → List Act → Type 0 where
  it_starts : Before start (first start) []
  it_takes_list : (l : List ℕ) → Before start (took l) (first start ∷ [])
  it_refuses : (l cause : List ℕ) → Before start (failed cause) (took l ∷ first start ∷ [])
  it_chooses : (list choice : List ℕ) → Before start (gave choice) (taken_acts start list)
  it_takes_consent : (list choice c : List ℕ) → consents list ≡ true → Before start (took c) (choosing_acts start list choice)
  it_breaks : (list choice c cause : List ℕ) → Before start (failed cause) (consenting_acts start list choice c)

-- what the inner talk stands on
data IsGround (start : Start) : List Act → Type 0 where
  on_choice : (list choice : List ℕ) → consents list ≡ false → IsGround start (choosing_acts start list choice)
  on_consent : (list choice c : List ℕ) → consents list ≡ true → IsGround start (consenting_acts start list choice c)

data Next (start : Start) (met : List Call) (key : Option (SkKey × Option (List ℕ))) : Act → List Act → Type 0 where
  of_choice : {act : Act} {acts : List Act} → Before start act acts → Next start met key act acts
  of_talk : {act : Act} {acts : List Act} (ground : List Act) (text : List ℕ) (own more : List Call) → IsGround start ground → met ≡ own ++ more → key ≡ last_found own → sk.Next (inner_start start text) ground own act acts → Next start met key act acts

taken_next : (start : Start) (P : Act → List Act → Type 0) → ((act : Act) (acts : List Act) → Before start act acts → P act acts) → (l : List ℕ) → Each P (took l ∷ first start ∷ [])
taken_next start P so l = (so _ _ (it_takes_list l), (so _ _ it_starts, tt))

choosing_next : (start : Start) (P : Act → List Act → Type 0) → ((act : Act) (acts : List Act) → Before start act acts → P act acts) → (list choice : List ℕ) → Each P (choosing_acts start list choice)
choosing_next start P so list choice = (so _ _ (it_chooses list choice), taken_next start P so (text_with_nul list))

consenting_next : (start : Start) (P : Act → List Act → Type 0) → ((act : Act) (acts : List Act) → Before start act acts → P act acts) → (list choice c : List ℕ) → consents list ≡ true → Each P (consenting_acts start list choice c)
consenting_next start P so list choice c asks = (so _ _ (it_takes_consent list choice c asks), choosing_next start P so list choice)

as_next : (start : Start) (met : List Call) (key : Option (SkKey × Option (List ℕ))) (ground : List Act) (text : List ℕ) (own more : List Call) → IsGround start ground → met ≡ own ++ more → key ≡ last_found own → (act : Act) (acts : List Act) → sk.Comes (inner_start start text) ground own (Before start) act acts → Next start met key act acts
as_next start met key ground text own more is met_is key_is act acts (inl next) = of_talk ground text own more is met_is key_is next
as_next start met key ground text own more is met_is key_is act acts (inr b) = of_choice b

all_next : (start : Start) (talk : List Call) → IsAnyClient start → Stands start (first start) talk → Each (Next start (met start talk) (keeps start talk)) (acts start (first start) talk)
all_next start talk is (begun here) = subst (Each (Next start (met start talk) (keeps start talk))) (sym here.left) (of_choice it_starts, tt)
all_next start talk is (refused l cause here) = subst (Each (Next start (met start talk) (keeps start talk))) (sym here.left) (of_choice (it_refuses l (cause_text cause)), taken_next start (Next start (met start talk) (keeps start talk)) (λ act acts b. of_choice b) l)
all_next start talk is (picking list waited here) = subst (Each (Next start (met start talk) (keeps start talk))) (sym here.left) (of_choice it_starts, tt)
all_next start talk is (ready list place here) = subst (Each (Next start (met start talk) (keeps start talk))) (sym here.left) (taken_next start (Next start (met start talk) (keeps start talk)) (λ act acts b. of_choice b) (text_with_nul list))
all_next start talk is (consenting list place asks here) = subst (Each (Next start (met start talk) (keeps start talk))) (sym here.left) (choosing_next start (Next start (met start talk) (keeps start talk)) (λ act acts b. of_choice b) list (choice_bytes start list place))
all_next start talk is (broken list place c cause asks here) = subst (Each (Next start (met start talk) (keeps start talk))) (sym here.left) (of_choice (it_breaks list (choice_bytes start list place) c (cause_text cause)), consenting_next start (Next start (met start talk) (keeps start talk)) (λ act acts b. of_choice b) list (choice_bytes start list place) c asks)
all_next start talk is (at_once list place text entry talked more asks here) =
    let ground = choosing_acts start list (choice_bytes start list place) in
    let own = met_by (speaks P9sk1 (inner_start start text)) talked in
    let P = sk.Comes (inner_start start text) ground own (Before start) in
    subst (Each (Next start (met start talk) (keeps start talk))) (sym here.left)
    (each_as P (Next start (met start talk) (keeps start talk)) (as_next start (met start talk) (keeps start talk) ground text own more (on_choice list (choice_bytes start list place) asks) here.has (here.keeps_its ∙ sk_keeps (inner_start start text) talked)) (acts_above (speaks P9sk1 (inner_start start text)) entry talked ++ ground)
    (sk.all_next (inner_start start text) entry ground own [] (Before start) talked (choosing_next start P (λ act acts b. inr b) list (choice_bytes start list place)) (sym (append-nil own)) (inner.stands (inner_start start text) entry (inner_client start is text) talked)))
all_next start talk is (by_consent list place c text entry talked more asks here) =
    let ground = consenting_acts start list (choice_bytes start list place) c in
    let own = met_by (speaks P9sk1 (inner_start start text)) talked in
    let P = sk.Comes (inner_start start text) ground own (Before start) in
    subst (Each (Next start (met start talk) (keeps start talk))) (sym here.left)
    (each_as P (Next start (met start talk) (keeps start talk)) (as_next start (met start talk) (keeps start talk) ground text own more (on_consent list (choice_bytes start list place) c asks) here.has (here.keeps_its ∙ sk_keeps (inner_start start text) talked)) (acts_above (speaks P9sk1 (inner_start start text)) entry talked ++ ground)
    (sk.all_next (inner_start start text) entry ground own [] (Before start) talked (consenting_next start P (λ act acts b. inr b) list (choice_bytes start list place) c asks) (sym (append-nil own)) (inner.stands (inner_start start text) entry (inner_client start is text) talked)))

nexts : (spoken : Spoken) → IsAnyClient spoken.start → (acts_so : List Act) → IsTalk spoken acts_so → Each (Next spoken.start spoken.met spoken.key) acts_so
nexts spoken is acts_so t =
    let start = spoken.start in
    let mets : met start t.talk ≡ spoken.met = sym (ap (λ p. met_by (speaks p start) t.talk) is.any) ∙ t.met in
    let kept : keeps start t.talk ≡ spoken.key = sym (ap (λ p. kept_by (speaks p start) t.talk) is.any) ∙ t.kept in
    let left : acts start (first start) t.talk ≡ t.later ++ acts_so = sym (ap (λ p. acts_from (speaks p start) (started_by start) t.talk) is.any ∙ ap (λ f. acts_from (speaks P9any start) f t.talk) (first_is start is)) ∙ t.left in
    each_behind (Next start spoken.met spoken.key) t.later acts_so (subst (Each (Next start spoken.met spoken.key)) left (subst (λ k. Each (Next start spoken.met k) (acts start (first start) t.talk)) kept (subst (λ m. Each (Next start m (keeps start t.talk)) (acts start (first start) t.talk)) mets (all_next start t.talk is (stands start (first start) is.client (inner_client start is) t.talk)))))

-- ---- they begin with the start

before_begins : (start : Start) (act : Act) (acts : List Act) → Before start act acts → BeginsWith (first start) (act ∷ acts)
before_begins start act acts it_starts = refl
before_begins start act acts (it_takes_list l) = (refl, refl)
before_begins start act acts (it_refuses l cause) = (refl, (refl, refl))
before_begins start act acts (it_chooses list choice) = (refl, (refl, refl))
before_begins start act acts (it_takes_consent list choice c asks) = (refl, (refl, (refl, refl)))
before_begins start act acts (it_breaks list choice c cause) = (refl, (refl, (refl, (refl, refl))))

-- ---- the grounds

still_start : (start : Start) (own : Own) (before : List Labelled) → acts_in before ≡ first start ∷ [] → moves_by own client before ≡ []
still_start start own before is = (let a = one_act before (first start) is in ap (moves_by own client) a.1 ∙ ap (λ act. moves_for own client false [] act a.0.label ++ []) a.2)

still_taken : (start : Start) (l : List ℕ) (own : Own) (before : List Labelled) → acts_in before ≡ took l ∷ first start ∷ [] → moves_by own client before ≡ []
still_taken start l own before is = still_more own client before (took l) (first start ∷ []) is refl (λ label. refl) (still_start start own)

still_choosing : (start : Start) (list choice : List ℕ) (own : Own) (before : List Labelled) → acts_in before ≡ choosing_acts start list choice → moves_by own client before ≡ []
still_choosing start list choice own before is = still_more own client before (gave choice) (taken_acts start list) is refl (λ label. refl) (still_taken start (text_with_nul list) own)

still_consenting : (start : Start) (list choice c : List ℕ) → consents list ≡ true → (own : Own) (before : List Labelled) → acts_in before ≡ consenting_acts start list choice c → moves_by own client before ≡ []
still_consenting start list choice c asks own before is = still_more own client before (took c) (choosing_acts start list choice) is (consents_same list ∙ asks) (λ label. refl) (still_choosing start list choice own)

its_ground : (start : Start) (ground : List Act) → IsGround start ground → Ground (first start) client ground
its_ground start ground (on_choice list choice asks) = record { begins = (refl, (refl, refl)); quiet = consents_same list ∙ asks; took_quiet = λ b. refl; gave_quiet = λ b. refl; both_quiet = λ a b. refl; still = still_choosing start list choice }
its_ground start ground (on_consent list choice c asks) = record { begins = (refl, (refl, (refl, refl))); quiet = refl; took_quiet = λ b. refl; gave_quiet = λ b. refl; both_quiet = λ a b. refl; still = still_consenting start list choice c asks }

begins_so : (start : Start) (met : List Call) (key : Option (SkKey × Option (List ℕ))) (act : Act) (acts : List Act) → Next start met key act acts → BeginsWith (first start) (act ∷ acts)
begins_so start met key act acts (of_choice b) = before_begins start act acts b
begins_so start met key act acts (of_talk ground text own more is met_is key_is next) = sk.begins_with (first start) (inner_start start text) ground own act acts (its_ground start ground is).begins next

orderly : (spoken : Spoken) → IsAnyClient spoken.start → IsOrderlyTalk spoken
orderly spoken is act acts t = subst (λ f. BeginsWith f (act ∷ acts)) (sym (first_is spoken.start is)) (begins_so spoken.start spoken.met spoken.key act acts (nexts spoken is (act ∷ acts) t).0)

-- ---- each act

before_follows : (start : Start) (act : Act) (acts : List Act) → Before start act acts → (atoms : Atoms) (own : Own) (before : List Labelled) (a : Labelled) → a.act ≡ act → acts_in before ≡ acts → is_start act ≡ false →
    Follows atoms own client (moves_by own client before) (is_choosing (acts_in before)) a.act a.label (moves_for own client (is_choosing (acts_in before)) (moves_by own client before) a.act a.label)
before_follows start act acts it_starts atoms own before a act_is acts_are no_start = absurd (cc)
before_follows start act acts (it_takes_list l) atoms own before a act_is acts_are no_start = as_follows atoms own client before a [] true (took l) [] (still_start start own before acts_are) (ap is_choosing acts_are) act_is refl (takes_none l)
before_follows start act acts (it_refuses l cause) atoms own before a act_is acts_are no_start = as_follows atoms own client before a (moves_by own client before) (is_choosing (acts_in before)) (failed cause) (fails ∷ []) refl refl act_is refl (fails_so cause)
before_follows start act acts (it_chooses list choice) atoms own before a act_is acts_are no_start = as_follows atoms own client before a [] true (gave choice) [] (still_taken start (text_with_nul list) own before acts_are) (ap is_choosing acts_are) act_is refl (chooses choice refl)
before_follows start act acts (it_takes_consent list choice c asks) atoms own before a act_is acts_are no_start = as_follows atoms own client before a [] true (took c) [] (still_choosing start list choice own before acts_are) (ap is_choosing acts_are ∙ (consents_same list ∙ asks)) act_is refl (takes_none c)
before_follows start act acts (it_breaks list choice c cause) atoms own before a act_is acts_are no_start = as_follows atoms own client before a (moves_by own client before) (is_choosing (acts_in before)) (failed cause) (fails ∷ []) refl refl act_is refl (fails_so cause)

follows_so : (start : Start) (met : List Call) (key : Option (SkKey × Option (List ℕ))) (act : Act) (acts : List Act) → Next start met key act acts → (atoms : Atoms) (number : ℕ) (holder : List ℕ) → ((text : List ℕ) (own more : List Call) → met ≡ own ++ more → key ≡ last_found own → Reading atoms (inner_start start text) own number holder) → (before : List Labelled) (a : Labelled) → a.act ≡ act → acts_in before ≡ acts → CleanActs atoms (own_by number holder) client (a ∷ before) → is_start act ≡ false →
    Follows atoms (own_by number holder) client (moves_by (own_by number holder) client before) (is_choosing (acts_in before)) a.act a.label (moves_for (own_by number holder) client (is_choosing (acts_in before)) (moves_by (own_by number holder) client before) a.act a.label)
follows_so start met key act acts (of_choice b) atoms number holder read earlier a act_is acts_are clean no_start = before_follows start act acts b atoms (own_by number holder) earlier a act_is acts_are no_start
follows_so start met key act acts (of_talk ground text own more is met_is key_is next) atoms number holder read earlier a act_is acts_are clean no_start = sk.followed_in (first start) ground (its_ground start ground is) (inner_start start text) own act acts next atoms number holder (read text own more met_is key_is) earlier a act_is acts_are clean no_start

-- the part that a client names
client_part : (role : SkRole) → IsClientRole role → role_by protocol.P9any (part_as role) ≡ client
client_part role for_itself = refl
client_part role (for_another user name) = refl

of_this_role : (start : Start) (role : Role) → IsAnyClient start → role_in (started_by start) role → role ≡ client
of_this_role start role is in_it =
    let so : role ≡ role_by protocol.P9any (part_as (role_of start.template)) = subst (λ act. role_in act role) (first_is start is) in_it in
    so ∙ client_part (role_of start.template) is.client

followed : (spoken : Spoken) → IsAnyClient spoken.start → IsFollowed spoken
followed spoken is atoms number holder role read earlier a t clean no_start =
    let role_so = of_this_role spoken.start role is read.of_start in
    let word = subst (λ role. ReadsWord atoms role number spoken.start.word) role_so read.word in
    let key = subst (λ role. ReadsKept atoms role holder spoken.key) role_so read.key in
    subst (λ role. Follows atoms (own_by number holder) role (moves_by (own_by number holder) role earlier) (is_choosing (acts_in earlier)) a.act a.label (moves_for (own_by number holder) role (is_choosing (acts_in earlier)) (moves_by (own_by number holder) role earlier) a.act a.label)) (sym role_so)
    (follows_so spoken.start spoken.met spoken.key a.act (acts_in earlier) (nexts spoken is (a.act ∷ acts_in earlier) t).0 atoms number holder (λ text own more met_is key_is. record { bytes = read.bytes; role = inner_client spoken.start is text; word = word; keys = front_all IsMet own more (subst (All IsMet) met_is t.may.keys); key = subst (ReadsKept atoms client holder) key_is key }) earlier a refl refl (subst (λ role. CleanActs atoms (own_by number holder) role (a ∷ earlier)) role_so clean) no_start)

-- a p9any client is lawful, for itself or speaking for another
pub any_client_is_lawful : (spoken : Spoken) → IsAnyClient spoken.start → IsLawful spoken
any_client_is_lawful spoken is = record { orderly = orderly spoken is; followed = followed spoken is }
