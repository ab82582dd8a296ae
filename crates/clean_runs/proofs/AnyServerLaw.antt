-- A p9any server's acts are talk that anybody may know, until the choice is made, and then the moves of a symbolic server.
use Rattle.std.proofs.Common.{◌≡◌, ℕ, List, [], ◌∷◌, ◌++◌, All, append-nil, true, false, Option, inl, inr, refl, sym, ap, subst, ◌∙◌}
use Rattle.std.specs.Prelude.{codes}
use Rattle.symbolic_runs.specs.Spellings.{Atoms}
use Rattle.roles.specs.declared.stage.Role.TheVariants as sk_role
use Rattle.roles.specs.declared.key.SkKey.{SkKey}
use Rattle.roles.specs.Starts.{Start, role_of}
use Rattle.roles.specs.Talks.{Call}
use Rattle.conv_challenge.specs.Starts.{proto_of, side_of}
use Rattle.conv_p9any.specs.Offers.{dom_in}
use Rattle.conv_p9any.specs.Texts.{text_with_nul}
use Rattle.talks.specs.Protocols.{P9any, P9sk1, protocol_of}
use Rattle.talks.specs.Lines.{cause_text}
use Rattle.wire_histories.specs.declared.step.Protocol.TheVariants as protocol
use Rattle.wire_histories.specs.declared.step.Role.TheVariants as part
use Rattle.symbolic_runs.specs.Moves.{Role, server, fails, Own}
use Rattle.wire_histories.specs.Histories.{Act, started, gave, took, failed}
use Rattle.wire_histories.specs.Conversations.{acts_from, kept_by, met_by, part_as, protocol_as, role_as, speaks, started_by}
use Rattle.wire_histories.specs.Legal.{IsMet, IsTalk, Spoken}
use Rattle.clean_runs.specs.Labels.{Labelled}
use Rattle.clean_runs.specs.Runs.{acts_in, is_choosing, moves_by, moves_for}
use Rattle.clean_runs.specs.Clean.{ReadsKept, ReadsWord}
use Rattle.clean_runs.proofs.AnyLemmas.{inner_role, still_more}
use Rattle.clean_runs.proofs.AnyServers.{Stands, broken, chosen, listed, listed_acts, offering, ready, seeking, stands}
use Rattle.clean_runs.proofs.AnyTalks.{acts, inner_start, keeps, met}
use Rattle.clean_runs.proofs.Begun.{BeginsWith}
use Rattle.clean_runs.proofs.Follows.{CleanActs, Follows, IsFollowed, IsLawful, IsOrderlyTalk, as_follows, chooses, fails_so, one_act, own_by, role_in, takes_none}
use Rattle.clean_runs.proofs.Grounds.{Each, Ground, each_as, each_behind}
use Rattle.clean_runs.proofs.Kept.{front_all, last_found, sk_keeps}
use Rattle.clean_runs.proofs.LeftLemmas.{acts_above}
use Rattle.clean_runs.proofs.SkServerLaw.{Reading}
use Rattle.clean_runs.proofs.SkServerLaw as sk
use Rattle.clean_runs.proofs.SkServers as inner
use Rattle.clean_runs.proofs.Steps.{is_start}

pub record IsAnyServer (start : Start) : Type 0 where
  pub any : protocol_of start.template ≡ P9any
  pub server : role_of start.template ≡ sk_role.Server

abbrev first : Start → Act
first start = started protocol.P9any part.Server start.word

first_is : (start : Start) → IsAnyServer start → started_by start ≡ first start
first_is start is = ap (λ p. started (protocol_as p (proto_of start.template)) (role_as p (role_of start.template) (side_of start.template)) start.word) is.any ∙ ap (λ r. started protocol.P9any (part_as r) start.word) is.server

inner_server : (start : Start) → IsAnyServer start → (text : List ℕ) → role_of (inner_start start text).template ≡ sk_role.Server
inner_server start is text = inner_role start.template (dom_in (codes "p9sk1") text) ∙ is.server

-- ---- what may come next

data Before (start : Start) : Act → List Act → Type 0 where
  it_starts : Before start (first start) []
  it_lists : (list : List ℕ) → Before start (gave (text_with_nul list)) (first start ∷ [])
  it_takes_choice : (list c : List ℕ) → Before start (took c) (listed_acts (first start) list)
  it_breaks : (list c cause : List ℕ) → Before start (failed cause) (took c ∷ listed_acts (first start) list)

-- what the inner talk stands on
abbrev ground : Start → List ℕ → List ℕ → List Act
ground start list c = took c ∷ listed_acts (first start) list

data Next (start : Start) (met : List Call) (key : Option (SkKey × Option (List ℕ))) : Act → List Act → Type 0 where
  of_choice : {act : Act} {acts : List Act} → Before start act acts → Next start met key act acts
  of_talk : {act : Act} {acts : List Act} (list c text : List ℕ) (own more : List Call) → met ≡ own ++ more → key ≡ last_found own → sk.Next (inner_start start text) (ground start list c) own act acts → Next start met key act acts

listed_next : (start : Start) (P : Act → List Act → Type 0) → ((act : Act) (acts : List Act) → Before start act acts → P act acts) → (list : List ℕ) → Each P (listed_acts (first start) list)
listed_next start P so list = (so _ _ (it_lists list), (so _ _ it_starts, tt))

chosen_next : (start : Start) (P : Act → List Act → Type 0) → ((act : Act) (acts : List Act) → Before start act acts → P act acts) → (list c : List ℕ) → Each P (ground start list c)
chosen_next start P so list c = (so _ _ (it_takes_choice list c), listed_next start P so list)

as_next : (start : Start) (met : List Call) (key : Option (SkKey × Option (List ℕ))) (list c text : List ℕ) (own more : List Call) → met ≡ own ++ more → key ≡ last_found own → (act : Act) (acts : List Act) → sk.Comes (inner_start start text) (ground start list c) own (Before start) act acts → Next start met key act acts
as_next start met key list c text own more met_is key_is act acts (inl next) = of_talk list c text own more met_is key_is next
as_next start met key list c text own more met_is key_is act acts (inr is) = of_choice is

all_next : (start : Start) (talk : List Call) → IsAnyServer start → Stands start (first start) talk → Each (Next start (met start talk) (keeps start talk)) (acts start (first start) talk)
all_next start talk is (offering waited here) = subst (Each (Next start (met start talk) (keeps start talk))) (sym here.left) tt
all_next start talk is (seeking waited here) = subst (Each (Next start (met start talk) (keeps start talk))) (sym here.left) tt
all_next start talk is (ready list here) = subst (Each (Next start (met start talk) (keeps start talk))) (sym here.left) (of_choice it_starts, tt)
all_next start talk is (listed list here) = subst (Each (Next start (met start talk) (keeps start talk))) (sym here.left) (listed_next start (Next start (met start talk) (keeps start talk)) (λ act acts b. of_choice b) list)
all_next start talk is (broken list c cause here) = subst (Each (Next start (met start talk) (keeps start talk))) (sym here.left) (of_choice (it_breaks list c (cause_text cause)), chosen_next start (Next start (met start talk) (keeps start talk)) (λ act acts b. of_choice b) list c)
all_next start talk is (chosen list c text talked more here) =
    let own = met_by (speaks P9sk1 (inner_start start text)) talked in
    let P = sk.Comes (inner_start start text) (ground start list c) own (Before start) in
    subst (Each (Next start (met start talk) (keeps start talk))) (sym here.left)
    (each_as P (Next start (met start talk) (keeps start talk)) (as_next start (met start talk) (keeps start talk) list c text own more here.has (here.keeps_its ∙ sk_keeps (inner_start start text) talked)) (acts_above (speaks P9sk1 (inner_start start text)) (took c) talked ++ listed_acts (first start) list)
    (sk.all_next (inner_start start text) (took c) (listed_acts (first start) list) own [] (Before start) talked (chosen_next start P (λ act acts b. inr b) list c) (sym (append-nil own)) (inner.stands (inner_start start text) (took c) (inner_server start is text) talked)))

nexts : (spoken : Spoken) → IsAnyServer spoken.start → (acts_so : List Act) → IsTalk spoken acts_so → Each (Next spoken.start spoken.met spoken.key) acts_so
nexts spoken is acts_so t =
    let start = spoken.start in
    let mets : met start t.talk ≡ spoken.met = sym (ap (λ p. met_by (speaks p start) t.talk) is.any) ∙ t.met in
    let kept : keeps start t.talk ≡ spoken.key = sym (ap (λ p. kept_by (speaks p start) t.talk) is.any) ∙ t.kept in
    let left : acts start (first start) t.talk ≡ t.later ++ acts_so = sym (ap (λ p. acts_from (speaks p start) (started_by start) t.talk) is.any ∙ ap (λ f. acts_from (speaks P9any start) f t.talk) (first_is start is)) ∙ t.left in
    each_behind (Next start spoken.met spoken.key) t.later acts_so (subst (Each (Next start spoken.met spoken.key)) left (subst (λ k. Each (Next start spoken.met k) (acts start (first start) t.talk)) kept (subst (λ m. Each (Next start m (keeps start t.talk)) (acts start (first start) t.talk)) mets (all_next start t.talk is (stands start (first start) is.server (inner_server start is) t.talk)))))

-- ---- they begin with the start

before_begins : (start : Start) (act : Act) (acts : List Act) → Before start act acts → BeginsWith (first start) (act ∷ acts)
before_begins start act acts it_starts = refl
before_begins start act acts (it_lists list) = (refl, refl)
before_begins start act acts (it_takes_choice list c) = (refl, (refl, refl))
before_begins start act acts (it_breaks list c cause) = (refl, (refl, (refl, refl)))

begins_so : (start : Start) (met : List Call) (key : Option (SkKey × Option (List ℕ))) (act : Act) (acts : List Act) → Next start met key act acts → BeginsWith (first start) (act ∷ acts)
begins_so start met key act acts (of_choice b) = before_begins start act acts b
begins_so start met key act acts (of_talk list c text own more met_is key_is next) = sk.begins_with (first start) (inner_start start text) (ground start list c) own act acts (refl, (refl, refl)) next

orderly : (spoken : Spoken) → IsAnyServer spoken.start → IsOrderlyTalk spoken
orderly spoken is act acts t = subst (λ f. BeginsWith f (act ∷ acts)) (sym (first_is spoken.start is)) (begins_so spoken.start spoken.met spoken.key act acts (nexts spoken is (act ∷ acts) t).0)

-- ---- the ground

still_start : (start : Start) (own : Own) (before : List Labelled) → acts_in before ≡ first start ∷ [] → moves_by own server before ≡ []
still_start start own before is = (let a = one_act before (first start) is in ap (moves_by own server) a.1 ∙ ap (λ act. moves_for own server false [] act a.0.label ++ []) a.2)

still_listed : (start : Start) (list : List ℕ) (own : Own) (before : List Labelled) → acts_in before ≡ listed_acts (first start) list → moves_by own server before ≡ []
still_listed start list own before is = still_more own server before (gave (text_with_nul list)) (first start ∷ []) is refl (λ label. refl) (still_start start own)

still_chosen : (start : Start) (list c : List ℕ) (own : Own) (before : List Labelled) → acts_in before ≡ ground start list c → moves_by own server before ≡ []
still_chosen start list c own before is = still_more own server before (took c) (listed_acts (first start) list) is refl (λ label. refl) (still_listed start list own)

chosen_ground : (start : Start) (list c : List ℕ) → Ground (first start) server (ground start list c)
chosen_ground start list c = record { begins = (refl, (refl, refl)); quiet = refl; took_quiet = λ b. refl; gave_quiet = λ b. refl; both_quiet = λ a b. refl; still = still_chosen start list c }

-- ---- each act

before_follows : (start : Start) (act : Act) (acts : List Act) → Before start act acts → (atoms : Atoms) (own : Own) (before : List Labelled) (a : Labelled) → a.act ≡ act → acts_in before ≡ acts → is_start act ≡ false →
    Follows atoms own server (moves_by own server before) (is_choosing (acts_in before)) a.act a.label (moves_for own server (is_choosing (acts_in before)) (moves_by own server before) a.act a.label)
before_follows start act acts it_starts atoms own before a act_is acts_are no_start = absurd (cc)
before_follows start act acts (it_lists list) atoms own before a act_is acts_are no_start = as_follows atoms own server before a [] true (gave (text_with_nul list)) [] (still_start start own before acts_are) (ap is_choosing acts_are) act_is refl (chooses (text_with_nul list) refl)
before_follows start act acts (it_takes_choice list c) atoms own before a act_is acts_are no_start = as_follows atoms own server before a [] true (took c) [] (still_listed start list own before acts_are) (ap is_choosing acts_are) act_is refl (takes_none c)
before_follows start act acts (it_breaks list c cause) atoms own before a act_is acts_are no_start = as_follows atoms own server before a (moves_by own server before) (is_choosing (acts_in before)) (failed cause) (fails ∷ []) refl refl act_is refl (fails_so cause)

follows_so : (start : Start) (met : List Call) (key : Option (SkKey × Option (List ℕ))) (act : Act) (acts : List Act) → Next start met key act acts → (atoms : Atoms) (number : ℕ) (holder : List ℕ) → ((text : List ℕ) (own more : List Call) → met ≡ own ++ more → key ≡ last_found own → Reading atoms (inner_start start text) own number holder) → (before : List Labelled) (a : Labelled) → a.act ≡ act → acts_in before ≡ acts → CleanActs atoms (own_by number holder) server (a ∷ before) → is_start act ≡ false →
    Follows atoms (own_by number holder) server (moves_by (own_by number holder) server before) (is_choosing (acts_in before)) a.act a.label (moves_for (own_by number holder) server (is_choosing (acts_in before)) (moves_by (own_by number holder) server before) a.act a.label)
follows_so start met key act acts (of_choice b) atoms number holder read earlier a act_is acts_are clean no_start = before_follows start act acts b atoms (own_by number holder) earlier a act_is acts_are no_start
follows_so start met key act acts (of_talk list c text own more met_is key_is next) atoms number holder read earlier a act_is acts_are clean no_start = sk.followed_in (first start) (ground start list c) (chosen_ground start list c) (inner_start start text) own act acts next atoms number holder (read text own more met_is key_is) earlier a act_is acts_are clean no_start

of_this_role : (start : Start) (role : Role) → IsAnyServer start → role_in (started_by start) role → role ≡ server
of_this_role start role is in_it = subst (λ act. role_in act role) (first_is start is) in_it

followed : (spoken : Spoken) → IsAnyServer spoken.start → IsFollowed spoken
followed spoken is atoms number holder role read earlier a t clean no_start =
    let role_so = of_this_role spoken.start role is read.of_start in
    let word = subst (λ role. ReadsWord atoms role number spoken.start.word) role_so read.word in
    let key = subst (λ role. ReadsKept atoms role holder spoken.key) role_so read.key in
    subst (λ role. Follows atoms (own_by number holder) role (moves_by (own_by number holder) role earlier) (is_choosing (acts_in earlier)) a.act a.label (moves_for (own_by number holder) role (is_choosing (acts_in earlier)) (moves_by (own_by number holder) role earlier) a.act a.label)) (sym role_so)
    (follows_so spoken.start spoken.met spoken.key a.act (acts_in earlier) (nexts spoken is (a.act ∷ acts_in earlier) t).0 atoms number holder (λ text own more met_is key_is. record { bytes = read.bytes; word = word; eight = t.may.word.whole; keys = front_all IsMet own more (subst (All IsMet) met_is t.may.keys); key = subst (ReadsKept atoms server holder) key_is key }) earlier a refl refl (subst (λ role. CleanActs atoms (own_by number holder) role (a ∷ earlier)) role_so clean) no_start)

-- a p9any server is lawful
pub any_server_is_lawful : (spoken : Spoken) → IsAnyServer spoken.start → IsLawful spoken
any_server_is_lawful spoken is = record { orderly = orderly spoken is; followed = followed spoken is }
