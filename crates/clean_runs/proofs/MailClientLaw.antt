-- A mail client's acts are the moves of a symbolic mail client: it takes a challenge and gives its digest.
use Rattle.std.proofs.Common.{◌≡◌, ℕ, List, [], ◌∷◌, ◌++◌, Option, Some, unwrap_or, false, Ok, refl, sym, ap, subst, ◌∙◌}
use Rattle.symbolic_runs.specs.declared.kind.MacKind.{MacKind}
use Rattle.symbolic_runs.specs.declared.kind.MacKind.TheVariants as mac
use Rattle.symbolic_runs.specs.Trees.{Tree, digest, password}
use Rattle.symbolic_runs.specs.Spellings.{Atoms, and_then, atom_bytes, bytes_of, digest_bytes, spelling}
use Rattle.roles.specs.declared.key.SkKey.{SkKey}
use Rattle.roles.specs.Starts.{Start, role_of}
use Rattle.roles.specs.Talks.{Call, found}
use Rattle.conv_challenge.specs.declared.stage.Proto.{Proto}
use Rattle.conv_challenge.specs.declared.stage.Proto.TheVariants.{Apop, Cram}
use Rattle.conv_challenge.specs.declared.stage.Side.TheVariants.{Client}
use Rattle.conv_challenge.specs.Clients.{digits_by}
use Rattle.conv_challenge.specs.Starts.{proto_of, side_of}
use Rattle.talks.specs.Protocols.{Mail, protocol_of}
use Rattle.wire_histories.specs.declared.step.Role.{Role as Part}
use Rattle.wire_histories.specs.declared.step.Role.TheVariants as part
use Rattle.symbolic_runs.specs.Moves.{Role, mail_client, takes, gives, Own, mail_client_challenge, mail_client_answer}
use Rattle.wire_histories.specs.Histories.{Act, started, gave, took}
use Rattle.wire_histories.specs.Conversations.{acts_from, mail_protocol, met_by, protocol_as, role_as, side_as, speaks, started_by}
use Rattle.wire_histories.specs.Legal.{IsTalk, Spoken}
use Rattle.clean_runs.specs.Labels.{Labelled}
use Rattle.clean_runs.specs.Runs.{acts_in, is_choosing, moves_by, moves_for, role_by}
use Rattle.clean_runs.specs.Clean.{ReadsKept}
use Rattle.clean_runs.proofs.Begun.{BeginsWith}
use Rattle.clean_runs.proofs.Follows.{CleanActs, Follows, IsFollowed, IsLawful, IsOrderlyTalk, as_follows, gives_it, more_acts, one_act, own_by, role_in, takes_it, takes_none}
use Rattle.clean_runs.proofs.Kept.{ReadsMet, mail_kept}
use Rattle.clean_runs.proofs.MailClients.{Behind, Stands, at_once, begun, digits, done, keyless, ready, stands, told}
use Rattle.clean_runs.proofs.Steps.{is_start, taken_by}

-- a mail client's start
pub record IsMailClient (start : Start) : Type 0 where
  pub mail : protocol_of start.template ≡ Mail
  pub client : side_of start.template ≡ Client

abbrev pub first : Start → Act
first start = started (mail_protocol (proto_of start.template)) part.Client start.word

first_is : (start : Start) → IsMailClient start → started_by start ≡ first start
first_is start is = ap (λ p. started (protocol_as p (proto_of start.template)) (role_as p (role_of start.template) (side_of start.template)) start.word) is.mail ∙ ap (λ s. started (mail_protocol (proto_of start.template)) (side_as s) start.word) is.client

unfoldable pub kind_of : Proto → MacKind
kind_of Apop = mac.Apop
kind_of Cram = mac.Cram

role_is : (proto : Proto) → role_by (mail_protocol proto) part.Client ≡ mail_client (kind_of proto)
unfolding kind_of
role_is Apop = refl
role_is Cram = refl

-- ---- what may come next

data Next (start : Start) (met : List Call) : Act → List Act → Type 0 where
  it_starts : Next start met (first start) []
  it_takes : (challenge : List ℕ) → Next start met (took challenge) (first start ∷ [])
  it_gives : (challenge : List ℕ) (key : SkKey) (secret : Option (List ℕ)) → met ≡ found key secret ∷ [] → Next start met (gave (digits start secret challenge)) (took challenge ∷ first start ∷ [])
  it_is_told : {acts : List Act} (given challenge b : List ℕ) → Behind given challenge (first start) acts → Next start met (took b) acts

abbrev AllNext : Start → List Call → List Act → Type 0
AllNext start met [] = Unit {0}
AllNext start met (act ∷ acts) = Next start met act acts × AllNext start met acts

front : (start : Start) (met : List Call) (later acts : List Act) → AllNext start met (later ++ acts) → AllNext start met acts
front start met [] acts all = all
front start met (act ∷ later) acts all = front start met later acts all.1

behind_next : (start : Start) (met : List Call) (challenge : List ℕ) (key : SkKey) (secret : Option (List ℕ)) (acts : List Act) → met ≡ found key secret ∷ [] → Behind (digits start secret challenge) challenge (first start) acts → AllNext start met acts
behind_next start met challenge key secret acts has at_once = (it_gives challenge key secret has, (it_takes challenge, (it_starts, tt)))
behind_next start met challenge key secret acts has (told b rest) = (it_is_told (digits start secret challenge) challenge b rest, behind_next start met challenge key secret _ has rest)

abbrev Acts : Start → List Call → List Act
Acts start talk = acts_from (speaks Mail start) (first start) talk

abbrev Met : Start → List Call → List Call
Met start talk = met_by (speaks Mail start) talk

all_next : (start : Start) (talk : List Call) → Stands start (first start) talk → AllNext start (Met start talk) (Acts start talk)
all_next start talk (begun here stood none) = subst (AllNext start (Met start talk)) (sym stood) (it_starts, tt)
all_next start talk (keyless challenge here stood waited none) = subst (AllNext start (Met start talk)) (sym stood) (it_starts, tt)
all_next start talk (ready challenge key secret here stood has) = subst (AllNext start (Met start talk)) (sym stood) (it_takes challenge, (it_starts, tt))
all_next start talk (done challenge key secret here stood has) = behind_next start (Met start talk) challenge key secret (Acts start talk) has stood

nexts : (spoken : Spoken) → IsMailClient spoken.start → (acts : List Act) → IsTalk spoken acts → AllNext spoken.start spoken.met acts
nexts spoken is acts t =
    let start = spoken.start in
    let mets : Met start t.talk ≡ spoken.met = sym (ap (λ p. met_by (speaks p start) t.talk) is.mail) ∙ t.met in
    let left : Acts start t.talk ≡ t.later ++ acts = sym (ap (λ p. acts_from (speaks p start) (started_by start) t.talk) is.mail ∙ ap (λ f. acts_from (speaks Mail start) f t.talk) (first_is start is)) ∙ t.left in
    front start spoken.met t.later acts (subst (AllNext start spoken.met) left (subst (λ m. AllNext start m (Acts start t.talk)) mets (all_next start t.talk (stands start (first start) is.client t.talk))))

-- ---- they begin with the start

behind_begins : (start : Start) (given challenge : List ℕ) (b : List ℕ) (acts : List Act) → Behind given challenge (first start) acts → BeginsWith (first start) (took b ∷ acts)
behind_begins start given challenge b acts at_once = (refl, (refl, (refl, refl)))
behind_begins start given challenge b acts (told c rest) = (refl, behind_begins start given challenge c _ rest)

begins_with : (start : Start) (met : List Call) (act : Act) (acts : List Act) → Next start met act acts → BeginsWith (first start) (act ∷ acts)
begins_with start met act acts it_starts = refl
begins_with start met act acts (it_takes challenge) = (refl, refl)
begins_with start met act acts (it_gives challenge key secret has) = (refl, (refl, refl))
begins_with start met act acts (it_is_told given challenge b rest) = behind_begins start given challenge b acts rest

orderly : (spoken : Spoken) → IsMailClient spoken.start → IsOrderlyTalk spoken
orderly spoken is act acts t = subst (λ f. BeginsWith f (act ∷ acts)) (sym (first_is spoken.start is)) (begins_with spoken.start spoken.met act acts (nexts spoken is (act ∷ acts) t).0)

-- ---- what they are

-- p9any isn't spoken
not_choosing : (proto : Proto) (by : Part) (word challenge given : List ℕ) → (is_choosing (started (mail_protocol proto) by word ∷ []) ≡ false) × (is_choosing (took challenge ∷ started (mail_protocol proto) by word ∷ []) ≡ false) × (is_choosing (gave given ∷ took challenge ∷ started (mail_protocol proto) by word ∷ []) ≡ false)
not_choosing Apop by word challenge given = (refl, refl, refl)
not_choosing Cram by word challenge given = (refl, refl, refl)

-- where it takes its challenge, and where it gives its digits
at_start : (start : Start) (own : Own) (kind : MacKind) (before : List Labelled) → acts_in before ≡ first start ∷ [] → (moves_by own (mail_client kind) before ≡ []) × (is_choosing (acts_in before) ≡ false)
at_start start own kind before is =
    let a = one_act before (first start) is in
    (ap (moves_by own (mail_client kind)) a.1 ∙ ap (λ act. moves_for own (mail_client kind) false [] act a.0.label ++ []) a.2, ap is_choosing is ∙ (not_choosing (proto_of start.template) part.Client start.word [] []).0)

-- behind the challenge
pub record Challenged (start : Start) (own : Own) (kind : MacKind) (challenge : List ℕ) (before : List Labelled) : Type 0 where
  pub a : Labelled
  pub more : List Labelled
  pub front : before ≡ a ∷ more
  pub takes_it : a.act ≡ took challenge
  pub moves : moves_by own (mail_client kind) before ≡ takes a.label ∷ []
  pub choosing : is_choosing (acts_in before) ≡ false

at_challenge : (start : Start) (own : Own) (kind : MacKind) (challenge : List ℕ) (before : List Labelled) → acts_in before ≡ took challenge ∷ first start ∷ [] → Challenged start own kind challenge before
at_challenge start own kind challenge before is =
    let p = more_acts before (took challenge) (first start ∷ []) is in
    let q = at_start start own kind p.1 p.4 in
    record {
      a = p.0;
      more = p.1;
      front = p.2;
      takes_it = p.3;
      moves = ap (moves_by own (mail_client kind)) p.2
          ∙ ap (λ m. moves_for own (mail_client kind) (is_choosing (acts_in p.1)) m p.0.act p.0.label ++ m) q.0
          ∙ ap (λ c. moves_for own (mail_client kind) c [] p.0.act p.0.label ++ []) q.1
          ∙ ap (λ act. moves_for own (mail_client kind) false [] act p.0.label ++ []) p.3;
      choosing = ap is_choosing is ∙ (not_choosing (proto_of start.template) part.Client start.word challenge []).1;
    }

-- behind the digits
pub record Answered (own : Own) (kind : MacKind) (before : List Labelled) : Type 0 where
  pub answer : Tree
  pub asked : Tree
  pub moves : moves_by own (mail_client kind) before ≡ gives answer ∷ takes asked ∷ []
  pub choosing : is_choosing (acts_in before) ≡ false

told_choosing : (start : Start) (given challenge b : List ℕ) (acts : List Act) → Behind given challenge (first start) acts → is_choosing (took b ∷ acts) ≡ false
told_choosing start given challenge b acts at_once = refl
told_choosing start given challenge b acts (told c rest) = refl

answered_in : (start : Start) (own : Own) (kind : MacKind) (given challenge : List ℕ) (acts : List Act) → Behind given challenge (first start) acts → (before : List Labelled) → acts_in before ≡ acts → Answered own kind before
answered_in start own kind given challenge acts at_once before is =
    let p = more_acts before (gave given) (took challenge ∷ first start ∷ []) is in
    let q = at_challenge start own kind challenge p.1 p.4 in
    record {
      answer = digest kind own.password q.a.label;
      asked = q.a.label;
      moves = ap (moves_by own (mail_client kind)) p.2
          ∙ ap (λ m. moves_for own (mail_client kind) (is_choosing (acts_in p.1)) m p.0.act p.0.label ++ m) q.moves
          ∙ ap (λ c. moves_for own (mail_client kind) c (takes q.a.label ∷ []) p.0.act p.0.label ++ takes q.a.label ∷ []) q.choosing
          ∙ ap (λ act. moves_for own (mail_client kind) false (takes q.a.label ∷ []) act p.0.label ++ takes q.a.label ∷ []) p.3;
      choosing = ap is_choosing is ∙ (not_choosing (proto_of start.template) part.Client start.word challenge given).2;
    }
answered_in start own kind given challenge acts (told {acts = earlier} b rest) before is =
    let p = more_acts before (took b) earlier is in
    let q = answered_in start own kind given challenge earlier rest p.1 p.4 in
    record {
      answer = q.answer;
      asked = q.asked;
      moves = ap (moves_by own (mail_client kind)) p.2
          ∙ ap (λ m. moves_for own (mail_client kind) (is_choosing (acts_in p.1)) m p.0.act p.0.label ++ m) q.moves
          ∙ ap (λ c. moves_for own (mail_client kind) c (gives q.answer ∷ takes q.asked ∷ []) p.0.act p.0.label ++ gives q.answer ∷ takes q.asked ∷ []) q.choosing
          ∙ ap (λ act. moves_for own (mail_client kind) false (gives q.answer ∷ takes q.asked ∷ []) act p.0.label ++ gives q.answer ∷ takes q.asked ∷ []) p.3;
      choosing = ap is_choosing is ∙ told_choosing start given challenge b earlier rest;
    }

-- the digest spells the digits
digest_is : (proto : Proto) (secret challenge : List ℕ) → digest_bytes (kind_of proto) secret challenge ≡ digits_by proto challenge secret
unfolding kind_of
digest_is Apop secret challenge = refl
digest_is Cram secret challenge = refl

digest_spells : (atoms : Atoms) (start : Start) (holder challenge : List ℕ) (secret : Option (List ℕ)) (t : Tree) → bytes_of atoms (password holder) ≡ Some (unwrap_or secret []) → spelling atoms t ≡ Ok challenge → spelling atoms (digest (kind_of (proto_of start.template)) (password holder) t) ≡ Ok (digits start secret challenge)
digest_spells atoms start holder challenge secret t reads spells =
    ap (λ o. and_then (atom_bytes o) (λ p. and_then (spelling atoms t) (λ text. Ok (digest_bytes (kind_of (proto_of start.template)) p text)))) reads
    ∙ ap (λ r. and_then r (λ text. Ok (digest_bytes (kind_of (proto_of start.template)) (unwrap_or secret []) text))) spells
    ∙ ap Ok (digest_is (proto_of start.template) (unwrap_or secret []) challenge)

-- each act, where it is known what it is
followed_in : (start : Start) (met : List Call) (act : Act) (acts : List Act) → Next start met act acts → (atoms : Atoms) (number : ℕ) (holder : List ℕ) → ReadsMet atoms (mail_client (kind_of (proto_of start.template))) holder met → (before : List Labelled) (a : Labelled) → a.act ≡ act → acts_in before ≡ acts → CleanActs atoms (own_by number holder) (mail_client (kind_of (proto_of start.template))) before → is_start act ≡ false →
    Follows atoms (own_by number holder) (mail_client (kind_of (proto_of start.template))) (moves_by (own_by number holder) (mail_client (kind_of (proto_of start.template))) before) (is_choosing (acts_in before)) a.act a.label (moves_for (own_by number holder) (mail_client (kind_of (proto_of start.template))) (is_choosing (acts_in before)) (moves_by (own_by number holder) (mail_client (kind_of (proto_of start.template))) before) a.act a.label)
followed_in start met act acts it_starts atoms number holder reads before a act_is acts_are clean none = absurd (cc)
followed_in start met act acts (it_takes challenge) atoms number holder reads before a act_is acts_are clean none =
    let q = at_start start (own_by number holder) (kind_of (proto_of start.template)) before acts_are in
    as_follows atoms (own_by number holder) (mail_client (kind_of (proto_of start.template))) before a [] false (took challenge) (takes a.label ∷ []) q.0 q.1 act_is refl (takes_it challenge mail_client_challenge)
followed_in start met act acts (it_gives challenge key secret has) atoms number holder reads before a act_is acts_are clean none =
    let kind = kind_of (proto_of start.template) in
    let q = at_challenge start (own_by number holder) kind challenge before acts_are in
    let t = digest kind (password holder) q.a.label in
    let clean_here : CleanActs atoms (own_by number holder) (mail_client kind) (q.a ∷ q.more) = subst (CleanActs atoms (own_by number holder) (mail_client kind)) q.front clean in
    let spells = clean_here.0.spells challenge (ap taken_by q.takes_it) in
    let reads_here : ReadsMet atoms (mail_client kind) holder (found key secret ∷ []) = subst (ReadsMet atoms (mail_client kind) holder) has reads in
    as_follows atoms (own_by number holder) (mail_client kind) before a (takes q.a.label ∷ []) false (gave (digits start secret challenge)) (gives t ∷ []) q.moves q.choosing act_is refl (gives_it (digits start secret challenge) t mail_client_answer (digest_spells atoms start holder challenge secret q.a.label reads_here spells))
followed_in start met act acts (it_is_told given challenge b rest) atoms number holder reads before a act_is acts_are clean none =
    let kind = kind_of (proto_of start.template) in
    let q = answered_in start (own_by number holder) kind given challenge acts rest before acts_are in
    as_follows atoms (own_by number holder) (mail_client kind) before a (gives q.answer ∷ takes q.asked ∷ []) false (took b) [] q.moves q.choosing act_is refl (takes_none b)

of_this_role : (start : Start) (role : Role) → IsMailClient start → role_in (started_by start) role → role ≡ mail_client (kind_of (proto_of start.template))
of_this_role start role is in_it =
    let role_so : role ≡ role_by (mail_protocol (proto_of start.template)) part.Client = subst (λ act. role_in act role) (first_is start is) in_it in
    role_so ∙ role_is (proto_of start.template)

followed : (spoken : Spoken) → IsMailClient spoken.start → IsFollowed spoken
followed spoken is atoms number holder role read before a t clean none =
    let role_so = of_this_role spoken.start role is read.of_start in
    subst (λ role. Follows atoms (own_by number holder) role (moves_by (own_by number holder) role before) (is_choosing (acts_in before)) a.act a.label (moves_for (own_by number holder) role (is_choosing (acts_in before)) (moves_by (own_by number holder) role before) a.act a.label)) (sym role_so)
    (followed_in spoken.start spoken.met a.act (acts_in before) (nexts spoken is (a.act ∷ acts_in before) t).0 atoms number holder (subst (ReadsKept atoms (mail_client (kind_of (proto_of spoken.start.template))) holder) (mail_kept spoken (a.act ∷ acts_in before) is.mail t) (subst (λ role. ReadsKept atoms role holder spoken.key) role_so read.key)) before a refl refl (subst (λ role. CleanActs atoms (own_by number holder) role before) role_so clean.1) none)

-- a mail client is lawful
pub mail_client_is_lawful : (spoken : Spoken) → IsMailClient spoken.start → IsLawful spoken
mail_client_is_lawful spoken is = record { orderly = orderly spoken is; followed = followed spoken is }
