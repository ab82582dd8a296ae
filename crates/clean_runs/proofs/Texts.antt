-- Two acceptances by the same bytes under one key stand at one place: a ticket holds the server's own word.
use Rattle.std.proofs.Common.{◌≡◌, ℕ, ◌<◌, ◌≤◌, List, [], ◌∷◌, ◌++◌, All, length, map, take, drop, Option, Some, None, Ok, Bool, true, false, eqb, if◌then◌else◌, refl, sym, ap, subst, ◌∙◌}
use Rattle.std.proofs.lemmas.List.{take_at}
use Rattle.sealing.specs.Sealing.{opened, sealed}
use Rattle.sealing.proofs.SealLaws.{sealed_undone}
use Rattle.symbolic_runs.specs.Trees.{Tree, nonce, long_key, plain, seal, none, piece}
use Rattle.symbolic_runs.specs.Spellings.{Atoms, Spelling, atom_bytes, bytes_of, spelling}
use Rattle.wire_histories.specs.declared.step.Step.{Step}
use Rattle.wire_histories.specs.declared.step.Step.TheVariants.{Accept}
use Rattle.symbolic_runs.specs.Forms.{for_server, ticket}
use Rattle.symbolic_runs.specs.Moves.{Role, server, mail_server, client, mail_client, Move, takes, hears, gives, asks, accepts, fails, Own}
use Rattle.symbolic_runs.specs.Runs.{Event, Run, moves, moves_of, serves, starts, talks}
use Rattle.symbolic_runs.specs.Places.{Stands}
use Rattle.symbolic_runs.specs.Sessions.{Deed}
use Rattle.symbolic_runs.proofs.OnceLaws.{accepts_once}
use Rattle.symbolic_runs.specs.Agreement.{Shows, by_a_client, by_a_vouch, is_server}
use Rattle.symbolic_runs.proofs.Matching.{one_ticket}
use Rattle.symbolic_runs.proofs.Servers.{seen_at}
use Rattle.wire_histories.specs.Histories.{History, Act, accepted}
use Rattle.clean_runs.specs.Labels.{taken}
use Rattle.clean_runs.specs.Runs.{events_of}
use Rattle.clean_runs.specs.Clean.{HoldsBytes, ReadsWord}
use Rattle.clean_runs.proofs.Bridge.{Case, SessionsGo, acts_at, events_are, labelled_if, one_more, read_at, run, setting}
use Rattle.clean_runs.proofs.Bytes.{tree_bytes}
use Rattle.clean_runs.proofs.Follows.{Follows, accepts_it, asks_it, chooses, events_with, fails_so, gives_it, hears_it, hears_none, takes_it, takes_none}
use Rattle.clean_runs.proofs.Numbers.{number_is}
use Rattle.clean_runs.proofs.Spelled.{all_parts, seal_parts}
use Rattle.clean_runs.proofs.Steps.{Kind, accept_does, begins, deals, does, kind, nothing, taken_by}
use Rattle.clean_runs.specs.Agreement.{Acceptance}
use Rattle.clean_runs.specs.AgreementStatements.{IsByText, OneByAText}
use Rattle.clean_runs.proofs.Apart.{one_acceptance}
use Rattle.clean_runs.proofs.Servers.{behind, in_run, is_run, number_at, placed_at, playing, shows_in, user_at}

-- ---- what a conversation took holds bytes

abbrev Holds : Event → Type 0
Holds (moves k (takes t)) = HoldsBytes t
Holds (moves k (hears t)) = HoldsBytes t
Holds event = Unit {0}

abbrev AllHold : List Event → Type 0
AllHold [] = Unit {0}
AllHold (event ∷ events) = Holds event × AllHold events

all_hold : (es events : List Event) → AllHold es → AllHold events → AllHold (es ++ events)
all_hold [] events here rest = rest
all_hold (e ∷ es) events here rest = (here.0, all_hold es events here.1 rest)

served_hold : (session : ℕ) (ds : List Deed) → AllHold (map (serves session) ds)
served_hold session [] = tt
served_hold session (d ∷ ds) = (tt, served_hold session ds)

act_holds : (atoms : Atoms) (own : Own) (role : Role) (before : List Move) (choosing : Bool) (act : Act) (label : Tree) (ms : List Move) (number : ℕ) → Follows atoms own role before choosing act label ms → ((b : List ℕ) → taken_by act ≡ Some b → HoldsBytes label) → AllHold (events_with number choosing act ms)
act_holds atoms own role before choosing act label ms number (chooses b empty) holds = (tt, tt)
act_holds atoms own role before choosing act label ms number (gives_it b t row spells) holds = (tt, tt)
act_holds atoms own role before choosing act label ms number (takes_it b row) holds = (holds b refl, tt)
act_holds atoms own role before choosing act label ms number (takes_none b) holds = tt
act_holds atoms own role before choosing act label ms number (asks_it b t row spells) holds = (tt, tt)
act_holds atoms own role before choosing act label ms number (hears_it b row) holds = (holds b refl, tt)
act_holds atoms own role before choosing act label ms number hears_none holds = tt
act_holds atoms own role before choosing act label ms number (accepts_it cuid suid field says row) holds = (tt, tt)
act_holds atoms own role before choosing act label ms number (fails_so cause) holds = (tt, tt)

step_holds : (c : Case) (later past : History) (step : Step) → Kind step → c.history ≡ later ++ step ∷ past → AllHold (events_of (setting c) c.l past step)
step_holds c later past step (begins conv p r w) place = (tt, tt)
step_holds c later past step (does conv act d) place =
    let at = acts_at c later past step conv act d place in
    subst AllHold (sym (events_are c past step conv act at.number d at.started))
    (act_holds c.atoms _ _ _ _ act _ _ at.number at.follows (λ b is. (labelled_if c.atoms (setting c) c.l past (taken step) b (d.taken ∙ is) (c.clean.labels later past step place)).of_bytes))
step_holds c later past step (deals session deal d) place = subst AllHold (sym (d.events (setting c) c.l past)) (served_hold _ _)
step_holds c later past step (nothing d) place = subst AllHold (sym (d.events (setting c) c.l past)) tt

run_holds : (c : Case) (past later : History) → c.history ≡ later ++ past → AllHold (run c past)
run_holds c [] later place = tt
run_holds c (step ∷ past) later place = all_hold (events_of (setting c) c.l past step) (run c past) (step_holds c later past step (kind step) place) (run_holds c past (later ++ step ∷ []) (one_more c later past step place))

abbrev MovesHold : List Move → Type 0
MovesHold [] = Unit {0}
MovesHold (takes t ∷ ms) = HoldsBytes t × MovesHold ms
MovesHold (hears t ∷ ms) = HoldsBytes t × MovesHold ms
MovesHold (m ∷ ms) = MovesHold ms

one_move : (m : Move) (ms : List Move) (k : ℕ) → Holds (moves k m) → MovesHold ms → MovesHold (m ∷ ms)
one_move (takes t) ms k here rest = (here, rest)
one_move (hears t) ms k here rest = (here, rest)
one_move (gives t) ms k here rest = rest
one_move (asks t) ms k here rest = rest
one_move (accepts user) ms k here rest = rest
one_move fails ms k here rest = rest

move_holds : (same : Bool) (m : Move) (ms : List Move) (k : ℕ) → Holds (moves k m) → MovesHold ms → MovesHold (if same then m ∷ ms else ms)
move_holds true m ms k here rest = one_move m ms k here rest
move_holds false m ms k here rest = rest

moves_hold : (k : ℕ) (events : Run) → AllHold events → MovesHold (moves_of k events)
moves_hold k [] all = tt
moves_hold k (starts ∷ events) all = moves_hold k events all.1
moves_hold k (talks other b ∷ events) all = moves_hold k events all.1
moves_hold k (serves session d ∷ events) all = moves_hold k events all.1
moves_hold k (moves other m ∷ events) all = move_holds (eqb other k) m (moves_of k events) other all.0 (moves_hold k events all.1)

shown_holds : (role : Role) (ms : List Move) (t : Tree) → Shows role ms t → MovesHold ms → HoldsBytes t
shown_holds role ms t by_a_client holds = holds.0.0
shown_holds role ms t by_a_vouch holds = holds.0.1.0

-- ---- the server's own word

pub record Word (c : Case) (a : Acceptance c.history) : Type 0 where
  pub word : List ℕ
  pub eight : length word ≡ 8
  pub reads : bytes_of c.atoms (nonce (number_at c a)) ≡ Some word

word_read : (atoms : Atoms) (role : Role) (number : ℕ) (word : List ℕ) → is_server role ≡ true → ReadsWord atoms role number word → bytes_of atoms (nonce number) ≡ Some word
word_read atoms client number word is reads = absurd (cc)
word_read atoms server number word is reads = reads
word_read atoms (mail_client kind) number word is reads = absurd (cc)
word_read atoms (mail_server kind) number word is reads = reads

word_of : (c : Case) (a : Acceptance c.history) → Word c a
word_of c a =
    let r = read_at c a.happens.later a.past (Accept a.conv a.cuid a.suid) a.conv (accepted a.cuid a.suid) (accept_does a.conv a.cuid a.suid) a.happens.place in
    let n = number_is a.past a.conv r.number r.started in
    let role : (setting c).role r.number ≡ a.role = ap (setting c).role (sym n) ∙ (playing c a).role_is in
    let is : is_server ((setting c).role r.number) ≡ true = ap is_server role ∙ a.by_a_server in
    record {
      word = r.spoken.start.word;
      eight = r.talk.may.word.whole;
      reads = ap (λ n. bytes_of c.atoms (nonce n)) n ∙ word_read c.atoms ((setting c).role r.number) r.number r.spoken.start.word is r.read.word;
    }

-- ---- a ticket in bytes

-- an atom that spells has bytes
atom_read : (o : Option (List ℕ)) (b : List ℕ) → ◌≡◌ {A = Spelling} (atom_bytes o) (Ok b) → o ≡ Some b
atom_read (Some x) b is = (let same : x ≡ b = cc in ap Some same)
atom_read None b is = absurd (cc)

ok_same : {a b : List ℕ} → ◌≡◌ {A = Spelling} (Ok a) (Ok b) → a ≡ b
ok_same e = cc

-- the text is sealed under the holder's key, and what is sealed tells the word behind its first byte
pub record InBytes (c : Case) (a : Acceptance c.history) (text : List ℕ) : Type 0 where
  pub key : List ℕ
  pub key_read : bytes_of c.atoms (long_key (c.l.holder a.conv)) ≡ Some key
  pub body : List ℕ
  pub rest : List ℕ
  pub word : List ℕ
  pub eight : length word ≡ 8
  pub reads : bytes_of c.atoms (nonce (number_at c a)) ≡ Some word
  pub body_is : body ≡ (64 ∷ []) ++ (word ++ rest)
  pub long : 8 ≤ length body
  pub of_bytes : All (λ n. n < 256) body
  pub is : text ≡ sealed key body

in_bytes : (c : Case) → SessionsGo c → (a : Acceptance c.history) (text : List ℕ) → IsByText c.atoms c.l a text → InBytes c a text
in_bytes c sessions a text t =
    let n = number_at c a in
    let s = setting c in
    let v = seen_at s (run c c.history) (is_run c sessions) (in_run c a) in
    let p = playing c a in
    let T = ticket for_server (nonce n) v.cuid (user_at c a) v.key in
    let whole = seal (long_key (s.holder n)) T in
    let shows = shows_in c a t.ticket t.by_ticket in
    let form : t.ticket ≡ whole = one_ticket (s.role n) (moves_of n (run c a.past)) t.ticket whole shows v.shows in
    let sealed_so = seal_parts c.atoms (long_key (s.holder n)) T text (ap (spelling c.atoms) (sym form) ∙ t.spells) in
    let first = all_parts c.atoms (plain for_server) (piece (nonce n) (piece (plain v.cuid) (piece (plain (user_at c a)) (piece v.key none)))) sealed_so.body sealed_so.body_is in
    let second = all_parts c.atoms (nonce n) (piece (plain v.cuid) (piece (plain (user_at c a)) (piece v.key none))) first.rest first.of_rest in
    let w = word_of c a in
    let front_is : first.front ≡ 64 ∷ [] = sym (ok_same first.of_front) in
    let word_is : second.front ≡ w.word = ok_same (sym second.of_front ∙ ap atom_bytes w.reads) in
    let holds : HoldsBytes whole = subst HoldsBytes form (shown_holds (s.role n) (moves_of n (run c a.past)) t.ticket shows (moves_hold n (run c a.past) (run_holds c a.past (behind c a) (placed_at c a)))) in
    record {
      key = sealed_so.key;
      key_read = ap (λ h. bytes_of c.atoms (long_key h)) (sym p.holder_is) ∙ atom_read (bytes_of c.atoms (long_key (s.holder n))) sealed_so.key sealed_so.key_is;
      body = sealed_so.body;
      rest = second.rest;
      word = w.word;
      eight = w.eight;
      reads = w.reads;
      body_is = first.parts ∙ ap (λ x. x ++ first.rest) front_is ∙ ap (λ x. (64 ∷ []) ++ x) (second.parts ∙ ap (λ x. x ++ second.rest) word_is);
      long = sealed_so.eight;
      of_bytes = tree_bytes c.atoms c.clean.bytes T holds.1 sealed_so.body sealed_so.body_is;
      is = sealed_so.is;
    }

word_in : (word rest : List ℕ) → length word ≡ 8 → take 8 (drop 1 ((64 ∷ []) ++ (word ++ rest))) ≡ word
word_in word rest eight = take_at word rest 8 eight

pub one_by_a_text : (c : Case) → SessionsGo c → OneByAText c.history c.atoms c.l
one_by_a_text c sessions a b text keys t u =
    let x = in_bytes c sessions a text t in
    let y = in_bytes c sessions b text u in
    let key : Some x.key ≡ Some y.key = sym x.key_read ∙ keys ∙ y.key_read in
    let key_is : x.key ≡ y.key = cc in
    let same_text : sealed y.key x.body ≡ sealed y.key y.body = ap (λ k. sealed k x.body) (sym key_is) ∙ sym x.is ∙ y.is in
    let bodies : x.body ≡ y.body = sym (sealed_undone y.key x.body x.long x.of_bytes) ∙ ap (opened y.key) same_text ∙ sealed_undone y.key y.body y.long y.of_bytes in
    let words : x.word ≡ y.word = sym (word_in x.word x.rest x.eight) ∙ ap (λ b. take 8 (drop 1 b)) (sym x.body_is ∙ bodies ∙ y.body_is) ∙ word_in y.word y.rest y.eight in
    let nonces : nonce (number_at c a) ≡ nonce (number_at c b) = c.clean.nonces_apart (nonce (number_at c a)) (nonce (number_at c b)) y.word refl refl (x.reads ∙ ap Some words) y.reads in
    let one : number_at c b ≡ number_at c a = cc in
    one_acceptance c a b (accepts_once (setting c) (run c c.history) (run c a.past) (run c b.past) (number_at c a) (user_at c a) (user_at c b) (is_run c sessions) (in_run c a).stands (subst (λ n. Stands (run c c.history) (run c b.past) (moves n (accepts (user_at c b)))) one (in_run c b).stands))
