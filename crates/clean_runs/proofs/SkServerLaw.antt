-- A p9sk1 server's acts are the moves of a symbolic server: it takes the client's challenge, gives its request, takes a ticket
-- and an authenticator, accepts, and gives its own authenticator.
use Rattle.std.proofs.Common.{◌≡◌, ℕ, List, [], ◌∷◌, ◌++◌, All, append-nil, length, length-append, take, Option, Some, true, false, Ok, if◌then◌else◌, inl, inr, refl, sym, ap, subst, ◌∙◌, arith}
use Rattle.std.specs.Prelude.{◌⊎◌}
use Rattle.std.proofs.lemmas.List.{take_at}
use Rattle.std.proofs.lemmas.List.Elements.{All-head}
use Rattle.sealing.specs.Sealing.{opened, sealed}
use Rattle.sealing.proofs.SealLaws.{length-sealed, sealed_undone}
use Rattle.sealing.specs.Fitting.{FitsRequest}
use Rattle.sealing.specs.Ticket.{ticket_of}
use Rattle.sealing.specs.declared.request.TicketReq.{TicketReq}
use Rattle.sealing.specs.declared.ticket.Ticket.{Ticket}
use Rattle.symbolic_runs.specs.Trees.{Tree, nonce, long_key, seal, none, piece}
use Rattle.symbolic_runs.specs.Spellings.{Atoms, Spelling, atom_bytes, bytes_of, spelling}
use Rattle.roles.specs.declared.key.SkKey.{SkKey}
use Rattle.roles.specs.declared.stage.Role.TheVariants as sk_role
use Rattle.roles.specs.Answers.{is_sought}
use Rattle.roles.specs.Courses as sk
use Rattle.roles.specs.Servers.{server_request}
use Rattle.roles.specs.Starts.{Start, role_of}
use Rattle.roles.specs.Talks.{Call, found}
use Rattle.roles.specs.Tickets.{ticket_part, ticket_under}
use Rattle.roles.proofs.StartLemmas.{nobody_is_name}
use Rattle.conv_challenge.specs.Starts.{proto_of, side_of}
use Rattle.talks.specs.Protocols.{P9sk1, protocol_of}
use Rattle.talks.specs.Lines.{cause_text}
use Rattle.wire_histories.specs.declared.step.Protocol.TheVariants as protocol
use Rattle.wire_histories.specs.declared.step.Role.TheVariants as part
use Rattle.symbolic_runs.specs.Forms.{Fields, by_client, by_server, for_server, ticket_request, authenticator, name_text, pair, request, server_message, ticket}
use Rattle.symbolic_runs.specs.Gifts.{bytes, next_gift, part as piece_of, shown as shown_in}
use Rattle.symbolic_runs.specs.Moves.{Role, server, Move, takes, gives, accepts, fails, Own, Row, server_accepts, server_challenge, server_proof, server_request as server_request_row, server_ticket}
use Rattle.symbolic_runs.proofs.GiftLaws.{computed}
use Rattle.wire_histories.specs.Histories.{Act, started, gave, took, accepted, failed}
use Rattle.wire_histories.specs.Conversations.{acts_from, met_by, part_as, protocol_as, role_as, speaks, started_by}
use Rattle.wire_histories.specs.Legal.{IsMet, IsRingKey, IsTalk, Spoken}
use Rattle.clean_runs.specs.Labels.{Labelled}
use Rattle.clean_runs.specs.Runs.{acts_in, if_some, is_choosing, moves_by, moves_for, names_in}
use Rattle.clean_runs.specs.Forms.{IsFormed, IsShown}
use Rattle.clean_runs.specs.Clean.{GivesBytes, HoldsBytes, ReadsKept, ReadsWord}
use Rattle.clean_runs.proofs.Begun.{BeginsWith}
use Rattle.clean_runs.proofs.Bytes.{authenticator_is, authenticator_spells, opened_key, opened_names, proof_with, request_is_spelled, ticket_long, ticket_spells, ticket_with, tree_bytes}
use Rattle.clean_runs.proofs.Follows.{CleanActs, Follows, IsFollowed, IsLawful, IsOrderlyTalk, accepts_it, as_follows, fails_so, gives_it, known_act, moves_next, own_by, role_in, takes_it, takes_none}
use Rattle.clean_runs.proofs.Grounds.{Each, Found, Ground, begins_more, each_behind, sk_ground, told_begins, told_on, told_quiet}
use Rattle.clean_runs.proofs.Kept.{ReadsMet, sk_kept}
use Rattle.clean_runs.proofs.LeftLemmas.{above_all, acts_above, at}
use Rattle.clean_runs.proofs.SkServers.{Stands, Told, accepted_acts, accepting, asked_acts, asking, at_once, broken, done, greeted, keyed, proof, seeking, stands, told}
use Rattle.clean_runs.proofs.Spelled.{all_parts, seal_parts, seal_spells}
use Rattle.clean_runs.proofs.Steps.{goes_on, is_start, taken_by}

pub record IsServer (start : Start) : Type 0 where
  pub p9sk1 : protocol_of start.template ≡ P9sk1
  pub server : role_of start.template ≡ sk_role.Server

abbrev pub first : Start → Act
first start = started protocol.P9sk1 part.Server start.word

first_is : (start : Start) → IsServer start → started_by start ≡ first start
first_is start is = ap (λ p. started (protocol_as p (proto_of start.template)) (role_as p (role_of start.template) (side_of start.template)) start.word) is.p9sk1 ∙ ap (λ r. started protocol.P9sk1 (part_as r) start.word) is.server

-- ---- what may come next

pub data Next (start : Start) (ground : List Act) (met : List Call) : Act → List Act → Type 0 where
  it_takes : (theirs : List ℕ) → Next start ground met (took theirs) ground
  it_asks : (key : SkKey) (theirs : List ℕ) → Found met key → Next start ground met (gave (server_request start key)) (took theirs ∷ ground)
  it_is_shown : (key : SkKey) (theirs b : List ℕ) → Next start ground met (took b) (asked_acts start ground key theirs)
  it_breaks : (key : SkKey) (theirs b cause : List ℕ) → Next start ground met (failed cause) (took b ∷ asked_acts start ground key theirs)
  it_accepts : (key : SkKey) (theirs b : List ℕ) (t : Ticket) → Found met key → ticket_under key (ticket_part b) ≡ Ok t → Next start ground met (accepted t.cuid t.suid) (took b ∷ asked_acts start ground key theirs)
  it_proves : (key : SkKey) (theirs b : List ℕ) (t : Ticket) → length theirs ≡ 8 → Found met key → ticket_under key (ticket_part b) ≡ Ok t → Next start ground met (gave (proof theirs t)) (accepted_acts start ground key theirs b t)
  it_is_told : {acts : List Act} (key : SkKey) (theirs b : List ℕ) (t : Ticket) (more : List ℕ) → Told (gave (proof theirs t) ∷ accepted_acts start ground key theirs b t) acts → Next start ground met (took more) acts

-- or what stands on the ground
abbrev pub Comes : Start → List Act → List Call → (Act → List Act → Type 0) → Act → List Act → Type 0
Comes start ground met Before act acts = Next start ground met act acts ⊎ Before act acts

asked_next : (start : Start) (ground : List Act) (met : List Call) (Before : Act → List Act → Type 0) (key : SkKey) (theirs : List ℕ) → Found met key → Each (Comes start ground met Before) ground → Each (Comes start ground met Before) (asked_acts start ground key theirs)
asked_next start ground met Before key theirs has stand = (inl (it_asks key theirs has), (inl (it_takes theirs), stand))

told_next : (start : Start) (ground : List Act) (met : List Call) (Before : Act → List Act → Type 0) (key : SkKey) (theirs b : List ℕ) (t : Ticket) (acts : List Act) → length theirs ≡ 8 → Found met key → ticket_under key (ticket_part b) ≡ Ok t → Each (Comes start ground met Before) ground → Told (gave (proof theirs t) ∷ accepted_acts start ground key theirs b t) acts → Each (Comes start ground met Before) acts
told_next start ground met Before key theirs b t acts eight has opens stand at_once = (inl (it_proves key theirs b t eight has opens), (inl (it_accepts key theirs b t has opens), (inl (it_is_shown key theirs b), asked_next start ground met Before key theirs has stand)))
told_next start ground met Before key theirs b t acts eight has opens stand (told {acts = earlier} more rest) = (inl (it_is_told key theirs b t more rest), told_next start ground met Before key theirs b t earlier eight has opens stand rest)

abbrev Acts : Start → Act → List Call → List Act
Acts start first talk = acts_above (speaks P9sk1 start) first talk

abbrev Met : Start → List Call → List Call
Met start talk = met_by (speaks P9sk1 start) talk

found_last : (start : Start) (talk met more : List Call) (key : SkKey) (secret : Option (List ℕ)) → met ≡ Met start talk ++ more → Met start talk ≡ found key secret ∷ [] → Found met key
found_last start talk met more key secret met_is has = record { secret = secret; more = more; is = met_is ∙ ap (λ m. m ++ more) has }

-- all that a talk leaves on what stood before it
pub all_next : (start : Start) (first : Act) (base : List Act) (met more : List Call) (Before : Act → List Act → Type 0) (talk : List Call) → Each (Comes start (first ∷ base) met Before) (first ∷ base) → met ≡ Met start talk ++ more → Stands start first talk → Each (Comes start (first ∷ base) met Before) (Acts start first talk ++ base)
all_next start first base met more Before talk stand met_is (seeking here stood waited empty) = subst (λ xs. Each (Comes start (first ∷ base) met Before) (xs ++ base)) (sym stood) stand.1
all_next start first base met more Before talk stand met_is (keyed key secret here stood has) = subst (λ xs. Each (Comes start (first ∷ base) met Before) (xs ++ base)) (sym stood) stand
all_next start first base met more Before talk stand met_is (greeted key secret theirs eight here stood has) = subst (λ xs. Each (Comes start (first ∷ base) met Before) (xs ++ base)) (sym stood) (inl (it_takes theirs), stand)
all_next start first base met more Before talk stand met_is (asking key secret theirs eight here stood has) = subst (λ xs. Each (Comes start (first ∷ base) met Before) (xs ++ base)) (sym stood) (asked_next start (first ∷ base) met Before key theirs (found_last start talk met more key secret met_is has) stand)
all_next start first base met more Before talk stand met_is (broken key secret theirs b cause here stood has) = subst (λ xs. Each (Comes start (first ∷ base) met Before) (xs ++ base)) (sym stood) (inl (it_breaks key theirs b (cause_text cause)), (inl (it_is_shown key theirs b), asked_next start (first ∷ base) met Before key theirs (found_last start talk met more key secret met_is has) stand))
all_next start first base met more Before talk stand met_is (accepting key secret theirs b t eight opens size here stood has) = subst (λ xs. Each (Comes start (first ∷ base) met Before) (xs ++ base)) (sym stood) (inl (it_accepts key theirs b t (found_last start talk met more key secret met_is has) opens), (inl (it_is_shown key theirs b), asked_next start (first ∷ base) met Before key theirs (found_last start talk met more key secret met_is has) stand))
all_next start first base met more Before talk stand met_is (done key secret theirs b t eight opens size here stood has) = told_next start (first ∷ base) met Before key theirs b t (Acts start first talk ++ base) eight (found_last start talk met more key secret met_is has) opens stand (told_on base (gave (proof theirs t) ∷ accepted_acts start (first ∷ []) key theirs b t) (Acts start first talk) stood)

-- ---- they begin with the start

asked_begins : (outer : Act) (start : Start) (ground : List Act) (key : SkKey) (theirs : List ℕ) → BeginsWith outer ground → BeginsWith outer (asked_acts start ground key theirs)
asked_begins outer start ground key theirs begun = (refl, begins_more outer (took theirs) ground refl begun)

pub begins_with : (outer : Act) (start : Start) (ground : List Act) (met : List Call) (act : Act) (acts : List Act) → BeginsWith outer ground → Next start ground met act acts → BeginsWith outer (act ∷ acts)
begins_with outer start ground met act acts begun (it_takes theirs) = begins_more outer (took theirs) ground refl begun
begins_with outer start ground met act acts begun (it_asks key theirs has) = asked_begins outer start ground key theirs begun
begins_with outer start ground met act acts begun (it_is_shown key theirs b) = (refl, asked_begins outer start ground key theirs begun)
begins_with outer start ground met act acts begun (it_breaks key theirs b cause) = (refl, (refl, asked_begins outer start ground key theirs begun))
begins_with outer start ground met act acts begun (it_accepts key theirs b t has opens) = (refl, (refl, asked_begins outer start ground key theirs begun))
begins_with outer start ground met act acts begun (it_proves key theirs b t eight has opens) = (refl, (refl, (refl, asked_begins outer start ground key theirs begun)))
begins_with outer start ground met act acts begun (it_is_told key theirs b t more rest) = begins_more outer (took more) acts refl (told_begins outer (gave (proof theirs t) ∷ accepted_acts start ground key theirs b t) acts (refl, (refl, (refl, asked_begins outer start ground key theirs begun))) rest)

-- ---- the moves behind each act

pub record Greeted (atoms : Atoms) (own : Own) (theirs : List ℕ) (before : List Labelled) : Type 0 where
  pub t : Tree
  pub moves : moves_by own server before ≡ takes t ∷ []
  pub choosing : is_choosing (acts_in before) ≡ false
  pub spells : spelling atoms t ≡ Ok theirs

at_greeted : (atoms : Atoms) (start : Start) (outer : Act) (ground : List Act) (g : Ground outer server ground) (own : Own) (theirs : List ℕ) (before : List Labelled) → acts_in before ≡ took theirs ∷ ground → CleanActs atoms own server before → Greeted atoms own theirs before
at_greeted atoms start outer ground g own theirs before is clean =
    let p = known_act atoms own server before (took theirs) ground is clean in
    record {
      t = p.a.label;
      moves = moves_next own server before p.more p.a [] false (took theirs) (takes p.a.label ∷ []) p.front (g.still own p.more p.rest) (ap is_choosing p.rest ∙ g.quiet) p.act_is refl;
      choosing = ap is_choosing is ∙ g.took_quiet theirs;
      spells = p.clean.spells theirs (ap taken_by p.act_is);
    }

abbrev asked_label : Own → List ℕ → Tree
asked_label own r = request ticket_request (names_in r) own.word

pub record Asked (atoms : Atoms) (own : Own) (r theirs : List ℕ) (before : List Labelled) : Type 0 where
  pub t : Tree
  pub moves : moves_by own server before ≡ gives (asked_label own r) ∷ takes t ∷ []
  pub choosing : is_choosing (acts_in before) ≡ false
  pub spells : spelling atoms t ≡ Ok theirs

at_asked : (atoms : Atoms) (start : Start) (outer : Act) (ground : List Act) (g : Ground outer server ground) (own : Own) (key : SkKey) (theirs : List ℕ) (before : List Labelled) → acts_in before ≡ asked_acts start ground key theirs → CleanActs atoms own server before → Asked atoms own (server_request start key) theirs before
at_asked atoms start outer ground g own key theirs before is clean =
    let r = server_request start key in
    let p = known_act atoms own server before (gave r) (took theirs ∷ ground) is clean in
    let q = at_greeted atoms start outer ground g own theirs p.more p.rest p.clean_rest in
    record {
      t = q.t;
      moves = moves_next own server before p.more p.a (takes q.t ∷ []) false (gave r) (gives (asked_label own r) ∷ []) p.front q.moves q.choosing p.act_is refl;
      choosing = ap is_choosing is ∙ g.both_quiet r theirs;
      spells = q.spells;
    }

pub record ShownTo (atoms : Atoms) (own : Own) (r theirs b : List ℕ) (before : List Labelled) : Type 0 where
  pub t : Tree
  pub m : Tree
  pub moves : moves_by own server before ≡ takes m ∷ gives (asked_label own r) ∷ takes t ∷ []
  pub choosing : is_choosing (acts_in before) ≡ false
  pub spells : spelling atoms t ≡ Ok theirs
  pub shown : spelling atoms m ≡ Ok b
  pub holds : HoldsBytes m

at_shown : (atoms : Atoms) (start : Start) (outer : Act) (ground : List Act) (g : Ground outer server ground) (own : Own) (key : SkKey) (theirs b : List ℕ) (before : List Labelled) → acts_in before ≡ took b ∷ asked_acts start ground key theirs → CleanActs atoms own server before → ShownTo atoms own (server_request start key) theirs b before
at_shown atoms start outer ground g own key theirs b before is clean =
    let r = server_request start key in
    let p = known_act atoms own server before (took b) (asked_acts start ground key theirs) is clean in
    let q = at_asked atoms start outer ground g own key theirs p.more p.rest p.clean_rest in
    record {
      t = q.t;
      m = p.a.label;
      moves = moves_next own server before p.more p.a (gives (asked_label own r) ∷ takes q.t ∷ []) false (took b) (takes p.a.label ∷ []) p.front q.moves q.choosing p.act_is refl;
      choosing = ap is_choosing is;
      spells = q.spells;
      shown = p.clean.spells b (ap taken_by p.act_is);
      holds = p.clean.of_bytes b (ap taken_by p.act_is);
    }

pub record AcceptedBy (atoms : Atoms) (own : Own) (r theirs b : List ℕ) (before : List Labelled) : Type 0 where
  pub t : Tree
  pub m : Tree
  pub moves : moves_by own server before ≡ accepts (bytes (piece_of (shown_in m) 3)) ∷ takes m ∷ gives (asked_label own r) ∷ takes t ∷ []
  pub choosing : is_choosing (acts_in before) ≡ false
  pub spells : spelling atoms t ≡ Ok theirs
  pub shown : spelling atoms m ≡ Ok b
  pub holds : HoldsBytes m
  pub form : IsShown own m

at_accepted : (atoms : Atoms) (start : Start) (outer : Act) (ground : List Act) (g : Ground outer server ground) (own : Own) (key : SkKey) (theirs b : List ℕ) (k : Ticket) (before : List Labelled) → acts_in before ≡ accepted_acts start ground key theirs b k → CleanActs atoms own server before → AcceptedBy atoms own (server_request start key) theirs b before
at_accepted atoms start outer ground g own key theirs b k before is clean =
    let r = server_request start key in
    let p = known_act atoms own server before (accepted k.cuid k.suid) (took b ∷ asked_acts start ground key theirs) is clean in
    let q = at_shown atoms start outer ground g own key theirs b p.more p.rest p.clean_rest in
    record {
      t = q.t;
      m = q.m;
      moves = moves_next own server before p.more p.a (takes q.m ∷ gives (asked_label own r) ∷ takes q.t ∷ []) false (accepted k.cuid k.suid) (accepts (bytes (piece_of (shown_in q.m) 3)) ∷ []) p.front q.moves q.choosing p.act_is refl;
      choosing = ap is_choosing is;
      spells = q.spells;
      shown = q.shown;
      holds = q.holds;
      form = subst (IsFormed atoms own server) q.moves (p.clean.formed (ap goes_on p.act_is));
    }

-- the proof that is computed
proof_gift : (own : Own) (r : List ℕ) (t m : Tree) (names : Fields) → IsShown own m → next_gift own server (accepts (bytes (piece_of (shown_in m) 3)) ∷ takes m ∷ gives (asked_label own r) ∷ takes t ∷ []) names ≡ Some (gives (server_message (piece_of (shown_in m) 4) t))
proof_gift own r t m names form =
    subst (λ m. next_gift own server (accepts (bytes (piece_of (shown_in m) 3)) ∷ takes m ∷ gives (asked_label own r) ∷ takes t ∷ []) names ≡ Some (gives (server_message (piece_of (shown_in m) 4) t))) (sym form.is)
    (computed own server (accepts form.suid ∷ takes (pair (seal own.key (ticket for_server own.word form.cuid form.suid form.key)) (seal form.key (authenticator by_client own.word))) ∷ gives (asked_label own r) ∷ takes t ∷ []) (gives (server_message form.key t)) (server_proof {y = t} {key = form.key} (names_in r) {cuid = form.cuid} {suid = form.suid}) refl).1

proof_row : (own : Own) (r : List ℕ) (t m : Tree) → IsShown own m → Row own server (accepts (bytes (piece_of (shown_in m) 3)) ∷ takes m ∷ gives (asked_label own r) ∷ takes t ∷ []) (gives (server_message (piece_of (shown_in m) 4) t))
proof_row own r t m form =
    subst (λ m. Row own server (accepts (bytes (piece_of (shown_in m) 3)) ∷ takes m ∷ gives (asked_label own r) ∷ takes t ∷ []) (gives (server_message (piece_of (shown_in m) 4) t))) (sym form.is)
    (server_proof {y = t} {key = form.key} (names_in r) {cuid = form.cuid} {suid = form.suid})

accepts_row : (own : Own) (r : List ℕ) (t m : Tree) → IsShown own m → Row own server (takes m ∷ gives (asked_label own r) ∷ takes t ∷ []) (accepts (bytes (piece_of (shown_in m) 3)))
accepts_row own r t m form =
    subst (λ m. Row own server (takes m ∷ gives (asked_label own r) ∷ takes t ∷ []) (accepts (bytes (piece_of (shown_in m) 3)))) (sym form.is)
    (server_accepts {y = t} {key = form.key} (names_in r) {cuid = form.cuid} {suid = form.suid} form.names)

pub record Proved (own : Own) (before : List Labelled) : Type 0 where
  pub p1 : Move
  pub p2 : Move
  pub p3 : Move
  pub p4 : Move
  pub p5 : Move
  pub moves : moves_by own server before ≡ p1 ∷ p2 ∷ p3 ∷ p4 ∷ p5 ∷ []
  pub choosing : is_choosing (acts_in before) ≡ false

proved_in : (atoms : Atoms) (start : Start) (outer : Act) (ground : List Act) (g : Ground outer server ground) (own : Own) (key : SkKey) (theirs b : List ℕ) (k : Ticket) (acts : List Act) → Told (gave (proof theirs k) ∷ accepted_acts start ground key theirs b k) acts → (before : List Labelled) → acts_in before ≡ acts → CleanActs atoms own server before → Proved own before
proved_in atoms start outer ground g own key theirs b k acts at_once before is clean =
    let r = server_request start key in
    let p = known_act atoms own server before (gave (proof theirs k)) (accepted_acts start ground key theirs b k) is clean in
    let q = at_accepted atoms start outer ground g own key theirs b k p.more p.rest p.clean_rest in
    let last = gives (server_message (piece_of (shown_in q.m) 4) q.t) in
    record {
      p1 = last;
      p2 = accepts (bytes (piece_of (shown_in q.m) 3));
      p3 = takes q.m;
      p4 = gives (asked_label own r);
      p5 = takes q.t;
      moves = moves_next own server before p.more p.a (accepts (bytes (piece_of (shown_in q.m) 3)) ∷ takes q.m ∷ gives (asked_label own r) ∷ takes q.t ∷ []) false (gave (proof theirs k)) (last ∷ []) p.front q.moves q.choosing p.act_is (ap if_some (proof_gift own r q.t q.m (names_in (proof theirs k)) q.form));
      choosing = ap is_choosing is;
    }
proved_in atoms start outer ground g own key theirs b k acts (told {acts = earlier} more rest) before is clean =
    let p = known_act atoms own server before (took more) earlier is clean in
    let q = proved_in atoms start outer ground g own key theirs b k earlier rest p.more p.rest p.clean_rest in
    record {
      p1 = q.p1;
      p2 = q.p2;
      p3 = q.p3;
      p4 = q.p4;
      p5 = q.p5;
      moves = moves_next own server before p.more p.a (q.p1 ∷ q.p2 ∷ q.p3 ∷ q.p4 ∷ q.p5 ∷ []) false (took more) [] p.front q.moves q.choosing p.act_is refl;
      choosing = ap is_choosing is ∙ told_quiet (gave (proof theirs k) ∷ accepted_acts start ground key theirs b k) earlier (λ more. refl) rest more;
    }

-- ---- what is sealed

pub ok_same : {a b : List ℕ} → ◌≡◌ {A = Spelling} (Ok a) (Ok b) → a ≡ b
ok_same e = cc

-- the key of the ticket that was shown
pub record TicketKey (atoms : Atoms) (own : Own) (m : Tree) (form : IsShown own m) (t : Ticket) : Type 0 where
  pub key : List ℕ
  pub spells : spelling atoms form.key ≡ Ok key
  pub seven : length key ≡ 7
  pub same : t.key.0 ≡ key
  pub suid : name_text form.suid ≡ t.suid

ticket_key_of : (atoms : Atoms) → GivesBytes atoms → (number : ℕ) (holder : List ℕ) (word : List ℕ) (key : SkKey) (m : Tree) (b : List ℕ) (t : Ticket) → bytes_of atoms (nonce number) ≡ Some word → length word ≡ 8 → bytes_of atoms (long_key holder) ≡ Some key.des.0 → (form : IsShown (own_by number holder) m) → HoldsBytes m → spelling atoms m ≡ Ok b → ticket_under key (ticket_part b) ≡ Ok t → TicketKey atoms (own_by number holder) m form t
ticket_key_of atoms reads number holder word key m b t of_word eight of_key form holds spells opens =
    let T = ticket for_server (nonce number) form.cuid form.suid form.key in
    let A = authenticator by_client (nonce number) in
    let S = seal (long_key holder) T in
    let S2 = seal form.key A in
    let whole : spelling atoms (pair S S2) ≡ Ok b = subst (λ m. spelling atoms m ≡ Ok b) form.is spells in
    let held : HoldsBytes (pair S S2) = subst HoldsBytes form.is holds in
    let p = all_parts atoms S (piece S2 none) b whole in
    let p2 = all_parts atoms S2 none p.rest p.of_rest in
    let s1 = seal_parts atoms (long_key holder) T p.front p.of_front in
    let s2 = seal_parts atoms form.key A p2.front p2.of_front in
    let body = ticket_with for_server word form.cuid form.suid s2.key in
    let of_body : spelling atoms T ≡ Ok body = ticket_spells atoms for_server form.cuid form.suid (nonce number) form.key word s2.key (ap atom_bytes of_word) s2.key_is in
    let body_is : s1.body ≡ body = ok_same (sym s1.body_is ∙ of_body) in
    let key_is : s1.key ≡ key.des.0 = ok_same (sym s1.key_is ∙ ap atom_bytes of_key) in
    let long = ticket_long 64 word form.cuid form.suid s2.key eight form.names.client_whole form.names.server_whole in
    let seven = s2.seven in
    let size : length body ≡ 72 = omega (arith, long, seven) in
    let front_is : p.front ≡ sealed key.des.0 body = s1.is ∙ ap (λ k. sealed k s1.body) key_is ∙ ap (sealed key.des.0) body_is in
    let front_long : length (sealed key.des.0 body) ≡ 72 = length-sealed key.des.0 body (omega (arith, size)) ∙ size in
    let part_is : ticket_part b ≡ sealed key.des.0 body = ap (take 72) (p.parts ∙ ap (λ x. x ++ p.rest) front_is) ∙ take_at (sealed key.des.0 body) p.rest 72 front_long in
    let undone : opened key.des.0 (ticket_part b) ≡ body = ap (opened key.des.0) part_is ∙ sealed_undone key.des.0 body (omega (arith, size)) (tree_bytes atoms reads T held.0.1 body of_body) in
    record {
      key = s2.key;
      spells = s2.key_is;
      seven = s2.seven;
      same = opened_key 64 word form.cuid form.suid s2.key t eight form.names.client_whole form.names.server_whole s2.seven (ap ticket_of (sym undone) ∙ opens);
      suid = (opened_names 64 word form.cuid form.suid s2.key t eight form.names.client_whole form.names.server_whole (ap ticket_of (sym undone) ∙ opens)).1;
    }

proof_spells : (atoms : Atoms) → GivesBytes atoms → (number : ℕ) (holder : List ℕ) (word : List ℕ) (key : SkKey) (m y : Tree) (b theirs : List ℕ) (t : Ticket) → bytes_of atoms (nonce number) ≡ Some word → length word ≡ 8 → bytes_of atoms (long_key holder) ≡ Some key.des.0 → IsShown (own_by number holder) m → HoldsBytes m → spelling atoms m ≡ Ok b → ticket_under key (ticket_part b) ≡ Ok t → spelling atoms y ≡ Ok theirs → length theirs ≡ 8 → spelling atoms (server_message (piece_of (shown_in m) 4) y) ≡ Ok (proof theirs t)
proof_spells atoms reads number holder word key m y b theirs t of_word eight of_key form holds spells opens of_theirs theirs_eight =
    let k = ticket_key_of atoms reads number holder word key m b t of_word eight of_key form holds spells opens in
    let body = proof_with (66 ∷ []) theirs in
    let size = length-append theirs (0 ∷ 0 ∷ 0 ∷ 0 ∷ []) in
    ap (λ m. spelling atoms (server_message (piece_of (shown_in m) 4) y)) form.is
    ∙ seal_spells atoms form.key (authenticator by_server y) k.key body k.spells (authenticator_spells atoms by_server y theirs of_theirs) k.seven (omega (arith, size, theirs_eight))
    ∙ ap (λ key. Ok (sealed key body)) (sym k.same)
    ∙ ap (λ text. Ok (sealed t.key.0 text)) (sym (authenticator_is 66 theirs))

-- ---- each act

-- what the reading says of a conversation with a key for its role
pub record Reading (atoms : Atoms) (start : Start) (met : List Call) (number : ℕ) (holder : List ℕ) : Type 0 where
  pub bytes : GivesBytes atoms
  pub word : bytes_of atoms (nonce number) ≡ Some start.word
  pub eight : length start.word ≡ 8
  pub keys : All IsMet met
  pub key : ReadsMet atoms server holder met

pub followed_in : (outer : Act) (ground : List Act) (g : Ground outer server ground) (start : Start) (met : List Call) (act : Act) (acts : List Act) → Next start ground met act acts → (atoms : Atoms) (number : ℕ) (holder : List ℕ) → Reading atoms start met number holder → (before : List Labelled) (a : Labelled) → a.act ≡ act → acts_in before ≡ acts → CleanActs atoms (own_by number holder) server (a ∷ before) → is_start act ≡ false →
    Follows atoms (own_by number holder) server (moves_by (own_by number holder) server before) (is_choosing (acts_in before)) a.act a.label (moves_for (own_by number holder) server (is_choosing (acts_in before)) (moves_by (own_by number holder) server before) a.act a.label)
followed_in outer ground g start met act acts (it_takes theirs) atoms number holder read before a act_is acts_are clean no_start =
    let own = own_by number holder in
    as_follows atoms own server before a [] false (took theirs) (takes a.label ∷ []) (g.still own before acts_are) (ap is_choosing acts_are ∙ g.quiet) act_is refl (takes_it theirs server_challenge)
followed_in outer ground g start met act acts (it_asks key theirs has) atoms number holder read before a act_is acts_are clean no_start =
    let own = own_by number holder in
    let q = at_greeted atoms start outer ground g own theirs before acts_are clean.1 in
    let request_is : TicketReq = record { kind = 1; authid = key.user; authdom = key.dom; chal = start.word; hostid = []; uid = [] } in
    let ring : IsRingKey key = All-head IsMet (found key has.secret) has.more (subst (All IsMet) has.is read.keys) in
    let fits : FitsRequest request_is = record { authid = ring.user.short; authdom = ring.dom.short; chal = read.eight; hostid = nobody_is_name; uid = nobody_is_name } in
    as_follows atoms own server before a (takes q.t ∷ []) false (gave (server_request start key)) (gives (asked_label own (server_request start key)) ∷ []) q.moves q.choosing act_is refl
    (gives_it (server_request start key) (asked_label own (server_request start key)) (server_request_row (names_in (server_request start key))) (request_is_spelled atoms request_is (nonce number) fits (ap atom_bytes read.word)))
followed_in outer ground g start met act acts (it_is_shown key theirs b) atoms number holder read before a act_is acts_are clean no_start =
    let own = own_by number holder in
    let q = at_asked atoms start outer ground g own key theirs before acts_are clean.1 in
    as_follows atoms own server before a (gives (asked_label own (server_request start key)) ∷ takes q.t ∷ []) false (took b) (takes a.label ∷ []) q.moves q.choosing act_is refl (takes_it b (server_ticket (names_in (server_request start key))))
followed_in outer ground g start met act acts (it_breaks key theirs b cause) atoms number holder read before a act_is acts_are clean no_start =
    let own = own_by number holder in
    let q = at_shown atoms start outer ground g own key theirs b before acts_are clean.1 in
    as_follows atoms own server before a (takes q.m ∷ gives (asked_label own (server_request start key)) ∷ takes q.t ∷ []) false (failed cause) (fails ∷ []) q.moves q.choosing act_is refl (fails_so cause)
followed_in outer ground g start met act acts (it_accepts key theirs b t has opens) atoms number holder read before a act_is acts_are clean no_start =
    let own = own_by number holder in
    let r = server_request start key in
    let q = at_shown atoms start outer ground g own key theirs b before acts_are clean.1 in
    let form : IsShown own q.m = subst (IsFormed atoms own server) q.moves (clean.0.formed (ap goes_on act_is)) in
    let of_key : ReadsMet atoms server holder (found key has.secret ∷ has.more) = subst (ReadsMet atoms server holder) has.is read.key in
    let k = ticket_key_of atoms read.bytes number holder start.word key q.m b t read.word read.eight of_key form q.holds q.shown opens in
    let field = bytes (piece_of (shown_in q.m) 3) in
    let names : name_text field ≡ t.suid = ap (λ m. name_text (bytes (piece_of (shown_in m) 3))) form.is ∙ k.suid in
    as_follows atoms own server before a (takes q.m ∷ gives (asked_label own r) ∷ takes q.t ∷ []) false (accepted t.cuid t.suid) (accepts field ∷ []) q.moves q.choosing act_is refl (accepts_it t.cuid t.suid field (λ serves. names) (accepts_row own r q.t q.m form))
followed_in outer ground g start met act acts (it_proves key theirs b t eight has opens) atoms number holder read before a act_is acts_are clean no_start =
    let own = own_by number holder in
    let r = server_request start key in
    let q = at_accepted atoms start outer ground g own key theirs b t before acts_are clean.1 in
    let label = server_message (piece_of (shown_in q.m) 4) q.t in
    let of_key : ReadsMet atoms server holder (found key has.secret ∷ has.more) = subst (ReadsMet atoms server holder) has.is read.key in
    as_follows atoms own server before a (accepts (bytes (piece_of (shown_in q.m) 3)) ∷ takes q.m ∷ gives (asked_label own r) ∷ takes q.t ∷ []) false (gave (proof theirs t)) (gives label ∷ []) q.moves q.choosing act_is (ap if_some (proof_gift own r q.t q.m (names_in (proof theirs t)) q.form))
    (gives_it (proof theirs t) label (proof_row own r q.t q.m q.form) (proof_spells atoms read.bytes number holder start.word key q.m q.t b theirs t read.word read.eight of_key q.form q.holds q.shown opens q.spells eight))
followed_in outer ground g start met act acts (it_is_told key theirs b t more rest) atoms number holder read before a act_is acts_are clean no_start =
    let own = own_by number holder in
    let q = proved_in atoms start outer ground g own key theirs b t acts rest before acts_are clean.1 in
    as_follows atoms own server before a (q.p1 ∷ q.p2 ∷ q.p3 ∷ q.p4 ∷ q.p5 ∷ []) false (took more) [] q.moves q.choosing act_is refl (takes_none more)

-- ---- p9sk1 alone

-- its start
abbrev IsStart : Start → Act → List Act → Type 0
IsStart start act acts = (act ≡ first start) × (acts ≡ [])

nothing_first : (start : Start) (act : Act) → role_of start.template ≡ sk_role.Server → acts_from (speaks P9sk1 start) act [] ≡ []
nothing_first start act role = ap (λ role. if is_sought (sk.need_at start (at (sk.first_stage role))) then [] else act ∷ []) role

nexts : (spoken : Spoken) → IsServer spoken.start → (acts : List Act) → IsTalk spoken acts → Each (Comes spoken.start (first spoken.start ∷ []) spoken.met (IsStart spoken.start)) acts
nexts spoken is acts t =
    let start = spoken.start in
    let P = Comes start (first start ∷ []) spoken.met (IsStart start) in
    let mets : Met start t.talk ≡ spoken.met = sym (ap (λ p. met_by (speaks p start) t.talk) is.p9sk1) ∙ t.met in
    let all : acts_from (speaks P9sk1 start) (first start) t.talk ≡ t.later ++ acts = sym (ap (λ p. acts_from (speaks p start) (started_by start) t.talk) is.p9sk1 ∙ ap (λ f. acts_from (speaks P9sk1 start) f t.talk) (first_is start is)) ∙ t.left in
    let left : Acts start (first start) t.talk ++ [] ≡ t.later ++ acts = ap (λ xs. Acts start (first start) t.talk ++ xs) (sym (nothing_first start (first start) is.server)) ∙ sym (above_all (speaks P9sk1 start) (first start) t.talk) ∙ all in
    each_behind P t.later acts (subst (Each P) left (all_next start (first start) [] spoken.met [] (IsStart start) t.talk (inr (refl, refl), tt) (sym mets ∙ sym (append-nil (Met start t.talk))) (stands start (first start) is.server t.talk)))

begins_so : (start : Start) (met : List Call) (act : Act) (acts : List Act) → Comes start (first start ∷ []) met (IsStart start) act acts → BeginsWith (first start) (act ∷ acts)
begins_so start met act acts (inl next) = begins_with (first start) start (first start ∷ []) met act acts refl next
begins_so start met act acts (inr is) = subst (λ xs. BeginsWith (first start) (act ∷ xs)) (sym is.1) is.0

orderly : (spoken : Spoken) → IsServer spoken.start → IsOrderlyTalk spoken
orderly spoken is act acts t = subst (λ f. BeginsWith f (act ∷ acts)) (sym (first_is spoken.start is)) (begins_so spoken.start spoken.met act acts (nexts spoken is (act ∷ acts) t).0)

follows_so : (start : Start) (met : List Call) (act : Act) (acts : List Act) → Comes start (first start ∷ []) met (IsStart start) act acts → (atoms : Atoms) (number : ℕ) (holder : List ℕ) → Reading atoms start met number holder → (before : List Labelled) (a : Labelled) → a.act ≡ act → acts_in before ≡ acts → CleanActs atoms (own_by number holder) server (a ∷ before) → is_start act ≡ false →
    Follows atoms (own_by number holder) server (moves_by (own_by number holder) server before) (is_choosing (acts_in before)) a.act a.label (moves_for (own_by number holder) server (is_choosing (acts_in before)) (moves_by (own_by number holder) server before) a.act a.label)
follows_so start met act acts (inl next) atoms number holder read before a act_is acts_are clean no_start = followed_in (first start) (first start ∷ []) (sk_ground part.Server start.word server) start met act acts next atoms number holder read before a act_is acts_are clean no_start
follows_so start met act acts (inr is) atoms number holder read before a act_is acts_are clean no_start = absurd (let both : true ≡ false = sym (ap is_start is.0) ∙ no_start in cc)

of_this_role : (start : Start) (role : Role) → IsServer start → role_in (started_by start) role → role ≡ server
of_this_role start role is in_it = subst (λ act. role_in act role) (first_is start is) in_it

followed : (spoken : Spoken) → IsServer spoken.start → IsFollowed spoken
followed spoken is atoms number holder role read before a t clean no_start =
    let role_so = of_this_role spoken.start role is read.of_start in
    let word = subst (λ role. ReadsWord atoms role number spoken.start.word) role_so read.word in
    let key = subst (ReadsKept atoms server holder) (sk_kept spoken (a.act ∷ acts_in before) is.p9sk1 t) (subst (λ role. ReadsKept atoms role holder spoken.key) role_so read.key) in
    subst (λ role. Follows atoms (own_by number holder) role (moves_by (own_by number holder) role before) (is_choosing (acts_in before)) a.act a.label (moves_for (own_by number holder) role (is_choosing (acts_in before)) (moves_by (own_by number holder) role before) a.act a.label)) (sym role_so)
    (follows_so spoken.start spoken.met a.act (acts_in before) (nexts spoken is (a.act ∷ acts_in before) t).0 atoms number holder (record { bytes = read.bytes; word = word; eight = t.may.word.whole; keys = t.may.keys; key = key }) before a refl refl (subst (λ role. CleanActs atoms (own_by number holder) role (a ∷ before)) role_so clean) no_start)

-- a p9sk1 server is lawful
pub server_is_lawful : (spoken : Spoken) → IsServer spoken.start → IsLawful spoken
server_is_lawful spoken is = record { orderly = orderly spoken is; followed = followed spoken is }
