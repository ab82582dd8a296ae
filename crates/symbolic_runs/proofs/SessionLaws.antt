-- What happens once in the sessions of a run: requests, answers, vouches; and where conversations start.
use Rattle.std.proofs.Common.{◌≡◌, ℕ, suc, ◌<◌, [], ◌∷◌, ◌++◌, List, length, refl, sym, ap, ◌∙◌, inl, inr, ◌⊎◌, eqb, true, false, Some, None, Option, Contains, subst, arith}
use Rattle.std.proofs.lemmas.Bool.{cases_Bool, cases_eq, cases_order, eq-eqb, eqb-true}
use Rattle.symbolic_runs.specs.declared.kind.MacKind.{MacKind}
use Rattle.symbolic_runs.specs.declared.kind.MacKind.TheVariants.{Apop, Cram}
use Rattle.symbolic_runs.specs.Trees.{Tree, password, digest, same_kind}
use Rattle.symbolic_runs.specs.Forms.{mail_request, Fields, pair, request, mail_challenge}
use Rattle.symbolic_runs.specs.Moves.{Move}
use Rattle.symbolic_runs.specs.Sessions.{Grant, key_and_password, Deed, got, gives_tickets, gives_challenge, gives_vouch, refuses, held, SessionRow, comes, grants_tickets, challenges, vouches, refusal}
use Rattle.symbolic_runs.specs.Runs.{Setting, Event, starts, talks, moves, serves, Run, started, deeds_of, requests, IsRun}
use Rattle.symbolic_runs.specs.Places.{Stands, answers_to, StartsIn, ChallengedIn}
use Rattle.symbolic_runs.proofs.Parts.{run_with, stands_later, stands_behind, started_at, served_at, arrived_at}
use Rattle.symbolic_runs.proofs.OnceLaws.{Grows, one_place, one_event}

-- requests
requests_grow : Grows requests
requests_grow starts past = omega arith
requests_grow (talks other bytes) past = omega arith
requests_grow (moves conv move) past = omega arith
requests_grow (serves session (got number t)) past = omega arith
requests_grow (serves session (gives_tickets number)) past = omega arith
requests_grow (serves session (gives_challenge kind number head)) past = omega arith
requests_grow (serves session (gives_vouch kind number first)) past = omega arith
requests_grow (serves session (refuses number bytes)) past = omega arith

pub one_request : (s : Setting) (run past past' : Run) (session session' number : ℕ) (t t' : Tree) → IsRun s run → Stands run past (serves session (got number t)) → Stands run past' (serves session' (got number t')) → past ≡ past'
one_request s run past past' session session' number t t' r at at' =
    let here = arrived_at s past session (got number t) (run_with s run past (serves session (got number t)) r at) in
    let there = arrived_at s past' session' (got number t') (run_with s run past' (serves session' (got number t')) r at') in
    one_place requests requests_grow run past past' (serves session (got number t)) (serves session' (got number t')) at at' (omega arith) (omega arith) (sym here.0 ∙ there.0)

-- the deeds of a session
deeds_grow : (session : ℕ) → Grows (λ run. length (deeds_of session run))
deeds_grow session starts past = omega arith
deeds_grow session (talks other bytes) past = omega arith
deeds_grow session (moves conv move) past = omega arith
deeds_grow session (serves other deed) past = elim (cases_Bool (eqb other session)) [
  | inl same ↦ rw same (omega arith)
  | inr differs ↦ rw differs (omega arith)
]

deed_done : (session : ℕ) (deed : Deed) (past : Run) → length (deeds_of session past) < length (deeds_of session (serves session deed ∷ past))
deed_done session deed past = rw (eq-eqb session session refl) (omega arith)

deeds_differ : (run past past' : Run) (session : ℕ) (d d' : Deed) → Stands run past (serves session d) → Stands run past' (serves session d') → length (deeds_of session past) ≡ length (deeds_of session past') → past ≡ past'
deeds_differ run past past' session d d' at at' e = one_place (λ x. length (deeds_of session x)) (deeds_grow session) run past past' (serves session d) (serves session d') at at' (deed_done session d past) (deed_done session d' past') e

-- the place of the newest deed of a session
pub record NewestDeed (session : ℕ) (run : Run) (deed : Deed) (before : List Deed) : Type 0 where
  pub past : Run
  pub stands : Stands run past (serves session deed)
  pub rest : deeds_of session past ≡ before

newest_behind : (session : ℕ) (run : Run) (event : Event) (deed : Deed) (before : List Deed) → NewestDeed session run deed before → NewestDeed session (event ∷ run) deed before
newest_behind session run event deed before n = record { past = n.past; stands = stands_behind run n.past event (serves session deed) n.stands; rest = n.rest }

pub newest_deed : (session : ℕ) (run : Run) (deed : Deed) (before : List Deed) → deeds_of session run ≡ deed ∷ before → NewestDeed session run deed before
newest_deed session [] deed before e = absurd (cc)
newest_deed session (starts ∷ past) deed before e = newest_behind session past starts deed before (newest_deed session past deed before e)
newest_deed session (talks other bytes ∷ past) deed before e = newest_behind session past (talks other bytes) deed before (newest_deed session past deed before e)
newest_deed session (moves conv move ∷ past) deed before e = newest_behind session past (moves conv move) deed before (newest_deed session past deed before e)
newest_deed session (serves other done ∷ past) deed before e = elim (cases_Bool (eqb other session)) [
  | inl same ↦
      let here : done ∷ deeds_of session past ≡ deed ∷ before = rw same at e in
      let named : other ≡ session = eqb-true other session same in
      let is : done ≡ deed = cc in
      record { past = past; stands = record { later = []; place = rw (named, is) refl }; rest = cc }
  | inr differs ↦ newest_behind session past (serves other done) deed before (newest_deed session past deed before (rw differs at e))
]

-- an answer stands behind its request
pub record Answers (history : List Deed) (number : ℕ) : Type 0 where
  pub t : Tree
  pub before : List Deed
  pub is : history ≡ got number t ∷ before

of_request : (n number : ℕ) (t : Tree) (before : List Deed) → n ≡ number → Answers (got n t ∷ before) number
of_request n number t before same = record { t = t; before = before; is = ap (λ x. got x t ∷ before) same }

pub answered : (domain : List ℕ) (grants : ℕ → Grant) (history : List Deed) (deed : Deed) (number : ℕ) → SessionRow domain grants history deed → answers_to deed ≡ Some number → Answers history number
answered domain grants history deed number (comes idle) e = absurd (cc)
answered domain grants history deed number (grants_tickets {before} {number = n} fields server client whole used speaks) e = let same : n ≡ number = cc in of_request n number _ before same
answered domain grants history deed number (challenges {before} {number = n} fields whole free six) e = let same : n ≡ number = cc in of_request n number _ before same
answered domain grants history deed number (vouches {before} {number = n} fields server name whole used speaks holds) e = let same : n ≡ number = cc in of_request n number _ before same
answered domain grants history deed number (refusal {before} {number = n}) e = let same : n ≡ number = cc in of_request n number _ before same

-- the place of the request that is answered
pub request_of : (s : Setting) (run past : Run) (session : ℕ) (deed : Deed) (number : ℕ) → IsRun s run → Stands run past (serves session deed) → answers_to deed ≡ Some number → Answers (deeds_of session past) number
request_of s run past session deed number r at e = answered s.domain s.grants (deeds_of session past) deed number (served_at s past session deed (run_with s run past (serves session deed) r at)) e

pub one_answer : (s : Setting) (run past past' : Run) (session session' number : ℕ) (d d' : Deed) → IsRun s run → Stands run past (serves session d) → Stands run past' (serves session' d') → answers_to d ≡ Some number → answers_to d' ≡ Some number → past ≡ past'
one_answer s run past past' session session' number d d' r at at' e e' =
    let a = request_of s run past session d number r at e in
    let a' = request_of s run past' session' d' number r at' e' in
    let n = newest_deed session past (got number a.t) a.before a.is in
    let n' = newest_deed session' past' (got number a'.t) a'.before a'.is in
    let here = stands_later run past n.past (serves session d) (serves session (got number a.t)) at n.stands in
    let there = stands_later run past' n'.past (serves session' d') (serves session' (got number a'.t)) at' n'.stands in
    let same = one_request s run n.past n'.past session session' number a.t a'.t r here there in
    let event : serves session (got number a.t) ≡ serves session' (got number a'.t) = one_event run n.past n'.past (serves session (got number a.t)) (serves session' (got number a'.t)) here there same in
    let named : session' ≡ session = cc in
    deeds_differ run past past' session d d' at (subst (λ x. Stands run past' (serves x d')) named at')
    (ap length a.is ∙ (ap suc (ap length (sym n.rest ∙ (ap (deeds_of session) same ∙ (subst (λ x. deeds_of session n'.past ≡ deeds_of x n'.past) (sym named) refl ∙ n'.rest)))) ∙ sym (ap length (subst (λ x. deeds_of x past' ≡ got number a'.t ∷ a'.before) named a'.is))))

-- what a vouch stands on
pub record Vouching (s : Setting) (history : List Deed) (kind : MacKind) (number first : ℕ) : Type 0 where
  pub fields : Fields
  pub server : Option (List ℕ)
  pub name : List ℕ
  pub before : List Deed
  pub used : (s.grants number).used ≡ key_and_password server name
  pub speaks : Contains (s.grants number).speakers name
  pub holds : held before kind ≡ Some first
  pub is : history ≡ got number (pair (request (mail_request kind) fields (s.grants number).chal) (digest kind (password name) (mail_challenge s.domain first))) ∷ before

pub vouching : (s : Setting) (history : List Deed) (deed : Deed) (kind : MacKind) (number first : ℕ) → SessionRow s.domain s.grants history deed → deed ≡ gives_vouch kind number first → Vouching s history kind number first
vouching s history deed kind number first (comes idle) e = absurd (cc)
vouching s history deed kind number first (grants_tickets fields server client whole used speaks) e = absurd (cc)
vouching s history deed kind number first (challenges fields whole free six) e = absurd (cc)
vouching s history deed kind number first (vouches {before} {number = n} {first = f} fields {kind = k} server name whole used speaks holds) e =
    let same_number : n ≡ number = cc in
    let same_first : f ≡ first = cc in
    let is_kind : k ≡ kind = cc in
    record {
      fields = fields;
      server = server;
      name = name;
      before = before;
      used = subst (λ x. (s.grants x).used ≡ key_and_password server name) same_number used;
      speaks = subst (λ x. Contains (s.grants x).speakers name) same_number speaks;
      holds = subst (λ x. held before x ≡ Some first) is_kind (subst (λ x. held before k ≡ Some x) same_first holds);
      is = rw (same_number, same_first, is_kind) refl;
    }
vouching s history deed kind number first refusal e = absurd (cc)

-- a place in a longer run
split : (event : Event) (past before : Run) (other : Event) → Stands (event ∷ past) before other → (event ≡ other) × (past ≡ before) ⊎ Stands past before other
split event past before other at = go at.later at.place
  where
    go : (later : Run) → event ∷ past ≡ later ++ other ∷ before → (event ≡ other) × (past ≡ before) ⊎ Stands past before other
    go [] e = inl (cc, cc)
    go (x ∷ later) e = inr (record { later = later; place = cc })

shorter : (run past : Run) (event : Event) → Stands run past event → length past < length run
shorter run past event at = subst (λ x. length past < length x) (sym at.place) (go at.later)
  where
    go : (later : Run) → length past < length (later ++ event ∷ past)
    go [] = omega arith
    go (x ∷ later) = let rest = go later in omega arith

earlier : (run past past' : Run) (e e' : Event) → Stands run past e → Stands run past' e' → length past < length past' → Stands past' past e
earlier run past past' e e' at at' l = go run at.later at'.later at.place at'.place
  where
    go : (run later later' : Run) → run ≡ later ++ e ∷ past → run ≡ later' ++ e' ∷ past' → Stands past' past e
    go run [] later' p q = absurd (let below = shorter (e ∷ past) past' e' (record { later = later'; place = sym p ∙ q }) in omega arith)
    go run (x ∷ later) [] p q = let here : x ∷ (later ++ e ∷ past) ≡ e' ∷ past' = sym p ∙ q in record { later = later; place = cc }
    go run (x ∷ later) (y ∷ later') p q = let here : x ∷ (later ++ e ∷ past) ≡ y ∷ (later' ++ e' ∷ past') = sym p ∙ q in go (later ++ e ∷ past) later later' refl (cc)

equal_kinds : (a b : MacKind) → same_kind a b ≡ true → a ≡ b
equal_kinds Apop Apop e = refl
equal_kinds Cram Cram e = refl
equal_kinds Apop Cram e = absurd (cc)
equal_kinds Cram Apop e = absurd (cc)

-- the place of the challenge that a session holds, behind all its vouches
pub record HeldAt (session : ℕ) (run : Run) (kind : MacKind) (first : ℕ) : Type 0 where
  pub past : Run
  pub head : List ℕ
  pub stands : Stands run past (serves session (gives_challenge kind first head))
  pub free : (before : Run) (other : MacKind) (number challenged : ℕ) → Stands run before (serves session (gives_vouch other number challenged)) → length before < length past

held_behind : (session : ℕ) (run : Run) (event : Event) (kind : MacKind) (first : ℕ) → ((other : MacKind) (number challenged : ℕ) → event ≡ serves session (gives_vouch other number challenged) → ⊥) → HeldAt session run kind first → HeldAt session (event ∷ run) kind first
held_behind session run event kind first none h = record {
  past = h.past;
  head = h.head;
  stands = stands_behind run h.past event (serves session (gives_challenge kind first h.head)) h.stands;
  free = λ before other number challenged at. elim (split event run before (serves session (gives_vouch other number challenged)) at) [
    | inl here ↦ absurd (none other number challenged here.0)
    | inr below ↦ h.free before other number challenged below
  ];
}

held_now : (session : ℕ) (past : Run) (kind : MacKind) (number : ℕ) (head : List ℕ) → HeldAt session (serves session (gives_challenge kind number head) ∷ past) kind number
held_now session past kind number head = record {
  past = past;
  head = head;
  stands = record { later = []; place = refl };
  free = λ before other n challenged at. elim (split (serves session (gives_challenge kind number head)) past before (serves session (gives_vouch other n challenged)) at) [
    | inl here ↦ absurd (let no_vouch : serves session (gives_challenge kind number head) ≡ serves session (gives_vouch other n challenged) = here.0 in cc)
    | inr below ↦ shorter past before (serves session (gives_vouch other n challenged)) below
  ];
}

chosen : (session : ℕ) (past : Run) (other kind : MacKind) (number first : ℕ) (head : List ℕ) → held (gives_challenge other number head ∷ deeds_of session past) kind ≡ Some first → HeldAt session (serves session (gives_challenge other number head) ∷ past) kind first
chosen session past other kind number first head e = elim (cases_Bool (same_kind other kind)) [
  | inl same ↦
      let is : Some number ≡ Some first = rw same at e in
      let named : number ≡ first = cc in
      subst (λ x. HeldAt session (serves session (gives_challenge other number head) ∷ past) kind x) named (subst (λ x. HeldAt session (serves session (gives_challenge x number head) ∷ past) kind number) (sym (equal_kinds other kind same)) (held_now session past kind number head))
  | inr differs ↦ absurd (let gone : None ≡ Some first = rw differs at e in cc)
]

pub held_at : (session : ℕ) (run : Run) (kind : MacKind) (first : ℕ) → held (deeds_of session run) kind ≡ Some first → HeldAt session run kind first
held_at session [] kind first e = absurd (cc)
held_at session (starts ∷ past) kind first e = held_behind session past starts kind first (λ other number challenged f. absurd (cc)) (held_at session past kind first e)
held_at session (talks conv bytes ∷ past) kind first e = held_behind session past (talks conv bytes) kind first (λ other number challenged f. absurd (cc)) (held_at session past kind first e)
held_at session (moves conv move ∷ past) kind first e = held_behind session past (moves conv move) kind first (λ other number challenged f. absurd (cc)) (held_at session past kind first e)
held_at session (serves other deed ∷ past) kind first e = elim (cases_Bool (eqb other session)) [
  | inl same ↦
      let named : session ≡ other = sym (eqb-true other session same) in
      subst (λ x. HeldAt session (serves x deed ∷ past) kind first) named (go deed (rw same at e) (held_at session past kind first))
  | inr differs ↦ held_behind session past (serves other deed) kind first (λ k number challenged f. let named : other ≡ session = cc in absurd (let yes_same : eqb other session ≡ true = eq-eqb other session named in let both : true ≡ false = sym yes_same ∙ differs in cc)) (held_at session past kind first (rw differs at e))
]
  where
    go : (d : Deed) → held (d ∷ deeds_of session past) kind ≡ Some first → (held (deeds_of session past) kind ≡ Some first → HeldAt session past kind first) → HeldAt session (serves session d ∷ past) kind first
    go (got number t) f before = held_behind session past (serves session (got number t)) kind first (λ o n c g. absurd (cc)) (before f)
    go (gives_tickets number) f before = held_behind session past (serves session (gives_tickets number)) kind first (λ o n c g. absurd (cc)) (before f)
    go (refuses number bytes) f before = held_behind session past (serves session (refuses number bytes)) kind first (λ o n c g. absurd (cc)) (before f)
    go (gives_vouch o number challenged) f before = absurd (cc)
    go (gives_challenge o number head) f before = chosen session past o kind number first head f

-- a vouch is for a challenge of its own session
pub vouch_at : (s : Setting) (run past : Run) (session : ℕ) (kind : MacKind) (number first : ℕ) → IsRun s run → Stands run past (serves session (gives_vouch kind number first)) → Vouching s (deeds_of session past) kind number first
vouch_at s run past session kind number first r at = vouching s (deeds_of session past) (gives_vouch kind number first) kind number first (served_at s past session (gives_vouch kind number first) (run_with s run past (serves session (gives_vouch kind number first)) r at)) refl

pub vouch_held : (s : Setting) (run past : Run) (session : ℕ) (kind : MacKind) (number first : ℕ) → IsRun s run → Stands run past (serves session (gives_vouch kind number first)) → HeldAt session past kind first
vouch_held s run past session kind number first r at =
    let v = vouch_at s run past session kind number first r at in
    held_at session past kind first (subst (λ x. held x kind ≡ Some first) (sym v.is) v.holds)

-- a challenge is vouched for once
pub one_vouch : (s : Setting) (run past past' : Run) (session session' : ℕ) (kind kind' : MacKind) (number number' first : ℕ) → IsRun s run → Stands run past (serves session (gives_vouch kind number first)) → Stands run past' (serves session' (gives_vouch kind' number' first)) → past ≡ past'
one_vouch s run past past' session session' kind kind' number number' first r at at' =
    let h = vouch_held s run past session kind number first r at in
    let h' = vouch_held s run past' session' kind' number' first r at' in
    let here = stands_later run past h.past (serves session (gives_vouch kind number first)) (serves session (gives_challenge kind first h.head)) at h.stands in
    let there = stands_later run past' h'.past (serves session' (gives_vouch kind' number' first)) (serves session' (gives_challenge kind' first h'.head)) at' h'.stands in
    let same = one_answer s run h.past h'.past session session' first (gives_challenge kind first h.head) (gives_challenge kind' first h'.head) r here there refl refl in
    let event : serves session (gives_challenge kind first h.head) ≡ serves session' (gives_challenge kind' first h'.head) = one_event run h.past h'.past (serves session (gives_challenge kind first h.head)) (serves session' (gives_challenge kind' first h'.head)) here there same in
    let named : session ≡ session' = cc in
    let below = shorter past h.past (serves session (gives_challenge kind first h.head)) h.stands in
    let below' = shorter past' h'.past (serves session' (gives_challenge kind' first h'.head)) h'.stands in
    let lengths : length h.past ≡ length h'.past = ap length same in
    elim (cases_order (length past) (length past')) [
      | inl equal ↦ one_place length (λ e p. omega arith) run past past' (serves session (gives_vouch kind number first)) (serves session' (gives_vouch kind' number' first)) at at' (omega arith) (omega arith) equal
      | inr (inl less) ↦ absurd (let before = h'.free past kind number first (subst (λ x. Stands past' past (serves x (gives_vouch kind number first))) named (earlier run past past' (serves session (gives_vouch kind number first)) (serves session' (gives_vouch kind' number' first)) at at' less)) in omega arith)
      | inr (inr more) ↦ absurd (let before = h.free past' kind' number' first (subst (λ x. Stands past past' (serves x (gives_vouch kind' number' first))) (sym named) (earlier run past' past (serves session' (gives_vouch kind' number' first)) (serves session (gives_vouch kind number first)) at' at more)) in omega arith)
    ]

-- starts
starts_grow : Grows started
starts_grow starts past = omega arith
starts_grow (talks conv bytes) past = omega arith
starts_grow (moves conv move) past = omega arith
starts_grow (serves session deed) past = omega arith

pub one_start : (run past past' : Run) → Stands run past starts → Stands run past' starts → started past ≡ started past' → past ≡ past'
one_start run past past' at at' e = one_place started starts_grow run past past' starts starts at at' (omega arith) (omega arith) e

start_behind : (conv : ℕ) (run : Run) (event : Event) → StartsIn run conv → StartsIn (event ∷ run) conv
start_behind conv run event a = record { past = a.past; stands = stands_behind run a.past event starts a.stands; number = a.number }

pub start_of : (conv : ℕ) (run : Run) → conv < started run → StartsIn run conv
start_of conv [] l = absurd (omega arith)
start_of conv (talks other bytes ∷ past) l = start_behind conv past (talks other bytes) (start_of conv past l)
start_of conv (moves other move ∷ past) l = start_behind conv past (moves other move) (start_of conv past l)
start_of conv (serves session deed ∷ past) l = start_behind conv past (serves session deed) (start_of conv past l)
start_of conv (starts ∷ past) l = elim (cases_eq (started past) conv) [
  | inl here ↦ record { past = past; stands = record { later = []; place = refl }; number = here }
  | inr before ↦ start_behind conv past starts (start_of conv past (omega arith))
]

pub started_before : (s : Setting) (run past : Run) (conv : ℕ) (move : Move) → IsRun s run → Stands run past (moves conv move) → StartsIn past conv
started_before s run past conv move r at = start_of conv past (started_at s past conv move (run_with s run past (moves conv move) r at))

pub challenged : (s : Setting) (run past : Run) (session : ℕ) (kind : MacKind) (number first : ℕ) → IsRun s run → Stands run past (serves session (gives_vouch kind number first)) → ChallengedIn past session kind first
challenged s run past session kind number first r at = let h = vouch_held s run past session kind number first r at in record { past = h.past; head = h.head; stands = h.stands }
