-- A grant that was made in a run was made in its history, by the request and the answer that say the same.
use Rattle.std.proofs.Common.{◌≡◌, ℕ, List, [], ◌∷◌, ◌++◌, append_assoc, length, map, Option, Some, None, Ok, Bool, true, false, eqb, is_some, take, if◌then◌else◌, inl, inr, refl, sym, ap, subst, ◌∙◌}
use Rattle.std.proofs.lemmas.Bool.{cases_Bool, eqb-true}
use Rattle.sealing.specs.declared.request.TicketReq.{TicketReq}
use Rattle.sealing.specs.Request.{request_of}
use Rattle.auth_server.specs.Requests.{kind_of}
use Rattle.auth_server.specs.Answers.{Knowledge}
use Rattle.symbolic_runs.specs.declared.kind.MacKind.{MacKind}
use Rattle.symbolic_runs.specs.declared.kind.MacKind.TheVariants.{Apop, Cram}
use Rattle.symbolic_runs.specs.Trees.{Tree}
use Rattle.wire_histories.specs.declared.step.Step.{Step}
use Rattle.wire_histories.specs.declared.step.Step.TheVariants.{Start, Out, In, Ask, Heard, Unheard, Accept, Fail, Reply, Refused, AsGot, AsGave, AsEnd, Restart, Reload}
use Rattle.symbolic_runs.specs.Moves.{Move}
use Rattle.symbolic_runs.specs.Runs.{Event, Run, moves, serves, talks}
use Rattle.symbolic_runs.specs.Places.{Stands, answers_to}
use Rattle.symbolic_runs.proofs.OnceLaws.{one_event}
use Rattle.symbolic_runs.proofs.SessionLaws.{one_answer}
use Rattle.symbolic_runs.specs.Sessions.{Deed, got, gives_tickets, gives_challenge, gives_vouch, refuses, held, Grant, keys, key_and_password, ticket_for_server, vouched_ticket}
use Rattle.symbolic_runs.specs.Agreement.{Grants, IsGranted, by_tickets, by_vouching, server_name}
use Rattle.wire_histories.specs.Histories.{History, reloads_in, requested}
use Rattle.wire_histories.specs.Legal.{Setting, known_at}
use Rattle.wire_histories.specs.Sessions.{Came}
use Rattle.clean_runs.specs.KeyNames.{key_name, known_name, speakers}
use Rattle.clean_runs.specs.Labels.{labelled, requests_in}
use Rattle.clean_runs.specs.Runs.{deed_by, deeds_by, events_of, grant_at, grant_by, mail_kind, number_of, name_where, session_number, tickets_for, vouch_deed, vouch_for, is_choosing, acts_in}
use Rattle.clean_runs.proofs.Bridge.{Case, SessionsGo, run, runs_on, setting}
use Rattle.clean_runs.proofs.Served.{grant_placed}
use Rattle.clean_runs.proofs.SessionLaw.{Answering, answering}
use Rattle.clean_runs.proofs.SessionStands.{Answered, by_challenge, by_refusal, by_tickets as answered_by_tickets, by_vouch, kind_number}
use Rattle.clean_runs.specs.Agreement.{Happens, IsMade, granted, server_ticket}
use Rattle.clean_runs.proofs.Places.{further_in, stands_at, step_at}

-- ---- what a deed tells of the answer

pub record ByTickets (number n : ℕ) (request b : List ℕ) : Type 0 where
  pub ok : kind_of b ≡ 4
  pub kind : kind_of request ≡ 1
  pub same : number ≡ n

pub record ByVouch (before : List Deed) (number n : ℕ) (request b : List ℕ) (kind : MacKind) (first : ℕ) : Type 0 where
  pub ok : kind_of b ≡ 4
  pub other : eqb (kind_of request) 1 ≡ false
  pub kind_is : mail_kind request ≡ kind
  pub holds : held before kind ≡ Some first
  pub same : number ≡ n

-- the three choices, opened
challenge_is : (before : List Deed) (number : ℕ) (request b : List ℕ) → eqb (kind_of b) 9 ≡ true → deed_by before number request b ≡ gives_challenge (mail_kind request) number (take 6 b)
challenge_is before number request b is = ap (λ (x : Bool). if x then gives_challenge (mail_kind request) number (take 6 b) else if eqb (kind_of b) 4 then (if eqb (kind_of request) 1 then gives_tickets number else vouch_deed (mail_kind request) number (held before (mail_kind request)) b) else refuses number b) is

no_challenge : (before : List Deed) (number : ℕ) (request b : List ℕ) → eqb (kind_of b) 9 ≡ false → deed_by before number request b ≡ (if eqb (kind_of b) 4 then (if eqb (kind_of request) 1 then gives_tickets number else vouch_deed (mail_kind request) number (held before (mail_kind request)) b) else refuses number b)
no_challenge before number request b is = ap (λ (x : Bool). if x then gives_challenge (mail_kind request) number (take 6 b) else if eqb (kind_of b) 4 then (if eqb (kind_of request) 1 then gives_tickets number else vouch_deed (mail_kind request) number (held before (mail_kind request)) b) else refuses number b) is

granting : (before : List Deed) (number : ℕ) (request b : List ℕ) → eqb (kind_of b) 4 ≡ true → (if eqb (kind_of b) 4 then (if eqb (kind_of request) 1 then gives_tickets number else vouch_deed (mail_kind request) number (held before (mail_kind request)) b) else refuses number b) ≡ (if eqb (kind_of request) 1 then gives_tickets number else vouch_deed (mail_kind request) number (held before (mail_kind request)) b)
granting before number request b is = ap (λ (x : Bool). if x then (if eqb (kind_of request) 1 then gives_tickets number else vouch_deed (mail_kind request) number (held before (mail_kind request)) b) else refuses number b) is

refusing : (before : List Deed) (number : ℕ) (request b : List ℕ) → eqb (kind_of b) 4 ≡ false → (if eqb (kind_of b) 4 then (if eqb (kind_of request) 1 then gives_tickets number else vouch_deed (mail_kind request) number (held before (mail_kind request)) b) else refuses number b) ≡ refuses number b
refusing before number request b is = ap (λ (x : Bool). if x then (if eqb (kind_of request) 1 then gives_tickets number else vouch_deed (mail_kind request) number (held before (mail_kind request)) b) else refuses number b) is

-- a deed that is no challenge and no refusal is tickets or a vouch
pub data Granted (before : List Deed) (number : ℕ) (request b : List ℕ) : Deed → Type 0 where
  it_challenges : Granted before number request b (gives_challenge (mail_kind request) number (take 6 b))
  it_grants : kind_of b ≡ 4 → kind_of request ≡ 1 → Granted before number request b (gives_tickets number)
  it_vouches : (first : ℕ) → kind_of b ≡ 4 → eqb (kind_of request) 1 ≡ false → held before (mail_kind request) ≡ Some first → Granted before number request b (gives_vouch (mail_kind request) number first)
  it_refuses : Granted before number request b (refuses number b)

vouched : (before : List Deed) (number : ℕ) (request b : List ℕ) (o : Option ℕ) → held before (mail_kind request) ≡ o → kind_of b ≡ 4 → eqb (kind_of request) 1 ≡ false → Granted before number request b (vouch_deed (mail_kind request) number o b)
vouched before number request b None is ok other = it_refuses
vouched before number request b (Some first) is ok other = it_vouches first ok other is

pub granted_as : (before : List Deed) (number : ℕ) (request b : List ℕ) → Granted before number request b (deed_by before number request b)
granted_as before number request b = elim (cases_Bool (eqb (kind_of b) 9)) [
  | inl nine ↦ subst (Granted before number request b) (sym (challenge_is before number request b nine)) it_challenges
  | inr differs ↦ subst (Granted before number request b) (sym (no_challenge before number request b differs)) (elim (cases_Bool (eqb (kind_of b) 4)) [
    | inl four ↦ subst (Granted before number request b) (sym (granting before number request b four)) (elim (cases_Bool (eqb (kind_of request) 1)) [
      | inl one ↦ subst (Granted before number request b) (sym (ap (λ (x : Bool). if x then gives_tickets number else vouch_deed (mail_kind request) number (held before (mail_kind request)) b) one)) (it_grants (eqb-true (kind_of b) 4 four) (eqb-true (kind_of request) 1 one))
      | inr other ↦ subst (Granted before number request b) (sym (ap (λ (x : Bool). if x then gives_tickets number else vouch_deed (mail_kind request) number (held before (mail_kind request)) b) other)) (vouched before number request b (held before (mail_kind request)) refl (eqb-true (kind_of b) 4 four) other)
    ])
    | inr none ↦ subst (Granted before number request b) (sym (refusing before number request b none)) it_refuses
  ])
]

tickets_by : (before : List Deed) (number n : ℕ) (request b : List ℕ) (deed : Deed) → Granted before number request b deed → deed ≡ gives_tickets n → ByTickets number n request b
tickets_by before number n request b deed it_challenges is = absurd (cc)
tickets_by before number n request b deed (it_grants ok kind) is = record { ok = ok; kind = kind; same = (let one : number ≡ n = cc in one) }
tickets_by before number n request b deed (it_vouches first ok other holds) is = absurd (cc)
tickets_by before number n request b deed it_refuses is = absurd (cc)

vouch_by : (before : List Deed) (number n : ℕ) (request b : List ℕ) (kind : MacKind) (first : ℕ) (deed : Deed) → Granted before number request b deed → deed ≡ gives_vouch kind n first → ByVouch before number n request b kind first
vouch_by before number n request b kind first deed it_challenges is = absurd (cc)
vouch_by before number n request b kind first deed (it_grants ok one) is = absurd (cc)
vouch_by before number n request b kind first deed (it_vouches f ok other holds) is =
    let kind_is : mail_kind request ≡ kind = cc in
    let first_is : f ≡ first = cc in
    record { ok = ok; other = other; kind_is = kind_is; holds = ap (held before) (sym kind_is) ∙ holds ∙ ap Some first_is; same = (let one : number ≡ n = cc in one) }
vouch_by before number n request b kind first deed it_refuses is = absurd (cc)

-- ---- which step does a deed

-- of these no deed of the authentication server's comes
moved : (number session : ℕ) (choosing : List Event) (ms : List Move) (deed : Deed) (more : List Event) → choosing ≡ [] → choosing ++ map (moves number) ms ≡ serves session deed ∷ more → ⊥
moved number session [] [] deed more none is = absurd (cc)
moved number session [] (m ∷ ms) deed more none is = absurd (cc)
moved number session (e ∷ es) ms deed more none is = absurd (cc)

talked : (number session : ℕ) (b : List ℕ) (choosing : Bool) (ms : List Move) (deed : Deed) (more : List Event) → (if choosing then talks number b ∷ [] else []) ++ map (moves number) ms ≡ serves session deed ∷ more → ⊥
talked number session b true ms deed more is = absurd (cc)
talked number session b false [] deed more is = absurd (cc)
talked number session b false (m ∷ ms) deed more is = absurd (cc)

-- an answer of the authentication server's
pub record Gives (c : Case) (later past : History) (step : Step) (deed : Deed) : Type 0 where
  pub message : ℕ
  pub session : List ℕ
  pub b : List ℕ
  pub step_is : step ≡ AsGave message session b
  pub answering : Answering c past session b
  pub deed_is : deed_by (got answering.d.number answering.d.label ∷ deeds_by answering.older) answering.d.number answering.owed.asked.request b ≡ deed

-- no request
abbrev pub is_answer : Deed → Bool
is_answer (got number t) = false
is_answer (gives_tickets number) = true
is_answer (gives_challenge kind number head) = true
is_answer (gives_vouch kind number first) = true
is_answer (refuses number b) = true

pub gives_of : (c : Case) (later past : History) (step : Step) (session : ℕ) (deed : Deed) → c.history ≡ later ++ step ∷ past → is_answer deed ≡ true → events_of (setting c) c.l past step ≡ serves session deed ∷ [] → Gives c later past step deed
gives_of c later past (Start conv p r w) session deed place answers is = absurd (cc)
gives_of c later past (Out n conv b) session deed place answers is = absurd (talked (number_of conv past) session b (is_choosing (acts_in (labelled c.l conv past))) _ deed [] is)
gives_of c later past (In conv b) session deed place answers is = absurd (moved (number_of conv past) session [] _ deed [] refl is)
gives_of c later past (Ask n conv b) session deed place answers is = absurd (moved (number_of conv past) session [] _ deed [] refl is)
gives_of c later past (Heard conv b) session deed place answers is = absurd (cc)
gives_of c later past (Unheard conv) session deed place answers is = absurd (cc)
gives_of c later past (Accept conv cuid suid) session deed place answers is = absurd (cc)
gives_of c later past (Fail conv cause) session deed place answers is = absurd (cc)
gives_of c later past (Reply conv answer) session deed place answers is = absurd (cc)
gives_of c later past (Refused node answer) session deed place answers is = absurd (cc)
gives_of c later past (AsGot name b words) session deed place answers is = absurd (let same : got (requests_in past) (c.l.label (length past)) ≡ deed = cc in let both : false ≡ true = ap is_answer same ∙ answers in cc)
gives_of c later past (AsGave message name b) session deed place answers is =
    let a = answering c later past message name b place in
    let same : serves (session_number name past) (deed_by (got a.d.number a.d.label ∷ deeds_by a.older) a.d.number a.owed.asked.request b) ∷ [] ≡ serves session deed ∷ [] = sym a.events ∙ is in
    record { message = message; session = name; b = b; step_is = refl; answering = a; deed_is = (let one : deed_by (got a.d.number a.d.label ∷ deeds_by a.older) a.d.number a.owed.asked.request b ≡ deed = cc in one) }
gives_of c later past (AsEnd name) session deed place answers is = absurd (cc)
gives_of c later past (Restart node) session deed place answers is = absurd (cc)
gives_of c later past Reload session deed place answers is = absurd (cc)

-- ---- a grant of the run was made

-- a grant of a history is the run's
pub grants_are : (c : Case) (past later : History) → c.history ≡ later ++ past → (number : ℕ) (made : IsMade past c.z c.l number) → (setting c).grants number ≡ granted made
grants_are c past later place number made =
    let got_step = AsGot made.session made.request made.words in
    let here = further_in later place made.came in
    ap (setting c).grants (sym made.numbered)
    ∙ ap (λ h. grant_at c.z c.l h (requests_in made.asked)) here.place
    ∙ grant_placed c.z c.l here.later made.session made.request made.words made.asked
    ∙ ap (λ r. grant_by c.z (reloads_in made.asked) r (c.l.label (length made.asked))) made.is_read

pub record Made (c : Case) (past : History) (number : ℕ) (deed : Deed) (r : TicketReq) : Type 0 where
  pub made : IsMade past c.z c.l number
  pub read_is : made.read ≡ r
  pub deed_is : deed_by (got number (c.l.label (length made.asked)) ∷ deeds_by made.older) number made.request made.reply ≡ deed

-- the step that gives tickets or a vouch makes a grant
made_at : (c : Case) (past later earlier : History) (step : Step) (number : ℕ) (deed : Deed) → c.history ≡ later ++ past → (happens : Happens past earlier step) → (g : Gives c (later ++ happens.later) earlier step deed) → g.answering.d.number ≡ number → kind_of g.b ≡ 4 → (r : TicketReq) → request_of g.answering.owed.asked.request ≡ Ok r → Made c past number deed r
made_at c past later earlier step number deed place happens g number_is ok r read =
    let a = g.answering in
    let gave = AsGave g.message g.session g.b in
    let answered : Happens past earlier gave = record { later = happens.later; place = happens.place ∙ ap (λ s. happens.later ++ s ∷ earlier) g.step_is } in
    let request = a.owed.asked.request in
    let words = a.owed.asked.words in
    let label_is : a.d.label ≡ c.l.label (length a.at.earlier) = a.at.label in
    let tables = reloads_in a.at.earlier in
    let deal_is : a.d.deal ≡ requested tables request words = a.deal_is ∙ ap (λ n. requested n request words) a.at.in_force in
    let d_is : a.d ≡ record { deal = requested tables request words; number = number; label = c.l.label (length a.at.earlier) } =
    ap (λ x. record { deal = x; number = a.d.number; label = a.d.label }) deal_is
    ∙ ap (λ n. record { deal = requested tables request words; number = n; label = a.d.label }) number_is
    ∙ ap (λ t. record { deal = requested tables request words; number = number; label = t }) label_is in
    let came : Happens past a.at.earlier (AsGot g.session request words) = record { later = happens.later ++ gave ∷ a.at.later; place = answered.place ∙ ap (λ xs. happens.later ++ gave ∷ xs) a.at.place ∙ sym (append_assoc happens.later (gave ∷ a.at.later) (AsGot g.session request words ∷ a.at.earlier)) } in
    record {
      made = record {
        session = g.session;
        request = request;
        words = words;
        asked = a.at.earlier;
        came = came;
        numbered = sym a.at.number ∙ number_is;
        read = r;
        is_read = read;
        message = g.message;
        reply = g.b;
        past = earlier;
        answered = answered;
        ok = ok;
        older = a.older;
        newest = a.front ∙ ap (λ d. d ∷ a.older) d_is;
      };
      read_is = refl;
      deed_is =
          ap (λ n. deed_by (got n a.d.label ∷ deeds_by a.older) n request g.b) (sym number_is)
          ∙ ap (λ t. deed_by (got a.d.number t ∷ deeds_by a.older) a.d.number request g.b) (sym label_is)
          ∙ g.deed_is;
    }

-- ---- the request of a grant was read

record IsRead (request : List ℕ) (P : TicketReq → Type 0) : Type 0 where
  pub r : TicketReq
  pub is : request_of request ≡ Ok r
  pub so : P r

read_of_tickets : (known : ℕ → Knowledge) (before : List Came) (asked : Came) (deeds : List Deed) (number n : ℕ) (deed : Deed) → Answered known before asked deeds number deed → deed ≡ gives_tickets n → IsRead asked.request (λ r. r.kind ≡ 1)
read_of_tickets known before asked deeds number n deed (answered_by_tickets r read kind text holds) is = record { r = r; is = read; so = kind }
read_of_tickets known before asked deeds number n deed (by_challenge r kind read kind_is none text holds) is = absurd (cc)
read_of_tickets known before asked deeds number n deed (by_vouch r kind first read kind_is for_it holds text after has) is = absurd (cc)
read_of_tickets known before asked deeds number n deed (by_refusal holds) is = absurd (cc)

other_kind : (kind : MacKind) (n : ℕ) → n ≡ kind_number kind → eqb n 1 ≡ false
other_kind Apop n is = ap (λ m. eqb m 1) is
other_kind Cram n is = ap (λ m. eqb m 1) is

read_of_vouch : (known : ℕ → Knowledge) (before : List Came) (asked : Came) (deeds : List Deed) (number n : ℕ) (kind : MacKind) (first : ℕ) (deed : Deed) → Answered known before asked deeds number deed → deed ≡ gives_vouch kind n first → IsRead asked.request (λ r. eqb r.kind 1 ≡ false)
read_of_vouch known before asked deeds number n kind first deed (answered_by_tickets r read one text holds) is = absurd (cc)
read_of_vouch known before asked deeds number n kind first deed (by_challenge r other read kind_is none text holds) is = absurd (cc)
read_of_vouch known before asked deeds number n kind first deed (by_vouch r other f read kind_is for_it holds text after has) is = record { r = r; is = read; so = other_kind other r.kind kind_is }
read_of_vouch known before asked deeds number n kind first deed (by_refusal holds) is = absurd (cc)

-- ---- a grant with its ticket for the server

pub record MadeSo (c : Case) (past : History) (number : ℕ) (deed : Deed) (tree : Tree) : Type 0 where
  pub made : IsMade past c.z c.l number
  pub ticket_is : server_ticket made ≡ tree
  pub deed_is : deed_by (got number (c.l.label (length made.asked)) ∷ deeds_by made.older) number made.request made.reply ≡ deed

ticket_by : (c : Case) (past later : History) → c.history ≡ later ++ past → (number : ℕ) (made : IsMade past c.z c.l number) (Form : Grant → ℕ → Tree) → server_ticket made ≡ Form (granted made) number → server_ticket made ≡ Form ((setting c).grants number) number
ticket_by c past later place number made Form is = is ∙ ap (λ g. Form g number) (sym (grants_are c past later place number made))

pub tickets_made : (c : Case) → SessionsGo c → (past later : History) → c.history ≡ later ++ past → (number session : ℕ) (gave : Run) → Stands (run c past) gave (serves session (gives_tickets number)) → MadeSo c past number (gives_tickets number) (ticket_for_server ((setting c).grants number) number)
tickets_made c sessions past later place number session gave stands =
    let at = step_at c sessions past later place stands.later gave (serves session (gives_tickets number)) stands.place in
    let here : c.history ≡ (later ++ at.happens.later) ++ at.step ∷ at.earlier = place ∙ ap (λ xs. later ++ xs) at.happens.place ∙ sym (append_assoc later at.happens.later (at.step ∷ at.earlier)) in
    let g = gives_of c (later ++ at.happens.later) at.earlier at.step session (gives_tickets number) here refl at.events in
    let a = g.answering in
    let by = tickets_by (got a.d.number a.d.label ∷ deeds_by a.older) a.d.number number a.owed.asked.request g.b _ (granted_as (got a.d.number a.d.label ∷ deeds_by a.older) a.d.number a.owed.asked.request g.b) g.deed_is in
    let read = read_of_tickets (known_at c.z) a.owed.before a.owed.asked (deeds_by a.older) a.d.number number _ a.is_answered g.deed_is in
    let m = made_at c past later at.earlier at.step number (gives_tickets number) place at.happens g by.same by.ok read.r read.is in
    record {
      made = m.made;
      deed_is = m.deed_is;
      ticket_is = ticket_by c past later place number m.made ticket_for_server (ap (λ (x : ℕ). if eqb x 1 then ticket_for_server (granted m.made) number else vouched_ticket (granted m.made) number) (ap (λ r. r.kind) m.read_is ∙ read.so));
    }

vouch_made : (c : Case) → SessionsGo c → (past later : History) → c.history ≡ later ++ past → (number session first : ℕ) (kind : MacKind) (gave : Run) → Stands (run c past) gave (serves session (gives_vouch kind number first)) → MadeSo c past number (gives_vouch kind number first) (vouched_ticket ((setting c).grants number) number)
vouch_made c sessions past later place number session first kind gave stands =
    let at = step_at c sessions past later place stands.later gave (serves session (gives_vouch kind number first)) stands.place in
    let here : c.history ≡ (later ++ at.happens.later) ++ at.step ∷ at.earlier = place ∙ ap (λ xs. later ++ xs) at.happens.place ∙ sym (append_assoc later at.happens.later (at.step ∷ at.earlier)) in
    let g = gives_of c (later ++ at.happens.later) at.earlier at.step session (gives_vouch kind number first) here refl at.events in
    let a = g.answering in
    let by = vouch_by (got a.d.number a.d.label ∷ deeds_by a.older) a.d.number number a.owed.asked.request g.b kind first _ (granted_as (got a.d.number a.d.label ∷ deeds_by a.older) a.d.number a.owed.asked.request g.b) g.deed_is in
    let read = read_of_vouch (known_at c.z) a.owed.before a.owed.asked (deeds_by a.older) a.d.number number kind first _ a.is_answered g.deed_is in
    let m = made_at c past later at.earlier at.step number (gives_vouch kind number first) place at.happens g by.same by.ok read.r read.is in
    record {
      made = m.made;
      deed_is = m.deed_is;
      ticket_is = ticket_by c past later place number m.made vouched_ticket (ap (λ (x : Bool). if x then ticket_for_server (granted m.made) number else vouched_ticket (granted m.made) number) (ap (λ r. eqb r.kind 1) m.read_is ∙ read.so));
    }

pub record GrantMade (c : Case) (past : History) (number : ℕ) (tree : Tree) : Type 0 where
  pub made : IsMade past c.z c.l number
  pub ticket_is : server_ticket made ≡ tree

made_with : (c : Case) → SessionsGo c → (past later : History) → c.history ≡ later ++ past → (number session : ℕ) (gave : Run) (deed : Deed) (tree : Tree) → Grants (setting c) number deed tree → Stands (run c past) gave (serves session deed) → GrantMade c past number tree
made_with c sessions past later place number session gave deed tree by_tickets stands = let m = tickets_made c sessions past later place number session gave stands in record { made = m.made; ticket_is = m.ticket_is }
made_with c sessions past later place number session gave deed tree (by_vouching {kind} {first}) stands = let m = vouch_made c sessions past later place number session first kind gave stands in record { made = m.made; ticket_is = m.ticket_is }

pub made_of : (c : Case) → SessionsGo c → (past later : History) → c.history ≡ later ++ past → (number : ℕ) (tree : Tree) → IsGranted (setting c) (run c past) number tree → GrantMade c past number tree
made_of c sessions past later place number tree g = made_with c sessions past later place number g.session g.past g.deed tree g.grants g.stands

-- ---- whom it names

name_of_where : (may : Bool) (o : Option (List ℕ)) (name : List ℕ) → name_where may o ≡ Some name → o ≡ Some name
name_of_where true o name is = is
name_of_where false o name is = absurd (cc)

name_of_known : (z : Setting) (tables : ℕ) (name wanted : List ℕ) → known_name z tables name ≡ Some wanted → key_name z.tables tables name ≡ wanted
name_of_known z tables name wanted is =
    let named = key_name z.tables tables name in
    elim (cases_Bool (is_some ((known_at z tables).key name))) [
      | inl some ↦ (let one : Some named ≡ Some wanted = sym (ap (λ (b : Bool). if b then Some named else None) some) ∙ is in cc)
      | inr none ↦ absurd (let one : None ≡ Some wanted = sym (ap (λ (b : Bool). if b then Some named else None) none) ∙ is in cc)
    ]

-- a read request is a ticket request, or for a mail server
tickets_granted : (z : Setting) (tables : ℕ) (r : TicketReq) (label : Tree) → eqb r.kind 1 ≡ true → grant_by z tables (Ok r) label ≡ tickets_for z tables r label
tickets_granted z tables r label is = ap (λ (b : Bool). if b then tickets_for z tables r label else vouch_for z tables r label) is

vouch_granted : (z : Setting) (tables : ℕ) (r : TicketReq) (label : Tree) → eqb r.kind 1 ≡ false → grant_by z tables (Ok r) label ≡ vouch_for z tables r label
vouch_granted z tables r label is = ap (λ (b : Bool). if b then tickets_for z tables r label else vouch_for z tables r label) is

-- the name whose key sealed the ticket for the server is the one that the request named
pub sealer_named : (z : Setting) (tables : ℕ) (r : TicketReq) (label : Tree) (name : List ℕ) → server_name (grant_by z tables (Ok r) label).used ≡ Some name → key_name z.tables tables r.authid ≡ name
sealer_named z tables r label name is = elim (cases_Bool (eqb r.kind 1)) [
  | inl one ↦ name_of_known z tables r.authid name (name_of_where ((known_at z tables).speaks r.hostid r.uid) (known_name z tables r.authid) name (sym (ap (λ g. server_name g.used) (tickets_granted z tables r label one)) ∙ is))
  | inr other ↦ name_of_known z tables r.authid name (sym (ap (λ g. server_name g.used) (vouch_granted z tables r label other)) ∙ is)
]

-- and the host is the one that it named
pub host_named : (z : Setting) (tables : ℕ) (r : TicketReq) (label : Tree) (sealer : Option (List ℕ)) (name : List ℕ) → (grant_by z tables (Ok r) label).used ≡ keys sealer (Some name) → key_name z.tables tables r.hostid ≡ name
host_named z tables r label sealer name is = elim (cases_Bool (eqb r.kind 1)) [
  | inl one ↦ (let used : keys (name_where ((known_at z tables).speaks r.hostid r.uid) (known_name z tables r.authid)) (name_where ((known_at z tables).speaks r.hostid r.uid) (known_name z tables r.hostid)) ≡ keys sealer (Some name) = sym (ap (λ g. g.used) (tickets_granted z tables r label one)) ∙ is in
      name_of_known z tables r.hostid name (name_of_where ((known_at z tables).speaks r.hostid r.uid) (known_name z tables r.hostid) name cc))
  | inr other ↦ absurd (let used : key_and_password (known_name z tables r.authid) (key_name z.tables tables r.uid) ≡ keys sealer (Some name) = sym (ap (λ g. g.used) (vouch_granted z tables r label other)) ∙ is in cc)
]

-- who may speak for its user
pub speakers_are : (z : Setting) (tables : ℕ) (r : TicketReq) (label : Tree) → (grant_by z tables (Ok r) label).speakers ≡ speakers z tables r.uid
speakers_are z tables r label = elim (cases_Bool (eqb r.kind 1)) [
  | inl one ↦ ap (λ g. g.speakers) (tickets_granted z tables r label one)
  | inr other ↦ ap (λ g. g.speakers) (vouch_granted z tables r label other)
]

-- ---- for which challenge it vouches

-- the answer of a grant that was made is an event of the run
answer_stands : (c : Case) (past later : History) → c.history ≡ later ++ past → (number : ℕ) (made : IsMade past c.z c.l number) → (deed : Deed) × (session : ℕ) × (Stands (run c past) (run c made.past) (serves session deed)) × (deed ≡ deed_by (got number (c.l.label (length made.asked)) ∷ deeds_by made.older) number made.request made.reply)
answer_stands c past later place number made =
    let here = further_in later place made.answered in
    let a = answering c here.later made.past made.message made.session made.reply here.place in
    let fronts : a.d ∷ a.older ≡ record { deal = requested (reloads_in made.asked) made.request made.words; number = number; label = c.l.label (length made.asked) } ∷ made.older = sym a.front ∙ made.newest in
    let d_is : a.d ≡ record { deal = requested (reloads_in made.asked) made.request made.words; number = number; label = c.l.label (length made.asked) } = cc in
    let older_is : a.older ≡ made.older = cc in
    let deal_is : requested a.owed.asked.tables a.owed.asked.request a.owed.asked.words ≡ requested (reloads_in made.asked) made.request made.words = sym a.deal_is ∙ ap (λ d. d.deal) d_is in
    let request_is : a.owed.asked.request ≡ made.request = cc in
    let deed_is : deed_by (got a.d.number a.d.label ∷ deeds_by a.older) a.d.number a.owed.asked.request made.reply ≡ deed_by (got number (c.l.label (length made.asked)) ∷ deeds_by made.older) number made.request made.reply =
    ap (λ d. deed_by (got d.number d.label ∷ deeds_by a.older) d.number a.owed.asked.request made.reply) d_is
    ∙ ap (λ xs. deed_by (got number (c.l.label (length made.asked)) ∷ deeds_by xs) number a.owed.asked.request made.reply) older_is
    ∙ ap (λ r. deed_by (got number (c.l.label (length made.asked)) ∷ deeds_by made.older) number r made.reply) request_is in (
      deed_by (got a.d.number a.d.label ∷ deeds_by a.older) a.d.number a.owed.asked.request made.reply,
      session_number made.session made.past,
      stands_at c past made.past (AsGave made.message made.session made.reply) (serves (session_number made.session made.past) _) made.answered a.events,
      deed_is,
    )

-- a deed of an answer that was ok answers the grant's number
answers_number : (before : List Deed) (number : ℕ) (request b : List ℕ) (deed : Deed) → Granted before number request b deed → answers_to deed ≡ Some number
answers_number before number request b deed it_challenges = refl
answers_number before number request b deed (it_grants ok kind) = refl
answers_number before number request b deed (it_vouches first ok other holds) = refl
answers_number before number request b deed it_refuses = refl

pub vouches_held : (c : Case) → SessionsGo c → (past later : History) → c.history ≡ later ++ past → (number : ℕ) (made : IsMade past c.z c.l number) (session first : ℕ) (kind : MacKind) (gave : Run) → Stands (run c past) gave (serves session (gives_vouch kind number first)) → (held (deeds_by made.older) kind ≡ Some first) × (mail_kind made.request ≡ kind)
vouches_held c sessions past later place number made session first kind gave stands =
    let s = answer_stands c past later place number made in
    let before = got number (c.l.label (length made.asked)) ∷ deeds_by made.older in
    let it = granted_as before number made.request made.reply in
    let r = (runs_on c sessions past later place).0 in
    let same = one_answer (setting c) (run c past) gave (run c made.past) session s.1 number (gives_vouch kind number first) s.0 r stands s.2 refl (ap answers_to s.3 ∙ answers_number before number made.request made.reply _ it) in
    let event : serves session (gives_vouch kind number first) ≡ serves s.1 s.0 = one_event (run c past) gave (run c made.past) _ _ stands s.2 same in
    let deed : gives_vouch kind number first ≡ s.0 = cc in
    let by = vouch_by before number number made.request made.reply kind first _ it (sym s.3 ∙ sym deed) in
    (by.holds, by.kind_is)

-- and the other way round: it vouches for the challenge that its session held
deed_vouch : (before : List Deed) (number : ℕ) (request b : List ℕ) (kind : MacKind) (first : ℕ) → kind_of b ≡ 4 → eqb (kind_of request) 1 ≡ false → mail_kind request ≡ kind → held before kind ≡ Some first → deed_by before number request b ≡ gives_vouch kind number first
deed_vouch before number request b kind first ok other kind_is holds =
    no_challenge before number request b (ap (λ n. eqb n 9) ok)
    ∙ granting before number request b (ap (λ n. eqb n 4) ok)
    ∙ ap (λ (x : Bool). if x then gives_tickets number else vouch_deed (mail_kind request) number (held before (mail_kind request)) b) other
    ∙ ap (λ k. vouch_deed k number (held before k) b) kind_is
    ∙ ap (λ o. vouch_deed kind number o b) holds

-- a request that used a password isn't one for tickets
no_tickets : (c : Case) (past later : History) → c.history ≡ later ++ past → (number : ℕ) (made : IsMade past c.z c.l number) (sealer : Option (List ℕ)) (name : List ℕ) → (granted made).used ≡ key_and_password sealer name → eqb (kind_of made.request) 1 ≡ true → ⊥
no_tickets c past later place number made sealer name used one =
    let here = further_in later place made.answered in
    let a = answering c here.later made.past made.message made.session made.reply here.place in
    let fronts : a.d ∷ a.older ≡ record { deal = requested (reloads_in made.asked) made.request made.words; number = number; label = c.l.label (length made.asked) } ∷ made.older = sym a.front ∙ made.newest in
    let d_is : a.d ≡ record { deal = requested (reloads_in made.asked) made.request made.words; number = number; label = c.l.label (length made.asked) } = cc in
    let deal_is : requested a.owed.asked.tables a.owed.asked.request a.owed.asked.words ≡ requested (reloads_in made.asked) made.request made.words = sym a.deal_is ∙ ap (λ d. d.deal) d_is in
    let request_is : a.owed.asked.request ≡ made.request = cc in
    let tickets_given = deed_tickets (got a.d.number a.d.label ∷ deeds_by a.older) a.d.number a.owed.asked.request made.reply made.ok (ap (λ r. eqb (kind_of r) 1) request_is ∙ one) in
    let read = read_of_tickets (known_at c.z) a.owed.before a.owed.asked (deeds_by a.older) a.d.number a.d.number _ a.is_answered tickets_given in
    let same : Ok made.read ≡ Ok read.r = sym made.is_read ∙ ap request_of (sym request_is) ∙ read.is in
    let r_is : made.read ≡ read.r = cc in
    let used_is : (tickets_for c.z (reloads_in made.asked) made.read (c.l.label (length made.asked))).used ≡ key_and_password sealer name = sym (ap (λ g. g.used) (tickets_granted c.z (reloads_in made.asked) made.read (c.l.label (length made.asked)) (ap (λ r. eqb r.kind 1) r_is ∙ ap (λ n. eqb n 1) read.so))) ∙ used in
    absurd (cc)
  where
    deed_tickets : (before : List Deed) (number : ℕ) (request b : List ℕ) → kind_of b ≡ 4 → eqb (kind_of request) 1 ≡ true → deed_by before number request b ≡ gives_tickets number
    deed_tickets before number request b ok one =
        no_challenge before number request b (ap (λ n. eqb n 9) ok)
        ∙ granting before number request b (ap (λ n. eqb n 4) ok)
        ∙ ap (λ (x : Bool). if x then gives_tickets number else vouch_deed (mail_kind request) number (held before (mail_kind request)) b) one

pub vouch_stands : (c : Case) (past later : History) → c.history ≡ later ++ past → (number : ℕ) (made : IsMade past c.z c.l number) (sealer : Option (List ℕ)) (name : List ℕ) → (granted made).used ≡ key_and_password sealer name → (kind : MacKind) (first : ℕ) → held (deeds_by made.older) kind ≡ Some first → mail_kind made.request ≡ kind → (session : ℕ) × Stands (run c past) (run c made.past) (serves session (gives_vouch kind number first))
vouch_stands c past later place number made sealer name used kind first holds mail =
    let s = answer_stands c past later place number made in
    let other : eqb (kind_of made.request) 1 ≡ false = not_so (eqb (kind_of made.request) 1) (no_tickets c past later place number made sealer name used) in
    let deed = s.3 ∙ deed_vouch (got number (c.l.label (length made.asked)) ∷ deeds_by made.older) number made.request made.reply kind first made.ok other mail holds in
    (s.1, subst (λ d. Stands (run c past) (run c made.past) (serves s.1 d)) deed s.2)
  where
    not_so : (b : Bool) → (b ≡ true → ⊥) → b ≡ false
    not_so true never = absurd (never refl)
    not_so false never = refl
