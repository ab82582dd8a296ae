-- How a session stands: what it may do next, what its labels are behind requests that were all answered, and what the answer
-- to a request is.
use Rattle.std.proofs.Common.{◌≡◌, ℕ, List, [], ◌∷◌, ◌++◌, map, take, Option, Some, None, Result, Ok, Err, Bool, true, false, not, ◌||◌, ◌==◌, is_some, codes, if◌then◌else◌, inl, inr, refl, sym, ap, subst, ◌∙◌}
use Rattle.std.proofs.lemmas.Bool.{cases_Bool, eqb-true}
use Rattle.sealing.specs.Request.{request_of}
use Rattle.sealing.specs.declared.fault.FieldFault.{FieldFault}
use Rattle.sealing.specs.declared.request.TicketReq.{TicketReq}
use Rattle.sealing.proofs.RequestLaws.{request_taken}
use Rattle.auth_tables.specs.Keys.{UserKey}
use Rattle.auth_server.specs.Requests.{Asked, Challenge, asked_so, is_for, is_served, kind_of}
use Rattle.auth_server.specs.Answers.{Knowledge, answer_in, answer_to, are_digits, challenge_answer, challenge_text, grant, held_after, held_mail, is_right, judged, mail_answer, password_of, refusal, tickets, vouch, vouch_text}
use Rattle.symbolic_runs.specs.declared.kind.MacKind.{MacKind}
use Rattle.symbolic_runs.specs.declared.kind.MacKind.TheVariants.{Apop, Cram}
use Rattle.symbolic_runs.specs.Trees.{Tree, same_kind}
use Rattle.symbolic_runs.specs.Sessions.{Deed, got, gives_tickets, gives_challenge, gives_vouch, refuses, is_idle, held as held_by}
use Rattle.wire_histories.specs.Histories.{Deal, requested, replied, ended}
use Rattle.wire_histories.specs.Sessions.{Came, IsSession, MayCome, answer, ends_by, has_ended, held, is_over, replies_to, session_deals}
use Rattle.clean_runs.specs.Labels.{Dealt}
use Rattle.clean_runs.specs.Runs.{deed_by, deeds_by, deeds_for_deal, if_some, is_request, mail_kind, vouch_deed}

-- ---- what it may do next

pub data Next (known : ℕ → Knowledge) : Deal → List Deal → Type 0 where
  it_is_asked : (before : List Came) (asked : Came) → IsSession known before → MayCome known before asked → Next known (requested asked.tables asked.request asked.words) (session_deals known before)
  it_answers : (before : List Came) (asked : Came) → IsSession known before → MayCome known before asked → is_served (kind_of asked.request) ≡ true → Next known (replied (answer known before asked)) (requested asked.tables asked.request asked.words ∷ session_deals known before)
  it_ends : {deals : List Deal} → Next known ended deals

abbrev pub AllNext : (ℕ → Knowledge) → List Deal → Type 0
AllNext known [] = Unit {0}
AllNext known (deal ∷ deals) = Next known deal deals × AllNext known deals

pub front : (known : ℕ → Knowledge) (later deals : List Deal) → AllNext known (later ++ deals) → AllNext known deals
front known [] deals all = all
front known (deal ∷ later) deals all = front known later deals all.1

ends_next : (known : ℕ → Knowledge) (over : Bool) (deals : List Deal) → AllNext known deals → AllNext known (ends_by over ++ deals)
ends_next known true deals all = (it_ends, all)
ends_next known false deals all = all

answers_next : (known : ℕ → Knowledge) (before : List Came) (asked : Came) (served : Bool) → is_served (kind_of asked.request) ≡ served → IsSession known before → MayCome known before asked → AllNext known (session_deals known before) → AllNext known ((if served then replied (answer known before asked) ∷ [] else []) ++ requested asked.tables asked.request asked.words ∷ session_deals known before)
answers_next known before asked true is session may all = (it_answers before asked session may is, (it_is_asked before asked session may, all))
answers_next known before asked false is session may all = (it_is_asked before asked session may, all)

pub all_next : (known : ℕ → Knowledge) (requests : List Came) → IsSession known requests → AllNext known (session_deals known requests)
all_next known [] session = tt
all_next known (asked ∷ before) session = ends_next known (has_ended known (asked ∷ before)) (replies_to known before asked ++ requested asked.tables asked.request asked.words ∷ session_deals known before) (answers_next known before asked (is_served (kind_of asked.request)) refl session.1 session.0 (all_next known before session.1))

-- ---- kinds of requests

-- the number of a mail request's kind
abbrev pub kind_number : MacKind → ℕ
kind_number Apop = 7
kind_number Cram = 12

kind_named : (n : ℕ) (seven : Bool) → (n == 7) ≡ seven → is_served n ≡ true → (n == 1) ≡ false → (kind : MacKind) × ((n ≡ kind_number kind) × ((if seven then Apop else Cram) ≡ kind))
kind_named n true is served no_ticket = (Apop, (eqb-true n 7 is, refl))
kind_named n false is served no_ticket = (Cram, (eqb-true n 12 twelve, refl))
  where
    twelve : (n == 12) ≡ true
    twelve = ap (λ (b : Bool). b || (n == 12)) (sym is) ∙ ap (λ (b : Bool). b || ((n == 7) || (n == 12))) (sym no_ticket) ∙ served

mail_kind_is : (request : List ℕ) → is_served (kind_of request) ≡ true → (kind_of request == 1) ≡ false → (kind : MacKind) × ((kind_of request ≡ kind_number kind) × (mail_kind request ≡ kind))
mail_kind_is request served no_ticket = kind_named (kind_of request) (kind_of request == 7) refl served no_ticket

-- ---- what it holds

-- the labels hold a challenge of the kinds of which the session holds one
abbrev pub HoldsAlike : (ℕ → Knowledge) → List Came → List Deed → Type 0
HoldsAlike known requests deeds = (kind : MacKind) → is_some (held_by deeds kind) ≡ is_for (kind_number kind) (held known requests)

none_of : (o : Option ℕ) → is_some o ≡ false → o ≡ None
none_of (Some n) is = absurd (cc)
none_of None is = refl

some_of : (o : Option ℕ) → is_some o ≡ true → (n : ℕ) × (o ≡ Some n)
some_of (Some n) is = (n, refl)
some_of None is = absurd (cc)

-- ---- what the answer to a request is

pub data Answered (known : ℕ → Knowledge) (before : List Came) (asked : Came) (deeds : List Deed) (number : ℕ) : Deed → Type 0 where
  by_tickets : (r : TicketReq) → request_of asked.request ≡ Ok r → r.kind ≡ 1 → answer known before asked ≡ grant (known asked.tables) asked.words r → held known (asked ∷ before) ≡ held known before → Answered known before asked deeds number (gives_tickets number)
  by_challenge : (r : TicketReq) (kind : MacKind) → request_of asked.request ≡ Ok r → r.kind ≡ kind_number kind → held_by deeds kind ≡ None → answer known before asked ≡ challenge_answer (challenge_text (known asked.tables) asked.words) → held known (asked ∷ before) ≡ Some (record { kind = r.kind; text = challenge_text (known asked.tables) asked.words }) → Answered known before asked deeds number (gives_challenge kind number (take 6 (answer known before asked)))
  by_vouch : (r : TicketReq) (kind : MacKind) (first : ℕ) → request_of asked.request ≡ Ok r → r.kind ≡ kind_number kind → is_for r.kind (held known before) ≡ true → held_by deeds kind ≡ Some first → answer known before asked ≡ vouch (known asked.tables) asked.words r → held known (asked ∷ before) ≡ None → is_some ((known asked.tables).key r.uid) ≡ true → Answered known before asked deeds number (gives_vouch kind number first)
  by_refusal : held known (asked ∷ before) ≡ held known before → Answered known before asked deeds number (refuses number (answer known before asked))

-- the deeds of answers, by their first bytes
refusal_deed : (before : List Deed) (number : ℕ) (request text : List ℕ) → deed_by before number request (refusal text) ≡ refuses number (refusal text)
unfolding refusal
refusal_deed before number request text = refl

challenge_deed : (before : List Deed) (number : ℕ) (request text : List ℕ) → deed_by before number request (challenge_answer text) ≡ gives_challenge (mail_kind request) number (take 6 (challenge_answer text))
unfolding challenge_answer
challenge_deed before number request text = refl

grant_deed : (before : List Deed) (number : ℕ) (request : List ℕ) (known : Knowledge) (words : List (List ℕ)) (r : TicketReq) → deed_by before number request (grant known words r) ≡ (if kind_of request == 1 then gives_tickets number else vouch_deed (mail_kind request) number (held_by before (mail_kind request)) (grant known words r))
unfolding tickets
grant_deed before number request known words r = refl

right_deed : (before : List Deed) (number : ℕ) (request : List ℕ) (known : Knowledge) (words : List (List ℕ)) (r : TicketReq) → deed_by before number request (vouch known words r) ≡ (if kind_of request == 1 then gives_tickets number else vouch_deed (mail_kind request) number (held_by before (mail_kind request)) (vouch known words r))
unfolding vouch_text
right_deed before number request known words r = refl

answer_by : (known : ℕ → Knowledge) (before : List Came) (asked : Came) (o : Result TicketReq FieldFault) → request_of asked.request ≡ o → answer known before asked ≡ answer_to (known asked.tables) (asked_so asked.request asked.words) (held known before) o
unfolding answer_in
answer_by known before asked o is = ap (answer_to (known asked.tables) (asked_so asked.request asked.words) (held known before)) is

-- what a mail request is to the challenge that is held: its answer, and what is held behind it
data Judged (known : Knowledge) (asked : Asked) (r : TicketReq) (challenge : Option Challenge) : Type 0 where
  a_first : is_for r.kind challenge ≡ false → mail_answer known asked r (judged known asked r challenge) ≡ challenge_answer (challenge_text known asked.words) → held_mail known asked r challenge (judged known asked r challenge) ≡ Some (record { kind = r.kind; text = challenge_text known asked.words }) → Judged known asked r challenge
  a_right : is_for r.kind challenge ≡ true → mail_answer known asked r (judged known asked r challenge) ≡ vouch known asked.words r → held_mail known asked r challenge (judged known asked r challenge) ≡ None → is_some (known.key r.uid) ≡ true → Judged known asked r challenge
  a_wrong : is_for r.kind challenge ≡ true → mail_answer known asked r (judged known asked r challenge) ≡ refusal (codes "bad response") → held_mail known asked r challenge (judged known asked r challenge) ≡ challenge → Judged known asked r challenge

-- whose digits are right has a key
has_key : (kind : ℕ) (challenge digits : List ℕ) (key : Option UserKey) → are_digits kind challenge digits (password_of key) ≡ true → is_some key ≡ true
has_key kind challenge digits (Some key) right = refl
has_key kind challenge digits None right = absurd (cc)

judged_by : (known : Knowledge) (asked : Asked) (r : TicketReq) (challenge : Challenge) → Judged known asked r (Some challenge)
judged_by known asked r challenge = elim (cases_Bool (challenge.kind == r.kind)) [
  | inl same ↦ elim (cases_Bool (is_right known asked.request r challenge.text)) [
    | inl right ↦ a_right same (rw (same, right) refl) (rw (same, right) refl) (has_key r.kind challenge.text _ (known.key r.uid) right)
    | inr wrong ↦ a_wrong same (rw (same, wrong) refl) (rw (same, wrong) refl)
  ]
  | inr other ↦ a_first other (rw other refl) (rw other refl)
]

judged_so : (known : Knowledge) (asked : Asked) (r : TicketReq) (challenge : Option Challenge) → Judged known asked r challenge
judged_so known asked r None = a_first refl refl refl
judged_so known asked r (Some challenge) = judged_by known asked r challenge

module _ (known : ℕ → Knowledge) (before : List Came) (asked : Came) (deeds : List Deed) (number : ℕ) (t : Tree) (alike : HoldsAlike known before deeds) (served : is_served (kind_of asked.request) ≡ true) where
  -- what is known when it comes, and the request
  abbrev now : Knowledge
  now = known asked.tables

  abbrev put : Asked
  put = asked_so asked.request asked.words

  abbrev asked_for : List Deed
  asked_for = got number t ∷ deeds

  abbrev given : List ℕ
  given = answer known before asked

  abbrev Is : Deed → Type 0
  Is deed = Answered known before asked deeds number deed

  a_refusal : (text : List ℕ) → given ≡ refusal text → held known (asked ∷ before) ≡ held known before → Is (deed_by asked_for number asked.request given)
  a_refusal text is kept =
      let deed : deed_by asked_for number asked.request given ≡ refuses number given = ap (deed_by asked_for number asked.request) is ∙ refusal_deed asked_for number asked.request text ∙ ap (refuses number) (sym is) in
      subst Is (sym deed) (by_refusal kept)

  by_mail : (r : TicketReq) (kind : MacKind) → Judged now put r (held known before) → request_of asked.request ≡ Ok r → (kind_of asked.request == 1) ≡ false → mail_kind asked.request ≡ kind → r.kind ≡ kind_number kind → given ≡ mail_answer now put r (judged now put r (held known before)) → held known (asked ∷ before) ≡ held_mail now put r (held known before) (judged now put r (held known before)) → Is (deed_by asked_for number asked.request given)
  by_mail r kind (a_first unheld answer_is held_is) read no_ticket kind_is number_is is after =
      let here = is ∙ answer_is in
      let deed : deed_by asked_for number asked.request given ≡ gives_challenge kind number (take 6 given) = ap (deed_by asked_for number asked.request) here ∙ challenge_deed asked_for number asked.request (challenge_text now asked.words)
      ∙ ap (λ k. gives_challenge k number (take 6 (challenge_answer (challenge_text now asked.words)))) kind_is
      ∙ ap (λ b. gives_challenge kind number (take 6 b)) (sym here) in
      let free : held_by deeds kind ≡ None = none_of (held_by deeds kind) (alike kind ∙ ap (λ n. is_for n (held known before)) (sym number_is) ∙ unheld) in
      subst Is (sym deed) (by_challenge r kind read number_is free here (after ∙ held_is))
  by_mail r kind (a_right yes_held answer_is held_is has) read no_ticket kind_is number_is is after =
      let here = is ∙ answer_is in
      let first = some_of (held_by deeds kind) (alike kind ∙ ap (λ n. is_for n (held known before)) (sym number_is) ∙ yes_held) in
      let deed : deed_by asked_for number asked.request given ≡ gives_vouch kind number first.0 = ap (deed_by asked_for number asked.request) here ∙ right_deed asked_for number asked.request now asked.words r
      ∙ ap (λ (b : Bool). if b then gives_tickets number else vouch_deed (mail_kind asked.request) number (held_by deeds (mail_kind asked.request)) (vouch now asked.words r)) no_ticket
      ∙ ap (λ k. vouch_deed k number (held_by deeds k) (vouch now asked.words r)) kind_is
      ∙ ap (λ o. vouch_deed kind number o (vouch now asked.words r)) first.1 in
      subst Is (sym deed) (by_vouch r kind first.0 read number_is yes_held first.1 here (after ∙ held_is) has)
  by_mail r kind (a_wrong yes_held answer_is held_is) read no_ticket kind_is number_is is after = a_refusal (codes "bad response") (is ∙ answer_is) (after ∙ held_is)

  by_kind : (r : TicketReq) (one : Bool) → (r.kind == 1) ≡ one → request_of asked.request ≡ Ok r → kind_of asked.request ≡ r.kind → given ≡ (if one then grant now asked.words r else mail_answer now put r (judged now put r (held known before))) → held known (asked ∷ before) ≡ (if one then held known before else held_mail now put r (held known before) (judged now put r (held known before))) → Is (deed_by asked_for number asked.request given)
  by_kind r true one read kind_is is after =
      let ticket : (kind_of asked.request == 1) ≡ true = ap (λ n. n == 1) kind_is ∙ one in
      let deed : deed_by asked_for number asked.request given ≡ gives_tickets number = ap (deed_by asked_for number asked.request) is ∙ grant_deed asked_for number asked.request now asked.words r
      ∙ ap (λ (b : Bool). if b then gives_tickets number else vouch_deed (mail_kind asked.request) number (held_by deeds (mail_kind asked.request)) (grant now asked.words r)) ticket in
      subst Is (sym deed) (by_tickets r read (eqb-true r.kind 1 one) is after)
  by_kind r false one read kind_is is after =
      let no_ticket : (kind_of asked.request == 1) ≡ false = ap (λ n. n == 1) kind_is ∙ one in
      let kind = mail_kind_is asked.request served no_ticket in
      by_mail r kind.0 (judged_so now put r (held known before)) read no_ticket kind.1.1 (sym kind_is ∙ kind.1.0) is after

  by_request : (o : Result TicketReq FieldFault) → request_of asked.request ≡ o → Is (deed_by asked_for number asked.request given)
  by_request (Err fault) read = a_refusal (codes "bad request") (answer_by known before asked (Err fault) read) (ap (held_after now put (held known before)) read)
  by_request (Ok r) read = by_kind r (r.kind == 1) refl read (request_taken asked.request r read).kind (answer_by known before asked (Ok r) read) (ap (held_after now put (held known before)) read)

  pub answered : Answered known before asked deeds number (deed_by (got number t ∷ deeds) number asked.request (answer known before asked))
  answered = by_request (request_of asked.request) refl

-- ---- how it stands behind requests that were answered

pub record Stood (known : ℕ → Knowledge) (requests : List Came) (deeds : List Deed) : Type 0 where
  pub idle : is_idle deeds ≡ true
  pub alike : HoldsAlike known requests deeds

held_now : (kind other : MacKind) (number : ℕ) → is_some (if same_kind kind other then Some number else None) ≡ (kind_number kind == kind_number other)
held_now Apop Apop number = refl
held_now Apop Cram number = refl
held_now Cram Apop number = refl
held_now Cram Cram number = refl

then_stood : (known : ℕ → Knowledge) (before : List Came) (asked : Came) (deeds : List Deed) (number : ℕ) (t : Tree) (deed : Deed) → HoldsAlike known before deeds → Answered known before asked deeds number deed → Stood known (asked ∷ before) (deed ∷ got number t ∷ deeds)
then_stood known before asked deeds number t deed alike (by_tickets r read one is kept) = record { idle = refl; alike = λ kind. alike kind ∙ ap (is_for (kind_number kind)) (sym kept) }
then_stood known before asked deeds number t deed alike (by_challenge r kind read number_is free is after) = record { idle = refl; alike = λ other. held_now kind other number ∙ ap (λ n. n == kind_number other) (sym number_is) ∙ ap (is_for (kind_number other)) (sym after) }
then_stood known before asked deeds number t deed alike (by_vouch r kind first read number_is yes_held first_is is after has) = record { idle = refl; alike = λ other. ap (is_for (kind_number other)) (sym after) }
then_stood known before asked deeds number t deed alike (by_refusal kept) = record { idle = refl; alike = λ kind. alike kind ∙ ap (is_for (kind_number kind)) (sym kept) }

abbrev pub deals_in : List Dealt → List Deal
deals_in ds = map (λ d. d.deal) ds

pub no_deals : (ds : List Dealt) → deals_in ds ≡ [] → ds ≡ []
no_deals [] is = refl
no_deals (d ∷ ds) is = absurd (cc)

pub more_deals : (ds : List Dealt) (deal : Deal) (deals : List Deal) → deals_in ds ≡ deal ∷ deals → (d : Dealt) × (older : List Dealt) × (ds ≡ d ∷ older) × (d.deal ≡ deal) × (deals_in older ≡ deals)
more_deals [] deal deals is = absurd (cc)
more_deals (d ∷ older) deal deals is = (d, older, refl, (let same : d.deal ≡ deal = cc in same), (let rest : deals_in older ≡ deals = cc in rest))

-- the deeds behind a request, and behind its answer
pub asked_deeds : (ds older : List Dealt) (d : Dealt) (tables : ℕ) (b : List ℕ) (words : List (List ℕ)) → ds ≡ d ∷ older → d.deal ≡ requested tables b words → deeds_by ds ≡ got d.number d.label ∷ deeds_by older
asked_deeds ds older d tables b words is deal_is = ap deeds_by is ∙ ap (λ deal. deeds_for_deal (deeds_by older) older deal d.number d.label ++ deeds_by older) deal_is

pub answer_deeds : (deeds : List Deed) (ds older : List Dealt) (d : Dealt) (tables : ℕ) (request b : List ℕ) (words : List (List ℕ)) (number : ℕ) (label : Tree) → ds ≡ d ∷ older → d.deal ≡ requested tables request words → deeds_for_deal deeds ds (replied b) number label ≡ deed_by deeds d.number request b ∷ []
answer_deeds deeds ds older d tables request b words number label is deal_is = ap (λ ds. deeds_for_deal deeds ds (replied b) number label) is ∙ ap (λ deal. map (λ request. deed_by deeds d.number request b) (if_some (is_request deal))) deal_is

-- neither of two is so
neither : (a b : Bool) → not a || b ≡ false → (a ≡ true) × (b ≡ false)
neither true b is = (refl, is)
neither false b is = absurd (cc)

answered_deals : (known : ℕ → Knowledge) (before : List Came) (asked : Came) → has_ended known (asked ∷ before) ≡ false → is_served (kind_of asked.request) ≡ true → session_deals known (asked ∷ before) ≡ replied (answer known before asked) ∷ requested asked.tables asked.request asked.words ∷ session_deals known before
answered_deals known before asked lasts served =
    ap (λ (b : Bool). ends_by b ++ (replies_to known before asked ++ requested asked.tables asked.request asked.words ∷ session_deals known before)) lasts
    ∙ ap (λ (b : Bool). (if b then replied (answer known before asked) ∷ [] else []) ++ requested asked.tables asked.request asked.words ∷ session_deals known before) served

pub stands : (known : ℕ → Knowledge) (requests : List Came) → IsSession known requests → has_ended known requests ≡ false → (ds : List Dealt) → deals_in ds ≡ session_deals known requests → Stood known requests (deeds_by ds)
stands known [] session lasts ds is = subst (λ x. Stood known [] (deeds_by x)) (sym (no_deals ds is)) (record { idle = refl; alike = λ kind. refl })
stands known (asked ∷ before) session lasts ds is =
    let so = neither (is_served (kind_of asked.request)) (is_over known (asked ∷ before)) lasts in
    let p = more_deals ds (replied (answer known before asked)) (requested asked.tables asked.request asked.words ∷ session_deals known before) (is ∙ answered_deals known before asked lasts so.0) in
    let q = more_deals p.1 (requested asked.tables asked.request asked.words) (session_deals known before) p.4 in
    let earlier = stands known before session.1 session.0.goes_on q.1 q.4 in
    let deeds = deeds_by q.1 in
    let asked_for : deeds_by p.1 ≡ got q.0.number q.0.label ∷ deeds = asked_deeds p.1 q.1 q.0 asked.tables asked.request asked.words q.2 q.3 in
    let deed = deed_by (got q.0.number q.0.label ∷ deeds) q.0.number asked.request (answer known before asked) in
    let whole : deeds_by ds ≡ deed ∷ got q.0.number q.0.label ∷ deeds =
    ap deeds_by p.2
    ∙ ap (λ deal. deeds_for_deal (deeds_by p.1) p.1 deal p.0.number p.0.label ++ deeds_by p.1) p.3
    ∙ ap (λ xs. xs ++ deeds_by p.1) (answer_deeds (deeds_by p.1) p.1 q.1 q.0 asked.tables asked.request (answer known before asked) asked.words p.0.number p.0.label q.2 q.3)
    ∙ ap (λ xs. deed_by xs q.0.number asked.request (answer known before asked) ∷ xs) asked_for in
    subst (Stood known (asked ∷ before)) (sym whole) (then_stood known before asked deeds q.0.number q.0.label deed earlier.alike (answered known before asked deeds q.0.number q.0.label earlier.alike so.0))
