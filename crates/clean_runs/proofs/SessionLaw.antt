-- Each deal of a session goes on with the run of a clean legal history: a request comes to a session that owes no answer, an
-- answer is what the table of the server's deeds allows, and the end of a session is no event.
use Rattle.std.proofs.Common.{◌≡◌, ℕ, ◌≤◌, List, [], ◌∷◌, ◌++◌, append_assoc, map, length, false, true, refl, sym, ap, subst, ◌∙◌, arith}
use Rattle.sealing.specs.Request.{request_of}
use Rattle.auth_server.specs.Requests.{is_served, kind_of}
use Rattle.auth_server.specs.Answers.{Knowledge}
use Rattle.symbolic_runs.specs.Spellings.{spelling}
use Rattle.wire_histories.specs.declared.step.Step.{Step}
use Rattle.wire_histories.specs.declared.step.Step.TheVariants.{Start, Out, In, Ask, Heard, Unheard, Accept, Fail, Reply, Refused, AsGot, AsGave, AsEnd, Restart, Reload}
use Rattle.symbolic_runs.specs.Sessions.{SessionRow, got, is_idle, comes as comes_row}
use Rattle.symbolic_runs.specs.Runs.{Event, IsRun, then_serves, serves, deeds_of, given as labels_given}
use Rattle.wire_histories.specs.Histories.{History, Deal, requested, replied, deal_in, deals_of, reloads_in}
use Rattle.wire_histories.specs.Legal.{IsServed, known_at}
use Rattle.wire_histories.specs.Sessions.{Came, IsSession, MayCome, answer, has_ended, session_deals}
use Rattle.clean_runs.specs.Labels.{Dealt, Labelling, dealt, requests_in}
use Rattle.clean_runs.specs.Runs.{deed_by, deeds_by, deeds_for_deal, grant_at, grant_by, session_number}
use Rattle.clean_runs.specs.Forms.{IsAnswered}
use Rattle.clean_runs.specs.Clean.{EachIsAnswered, IsLabelled, ReadsWords}
use Rattle.clean_runs.proofs.Bridge.{Case, GoesWell, SessionsGo, run, same_self, setting}
use Rattle.clean_runs.proofs.Requests.{Opening, deal_of, named_deal, opened, opened_number, opening, unopened, unopened_number}
use Rattle.clean_runs.proofs.Served.{Placed, as_many_requests, fresh_deeds, grant_placed, opened_by, own_deeds, placed}
use Rattle.clean_runs.proofs.SessionGifts.{Gift, IsAsked, gift}
use Rattle.clean_runs.proofs.SessionStands.{Answered, AllNext, Next, all_next, answer_deeds, answered, asked_deeds, deals_in, front, it_answers, it_ends, it_is_asked, more_deals, stands}
use Rattle.clean_runs.proofs.Steps.{Deals}

-- ---- the deals of a session

-- those of a front stand behind those that came later
deals_end : (name : List ℕ) (later past : History) → (front : List Deal) × (deals_of name (later ++ past) ≡ front ++ deals_of name past)
deals_end name [] past = ([], refl)
deals_end name (step ∷ later) past =
    let more = deals_end name later past in
    let here = deal_in (reloads_in (later ++ past)) name step in
    (here ++ more.0, ap (λ xs. here ++ xs) more.1 ∙ sym (append_assoc here more.0 (deals_of name past)))

deals_map : (l : Labelling) (past : History) (deals : List Deal) (more : List Dealt) → deals_in (map (deal_of l past) deals ++ more) ≡ deals ++ deals_in more
deals_map l past [] more = refl
deals_map l past (deal ∷ deals) more = ap (λ xs. deal ∷ xs) (deals_map l past deals more)

deals_dealt : (l : Labelling) (name : List ℕ) (past : History) → deals_in (dealt l name past) ≡ deals_of name past
deals_dealt l name [] = refl
deals_dealt l name (step ∷ past) = deals_map l past (deal_in (reloads_in past) name step) (dealt l name past) ∙ ap (λ xs. deal_in (reloads_in past) name step ++ xs) (deals_dealt l name past)

-- a deal at a place is one that may come next
next_at : (c : Case) (later past : History) (step : Step) (session : List ℕ) (deal : Deal) → deal_in (reloads_in past) session step ≡ deal ∷ [] → c.history ≡ later ++ step ∷ past → Next (known_at c.z) deal (deals_of session past)
next_at c later past step session deal is place =
    let known = known_at c.z in
    let served : IsServed known (deals_of session c.history) = c.legal.sessions session in
    let end = deals_end session later (step ∷ past) in
    let here : deals_of session c.history ≡ end.0 ++ (deal ∷ deals_of session past) = ap (deals_of session) place ∙ end.1 ∙ ap (λ xs. end.0 ++ (xs ++ deals_of session past)) is in
    let all : AllNext known (served.later ++ (end.0 ++ (deal ∷ deals_of session past))) = subst (AllNext known) (served.left ∙ ap (λ xs. served.later ++ xs) here) (all_next known served.requests served.session) in
    (front known end.0 (deal ∷ deals_of session past) (front known served.later (end.0 ++ (deal ∷ deals_of session past)) all)).0

-- behind requests that were all answered a request may come
pub record Before (known : ℕ → Knowledge) (deals : List Deal) : Type 0 where
  pub before : List Came
  pub session : IsSession known before
  pub lasts : has_ended known before ≡ false
  pub is : deals ≡ session_deals known before

before_asked : (known : ℕ → Knowledge) (deal : Deal) (deals : List Deal) (tables : ℕ) (b : List ℕ) (words : List (List ℕ)) → Next known deal deals → deal ≡ requested tables b words → Before known deals
before_asked known deal deals tables b words (it_is_asked before asked session may) is = record { before = before; session = session; lasts = may.goes_on; is = refl }
before_asked known deal deals tables b words (it_answers before asked session may served) is = absurd (cc)
before_asked known deal deals tables b words it_ends is = absurd (cc)

-- behind one that was not it may be answered
pub record Owing (known : ℕ → Knowledge) (deals : List Deal) (b : List ℕ) : Type 0 where
  pub before : List Came
  pub asked : Came
  pub session : IsSession known before
  pub may : MayCome known before asked
  pub served : is_served (kind_of asked.request) ≡ true
  pub is : deals ≡ requested asked.tables asked.request asked.words ∷ session_deals known before
  pub answer_is : b ≡ answer known before asked

before_answer : (known : ℕ → Knowledge) (deal : Deal) (deals : List Deal) (b : List ℕ) → Next known deal deals → deal ≡ replied b → Owing known deals b
before_answer known deal deals b (it_is_asked before asked session may) is = absurd (cc)
before_answer known deal deals b (it_answers before asked session may served) is = record { before = before; asked = asked; session = session; may = may; served = served; is = refl; answer_is = (let same : b ≡ answer known before asked = cc in same) }
before_answer known deal deals b it_ends is = absurd (cc)

-- ---- a request comes

idle_at : (c : Case) (past : History) (session : List ℕ) → Before (known_at c.z) (deals_of session past) → is_idle (deeds_of (session_number session past) (run c past)) ≡ true
idle_at c past session b = by (opening past session)
  where
    by : Opening past session → is_idle (deeds_of (session_number session past) (run c past)) ≡ true
    by (opened n is) =
        ap (λ k. is_idle (deeds_of k (run c past))) (opened_number past session n is)
        ∙ ap is_idle (own_deeds (setting c) c.l past session n is)
        ∙ (stands (known_at c.z) b.before b.session b.lasts (dealt c.l session past) (deals_dealt c.l session past ∙ b.is)).idle
    by (unopened is) =
        ap (λ k. is_idle (deeds_of k (run c past))) (unopened_number past session is)
        ∙ ap is_idle (fresh_deeds (setting c) c.l past (requests_in past) (omega arith))

comes_well : (c : Case) (later past : History) (session b : List ℕ) (words : List (List ℕ)) → c.history ≡ later ++ AsGot session b words ∷ past → GoesWell c past (AsGot session b words)
comes_well c later past session b words place =
    let tables = reloads_in past in
    let next = next_at c later past (AsGot session b words) session (requested tables b words) (named_deal session session (requested tables b words) (same_self session)) place in
    let before = before_asked (known_at c.z) (requested tables b words) (deals_of session past) tables b words next refl in
    let labels : IsLabelled c.atoms (setting c) c.l past b = c.clean.labels later past (AsGot session b words) place in
    record {
      runs = λ is. then_serves is (comes_row (idle_at c past session before)) (sym (as_many_requests (setting c) c.l past), labels.derives);
      spelled = tt;
      short = omega arith;
    }

-- ---- it is answered

-- an answer at a place: the request that it answers, where that came, and the deed that it is
pub record Answering (c : Case) (past : History) (session b : List ℕ) : Type 0 where
  pub owed : Owing (known_at c.z) (deals_of session past) b
  pub d : Dealt
  pub older : List Dealt
  pub front : dealt c.l session past ≡ d ∷ older
  pub deal_is : d.deal ≡ requested owed.asked.tables owed.asked.request owed.asked.words
  pub rest : deals_in older ≡ session_deals (known_at c.z) owed.before
  pub at : Placed c.l past session owed.asked.tables owed.asked.request owed.asked.words d
  pub whole_later : History
  pub whole : c.history ≡ whole_later ++ AsGot session owed.asked.request owed.asked.words ∷ at.earlier
  pub granted : (setting c).grants d.number ≡ grant_by c.z owed.asked.tables (request_of owed.asked.request) d.label
  pub asked_for : deeds_by (dealt c.l session past) ≡ got d.number d.label ∷ deeds_by older
  pub one_deed : deeds_for_deal (deeds_by (dealt c.l session past)) (dealt c.l session past) (replied b) (requests_in past) (c.l.label (length past)) ≡ deed_by (got d.number d.label ∷ deeds_by older) d.number owed.asked.request b ∷ []
  pub is_answered : Answered (known_at c.z) owed.before owed.asked (deeds_by older) d.number (deed_by (got d.number d.label ∷ deeds_by older) d.number owed.asked.request b)
  pub events : map (serves (session_number session past)) (deeds_for_deal (deeds_by (dealt c.l session past)) (dealt c.l session past) (replied b) (requests_in past) (c.l.label (length past))) ≡ serves (session_number session past) (deed_by (got d.number d.label ∷ deeds_by older) d.number owed.asked.request b) ∷ []

pub answering : (c : Case) (later past : History) (number : ℕ) (session b : List ℕ) → c.history ≡ later ++ AsGave number session b ∷ past → Answering c past session b
answering c later past number session b place =
    let s = setting c in
    let l = c.l in
    let step = AsGave number session b in
    let known = known_at c.z in
    let o = before_answer known (replied b) (deals_of session past) b (next_at c later past step session (replied b) (named_deal session session (replied b) (same_self session)) place) refl in
    let ds = dealt l session past in
    let p = more_deals ds (requested o.asked.tables o.asked.request o.asked.words) (session_deals known o.before) (deals_dealt l session past ∙ o.is) in
    let d = p.0 in
    let older = p.1 in
    let deeds = deeds_by older in
    let at = placed l past session o.asked.tables o.asked.request o.asked.words d older p.3 p.2 in
    let got_step = AsGot session o.asked.request o.asked.words in
    let whole : c.history ≡ (later ++ step ∷ at.later) ++ got_step ∷ at.earlier = place ∙ ap (λ xs. later ++ step ∷ xs) at.place ∙ sym (append_assoc later (step ∷ at.later) (got_step ∷ at.earlier)) in
    let granted : s.grants d.number ≡ grant_by c.z o.asked.tables (request_of o.asked.request) d.label =
    ap (λ n. s.grants n) at.number
    ∙ ap (λ h. grant_at c.z l h (requests_in at.earlier)) whole
    ∙ grant_placed c.z l (later ++ step ∷ at.later) session o.asked.request o.asked.words at.earlier
    ∙ ap (λ n. grant_by c.z n (request_of o.asked.request) (l.label (length at.earlier))) (sym at.in_force)
    ∙ ap (grant_by c.z o.asked.tables (request_of o.asked.request)) (sym at.label) in
    let asked_for : deeds_by ds ≡ got d.number d.label ∷ deeds = asked_deeds ds older d o.asked.tables o.asked.request o.asked.words p.2 p.3 in
    let deed = deed_by (got d.number d.label ∷ deeds) d.number o.asked.request b in
    let one_deed : deeds_for_deal (deeds_by ds) ds (replied b) (requests_in past) (l.label (length past)) ≡ deed ∷ [] =
    answer_deeds (deeds_by ds) ds older d o.asked.tables o.asked.request b o.asked.words (requests_in past) (l.label (length past)) p.2 p.3
    ∙ ap (λ xs. deed_by xs d.number o.asked.request b ∷ []) asked_for in
    let stood = stands known o.before o.session o.may.goes_on older p.4 in
    record {
      owed = o;
      d = d;
      older = older;
      front = p.2;
      deal_is = p.3;
      rest = p.4;
      at = at;
      whole_later = later ++ step ∷ at.later;
      whole = whole;
      granted = granted;
      asked_for = asked_for;
      one_deed = one_deed;
      is_answered = subst (λ x. Answered known o.before o.asked deeds d.number (deed_by (got d.number d.label ∷ deeds) d.number o.asked.request x)) (sym o.answer_is) (answered known o.before o.asked deeds d.number d.label stood.alike o.served);
      events = ap (map (serves (session_number session past))) one_deed;
    }

answers_well : (c : Case) (later past : History) (number : ℕ) (session b : List ℕ) → c.history ≡ later ++ AsGave number session b ∷ past → GoesWell c past (AsGave number session b)
answers_well c later past number session b place =
    let s = setting c in
    let l = c.l in
    let step = AsGave number session b in
    let known = known_at c.z in
    let a = answering c later past number session b place in
    let o = a.owed in
    let d = a.d in
    let deeds = deeds_by a.older in
    let ds = dealt l session past in
    let labels : IsLabelled c.atoms s l a.at.earlier o.asked.request = c.clean.labels a.whole_later a.at.earlier (AsGot session o.asked.request o.asked.words) a.whole in
    let words : ReadsWords c.atoms (requests_in a.at.earlier) o.asked.words = c.clean.words a.whole_later a.at.earlier (AsGot session o.asked.request o.asked.words) a.whole in
    let is_asked : IsAsked c.atoms c.z s o.before o.asked d.number d.label = record {
      reading = record { drawn = subst (λ n. ReadsWords c.atoms n o.asked.words) (sym a.at.number) words; tables = c.clean.tables; sevens = c.clean.sevens };
      domain = refl;
      short = c.legal.domain.short;
      may = o.may;
      spells = ap (spelling c.atoms) a.at.label ∙ labels.spells;
      granted = a.granted;
    } in
    let deed = deed_by (got d.number d.label ∷ deeds) d.number o.asked.request b in
    let forms : EachIsAnswered s (deeds_by ds) (deeds_for_deal (deeds_by ds) ds (replied b) (requests_in past) (l.label (length past))) = c.clean.forms later past step place in
    let form : EachIsAnswered s (got d.number d.label ∷ deeds) (deed ∷ []) = subst (λ xs. EachIsAnswered s xs (deed ∷ [])) a.asked_for (subst (EachIsAnswered s (deeds_by ds)) a.one_deed forms) in
    let stood = stands known o.before o.session o.may.goes_on a.older a.rest in
    let is_answered = answered known o.before o.asked deeds d.number d.label stood.alike o.served in
    let deed_is : deed ≡ deed_by (got d.number d.label ∷ deeds) d.number o.asked.request (answer known o.before o.asked) = ap (deed_by (got d.number d.label ∷ deeds) d.number o.asked.request) o.answer_is in
    let given : Gift c.atoms s (got d.number d.label ∷ deeds) deed b =
    subst (Gift c.atoms s (got d.number d.label ∷ deeds) deed) (sym o.answer_is)
    (subst (λ x. Gift c.atoms s (got d.number d.label ∷ deeds) x (answer known o.before o.asked)) (sym deed_is)
    (gift c.atoms c.z s o.before o.asked d.number d.label deeds is_asked _ is_answered (subst (IsAnswered s (got d.number d.label ∷ deeds)) deed_is form.0))) in
    let begun = opened_by l past session o.asked.tables o.asked.request o.asked.words d a.older a.deal_is a.front in
    let deeds_are : deeds_of (session_number session past) (run c past) ≡ got d.number d.label ∷ deeds =
    ap (λ k. deeds_of k (run c past)) (opened_number past session begun.0 begun.1)
    ∙ own_deeds s l past session begun.0 begun.1
    ∙ a.asked_for in
    record {
      runs = λ is. subst (λ es. IsRun s (es ++ run c past)) (sym a.events) (then_serves is (subst (λ xs. SessionRow s.domain s.grants xs deed) (sym deeds_are) given.row) (given.arrives (run c past)));
      spelled = record {
        label = given.label;
        one = ap (labels_given s) a.events ∙ ap (λ xs. xs ++ []) given.one;
        spells = given.spells;
      };
      short = subst (λ (es : List Event). length es ≤ 1) (sym a.events) (omega arith);
    }

-- ---- each deal

-- a step of no session deals nothing
no_deal : (session : List ℕ) (deal : ℕ → Deal) (step : Step) → Deals session deal step → deal_in 0 session step ≡ [] → ⊥
no_deal session deal step d none =
    let some : deal 0 ∷ [] ≡ [] = sym (named_deal session session (deal 0) (same_self session)) ∙ sym (d.deals 0 session) ∙ none in
    absurd (cc)

pub sessions_go : (c : Case) → SessionsGo c
sessions_go c later past (AsGot name b words) session deal d place = comes_well c later past name b words place
sessions_go c later past (AsGave number name b) session deal d place = answers_well c later past number name b place
sessions_go c later past (AsEnd name) session deal d place = record { runs = λ is. is; spelled = tt; short = omega arith }
sessions_go c later past (Start conv protocol role word) session deal d place = absurd (no_deal session deal (Start conv protocol role word) d refl)
sessions_go c later past (Out number conv b) session deal d place = absurd (no_deal session deal (Out number conv b) d refl)
sessions_go c later past (In conv b) session deal d place = absurd (no_deal session deal (In conv b) d refl)
sessions_go c later past (Ask number conv b) session deal d place = absurd (no_deal session deal (Ask number conv b) d refl)
sessions_go c later past (Heard conv b) session deal d place = absurd (no_deal session deal (Heard conv b) d refl)
sessions_go c later past (Unheard conv) session deal d place = absurd (no_deal session deal (Unheard conv) d refl)
sessions_go c later past (Accept conv cuid suid) session deal d place = absurd (no_deal session deal (Accept conv cuid suid) d refl)
sessions_go c later past (Fail conv cause) session deal d place = absurd (no_deal session deal (Fail conv cause) d refl)
sessions_go c later past (Reply conv answer) session deal d place = absurd (no_deal session deal (Reply conv answer) d refl)
sessions_go c later past (Refused node answer) session deal d place = absurd (no_deal session deal (Refused node answer) d refl)
sessions_go c later past (Restart node) session deal d place = absurd (no_deal session deal (Restart node) d refl)
sessions_go c later past Reload session deal d place = absurd (no_deal session deal Reload d refl)
