-- What a session did in the run is what its own labels make; as many requests came in the run as in the history; and a request
-- that is to be answered has its place, by whose bytes and label a grant is made.
use Rattle.std.proofs.Common.{◌≡◌, ℕ, ◌+◌, ◌<◌, ◌≤◌, List, [], ◌∷◌, ◌++◌, map, length, Option, Some, None, Bool, true, false, eqb, ◌==◌, if◌then◌else◌, inl, inr, refl, sym, ap, subst, ◌∙◌, arith}
use Rattle.std.proofs.lemmas.Bool.{cases_Bool, eq-eqb}
use Rattle.std.specs.Str.{bytes_eq}
use Rattle.sealing.specs.Request.{request_of}
use Rattle.auth_server.specs.Requests.{kind_of}
use Rattle.symbolic_runs.specs.Trees.{Tree}
use Rattle.symbolic_runs.specs.declared.kind.MacKind.{MacKind}
use Rattle.wire_histories.specs.declared.step.Step.{Step}
use Rattle.wire_histories.specs.declared.step.Step.TheVariants.{AsGot}
use Rattle.symbolic_runs.specs.Sessions.{Deed, got, gives_tickets, gives_challenge, held, refuses}
use Rattle.symbolic_runs.specs.Runs.{Setting as Symbolic, serves, deeds_of, requests as requests_run}
use Rattle.wire_histories.specs.Histories.{History, Deal, requested, replied, ended, reloads_in}
use Rattle.wire_histories.specs.Legal.{Setting}
use Rattle.clean_runs.specs.Labels.{Dealt, Labelling, dealt, opened_as, requests_in}
use Rattle.clean_runs.specs.Runs.{deed_by, deeds_by, deeds_for_deal, events_of, grant_at, grant_by, if_some, is_request, mail_kind, run_from, session_events, session_number, vouch_deed}
use Rattle.clean_runs.proofs.Numbers.{deeds_at, differ, same_name}
use Rattle.clean_runs.proofs.Requests.{Opening, Serving, Unasked, below_requests, comes, deal_of, dealt_by, deeds_append, deeds_other, deeds_same, elsewhere, given_number, named_deal, opened, opened_number, opening, or_some, other_deal, other_number, proceeds, requests_append, serving, unasked, unasked_deal, unasked_deeds, unopened, unopened_number}

-- ---- numbers that no session has yet

number_bound : (past : History) (name : List ℕ) → session_number name past ≤ requests_in past
number_bound past name = by (opening past name)
  where
    by : Opening past name → session_number name past ≤ requests_in past
    by (opened n is) = let here = opened_number past name n is in let far = below_requests past name n is in omega (arith, here, far)
    by (unopened is) = let here = unopened_number past name is in omega (arith, here)

-- the deeds of an answer or an end under a number that isn't its session's
later_elsewhere : (s : Symbolic) (l : Labelling) (past : History) (session : List ℕ) (deal : Deal) (number : ℕ) → is_request deal ≡ None → ((n : ℕ) → opened_as session past ≡ Some n → eqb n number ≡ false) → deeds_of number (session_events l past session deal) ≡ []
later_elsewhere s l past session deal number asks differs = by (opening past session)
  where
    by : Opening past session → deeds_of number (session_events l past session deal) ≡ []
    by (opened n is) =
        ap (λ k. deeds_of number (map (serves k) (deeds_at l past session deal))) (opened_number past session n is)
        ∙ deeds_other n number (deeds_at l past session deal) (differs n is)
    by (unopened is) = ap (λ ds. deeds_of number (map (serves (session_number session past)) ds)) (unasked_deal (deeds_by (dealt l session past)) (dealt l session past) deal (requests_in past) (l.label (length past)) asks (unasked l past session is))

fresh_in : (s : Symbolic) (l : Labelling) (step : Step) (past : History) (number : ℕ) → Serving step → (requests_in past ≤ number → deeds_of number (run_from s l past) ≡ []) → requests_in (step ∷ past) ≤ number → deeds_of number (run_from s l (step ∷ past)) ≡ []
fresh_in s l step past number (comes session b words) so most =
    let bound = number_bound past session in
    deeds_append number (events_of s l past (AsGot session b words)) (run_from s l past)
    ∙ ap (λ xs. xs ++ deeds_of number (run_from s l past)) (deeds_other (session_number session past) number (got (requests_in past) (l.label (length past)) ∷ []) (differ (session_number session past) number (λ e. omega (arith, e, bound, most))))
    ∙ so (omega (arith, most))
fresh_in s l step past number (proceeds session deal d) so most =
    let bound : requests_in past ≤ number = subst (λ n. n ≤ number) (d.none.requests past) most in
    deeds_append number (events_of s l past step) (run_from s l past)
    ∙ ap (λ es. deeds_of number es ++ deeds_of number (run_from s l past)) (d.events s l past)
    ∙ ap (λ xs. xs ++ deeds_of number (run_from s l past)) (later_elsewhere s l past session deal number d.asks (λ n is. differ n number (λ e. let far = below_requests past session n is in omega (arith, e, far, bound))))
    ∙ so bound
fresh_in s l step past number (elsewhere d) so most =
    let bound : requests_in past ≤ number = subst (λ n. n ≤ number) (d.none.requests past) most in
    deeds_append number (events_of s l past step) (run_from s l past)
    ∙ ap (λ xs. xs ++ deeds_of number (run_from s l past)) (d.deeds s l past number)
    ∙ so bound

pub fresh_deeds : (s : Symbolic) (l : Labelling) (past : History) (number : ℕ) → requests_in past ≤ number → deeds_of number (run_from s l past) ≡ []
fresh_deeds s l [] number most = refl
fresh_deeds s l (step ∷ past) number most = fresh_in s l step past number (serving step) (fresh_deeds s l past number) most

-- ---- what a session did in the run is what its labels make

abbrev IsOwn : Symbolic → Labelling → List ℕ → ℕ → History → Type 0
IsOwn s l name number past = deeds_of number (run_from s l past) ≡ deeds_by (dealt l name past)

-- a request of the session
came_here : (s : Symbolic) (l : Labelling) (past : History) (name b : List ℕ) (words : List (List ℕ)) (number : ℕ) → opened_as name (AsGot name b words ∷ past) ≡ Some number → (opened_as name past ≡ Some number → IsOwn s l name number past) → bytes_eq name name ≡ true → IsOwn s l name number (AsGot name b words ∷ past)
came_here s l past name b words number is so same =
    let new = got (requests_in past) (l.label (length past)) in
    let labels = dealt_by l name (AsGot name b words) past (requested (reloads_in past) b words ∷ []) (named_deal name name (requested (reloads_in past) b words) same) in
    let parts : deeds_of number (run_from s l (AsGot name b words ∷ past)) ≡ deeds_of number (map (serves (session_number name past)) (new ∷ [])) ++ deeds_of number (run_from s l past) = deeds_append number (events_of s l past (AsGot name b words)) (run_from s l past) in
    let here : session_number name past ≡ number → deeds_of number (run_from s l past) ≡ deeds_by (dealt l name past) → IsOwn s l name number (AsGot name b words ∷ past) = λ one rest.
    parts
    ∙ ap (λ k. deeds_of number (map (serves k) (new ∷ [])) ++ deeds_of number (run_from s l past)) one
    ∙ ap (λ xs. xs ++ deeds_of number (run_from s l past)) (deeds_same number (new ∷ []))
    ∙ ap (λ xs. new ∷ xs) rest
    ∙ sym (ap deeds_by labels) in
    elim (or_some (opened_as name past) (if bytes_eq name name then Some (requests_in past) else None) number is) [
      | inl before ↦ here (opened_number past name number before) (so before)
      | inr now ↦ (
          let n = (given_number (bytes_eq name name) (requests_in past) number now.1).1 in
          here (unopened_number past name now.0 ∙ n) (fresh_deeds s l past number (omega (arith, n)) ∙ sym (unasked_deeds (dealt l name past) (unasked l past name now.0))))
    ]

own_in : (s : Symbolic) (l : Labelling) (step : Step) (past : History) (name : List ℕ) (number : ℕ) → Serving step → (opened_as name past ≡ Some number → IsOwn s l name number past) → opened_as name (step ∷ past) ≡ Some number → IsOwn s l name number (step ∷ past)
own_in s l step past name number (comes session b words) so is = elim (cases_Bool (bytes_eq session name)) [
  | inl same ↦ (
      let one = same_name session name same in
      let here : bytes_eq name name ≡ true = subst (λ x. bytes_eq x name ≡ true) one same in
      subst (λ x. IsOwn s l name number (AsGot x b words ∷ past)) (sym one) (came_here s l past name b words number (subst (λ x. opened_as name (AsGot x b words ∷ past) ≡ Some number) one is) so here))
  | inr differs ↦ came_elsewhere differs (stood differs)
]
  where
    stood : bytes_eq session name ≡ false → opened_as name past ≡ Some number
    stood differs = elim (or_some (opened_as name past) (if bytes_eq session name then Some (requests_in past) else None) number is) [
      | inl before ↦ before
      | inr now ↦ absurd (let both : true ≡ false = sym (given_number (bytes_eq session name) (requests_in past) number now.1).0 ∙ differs in cc)
    ]

    came_elsewhere : bytes_eq session name ≡ false → opened_as name past ≡ Some number → IsOwn s l name number (AsGot session b words ∷ past)
    came_elsewhere differs before =
        deeds_append number (events_of s l past (AsGot session b words)) (run_from s l past)
        ∙ ap (λ xs. xs ++ deeds_of number (run_from s l past)) (deeds_other (session_number session past) number (got (requests_in past) (l.label (length past)) ∷ []) (other_number past session name number differs before))
        ∙ so before
        ∙ sym (ap deeds_by (dealt_by l name (AsGot session b words) past [] (other_deal name session (requested (reloads_in past) b words) differs)))
own_in s l step past name number (proceeds session deal d) so is =
    let stood : opened_as name past ≡ Some number = sym (d.none.opened name past) ∙ is in
    let parts : deeds_of number (run_from s l (step ∷ past)) ≡ deeds_of number (session_events l past session deal) ++ deeds_of number (run_from s l past) = deeds_append number (events_of s l past step) (run_from s l past) ∙ ap (λ es. deeds_of number es ++ deeds_of number (run_from s l past)) (d.events s l past) in
    elim (cases_Bool (bytes_eq session name)) [
      | inl same ↦ (
          let one = same_name session name same in
          let k : session_number session past ≡ number = ap (λ x. session_number x past) one ∙ opened_number past name number stood in
          parts
          ∙ ap (λ k. deeds_of number (map (serves k) (deeds_at l past session deal)) ++ deeds_of number (run_from s l past)) k
          ∙ ap (λ xs. xs ++ deeds_of number (run_from s l past)) (deeds_same number (deeds_at l past session deal))
          ∙ ap (λ x. deeds_at l past x deal ++ deeds_of number (run_from s l past)) one
          ∙ ap (λ xs. deeds_at l past name deal ++ xs) (so stood)
          ∙ sym (ap deeds_by (dealt_by l name step past (deal ∷ []) (d.deals (reloads_in past) name ∙ named_deal name session deal same))))
      | inr differs ↦
          parts
          ∙ ap (λ xs. xs ++ deeds_of number (run_from s l past)) (later_elsewhere s l past session deal number d.asks (λ n begun. subst (λ k. eqb k number ≡ false) (opened_number past session n begun) (other_number past session name number differs stood)))
          ∙ so stood
          ∙ sym (ap deeds_by (dealt_by l name step past [] (d.deals (reloads_in past) name ∙ other_deal name session deal differs)))
    ]
own_in s l step past name number (elsewhere d) so is =
    deeds_append number (events_of s l past step) (run_from s l past)
    ∙ ap (λ xs. xs ++ deeds_of number (run_from s l past)) (d.deeds s l past number)
    ∙ so (sym (d.none.opened name past) ∙ is)
    ∙ sym (ap deeds_by (dealt_by l name step past [] (d.deals (reloads_in past) name)))

pub own_deeds : (s : Symbolic) (l : Labelling) (past : History) (name : List ℕ) (number : ℕ) → opened_as name past ≡ Some number → IsOwn s l name number past
own_deeds s l [] name number is = absurd (cc)
own_deeds s l (step ∷ past) name number is = own_in s l step past name number (serving step) (own_deeds s l past name number) is

-- ---- as many requests came in the run

vouch_asks_none : (session number : ℕ) (kind : MacKind) (o : Option ℕ) (b : List ℕ) → requests_run (serves session (vouch_deed kind number o b) ∷ []) ≡ 0
vouch_asks_none session number kind (Some first) b = refl
vouch_asks_none session number kind None b = refl

deed_asks_none : (session number : ℕ) (kind : MacKind) (o : Option ℕ) (b : List ℕ) (nine four one : Bool) → requests_run (serves session (if nine then gives_challenge kind number b else if four then (if one then gives_tickets number else vouch_deed kind number o b) else refuses number b) ∷ []) ≡ 0
deed_asks_none session number kind o b true four one = refl
deed_asks_none session number kind o b false true true = refl
deed_asks_none session number kind o b false true false = vouch_asks_none session number kind o b
deed_asks_none session number kind o b false false one = refl

challenge_asks_none : (session number : ℕ) (kind : MacKind) (o : Option ℕ) (head b : List ℕ) (nine four one : Bool) → requests_run (serves session (if nine then gives_challenge kind number head else if four then (if one then gives_tickets number else vouch_deed kind number o b) else refuses number b) ∷ []) ≡ 0
challenge_asks_none session number kind o head b true four one = refl
challenge_asks_none session number kind o head b false four one = deed_asks_none session number kind o b false four one

answer_asks_none : (session : ℕ) (before : List Deed) (number : ℕ) (b : List ℕ) (o : Option (List ℕ)) → requests_run (map (serves session) (map (λ request. deed_by before number request b) (if_some o))) ≡ 0
answer_asks_none session before number b (Some request) = challenge_asks_none session number (mail_kind request) (held before (mail_kind request)) _ b (kind_of b == 9) (kind_of b == 4) (kind_of request == 1)
answer_asks_none session before number b None = refl

later_asks_none : (session : ℕ) (before : List Deed) (ds : List Dealt) (deal : Deal) (number : ℕ) (label : Tree) → is_request deal ≡ None → requests_run (map (serves session) (deeds_for_deal before ds deal number label)) ≡ 0
later_asks_none session before ds (requested tables b words) number label asks = absurd (cc)
later_asks_none session before [] (replied b) number label asks = refl
later_asks_none session before (d ∷ ds) (replied b) number label asks = answer_asks_none session before d.number b (is_request d.deal)
later_asks_none session before ds ended number label asks = refl

count_in : (s : Symbolic) (l : Labelling) (step : Step) (past : History) → Serving step → requests_run (run_from s l past) ≡ requests_in past → requests_run (run_from s l (step ∷ past)) ≡ requests_in (step ∷ past)
count_in s l step past (comes session b words) so = ap (λ n. n + 1) so
count_in s l step past (proceeds session deal d) so =
    let a = requests_append (events_of s l past step) (run_from s l past) in
    let b = ap requests_run (d.events s l past) ∙ later_asks_none (session_number session past) (deeds_by (dealt l session past)) (dealt l session past) deal (requests_in past) (l.label (length past)) d.asks in
    let kept = d.none.requests past in
    omega (arith, a, b, so, kept)
count_in s l step past (elsewhere d) so =
    let a = requests_append (events_of s l past step) (run_from s l past) in
    let b = d.came s l past in
    let kept = d.none.requests past in
    omega (arith, a, b, so, kept)

pub as_many_requests : (s : Symbolic) (l : Labelling) (past : History) → requests_run (run_from s l past) ≡ requests_in past
as_many_requests s l [] = refl
as_many_requests s l (step ∷ past) = count_in s l step past (serving step) (as_many_requests s l past)

-- ---- what is granted at a request's place

counted_in : (step : Step) (past : History) → Serving step → requests_in past ≤ requests_in (step ∷ past)
counted_in step past (comes session b words) = omega arith
counted_in step past (proceeds session deal d) = let e = d.none.requests past in omega (arith, e)
counted_in step past (elsewhere d) = let e = d.none.requests past in omega (arith, e)

more_requests : (later : History) (session b : List ℕ) (words : List (List ℕ)) (earlier : History) → requests_in earlier < requests_in (later ++ AsGot session b words ∷ earlier)
more_requests [] session b words earlier = omega arith
more_requests (step ∷ later) session b words earlier =
    let rest = more_requests later session b words earlier in
    let more = counted_in step (later ++ AsGot session b words ∷ earlier) (serving step) in
    omega (arith, rest, more)

grant_in : (z : Setting) (l : Labelling) (step : Step) (past : History) (number : ℕ) → Serving step → number < requests_in past → grant_at z l (step ∷ past) number ≡ grant_at z l past number
grant_in z l step past number (comes session b words) far = ap (λ (x : Bool). if x then grant_by z (reloads_in past) (request_of b) (l.label (length past)) else grant_at z l past number) (differ (requests_in past) number (λ e. omega (arith, e, far)))
grant_in z l step past number (proceeds session deal d) far = d.none.grants z l past number
grant_in z l step past number (elsewhere d) far = d.none.grants z l past number

pub grant_placed : (z : Setting) (l : Labelling) (later : History) (session b : List ℕ) (words : List (List ℕ)) (earlier : History) → grant_at z l (later ++ AsGot session b words ∷ earlier) (requests_in earlier) ≡ grant_by z (reloads_in earlier) (request_of b) (l.label (length earlier))
grant_placed z l [] session b words earlier = ap (λ (x : Bool). if x then grant_by z (reloads_in earlier) (request_of b) (l.label (length earlier)) else grant_at z l earlier (requests_in earlier)) (eq-eqb (requests_in earlier) (requests_in earlier) refl)
grant_placed z l (step ∷ later) session b words earlier = grant_in z l step (later ++ AsGot session b words ∷ earlier) (requests_in earlier) (serving step) (more_requests later session b words earlier) ∙ grant_placed z l later session b words earlier

-- ---- the place of the newest request of a session

pub record Placed (l : Labelling) (past : History) (name : List ℕ) (tables : ℕ) (b : List ℕ) (words : List (List ℕ)) (d : Dealt) : Type 0 where
  pub later : History
  pub earlier : History
  pub place : past ≡ later ++ AsGot name b words ∷ earlier
  pub in_force : tables ≡ reloads_in earlier
  pub number : d.number ≡ requests_in earlier
  pub label : d.label ≡ l.label (length earlier)

further : {l : Labelling} {name : List ℕ} {tables : ℕ} {b : List ℕ} {words : List (List ℕ)} {d : Dealt} (step : Step) (past : History) → Placed l past name tables b words d → Placed l (step ∷ past) name tables b words d
further step past p = record { later = step ∷ p.later; earlier = p.earlier; place = ap (λ xs. step ∷ xs) p.place; in_force = p.in_force; number = p.number; label = p.label }

heads : (a b : Dealt) (xs ys : List Dealt) → a ∷ xs ≡ b ∷ ys → a ≡ b
heads a b xs ys e = cc

placed_in : (l : Labelling) (step : Step) (past : History) (name : List ℕ) (tables : ℕ) (b : List ℕ) (words : List (List ℕ)) (d : Dealt) (older : List Dealt) → Serving step → (dealt l name past ≡ d ∷ older → Placed l past name tables b words d) → d.deal ≡ requested tables b words → dealt l name (step ∷ past) ≡ d ∷ older → Placed l (step ∷ past) name tables b words d
placed_in l step past name tables b words d older (comes session bytes drawn) so deal_is is = elim (cases_Bool (bytes_eq session name)) [
  | inl same ↦ (
      let here = sym (dealt_by l name (AsGot session bytes drawn) past (requested (reloads_in past) bytes drawn ∷ []) (named_deal name session (requested (reloads_in past) bytes drawn) same)) ∙ is in
      let one : deal_of l past (requested (reloads_in past) bytes drawn) ≡ d = heads (deal_of l past (requested (reloads_in past) bytes drawn)) d (dealt l name past) older here in
      let deals : requested (reloads_in past) bytes drawn ≡ requested tables b words = ap (λ (x : Dealt). x.deal) one ∙ deal_is in
      let s_is : session ≡ name = same_name session name same in
      let tables_are : tables ≡ reloads_in past = cc in
      let b_is : bytes ≡ b = cc in
      let w_is : drawn ≡ words = cc in
      let step_is : AsGot session bytes drawn ≡ AsGot name b words = cc in
      record { later = []; earlier = past; place = ap (λ x. x ∷ past) step_is; in_force = tables_are; number = sym (ap (λ (x : Dealt). x.number) one); label = sym (ap (λ (x : Dealt). x.label) one) })
  | inr differs ↦ further (AsGot session bytes drawn) past (so (sym (dealt_by l name (AsGot session bytes drawn) past [] (other_deal name session (requested (reloads_in past) bytes drawn) differs)) ∙ is))
]
placed_in l step past name tables b words d older (proceeds session deal x) so deal_is is = elim (cases_Bool (bytes_eq session name)) [
  | inl same ↦ absurd (
      let here = sym (dealt_by l name step past (deal ∷ []) (x.deals (reloads_in past) name ∙ named_deal name session deal same)) ∙ is in
      let one : deal_of l past deal ≡ d = heads (deal_of l past deal) d (dealt l name past) older here in
      let none : Some b ≡ None = sym (ap is_request (ap (λ (y : Dealt). y.deal) one ∙ deal_is)) ∙ x.asks in
      cc)
  | inr differs ↦ further step past (so (sym (dealt_by l name step past [] (x.deals (reloads_in past) name ∙ other_deal name session deal differs)) ∙ is))
]
placed_in l step past name tables b words d older (elsewhere x) so deal_is is = further step past (so (sym (dealt_by l name step past [] (x.deals (reloads_in past) name)) ∙ is))

pub placed : (l : Labelling) (past : History) (name : List ℕ) (tables : ℕ) (b : List ℕ) (words : List (List ℕ)) (d : Dealt) (older : List Dealt) → d.deal ≡ requested tables b words → dealt l name past ≡ d ∷ older → Placed l past name tables b words d
placed l [] name tables b words d older deal_is is = absurd (cc)
placed l (step ∷ past) name tables b words d older deal_is is = placed_in l step past name tables b words d older (serving step) (placed l past name tables b words d older deal_is) deal_is is

-- a session whose newest deal is a request was opened
pub opened_by : (l : Labelling) (past : History) (name : List ℕ) (tables : ℕ) (b : List ℕ) (words : List (List ℕ)) (d : Dealt) (older : List Dealt) → d.deal ≡ requested tables b words → dealt l name past ≡ d ∷ older → (number : ℕ) × (opened_as name past ≡ Some number)
opened_by l past name tables b words d older deal_is is = by (opening past name)
  where
    by : Opening past name → (number : ℕ) × (opened_as name past ≡ Some number)
    by (opened n so) = (n, so)
    by (unopened so) = absurd (
        let none : Unasked (d ∷ older) = subst Unasked is (unasked l past name so) in
        let both : Some b ≡ None = sym (ap is_request deal_is) ∙ none.0 in
        cc)
