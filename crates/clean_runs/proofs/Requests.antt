-- The numbers of requests: sessions that were opened have different ones, below the number of requests. What a session did in
-- the run is what its own labels make, as many requests came in the run, and what is granted at a number is told by the bytes
-- and the label of its request.
use Rattle.std.proofs.Common.{◌≡◌, ◌⊎◌, ℕ, ◌+◌, ◌<◌, List, [], ◌∷◌, ◌++◌, map, length, Option, Some, None, Bool, true, false, eqb, if◌then◌else◌, inl, inr, refl, sym, ap, subst, ◌∙◌, arith}
use Rattle.std.proofs.lemmas.Bool.{cases_Bool, eq-eqb}
use Rattle.std.proofs.lemmas.Slice.Eq.{bytes_eq-Decides}
use Rattle.std.specs.Str.{bytes_eq}
use Rattle.symbolic_runs.specs.Trees.{Tree}
use Rattle.wire_histories.specs.declared.step.Step.{Step}
use Rattle.wire_histories.specs.declared.step.Step.TheVariants.{Start, Out, In, Ask, Heard, Unheard, Accept, Fail, Reply, Refused, AsGot, AsGave, AsEnd, Restart, Reload}
use Rattle.symbolic_runs.specs.Moves.{Move}
use Rattle.symbolic_runs.specs.Sessions.{Deed, got, gives_tickets, gives_challenge, gives_vouch, refuses}
use Rattle.symbolic_runs.specs.Runs.{Setting as Symbolic, Run, starts, talks, moves, serves, deeds_of, requests as requests_run}
use Rattle.wire_histories.specs.Histories.{History, Act, started, gave, took, asked, answered, unanswered, accepted, failed, Deal, requested, replied, ended, deal_in, if_named, reloads_in}
use Rattle.wire_histories.specs.Legal.{Setting}
use Rattle.clean_runs.specs.Labels.{Dealt, Labelling, dealt, opened_as, or_so, or_zero, requests_in}
use Rattle.clean_runs.specs.Runs.{conv_events, deed_by, deeds_answering, deeds_by, deeds_for_deal, events_of, grant_at, if_some, is_request, session_events, session_number, talk_events}
use Rattle.clean_runs.proofs.Numbers.{differ, same_name}

-- ---- what a step is to the authentication server

-- of a step what is no request
pub record AsksNone (step : Step) : Type 0 where
  pub requests : (past : History) → requests_in (step ∷ past) ≡ requests_in past
  pub opened : (name : List ℕ) (past : History) → opened_as name (step ∷ past) ≡ opened_as name past
  pub grants : (z : Setting) (l : Labelling) (past : History) (number : ℕ) → grant_at z l (step ∷ past) number ≡ grant_at z l past number

-- it is of no session
pub record IsElsewhere (step : Step) : Type 0 where
  pub none : AsksNone step
  pub deals : (tables : ℕ) (name : List ℕ) → deal_in tables name step ≡ []
  pub deeds : (s : Symbolic) (l : Labelling) (past : History) (number : ℕ) → deeds_of number (events_of s l past step) ≡ []
  pub came : (s : Symbolic) (l : Labelling) (past : History) → requests_run (events_of s l past step) ≡ 0

-- it is an answer or the end of a session
pub record IsLater (session : List ℕ) (deal : Deal) (step : Step) : Type 0 where
  pub none : AsksNone step
  pub asks : is_request deal ≡ None
  pub deals : (tables : ℕ) (name : List ℕ) → deal_in tables name step ≡ if_named session name deal
  pub events : (s : Symbolic) (l : Labelling) (past : History) → events_of s l past step ≡ session_events l past session deal

pub data Serving : Step → Type 0 where
  comes : (session b : List ℕ) (words : List (List ℕ)) → Serving (AsGot session b words)
  proceeds : {step : Step} (session : List ℕ) (deal : Deal) → IsLater session deal step → Serving step
  elsewhere : {step : Step} → IsElsewhere step → Serving step

-- ---- deeds in events

pub deeds_append : (number : ℕ) (later past : Run) → deeds_of number (later ++ past) ≡ deeds_of number later ++ deeds_of number past
deeds_append number [] past = refl
deeds_append number (starts ∷ later) past = deeds_append number later past
deeds_append number (talks conv b ∷ later) past = deeds_append number later past
deeds_append number (moves conv move ∷ later) past = deeds_append number later past
deeds_append number (serves session deed ∷ later) past = elim (cases_Bool (eqb session number)) [
  | inl same ↦ rw same (ap (λ xs. deed ∷ xs) (deeds_append number later past))
  | inr differs ↦ rw differs (deeds_append number later past)
]

pub deeds_same : (number : ℕ) (ds : List Deed) → deeds_of number (map (serves number) ds) ≡ ds
deeds_same number [] = refl
deeds_same number (deed ∷ ds) = rw (eq-eqb number number refl) (ap (λ xs. deed ∷ xs) (deeds_same number ds))

pub deeds_other : (other number : ℕ) (ds : List Deed) → eqb other number ≡ false → deeds_of number (map (serves other) ds) ≡ []
deeds_other other number [] differs = refl
deeds_other other number (deed ∷ ds) differs = rw differs (deeds_other other number ds differs)

deeds_moved : (conv number : ℕ) (ms : List Move) → deeds_of number (map (moves conv) ms) ≡ []
deeds_moved conv number [] = refl
deeds_moved conv number (move ∷ ms) = deeds_moved conv number ms

deeds_talked : (conv number : ℕ) (choosing : Bool) (act : Act) → deeds_of number (talk_events conv choosing act) ≡ []
deeds_talked conv number true (gave b) = refl
deeds_talked conv number false (gave b) = refl
deeds_talked conv number choosing (started protocol role word) = refl
deeds_talked conv number choosing (took b) = refl
deeds_talked conv number choosing (asked b) = refl
deeds_talked conv number choosing (answered b) = refl
deeds_talked conv number choosing unanswered = refl
deeds_talked conv number choosing (accepted cuid suid) = refl
deeds_talked conv number choosing (failed cause) = refl

talked_then_moved : (conv number : ℕ) (choosing : Bool) (act : Act) (ms : List Move) → deeds_of number (talk_events conv choosing act ++ map (moves conv) ms) ≡ []
talked_then_moved conv number choosing act ms =
    deeds_append number (talk_events conv choosing act) (map (moves conv) ms)
    ∙ ap (λ xs. xs ++ deeds_of number (map (moves conv) ms)) (deeds_talked conv number choosing act)
    ∙ deeds_moved conv number ms

conv_deeds : (s : Symbolic) (l : Labelling) (past : History) (conv : List ℕ) (act : Act) (number : ℕ) → deeds_of number (conv_events s l past conv act) ≡ []
conv_deeds s l past conv act number = talked_then_moved _ number _ act _

-- ---- requests in events

pub requests_append : (later past : Run) → requests_run (later ++ past) ≡ requests_run later + requests_run past
requests_append [] past = omega arith
requests_append (starts ∷ later) past = requests_append later past
requests_append (talks conv b ∷ later) past = requests_append later past
requests_append (moves conv move ∷ later) past = requests_append later past
requests_append (serves session (got n t) ∷ later) past = let rest = requests_append later past in omega (arith, rest)
requests_append (serves session (gives_tickets n) ∷ later) past = requests_append later past
requests_append (serves session (gives_challenge kind n head) ∷ later) past = requests_append later past
requests_append (serves session (gives_vouch kind n first) ∷ later) past = requests_append later past
requests_append (serves session (refuses n b) ∷ later) past = requests_append later past

none_moved : (conv : ℕ) (ms : List Move) → requests_run (map (moves conv) ms) ≡ 0
none_moved conv [] = refl
none_moved conv (move ∷ ms) = none_moved conv ms

none_talked : (conv : ℕ) (choosing : Bool) (act : Act) → requests_run (talk_events conv choosing act) ≡ 0
none_talked conv true (gave b) = refl
none_talked conv false (gave b) = refl
none_talked conv choosing (started protocol role word) = refl
none_talked conv choosing (took b) = refl
none_talked conv choosing (asked b) = refl
none_talked conv choosing (answered b) = refl
none_talked conv choosing unanswered = refl
none_talked conv choosing (accepted cuid suid) = refl
none_talked conv choosing (failed cause) = refl

none_in_talk : (conv : ℕ) (choosing : Bool) (act : Act) (ms : List Move) → requests_run (talk_events conv choosing act ++ map (moves conv) ms) ≡ 0
none_in_talk conv choosing act ms =
    let a = requests_append (talk_events conv choosing act) (map (moves conv) ms) in
    let b = none_talked conv choosing act in
    let c = none_moved conv ms in
    omega (arith, a, b, c)

conv_requests : (s : Symbolic) (l : Labelling) (past : History) (conv : List ℕ) (act : Act) → requests_run (conv_events s l past conv act) ≡ 0
conv_requests s l past conv act = none_in_talk _ _ act _

-- ---- each step is so

pub serving : (step : Step) → Serving step
serving (Start conv protocol role word) = elsewhere (record { none = record { requests = λ past. refl; opened = λ name past. refl; grants = λ z l past n. refl }; deals = λ tables name. refl; deeds = λ s l past n. refl; came = λ s l past. refl })
serving (Out number conv b) = elsewhere (record { none = record { requests = λ past. refl; opened = λ name past. refl; grants = λ z l past n. refl }; deals = λ tables name. refl; deeds = λ s l past n. conv_deeds s l past conv (gave b) n; came = λ s l past. conv_requests s l past conv (gave b) })
serving (In conv b) = elsewhere (record { none = record { requests = λ past. refl; opened = λ name past. refl; grants = λ z l past n. refl }; deals = λ tables name. refl; deeds = λ s l past n. conv_deeds s l past conv (took b) n; came = λ s l past. conv_requests s l past conv (took b) })
serving (Ask number conv b) = elsewhere (record { none = record { requests = λ past. refl; opened = λ name past. refl; grants = λ z l past n. refl }; deals = λ tables name. refl; deeds = λ s l past n. conv_deeds s l past conv (asked b) n; came = λ s l past. conv_requests s l past conv (asked b) })
serving (Heard conv b) = elsewhere (record { none = record { requests = λ past. refl; opened = λ name past. refl; grants = λ z l past n. refl }; deals = λ tables name. refl; deeds = λ s l past n. conv_deeds s l past conv (answered b) n; came = λ s l past. conv_requests s l past conv (answered b) })
serving (Unheard conv) = elsewhere (record { none = record { requests = λ past. refl; opened = λ name past. refl; grants = λ z l past n. refl }; deals = λ tables name. refl; deeds = λ s l past n. conv_deeds s l past conv unanswered n; came = λ s l past. conv_requests s l past conv unanswered })
serving (Accept conv cuid suid) = elsewhere (record { none = record { requests = λ past. refl; opened = λ name past. refl; grants = λ z l past n. refl }; deals = λ tables name. refl; deeds = λ s l past n. conv_deeds s l past conv (accepted cuid suid) n; came = λ s l past. conv_requests s l past conv (accepted cuid suid) })
serving (Fail conv cause) = elsewhere (record { none = record { requests = λ past. refl; opened = λ name past. refl; grants = λ z l past n. refl }; deals = λ tables name. refl; deeds = λ s l past n. conv_deeds s l past conv (failed cause) n; came = λ s l past. conv_requests s l past conv (failed cause) })
serving (Reply conv answer) = elsewhere (record { none = record { requests = λ past. refl; opened = λ name past. refl; grants = λ z l past n. refl }; deals = λ tables name. refl; deeds = λ s l past n. refl; came = λ s l past. refl })
serving (Refused node answer) = elsewhere (record { none = record { requests = λ past. refl; opened = λ name past. refl; grants = λ z l past n. refl }; deals = λ tables name. refl; deeds = λ s l past n. refl; came = λ s l past. refl })
serving (Restart node) = elsewhere (record { none = record { requests = λ past. refl; opened = λ name past. refl; grants = λ z l past n. refl }; deals = λ tables name. refl; deeds = λ s l past n. refl; came = λ s l past. refl })
serving Reload = elsewhere (record { none = record { requests = λ past. refl; opened = λ name past. refl; grants = λ z l past n. refl }; deals = λ tables name. refl; deeds = λ s l past n. refl; came = λ s l past. refl })
serving (AsGot session b words) = comes session b words
serving (AsGave number session b) = proceeds session (replied b) (record { none = record { requests = λ past. refl; opened = λ name past. refl; grants = λ z l past n. refl }; asks = refl; deals = λ tables name. refl; events = λ s l past. refl })
serving (AsEnd session) = proceeds session ended (record { none = record { requests = λ past. refl; opened = λ name past. refl; grants = λ z l past n. refl }; asks = refl; deals = λ tables name. refl; events = λ s l past. refl })

-- ---- numbers of sessions

pub data Opening (past : History) (name : List ℕ) : Type 0 where
  opened : (number : ℕ) → opened_as name past ≡ Some number → Opening past name
  unopened : opened_as name past ≡ None → Opening past name

opening_by : (past : History) (name : List ℕ) (o : Option ℕ) → opened_as name past ≡ o → Opening past name
opening_by past name (Some number) is = opened number is
opening_by past name None is = unopened is

pub opening : (past : History) (name : List ℕ) → Opening past name
opening past name = opening_by past name (opened_as name past) refl

pub opened_number : (past : History) (name : List ℕ) (number : ℕ) → opened_as name past ≡ Some number → session_number name past ≡ number
opened_number past name number is = ap (λ o. or_zero (or_so o (Some (requests_in past)))) is

pub unopened_number : (past : History) (name : List ℕ) → opened_as name past ≡ None → session_number name past ≡ requests_in past
unopened_number past name is = ap (λ o. or_zero (or_so o (Some (requests_in past)))) is

pub or_some : (o other : Option ℕ) (number : ℕ) → or_so o other ≡ Some number → (o ≡ Some number) ⊎ ((o ≡ None) × (other ≡ Some number))
or_some (Some n) other number is = inl is
or_some None other number is = inr (refl, is)

or_none : (o other : Option ℕ) → or_so o other ≡ None → (o ≡ None) × (other ≡ None)
or_none (Some n) other is = absurd (cc)
or_none None other is = (refl, is)

-- the number that a request gives its session
pub given_number : (same : Bool) (n number : ℕ) → (if same then Some n else None) ≡ Some number → (same ≡ true) × (n ≡ number)
given_number true n number is = (refl, (let one : n ≡ number = cc in one))
given_number false n number is = absurd (cc)

below_in : (step : Step) (past : History) (name : List ℕ) (number : ℕ) → Serving step → (opened_as name past ≡ Some number → number < requests_in past) → opened_as name (step ∷ past) ≡ Some number → number < requests_in (step ∷ past)
below_in step past name number (comes session b words) so is = elim (or_some (opened_as name past) (if bytes_eq session name then Some (requests_in past) else None) number is) [
  | inl before ↦ (let far = so before in omega (arith, far))
  | inr now ↦ (let n = (given_number (bytes_eq session name) (requests_in past) number now.1).1 in omega (arith, n))
]
below_in step past name number (proceeds session deal d) so is = rw (d.none.requests past) (so (sym (d.none.opened name past) ∙ is))
below_in step past name number (elsewhere d) so is = rw (d.none.requests past) (so (sym (d.none.opened name past) ∙ is))

pub below_requests : (past : History) (name : List ℕ) (number : ℕ) → opened_as name past ≡ Some number → number < requests_in past
below_requests [] name number is = absurd (cc)
below_requests (step ∷ past) name number is = below_in step past name number (serving step) (below_requests past name number) is

-- two sessions with one number are one
apart_in : (step : Step) (past : History) (a b : List ℕ) (number : ℕ) → Serving step → (opened_as a past ≡ Some number → opened_as b past ≡ Some number → a ≡ b) → opened_as a (step ∷ past) ≡ Some number → opened_as b (step ∷ past) ≡ Some number → a ≡ b
apart_in step past a b number (comes session bytes words) so is is' = elim (or_some (opened_as a past) (if bytes_eq session a then Some (requests_in past) else None) number is) [
  | inl before ↦ elim (or_some (opened_as b past) (if bytes_eq session b then Some (requests_in past) else None) number is') [
    | inl before' ↦ so before before'
    | inr now' ↦ absurd (
        let n = (given_number (bytes_eq session b) (requests_in past) number now'.1).1 in
        let far = below_requests past a number before in
        omega (arith, n, far))
  ]
  | inr now ↦ elim (or_some (opened_as b past) (if bytes_eq session b then Some (requests_in past) else None) number is') [
    | inl before' ↦ absurd (
        let n = (given_number (bytes_eq session a) (requests_in past) number now.1).1 in
        let far = below_requests past b number before' in
        omega (arith, n, far))
    | inr now' ↦
        sym (same_name session a (given_number (bytes_eq session a) (requests_in past) number now.1).0)
        ∙ same_name session b (given_number (bytes_eq session b) (requests_in past) number now'.1).0
  ]
]
apart_in step past a b number (proceeds session deal d) so is is' = so (sym (d.none.opened a past) ∙ is) (sym (d.none.opened b past) ∙ is')
apart_in step past a b number (elsewhere d) so is is' = so (sym (d.none.opened a past) ∙ is) (sym (d.none.opened b past) ∙ is')

pub sessions_apart : (past : History) (a b : List ℕ) (number : ℕ) → opened_as a past ≡ Some number → opened_as b past ≡ Some number → a ≡ b
sessions_apart [] a b number is is' = absurd (cc)
sessions_apart (step ∷ past) a b number is is' = apart_in step past a b number (serving step) (sessions_apart past a b number) is is'

-- a session that was opened has another number than one that is named otherwise
pub other_number : (past : History) (session name : List ℕ) (number : ℕ) → bytes_eq session name ≡ false → opened_as name past ≡ Some number → eqb (session_number session past) number ≡ false
other_number past session name number differs is = by (opening past session)
  where
    by : Opening past session → eqb (session_number session past) number ≡ false
    by (opened n so) = differ (session_number session past) number (λ e.
        let one = sessions_apart past session name number (so ∙ ap Some (sym (opened_number past session n so) ∙ e)) is in
        let same : bytes_eq session name ≡ true = (bytes_eq-Decides session name).1 one in
        absurd (let both : true ≡ false = sym same ∙ differs in cc))
    by (unopened so) = differ (session_number session past) number (λ e.
        let here = unopened_number past session so in
        let far = below_requests past name number is in
        omega (arith, e, here, far))

-- ---- the deals of a session

abbrev pub deal_of : Labelling → History → Deal → Dealt
deal_of l past deal = record { deal = deal; number = requests_in past; label = l.label (length past) }

pub dealt_by : (l : Labelling) (name : List ℕ) (step : Step) (past : History) (deals : List Deal) → deal_in (reloads_in past) name step ≡ deals → dealt l name (step ∷ past) ≡ map (deal_of l past) deals ++ dealt l name past
dealt_by l name step past deals is = ap (λ xs. map (deal_of l past) xs ++ dealt l name past) is

pub named_deal : (name session : List ℕ) (deal : Deal) → bytes_eq session name ≡ true → if_named session name deal ≡ deal ∷ []
named_deal name session deal same = ap (λ (b : Bool). if b then deal ∷ [] else []) same

pub other_deal : (name session : List ℕ) (deal : Deal) → bytes_eq session name ≡ false → if_named session name deal ≡ []
other_deal name session deal differs = ap (λ (b : Bool). if b then deal ∷ [] else []) differs

-- no request is among them
abbrev pub Unasked : List Dealt → Type 0
Unasked [] = Unit {0}
Unasked (d ∷ ds) = (is_request d.deal ≡ None) × Unasked ds

unasked_answer : (before : List Deed) (ds : List Dealt) (b : List ℕ) → Unasked ds → deeds_answering before ds b ≡ []
unasked_answer before [] b none = refl
unasked_answer before (d ∷ ds) b none = ap (λ (o : Option (List ℕ)). map (λ request. deed_by before d.number request b) (if_some o)) none.0

pub unasked_deal : (before : List Deed) (ds : List Dealt) (deal : Deal) (number : ℕ) (label : Tree) → is_request deal ≡ None → Unasked ds → deeds_for_deal before ds deal number label ≡ []
unasked_deal before ds (requested tables b words) number label asks none = absurd (cc)
unasked_deal before ds (replied b) number label asks none = unasked_answer before ds b none
unasked_deal before ds ended number label asks none = refl

pub unasked_deeds : (ds : List Dealt) → Unasked ds → deeds_by ds ≡ []
unasked_deeds [] none = refl
unasked_deeds (d ∷ ds) none = ap (λ xs. xs ++ deeds_by ds) (unasked_deal (deeds_by ds) ds d.deal d.number d.label none.0 none.1) ∙ unasked_deeds ds none.1

-- none is where the session wasn't opened
unasked_in : (l : Labelling) (step : Step) (past : History) (name : List ℕ) → Serving step → (opened_as name past ≡ None → Unasked (dealt l name past)) → opened_as name (step ∷ past) ≡ None → Unasked (dealt l name (step ∷ past))
unasked_in l step past name (comes session b words) so is = elim (cases_Bool (bytes_eq session name)) [
  | inl same ↦ absurd (
      let empty = (or_none (opened_as name past) (if bytes_eq session name then Some (requests_in past) else None) is).1 in
      let here : Some (requests_in past) ≡ None = ap (λ (x : Bool). if x then Some (requests_in past) else None) (sym same) ∙ empty in
      cc)
  | inr differs ↦ subst Unasked (sym (dealt_by l name (AsGot session b words) past [] (other_deal name session (requested (reloads_in past) b words) differs))) (so (or_none (opened_as name past) (if bytes_eq session name then Some (requests_in past) else None) is).0)
]
unasked_in l step past name (proceeds session deal d) so is = elim (cases_Bool (bytes_eq session name)) [
  | inl same ↦ subst Unasked (sym (dealt_by l name step past (deal ∷ []) (d.deals (reloads_in past) name ∙ named_deal name session deal same))) (d.asks, so (sym (d.none.opened name past) ∙ is))
  | inr differs ↦ subst Unasked (sym (dealt_by l name step past [] (d.deals (reloads_in past) name ∙ other_deal name session deal differs))) (so (sym (d.none.opened name past) ∙ is))
]
unasked_in l step past name (elsewhere d) so is = subst Unasked (sym (dealt_by l name step past [] (d.deals (reloads_in past) name))) (so (sym (d.none.opened name past) ∙ is))

pub unasked : (l : Labelling) (past : History) (name : List ℕ) → opened_as name past ≡ None → Unasked (dealt l name past)
unasked l [] name is = tt
unasked l (step ∷ past) name is = unasked_in l step past name (serving step) (unasked l past name) is
