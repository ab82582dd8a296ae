-- What a call by which a need is met leaves, and what is recorded where nothing is searched for any more.
use Rattle.std.proofs.Common.{◌≡◌, ℕ, List, [], ◌∷◌, ◌++◌, true, false, if◌then◌else◌, refl, sym, ap, ◌∙◌}
use Rattle.key_lists.specs.Lists.{KeyEntry}
use Rattle.roles.specs.declared.need.Need.{Need}
use Rattle.roles.specs.declared.need.Need.TheVariants.{Nothing, Key, Offers, Pick, Exchange}
use Rattle.roles.specs.declared.need.Outcome.{Outcome}
use Rattle.roles.specs.declared.need.Outcome.TheVariants.{Running}
use Rattle.roles.specs.Answers.{is_sought}
use Rattle.roles.specs.Talks.{Call as Move, offered, picked}
use Rattle.talks.specs.RpcAnswers.{answer_text}
use Rattle.talks.specs.declared.answer.RpcAnswer.{RpcAnswer}
use Rattle.talks.specs.Calls.{Chosen, Offered, Picked}
use Rattle.talks.specs.Standings.{Seeking, Standing, is_for, phase_after, waits_for_user}
use Rattle.wire_histories.specs.Histories.{Act}
use Rattle.wire_histories.specs.Conversations.{Speaker, acts_from, asked_now, asks_by, done_by, end_by, ended_as, if_found, is_asked, meets, seeks, waiting}
use Rattle.world_promises.specs.Roles.{IsRole}
use Rattle.world_promises.specs.Telling.{Searches, rests, finds, answer_acts, question_acts, told_acts}

pub sought_unasked : (n : Need) → is_sought n ≡ true → is_asked n ≡ false
sought_unasked Nothing is = refl
sought_unasked (Key template) is = refl
sought_unasked (Offers template) is = refl
sought_unasked (Pick templates) is = refl
sought_unasked (Exchange request shape) is = cc is

pub meets_sought : (n : Need) (call : Move) → meets n call ≡ true → is_sought n ≡ true
meets_sought Nothing call is = cc is
meets_sought (Key template) call is = refl
meets_sought (Offers template) call is = refl
meets_sought (Pick templates) call is = refl
meets_sought (Exchange request shape) call is = cc is

-- what is left by a search for an act, by what is needed behind it
abbrev pub after_search : Need → Outcome → Act → List Act
after_search n e act = if is_sought n then [] else ended_as e ++ (asked_now n ++ act ∷ [])

searched_on : (n : Need) (e : Outcome) (act : Act) → (is_sought n ≡ true → e ≡ Running) → ended_as e ++ (asked_now n ++ if_found true (is_sought n) act) ≡ after_search n e act
searched_on Nothing e act runs = refl
searched_on (Key template) e act runs = ap (λ o. ended_as o ++ []) (runs refl)
searched_on (Offers template) e act runs = ap (λ o. ended_as o ++ []) (runs refl)
searched_on (Pick templates) e act runs = ap (λ o. ended_as o ++ []) (runs refl)
searched_on (Exchange request shape) e act runs = refl

step_by : (e e' : Outcome) (n n' : Need) (done rest base : List Act) (act : Act) → e ≡ Running → is_sought n ≡ true → (is_sought n' ≡ true → e' ≡ Running) → done ≡ if_found (is_sought n) (is_sought n') act → rest ≡ base → (end_by e e' ++ (asks_by n n' ++ done)) ++ rest ≡ after_search n' e' act ++ base
step_by e e' n n' done rest base act runs sought goes is same =
    ap (λ o. (end_by o e' ++ (asks_by n n' ++ done)) ++ rest) runs
    ∙ ap (λ b. (ended_as e' ++ ((if b then [] else asked_now n') ++ done)) ++ rest) (sought_unasked n sought)
    ∙ ap (λ d. (ended_as e' ++ (asked_now n' ++ d)) ++ rest) (is ∙ ap (λ b. if_found b (is_sought n') act) sought)
    ∙ ap (λ xs. xs ++ rest) (searched_on n' e' act goes)
    ∙ ap (λ xs. after_search n' e' act ++ xs) same

-- a call that meets a need, which finds what an act waited for
pub met_step : (s : Speaker) → IsRole s → (first : Act) (talk : List Move) (call : Move) (act : Act) (base : List Act) → done_by s first talk call ≡ if_found (seeks s talk) (seeks s (call ∷ talk)) (waiting s first talk) → meets (s.needs talk) call ≡ true → waiting s first talk ≡ act → acts_from s first talk ≡ base → acts_from s first (call ∷ talk) ≡ after_search (s.needs (call ∷ talk)) (s.ends (call ∷ talk)) act ++ base
met_step s r first talk call act base does is waits same =
    let sought = meets_sought (s.needs talk) call is in
    step_by (s.ends talk) (s.ends (call ∷ talk)) (s.needs talk) (s.needs (call ∷ talk)) (done_by s first talk call) (acts_from s first talk) base act
    (r.goes_on talk sought) sought (r.goes_on (call ∷ talk)) (does ∙ ap (if_found (seeks s talk) (seeks s (call ∷ talk))) waits) same

-- ---- what is found is what is needed

pub chosen_meets : (n : Need) (key : KeyEntry) (call : Move) → is_for n (Chosen key) ≡ true → ((template : _) → meets (Key template) call ≡ true) → meets n call ≡ true
chosen_meets Nothing key call is so = cc is
chosen_meets (Key template) key call is so = so template
chosen_meets (Offers template) key call is so = cc is
chosen_meets (Pick templates) key call is so = cc is
chosen_meets (Exchange request shape) key call is so = cc is

pub offers_meet : (n : Need) (list : List ℕ) → is_for n (Offered list) ≡ true → meets n (offered list) ≡ true
offers_meet Nothing list is = cc is
offers_meet (Key template) list is = cc is
offers_meet (Offers template) list is = refl
offers_meet (Pick templates) list is = cc is
offers_meet (Exchange request shape) list is = cc is

pub pick_meets : (n : Need) (place : ℕ) → is_for n (Picked place) ≡ true → meets n (picked place) ≡ true
pick_meets Nothing place is = cc is
pick_meets (Key template) place is = cc is
pick_meets (Offers template) place is = cc is
pick_meets (Pick templates) place is = refl
pick_meets (Exchange request shape) place is = cc is

-- ---- where nothing is searched for

pub at_rest : (n : Need) (answer : RpcAnswer) → (phase_after n answer ≡ Seeking → ⊥) → is_sought n ≡ false
at_rest Nothing answer rest = refl
at_rest (Key template) answer rest = absurd (rest refl)
at_rest (Offers template) answer rest = absurd (rest refl)
at_rest (Pick templates) answer rest = absurd (rest refl)
at_rest (Exchange request shape) answer rest = refl

pub not_waiting : (n : Need) (answer : RpcAnswer) → is_sought n ≡ false → waits_for_user (phase_after n answer) ≡ false
not_waiting Nothing answer rest = refl
not_waiting (Key template) answer rest = cc rest
not_waiting (Offers template) answer rest = cc rest
not_waiting (Pick templates) answer rest = cc rest
not_waiting (Exchange request shape) answer rest = refl

pub rest_told : (n : Need) (answer : RpcAnswer) (e : Outcome) (act : Act) (own : List Act) → is_sought n ≡ false → told_acts (answer_text answer) ≡ [] → own ≡ act ∷ [] → after_search n e act ≡ answer_acts (phase_after n answer) ++ (ended_as e ++ (question_acts (phase_after n answer) n ++ own))
rest_told Nothing answer e act own rest told is = ap (λ o. ended_as e ++ o) (sym is) ∙ ap (λ t. t ++ (ended_as e ++ own)) (sym told)
rest_told (Key template) answer e act own rest told is = cc rest
rest_told (Offers template) answer e act own rest told is = cc rest
rest_told (Pick templates) answer e act own rest told is = cc rest
rest_told (Exchange request shape) answer e act own rest told is = ap (λ o. ended_as e ++ (asked_now (Exchange request shape) ++ o)) (sym is)

-- no further search
pub rest_only : (s now : Standing) → Searches s now → (s.phase ≡ Seeking → ⊥) → now ≡ s
rest_only s now (rests resting) none = refl
rest_only s now (finds came seeks is nobody later) none = absurd (none seeks)
