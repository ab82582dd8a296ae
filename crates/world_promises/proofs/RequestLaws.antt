-- What the other requests of a conversation and the answers of the authentication server leave is what is recorded of them.
use Rattle.std.proofs.Common.{◌≡◌, ℕ, List, [], ◌∷◌, ◌++◌, Bool, true, false, Option, Some, None, if◌then◌else◌, refl, sym, ap, subst, ◌∙◌}
use Rattle.key_lists.specs.Lists.{KeyEntry}
use Rattle.roles.specs.declared.answer.Gave.{Gave}
use Rattle.roles.specs.declared.answer.Gave.TheVariants as g
use Rattle.roles.specs.declared.need.Need.{Need}
use Rattle.roles.specs.declared.need.Need.TheVariants.{Nothing}
use Rattle.roles.specs.declared.need.Outcome.{Outcome}
use Rattle.roles.specs.Talks.{Call as Move, get, heard, unheard}
use Rattle.talks.specs.RpcAnswers.{answer_text}
use Rattle.talks.specs.Requests as rpc
use Rattle.talks.specs.declared.answer.RpcAnswer.{RpcAnswer}
use Rattle.talks.specs.declared.answer.RpcAnswer.TheVariants as a
use Rattle.talks.specs.Protocols.{answers, ends, needs, puts}
use Rattle.talks.specs.declared.said.Said.{Said}
use Rattle.talks.specs.Answers.{move_answer}
use Rattle.talks.specs.Standings.{Begun, Phase, Kept, Seeking, Standing, carried_out, made, need_in, outcome_of, phase_after, with_move}
use Rattle.wire_histories.specs.Histories.{Act, answered, gave, unanswered}
use Rattle.wire_histories.specs.Conversations.{asked_now, asks_by, end_by, is_asked, is_given}
use Rattle.world_promises.proofs.AllRoles.{all_roles}
use Rattle.world_promises.specs.Telling.{Searches, acts_in, answer_acts, answer_recorded, end_acts, idle, on_server, question_acts, request_acts, told_acts}
use Rattle.world_promises.proofs.TellLemmas.{got_told, move_told, not_started_told}
use Rattle.world_promises.proofs.SearchSteps.{rest_only}

-- ---- a message is got

-- the end stands before the message, or there is none
swapped : (given : Bool) (x base : List Act) (act : Act) → (given ≡ true → x ≡ []) → (x ++ (if given then act ∷ [] else [])) ++ base ≡ ((if given then act ∷ [] else []) ++ (x ++ [])) ++ base
swapped true x base act none = ap (λ e. (e ++ act ∷ []) ++ base) (none refl) ∙ sym (ap (λ e. (act ∷ [] ++ (e ++ [])) ++ base) (none refl))
swapped false x base act none = refl

got_at : (e e' : Outcome) (answer : Gave) (b : List ℕ) (key : Option KeyEntry) (base : List Act) → (is_given answer ≡ true → end_by e e' ≡ []) → (answer ≡ g.Wait → ⊥) → (end_by e e' ++ (asks_by Nothing Nothing ++ (if is_given answer then gave b ∷ [] else []))) ++ base ≡ (told_acts (answer_text (move_answer (a.Got b) key answer)) ++ (end_by e e' ++ [])) ++ base
got_at e e' answer b key base ends_so at_once =
    swapped (is_given answer) (end_by e e') base (gave b) ends_so
    ∙ ap (λ t. (t ++ (end_by e e' ++ [])) ++ base) (sym (got_told key b answer at_once))

-- what is left by one more call, and what is recorded of it
abbrev pub Left : Need → Need → Outcome → Outcome → List Act → List Act → List Act
Left n n' e e' done base = (end_by e e' ++ (asks_by n n' ++ done)) ++ base

abbrev pub Told : Need → RpcAnswer → Outcome → Outcome → List Act → List Act → List Act
Told n' answer e e' own base = (answer_acts (phase_after n' answer) ++ (end_by e e' ++ (question_acts (phase_after n' answer) n' ++ own))) ++ base

got_by : (n n' : Need) (e e' : Outcome) (answer : Gave) (b : List ℕ) (key : Option KeyEntry) (base : List Act) → n ≡ Nothing → n' ≡ Nothing → (is_given answer ≡ true → end_by e e' ≡ []) → (answer ≡ g.Wait → ⊥) → Left n n' e e' (if is_given answer then gave b ∷ [] else []) base ≡ Told n' (move_answer (a.Got b) key answer) e e' [] base
got_by n n' e e' answer b key base none none' ends_so at_once =
    ap (λ x. Left x n' e e' (if is_given answer then gave b ∷ [] else []) base) none
    ∙ ap (λ x. Left Nothing x e e' (if is_given answer then gave b ∷ [] else []) base) none'
    ∙ got_at e e' answer b key base ends_so at_once
    ∙ sym (ap (λ x. Told x (move_answer (a.Got b) key answer) e e' [] base) none')

-- behind a call by which nothing is needed there is no search
none_after : (n : Need) (answer : RpcAnswer) → n ≡ Nothing → phase_after n answer ≡ Kept answer
none_after n answer none = ap (λ x. phase_after x answer) none

is_kept : (phase : Phase) (answer : RpcAnswer) → phase ≡ Kept answer → phase ≡ Seeking → ⊥
is_kept phase answer kept seeks = cc (sym kept ∙ seeks)

pub read_left : (begun : Option Begun) (phase : Phase) (said : Said) (word : List ℕ) (now : Standing) → need_in begun ≡ Nothing → Searches (carried_out (idle begun phase said) word rpc.reads) now → acts_in now.begun ≡ request_acts word rpc.reads (idle begun phase said) now ++ acts_in begun
read_left None phase said word now none later =
    subst (λ x. acts_in x.begun ≡ request_acts word rpc.reads (idle None phase said) x ++ []) (sym (rest_only (idle None (Kept a.NotStarted) said) now later (λ is. cc is))) (sym (ap (λ t. (t ++ []) ++ []) not_started_told))
read_left (Some b) phase said word now none later =
    let r = all_roles b.start in
    let answer = move_answer (a.Got (puts b.start b.moves get)) b.key (answers b.start b.moves get) in
    let n' = needs b.start (get ∷ b.moves) in
    let none' = r.got b.moves none in
    let behind = carried_out (idle (Some b) phase said) word rpc.reads in
    subst (λ x. acts_in x.begun ≡ request_acts word rpc.reads (idle (Some b) phase said) x ++ acts_in (Some b)) (sym (rest_only behind now later (is_kept behind.phase answer (none_after n' answer none'))))
    (got_by (needs b.start b.moves) n' (ends b.start b.moves) (ends b.start (get ∷ b.moves)) (answers b.start b.moves get) (puts b.start b.moves get) b.key (acts_in (Some b)) none none' (r.given b.moves none) (r.at_once b.moves none))

-- ---- the authentication server answers

heard_at : (n n' : Need) (e e' : Outcome) (answer : Gave) (key : Option KeyEntry) (act : Act) (base : List Act) → is_asked n ≡ true → n' ≡ Nothing → Left n n' e e' (if is_asked n then act ∷ [] else []) base ≡ Told n' (move_answer a.Ok key answer) e e' (act ∷ []) base
heard_at n n' e e' answer key act base asked none =
    ap (λ b. (end_by e e' ++ ((if b then [] else asked_now n') ++ (if b then act ∷ [] else []))) ++ base) asked
    ∙ sym (ap (λ t. (t ++ (end_by e e' ++ act ∷ [])) ++ base) (move_told key answer))
    ∙ sym (ap (λ x. Told x (move_answer a.Ok key answer) e e' (act ∷ []) base) none)

kept_outcome : (b : Begun) (starting : Bool) (said : Said) (n : Need) (answer : RpcAnswer) → n ≡ Nothing → outcome_of (record { begun = Some b; phase = phase_after n answer; starting = starting; said = said }) ≡ Some (ends b.start b.moves)
kept_outcome b true said n answer none = ap (λ x. outcome_of (record { begun = Some b; phase = phase_after x answer; starting = true; said = said })) none
kept_outcome b false said n answer none = refl

server_outcome : (b : Begun) (starting : Bool) (said : Said) → outcome_of (on_server b starting said) ≡ Some (ends b.start b.moves)
server_outcome b true said = refl
server_outcome b false said = refl

heard_by : (b : Begun) (starting : Bool) (said : Said) (call : Move) (act : Act) → is_asked (needs b.start b.moves) ≡ true → needs b.start (call ∷ b.moves) ≡ Nothing → acts_in (Some (with_move b call)) ≡ Left (needs b.start b.moves) (needs b.start (call ∷ b.moves)) (ends b.start b.moves) (ends b.start (call ∷ b.moves)) (if is_asked (needs b.start b.moves) then act ∷ [] else []) (acts_in (Some b)) → acts_in (Some (with_move b call)) ≡ answer_recorded act (on_server b starting said) (made (on_server b starting said) call (Some b)) ++ acts_in (Some b)
heard_by b starting said call act asked none is =
    let n' = needs b.start (call ∷ b.moves) in
    let answer = move_answer a.Ok b.key (answers b.start b.moves call) in
    let now = made (on_server b starting said) call (Some b) in
    is
    ∙ heard_at (needs b.start b.moves) n' (ends b.start b.moves) (ends b.start (call ∷ b.moves)) (answers b.start b.moves call) b.key act (acts_in (Some b)) asked none
    ∙ ap (λ o. (answer_acts (phase_after n' answer) ++ (end_acts o (Some (ends b.start (call ∷ b.moves))) ++ (question_acts (phase_after n' answer) n' ++ act ∷ []))) ++ acts_in (Some b)) (sym (server_outcome b starting said))
    ∙ ap (λ o. (answer_acts (phase_after n' answer) ++ (end_acts (outcome_of (on_server b starting said)) o ++ (question_acts (phase_after n' answer) n' ++ act ∷ []))) ++ acts_in (Some b)) (sym (kept_outcome (with_move b call) starting said n' answer none))

pub heard_left : (b : Begun) (starting : Bool) (said : Said) (bytes : List ℕ) → is_asked (needs b.start b.moves) ≡ true → acts_in (Some (with_move b (heard bytes))) ≡ answer_recorded (answered bytes) (on_server b starting said) (made (on_server b starting said) (heard bytes) (Some b)) ++ acts_in (Some b)
heard_left b starting said bytes asked = heard_by b starting said (heard bytes) (answered bytes) asked ((all_roles b.start).answered b.moves bytes asked) refl

pub unheard_left : (b : Begun) (starting : Bool) (said : Said) → is_asked (needs b.start b.moves) ≡ true → acts_in (Some (with_move b unheard)) ≡ answer_recorded unanswered (on_server b starting said) (made (on_server b starting said) unheard (Some b)) ++ acts_in (Some b)
unheard_left b starting said asked = heard_by b starting said unheard unanswered asked ((all_roles b.start).unanswered b.moves asked) refl
