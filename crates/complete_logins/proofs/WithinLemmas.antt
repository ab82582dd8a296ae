-- Once p9any has led to p9sk1, a call is one of that role's talk: answers, bytes, needs and ends are that role's.
use Rattle.std.proofs.Common.{◌≡◌, ℕ, List, [], ◌∷◌, ◌++◌, refl, sym, ap, subst, ◌∙◌}
use Rattle.roles.specs.declared.answer.Gave.{Gave}
use Rattle.roles.specs.Courses as sk
use Rattle.roles.specs.Courses.{answer_of, bytes_of, need_unless, outcome_unless, then_course}
use Rattle.roles.specs.Starts.{Start}
use Rattle.roles.specs.Talks.{Call, give, get, found, heard, unheard, roomless, undone, offered, picked, goes}
use Rattle.conv_p9any.specs.declared.stage.Stage.{Stage}
use Rattle.conv_p9any.specs.Courses.{answer_after, chosen_start, course, ended_after, is_last, move, need_after, need_of, outcome_after, outcome_of, passed_on, puts_after}
use Rattle.conv_p9any.specs.Talks.{Standing, within}
use Rattle.complete_logins.specs.Calls.{AllWell, IsWell}
use Rattle.complete_logins.specs.Choices.{p9sk1}
use Rattle.complete_logins.proofs.PassLemmas.{Passed, at, passes}

abbrev pub Passes : Start → List Call → Call → Standing → Gave → List ℕ → Type 0
Passes start before call next given bytes = Passed (course p9sk1 start (call ∷ before)) (answer_after p9sk1 start before call) (puts_after p9sk1 start before call) next given bytes

pub passes_by : (start : Start) (before : List Call) (call : Call) (standing next : Standing) (given : Gave) (bytes : List ℕ) → course p9sk1 start before ≡ at standing → move p9sk1 start standing call ≡ goes next given bytes → Passes start before call next given bytes
passes_by start before call standing next given bytes here moves = passes (λ s. move p9sk1 start s call) (course p9sk1 start before) standing next given bytes here moves

-- calls that the role meets
abbrev pub IsInner : Call → Type 0
IsInner undone = ⊥
IsInner (offered list) = ⊥
IsInner (picked place) = ⊥
IsInner call = Unit {0}

abbrev pub AllInner : List Call → Type 0
AllInner [] = Unit {0}
AllInner (call ∷ talk) = IsInner call × AllInner talk

-- what was met led to the role, by a stage and a text, and its start is this
pub record Leads (start : Start) (met : List Call) (inner : Start) : Type 0 where
  pub stage : Stage
  pub text : List ℕ
  pub course : course p9sk1 start met ≡ at (within stage text [])
  pub chosen : chosen_start p9sk1 start text ≡ inner

hands_on : (start : Start) (stage : Stage) (text : List ℕ) (talk : List Call) (call : Call) → IsInner call → move p9sk1 start (within stage text talk) call ≡ passed_on p9sk1 start stage text talk call
hands_on start stage text talk (give bytes) inner = refl
hands_on start stage text talk get inner = refl
hands_on start stage text talk (found key password) inner = refl
hands_on start stage text talk (heard bytes) inner = refl
hands_on start stage text talk unheard inner = refl
hands_on start stage text talk roomless inner = refl
hands_on start stage text talk undone inner = absurd inner
hands_on start stage text talk (offered list) inner = absurd inner
hands_on start stage text talk (picked place) inner = absurd inner

course_within : (start : Start) (met : List Call) (inner : Start) (led : Leads start met inner) (talk : List Call) → AllInner talk → course p9sk1 start (talk ++ met) ≡ at (within led.stage led.text talk)
course_within start met inner led [] all = led.course
course_within start met inner led (call ∷ talk) all =
    (passes_by start (talk ++ met) call (within led.stage led.text talk) (within led.stage led.text (call ∷ talk)) (sk.answer_after (chosen_start p9sk1 start led.text) talk call) (sk.puts_after (chosen_start p9sk1 start led.text) talk call)
    (course_within start met inner led talk all.1) (hands_on start led.stage led.text talk call all.0)).course

-- what a call behind it is answered, and what is got
pub call_within : (start : Start) (met : List Call) (inner : Start) → Leads start met inner → (talk : List Call) → AllInner talk → (call : Call) → IsInner call → (answer_after p9sk1 start (talk ++ met) call ≡ sk.answer_after inner talk call) × (puts_after p9sk1 start (talk ++ met) call ≡ sk.puts_after inner talk call)
call_within start met inner led talk all call is =
    let passed = passes_by start (talk ++ met) call (within led.stage led.text talk) (within led.stage led.text (call ∷ talk)) (sk.answer_after (chosen_start p9sk1 start led.text) talk call) (sk.puts_after (chosen_start p9sk1 start led.text) talk call)
    (course_within start met inner led talk all) (hands_on start led.stage led.text talk call is) in
    (passed.answer ∙ ap (λ s. sk.answer_after s talk call) led.chosen, passed.puts ∙ ap (λ s. sk.puts_after s talk call) led.chosen)

pub need_within : (start : Start) (met : List Call) (inner : Start) → Leads start met inner → (talk : List Call) → AllInner talk → need_after p9sk1 start (talk ++ met) ≡ sk.need_after inner talk
need_within start met inner led talk all = ap (λ p. need_unless p.broken (need_of p9sk1 start p.stage)) (course_within start met inner led talk all) ∙ ap (λ s. sk.need_after s talk) led.chosen

pub outcome_within : (start : Start) (met : List Call) (inner : Start) → Leads start met inner → (talk : List Call) → AllInner talk → outcome_after p9sk1 start (talk ++ met) ≡ sk.outcome_after inner talk
outcome_within start met inner led talk all = ap (λ p. outcome_unless p.broken (outcome_of p9sk1 start p.stage)) (course_within start met inner led talk all) ∙ ap (λ s. sk.outcome_after s talk) led.chosen

pub ended_within : (start : Start) (met : List Call) (inner : Start) → Leads start met inner → (talk : List Call) → AllInner talk → ended_after p9sk1 start (talk ++ met) ≡ sk.ended_after inner talk
ended_within start met inner led talk all = ap (λ p. is_last p9sk1 start p.stage) (course_within start met inner led talk all) ∙ ap (λ s. sk.ended_after s talk) led.chosen

-- where the role's calls are answered well, and what was met before was, all is
pub well_within : (start : Start) (met : List Call) (inner : Start) → Leads start met inner → AllWell (answer_after p9sk1 start) met → (talk : List Call) → AllInner talk → AllWell (sk.answer_after inner) talk → AllWell (answer_after p9sk1 start) (talk ++ met)
well_within start met inner led before [] all well = before
well_within start met inner led before (call ∷ talk) all well =
    (subst IsWell (sym (call_within start met inner led talk all.1 call all.0).0) well.0, well_within start met inner led before talk all.1 well.1)
