-- What steps say of their conversation, in the words of its acts.
use Rattle.std.proofs.Common.{◌≡◌, ℕ, ◌+◌, List, [], ◌∷◌, ◌++◌, map, length, drop, reverse, codes, Option, Some, None, is_some, Bool, true, false, not, ◌&&◌, if◌then◌else◌, refl, sym, ap, ◌∙◌}
use Rattle.std.specs.Str.{bytes_eq}
use Rattle.std.proofs.lemmas.List.{append_assoc, append-nil}
use Rattle.std.proofs.lemmas.Slice.Eq.{bytes_eq-Decides}
use Rattle.nine.specs.declared.message.RMsg.{RMsg}
use Rattle.nine.specs.declared.message.RBody.{RBody}
use Rattle.nine.specs.declared.message.RBody.TheVariants as r
use Rattle.key_lists.specs.CtlLines.{few_of}
use Rattle.roles.specs.declared.need.Need.{Need}
use Rattle.roles.specs.declared.need.Need.TheVariants.{Nothing, Key, Offers, Pick, Exchange}
use Rattle.roles.specs.declared.need.Outcome.{Outcome}
use Rattle.roles.specs.declared.need.Outcome.TheVariants.{Running, Accepted, Finished, Broken}
use Rattle.roles.specs.Starts.{start_with}
use Rattle.wire_histories.specs.declared.step.Step.{Step}
use Rattle.wire_histories.specs.declared.step.Step.TheVariants as s
use Rattle.talks.specs.Lines.{is_end}
use Rattle.talks.specs.Standings.{Phase, Resting, Waiting, Seeking, OnConfirm, OnNeedkey, OnServer, Kept, Standing, need_in, outcome_of}
use Rattle.wire_histories.specs.Histories.{Act, acts_of, act_in, asked, gave, if_named, took}
use Rattle.wire_histories.specs.Conversations.{asked_now, started_by}
use Rattle.auth_server.specs.Requests.{is_served, kind_of}
use Rattle.auth_server.specs.Answers.{Posed, answer_in, is_over_in}
use Rattle.world_history.specs.Turns.{refused_by, told_steps}
use Rattle.world_history.specs.Worlds.{session_steps}
use Rattle.world_history.specs.declared.question.Question.{Question}
use Rattle.world_history.specs.Talking.{Asks, Came, all_reply_steps, answer_steps, ask_steps, begins, breaks, end_of, end_steps, following, gets, gives, is_out, is_taken, is_taken_by, own_steps, reply_steps, start_step, starts, tuple_in, word_of}
use Rattle.world_promises.specs.Telling.{answer_acts, answer_recorded, end_acts, end_in, is_taken_in, own_acts, question_acts, request_acts, told_acts}
use Rattle.world_promises.specs.Agents.{Answers, Comes, reads_all, reads_none, GiveNothing, answers_in, asked_as, asked_in, bodies, is_read, question_in, questions_in}
use Rattle.world_promises.proofs.StepLemmas.{acts_behind}

-- what steps say of a conversation, the newest first
abbrev pub said : List ℕ → List Step → List Act
said conv steps = acts_of conv (reverse steps)

pub its_own : (conv : List ℕ) (act : Act) → if_named conv conv act ≡ act ∷ []
its_own conv act = ap (λ b. if b then act ∷ [] else []) ((bytes_eq-Decides conv conv).1 refl)

-- one step of it
pub said_one : (conv : List ℕ) (act : Act) (more : List Act) → if_named conv conv act ++ more ≡ act ∷ more
said_one conv act more = ap (λ xs. xs ++ more) (its_own conv act)

-- ---- questions

abbrev asked_all : List (List ℕ) → List Act
asked_all [] = []
asked_all (b ∷ more) = asked_all more ++ asked b ∷ []

asked_said : (from : ℕ) (conv : List ℕ) (qs : List Question) → said conv (ask_steps from conv qs) ≡ asked_all (map (λ q. q.bytes) qs)
asked_said from conv [] = refl
asked_said from conv (q ∷ more) =
    acts_behind conv (s.Ask from conv q.bytes ∷ []) (ask_steps (from + 1) conv more)
    ∙ ap (λ xs. xs ++ (if_named conv conv (asked q.bytes) ++ [])) (asked_said (from + 1) conv more)
    ∙ ap (λ xs. asked_all (map (λ x. x.bytes) more) ++ xs) (said_one conv (asked q.bytes) [])

question_said : (need : Need) → asked_all (question_in need) ≡ asked_now need
question_said Nothing = refl
question_said (Key template) = refl
question_said (Offers template) = refl
question_said (Pick templates) = refl
question_said (Exchange request shape) = refl

questions_said : (phase : Phase) (need : Need) → asked_all (questions_in phase need) ≡ question_acts phase need
questions_said OnServer need = question_said need
questions_said Resting need = refl
questions_said (Waiting request) need = refl
questions_said Seeking need = refl
questions_said (OnConfirm serial) need = refl
questions_said OnNeedkey need = refl
questions_said (Kept answer) need = refl

-- ---- ends

end_said : (conv : List ℕ) (o : Option Outcome) → said conv (end_of conv o) ≡ end_in o
end_said conv None = refl
end_said conv (Some Running) = refl
end_said conv (Some Finished) = refl
end_said conv (Some (Accepted info)) = said_one conv _ []
end_said conv (Some (Broken cause)) = said_one conv _ []

unless_said : (conv : List ℕ) (over : Bool) (steps : List Step) (acts : List Act) → said conv steps ≡ acts → said conv (if over then [] else steps) ≡ (if over then [] else acts)
unless_said conv true steps acts so = refl
unless_said conv false steps acts so = so

ends_said : (conv : List ℕ) (before now : Option Outcome) → said conv (end_steps conv before now) ≡ end_acts before now
ends_said conv before now = unless_said conv (is_end before) (end_of conv now) (end_in now) (end_said conv now)

-- ---- replies

text_said : (ok message broke : Bool) (from : ℕ) (conv text : List ℕ) → said conv (if ok then [] else if message then s.Out from conv (drop 3 text) ∷ [] else if broke then [] else s.Reply conv text ∷ []) ≡ (if ok then [] else if message then gave (drop 3 text) ∷ [] else [])
text_said true message broke from conv text = refl
text_said false true broke from conv text = said_one conv (gave (drop 3 text)) []
text_said false false true from conv text = refl
text_said false false false from conv text = refl

answer_said : (from : ℕ) (conv : List ℕ) (broke : Bool) (text : List ℕ) → said conv (answer_steps from conv broke text) ≡ told_acts text
unfolding answer_steps
answer_said from conv broke text = text_said (bytes_eq text (codes "ok")) (begins (codes "ok ") text) broke from conv text

abbrev told_body : RBody → List Act
told_body (r.Read text) = told_acts text
told_body body = []

abbrev told_all : List RBody → List Act
told_all [] = []
told_all (body ∷ more) = told_all more ++ told_body body

body_said : (from : ℕ) (conv : List ℕ) (broke : Bool) (body : RBody) → said conv (reply_steps from conv broke body) ≡ told_body body
body_said from conv broke (r.Read text) = answer_said from conv broke text
body_said from conv broke (r.Error text) = refl
body_said from conv broke body = refl

replies_said : (from : ℕ) (conv : List ℕ) (broke : Bool) (replies : List RMsg) → said conv (all_reply_steps from conv broke replies) ≡ told_all (map (λ m. m.body) replies)
replies_said from conv broke [] = refl
replies_said from conv broke (m ∷ more) =
    let first = reply_steps from conv broke m.body in
    acts_behind conv first (all_reply_steps (from + is_out first) conv broke more)
    ∙ ap (λ xs. xs ++ said conv first) (replies_said (from + is_out first) conv broke more)
    ∙ ap (λ xs. told_all (map (λ x. x.body) more) ++ xs) (body_said from conv broke m.body)

answers_said : (phase : Phase) → told_all (answers_in phase) ≡ answer_acts phase
answers_said (Kept answer) = refl
answers_said Resting = refl
answers_said (Waiting request) = refl
answers_said Seeking = refl
answers_said (OnConfirm serial) = refl
answers_said OnNeedkey = refl
answers_said OnServer = refl

comes_said : (told : List RBody) (phase : Phase) → Answers told phase → told_all told ≡ answer_acts phase
comes_said told phase (reads_all is) = ap told_all is ∙ answers_said phase
comes_said told phase (reads_none text is none) = ap told_all is ∙ sym none

nothing_body : (body : RBody) → is_read body ≡ false → told_body body ≡ []
nothing_body (r.Read text) none = cc none
nothing_body body none = refl

pub nothing_said : (from : ℕ) (conv : List ℕ) (broke : Bool) (replies : List RMsg) → GiveNothing replies → said conv (all_reply_steps from conv broke replies) ≡ []
nothing_said from conv broke replies none = replies_said from conv broke replies ∙ nothing replies none
  where
    nothing : (some : List RMsg) → GiveNothing some → told_all (map (λ m. m.body) some) ≡ []
    nothing [] so = refl
    nothing (m ∷ more) so = ap (λ xs. xs ++ told_body m.body) (nothing more so.1) ∙ nothing_body m.body so.0

-- ---- what follows on an event

following_parts : (from : ℕ) (conv : List ℕ) (c : Came) → said conv (following from conv c) ≡ told_all (bodies c) ++ (end_acts c.before c.now ++ asked_all (asked_in c))
following_parts from conv c =
    let ask = ask_steps from conv c.questions in
    let end = end_steps conv c.before c.now in
    let replies = all_reply_steps (from + length c.questions) conv (breaks c.before c.now) c.replies in
    acts_behind conv (ask ++ end) replies
    ∙ ap (λ xs. said conv replies ++ xs) (acts_behind conv ask end)
    ∙ ap (λ xs. xs ++ (said conv end ++ said conv ask)) (replies_said (from + length c.questions) conv (breaks c.before c.now) c.replies)
    ∙ ap (λ xs. told_all (bodies c) ++ (xs ++ said conv ask)) (ends_said conv c.before c.now)
    ∙ ap (λ xs. told_all (bodies c) ++ (end_acts c.before c.now ++ xs)) (asked_said from conv c.questions)

-- by how the conversation stood and stands
pub following_said : (from : ℕ) (conv : List ℕ) (c : Came) (before now : Standing) → Comes c before now → said conv (following from conv c) ≡ answer_acts now.phase ++ (end_acts (outcome_of before) (outcome_of now) ++ question_acts now.phase (need_in now.begun))
following_said from conv c before now so =
    following_parts from conv c
    ∙ ap (λ xs. xs ++ (end_acts c.before c.now ++ asked_all (asked_in c))) (comes_said (bodies c) now.phase so.replies)
    ∙ ap (λ xs. answer_acts now.phase ++ (end_acts c.before c.now ++ asked_all xs)) so.questions
    ∙ ap (λ xs. answer_acts now.phase ++ (end_acts c.before c.now ++ xs)) (questions_said now.phase (need_in now.begun))
    ∙ ap (λ o. answer_acts now.phase ++ (end_acts o c.now ++ question_acts now.phase (need_in now.begun))) so.before
    ∙ ap (λ o. answer_acts now.phase ++ (end_acts (outcome_of before) o ++ question_acts now.phase (need_in now.begun))) so.now

-- four lists one behind the other
regrouped : (a b c d : List Act) → (a ++ (b ++ c)) ++ d ≡ a ++ (b ++ (c ++ d))
regrouped a b c d = append_assoc a (b ++ c) d ∙ ap (λ xs. a ++ xs) (append_assoc b c d)

-- the step of an answer of the authentication server, or of its absence
pub heard_said : (from : ℕ) (conv : List ℕ) (c : Came) (before now : Standing) (step : Step) (act : Act) → act_in conv step ≡ if_named conv conv act → Comes c before now → said conv (step ∷ following from conv c) ≡ answer_recorded act before now
heard_said from conv c before now step act is so =
    acts_behind conv (step ∷ []) (following from conv c)
    ∙ ap (λ xs. said conv (following from conv c) ++ (xs ++ [])) is
    ∙ ap (λ xs. said conv (following from conv c) ++ xs) (said_one conv act [])
    ∙ ap (λ xs. xs ++ act ∷ []) (following_said from conv c before now so)
    ∙ regrouped (answer_acts now.phase) (end_acts (outcome_of before) (outcome_of now)) (question_acts now.phase (need_in now.begun)) (act ∷ [])

-- ---- the step of the request itself

if_said : (conv : List ℕ) (b : Bool) (step : Step) (act : Act) → (b ≡ true → act_in conv step ≡ act ∷ []) → said conv (if b then step ∷ [] else []) ≡ (if b then act ∷ [] else [])
if_said conv true step act is = ap (λ xs. xs ++ []) (is refl)
if_said conv false step act is = refl

-- of a start its step names what its template names
pub own_said : (conv : List ℕ) (what : Asks) (c : Came) (before now : Standing) → Comes c before now → is_taken c.replies ≡ is_taken_in now.phase → ((word tuple : List ℕ) → what ≡ starts word tuple → (not (is_some (outcome_of before)) && is_some (outcome_of now)) ≡ true → act_in conv (start_step conv word tuple) ≡ started_by (start_with (tuple_in (few_of tuple)) word) ∷ []) → said conv (own_steps conv what c) ≡ own_acts (word_of what) (asked_as what) before now
own_said conv (starts word tuple) c before now so taken named =
    ap (λ o. said conv (if not (is_some o) && is_some c.now then start_step conv word tuple ∷ [] else [])) so.before
    ∙ ap (λ o. said conv (if not (is_some (outcome_of before)) && is_some o then start_step conv word tuple ∷ [] else [])) so.now
    ∙ if_said conv (not (is_some (outcome_of before)) && is_some (outcome_of now)) (start_step conv word tuple) (started_by (start_with (tuple_in (few_of tuple)) word)) (named word tuple refl)
own_said conv gets c before now so taken named = refl
own_said conv (gives bytes) c before now so taken named =
    ap (λ b. said conv (if b then s.In conv bytes ∷ [] else [])) taken
    ∙ if_said conv (is_taken_in now.phase) (s.In conv bytes) (took bytes) (λ is. its_own conv (took bytes))

pub request_said : (from : ℕ) (conv : List ℕ) (what : Asks) (c : Came) (before now : Standing) → Comes c before now → said conv (own_steps conv what c) ≡ own_acts (word_of what) (asked_as what) before now → said conv (own_steps conv what c ++ following from conv c) ≡ request_acts (word_of what) (asked_as what) before now
request_said from conv what c before now so own =
    acts_behind conv (own_steps conv what c) (following from conv c)
    ∙ ap (λ xs. said conv (following from conv c) ++ xs) own
    ∙ ap (λ xs. xs ++ own_acts (word_of what) (asked_as what) before now) (following_said from conv c before now so)
    ∙ regrouped (answer_acts now.phase) (end_acts (outcome_of before) (outcome_of now)) (question_acts now.phase (need_in now.begun)) (own_acts (word_of what) (asked_as what) before now)

-- ---- a read that is refused

same_end : (o : Option Outcome) → end_acts o o ≡ []
same_end None = refl
same_end (Some Running) = refl
same_end (Some Finished) = refl
same_end (Some (Accepted info)) = refl
same_end (Some (Broken cause)) = refl

no_start : (o : Option Outcome) → (not (is_some o) && is_some o) ≡ false
no_start None = refl
no_start (Some outcome) = refl

untaken : (replies : List RMsg) (text : List ℕ) → map (λ m. m.body) replies ≡ r.Error text ∷ [] → is_taken replies ≡ false
untaken [] text is = cc is
untaken (m ∷ more) text is = first m.body (map (λ x. x.body) more) is
  where
    first : (body : RBody) (bodies : List RBody) → body ∷ bodies ≡ r.Error text ∷ [] → is_taken_by body ≡ false
    first (r.Read other) bodies so = cc so
    first body bodies so = refl

refused_own : (conv : List ℕ) (what : Asks) (c : Came) (text : List ℕ) → bodies c ≡ r.Error text ∷ [] → c.now ≡ c.before → said conv (own_steps conv what c) ≡ []
refused_own conv (starts word tuple) c text replies same =
    ap (λ o. said conv (if not (is_some c.before) && is_some o then start_step conv word tuple ∷ [] else [])) same
    ∙ ap (λ b. said conv (if b then start_step conv word tuple ∷ [] else [])) (no_start c.before)
refused_own conv gets c text replies same = refl
refused_own conv (gives bytes) c text replies same = ap (λ b. said conv (if b then s.In conv bytes ∷ [] else [])) (untaken c.replies text replies)

pub refused_said : (from : ℕ) (conv : List ℕ) (what : Asks) (c : Came) (text : List ℕ) → bodies c ≡ r.Error text ∷ [] → asked_in c ≡ [] → c.now ≡ c.before → said conv (own_steps conv what c ++ following from conv c) ≡ []
refused_said from conv what c text replies questions same =
    acts_behind conv (own_steps conv what c) (following from conv c)
    ∙ ap (λ xs. said conv (following from conv c) ++ xs) (refused_own conv what c text replies same)
    ∙ append-nil (said conv (following from conv c))
    ∙ following_parts from conv c
    ∙ ap (λ xs. told_all xs ++ (end_acts c.before c.now ++ asked_all (asked_in c))) replies
    ∙ ap (λ xs. end_acts c.before c.now ++ asked_all xs) questions
    ∙ append-nil (end_acts c.before c.now)
    ∙ ap (end_acts c.before) same
    ∙ same_end c.before

-- ---- lines of ctl

refused_by_none : (conv node : List ℕ) (body : RBody) → said conv (refused_by node body) ≡ []
refused_by_none conv node (r.Error text) = refl
refused_by_none conv node body = refl

pub told_none : (conv node : List ℕ) (replies : List RMsg) → said conv (told_steps node replies) ≡ []
told_none conv node [] = refl
told_none conv node (m ∷ more) =
    acts_behind conv (refused_by node m.body) (told_steps node more)
    ∙ ap (λ xs. xs ++ said conv (refused_by node m.body)) (told_none conv node more)
    ∙ refused_by_none conv node m.body

-- ---- sessions

pub session_none : (conv : List ℕ) (number : ℕ) (session : List ℕ) (before : List Posed) (p : Posed) → said conv (session_steps number session before p) ≡ []
unfolding session_steps
session_none conv number session before p = by_tests (is_served (kind_of p.asked.request)) (is_over_in (p ∷ before))
  where
    by_tests : (served over : Bool) → said conv (s.AsGot session p.asked.request p.asked.words ∷ (if served then s.AsGave number session (answer_in before p) ∷ (if over then s.AsEnd session ∷ [] else []) else s.AsEnd session ∷ [])) ≡ []
    by_tests true true = refl
    by_tests true false = refl
    by_tests false over = refl
