-- Whom the steps of an act concern: those of what is done to an agent concern one conversation and no session.
use Rattle.std.proofs.Common.{◌≡◌, ℕ, ◌+◌, List, [], ◌∷◌, ◌++◌, ◌||◌, length, drop, reverse, codes, Option, Some, None, Bool, true, false, if◌then◌else◌, refl, sym, ap, subst, ◌∙◌}
use Rattle.std.specs.List.{list_any}
use Rattle.std.specs.Str.{bytes_eq}
use Rattle.std.proofs.lemmas.List.{append_assoc, reverse-append}
use Rattle.nine.specs.declared.message.RMsg.{RMsg}
use Rattle.nine.specs.declared.message.RBody.{RBody}
use Rattle.nine.specs.declared.message.RBody.TheVariants as r
use Rattle.roles.specs.declared.need.Outcome.{Outcome}
use Rattle.roles.specs.declared.need.Outcome.TheVariants.{Running, Accepted, Finished, Broken}
use Rattle.wire_histories.specs.declared.step.Step.{Step}
use Rattle.wire_histories.specs.declared.step.Step.TheVariants as s
use Rattle.talks.specs.Lines.{is_end}
use Rattle.agent_history.specs.declared.event.Event.TheVariants.{NoAnswer}
use Rattle.agent_history.specs.declared.event.Event.TheVariants as events
use Rattle.agent_history.specs.Histories.{History}
use Rattle.wire_histories.specs.Histories.{Act as Does, Deal, act_in, acts_of, deal_in, deals_of, is_of, reloads_in}
use Rattle.wire_histories.proofs.RestartLemmas.{is_restart}
use Rattle.wire_histories.specs.Histories as w
use Rattle.world_history.specs.declared.question.Question.{Question}
use Rattle.world_history.specs.Driving.{clunks, drive, is_refused, reads, replies_to, writes}
use Rattle.world_history.specs.Talking.{Asks, Came, all_reply_steps, answer_steps, ask_steps, begins, breaks, came, end_of, end_steps, following, gets, gives, is_out, is_taken, own_steps, reply_steps, request_steps, request_text, start_step, starts, word_of}
use Rattle.world_promises.specs.Agents.{conv_in}
use Rattle.world_history.specs.Turns.{Turn, asks, closes, hears, lets_open, misses, refused_by, tells, told_steps, turn_steps}

-- a step is one of the conversation of a name, or is one of a node
abbrev pub Concerns : List ℕ → Step → Type 0
Concerns conv (s.Start name protocol role word) = name ≡ conv
Concerns conv (s.Out number name bytes) = name ≡ conv
Concerns conv (s.In name bytes) = name ≡ conv
Concerns conv (s.Ask number name bytes) = name ≡ conv
Concerns conv (s.Heard name bytes) = name ≡ conv
Concerns conv (s.Unheard name) = name ≡ conv
Concerns conv (s.Accept name cuid suid) = name ≡ conv
Concerns conv (s.Fail name cause) = name ≡ conv
Concerns conv (s.Reply name text) = name ≡ conv
Concerns conv (s.Refused node text) = Unit {0}
Concerns conv (s.AsGot session bytes words) = ⊥
Concerns conv (s.AsGave number session bytes) = ⊥
Concerns conv (s.AsEnd session) = ⊥
Concerns conv (s.Restart node) = ⊥
Concerns conv s.Reload = ⊥

abbrev pub Each : List ℕ → List Step → Type 0
Each conv [] = Unit {0}
Each conv (step ∷ more) = Concerns conv step × Each conv more

each_append : (conv : List ℕ) (front rest : List Step) → Each conv front → Each conv rest → Each conv (front ++ rest)
each_append conv [] rest so later = later
each_append conv (step ∷ front) rest so later = (so.0, each_append conv front rest so.1 later)

each_choice : (conv : List ℕ) (b : Bool) (x y : List Step) → Each conv x → Each conv y → Each conv (if b then x else y)
each_choice conv true x y first second = first
each_choice conv false x y first second = second

-- ---- what follows on an event

asked_each : (from : ℕ) (conv : List ℕ) (qs : List Question) → Each conv (ask_steps from conv qs)
asked_each from conv [] = tt
asked_each from conv (q ∷ more) = (refl, asked_each (from + 1) conv more)

end_each : (conv : List ℕ) (o : Option Outcome) → Each conv (end_of conv o)
end_each conv None = tt
end_each conv (Some Running) = tt
end_each conv (Some Finished) = tt
end_each conv (Some (Accepted info)) = (refl, tt)
end_each conv (Some (Broken cause)) = (refl, tt)

ends_each : (conv : List ℕ) (before now : Option Outcome) → Each conv (end_steps conv before now)
ends_each conv before now = each_choice conv (is_end before) [] (end_of conv now) tt (end_each conv now)

answer_each : (from : ℕ) (conv : List ℕ) (broke : Bool) (text : List ℕ) → Each conv (answer_steps from conv broke text)
unfolding answer_steps
answer_each from conv broke text =
    let last = if broke then [] else s.Reply conv text ∷ [] in
    let out = s.Out from conv (drop 3 text) ∷ [] in
    each_choice conv (bytes_eq text (codes "ok")) [] (if begins (codes "ok ") text then out else last) tt
    (each_choice conv (begins (codes "ok ") text) out last (refl, tt)
    (each_choice conv broke [] (s.Reply conv text ∷ []) tt (refl, tt)))

reply_each : (from : ℕ) (conv : List ℕ) (broke : Bool) (body : RBody) → Each conv (reply_steps from conv broke body)
reply_each from conv broke (r.Read text) = answer_each from conv broke text
reply_each from conv broke (r.Error text) = (refl, tt)
reply_each from conv broke body = tt

all_reply_each : (from : ℕ) (conv : List ℕ) (broke : Bool) (replies : List RMsg) → Each conv (all_reply_steps from conv broke replies)
all_reply_each from conv broke [] = tt
all_reply_each from conv broke (m ∷ more) =
    let first = reply_steps from conv broke m.body in
    each_append conv first (all_reply_steps (from + is_out first) conv broke more) (reply_each from conv broke m.body) (all_reply_each (from + is_out first) conv broke more)

follow_each : (from : ℕ) (conv : List ℕ) (c : Came) → Each conv (following from conv c)
follow_each from conv c =
    each_append conv (ask_steps from conv c.questions ++ end_steps conv c.before c.now) (all_reply_steps (from + length c.questions) conv (breaks c.before c.now) c.replies)
    (each_append conv (ask_steps from conv c.questions) (end_steps conv c.before c.now) (asked_each from conv c.questions) (ends_each conv c.before c.now))
    (all_reply_each (from + length c.questions) conv (breaks c.before c.now) c.replies)

-- ---- what is done to an agent

refused_each : (conv node : List ℕ) (body : RBody) → Each conv (refused_by node body)
refused_each conv node (r.Error text) = (tt, tt)
refused_each conv node body = tt

pub told_each : (conv node : List ℕ) (replies : List RMsg) → Each conv (told_steps node replies)
told_each conv node [] = tt
told_each conv node (m ∷ more) = each_append conv (refused_by node m.body) (told_steps node more) (refused_each conv node m.body) (told_each conv node more)

own_each : (conv : List ℕ) (what : Asks) (c : Came) → Each conv (own_steps conv what c)
unfolding start_step
own_each conv (starts word tuple) c = each_choice conv _ (start_step conv word tuple ∷ []) [] (refl, tt) tt
own_each conv gets c = tt
own_each conv (gives bytes) c = each_choice conv (is_taken c.replies) (s.In conv bytes ∷ []) [] (refl, tt) tt

request_each : (from : ℕ) (conv : List ℕ) (fid : ℕ) (what : Asks) (h : History) → Each conv (request_steps from conv fid what h)
request_each from conv fid what h =
    let write = writes fid (request_text what) in
    let c = came fid (reads fid (word_of what)) (drive write h) in
    each_choice conv (is_refused (replies_to write h)) (all_reply_steps from conv false (replies_to write h)) (own_steps conv what c ++ following from conv c)
    (all_reply_each from conv false (replies_to write h))
    (each_append conv (own_steps conv what c) (following from conv c) (own_each conv what c) (follow_each from conv c))

pub turn_each : (from : ℕ) (turn : Turn) (h : History) → Each (conv_in turn) (turn_steps from turn h)
unfolding turn_steps
turn_each from (tells node line) h = told_each [] node (replies_to (writes 1 line) h)
turn_each from (lets_open fid) h = tt
turn_each from (asks conv fid what) h = request_each from conv fid what h
turn_each from (hears conv fid call bytes) h = (refl, follow_each from conv (came fid (events.Answer call bytes) h))
turn_each from (misses conv fid call) h = (refl, follow_each from conv (came fid (NoAnswer call) h))
turn_each from (closes conv fid) h = all_reply_each from conv false (replies_to (clunks fid) h)

-- ---- records

pub acts_append : (name : List ℕ) (later past : List Step) → acts_of name (later ++ past) ≡ acts_of name later ++ acts_of name past
acts_append name [] past = refl
acts_append name (step ∷ later) past = ap (λ xs. act_in name step ++ xs) (acts_append name later past) ∙ sym (append_assoc (act_in name step) (acts_of name later) (acts_of name past))

-- steps by which the tables stay as they are, and no node is restarted
abbrev pub stays : Step → Bool
stays (s.Restart node) = false
stays s.Reload = false
stays step = true

abbrev pub AllStay : List Step → Type 0
AllStay [] = Unit {0}
AllStay (step ∷ more) = (stays step ≡ true) × AllStay more

pub stay_append : (front rest : List Step) → AllStay front → AllStay rest → AllStay (front ++ rest)
stay_append [] rest so later = later
stay_append (step ∷ front) rest so later = (so.0, stay_append front rest so.1 later)

pub stay_reversed : (steps : List Step) → AllStay steps → AllStay (reverse steps)
stay_reversed [] so = tt
stay_reversed (step ∷ more) so = subst AllStay (sym (reverse-append (step ∷ []) more)) (stay_append (reverse more) (step ∷ []) (stay_reversed more so.1) (so.0, tt))

step_stays : (conv : List ℕ) (step : Step) → Concerns conv step → stays step ≡ true
step_stays conv (s.Restart node) so = elim so [ ]
step_stays conv s.Reload so = elim so [ ]
step_stays conv step so = refl

pub each_stays : (conv : List ℕ) (steps : List Step) → Each conv steps → AllStay steps
each_stays conv [] so = tt
each_stays conv (step ∷ more) so = (step_stays conv step so.0, each_stays conv more so.1)

one_reload : (step : Step) (past : List Step) → stays step ≡ true → reloads_in (step ∷ past) ≡ reloads_in past
one_reload (s.Restart node) past so = cc so
one_reload s.Reload past so = cc so
one_reload step past so = refl

pub no_reload : (steps past : List Step) → AllStay steps → reloads_in (steps ++ past) ≡ reloads_in past
no_reload [] past so = refl
no_reload (step ∷ more) past so = one_reload step (more ++ past) so.0 ∙ no_reload more past so.1

one_restart : (step : Step) → stays step ≡ true → is_restart step ≡ false
one_restart (s.Restart node) so = cc so
one_restart step so = refl

pub no_restart : (steps : List Step) → AllStay steps → list_any is_restart steps ≡ false
no_restart [] so = refl
no_restart (step ∷ more) so = ap (λ (b : Bool). b || list_any is_restart more) (one_restart step so.0) ∙ no_restart more so.1

-- what steps say of a session while the tables of a number are in force
abbrev pub deals_at : ℕ → List ℕ → List Step → List Deal
deals_at n name [] = []
deals_at n name (step ∷ past) = deal_in n name step ++ deals_at n name past

-- steps by which the tables stay as they are, behind others
pub deals_front : (name : List ℕ) (front past : List Step) → AllStay front → deals_of name (front ++ past) ≡ deals_at (reloads_in past) name front ++ deals_of name past
deals_front name [] past so = refl
deals_front name (step ∷ front) past so =
    ap (λ n. deal_in n name step ++ deals_of name (front ++ past)) (no_reload front past so.1)
    ∙ (ap (λ xs. deal_in (reloads_in past) name step ++ xs) (deals_front name front past so.1)
    ∙ sym (append_assoc (deal_in (reloads_in past) name step) (deals_at (reloads_in past) name front) (deals_of name past)))

deals_append : (n : ℕ) (name : List ℕ) (later past : List Step) → deals_at n name (later ++ past) ≡ deals_at n name later ++ deals_at n name past
deals_append n name [] past = refl
deals_append n name (step ∷ later) past = ap (λ xs. deal_in n name step ++ xs) (deals_append n name later past) ∙ sym (append_assoc (deal_in n name step) (deals_at n name later) (deals_at n name past))

-- what a record says behind another
pub acts_behind : (name : List ℕ) (front rest : List Step) → acts_of name (reverse (front ++ rest)) ≡ acts_of name (reverse rest) ++ acts_of name (reverse front)
acts_behind name front rest = ap (acts_of name) (reverse-append front rest) ∙ acts_append name (reverse rest) (reverse front)

pub deals_behind : (n : ℕ) (name : List ℕ) (front rest : List Step) → deals_at n name (reverse (front ++ rest)) ≡ deals_at n name (reverse rest) ++ deals_at n name (reverse front)
deals_behind n name front rest = ap (deals_at n name) (reverse-append front rest) ∙ deals_append n name (reverse rest) (reverse front)

-- ---- of others nothing is said

no_deal : (n : ℕ) (conv name : List ℕ) (step : Step) → Concerns conv step → deal_in n name step ≡ []
no_deal n conv name (s.AsGot session bytes words) so = elim so [ ]
no_deal n conv name (s.AsGave number session bytes) so = elim so [ ]
no_deal n conv name (s.AsEnd session) so = elim so [ ]
no_deal n conv name step so = refl

pub no_deals : (n : ℕ) (conv name : List ℕ) (steps : List Step) → Each conv steps → deals_at n name (reverse steps) ≡ []
no_deals n conv name [] so = refl
no_deals n conv name (step ∷ more) so =
    deals_behind n name (step ∷ []) more
    ∙ ap (λ xs. xs ++ (deal_in n name step ++ [])) (no_deals n conv name more so.1)
    ∙ ap (λ xs. xs ++ []) (no_deal n conv name step so.0)

-- of a conversation of another name
other_name : (conv name other : List ℕ) (act : Does) → bytes_eq conv name ≡ false → other ≡ conv → w.if_named other name act ≡ []
other_name conv name other act apart same = ap (λ n. w.if_named n name act) same ∙ ap (λ b. if b then act ∷ [] else []) apart

no_act : (conv name : List ℕ) (step : Step) → bytes_eq conv name ≡ false → Concerns conv step → act_in name step ≡ []
no_act conv name (s.Start other protocol role word) apart so = other_name conv name other _ apart so
no_act conv name (s.Out number other bytes) apart so = other_name conv name other _ apart so
no_act conv name (s.In other bytes) apart so = other_name conv name other _ apart so
no_act conv name (s.Ask number other bytes) apart so = other_name conv name other _ apart so
no_act conv name (s.Heard other bytes) apart so = other_name conv name other _ apart so
no_act conv name (s.Unheard other) apart so = other_name conv name other _ apart so
no_act conv name (s.Accept other cuid suid) apart so = other_name conv name other _ apart so
no_act conv name (s.Fail other cause) apart so = other_name conv name other _ apart so
no_act conv name step apart so = refl

pub no_acts : (conv name : List ℕ) (steps : List Step) → bytes_eq conv name ≡ false → Each conv steps → acts_of name (reverse steps) ≡ []
no_acts conv name [] apart so = refl
no_acts conv name (step ∷ more) apart so =
    acts_behind name (step ∷ []) more
    ∙ ap (λ xs. xs ++ (act_in name step ++ [])) (no_acts conv name more apart so.1)
    ∙ ap (λ xs. xs ++ []) (no_act conv name step apart so.0)

-- no step is of a conversation of another name
not_of : (conv name : List ℕ) (step : Step) → bytes_eq conv name ≡ false → Concerns conv step → is_of name step ≡ false
not_of conv name (s.Start other protocol role word) apart so = ap (λ n. bytes_eq n name) so ∙ apart
not_of conv name (s.Out number other bytes) apart so = ap (λ n. bytes_eq n name) so ∙ apart
not_of conv name (s.In other bytes) apart so = ap (λ n. bytes_eq n name) so ∙ apart
not_of conv name (s.Ask number other bytes) apart so = ap (λ n. bytes_eq n name) so ∙ apart
not_of conv name (s.Heard other bytes) apart so = ap (λ n. bytes_eq n name) so ∙ apart
not_of conv name (s.Unheard other) apart so = ap (λ n. bytes_eq n name) so ∙ apart
not_of conv name (s.Accept other cuid suid) apart so = ap (λ n. bytes_eq n name) so ∙ apart
not_of conv name (s.Fail other cause) apart so = ap (λ n. bytes_eq n name) so ∙ apart
not_of conv name (s.Reply other text) apart so = ap (λ n. bytes_eq n name) so ∙ apart
not_of conv name step apart so = refl

pub none_of_other : (conv name : List ℕ) (steps : List Step) → bytes_eq conv name ≡ false → Each conv steps → list_any (is_of name) steps ≡ false
none_of_other conv name [] apart so = refl
none_of_other conv name (step ∷ more) apart so = ap (λ b. b || list_any (is_of name) more) (not_of conv name step apart so.0) ∙ none_of_other conv name more apart so.1
