-- The messages of a record are numbered from 0 in the order in which they were recorded.
use Rattle.std.proofs.Common.{◌≡◌, ℕ, ◌+◌, List, [], ◌∷◌, ◌++◌, length, drop, reverse, codes, Option, Some, None, Bool, true, false, if◌then◌else◌, refl, sym, ap, subst, ◌∙◌, arith}
use Rattle.std.specs.Str.{bytes_eq}
use Rattle.std.proofs.lemmas.List.{append-nil, append_assoc, length-append, reverse-append}
use Rattle.std.proofs.lemmas.List.Elements.{filter_map-append}
use Rattle.nine.specs.declared.message.RMsg.{RMsg}
use Rattle.nine.specs.declared.message.RBody.{RBody}
use Rattle.nine.specs.declared.message.RBody.TheVariants as r
use Rattle.roles.specs.declared.need.Outcome.{Outcome}
use Rattle.roles.specs.declared.need.Outcome.TheVariants.{Running, Accepted, Finished, Broken}
use Rattle.wire_histories.specs.declared.step.Step.{Step}
use Rattle.wire_histories.specs.declared.step.Step.TheVariants as s
use Rattle.talks.specs.Lines.{is_end}
use Rattle.auth_server.specs.Requests.{is_served, kind_of}
use Rattle.auth_server.specs.Answers.{Posed, answer_in, is_over_in}
use Rattle.agent_history.specs.declared.event.Event.TheVariants.{NoAnswer}
use Rattle.agent_history.specs.declared.event.Event.TheVariants as events
use Rattle.agent_history.specs.Histories.{History}
use Rattle.wire_histories.specs.Histories.{IsNext, IsNumbered, counted, message_number, messages}
use Rattle.world_history.specs.declared.question.Question.{Question}
use Rattle.world_history.specs.Acts.{Act, Reloaded, Restarted, Asked}
use Rattle.world_history.specs.Driving.{clunks, drive, is_refused, reads, replies_to, writes}
use Rattle.world_history.specs.Talking.{Asks, Came, all_reply_steps, answer_steps, ask_steps, begins, breaks, came, end_of, end_steps, following, gets, gives, is_out, is_taken, own_steps, reply_steps, request_steps, request_text, start_step, starts, word_of}
use Rattle.world_history.specs.Turns.{Turn, asks, closes, hears, lets_open, misses, refused_by, tells, told_steps, turn_steps}
use Rattle.world_history.specs.Worlds.{Done, done_by, history, message_in, messages_in, put_to, requests, session_steps, steps, steps_by, steps_to}

-- the messages of some steps are numbered from this number on, and the next has that number
abbrev pub Numbers : ℕ → List Step → ℕ → Type 0
Numbers from [] next = from ≡ next
Numbers from (step ∷ more) next = IsNext (message_number step) from × Numbers (from + counted (message_number step)) more next

-- one list behind another
then_more : (from middle next : ℕ) (front rest : List Step) → Numbers from front middle → Numbers middle rest next → Numbers from (front ++ rest) next
then_more from middle next [] rest so later = subst (λ n. Numbers n rest next) (sym so) later
then_more from middle next (step ∷ front) rest so later = (so.0, then_more (from + counted (message_number step)) middle next front rest so.1 later)

-- a step that records no message
silent : (from : ℕ) (step : Step) → message_number step ≡ None → Numbers from (step ∷ []) from
silent from step is = subst (λ o. IsNext o from × (from + counted o ≡ from)) (sym is) (tt, omega arith)

-- ---- what follows on an event

asked_in : (from : ℕ) (conv : List ℕ) (qs : List Question) → Numbers from (ask_steps from conv qs) (from + length qs)
asked_in from conv [] = omega arith
asked_in from conv (q ∷ more) = (refl, subst (λ n. Numbers (from + 1) (ask_steps (from + 1) conv more) n) (omega arith) (asked_in (from + 1) conv more))

end_in : (from : ℕ) (conv : List ℕ) (o : Option Outcome) → Numbers from (end_of conv o) from
end_in from conv None = refl
end_in from conv (Some Running) = refl
end_in from conv (Some Finished) = refl
end_in from conv (Some (Accepted info)) = (tt, omega arith)
end_in from conv (Some (Broken cause)) = (tt, omega arith)

unless : (from : ℕ) (steps : List Step) (over : Bool) → Numbers from steps from → Numbers from (if over then [] else steps) from
unless from steps true so = refl
unless from steps false so = so

ends_in : (from : ℕ) (conv : List ℕ) (before now : Option Outcome) → Numbers from (end_steps conv before now) from
ends_in from conv before now = unless from (end_of conv now) (is_end before) (end_in from conv now)

-- steps of one answer
abbrev Answers : ℕ → List Step → Type 0
Answers from steps = Numbers from steps (from + is_out steps)

choice : (from : ℕ) (b : Bool) (x y : List Step) → Answers from x → Answers from y → Answers from (if b then x else y)
choice from true x y first second = first
choice from false x y first second = second

answered_in : (from : ℕ) (conv : List ℕ) (broke : Bool) (text : List ℕ) → Answers from (answer_steps from conv broke text)
unfolding answer_steps
answered_in from conv broke text =
    let last = if broke then [] else s.Reply conv text ∷ [] in
    let out = s.Out from conv (drop 3 text) ∷ [] in
    choice from (bytes_eq text (codes "ok")) [] (if begins (codes "ok ") text then out else last) (omega arith)
    (choice from (begins (codes "ok ") text) out last (refl, refl)
    (choice from broke [] (s.Reply conv text ∷ []) (omega arith) (tt, omega arith)))

replied_in : (from : ℕ) (conv : List ℕ) (broke : Bool) (body : RBody) → Answers from (reply_steps from conv broke body)
replied_in from conv broke (r.Read text) = answered_in from conv broke text
replied_in from conv broke (r.Error text) = (tt, omega arith)
replied_in from conv broke body = omega arith

all_replied : (from : ℕ) (conv : List ℕ) (broke : Bool) (replies : List RMsg) → (next : ℕ) × Numbers from (all_reply_steps from conv broke replies) next
all_replied from conv broke [] = (from, refl)
all_replied from conv broke (m ∷ more) =
    let first = reply_steps from conv broke m.body in
    let later = all_replied (from + is_out first) conv broke more in
    (later.0, then_more from (from + is_out first) later.0 first (all_reply_steps (from + is_out first) conv broke more) (replied_in from conv broke m.body) later.1)

-- these steps are numbered from this number on
abbrev pub Goes : ℕ → List Step → Type 0
Goes from steps = (next : ℕ) × Numbers from steps next

behind_silent : (from : ℕ) (front rest : List Step) → Numbers from front from → Goes from rest → Goes from (front ++ rest)
behind_silent from front rest so later = (later.0, then_more from from later.0 front rest so later.1)

follows_in : (from : ℕ) (conv : List ℕ) (c : Came) → Goes from (following from conv c)
follows_in from conv c =
    let replied = all_replied (from + length c.questions) conv (breaks c.before c.now) c.replies in (
      replied.0,
      then_more from (from + length c.questions) replied.0 (ask_steps from conv c.questions ++ end_steps conv c.before c.now) (all_reply_steps (from + length c.questions) conv (breaks c.before c.now) c.replies)
          (then_more from (from + length c.questions) (from + length c.questions) (ask_steps from conv c.questions) (end_steps conv c.before c.now) (asked_in from conv c.questions) (ends_in (from + length c.questions) conv c.before c.now))
          replied.1,
    )

-- ---- what is done to an agent

refused_in : (from : ℕ) (node : List ℕ) (body : RBody) → Numbers from (refused_by node body) from
refused_in from node (r.Error text) = (tt, omega arith)
refused_in from node body = refl

told_in : (from : ℕ) (node : List ℕ) (replies : List RMsg) → Numbers from (told_steps node replies) from
told_in from node [] = refl
told_in from node (m ∷ more) = then_more from from from (refused_by node m.body) (told_steps node more) (refused_in from node m.body) (told_in from node more)

either : (from : ℕ) (b : Bool) (x y : List Step) → Goes from x → Goes from y → Goes from (if b then x else y)
either from true x y first second = first
either from false x y first second = second

one_or_none : (from : ℕ) (b : Bool) (step : Step) → message_number step ≡ None → Numbers from (if b then step ∷ [] else []) from
one_or_none from true step is = silent from step is
one_or_none from false step is = refl

start_is_silent : (conv word text : List ℕ) → message_number (start_step conv word text) ≡ None
unfolding start_step
start_is_silent conv word text = refl

own_in : (from : ℕ) (conv : List ℕ) (what : Asks) (c : Came) → Numbers from (own_steps conv what c) from
own_in from conv (starts word tuple) c = one_or_none from _ (start_step conv word tuple) (start_is_silent conv word tuple)
own_in from conv gets c = refl
own_in from conv (gives bytes) c = one_or_none from (is_taken c.replies) (s.In conv bytes) refl

requested_in : (from : ℕ) (conv : List ℕ) (fid : ℕ) (what : Asks) (h : History) → Goes from (request_steps from conv fid what h)
requested_in from conv fid what h =
    let write = writes fid (request_text what) in
    let c = came fid (reads fid (word_of what)) (drive write h) in
    either from (is_refused (replies_to write h)) (all_reply_steps from conv false (replies_to write h)) (own_steps conv what c ++ following from conv c)
    (all_replied from conv false (replies_to write h))
    (behind_silent from (own_steps conv what c) (following from conv c) (own_in from conv what c) (follows_in from conv c))

turned_in : (from : ℕ) (turn : Turn) (h : History) → Goes from (turn_steps from turn h)
unfolding turn_steps
turned_in from (tells node line) h = (from, told_in from node (replies_to (writes 1 line) h))
turned_in from (lets_open fid) h = (from, refl)
turned_in from (asks conv fid what) h = requested_in from conv fid what h
turned_in from (hears conv fid call bytes) h = let c = came fid (events.Answer call bytes) h in behind_silent from (s.Heard conv bytes ∷ []) (following from conv c) (silent from (s.Heard conv bytes) refl) (follows_in from conv c)
turned_in from (misses conv fid call) h = let c = came fid (NoAnswer call) h in behind_silent from (s.Unheard conv ∷ []) (following from conv c) (silent from (s.Unheard conv) refl) (follows_in from conv c)
turned_in from (closes conv fid) h = all_replied from conv false (replies_to (clunks fid) h)

-- ---- sessions, and all acts

over_in : (from : ℕ) (session : List ℕ) (b : Bool) → Numbers from (if b then s.AsEnd session ∷ [] else []) from
over_in from session b = one_or_none from b (s.AsEnd session) refl

session_in : (from : ℕ) (session : List ℕ) (before : List Posed) (p : Posed) → Goes from (session_steps from session before p)
unfolding session_steps
session_in from session before p =
    let got = s.AsGot session p.asked.request p.asked.words in
    let gave = s.AsGave from session (answer_in before p) in
    let over = if is_over_in (p ∷ before) then s.AsEnd session ∷ [] else [] in
    behind_silent from (got ∷ []) _ (silent from got refl) (
    either from (is_served (kind_of p.asked.request)) (gave ∷ over) (s.AsEnd session ∷ [])
    (from + 1, (refl, over_in (from + 1) session (is_over_in (p ∷ before))))
    (from, silent from (s.AsEnd session) refl))

done_in : (from : ℕ) (before : List Act) (done : Option Done) → Goes from (steps_to from before done)
done_in from before None = (from, refl)
done_in from before (Some done) = turned_in from done.turn (history before done.agent)

act_in : (from : ℕ) (before : List Act) (act : Act) → Goes from (steps_by from before act)
act_in from before (Asked session request words) = session_in from session (requests before session) (put_to before request words)
act_in from before Reloaded = (from, silent from s.Reload refl)
act_in from before (Restarted node) = (from, silent from (s.Restart node) refl)
act_in from before act = done_in from before (done_by before act)

-- ---- as many as there are messages

count_of : (step : Step) → counted (message_number step) ≡ length (messages_in (step ∷ []))
count_of (s.Out number conv bytes) = refl
count_of (s.Ask number conv bytes) = refl
count_of (s.AsGave number session bytes) = refl
count_of step = refl

next_is : (from : ℕ) (steps : List Step) (next : ℕ) → Numbers from steps next → next ≡ from + length (messages_in steps)
next_is from [] next so = omega (arith, so)
next_is from (step ∷ more) next so =
    let later = next_is (from + counted (message_number step)) more next so.1 in
    let parts = ap length (filter_map-append message_in (step ∷ []) more) ∙ length-append (messages_in (step ∷ [])) (messages_in more) in
    let one = count_of step in
    omega (arith, later, parts, one)

pub numbered_in_order : (acts : List Act) → Numbers 0 (steps acts) (length (messages_in (steps acts)))
numbered_in_order [] = refl
numbered_in_order (act ∷ before) =
    let number = length (messages_in (steps before)) in
    let later = act_in number before act in
    let whole = then_more 0 number later.0 (steps before) (steps_by number before act) (numbered_in_order before) later.1 in
    let last = next_is 0 (steps (act ∷ before)) later.0 whole in
    let same : later.0 ≡ length (messages_in (steps (act ∷ before))) = omega (arith, last) in
    subst (λ n. Numbers 0 (steps (act ∷ before)) n) same whole

-- ---- the newest first

turned_behind : (step : Step) (more past : List Step) → reverse (step ∷ more) ++ past ≡ reverse more ++ step ∷ past
turned_behind step more past = ap (λ xs. xs ++ past) (reverse-append (step ∷ []) more) ∙ append_assoc (reverse more) (step ∷ []) past

turned : (from next : ℕ) (steps past : List Step) → Numbers from steps next → messages past ≡ from → IsNumbered past → IsNumbered (reverse steps ++ past)
turned from next [] past so is rest = rest
turned from next (step ∷ more) past so is rest =
    subst IsNumbered (sym (turned_behind step more past))
    (turned (from + counted (message_number step)) next more (step ∷ past) so.1 (ap (λ n. n + counted (message_number step)) is) (subst (λ n. IsNext (message_number step) n) (sym is) so.0, rest))

pub numbered : (acts : List Act) → IsNumbered (reverse (steps acts))
numbered acts = subst IsNumbered (append-nil (reverse (steps acts))) (turned 0 (length (messages_in (steps acts))) (steps acts) [] (numbered_in_order acts) refl tt)
