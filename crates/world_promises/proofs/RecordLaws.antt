-- The messages that the steps of a turn record, by the replies and the questions that came of it.
use Rattle.std.proofs.Common.{◌≡◌, ℕ, ◌+◌, ◌≤◌, List, [], ◌∷◌, ◌++◌, map, drop, codes, length, Bool, true, false, cond, Option, Some, None, refl, ap, ap₂, ◌∙◌, arith, append-nil}
use Rattle.std.specs.Str.{bytes_eq}
use Rattle.std.proofs.lemmas.Bool.{le-leb}
use Rattle.std.proofs.lemmas.List.Elements.{filter_map-append}
use Rattle.nine.specs.declared.message.RMsg.{RMsg}
use Rattle.nine.specs.declared.message.RBody.{RBody}
use Rattle.nine.specs.declared.message.RBody.TheVariants as r
use Rattle.roles.specs.declared.answer.Gave.{Gave}
use Rattle.roles.specs.declared.need.Outcome.{Outcome}
use Rattle.roles.specs.declared.need.Outcome.TheVariants.{Running, Accepted, Finished, Broken}
use Rattle.key_lists.specs.Lists.{KeyEntry}
use Rattle.talks.specs.RpcAnswers.{answer_text}
use Rattle.talks.specs.declared.answer.RpcAnswer.TheVariants as a
use Rattle.talks.specs.Answers.{move_answer}
use Rattle.talks.specs.Lines.{is_end}
use Rattle.agent_history.specs.declared.event.Event.TheVariants.{NoAnswer}
use Rattle.agent_history.specs.declared.event.Event.TheVariants as events
use Rattle.agent_history.specs.Conversations.{fits}
use Rattle.agent_history.specs.Histories.{History}
use Rattle.auth_server.specs.Requests.{is_served, kind_of}
use Rattle.auth_server.specs.Answers.{Posed, answer_in, is_over_in}
use Rattle.wire_histories.specs.declared.step.Step.TheVariants as s
use Rattle.wire_histories.specs.Histories.{gave}
use Rattle.world_history.specs.declared.question.Question.{Question}
use Rattle.world_history.specs.Driving.{clunks, drive, is_refused, reads, replies_to}
use Rattle.world_history.specs.Talking.{Asks, Came, all_reply_steps, answer_steps, ask_steps, begins, breaks, came, end_of, end_steps, following, gets, gives, is_out, is_taken, own_steps, reply_steps, start_step, starts, word_of}
use Rattle.world_history.specs.Turns.{asks, closes, hears, lets_open, misses, turn_steps}
use Rattle.world_history.specs.Worlds.{message_in, messages_in, session_steps}
use Rattle.world_promises.specs.Agents.{write_of}
use Rattle.world_promises.proofs.TellLemmas.{move_told}
use Rattle.world_promises.proofs.DrivenTurns.{told_body}

-- ---- answers

abbrev pub out_of : List ℕ → List (List ℕ)
out_of text = cond (bytes_eq text (codes "ok")) [] (cond (begins (codes "ok ") text) (drop 3 text ∷ []) [])

abbrev pub out_in : RBody → List (List ℕ)
out_in (r.Read text) = out_of text
out_in body = []

abbrev pub outs_in : List RBody → List (List ℕ)
outs_in [] = []
outs_in (body ∷ more) = out_in body ++ outs_in more

answer_by : (n : ℕ) (conv text : List ℕ) (ok with_message broke : Bool)
    → messages_in (cond ok [] (cond with_message (s.Out n conv (drop 3 text) ∷ []) (cond broke [] (s.Reply conv text ∷ [])))) ≡ cond ok [] (cond with_message (drop 3 text ∷ []) [])
answer_by n conv text true with_message broke = refl
answer_by n conv text false true broke = refl
answer_by n conv text false false true = refl
answer_by n conv text false false false = refl

answer_out : (n : ℕ) (conv : List ℕ) (broke : Bool) (text : List ℕ) → messages_in (answer_steps n conv broke text) ≡ out_of text
unfolding answer_steps
answer_out n conv broke text = answer_by n conv text (bytes_eq text (codes "ok")) (begins (codes "ok ") text) broke

reply_out : (n : ℕ) (conv : List ℕ) (broke : Bool) (body : RBody) → messages_in (reply_steps n conv broke body) ≡ out_in body
reply_out n conv broke (r.Read text) = answer_out n conv broke text
reply_out n conv broke (r.Error text) = refl
reply_out n conv broke body = refl

pub replies_out : (n : ℕ) (conv : List ℕ) (broke : Bool) (ms : List RMsg) → messages_in (all_reply_steps n conv broke ms) ≡ outs_in (map (λ (m : RMsg). m.body) ms)
replies_out n conv broke [] = refl
replies_out n conv broke (m ∷ ms) =
    let here = reply_steps n conv broke m.body in
    filter_map-append message_in here (all_reply_steps (n + is_out here) conv broke ms) ∙ ap₂ (λ x y. x ++ y) (reply_out n conv broke m.body) (replies_out (n + is_out here) conv broke ms)

-- ---- questions, and an end

asks_out : (n : ℕ) (conv : List ℕ) (qs : List Question) → messages_in (ask_steps n conv qs) ≡ map (λ (q : Question). q.bytes) qs
asks_out n conv [] = refl
asks_out n conv (q ∷ qs) = ap (λ xs. q.bytes ∷ xs) (asks_out (n + 1) conv qs)

end_of_out : (conv : List ℕ) (o : Option Outcome) → messages_in (end_of conv o) ≡ []
end_of_out conv None = refl
end_of_out conv (Some Running) = refl
end_of_out conv (Some Finished) = refl
end_of_out conv (Some (Accepted info)) = refl
end_of_out conv (Some (Broken cause)) = refl

end_out : (conv : List ℕ) (before now : Option Outcome) → messages_in (end_steps conv before now) ≡ []
end_out conv before now = by_end (is_end before)
  where
    by_end : (b : Bool) → messages_in (cond b [] (end_of conv now)) ≡ []
    by_end true = refl
    by_end false = end_of_out conv now

-- what came of an event records
abbrev pub came_out : List Question → List RBody → List (List ℕ)
came_out qs bodies = map (λ (q : Question). q.bytes) qs ++ outs_in bodies

following_out : (n : ℕ) (conv : List ℕ) (c : Came) → messages_in (following n conv c) ≡ came_out c.questions (map (λ (m : RMsg). m.body) c.replies)
following_out n conv c =
    let asked = ask_steps n conv c.questions in
    let ended = end_steps conv c.before c.now in
    let told = all_reply_steps (n + length c.questions) conv (breaks c.before c.now) c.replies in
    filter_map-append message_in (asked ++ ended) told
    ∙ ap₂ (λ x y. x ++ y) (filter_map-append message_in asked ended ∙ (ap₂ (λ x y. x ++ y) (asks_out n conv c.questions) (end_out conv c.before c.now) ∙ append-nil (map (λ (q : Question). q.bytes) c.questions)))
    (replies_out (n + length c.questions) conv (breaks c.before c.now) c.replies)

-- ---- turns

start_out : (conv word tuple : List ℕ) → messages_in (start_step conv word tuple ∷ []) ≡ []
unfolding start_step
start_out conv word tuple = refl

own_out : (conv : List ℕ) (what : Asks) (c : Came) → messages_in (own_steps conv what c) ≡ []
own_out conv (starts word tuple) c = by_start _
  where
    by_start : (b : Bool) → messages_in (cond b (start_step conv word tuple ∷ []) []) ≡ []
    by_start true = start_out conv word tuple
    by_start false = refl
own_out conv gets c = refl
own_out conv (gives bytes) c = by_taken (is_taken c.replies)
  where
    by_taken : (b : Bool) → messages_in (cond b (s.In conv bytes ∷ []) []) ≡ []
    by_taken true = refl
    by_taken false = refl

pub request_out : (n : ℕ) (conv : List ℕ) (fid : ℕ) (what : Asks) (h : History) → is_refused (replies_to (write_of fid what) h) ≡ false
    → messages_in (turn_steps n (asks conv fid what) h)
    ≡ came_out (came fid (reads fid (word_of what)) (drive (write_of fid what) h)).questions (map (λ (m : RMsg). m.body) (came fid (reads fid (word_of what)) (drive (write_of fid what) h)).replies)
unfolding turn_steps
request_out n conv fid what h taken =
    let c = came fid (reads fid (word_of what)) (drive (write_of fid what) h) in
    let refused = all_reply_steps n conv false (replies_to (write_of fid what) h) in
    ap (λ b. messages_in (cond b refused (own_steps conv what c ++ following n conv c))) taken
    ∙ (filter_map-append message_in (own_steps conv what c) (following n conv c) ∙ ap₂ (λ x y. x ++ y) (own_out conv what c) (following_out n conv c))

pub heard_out : (n : ℕ) (conv : List ℕ) (fid call : ℕ) (bytes : List ℕ) (h : History)
    → messages_in (turn_steps n (hears conv fid call bytes) h) ≡ came_out (came fid (events.Answer call bytes) h).questions (map (λ (m : RMsg). m.body) (came fid (events.Answer call bytes) h).replies)
unfolding turn_steps
heard_out n conv fid call bytes h = following_out n conv (came fid (events.Answer call bytes) h)

pub unheard_out : (n : ℕ) (conv : List ℕ) (fid call : ℕ) (h : History)
    → messages_in (turn_steps n (misses conv fid call) h) ≡ came_out (came fid (NoAnswer call) h).questions (map (λ (m : RMsg). m.body) (came fid (NoAnswer call) h).replies)
unfolding turn_steps
unheard_out n conv fid call h = following_out n conv (came fid (NoAnswer call) h)

pub closed_out : (n : ℕ) (conv : List ℕ) (fid : ℕ) (h : History) → messages_in (turn_steps n (closes conv fid) h) ≡ outs_in (map (λ (m : RMsg). m.body) (replies_to (clunks fid) h))
unfolding turn_steps
closed_out n conv fid h = replies_out n conv false (replies_to (clunks fid) h)

pub opened_out : (n fid : ℕ) (h : History) → messages_in (turn_steps n (lets_open fid) h) ≡ []
unfolding turn_steps
opened_out n fid h = refl

pub session_out : (n : ℕ) (session : List ℕ) (before : List Posed) (p : Posed) → is_served (kind_of p.asked.request) ≡ true → messages_in (session_steps n session before p) ≡ answer_in before p ∷ []
unfolding session_steps
session_out n session before p served =
    ap (λ b. messages_in (s.AsGot session p.asked.request p.asked.words ∷ cond b (s.AsGave n session (answer_in before p) ∷ cond (is_over_in (p ∷ before)) (s.AsEnd session ∷ []) []) (s.AsEnd session ∷ []))) served
    ∙ by_over (is_over_in (p ∷ before))
  where
    by_over : (b : Bool) → messages_in (s.AsGot session p.asked.request p.asked.words ∷ s.AsGave n session (answer_in before p) ∷ cond b (s.AsEnd session ∷ []) []) ≡ answer_in before p ∷ []
    by_over true = refl
    by_over false = refl

-- ---- which answers are messages, and fit

pub ok_out : out_of (answer_text a.Ok) ≡ []
unfolding answer_text
ok_out = refl

pub got_out : (b : List ℕ) → out_of (answer_text (a.Got b)) ≡ b ∷ []
unfolding answer_text
got_out b = refl

pub no_server_out : out_of (answer_text a.NoServer) ≡ []
unfolding answer_text
no_server_out = refl

untold : (x y : Bool) (text : List ℕ) → cond x [] (cond y (gave (drop 3 text) ∷ []) []) ≡ [] → cond x [] (cond y (drop 3 text ∷ []) []) ≡ []
untold true y text e = refl
untold false true text e = absurd cc
untold false false text e = refl

-- whatever a role answers to what is given it, it is none
pub move_out : (key : Option KeyEntry) (answered : Gave) (fit : Bool) → out_in (told_body fit (move_answer a.Ok key answered)) ≡ []
move_out key answered true = let text = answer_text (move_answer a.Ok key answered) in untold (bytes_eq text (codes "ok")) (begins (codes "ok ") text) text (move_told key answered)
move_out key answered false = refl

pub ok_fits : fits 8192 a.Ok ≡ true
unfolding answer_text
ok_fits = refl

pub no_server_fits : fits 8192 a.NoServer ≡ true
unfolding answer_text
no_server_fits = refl

pub got_fits : (b : List ℕ) → length b ≤ 8000 → fits 8192 (a.Got b) ≡ true
unfolding answer_text
got_fits b short = le-leb (length (codes "ok " ++ b)) 8192 (omega (arith, short))
