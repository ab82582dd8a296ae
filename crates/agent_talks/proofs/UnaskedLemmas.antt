-- How many questions weren't handed out yet, after each of the things that befall questions.
use Rattle.std.proofs.Common.{◌≡◌, ℕ, ◌-◌, ◌≤◌, List, [], ◌∷◌, length, map, filter, Bool, true, false, cond, eqb, not, ◌||◌, Option, Some, None, Result, Ok, Err, refl, sym, ap, ◌∙◌, arith}
use Rattle.std.specs.Prelude.{find, is_some, nat_lt, option_map, OnOk, OnErr}
use Rattle.std.proofs.lemmas.Bool.{lt-ltb}
use Rattle.talks.specs.Calls.{Call}
use Rattle.agent_history.specs.Conversations.{Question, hand_first}
use Rattle.agent_talks.specs.declared.question.Question.{Question as HeldQuestion}
use Rattle.agent_talks.specs.declared.held.Talks.{Talks}
use Rattle.agent_talks.specs.Kept.{is_asked, question_of, questions_in, unasked}
use Rattle.agent_talks.specs.Changes.{Ended, Hands}
use Rattle.agent_talks.specs.Speaks.{SameTalks}

-- those of a list that weren't handed out
abbrev left : List Question → ℕ
left questions = length (filter (λ q. not q.handed) questions)

-- some are dropped
dropped : (keep : Question → Bool) (questions : List Question) → left (filter keep questions) ≤ left questions
dropped keep [] = omega arith
dropped keep (q ∷ more) = here (keep q) (not q.handed) refl (dropped keep more)
  where
    here : (kept fresh : Bool) → not q.handed ≡ fresh → left (filter keep more) ≤ left more → left (cond kept (q ∷ filter keep more) (filter keep more)) ≤ length (cond fresh (q ∷ filter (λ q. not q.handed) more) (filter (λ q. not q.handed) more))
    here true true e le = rw e (omega (arith, le))
    here true false e le = rw e le
    here false true e le = omega (arith, le)
    here false false e le = le

-- the oldest is handed out
handed_less : (questions : List Question) → left (hand_first questions) ≡ left questions - 1
handed_less [] = refl
handed_less (q ∷ more) = here q.handed refl (handed_less more)
  where
    here : (handed : Bool) → q.handed ≡ handed → left (hand_first more) ≡ left more - 1
        → left (cond handed (q ∷ hand_first more) (record { call = q.call; conv = q.conv; handed = true } ∷ more)) ≡ length (cond (not handed) (q ∷ filter (λ q. not q.handed) more) (filter (λ q. not q.handed) more)) - 1
    here true e same = rw e same
    here false e same = omega arith

pub handed_fewer : (old new : Talks) → Hands old new → unasked new ≡ unasked old - 1
handed_fewer old new h = ap left h.questions ∙ handed_less (questions_in old)

pub ended_fewer : (old new : Talks) (conv : ℕ) (call : Call) → Ended old new conv call → unasked new ≤ unasked old
ended_fewer old new conv call h = rw h.questions (dropped (λ q. not (eqb q.conv conv)) (questions_in old))

pub same_fewer : (old new : Talks) → SameTalks old new → unasked new ≤ unasked old
same_fewer old new h = rw h.questions (omega arith)

-- there is one to hand out exactly where some wasn't
found_left : (questions : List HeldQuestion) → is_some (find (λ q. not q.handed) questions) ≡ nat_lt 0 (left (map question_of questions))
found_left [] = refl
found_left (q ∷ more) = here q.handed refl (found_left more)
  where
    here : (handed : Bool) → q.handed ≡ handed → is_some (find (λ q. not q.handed) more) ≡ nat_lt 0 (left (map question_of more))
        → is_some (cond (not handed) (Some q) (find (λ q. not q.handed) more)) ≡ nat_lt 0 (length (cond (not handed) (question_of q ∷ filter (λ q. not q.handed) (map question_of more)) (filter (λ q. not q.handed) (map question_of more))))
    here true e same = same
    here false e same = sym (lt-ltb 0 (length (question_of q ∷ filter (λ q. not q.handed) (map question_of more))) (omega arith))

pub next_left : (t : Talks) (next : Option HeldQuestion) → next ≡ find (λ q. not q.handed) t.questions.items → is_some next ≡ nat_lt 0 (unasked t)
next_left t next e = ap is_some e ∙ found_left t.questions.items

-- a number under which none stands is nobody's
unknown_none : (call : ℕ) (questions : List HeldQuestion) → is_asked call (map question_of questions) ≡ false → find (λ q. eqb q.call call) questions ≡ None
unknown_none call [] e = refl
unknown_none call (q ∷ more) e = here (eqb q.call call) e (unknown_none call more)
  where
    here : (b : Bool) → (b || is_asked call (map question_of more)) ≡ false → (is_asked call (map question_of more) ≡ false → find (λ q. eqb q.call call) more ≡ None) → cond b (Some q) (find (λ q. eqb q.call call) more) ≡ None
    here true e rest = absurd cc
    here false e rest = rest e

pub unknown_asker : (t : Talks) (call : ℕ) (conv : Option ℕ) → conv ≡ option_map (λ q. q.conv) (find (λ q. eqb q.call call) t.questions.items) → is_asked call (questions_in t) ≡ false → conv ≡ None
unknown_asker t call conv e unknown = e ∙ ap (option_map (λ (q : HeldQuestion). q.conv)) (unknown_none call t.questions.items unknown)

pub none_some : {P : Type 0} (conv : ℕ) → Some conv ≡ None → P
none_some conv e = absurd cc

pub either_fewer : {X E : Type 0} (result : Result X E) (old new : Talks) (conv : ℕ) (call : Call) → OnOk result (Ended old new conv call) → OnErr result (SameTalks old new) → unasked new ≤ unasked old
either_fewer (Ok x) old new conv call ended same = ended_fewer old new conv call ended
either_fewer (Err e) old new conv call ended same = same_fewer old new same
