-- What is answered where it is asked what is due.
use Rattle.std.proofs.Common.{◌≡◌, ℕ, ◌+◌, ◌*◌, ◌<◌, List, [], ◌∷◌, ◌++◌, length, drop, Some, None, false, refl, sym, subst, ◌∙◌, append-nil, arith}
use Rattle.wire_base.specs.declared.shape.Shape.{Shape}
use Rattle.roles.specs.declared.need.Need.{Need}
use Rattle.roles.specs.declared.need.Need.TheVariants.{Nothing, Key, Offers, Pick, Exchange}
use Rattle.talks.specs.Standings.{question_of}
use Rattle.agent_history.specs.declared.event.Event.TheVariants.{TakeAsk}
use Rattle.agent_history.specs.declared.event.StepAnswer.TheVariants.{Ask, DropCall, NoAsk}
use Rattle.agent_history.specs.Deeds.{Deed, is_halted}
use Rattle.agent_history.specs.Conversations.{Drop, NoneDue, DropDue, Question, QuestionDue, due, standing_of}
use Rattle.agent_history.specs.Histories.{asks}
use Rattle.agent_core.specs.Events.{AnswersAfter, IsPut, PutFor}

put_some : (q : Question) (need : Need) (shape : Shape) (old new : List ℕ) → PutFor need (Some shape) old new → (Ask q.call q.conv shape ≡ (asks q need).0) × (new ≡ old ++ (asks q need).1)
put_some q (Exchange request wanted) shape old new put = (subst (λ (s : Shape). Ask q.call q.conv shape ≡ Ask q.call q.conv s) put.0 refl, put.1)
put_some q (Key template) shape old new put = absurd put
put_some q (Offers template) shape old new put = absurd put
put_some q (Pick templates) shape old new put = absurd put
put_some q Nothing shape old new put = absurd put

put_none : (q : Question) (need : Need) (old new : List ℕ) → PutFor need None old new → (NoAsk ≡ (asks q need).0) × (new ≡ old ++ (asks q need).1)
put_none q (Exchange request wanted) old new put = absurd put
put_none q (Key template) old new put = (refl, put ∙ sym (append-nil old))
put_none q (Offers template) old new put = (refl, put ∙ sym (append-nil old))
put_none q (Pick templates) old new put = (refl, put ∙ sym (append-nil old))
put_none q Nothing old new put = (refl, put ∙ sym (append-nil old))

pub asked_after : (done : List Deed) (q : Question) (shape : Shape) (old new : List ℕ) → is_halted done ≡ false → due done ≡ QuestionDue q → IsPut done q.conv (Some shape) old new → AnswersAfter done TakeAsk (Ask q.call q.conv shape) old new
asked_after done q shape old new running next put =
    let told = put_some q (question_of (standing_of done q.conv)) shape old new put in
    record { answer = rw (running, next) told.0; out = rw (running, next) told.1 }

pub unasked_after : (done : List Deed) (q : Question) (old new : List ℕ) → is_halted done ≡ false → due done ≡ QuestionDue q → IsPut done q.conv None old new → AnswersAfter done TakeAsk NoAsk old new
unasked_after done q old new running next put =
    let told = put_none q (question_of (standing_of done q.conv)) old new put in
    record { answer = rw (running, next) told.0; out = rw (running, next) told.1 }

-- no question is due
pub none_after : (done : List Deed) (old : List ℕ) → is_halted done ≡ false → due done ≡ NoneDue → AnswersAfter done TakeAsk NoAsk old old
none_after done old running next = record { answer = rw (running, next) refl; out = rw (running, next) (sym (append-nil old)) }

pub dropped_after : (done : List Deed) (drop : Drop) (old : List ℕ) → is_halted done ≡ false → due done ≡ DropDue drop → AnswersAfter done TakeAsk (DropCall drop.conv) old old
dropped_after done drop old running next = record { answer = rw (running, next) refl; out = rw (running, next) (sym (append-nil old)) }

-- a connection that is handed out is one less to hand out
pub dropped_fewer : (old new : List Drop) (unasked : ℕ) → new ≡ drop 1 old → 0 < length old → unasked * 2 + length new + 1 ≡ unasked * 2 + length old
dropped_fewer [] new unasked is some = absurd (omega (arith, some))
dropped_fewer (d ∷ old) new unasked is some = rw is (omega arith)
