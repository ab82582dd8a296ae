-- How calls that are made of a dialer add up.
use Rattle.std.proofs.Common.{◌≡◌, ℕ, List, [], ◌∷◌, ◌++◌, Option, Some, None, refl, sym, ap, ◌∙◌, append_assoc, append-nil}
use Rattle.wire_streams.specs.Dials.{Dialed, Makes}
use Rattle.wire_streams.specs.declared.dialer.Made.{Made}
use Rattle.wire_streams.specs.declared.dialer.Made.TheVariants.{Exchange, Close}
use Rattle.wire_streams.specs.declared.dialer.Outcome.TheVariants.{Answered, Unanswered, NoRoom}
use Rattle.agent_hub.specs.Dials.{MakesAll, answer_in, answers_in}

pub made_none : (a : Option Dialed) → MakesAll a a []
made_none None = tt
made_none (Some d) = (sym (append-nil d.made), refl)

pub made_one : (a b : Option Dialed) (call : Made) → Makes a b call → MakesAll a b (call ∷ [])
made_one a None call m = tt
made_one None (Some now) call m = absurd m
made_one (Some before) (Some now) (Exchange conv request shape (Answered bytes)) m = (m.0, m.1)
made_one (Some before) (Some now) (Exchange conv request shape Unanswered) m = (m.0, sym m.1)
made_one (Some before) (Some now) (Exchange conv request shape NoRoom) m = (m.0, sym m.1)
made_one (Some before) (Some now) (Close conv) m = (m.0, sym m.1)

answers_append : (xs ys : List Made) → answers_in (xs ++ ys) ≡ answers_in xs ++ answers_in ys
answers_append [] ys = refl
answers_append (Exchange conv request shape outcome ∷ xs) ys = ap (λ (l : List (List ℕ)). answer_in outcome ++ l) (answers_append xs ys) ∙ sym (append_assoc (answer_in outcome) (answers_in xs) (answers_in ys))
answers_append (Close conv ∷ xs) ys = answers_append xs ys

pub made_more : (a b c : Option Dialed) (xs ys : List Made) → MakesAll a b xs → MakesAll b c ys → MakesAll a c (xs ++ ys)
made_more a b None xs ys p q = tt
made_more a None (Some z) xs ys p q = absurd q
made_more None (Some y) (Some z) xs ys p q = absurd p
made_more (Some x) (Some y) (Some z) xs ys p q = (
  q.0 ∙ ap (λ (l : List Made). l ++ ys) p.0 ∙ append_assoc x.made xs ys,
  p.1 ∙ ap (λ (l : List (List ℕ)). answers_in xs ++ l) q.1 ∙ sym (append_assoc (answers_in xs) (answers_in ys) z.to_come) ∙ ap (λ (l : List (List ℕ)). l ++ z.to_come) (sym (answers_append xs ys)),
)
