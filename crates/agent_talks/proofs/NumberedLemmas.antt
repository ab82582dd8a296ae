-- What is kept for a number, behind a write through what was lent for it.
use Rattle.std.proofs.Common.{◌≡◌, ℕ, Option, Some, eqb, refl, sym, ap, subst, ◌∙◌, inl, inr}
use Rattle.std.proofs.lemmas.Bool.{cases_Bool, eq-eqb, eqb-true, false≢true}
use Rattle.talks.specs.Calls.{Call}
use Rattle.conversations.specs.declared.conversation.Conversation.{Conversation}
use Rattle.conversations.specs.Fits.{Keeps}
use Rattle.agent_talks.specs.Changes.{BothMet}
use Rattle.agent_talks.specs.declared.numbered.NumberedTalks.{NumberedTalks}
use Rattle.agent_talks.specs.Numbered.{Puts, SameKept, kept_in}

module _ (old new : NumberedTalks) (conv : ℕ) (before after : Conversation) where
  -- what holds of what was lent and what was written holds of what is kept before and behind it
  pub put_both : Some before ≡ kept_in old conv → Puts old conv after new → (R : Option Conversation → Option Conversation → Type 0) → R (Some before) (Some after) → R (kept_in old conv) (kept_in new conv)
  put_both was puts R r = subst (λ (o : Option Conversation). R o (kept_in new conv)) was (subst (λ (o : Option Conversation). R (Some before) o) (sym puts.this) r)

  -- where the same was written all is as before
  pub put_same : Some before ≡ kept_in old conv → Puts old conv after new → after ≡ before → SameKept old new
  put_same was puts same = λ other.
      elim (cases_Bool (eqb conv other)) [
        | inl is ↦ subst (λ (n : ℕ). kept_in new n ≡ kept_in old n) (eqb-true conv other is) (puts.this ∙ ap (λ (c : Conversation). Some c) same ∙ was)
        | inr is ↦ puts.others other (λ e. false≢true (sym is ∙ eq-eqb conv other e))
      ]

  -- what it met
  pub both_met : (call : Call) → Some before ≡ kept_in old conv → Puts old conv after new → Keeps before after call → BothMet (kept_in old conv) (kept_in new conv) call
  both_met call was puts keeps = put_both was puts (λ x y. BothMet x y call) keeps
