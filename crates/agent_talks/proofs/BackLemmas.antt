-- Where a conversation holds for all that it held for, and all else is as before, the deeds tell of what is kept.
use Rattle.std.proofs.Common.{◌≡◌, ℕ, List, Bool, true, false, eqb, Option, Some, None, sym, subst, ◌∙◌, inl, inr}
use Rattle.std.specs.Prelude.{Result, Ok, Err, OnErr}
use Rattle.std.proofs.lemmas.Bool.{cases_Bool, eq-eqb, eqb-true, false≢true}
use Rattle.talks.specs.Calls.{Call}
use Rattle.agent_history.specs.Deeds.{Deed}
use Rattle.agent_history.specs.Conversations.{talk}
use Rattle.conversations.specs.declared.conversation.Conversation.{Conversation}
use Rattle.agent_talks.specs.declared.held.Talks.{Talks}
use Rattle.agent_talks.specs.Kept.{kept_at}
use Rattle.agent_talks.specs.Speaks.{IsKept, Speak, stands}
use Rattle.agent_talks.specs.Changes.{Back, BothStay}

pub err_so : {T E P : Type 0} (r : Result T E) → P → OnErr r P
err_so (Ok x) p = tt
err_so (Err e) p = p

stay_kept : (b : Bool) (calls : List Call) (old new : Option Conversation) → BothStay old new → IsKept b calls old → IsKept b calls new
stay_kept b calls None None s k = k
stay_kept b calls None (Some n) s k = absurd s
stay_kept b calls (Some o) None s k = absurd s
stay_kept true calls (Some o) (Some n) s k = s calls k
stay_kept false calls (Some o) (Some n) s k = k

pub back_speak : (done : List Deed) (old new : Talks) (conv : ℕ) → Back old new conv → Speak done old → Speak done new
back_speak done old new conv b h = record {
  opened = b.opened ∙ h.opened;
  speakers = b.speakers ∙ h.speakers;
  table = λ q. elim (cases_Bool (eqb conv q)) [
    | inl is ↦ subst (λ (n : ℕ). IsKept (stands done n) (talk done n) (kept_at new n)) (eqb-true conv q is) (stay_kept (stands done conv) (talk done conv) (kept_at old conv) (kept_at new conv) b.this (h.table conv))
    | inr is ↦ subst (IsKept (stands done q) (talk done q)) (sym (b.others q (λ e. false≢true (sym is ∙ eq-eqb conv q e)))) (h.table q)
  ];
  raised = b.raised ∙ h.raised;
  questions = b.questions ∙ h.questions;
  fresh = h.fresh;
  asked = h.asked;
}
