-- A conversation whose authentication server wasn't reached, or whose answer found no memory.
use Rattle.std.proofs.Common.{◌≡◌, List, ◌∷◌, true, false, Option, Some, None, refl, sym, ap, subst, ◌∙◌}
use Rattle.roles.specs.Talks.{Call as Move}
use Rattle.talks.specs.declared.answer.RpcAnswer.{RpcAnswer}
use Rattle.talks.specs.Calls.{Call}
use Rattle.talks.specs.Standings.{Begun, Phase, Resting, Waiting, Seeking, OnConfirm, OnNeedkey, OnServer, Kept, Standing, made, standing, then_stands, with_move}
use Rattle.conversations.specs.declared.begun.Begun.{Begun as Held}
use Rattle.conversations.specs.declared.conversation.Conversation.{Conversation}
use Rattle.conversations.specs.declared.phase.Phase.TheVariants as held
use Rattle.conversations.specs.Begins.{IsBegun}
use Rattle.conversations.specs.Fits.{BothBegun, Carries, Holds}
use Rattle.conversations.specs.Meanings.{phase_of}
use Rattle.conversations.specs.Shown.{waits_for_server}

-- ---- it is asked

never : false ≡ true → ⊥
never e = cc

on_server : (phase : Phase) → waits_for_server phase ≡ true → phase ≡ OnServer
on_server Resting e = absurd (never e)
on_server (Waiting request) e = absurd (never e)
on_server Seeking e = absurd (never e)
on_server (OnConfirm serial) e = absurd (never e)
on_server OnNeedkey e = absurd (never e)
on_server OnServer e = refl
on_server (Kept answer) e = absurd (never e)

pub asks_so : (c : Conversation) (talk : List Call) → Holds c talk → waits_for_server (phase_of c.phase) ≡ true → (standing talk).phase ≡ OnServer
asks_so c talk holds waits = sym holds.phase ∙ on_server (phase_of c.phase) waits

-- ---- it is done with

-- of a conversation whose role met this move, and which has this answer
abbrev with_answer : Conversation → Held → RpcAnswer → Conversation
with_answer c begun answer = record { begun = Some begun; phase = held.Kept answer; starting = c.starting; said = c.said }

both_so : (c : Conversation) (kept : Held) (s : Standing) (begun : Option Begun) → c.begun ≡ Some kept → s.begun ≡ begun → Carries c s → BothBegun (Some kept) begun
both_so c kept s begun is same carries = subst (λ (held : Option Held). BothBegun held begun) is (subst (λ (begun : Option Begun). BothBegun c.begun begun) same carries.begun)

carries_on : (c : Conversation) (kept new : Held) (s : Standing) (move : Move) (answer : RpcAnswer) (begun : Option Begun) → BothBegun (Some kept) begun → Carries c s → ((b : Begun) → IsBegun kept b → IsBegun new (with_move b move)) → Carries (with_answer c new answer) (made s move begun)
carries_on c kept new s move answer None both carries met = absurd both
carries_on c kept new s move answer (Some b) both carries met = record { begun = met b both; starting = carries.starting; said = carries.said }

pub done_with : (c : Conversation) (kept new : Held) (talk : List Call) (call : Call) (move : Move) (answer : RpcAnswer) → c.begun ≡ Some kept → ((b : Begun) → IsBegun kept b → IsBegun new (with_move b move)) → (standing talk).phase ≡ OnServer → then_stands (standing talk) OnServer call ≡ made (standing talk) move (standing talk).begun → (standing (call ∷ talk)).phase ≡ Kept answer → Holds c talk → Holds (with_answer c new answer) (call ∷ talk)
done_with c kept new talk call move answer is met asks exchanges rests holds =
    record {
      carries = subst (λ (s : Standing). Carries (with_answer c new answer) s) (sym (ap (λ (phase : Phase). then_stands (standing talk) phase call) asks ∙ exchanges))
          (carries_on c kept new (standing talk) move answer (standing talk).begun (both_so c kept (standing talk) (standing talk).begun is refl holds.carries) holds.carries met);
      phase = sym rests;
      asked = tt;
    }
