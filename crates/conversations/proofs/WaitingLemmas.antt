-- A conversation whose request waits.
use Rattle.std.proofs.Common.{◌≡◌, sym, ap, ◌∙◌}
use Rattle.talks.specs.Standings.{Standing, Waiting}
use Rattle.conversations.specs.declared.conversation.Conversation.{Conversation}
use Rattle.conversations.specs.declared.phase.Phase.{Phase}
use Rattle.conversations.specs.declared.phase.Phase.TheVariants as held
use Rattle.conversations.specs.declared.phase.Stored.{Stored}
use Rattle.conversations.specs.Fits.{Carries, Fits}
use Rattle.conversations.specs.Meanings.{phase_of, request_of}

-- of a conversation in another phase
pub carries_so : (c : Conversation) (phase : Phase) (s : Standing) → Carries c s → Carries (record { begun = c.begun; phase = phase; starting = c.starting; said = c.said }) s
carries_so c phase s carries = record { begun = carries.begun; starting = carries.starting; said = carries.said }

pub waits_so : (c : Conversation) (s : Standing) (request : Stored) → Fits c s → c.phase ≡ held.Waiting request → s.phase ≡ Waiting (request_of request)
waits_so c s request fits e = sym fits.phase ∙ ap phase_of e
