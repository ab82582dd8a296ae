-- What no conversation of an agent is left at between events: a search of the keys.
use Rattle.std.specs.Prelude.{◌≡◌, ℕ, Bool, true, false}
use Rattle.talks.specs.Standings.{Phase, Seeking}
use Rattle.agent_history.specs.Conversations.{standing_of}
use Rattle.agent_history.specs.Histories.{History, deeds}

-- a conversation needs something of the keys that isn't looked for yet
abbrev pub is_searching : Phase → Bool
is_searching Seeking = true
is_searching phase = false

abbrev pub NoSearchIsOpen : Type 0
NoSearchIsOpen = (history : History) (conv : ℕ) → is_searching (standing_of (deeds history) conv).phase ≡ false
