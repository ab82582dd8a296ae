-- What is so of an agent that a network drives.
use Rattle.std.specs.Prelude.{◌≡◌, ℕ, ◌∷◌}
use Rattle.agent_history.specs.declared.event.Event.{Event}
use Rattle.agent_history.specs.Conversations.{standing_of}
use Rattle.agent_history.specs.Histories.{History, deeds}
use Rattle.world_history.specs.Driving.{drive, opened}

-- the takes that follow an event change no conversation
abbrev pub TakesChangeNone : Type 0
TakesChangeNone = (event : Event) (history : History) (conv : ℕ)
    → standing_of (deeds (drive event history)) conv ≡ standing_of (deeds (event ∷ history)) conv

-- nor does a fid that comes to name rpc and is opened
abbrev pub OpeningsChangeNone : Type 0
OpeningsChangeNone = (fid : ℕ) (history : History) (conv : ℕ)
    → standing_of (deeds (opened fid history)) conv ≡ standing_of (deeds history) conv
