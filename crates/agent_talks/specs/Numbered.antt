-- Of the code alone: the conversations that stand, each in a slab beside its own number.
use Rattle.std.specs.Prelude.{◌≡◌, ℕ, Bool, true, false, ◌==◌, Option, Some, None, OnSome, if◌then◌else◌}
use Rattle.std.specs.Borrow.{Fml, LendsSo, MutBor}
use Rattle.slab.specs.Slab.{Slab, get as slot}
use Rattle.agent_talks.specs.Keyed.{key_at}
use Rattle.conversations.specs.declared.conversation.Conversation.{Conversation}
use Rattle.conversations.specs.contracts.conversation.Conversation as conversation
use Rattle.agent_talks.specs.contracts.numbered.NumberedTalks as talks
use Rattle.agent_talks.specs.declared.numbered.Numbered.{Numbered}
use Rattle.agent_talks.specs.declared.numbered.NumberedTalks.{NumberedTalks}

-- a key, where what stands at it is the conversation of this number
abbrev pub key_if : ℕ → ℕ → Option Numbered → Option ℕ
key_if conv key None = None
key_if conv key (Some n) = if n.conv == conv then Some key else None

abbrev pub key_by : ℕ → Slab Numbered → Option ℕ → Option ℕ
key_by conv slab None = None
key_by conv slab (Some key) = key_if conv key (slot slab key)

-- the key of the conversation of a number
abbrev pub key_in : NumberedTalks → ℕ → Option ℕ
key_in t conv = key_by conv t.slab (key_at t.keys conv)

-- what stands in a slot, where it is the conversation of this number
abbrev pub kept_if : ℕ → Option Numbered → Option Conversation
kept_if conv None = None
kept_if conv (Some n) = if n.conv == conv then Some n.conversation else None

abbrev pub kept_by : ℕ → Slab Numbered → Option ℕ → Option Conversation
kept_by conv slab None = None
kept_by conv slab (Some key) = kept_if conv (slot slab key)

-- the conversation of a number, if it is kept
abbrev pub kept_in : NumberedTalks → ℕ → Option Conversation
kept_in t conv = kept_by conv t.slab (key_at t.keys conv)

-- this one is kept for a number from now on, and the others as they were
pub record Puts (old : NumberedTalks) (conv : ℕ) (c : Conversation) (new : NumberedTalks) : Type 0 where
  pub this : kept_in new conv ≡ Some c
  pub others : (other : ℕ) → (conv ≡ other → ⊥) → kept_in new other ≡ kept_in old other

abbrev pub SameKept : NumberedTalks → NumberedTalks → Type 0
SameKept old new = (conv : ℕ) → kept_in new conv ≡ kept_in old conv

-- what is kept for a number, where that of another goes
abbrev pub without : {X : Type 0} → ℕ → ℕ → Option X → Option X
without conv other o = if conv == other then None else o

-- once the borrow ends, what was written last is kept for the number
abbrev pub lends_kept : MutBor NumberedTalks → ℕ → Option (MutBor Conversation) → Fml
lends_kept s conv r =
    LendsSo talks.the_row conversation.the_row s r
    (λ n w. OnSome r (Puts s.now conv w n)) (λ n. SameKept s.now n)
