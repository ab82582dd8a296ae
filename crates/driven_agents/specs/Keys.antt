-- What is so of the keys of an agent, and of those that its conversations are told.
use Rattle.std.specs.Prelude.{◌≡◌, List, [], ◌∷◌, None, Some, true, ℕ}
use Rattle.attr_tuples.specs.declared.attr.Attr.{Attr}
use Rattle.attr_tuples.specs.Attributes.{is_tuple}
use Rattle.key_lists.specs.KeyFaults.{key_fault}
use Rattle.key_lists.specs.Lists.{KeyEntry}
use Rattle.roles.specs.Talks.{Call as Move}
use Rattle.talks.specs.Standings.{Begun}
use Rattle.agent_history.specs.Deeds.{keys_of}
use Rattle.agent_history.specs.Conversations.{standing_of}
use Rattle.agent_history.specs.Histories.{History, deeds}
use Rattle.wire_histories.specs.Legal.{IsMet}

-- a tuple that breaks no rule of keys
pub record IsKey (key : List Attr) : Type 0 where
  pub tuple : is_tuple key ≡ true
  pub rules : key_fault key ≡ None

abbrev pub AreKeys : List KeyEntry → Type 0
AreKeys [] = Unit {0}
AreKeys (key ∷ keys) = IsKey key.tuple × AreKeys keys

-- the keys of an agent are such
abbrev pub KeysAreKeys : Type 0
KeysAreKeys = (history : History) → AreKeys (keys_of (deeds history)).keys

-- each key that a role is told is such as a ring has
abbrev pub AreMet : List Move → Type 0
AreMet [] = Unit {0}
AreMet (move ∷ moves) = IsMet move × AreMet moves

-- each that a conversation is told that was started
abbrev pub ToldRingKeys : Type 0
ToldRingKeys = (history : History) (conv : ℕ) (b : Begun) → (standing_of (deeds history) conv).begun ≡ Some b
    → AreMet b.moves
