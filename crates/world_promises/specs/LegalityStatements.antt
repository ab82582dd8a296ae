-- The record of the network that some acts make is legal.
use Rattle.std.specs.Prelude.{◌≡◌, ℕ, List, All, Some, reverse}
use Rattle.talks.specs.Standings.{Begun}
use Rattle.wire_histories.specs.Histories.{History, acts_of, deals_of}
use Rattle.wire_histories.specs.Legal.{IsConversation, IsMet, IsServed, known_at}
use Rattle.world_history.specs.Acts.{Act}
use Rattle.world_history.specs.Worlds.{steps}
use Rattle.world_promises.specs.Settings.{Place, place_of, setting, spoken_by, standing_at}

-- the record, the newest step first
abbrev pub record_of : List Act → History
record_of acts = reverse (steps acts)

-- each session of the authentication server does what requests leave
abbrev pub SessionsAre : List Act → Type 0
SessionsAre acts = (name : List ℕ) → IsServed (known_at (setting acts)) (deals_of name (record_of acts))

-- each conversation does what a talk leaves
abbrev pub ConversationsAre : List Act → Type 0
ConversationsAre acts = (name : List ℕ) → IsConversation ((setting acts).spoken name) (acts_of name (record_of acts))

-- each conversation that has started was told keys such as a ring has
abbrev pub KeysAreOfRings : List Act → Type 0
KeysAreOfRings acts = (name : List ℕ) (place : Place) (b : Begun) → place_of acts name ≡ Some place
    → (standing_at acts place).begun ≡ Some b → All IsMet (spoken_by place.node b).met
