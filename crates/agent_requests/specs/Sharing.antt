-- What the connections of an agent share, against what is read off the deeds.
use Rattle.std.specs.Prelude.{◌≡◌, ℕ, ◌+◌, ◌≤◌, List, [], ◌∷◌, length, Bool, false, IfSome}
use Rattle.file_tree.specs.declared.tree.Node.{Node}
use Rattle.file_tree.specs.declared.tree.Node.TheVariants.{Confirm, Needkey, Log}
use Rattle.agent_history.specs.Deeds.{Deed, was_hung, holder_of, keys_of}
use Rattle.agent_history.specs.Conversations.{Speaker, speakers}
use Rattle.mailboxes.specs.Deliveries.{Delivers, SameMail}
use Rattle.agent_talks.specs.Logging.{Logs, SameLogs, calls_in}
use Rattle.agent_requests.specs.declared.holders.Holders.{Holders}
use Rattle.agent_requests.specs.declared.shared.Shared.{Shared}

-- who has each file open that one fid alone may have open
pub record Holds (done : List Deed) (h : Holders) : Type 0 where
  pub confirm : h.confirm ≡ holder_of done Confirm
  pub needkey : h.needkey ≡ holder_of done Needkey
  pub log : h.log ≡ holder_of done Log

-- the connections are live by whom some conversations are open
abbrev pub AllLive : (ℕ → Bool) → List Speaker → Type 0
AllLive hung [] = Unit {0}
AllLive hung (s ∷ more) = (hung s.conn ≡ false) × AllLive hung more

-- no conversation that stands is open on a connection that was hung up
abbrev pub AreLive : List Deed → Type 0
AreLive done = AllLive (λ conn. was_hung done conn) (speakers done)

-- nor is a file that one fid alone may have open
abbrev pub HoldersLive : List Deed → Type 0
HoldersLive done = (node : Node) → IfSome (holder_of done node) (λ holder. was_hung done holder.0 ≡ false)

-- the keys are those of the deeds, and so are the holders, the replies and the reads that wait, and the conversations
-- with the connections that they keep, their questions and the log; and nothing is open on a connection that was hung
-- up
pub record Shares (done : List Deed) (s : Shared) : Type 0 where
  pub ring : s.ring ≡ keys_of done
  pub holders : Holds done s.holders
  pub mail : Delivers done s.mailboxes
  pub talks : Logs done s.talks
  pub live : AreLive done
  pub held : HoldersLive done

-- the same is shared
pub record SameShared (old new : Shared) : Type 0 where
  pub ring : new.ring ≡ old.ring
  pub holders : new.holders ≡ old.holders
  pub mail : SameMail old.mailboxes new.mailboxes
  pub talks : SameLogs old.talks new.talks

-- at most one conversation has given up the connection that it kept
abbrev pub GivesOne : Shared → Shared → Type 0
GivesOne old new = length (calls_in new.talks).drops ≤ length (calls_in old.talks).drops + 1
