-- How an agent stands between what a network does to it: all that it put out was taken, and each conversation that
-- asked the authentication server is read by the request that waits for its answer. It serves proofs alone.
use Rattle.std.specs.Prelude.{◌≡◌, ◌+◌, ◌<◌, ℕ, List, [], ◌∷◌, Bool, true, false, ◌==◌, nat_lt, Some, None}
use Rattle.std.specs.List.{list_all}
use Rattle.file_tree.specs.Calls.{attached}
use Rattle.talks.specs.Standings.{OnServer}
use Rattle.agent_history.specs.declared.event.Event.{Event}
use Rattle.agent_history.specs.Deeds.{Deed, fid_of, msize_of, was_hung, was_opened}
use Rattle.agent_history.specs.Replies.{Wait, has_settled, reader, untaken, waits}
use Rattle.agent_history.specs.Conversations.{Speaker, asker, conv_of, drops, next_question, opened_talks, speakers, standing_of}
use Rattle.agent_history.specs.Histories.{History, deeds, does, has_stopped}
use Rattle.driven_agents.specs.Quiet.{NamesNoLines}
use Rattle.world_history.specs.declared.question.Question.{Question}
use Rattle.world_history.specs.Driving.{clunks, drive, new_node, opened, refuses_open, replies_to, writes}

-- the agent didn't stop
abbrev pub Runs : History → Type 0
Runs h = has_stopped h ≡ false

-- a read of rpc that a network makes, which isn't settled
abbrev pub read_of : ℕ → Wait
read_of fid = record { tag = fid; fid = fid; count = 8192; reply = None }

-- a conversation that asked the authentication server is read
abbrev pub IsRead : List Deed → Speaker → Type 0
IsRead done s = (standing_of done s.conv).phase ≡ OnServer → reader done 0 s.fid ≡ Some (read_of s.fid)

abbrev pub AreRead : List Deed → List Speaker → Type 0
AreRead done [] = Unit {0}
AreRead done (s ∷ more) = IsRead done s × AreRead done more

-- an agent that a network drives, whatever was taken of it
pub record IsCalm (done : List Deed) : Type 0 where
  -- no fid came to name confirm, needkey or log
  pub names : NamesNoLines done
  -- connection 0 is there, and agreed on a size
  pub entered : was_opened done 0 ≡ true
  pub there : was_hung done 0 ≡ false
  pub msize : msize_of done 0 ≡ Some 8216
  -- it is the only one
  pub alone : list_all (λ s. s.conn == 0) (speakers done) ≡ true
  -- its fid 0 names the root, and a fid that has rpc open is the tag of its read, which has 16 bits
  pub root : fid_of done 0 0 ≡ attached
  pub small : list_all (λ s. nat_lt s.fid 65535) (speakers done) ≡ true
  -- each read that waits has its fid for a tag, and is one of a network's; whom it waits for is read
  pub tagged : list_all (λ w. w.tag == w.fid) (waits done 0) ≡ true
  pub counted : list_all (λ w. w.count == 8192) (waits done 0) ≡ true
  pub settled : has_settled done ≡ false
  pub read : AreRead done (speakers done)

-- of which all was taken
pub record IsIdle (h : History) : Type 0 where
  pub calm : IsCalm (deeds h)
  pub taken : untaken (deeds h) 0 ≡ []
  pub handed : next_question (deeds h) ≡ None
  pub dropped : drops (deeds h) ≡ []

-- an event leaves it so
abbrev pub KeepsIdle : Event → History → Type 0
KeepsIdle event h = IsIdle h → Runs (drive event h) → IsIdle (drive event h)

-- ---- what a turn leaves

-- the same conversations stand, and as many were ever opened
pub record SameSeats (old new : History) : Type 0 where
  pub speakers : speakers (deeds new) ≡ speakers (deeds old)
  pub opened : opened_talks (deeds new) ≡ opened_talks (deeds old)

-- a question that stands keeps its conversation
abbrev pub KeepsAskers : (ℕ → Bool) → History → History → Type 0
KeepsAskers of old new =
    (call number : ℕ) → asker (deeds old) call ≡ Some number → of number ≡ true → asker (deeds new) call ≡ Some number

-- these questions are ones of a conversation
abbrev pub AreOf : ℕ → List Question → History → Type 0
AreOf number [] h = Unit {0}
AreOf number (q ∷ more) h = (asker (deeds h) q.call ≡ Some number) × AreOf number more h

-- ---- the laws

-- an agent that runs behind an event ran before it, and the event did what is defined
abbrev pub EventsDo : Type 0
EventsDo = (event : Event) (h : History) → Runs (event ∷ h) → Runs h × (deeds (event ∷ h) ≡ does (deeds h) event)

-- where its connection is there behind an event, the replies that come of it are all that it left to be taken
abbrev pub TakesGetWhatIsLeft : Type 0
TakesGetWhatIsLeft = (event : Event) (h : History) → was_hung (deeds (event ∷ h)) 0 ≡ false → Runs (drive event h)
    → replies_to event h ≡ untaken (deeds (event ∷ h)) 0

-- takes leave nothing of what an event left of a calm agent
abbrev pub TakesLeaveNothing : Type 0
TakesLeaveNothing = (event : Event) (h : History) → IsCalm (deeds (event ∷ h)) → Runs (drive event h)
    → IsIdle (drive event h)

-- a write keeps an agent idle, and so does a fid that is given up which had rpc open
abbrev pub WritesKeepIdle : Type 0
WritesKeepIdle = (fid : ℕ) (bytes : List ℕ) (h : History) → KeepsIdle (writes fid bytes) h

abbrev pub ClosingsKeepIdle : Type 0
ClosingsKeepIdle = (fid number : ℕ) (h : History) → conv_of (deeds h) 0 fid ≡ Some number → KeepsIdle (clunks fid) h

-- a fid that comes to rpc and opens it, which isn't refused, has the next conversation open
pub record IsOpened (fid : ℕ) (h : History) : Type 0 where
  pub idle : IsIdle (opened fid h)
  pub next : opened_talks (deeds (opened fid h)) ≡ opened_talks (deeds h) + 1
  pub seat : conv_of (deeds (opened fid h)) 0 fid ≡ Some (opened_talks (deeds h))

abbrev pub OpeningsKeepIdle : Type 0
OpeningsKeepIdle = (fid : ℕ) (h : History) → IsIdle h → fid < 65535 → (fid == 0) ≡ false
    → (standing_of (deeds h) (opened_talks (deeds h))).begun ≡ None → Runs (opened fid h) → refuses_open fid h ≡ false
    → IsOpened fid h

-- a new node is idle
abbrev pub NewNodesAreIdle : Type 0
NewNodesAreIdle = Runs new_node → IsIdle new_node
