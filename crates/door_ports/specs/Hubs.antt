-- An agent behind a hub, with which exchanges were made through a seat: each is entries of the seat's own, between
-- which others may enter theirs. What an exchange is replied is the oldest reply that was left on its connection as it
-- was taken.
use Rattle.std.specs.Prelude.{◌≡◌, ℕ, List, [], ◌∷◌, ◌++◌, Option, Some, None}
use Rattle.agent_history.specs.declared.event.Event.TheVariants.{Request, Take}
use Rattle.agent_history.specs.declared.event.StepAnswer.{StepAnswer}
use Rattle.agent_history.specs.declared.event.StepAnswer.TheVariants.{Reply as Found, NoReply}
use Rattle.agent_history.specs.Histories.{History, answer}
use Rattle.agent_hub.specs.Submits.{HubSeat}
use Rattle.agent_hub.specs.Entries.{Adds, Entered, entry}
use Rattle.door_ports.specs.declared.reply.Reply.{Reply}
use Rattle.door_ports.specs.Exchanges.{Exchange, exchange, taken_of}
use Rattle.door_ports.specs.Replies.{silence_of, told_in}

-- takes on a connection that found no reply, for which is waited
abbrev pub FindNone : ℕ → List Entered → Type 0
FindNone conn [] = Unit {0}
FindNone conn (e ∷ older) =
    (e.event ≡ Take conn) × ((answer e.before e.event).0 ≡ NoReply) × FindNone conn older

-- These entries, the newest first, are those of these exchanges: of each its request, with its frame and word; then
-- takes that found no reply yet; and the take that found its reply
pub data AreEntered : List Exchange → List Entered → Type 0 where
  NoneIs : AreEntered [] []
  OneIs : (done : List Exchange) (mine waits : List Entered) (h later : History) (e : Exchange) → AreEntered done mine
      → FindNone e.conn waits → e.reply ≡ taken_of e.conn later
      → AreEntered (e ∷ done) (entry later (Take e.conn) ∷ waits ++ entry h (Request e.conn e.frame e.word) ∷ mine)

-- the seat's own entries since it was the first one are those of these exchanges
pub record Converses (first : HubSeat) (done : List Exchange) (seat : HubSeat) : Type 0 where
  pub mine : List Entered
  pub added : Adds mine first seat
  pub are : AreEntered done mine

abbrev pub ConversesBy : HubSeat → List Exchange → Option HubSeat → Type 0
ConversesBy first done None = ⊥
ConversesBy first done (Some seat) = Converses first done seat

-- ---- of the code alone

-- a request was entered behind these exchanges, and no reply to it was found yet
pub record Waits (first : HubSeat) (done : List Exchange) (conn : ℕ) (frame word : List ℕ) (seat : HubSeat)
    : Type 0 where
  pub mine : List Entered
  pub waits : List Entered
  pub asked_at : History
  pub added : Adds (waits ++ entry asked_at (Request conn frame word) ∷ mine) first seat
  pub are : AreEntered done mine
  pub none : FindNone conn waits

-- a take found its reply, or none yet
abbrev pub Takes : Option Reply → HubSeat → List Exchange → ℕ → List ℕ → List ℕ → HubSeat → Type 0
Takes (Some reply) first done conn frame word seat = Converses first (exchange conn frame word reply ∷ done) seat
Takes None first done conn frame word seat = Waits first done conn frame word seat

-- what a take tells by its answer and by the bytes that it gave
abbrev pub Tells : StepAnswer → List ℕ → Option Reply → Type 0
Tells Found taken found = found ≡ Some (told_in taken)
Tells NoReply taken found = found ≡ None
Tells answer taken found = found ≡ Some (silence_of answer)
