-- What a server of many clients has accepted and given to threads. What a listener and a spawner tell is optional. The
-- definitions are the project's own.
use Rattle.std.specs.Prelude.{◌≡◌, ℕ, List, ◌++◌, map, length, Option, None, Some, ⊤}
use Rattle.auth_server.specs.Standing.{Server}
use Rattle.wire_streams.specs.Spawning.{Gains}
use Rattle.auth_server.specs.declared.listen.ListenEnd.{ListenEnd}
use Rattle.auth_server.specs.declared.listen.ListenEnd.TheVariants.{NoThread, ListenFault, NoMemory}

-- A client: the server that it is of, what it sends, and what is sent to it.
pub record Client (I O : Type 0) : Type 0 where
  pub core : Server
  pub source : I
  pub sink : O

abbrev pub client : {I O : Type 0} → Server → I → O → Client I O
client core source sink = record { core = core; source = source; sink = sink }

-- the client of a connection
abbrev pub client_of : {I O : Type 0} → Server → (I × O) → Client I O
client_of core connection = client core connection.0 connection.1

-- Between what a listener told at two moments these connections came, in this order.
abbrev pub Came : {C : Type 0} → Option (List C) → Option (List C) → List C → Type 0
Came None now connections = ⊤
Came (Some before) None connections = ⊥
Came (Some before) (Some now) connections = before ≡ connections ++ now

-- The clients of the connections that came were given to threads, in order.
pub record Going {I O : Type 0} (core : Server) (came left : Option (List (I × O)))
    (taken now : Option (List (Client I O))) : Type 0 where
  pub accepted : List (I × O)
  pub arrived : Came came left accepted
  pub jobs : Gains taken now (map (client_of core) accepted)

-- how many clients were accepted that no thread got
abbrev pub left_out : ListenEnd → ℕ
left_out NoThread = 1
left_out ListenFault = 0
left_out NoMemory = 0

-- What the end of accepting says: of the connections that came, in order, those of the front were given to threads as
-- clients, and as many are left out behind them as the end says.
pub record Listens {I O : Type 0} (core : Server) (end : ListenEnd) (came left : Option (List (I × O)))
    (taken now : Option (List (Client I O))) : Type 0 where
  pub accepted : List (I × O)
  pub lost : List (I × O)
  pub arrived : Came came left (accepted ++ lost)
  pub jobs : Gains taken now (map (client_of core) accepted)
  pub few : length lost ≡ left_out end
