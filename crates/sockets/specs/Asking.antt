-- Which servers a dialer asks, and what it finds of them, where that is told. The definitions are the project's own.
use Rattle.std.specs.Prelude.{◌≡◌, ◌⊎◌, ℕ, List, [], ◌∷◌, ◌++◌, Bool, true, false, Option}
use Rattle.wire_base.specs.declared.shape.Shape.{Shape}
use Rattle.wire_base.specs.declared.shape.Shape.TheVariants.{Tickets, Challenge, Vouch}
use Rattle.wire_streams.specs.declared.dialer.Dial.{Dial}
use Rattle.wire_streams.specs.declared.dialer.Dial.TheVariants.{Heard, Failed, NoMemory}
use Rattle.sockets.specs.Failures.{Finding, IsOrder, StandsFor, Answered as HasAnswered, Failed as HasFailed}
use Rattle.sockets.specs.declared.socket.TcpDialer.{TcpDialer}

-- all of a dialer but what is known of servers
pub record SameBut {N K F : Type 0} (old new : TcpDialer N K F) : Type 0 where
  pub kept : new.kept ≡ old.kept
  pub faults : new.faults ≡ old.faults
  pub servers : new.servers ≡ old.servers

-- What was found of the servers of an order, the newest first, and which of them are left: each in turn has failed.
pub data Passed : List ℕ → List ℕ → List Finding → Type 0 where
  NobodyYet : {order : List ℕ} → Passed order order []
  Another : {order left : List ℕ} {found : List Finding} (i moment : ℕ) → Passed order (i ∷ left) found
      → Passed order left (HasFailed i moment ∷ found)

-- These findings came, the newest first.
abbrev pub AllFound : List Finding → Option (ℕ → Option ℕ) → Option (ℕ → Option ℕ) → Type 0
AllFound found old new = (before : List Finding) → StandsFor before old → StandsFor (found ++ before) new

-- The first servers of an order have failed, and nobody was heard.
pub record Unheard (order : List ℕ) (old new : Option (ℕ → Option ℕ)) : Type 0 where
  pub left : List ℕ
  pub found : List Finding
  pub passed : Passed order left found
  pub finds : AllFound found old new

-- The first ones have failed, and then one has answered.
pub record HeardOf (order : List ℕ) (old new : Option (ℕ → Option ℕ)) : Type 0 where
  pub server : ℕ
  pub left : List ℕ
  pub found : List Finding
  pub passed : Passed order (server ∷ left) found
  pub finds : AllFound (HasAnswered server ∷ found) old new

abbrev pub Asked : List ℕ → Bool → Option (ℕ → Option ℕ) → Option (ℕ → Option ℕ) → Type 0
Asked order true old new = HeardOf order old new
Asked order false old new = Unheard order old new

-- The order of so many servers at some moment; nobody's where there is no clock.
abbrev pub IsOrderNow : Option (ℕ → Option ℕ) → ℕ → List ℕ → Type 0
IsOrderNow told count order = (order ≡ []) ⊎ ((now : ℕ) × IsOrder told now count order)

-- Servers were asked in their order.
pub record InOrder (count : ℕ) (heard : Bool) (old new : Option (ℕ → Option ℕ)) : Type 0 where
  pub order : List ℕ
  pub named : IsOrderNow old count order
  pub asked : Asked order heard old new

abbrev pub AskedAnew : Dial → ℕ → Option (ℕ → Option ℕ) → Option (ℕ → Option ℕ) → Type 0
AskedAnew Heard count old new = InOrder count true old new
AskedAnew Failed count old new = InOrder count false old new
AskedAnew NoMemory count old new = new ≡ old

-- For a vouch none but the server that gave the challenge is asked, and of that nothing is noted.
abbrev pub AskedBy : Shape → Dial → ℕ → Option (ℕ → Option ℕ) → Option (ℕ → Option ℕ) → Type 0
AskedBy Tickets dial count old new = AskedAnew dial count old new
AskedBy Challenge dial count old new = AskedAnew dial count old new
AskedBy Vouch dial count old new = new ≡ old
