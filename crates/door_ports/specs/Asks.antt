-- What an exchange with an agent comes to, of one that stood so. It serves proofs alone.
use Rattle.std.specs.Prelude.{◌≡◌, ℕ, List, ◌∷◌, Bool, Some}
use Rattle.door_ports.specs.declared.reply.Reply.{Reply}
use Rattle.door_ports.specs.Exchanges.{Exchange, exchange, lets, no_word}

module _ {A : Type 0} (stands : List Exchange → A → Type 0) where
  -- a frame came with no word, whatever it was replied
  pub record Sent (conn : ℕ) (frame : List ℕ) (done : List Exchange) (agent : A) : Type 0 where
    pub reply : Reply
    pub leaves : stands (exchange conn frame no_word reply ∷ done) agent

  -- the agent let a request, or refused it
  pub record Met (conn : ℕ) (frame : List ℕ) (let_it : Bool) (done : List Exchange) (agent : A) : Type 0 where
    pub reply : Reply
    pub is : lets reply ≡ Some let_it
    pub leaves : stands (exchange conn frame no_word reply ∷ done) agent
