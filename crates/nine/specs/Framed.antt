-- What a framer is to its callers.
use Rattle.std.specs.Prelude.{ℕ, ◌+◌, List, ◌++◌, drop}

-- the largest size of a frame, how many bytes of the stream were handed out, and the bytes that are held behind them
pub record Framing : Type 0 where
  pub limit : ℕ
  pub before : ℕ
  pub held : List ℕ

-- these bytes more are held
abbrev pub with_more : Framing → List ℕ → Framing
with_more f piece = record { limit = f.limit; before = f.before; held = f.held ++ piece }

-- so many bytes of the front were passed
abbrev pub passed : Framing → ℕ → Framing
passed f size = record { limit = f.limit; before = f.before + size; held = drop size f.held }
