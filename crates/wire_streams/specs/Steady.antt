-- What the steady forms in memory show of themselves. The definitions are the project's own.
use Rattle.std.specs.Prelude.{ℕ, List, Option}
use Rattle.std.specs.Option.{option_map}
use Rattle.wire_streams.specs.declared.steady.SteadySource.{SteadySource}
use Rattle.wire_streams.specs.declared.steady.SteadySink.{SteadySink}

-- The bytes that the source has left.
abbrev pub unread_bytes : SteadySource → List ℕ
unread_bytes source = source.content

-- The bytes that the sink holds, or None once it found no memory for a piece.
abbrev pub held_bytes : SteadySink → Option (List ℕ)
held_bytes sink = option_map (λ bytes. bytes.items) sink.content
