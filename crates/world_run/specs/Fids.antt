-- What a node keeps of its conversations, as the definitions say it. This serves proofs alone.
use Rattle.std.specs.Prelude.{ℕ, List, map}
use Rattle.world_run.specs.declared.fids.Open.{Open}

-- the fids of conversations
abbrev pub fids : List Open → List ℕ
fids held = map (λ o. o.fid) held

-- their names with their fids
abbrev pub named : List Open → List (List ℕ × ℕ)
named held = map (λ o. (o.conv, o.fid)) held
