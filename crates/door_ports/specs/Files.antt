-- The names of the files that a port opens. It serves proofs alone.
use Rattle.std.specs.Prelude.{ℕ, List, codes}
use Rattle.door_ports.specs.declared.frames.File.{File}
use Rattle.door_ports.specs.declared.frames.File.TheVariants.{Ctl, Rpc}

abbrev pub file_name : File → List ℕ
file_name Ctl = codes "ctl"
file_name Rpc = codes "rpc"
