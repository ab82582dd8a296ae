use Rattle.std.proofs.Common.{sym}
use Rattle.world_scripts.specs.Said.{said_line}
use Rattle.world_scripts.proofs.LineLemmas.{line_parts}
use Rattle.world_scripts.proofs.line.parse_line.Goals as goal

pub returns-in-Some-clause-written : goal.returns-in-Some-clause-written
returns-in-Some-clause-written c = line_parts c.args.text.now (said_line c.in-Some.line) (sym c.in-Some.ensures)
