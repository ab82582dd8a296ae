use Rattle.std.proofs.Common.{sym, ◌∙◌}
use Rattle.world_scripts.proofs.LineLemmas.{line_parts, line_written}
use Rattle.world_scripts.proofs.ReadLemmas.{some_parts}
use Rattle.world_scripts.proofs.laws.lines_are_what_is_written.Goals as goal

pub returns-clause-read : goal.returns-clause-read
returns-clause-read c = λ text line. (line_parts text line, line_written text line)

pub returns-clause-once : goal.returns-clause-once
returns-clause-once c = λ text line other one two. some_parts line other (sym (line_written text line one) ∙ line_written text other two)
