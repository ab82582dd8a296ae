use Rattle.std.proofs.Common.{sym, ◌∙◌}
use Rattle.symbolic_runs.specs.Views.{tree}
use Rattle.trace_runs.specs.Views.{newest_first, own_of}
use Rattle.trace_runs.proofs.FormLaws.{server_ticket}
use Rattle.trace_runs.proofs.forms.is_server_formed.Goals as goal

pub returns-in-Some : goal.returns-in-Some
returns-in-Some c = λ atoms. c.is_whole_shown.ensures ∙ sym (server_ticket atoms (own_of c.args.own.now) (newest_first c.args.moves.now) (tree c.in-Some.message.now) c.in-Some.ensures)
