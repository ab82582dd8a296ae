use Rattle.std.proofs.Common.{ap, ◌∙◌}
use Rattle.std.proofs.lemmas.Result.{err_from_is_err_and}
use Rattle.agent_turns.specs.Turning.{said_asks}
use Rattle.world_history.specs.Acts as a
use Rattle.world_history.specs.Turns as does
use Rattle.world_scripts.specs.Reading.{line_of}
use Rattle.world_run.specs.Standing.{nodes_by}
use Rattle.world_run.proofs.RunLemmas.{asked_done, take_stops, with_both}
use Rattle.world_run.proofs.run.Run.ask_it.Goals as goal

pub returns-in_err-turned-clause-carried : goal.returns-in_err-turned-clause-carried
returns-in_err-turned-clause-carried c = λ before left acts o by h.
    let p = err_from_is_err_and c.from_residual.result c.from_residual.ensures.1 in
    rw (p.1, p.2) (take_stops c.as_slice-node.result.now (does.asks c.args.conv.now c.args.found.fid (said_asks c.args.what)) c.args.self.now.nodes c.args.self.now.recorded c.in_err-turned.field-0.0 c.take.new.nodes (nodes_by acts) left acts (line_of before.text) (with_both c.args.self.now c.take.new.nodes c.args.self.now.talks) c.in_err-turned.ensures h.nodes (ap (a.is_node acts) c.as_slice-node.ensures ∙ o.made))

pub returns-clause-carried : goal.returns-clause-carried
returns-clause-carried c = λ before left acts o by h.
    asked_done before left acts c.args.conv.now c.args.found.node c.args.found.fid c.args.found.call (said_asks c.args.what) c.args.self.now c.in_ok-turned.turned c.take.new.nodes c.set_call.new.self
    by o h ((rw c.as_slice-node.ensures at c.in_ok-turned.ensures) (nodes_by acts) h.nodes o.made) (rw (← c.either.ensures) c.set_call.ensures)
