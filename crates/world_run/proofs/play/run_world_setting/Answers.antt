use Rattle.std.proofs.Common.{[], sym, subst}
use Rattle.world_scripts.specs.Scripts.{script_lines}
use Rattle.world_run.specs.Standing.{Stands}
use Rattle.world_run.proofs.PlayingLemmas.{ran_all, ran_not}
use Rattle.world_history.proofs.NoteLemmas.{notes_first}
use Rattle.world_history.proofs.TellLemmas.{tells_first}
use Rattle.world_run.proofs.NotedRuns.{noted_script}
use Rattle.world_run.proofs.play.run_world_setting.Goals as goal

pub returns-in-Err-clause-so : goal.returns-in-Err-clause-so
returns-in-Err-clause-so g c = ran_not c.args.script.now c.new.result (g.W.Sink.holds c.args.sink.now) c.new.ensures

pub returns-clause-so : goal.returns-clause-so
returns-clause-so g c =
    let st = c.new-run.ensures (script_lines c.args.script.now) (tells_first c.args.script.now c.in-Ok.tables c.in-Ok.ensures) in
    ran_all c.args.script.now c.new-2.result c.play_all-end.result c.new-run.result.recorded c.play_all-end.new.self.recorded c.into_steps.result (g.W.Sink.holds c.args.sink.now) (g.W.Sink.holds c.play_all-end.new.sink)
    c.new-2.ensures st.recorded c.into_steps.ensures
    (c.play_all-end.ensures.played [] (subst (λ ls. Stands ls [] c.new-run.result) (sym c.new-2.ensures) st))

pub returns-in-Err-begin_setting-clause-so : goal.returns-in-Err-begin_setting-clause-so
returns-in-Err-begin_setting-clause-so g c = ran_not c.args.script.now c.new-in-Err-begin_setting.result (g.W.Sink.holds c.args.sink.now) c.new-in-Err-begin_setting.ensures

pub returns-clause-noted : goal.returns-clause-noted
returns-clause-noted g c =
    let st = c.new-run.ensures (script_lines c.args.script.now) (tells_first c.args.script.now c.in-Ok.tables c.in-Ok.ensures) in
    noted_script c.args.script.now c.new-2.result c.new-run.result c.play_all-end.result c.in-Ok-begin_setting.setting c.play_all-end.new.setting c.new-2.ensures st
    (notes_first c.args.script.now c.in-Ok-begin_setting.setting c.in-Ok-begin_setting.ensures) c.play_all-end.ensures.noted
