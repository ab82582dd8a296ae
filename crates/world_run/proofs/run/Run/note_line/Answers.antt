use Rattle.std.proofs.Common.{sym, ◌∙◌}
use Rattle.world_scripts.specs.Said.{said_line}
use Rattle.world_run.proofs.NotingLemmas.{noted_aside, noted_asked, noted_reload}
use Rattle.world_run.proofs.run.Run.note_line.Goals as goal

pub returns-then-is_reload : goal.returns-then-is_reload
returns-then-is_reload c = noted_reload c.args.left.now (said_line c.args.line) c.args.self.now c.args.setting.now c.note_told_tables.new.setting (sym c.is_reload.ensures ∙ c.if-is_reload.true) c.in_ok-note_told_tables.ensures

pub returns-in_default : goal.returns-in_default
returns-in_default c = noted_aside c.args.left.now (said_line c.args.line) c.args.self.now c.args.setting.now (sym c.is_reload.ensures ∙ c.if-is_reload.false) (sym c.in_default.ensures)

pub returns : goal.returns
returns c = noted_asked c.args.left.now (said_line c.args.line) c.in-Some.conv.now c.args.self.now c.args.setting.now c.note_talk.new.setting (sym c.is_reload.ensures ∙ c.if-is_reload.false) (sym c.in-Some.ensures) c.in_ok-note_talk.ensures
