use Rattle.std.proofs.Common.{◌∷◌, sym, ◌∙◌}
use Rattle.doors.specs.Calls.{Asked, start_text}
use Rattle.doors.specs.Answers.{said_of}
use Rattle.doors.proofs.AskLemmas.{started, not_started}
use Rattle.doors.proofs.asking.start.Goals as goal

pub returns-then-is_well : goal.returns-then-is_well
returns-then-is_well g c = λ setting past h.
    started (g.P.Port.stands setting) past c.ask.new.port c.args.conv c.in_ok-came.came c.ask.new.answer (c.in_ok-came.ensures.port setting past h) c.in_ok-came.ensures.heard (sym (c.is_well.ensures c.ask.new.answer) ∙ c.if-is_well.true)

pub returns : goal.returns
returns g c = λ setting past h.
    not_started (g.P.Port.stands setting) past c.close.new.self c.args.conv c.in_ok-came.came c.ask.new.answer (c.close.ensures setting (Asked c.args.conv start_text (said_of c.in_ok-came.came) c.ask.new.answer ∷ past) (c.in_ok-came.ensures.port setting past h)) c.in_ok-came.ensures.heard
    (sym (c.is_well.ensures c.ask.new.answer) ∙ c.if-is_well.false)
