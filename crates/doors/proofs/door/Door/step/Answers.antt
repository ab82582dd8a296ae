use Rattle.doors.specs.Histories.{deeds}
use Rattle.doors.proofs.ServeLemmas.{stepped}
use Rattle.doors.proofs.door.Door.step.Goals as goal

pub returns-in-Ok-clause-stepped : goal.returns-in-Ok-clause-stepped
returns-in-Ok-clause-stepped g c = λ before setting past stands told.
    stepped (g.P.Port.stands setting) before past c.args.frame.now _ c.answer.new.port _ _ stands.works (c.in-Ok.ensures.ok (deeds before) setting past stands.keeps told)
