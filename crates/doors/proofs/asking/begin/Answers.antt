use Rattle.std.proofs.Common.{[], ◌∷◌, refl, subst}
use Rattle.doors.specs.Calls.{Opened}
use Rattle.doors.specs.declared.port.PortOpen.TheVariants.{Refused}
use Rattle.doors.proofs.asking.begin.Goals as goal

pub returns-in-Refused : goal.returns-in-Refused
returns-in-Refused g c = λ setting past h. record { calls = Opened Refused ∷ []; login = tt; number = refl; told = subst (λ o. g.P.Port.stands setting (Opened o ∷ past) c.open.new.self) c.in-Refused.is (c.open.ensures setting past h) }
