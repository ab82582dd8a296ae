use Rattle.roles.specs.Talks.{roomless}
use Rattle.conv_p9any.proofs.StandLemmas.{choice_leads}
use Rattle.conv_p9any.proofs.conv.AnyConvMachine.without_room.Goals as goal

pub returns-in-None-clause-told : goal.returns-in-None-clause-told
returns-in-None-clause-told g c = λ start talk at.
    (choice_leads g.M.Machine.stands _ c.args.self.now c.args.self.now c.stay.result roomless c.in-None.is c.in-None.is (c.stay.ensures.roomless g.M.Offered.protocol) start _ at).0
