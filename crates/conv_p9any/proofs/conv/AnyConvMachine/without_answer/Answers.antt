use Rattle.roles.specs.Talks.{unheard}
use Rattle.conv_p9any.proofs.StandLemmas.{choice_leads}
use Rattle.conv_p9any.proofs.conv.AnyConvMachine.without_answer.Goals as goal

pub returns-in-None-clause-told : goal.returns-in-None-clause-told
returns-in-None-clause-told g c = λ start talk at.
    (choice_leads g.M.Machine.stands _ c.args.self.now c.args.self.now c.stay.result unheard c.in-None.is c.in-None.is (c.stay.ensures.unheard g.M.Offered.protocol) start _ at).0
