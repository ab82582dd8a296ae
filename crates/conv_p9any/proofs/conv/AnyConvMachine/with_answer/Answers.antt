use Rattle.roles.proofs.AnswerLemmas.{comes}
use Rattle.roles.specs.Talks.{heard}
use Rattle.conv_p9any.proofs.StandLemmas.{choice_leads}
use Rattle.conv_p9any.proofs.conv.AnyConvMachine.with_answer.Goals as goal

pub returns-in-None-clause-told : goal.returns-in-None-clause-told
returns-in-None-clause-told g c = λ start talk at.
    comes c.stay.result _ (λ memory. (choice_leads g.M.Machine.stands _ c.args.self.now c.args.self.now c.stay.result (heard c.args.answer.now) c.in-None.is c.in-None.is (c.stay.ensures.heard g.M.Offered.protocol c.args.answer.now) start _ at).0)
