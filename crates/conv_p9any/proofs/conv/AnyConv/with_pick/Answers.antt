use Rattle.roles.specs.Talks.{picked}
use Rattle.conv_p9any.proofs.StandLemmas.{choice_leads}
use Rattle.conv_p9any.proofs.conv.AnyConv.with_pick.Goals as goal

pub returns-in-None-clause-told : goal.returns-in-None-clause-told
returns-in-None-clause-told g c = λ start talk at.
    (choice_leads g.M.Machine.stands _ c.args.self.now (record { alloc = c.args.self.now.alloc; chooser = c.take_pick.new.self; spoken = c.args.self.now.spoken }) c.take_pick.result (picked c.args.place) c.in-None.is c.in-None.is (c.take_pick.ensures g.M.Offered.protocol) start _ at).0

pub returns-in-None-clause-kept : goal.returns-in-None-clause-kept
returns-in-None-clause-kept g c = λ start talk at.
    (choice_leads g.M.Machine.stands _ c.args.self.now (record { alloc = c.args.self.now.alloc; chooser = c.take_pick.new.self; spoken = c.args.self.now.spoken }) c.take_pick.result (picked c.args.place) c.in-None.is c.in-None.is (c.take_pick.ensures g.M.Offered.protocol) start _ at).1
