use Rattle.roles.specs.Talks.{offered}
use Rattle.conv_p9any.proofs.StandLemmas.{choice_leads}
use Rattle.conv_p9any.proofs.conv.AnyConv.with_offers.Goals as goal

pub returns-in-None-clause-told : goal.returns-in-None-clause-told
returns-in-None-clause-told g c = λ start talk at.
    (choice_leads g.M.Machine.stands _ c.args.self.now (record { alloc = c.args.self.now.alloc; chooser = c.take_offers.new.self; spoken = c.args.self.now.spoken }) c.take_offers.result (offered c.args.list) c.in-None.is c.in-None.is (c.take_offers.ensures g.M.Offered.protocol) start _ at).0

pub returns-in-None-clause-kept : goal.returns-in-None-clause-kept
returns-in-None-clause-kept g c = λ start talk at.
    (choice_leads g.M.Machine.stands _ c.args.self.now (record { alloc = c.args.self.now.alloc; chooser = c.take_offers.new.self; spoken = c.args.self.now.spoken }) c.take_offers.result (offered c.args.list) c.in-None.is c.in-None.is (c.take_offers.ensures g.M.Offered.protocol) start _ at).1
