use Rattle.roles.specs.Talks.{undone}
use Rattle.conv_p9any.proofs.StandLemmas.{choice_goes}
use Rattle.conv_p9any.proofs.conv.AnyConvMachine.undo_need.Goals as goal

pub returns-in-None-clause-kept : goal.returns-in-None-clause-kept
returns-in-None-clause-kept g c = λ start talk at.
    choice_goes g.M.Machine.stands _ c.args.self.now (record { alloc = c.args.self.now.alloc; chooser = c.take_undone.new.self; spoken = c.args.self.now.spoken }) undone c.in-None.is c.in-None.is (c.take_undone.ensures g.M.Offered.protocol) start _ at
