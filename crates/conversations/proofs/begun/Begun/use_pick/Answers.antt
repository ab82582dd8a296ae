use Rattle.std.proofs.Common.{refl}
use Rattle.roles.specs.Talks.{picked}
use Rattle.conversations.proofs.MoveLemmas.{moves_well}
use Rattle.conversations.proofs.RoleLaws.{picked_tells}
use Rattle.conversations.proofs.begun.Begun.use_pick.Goals as goal

pub returns : goal.returns
returns c = λ b is wanted.
    moves_well c.args.self.now (record { machine = c.with_pick.new.self; template = c.args.self.now.template; key = c.args.self.now.key }) c.choose_phase.result (picked c.args.place) c.need.result.now b
    (c.with_pick.ensures.kept b.start b.moves is.machine wanted) refl refl c.need.ensures c.choose_phase.ensures (picked_tells b.start b.moves c.args.place b.key wanted) is
