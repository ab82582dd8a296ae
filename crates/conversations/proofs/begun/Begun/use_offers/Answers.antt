use Rattle.std.proofs.Common.{refl}
use Rattle.roles.specs.Talks.{offered}
use Rattle.conversations.proofs.MoveLemmas.{moves_well}
use Rattle.conversations.proofs.RoleLaws.{offered_tells}
use Rattle.conversations.proofs.begun.Begun.use_offers.Goals as goal

pub returns : goal.returns
returns c = λ b is wanted.
    moves_well c.args.self.now (record { machine = c.with_offers.new.self; template = c.args.self.now.template; key = c.args.self.now.key }) c.choose_phase.result (offered c.args.list) c.need.result.now b
    (c.with_offers.ensures.kept b.start b.moves is.machine wanted) refl refl c.need.ensures c.choose_phase.ensures (offered_tells b.start b.moves c.args.list b.key wanted) is
