use Rattle.std.proofs.Common.{refl}
use Rattle.roles.specs.Talks.{give}
use Rattle.talks.specs.declared.answer.RpcAnswer.TheVariants as a
use Rattle.conversations.proofs.MoveLemmas.{moves}
use Rattle.conversations.proofs.begun.Begun.write.Goals as goal

pub returns-clause-moves : goal.returns-clause-moves
returns-clause-moves c = moves c.args.self.now (record { machine = c.give_message.new.machine; template = c.args.self.now.template; key = c.args.self.now.key }) c.phase_behind.result (give c.args.message.now) a.Ok c.in_ok-gave.gave c.in_ok-gave.ensures.made refl refl c.phase_behind.ensures
