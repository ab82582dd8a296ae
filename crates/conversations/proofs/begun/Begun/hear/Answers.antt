use Rattle.std.proofs.Common.{refl}
use Rattle.roles.specs.Talks.{heard}
use Rattle.talks.specs.declared.answer.RpcAnswer.TheVariants as a
use Rattle.conversations.proofs.MoveLemmas.{moves}
use Rattle.conversations.proofs.begun.Begun.hear.Goals as goal

pub returns-clause-moves : goal.returns-clause-moves
returns-clause-moves c = moves c.args.self.now (record { machine = c.give_answer.new.machine; template = c.args.self.now.template; key = c.args.self.now.key }) c.phase_behind.result (heard c.args.bytes.now) a.Ok c.in_ok-gave.gave c.in_ok-gave.ensures.made refl refl c.phase_behind.ensures
