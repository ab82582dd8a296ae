use Rattle.std.proofs.Common.{ℕ, List, refl, subst}
use Rattle.roles.specs.Talks.{get}
use Rattle.talks.specs.declared.answer.RpcAnswer.TheVariants as a
use Rattle.talks.specs.Answers.{move_answer}
use Rattle.talks.specs.Protocols.{answers}
use Rattle.talks.specs.Standings.{with_move}
use Rattle.conversations.specs.Begins.{Becomes}
use Rattle.conversations.proofs.MoveLemmas.{moves}
use Rattle.conversations.proofs.begun.Begun.read.Goals as goal

pub returns-clause-moves : goal.returns-clause-moves
returns-clause-moves c = λ b is.
    subst (λ (bytes : List ℕ). Becomes (record { machine = c.get_message.new.machine; template = c.args.self.now.template; key = c.args.self.now.key }) c.phase_behind.result (with_move b get) (move_answer (a.Got bytes) b.key (answers b.start b.moves get))) (c.in_ok-gave.ensures.got b.start b.moves is.machine)
    (moves c.args.self.now (record { machine = c.get_message.new.machine; template = c.args.self.now.template; key = c.args.self.now.key }) c.phase_behind.result get (a.Got c.get_message.new.out) c.in_ok-gave.gave c.in_ok-gave.ensures.made refl refl c.phase_behind.ensures b is)
