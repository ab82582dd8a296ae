use Rattle.std.proofs.Common.{sym, subst}
use Rattle.std.specs.Prelude.{Option}
use Rattle.roles.specs.declared.answer.StartFault.{StartFault}
use Rattle.talks.specs.Standings.{begin, started}
use Rattle.conversations.specs.declared.opening.Opening.{Opening}
use Rattle.conversations.specs.Begins.{Opens}
use Rattle.conversations.specs.Fits.{Fits}
use Rattle.conversations.proofs.conversation.Conversation.start_with.Goals as goal

pub returns-in-Started-clause-met : goal.returns-in-Started-clause-met
returns-in-Started-clause-met c =
    let opened = subst (λ (o : Opening). Opens o c.args.template c.args.word) c.in-Started.is c.in_ok-answer.ensures in
    λ s f. subst (λ (refused : Option StartFault). Fits c.begin.new.self (started s c.args.word c.args.template refused)) (sym opened.0) (c.begin.ensures (begin c.args.template c.args.word) opened.1 s f)
