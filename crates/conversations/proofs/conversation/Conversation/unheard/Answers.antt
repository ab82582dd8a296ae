use Rattle.std.proofs.Common.{◌∙◌, refl, sym}
use Rattle.roles.specs.Talks.{unheard}
use Rattle.talks.specs.declared.answer.RpcAnswer.TheVariants as a
use Rattle.talks.specs.Calls.{Unheard}
use Rattle.conversations.proofs.ServerLemmas.{asks_so, done_with}
use Rattle.conversations.proofs.WaitLaws.{unheard_rests}
use Rattle.conversations.proofs.conversation.Conversation.unheard.Goals as goal

pub returns-in-Some : goal.returns-in-Some
returns-in-Some c = λ talk holds.
    let asks = asks_so c.args.self.now talk holds (sym c.waits_for_server.ensures ∙ c.if-waits_for_server.true) in
    done_with c.args.self.now c.in-Some.begun c.hear_nothing.new.self talk Unheard unheard a.NoServer c.in-Some.is c.hear_nothing.ensures asks refl (unheard_rests talk asks) holds
