use Rattle.std.proofs.Common.{◌∙◌, refl, sym}
use Rattle.roles.specs.Talks.{roomless}
use Rattle.talks.specs.declared.answer.RpcAnswer.TheVariants as a
use Rattle.talks.specs.Calls.{Roomless}
use Rattle.conversations.proofs.ServerLemmas.{asks_so, done_with}
use Rattle.conversations.proofs.WaitLaws.{roomless_rests}
use Rattle.conversations.proofs.conversation.Conversation.roomless.Goals as goal

pub returns-in-Some : goal.returns-in-Some
returns-in-Some c = λ talk holds.
    let asks = asks_so c.args.self.now talk holds (sym c.waits_for_server.ensures ∙ c.if-waits_for_server.true) in
    done_with c.args.self.now c.in-Some.begun c.lack_room.new.self talk Roomless roomless a.NoRoom c.in-Some.is c.lack_room.ensures asks refl (roomless_rests talk asks) holds
