use Rattle.std.proofs.Common.{◌≡◌, ap, sym, ◌∙◌, subst}
use Rattle.std.proofs.lemmas.Result.{IfOk-weaker}
use Rattle.symbolic_runs.specs.Views.{tree}
use Rattle.wire_histories.specs.Histories.{gave}
use Rattle.clean_runs.specs.Runs.{moves_for}
use Rattle.trace_runs.specs.Stages.{Tells, chooses}
use Rattle.trace_runs.specs.Views.{newest_first, own_of, role_of}
use Rattle.trace_runs.proofs.conversation.Conversation.next_move.Goals as goal

pub returns-in-Gave : goal.returns-in-Gave
returns-in-Gave c = λ a tells.
    let is : a.act ≡ gave c.in-Gave.bytes.now = subst (λ v. Tells v a) c.in-Gave.is tells in
    let self = c.args.self.now in
    IfOk-weaker c.gift.result _ _ (λ made h. h ∙ ap (λ act. moves_for (own_of self.own) (role_of self.role) (chooses self.stage) (newest_first self.moves.items) act a.label) (sym is)) (c.gift.ensures a.label)

pub returns-in-Took : goal.returns-in-Took
returns-in-Took c = λ a tells.
    let is = subst (λ v. Tells v a) c.in-Took.is tells in
    let self = c.args.self.now in
    IfOk-weaker c.taken.result _ _ (λ made h. h
    ∙ ap (λ act. moves_for (own_of self.own) (role_of self.role) (chooses self.stage) (newest_first self.moves.items) act (tree c.in-Took.label.now)) (sym is.0)
    ∙ ap (λ t. moves_for (own_of self.own) (role_of self.role) (chooses self.stage) (newest_first self.moves.items) a.act t) (sym is.1)) (c.taken.ensures c.in-Took.bytes.now)
