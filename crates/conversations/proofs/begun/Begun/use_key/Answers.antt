use Rattle.std.proofs.Common.{rules, ◌≡◌, Some, option_map, refl, ap, ◌∙◌}
use Rattle.std.specs.Borrow.{Bor}
use Rattle.wire_base.specs.declared.text.Text.{Text}
use Rattle.key_lists.specs.Lists.{KeyEntry}
use Rattle.talks.specs.Standings.{kept_key}
use Rattle.conversations.proofs.MoveLemmas.{chooses}
use Rattle.conversations.proofs.begun.Begun.use_key.Goals as goal

pub returns-clause-moves : goal.returns-clause-moves
returns-clause-moves c =
    let shown : c.in_ok-shown.shown ≡ c.args.key.now.tuple = search rules in
    chooses c.args.self.now (record { machine = c.give_key.new.machine; template = c.args.self.now.template; key = c.keep_key.result }) c.choose_phase.result c.args.key.now c.tell_key-told.result (option_map (λ (text : Bor Text). text.now) c.password.result) c.in_ok-gave.gave c.need-need.result.now c.answer_move-answer.result
    c.tell_key-told.ensures c.password.ensures.value c.in_ok-gave.ensures.made refl (c.keep_key.ensures ∙ ap (λ (key : KeyEntry). kept_key key c.need-need.result.now) c.in_ok-copy.ensures) c.need-need.ensures c.choose_phase.ensures (c.answer_move-answer.ensures (Some c.args.key.now) shown)
