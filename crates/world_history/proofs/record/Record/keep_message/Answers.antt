use Rattle.std.proofs.Common.{[], ◌∷◌, ◌++◌, ℕ, List, ap, sym, ◌∙◌}
use Rattle.world_history.specs.Worlds.{messages_in}
use Rattle.world_history.proofs.RecordLemmas.{message_behind}
use Rattle.world_history.proofs.record.Record.keep_message.Goals as goal

pub invariant_of-self-in-Ok : goal.invariant_of-self-in-Ok
invariant_of-self-in-Ok c =
    c.in_ok-push.ensures.items
    ∙ (ap (λ (l : List (List ℕ)). l ++ c.args.message ∷ []) c.self.invariant
    ∙ (sym (message_behind c.self.inside.steps c.args.step c.args.message c.requires) ∙ ap messages_in (sym c.in-Ok.ensures.ok)))
