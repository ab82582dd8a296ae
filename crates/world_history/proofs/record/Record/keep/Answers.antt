use Rattle.std.proofs.Common.{◌≡◌, ◌∙◌, None, rules}
use Rattle.world_history.proofs.RecordLemmas.{messages_kept}
use Rattle.world_history.proofs.record.Record.keep.Goals as goal

pub invariant_of-self : goal.invariant_of-self
invariant_of-self c =
    let none : c.message_in.result ≡ None = search rules in
    c.self.invariant ∙ messages_kept c.push.result c.self.inside.steps c.push.new.self c.args.step (rw none at c.message_in.ensures) c.push.ensures.ok c.push.ensures.err
