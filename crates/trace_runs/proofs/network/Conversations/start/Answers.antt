use Rattle.std.proofs.Common.{length, ap, sym, ◌∙◌}
use Rattle.std.specs.Prelude.{is_some}
use Rattle.auth_tables.proofs.MapLemmas.{put_by_query}
use Rattle.trace_runs.proofs.NetworkLaws.{begun_if, begun_so, free_if, lent_or_not}
use Rattle.trace_runs.proofs.network.Conversations.start.Goals as goal

pub returns-then-is_some : goal.returns-then-is_some
returns-then-is_some c = λ l past word h is.
    (begun_if l past c.args.name.now c.args.self.now h (sym (c.is_some.ensures ∙ lent_or_not c.find.result ∙ ap is_some c.find.ensures) ∙ c.if-is_some.true), h)

pub returns : goal.returns
returns c = λ l past word h is.
    let changed = c.in_ok-insert.ensures.updates in
    begun_so l past c.args.name.now c.args.protocol c.args.part word c.args.holder.now c.in_ok-conversation.conversation c.args.self.now _
    (free_if _ (sym (c.is_some.ensures ∙ lent_or_not c.find.result ∙ ap is_some c.find.ensures) ∙ c.if-is_some.false)) is c.in-Some.ensures.1
    (put_by_query (λ key. key.items) c.in_ok-from_slice.field-0.items c.args.name.now _ _ _ c.in_ok-from_slice.ensures.items changed.1 changed.3)
    (c.in_ok-conversation.ensures word (l.label (length past))) h
