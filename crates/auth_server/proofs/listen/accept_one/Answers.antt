use Rattle.std.proofs.Common.{ap, ◌∙◌}
use Rattle.std.specs.Arc.{arc_value}
use Rattle.auth_server.specs.Clients.{client}
use Rattle.auth_server.proofs.ListenLemmas.{one_more, no_thread}
use Rattle.auth_server.proofs.listen.accept_one.Goals as goal

pub returns-in-Ok-spawn-clause-going : goal.returns-in-Ok-spawn-clause-going
returns-in-Ok-spawn-clause-going g c came taken going =
    one_more (arc_value c.args.core.now) came _ _ taken _ _ (c.in-Ok-accept.source, c.in-Ok-accept.sink) c.new.result
    (c.new.ensures ∙ ap (λ core. client core c.in-Ok-accept.source c.in-Ok-accept.sink) c.in-Ok.ensures)
    going c.in-Ok-accept.ensures.accepted c.in-Ok-spawn.ensures.taken

pub returns-in-Err-clause-ends : goal.returns-in-Err-clause-ends
returns-in-Err-clause-ends g c came taken going =
    no_thread (arc_value c.args.core.now) came _ _ taken _ _ (c.in-Ok-accept.source, c.in-Ok-accept.sink)
    going c.in-Ok-accept.ensures.accepted c.in-Err.ensures.taken
