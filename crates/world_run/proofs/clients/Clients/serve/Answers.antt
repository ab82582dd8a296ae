use Rattle.std.proofs.Common.{refl, sym, ap, ◌∙◌}
use Rattle.std.specs.Prelude.{is_some}
use Rattle.std.proofs.lemmas.Bool.{false≢true}
use Rattle.std.proofs.lemmas.Result.{IfOk-weaker}
use Rattle.auth_server.specs.Answers.{posed}
use Rattle.auth_server.specs.Requests.{asked_so}
use Rattle.auth_server.specs.Standing.{knowledge}
use Rattle.auth_tables.proofs.MapLemmas.{found_by_bytes, put_by_bytes}
use Rattle.world_run.proofs.SessionLemmas.{serves_among}
use Rattle.world_run.proofs.clients.Clients.serve.Goals as goal

pub returns-in_default : goal.returns-in_default
returns-in_default c = absurd (false≢true (ap is_some (c.in_default.ensures.value ∙ found_by_bytes (λ key. key.items) c.args.name.now _) ∙ rw c.self.view_is c.in_ok-enter.ensures.entered))

pub returns : goal.returns
returns c =
    let writes = c.get_mut.follows.holds c.serve.new.self in
    let changed = writes.3 (rw (← c.in-Some.ensures.value) refl) in
    IfOk-weaker c.serve.result _ _ (λ served so v h.
    serves_among v c.args.name.now (posed (knowledge c.args.core.now) (asked_so c.args.request.now c.args.words.now)) served c.args.answer.now _ _ c.serve.new.self _ _ (c.in_ok-enter.ensures.clients v h)
    (rw (← c.self.view_is) (sym (c.in-Some.ensures.value ∙ found_by_bytes (λ key. key.items) c.args.name.now _)))
    (rw (← c.self.view_is) (put_by_bytes (λ key. key.items) c.args.name.now _ _ _ changed.1 changed.3)) so)
    c.serve.ensures
