use Rattle.std.proofs.Common.{◌≡◌, ℕ, List, Option, subst, arith}
use Rattle.pass_program.specs.Changing.{moment}
use Rattle.pass_program.specs.Steps.{HearsOne, Served}
use Rattle.pass_program.proofs.SessionLemmas.{ends_refused}
use Rattle.pass_program.proofs.session.hear_all.Goals as goal

pub returns-in-Some-clause-ok : goal.returns-in-Some-clause-ok
returns-in-Some-clause-ok g c = λ before to_come table s.
    subst (λ (heard : Option (List ℕ)). HearsOne c.args.keys.now before (moment (g.R.Source.left c.hear.new.input) to_come (g.W.Sink.holds c.hear.new.output) table (g.L.Log.noted c.hear.new.log)) c.args.session.now c.loop-refusals.refusals heard)
    c.in-Some.is (c.in_ok-password.ensures.ok before to_come table (c.loop-refusals.invariant.served before to_come table s))

pub returns-clause-err : goal.returns-clause-err
returns-clause-err g c = λ before to_come table s.
    let five : c.loop-refusals.refusals ≡ 5 = omega (arith, c.loop-refusals-test.false, c.loop-refusals.auto.refusals-end) in
    let now = moment (g.R.Source.left c.loop-refusals.input) to_come (g.W.Sink.holds c.loop-refusals.output) table (g.L.Log.noted c.loop-refusals.log) in
    ends_refused c.args.keys.now before now c.args.session.now
    (subst (λ (n : ℕ). Served c.args.keys.now before now c.args.session.now n) five (c.loop-refusals.invariant.served before to_come table s))
