use Rattle.std.proofs.Common.{◌∙◌, Bor, List, ap, map}
use Rattle.std.proofs.lemmas.Result.{IfOk-weaker}
use Rattle.auth_tables.specs.Keys.{KeyLine}
use Rattle.sealing.specs.Request.{request_of}
use Rattle.symbolic_runs.specs.Views.{tree}
use Rattle.trace_runs.proofs.GrantLaws.{granted_so}
use Rattle.trace_runs.proofs.grants.grant_of.Goals as goal

pub returns : goal.returns
returns c =
    IfOk-weaker c.grant.result _ _ (λ granted is z noted less.
    granted_so z c.args.setting.now c.args.tables (record { keys = c.in-Some.keys.now; speaks = c.in-Some.speaks.now }) (map (λ t. t.now) c.deref.result.now) (request_of c.args.request.now) (tree c.args.label.now) granted noted c.in-Some.ensures
    (ap (λ (xs : List (Bor (List KeyLine))). map (λ t. t.now) xs) c.deref.ensures.value ∙ c.in_ok-before.ensures) is) c.grant.ensures
