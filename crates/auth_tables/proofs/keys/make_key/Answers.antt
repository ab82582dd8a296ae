use Rattle.std.proofs.Common.{ap, sym, ◌∙◌}
use Rattle.auth_tables.specs.Keys.{is_user_key}
use Rattle.auth_tables.proofs.KeyLemmas.{made_line}
use Rattle.auth_tables.proofs.keys.make_key.Goals as goal

pub returns-clause-good : goal.returns-clause-good
returns-clause-good c = made_line c.in-Some.line c.attrs.result.now c.in_ok-user.user c.in_ok-key.key c.attrs.ensures.same c.attrs.ensures.valid (ap is_user_key (sym c.attrs.ensures.same) ∙ (sym c.is_user_key.ensures ∙ c.if-not-is_user_key.false)) c.in_ok-user.ensures c.in_ok-key.ensures.value c.in_ok-key.ensures.sized.0 c.in_ok-key.ensures.sized.1
