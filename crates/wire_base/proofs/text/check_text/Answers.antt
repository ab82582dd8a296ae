use Rattle.std.proofs.Common.{sym, ◌∙◌}
use Rattle.wire_base.proofs.TextLemmas.{same_test, is_text-without_nul}
use Rattle.wire_base.proofs.text.check_text.Goals as goal

pub returns-then-not-contains : goal.returns-then-not-contains
returns-then-not-contains c =
    same_test c.check_utf8.result c.args.input.now c.check_utf8.ensures.exactly
    ∙ sym (is_text-without_nul c.args.input.now (sym c.contains.ensures.value ∙ c.if-not-contains.true))
