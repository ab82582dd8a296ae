use Rattle.std.proofs.Common.{codes, ap, sym, ◌∙◌}
use Rattle.std.specs.Prelude.{option_map}
use Rattle.attr_tuples.specs.Matching.{texts_of}
use Rattle.auth_tables.proofs.SpeakLemmas.{put_line}
use Rattle.auth_tables.proofs.speaks.SpeaksTableTable.take.Goals as goal

pub returns-clause-told : goal.returns-clause-told
returns-clause-told c = λ _ before tells.
    put_line before c.args.line.now _ _ c.args.self.now _ (ap (option_map (λ said. (said.0.items, texts_of (codes "uid") said.1))) (sym c.in-Some.is) ∙ c.in_ok-host.ensures) c.in_ok-put.ensures tells
