use Rattle.std.proofs.Common.{◌≡◌, ℕ, List, Some, leb, length, ap, sym, ◌∙◌}
use Rattle.std.specs.List.{list_all}
use Rattle.std.proofs.lemmas.Bool.{and_parts}
use Rattle.attr_tuples.specs.declared.attr.Value.TheVariants.{Is}
use Rattle.attr_tuples.specs.Attributes.{is_attr, is_value}
use Rattle.attr_tuples.specs.Matching.{value_of}
use Rattle.roles.proofs.ValueLemmas.{given_is_value}
use Rattle.roles.proofs.template.find_dom.Goals as goal

pub returns-in-Some-clause-valid : goal.returns-in-Some-clause-valid
returns-in-Some-clause-valid c =
    let t = c.args.template.now in
    let parts = and_parts (leb (length t) 36) (list_all is_attr t) c.requires in
    let given : value_of c.as_slice.result.now t ≡ Some c.in-Some.dom.now = sym c.in-Some.ensures in
    ap (λ (text : List ℕ). is_value (Is text)) c.as_slice-in-Some.ensures.same ∙ given_is_value c.as_slice.result.now t c.in-Some.dom.now parts.1 given
