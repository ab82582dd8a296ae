use Rattle.std.proofs.Common.{ap, ◌∙◌}
use Rattle.wire_base.specs.Texts.{is_text}
use Rattle.attr_tuples.specs.Attributes.{is_value}
use Rattle.attr_tuples.proofs.AttrLemmas.{name_text, value_text_is}
use Rattle.attr_tuples.proofs.parse.read_attr.Goals as goal

pub check_name-requires : goal.check_name-requires
check_name-requires c = ap is_text c.split_word.ensures.name ∙ name_text c.args.word.now c.requires

pub build_attr-requires-clause-value : goal.build_attr-requires-clause-value
build_attr-requires-clause-value c = ap is_value c.split_word.ensures.value ∙ value_text_is c.args.word.now c.requires
