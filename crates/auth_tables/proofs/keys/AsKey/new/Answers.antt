use Rattle.std.proofs.Common.{◌∙◌}
use Rattle.auth_tables.proofs.KeyLemmas.{found_digits, made_of_copy}
use Rattle.auth_tables.proofs.keys.AsKey.new.Goals as goal

pub choose_key-des-requires : goal.choose_key-des-requires
choose_key-des-requires c = found_digits c.args.line.now _ _ c.requires c.as_slice.ensures c.value_of-digits.ensures

pub returns-clause-value : goal.returns-clause-value
returns-clause-value c = c.of.ensures.value ∙ made_of_copy c.args.line.now _ _ _ _ _ _ c.as_slice.ensures c.as_slice-2.ensures c.value_of-digits.ensures c.value_of-password.ensures c.choose_key-des.ensures c.in_ok-password.ensures
