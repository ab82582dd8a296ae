use Rattle.std.proofs.Common.{◌∙◌}
use Rattle.key_ring.proofs.KeyLemmas.{found_digits, chosen_key}
use Rattle.key_ring.proofs.des.make_des.Goals as goal

pub choose_key-requires : goal.choose_key-requires
choose_key-requires c = found_digits c.args.tuple.now _ c.requires c.find_hex.ensures

pub returns : goal.returns
returns c = c.choose_key.ensures ∙ chosen_key c.args.tuple.now _ _ _ c.as_slice.ensures c.find_hex.ensures c.value_of.ensures
