use Rattle.std.proofs.Common.{sym, ap}
use Rattle.std.specs.Result.{is_ok}
use Rattle.key_lists.proofs.HexLemmas.{found_key, refused_key}
use Rattle.key_lists.proofs.digits.decode_key.Goals as goal

pub returns-in-Ok-clause-exactly : goal.returns-in-Ok-clause-exactly
returns-in-Ok-clause-exactly c = sym (found_key c.args.text.now c.decode_to_slice.new.out c.decode_to_slice.result c.decode_to_slice.ensures.value (ap is_ok c.in-Ok.is))

pub returns-in-Err-clause-exactly : goal.returns-in-Err-clause-exactly
returns-in-Err-clause-exactly c = sym (refused_key c.args.text.now c.decode_to_slice.new.out c.decode_to_slice.result _ c.decode_to_slice.ensures.value c.in-Err.is)
