use Rattle.world_scripts.proofs.RandomLemmas.{never_refused}
use Rattle.world_scripts.proofs.words.decode_random.Goals as goal

pub returns-in-Err : goal.returns-in-Err
returns-in-Err c = λ lower sized. absurd (never_refused c.args.text.now c.decode_to_slice.new.out c.decode_to_slice.result c.in-Err.field-0 lower sized c.decode_to_slice.ensures.value c.in-Err.is)
