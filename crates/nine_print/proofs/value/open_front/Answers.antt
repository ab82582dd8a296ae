use Rattle.std.proofs.Common.{◌∙◌, ap, false}
use Rattle.nine_print.specs.Values.{open_part, open_front}
use Rattle.nine_print.proofs.value.open_front.Goals as goal

pub returns : goal.returns
unfolding open_front
returns c = c.split_at.ensures.front ∙ c.open_len.ensures.part ∙ ap (open_part false) c.front_of-front.ensures
