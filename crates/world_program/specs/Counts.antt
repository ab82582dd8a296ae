-- Of the code alone: the steps of a record that are counted.
use Rattle.std.specs.Prelude.{Bool, is_some}
use Rattle.wire_histories.specs.declared.step.Step.{Step}
use Rattle.world_history.specs.Worlds.{message_in}
use Rattle.world_program.specs.Summing.{is_accept, is_fail}
use Rattle.world_program.specs.declared.summary.Sought.{Sought}
use Rattle.world_program.specs.declared.summary.Sought.TheVariants.{Accepted, Failed, Message}

abbrev pub is_sought : Sought → Step → Bool
is_sought Accepted step = is_accept step
is_sought Failed step = is_fail step
is_sought Message step = is_some (message_in step)
