use Rattle.std.proofs.Common.{◌++◌, ap}
use Rattle.turn_lock.specs.Fronts.{events}
use Rattle.turn_lock.specs.Seats.{front}
use Rattle.agent_hub.proofs.laws.a_submit_is_one_event_of_the_agent.Goals as goal

pub returns : goal.returns
returns c = λ event a old new before after s. (events (s.others ++ front before), ap events s.goes_on, s.answered)
