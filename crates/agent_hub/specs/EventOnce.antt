-- For proofs alone: that an event may come is one fact.
use Rattle.std.proofs.Props.{props}
use Rattle.agent_history.specs.declared.event.Event.{Event}
use Rattle.agent_history.specs.declared.event.Event.TheVariants.{Request, Hang, Answer, NoAnswer, NoRoom, Take, TakeAsk, Stop}
use Rattle.agent_core.specs.Events.{IsEvent}

pub event_once : (event : Event) → IsProp (IsEvent event)
event_once (Request conn frame word) = hlevel props
event_once (Hang conn) = hlevel props
event_once (Answer call bytes) = hlevel props
event_once (NoAnswer call) = hlevel props
event_once (NoRoom call) = hlevel props
event_once (Take conn) = hlevel props
event_once TakeAsk = hlevel props
event_once Stop = hlevel props
