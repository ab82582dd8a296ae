use Rattle.agent_laws.proofs.DeedLaws.{event_adds, others_add}
use Rattle.agent_laws.proofs.laws.an_event_changes_its_own_connection.Goals as goal

pub returns : goal.returns
returns c = record {
  own = event_adds;
  others = others_add;
}
