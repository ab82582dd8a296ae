use Rattle.agent_laws.proofs.RefusalLaws.{first_is_found, first_is_told, front_stands}
use Rattle.agent_laws.proofs.laws.lines_stand_before_the_first_refused.Goals as goal

pub returns : goal.returns
returns c = record {
  front = front_stands;
  told = first_is_told;
  found = first_is_found;
}
