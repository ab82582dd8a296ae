use Rattle.agent_laws.proofs.WaitLaws.{all_told, none_settled, only_reads_wait, reads_wait, waits_behind}
use Rattle.agent_laws.proofs.laws.a_read_waits_for_an_answer_or_a_line.Goals as goal

pub returns : goal.returns
returns c = record {
  waits = reads_wait;
  swept = none_settled;
  told = all_told;
  reads = only_reads_wait;
  behind = waits_behind;
}
