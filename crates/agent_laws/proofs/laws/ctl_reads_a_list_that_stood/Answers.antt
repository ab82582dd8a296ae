use Rattle.agent_laws.proofs.TextLaws.{listed_stays, read_is_piece, text_stood}
use Rattle.agent_laws.proofs.laws.ctl_reads_a_list_that_stood.Goals as goal

pub returns : goal.returns
returns c = record {
  texts = text_stood;
  reads = read_is_piece;
  until_the_next = listed_stays;
}
