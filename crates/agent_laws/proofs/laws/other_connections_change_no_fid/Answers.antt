use Rattle.agent_laws.proofs.DeedLaws.{elsewhere}
use Rattle.agent_laws.proofs.laws.other_connections_change_no_fid.Goals as goal

pub returns : goal.returns
returns c = record {
  fids = λ event history conn fid off going. (elsewhere event history conn off going).fids fid;
  texts = λ event history conn fid off going. (elsewhere event history conn off going).texts fid;
  nexts = λ event history conn fid off going. (elsewhere event history conn off going).nexts fid;
  held = λ event history conn off going. (elsewhere event history conn off going).held;
  msize = λ event history conn off going. (elsewhere event history conn off going).msize;
}
