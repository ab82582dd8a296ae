use Rattle.agent_laws.proofs.ExclusiveLaws.{holder_opens, opener_holds, two_open_are_one}
use Rattle.agent_laws.proofs.laws.an_exclusive_file_is_open_once.Goals as goal

pub returns : goal.returns
returns c = record {
  once = two_open_are_one;
  opener_holds = λ history node conn fid x h. opener_holds history node x conn fid h;
  holder_opened = holder_opens;
}
