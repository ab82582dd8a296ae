use Rattle.agent_laws.proofs.WriteLaws.{writes_alike, writes_told_alike}
use Rattle.agent_laws.proofs.laws.a_write_hides_its_secrets.Goals as goal

pub returns : goal.returns
returns c = record {
  deeds = writes_alike;
  told = writes_told_alike;
}
