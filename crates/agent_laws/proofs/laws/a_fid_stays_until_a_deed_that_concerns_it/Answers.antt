use Rattle.agent_laws.proofs.FidLaws.{event_leaves_fid, fid_stays}
use Rattle.agent_laws.proofs.laws.a_fid_stays_until_a_deed_that_concerns_it.Goals as goal

pub returns : goal.returns
returns c = record {
  by_deeds = fid_stays;
  by_events = event_leaves_fid;
}
