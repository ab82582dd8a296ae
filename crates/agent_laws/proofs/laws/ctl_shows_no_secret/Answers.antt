use Rattle.agent_laws.proofs.SightLaws.{sight}
use Rattle.agent_laws.proofs.SecretLaws.{deeds_open, frame_alike, reply_to_alike}
use Rattle.agent_laws.proofs.laws.ctl_shows_no_secret.Goals as goal

pub returns : goal.returns
returns c = record {
  list = λ a b s. (sight a b s).shown;
  texts = λ a b s. (sight a b s).texts;
  fids = λ a b s. (sight a b s).fids;
  nexts = λ a b s. (sight a b s).nexts;
  held = λ a b s. (sight a b s).counts;
  holders = λ a b s. (sight a b s).holders;
  msize = λ a b s. (sight a b s).msizes;
  any_reply = λ a b s none. reply_to_alike a b s none;
  any_deeds = λ a b s none. frame_alike a b s none;
  open_deletes = deeds_open;
}
