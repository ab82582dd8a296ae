use Rattle.agent_laws.proofs.FitLaws.{agreed_between, frames_no_longer, others_no_longer, reply_no_longer}
use Rattle.agent_laws.proofs.SpellLaws.{reply_read, reply_valid, told_is_agreed}
use Rattle.agent_laws.proofs.laws.a_reply_fits_what_was_agreed.Goals as goal

pub returns : goal.returns
returns c = record {
  fits = reply_no_longer;
  agreed = agreed_between;
  frames = frames_no_longer;
  others = others_no_longer;
  told = told_is_agreed;
  valid = reply_valid;
  read = reply_read;
}
