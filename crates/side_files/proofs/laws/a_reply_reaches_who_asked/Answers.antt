use Rattle.side_files.proofs.CallLaws.{who_asked}
use Rattle.side_files.proofs.laws.a_reply_reaches_who_asked.Goals as goal

pub returns : goal.returns
returns c = who_asked
