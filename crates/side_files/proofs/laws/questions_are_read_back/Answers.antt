use Rattle.side_files.proofs.ReadBack.{longer_back, read_back}
use Rattle.side_files.proofs.laws.questions_are_read_back.Goals as goal

pub returns : goal.returns
returns c = record { printed = read_back; longer = longer_back }
