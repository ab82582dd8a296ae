use Rattle.side_files.proofs.CallLaws.{tag_is, tags_grow}
use Rattle.side_files.proofs.laws.tags_rise.Goals as goal

pub returns : goal.returns
returns c = record { tag = tag_is; rise = tags_grow }
