use Rattle.attr_tuples.proofs.LineLemmas.{line_from_len, len_from_line}
use Rattle.attr_tuples.proofs.word_laws.lines_are_whole.Goals as goal

pub returns : goal.returns
returns c bytes = (line_from_len bytes, len_from_line bytes)
