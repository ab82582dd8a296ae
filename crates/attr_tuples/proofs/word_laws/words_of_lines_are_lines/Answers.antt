use Rattle.attr_tuples.proofs.LineLemmas.{word_line}
use Rattle.attr_tuples.proofs.word_laws.words_of_lines_are_lines.Goals as goal

pub returns : goal.returns
returns c = word_line
