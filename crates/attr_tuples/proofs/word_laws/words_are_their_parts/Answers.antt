use Rattle.attr_tuples.proofs.PartLemmas.{word_written, open_written}
use Rattle.attr_tuples.proofs.SayLemmas.{word_read, open_read}
use Rattle.attr_tuples.proofs.word_laws.words_are_their_parts.Goals as goal

pub returns-clause-taken : goal.returns-clause-taken
returns-clause-taken c at text cut = (word_read at text cut, word_written at text cut)

pub returns-clause-not_closed : goal.returns-clause-not_closed
returns-clause-not_closed c at text opened = (open_read at text opened, open_written at text opened)
