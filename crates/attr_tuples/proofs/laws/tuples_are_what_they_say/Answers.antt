use Rattle.attr_tuples.proofs.GrammarLemmas.{reads_written, refuses_written}
use Rattle.attr_tuples.proofs.ToldLemmas.{reads_read, refuses_read}
use Rattle.attr_tuples.proofs.laws.tuples_are_what_they_say.Goals as goal

pub returns-clause-says : goal.returns-clause-says
returns-clause-says c text attrs = (reads_read text attrs, reads_written text attrs)

pub returns-clause-refuses : goal.returns-clause-refuses
returns-clause-refuses c text fault = (refuses_read text fault, refuses_written text fault)
