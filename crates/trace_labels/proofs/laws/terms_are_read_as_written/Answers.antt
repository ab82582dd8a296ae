use Rattle.trace_labels.proofs.TermLaws.{term_parts, whole_again}
use Rattle.trace_labels.proofs.laws.terms_are_read_as_written.Goals as goal

pub returns-clause-written : goal.returns-clause-written
returns-clause-written c = term_parts

pub returns-clause-read : goal.returns-clause-read
returns-clause-read c = λ d words rest t deep h. whole_again t d words rest deep h
