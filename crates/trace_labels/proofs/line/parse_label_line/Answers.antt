use Rattle.std.proofs.Common.{sym, ◌∙◌}
use Rattle.trace_labels.proofs.LineLaws.{line_read, line_not_read, no_verb, no_word}
use Rattle.trace_labels.proofs.line.parse_label_line.Goals as goal

pub returns-in-Some-clause-ok : goal.returns-in-Some-clause-ok
returns-in-Some-clause-ok c = line_read c.in-Some.verb c.args.text.now c.in_ok-word.word.now c.take.new.self c.read_rest.result (sym c.new-words.ensures ∙ c.in_ok-word.ensures.ok) (sym c.in-Some.ensures) c.read_rest.ensures

pub returns-in-Some-clause-bad : goal.returns-in-Some-clause-bad
returns-in-Some-clause-bad c = line_not_read c.in-Some.verb c.args.text.now c.in_ok-word.word.now c.take.new.self c.read_rest.result (sym c.new-words.ensures ∙ c.in_ok-word.ensures.ok) (sym c.in-Some.ensures) c.read_rest.ensures

pub returns-in-None-clause-bad : goal.returns-in-None-clause-bad
returns-in-None-clause-bad c = λ e. no_verb c.args.text.now c.in_ok-word.word.now c.take.new.self (sym c.new-words.ensures ∙ c.in_ok-word.ensures.ok) (sym c.in-None.ensures)

pub returns-in_err-word-clause-bad : goal.returns-in_err-word-clause-bad
returns-in_err-word-clause-bad c = λ e. no_word c.args.text.now (sym c.new-words.ensures ∙ c.in_err-word.ensures.bad)
