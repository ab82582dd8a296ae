use Rattle.std.proofs.Common.{sym, subst}
use Rattle.trace_labels.specs.Said.{IsRead}
use Rattle.trace_labels.proofs.LineLaws.{compromised_read, holder_read, reading_read, label_read}
use Rattle.trace_labels.proofs.line.read_rest.Goals as goal

pub returns-in-Compromised : goal.returns-in-Compromised
returns-in-Compromised c = subst (λ v. IsRead v c.args.words.now c.read_compromised.result) (sym c.in-Compromised.is) (compromised_read c.args.words.now c.read_compromised.result c.read_compromised.ensures.ok c.read_compromised.ensures.bad)

pub returns-in-Holder : goal.returns-in-Holder
returns-in-Holder c = subst (λ v. IsRead v c.args.words.now c.read_holder.result) (sym c.in-Holder.is) (holder_read c.args.words.now c.read_holder.result c.read_holder.ensures.ok c.read_holder.ensures.bad)

pub returns-in-Reading : goal.returns-in-Reading
returns-in-Reading c = subst (λ v. IsRead v c.args.words.now c.read_reading.result) (sym c.in-Reading.is) (reading_read c.args.words.now c.read_reading.result c.read_reading.ensures.ok c.read_reading.ensures.bad)

pub returns-in-Label : goal.returns-in-Label
returns-in-Label c = subst (λ v. IsRead v c.args.words.now c.read_label.result) (sym c.in-Label.is) (label_read c.args.words.now c.read_label.result c.read_label.ensures.ok c.read_label.ensures.bad)
