use Rattle.std.proofs.Common.{◌≡◌, [], ◌+◌, sym, ◌∙◌, ap, true, false, drop, map, option_map, drop_of_length-le}
use Rattle.trace_labels.specs.Said.{said}
use Rattle.trace_runs.specs.Readings.{are_new, is_of}
use Rattle.trace_runs.proofs.ApartLaws.{decides_apart, left_at, now, one_new, one_old}
use Rattle.trace_runs.proofs.readings.are_apart.Goals as goal

pub returns-then-not-branch : goal.returns-then-not-branch
returns-then-not-branch c =
    let kind = is_of c.args.kind in
    let left = left_at c.args.lines.now c.loop-line.line-index c.line-item.result c.loop-line-test.true c.line-item.is in
    let seen = map now c.loop-line.seen.keys in
    decides_apart kind (map said c.args.lines.now) false
    (one_old kind (said c.line-item.result) (map said (drop (c.loop-line.line-index + 1) c.args.lines.now)) seen (option_map now c.text_of.result) c.text_of.ensures
    (sym c.if-not-branch.true ∙ c.in_ok-take_text.ensures.new)
    ∙ (sym (ap (are_new kind seen) left) ∙ c.loop-line.invariant))

pub loop-line-preserved : goal.loop-line-preserved
loop-line-preserved c =
    let kind = is_of c.args.kind in
    let left = left_at c.args.lines.now c.loop-line.line-index c.line-item.result c.loop-line-test.true c.line-item.is in
    let seen = map now c.loop-line.seen.keys in
    one_new kind (said c.line-item.result) (map said (drop (c.loop-line.line-index + 1) c.args.lines.now)) seen (map now c.take_text.new.seen.keys) (option_map now c.text_of.result) c.text_of.ensures
    (sym c.if-not-branch.false ∙ c.in_ok-take_text.ensures.new) c.in_ok-take_text.ensures.seen
    ∙ (sym (ap (are_new kind seen) left) ∙ c.loop-line.invariant)

pub returns : goal.returns
returns c =
    let left : drop c.loop-line.line-index c.args.lines.now ≡ [] = drop_of_length-le c.args.lines.now c.loop-line-test.false in
    decides_apart (is_of c.args.kind) (map said c.args.lines.now) true (rw left at c.loop-line.invariant)
