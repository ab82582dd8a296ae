use Rattle.std.proofs.Common.{sym}
use Rattle.trace_labels.proofs.StepLaws.{places_begin, place_more, place_none, places_end, place_shorter}
use Rattle.trace_labels.proofs.steps.read_places.Goals as goal

pub loop-words-init : goal.loop-words-init
loop-words-init c = places_begin c.args.words.now c.new-places.result c.new-places.ensures

pub loop-words-preserved : goal.loop-words-preserved
loop-words-preserved c = place_more c.args.words.now c.loop-words.words c.take_number.new.self c.loop-words.places c.push.new.self c.in_ok-place.place c.loop-words.invariant (sym c.loop-words-test.ensures) c.in_ok-place.ensures.ok c.in_ok-push.ensures.ok

pub loop-words-smaller : goal.loop-words-smaller
loop-words-smaller c = place_shorter c.loop-words.words c.take_number.new.self c.in_ok-place.place c.in_ok-place.ensures.ok

pub returns-in_err-place-clause-bad : goal.returns-in_err-place-clause-bad
returns-in_err-place-clause-bad c = λ e. place_none c.args.words.now c.loop-words.words c.loop-words.places c.loop-words.invariant (sym c.loop-words-test.ensures) c.in_err-place.ensures.bad

pub returns-clause-ok : goal.returns-clause-ok
returns-clause-ok c = places_end c.args.words.now c.loop-words.words c.loop-words.places c.loop-words.invariant (sym c.loop-words-test.ensures)
