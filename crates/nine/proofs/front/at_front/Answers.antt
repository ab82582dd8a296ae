use Rattle.std.proofs.Common.{sym}
use Rattle.std.proofs.lemmas.Bool.{le-leb, lt-leb}
use Rattle.nine.proofs.StreamLaws.{is_good, is_bad_either, front_bad, front_part, front_whole}
use Rattle.nine.proofs.front.at_front.Goals as goal

pub returns-then-size-lt-LEAST_SIZE : goal.returns-then-size-lt-LEAST_SIZE
returns-then-size-lt-LEAST_SIZE c = sym (front_bad c.args.limit c.args.held.now c.in-Ok.size c.in-Ok.field-0-1 c.in-Ok.ensures (is_bad_either c.args.limit c.in-Ok.size c.then-size-lt-LEAST_SIZE.either))

pub returns-then-held-size : goal.returns-then-held-size
returns-then-held-size c = sym (front_part c.args.limit c.args.held.now c.in-Ok.size c.in-Ok.field-0-1 c.in-Ok.ensures (is_good c.args.limit c.in-Ok.size c.if-size-lt-LEAST_SIZE.false c.if-size-limit.false) (lt-leb _ _ c.if-held-size.true))

pub returns : goal.returns
returns c = sym (front_whole c.args.limit c.args.held.now c.in-Ok.size c.in-Ok.field-0-1 c.in-Ok.ensures (is_good c.args.limit c.in-Ok.size c.if-size-lt-LEAST_SIZE.false c.if-size-limit.false) (le-leb _ _ c.if-held-size.false))
