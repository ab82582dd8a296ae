use Rattle.std.proofs.Common.{true, rules, Err, refl, ap, ◌∙◌}
use Rattle.std.proofs.lemmas.Result.{err_from_is_err_and}
use Rattle.key_ring.specs.Parts.{list_of}
use Rattle.key_ring.proofs.AnswerLemmas.{bad_key, refused_bad, taken_bad, refused_left, taken_left, ample_left, newest, refused_none, ring_put}
use Rattle.key_ring.proofs.ring.add_key.Goals as goal

pub returns-in-Some-clause-refused : goal.returns-in-Some-clause-refused
returns-in-Some-clause-refused c = refused_bad c.args.tuple (list_of c.args.keys.now.keys c.args.ever_added) c.in-Some.fault c.in-Some.ensures

pub returns-in-Some-clause-taken : goal.returns-in-Some-clause-taken
returns-in-Some-clause-taken c = taken_bad c.args.tuple (list_of c.args.keys.now.keys c.args.ever_added) c.in-Some.fault c.in-Some.ensures

pub returns-in-Some-clause-ample : goal.returns-in-Some-clause-ample
returns-in-Some-clause-ample c = λ none lt. absurd (let e = bad_key c.args.tuple (list_of c.args.keys.now.keys c.args.ever_added) c.in-Some.fault c.in-Some.ensures in cc)

pub returns-in_err-make_room-clause-refused : goal.returns-in_err-make_room-clause-refused
returns-in_err-make_room-clause-refused c =
    let p = err_from_is_err_and c.from_residual.result c.from_residual.ensures.1 in
    let list = list_of c.args.keys.now.keys c.args.ever_added in
    refused_left c.args.tuple list list _ c.from_residual.result refl (search rules) (λ t. let e = c.in_err-make_room.ensures.full t in cc) (p.1 ∙ ap Err p.2)

pub returns-in_err-make_room-clause-taken : goal.returns-in_err-make_room-clause-taken
returns-in_err-make_room-clause-taken c =
    let p = err_from_is_err_and c.from_residual.result c.from_residual.ensures.1 in
    let list = list_of c.args.keys.now.keys c.args.ever_added in
    taken_left c.args.tuple list list _ c.from_residual.result refl (search rules) (λ f. c.in_err-make_room.ensures.taken f) (p.1 ∙ ap Err p.2)

pub returns-in_err-make_room-clause-ample : goal.returns-in_err-make_room-clause-ample
returns-in_err-make_room-clause-ample c = λ none lt.
    absurd (ample_left c.args.tuple (list_of c.args.keys.now.keys c.args.ever_added) _ (search rules) (λ f. c.in_err-make_room.ensures.taken f) (c.in_err-make_room.ensures.ample lt) none)

pub push-requires-clause-newest : goal.push-requires-clause-newest
push-requires-clause-newest c = newest c.args.tuple (list_of c.args.keys.now.keys c.args.ever_added) c.make_room.new.keys.keys c.new.result c.requires.ring c.in_ok-make_room.ensures.dropped c.new.ensures

pub returns-clause-refused : goal.returns-clause-refused
returns-clause-refused c =
    let list = list_of c.args.keys.now.keys c.args.ever_added in
    refused_none c.args.tuple list list _ refl (search rules) (λ t. let e = c.in_ok-make_room.ensures.full t in cc)

pub returns-clause-ring : goal.returns-clause-ring
returns-clause-ring c =
    ring_put c.args.tuple (list_of c.args.keys.now.keys c.args.ever_added) c.make_room.new.keys.keys c.push.new.self.keys c.new.result true c.requires.ring (λ t. let e = c.in_ok-make_room.ensures.full t in cc) c.in_ok-make_room.ensures.dropped c.new.ensures c.push.ensures.keys refl
