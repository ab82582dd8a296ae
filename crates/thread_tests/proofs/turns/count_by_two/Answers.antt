use Rattle.std.proofs.Common.{rules, ◌≡◌, [], ◌++◌}
use Rattle.turn_lock.specs.Counting.{countdown}
use Rattle.turn_lock.specs.Fronts.{events, own}
use Rattle.turn_lock.specs.Seats.{front, numbers}
use Rattle.turn_lock.proofs.CountFacts.{counted}
use Rattle.thread_tests.proofs.turns.count_by_two.Goals as goal

pub returns-clause-counted : goal.returns-clause-counted
returns-clause-counted g c = let one = c.split-one.result.0 in let other = c.split-one.result.1 in
    let one_end = c.join-one.result.0.0 in let other_end = c.join-one.result.1.0 in let turns = c.args.turns in
    let none : front c.in_ok-lock.first ≡ [] = search rules in
    let same : numbers one_end ≡ numbers one = search rules in
    let same' : numbers other_end ≡ numbers other = search rules in
    let calls : events (own (numbers one) (front one_end)) ≡ countdown turns ++ events (own (numbers one) (front one)) = search rules in
    let calls' : events (own (numbers other) (front other_end)) ≡ countdown turns ++ events (own (numbers other) (front other)) = search rules in
    counted turns c.in_ok-lock.first one other one_end other_end c.join-both.result none c.split-one.ensures.parted same calls same' calls'
    c.join-both.ensures.joined
