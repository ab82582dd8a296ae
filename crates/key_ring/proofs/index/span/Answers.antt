use Rattle.std.proofs.Common.{ap, ◌∙◌, arith, drop}
use Rattle.key_ring.proofs.IndexLemmas.{lower_parted, span_is, start_before_end, upto_parted}
use Rattle.key_ring.proofs.index.span.Goals as goal

pub split_at-requires-2 : goal.split_at-requires-2
split_at-requires-2 c =
    let x = c.requires.index in
    omega (arith, c.split_at.ensures.front_len, start_before_end c.args.order c.args.keys.now c.args.rank.now c.args.serials.now c.find_start-start.result c.find_end-end.result c.find_start-start.ensures.bound (c.find_start-start.ensures.parted (lower_parted x c.args.rank.now)) (c.find_end-end.ensures.parted (upto_parted x c.args.rank.now)))

pub returns-clause-numbers : goal.returns-clause-numbers
returns-clause-numbers c =
    let x = c.requires.index in
    c.split_at-2.ensures.back ∙ ap (drop c.find_start-start.result) c.split_at.ensures.front
    ∙ span_is c.args.order c.args.keys.now c.args.rank.now c.args.serials.now c.find_start-start.result c.find_end-end.result x c.find_start-start.ensures.bound c.find_end-end.ensures.bound (c.find_start-start.ensures.parted (lower_parted x c.args.rank.now)) (c.find_end-end.ensures.parted (upto_parted x c.args.rank.now))
