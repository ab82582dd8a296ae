use Rattle.std.proofs.Common.{◌+◌, arith, refl}
use Rattle.agent_serving.proofs.ServingLemmas.{asks_more, asks_none}
use Rattle.agent_serving.proofs.accept.begin_asks.Goals as goal

pub loop-init : goal.loop-init
loop-init g c = record {
  seat = c.requires.seat;
  takes = c.requires.takes;
  asking = asks_none _ _;
  jobs = omega arith;
}

pub loop-preserved : goal.loop-preserved
loop-preserved g c = record {
  seat = c.split-kept.ensures.one;
  takes = λ job is. c.in_default.ensures.still job (c.loop.invariant.takes job is);
  asking = asks_more c.args.seat _ c.loop.seat c.split-kept.result.0 c.split-kept.result.1 _ _ c.loop.counter (c.loop.counter + 1) c.loop.invariant.asking c.split-kept.ensures.parted c.in_default.ensures.taken refl;
  jobs = omega (arith, c.loop.invariant.jobs, c.in_default.ensures.counted);
}
