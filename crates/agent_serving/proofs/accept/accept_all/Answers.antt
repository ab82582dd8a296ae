use Rattle.std.proofs.Common.{arith, ap, Err, ◌∙◌}
use Rattle.wire_streams.proofs.AddLemmas.{rose_since}
use Rattle.agent_serving.proofs.ServingLemmas.{no_number}
use Rattle.agent_serving.proofs.accept.accept_all.Goals as goal

pub returns-in_default-clause-ended : goal.returns-in_default-clause-ended
returns-in_default-clause-ended g c = (rw c.in_default.is at c.begin-seat.ensures.ended) _

pub loop-init : goal.loop-init
loop-init g c = record {
  seat = c.begin-seat.ensures.seat;
  takes = c.begin-seat.ensures.takes;
  going = (rw c.in-Ok.is at c.begin-seat.ensures.begun) _;
  accepts = omega arith;
  jobs = c.begin-seat.ensures.counted;
}

pub returns-then-conn-clause-seat : goal.returns-then-conn-clause-seat
returns-then-conn-clause-seat g c = c.loop.invariant.seat

pub returns-then-conn-clause-ended : goal.returns-then-conn-clause-ended
returns-then-conn-clause-ended g c = no_number c.args.asks c.args.seat _ _ _ c.loop.seat _ _ _ _ c.loop.invariant.going

pub returns-then-conn-clause-counted_accepts : goal.returns-then-conn-clause-counted_accepts
returns-then-conn-clause-counted_accepts g c = c.loop.invariant.accepts

pub returns-then-conn-clause-counted_jobs : goal.returns-then-conn-clause-counted_jobs
returns-then-conn-clause-counted_jobs g c = c.loop.invariant.jobs

pub serve_next-next-requires-clause-seat : goal.serve_next-next-requires-clause-seat
serve_next-next-requires-clause-seat g c = c.loop.invariant.seat

pub serve_next-next-requires-clause-takes : goal.serve_next-next-requires-clause-takes
serve_next-next-requires-clause-takes g c = c.loop.invariant.takes

pub returns-in-Err-clause-ended : goal.returns-in-Err-clause-ended
returns-in-Err-clause-ended g c = (rw c.in-Err.is at c.serve_next-next.ensures.ends) c.args.asks c.args.seat _ _ _ c.loop.invariant.going

pub returns-in-Err-clause-listen_fault : goal.returns-in-Err-clause-listen_fault
returns-in-Err-clause-listen_fault g c e = rose_since _ _ _ c.loop.invariant.accepts (c.serve_next-next.ensures.listen_fault (c.in-Err.is ∙ ap Err e))

pub returns-in-Err-clause-no_thread : goal.returns-in-Err-clause-no_thread
returns-in-Err-clause-no_thread g c e = absurd (c.serve_next-next.ensures.begun (c.in-Err.is ∙ ap Err e))

pub returns-in-Err-clause-counted_accepts : goal.returns-in-Err-clause-counted_accepts
returns-in-Err-clause-counted_accepts g c = omega (arith, c.loop.invariant.accepts, c.serve_next-next.ensures.counted_accepts)

pub returns-in-Err-clause-counted_jobs : goal.returns-in-Err-clause-counted_jobs
returns-in-Err-clause-counted_jobs g c = omega (arith, c.loop.invariant.jobs, c.serve_next-next.ensures.counted_jobs)

pub loop-preserved : goal.loop-preserved
loop-preserved g c = record {
  seat = c.serve_next-next.ensures.seat;
  takes = c.serve_next-next.ensures.takes;
  going = (rw c.in-Ok-served.is at c.serve_next-next.ensures.going) c.args.asks c.args.seat _ _ _ c.loop.invariant.going;
  accepts = omega (arith, c.loop.invariant.accepts, c.serve_next-next.ensures.counted_accepts);
  jobs = omega (arith, c.loop.invariant.jobs, c.serve_next-next.ensures.counted_jobs);
}
