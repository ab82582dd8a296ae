use Rattle.std.proofs.Common.{arith, ap, Err}
use Rattle.auth_server.proofs.ListenLemmas.{begun, rose_since}
use Rattle.auth_server.proofs.listen.accept_clients.Goals as goal

pub loop-init : goal.loop-init
loop-init g c = record { takes = c.requires; going = begun _ _ _; accepts = omega arith; jobs = omega arith }

pub accept_one-requires : goal.accept_one-requires
accept_one-requires g c = c.loop.invariant.takes

pub returns-in-Err-clause-jobs : goal.returns-in-Err-clause-jobs
returns-in-Err-clause-jobs g c = c.in-Err.ensures.ends _ _ c.loop.invariant.going

pub returns-in-Err-clause-listen_fault : goal.returns-in-Err-clause-listen_fault
returns-in-Err-clause-listen_fault g c e = rose_since _ _ _ c.loop.invariant.accepts (c.in-Err.ensures.listen_fault (ap Err e))

pub returns-in-Err-clause-no_thread : goal.returns-in-Err-clause-no_thread
returns-in-Err-clause-no_thread g c e = rose_since _ _ _ c.loop.invariant.jobs (c.in-Err.ensures.no_thread (ap Err e))

pub returns-in-Err-clause-counted_accepts : goal.returns-in-Err-clause-counted_accepts
returns-in-Err-clause-counted_accepts g c = omega (arith, c.loop.invariant.accepts, c.in-Err.ensures.counted_accepts)

pub returns-in-Err-clause-counted_jobs : goal.returns-in-Err-clause-counted_jobs
returns-in-Err-clause-counted_jobs g c = omega (arith, c.loop.invariant.jobs, c.in-Err.ensures.counted_jobs)

pub loop-preserved : goal.loop-preserved
loop-preserved g c = record {
  takes = c.accept_one.ensures.takes;
  going = c.in_default.ensures.going _ _ c.loop.invariant.going;
  accepts = omega (arith, c.loop.invariant.accepts, c.accept_one.ensures.counted_accepts);
  jobs = omega (arith, c.loop.invariant.jobs, c.accept_one.ensures.counted_jobs);
}
