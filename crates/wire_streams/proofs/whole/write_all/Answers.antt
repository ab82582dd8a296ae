use Rattle.std.proofs.Common.{◌∙◌, arith, rules}
use Rattle.wire_streams.proofs.StreamLemmas.{Gains-front, Gains-more}
use Rattle.wire_streams.proofs.whole.write_all.Goals as goal

pub loop-at-preserved : goal.loop-at-preserved
loop-at-preserved g c = let took = c.in-Took.ensures.bytes in record {
  gained = Gains-more _ _ _ _ _ _ c.loop-at.invariant.gained took.2;
  within = search rules;
  steady = c.in-Took.ensures.exact ∙ c.loop-at.invariant.steady;
  untouched = λ none. absurd (omega (arith, took.0));
}

pub returns-in-Failed-clause-err : goal.returns-in-Failed-clause-err
returns-in-Failed-clause-err g c = Gains-front _ _ _ _ _ c.loop-at-test.true c.loop-at.invariant.gained c.in-Failed.ensures.bytes
