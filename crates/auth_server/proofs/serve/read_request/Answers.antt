use Rattle.std.proofs.Common.{arith, subst}
use Rattle.auth_server.specs.Steps.{Progressed}
use Rattle.auth_server.proofs.serve.read_request.Goals as goal

pub returns-in-Whole-clause-received : goal.returns-in-Whole-clause-received
returns-in-Whole-clause-received g c = λ first before words holds requests h.
    c.in_ok-read_piece.ensures.received first before words holds requests (c.loop.invariant.received first before words holds requests h)

pub loop-preserved : goal.loop-preserved
loop-preserved g c = record {
  received = λ first before words holds requests h. c.in_ok-read_piece.ensures.received first before words holds requests (c.loop.invariant.received first before words holds requests h);
  unfinished = subst (λ progress. Progressed progress c.args.session.now c.read_piece.new.incoming (g.R.Source.left c.read_piece.new.source)) c.in-Part.is c.in_ok-read_piece.ensures.progress;
  few = c.in_ok-read_piece.ensures.few;
  bound = c.in_ok-read_piece.ensures.bound;
  counted = omega (arith, c.loop.invariant.counted, c.in_ok-read_piece.ensures.counted);
}

pub returns-in-Ended-clause-received : goal.returns-in-Ended-clause-received
returns-in-Ended-clause-received g c = λ first before words holds requests h.
    c.in_ok-read_piece.ensures.received first before words holds requests (c.loop.invariant.received first before words holds requests h)
