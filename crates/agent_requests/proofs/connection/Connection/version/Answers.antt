use Rattle.std.proofs.Common.{refl, arith}
use Rattle.agent_history.specs.Requests.{agreed}
use Rattle.agent_requests.specs.Connections.{asked}
use Rattle.agent_history.specs.Deeds.{OfFids, Versioned}
use Rattle.agent_requests.proofs.KeepLemmas.{keeps_ended}
use Rattle.agent_requests.proofs.RequestSteps.{version_told}
use Rattle.agent_requests.proofs.connection.Connection.version.Goals as goal

pub returns : goal.returns
returns c =
    let a = c.args in
    record {
      told = λ done k h. version_told done (asked a.call) a.msize a.version.now _ _ _ c.if-msize-lt-LEAST_MSIZE.false
          (keeps_ended (OfFids a.call.conn (Versioned (agreed a.msize a.version.now))) done a.call.conn a.self.now c.renew.new.self (λ now k. c.renew.ensures.keeps now (agreed a.msize a.version.now) c.agreed.ensures k) k) (c.renew.ensures.shares done (agreed a.msize a.version.now) k.live h)
          (rw (c.in_ok-put_version.ensures.ok, c.in_ok-reply.ensures, c.min-most.ensures, c.answered.ensures) refl);
      few = rw c.renew.ensures.ring (omega arith);
      room = c.renew.ensures.room a.call.conn;
      kept = tt;
      shared = tt;
    }
