use Rattle.std.proofs.Common.{refl, sym, arith}
use Rattle.agent_requests.specs.Connections.{asked}
use Rattle.agent_requests.proofs.RequestSteps.{answered_ok, attach_told, state_is}
use Rattle.agent_requests.proofs.connection.Connection.attach.Goals as goal

pub returns : goal.returns
returns c =
    let a = c.args in
    let ok = answered_ok _ _ _ (sym c.in_ok-may_attach.ensures.answer) in
    λ uname aname s. record {
      told = λ done k h.
          attach_told done (asked a.call) a.fid a.afid uname aname _ s _ c.if-afid-ne-NOFID.false (rw (← state_is done a.call.conn a.self.now a.fid k, ← k.held) ok.0)
          (c.in_ok-hold_root.ensures.keeps done a.call.conn k) h (rw (c.in_ok-put_attach.ensures.ok, c.in_ok-reply.ensures, c.qid.ensures) refl);
      few = omega arith;
      room = refl;
      kept = tt;
      shared = tt;
    }
