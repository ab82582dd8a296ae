use Rattle.std.proofs.Common.{sym, ◌∙◌, arith}
use Rattle.agent_requests.specs.Connections.{asked}
use Rattle.agent_requests.proofs.RequestSteps.{held_ok, remove_told, state_is}
use Rattle.agent_requests.proofs.connection.Connection.remove.Goals as goal

pub returns : goal.returns
returns c =
    let a = c.args in
    record {
      told = λ done k h.
          let held = sym (state_is done a.call.conn a.self.now a.fid k) ∙ held_ok _ _ _ (sym c.in_ok-file_of.ensures.answer) in
          remove_told done (asked a.call) a.fid c.in_ok-file_of.field-0 _ _ _ held (c.give_up.ensures.keeps done k) (c.give_up.ensures.shares done k.live h) c.reply.ensures;
      few = rw c.give_up.ensures.ring (omega arith);
      room = c.give_up.ensures.room a.call.conn;
      kept = tt;
      shared = tt;
    }
