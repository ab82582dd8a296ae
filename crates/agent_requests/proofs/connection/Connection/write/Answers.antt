use Rattle.std.proofs.Common.{refl, sym, ◌∙◌, arith}
use Rattle.agent_requests.specs.Connections.{SameKept, asked}
use Rattle.agent_requests.proofs.RequestSteps.{state_is, told_served, write_allowed, write_served, held_ok, on_err, reply_told, rpc_write_told}
use Rattle.agent_requests.proofs.connection.Connection.write.Goals as goal

pub returns : goal.returns
returns c = λ offset.
    let a = c.args in
    record {
      told = λ done keeps shares.
          let held = sym (state_is done a.call.conn a.self.now a.fid keeps) ∙ held_ok _ _ _ (sym c.in_ok-state.ensures.answer) in
          told_served _ _ _
          (write_allowed done (asked a.call) a.fid offset a.content.now c.in_ok-state.state held (rw (c.is_none.ensures, c.if-is_none.false) refl) (sym c.lets_write.ensures ∙ c.if-not-lets_write.false) (sym c.is_rpc.ensures ∙ c.if-is_rpc.false) (sym c.kind_at.ensures ∙ c.in_default.is))
          (write_served done (asked a.call) a.fid offset a.content.now c.in_ok-state.state a.self.now a.shared.now _ _ held (sym c.is_rpc.ensures ∙ c.if-is_rpc.false) (sym c.kind_at.ensures ∙ c.in_default.is) keeps shares c.in_ok-write_lines.ensures.holders c.in_ok-write_lines.ensures.mailboxes c.in_ok-write_lines.ensures.talks c.in_ok-write_lines.ensures.keys c.in_ok-write_lines.ensures.said);
      few = c.in_ok-write_lines.ensures.few;
      room = rw c.in_ok-write_lines.ensures.mailboxes refl;
      kept = tt;
      shared = tt;
    }

pub returns-then-is_rpc : goal.returns-then-is_rpc
returns-then-is_rpc c = λ offset.
    let a = c.args in
    let h = c.write_rpc.ensures in
    record {
      told = λ done keeps shares.
          let held = sym (state_is done a.call.conn a.self.now a.fid keeps) ∙ held_ok _ _ _ (sym c.in_ok-state.ensures.answer) in
          rpc_write_told done (asked a.call) a.fid offset a.content.now c.in_ok-state.state a.self.now _ _ keeps held (rw (c.is_none.ensures, c.if-is_none.false) refl) (sym c.lets_write.ensures ∙ c.if-not-lets_write.false) (sym c.is_rpc.ensures ∙ c.if-is_rpc.true) (h.told done shares);
      few = rw h.ring (omega arith);
      room = rw h.mail refl;
      kept = on_err {P = SameKept a.self.now a.self.now} _ (record { phase = refl; fids = refl; texts = λ fid. refl });
      shared = h.same;
    }

pub returns-in-Some : goal.returns-in-Some
returns-in-Some c = λ offset.
    let a = c.args in
    let h = c.write_answer.ensures in
    record {
      told = λ done keeps shares.
          let held = sym (state_is done a.call.conn a.self.now a.fid keeps) ∙ held_ok _ _ _ (sym c.in_ok-state.ensures.answer) in
          reply_told done (asked a.call) a.fid offset a.content.now c.in_ok-state.state c.in-Some.kind a.self.now _ _ keeps held (rw (c.is_none.ensures, c.if-is_none.false) refl) (sym c.lets_write.ensures ∙ c.if-not-lets_write.false) (sym c.kind_at.ensures ∙ c.in-Some.is) (h.told done shares);
      few = rw h.ring (omega arith);
      room = h.room a.call.conn;
      kept = on_err {P = SameKept a.self.now a.self.now} _ (record { phase = refl; fids = refl; texts = λ fid. refl });
      shared = h.same;
    }
