use Rattle.std.proofs.Common.{refl, sym, ◌∙◌, arith, ap, rules}
use Rattle.agent_history.specs.Requests.{effective}
use Rattle.agent_requests.specs.Connections.{SameKept, asked}
use Rattle.agent_requests.proofs.RequestSteps.{state_is, held_ok, dir_told, line_told, on_err, rpc_told}
use Rattle.agent_requests.proofs.connection.Connection.read.Goals as goal

pub returns-in-Root : goal.returns-in-Root
returns-in-Root c =
    let a = c.args in
    record {
      told = λ done keeps shares.
          let held = sym (state_is done a.call.conn a.self.now a.fid keeps) ∙ held_ok _ _ _ (sym c.in_ok-state.ensures.answer) in
          dir_told done (asked a.call) a.fid a.offset a.count _ c.in_ok-state.state a.self.now c.read_directory.new.self a.shared.now c.read_directory.result keeps shares
          held (rw (c.is_none.ensures, c.if-is_none.false) refl) (sym c.lets_read.ensures ∙ c.if-not-lets_read.false) (c.effective-most.ensures.most ∙ ap (effective a.count) c.msize.ensures) c.in-Root.is c.read_directory.ensures.told c.read_directory.ensures.keeps;
      few = omega arith;
      room = refl;
      kept = c.read_directory.ensures.err;
      shared = search rules;
    }

pub returns-in-Rpc : goal.returns-in-Rpc
returns-in-Rpc c =
    let a = c.args in
    let h = c.read_rpc.ensures in
    record {
      told = λ done keeps shares.
          let held = sym (state_is done a.call.conn a.self.now a.fid keeps) ∙ held_ok _ _ _ (sym c.in_ok-state.ensures.answer) in
          rpc_told done (asked a.call) a.fid a.offset a.count _ c.in_ok-state.state a.self.now _ c.read_rpc.result keeps
          held (rw (c.is_none.ensures, c.if-is_none.false) refl) (sym c.lets_read.ensures ∙ c.if-not-lets_read.false) (c.effective-most.ensures.most ∙ ap (effective a.count) c.msize.ensures) c.in-Rpc.is (h.told done keeps.live shares);
      few = rw h.ring (omega arith);
      room = h.room a.call.conn;
      kept = on_err {P = SameKept a.self.now a.self.now} _ (record { phase = refl; fids = refl; texts = λ fid. refl });
      shared = h.same;
    }

pub returns-in-Confirm : goal.returns-in-Confirm
returns-in-Confirm c =
    let a = c.args in
    let h = c.read_line.ensures in
    record {
      told = λ done keeps shares.
          let held = sym (state_is done a.call.conn a.self.now a.fid keeps) ∙ held_ok _ _ _ (sym c.in_ok-state.ensures.answer) in
          line_told done (asked a.call) a.fid a.offset a.count _ c.in_ok-state.state a.self.now _ c.read_line.result keeps
          held (rw (c.is_none.ensures, c.if-is_none.false) refl) (sym c.lets_read.ensures ∙ c.if-not-lets_read.false) (c.effective-most.ensures.most ∙ ap (effective a.count) c.msize.ensures) c.in-Confirm.is (h.told done keeps.live shares);
      few = rw h.ring (omega arith);
      room = h.room a.call.conn;
      kept = on_err {P = SameKept a.self.now a.self.now} _ (record { phase = refl; fids = refl; texts = λ fid. refl });
      shared = h.same;
    }
