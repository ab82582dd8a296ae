use Rattle.std.proofs.Common.{◌≡◌, Option, None, refl, sym, ap, ◌∙◌, arith}
use Rattle.file_tree.specs.declared.tree.FidState.{FidState}
use Rattle.file_tree.specs.Calls.{node_of, open_fault}
use Rattle.agent_history.specs.Deeds.{fid_of}
use Rattle.agent_requests.specs.Connections.{asked}
use Rattle.agent_requests.proofs.RequestSteps.{state_is, answered_ok, told_served, open_held, open_allowed, open_served}
use Rattle.agent_requests.proofs.connection.Connection.open.Goals as goal

pub returns : goal.returns
returns c =
    let a = c.args in
    let ok = answered_ok _ _ _ (sym c.in_ok-node.ensures) in
    record {
      told = λ done keeps shares.
          let f = state_is done a.call.conn a.self.now a.fid keeps in
          let fault : open_fault (fid_of done a.call.conn a.fid) a.mode ≡ None = ap (λ (o : Option FidState). open_fault o a.mode) (sym f) ∙ ok.0 in
          let named : node_of (fid_of done a.call.conn a.fid) ≡ c.in_ok-node.node = ap node_of (sym f) ∙ ok.1 in
          told_served _ _ _
          (open_allowed done (asked a.call) a.fid a.mode c.in_ok-node.node fault named (sym (c.has.ensures done shares.holders) ∙ c.if-has.false) (sym (c.is_crowded.ensures done shares.talks) ∙ c.if-is_crowded.false))
          (open_served done (asked a.call) a.fid a.mode c.in_ok-node.node _ _ _ (c.open_fid.ensures.keeps done a.call.conn keeps)
          (c.in_ok-open.ensures.opened done a.mode keeps.live (open_held (fid_of done a.call.conn a.fid) a.mode fault) named shares) named (rw (c.in_ok-put_open.ensures.ok, c.in_ok-reply.ensures, c.qid.ensures) refl));
      few = rw c.in_ok-open.ensures.ring (omega arith);
      room = rw c.in_ok-open.ensures.mail refl;
      kept = tt;
      shared = tt;
    }
