use Rattle.std.proofs.Common.{refl, sym, ◌∙◌, arith}
use Rattle.std.proofs.lemmas.Result.{err_from_is_err_and}
use Rattle.agent_requests.specs.Connections.{asked}
use Rattle.agent_requests.proofs.FrameSteps.{frame_over, frame_none, frame_unversioned, frame_repeats, frame_told, refused_told, unread_told, writes_few}
use Rattle.agent_requests.proofs.ShareLemmas.{same_shared}
use Rattle.agent_requests.proofs.connection.Connection.try_frame.Goals as goal

pub returns-then-is_over : goal.returns-then-is_over
returns-then-is_over c = record {
  told = λ done keeps shares. refused_told _ _ _ (frame_over done (asked c.args.call) c.args.frame.now (sym (c.is_over.ensures.over done c.args.call.conn keeps) ∙ c.if-is_over.true));
  few = omega arith;
  room = refl;
  kept = record { phase = refl; fids = refl; texts = λ fid. refl };
  shared = same_shared c.args.shared.now;
}

pub returns-in_err-request : goal.returns-in_err-request
returns-in_err-request c =
    let p = err_from_is_err_and c.from_residual.result c.from_residual.ensures.1 in
    rw (p.1, p.2) (record {
      told = λ done keeps shares.
          unread_told _ _ _ _ c.in_err-request.ensures.none (λ unread. frame_none done (asked c.args.call) c.args.frame.now (sym (c.is_over.ensures.over done c.args.call.conn keeps) ∙ c.if-is_over.false) unread);
      few = omega arith;
      room = refl;
      kept = record { phase = refl; fids = refl; texts = λ fid. refl };
      shared = same_shared c.args.shared.now;
    })

pub returns-then-lacks_version : goal.returns-then-lacks_version
returns-then-lacks_version c = record {
  told = λ done keeps shares.
      refused_told _ _ _ (frame_unversioned done (asked c.args.call) c.args.frame.now c.in_ok-request.request (sym (c.is_over.ensures.over done c.args.call.conn keeps) ∙ c.if-is_over.false) c.in_ok-request.ensures.request
      (sym (c.lacks_version.ensures.lacks done (asked c.args.call) keeps) ∙ c.if-lacks_version.true));
  few = omega arith;
  room = refl;
  kept = record { phase = refl; fids = refl; texts = λ fid. refl };
  shared = same_shared c.args.shared.now;
}

pub returns-then-repeats_tag : goal.returns-then-repeats_tag
returns-then-repeats_tag c = record {
  told = λ done keeps shares.
      refused_told _ _ _ (frame_repeats done (asked c.args.call) c.args.frame.now c.in_ok-request.request (sym (c.is_over.ensures.over done c.args.call.conn keeps) ∙ c.if-is_over.false) c.in_ok-request.ensures.request
      (sym (c.lacks_version.ensures.lacks done (asked c.args.call) keeps) ∙ c.if-lacks_version.false) (sym (c.repeats_tag.ensures done keeps.live shares.mail) ∙ c.if-repeats_tag.true));
  few = omega arith;
  room = refl;
  kept = record { phase = refl; fids = refl; texts = λ fid. refl };
  shared = same_shared c.args.shared.now;
}

pub carry_out-requires-clause-small : goal.carry_out-requires-clause-small
carry_out-requires-clause-small c =
    writes_few c.args.frame.now c.in_ok-request.request 8216 c.in_ok-request.ensures.spelled (λ first. c.is_over.ensures.small c.if-is_over.false (c.lacks_version.ensures.agreed c.if-lacks_version.false first))

pub returns : goal.returns
returns c =
    let h = c.carry_out.ensures in
    record {
      told = λ done keeps shares.
          frame_told done (asked c.args.call) c.args.frame.now c.in_ok-request.request _ _ _ (sym (c.is_over.ensures.over done c.args.call.conn keeps) ∙ c.if-is_over.false) c.in_ok-request.ensures.request
          (sym (c.lacks_version.ensures.lacks done (asked c.args.call) keeps) ∙ c.if-lacks_version.false) (sym (c.repeats_tag.ensures done keeps.live shares.mail) ∙ c.if-repeats_tag.false) (h.told done keeps shares);
      few = h.few;
      room = h.room;
      kept = h.kept;
      shared = h.shared;
    }
