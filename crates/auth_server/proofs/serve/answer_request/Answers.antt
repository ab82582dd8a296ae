use Rattle.std.proofs.Common.{◌++◌, ap, ◌∙◌, length}
use Rattle.std.proofs.lemmas.Result.{err_from_is_err_and}
use Rattle.auth_server.specs.Answers.{answer_in, posed}
use Rattle.auth_server.specs.Requests.{asked_so}
use Rattle.auth_server.specs.Standing.{knowledge}
use Rattle.auth_server.proofs.AnswerLemmas.{answers_front, ends_wrong, force_next, has_answered, lacks_memory, lacks_words, noted_more, replied, since_next}
use Rattle.auth_server.proofs.ServeLemmas.{noted_behind}
use Rattle.auth_server.proofs.serve.answer_request.Goals as goal

pub returns-in_err-drawn-clause-err : goal.returns-in_err-drawn-clause-err
returns-in_err-drawn-clause-err g c =
    let p = err_from_is_err_and c.from_residual.result c.from_residual.ensures.1 in
    let why = c.in_err-drawn.ensures.err in
    rw (p.1, p.2, why.0) (λ first before left at requests noted since h n.
    noted_behind (g.C.LiveTables.in_force first) _ before _ requests noted _
    (lacks_words (g.C.LiveTables.in_force first) before left _ _ _ at requests c.args.session.now c.args.request.now h c.requires.whole why.1) n)

pub returns-in_err-renew-clause-err : goal.returns-in_err-renew-clause-err
returns-in_err-renew-clause-err g c =
    let p = err_from_is_err_and c.from_residual-in_err-renew.result c.from_residual-in_err-renew.ensures.1 in
    rw (p.1, p.2) (λ first before left at requests noted since h n.
    noted_behind (g.C.LiveTables.in_force first) _ before _ requests noted _
    (lacks_memory (g.C.LiveTables.in_force first) before left _ _ _ at requests c.args.session.now c.args.request.now h c.requires.whole c.in_ok-drawn.drawn c.in_ok-drawn.ensures.three c.in_ok-drawn.ensures.drawn) n)

pub returns-in_err-step-clause-err : goal.returns-in_err-step-clause-err
returns-in_err-step-clause-err g c =
    let p = err_from_is_err_and c.from_residual-in_err-step.result c.from_residual-in_err-step.ensures.1 in
    rw (p.1, p.2) (λ first before left at requests noted since h n.
    noted_behind (g.C.LiveTables.in_force first) _ before _ requests noted _
    (lacks_memory (g.C.LiveTables.in_force first) before left _ _ _ at requests c.args.session.now c.args.request.now h c.requires.whole c.in_ok-drawn.drawn c.in_ok-drawn.ensures.three c.in_ok-drawn.ensures.drawn) n)

pub returns-in_err-write_all-clause-err : goal.returns-in_err-write_all-clause-err
returns-in_err-write_all-clause-err g c =
    let p = err_from_is_err_and c.from_residual-in_err-write_all.result c.from_residual-in_err-write_all.ensures.1 in
    rw (p.1, p.2) (λ first before left at requests noted since h n.
    noted_behind (g.C.LiveTables.in_force first) _ before _ _ noted _
    (answers_front (g.C.LiveTables.in_force first) before left _ _ _ at requests c.args.session.now c.args.request.now h c.requires.whole (knowledge c.core-core.result.now) (force_next (g.C.LiveTables.in_force first) (g.C.LiveTables.in_force c.args.tables.now) (length requests) _ (knowledge c.core-core.result.now) since c.in_ok-renew.ensures.next (ap knowledge c.core-core.ensures)) c.in_ok-drawn.drawn c.in_ok-drawn.ensures.three c.in_ok-drawn.ensures.drawn
    _ _ (c.as_slice.ensures ∙ (c.in_ok-step.ensures.answer requests h.stands ∙ ap (λ text. text ++ answer_in requests (posed (knowledge c.core-core.result.now) (asked_so c.args.request.now c.in_ok-drawn.drawn))) c.clear.ensures)) c.in_err-write_all.ensures.err)
    (noted_more (knowledge c.core-core.result.now) requests c.args.session.now c.args.request.now c.in_ok-drawn.drawn noted _ _ c.notice-notice.result h.stands (c.notice-notice.ensures c.in_ok-drawn.drawn) n c.note.ensures))

pub returns-in-TooManyWrong-clause-err : goal.returns-in-TooManyWrong-clause-err
returns-in-TooManyWrong-clause-err g c = λ first before left at requests noted since h n.
    noted_behind (g.C.LiveTables.in_force first) _ before _ _ noted _
    (ends_wrong (g.C.LiveTables.in_force first) before left _ _ _ at requests c.args.session.now c.args.request.now h c.requires.whole (knowledge c.core-core.result.now) (force_next (g.C.LiveTables.in_force first) (g.C.LiveTables.in_force c.args.tables.now) (length requests) _ (knowledge c.core-core.result.now) since c.in_ok-renew.ensures.next (ap knowledge c.core-core.ensures)) c.in_ok-drawn.drawn c.in_ok-drawn.ensures.three c.in_ok-drawn.ensures.drawn
    _ _ (c.as_slice.ensures ∙ (c.in_ok-step.ensures.answer requests h.stands ∙ ap (λ text. text ++ answer_in requests (posed (knowledge c.core-core.result.now) (asked_so c.args.request.now c.in_ok-drawn.drawn))) c.clear.ensures))
    c.in_ok-write_all.ensures.ok ((c.in_ok-step.ensures.over requests h.stands).0 c.in-TooManyWrong.is))
    (noted_more (knowledge c.core-core.result.now) requests c.args.session.now c.args.request.now c.in_ok-drawn.drawn noted _ _ c.notice-notice.result h.stands (c.notice-notice.ensures c.in_ok-drawn.drawn) n c.note.ensures)

pub returns-in-Replied-clause-answered : goal.returns-in-Replied-clause-answered
returns-in-Replied-clause-answered g c = λ first before left at requests noted since h n.
    has_answered (g.C.LiveTables.in_force first) before left _ _ _ at requests c.args.session.now c.args.request.now h c.requires.whole (knowledge c.core-core.result.now) (force_next (g.C.LiveTables.in_force first) (g.C.LiveTables.in_force c.args.tables.now) (length requests) _ (knowledge c.core-core.result.now) since c.in_ok-renew.ensures.next (ap knowledge c.core-core.ensures)) c.in_ok-drawn.drawn c.in_ok-drawn.ensures.three c.in_ok-drawn.ensures.drawn
    (g.C.LiveTables.in_force c.renew.new.self) (since_next (g.C.LiveTables.in_force first) (g.C.LiveTables.in_force c.args.tables.now) (g.C.LiveTables.in_force c.renew.new.self) (length requests) since c.in_ok-renew.ensures.later)
    _ _ c.step.new.session noted _ (c.as_slice.ensures ∙ (c.in_ok-step.ensures.answer requests h.stands ∙ ap (λ text. text ++ answer_in requests (posed (knowledge c.core-core.result.now) (asked_so c.args.request.now c.in_ok-drawn.drawn))) c.clear.ensures))
    c.in_ok-write_all.ensures.ok (replied _ _ c.in-Replied.is (c.in_ok-step.ensures.over requests h.stands)) (c.in_ok-step.ensures.stands requests h.stands)
    (noted_more (knowledge c.core-core.result.now) requests c.args.session.now c.args.request.now c.in_ok-drawn.drawn noted _ _ c.notice-notice.result h.stands (c.notice-notice.ensures c.in_ok-drawn.drawn) n c.note.ensures)
