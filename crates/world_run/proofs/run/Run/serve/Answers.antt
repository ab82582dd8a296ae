use Rattle.std.proofs.Common.{◌∷◌, [], length, Some, ap, ◌∙◌}
use Rattle.std.proofs.lemmas.Result.{err_from_is_err_and}
use Rattle.auth_server.specs.Standing.{knowledge}
use Rattle.world_history.specs.Acts as a
use Rattle.world_history.specs.Scripts.{judged}
use Rattle.world_history.specs.Worlds.{messages_in}
use Rattle.world_scripts.specs.Lines as l
use Rattle.world_run.proofs.LineLemmas.{unfit}
use Rattle.world_history.proofs.TellLemmas.{asked_known}
use Rattle.world_run.specs.Standing.{sessions_by}
use Rattle.world_run.proofs.RunLemmas.{done_as, spell_stops, spelled_now}
use Rattle.world_run.proofs.NameLemmas.{ask_judged, ask_unspelled, served_done, served_refused}
use Rattle.world_run.proofs.run.Run.serve.Goals as goal

pub returns-in_err-request-clause-carried : goal.returns-in_err-request-clause-carried
returns-in_err-request-clause-carried c = λ left before acts is h.
    let p = err_from_is_err_and c.from_residual.result c.from_residual.ensures.1 in
    rw (p.1, p.2) (spell_stops c.args.self.now.recorded c.args.pieces c.in_err-request.field-0.0 left acts (Some (l.AsGive c.args.session.now c.args.pieces c.args.first c.args.second c.args.third)) c.args.self.now c.in_err-request.ensures h.recorded (ask_unspelled acts c.args.session.now c.args.first c.args.second c.args.third c.args.pieces))

pub returns-in-Refused-clause-carried : goal.returns-in-Refused-clause-carried
returns-in-Refused-clause-carried c = λ left before acts is h.
    ask_judged acts c.args.session.now c.in_ok-request.request c.args.first c.args.second c.args.third c.args.pieces (spelled_now c.args.self.now.recorded c.args.pieces _ acts h.recorded c.in_ok-request.ensures)
    ∙ unfit acts (a.Asked c.args.session.now c.in_ok-request.request (c.args.first ∷ c.args.second ∷ c.args.third ∷ []))
    (served_refused acts c.args.session.now c.in_ok-request.request (c.args.first ∷ c.args.second ∷ c.args.third ∷ []) (knowledge c.args.self.now.tables.core) c.serve.new.answer c.serve.new.self
    (rw c.as_slice-asked.ensures at ((rw c.in-Refused.is at c.in_ok-served.ensures) (sessions_by acts) h.clients)))

pub returns-clause-carried : goal.returns-clause-carried
returns-clause-carried c = λ left before acts is h.
    done_as left acts _ _ c.in_ok-steps.steps.items _ is
    (served_done before left acts c.args.session.now c.in_ok-request.request (c.args.first ∷ c.args.second ∷ c.args.third ∷ []) c.in_ok-number.number c.serve.new.answer c.in_ok-served.served c.args.self.now c.in_ok-steps.steps.items c.serve.new.self h (asked_known before left acts c.args.session.now c.args.pieces c.args.first c.args.second c.args.third c.args.self.now.tables h.tables is)
    (ap (judged acts) is ∙ ask_judged acts c.args.session.now c.in_ok-request.request c.args.first c.args.second c.args.third c.args.pieces (spelled_now c.args.self.now.recorded c.args.pieces _ acts h.recorded c.in_ok-request.ensures))
    (rw (c.as_slice-asked.ensures, c.new-answer.ensures) at (c.in_ok-served.ensures (sessions_by acts) h.clients))
    c.in_default.not-Refused (c.in_ok-number.ensures ∙ ap (λ recorded. length (messages_in recorded)) h.recorded) c.in_ok-steps.ensures)
