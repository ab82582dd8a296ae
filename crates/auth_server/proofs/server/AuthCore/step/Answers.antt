use Rattle.std.proofs.Common.{◌++◌, ap, ◌∙◌}
use Rattle.auth_server.specs.Requests.{asked_so}
use Rattle.auth_server.specs.Standing.{knowledge}
use Rattle.auth_server.proofs.StepLemmas.{answer_so, stands_so, over_so}
use Rattle.auth_server.proofs.server.AuthCore.step.Goals as goal

pub returns-clause-answer : goal.returns-clause-answer
returns-clause-answer c = λ before s.
    c.in_ok-answer_next.ensures.answer ∙ ap (λ text. c.args.out.now ++ text) (answer_so (knowledge c.args.self.now) (asked_so c.args.request.now c.args.words.now) before c.args.session.now s)

pub returns-clause-stands : goal.returns-clause-stands
returns-clause-stands c = λ before s.
    stands_so (knowledge c.args.self.now) (asked_so c.args.request.now c.args.words.now) before c.args.session.now s _ c.in_ok-answer_next.ensures.moves

pub returns-clause-over : goal.returns-clause-over
returns-clause-over c = λ before s.
    over_so (knowledge c.args.self.now) (asked_so c.args.request.now c.args.words.now) before c.args.session.now s _ _ c.in_ok-answer_next.ensures.moves c.last_step.ensures.over
