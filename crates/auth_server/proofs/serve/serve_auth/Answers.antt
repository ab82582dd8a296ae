use Rattle.auth_server.specs.Standing.{knowledge}
use Rattle.auth_server.proofs.CompleteLaws.{served_whole}
use Rattle.auth_server.proofs.SpentLaws.{served_spent}
use Rattle.auth_server.proofs.serve.serve_auth.Goals as goal

pub returns-clause-complete : goal.returns-clause-complete
returns-clause-complete g c = λ servable reads writes draws.
    served_whole (knowledge c.args.core.now) _ _ servable c.serve_auth_noting.result c.serve_auth_noting.ensures.ends.ends
    (λ e. reads (c.serve_auth_noting.ensures.read_fault e)) (λ e. writes (c.serve_auth_noting.ensures.write_fault e)) (λ e. draws (c.serve_auth_noting.ensures.word_fault e))

pub returns-clause-spent : goal.returns-clause-spent
returns-clause-spent g c = λ spent reads writes draws.
    served_spent (λ number. knowledge c.args.core.now) _ _ spent c.serve_auth_noting.result c.serve_auth_noting.ensures.ends.ends
    (λ e. reads (c.serve_auth_noting.ensures.read_fault e)) (λ e. writes (c.serve_auth_noting.ensures.write_fault e)) (λ e. draws (c.serve_auth_noting.ensures.word_fault e))
