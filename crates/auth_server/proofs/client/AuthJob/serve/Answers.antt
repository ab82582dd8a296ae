use Rattle.std.proofs.Common.{subst}
use Rattle.auth_server.specs.Clients.{Client}
use Rattle.auth_server.specs.Serving.{EndsSo, moment}
use Rattle.auth_server.specs.Standing.{Server, knowledge}
use Rattle.auth_server.proofs.client.AuthJob.serve.Goals as goal

pub returns-clause-ends : goal.returns-clause-ends
returns-clause-ends g c =
    let now = moment (g.I.Source.left c.serve_auth.new.source) (g.G.Words.to_come c.serve_auth.new.words) (g.O.Sink.holds c.serve_auth.new.sink) in
    subst (λ (job : Client g.row.I.Denot g.row.O.Denot). EndsSo (knowledge job.core) c.serve_auth.result (moment (g.I.Source.left job.source) (g.G.Words.to_come c.args.words.now) (g.O.Sink.holds job.sink)) now) c.self.view_is
    (subst (λ (core : Server). EndsSo (knowledge core) c.serve_auth.result (moment (g.I.Source.left c.self.inside.source) (g.G.Words.to_come c.args.words.now) (g.O.Sink.holds c.self.inside.sink)) now) c.deref.ensures c.serve_auth.ensures.ends)
