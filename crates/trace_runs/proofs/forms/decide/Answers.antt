use Rattle.std.proofs.Common.{ap, sym, ◌∙◌}
use Rattle.symbolic_runs.specs.Answers.{atoms_of}
use Rattle.trace_runs.specs.Formed.{formed}
use Rattle.trace_runs.specs.Views.{newest_first, own_of, role_of}
use Rattle.trace_runs.proofs.forms.decide.Goals as goal

pub returns-in-Server : goal.returns-in-Server
returns-in-Server c = c.is_server_formed.ensures (atoms_of c.args.reading.now)
    ∙ ap (λ r. formed (atoms_of c.args.reading.now) (own_of c.args.own.now) (role_of r) (newest_first c.args.moves.now)) (sym c.in-Server.is)

pub returns-in-MailServer : goal.returns-in-MailServer
returns-in-MailServer c = c.is_mail_formed.ensures (atoms_of c.args.reading.now) c.in-MailServer.field-0
    ∙ ap (λ r. formed (atoms_of c.args.reading.now) (own_of c.args.own.now) (role_of r) (newest_first c.args.moves.now)) (sym c.in-MailServer.is)
