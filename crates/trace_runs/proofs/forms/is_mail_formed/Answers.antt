use Rattle.std.proofs.Common.{sym, ◌∙◌}
use Rattle.symbolic_runs.specs.Views.{tree}
use Rattle.trace_runs.specs.Views.{newest_first, own_of}
use Rattle.trace_runs.proofs.FormLaws.{mail_user, mail_vouch}
use Rattle.trace_runs.proofs.forms.is_mail_formed.Goals as goal

pub returns-in-Some-user_taken : goal.returns-in-Some-user_taken
returns-in-Some-user_taken c = λ atoms kind. c.is_public.ensures ∙ sym (mail_user atoms (own_of c.args.own.now) kind (newest_first c.args.moves.now) (tree c.in-Some-user_taken.user.now) c.in-Some-user_taken.ensures)

pub returns-in-Some-vouch_heard : goal.returns-in-Some-vouch_heard
returns-in-Some-vouch_heard c = λ atoms kind. c.is_whole_vouch.ensures ∙ sym (mail_vouch atoms (own_of c.args.own.now) kind (newest_first c.args.moves.now) (tree c.in-Some-vouch_heard.answer.now) c.in-Some-vouch_heard.ensures)
