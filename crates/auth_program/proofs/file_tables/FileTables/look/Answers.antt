use Rattle.std.proofs.Common.{ap, subst}
use Rattle.auth_program.specs.Renewals.{HasRefused, HasRenewed, Tabled}
use Rattle.auth_program.proofs.RenewalLemmas.{refused, renewed}
use Rattle.auth_program.proofs.file_tables.FileTables.look.Goals as goal

pub returns-in-Ok-clause-renewed : goal.returns-in-Ok-clause-renewed
returns-in-Ok-clause-renewed g c =
    subst (λ (t : Tabled g.row.F.Denot). HasRenewed t.dom (g.F.TableFiles.finds t.files) (g.F.TableFiles.finds c.look.new.self) c.in-Ok.core.value) c.self.view_is
    (renewed c.self.inside.dom _ _ (g.F.File.Source.left c.in-Some.keys) (g.F.File.Source.left c.read_shared.new.keys) (g.F.File.Source.left c.in-Some.speaks) (g.F.File.Source.left c.read_shared.new.speaks) _ c.in-Some.ensures.changed c.in-Ok.ensures.ok)

pub returns-clause-renewed : goal.returns-clause-renewed
returns-clause-renewed g c = (
  subst (λ (t : Tabled g.row.F.Denot). HasRefused c.in-Err.status (g.F.TableFiles.finds t.files) (g.F.TableFiles.finds c.look.new.self)) c.self.view_is
      (refused c.in-Err.status _ _ (g.F.File.Source.left c.in-Some.keys) (g.F.File.Source.left c.read_shared.new.keys) (g.F.File.Source.left c.in-Some.speaks) (g.F.File.Source.left c.read_shared.new.speaks) c.in-Some.ensures.changed c.in-Err.ensures.err),
  ap (λ (t : Tabled g.row.F.Denot). t.core) c.self.view_is,
)
