use Rattle.std.proofs.Common.{subst}
use Rattle.auth_server.specs.Standing.{knowledge}
use Rattle.auth_program.specs.Renewals.{InForceAt}
use Rattle.auth_program.proofs.RenewalLemmas.{later_by, next_by}
use Rattle.auth_program.proofs.file_tables.FileTablesLiveTables.renew.Goals as goal

pub returns-clause-next : goal.returns-clause-next
returns-clause-next g c = next_by _ _ _ _ _ _ c.look.ensures.renewed

pub returns-clause-later : goal.returns-clause-later
returns-clause-later g c = λ number known h.
    later_by c.args.self.now.dom _ _ _ _ _ c.look.ensures.renewed number known
    (subst (λ dom. InForceAt dom (g.F.TableFiles.finds c.look.new.self.files) (knowledge c.look.new.self.core) number known) c.look.ensures.dom h)
