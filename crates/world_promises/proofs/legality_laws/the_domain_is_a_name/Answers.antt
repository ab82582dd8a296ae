use Rattle.world_promises.proofs.DomainLaws.{domain_named}
use Rattle.world_promises.proofs.legality_laws.the_domain_is_a_name.Goals as goal

pub returns : goal.returns
returns c = domain_named
