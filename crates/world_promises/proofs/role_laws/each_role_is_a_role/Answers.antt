use Rattle.world_promises.proofs.AllRoles.{all_roles}
use Rattle.world_promises.proofs.role_laws.each_role_is_a_role.Goals as goal

pub returns : goal.returns
returns c = all_roles
