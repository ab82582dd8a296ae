use Rattle.agent_laws.proofs.LeadLaws.{searches_public}
use Rattle.agent_laws.proofs.laws.a_search_is_public.Goals as goal

pub returns : goal.returns
returns c = searches_public
