use Rattle.world_promises.proofs.OpenSearches.{no_search_is_open}
use Rattle.world_promises.proofs.request_laws.no_search_is_left_open.Goals as goal

pub returns : goal.returns
returns c = no_search_is_open
