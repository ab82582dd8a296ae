use Rattle.agent_laws.proofs.RefusalLaws.{error_changes_nothing, refused_changes_nothing, refused_is_told}
use Rattle.agent_laws.proofs.laws.a_refused_request_changes_nothing.Goals as goal

pub returns : goal.returns
returns c = record {
  nothing = refused_changes_nothing;
  told = refused_is_told;
  any_error = error_changes_nothing;
}
