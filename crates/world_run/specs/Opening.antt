-- What a node does that opens a conversation. This serves proofs alone.
use Rattle.std.specs.Prelude.{◌≡◌, ℕ, List, [], ◌∷◌, ◌++◌, true, false, Option, Some, None}
use Rattle.agent_history.specs.Histories.{History}
use Rattle.agent_turns.specs.Agents.{StandsFor}
use Rattle.world_history.specs.Acts.{least_fid}
use Rattle.world_history.specs.Driving as driving
use Rattle.world_history.specs.Driving.{refuses_open}
use Rattle.world_run.specs.declared.node.Node.{Node}
use Rattle.world_run.specs.Fids.{fids, named}

-- the fid by which it does
abbrev pub its_fid : Node → ℕ
its_fid node = least_fid (fids node.held.items)

pub record OpensIt (conv : List ℕ) (history : History) (old : Node) (fid : ℕ) (new : Node) : Type 0 where
  pub least : fid ≡ its_fid old
  pub lets : refuses_open (its_fid old) history ≡ false
  pub stands : StandsFor (driving.opened (its_fid old) history) new.agent
  pub held : named new.held.items ≡ named old.held.items ++ (conv, its_fid old) ∷ []

abbrev pub OpensOne : List ℕ → History → Node → Option ℕ → Node → Type 0
OpensOne conv history old None new = refuses_open (its_fid old) history ≡ true
OpensOne conv history old (Some fid) new = OpensIt conv history old fid new
